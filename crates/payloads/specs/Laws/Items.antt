-- Laws of items: what the readers of each form find at a place. Assumes nothing.
use Rattle.std.specs.Prelude.{◌≡◌, ℕ, zero, suc, ◌+◌, ◌-◌, ◌<◌, ◌≤◌, Bool, true, false, cond, ◌&&◌, List, [], ◌∷◌, ◌++◌, length, drop, replicate, ℤ, pos, negsuc, ◌+ℤ◌, int_lt, nat_lt, unsigned_abs}
use Rattle.std.proofs.Math.Path.{refl, ap}
use Rattle.std.proofs.Common.{sym, subst, ◌∙◌, of_z, ltb-true, ltb-false}
use Rattle.std.proofs.Math.Option.{Option, none, some, map}
use native.Mathlib.Omega.{arith}
use mir.Syntax.{w32}
use Rattle.numbers.specs.BigEndian.{signed_at}
use Rattle.steps.specs.declared.Size.{Size}
use Rattle.steps.specs.declared.Size.TheVariants.{One, Two, Four}
use Rattle.steps.specs.declared.Range.{Range}
use Rattle.steps.specs.declared.Range.TheVariants.{Ascii}
use Rattle.steps.specs.declared.Form.{Form}
use Rattle.steps.specs.declared.Form.TheVariants.{Plain, Packed, Runs, Names}
use Rattle.steps.specs.declared.Turn.{Turn}
use Rattle.steps.specs.declared.Turn.TheVariants.{More, Done, Wrong}
use Rattle.steps.specs.Width.{width_of, size_of, upper, lower}
use Rattle.steps.specs.Numbers.{numbers_in}
use Rattle.steps.specs.RunLength.{expand}
use Rattle.steps.specs.Packing.{is_limit, in32, unpack_from}
use Rattle.steps.specs.Payload.{number_size, in_range, all_in, only_in, read_in}
use Rattle.steps.specs.Steps.{turn_of}
use Rattle.steps.proofs.Laws.Numbers.{size-pos, numbers-step, numbers-end}
use Rattle.payloads.specs.declared.Item.{Item}
use Rattle.payloads.specs.declared.Item.TheVariants as item
use Rattle.payloads.specs.declared.Item.TheVariants.{Run, End}
use Rattle.payloads.specs.Items.{result_of, item_at, item_of}

-- Items

-- what is read at a place: n values v before those of the place e, a number that is not allowed, or the end
abbrev pub Gives : Form → List ℕ → ℕ → Item → Type 0
Gives f s at (Run v n e) =
    (at < e) × (e ≤ length s) × (1 ≤ n) × (read_in f (drop at s) ≡ map (λ (l : List ℤ). replicate n v ++ l) (read_in f (drop e s)))
Gives f s at item.Wrong = read_in f (drop at s) ≡ none
Gives f s at End = read_in f (drop at s) ≡ some []

-- Ranges

all-run : (r : Range) (n : ℕ) (v : ℤ) (l : List ℤ) → 1 ≤ n → all_in r (replicate n v ++ l) ≡ (in_range r v && all_in r l)
unfolding all_in
all-run r zero v l h = absurd (omega arith)
all-run r (suc zero) v l h = refl
all-run r (suc (suc n)) v l h = by (in_range r v) (all-run r (suc n) v l (omega arith))
  where
    by : (t : Bool) → all_in r (replicate (suc n) v ++ l) ≡ (t && all_in r l) → (t && all_in r (replicate (suc n) v ++ l)) ≡ (t && all_in r l)
    by true e = e
    by false e = refl

pub within-run : (r : Range) (n : ℕ) (v : ℤ) (o : Option (List ℤ)) → 1 ≤ n → in_range r v ≡ true
    → only_in r (map (λ (l : List ℤ). replicate n v ++ l) o) ≡ map (λ (l : List ℤ). replicate n v ++ l) (only_in r o)
within-run r n v none h e = refl
within-run r n v (some l) h e = rw (all-run r n v l h, e) (by (all_in r l))
  where
    by : (t : Bool) → cond t (some (replicate n v ++ l)) none ≡ map (λ (l : List ℤ). replicate n v ++ l) (cond t (some l) none)
    by true = refl
    by false = refl

pub within-wrong : (r : Range) (n : ℕ) (v : ℤ) (o : Option (List ℤ)) → 1 ≤ n → in_range r v ≡ false
    → only_in r (map (λ (l : List ℤ). replicate n v ++ l) o) ≡ none
within-wrong r n v none h e = refl
within-wrong r n v (some l) h e = rw (all-run r n v l h, e)

-- The end

pub read-end : (f : Form) (s : List ℕ) (at : ℕ) → length s ≤ at → read_in f (drop at s) ≡ some []
unfolding read_in unpack_from expand all_in
read-end (Plain z) s at h = ap some (numbers-end z s at (few z))
  where
    few : (z : Size) → length s - at < size_of z
    few One = omega arith
    few Two = omega arith
    few Four = omega arith
read-end (Packed z) s at h = ap (unpack_from (upper z) (lower z) (pos 0) false) (numbers-end z s at (few z))
  where
    few : (z : Size) → length s - at < size_of z
    few One = omega arith
    few Two = omega arith
    few Four = omega arith
read-end (Runs r) s at h = ap (λ (l : List ℤ). only_in r (expand l)) (numbers-end Four s at (omega arith))
read-end Names s at h = ap (λ (l : List ℤ). only_in Ascii (some l)) (numbers-end One s at (omega arith))

-- Plain numbers and names

pub plain_end_lem : (z : Size) (s : List ℕ) (at : ℕ) → length s - at < size_of z → read_in (Plain z) (drop at s) ≡ some []
unfolding read_in
plain_end_lem z s at h = ap some (numbers-end z s at h)

pub plain-run : (z : Size) (s : List ℕ) (at : ℕ) → at + size_of z ≤ length s
    → read_in (Plain z) (drop at s) ≡ map (λ (l : List ℤ). replicate 1 (signed_at (width_of z) s at) ++ l) (read_in (Plain z) (drop (at + size_of z) s))
unfolding read_in
plain-run z s at h = ap some (numbers-step z s at h)

module _ (s : List ℕ) (at : ℕ) (h : at < length s) where
  names-step : read_in Names (drop at s) ≡ only_in Ascii (map (λ (l : List ℤ). replicate 1 (signed_at (width_of One) s at) ++ l) (some (numbers_in One (drop (at + 1) s))))
  unfolding read_in
  names-step = ap (λ (l : List ℤ). only_in Ascii (some l)) (numbers-step One s at (omega arith))

  name-run : in_range Ascii (signed_at (width_of One) s at) ≡ true
      → read_in Names (drop at s) ≡ map (λ (l : List ℤ). replicate 1 (signed_at (width_of One) s at) ++ l) (read_in Names (drop (at + 1) s))
  unfolding read_in
  name-run e = names-step ∙ within-run Ascii 1 (signed_at (width_of One) s at) (some (numbers_in One (drop (at + 1) s))) (omega arith) e

  name-wrong : in_range Ascii (signed_at (width_of One) s at) ≡ false → read_in Names (drop at s) ≡ none
  name-wrong e = names-step ∙ within-wrong Ascii 1 (signed_at (width_of One) s at) (some (numbers_in One (drop (at + 1) s))) (omega arith) e

-- Packed numbers

-- the results from a place on, with a sum so far
abbrev pub from : Size → List ℕ → ℤ → Bool → ℕ → Option (List ℤ)
from z s sum begun i = unpack_from (upper z) (lower z) sum begun (numbers_in z (drop i s))

abbrev pub after : Size → Turn → List ℕ → ℕ → Option (List ℤ)
after z (More a) s i = from z s a true i
after z (Done r) s i = map (λ (l : List ℤ). r ∷ l) (from z s (pos 0) false i)
after z Wrong s i = none

after_turn : (z : Size) (t u : Bool) (x : ℤ) (s : List ℕ) (i : ℕ)
    → cond t (cond u (from z s x true i) (map (λ (l : List ℤ). x ∷ l) (from z s (pos 0) false i))) none ≡ after z (cond t (cond u (More x) (Done x)) Wrong) s i
after_turn z true true x s i = refl
after_turn z true false x s i = refl
after_turn z false u x s i = refl

pub from-turn : (z : Size) (sum : ℤ) (begun : Bool) (s : List ℕ) (i : ℕ) → i + size_of z ≤ length s
    → from z s sum begun i ≡ after z (turn_of z sum (signed_at (width_of z) s i)) s (i + size_of z)
unfolding unpack_from turn_of
from-turn z sum begun s i h =
    let x = signed_at (width_of z) s i in
    ap (unpack_from (upper z) (lower z) sum begun) (numbers-step z s i h)
    ∙ after_turn z (in32 (sum +ℤ signed_at (width_of z) s i)) (is_limit (upper z) (lower z) (signed_at (width_of z) s i)) (sum +ℤ signed_at (width_of z) s i) s (i + size_of z)

pub from_end : (z : Size) (sum : ℤ) (begun : Bool) (s : List ℕ) (i : ℕ) → length s - i < size_of z → from z s sum begun i ≡ cond begun none (some [])
unfolding unpack_from
from_end z sum begun s i h = ap (unpack_from (upper z) (lower z) sum begun) (numbers-end z s i h)

-- numbers that are left have a result
unpack-one : (p q : ℕ) (sum x : ℤ) (xs r : List ℤ) (t u : Bool) → (unpack_from p q (sum +ℤ x) true xs ≡ some r → 1 ≤ length r)
    → cond t (cond u (unpack_from p q (sum +ℤ x) true xs) (map (λ (l : List ℤ). (sum +ℤ x) ∷ l) (unpack_from p q (pos 0) false xs))) none ≡ some r → 1 ≤ length r
unpack-one p q sum x xs r true true f e = f e
unpack-one p q sum x xs r true false f e = result (unpack_from p q (pos 0) false xs) e
  where
    result : (o : Option (List ℤ)) → map (λ (l : List ℤ). (sum +ℤ x) ∷ l) o ≡ some r → 1 ≤ length r
    result none z = let y : ◌≡◌ {A = ℕ} 0 1 = cc in absurd (omega arith)
    result (some l) z = let y : r ≡ (sum +ℤ x) ∷ l = cc in rw y (omega arith)
unpack-one p q sum x xs r false u f e = let y : ◌≡◌ {A = ℕ} 0 1 = cc in absurd (omega arith)

unpack-some : (p q : ℕ) (sum : ℤ) (begun : Bool) (x : ℤ) (xs r : List ℤ) → unpack_from p q sum begun (x ∷ xs) ≡ some r → 1 ≤ length r
unfolding unpack_from
unpack-some p q sum begun x [] r e = unpack-one p q sum x [] r (in32 (sum +ℤ x)) (is_limit p q x) (λ z. let y : ◌≡◌ {A = ℕ} 0 1 = cc in absurd (omega arith)) e
unpack-some p q sum begun x (v ∷ vs) r e = unpack-one p q sum x (v ∷ vs) r (in32 (sum +ℤ x)) (is_limit p q x) (unpack-some p q (sum +ℤ x) true v vs r) e

pub from_some : (z : Size) (sum : ℤ) (begun : Bool) (s : List ℕ) (i : ℕ) → i + size_of z ≤ length s → (r : List ℤ) → from z s sum begun i ≡ some r → 1 ≤ length r
from_some z sum begun s i h r e = unpack-some (upper z) (lower z) sum begun (signed_at (width_of z) s i) (numbers_in z (drop (i + size_of z) s)) r (sym (ap (unpack_from (upper z) (lower z) sum begun) (numbers-step z s i h)) ∙ e)

pub packed-is : (z : Size) (s : List ℕ) (at : ℕ) → read_in (Packed z) (drop at s) ≡ from z s (pos 0) false at
unfolding read_in
packed-is z s at = refl

-- Runs

-- a count that is at least 1 is its own bits
pub count_bits : (z : ℤ) → int_lt z (pos 1) ≡ false → (of_z w32 z ≡ unsigned_abs z) × (1 ≤ unsigned_abs z)
count_bits (pos n) e = (refl, omega (arith, ltb-false n 1 e))
count_bits (negsuc n) e = let z : ◌≡◌ {A = ℕ} 0 1 = cc in absurd (omega arith)

pub runs-end : (r : Range) (s : List ℕ) (at : ℕ) → length s - at < 8 → read_in (Runs r) (drop at s) ≡ some []
unfolding read_in expand all_in
runs-end r s at h = by (nat_lt (length s - at) 4) refl
  where
    by : (t : Bool) → nat_lt (length s - at) 4 ≡ t → only_in r (expand (numbers_in Four (drop at s))) ≡ some []
    by true e = ap (λ (l : List ℤ). only_in r (expand l)) (numbers-end Four s at (omega (arith, ltb-true (length s - at) 4 e)))
    by false e =
        let f = ltb-false (length s - at) 4 e in
        let g : numbers_in Four (drop (at + 4) s) ≡ [] = numbers-end Four s (at + 4) (omega arith) in
        ap (λ (l : List ℤ). only_in r (expand l)) (numbers-step Four s at (omega arith) ∙ ap (λ (l : List ℤ). signed_at w32 s at ∷ l) g)

module _ (r : Range) (s : List ℕ) (at : ℕ) (h : at + 8 ≤ length s) where
  runs-pair : read_in (Runs r) (drop at s)
      ≡ only_in r (cond (int_lt (signed_at w32 s (at + 4)) (pos 1)) none (map (λ (l : List ℤ). replicate (unsigned_abs (signed_at w32 s (at + 4))) (signed_at w32 s at) ++ l) (expand (numbers_in Four (drop (at + 8) s)))))
  unfolding read_in expand
  runs-pair =
      let a : at + 4 + 4 ≡ at + 8 = omega arith in
      let e = rw a at (numbers-step Four s (at + 4) (omega arith)) in
      ap (λ (l : List ℤ). only_in r (expand l)) (numbers-step Four s at (omega arith) ∙ ap (λ (l : List ℤ). signed_at w32 s at ∷ l) e)

  pub runs-count : int_lt (signed_at w32 s (at + 4)) (pos 1) ≡ true → read_in (Runs r) (drop at s) ≡ none
  runs-count e = runs-pair ∙ rw e

  pub runs-run : int_lt (signed_at w32 s (at + 4)) (pos 1) ≡ false → in_range r (signed_at w32 s at) ≡ true
      → read_in (Runs r) (drop at s) ≡ map (λ (l : List ℤ). replicate (unsigned_abs (signed_at w32 s (at + 4))) (signed_at w32 s at) ++ l) (read_in (Runs r) (drop (at + 8) s))
  unfolding read_in
  runs-run e k =
      runs-pair ∙ rw e (within-run r (unsigned_abs (signed_at w32 s (at + 4))) (signed_at w32 s at) (expand (numbers_in Four (drop (at + 8) s))) (count_bits (signed_at w32 s (at + 4)) e).1 k)

  pub runs-wrong : int_lt (signed_at w32 s (at + 4)) (pos 1) ≡ false → in_range r (signed_at w32 s at) ≡ false → read_in (Runs r) (drop at s) ≡ none
  runs-wrong e k =
      runs-pair ∙ rw e (within-wrong r (unsigned_abs (signed_at w32 s (at + 4))) (signed_at w32 s at) (expand (numbers_in Four (drop (at + 8) s))) (count_bits (signed_at w32 s (at + 4)) e).1 k)

-- The item at a place

-- too few bytes for a number
pub item-short : (f : Form) (s : List ℕ) (at : ℕ) → length s - at < size_of (number_size f) → item_at f s at ≡ End
unfolding item_at item_of result_of
item-short (Plain z) s at h = ap (item_of (Plain z) at) (numbers-end z s at h)
item-short (Packed z) s at h = ap (item_of (Packed z) at) (numbers-end z s at h)
item-short (Runs r) s at h = ap (item_of (Runs r) at) (numbers-end Four s at h)
item-short Names s at h = ap (item_of Names at) (numbers-end One s at h)

pub item-end : (f : Form) (s : List ℕ) (at : ℕ) → length s ≤ at → item_at f s at ≡ End
item-end f s at h = let p = size-pos (number_size f) in item-short f s at (omega arith)

pub plain-item : (z : Size) (s : List ℕ) (at : ℕ) → at + size_of z ≤ length s → item_at (Plain z) s at ≡ Run (signed_at (width_of z) s at) 1 (at + size_of z)
unfolding item_at item_of
plain-item z s at h = ap (item_of (Plain z) at) (numbers-step z s at h)

pub name-item : (s : List ℕ) (at : ℕ) → at < length s → item_at Names s at ≡ cond (in_range Ascii (signed_at (width_of One) s at)) (Run (signed_at (width_of One) s at) 1 (at + 1)) item.Wrong
unfolding item_at item_of
name-item s at h = ap (item_of Names at) (numbers-step One s at (omega arith))

-- the item of a run, by its value and its count
abbrev run_by : Range → ℕ → ℤ → ℤ → Item
run_by r at v n = cond (int_lt n (pos 1)) item.Wrong (cond (in_range r v) (Run v (unsigned_abs n) (at + 8)) item.Wrong)

pub run-item : (r : Range) (s : List ℕ) (at : ℕ) → at + 8 ≤ length s → item_at (Runs r) s at ≡ run_by r at (signed_at w32 s at) (signed_at w32 s (at + 4))
unfolding item_at item_of
run-item r s at h =
    ap (item_of (Runs r) at) (numbers-step Four s at (omega arith) ∙ ap (λ (l : List ℤ). signed_at w32 s at ∷ l) (numbers-step Four s (at + 4) (omega arith)))

pub run_short : (r : Range) (s : List ℕ) (at : ℕ) → length s - at < 8 → item_at (Runs r) s at ≡ End
unfolding item_at item_of
run_short r s at h = by (nat_lt (length s - at) 4) refl
  where
    by : (t : Bool) → nat_lt (length s - at) 4 ≡ t → item_at (Runs r) s at ≡ End
    by true e = item-short (Runs r) s at (ltb-true (length s - at) 4 e)
    by false e =
        let f = ltb-false (length s - at) 4 e in
        ap (item_of (Runs r) at) (numbers-step Four s at (omega arith) ∙ ap (λ (l : List ℤ). signed_at w32 s at ∷ l) (numbers-end Four s (at + 4) (omega arith)))

-- the packed result from a place on, with a sum so far
abbrev pub result_at : Size → List ℕ → ℤ → Bool → ℕ → Item
result_at z s sum begun i = result_of z i sum begun (numbers_in z (drop i s))

-- where one number more leads
abbrev pub next : Size → Turn → List ℕ → ℕ → Item
next z (More a) s i = result_at z s a true i
next z (Done a) s i = Run a 1 i
next z Wrong s i = item.Wrong

module _ (z : Size) (s : List ℕ) (sum : ℤ) (begun : Bool) (i : ℕ) where
  pub result-turn : i + size_of z ≤ length s → result_at z s sum begun i ≡ next z (turn_of z sum (signed_at (width_of z) s i)) s (i + size_of z)
  unfolding result_of turn_of
  result-turn h = ap (result_of z i sum begun) (numbers-step z s i h) ∙ by (in32 (sum +ℤ signed_at (width_of z) s i)) (is_limit (upper z) (lower z) (signed_at (width_of z) s i))
    where
      by : (t u : Bool)
          → cond t (cond u (result_at z s (sum +ℤ signed_at (width_of z) s i) true (i + size_of z)) (Run (sum +ℤ signed_at (width_of z) s i) 1 (i + size_of z))) item.Wrong
          ≡ next z (cond t (cond u (More (sum +ℤ signed_at (width_of z) s i)) (Done (sum +ℤ signed_at (width_of z) s i))) Wrong) s (i + size_of z)
      by true true = refl
      by true false = refl
      by false u = refl

  pub result-end : length s - i < size_of z → result_at z s sum begun i ≡ cond begun item.Wrong End
  unfolding result_of
  result-end h = ap (result_of z i sum begun) (numbers-end z s i h)

pub packed-item : (z : Size) (s : List ℕ) (at : ℕ) → item_at (Packed z) s at ≡ result_at z s (pos 0) false at
unfolding item_at item_of
packed-item z s at = refl

-- What it gives

-- what a packed result gives, with a sum so far
abbrev Found : Size → List ℕ → ℤ → Bool → ℕ → Item → Type 0
Found z s sum begun i (Run v n e) = (i < e) × (e ≤ length s) × (n ≡ 1) × (from z s sum begun i ≡ map (λ (l : List ℤ). v ∷ l) (from z s (pos 0) false e))
Found z s sum begun i item.Wrong = from z s sum begun i ≡ none
Found z s sum begun i End = from z s sum begun i ≡ some []

-- a limit before it
found-more : (z : Size) (s : List ℕ) (sum a : ℤ) (begun : Bool) (i j : ℕ) (x : Item) → from z s sum begun i ≡ from z s a true j → i < j → Found z s a true j x → Found z s sum begun i x
found-more z s sum a begun i j (Run v n e) q h (b, c, d, f) = (omega arith, c, d, q ∙ f)
found-more z s sum a begun i j item.Wrong q h w = q ∙ w
found-more z s sum a begun i j End q h w = q ∙ w

module _ (z : Size) (s : List ℕ) (i : ℕ) (sum : ℤ) (begun : Bool) where
  -- too few bytes for a number
  found-end : length s - i < size_of z → Found z s sum begun i (result_at z s sum begun i)
  found-end h = rw (result-end z s sum begun i h) (by begun (from_end z sum begun s i h))
    where
      by : (b : Bool) → from z s sum begun i ≡ cond b none (some []) → Found z s sum begun i (cond b item.Wrong End)
      by true e = e
      by false e = e

  -- one number more
  found_turn : i + size_of z ≤ length s → ((a : ℤ) → Found z s a true (i + size_of z) (result_at z s a true (i + size_of z))) → Found z s sum begun i (result_at z s sum begun i)
  found_turn h later = rw (result-turn z s sum begun i h) (by (turn_of z sum (signed_at (width_of z) s i)) (from-turn z sum begun s i h))
    where
      by : (t : Turn) → from z s sum begun i ≡ after z t s (i + size_of z) → Found z s sum begun i (next z t s (i + size_of z))
      by (More a) e = let p = size-pos z in found-more z s sum a begun i (i + size_of z) (result_at z s a true (i + size_of z)) e (omega arith) (later a)
      by (Done a) e = let p = size-pos z in (omega arith, h, refl, e)
      by Wrong e = e

found : (z : Size) (s : List ℕ) (n i : ℕ) → length s - i ≤ n → (sum : ℤ) (begun : Bool) → Found z s sum begun i (result_at z s sum begun i)
found z s zero i h sum begun = let p = size-pos z in found-end z s i sum begun (omega arith)
found z s (suc n) i h sum begun = by (found z s n (i + size_of z)) (nat_lt (length s - i) (size_of z)) refl
  where
    by : (length s - (i + size_of z) ≤ n → (sum : ℤ) (begun : Bool) → Found z s sum begun (i + size_of z) (result_at z s sum begun (i + size_of z))) → (t : Bool)
        → nat_lt (length s - i) (size_of z) ≡ t → Found z s sum begun i (result_at z s sum begun i)
    by later true e = found-end z s i sum begun (ltb-true (length s - i) (size_of z) e)
    by later false e =
        let l = ltb-false (length s - i) (size_of z) e in
        let p = size-pos z in
        found_turn z s i sum begun (omega arith) (λ a. later (omega arith) a true)

packed-gives : (z : Size) (s : List ℕ) (at : ℕ) (x : Item) → Found z s (pos 0) false at x → Gives (Packed z) s at x
unfolding read_in
packed-gives z s at (Run v n e) (a, b, c, d) = (a, b, omega arith, rw c d)
packed-gives z s at item.Wrong w = w
packed-gives z s at End w = w

-- what is read at a place is what its item says
pub item-gives : (f : Form) (s : List ℕ) (at : ℕ) → Gives f s at (item_at f s at)
item-gives (Packed z) s at = rw (packed-item z s at) (packed-gives z s at (result_at z s (pos 0) false at) (found z s (length s - at) at (omega arith) (pos 0) false))
item-gives (Plain z) s at = by (nat_lt (length s - at) (size_of z)) refl
  where
    by : (t : Bool) → nat_lt (length s - at) (size_of z) ≡ t → Gives (Plain z) s at (item_at (Plain z) s at)
    by true e = let l = ltb-true (length s - at) (size_of z) e in rw (item-short (Plain z) s at l) (plain_end_lem z s at l)
    by false e =
        let l = ltb-false (length s - at) (size_of z) e in
        let p = size-pos z in
        let h : at + size_of z ≤ length s = omega arith in
        rw (plain-item z s at h) (omega arith, h, omega arith, plain-run z s at h)
item-gives (Runs r) s at = by (nat_lt (length s - at) 8) refl
  where
    run : at + 8 ≤ length s → (t u : Bool) → int_lt (signed_at w32 s (at + 4)) (pos 1) ≡ t → in_range r (signed_at w32 s at) ≡ u
        → Gives (Runs r) s at (cond t item.Wrong (cond u (Run (signed_at w32 s at) (unsigned_abs (signed_at w32 s (at + 4))) (at + 8)) item.Wrong))
    run h true u e g = runs-count r s at h e
    run h false true e g = (omega arith, h, (count_bits (signed_at w32 s (at + 4)) e).1, runs-run r s at h e g)
    run h false false e g = runs-wrong r s at h e g

    by : (t : Bool) → nat_lt (length s - at) 8 ≡ t → Gives (Runs r) s at (item_at (Runs r) s at)
    by true e = let l = ltb-true (length s - at) 8 e in rw (run_short r s at l) (runs-end r s at l)
    by false e =
        let l = ltb-false (length s - at) 8 e in
        let h : at + 8 ≤ length s = omega arith in
        rw (run-item r s at h) (run h (int_lt (signed_at w32 s (at + 4)) (pos 1)) (in_range r (signed_at w32 s at)) refl refl)
item-gives Names s at = by (nat_lt at (length s)) refl
  where
    name : at < length s → (t : Bool) → in_range Ascii (signed_at (width_of One) s at) ≡ t → Gives Names s at (cond t (Run (signed_at (width_of One) s at) 1 (at + 1)) item.Wrong)
    name h true e = (omega arith, omega arith, omega arith, name-run s at h e)
    name h false e = name-wrong s at h e

    by : (t : Bool) → nat_lt at (length s) ≡ t → Gives Names s at (item_at Names s at)
    by true e = let h = ltb-true at (length s) e in rw (name-item s at h) (name h (in_range Ascii (signed_at (width_of One) s at)) refl)
    by false e = let h = ltb-false at (length s) e in rw (item-end Names s at h) (read-end Names s at h)

-- an item i that was read at a place, and is j, gives what j says
pub item-read : (f : Form) (s : List ℕ) (at : ℕ) {i j : Item} → i ≡ item_at f s at → i ≡ j → Gives f s at j
item-read f s at e q = subst (Gives f s at) (sym e ∙ q) (item-gives f s at)
