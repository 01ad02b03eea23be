-- Laws of the values that a form may hold. Assumes nothing.
use Rattle.std.specs.Prelude.{◌≡◌, ℕ, ◌+◌, ◌<◌, ◌≤◌, Bool, true, false, ◌&&◌, leb, List, [], ◌∷◌, ◌++◌, map, length, take, drop, ℤ, pos, nat_le, slice_index, refl}
use Rattle.std.proofs.Common.{sym, ap, ap₂, ◌∙◌, add-zero, add_assoc, arith, take-append-drop, get_or-take, length-take-le, le-leb}
use Rattle.std.proofs.lemmas.List.{map-append}
use Rattle.steps.specs.declared.Range.{Range}
use Rattle.steps.specs.declared.Range.TheVariants.{Ascii}
use Rattle.steps.specs.Payload.{in_range, all_in}
use Rattle.steps.proofs.Laws.Lists.{map_at, map-end}

-- the first value and those after it
pub all-at : (r : Range) (x : ℤ) (xs ys : List ℤ) → ys ≡ x ∷ xs → all_in r ys ≡ (in_range r x && all_in r xs)
unfolding all_in
all-at r x xs ys e = ap (all_in r) e

pub all_none : (r : Range) (ys : List ℤ) → ys ≡ [] → all_in r ys ≡ true
unfolding all_in
all_none r ys e = ap (all_in r) e

pub all_split : (r : Range) (x : ℤ) (xs ys : List ℤ) → ys ≡ x ∷ xs → all_in r ys ≡ true → (in_range r x ≡ true) × (all_in r xs ≡ true)
all_split r x xs ys e h = both (in_range r x) (all_in r xs) (sym (all-at r x xs ys e) ∙ h)
  where
    both : (a b : Bool) → a && b ≡ true → (a ≡ true) × (b ≡ true)
    both true b q = (refl, q)
    both false b q = let z : ◌≡◌ {A = ℕ} 0 1 = cc in absurd (omega arith)

-- tests one after the other
pub and-true : (b : Bool) → b && true ≡ b
and-true true = refl
and-true false = refl

pub and-more : (a b c : Bool) → (a && b) && c ≡ a && (b && c)
and-more true b c = refl
and-more false b c = refl

-- a byte in ASCII
pub ascii : (b : ℕ) → in_range Ascii (pos b) ≡ nat_le b 127
ascii b = rw (le-leb 0 b (omega arith))

-- Bytes in ASCII by two halves at a time: what is left of both

and-pairs : (h a b x y : Bool) → (h && (a && b)) && (x && y) ≡ h && ((a && x) && (b && y))
and-pairs false a b x y = refl
and-pairs true false b x y = refl
and-pairs true true true x y = refl
and-pairs true true false true y = refl
and-pairs true true false false y = refl

-- the values of a list, by its first ones and the rest
all_append : (r : Range) (xs ys : List ℤ) → all_in r (xs ++ ys) ≡ (all_in r xs && all_in r ys)
unfolding all_in
all_append r [] ys = refl
all_append r (x ∷ xs) ys = ap (λ (t : Bool). in_range r x && t) (all_append r xs ys) ∙ sym (and-more (in_range r x) (all_in r xs) (all_in r ys))

pub all-halves : (r : Range) (h : ℕ) (s : List ℕ) → all_in r (map pos (take h s)) && all_in r (map pos (drop h s)) ≡ all_in r (map pos s)
all-halves r h s = sym (all_append r (map pos (take h s)) (map pos (drop h s))) ∙ ap (all_in r) (sym (map-append pos (take h s) (drop h s)) ∙ ap (map pos) (take-append-drop h s))

-- the bytes from i on of the first h, and of those after them
abbrev pub left : List ℕ → ℕ → ℕ → Bool
left s h i = all_in Ascii (map pos (drop i (take h s))) && all_in Ascii (map pos (drop (h + i) s))

all-next : (s : List ℕ) (i : ℕ) → i < length s → all_in Ascii (map pos (drop i s)) ≡ (nat_le (slice_index s i) 127 && all_in Ascii (map pos (drop (i + 1) s)))
all-next s i h = all-at Ascii _ _ _ (map_at pos 0 s i h) ∙ ap (λ (t : Bool). t && all_in Ascii (map pos (drop (i + 1) s))) (ascii (slice_index s i))

pub left-start : (s : List ℕ) (h : ℕ) → left s h 0 ≡ all_in Ascii (map pos s)
left-start s h = ap (λ (k : ℕ). all_in Ascii (map pos (take h s)) && all_in Ascii (map pos (drop k s))) (add-zero h) ∙ all-halves Ascii h s

module _ (s : List ℕ) (h i m n : ℕ) {all : Bool} (k : h + h ≤ length s) (e : leb m 127 && left s h i ≡ all) where
  pub left-next : i < h → nat_le n 127 ≡ (nat_le m 127 && (nat_le (slice_index s i) 127 && nat_le (slice_index s (h + i)) 127)) → nat_le n 127 && left s h (i + 1) ≡ all
  left-next t q =
      let l = length-take-le h s (omega arith) in
      let x = all-next (take h s) i (omega arith) ∙ ap (λ (b : ℕ). nat_le b 127 && all_in Ascii (map pos (drop (i + 1) (take h s)))) (get_or-take h s i 0 t) in
      let y = all-next s (h + i) (omega arith) ∙ ap (λ (j : ℕ). nat_le (slice_index s (h + i)) 127 && all_in Ascii (map pos (drop j s))) (add_assoc h i 1) in
      ap (λ (b : Bool). b && left s h (i + 1)) q
      ∙ and-pairs (nat_le m 127) (nat_le (slice_index s i) 127) (nat_le (slice_index s (h + i)) 127) (all_in Ascii (map pos (drop (i + 1) (take h s)))) (all_in Ascii (map pos (drop (h + (i + 1)) s)))
      ∙ ap₂ (λ (b c : Bool). nat_le m 127 && (b && c)) (sym x) (sym y)
      ∙ e

  first-none : h ≤ i → all_in Ascii (map pos (drop i (take h s))) ≡ true
  first-none t = let l = length-take-le h s (omega arith) in all_none Ascii _ (map-end pos 0 (take h s) i (omega arith))

  pub left-none : h ≤ i → length s ≤ h + i → nat_le m 127 ≡ all
  left-none t r =
      let x = first-none t in
      let y = all_none Ascii _ (map-end pos 0 s (h + i) r) in
      sym (and-true (nat_le m 127)) ∙ sym (ap₂ (λ (b c : Bool). nat_le m 127 && (b && c)) x y) ∙ e

  pub left_one : h ≤ i → h + i < length s → length s ≤ h + i + 1 → nat_le n 127 ≡ (nat_le m 127 && nat_le (slice_index s (h + i)) 127) → nat_le n 127 ≡ all
  left_one t u r q =
      let x = first-none t in
      let z = all_none Ascii _ (map-end pos 0 s (h + i + 1) r) in
      let y = all-next s (h + i) u ∙ ap (λ (b : Bool). nat_le (slice_index s (h + i)) 127 && b) z ∙ and-true (nat_le (slice_index s (h + i)) 127) in
      q ∙ sym (ap₂ (λ (b c : Bool). nat_le m 127 && (b && c)) x y) ∙ e
