-- Values into payloads and back, once over the form. Assumes nothing.
use Rattle.std.specs.Prelude.{◌≡◌, ℕ, suc, ◌%◌, ◌^◌, ◌<◌, Bool, true, false, cond, ◌&&◌, T, List, [], ◌∷◌, length, ℤ, pos, negsuc, ◌+ℤ◌, FitsSigned, int_le, nat_le, refl}
use Rattle.std.proofs.Common.{sym, ap, ◌∙◌, arith, leb-true, le-leb, ltb-true}
use Rattle.std.proofs.Math.Bool.{and-eq-true_iff}
use Rattle.std.proofs.Math.Option.{Option, none, some, map}
use Rattle.std.specs.Int.Signed.{mag}
use Rattle.std.specs.Int.{Width, w8, w16, w32}
use mir.Val.{hbits}
use Rattle.std.proofs.Math.Facts.{sfits_widen}
use Rattle.numbers.specs.BigEndian.{Bytes}
use Rattle.steps.specs.declared.Size.{Size}
use Rattle.steps.specs.declared.Size.TheVariants.{One, Two, Four}
use Rattle.steps.specs.declared.Range.{Range}
use Rattle.steps.specs.declared.Range.TheVariants.{Int8, Int16, Int32, Ascii}
use Rattle.steps.specs.declared.Form.{Form}
use Rattle.steps.specs.declared.Form.TheVariants.{Plain, Packed, Runs, Names}
use Rattle.steps.specs.Width.{width_of, size_of, upper, lower}
use Rattle.steps.specs.Numbers.{numbers_in, bytes_for}
use Rattle.steps.specs.RunLength.{expand}
use Rattle.steps.specs.Packing.{is_limit, in32, unpack_from, unpack, pack}
use Rattle.steps.specs.Payload.{number_size, numbers_for, in_range, all_in, range_of, padded, allowed, only_if, only_in, read_in, held_in}
use Rattle.steps.specs.Fits.{Every, AllFit, Between}
use Rattle.steps.specs.WriterForm.{NumbersForm}
use Rattle.steps.proofs.Laws.Numbers.{length-numbers}
use Rattle.steps.proofs.Laws.Packing.{limits}
use Rattle.steps.proofs.Laws.Fits.{every_map}
use Rattle.steps.proofs.Laws.NumbersBack.{numbers_in-bytes_for, numbers_in-fit, bytes_for-numbers_in}
use Rattle.steps.proofs.Laws.RunLength.{expand-runs_of, runs_of-fit, runs_of-Longest, runs_of-expand}
use Rattle.steps.proofs.Laws.PackingBack.{unpack-pack_all, pack_all-between, pack_all-OwnSign, pack_all-unpack}

-- Values in a range have its width

abbrev range_width : Range → Width
range_width Int8 = w8
range_width Int16 = w16
range_width Int32 = w32
range_width Ascii = w8

-- numbers on both sides of 0, up to a size
pub in-limits : (k : ℕ) (x : ℤ) → int_le (negsuc k) x && int_le x (pos k) ≡ true → mag x < suc k
in-limits k (pos n) e = omega (arith, leb-true n k e)
in-limits k (negsuc n) e = omega (arith, leb-true n k ((and-eq-true_iff (nat_le n k) true).0 e).0)

range-fits : (r : Range) (x : ℤ) → in_range r x ≡ true → FitsSigned (range_width r) x
range-fits Int8 x e = record { sfits = in-limits 127 x e }
range-fits Int16 x e = record { sfits = in-limits 32767 x e }
range-fits Int32 x e = record { sfits = in-limits 2147483647 x e }
range-fits Ascii (pos n) e = record { sfits = omega (arith, leb-true n 127 ((and-eq-true_iff (nat_le 0 n) (nat_le n 127)).0 e).1) }
range-fits Ascii (negsuc n) e = let y : ◌≡◌ {A = ℕ} 0 1 = cc in absurd (omega arith)

all_in-fit : (r : Range) (xs : List ℤ) → all_in r xs ≡ true → AllFit (range_width r) xs
unfolding all_in Every
all_in-fit r [] e = tt
all_in-fit r (x ∷ xs) e =
    let h = (and-eq-true_iff (in_range r x) (all_in r xs)).0 e in
    (range-fits r x h.0, all_in-fit r xs h.1)

pub every_in : (r : Range) (P : ℤ → Type 0) → ((x : ℤ) → P x → in_range r x ≡ true) → (xs : List ℤ) → Every P xs → all_in r xs ≡ true
unfolding Every all_in
every_in r P h [] e = refl
every_in r P h (x ∷ xs) e = rw (h x e.0, every_in r P h xs e.1)

-- every range is one of 32-bit numbers
pub all_in-32 : (r : Range) (xs : List ℤ) → all_in r xs ≡ true → AllFit w32 xs
all_in-32 r xs e = every_map (FitsSigned (range_width r)) (FitsSigned w32) (λ x f. sfits_widen {w = range_width r} {w' = w32} (narrow r) f) xs (all_in-fit r xs e)
  where
    narrow : (r : Range) → T (nat_le (hbits (range_width r)) 31)
    narrow Int8 = tt
    narrow Int16 = tt
    narrow Int32 = tt
    narrow Ascii = tt

-- every 32-bit number is in the widest range

limits-in : (k : ℕ) (x : ℤ) → mag x < suc k → (int_le (negsuc k) x && int_le x (pos k)) ≡ true
limits-in k (pos n) h = rw (le-leb n k (omega arith))
limits-in k (negsuc n) h = rw (le-leb n k (omega arith))

fits_in : (z : Size) (x : ℤ) → FitsSigned (width_of z) x → in_range (range_of (Plain z)) x ≡ true
fits_in One x f = limits-in 127 x f.sfits
fits_in Two x f = limits-in 32767 x f.sfits
fits_in Four x f = limits-in 2147483647 x f.sfits

pub all_in-Int32 : (xs : List ℤ) → AllFit w32 xs → all_in Int32 xs ≡ true
all_in-Int32 xs f = every_in Int32 (FitsSigned w32) (fits_in Four) xs f

-- Numbers between the limits of a size are those of its width

half : (z : Size) → (suc (upper z) ≡ 2 ^ hbits (width_of z)) × (lower z ≡ 2 ^ hbits (width_of z))
half One = (refl, refl)
half Two = (refl, refl)
half Four = (refl, refl)

between-fits : (z : Size) (x : ℤ) → Between (upper z) (lower z) x → FitsSigned (width_of z) x
between-fits z (pos n) h = let e = half z in record { sfits = omega arith }
between-fits z (negsuc n) h = let e = half z in record { sfits = omega arith }

pub fits-between : (z : Size) (x : ℤ) → FitsSigned (width_of z) x → Between (upper z) (lower z) x
fits-between z (pos n) h = let e = half z in omega (arith, h.sfits)
fits-between z (negsuc n) h = let e = half z in omega (arith, h.sfits)

-- Values, then numbers

-- runs count their cells in 32 bits
abbrev pub Countable : Form → ℕ → Type 0
Countable (Runs r) n = n < 2147483648
Countable (Plain z) n = Unit
Countable (Packed z) n = Unit
Countable Names n = Unit

-- the numbers for values fit the payload
pub numbers_for-fit : (f : Form) (xs : List ℤ) → all_in (range_of f) xs ≡ true → Countable f (length xs) → AllFit (width_of (number_size f)) (numbers_for f xs)
unfolding numbers_for
numbers_for-fit (Plain One) xs e h = all_in-fit Int8 xs e
numbers_for-fit (Plain Two) xs e h = all_in-fit Int16 xs e
numbers_for-fit (Plain Four) xs e h = all_in-fit Int32 xs e
numbers_for-fit (Packed z) xs e h = let l = limits z in every_map (Between (upper z) (lower z)) (FitsSigned (width_of z)) (between-fits z) (pack z xs) (pack_all-between (upper z) (lower z) l.0 l.2 xs)
numbers_for-fit (Runs r) xs e h = runs_of-fit xs (all_in-32 r xs e) h
numbers_for-fit Names xs e h = all_in-fit Ascii xs e

-- the numbers for values have the writer's form
pub numbers_for-form : (f : Form) (xs : List ℤ) → NumbersForm f (numbers_for f xs)
unfolding numbers_for
numbers_for-form (Plain z) xs = tt
numbers_for-form (Packed z) xs = let l = limits z in pack_all-OwnSign (upper z) (lower z) l.0 l.2 xs
numbers_for-form (Runs r) xs = runs_of-Longest xs
numbers_for-form Names xs = tt

-- What is read and held

pub only-some : (test : List ℤ → Bool) (o : Option (List ℤ)) (l : List ℤ) → only_if test o ≡ some l → (o ≡ some l) × (test l ≡ true)
only-some test none l e = let y : ◌≡◌ {A = ℕ} 0 1 = cc in absurd (omega arith)
only-some test (some k) l e = by (test k) refl e
  where
    by : (t : Bool) → test k ≡ t → cond t (some k) none ≡ some l → (some k ≡ some l) × (test l ≡ true)
    by true q e = let z : k ≡ l = cc in (e, ap test (sym z) ∙ q)
    by false q e = let y : ◌≡◌ {A = ℕ} 0 1 = cc in absurd (omega arith)

-- results of unpacking are 32-bit numbers
pub unpacked-in : (p q : ℕ) (sum : ℤ) (begun : Bool) (xs l : List ℤ) → unpack_from p q sum begun xs ≡ some l → all_in Int32 l ≡ true
unfolding unpack_from all_in
unpacked-in p q sum true [] l e = let y : ◌≡◌ {A = ℕ} 0 1 = cc in absurd (omega arith)
unpacked-in p q sum false [] l e = let z : [] ≡ l = cc in ap (all_in Int32) (sym z)
unpacked-in p q sum begun (x ∷ xs) l e =
    by (λ h. unpacked-in p q (sum +ℤ x) true xs l h) (λ t h. unpacked-in p q (pos 0) false xs t h) (in32 (sum +ℤ x)) refl (is_limit p q x) (unpack_from p q (pos 0) false xs) refl e
  where
    by : (unpack_from p q (sum +ℤ x) true xs ≡ some l → all_in Int32 l ≡ true) → ((t : List ℤ) → unpack_from p q (pos 0) false xs ≡ some t → all_in Int32 t ≡ true)
        → (t : Bool) → in32 (sum +ℤ x) ≡ t → (u : Bool) (o : Option (List ℤ)) → unpack_from p q (pos 0) false xs ≡ o
        → cond t (cond u (unpack_from p q (sum +ℤ x) true xs) (map (λ (l : List ℤ). (sum +ℤ x) ∷ l) o)) none ≡ some l → all_in Int32 l ≡ true
    by more done false a u o k h = let y : ◌≡◌ {A = ℕ} 0 1 = cc in absurd (omega arith)
    by more done true a true o k h = more h
    by more done true a false none k h = let y : ◌≡◌ {A = ℕ} 0 1 = cc in absurd (omega arith)
    by more done true a false (some t) k h =
        let z : (sum +ℤ x) ∷ t ≡ l = cc in
        let i = done t k in
        ap (all_in Int32) (sym z) ∙ rw (limits-in 2147483647 (sum +ℤ x) (ltb-true (mag (sum +ℤ x)) 2147483648 a), i)

-- values that are read are of the form's range
read_in-in : (f : Form) (s : List ℕ) (l : List ℤ) → read_in f s ≡ some l → all_in (range_of f) l ≡ true
unfolding read_in
read_in-in (Plain z) s l e = let q : numbers_in z s ≡ l = cc in ap (all_in (range_of (Plain z))) (sym q) ∙ every_in (range_of (Plain z)) (FitsSigned (width_of z)) (fits_in z) (numbers_in z s) (numbers_in-fit z s)
read_in-in (Packed z) s l e = unpacked-in (upper z) (lower z) (pos 0) false (numbers_in z s) l e
read_in-in (Runs r) s l e = (only-some (all_in r) (expand (numbers_in Four s)) l e).1
read_in-in Names s l e = (only-some (all_in Ascii) (some (numbers_in One s)) l e).1

module _ (f : Form) (m : ℕ) (s : List ℕ) (l : List ℤ) (e : held_in f m s ≡ some l) where
  -- what is held is read
  pub held_in-read : read_in f s ≡ some l
  unfolding held_in
  held_in-read = (only-some (padded f m) (read_in f s) l e).0

  -- what is held is allowed
  pub held_in-allowed : allowed f m l ≡ true
  unfolding held_in
  held_in-allowed = (and-eq-true_iff (all_in (range_of f) l) (padded f m l)).1 (read_in-in f s l held_in-read, (only-some (padded f m) (read_in f s) l e).1)

-- values written and read
pub held_in-bytes_for : (f : Form) (m : ℕ) (xs : List ℤ) → allowed f m xs ≡ true → Countable f (length xs) → held_in f m (bytes_for (number_size f) (numbers_for f xs)) ≡ some xs
unfolding held_in read_in numbers_for
held_in-bytes_for f m xs a h =
    let e = (and-eq-true_iff (all_in (range_of f) xs) (padded f m xs)).0 a in
    rw (read f (numbers_in-bytes_for (number_size f) (numbers_for f xs) (numbers_for-fit f xs e.0 h)) e.0, e.1)
  where
    read : (f : Form) → numbers_in (number_size f) (bytes_for (number_size f) (numbers_for f xs)) ≡ numbers_for f xs → all_in (range_of f) xs ≡ true → read_in f (bytes_for (number_size f) (numbers_for f xs)) ≡ some xs
    read (Plain z) i e = ap some i
    read (Packed z) i e = let l = limits z in ap (unpack z) i ∙ unpack-pack_all (upper z) (lower z) l.0 l.2 xs (all_in-32 Int32 xs e)
    read (Runs r) i e = ap (λ (l : List ℤ). only_in r (expand l)) i ∙ ap (only_in r) (expand-runs_of xs (all_in-32 r xs e)) ∙ rw e
    read Names i e = ap (λ (l : List ℤ). only_in Ascii (some l)) i ∙ rw e

-- Numbers, then values

-- the bytes of which a payload is a multiple
abbrev pub unit_of : Form → ℕ
unit_of (Plain z) = size_of z
unit_of (Packed z) = size_of z
unit_of (Runs r) = 8
unit_of Names = 1

unit-numbers : (f : Form) (n : ℕ) → n % unit_of f ≡ 0 → n % size_of (number_size f) ≡ 0
unit-numbers (Plain z) n e = e
unit-numbers (Packed z) n e = e
unit-numbers (Runs r) n e = omega arith
unit-numbers Names n e = e

numbers_for-read_in : (f : Form) (s : List ℕ) (l : List ℤ) → length s % unit_of f ≡ 0 → NumbersForm f (numbers_in (number_size f) s) → read_in f s ≡ some l
    → numbers_for f l ≡ numbers_in (number_size f) s
unfolding read_in numbers_for
numbers_for-read_in (Plain z) s l u g e = cc
numbers_for-read_in (Packed z) s l u g e =
    let h = limits z in
    let i = every_map (FitsSigned (width_of z)) (Between (upper z) (lower z)) (fits-between z) (numbers_in z s) (numbers_in-fit z s) in
    pack_all-unpack (upper z) (lower z) h.0 h.2 (numbers_in z s) l i g e
numbers_for-read_in (Runs r) s l u g e =
    let h : length (numbers_in Four s) % 2 ≡ 0 = rw (length-numbers Four s) (omega arith) in
    runs_of-expand (numbers_in Four s) l (numbers_in-fit Four s) h g (only-some (all_in r) (expand (numbers_in Four s)) l e).0
numbers_for-read_in Names s l u g e = let q = (only-some (all_in Ascii) (some (numbers_in One s)) l e).0 in cc

-- a payload in the writer's form read and written
pub bytes_for-held_in : (f : Form) (m : ℕ) (s : List ℕ) (l : List ℤ) → Bytes s → length s % unit_of f ≡ 0 → NumbersForm f (numbers_in (number_size f) s) → held_in f m s ≡ some l
    → bytes_for (number_size f) (numbers_for f l) ≡ s
bytes_for-held_in f m s l b u g e =
    ap (bytes_for (number_size f)) (numbers_for-read_in f s l u g (held_in-read f m s l e)) ∙ bytes_for-numbers_in (number_size f) s b (unit-numbers f (length s) u)
