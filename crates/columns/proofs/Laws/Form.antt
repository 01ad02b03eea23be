-- What the words of a header and a form keep of one another: the parameter, the lengths, the payload's size and the values. Assumes
-- nothing.
use Rattle.std.specs.Prelude.{◌≡◌, refl, Bool, true, false, ◌&&◌, List, ℕ, ◌*◌, ◌%◌, ◌<◌, ◌≤◌, length, ℤ, pos, leb}
use Rattle.std.proofs.Common.{sym, ◌∙◌, div-add-mod', mul-div_cancel, arith, eqb-true, eq-eqb, leb-true}
use Rattle.std.proofs.Math.Bool.{and-eq-true_iff}
use Rattle.std.proofs.Math.Nat.{mul-mod_left}
use Rattle.std.specs.Int.{w32}
use Rattle.numbers.specs.Ranges.{integer_limit}
use Rattle.steps.specs.declared.Size.TheVariants.{One, Four}
use Rattle.steps.specs.declared.Form.{Form}
use Rattle.steps.specs.declared.Form.TheVariants.{Plain, Packed, Runs, Names}
use Rattle.steps.specs.Width.{size_of}
use Rattle.steps.specs.Numbers.{bytes_for}
use Rattle.steps.specs.RunLength.{runs_of}
use Rattle.steps.specs.Packing.{pack}
use Rattle.steps.specs.Delta.{sums_if, deltas_if}
use Rattle.steps.specs.Payload.{number_size, numbers_for, all_in, range_of, padded, allowed}
use Rattle.steps.specs.Fits.{AllFit}
use Rattle.steps.proofs.Laws.NumbersBack.{length-bytes_for}
use Rattle.steps.proofs.Laws.RunLength.{runs_of-even}
use Rattle.steps.proofs.Laws.Delta.{results-plain, results_fit, deltas-plain, deltas-fit}
use Rattle.steps.proofs.Laws.PayloadBack.{all_in-32, all_in-Int32, Countable, unit_of}
use Rattle.columns.specs.declared.Parameter.{Parameter}
use Rattle.columns.specs.declared.Parameter.TheVariants.{Unused, Divisor, NameSize}
use Rattle.columns.specs.Table.{length_limit, name_limit, parameter_ok, elements, size_right, used}
use Rattle.columns.specs.Encode.{results, whole_results}
use Rattle.columns.specs.WriterForm.{ParameterForm}
use Rattle.columns.proofs.Laws.Rows.{is_wide, delta_wide, names_sized, wide-Int32, sized-NameSize}

-- Parameters

pub used-small : (p : Parameter) (m : ℕ) → parameter_ok p m ≡ true → used p m < 4294967296
used-small Unused m e = omega arith
used-small Divisor m e = omega (arith, leb-true m integer_limit ((and-eq-true_iff (leb 1 m) (leb m integer_limit)).0 e).1)
used-small NameSize m e = omega (arith, leb-true m name_limit ((and-eq-true_iff (leb 1 m) (leb m name_limit)).0 e).1)

pub used-right : (p : Parameter) (m : ℕ) → parameter_ok p m ≡ true → parameter_ok p (used p m) ≡ true
used-right Unused m e = refl
used-right Divisor m e = e
used-right NameSize m e = e

pub used-twice : (p : Parameter) (m : ℕ) → used p (used p m) ≡ used p m
used-twice Unused m = refl
used-twice Divisor m = refl
used-twice NameSize m = refl

pub right-used : (p : Parameter) (m : ℕ) → parameter_ok p (used p m) ≡ true → parameter_ok p m ≡ true
right-used Unused m e = refl
right-used Divisor m e = e
right-used NameSize m e = e

-- a payload's size depends on no unused parameter
pub used-size : (f : Form) (p : Parameter) (n m b : ℕ) → names_sized f p ≡ true → size_right f n (used p m) b ≡ size_right f n m b
used-size (Plain z) p n m b s = refl
used-size (Packed z) p n m b s = refl
used-size (Runs r) p n m b s = refl
used-size Names p n m b s = rw (sized-NameSize p s)

pub used-form : (p : Parameter) (m : ℕ) → ParameterForm p (used p m)
used-form Unused m = refl
used-form Divisor m = tt
used-form NameSize m = tt

pub form-used : (p : Parameter) (m : ℕ) → ParameterForm p m → used p m ≡ m
form-used Unused m e = sym e
form-used Divisor m e = refl
form-used NameSize m e = refl

-- Lengths

-- whole results have all the elements
pub elements-results : (f : Form) (p : Parameter) (m e : ℕ) → names_sized f p ≡ true → whole_results f m e ≡ true → e ≡ elements f (results f m e) (used p m)
elements-results (Plain z) p m e s h = refl
elements-results (Packed z) p m e s h = refl
elements-results (Runs r) p m e s h = refl
elements-results Names p m e s h = rw (sized-NameSize p s) (omega (arith, div-add-mod' e m, eqb-true (e % m) 0 h))

-- the elements of n results are whole results
pub whole-elements : (f : Form) (m n : ℕ) → whole_results f m (elements f n m) ≡ true
whole-elements (Plain z) m n = refl
whole-elements (Packed z) m n = refl
whole-elements (Runs r) m n = refl
whole-elements Names m n = eq-eqb (n * m % m) 0 (mul-mod_left n m)

pub results-elements : (f : Form) (p : Parameter) (m n : ℕ) → names_sized f p ≡ true → parameter_ok p m ≡ true → results f m (elements f n m) ≡ n
results-elements (Plain z) p m n s h = refl
results-elements (Packed z) p m n s h = refl
results-elements (Runs r) p m n s h = refl
results-elements Names p m n s h =
    let k : leb 1 m && leb m name_limit ≡ true = rw (sized-NameSize p s) at h in
    mul-div_cancel n (leb-true 1 m ((and-eq-true_iff (leb 1 m) (leb m name_limit)).0 k).0)

pub countable : (f : Form) (m e : ℕ) → results f m e ≤ length_limit → Countable f e
countable (Plain z) m e h = tt
countable (Packed z) m e h = tt
countable (Runs r) m e h = omega arith
countable Names m e h = tt

-- Sizes

-- the payload of as many values as the header says has the right size
pub size-written : (f : Form) (n m : ℕ) (xs : List ℤ) → length xs ≡ elements f n m → size_right f n m (length (bytes_for (number_size f) (numbers_for f xs))) ≡ true
unfolding numbers_for
size-written (Plain z) n m xs e = eq-eqb (length (bytes_for z xs)) (n * size_of z) (length-bytes_for z xs ∙ rw e)
size-written (Packed z) n m xs e =
    let k : length (bytes_for z (pack z xs)) % size_of z ≡ 0 = rw (length-bytes_for z (pack z xs)) (mul-mod_left (length (pack z xs)) (size_of z)) in
    eq-eqb (length (bytes_for z (pack z xs)) % size_of z) 0 k
size-written (Runs r) n m xs e =
    let k : length (bytes_for Four (runs_of xs)) % 8 ≡ 0 = rw (length-bytes_for Four (runs_of xs)) (omega (arith, runs_of-even xs)) in
    eq-eqb (length (bytes_for Four (runs_of xs)) % 8) 0 k
size-written Names n m xs e = eq-eqb (length (bytes_for One xs)) (n * m) (omega (arith, length-bytes_for One xs))

-- a payload of the right size is whole
pub size-unit : (f : Form) (n m b : ℕ) → size_right f n m b ≡ true → b % unit_of f ≡ 0
size-unit (Plain z) n m b e = rw (eqb-true b (n * size_of z) e) (mul-mod_left n (size_of z))
size-unit (Packed z) n m b e = eqb-true (b % size_of z) 0 e
size-unit (Runs r) n m b e = eqb-true (b % 8) 0 e
size-unit Names n m b e = omega arith

-- Values that a form may hold

pub held-32 : (f : Form) (m : ℕ) (xs : List ℤ) → allowed f m xs ≡ true → AllFit w32 xs
held-32 f m xs h = all_in-32 (range_of f) xs ((and-eq-true_iff (all_in (range_of f) xs) (padded f m xs)).0 h).0

pub held-written : (f : Form) (p : Parameter) (m : ℕ) (xs : List ℤ) → names_sized f p ≡ true → allowed f m xs ≡ true → allowed f (used p m) xs ≡ true
held-written (Plain z) p m xs s h = h
held-written (Packed z) p m xs s h = h
held-written (Runs r) p m xs s h = h
held-written Names p m xs s h = rw (sized-NameSize p s) h

-- a form of the widest range may hold all 32-bit numbers
held-wide : (f : Form) (m : ℕ) (xs : List ℤ) → is_wide (range_of f) ≡ true → AllFit w32 xs → allowed f m xs ≡ true
held-wide f m xs e g = (and-eq-true_iff (all_in (range_of f) xs) (padded f m xs)).1 (rw (wide-Int32 (range_of f) e) (all_in-Int32 xs g), no_names f e)
  where
    no_names : (f : Form) → is_wide (range_of f) ≡ true → padded f m xs ≡ true
    no_names (Plain z) e = refl
    no_names (Packed z) e = refl
    no_names (Runs r) e = refl
    no_names Names e = let y : ◌≡◌ {A = ℕ} 0 1 = cc in absurd (omega arith)

pub held-deltas : (f : Form) (d : Bool) (m : ℕ) (xs : List ℤ) → delta_wide d f ≡ true → allowed f m xs ≡ true → allowed f m (deltas_if d xs) ≡ true
held-deltas f true m xs e h = held-wide f m (deltas_if true xs) e (deltas-fit (pos 0) xs)
held-deltas f false m xs e h = rw (deltas-plain (pos 0) xs) h

pub held-sums : (f : Form) (d : Bool) (m : ℕ) (xs : List ℤ) → delta_wide d f ≡ true → allowed f m xs ≡ true → allowed f m (sums_if d xs) ≡ true
held-sums f true m xs e h = held-wide f m (sums_if true xs) e (results_fit (pos 0) xs)
held-sums f false m xs e h = rw (results-plain (pos 0) xs) h
