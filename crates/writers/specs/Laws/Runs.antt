-- Laws of the longest runs, one cell after the other: how many they are, and their bytes. Assumes nothing.
use Rattle.std.specs.Prelude.{◌≡◌, ℕ, suc, ◌+◌, ◌*◌, ◌<◌, ◌≤◌, Bool, true, false, cond, List, [], ◌∷◌, ◌++◌, length, drop, ℤ, pos, FitsSigned, ◌==◌, ◌≢◌, slice_index_or, refl}
use Rattle.std.proofs.Common.{sym, ap₂, ◌∙◌, append_assoc, add-zero, arith, length-append, length-drop, to_z, of_z, eq-eqb, ne_eqb, eqb-true}
use Rattle.std.proofs.Math.Path.{ap}
use Rattle.std.proofs.Math.Numerals.{add-one}
use mir.Syntax.{w32}
use Rattle.numbers.specs.BigEndian.{bytes_of}
use Rattle.numbers.specs.Laws.BigEndian.{length-bytes_of}
use Rattle.steps.specs.declared.Size.TheVariants.{Four}
use Rattle.steps.specs.declared.Range.{Range}
use Rattle.steps.specs.declared.Range.TheVariants.{Ascii}
use Rattle.steps.specs.declared.Form.TheVariants.{Runs}
use Rattle.steps.specs.Numbers.{bytes_for}
use Rattle.steps.specs.RunLength.{same, runs_from, runs_of}
use Rattle.steps.specs.Delta.{deltas_if, delta_if, deltas_from}
use Rattle.steps.specs.Payload.{numbers_for}
use Rattle.columns.specs.Encode.{payload_of}
use Rattle.writers.specs.Bits.{cells_after, CellAfter, BegunIn}
use Rattle.writers.specs.Laws.Placed.{Parts}
use Rattle.writers.specs.Laws.Numbers.{bytes_for-cons, bytes_for-nil, bits_back, bits-same}
use Rattle.steps.proofs.Laws.Delta.{deltas-read, deltas-plain, length-deltas}

pub runs-payload : (r : Range) (d : Bool) (xs : List ℤ) → payload_of (Runs r) d xs ≡ bytes_for Four (runs_of (deltas_if d xs))
unfolding payload_of numbers_for
runs-payload r d xs = refl

-- characters have no delta
pub chars-payload : (xs : List ℤ) → payload_of (Runs Ascii) false xs ≡ bytes_for Four (runs_of xs)
unfolding payload_of numbers_for
chars-payload xs = ap (λ (l : List ℤ). bytes_for Four (runs_of l)) (deltas-plain (pos 0) xs)

pub runs_of-none : (ys : List ℤ) → ys ≡ [] → runs_of ys ≡ []
unfolding runs_of
runs_of-none ys e = ap runs_of e

pub runs_of-first : (y : ℤ) (xs ys : List ℤ) → ys ≡ y ∷ xs → runs_of ys ≡ runs_from y 1 xs
unfolding runs_of
runs_of-first y xs ys e = ap runs_of e

-- How many numbers runs have

-- the number of runs goes by the bits of the first cell, and not by how many are counted already
length-runs_from-same : (v w : ℤ) (n m : ℕ) (xs : List ℤ) → of_z w32 v ≡ of_z w32 w → length (runs_from v n xs) ≡ length (runs_from w m xs)
unfolding runs_from
length-runs_from-same v w n m [] e = refl
length-runs_from-same v w n m (x ∷ xs) e = rw e (by (same x w) (length-runs_from-same v w (suc n) (suc m) xs e))
  where
    by : (t : Bool) → length (runs_from v (suc n) xs) ≡ length (runs_from w (suc m) xs)
        → length (cond t (runs_from v (suc n) xs) (v ∷ (pos n ∷ runs_from x 1 xs))) ≡ length (cond t (runs_from w (suc m) xs) (w ∷ (pos m ∷ runs_from x 1 xs)))
    by true q = q
    by false q = refl

length-runs_from-more : (v y : ℤ) (xs ys : List ℤ) → ys ≡ y ∷ xs → length (runs_from v 1 ys) ≡ cond (same y v) 0 1 * 2 + length (runs_from y 1 xs)
unfolding runs_from
length-runs_from-more v y xs ys e = ap (λ (l : List ℤ). length (runs_from v 1 l)) e ∙ by (same y v) refl
  where
    by : (t : Bool) → same y v ≡ t → length (cond t (runs_from v 2 xs) (v ∷ (pos 1 ∷ runs_from y 1 xs))) ≡ cond t 0 1 * 2 + length (runs_from y 1 xs)
    by true q = let e : length (runs_from v 2 xs) ≡ length (runs_from y 1 xs) = length-runs_from-same v y 2 1 xs (sym (eqb-true (of_z w32 y) (of_z w32 v) q)) in omega arith
    by false q = omega arith

length-runs_from-last : (v : ℤ) (ys : List ℤ) → ys ≡ [] → length (runs_from v 1 ys) ≡ 2
unfolding runs_from
length-runs_from-last v ys e = ap (λ (l : List ℤ). length (runs_from v 1 l)) e

-- n runs are begun, the last of them with v, and `rest` is still to come
pub record Counted (all : List ℤ) (v : ℤ) (n : ℕ) (rest : List ℤ) : Type 0 where
  pub counted : n * 2 + length (runs_from v 1 rest) ≡ length (runs_of all) + 2

pub counted-first : (y : ℤ) (xs ys : List ℤ) → ys ≡ y ∷ xs → Counted ys y 1 xs
counted-first y xs ys e = record { counted = omega (arith, ap length (runs_of-first y xs ys e)) }

module _ {all : List ℤ} {v : ℤ} {n : ℕ} {rest : List ℤ} (h : Counted all v n rest) where
  pub counted-more : {y : ℤ} {xs : List ℤ} {k : ℕ} → rest ≡ y ∷ xs → k ≡ cond (same y v) 0 1 → Counted all y (n + k) xs
  counted-more {y} {xs} {k} e q = record { counted = omega (arith, length-runs_from-more v y xs rest e, h.counted) }

  pub counted-last : rest ≡ [] → n * 2 ≡ length (runs_of all)
  counted-last e = omega (arith, length-runs_from-last v rest e, h.counted)

-- Runs counted in blocks

-- a cell before others is in a run with the next one, or in a run more
pub runs-next : {ys zs ws : List ℤ} {v y k : ℕ} → ys ≡ to_z w32 v ∷ zs → zs ≡ to_z w32 y ∷ ws → v < 4294967296 → y < 4294967296 → k ≡ cond (y == v) 0 1 → length (runs_of ys) ≡ k * 2 + length (runs_of zs)
runs-next {ys} {zs} {ws} {v} {y} {k} e f g h q =
    ap length (runs_of-first (to_z w32 v) zs ys e) ∙ length-runs_from-more (to_z w32 v) (to_z w32 y) ws zs f
    ∙ ap₂ (λ (a b : ℕ). a * 2 + b) (ap₂ (λ (a b : ℕ). cond (a == b) 0 1) (bits-same y h) (bits-same v g) ∙ sym q) (sym (ap length (runs_of-first (to_z w32 y) ws zs f)))

pub runs-one : (ys : List ℤ) → length ys ≡ 1 → length (runs_of ys) ≡ 2
unfolding runs_of runs_from
runs-one [] e = absurd (omega arith)
runs-one (y ∷ []) e = refl
runs-one (y ∷ (z ∷ zs)) e = absurd (omega arith)

-- a column of one cell, and the last cell of a longer one
pub column-one : (d : Bool) (xs : List ℤ) → length xs ≡ 1 → length (runs_of (deltas_if d xs)) ≡ 2
column-one d xs h = runs-one (deltas_if d xs) (length-deltas d (pos 0) xs ∙ h)

pub cells-last : (d : Bool) (xs : List ℤ) (i : ℕ) → i + 2 ≡ length xs → length (runs_of (cells_after d xs i)) ≡ 2
cells-last d xs i h =
    let e = length-drop (i + 1) xs in
    runs-one (cells_after d xs i) (length-deltas d (to_z w32 (of_z w32 (slice_index_or xs i (pos 0)))) (drop (i + 1) xs) ∙ omega arith)

module _ (d : Bool) (xs : List ℤ) (i : ℕ) where
  pub begun-none : BegunIn d xs i 0 0
  begun-none = let e = ap (λ (j : ℕ). length (runs_of (cells_after d xs j))) (add-zero i) in record { runs = omega (arith, e); most = omega arith }

  pub begun_more : {n k r v y : ℕ} → BegunIn d xs i n k → CellAfter d xs (i + n) v → CellAfter d xs (i + n + 1) y → (r ≡ cond (y == v) 0 1) × (r ≤ 1) → BegunIn d xs i (n + 1) (k + r)
  begun_more {n} {k} {r} {v} {y} b f g q =
      let e : i + n + 1 ≡ i + (n + 1) = omega arith in
      let j = ap (λ (j : ℕ). length (runs_of (cells_after d xs j))) e in
      record { runs = omega (arith, b.runs, runs-next f.cell g.cell f.fits g.fits q.0, j); most = omega (arith, b.most, q.1) }

-- The bytes of runs

module _ (v : ℤ) (n : ℕ) where
  -- the bytes of a run
  bytes_run : (xs : List ℤ) → bytes_for Four (v ∷ (pos n ∷ xs)) ≡ (bytes_of 4 (of_z w32 v) ++ bytes_of 4 n) ++ bytes_for Four xs
  bytes_run xs =
      bytes_for-cons Four v (pos n ∷ xs) ∙ ap (λ (l : List ℕ). bytes_of 4 (of_z w32 v) ++ l) (bytes_for-cons Four (pos n) xs) ∙ sym (append_assoc (bytes_of 4 (of_z w32 v)) (bytes_of 4 n) (bytes_for Four xs))

  module _ (y : ℤ) (xs ys : List ℤ) (e : ys ≡ y ∷ xs) where
    pub bytes-run-on : of_z w32 y ≡ of_z w32 v → bytes_for Four (runs_from v n ys) ≡ bytes_for Four (runs_from v (n + 1) xs)
    unfolding runs_from
    bytes-run-on q = ap (λ (l : List ℤ). bytes_for Four (runs_from v n l)) e ∙ rw (eq-eqb (of_z w32 y) (of_z w32 v) q, add-one n)

    pub bytes-run-over : (of_z w32 y ≢ of_z w32 v) → Parts (bytes_for Four (runs_from v n ys)) (bytes_of 4 (of_z w32 v) ++ bytes_of 4 n) (bytes_for Four (runs_from y 1 xs))
    unfolding runs_from
    bytes-run-over q = record { are = ap (λ (l : List ℤ). bytes_for Four (runs_from v n l)) e ∙ rw (ne_eqb (of_z w32 y) (of_z w32 v) q) (bytes_run (runs_from y 1 xs)) }

  pub bytes-run-last : (ys : List ℤ) → ys ≡ [] → Parts (bytes_for Four (runs_from v n ys)) (bytes_of 4 (of_z w32 v) ++ bytes_of 4 n) []
  unfolding runs_from
  bytes-run-last ys e = record { are = ap (λ (l : List ℤ). bytes_for Four (runs_from v n l)) e ∙ bytes_run [] ∙ ap (λ (l : List ℕ). (bytes_of 4 (of_z w32 v) ++ bytes_of 4 n) ++ l) (bytes_for-nil Four) }

pub length_run : (u n : ℕ) → length (bytes_of 4 u ++ bytes_of 4 n) ≡ 8
length_run u n = length-append (bytes_of 4 u) (bytes_of 4 n) ∙ rw (length-bytes_of 4 u, length-bytes_of 4 n)

-- the next cell by its bits
pub next-cell : (d : Bool) (a : ℤ) (xs : List ℤ) (i : ℕ) {y : ℤ} {u : ℕ} → i < length xs → FitsSigned w32 (slice_index_or xs i (pos 0)) → FitsSigned w32 y → y ≡ delta_if d a (to_z w32 (of_z w32 (slice_index_or xs i (pos 0)))) → u ≡ of_z w32 (to_z w32 (of_z w32 y))
    → deltas_from d a (drop i xs) ≡ to_z w32 u ∷ deltas_from d (to_z w32 (of_z w32 (slice_index_or xs i (pos 0)))) (drop (i + 1) xs)
next-cell d a xs i h f g e q = deltas-read d a xs i h f e ∙ ap (λ (x : ℤ). x ∷ deltas_from d (to_z w32 (of_z w32 (slice_index_or xs i (pos 0)))) (drop (i + 1) xs)) (sym (bits_back g q))
