-- Laws of limits among packed numbers: how many there are in blocks, what their bytes are, and what their count says of the results where
-- no row of them is long. Assumes nothing.
use Rattle.std.specs.Prelude.{◌≡◌, ℕ, zero, suc, ◌+◌, ◌-◌, ◌*◌, ◌/◌, ◌%◌, ◌<◌, ◌≤◌, Bool, true, false, cond, ◌&&◌, List, length, ℤ, pos, negsuc, ◌+ℤ◌, ◌≢◌, nat_lt, slice_index, slice_index_or}
use Rattle.std.proofs.Math.Path.{refl, ap}
use Rattle.std.proofs.Common.{sym, ◌∙◌, add-zero, mul-zero, add-one, to_z, ltb-true, ltb-false, ne_eqb}
use native.Mathlib.Omega.{arith}
use Rattle.std.specs.Int.Signed.{mag}
use Rattle.std.specs.Int.{w8, w16}
use Rattle.refusal.specs.Table.{accepted, number_not_allowed, length_differs}
use Rattle.numbers.specs.BigEndian.{signed_at}
use Rattle.numbers.specs.Laws.BigEndian.{unsigned_at-loads}
use Rattle.steps.specs.declared.Size.{Size}
use Rattle.steps.specs.declared.Size.TheVariants.{One, Two, Four}
use Rattle.steps.specs.declared.Form.TheVariants.{Packed}
use Rattle.steps.specs.declared.Turn.TheVariants.{More, Done}
use Rattle.steps.specs.Width.{width_of, size_of, upper, lower}
use Rattle.steps.specs.Packing.{is_limit}
use Rattle.steps.specs.Payload.{read_in}
use Rattle.steps.specs.Steps.{turn_of}
use Rattle.steps.proofs.Laws.NumbersBack.{signed_at-fits}
use Rattle.steps.proofs.Laws.Packing.{mag-add, turn_inside}
use Rattle.steps.specs.Delta.{sums_if}
use Rattle.payloads.specs.Exact.{exact_limit, exact, all_exact}
use Rattle.payloads.specs.Results.{ResultsJudged}
use Rattle.payloads.specs.Scan.{scan_of, refusal_of}
use Rattle.payloads.specs.Items.{outcome_refusal}
use Rattle.payloads.specs.Limits.{packed_size, limit_at, limits_in, ends_at_limit, row_at, RowsWithin, most_limits, exact_limits, block_row}
use Rattle.payloads.specs.Laws.Packed.{Unpacked, unpacked-start, unpacked-more, unpacked-done, unpacked-unfinished, unpacked-whole, unpacked-other, unpacked-all}
use Rattle.payloads.specs.Laws.Exact.{small-exact}
use Rattle.payloads.specs.Laws.Refusal.{outcome-scan}

few : (t : Bool) → cond t 1 0 ≤ 1
few true = omega arith
few false = omega arith

-- Places

pub place-next : (z : Size) (k : ℕ) → size_of z * suc k ≡ size_of z * k + size_of z
place-next One k = omega arith
place-next Two k = omega arith
place-next Four k = omega arith

place-on : (z : Size) (at j k : ℕ) → at + size_of z * (j + k) ≡ at + size_of z * j + size_of z * k
place-on One at j k = omega arith
place-on Two at j k = omega arith
place-on Four at j k = omega arith

pub place-within : (z : Size) (i k : ℕ) → i ≤ k → size_of z * i ≤ size_of z * k
place-within One i k h = omega arith
place-within Two i k h = omega arith
place-within Four i k h = omega arith

-- a block among k numbers
pub block_within : (z : Size) (i b k : ℕ) → i + b ≤ k → size_of z * i + size_of z * b ≤ size_of z * k
block_within One i b k h = omega arith
block_within Two i b k h = omega arith
block_within Four i b k h = omega arith

-- so many numbers as the bytes hold
pub count-within : (z : Size) (n : ℕ) → (size_of z * (n / size_of z) ≤ n) × (n - size_of z * (n / size_of z) < size_of z)
count-within One n = (omega arith, omega arith)
count-within Two n = (omega arith, omega arith)
count-within Four n = (omega arith, omega arith)

-- Limits in blocks

module _ (z : Size) (s : List ℕ) where
  pub limits-few : (at k : ℕ) → limits_in z s at k ≤ k
  unfolding limits_in
  limits-few at zero = omega arith
  limits-few at (suc k) = let a = limits-few at k in let b = few (is_limit (upper z) (lower z) (signed_at (width_of z) s (at + size_of z * k))) in omega arith

  pub limits-next : (k : ℕ) → limits_in z s 0 (suc k) ≡ limits_in z s 0 k + cond (is_limit (upper z) (lower z) (signed_at (width_of z) s (size_of z * k))) 1 0
  unfolding limits_in
  limits-next k = let e : 0 + size_of z * k ≡ size_of z * k = omega arith in rw e

  -- a number more
  pub limits-more : (at k : ℕ) → limits_in z s at (k + 1) ≡ limits_in z s at k + limit_at z s (at + size_of z * k)
  unfolding limits_in
  limits-more at k = rw (add-one k)

  -- a block more
  pub limits-on : (at j k : ℕ) → limits_in z s at (j + k) ≡ limits_in z s at j + limits_in z s (at + size_of z * j) k
  unfolding limits_in
  limits-on at j zero = rw (add-zero j) (omega arith)
  limits-on at j (suc k) =
      let e = place-on z at j k in
      let o : j + suc k ≡ suc (j + k) = omega arith in
      let b = limits-on at j k in
      rw (o, e) (omega arith)

  pub limits-after : (i k : ℕ) → limits_in z s 0 (i + k) ≡ limits_in z s 0 i + limits_in z s (size_of z * i) k
  limits-after i k = let e : 0 + size_of z * i ≡ size_of z * i = omega arith in limits-on 0 i k ∙ rw e

  -- Limits in a row

  row-limits : (k : ℕ) → row_at z s k ≤ limits_in z s 0 k
  unfolding row_at limits_in
  row-limits zero = omega arith
  row-limits (suc k) = let e : 0 + size_of z * k ≡ size_of z * k = omega arith in rw e (by (is_limit (upper z) (lower z) (signed_at (width_of z) s (size_of z * k))) (row-limits k))
    where
      by : (t : Bool) → row_at z s k ≤ limits_in z s 0 k → cond t (suc (row_at z s k)) 0 ≤ limits_in z s 0 k + cond t 1 0
      by true a = omega arith
      by false a = omega arith

  -- a row grows by one number at a time
  row_on : (i j : ℕ) → row_at z s (i + j) ≤ row_at z s i + j
  unfolding row_at
  row_on i zero = rw (add-zero i) (omega arith)
  row_on i (suc j) =
      let o : i + suc j ≡ suc (i + j) = omega arith in
      let a = row_on i j in
      rw o (by (is_limit (upper z) (lower z) (signed_at (width_of z) s (size_of z * (i + j)))) a)
    where
      by : (t : Bool) → row_at z s (i + j) ≤ row_at z s i + j → cond t (suc (row_at z s (i + j))) 0 ≤ row_at z s i + suc j
      by true a = omega arith
      by false a = omega arith

  -- a number that is no limit ends a row
  row_ends : (i j : ℕ) → limits_in z s (size_of z * i) j < j → row_at z s (i + j) < j
  unfolding row_at limits_in
  row_ends i zero h = absurd (omega arith)
  row_ends i (suc j) h =
      let o : i + suc j ≡ suc (i + j) = omega arith in
      let e : size_of z * (i + j) ≡ size_of z * i + size_of z * j = let p = place-on z 0 i j in omega arith in
      rw (o, e) (by (is_limit (upper z) (lower z) (signed_at (width_of z) s (size_of z * i + size_of z * j))) (row_ends i j) h)
    where
      by : (t : Bool) → (limits_in z s (size_of z * i) j < j → row_at z s (i + j) < j) → limits_in z s (size_of z * i) j + cond t 1 0 < suc j → cond t (suc (row_at z s (i + j))) 0 < suc j
      by true f h = let a = f (omega arith) in omega arith
      by false f h = omega arith

-- few limits are in short rows
pub rows_few : (m : ℕ) (two : Bool) (s : List ℕ) (k : ℕ) → limits_in (packed_size two) s 0 k ≤ m → RowsWithin m two s k
rows_few m two s k h j l =
    let a = row-limits (packed_size two) s j in
    let e : j + (k - j) ≡ k = omega arith in
    let b = ap (limits_in (packed_size two) s 0) e in
    let c = limits-on (packed_size two) s 0 j (k - j) in
    omega arith

-- no block among i numbers is all limits
abbrev pub Broken : Bool → List ℕ → ℕ → Type 0
Broken two s i = (row_at (packed_size two) s i ≤ 255) × RowsWithin block_row two s i

-- a place in what follows, or before
row-past : (two : Bool) (s : List ℕ) (i j : ℕ) → Broken two s i → j < i + 256 → row_at (packed_size two) s j ≤ block_row
row-past two s i j w h = by (nat_lt i j) refl
  where
    by : (t : Bool) → nat_lt i j ≡ t → row_at (packed_size two) s j ≤ block_row
    by true e =
        let m = ltb-true i j e in
        let q : i + (j - i) ≡ j = omega arith in
        let a = row_on (packed_size two) s i (j - i) in
        let b = ap (row_at (packed_size two) s) q in
        let c = w.0 in
        omega arith
    by false e = w.1 j (ltb-false i j e)

pub broken-start : (two : Bool) (s : List ℕ) → Broken two s 0
unfolding row_at
broken-start two s = (omega arith, (λ j h. let e : j ≡ 0 = omega arith in rw e (omega arith)))

pub broken-more : (two : Bool) (s : List ℕ) (i : ℕ) → Broken two s i → (limits_in (packed_size two) s (size_of (packed_size two) * i) 256 ≢ 256) → Broken two s (i + 256)
broken-more two s i w q =
    let f = limits-few (packed_size two) s (size_of (packed_size two) * i) 256 in
    let l : limits_in (packed_size two) s (size_of (packed_size two) * i) 256 < 256 = omega (arith, q) in
    let a = row_ends (packed_size two) s i 256 l in
    (omega arith, (λ j h. by (nat_lt j (i + 256)) refl a h))
  where
    by : {j : ℕ} (t : Bool) → nat_lt j (i + 256) ≡ t → row_at (packed_size two) s (i + 256) < 256 → j ≤ i + 256 → row_at (packed_size two) s j ≤ block_row
    by {j} true e a h = row-past two s i j w (ltb-true j (i + 256) e)
    by {j} false e a h = let l = ltb-false j (i + 256) e in let q : j ≡ i + 256 = omega arith in rw q (omega arith)

pub broken-rows : (two : Bool) (s : List ℕ) (i k : ℕ) → Broken two s i → i ≤ k → k - i < 256 → RowsWithin block_row two s k
broken-rows two s i k w h l j m = row-past two s i j w (omega arith)

-- rows that are within a bound are within a larger one
pub rows-most : (two : Bool) (s : List ℕ) (k : ℕ) → RowsWithin block_row two s k → RowsWithin (most_limits two) two s k
rows-most true s k q j l = let a = q j l in omega arith
rows-most false s k q j l = let a = q j l in omega arith

rows-exact : (two : Bool) (s : List ℕ) (k : ℕ) → RowsWithin block_row two s k → RowsWithin (exact_limits two) two s k
rows-exact true s k q j l = let a = q j l in omega arith
rows-exact false s k q j l = let a = q j l in omega arith

-- The bytes of a limit

-- what is no limit, by its bits
other : (u : ℕ) → u < 65536 → (u ≢ 32767) → (u ≢ 32768) → is_limit 32767 32768 (to_z w16 u) ≡ false
other u h p q = by (nat_lt u 32768) refl
  where
    by : (t : Bool) → nat_lt u 32768 ≡ t → is_limit 32767 32768 (cond t (pos u) (negsuc (65536 - suc u))) ≡ false
    by true e = ne_eqb u 32767 p
    by false e = let l = ltb-false u 32768 e in ne_eqb (suc (65536 - suc u)) 32768 (λ r. q (omega arith))

module _ (s : List ℕ) (at : ℕ) (h : at + 2 ≤ length s) (a b : ℕ) (p : slice_index_or s at 0 ≡ a) (q : slice_index_or s (at + 1) 0 ≡ b) (k : a < 256) (l : b < 256) where
  signed : signed_at w16 s at ≡ to_z w16 (a * 256 + b)
  unfolding signed_at
  signed =
      let e : (0 * 256 + slice_index s (at + 0)) * 256 + slice_index s (at + 1) ≡ a * 256 + b = rw (add-zero at, p, q) (omega arith) in
      ap (to_z w16) (unsigned_at-loads 2 s at h ∙ e)

  pub limit-upper : (b * 256 + a + 129) % 65536 ≡ 0 → limit_at Two s at ≡ 1
  limit-upper e =
      let u : a * 256 + b ≡ 32767 = omega arith in
      rw (signed, u) refl

  pub limit-lower : (b * 256 + a + 129) % 65536 ≡ 257 → limit_at Two s at ≡ 1
  limit-lower e =
      let u : a * 256 + b ≡ 32768 = omega arith in
      rw (signed, u) refl

  pub limit-none : ((b * 256 + a + 129) % 65536 ≢ 0) → ((b * 256 + a + 129) % 65536 ≢ 257) → limit_at Two s at ≡ 0
  limit-none f g = rw (signed, other (a * 256 + b) (omega arith) upper-not lower-not) refl
    where
      upper-not : a * 256 + b ≡ 32767 → ⊥
      upper-not e =
          let m : a ≡ 127 = omega arith in
          let n : b ≡ 255 = omega arith in
          f (rw (m, n) refl)

      lower-not : a * 256 + b ≡ 32768 → ⊥
      lower-not e =
          let m : a ≡ 128 = omega arith in
          let n : b ≡ 0 = omega arith in
          g (rw (m, n) refl)

-- a byte, by its bits
pub byte-limit : (u : ℕ) → u < 256 → (u ≢ 127) → (u ≢ 128) → is_limit 127 128 (to_z w8 u) ≡ false
byte-limit u h p q = by (nat_lt u 128) refl
  where
    by : (t : Bool) → nat_lt u 128 ≡ t → is_limit 127 128 (cond t (pos u) (negsuc (256 - suc u))) ≡ false
    by true e = ne_eqb u 127 p
    by false e = let l = ltb-false u 128 e in ne_eqb (suc (256 - suc u)) 128 (λ r. q (omega arith))

-- the number in a byte
pub byte_signed : (s : List ℕ) (at : ℕ) → at + 1 ≤ length s → signed_at w8 s at ≡ to_z w8 (slice_index s at)
unfolding signed_at
byte_signed s at h =
    let e : 0 * 256 + slice_index s (at + 0) ≡ slice_index_or s at 0 = rw (add-zero at) (omega arith) in
    ap (to_z w8) (unsigned_at-loads 1 s at h ∙ e)

-- The last number

module _ (z : Size) (s : List ℕ) where
  pub ends-none : (k : ℕ) → k ≡ 0 → ends_at_limit z s k ≡ false
  unfolding ends_at_limit
  ends-none zero e = refl
  ends-none (suc k) e = absurd (omega arith)

  ends_next : (k : ℕ) → ends_at_limit z s (suc k) ≡ is_limit (upper z) (lower z) (signed_at (width_of z) s (size_of z * k))
  unfolding ends_at_limit
  ends_next k = refl

  row_next : (k : ℕ) → row_at z s (suc k) ≡ cond (is_limit (upper z) (lower z) (signed_at (width_of z) s (size_of z * k))) (suc (row_at z s k)) 0
  unfolding row_at
  row_next k = refl

  pub ends_last : (k : ℕ) → (k ≢ 0) → ends_at_limit z s k ≡ is_limit (upper z) (lower z) (signed_at (width_of z) s (size_of z * (k - 1)))
  unfolding ends_at_limit
  ends_last zero f = absurd (f refl)
  ends_last (suc k) f = let e : suc k - 1 ≡ k = omega arith in rw e

-- The results, where rows of limits are short

-- the numbers before the place are unpacked, and the limits of a result that has begun stand in a row; all results are exact where E holds
abbrev Few : Size → List ℕ → ℕ → ℕ → Bool → ℕ → Type 0 → Type 0
Few z s at count begun row E = (part : ℤ) × (sum : ℤ) × (ok : Bool) × Unpacked z false s at part begun count sum ok × (mag part ≤ lower z * row) × (E → ok ≡ true)

-- a number more on top of a row
row-sum : (two : Bool) (m n row : ℕ) → m ≤ lower (packed_size two) * row → n < lower (packed_size two) → row ≤ most_limits two
    → (suc (m + n) ≤ lower (packed_size two) * suc row) × (suc (m + n) < 2147483648)
row-sum true m n row h k l = (omega arith, omega arith)
row-sum false m n row h k l = (omega arith, omega arith)

number_small : (two : Bool) (s : List ℕ) (at : ℕ) → mag (signed_at (width_of (packed_size two)) s at) < lower (packed_size two)
number_small true s at = (signed_at-fits Two s at).sfits
number_small false s at = (signed_at-fits One s at).sfits

pub no_row : (two : Bool) → mag (pos 0) ≤ lower (packed_size two) * 0
no_row true = omega arith
no_row false = omega arith

-- a number after a short row
pub near-exact : (two : Bool) (x : ℤ) (row : ℕ) → mag x ≤ lower (packed_size two) * suc row → row ≤ exact_limits two → exact x ≡ true
near-exact two x row h l = small-exact exact_limit x (omega arith) (by two h l)
  where
    by : (t : Bool) → mag x ≤ lower (packed_size t) * suc row → row ≤ exact_limits t → mag x < exact_limit
    by true a b = omega arith
    by false a b = omega arith

one_more : (two : Bool) (s : List ℕ) (at count : ℕ) (begun : Bool) (row : ℕ) (E F : Type 0) → Few (packed_size two) s at count begun row E → at + size_of (packed_size two) ≤ length s → row ≤ most_limits two
    → (F → E × (row ≤ exact_limits two)) → (t : Bool) → is_limit (upper (packed_size two)) (lower (packed_size two)) (signed_at (width_of (packed_size two)) s at) ≡ t
    → Few (packed_size two) s (at + size_of (packed_size two)) (count + cond t 0 1) t (cond t (suc row) 0) F
one_more two s at count begun row E F w h l f t e = by t e
  where
    x : ℤ
    x = signed_at (width_of (packed_size two)) s at

    near : (suc (mag w.0 + mag x) ≤ lower (packed_size two) * suc row) × (suc (mag w.0 + mag x) < 2147483648)
    near = row-sum two (mag w.0) (mag x) row w.4 (number_small two s at) l

    turned : turn_of (packed_size two) w.0 x ≡ cond (is_limit (upper (packed_size two)) (lower (packed_size two)) x) (More (w.0 +ℤ x)) (Done (w.0 +ℤ x))
    turned = turn_inside (packed_size two) w.0 x (let a = mag-add w.0 x in let b = near.1 in omega arith)

    by : (t : Bool) → is_limit (upper (packed_size two)) (lower (packed_size two)) x ≡ t → Few (packed_size two) s (at + size_of (packed_size two)) (count + cond t 0 1) t (cond t (suc row) 0) F
    by true e =
        let q : turn_of (packed_size two) w.0 x ≡ More (w.0 +ℤ x) = turned ∙ rw e in
        let a = mag-add w.0 x in
        let b = near.0 in
        rw (add-zero count) (w.0 +ℤ x, w.1, w.2, unpacked-more (packed_size two) false 0 s at w.0 begun count w.1 w.2 w.3 h (w.0 +ℤ x) q, omega arith, (λ y. w.5 (f y).0))
    by false e =
        let q : turn_of (packed_size two) w.0 x ≡ Done (w.0 +ℤ x) = turned ∙ rw e in
        let a = mag-add w.0 x in
        let b = near.0 in
        let c : mag (w.0 +ℤ x) ≤ lower (packed_size two) * suc row = omega arith in
        (pos 0, w.0 +ℤ x, w.2 && exact (w.0 +ℤ x), unpacked-done (packed_size two) false 0 s at w.0 begun count w.1 w.2 w.3 h (w.0 +ℤ x) (w.0 +ℤ x) q refl, no_row two, (λ y. rw (w.5 (f y).0, near-exact two (w.0 +ℤ x) row c (f y).1)))

-- so many numbers
abbrev FewAt : Bool → List ℕ → ℕ → Type 0
FewAt two s k = Few (packed_size two) s (size_of (packed_size two) * k) (k - limits_in (packed_size two) s 0 k) (ends_at_limit (packed_size two) s k) (row_at (packed_size two) s k) (RowsWithin (exact_limits two) two s k)

few-none : (two : Bool) (s : List ℕ) → FewAt two s 0
unfolding limits_in ends_at_limit row_at
few-none two s = rw (mul-zero (size_of (packed_size two))) (pos 0, pos 0, true, unpacked-start (packed_size two) false s, no_row two, (λ y. refl))

few-next : (two : Bool) (s : List ℕ) (k : ℕ) → size_of (packed_size two) * suc k ≤ length s → row_at (packed_size two) s k ≤ most_limits two → FewAt two s k → FewAt two s (suc k)
few-next two s k h q w =
    let p = place-next (packed_size two) k in
    let m = limits-next (packed_size two) s k in
    let f = limits-few (packed_size two) s 0 k in
    let n : suc k - limits_in (packed_size two) s 0 (suc k) ≡ (k - limits_in (packed_size two) s 0 k) + cond (is_limit (upper (packed_size two)) (lower (packed_size two)) (signed_at (width_of (packed_size two)) s (size_of (packed_size two) * k))) 0 1 = ap (λ (t : ℕ). suc k - t) m ∙ counted (is_limit (upper (packed_size two)) (lower (packed_size two)) (signed_at (width_of (packed_size two)) s (size_of (packed_size two) * k))) (limits_in (packed_size two) s 0 k) f in
    rw (p, n, ends_next (packed_size two) s k, row_next (packed_size two) s k) (one_more two s (size_of (packed_size two) * k) (k - limits_in (packed_size two) s 0 k) (ends_at_limit (packed_size two) s k) (row_at (packed_size two) s k) (RowsWithin (exact_limits two) two s k) (RowsWithin (exact_limits two) two s (suc k)) w (omega arith) q (λ y. ((λ j l. y j (omega arith)), y k (omega arith))) (is_limit (upper (packed_size two)) (lower (packed_size two)) (signed_at (width_of (packed_size two)) s (size_of (packed_size two) * k))) refl)
  where
    counted : (t : Bool) (m : ℕ) → m ≤ k → suc k - (m + cond t 1 0) ≡ (k - m) + cond t 0 1
    counted true m l = omega arith
    counted false m l = omega arith

few-all : (two : Bool) (s : List ℕ) (k : ℕ) → size_of (packed_size two) * k ≤ length s → RowsWithin (most_limits two) two s k → FewAt two s k
few-all two s zero h q = few-none two s
few-all two s (suc k) h q = let p = place-next (packed_size two) k in few-next two s k h (q k (omega arith)) (few-all two s k (omega arith) (λ j l. q j (omega arith)))

module _ (two : Bool) (n : ℕ) (s : List ℕ) (k : ℕ) (h : size_of (packed_size two) * k ≤ length s) (g : length s - size_of (packed_size two) * k < size_of (packed_size two)) (q : RowsWithin (most_limits two) two s k) where
  all : FewAt two s k
  all = few-all two s k h q

  told : outcome_refusal (scan_of (Packed (packed_size two)) false n (read_in (Packed (packed_size two)) s)) ≡ refusal_of n (read_in (Packed (packed_size two)) s)
  told = outcome-scan (Packed (packed_size two)) false n (read_in (Packed (packed_size two)) s)

  pub limits-unfinished : ends_at_limit (packed_size two) s k ≡ true → number_not_allowed ≡ refusal_of n (read_in (Packed (packed_size two)) s)
  limits-unfinished e =
      let w = all in
      ap outcome_refusal (unpacked-unfinished (packed_size two) false n s (size_of (packed_size two) * k) w.0 _ _ w.1 w.2 w.3 g e) ∙ told

  module _ (e : ends_at_limit (packed_size two) s k ≡ false) where
    pub limits-other : (k - limits_in (packed_size two) s 0 k ≢ n) → length_differs ≡ refusal_of n (read_in (Packed (packed_size two)) s)
    limits-other f =
        let w = all in
        ap outcome_refusal (unpacked-other (packed_size two) false n s (size_of (packed_size two) * k) w.0 _ _ w.1 w.2 w.3 g e f) ∙ told

    pub limits-all : k - limits_in (packed_size two) s 0 k ≡ n → accepted ≡ refusal_of n (read_in (Packed (packed_size two)) s)
    limits-all f =
        let w = all in
        ap outcome_refusal (unpacked-all (packed_size two) false n s (size_of (packed_size two) * k) w.0 _ _ w.1 w.2 w.3 g e f) ∙ told

-- results without delta are exact where each row of limits is short
pub rows-judged : (two d : Bool) (n : ℕ) (s : List ℕ) (k : ℕ) → size_of (packed_size two) * k ≤ length s → length s - size_of (packed_size two) * k < size_of (packed_size two) → d ≡ false
    → RowsWithin block_row two s k → 0 ≡ refusal_of n (read_in (Packed (packed_size two)) s) → ResultsJudged (packed_size two) d s true
rows-judged two d n s k h g f q r l e = by (ends_at_limit (packed_size two) s k) refl
  where
    w : FewAt two s k
    w = few-all two s k h (rows-most two s k q)

    by : (t : Bool) → ends_at_limit (packed_size two) s k ≡ t → true ≡ all_exact (sums_if d l)
    by true b = let u = limits-unfinished two n s k h g (rows-most two s k q) b ∙ sym r in absurd (omega arith)
    by false b =
        let v = unpacked-whole (packed_size two) false n s (size_of (packed_size two) * k) w.0 (ends_at_limit (packed_size two) s k) _ w.1 w.2 w.3 g b in
        let i : w.3.0 ≡ l = cc in
        sym (w.5 (rows-exact two s k q)) ∙ w.3.4 ∙ rw (f, i)
