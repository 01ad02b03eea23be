-- Laws of blocks of packed numbers: what stands in a block is what stands in the payload, and with the totals of a block stored the results
-- are written up to its end. Assumes nothing.
use Rattle.std.specs.Prelude.{◌≡◌, ℕ, zero, suc, ◌+◌, ◌-◌, ◌*◌, ◌/◌, ◌<◌, ◌≤◌, Bool, true, false, cond, not, ◌&&◌, ◌||◌, List, length, take, drop, ℤ, pos, slice_set}
use Rattle.std.proofs.Math.Path.{refl, ap, subst}
use Rattle.std.proofs.Common.{sym, ◌∙◌, mul-zero, add-one, length-take, length-drop}
use Rattle.std.proofs.Math.Nat.{add-zero}
use native.Mathlib.Omega.{arith}
use Rattle.std.proofs.Math.ListN.{length-set}
use Rattle.numbers.specs.BigEndian.{signed_at}
use Rattle.steps.specs.declared.Size.{Size}
use Rattle.steps.specs.declared.Size.TheVariants.{One, Two, Four}
use Rattle.steps.specs.declared.Form.TheVariants.{Packed}
use Rattle.steps.specs.Width.{width_of, size_of, upper, lower}
use Rattle.steps.specs.Delta.{plus_delta}
use Rattle.steps.specs.Packing.{is_limit}
use Rattle.steps.proofs.Laws.Delta.{plus-fits}
use Rattle.payloads.specs.Limits.{limits_in}
use Rattle.payloads.specs.Blocks.{count_in, block_number, total_in, stored_in, NoLimit, HasPlaces, StoredTotals}
use Rattle.payloads.specs.Results.{HasRoom, Wrote}
use Rattle.payloads.specs.Laws.Plain.{number-within}
use Rattle.payloads.specs.Laws.Limits.{place-next, place-within, count-within, limits-few, limits-next, limits-after}
use Rattle.payloads.specs.Laws.Totals.{WrittenTotal, total-written-room, total-written-length, total-written-stored, total-written-end}

-- the bytes of a number of a block are inside
pub number-inside : (z : Size) (b : List ℕ) (k : ℕ) → k < count_in z b → size_of z * k + size_of z ≤ length b
number-inside z b k h =
    let a = (count-within z (length b)).0 in
    let e = place-within z (suc k) (count_in z b) h in
    let n = place-next z k in
    omega arith

pub index-inside : (z : Size) (b : List ℕ) (k : ℕ) → k < count_in z b → k < length b
index-inside One b k h = omega arith
index-inside Two b k h = omega arith
index-inside Four b k h = omega arith

-- a number in the part of a block that it fills
pub number-filled : (z y : Size) (b : List ℕ) (m k : ℕ) → y ≡ z → m ≡ size_of z → k < count_in z b → signed_at (width_of y) (take (m * k + m - m * k) (drop (m * k) b)) 0 ≡ block_number z b k
number-filled z y b m k e q h =
    let n : size_of z * k + size_of z - size_of z * k ≡ size_of z = omega arith in
    let a : size_of z * k + 0 ≡ size_of z * k = omega arith in
    rw (e, q, n) (number-within z b (size_of z * k) (size_of z) 0 (number-inside z b k h) (omega arith) ∙ ap (signed_at (width_of z) b) a)

-- where a block has no limit none of its numbers is one
pub none-limit : (z : Size) (b : List ℕ) (n k : ℕ) → limits_in z b 0 n ≡ 0 → k < n → is_limit (upper z) (lower z) (block_number z b k) ≡ false
none-limit z b n k e h =
    let o : suc k + (n - suc k) ≡ n = omega arith in
    let q = ap (limits_in z b 0) o in
    let a = limits-after z b (suc k) (n - suc k) in
    let m = limits-next z b k in
    by (is_limit (upper z) (lower z) (block_number z b k)) (omega arith)
  where
    by : (t : Bool) → ◌≡◌ {A = ℕ} (cond t 1 0) 0 → t ≡ false
    by false q = refl
    by true q = absurd (omega arith)

-- where it is not said a block may have limits
pub not-said : (z : Size) (b : List ℕ) → NoLimit z b false
not-said z b e = let y : ◌≡◌ {A = ℕ} 0 1 = cc in absurd (omega arith)

-- where it is said that there is no limit none is looked for
pub quick-limit : (said l : Bool) → (said ≡ true → l ≡ false) → (not said && l) ≡ l
quick-limit true l f = sym (f refl)
quick-limit false l f = refl

-- results end at the numbers that are no limits
ended : (z : Size) (b : List ℕ) (o k : ℕ) (l : Bool) → is_limit (upper z) (lower z) (block_number z b k) ≡ l → o + (k - limits_in z b 0 k) + cond l 0 1 ≡ o + (suc k - limits_in z b 0 (suc k))
ended z b o k l e = by l (limits-next z b k ∙ ap (λ (l : Bool). limits_in z b 0 k + cond l 1 0) e) (limits-few z b 0 k)
  where
    by : (l : Bool) → limits_in z b 0 (suc k) ≡ limits_in z b 0 k + cond l 1 0 → limits_in z b 0 k ≤ k → o + (k - limits_in z b 0 k) + cond l 0 1 ≡ o + (suc k - limits_in z b 0 (suc k))
    by true e f = omega arith
    by false e f = omega arith

-- Number by number

module _ (z : Size) (d : Bool) (b : List ℕ) (t : ℤ) (o : ℕ) (old : List ℤ) where
  -- the totals of k numbers are stored: the next is stored at o'
  abbrev pub StoredTo : ℕ → ℕ → ℤ → List ℤ → Type 0
  StoredTo k o' total new = (o' ≡ o + (k - limits_in z b 0 k)) × (total ≡ total_in z d b t k) × (new ≡ stored_in z d b t o old k)

  pub stored-start : StoredTo 0 o t old
  unfolding total_in stored_in limits_in
  stored-start = (omega arith, refl, refl)

  stored-size : (k : ℕ) → length (stored_in z d b t o old k) ≡ length old
  unfolding stored_in
  stored-size zero = refl
  stored-size (suc k) = length-set (stored_in z d b t o old k) (o + (k - limits_in z b 0 k)) (plus_delta (total_in z d b t k) (block_number z b k)) ∙ stored-size k

  module _ (k o' : ℕ) (total : ℤ) (new : List ℤ) (w : StoredTo k o' total new) where
    pub stored-length : length new ≡ length old
    stored-length = ap length w.2 ∙ stored-size k

    pub stored_next : (y : ℤ) → y ≡ plus_delta total (block_number z b k) → (l : Bool) → is_limit (upper z) (lower z) (block_number z b k) ≡ l → StoredTo (k + 1) (o' + cond l 0 1) (cond (l || d) y (pos 0)) (slice_set new o' y)
    unfolding total_in stored_in
    stored_next y e l q =
        let n = e ∙ ap (λ (x : ℤ). plus_delta x (block_number z b k)) w.1 in
        rw (add-one k) (
          ap (λ (i : ℕ). i + cond l 0 1) w.0 ∙ ended z b o k l q,
          rw (q, n),
          rw (w.0, w.2, n),
        )

-- by the delta and the totals that a block has
pub stored-as : (z : Size) (b : List ℕ) (o : ℕ) (old new : List ℤ) {d e : Bool} {t u r s : ℤ} → d ≡ e → t ≡ u → r ≡ s → StoredTotals z d b t o old new r → StoredTotals z e b u o old new s
stored-as z b o old new p q x w = rw (← p, ← q, ← x) w

-- Block by block

-- The totals of a block, that is n bytes of the payload from a place on, are stored behind the results before it.
module _ (g : ℤ → ℤ) (same : (x : ℤ) → x ≡ g x) (z : Size) (d : Bool) (s : List ℕ) (old : List ℤ) (room : HasRoom (Packed z) s (length old)) (at n : ℕ) (h : at + n ≤ length s) (t : ℤ) (o : ℕ) (new : List ℤ) (w : WrittenTotal g z d s old room at t o new) where
  abbrev block : List ℕ
  block = take n (drop at s)

  -- after k numbers
  block-reached : (k : ℕ) → size_of z * k ≤ n → WrittenTotal g z d s old room (at + size_of z * k) (total_in z d block t k) (o + (k - limits_in z block 0 k)) (stored_in z d block t o new k)
  unfolding total_in stored_in limits_in
  block-reached zero l = rw (mul-zero (size_of z), add-zero at, add-zero o) w
  block-reached (suc k) l =
      let p = place-next z k in
      let v = block-reached k (omega arith) in
      let x = number-within z s at n (size_of z * k) h (omega arith) in
      let y = plus_delta (total_in z d block t k) (block_number z block k) in
      let m = is_limit (upper z) (lower z) (block_number z block k) in
      let u = total-written-stored g z d s old room (at + size_of z * k) (total_in z d block t k) (o + (k - limits_in z block 0 k)) (stored_in z d block t o new k) v (omega arith) y (ap (plus_delta (total_in z d block t k)) x) (plus-fits (total_in z d block t k) (block_number z block k)) m (ap (is_limit (upper z) (lower z)) (sym x)) y (pos 0) (same y) in
      let q : at + size_of z * k + size_of z ≡ at + size_of z * suc k = omega arith in
      subst (λ (i : ℕ). WrittenTotal g z d s old room i (total_in z d block t (suc k)) (o + (suc k - limits_in z block 0 (suc k))) (stored_in z d block t o new (suc k))) q
      (subst (λ (i : ℕ). WrittenTotal g z d s old room (at + size_of z * k + size_of z) (total_in z d block t (suc k)) i (stored_in z d block t o new (suc k))) (ended z block o k m refl) u)

  block_size : length block ≡ n
  block_size = simp (length-take, length-drop) (omega arith)

  pub block-places : HasPlaces z block o (length new)
  block-places k l =
      let i = number-inside z block k l in
      let e = block_size in
      let v = block-reached k (omega arith) in
      let a = total-written-room g z d s old room (at + size_of z * k) (total_in z d block t k) (o + (k - limits_in z block 0 k)) (stored_in z d block t o new k) v (omega arith) in
      let b = total-written-length g z d s old room (at + size_of z * k) (total_in z d block t k) (o + (k - limits_in z block 0 k)) (stored_in z d block t o new k) v in
      let c = total-written-length g z d s old room at t o new w in
      omega arith

  block_written : (new' : List ℤ) (r : ℤ) → StoredTotals z d block t o new new' r → WrittenTotal g z d s old room (at + size_of z * count_in z block) r (o + (count_in z block - limits_in z block 0 (count_in z block))) new'
  block_written new' r e = rw (e.0, e.1) (block-reached (count_in z block) (let a = (count-within z (length block)).0 in let b = block_size in omega arith))

  -- a block of m numbers
  module _ (m : ℕ) (e : n ≡ size_of z * m) where
    block-count : count_in z block ≡ m
    block-count = ap (λ (i : ℕ). i / size_of z) (block_size ∙ e) ∙ whole z m
      where
        whole : (z : Size) (m : ℕ) → size_of z * m / size_of z ≡ m
        whole One m = omega arith
        whole Two m = omega arith
        whole Four m = omega arith

    module _ (l : ℕ) (q : l ≡ limits_in z block 0 (count_in z block)) where
      pub block-limits : l ≤ m
      block-limits = let a = limits-few z block 0 (count_in z block) in let c = block-count in omega arith

      pub block-next : (j : ℕ) (new' : List ℤ) (r : ℤ) → j ≡ at + size_of z * m → StoredTotals z d block t o new new' r → WrittenTotal g z d s old room j r (o + (m - l)) new'
      block-next j new' r p v =
          rw (p, q) (subst (λ (k : ℕ). WrittenTotal g z d s old room (at + size_of z * k) r (o + (k - limits_in z block 0 (count_in z block))) new') block-count (block_written new' r v))

  -- the rest
  module _ (e : n ≡ length s - at) (new' : List ℤ) (r : ℤ) (v : StoredTotals z d block t o new new' r) where
    pub rest-length : length new' ≡ length old
    rest-length = total-written-length g z d s old room (at + size_of z * count_in z block) r (o + (count_in z block - limits_in z block 0 (count_in z block))) new' (block_written new' r v)

    pub rest-wrote : Wrote g (Packed z) d s old new'
    rest-wrote =
        let a = count-within z (length block) in
        let b = block_size in
        total-written-end g z d s old room (at + size_of z * count_in z block) r (o + (count_in z block - limits_in z block 0 (count_in z block))) new' (block_written new' r v) (omega (arith, a.0, a.1))
