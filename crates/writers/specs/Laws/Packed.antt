-- Laws of packed numbers, one value after the other: how many they are, and their bytes by the bits. Assumes nothing.
use Rattle.std.specs.Prelude.{◌≡◌, ℕ, zero, suc, ◌+◌, ◌-◌, ◌*◌, ◌/◌, ◌%◌, ◌<◌, ◌≤◌, Bool, true, false, ltb, List, [], ◌∷◌, ◌++◌, length, drop, replicate, ℤ, pos, negsuc, neg_ℤ, FitsSigned, nat_le, nat_lt}
use Rattle.std.proofs.Math.Path.{refl, ap}
use Rattle.std.proofs.Common.{sym, ap₂, ◌∙◌, append-nil, mod-eq_of_lt, arith, length-append, length-drop, of_z, le-leb, leb-true, leb-false, ltb-true, ltb-false}
use Rattle.std.proofs.Math.Nat.{mod-lt, div-eq_of_lt}
use Rattle.std.proofs.lemmas.List.{length-replicate}
use Rattle.std.specs.Int.{w32}
use Rattle.std.proofs.lemmas.Bool.{lt-leb}
use Rattle.numbers.specs.BigEndian.{bytes_of}
use Rattle.steps.specs.declared.Size.{Size}
use Rattle.steps.specs.declared.Size.TheVariants.{One, Two, Four}
use Rattle.steps.specs.declared.Form.TheVariants.{Packed}
use Rattle.steps.specs.Width.{width_of, size_of, upper, lower}
use Rattle.steps.specs.Numbers.{bytes_for}
use Rattle.steps.specs.Delta.{deltas_if, deltas_from}
use Rattle.steps.specs.Packing.{pack_one, pack_all, pack}
use Rattle.steps.specs.Payload.{numbers_for}
use Rattle.steps.proofs.Laws.Packing.{limits}
use Rattle.steps.proofs.Laws.Delta.{length-deltas}
use Rattle.columns.specs.Encode.{payload_of}
use Rattle.writers.specs.Laws.Placed.{Parts}
use Rattle.writers.specs.Laws.Numbers.{bytes_for-cons, bytes_for-nil, bytes_for-append, bytes_of-narrow}
use Rattle.steps.proofs.Laws.NumbersBack.{length-bytes_for}
use Rattle.writers.specs.Bits.{bits_for, up_to}

pub packed-payload : (z : Size) (d : Bool) (xs : List ℤ) → payload_of (Packed z) d xs ≡ bytes_for z (pack z (deltas_if d xs))
unfolding payload_of numbers_for
packed-payload z d xs = refl

-- one value more
pub bytes-pack-more : (z : Size) (y : ℤ) (xs ys : List ℤ) → ys ≡ y ∷ xs → Parts (bytes_for z (pack z ys)) (bytes_for z (pack_one (upper z) (lower z) y)) (bytes_for z (pack z xs))
unfolding pack_all
bytes-pack-more z y xs ys e = record { are = ap (λ (l : List ℤ). bytes_for z (pack z l)) e ∙ bytes_for-append z (pack_one (upper z) (lower z) y) (pack z xs) }

pub bytes-pack-none : (z : Size) (ys : List ℤ) → ys ≡ [] → bytes_for z (pack z ys) ≡ []
unfolding pack_all
bytes-pack-none z ys e = ap (λ (l : List ℤ). bytes_for z (pack z l)) e ∙ bytes_for-nil z

-- A count up to the room

module _ (room n : ℕ) where
  pub up_to-over : room < n → up_to room n ≡ room + 1
  unfolding up_to
  up_to-over h = rw (lt-leb n room h)

  pub up_to-in : n ≤ room → up_to room n ≡ n
  unfolding up_to
  up_to-in h = rw (le-leb n room h)

  up_to-cases : (t : Bool) → nat_le n room ≡ t → (room < up_to room n → room < n) × (up_to room n ≤ room → up_to room n ≡ n)
  up_to-cases true e = let q = up_to-in (leb-true n room e) in (λ h. omega arith, λ h. q)
  up_to-cases false e = let k = leb-false n room e in let q = up_to-over k in (λ h. k, λ h. absurd (omega arith))

  pub up_to-above : room < up_to room n → room < n
  up_to-above = (up_to-cases (nat_le n room) refl).0

  pub up_to-within : up_to room n ≤ room → up_to room n ≡ n
  up_to-within = (up_to-cases (nat_le n room) refl).1

-- Numbers up to the room, where k is their size

room-over : (room n : ℕ) (z : Size) → room / size_of z < n → room < n * size_of z
room-over room n One h = omega arith
room-over room n Two h = omega arith
room-over room n Four h = omega arith

room_in : (room n : ℕ) (z : Size) → n ≤ room / size_of z → n * size_of z ≤ room
room_in room n One h = omega arith
room_in room n Two h = omega arith
room_in room n Four h = omega arith

module _ (z : Size) (room n : ℕ) {k : ℕ} (e : k ≡ size_of z) where
  pub product-in : n ≤ room / k → n * k ≤ room
  product-in h = let q = ap (λ (j : ℕ). room / j) e in rw e (room_in room n z (omega arith))

  pub length-bytes_for-over : (l : List ℤ) → room / k < length l → room + 1 ≡ up_to room (length (bytes_for z l))
  length-bytes_for-over l h =
      let q = ap (λ (j : ℕ). room / j) e in
      let p = room-over room (length l) z (omega arith) in
      sym (up_to-over room (length (bytes_for z l)) (omega (arith, length-bytes_for z l)))

  pub length-bytes_for-in : (l : List ℤ) → n ≤ room / k → n ≡ length l → n * k ≡ up_to room (length (bytes_for z l))
  length-bytes_for-in l h q =
      let p : n * k ≡ length (bytes_for z l) = ap₂ (λ (i j : ℕ). i * j) q e ∙ sym (length-bytes_for z l) in
      p ∙ sym (up_to-in room (length (bytes_for z l)) (omega (arith, product-in h)))

-- How many numbers one value has

-- k limits and a rest
length-limits : (k : ℕ) (l r : ℤ) → length (replicate k l ++ (r ∷ [])) ≡ k + 1
length-limits k l r = length-append (replicate k l) (r ∷ []) ∙ ap (λ (n : ℕ). n + 1) (length-replicate k l)

module _ (z : Size) (u : ℕ) where
  pub length-pack_one-up : (x : ℤ) → FitsSigned w32 x → u ≡ of_z w32 x → u < 2147483648 → length (pack_one (upper z) (lower z) x) ≡ u / upper z + 1
  unfolding pack_one
  length-pack_one-up (pos n) f e h = length-limits (n / upper z) (pos (upper z)) (pos (n % upper z)) ∙ ap (λ (m : ℕ). m / upper z + 1) (sym e)
  length-pack_one-up (negsuc n) f e h = absurd (omega (arith, f.sfits))

  -- the size of a negative number, by its bits
  negative-size : (n : ℕ) → n < 2147483648 → u ≡ 4294967296 - suc n → (4294967296 - u) % 4294967296 ≡ suc n
  negative-size n h e = let q : 4294967296 - u ≡ suc n = omega arith in ap (λ (m : ℕ). m % 4294967296) q ∙ mod-eq_of_lt (omega arith)

  pub length-pack_one-down : (x : ℤ) → FitsSigned w32 x → u ≡ of_z w32 x → 2147483648 ≤ u → length (pack_one (upper z) (lower z) x) ≡ (4294967296 - u) % 4294967296 / lower z + 1
  unfolding pack_one
  length-pack_one-down (pos n) f e h = absurd (omega (arith, f.sfits))
  length-pack_one-down (negsuc n) f e h = length-limits (suc n / lower z) (neg_ℤ (pos (lower z))) (neg_ℤ (pos (suc n % lower z))) ∙ ap (λ (m : ℕ). m / lower z + 1) (sym (negative-size n f.sfits e))

-- How many numbers values have: at least one each

pub length-pack-more : (z : Size) (y : ℤ) (xs ys : List ℤ) → ys ≡ y ∷ xs → length (pack z ys) ≡ length (pack_one (upper z) (lower z) y) + length (pack z xs)
unfolding pack_all
length-pack-more z y xs ys e = ap (λ (l : List ℤ). length (pack z l)) e ∙ length-append (pack_one (upper z) (lower z) y) (pack z xs)

pub length-pack-none : (z : Size) (ys : List ℤ) → ys ≡ [] → length (pack z ys) ≡ 0
unfolding pack_all
length-pack-none z ys e = ap (λ (l : List ℤ). length (pack z l)) e

length-pack_one-least : (p q : ℕ) (x : ℤ) → 0 < length (pack_one p q x)
unfolding pack_one
length-pack_one-least p q (pos n) = let e = length-limits (n / p) (pos p) (pos (n % p)) in omega arith
length-pack_one-least p q (negsuc n) = let e = length-limits (suc n / q) (neg_ℤ (pos q)) (neg_ℤ (pos (suc n % q))) in omega arith

length-pack-least : (z : Size) (ys : List ℤ) → length ys ≤ length (pack z ys)
unfolding pack_all
length-pack-least z [] = omega arith
length-pack-least z (y ∷ ys) =
    let a = length-append (pack_one (upper z) (lower z) y) (pack z ys) in
    let b = length-pack_one-least (upper z) (lower z) y in
    let c = length-pack-least z ys in
    omega arith

pub length-pack-deltas : (z : Size) (d : Bool) (a : ℤ) (xs : List ℤ) (i : ℕ) → length xs - i ≤ length (pack z (deltas_from d a (drop i xs)))
length-pack-deltas z d a xs i =
    let p = length-pack-least z (deltas_from d a (drop i xs)) in
    let q = length-deltas d a (drop i xs) in
    let r = length-drop i xs in
    omega arith

-- The bytes of packed values by their bits

-- k limits and a rest, each by bits with the same low bytes
bits-parts : (z : Size) (k : ℕ) (l r : ℤ) (a b : ℕ) → bytes_of (size_of z) (of_z (width_of z) l) ≡ bytes_of (size_of z) a → bytes_of (size_of z) (of_z (width_of z) r) ≡ bytes_of (size_of z) b
    → bytes_for z (replicate k l ++ (r ∷ [])) ≡ bits_for z (replicate k a ++ (b ∷ []))
unfolding bits_for
bits-parts z zero l r a b p q = bytes_for-cons z r [] ∙ ap₂ (λ (s t : List ℕ). s ++ t) q (bytes_for-nil z)
bits-parts z (suc k) l r a b p q = bytes_for-cons z l (replicate k l ++ (r ∷ [])) ∙ ap₂ (λ (s t : List ℕ). s ++ t) p (bits-parts z k l r a b p q)

-- a number below 0 by its bits
neg_bits : (z : Size) (m : ℕ) → m ≤ lower z → bytes_of (size_of z) (of_z (width_of z) (neg_ℤ (pos m))) ≡ bytes_of (size_of z) ((4294967296 - m) % 4294967296)
neg_bits z zero h = refl
neg_bits z (suc m) h = sym (bytes_of-narrow z (negsuc m) h) ∙ ap (bytes_of (size_of z)) (sym (mod-eq_of_lt (omega arith)))

module _ (z : Size) (u : ℕ) where
  pub bytes-pack_one-up : (x : ℤ) → FitsSigned w32 x → u ≡ of_z w32 x → u < 2147483648 → bytes_for z (pack_one (upper z) (lower z) x) ≡ bits_for z (replicate (u / upper z) (upper z) ++ (u % upper z ∷ []))
  unfolding pack_one
  bytes-pack_one-up (pos n) f e h = bits-parts z (n / upper z) (pos (upper z)) (pos (n % upper z)) (upper z) (n % upper z) refl refl ∙ ap (λ (m : ℕ). bits_for z (replicate (m / upper z) (upper z) ++ (m % upper z ∷ []))) (sym e)
  bytes-pack_one-up (negsuc n) f e h = absurd (omega (arith, f.sfits))

  pub bytes-pack_one-down : (x : ℤ) (m : ℕ) → FitsSigned w32 x → u ≡ of_z w32 x → 2147483648 ≤ u → m ≡ (4294967296 - u) % 4294967296
      → bytes_for z (pack_one (upper z) (lower z) x) ≡ bits_for z (replicate (m / lower z) ((4294967296 - lower z) % 4294967296) ++ ((4294967296 - m % lower z) % 4294967296 ∷ []))
  unfolding pack_one
  bytes-pack_one-down (pos n) m f e h q = absurd (omega (arith, f.sfits))
  bytes-pack_one-down (negsuc n) m f e h q =
      let s = q ∙ negative-size z u n f.sfits e in
      let t = mod-lt (suc n) {m = lower z} (limits z).2 in
      bits-parts z (suc n / lower z) (neg_ℤ (pos (lower z))) (neg_ℤ (pos (suc n % lower z))) ((4294967296 - lower z) % 4294967296) ((4294967296 - suc n % lower z) % 4294967296) (neg_bits z (lower z) (omega arith)) (neg_bits z (suc n % lower z) (omega arith))
      ∙ ap (λ (i : ℕ). bits_for z (replicate (i / lower z) ((4294967296 - lower z) % 4294967296) ++ ((4294967296 - i % lower z) % 4294967296 ∷ []))) (sym s)

-- A value between the limits

abbrev Short : ℕ → ℕ → ℤ → Type 0
Short p q (pos n) = n < p
Short p q (negsuc n) = suc n < q

module _ (p q : ℕ) (p-small : p < 2147483648) (q-pos : 0 < q) (q-small : q ≤ 2147483648) where
  short : (u : ℕ) (x : ℤ) → FitsSigned w32 x → u ≡ of_z w32 x → (u + (q - 1)) % 4294967296 < p + (q - 1) → Short p q x
  short u (pos n) f e h = let k : (u + (q - 1)) % 4294967296 ≡ u + (q - 1) = mod-eq_of_lt (omega (arith, f.sfits)) in omega arith
  short u (negsuc n) f e h = by (nat_lt (suc n) q) refl
    where
      by : (t : Bool) → nat_lt (suc n) q ≡ t → suc n < q
      by true t = ltb-true (suc n) q t
      by false t =
          let l = ltb-false (suc n) q t in
          let k : (u + (q - 1)) % 4294967296 ≡ u + (q - 1) = mod-eq_of_lt (omega (arith, f.sfits)) in
          absurd (omega (arith, f.sfits))

pack_one-short : (p q : ℕ) (x : ℤ) → Short p q x → pack_one p q x ≡ x ∷ []
unfolding pack_one
pack_one-short p q (pos n) h = let d : n / p ≡ 0 = div-eq_of_lt h in let m : n % p ≡ n = mod-eq_of_lt h in rw (d, m)
pack_one-short p q (negsuc n) h = let d : suc n / q ≡ 0 = div-eq_of_lt h in let m : suc n % q ≡ suc n = mod-eq_of_lt h in rw (d, m)

short-bits : (z : Size) (x : ℤ) → Short (upper z) (lower z) x → bytes_of (size_of z) (of_z w32 x) ≡ bytes_of (size_of z) (of_z (width_of z) x)
short-bits z (pos n) h = refl
short-bits z (negsuc n) h = bytes_of-narrow z (negsuc n) (omega arith)

module _ (z : Size) (u low span : ℕ) (x : ℤ) (f : FitsSigned w32 x) (e : u ≡ of_z w32 x) (a : low ≡ lower z - 1) (b : span ≡ upper z + low) (h : ltb ((u + low) % 4294967296) span ≡ true) where
  is-short : Short (upper z) (lower z) x
  is-short = let l = limits z in short (upper z) (lower z) l.1 l.2 l.3 u x f e (ltb-true _ _ (rw (b, a) at h))

  pub length-pack_one-short : length (pack_one (upper z) (lower z) x) ≡ 1
  length-pack_one-short = ap length (pack_one-short (upper z) (lower z) x is-short)

  pub bytes-pack_one-short : bytes_for z (pack_one (upper z) (lower z) x) ≡ bytes_of (size_of z) u
  bytes-pack_one-short =
      ap (bytes_for z) (pack_one-short (upper z) (lower z) x is-short) ∙ bytes_for-cons z x [] ∙ ap (λ (l : List ℕ). bytes_of (size_of z) (of_z (width_of z) x) ++ l) (bytes_for-nil z) ∙ append-nil (bytes_of (size_of z) (of_z (width_of z) x))
      ∙ sym (short-bits z x is-short) ∙ ap (bytes_of (size_of z)) (sym e)

-- One number of the parts

pub limit-more : (z : Size) (k l : ℕ) (t : List ℕ) → 0 < k → Parts (bits_for z (replicate k l ++ t)) (bytes_of (size_of z) l) (bits_for z (replicate (k - 1) l ++ t))
unfolding bits_for
limit-more z zero l t h = absurd (omega arith)
limit-more z (suc k) l t h = let e : suc k - 1 ≡ k = omega arith in record { are = rw e }

pub rest-last : (z : Size) (k l r : ℕ) → k ≤ 0 → Parts (bits_for z (replicate k l ++ (r ∷ []))) (bytes_of (size_of z) r) []
unfolding bits_for
rest-last z zero l r h = record { are = refl }
rest-last z (suc k) l r h = absurd (omega arith)
