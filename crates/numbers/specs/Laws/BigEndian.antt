-- Laws of big-endian numbers, once over their width: what is written is read back, and what is read is written so.
-- Assumes nothing.
use Rattle.std.specs.Prelude.{◌≡◌, refl, Bool, true, false, List, [], ◌∷◌, ◌++◌, ℕ, zero, suc, ◌+◌, ◌*◌, ◌/◌, ◌%◌, ◌^◌, ◌<◌, ◌≤◌, length, get_or, take, drop, set, ℤ}
use Rattle.std.proofs.Common.{sym, ap, ◌∙◌, append-nil, append_assoc, add-zero, add_assoc, pow-suc, mod-lt, mod-eq_of_lt, mul_assoc, div-one, div-add-mod', add-one, arith, lit<, take-append-drop, length-append, length-take, length-drop, get_or-take, get_or-drop, length-take-le, take-suc, drop-cons, drop-drop, take_at, drop_at, to_z-of_z, le-leb, leb-true, leb-false}
use Rattle.std.proofs.Math.Nat.{pow-zero, pow-succ', one-le-pow, mod-one, mul-add-mod_self_right, mul-add-div_right, div-div-eq-div-mul}
use Rattle.std.proofs.Math.Arith.{digits_lt, digits_div, mod-mul}
use Rattle.std.proofs.lemmas.List.{set_at}
use Rattle.std.specs.Int.{Width, w8, w16, w32, w64, w128}
use mir.Val.{bits, SFits, of_z}
use Rattle.std.proofs.Math.Facts.{Fits-of_z}
use Rattle.std.proofs.lemmas.Bool.{lt-leb}
use Rattle.numbers.specs.Steps.{Loaded}
use Rattle.numbers.specs.BigEndian.{Bytes, number_of, bytes_of, inside, unsigned_at, bytes_in, signed_at, written_at}

pow_pos : (k : ℕ) → 0 < 256 ^ k
pow_pos k = one-le-pow k 256 (lit< tt)

-- Bytes

pub head_byte : (x : ℕ) (xs : List ℕ) → Bytes (x ∷ xs) → x < 256
unfolding Bytes
head_byte x xs h = h 0 (omega arith)

pub tail-bytes : (x : ℕ) (xs : List ℕ) → Bytes (x ∷ xs) → Bytes xs
unfolding Bytes
tail-bytes x xs h i lt = h (suc i) (omega arith)

cons-bytes : (x : ℕ) (xs : List ℕ) → x < 256 → Bytes xs → Bytes (x ∷ xs)
unfolding Bytes
cons-bytes x xs b h zero lt = b
cons-bytes x xs b h (suc i) lt = h i (omega arith)

pub byte_at : (s : List ℕ) → Bytes s → (i : ℕ) → i < length s → get_or s i 0 < 256
unfolding Bytes
byte_at s h i lt = h i lt

-- what is a byte at every place is bytes
pub bytes-of : (s : List ℕ) → ((i : ℕ) → get_or s i 0 < 256) → Bytes s
unfolding Bytes
bytes-of s h i lt = h i

pub part_bytes : (s : List ℕ) (at k : ℕ) → at + k ≤ length s → Bytes s → Bytes (take k (drop at s))
unfolding Bytes
part_bytes s at k fits h i lt =
    let b : i < k = omega (arith, simp (length-take, length-drop) at lt) in
    rw (get_or-take, get_or-drop) (h (at + i) (omega arith))

pub drop-bytes : (k : ℕ) (s : List ℕ) → Bytes s → Bytes (drop k s)
unfolding Bytes
drop-bytes k s h i lt = rw get_or-drop (h (k + i) (omega (arith, length-drop k s)))

-- bytes_of

pub length-bytes_of : (k n : ℕ) → length (bytes_of k n) ≡ k
unfolding bytes_of
length-bytes_of zero n = refl
length-bytes_of (suc k) n = ap suc (length-bytes_of k n)

pub bytes_of-Bytes : (k n : ℕ) → Bytes (bytes_of k n)
unfolding bytes_of Bytes
bytes_of-Bytes zero n = λ i lt. absurd (omega arith)
bytes_of-Bytes (suc k) n = cons-bytes ((n / 256 ^ k) % 256) (bytes_of k n) (mod-lt (n / 256 ^ k) (lit< tt)) (bytes_of-Bytes k n)

-- one byte more, at the low end
pub bytes_of-snoc : (k n : ℕ) → bytes_of (suc k) n ≡ bytes_of k (n / 256) ++ (n % 256 ∷ [])
unfolding bytes_of
bytes_of-snoc zero n = rw (div-one n)
bytes_of-snoc (suc k) n =
    let e : n / 256 ^ suc k ≡ n / 256 / 256 ^ k = rw (pow-succ' 256 k, div-div-eq-div-mul n 256 (256 ^ k)) in
    rw (e, bytes_of-snoc k n)

-- what is above the k bytes is not written
pub bytes_of-above : (k q n : ℕ) → bytes_of k (q * 256 ^ k + n) ≡ bytes_of k n
unfolding bytes_of
bytes_of-above zero q n = refl
bytes_of-above (suc k) q n =
    let e : q * 256 ^ suc k ≡ q * 256 * 256 ^ k = rw (pow-succ' 256 k, mul_assoc) in
    rw (e, mul-add-div_right (pow_pos k) (q * 256) n, mul-add-mod_self_right q 256 (n / 256 ^ k), bytes_of-above k (q * 256) n)

-- only the low bytes of a number are written
pub bytes_of_mod : (k n : ℕ) → bytes_of k (n % 256 ^ k) ≡ bytes_of k n
bytes_of_mod k n = sym (bytes_of-above k (n / 256 ^ k) (n % 256 ^ k)) ∙ ap (bytes_of k) (div-add-mod' n (256 ^ k))

-- number_of

pub number_of-bound : (xs : List ℕ) → Bytes xs → number_of xs < 256 ^ length xs
unfolding number_of
number_of-bound [] h = lit< tt
number_of-bound (x ∷ xs) h = rw (pow-succ' 256 (length xs)) (digits_lt (head_byte x xs h) (number_of-bound xs (tail-bytes x xs h)))

-- k bytes hold what is left of a larger number
pub number_of-bytes_of-mod : (k n : ℕ) → number_of (bytes_of k n) ≡ n % 256 ^ k
unfolding number_of bytes_of
number_of-bytes_of-mod zero n = sym (rw (pow-zero 256) (mod-one n))
number_of-bytes_of-mod (suc k) n =
    rw (length-bytes_of k n, number_of-bytes_of-mod k n, pow-succ' 256 k) (sym (mod-mul n (lit< tt) (pow_pos k)))

pub number_of-bytes_of : (k n : ℕ) → n < 256 ^ k → number_of (bytes_of k n) ≡ n
number_of-bytes_of k n h = number_of-bytes_of-mod k n ∙ mod-eq_of_lt h

pub bytes_of-number_of : (xs : List ℕ) → Bytes xs → bytes_of (length xs) (number_of xs) ≡ xs
unfolding number_of bytes_of
bytes_of-number_of [] h = refl
bytes_of-number_of (x ∷ xs) h =
    let b : number_of xs < 256 ^ length xs = number_of-bound xs (tail-bytes x xs h) in
    rw (digits_div x b, mod-eq_of_lt (head_byte x xs h), bytes_of-above (length xs) x (number_of xs), bytes_of-number_of xs (tail-bytes x xs h))

-- one byte more, at the low end
pub number_of-snoc : (xs : List ℕ) (x : ℕ) → number_of (xs ++ (x ∷ [])) ≡ number_of xs * 256 + x
unfolding number_of
number_of-snoc [] x = omega arith
number_of-snoc (y ∷ xs) x =
    let e : y * 256 ^ (length xs + 1) ≡ y * 256 ^ length xs * 256 = rw (add-one, pow-suc 256 (length xs), mul_assoc) in
    rw (length-append xs (x ∷ []), number_of-snoc xs x) (omega arith)

-- unsigned_at

pub unsigned_at-in : (k : ℕ) (s : List ℕ) (at : ℕ) → at + k ≤ length s → unsigned_at k s at ≡ number_of (take k (drop at s))
unfolding unsigned_at
unsigned_at-in k s at h = rw (le-leb (at + k) (length s) h)

pub unsigned_at-out : (k : ℕ) (s : List ℕ) (at : ℕ) → length s < at + k → unsigned_at k s at ≡ 0
unfolding unsigned_at
unsigned_at-out k s at h = rw (lt-leb (at + k) (length s) h)

-- k bytes loaded one after the other, as code does, hold the number
abbrev pub loads : ℕ → List ℕ → ℕ → ℕ
loads zero s at = 0
loads (suc k) s at = loads k s at * 256 + get_or s (at + k) 0

pub unsigned_at-loads : (k : ℕ) (s : List ℕ) (at : ℕ) → at + k ≤ length s → unsigned_at k s at ≡ loads k s at
unfolding number_of
unsigned_at-loads zero s at h = unsigned_at-in 0 s at h
unsigned_at-loads (suc k) s at h =
    let b : k < length (drop at s) = simp length-drop (omega arith) in
    let e : number_of (take k (drop at s)) ≡ loads k s at = sym (unsigned_at-in k s at (omega arith)) ∙ unsigned_at-loads k s at (omega arith) in
    unsigned_at-in (suc k) s at h
    ∙ rw (take-suc (drop at s) k 0 b, get_or-drop at s k 0) (number_of-snoc (take k (drop at s)) (get_or s (at + k) 0) ∙ rw e)

-- one byte, and one more at the low end of those that are loaded
pub loaded-one : (s : List ℕ) (at i a : ℕ) → a ≡ get_or s (at + i) 0 → a < 256 → Loaded 1 s at i a
loaded-one s at i a e h = (omega arith, omega arith)

pub loaded-more : (k : ℕ) (s : List ℕ) (at i n a : ℕ) → a ≡ get_or s (at + i) 0 → a < 256 → Loaded k s at (suc i) n → Loaded (suc k) s at i (n * 256 + a)
loaded-more k s at i n a e h l =
    let q : (n * 256 + a) / 256 ≡ n = omega arith in
    (omega arith, rw q l)

-- a number inside a part is read as in the whole

module _ (s : List ℕ) (a m : ℕ) (le : a + m ≤ length s) where
  loads-part : (k i : ℕ) → i + k ≤ m → loads k (take m (drop a s)) i ≡ loads k s (a + i)
  loads-part zero i h = refl
  loads-part (suc k) i h =
      let b : get_or (take m (drop a s)) (i + k) 0 ≡ get_or s (a + i + k) 0 = get_or-take m (drop a s) (i + k) 0 (omega arith) ∙ get_or-drop a s (i + k) 0 ∙ ap (λ (j : ℕ). get_or s j 0) (sym (add_assoc a i k)) in
      rw (loads-part k i (omega arith), b)

pub unsigned_at-part : (k : ℕ) (s : List ℕ) (a m i : ℕ) → a + m ≤ length s → i + k ≤ m → unsigned_at k (take m (drop a s)) i ≡ unsigned_at k s (a + i)
unsigned_at-part k s a m i le h =
    let l : length (take m (drop a s)) ≡ m = simp (length-take, length-drop) (omega arith) in
    unsigned_at-loads k (take m (drop a s)) i (rw l h) ∙ loads-part s a m le k i h ∙ sym (unsigned_at-loads k s (a + i) (omega arith))

-- written_at

pub written_at-in : (k : ℕ) (s : List ℕ) (at n : ℕ) → at + k ≤ length s → written_at k s at n ≡ take at s ++ bytes_of k n ++ drop (at + k) s
unfolding written_at
written_at-in k s at n h = rw (le-leb (at + k) (length s) h)

pub written_at-out : (k : ℕ) (s : List ℕ) (at n : ℕ) → length s < at + k → written_at k s at n ≡ s
unfolding written_at
written_at-out k s at n h = rw (lt-leb (at + k) (length s) h)

pub length-written_at : (k : ℕ) (s : List ℕ) (at n : ℕ) → length (written_at k s at n) ≡ length s
length-written_at k s at n = by-test (inside k s at) refl
  where
    by-test : (b : Bool) → inside k s at ≡ b → length (written_at k s at n) ≡ length s
    by-test true e =
        let h : at + k ≤ length s = leb-true (at + k) (length s) e in
        let l : length (take at s) ≡ at = length-take-le at s (omega arith) in
        rw (written_at-in k s at n h) (simp (length-append, length-bytes_of, length-drop) (omega arith))
    by-test false e = ap length (written_at-out k s at n (leb-false (at + k) (length s) e))

-- k bytes stored one after the other, as code does, are the written ones
abbrev pub stores : ℕ → List ℕ → ℕ → ℕ → List ℕ
stores zero s at n = s
stores (suc k) s at n = set (stores k s at (n / 256)) (at + k) (n % 256)

pub written_at-stores : (k : ℕ) (s : List ℕ) (at n : ℕ) → at + k ≤ length s → written_at k s at n ≡ stores k s at n
unfolding bytes_of
written_at-stores zero s at n h = written_at-in zero s at n h ∙ rw (append-nil, add-zero) (take-append-drop at s)
written_at-stores (suc k) s at n h =
    let l : length (take at s ++ bytes_of k (n / 256)) ≡ at + k = length-append (take at s) (bytes_of k (n / 256)) ∙ rw (length-take-le at s (omega arith), length-bytes_of k (n / 256)) in
    let b : at + k < length s = omega arith in
    let e : at + suc k ≡ suc (at + k) = omega arith in
    let f : stores k s at (n / 256) ≡ take at s ++ bytes_of k (n / 256) ++ (get_or s (at + k) 0 ∷ drop (suc (at + k)) s) =
    sym (written_at-stores k s at (n / 256) (omega arith)) ∙ written_at-in k s at (n / 256) (omega arith) ∙ rw (drop-cons s (at + k) 0 b) in
    written_at-in (suc k) s at n h
    ∙ rw (f, set_at (take at s ++ bytes_of k (n / 256)) (get_or s (at + k) 0) (drop (suc (at + k)) s) (n % 256) (at + k) l, bytes_of-snoc k n, e)
    (simp append_assoc)

-- what was written is read back
pub unsigned_at-written_at : (k : ℕ) (s : List ℕ) (at n : ℕ) → at + k ≤ length s → n < 256 ^ k → unsigned_at k (written_at k s at n) at ≡ n
unsigned_at-written_at k s at n h b =
    let l : length (take at s) ≡ at = length-take-le at s (omega arith) in
    unsigned_at-in k (written_at k s at n) at (rw (length-written_at k s at n) h)
    ∙ rw (written_at-in k s at n h, append_assoc, drop_at (take at s) (bytes_of k n ++ drop (at + k) s) at l, take_at (bytes_of k n) (drop (at + k) s) k (length-bytes_of k n))
    (number_of-bytes_of k n b)

-- the numbers of a width are those of its bytes
pow-bytes_in : (w : Width) → 2 ^ bits w ≡ 256 ^ bytes_in w
pow-bytes_in w8 = refl
pow-bytes_in w16 = refl
pow-bytes_in w32 = refl
pow-bytes_in w64 = refl
pow-bytes_in w128 = refl

pub signed_at-written_at : (w : Width) (s : List ℕ) (at : ℕ) (z : ℤ) → at + bytes_in w ≤ length s → SFits w z → signed_at w (written_at (bytes_in w) s at (of_z w z)) at ≡ z
unfolding signed_at
signed_at-written_at w s at z h f =
    let b : of_z w z < 256 ^ bytes_in w = rw (pow-bytes_in w) at (Fits-of_z {w = w} f).fits in
    rw (unsigned_at-written_at (bytes_in w) s at (of_z w z) h b) (to_z-of_z {w = w} f)

-- Numbers in joined lists

-- a number of k bytes behind others
pub unsigned_at-behind : (k n at : ℕ) (a b : List ℕ) → length a ≡ at → n < 256 ^ k → unsigned_at k (a ++ (bytes_of k n ++ b)) at ≡ n
unsigned_at-behind k n at a b l h =
    let g = length-bytes_of k n in
    let i : at + k ≤ length (a ++ (bytes_of k n ++ b)) = simp length-append (omega arith) in
    unsigned_at-in k (a ++ (bytes_of k n ++ b)) at i ∙ rw (drop_at a (bytes_of k n ++ b) at l, take_at (bytes_of k n) b k g) (number_of-bytes_of k n h)

-- a number that is read is written so before what follows it
pub bytes_of-unsigned_at : (s : List ℕ) → Bytes s → (k at : ℕ) → at + k ≤ length s → bytes_of k (unsigned_at k s at) ++ drop (at + k) s ≡ drop at s
bytes_of-unsigned_at s b k at h =
    let l : length (take k (drop at s)) ≡ k = length-take-le k (drop at s) (rw length-drop (omega arith)) in
    let e : bytes_of k (number_of (take k (drop at s))) ≡ take k (drop at s) = rw l at (bytes_of-number_of (take k (drop at s)) (part_bytes s at k h b)) in
    rw (unsigned_at-in k s at h, e, ← drop-drop k at s) (take-append-drop k (drop at s))

-- a number behind others that are left out
pub unsigned_at-drop : (k : ℕ) (s : List ℕ) (at i : ℕ) → at + i + k ≤ length s → unsigned_at k (drop at s) i ≡ unsigned_at k s (at + i)
unsigned_at-drop k s at i h =
    let l = length-drop at s in
    unsigned_at-in k (drop at s) i (omega arith) ∙ ap (λ (t : List ℕ). number_of (take k t)) (drop-drop i at s) ∙ sym (unsigned_at-in k s (at + i) h)
