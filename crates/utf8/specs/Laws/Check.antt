-- The check at a place of the bytes: what a lead byte asks, one byte on, and the end. Assumes nothing.
use Rattle.std.specs.Prelude.{◌≡◌, refl, Bool, true, false, ◌&&◌, ◌≢◌, List, [], ◌∷◌, ℕ, zero, suc, ◌+◌, ◌<◌, ◌≤◌, length, drop, get_or, ltb}
use Rattle.std.proofs.Math.Path.{ap}
use Rattle.std.proofs.Common.{◌∙◌, add-one, arith, drop_of_length-le, drop-cons}
use borrow.Author.Tests.{ltb-true, lt-ltb, le-ltb, lt-leb, le-leb, ne_eqb}
use Rattle.std.proofs.Math.Dec.{eqb-suc-zero}
use Rattle.std.specs.List.{list_all}
use Rattle.numbers.specs.Ranges.{within}
use Rattle.utf8.specs.Check.{is_lead, following, lowest, highest, due, is_utf8, is_ascii}

-- what a byte is, by its range
module _ (b : ℕ) where
  pub is_lead-one : b < 0x80 → is_lead b ≡ true
  unfolding is_lead
  is_lead-one h = simp (lt-ltb b 0x80 h)

  pub is_lead-more : 0xc2 ≤ b → b ≤ 0xf4 → is_lead b ≡ true
  unfolding is_lead
  is_lead-more l h = simp (le-ltb b 0x80 (omega arith), le-leb 0xc2 b l, le-leb b 0xf4 h)

  pub is_lead-low : 0x80 ≤ b → b < 0xc2 → is_lead b ≡ false
  unfolding is_lead
  is_lead-low l h = simp (le-ltb b 0x80 l, lt-leb 0xc2 b h)

  pub is_lead-high : 0xf4 < b → is_lead b ≡ false
  unfolding is_lead
  is_lead-high h = simp (le-ltb b 0x80 (omega arith), le-leb 0xc2 b (omega arith), lt-leb b 0xf4 h)

  pub following-one : b < 0x80 → following b ≡ 0
  unfolding following
  following-one h = simp (lt-ltb b 0x80 h)

  pub following-two : 0x80 ≤ b → b < 0xe0 → following b ≡ 1
  unfolding following
  following-two l h = simp (le-ltb b 0x80 l, lt-ltb b 0xe0 h)

  pub following-three : 0xe0 ≤ b → b < 0xf0 → following b ≡ 2
  unfolding following
  following-three l h = simp (le-ltb b 0x80 (omega arith), le-ltb b 0xe0 l, lt-ltb b 0xf0 h)

  pub following-four : 0xf0 ≤ b → following b ≡ 3
  unfolding following
  following-four l = simp (le-ltb b 0x80 (omega arith), le-ltb b 0xe0 (omega arith), le-ltb b 0xf0 l)

  pub lowest-plain : b ≢ 0xe0 → b ≢ 0xf0 → lowest b ≡ 0x80
  unfolding lowest
  lowest-plain p q = simp (ne_eqb b 0xe0 p, ne_eqb b 0xf0 q)

  pub highest-plain : b ≢ 0xed → b ≢ 0xf4 → highest b ≡ 0xbf
  unfolding highest
  highest-plain p q = simp (ne_eqb b 0xed p, ne_eqb b 0xf4 q)

-- the check from a place

pub due-zero : (lo hi : ℕ) (s : List ℕ) → due 0 lo hi s ≡ is_utf8 s
unfolding due
due-zero lo hi [] = refl
due-zero lo hi (b ∷ s) = refl

module _ (s : List ℕ) (i : ℕ) where
  pub lead-at : i < length s → is_utf8 (drop i s) ≡ (is_lead (get_or s i 0) && due (following (get_or s i 0)) (lowest (get_or s i 0)) (highest (get_or s i 0)) (drop (i + 1) s))
  unfolding due
  lead-at h = rw (add-one i) (ap is_utf8 (drop-cons s i 0 h))

  pub due-at : (k lo hi : ℕ) → i < length s → due (suc k) lo hi (drop i s) ≡ (within lo hi (get_or s i 0) && due k 0x80 0xbf (drop (i + 1) s))
  unfolding due
  due-at k lo hi h = rw (add-one i) (ap (due (suc k) lo hi) (drop-cons s i 0 h))

  pub due-end : (k lo hi : ℕ) → length s ≤ i → due (suc k) lo hi (drop i s) ≡ false
  unfolding due
  due-end k lo hi h = ap (due (suc k) lo hi) (drop_of_length-le s h) ∙ eqb-suc-zero k

  -- a byte below 80 is a character
  pub ascii-at : i < length s → get_or s i 0 < 0x80 → is_utf8 (drop i s) ≡ is_utf8 (drop (i + 1) s)
  ascii-at h a = lead-at h ∙ simp (is_lead-one _ a, following-one _ a) (due-zero _ _ _)

-- so is each of a run of such bytes
pub ascii_run : (s : List ℕ) (i n : ℕ) → i + n ≤ length s → ((j : ℕ) → j < n → get_or s (i + j) 0 < 0x80) → is_utf8 (drop i s) ≡ is_utf8 (drop (i + n) s)
ascii_run s i zero h a = let e : i + 0 ≡ i = omega arith in rw e
ascii_run s i (suc n) h a =
    let e : i + n + 1 ≡ i + suc n = omega arith in
    ascii_run s i n (omega arith) (λ j l. a j (omega arith)) ∙ ascii-at s (i + n) (omega arith) (a n (omega arith)) ∙ rw e

-- bytes below 80

pub is_ascii-is_utf8 : (s : List ℕ) → is_ascii s ≡ true → is_utf8 s ≡ true
unfolding is_ascii due
is_ascii-is_utf8 [] h = refl
is_ascii-is_utf8 (b ∷ s) h = go (ltb b 0x80) refl h (is_ascii-is_utf8 s)
  where
    go : (t : Bool) → ltb b 0x80 ≡ t → t && is_ascii s ≡ true → (is_ascii s ≡ true → is_utf8 s ≡ true) → is_utf8 (b ∷ s) ≡ true
    go true e k rest = ascii-at (b ∷ s) 0 (omega arith) (ltb-true b 0x80 e) ∙ rest k
    go false e k rest = let z : ◌≡◌ {A = ℕ} 0 1 = cc in absurd (omega arith)

-- the test of each byte
pub list_all-is_ascii : (s : List ℕ) → list_all (λ b. ltb b 0x80) s ≡ is_ascii s
unfolding is_ascii
list_all-is_ascii [] = refl
list_all-is_ascii (b ∷ s) = ap (λ (t : Bool). ltb b 0x80 && t) (list_all-is_ascii s)

-- one byte at a time: what is left decides
module _ (s : List ℕ) (i : ℕ) where
  pub is_ascii-next : i < length s → get_or s i 0 < 0x80 → is_ascii (drop i s) ≡ is_ascii (drop (i + 1) s)
  unfolding is_ascii
  is_ascii-next h a = rw (drop-cons s i 0 h, lt-ltb _ 0x80 a, add-one)

  pub is_ascii-not : i < length s → 0x80 ≤ get_or s i 0 → is_ascii (drop i s) ≡ false
  unfolding is_ascii
  is_ascii-not h a = rw (drop-cons s i 0 h, le-ltb _ 0x80 a)

  pub is_ascii-end : length s ≤ i → is_ascii (drop i s) ≡ true
  unfolding is_ascii
  is_ascii-end h = rw (drop_of_length-le s h)
