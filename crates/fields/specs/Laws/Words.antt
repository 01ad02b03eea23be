-- Strings of bytes that are compared four bytes at a time.
-- Assumes nothing.
use Rattle.std.specs.Prelude.{◌≡◌, refl, Bool, true, false, List, ◌++◌, ℕ, ◌+◌, ◌≤◌, eqb, length, take, drop}
use Rattle.std.proofs.Common.{sym, ap, subst, ◌∙◌, arith, take-add, take-take, take_all}
use borrow.Author.Tests.{eqb-true, eqb-false}
use Rattle.numbers.specs.BigEndian.{Bytes, number_of, bytes_of, unsigned_at}
use Rattle.numbers.specs.Laws.BigEndian.{bytes_of-number_of, part_bytes, unsigned_at-in}
use Rattle.text.specs.Equal.{equal}
use Rattle.text.specs.Laws.Equal.{equal-refl, equal-false}
use Rattle.heads.proofs.Laws.Span.{part_length_lem}

-- bytes that hold the same number, in as many bytes, are the same
number_same : (x y : List ℕ) → Bytes x → Bytes y → length x ≡ length y → number_of x ≡ number_of y → x ≡ y
number_same x y bx by l e = sym (bytes_of-number_of x bx) ∙ ap (λ (n : ℕ). bytes_of n (number_of x)) l ∙ ap (bytes_of (length y)) e ∙ bytes_of-number_of y by

pub words-not : (x y : List ℕ) (i : ℕ) → (unsigned_at 4 x i ≡ unsigned_at 4 y i → ⊥) → equal x y ≡ false
words-not x y i h = equal-false x y (λ e. h (ap (λ (z : List ℕ). unsigned_at 4 z i) e))

module _ (x y : List ℕ) (bx : Bytes x) (by : Bytes y) (same : length x ≡ length y) where
  word_same : (i : ℕ) → i + 4 ≤ length x → unsigned_at 4 x i ≡ unsigned_at 4 y i → take 4 (drop i x) ≡ take 4 (drop i y)
  word_same i le e =
      let f : i + 4 ≤ length y = omega arith in
      number_same (take 4 (drop i x)) (take 4 (drop i y)) (part_bytes x i 4 le bx) (part_bytes y i 4 f by) (part_length_lem x i 4 le ∙ sym (part_length_lem y i 4 f)) (sym (unsigned_at-in 4 x i le) ∙ e ∙ unsigned_at-in 4 y i f)

  pub words-next : (i : ℕ) → i + 4 ≤ length x → take i x ≡ take i y → unsigned_at 4 x i ≡ unsigned_at 4 y i → take (i + 4) x ≡ take (i + 4) y
  words-next i le h e = take-add i 4 x ∙ ap (λ (l : List ℕ). l ++ take 4 (drop i x)) h ∙ ap (λ (l : List ℕ). take i y ++ l) (word_same i le e) ∙ sym (take-add i 4 y)

  pub words-end : (i last : ℕ) → last + 4 ≡ length x → last ≤ i → take i x ≡ take i y → unsigned_at 4 x last ≡ unsigned_at 4 y last → equal x y ≡ true
  words-end i last whole le h e =
      let before : take last x ≡ take last y = sym (take-take last i x le) ∙ ap (take last) h ∙ take-take last i y le in
      let is : x ≡ y = sym (take_all (last + 4) x (omega arith)) ∙ words-next last (omega arith) before e ∙ take_all (last + 4) y (omega arith) in
      subst (λ (z : List ℕ). equal x z ≡ true) is (equal-refl x)

  -- the last word decides
  pub words-last : (i last : ℕ) → last + 4 ≡ length x → last ≤ i → take i x ≡ take i y → eqb (unsigned_at 4 x last) (unsigned_at 4 y last) ≡ equal x y
  words-last i last whole le h = go (eqb (unsigned_at 4 x last) (unsigned_at 4 y last)) refl
    where
      go : (t : Bool) → eqb (unsigned_at 4 x last) (unsigned_at 4 y last) ≡ t → t ≡ equal x y
      go true e = sym (words-end i last whole le h (eqb-true (unsigned_at 4 x last) (unsigned_at 4 y last) e))
      go false e = sym (words-not x y last (eqb-false (unsigned_at 4 x last) (unsigned_at 4 y last) e))
