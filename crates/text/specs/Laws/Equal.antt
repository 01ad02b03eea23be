-- Laws of the test of equal bytes: it tells what is equal, and what is left from a place on decides. Assumes nothing.
use Rattle.std.specs.Prelude.{◌≡◌, refl, Bool, true, false, ◌&&◌, List, [], ◌∷◌, ◌++◌, ℕ, ◌+◌, ◌-◌, ◌<◌, ◌≤◌, min, eqb, leb, length, get_or, take, drop}
use Rattle.std.proofs.Common.{sym, ap, ap₂, ◌∙◌, add-one, arith, leb-true, leb-false, drop_of_length-le, length-take, take-append-drop}
use Rattle.std.proofs.Math.Seq.{drop-cons, take-nil, take-append_seam}
use borrow.Author.Tests.{eqb-true, eq-eqb, ne_eqb}
use Rattle.std.specs.Cmp.Lexicographic.{pointwise}
use Rattle.std.proofs.lemmas.Bool.Decides.{same_from_decides, Decides-eqb}
use Rattle.std.proofs.lemmas.Slice.{between_to_end}
use Rattle.std.proofs.lemmas.Slice.Eq.{slice_eq-Decides}
use Rattle.text.specs.Equal.{equal, begins}

pub equal-true : (x y : List ℕ) → equal x y ≡ true → x ≡ y
unfolding equal
equal-true [] [] h = refl
equal-true [] (b ∷ y) h = let z : ◌≡◌ {A = ℕ} 0 1 = cc in absurd (omega arith)
equal-true (a ∷ x) [] h = let z : ◌≡◌ {A = ℕ} 0 1 = cc in absurd (omega arith)
equal-true (a ∷ x) (b ∷ y) h = go (eqb a b) refl h (equal-true x y)
  where
    go : (t : Bool) → eqb a b ≡ t → t && equal x y ≡ true → (equal x y ≡ true → x ≡ y) → ◌≡◌ {A = List ℕ} (a ∷ x) (b ∷ y)
    go true e k r = ap₂ (λ (i : ℕ) (l : List ℕ). i ∷ l) (eqb-true a b e) (r k)
    go false e k r = let z : ◌≡◌ {A = ℕ} 0 1 = cc in absurd (omega arith)

pub equal-refl : (x : List ℕ) → equal x x ≡ true
unfolding equal
equal-refl [] = refl
equal-refl (a ∷ x) = rw (eq-eqb a a refl) (equal-refl x)

pub equal-false : (x y : List ℕ) → (x ≡ y → ⊥) → equal x y ≡ false
equal-false x y h = go (equal x y) refl
  where
    go : (t : Bool) → equal x y ≡ t → equal x y ≡ false
    go true e = absurd (h (equal-true x y e))
    go false e = e

-- different lists are not equal
pub false-equal : (x y : List ℕ) → equal x y ≡ false → x ≡ y → ⊥
false-equal x y h e = let t : equal x y ≡ true = rw e (equal-refl y) in let z : ◌≡◌ {A = ℕ} 0 1 = cc in omega arith

-- `==` of two slices is this test, also the other way round
pub pointwise-equal : (x y : List ℕ) → pointwise eqb x y ≡ equal x y
pointwise-equal x y = same_from_decides _ _ (slice_eq-Decides Decides-eqb x y _ refl) ((λ h. equal-true x y h), (λ e. rw e (equal-refl y)))

pub pointwise-swapped : (x y : List ℕ) → pointwise eqb x y ≡ equal y x
pointwise-swapped x y = same_from_decides _ _ (slice_eq-Decides Decides-eqb x y _ refl) ((λ h. sym (equal-true y x h)), (λ e. rw e (equal-refl y)))

-- lists of different lengths are not equal
pub equal-lengths : (x y : List ℕ) → (length x ≡ length y → ⊥) → equal x y ≡ false
equal-lengths x y h = equal-false x y (λ e. h (ap length e))

-- two lists, one place at a time: what is left from a place on decides
module _ (x y : List ℕ) (i : ℕ) (lx : i < length x) (ly : i < length y) where
  pub equal_next : get_or x i 0 ≡ get_or y i 0 → equal (drop i x) (drop i y) ≡ equal (drop (i + 1) x) (drop (i + 1) y)
  unfolding equal
  equal_next e = rw (drop-cons x i 0 lx, drop-cons y i 0 ly, eq-eqb _ _ e, add-one)

  pub equal-not : (get_or x i 0 ≡ get_or y i 0 → ⊥) → equal (drop i x) (drop i y) ≡ false
  unfolding equal
  equal-not e = rw (drop-cons x i 0 lx, drop-cons y i 0 ly, ne_eqb _ _ e)

pub equal-end : (x y : List ℕ) (i : ℕ) → length x ≤ i → length y ≤ i → equal (drop i x) (drop i y) ≡ true
unfolding equal
equal-end x y i lx ly = rw (drop_of_length-le x lx, drop_of_length-le y ly)

-- begins

-- a word and anything after it begin with the word
pub begins-append : (word rest : List ℕ) → begins word (word ++ rest) ≡ true
begins-append word rest = rw (take-append_seam word rest) (equal-refl word)

-- bytes that begin with a word are the word and what is left
pub begins-true : (word bytes : List ℕ) → begins word bytes ≡ true → bytes ≡ word ++ drop (length word) bytes
begins-true word bytes h =
    sym (take-append-drop (length word) bytes) ∙ ap (λ (l : List ℕ). l ++ drop (length word) bytes) (equal-true (take (length word) bytes) word h)

-- the word is no longer than the bytes
pub begins-fits : (word bytes : List ℕ) → begins word bytes ≡ true → length word ≤ length bytes
begins-fits word bytes h = omega (arith, length-take (length word) bytes, ap length (equal-true (take (length word) bytes) word h))

-- past the end there are no bytes
begins-none : (word s : List ℕ) (at : ℕ) → length s ≤ at → begins word (drop at s) ≡ equal [] word
begins-none word s at h = rw (drop_of_length-le s h, take-nil)

-- a word that is longer than what is left does not stand there
pub begins-long : (word s : List ℕ) (at : ℕ) → length (drop at s) < length word → begins word (drop at s) ≡ false
begins-long word s at h = equal-lengths (take (length word) (drop at s)) word (λ e. omega (arith, length-take (length word) (drop at s)))

-- whether a word is empty, by its length
empty-test : (word : List ℕ) → eqb (length word) 0 ≡ equal [] word
unfolding equal
empty-test [] = refl
empty-test (b ∷ word) = ne_eqb (length (b ∷ word)) 0 (λ e. omega arith)

-- past the end only the empty word stands
pub begins-past : (word s : List ℕ) (at : ℕ) → length s ≤ at → eqb (length word) 0 ≡ begins word (drop at s)
begins-past word s at h = empty-test word ∙ sym (begins-none word s at h)

-- `starts_with` of what is left from a place on is this test; past the end nothing is left
pub starts-begins : (word s : List ℕ) (at m : ℕ) → m ≡ min at (length s)
    → pointwise eqb word (take (length word) (take (length s - m) (drop m s))) ≡ begins word (drop at s)
starts-begins word s at m e =
    ap (λ (l : List ℕ). pointwise eqb word (take (length word) l)) (between_to_end s m (length s) (omega arith) ∙ left (leb at (length s)) refl)
    ∙ pointwise-swapped word (take (length word) (drop at s))
  where
    left : (t : Bool) → leb at (length s) ≡ t → drop m s ≡ drop at s
    left true h = let l = leb-true at (length s) h in let q : m ≡ at = omega arith in rw q
    left false h = let l = leb-false at (length s) h in drop_of_length-le s {i = m} (omega arith) ∙ sym (drop_of_length-le s {i = at} (omega arith))
