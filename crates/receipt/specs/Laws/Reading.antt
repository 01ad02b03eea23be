-- Reading: what is written is read back, whatever follows it, so that no bytes are two receipts and no bytes have two answers; the definition
-- gives the one there is. Assumes nothing.
use Rattle.std.specs.Prelude.{◌≡◌, refl, Result, Ok, Err, Bool, true, false, cond, ◌&&◌, List, [], ◌∷◌, ◌++◌, ◌↔◌, ℕ, length, drop}
use Rattle.std.proofs.Common.{sym, ap, subst, ◌∙◌, append_assoc, append-nil}
use Prim.Native.String as Text
use Rattle.refusal.specs.Table.{receipt_malformed}
use Rattle.numbers.specs.Laws.Tests.{clash, and_left, and_right}
use Rattle.text.specs.Equal.{equal, begins}
use Rattle.text.specs.Ascii.{ascii}
use Rattle.text.specs.Laws.Equal.{equal-true, false-equal, begins-append, begins-true}
use Rattle.receipt.specs.declared.Receipt.{Receipt}
use Rattle.receipt.specs.Receipt.{numbers_of, named_line, written, IsReceipt, Reads, is, none, rules_kept}
use Rattle.receipt.specs.Reading.{receipt_from, read_from, reading_of, line_numbers, has_front}
use Rattle.receipt.specs.Laws.Rules.{Small, AllSmall, allowed-small}
use Rattle.receipt.specs.Laws.Numbers.{plain, numbers-line}

-- a line before others that are read already
before : (name : Text.String) (n : ℕ) (rest ns : List ℕ) → plain (ascii name) ≡ true → Small n → line_numbers rest 0 ≡ ns → line_numbers (named_line name n ++ rest) 0 ≡ n ∷ ns
before name n rest ns h f q = numbers-line (ascii name) rest n h f ∙ ap (λ (l : List ℕ). n ∷ l) q

-- the lines, each before the rest
pub nested : (r : Receipt) (rest : List ℕ) → written r ++ rest ≡ named_line "station" r.station ++ (named_line "job" r.job ++ (named_line "verdict" r.verdict ++ (named_line "models" r.models
    ++ (named_line "chains" r.chains ++ (named_line "groups" r.groups ++ (named_line "atoms" r.atoms ++ (named_line "bonds" r.bonds
    ++ (named_line "fields" r.fields ++ (named_line "units" r.units ++ rest)))))))))
unfolding written
nested r rest = simp append_assoc

numbers-written : (r : Receipt) (rest : List ℕ) → AllSmall r → line_numbers (written r ++ rest) 0 ≡ numbers_of r ++ line_numbers rest 0
numbers-written r rest s =
    ap (λ (bs : List ℕ). line_numbers bs 0) (nested r rest)
    ∙ before "station" r.station _ _ refl s.station
    (before "job" r.job _ _ refl s.job
    (before "verdict" r.verdict _ _ refl s.verdict
    (before "models" r.models _ _ refl s.models
    (before "chains" r.chains _ _ refl s.chains
    (before "groups" r.groups _ _ refl s.groups
    (before "atoms" r.atoms _ _ refl s.atoms
    (before "bonds" r.bonds _ _ refl s.bonds
    (before "fields" r.fields _ _ refl s.fields
    (before "units" r.units _ _ refl s.units refl)))))))))

-- what is written is read back, whatever follows it
pub read-front : (r : Receipt) (rest : List ℕ) → rules_kept r ≡ true → read_from (written r ++ rest) ≡ r
unfolding read_from
read-front r rest h = ap receipt_from (numbers-written r rest (allowed-small r h))

pub read-written : (r : Receipt) → rules_kept r ≡ true → read_from (written r) ≡ r
read-written r h = ap read_from (sym (append-nil (written r))) ∙ read-front r [] h

pub read-receipt : {bytes : List ℕ} {r : Receipt} → IsReceipt bytes r → read_from bytes ≡ r
read-receipt {bytes} {r} i = ap read_from i.text ∙ read-written r i.rules

-- no bytes are two receipts
pub one-receipt : {bytes : List ℕ} {r s : Receipt} → IsReceipt bytes r → IsReceipt bytes s → r ≡ s
one-receipt i j = sym (read-receipt i) ∙ read-receipt j

-- no bytes have two answers
pub one-reading : {bytes : List ℕ} {x y : Result Receipt ℕ} → Reads bytes x → Reads bytes y → x ≡ y
one-reading (is i) (is j) = ap Ok (one-receipt i j)
one-reading (is {r} i) (none n) = absurd (n r i)
one-reading (none n) (is {r} j) = absurd (n r j)
one-reading (none m) (none n) = refl

-- the definition gives the answer: the numbers of the receipt that the bytes are, or 29 where they are none
pub reading_of-is : (bytes : List ℕ) → Reads bytes (reading_of bytes)
unfolding reading_of
reading_of-is bytes = go (rules_kept (read_from bytes)) refl (equal (written (read_from bytes)) bytes) refl
  where
    go : (a : Bool) → rules_kept (read_from bytes) ≡ a → (b : Bool) → equal (written (read_from bytes)) bytes ≡ b → Reads bytes (cond (a && b) (Ok (read_from bytes)) (Err receipt_malformed))
    go true e true f = is record { rules = e; text = sym (equal-true (written (read_from bytes)) bytes f) }
    go true e false f = none (λ r i. false-equal (written (read_from bytes)) bytes f (ap written (read-receipt i) ∙ sym i.text))
    go false e b f = none (λ r i. clash (sym e ∙ ap rules_kept (read-receipt i) ∙ i.rules))

-- so the numbers are read exactly when the bytes are their receipt
pub reading-exactly : (bytes : List ℕ) (r : Receipt) → (reading_of bytes ≡ Ok r) ↔ IsReceipt bytes r
reading-exactly bytes r = ((λ e. read_is (subst (Reads bytes) e (reading_of-is bytes))), (λ i. one-reading (reading_of-is bytes) (is i)))
  where
    read_is : Reads bytes (Ok r) → IsReceipt bytes r
    read_is (is i) = i

-- The front of bytes

-- a receipt with anything after it stands at the front
pub front_of : (r : Receipt) (rest : List ℕ) → rules_kept r ≡ true → has_front (written r ++ rest) ≡ true
unfolding has_front
front_of r rest h = rw (read-front r rest h, h) (begins-append (written r) rest)

-- where a receipt stands at the front, it keeps the rules, and the bytes are its text and what is left
module _ (bytes : List ℕ) (h : has_front bytes ≡ true) where
  pub front-rules : rules_kept (read_from bytes) ≡ true
  unfolding has_front
  front-rules = and_left (rules_kept (read_from bytes)) (begins (written (read_from bytes)) bytes) h

  pub front-text : bytes ≡ written (read_from bytes) ++ drop (length (written (read_from bytes))) bytes
  unfolding has_front
  front-text = begins-true (written (read_from bytes)) bytes (and_right (rules_kept (read_from bytes)) (begins (written (read_from bytes)) bytes) h)

-- where none stands, no receipt is there
pub no_front : (r : Receipt) (bytes rest : List ℕ) → has_front bytes ≡ false → rules_kept r ≡ true → bytes ≡ written r ++ rest → ⊥
no_front r bytes rest h k e = clash (sym h ∙ ap has_front e ∙ front_of r rest k)
