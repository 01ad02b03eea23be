-- Laws of runs: how long they are, what stands at the front of bytes, and that no bytes are runs of two lists. Assumes nothing.
use Rattle.std.specs.Prelude.{◌≡◌, ℕ, zero, suc, ◌+◌, ◌-◌, ◌*◌, ◌≤◌, Bool, true, false, cond, List, [], ◌∷◌, ◌++◌, length, drop, refl}
use Rattle.std.proofs.Common.{sym, ap, ap₂, ◌∙◌, append_assoc, append-nil, arith, length-append, drop_at}
use Rattle.numbers.specs.Laws.Tests.{and_left, and_right, and_both}
use Rattle.receipt.specs.declared.Receipt.{Receipt}
use Rattle.receipt.specs.Receipt.{written, rules_kept}
use Rattle.receipt.specs.Reading.{read_from, has_front}
use Rattle.receipt.specs.Laws.Rules.{written-least}
use Rattle.receipt.specs.Laws.Reading.{read-front, front_of, front-rules, front-text}
use Rattle.bill.specs.Run.{texts, all_kept, IsRun}
use Rattle.bill.specs.Answer.{receipts_in, front_receipts}

-- texts

pub texts-append : (rs ts : List Receipt) → texts (rs ++ ts) ≡ texts rs ++ texts ts
unfolding texts
texts-append [] ts = refl
texts-append (r ∷ rs) ts = ap (λ (l : List ℕ). written r ++ l) (texts-append rs ts) ∙ sym (append_assoc (written r) (texts rs) (texts ts))

-- one receipt more
pub texts-one : (r : Receipt) → texts (r ∷ []) ≡ written r
unfolding texts
texts-one r = append-nil (written r)

-- each receipt has at least 86 bytes
pub texts-least : (rs : List Receipt) → 86 * length rs ≤ length (texts rs)
unfolding texts
texts-least [] = omega arith
texts-least (r ∷ rs) = omega (arith, texts-least rs, written-least r, length-append (written r) (texts rs))

-- all_kept

pub kept_append : (rs ts : List Receipt) → all_kept rs ≡ true → all_kept ts ≡ true → all_kept (rs ++ ts) ≡ true
unfolding all_kept
kept_append [] ts h k = k
kept_append (r ∷ rs) ts h k = and_both (rules_kept r) (all_kept (rs ++ ts)) (and_left (rules_kept r) (all_kept rs) h) (kept_append rs ts (and_right (rules_kept r) (all_kept rs) h) k)

pub kept-one : (r : Receipt) → rules_kept r ≡ true → all_kept (r ∷ []) ≡ true
unfolding all_kept
kept-one r h = and_both (rules_kept r) true h refl

pub kept-first : (r : Receipt) (rs : List Receipt) → all_kept (r ∷ rs) ≡ true → rules_kept r ≡ true
unfolding all_kept
kept-first r rs h = and_left (rules_kept r) (all_kept rs) h

pub kept-rest : (r : Receipt) (rs : List Receipt) → all_kept (r ∷ rs) ≡ true → all_kept rs ≡ true
unfolding all_kept
kept-rest r rs h = and_right (rules_kept r) (all_kept rs) h

-- receipts_in

-- one that is written at the front, and those after it
receipts-more : (r : Receipt) (rest : List ℕ) (k : ℕ) → rules_kept r ≡ true → receipts_in (suc k) (written r ++ rest) ≡ r ∷ receipts_in k rest
unfolding receipts_in
receipts-more r rest k g = rw (front_of r rest g, read-front r rest g, drop_at (written r) rest (length (written r)) refl)

-- those that are written at the front, and those after them
pub receipts-texts : (rs : List Receipt) (rest : List ℕ) (k : ℕ) → all_kept rs ≡ true → receipts_in (length rs + k) (texts rs ++ rest) ≡ rs ++ receipts_in k rest
unfolding texts
receipts-texts [] rest k h = let e : 0 + k ≡ k = omega arith in ap (λ (n : ℕ). receipts_in n rest) e
receipts-texts (r ∷ rs) rest k h =
    let n : suc (length rs) + k ≡ suc (length rs + k) = omega arith in
    let e : (written r ++ texts rs) ++ rest ≡ written r ++ (texts rs ++ rest) = append_assoc (written r) (texts rs) rest in
    ap₂ receipts_in n e ∙ receipts-more r (texts rs ++ rest) (length rs + k) (kept-first r rs h) ∙ ap (λ (l : List Receipt). r ∷ l) (receipts-texts rs rest k (kept-rest r rs h))

-- none where no receipt stands at the front
pub receipts-none : (k : ℕ) (bytes : List ℕ) → has_front bytes ≡ false → receipts_in k bytes ≡ []
unfolding receipts_in
receipts-none zero bytes h = refl
receipts-none (suc k) bytes h = rw h

-- the first, where one stands at the front
pub receipts-some : (k : ℕ) (bytes : List ℕ) → has_front bytes ≡ true → receipts_in (suc k) bytes ≡ read_from bytes ∷ receipts_in k (drop (length (written (read_from bytes))) bytes)
unfolding receipts_in
receipts-some k bytes h = rw h

-- all that stand at the front keep the rules
pub receipts-kept : (k : ℕ) (bytes : List ℕ) → all_kept (receipts_in k bytes) ≡ true
unfolding receipts_in all_kept
receipts-kept zero bytes = refl
receipts-kept (suc k) bytes = go (has_front bytes) refl (receipts-kept k (drop (length (written (read_from bytes))) bytes))
  where
    go : (t : Bool) → has_front bytes ≡ t → all_kept (receipts_in k (drop (length (written (read_from bytes))) bytes)) ≡ true
        → all_kept (cond t (read_from bytes ∷ receipts_in k (drop (length (written (read_from bytes))) bytes)) []) ≡ true
    go true e h = and_both (rules_kept (read_from bytes)) (all_kept (receipts_in k (drop (length (written (read_from bytes))) bytes))) (front-rules bytes e) h
    go false e h = refl

-- there are no more receipts than bytes
few-receipts : (rs : List Receipt) (rest : List ℕ) → length rs ≤ length (texts rs ++ rest)
few-receipts rs rest = omega (arith, texts-least rs, length-append (texts rs) rest)

-- the receipts at the front of bytes that begin with a run
pub front-texts : (rs : List Receipt) (rest : List ℕ) → all_kept rs ≡ true → front_receipts (texts rs ++ rest) ≡ rs ++ receipts_in (length (texts rs ++ rest) - length rs) rest
front-texts rs rest h =
    let e : length (texts rs ++ rest) ≡ length rs + (length (texts rs ++ rest) - length rs) = omega (arith, few-receipts rs rest) in
    ap (λ (n : ℕ). receipts_in n (texts rs ++ rest)) e ∙ receipts-texts rs rest (length (texts rs ++ rest) - length rs) h

-- the receipts at the front of a run are those of the run
no_bytes : (k : ℕ) → receipts_in k [] ≡ []
no_bytes k = receipts-none k [] empty
  where
    empty : has_front [] ≡ false
    empty = go (has_front []) refl
      where
        go : (t : Bool) → has_front [] ≡ t → has_front [] ≡ false
        go true e = absurd (omega (arith, written-least (read_from []), ap length (front-text [] e), length-append (written (read_from [])) (drop (length (written (read_from []))) [])))
        go false e = e

pub front-run : {bytes : List ℕ} {rs : List Receipt} → IsRun bytes rs → front_receipts bytes ≡ rs
front-run {bytes} {rs} i =
    ap front_receipts (i.text ∙ sym (append-nil (texts rs))) ∙ front-texts rs [] i.rules ∙ ap (λ (l : List Receipt). rs ++ l) (no_bytes (length (texts rs ++ []) - length rs)) ∙ append-nil rs

-- no bytes are runs of two lists
pub one-run : {bytes : List ℕ} {rs ts : List Receipt} → IsRun bytes rs → IsRun bytes ts → rs ≡ ts
one-run i j = sym (front-run i) ∙ front-run j
