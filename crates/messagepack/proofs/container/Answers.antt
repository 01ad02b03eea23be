-- There is room for all outer keys, so that the number of the answer is the container's, which is 0 exactly for a container; the file's elements
-- are bytes.
use Rattle.std.proofs.Common.{◌≡◌, ℕ, ◌↔◌, List, length, sym, ap, ◌∙◌, arith}
use Rattle.std.proofs.lemmas.Result.{err_from_is_err_and}
use Rattle.std.specs.Prelude.{Result}
use Rattle.refusal.specs.Outcome.{numbered, answer_number}
use Rattle.numbers.specs.BigEndian.{Bytes}
use Rattle.numbers.specs.Laws.BigEndian.{bytes-of}
use Rattle.messagepack.specs.Limits.{entry_limit}
use Rattle.messagepack.specs.Rules.{Container}
use Rattle.messagepack.specs.Walk.{container_number}
use Rattle.messagepack.specs.Outer.{keys_answer}
use Rattle.messagepack.proofs.Laws.Container.{container-exactly}
use Rattle.messagepack.proofs.Laws.Outer.{keys-few, keys-number}
use Rattle.messagepack.proofs.container.Goals as goal

-- the number of an answer
number_is : (s places : List ℕ) (r : Result ℕ ℕ) {n : ℕ} → Bytes s → length places ≡ entry_limit → r ≡ keys_answer s (length places) → n ≡ answer_number r → (n ≡ container_number s) × ((n ≡ 0) ↔ Container s)
number_is s places r bytes l h e =
    let q = e ∙ ap answer_number h ∙ keys-number s (length places) (λ z. omega (arith, keys-few s bytes z)) in
    let x = container-exactly s bytes in
    (q, ((λ z. x.0 (sym q ∙ z)), (λ k. q ∙ x.1 k)))

pub returns : goal.returns
returns c =
    let r = number_is c.args.file.now c.no_places-places.result _ (bytes-of _ (λ i. omega (arith, c.shared_slice_known-1.given i))) c.no_places-places.ensures c.keys.ensures.answer (sym (ap answer_number (ap numbered c.in_ok-keys.was))) in
    record { number = r.0; exactly = r.1 }

pub returns-in_err-keys : goal.returns-in_err-keys
returns-in_err-keys c =
    let r = number_is c.args.file.now c.no_places-places.result _ (bytes-of _ (λ i. omega (arith, c.shared_slice_known-1.given i))) c.no_places-places.ensures c.keys.ensures.answer (sym (ap answer_number (ap numbered c.in_err-keys.was))) in
    let p = err_from_is_err_and c.from_residual.result c.from_residual.ensures.1 in
    record { number = rw (p.1, p.2) r.0; exactly = rw (p.1, p.2) r.1 }
