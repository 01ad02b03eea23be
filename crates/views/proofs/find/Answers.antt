-- A file that is no container has its number, since there is room for all outer keys; in one the search goes by their places.
use mathlib.Core.Path.{sym, ap, ◌∙◌}
use native.Mathlib.Omega.{arith}
use lib.ListN.{length, take}
use lib.Seq.{length-take-le}
use Rattle.std.specs.Prelude.{Err}
use Rattle.std.proofs.lemmas.Result.{err_from_is_err_and}
use Rattle.refusal.specs.Outcome.{numbered}
use Rattle.numbers.specs.Laws.BigEndian.{bytes-of}
use Rattle.messagepack.proofs.Laws.Container.{container-exactly}
use Rattle.messagepack.proofs.Laws.Outer.{keys-few, keys-counted, keys-uncounted, keys-within, keys-put}
use Rattle.views.specs.Laws.Search.{place-refused}
use Rattle.views.proofs.find.Goals as goal

pub slice_bounds-places-end : goal.slice_bounds-places-end
slice_bounds-places-end c = keys-within _ (numbered c.keys.result) _ _ _ c.keys.ensures.answer c.keys.auto.places (ap numbered c.in_ok-n.was)

pub slice_bounds-entry-end : goal.slice_bounds-entry-end
slice_bounds-entry-end c = sym (length-take-le _ c.keys.new.places (keys-within _ (numbered c.keys.result) _ _ _ c.keys.ensures.answer c.keys.auto.places (ap numbered c.in_ok-n.was)))

pub entry-requires : goal.entry-requires
entry-requires c =
    let s = c.args.file.now in
    let k = keys-counted s (length c.no_places-places.result) (sym (ap numbered c.in_ok-n.was) ∙ c.keys.ensures.answer) in
    record {
      container = (container-exactly s (bytes-of _ (λ i. omega (arith, c.type_inv.file i)))).0 k.0;
      passed = k.0;
      are = ap (take c.in_ok-n.n) c.keys.ensures.places ∙ keys-put s c.no_places-places.result k.1 k.2;
    }

pub returns-in_err-n : goal.returns-in_err-n
returns-in_err-n c =
    let s = c.args.file.now in
    let few = keys-few s (bytes-of _ (λ i. omega (arith, c.type_inv.file i))) in
    let r = keys-uncounted s (length c.no_places-places.result) (λ z. omega (arith, few z, c.no_places-places.ensures)) (sym (ap numbered c.in_err-n.was) ∙ c.keys.ensures.answer) in
    let p = err_from_is_err_and c.from_residual.result c.from_residual.ensures.1 in
    rw (p.1, p.2) (ap (λ (n : _). Err n) (sym r.0) ∙ place-refused s _ r.1)
