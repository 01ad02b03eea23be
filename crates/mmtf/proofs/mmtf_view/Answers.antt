-- The number goes with the place, and each case of the place is a case of the call.
use mathlib.Core.Path.{sym, ap, ◌∙◌}
use native.Mathlib.Omega.{arith}
use Rattle.numbers.specs.Laws.BigEndian.{bytes-of}
use Rattle.views.specs.Laws.View.{place_of-number}
use Rattle.refusal.specs.Outcome.{numbered}
use Rattle.views.specs.Place.{Place}
use Rattle.mmtf.specs.Calls.{view_start, view_length}
use Rattle.mmtf.proofs.mmtf_view.Goals as goal

pub returns-in-Err : goal.returns-in-Err
returns-in-Err c =
    let a = c.args in
    let e = sym c.find.ensures ∙ ap numbered c.in-Err.is in
    let n = place_of-number _ _ (bytes-of _ (λ i. omega (arith, c.shared_slice_known-1.given i))) e in
    rw c.number.ensures (record { number = n.0; exactly = n.1; start = sym (ap (λ (p : Place). view_start p a.start.now) e); length = sym (ap (λ (p : Place). view_length p a.length.now) e) })

pub returns-in-Ok : goal.returns-in-Ok
returns-in-Ok c =
    let a = c.args in
    let e = sym c.find.ensures ∙ ap numbered c.in-Ok.is in
    let n = place_of-number _ _ (bytes-of _ (λ i. omega (arith, c.shared_slice_known-1.given i))) e in
    record { number = n.0; exactly = n.1; start = sym (ap (λ (p : Place). view_start p a.start.now) e); length = sym (ap (λ (p : Place). view_length p a.length.now) e) }
