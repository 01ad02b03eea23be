-- A line that is not there, then ten numbers that are a receipt's or not. Assumes nothing.
use mathlib.Core.Path.{sym, ap, ap₂, ◌∙◌}
use Rattle.receipt.specs.Receipt.{rules_kept}
use Rattle.receipt.specs.Reading.{At}
use Rattle.receipt.specs.Steps.{line_or_none}
use Rattle.receipt.specs.Laws.Found.{lost, later, found_lost, found_here, found_nothing, ten-lines}
use Rattle.receipt.proofs.find.Goals as goal

pub returns-in_err-station : goal.returns-in_err-station
returns-in_err-station c = rw c.from_residual.ensures (found_lost c.args.bytes.now c.args.at (lost (sym (ap line_or_none c.in_err-station.was) ∙ c.line_at.ensures)))

pub returns-in_err-job : goal.returns-in_err-job
returns-in_err-job c = rw c.from_residual-in_err-job.ensures (found_lost c.args.bytes.now c.args.at (later (sym (ap line_or_none c.in_ok-station.was) ∙ c.line_at.ensures) (lost (sym (ap line_or_none c.in_err-job.was) ∙ c.line_at-2.ensures))))

pub returns-in_err-verdict : goal.returns-in_err-verdict
returns-in_err-verdict c = rw c.from_residual-in_err-verdict.ensures (found_lost c.args.bytes.now c.args.at (later (sym (ap line_or_none c.in_ok-station.was) ∙ c.line_at.ensures) (later (sym (ap line_or_none c.in_ok-job.was) ∙ c.line_at-2.ensures) (lost (sym (ap line_or_none c.in_err-verdict.was) ∙ c.line_at-3.ensures)))))

pub returns-in_err-models : goal.returns-in_err-models
returns-in_err-models c = rw c.from_residual-in_err-models.ensures (found_lost c.args.bytes.now c.args.at (later (sym (ap line_or_none c.in_ok-station.was) ∙ c.line_at.ensures) (later (sym (ap line_or_none c.in_ok-job.was) ∙ c.line_at-2.ensures) (later (sym (ap line_or_none c.in_ok-verdict.was) ∙ c.line_at-3.ensures) (lost (sym (ap line_or_none c.in_err-models.was) ∙ c.line_at-4.ensures))))))

pub returns-in_err-chains : goal.returns-in_err-chains
returns-in_err-chains c = rw c.from_residual-in_err-chains.ensures (found_lost c.args.bytes.now c.args.at (later (sym (ap line_or_none c.in_ok-station.was) ∙ c.line_at.ensures) (later (sym (ap line_or_none c.in_ok-job.was) ∙ c.line_at-2.ensures) (later (sym (ap line_or_none c.in_ok-verdict.was) ∙ c.line_at-3.ensures) (later (sym (ap line_or_none c.in_ok-models.was) ∙ c.line_at-4.ensures) (lost (sym (ap line_or_none c.in_err-chains.was) ∙ c.line_at-5.ensures)))))))

pub returns-in_err-groups : goal.returns-in_err-groups
returns-in_err-groups c = rw c.from_residual-in_err-groups.ensures (found_lost c.args.bytes.now c.args.at (later (sym (ap line_or_none c.in_ok-station.was) ∙ c.line_at.ensures) (later (sym (ap line_or_none c.in_ok-job.was) ∙ c.line_at-2.ensures) (later (sym (ap line_or_none c.in_ok-verdict.was) ∙ c.line_at-3.ensures) (later (sym (ap line_or_none c.in_ok-models.was) ∙ c.line_at-4.ensures) (later (sym (ap line_or_none c.in_ok-chains.was) ∙ c.line_at-5.ensures) (lost (sym (ap line_or_none c.in_err-groups.was) ∙ c.line_at-6.ensures))))))))

pub returns-in_err-atoms : goal.returns-in_err-atoms
returns-in_err-atoms c = rw c.from_residual-in_err-atoms.ensures (found_lost c.args.bytes.now c.args.at (later (sym (ap line_or_none c.in_ok-station.was) ∙ c.line_at.ensures) (later (sym (ap line_or_none c.in_ok-job.was) ∙ c.line_at-2.ensures) (later (sym (ap line_or_none c.in_ok-verdict.was) ∙ c.line_at-3.ensures) (later (sym (ap line_or_none c.in_ok-models.was) ∙ c.line_at-4.ensures) (later (sym (ap line_or_none c.in_ok-chains.was) ∙ c.line_at-5.ensures) (later (sym (ap line_or_none c.in_ok-groups.was) ∙ c.line_at-6.ensures) (lost (sym (ap line_or_none c.in_err-atoms.was) ∙ c.line_at-7.ensures)))))))))

pub returns-in_err-bonds : goal.returns-in_err-bonds
returns-in_err-bonds c = rw c.from_residual-in_err-bonds.ensures (found_lost c.args.bytes.now c.args.at (later (sym (ap line_or_none c.in_ok-station.was) ∙ c.line_at.ensures) (later (sym (ap line_or_none c.in_ok-job.was) ∙ c.line_at-2.ensures) (later (sym (ap line_or_none c.in_ok-verdict.was) ∙ c.line_at-3.ensures) (later (sym (ap line_or_none c.in_ok-models.was) ∙ c.line_at-4.ensures) (later (sym (ap line_or_none c.in_ok-chains.was) ∙ c.line_at-5.ensures) (later (sym (ap line_or_none c.in_ok-groups.was) ∙ c.line_at-6.ensures) (later (sym (ap line_or_none c.in_ok-atoms.was) ∙ c.line_at-7.ensures) (lost (sym (ap line_or_none c.in_err-bonds.was) ∙ c.line_at-8.ensures))))))))))

pub returns-in_err-fields : goal.returns-in_err-fields
returns-in_err-fields c = rw c.from_residual-in_err-fields.ensures (found_lost c.args.bytes.now c.args.at (later (sym (ap line_or_none c.in_ok-station.was) ∙ c.line_at.ensures) (later (sym (ap line_or_none c.in_ok-job.was) ∙ c.line_at-2.ensures) (later (sym (ap line_or_none c.in_ok-verdict.was) ∙ c.line_at-3.ensures) (later (sym (ap line_or_none c.in_ok-models.was) ∙ c.line_at-4.ensures) (later (sym (ap line_or_none c.in_ok-chains.was) ∙ c.line_at-5.ensures) (later (sym (ap line_or_none c.in_ok-groups.was) ∙ c.line_at-6.ensures) (later (sym (ap line_or_none c.in_ok-atoms.was) ∙ c.line_at-7.ensures) (later (sym (ap line_or_none c.in_ok-bonds.was) ∙ c.line_at-8.ensures) (lost (sym (ap line_or_none c.in_err-fields.was) ∙ c.line_at-9.ensures)))))))))))

pub returns-in_err-units : goal.returns-in_err-units
returns-in_err-units c = rw c.from_residual-in_err-units.ensures (found_lost c.args.bytes.now c.args.at (later (sym (ap line_or_none c.in_ok-station.was) ∙ c.line_at.ensures) (later (sym (ap line_or_none c.in_ok-job.was) ∙ c.line_at-2.ensures) (later (sym (ap line_or_none c.in_ok-verdict.was) ∙ c.line_at-3.ensures) (later (sym (ap line_or_none c.in_ok-models.was) ∙ c.line_at-4.ensures) (later (sym (ap line_or_none c.in_ok-chains.was) ∙ c.line_at-5.ensures) (later (sym (ap line_or_none c.in_ok-groups.was) ∙ c.line_at-6.ensures) (later (sym (ap line_or_none c.in_ok-atoms.was) ∙ c.line_at-7.ensures) (later (sym (ap line_or_none c.in_ok-bonds.was) ∙ c.line_at-8.ensures) (later (sym (ap line_or_none c.in_ok-fields.was) ∙ c.line_at-9.ensures) (lost (sym (ap line_or_none c.in_err-units.was) ∙ c.line_at-10.ensures))))))))))))

pub returns-then-not-is_allowed : goal.returns-then-not-is_allowed
returns-then-not-is_allowed c =
    let a = c.args in
    let lines = ten-lines a.bytes.now a.at (sym (ap line_or_none c.in_ok-station.was) ∙ c.line_at.ensures) (sym (ap line_or_none c.in_ok-job.was) ∙ c.line_at-2.ensures) (sym (ap line_or_none c.in_ok-verdict.was) ∙ c.line_at-3.ensures) (sym (ap line_or_none c.in_ok-models.was) ∙ c.line_at-4.ensures) (sym (ap line_or_none c.in_ok-chains.was) ∙ c.line_at-5.ensures) (sym (ap line_or_none c.in_ok-groups.was) ∙ c.line_at-6.ensures) (sym (ap line_or_none c.in_ok-atoms.was) ∙ c.line_at-7.ensures) (sym (ap line_or_none c.in_ok-bonds.was) ∙ c.line_at-8.ensures) (sym (ap line_or_none c.in_ok-fields.was) ∙ c.line_at-9.ensures) (sym (ap line_or_none c.in_ok-units.was) ∙ c.line_at-10.ensures) in
    let broken = sym c.is_allowed.ensures ∙ c.if-not-is_allowed.true in
    sym (found_nothing a.bytes.now a.at (ap rules_kept (sym lines.0) ∙ broken))

pub returns : goal.returns
returns c =
    let a = c.args in
    let lines = ten-lines a.bytes.now a.at (sym (ap line_or_none c.in_ok-station.was) ∙ c.line_at.ensures) (sym (ap line_or_none c.in_ok-job.was) ∙ c.line_at-2.ensures) (sym (ap line_or_none c.in_ok-verdict.was) ∙ c.line_at-3.ensures) (sym (ap line_or_none c.in_ok-models.was) ∙ c.line_at-4.ensures) (sym (ap line_or_none c.in_ok-chains.was) ∙ c.line_at-5.ensures) (sym (ap line_or_none c.in_ok-groups.was) ∙ c.line_at-6.ensures) (sym (ap line_or_none c.in_ok-atoms.was) ∙ c.line_at-7.ensures) (sym (ap line_or_none c.in_ok-bonds.was) ∙ c.line_at-8.ensures) (sym (ap line_or_none c.in_ok-fields.was) ∙ c.line_at-9.ensures) (sym (ap line_or_none c.in_ok-units.was) ∙ c.line_at-10.ensures) in
    let kept = sym c.is_allowed.ensures ∙ c.if-not-is_allowed.false in
    ap₂ At lines.0 lines.1 ∙ sym (found_here a.bytes.now a.at (ap rules_kept (sym lines.0) ∙ kept))
