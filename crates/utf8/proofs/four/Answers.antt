-- `utf8::four` meets its contract: three bytes follow, and each step hands on what is due, or the first starts no character. Assumes nothing.
use mathlib.Core.Path.{ap, ◌∙◌}
use native.Mathlib.Omega.{arith}
use Rattle.utf8.specs.Step.{onward}
use Rattle.utf8.specs.Laws.Check.{is_lead-high, following-four}
use Rattle.utf8.specs.Laws.Step.{lead-fault, forward-next, forward-from}
use Rattle.utf8.proofs.four.Goals as goal

pub returns-then-lead-gt244 : goal.returns-then-lead-gt244
returns-then-lead-gt244 c = record { bytes_value = lead-fault c.requires (is_lead-high _ c.if-lead-gt244.true); forward = tt }

pub returns-in_default : goal.returns-in_default
returns-in_default c = record {
  bytes_value = c.second.ensures.by_index 2 (following-four _ c.requires.least)
      ∙ ap (onward 2 c.args.bytes.now) c.in_default.is;
  forward = tt;
}

pub returns-in_default-follow : goal.returns-in_default-follow
returns-in_default-follow c =
    let s = c.args.bytes.now in
    record {
      bytes_value = c.second.ensures.by_index 2 (following-four _ c.requires.least)
          ∙ ap (onward 2 s) c.in-Some.is
          ∙ c.follow.ensures.by_index 1
          ∙ ap (onward 1 s) c.in_default-follow.is;
      forward = tt;
    }

pub returns : goal.returns
returns c =
    let q = c in
    let s = q.args.bytes.now in
    let u = c.in-Some.is in
    let v = c.in-Some-follow.is in
    let w = c.follow.ensures in
    let f = forward-next _ _ q.second.ensures.forward u in
    let g = forward-next _ _ w.forward v in
    record {
      bytes_value = q.second.ensures.by_index 2 (following-four _ q.requires.least)
          ∙ ap (onward 2 s) u ∙ w.by_index 1 ∙ ap (onward 1 s) v ∙ c.follow-2.ensures.by_index 0;
      forward = forward-from _ c.follow-2.result (omega arith) c.follow-2.ensures.forward;
    }
