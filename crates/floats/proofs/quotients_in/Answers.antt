-- 18 and 19 by the scan, 27 by its answer and by the divisor (`both`), then 25, and the quotients (`holds-done`).
use mathlib.Core.Path.{◌≡◌, sym, ap, ap₂, ◌∙◌}
use mathlib.Core.Bool.{Bool, true, not, ◌&&◌, and-eq-true_iff}
use native.Mathlib.Omega.{arith}
use lib.IntN.{pos}
use Rattle.std.specs.Prelude.{Ok}
use Rattle.refusal.specs.Outcome.{numbered}
use Rattle.steps.specs.Delta.{sums_if}
use Rattle.columns.specs.declared.Kind.{Kind}
use Rattle.columns.specs.declared.Kind.TheVariants as kind
use Rattle.columns.specs.Header.{header_with}
use Rattle.columns.specs.Decode.{column, judged_payload}
use Rattle.payloads.specs.Laws.Judged.{Holds, scan-fine, holds-small, holds-done}
use Rattle.payloads.specs.Exact.{exact, all_exact}
use Rattle.floats.specs.Laws.Table.{exact-names, divided-judged}
use Rattle.floats.specs.Laws.Quotient.{divisor-positive}
use Rattle.floats.specs.Calls.{exactly, float_bits}
use Rattle.floats.specs.Laws.Calls.{holds_exact, all_results, exactly-column}
use Rattle.floats.proofs.quotients_in.Goals as goal
use Rattle.floats.proofs.quotients_in.Goals.{In_ok-exact}

-- the column that the scan found, and whether its cells are exact
found : (c : goal.In_ok-exact)
    → (h : Holds c.args.header.length c.args.header.parameter kind.FixedPoint c.args.header.form c.args.header.delta c.args.payload.now)
    × (all_exact (sums_if c.args.header.delta h.0) ≡ c.in_ok-exact.exact)
found c =
    let i = c.args.header in
    let s = c.args.payload.now in
    let j = divided-judged i.form i.delta c.requires.1 in
    let g = scan-fine i.length i.parameter kind.FixedPoint i.form i.delta s (exact-names i.form i.delta j) c.in_ok-exact.exact (sym c.scan.ensures ∙ ap numbered c.in_ok-exact.was) in
    (g.0, holds_exact i.length i.parameter kind.FixedPoint i.form i.delta s g.0 c.in_ok-exact.exact g.1 j)

-- its header is one of a fixed point column
alike : (c : goal.In_ok-exact) → exactly (judged_payload (Ok c.args.header) c.args.payload.now)
    ≡ exactly (judged_payload (header_with c.args.header.length c.args.header.parameter kind.FixedPoint c.args.header.form c.args.header.delta) c.args.payload.now)
alike c = let i = c.args.header in ap (λ (k : Kind). exactly (judged_payload (header_with i.length i.parameter k i.form i.delta) c.args.payload.now)) c.requires.0

-- the cells and the divisor, each
parts : (c : goal.In_ok-exact) (t : Bool) → t ≡ (c.in_ok-exact.exact && exact (pos c.args.header.parameter)) → t ≡ true
    → (all_exact (sums_if c.args.header.delta (found c).0.0) ≡ true) × (exact (pos c.args.header.parameter) ≡ true)
parts c t e h = let w = (and-eq-true_iff c.in_ok-exact.exact (exact (pos c.args.header.parameter))).0 (sym e ∙ h) in ((found c).1 ∙ w.0, w.1)

-- the column, where all is exact
column-is : (c : goal.In_ok-exact) → all_exact (sums_if c.args.header.delta (found c).0.0) ≡ true → exact (pos c.args.header.parameter) ≡ true
    → exactly (judged_payload (Ok c.args.header) c.args.payload.now) ≡ column kind.FixedPoint c.args.header.parameter (sums_if c.args.header.delta (found c).0.0)
column-is c p q =
    let i = c.args.header in
    alike c ∙ exactly-column i.length i.parameter kind.FixedPoint i.form i.delta c.args.payload.now (found c).0 (ap₂ (λ (x y : Bool). not (x && y)) p q)

pub returns-then-buffer-n : goal.returns-then-buffer-n
returns-then-buffer-n c =
    let a = c.args in
    let i = a.header in
    let e = (goal.at.returns-then-buffer-n c).In_ok-exact in
    let p = parts e c.are_exact.result c.are_exact.ensures c.if-not-are_exact.false in
    let whole = holds-small float_bits i.length i.parameter kind.FixedPoint i.form i.delta a.payload.now (found e).0 (exactly (judged_payload (Ok i) a.payload.now)) (column-is e p.0 p.1) a.buffer.now c.if-buffer-n.true in
    record { answer = whole.0; buffer = whole.1 }

pub put_quotients-requires : goal.put_quotients-requires
put_quotients-requires c =
    let a = c in
    let i = a.args.header in
    let e = (goal.at.put_quotients-requires c).In_ok-exact in
    let p = parts e c.are_exact.result c.are_exact.ensures c.if-not-are_exact.false in
    let h = (found e).0 in
    record {
      divisible = (
        (h.0, h.1, omega (arith, h.2)),
        all_results i.length i.parameter kind.FixedPoint i.form i.delta a.args.payload.now h p.0,
        divisor-positive i.parameter p.1 a.requires.2,
      );
      has_results = ((h.0, h.1, h.2), c.if-buffer-n.false, a.requires.1);
    }

pub returns : goal.returns
returns c =
    let a = c.args in
    let i = a.header in
    let e = (goal.at.returns c).In_ok-exact in
    let p = parts e c.are_exact.result c.are_exact.ensures c.if-not-are_exact.false in
    let whole = holds-done float_bits i.length i.parameter kind.FixedPoint i.form i.delta a.payload.now (found e).0 (exactly (judged_payload (Ok i) a.payload.now)) (column-is e p.0 p.1) a.buffer.now c.if-buffer-n.false c.put_quotients.new.buffer c.put_quotients.ensures in
    record { answer = whole.0; buffer = whole.1 }
