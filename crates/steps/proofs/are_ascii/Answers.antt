-- The loop's invariant: the highest byte so far and what is left of both halves decide.
use Rattle.std.proofs.Common.{◌≡◌, ℕ, ◌+◌, ◌/◌, Bool, ◌&&◌, leb, length, get_or, sym, ap, ◌∙◌, arith}
use Rattle.steps.proofs.Laws.Allowed.{left-start, left-next, left-none, left_one}
use Rattle.steps.proofs.are_ascii.Goals as goal

pub loop-i-init : goal.loop-i-init
loop-i-init c = let s = c.args.bytes.now in (omega arith, left-start s (length s / 2))

pub loop-i-preserved : goal.loop-i-preserved
loop-i-preserved c =
    let s = c.args.bytes.now in
    let p = c.loop-i in
    let t = c.loop-i-test.true in
    (omega arith, left-next s (length s / 2) p.i p.highest c.higher-highest.result (omega arith) p.invariant.1 t (c.higher-highest.ensures ∙ ap (λ (b : Bool). leb p.highest 127 && b) c.higher.ensures))

pub returns-then-last-bytes : goal.returns-then-last-bytes
returns-then-last-bytes c =
    let s = c.args.bytes.now in
    let p = c.loop-i in
    let t = c.loop-i-test.false in
    let e : p.i ≡ length s / 2 = omega (arith, p.invariant.0) in
    left_one s (length s / 2) p.i p.highest c.higher-then-last-bytes.result (omega arith) p.invariant.1 t (omega (arith, c.if-last-bytes.true)) (omega arith) (c.higher-then-last-bytes.ensures ∙ ap (λ (j : ℕ). leb p.highest 127 && leb (get_or s (length s / 2 + j) 0) 127) (sym e))

pub returns : goal.returns
returns c =
    let s = c.args.bytes.now in
    let p = c.loop-i in
    left-none s (length s / 2) p.i p.highest 0 (omega arith) p.invariant.1 c.loop-i-test.false (omega (arith, p.invariant.0, c.if-last-bytes.false))
