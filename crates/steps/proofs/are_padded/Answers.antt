-- The loop's invariant: the names that were tested and what is left decide.
use Rattle.std.proofs.Common.{◌≡◌, ℕ, ◌+◌, ◌-◌, ◌*◌, ◌/◌, ◌<◌, ◌≤◌, Bool, ◌&&◌, map, length, take, drop, pos, sym, ap, ◌∙◌, mul-le-mul_right, add-mul, one-mul, div-mul-le_self, arith, length-drop, take_all}
use native.Mathlib.Nat.{lt-div-mul-add}
use Rattle.steps.specs.Payload.{padded_from}
use Rattle.steps.specs.Steps.{one_name}
use Rattle.steps.proofs.Laws.Allowed.{and-more}
use Rattle.steps.proofs.Laws.Padding.{whole-name, name-left}
use Rattle.steps.proofs.are_padded.Goals as goal

-- a name before the last whole one ends inside
inside : (i m l : ℕ) → i < l / m → i * m + m ≤ l
inside i m l h =
    let e : (i + 1) * m ≡ i * m + m = add-mul i 1 m ∙ ap (λ (n : ℕ). i * m + n) (one-mul m) in
    let g : (i + 1) * m ≤ l / m * m = mul-le-mul_right m (omega arith) in
    omega (arith, div-mul-le_self l m)

pub loop-i-preserved : goal.loop-i-preserved
loop-i-preserved c =
    let a = c.args in
    let p = c.loop-i in
    let s = a.names.now in
    let m = a.size in
    let t = one_name (take m (drop (p.i * m) s)) in
    let r = padded_from m ((p.i + 1) * m) (pos 0) (map pos (drop ((p.i + 1) * m) s)) in (
      omega arith,
      ap (λ (b : Bool). (p.ok && b) && r) c.is_name-ok.ensures ∙ and-more p.ok t r
          ∙ ap (λ (b : Bool). p.ok && b) (sym (whole-name m p.i s (inside p.i m (length s) c.loop-i-test.true))) ∙ p.invariant.1,
    )

pub returns : goal.returns
returns c =
    let b = c.before.before.before.before.before.before in
    let p = c.loop-i in
    let s = b.args.names.now in
    let m = b.args.size in
    let n = length s / m in
    let e : p.i ≡ n = omega (arith, c.loop-i-test.false) in
    let r = drop (n * m) s in
    let l : length s ≤ n * m + m = omega (arith, lt-div-mul-add {a = length s} {b = m} b.requires.0) in
    ap (λ (t : Bool). p.ok && t) (c.is_padded.ensures ∙ ap one_name (take_all (length s - n * m) r (omega (arith, length-drop (n * m) s))) ∙ sym (name-left m n s l))
    ∙ ap (λ (i : ℕ). p.ok && padded_from m (i * m) (pos 0) (map pos (drop (i * m) s))) (sym e) ∙ p.invariant.1
