-- A plain number stands at its place (`plain_here`); the others are walked to.
use mathlib.Core.Path.{◌≡◌, sym, ap, ◌∙◌}
use mathlib.Core.Bool.{Bool}
use mathlib.Core.Option.{some}
use mathlib.Core.List.{List}
use Prim.Native.Nat.{◌*◌, ◌<◌, suc, ◌≤◌}
use native.Mathlib.Omega.{arith}
use lib.ListN.{length, get_or}
use lib.IntN.{ℤ, pos}
use mir.Syntax.{w32}
use mir.Facts.{to_z-of_z}
use Rattle.steps.specs.declared.Form.{Form}
use Rattle.steps.specs.Width.{size_of}
use Rattle.steps.specs.Delta.{sums_if}
use Rattle.steps.specs.Payload.{read_in}
use Rattle.steps.proofs.Laws.Delta.{results-plain}
use Rattle.cells.specs.Steps.{is_direct}
use Rattle.cells.specs.Laws.Table.{direct-plain}
use Rattle.cells.specs.Laws.Found.{plain_here}
use Rattle.cells.proofs.number_in.Lts as lts
use Rattle.cells.proofs.number_in.Reads as reads
use Rattle.cells.proofs.number_in.Tie as tie
use Rattle.cells.proofs.number_in.Goals as goal

-- what is read by the form that is told
by_form : (c : lts.Start tie.the-claims reads.Pre reads.Post) {f : Form} {l : List ℤ} → c.args.form ≡ f → read_in c.args.form c.args.payload.now ≡ some l → read_in f c.args.payload.now ≡ some l
by_form c e q = sym (ap (λ (g : Form). read_in g c.args.payload.now) e) ∙ q

pub overflow_mul-index : goal.overflow_mul-index
overflow_mul-index c =
    let a = c.before.before.before.before in
    let w = a.requires.0 in
    let z = c.in-Plain.size in
    let p : suc a.args.index * size_of z ≤ length a.args.payload.now = (plain_here z a.args.payload.now a.args.index w.0 (by_form a c.in-Plain.is w.1) w.2).0 in
    let s : length a.args.payload.now < 18446744073709551616 = omega arith in
    record { fits = rw c.bytes.ensures (omega arith) }

pub returns-in-Plain : goal.returns-in-Plain
returns-in-Plain c =
    λ l q h.
    let a = c.before.before.before.before.before in
    let z = c.in-Plain.size in
    let e = c.in-Plain.is in
    let d = direct-plain z a.args.delta (sym (ap (λ (f : Form). is_direct f a.args.delta) e) ∙ a.requires.1) in
    to_z-of_z {w = w32} (record { sfits = c.number_at.type_inv }) ∙ (rw c.bytes.ensures at c.number_at.ensures) ∙ (plain_here z a.args.payload.now a.args.index l (by_form a e q) h).1 ∙ ap (λ (t : List ℤ). get_or t a.args.index (pos 0)) (sym (results-plain (pos 0) l)) ∙ ap (λ (t : Bool). get_or (sums_if t l) a.args.index (pos 0)) (sym d)

pub returns-in-Runs : goal.returns-in-Runs
returns-in-Runs c = λ l q h. to_z-of_z {w = w32} (record { sfits = c.run_at.type_inv }) ∙ c.run_at.ensures c.in-Runs.field-0 l (by_form c.before.before.before.before c.in-Runs.is q) h
