-- No such number, too little room, or the page's bytes in the buffer.
use mathlib.Core.Path.{refl, ap, sym, ◌∙◌}
use native.Mathlib.Omega.{arith}
use Rattle.std.specs.Prelude.{Ok}
use Rattle.meanings.specs.Laws.Meanings.{page-holds, wrote-28, wrote-25, wrote-all}
use Rattle.meanings.proofs.write.Goals as goal

pub returns-then-end-eq0 : goal.returns-then-end-eq0
returns-then-end-eq0 c =
    let a = c.args in
    let page = page-holds a.number refl c.put_meaning-end.ensures in
    let whole = wrote-28 a.number a.buffer.now (sym page.0 ∙ c.if-end-eq0.true) in
    record { answer = whole.0; buffer = whole.1 }

pub returns-then-buffer-end : goal.returns-then-buffer-end
returns-then-buffer-end c =
    let a = c.args in
    let page = page-holds a.number refl c.put_meaning-end.ensures in
    let whole = wrote-25 a.number a.buffer.now (omega (arith, page.0, c.if-end-eq0.false)) (omega (arith, page.0, c.if-buffer-end.true)) in
    record { answer = whole.0; buffer = whole.1 }

pub returns : goal.returns
returns c =
    let a = c.args in
    let page = page-holds a.number refl c.put_meaning-end.ensures in
    let w = wrote-all a.number a.buffer.now (omega (arith, page.0, c.if-end-eq0.false)) (omega (arith, page.0, c.if-buffer-end.false)) page.1 c.put.ensures in
    record { answer = ap Ok page.0 ∙ w.0; buffer = w.1 }
