-- Where no row has the print, the key is in none. Else the keys in the rows below decide: a row with another print holds another key, and one
-- with this print is compared.
use Rattle.text.specs.Equal.{equal}
use Rattle.std.specs.Prelude.{slice_index}
use Rattle.std.proofs.Common.{◌≡◌, refl, ◌-◌, true, false, sym, ◌∙◌, arith}
use Rattle.messagepack.specs.Keys.{key_here, RowHolds}
use Rattle.messagepack.proofs.Laws.Tables.{row-holds, row-differs, row_same, none_seen, seen_none, seen_next}
use Rattle.messagepack.proofs.seen.Goals as goal
use Rattle.messagepack.proofs.seen.Goals.{else-prints-i-via-then-prints-i+else-same_key, else-prints-i-via-else-prints-i}

pub returns-then-hits-eq0 : goal.returns-then-hits-eq0
returns-then-hits-eq0 c =
    let x = c.requires in
    sym (none_seen _ _ _ _ _ x.rows.stored _ _ x.is (c.hits.ensures c.if-hits-eq0.true) x.rows.order)

pub same_key-requires : goal.same_key-requires
same_key-requires c =
    let a = c.args in
    let i = c.loop-i.i in
    let key = key_here a.file.now a.at in
    let r : RowHolds a.file.now a.starts.now a.prints.now (i - 1) = row-holds _ _ a.base _ (a.end - a.base) c.requires.rows.stored (i - 1) (omega arith) (omega (arith, c.requires.rows.order)) in
    (c.requires.key, r.key)

pub returns-then-same_key : goal.returns-then-same_key
returns-then-same_key c =
    let a = c.args in
    let i = c.loop-i.i in
    let key = key_here a.file.now a.at in
    let r : RowHolds a.file.now a.starts.now a.prints.now (i - 1) = row-holds _ _ a.base _ (a.end - a.base) c.requires.rows.stored (i - 1) (omega arith) (omega (arith, c.requires.rows.order)) in
    let e = row_same a.file.now a.starts.now (i - 1) a.at refl (sym c.if-same_key.true ∙ c.same_key.ensures) in
    sym (c.loop-i.invariant.2 ∙ seen_next _ _ a.base key i true (omega arith) e)

pub loop-i-preserved : goal.loop-i-preserved
loop-i-preserved c =
    let a = c.args in
    let i = c.loop-i.i in
    let key = key_here a.file.now a.at in
    let r : RowHolds a.file.now a.starts.now a.prints.now (i - 1) = row-holds _ _ a.base _ (a.end - a.base) c.requires.rows.stored (i - 1) (omega arith) (omega (arith, c.requires.rows.order)) in
    let e : equal key (key_here a.file.now (slice_index a.starts.now (i - 1))) ≡ false =
    elim c.else-prints-i.branch [
      | else-prints-i-via-then-prints-i+else-same_key w ↦ row_same a.file.now a.starts.now (i - 1) a.at refl (sym w.if-same_key.false ∙ w.same_key.ensures)
      | else-prints-i-via-else-prints-i w ↦ row-differs key r c.requires.is w.if-prints-i.false
    ] in
    (omega arith, omega arith, c.loop-i.invariant.2 ∙ seen_next _ _ a.base key i false (omega arith) e)

pub returns : goal.returns
returns c = sym (c.loop-i.invariant.2 ∙ seen_none _ _ _ _ _ c.loop-i-test.false)
