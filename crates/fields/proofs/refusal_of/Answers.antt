-- The three tests are those of the number, in its order.
use mathlib.Core.Path.{◌≡◌, refl, sym, ap, ◌∙◌}
use Prim.Native.Nat.{◌+◌, ◌-◌}
use native.Mathlib.Omega.{arith}
use Rattle.text.specs.Equal.{equal}
use Rattle.fields.specs.Table.{named}
use Rattle.fields.specs.Fields.{is_version_one, find_row}
use Rattle.fields.specs.Numbers.{type_of, type_depth}
use Rattle.fields.specs.Laws.Notes.{seen-have, version-read, fields-missing, fields-mistyped, fields-version, fields-right}
use Rattle.fields.proofs.refusal_of.Goals as goal

pub returns-then-not-whole : goal.returns-then-not-whole
returns-then-not-whole c = λ es m. sym (fields-missing es (sym (seen-have m (c.all_seen-whole.ensures (type_of type_depth))) ∙ c.if-not-whole.true))

pub returns-then-not-fields : goal.returns-then-not-fields
returns-then-not-fields c = λ es m. sym (fields-mistyped es (sym (seen-have m (c.all_seen-whole.ensures (type_of type_depth))) ∙ c.if-not-whole.false) (sym m.typed ∙ c.if-not-fields.true))

pub returns-then-not-is_version_one : goal.returns-then-not-is_version_one
unfolding find_row equal named
returns-then-not-is_version_one c =
    λ es m.
    let v = c.text_at-version.result in
    let long : v.at + v.count - v.at ≡ v.count = omega arith in
    let one = rw long at c.is_version_one.ensures in
    let h = sym (seen-have m (c.all_seen-whole.ensures (type_of type_depth))) ∙ c.if-not-whole.false in
    sym (fields-version es h (sym m.typed ∙ c.if-not-fields.false) (ap is_version_one (sym (version-read m refl h (c.text_at-version.ensures.says))) ∙ sym one ∙ c.if-not-is_version_one.true))

pub returns : goal.returns
unfolding find_row equal named
returns c =
    λ es m.
    let v = c.text_at-version.result in
    let long : v.at + v.count - v.at ≡ v.count = omega arith in
    let one = rw long at c.is_version_one.ensures in
    let h = sym (seen-have m (c.all_seen-whole.ensures (type_of type_depth))) ∙ c.if-not-whole.false in
    sym (fields-right es h (sym m.typed ∙ c.if-not-fields.false) (ap is_version_one (sym (version-read m refl h (c.text_at-version.ensures.says))) ∙ sym one ∙ c.if-not-is_version_one.false))
