-- Each arm is the table's row; what is left is beyond the table (`past-four`, four rows at a time).
use mathlib.Core.Path.{sym, ap, ◌∙◌}
use Rattle.columns.specs.Table.{codec_of}
use Rattle.columns.proofs.Laws.Table.{codec-unknown, past-four}
use Rattle.columns.proofs.codec_of.Goals as goal

pub returns-in-1 : goal.returns-in-1
unfolding codec_of
returns-in-1 c = c.row.ensures ∙ ap codec_of (sym c.in-1.is)

pub returns-in-2 : goal.returns-in-2
unfolding codec_of
returns-in-2 c = c.row-in-2.ensures ∙ ap codec_of (sym c.in-2.is)

pub returns-in-3 : goal.returns-in-3
unfolding codec_of
returns-in-3 c = c.row-in-3.ensures ∙ ap codec_of (sym c.in-3.is)

pub returns-in-4 : goal.returns-in-4
unfolding codec_of
returns-in-4 c = c.row-in-4.ensures ∙ ap codec_of (sym c.in-4.is)

pub returns-in-5 : goal.returns-in-5
unfolding codec_of
returns-in-5 c = c.row-in-5.ensures ∙ ap codec_of (sym c.in-5.is)

pub returns-in-6 : goal.returns-in-6
unfolding codec_of
returns-in-6 c = c.row-in-6.ensures ∙ ap codec_of (sym c.in-6.is)

pub returns-in-7 : goal.returns-in-7
unfolding codec_of
returns-in-7 c = c.row-in-7.ensures ∙ ap codec_of (sym c.in-7.is)

pub returns-in-8 : goal.returns-in-8
unfolding codec_of
returns-in-8 c = c.row-in-8.ensures ∙ ap codec_of (sym c.in-8.is)

pub returns-in-9 : goal.returns-in-9
unfolding codec_of
returns-in-9 c = c.row-in-9.ensures ∙ ap codec_of (sym c.in-9.is)

pub returns-in-10 : goal.returns-in-10
unfolding codec_of
returns-in-10 c = c.row-in-10.ensures ∙ ap codec_of (sym c.in-10.is)

pub returns-in-11 : goal.returns-in-11
unfolding codec_of
returns-in-11 c = c.row-in-11.ensures ∙ ap codec_of (sym c.in-11.is)

pub returns-in-12 : goal.returns-in-12
unfolding codec_of
returns-in-12 c = c.row-in-12.ensures ∙ ap codec_of (sym c.in-12.is)

pub returns-in-13 : goal.returns-in-13
unfolding codec_of
returns-in-13 c = c.row-in-13.ensures ∙ ap codec_of (sym c.in-13.is)

pub returns-in-14 : goal.returns-in-14
unfolding codec_of
returns-in-14 c = c.row-in-14.ensures ∙ ap codec_of (sym c.in-14.is)

pub returns-in-15 : goal.returns-in-15
unfolding codec_of
returns-in-15 c = c.row-in-15.ensures ∙ ap codec_of (sym c.in-15.is)

pub returns-in-16 : goal.returns-in-16
unfolding codec_of
returns-in-16 c = c.row-in-16.ensures ∙ ap codec_of (sym c.in-16.is)

pub returns-in_default : goal.returns-in_default
returns-in_default c =
    let n = c.args.number in
    sym (codec-unknown n (λ h. past-four n 12 (past-four n 8 (past-four n 4 (past-four n 0 h c.in_default.in_default-own.rest.0.0.0.0.0.0.0.0.0.0.0.0.0.0.0.1 c.in_default.in_default-own.rest.0.0.0.0.0.0.0.0.0.0.0.0.0.0.1 c.in_default.in_default-own.rest.0.0.0.0.0.0.0.0.0.0.0.0.0.1 c.in_default.in_default-own.rest.0.0.0.0.0.0.0.0.0.0.0.0.1) c.in_default.in_default-own.rest.0.0.0.0.0.0.0.0.0.0.0.1 c.in_default.in_default-own.rest.0.0.0.0.0.0.0.0.0.0.1 c.in_default.in_default-own.rest.0.0.0.0.0.0.0.0.0.1 c.in_default.in_default-own.rest.0.0.0.0.0.0.0.0.1) c.in_default.in_default-own.rest.0.0.0.0.0.0.0.1 c.in_default.in_default-own.rest.0.0.0.0.0.0.1 c.in_default.in_default-own.rest.0.0.0.0.0.1 c.in_default.in_default-own.rest.0.0.0.0.1) c.in_default.in_default-own.rest.0.0.0.1 c.in_default.in_default-own.rest.0.0.1 c.in_default.in_default-own.rest.0.1 c.in_default.in_default-own.rest.1))
