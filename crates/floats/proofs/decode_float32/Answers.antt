-- By the header, then by the kind: the table's rows say which forms a kind has (`fixed-row`, `float-row`).
use mathlib.Core.Path.{◌≡◌, refl, sym, ap, subst, ◌∙◌}
use Rattle.std.proofs.Common.{◌≢◌}
use mathlib.Core.Bool.{true}
use Prim.Native.Nat.{ℕ, ◌-◌}
use native.Mathlib.Omega.{arith}
use lib.ListN.{length, take, drop}
use Rattle.numbers.specs.BigEndian.{unsigned_at}
use Rattle.columns.specs.declared.Kind.{Kind}
use Rattle.columns.specs.declared.Kind.TheVariants as kind
use Rattle.columns.specs.Table.{codec_with, suits}
use Rattle.std.specs.Prelude.{Ok}
use Rattle.std.proofs.lemmas.Result.{err_from_is_err_and}
use Rattle.refusal.specs.Outcome.{numbered}
use Rattle.columns.specs.Header.{header_size, header_of}
use Rattle.columns.specs.Decode.{Decoding, judged_payload, decode}
use Rattle.columns.proofs.Laws.Buffer.{Answers, answers-refused}
use Rattle.floats.specs.Calls.{exactly, float_bits}
use Rattle.columns.specs.declared.Wanted.TheVariants.{Real}
use Rattle.columns.proofs.Laws.Table.{Passes, header-passes}
use Rattle.columns.proofs.Laws.Decode.{decode-refused, decode-good}
use Rattle.floats.specs.Laws.Table.{fixed-row, float-row}
use Rattle.floats.proofs.decode_float32.Goals as goal
use Rattle.floats.proofs.decode_float32.Goals.{In_ok-header}

-- the header that passed
good : (c : goal.In_ok-header) → header_of Real c.args.column.now ≡ Ok c.in_ok-header.header
good c = sym c.read_header.ensures ∙ ap numbered c.in_ok-header.was

passed : (c : goal.In_ok-header) → Passes Real c.args.column.now c.in_ok-header.header.length c.in_ok-header.header.parameter c.in_ok-header.header.kind c.in_ok-header.header.form c.in_ok-header.header.delta
passed c = let h = c.in_ok-header.header in header-passes Real c.args.column.now h.length h.parameter h.kind h.form h.delta (good c)

-- what the column decodes to
is-payload : (c : goal.In_ok-header) → decode Real c.args.column.now ≡ judged_payload (Ok c.in_ok-header.header) (take (length c.args.column.now - header_size) (drop header_size c.args.column.now))
is-payload c = let h = c.in_ok-header.header in decode-good Real c.args.column.now h.length h.parameter h.kind h.form h.delta (good c)

-- what is left of the real kinds is codec 1's
other : (k : Kind) → suits Real k ≡ true → k ≢ kind.FixedPoint → k ≡ kind.Float32
other kind.Float32 s o = refl
other kind.FixedPoint s o = absurd (o refl)
other kind.Int8 s o = let z : ◌≡◌ {A = ℕ} 0 1 = cc in absurd (omega arith)
other kind.Int16 s o = let z : ◌≡◌ {A = ℕ} 0 1 = cc in absurd (omega arith)
other kind.Int32 s o = let z : ◌≡◌ {A = ℕ} 0 1 = cc in absurd (omega arith)
other kind.Strings s o = let z : ◌≡◌ {A = ℕ} 0 1 = cc in absurd (omega arith)
other kind.Chars s o = let z : ◌≡◌ {A = ℕ} 0 1 = cc in absurd (omega arith)

pub slice_bounds-quotients_in-count : goal.slice_bounds-quotients_in-count
slice_bounds-quotients_in-count c = (passed (goal.at.slice_bounds-quotients_in-count c).In_ok-header).0

pub slice_bounds-quotients_in-start : goal.slice_bounds-quotients_in-start
slice_bounds-quotients_in-start c = (passed (goal.at.slice_bounds-quotients_in-start c).In_ok-header).0

pub slice_bounds-kept_in-count : goal.slice_bounds-kept_in-count
slice_bounds-kept_in-count c = (passed (goal.at.slice_bounds-kept_in-count c).In_ok-header).0

pub slice_bounds-kept_in-start : goal.slice_bounds-kept_in-start
slice_bounds-kept_in-start c = (passed (goal.at.slice_bounds-kept_in-start c).In_ok-header).0

pub quotients_in-requires : goal.quotients_in-requires
quotients_in-requires c =
    let h = c.in_ok-header.header in
    let p = (passed (goal.at.quotients_in-requires c).In_ok-header).3 in
    let r = fixed-row (unsigned_at 4 c.args.column.now 0) h.form h.delta p.0 h.parameter (p.1 ∙ ap (λ (x : Kind). codec_with x h.form h.delta p.0) c.in-FixedPoint.is) p.2 in
    (c.in-FixedPoint.is, r.0, r.1)

pub kept_in-requires : goal.kept_in-requires
kept_in-requires c =
    let h = c.in_ok-header.header in
    let p = passed (goal.at.kept_in-requires c).In_ok-header in
    let t = other h.kind p.2 c.in_default.not-FixedPoint in
    let w = float-row (unsigned_at 4 c.args.column.now 0) h.form h.delta p.3.0 (p.3.1 ∙ ap (λ (x : Kind). codec_with x h.form h.delta p.3.0) t) in
    (t, w.0, w.1)

pub returns-in_err-header : goal.returns-in_err-header
returns-in_err-header c =
    let a = c.args in
    let e = decode-refused Real a.column.now _ (sym c.read_header.ensures ∙ ap numbered c.in_err-header.was) in
    let whole = answers-refused float_bits _ a.buffer.now _ (ap exactly e) in
    let p = err_from_is_err_and c.from_residual.result c.from_residual.ensures.1 in
    record { answer = rw (p.1, p.2) whole.0; buffer = whole.1 }

pub returns-in-FixedPoint : goal.returns-in-FixedPoint
returns-in-FixedPoint c =
    let a = c.args in
    let e = is-payload (goal.at.returns-in-FixedPoint c).In_ok-header in
    let whole = subst (λ (x : Decoding). Answers float_bits (exactly x) a.buffer.now (numbered c.quotients_in.result) c.quotients_in.new.buffer) (sym e) (c.quotients_in.ensures.answer, c.quotients_in.ensures.buffer) in
    record { answer = whole.0; buffer = whole.1 }

pub returns-in_default : goal.returns-in_default
returns-in_default c =
    let a = c.args in
    let e = is-payload (goal.at.returns-in_default c).In_ok-header in
    let whole = subst (λ (x : Decoding). Answers float_bits (exactly x) a.buffer.now (numbered c.kept_in.result) c.kept_in.new.buffer) (sym e) (c.kept_in.ensures.answer, c.kept_in.ensures.buffer) in
    record { answer = whole.0; buffer = whole.1 }
