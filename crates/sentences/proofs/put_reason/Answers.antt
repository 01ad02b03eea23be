-- The literal is the table of reasons as bytes, which is computed once over all of it. Assumes nothing.
use mathlib.Core.Path.{◌≡◌, refl, sym, ap, ◌∙◌}
use mathlib.Core.Bool.{true, false}
use mathlib.Core.List.{List}
use Prim.Native.Nat.{ℕ}
use lib.ListN.{length}
use Rattle.std.specs.Prelude.{eqb}
use Rattle.text.specs.Laws.Put.{put_as}
use Rattle.meanings.specs.Meanings.{text_in}
use Rattle.meanings.specs.Steps.{rows_of}
use Rattle.meanings.specs.Laws.Steps.{table-words}
use Rattle.sentences.specs.Reasons.{reasons, error_text, reason_text}
use Rattle.sentences.proofs.put_reason.Goals as goal

no_words : {words : List ℕ} (n : ℕ) → words ≡ text_in reasons n → eqb (length words) 0 ≡ true → reason_text n ≡ error_text n
no_words n e z = rw (sym (ap (λ (w : List ℕ). eqb (length w) 0) e) ∙ z)

some_words : {words : List ℕ} (n : ℕ) → words ≡ text_in reasons n → eqb (length words) 0 ≡ false → reason_text n ≡ words
some_words n e z = rw (sym (ap (λ (w : List ℕ). eqb (length w) 0) e) ∙ z) (sym e)

pub returns-then-is_empty : goal.returns-then-is_empty
unfolding reasons rows_of
returns-then-is_empty c = put_as c.put_error.ensures (no_words c.args.reason (c.words_in-words.ensures ∙ table-words reasons c.args.reason refl refl) (sym c.is_empty.ensures ∙ c.if-is_empty.true))

pub returns : goal.returns
unfolding reasons rows_of
returns c = put_as c.put.ensures (some_words c.args.reason (c.words_in-words.ensures ∙ table-words reasons c.args.reason refl refl) (sym c.is_empty.ensures ∙ c.if-is_empty.false))
