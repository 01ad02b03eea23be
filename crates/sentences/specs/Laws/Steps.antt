-- The table of forms has the form of each sentence in its row. Assumes nothing.
use Rattle.std.specs.Prelude.{◌≡◌, refl, Bool, true, false, cond, Option, Some, None, eqb}
use Rattle.refusal.specs.Table.{accepted, file_over_limit, job_not_rising}
use Rattle.meanings.specs.Meanings.{text_in}
use Rattle.sentences.specs.Sentences.{accepted_form, refused_form, over_limit_form, not_rising_form, malformed_form, form_of}
use Rattle.sentences.specs.Steps.{forms, refused_row, row_of}
use Rattle.sentences.specs.declared.Advice.{Advice}
use Rattle.sentences.specs.declared.OfFile.{OfFile}
use Rattle.sentences.specs.declared.OfPart.{OfPart}
use Rattle.sentences.specs.declared.OfWord.{OfWord}
use Rattle.sentences.specs.declared.Sentence.{Sentence}

verdict-row : (t : Bool) (advice : Option Advice) → text_in forms (cond t 1 (refused_row advice)) ≡ cond t accepted_form (refused_form advice)
unfolding text_in forms
verdict-row true advice = refl
verdict-row false None = refl
verdict-row false (Some Advice.Floats) = refl
verdict-row false (Some Advice.Gzip) = refl

bill-row : (t u : Bool) → text_in forms (cond t 16 (cond u 17 18)) ≡ cond t over_limit_form (cond u not_rising_form malformed_form)
unfolding text_in forms
bill-row true u = refl
bill-row false true = refl
bill-row false false = refl

pub row-form : (sentence : Sentence) → text_in forms (row_of sentence) ≡ form_of sentence
unfolding text_in forms
row-form (Sentence.Verdict n advice) = verdict-row (eqb n accepted) advice
row-form (Sentence.File OfFile.TooLong) = refl
row-form (Sentence.File (OfFile.Unreadable n)) = refl
row-form (Sentence.Part OfPart.NoField) = refl
row-form (Sentence.Part OfPart.NoColumn) = refl
row-form (Sentence.Part OfPart.NotShown) = refl
row-form (Sentence.Part OfPart.Nested) = refl
row-form (Sentence.Part OfPart.IsBinary) = refl
row-form (Sentence.Part (OfPart.Refused n)) = refl
row-form (Sentence.Word OfWord.NoCommand) = refl
row-form (Sentence.Word OfWord.NoStation) = refl
row-form (Sentence.Word OfWord.NoJob) = refl
row-form (Sentence.Bill n receipt) = bill-row (eqb n file_over_limit) (eqb n job_not_rising)
row-form (Sentence.Unwritten n) = refl
