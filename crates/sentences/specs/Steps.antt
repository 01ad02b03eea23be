-- The forms of the sentences as a table, for the code. No lemma stands here: the laws are in Laws/Steps.antt. Assumes nothing.
use Rattle.std.specs.Prelude.{cond, Option, Some, None, List, [], ◌∷◌, ℕ, eqb}
use Rattle.refusal.specs.Table.{accepted, file_over_limit, job_not_rising}
use Rattle.meanings.specs.Meanings.{Meaning}
use Rattle.sentences.specs.Sentences.{accepted_form, refused_form, file_form, part_form, word_form, over_limit_form, not_rising_form, malformed_form, unwritten_form}
use Rattle.sentences.specs.declared.Advice.{Advice}
use Rattle.sentences.specs.declared.OfFile.{OfFile}
use Rattle.sentences.specs.declared.OfPart.{OfPart}
use Rattle.sentences.specs.declared.OfWord.{OfWord}
use Rattle.sentences.specs.declared.Sentence.{Sentence}

-- a row of the table
abbrev pub row : ℕ → List ℕ → Meaning
row n form = record { number = n; text = form }

unfoldable pub forms : List Meaning
forms =
    row 1 accepted_form
    ∷ row 2 (refused_form None)
    ∷ row 3 (refused_form (Some Advice.Floats))
    ∷ row 4 (refused_form (Some Advice.Gzip))
    ∷ row 5 (file_form OfFile.TooLong)
    ∷ row 6 (file_form (OfFile.Unreadable 0))
    ∷ row 7 (part_form OfPart.NoField)
    ∷ row 8 (part_form OfPart.NoColumn)
    ∷ row 9 (part_form OfPart.NotShown)
    ∷ row 10 (part_form OfPart.Nested)
    ∷ row 11 (part_form OfPart.IsBinary)
    ∷ row 12 (part_form (OfPart.Refused 0))
    ∷ row 13 (word_form OfWord.NoCommand)
    ∷ row 14 (word_form OfWord.NoStation)
    ∷ row 15 (word_form OfWord.NoJob)
    ∷ row 16 over_limit_form
    ∷ row 17 not_rising_form
    ∷ row 18 malformed_form
    ∷ row 19 unwritten_form
    ∷ []

-- which row is the form of the verdict on a file
abbrev pub refused_row : Option Advice → ℕ
refused_row None = 2
refused_row (Some Advice.Floats) = 3
refused_row (Some Advice.Gzip) = 4

abbrev pub verdict_row : ℕ → Option Advice → ℕ
verdict_row n advice = cond (eqb n accepted) 1 (refused_row advice)

-- which row is the form of a run of receipts that is refused
abbrev pub bill_row : ℕ → ℕ
bill_row n = cond (eqb n file_over_limit) 16 (cond (eqb n job_not_rising) 17 18)

-- which row is the form of a sentence
abbrev pub row_of : Sentence → ℕ
row_of (Sentence.Verdict n advice) = verdict_row n advice
row_of (Sentence.File OfFile.TooLong) = 5
row_of (Sentence.File (OfFile.Unreadable n)) = 6
row_of (Sentence.Part OfPart.NoField) = 7
row_of (Sentence.Part OfPart.NoColumn) = 8
row_of (Sentence.Part OfPart.NotShown) = 9
row_of (Sentence.Part OfPart.Nested) = 10
row_of (Sentence.Part OfPart.IsBinary) = 11
row_of (Sentence.Part (OfPart.Refused n)) = 12
row_of (Sentence.Word OfWord.NoCommand) = 13
row_of (Sentence.Word OfWord.NoStation) = 14
row_of (Sentence.Word OfWord.NoJob) = 15
row_of (Sentence.Bill n receipt) = bill_row n
row_of (Sentence.Unwritten n) = 19
