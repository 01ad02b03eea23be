-- The sentences of the program, one line each. A sentence is a form in which marks stand for what differs: @ for the file where the sentence
-- begins with it, & for the file elsewhere, $ for the name of a part of it, % for a word, # for the number of a refusal, * for its meaning, ~ for
-- the number of a receipt, and ! for the system's reason. No lemma stands here. Assumes nothing.
use Rattle.std.specs.Prelude.{Bool, cond, Option, Some, None, List, [], ◌∷◌, ◌++◌, ℕ, eqb, take}
use Prim.Native.Char.{code}
use Rattle.refusal.specs.Table.{accepted, file_over_limit, lead_byte_unknown, job_not_rising}
use Rattle.text.specs.Decimal.{decimal}
use Rattle.text.specs.Equal.{equal}
use Rattle.text.specs.Ascii.{ascii}
use Rattle.meanings.specs.Meanings.{meaning_of}
use Rattle.sentences.specs.Shown.{replaced, shown, file_name}
use Rattle.sentences.specs.Reasons.{reason_text}
use Rattle.sentences.specs.declared.Advice.{Advice}
use Rattle.sentences.specs.declared.OfFile.{OfFile}
use Rattle.sentences.specs.declared.OfPart.{OfPart}
use Rattle.sentences.specs.declared.OfWord.{OfWord}
use Rattle.sentences.specs.declared.Sentence.{Sentence}

-- does a file begin as gzip writes it?
abbrev pub is_gzip : List ℕ → Bool
is_gzip file = equal (take 2 file) (31 ∷ 139 ∷ [])

-- what to do about a file with a refusal number
abbrev pub advice_of : List ℕ → ℕ → Option Advice
advice_of file n = cond (is_gzip file) (Some Advice.Gzip) (cond (eqb n lead_byte_unknown) (Some Advice.Floats) None)

-- an accepted file
abbrev pub accepted_form : List ℕ
accepted_form = ascii "@ is accepted."

-- a refused file, and what to do about it
abbrev pub refused_form : Option Advice → List ℕ
refused_form None = ascii "@ is refused with #: *."
refused_form (Some Advice.Floats) = ascii "@ is refused with #: *. If it has 64-bit floats (lead byte cb), write them as 32-bit floats."
refused_form (Some Advice.Gzip) = ascii "@ is refused with #: *. It begins as a gzip file does: unpack it first, with gunzip."

-- a file that was not judged
abbrev pub file_form : OfFile → List ℕ
file_form OfFile.TooLong = ascii "@ is not judged: it has more than 65,536 bytes, the most that this program reads. The library takes files of up to 67,108,864 bytes."
file_form (OfFile.Unreadable n) = ascii "@ cannot be read: !."

-- a part of a file
abbrev pub part_form : OfPart → List ℕ
part_form OfPart.NoField = ascii "@ has no field \"$\"."
part_form OfPart.NoColumn = ascii "Field \"$\" of & is not a column: its value is not a binary."
part_form OfPart.NotShown = ascii "Column \"$\" of & is not shown: it has more than 65,536 values."
part_form OfPart.Nested = ascii "Field \"$\" of & is not shown as text: it is a map, or an array with elements other than numbers and strings. With --raw its bytes are written."
part_form OfPart.IsBinary = ascii "Field \"$\" of & is a column or another binary: \"station column\" shows the values of a column, and \"station view --raw\" the bytes of any binary."
part_form (OfPart.Refused n) = ascii "Column \"$\" of & is refused with #: *."

-- a word
abbrev pub word_form : OfWord → List ℕ
word_form OfWord.NoCommand = ascii "\"%\" is not a command. The command \"station help\" lists them."
word_form OfWord.NoStation = ascii "The station must be a number from 1 to 99, and \"%\" is not."
word_form OfWord.NoJob = ascii "The job must be a number from 1 to 999,999, and \"%\" is not."

-- a run of receipts that is refused: all files together, a job that does not rise, or a malformed receipt
abbrev pub over_limit_form : List ℕ
over_limit_form = ascii "The files together are refused with #: *. Bill them in parts."

abbrev pub not_rising_form : List ℕ
not_rising_form = ascii "Receipt ~ of & is refused with #: *. Put the receipts of each station in the order of their jobs."

abbrev pub malformed_form : List ℕ
malformed_form = ascii "Receipt ~ of & is refused with #: *. Receipts stand one directly after another, each as \"station receipt\" writes it."

abbrev pub bill_form : ℕ → List ℕ
bill_form n = cond (eqb n file_over_limit) over_limit_form (cond (eqb n job_not_rising) not_rising_form malformed_form)

-- output that was not written
abbrev pub unwritten_form : List ℕ
unwritten_form = ascii "The output was not written whole: !."

-- the form of a sentence
abbrev pub form_of : Sentence → List ℕ
form_of (Sentence.Verdict n advice) = cond (eqb n accepted) accepted_form (refused_form advice)
form_of (Sentence.File said) = file_form said
form_of (Sentence.Part said) = part_form said
form_of (Sentence.Word said) = word_form said
form_of (Sentence.Bill n receipt) = bill_form n
form_of (Sentence.Unwritten n) = unwritten_form

-- the number of the refusal that a sentence says
abbrev pub refusal_of : Sentence → ℕ
refusal_of (Sentence.Verdict n advice) = n
refusal_of (Sentence.File said) = 0
refusal_of (Sentence.Part (OfPart.Refused n)) = n
refusal_of (Sentence.Part OfPart.NoField) = 0
refusal_of (Sentence.Part OfPart.NoColumn) = 0
refusal_of (Sentence.Part OfPart.NotShown) = 0
refusal_of (Sentence.Part OfPart.Nested) = 0
refusal_of (Sentence.Part OfPart.IsBinary) = 0
refusal_of (Sentence.Word said) = 0
refusal_of (Sentence.Bill n receipt) = n
refusal_of (Sentence.Unwritten n) = 0

-- the number of the system's error that a sentence says
abbrev pub reason_of : Sentence → ℕ
reason_of (Sentence.Verdict n advice) = 0
reason_of (Sentence.File (OfFile.Unreadable n)) = n
reason_of (Sentence.File OfFile.TooLong) = 0
reason_of (Sentence.Part said) = 0
reason_of (Sentence.Word said) = 0
reason_of (Sentence.Bill n receipt) = 0
reason_of (Sentence.Unwritten n) = n

-- the number of the receipt that a sentence says
abbrev pub receipt_of : Sentence → ℕ
receipt_of (Sentence.Verdict n advice) = 0
receipt_of (Sentence.File said) = 0
receipt_of (Sentence.Part said) = 0
receipt_of (Sentence.Word said) = 0
receipt_of (Sentence.Bill n receipt) = receipt
receipt_of (Sentence.Unwritten n) = 0

-- what stands for a byte of a form: a mark for its text, and any other byte for itself
abbrev pub mark_text : List ℕ → List ℕ → ℕ → ℕ → ℕ → ℕ → List ℕ
mark_text subject name refusal reason receipt mark =
    cond (eqb mark (code "@")) (file_name (ascii "Standard input") subject)
    (cond (eqb mark (code "&")) (file_name (ascii "standard input") subject)
    (cond (eqb mark (code "$")) (shown name)
    (cond (eqb mark (code "%")) (shown subject)
    (cond (eqb mark (code "#")) (decimal refusal)
    (cond (eqb mark (code "*")) (meaning_of refusal)
    (cond (eqb mark (code "!")) (reason_text reason)
    (cond (eqb mark (code "~")) (decimal receipt)
    (mark ∷ []))))))))

-- what stands for a byte of the form of a sentence
abbrev pub mark_of : List ℕ → List ℕ → Sentence → ℕ → List ℕ
mark_of subject name sentence = mark_text subject name (refusal_of sentence) (reason_of sentence) (receipt_of sentence)

-- the sentence about a subject, a file or a word, with the name of a part
abbrev pub sentence_text : List ℕ → List ℕ → Sentence → List ℕ
sentence_text subject name sentence =
    replaced (mark_of subject name sentence) (form_of sentence) ++ ascii "\n"
