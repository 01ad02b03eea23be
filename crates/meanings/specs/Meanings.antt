-- The meanings of the refusal numbers in words: the one list that every other place takes them from. A row for each number, in any order.
-- No lemma stands here: the laws are in Laws/Meanings.antt. Assumes nothing.
use Rattle.std.specs.Prelude.{Bool, false, cond, ◌||◌, Result, Ok, Err, List, [], ◌∷◌, ℕ, eqb, length}
use Prim.Native.String as Text
use Rattle.refusal.specs.Table.{accepted, file_over_limit, cut_short, lead_byte_unknown, unsigned_too_large, string_not_utf8, nested_too_deep, too_many_entries, key_not_string, key_repeated, outer_not_map, bytes_after, field_missing, field_type, column_short, codec_unknown, header_range, payload_size, number_not_allowed, length_differs, counts_disagree, index_outside, value_outside, too_many_group_types, version_not1, buffer_too_small, no_such_field, not_exact, no_such_entry, receipt_malformed, job_not_rising}
use Rattle.refusal.specs.Outcome.{answered}
use Rattle.refusal.specs.Answer.{leaves}
use Rattle.text.specs.Ascii.{ascii}

-- a refusal number and what it means
pub record Meaning : Type 0 where
  pub number : ℕ
  pub text : List ℕ

abbrev pub says : ℕ → Text.String → Meaning
says n s = record { number = n; text = ascii s }

unfoldable pub meanings : List Meaning
meanings =
    says accepted "accepted"
    ∷ says file_over_limit "the file is over the limit of 67,108,864 bytes"
    ∷ says cut_short "the file is cut short"
    ∷ says lead_byte_unknown "a lead byte is not in the subset"
    ∷ says unsigned_too_large "an unsigned integer is above 2,147,483,647"
    ∷ says string_not_utf8 "a string is not UTF-8"
    ∷ says nested_too_deep "arrays and maps are nested too deep"
    ∷ says too_many_entries "a map has too many entries"
    ∷ says key_not_string "a key is not a string"
    ∷ says key_repeated "a key is repeated"
    ∷ says outer_not_map "the outer value is not a map"
    ∷ says bytes_after "there are bytes after the outer map"
    ∷ says field_missing "a required field is missing"
    ∷ says field_type "a field is of the wrong type"
    ∷ says column_short "a column is under 12 bytes"
    ∷ says codec_unknown "a column's codec is unknown, or not of this kind"
    ∷ says header_range "a column's length or parameter is out of range"
    ∷ says payload_size "a column's payload has the wrong size"
    ∷ says number_not_allowed "a number in a column is not allowed"
    ∷ says length_differs "a column's results are not as many as its header says"
    ∷ says counts_disagree "counts disagree"
    ∷ says index_outside "an index is outside its table"
    ∷ says value_outside "a value is outside its list"
    ∷ says too_many_group_types "there are too many group types"
    ∷ says version_not1 "the major version is not 1"
    ∷ says buffer_too_small "the buffer is too small"
    ∷ says no_such_field "there is no such field"
    ∷ says not_exact "a number is not exact in single precision"
    ∷ says no_such_entry "there is no such entry"
    ∷ says receipt_malformed "the receipt is malformed"
    ∷ says job_not_rising "the job number does not rise within its station"
    ∷ []

-- whether a row has a number
unfoldable pub is_in : List Meaning → ℕ → Bool
is_in [] n = false
is_in (m ∷ ms) n = eqb m.number n || is_in ms n

-- the text of the row with a number; none where no row has it
unfoldable pub text_in : List Meaning → ℕ → List ℕ
text_in [] n = []
text_in (m ∷ ms) n = cond (eqb m.number n) m.text (text_in ms n)

-- whether the table has a number
abbrev pub has_meaning : ℕ → Bool
has_meaning n = is_in meanings n

-- what a refusal number means
unfoldable pub meaning_of : ℕ → List ℕ
meaning_of n = text_in meanings n

-- room that is enough for every meaning
abbrev pub meaning_limit : ℕ
meaning_limit = 64

-- what writing a meaning into a buffer of so many bytes answers: 28 for a number that the table does not have, then 25, else the number of bytes
unfoldable pub meaning_answer : ℕ → ℕ → Result ℕ ℕ
meaning_answer n room = cond (has_meaning n) (answered (length (meaning_of n)) room) (Err no_such_entry)

-- what the buffer holds afterwards: the meaning and then what was there; on refusal what was there
unfoldable pub meaning_buffer : ℕ → List ℕ → List ℕ
meaning_buffer n buffer = cond (has_meaning n) (leaves (meaning_of n) buffer) buffer
