-- The table of refusal numbers: the thirty of paper 01, and from 30 on those that paper 02 adds. The contracts of this crate and of those
-- above it cite it. Each row is its meaning in the paper's words, its name and its number. No lemma stands here: the laws are in
-- Laws/Table.antt. Assumes nothing.
use Rattle.std.specs.Prelude.{ℕ}
use Rattle.refusal.specs.declared.Refusal.{Refusal}
use Rattle.refusal.specs.declared.Refusal.TheVariants.{FileOverLimit, CutShort, LeadByteUnknown, UnsignedTooLarge, StringNotUtf8, NestedTooDeep, TooManyEntries, KeyNotString, KeyRepeated, OuterNotMap, BytesAfter, FieldMissing, FieldType, ColumnShort, CodecUnknown, HeaderRange, PayloadSize, NumberNotAllowed, LengthDiffers, CountsDisagree, IndexOutside, ValueOutside, TooManyGroupTypes, VersionNot1, BufferTooSmall, NoSuchField, NotExact, NoSuchEntry, ReceiptMalformed, JobNotRising}

-- accepted
abbrev pub accepted : ℕ
accepted = 0

-- file over the limit
abbrev pub file_over_limit : ℕ
file_over_limit = 1

-- cut short
abbrev pub cut_short : ℕ
cut_short = 2

-- lead byte not in the subset
abbrev pub lead_byte_unknown : ℕ
lead_byte_unknown = 3

-- unsigned above 2,147,483,647
abbrev pub unsigned_too_large : ℕ
unsigned_too_large = 4

-- string not UTF-8
abbrev pub string_not_utf8 : ℕ
string_not_utf8 = 5

-- nested too deep
abbrev pub nested_too_deep : ℕ
nested_too_deep = 6

-- too many map entries
abbrev pub too_many_entries : ℕ
too_many_entries = 7

-- key not a string
abbrev pub key_not_string : ℕ
key_not_string = 8

-- key repeated
abbrev pub key_repeated : ℕ
key_repeated = 9

-- outer value not a map
abbrev pub outer_not_map : ℕ
outer_not_map = 10

-- bytes after the outer map
abbrev pub bytes_after : ℕ
bytes_after = 11

-- required field missing
abbrev pub field_missing : ℕ
field_missing = 12

-- field of the wrong type
abbrev pub field_type : ℕ
field_type = 13

-- column under 12 bytes
abbrev pub column_short : ℕ
column_short = 14

-- codec unknown, or not of this kind
abbrev pub codec_unknown : ℕ
codec_unknown = 15

-- header length or parameter out of range
abbrev pub header_range : ℕ
header_range = 16

-- payload size wrong
abbrev pub payload_size : ℕ
payload_size = 17

-- payload or column number not allowed
abbrev pub number_not_allowed : ℕ
number_not_allowed = 18

-- produced length differs from the header
abbrev pub length_differs : ℕ
length_differs = 19

-- counts disagree
abbrev pub counts_disagree : ℕ
counts_disagree = 20

-- index outside its table
abbrev pub index_outside : ℕ
index_outside = 21

-- value outside its list
abbrev pub value_outside : ℕ
value_outside = 22

-- too many group types
abbrev pub too_many_group_types : ℕ
too_many_group_types = 23

-- major version not 1
abbrev pub version_not1 : ℕ
version_not1 = 24

-- lent output too small
abbrev pub buffer_too_small : ℕ
buffer_too_small = 25

-- no such field
abbrev pub no_such_field : ℕ
no_such_field = 26

-- not exact in single precision
abbrev pub not_exact : ℕ
not_exact = 27

-- no such entry
abbrev pub no_such_entry : ℕ
no_such_entry = 28

-- receipt malformed
abbrev pub receipt_malformed : ℕ
receipt_malformed = 29

-- job not rising
abbrev pub job_not_rising : ℕ
job_not_rising = 30

-- the number of a meaning
abbrev pub refusal_number : Refusal → ℕ
refusal_number FileOverLimit = file_over_limit
refusal_number CutShort = cut_short
refusal_number LeadByteUnknown = lead_byte_unknown
refusal_number UnsignedTooLarge = unsigned_too_large
refusal_number StringNotUtf8 = string_not_utf8
refusal_number NestedTooDeep = nested_too_deep
refusal_number TooManyEntries = too_many_entries
refusal_number KeyNotString = key_not_string
refusal_number KeyRepeated = key_repeated
refusal_number OuterNotMap = outer_not_map
refusal_number BytesAfter = bytes_after
refusal_number FieldMissing = field_missing
refusal_number FieldType = field_type
refusal_number ColumnShort = column_short
refusal_number CodecUnknown = codec_unknown
refusal_number HeaderRange = header_range
refusal_number PayloadSize = payload_size
refusal_number NumberNotAllowed = number_not_allowed
refusal_number LengthDiffers = length_differs
refusal_number CountsDisagree = counts_disagree
refusal_number IndexOutside = index_outside
refusal_number ValueOutside = value_outside
refusal_number TooManyGroupTypes = too_many_group_types
refusal_number VersionNot1 = version_not1
refusal_number BufferTooSmall = buffer_too_small
refusal_number NoSuchField = no_such_field
refusal_number NotExact = not_exact
refusal_number NoSuchEntry = no_such_entry
refusal_number ReceiptMalformed = receipt_malformed
refusal_number JobNotRising = job_not_rising
