-- What a C call answers and leaves in its out parameters. No lemma stands here. Assumes nothing.
use Rattle.std.specs.Prelude.{cond, Result, Ok, Err, List, ℕ, length, eqb, ℤ, pos, Float}
use Rattle.std.specs.Int.{w32}
use Rattle.std.proofs.Common.{of_z, to_z}
use Rattle.refusal.specs.Table.{accepted}
use Rattle.refusal.specs.Outcome.{answer_number, answer_count}
use Rattle.values.specs.declared.Part.{Part}
use Rattle.transforms.specs.Matrix.{matrix_number, matrix_of}
use Rattle.columns.specs.declared.Header.{Header}
use Rattle.columns.specs.declared.Kind.{Kind}
use Rattle.columns.specs.declared.Kind.TheVariants as kind
use Rattle.columns.specs.declared.Wanted.{Wanted}
use Rattle.columns.specs.declared.Wanted.TheVariants.{Only, Real}
use Rattle.columns.specs.Decode.{decode}
use Rattle.columns.specs.Buffer.{decoded_answer}
use Rattle.decoding.specs.Calls.{fixed_answer}
use Rattle.floats.specs.Calls.{exactly}
use Rattle.cells.specs.declared.Cell.{Cell}
use Rattle.cells.specs.declared.Cell.TheVariants as cell
use Rattle.meanings.specs.Meanings.{meaning_answer}
use Rattle.encoding.specs.Demand.{Element, encoder_says, encoder_leaves}
use Rattle.receipt.specs.declared.Receipt.{Receipt}
use Rattle.receipt.specs.Receipt.{numbers_of}
use Rattle.receipt.specs.File.{receipt_answer}
use Rattle.bill.specs.Answer.{bill_answer}

-- a view: the start and the length of the part afterwards
abbrev pub view_start : Result Part ℕ → ℕ → ℕ
view_start (Ok part) old = part.at
view_start (Err r) old = old

abbrev pub view_length : Result Part ℕ → ℕ → ℕ
view_length (Ok part) old = part.count
view_length (Err r) old = old

-- a file opened, with room for so many elements in each buffer: its number, and the set of its named fields afterwards
abbrev pub opened_number : Result ℕ ℕ → ℕ
opened_number (Ok set) = accepted
opened_number (Err r) = r

abbrev pub opened_presence : Result ℕ ℕ → ℕ → ℕ
opened_presence (Ok set) old = set
opened_presence (Err r) old = old

-- a matrix: the rows afterwards, as they were on refusal
abbrev pub matrix_rows : List ℕ → ℕ → ℕ → List (List Float) → List (List Float)
matrix_rows file assembly transform old = cond (eqb (matrix_number file assembly transform) accepted) (matrix_of file assembly transform) old

-- a decoder of a column s of the kind that is wanted, into a lent buffer: its number, and its count afterwards
abbrev pub decoded_number : {B : Type 0} → Wanted → List ℕ → List B → ℕ
decoded_number w s buffer = answer_number (decoded_answer (decode w s) (length buffer))

abbrev pub decoded_count : {B : Type 0} → Wanted → List ℕ → List B → ℕ → ℕ
decoded_count w s buffer old = answer_count (decoded_answer (decode w s) (length buffer)) old

-- the decoder of floats: its number, and its count afterwards
abbrev pub floats_number : List ℕ → List ℕ → ℕ
floats_number s buffer = answer_number (decoded_answer (exactly (decode Real s)) (length buffer))

abbrev pub floats_count : List ℕ → List ℕ → ℕ → ℕ
floats_count s buffer old = answer_count (decoded_answer (exactly (decode Real s)) (length buffer)) old

-- the answer of the decoder of integers and divisor
abbrev pub fixed_of : List ℕ → List ℤ → Result (ℕ × ℤ) ℕ
fixed_of s buffer = fixed_answer (decode (Only kind.FixedPoint) s) (length buffer)

-- the decoder of integers and divisor: its number, and its count and its divisor afterwards
abbrev pub fixed_number : Result (ℕ × ℤ) ℕ → ℕ
fixed_number (Ok r) = accepted
fixed_number (Err r) = r

abbrev pub fixed_count : Result (ℕ × ℤ) ℕ → ℕ → ℕ
fixed_count (Ok r) old = r.0
fixed_count (Err r) old = old

abbrev pub fixed_divisor : Result (ℕ × ℤ) ℕ → ℤ → ℤ
fixed_divisor (Ok r) old = r.1
fixed_divisor (Err r) old = old

-- a header as it is judged: its number; a field of it afterwards, which is a number where the header passes; and the parameter afterwards, 0
-- where the codec uses none
abbrev pub header_number : Result Header ℕ → ℕ
header_number (Ok h) = accepted
header_number (Err r) = r

abbrev pub header_now : Result Header ℕ → ℤ → ℤ → ℤ
header_now (Ok h) z old = z
header_now (Err r) z old = old

abbrev pub header_parameter : Result Header ℕ → ℤ → ℤ
header_parameter (Ok h) old = to_z w32 h.parameter
header_parameter (Err r) old = old

-- a cell: its number; and kind (1 an integer, 2 a character, 3 a float), integer and float afterwards
abbrev pub cell_number : Cell → ℕ
cell_number (cell.Int x) = accepted
cell_number (cell.Char b) = accepted
cell_number (cell.Float f) = accepted
cell_number (cell.Refused r) = r

abbrev pub cell_kind : Cell → ℕ → ℕ
cell_kind (cell.Int x) old = 1
cell_kind (cell.Char b) old = 2
cell_kind (cell.Float f) old = 3
cell_kind (cell.Refused r) old = old

abbrev pub cell_integer : Cell → ℤ → ℤ
cell_integer (cell.Int x) old = x
cell_integer (cell.Char b) old = pos b
cell_integer (cell.Float f) old = old
cell_integer (cell.Refused r) old = old

abbrev pub cell_real : Cell → Float → Float
cell_real (cell.Int x) old = old
cell_real (cell.Char b) old = old
cell_real (cell.Float f) old = f
cell_real (cell.Refused r) old = old

-- an encoder of a kind, by its codec, its parameter (0 where the call takes none) and the elements: its number, and the bytes written and the buffer afterwards
abbrev pub encoded_number : (k : Kind) → ℤ → ℤ → List (Element k) → List ℕ → ℕ
encoded_number k codec m elements buffer = answer_number (encoder_says k (of_z w32 codec) (of_z w32 m) elements (length buffer))

abbrev pub encoded_count : (k : Kind) → ℤ → ℤ → List (Element k) → List ℕ → ℕ → ℕ
encoded_count k codec m elements buffer old = answer_count (encoder_says k (of_z w32 codec) (of_z w32 m) elements (length buffer)) old

abbrev pub encoded_leaves : (k : Kind) → ℤ → ℤ → List (Element k) → List ℕ → List ℕ
encoded_leaves k codec m elements buffer = encoder_leaves k (of_z w32 codec) (of_z w32 m) elements buffer

-- a receipt written: its number, and the bytes written afterwards
abbrev pub receipt_number : ℕ → ℕ → List ℕ → List ℕ → ℕ
receipt_number station job file buffer = answer_number (receipt_answer station job file (length buffer))

abbrev pub receipt_count : ℕ → ℕ → List ℕ → List ℕ → ℕ → ℕ
receipt_count station job file buffer old = answer_count (receipt_answer station job file (length buffer)) old

-- a bill written: its number, and the bytes written afterwards
abbrev pub billed_number : List ℕ → List ℕ → ℕ
billed_number receipts buffer = answer_number (bill_answer receipts (length buffer))

abbrev pub billed_count : List ℕ → List ℕ → ℕ → ℕ
billed_count receipts buffer old = answer_count (bill_answer receipts (length buffer)) old

-- the meaning of a number written: its number, and the bytes written afterwards
abbrev pub meaning_number : ℕ → List ℕ → ℕ
meaning_number n buffer = answer_number (meaning_answer n (length buffer))

abbrev pub meaning_count : ℕ → List ℕ → ℕ → ℕ
meaning_count n buffer old = answer_count (meaning_answer n (length buffer)) old

-- a receipt read: its number, and the numbers of its lines in their order afterwards
abbrev pub read_number : Result Receipt ℕ → ℕ
read_number (Ok r) = accepted
read_number (Err n) = n

abbrev pub read_numbers : Result Receipt ℕ → List ℕ → List ℕ
read_numbers (Ok r) old = numbers_of r
read_numbers (Err n) old = old
