-- The writer's form of a column, by rules of its own that name no encoder. No lemma stands here: the laws are in Laws/RoundTrip.antt.
-- Assumes nothing.
use Rattle.std.specs.Prelude.{Option, Some, None, ◌≡◌, List, ℕ, drop}
use Rattle.numbers.specs.BigEndian.{unsigned_at}
use Rattle.steps.specs.Numbers.{numbers_in}
use Rattle.steps.specs.Payload.{number_size}
use Rattle.steps.specs.WriterForm.{NumbersForm}
use Rattle.columns.specs.declared.Parameter.{Parameter}
use Rattle.columns.specs.declared.Parameter.TheVariants.{Unused, Divisor, NameSize}
use Rattle.columns.specs.declared.Codec.{Codec}
use Rattle.columns.specs.Table.{codec_of}
use Rattle.columns.specs.Header.{header_size}

-- an unused parameter is 0
abbrev pub ParameterForm : Parameter → ℕ → Type 0
ParameterForm Unused m = m ≡ 0
ParameterForm Divisor m = Unit
ParameterForm NameSize m = Unit

-- the codec is known, its parameter m is 0 where it is unused, and the payload's numbers have the form that the codec asks for
abbrev pub CodecForm : Option Codec → ℕ → List ℕ → Type 0
CodecForm None m payload = ⊥
CodecForm (Some c) m payload = ParameterForm c.parameter m × NumbersForm c.form (numbers_in (number_size c.form) payload)

-- the bytes of a column, header and payload
unfoldable pub WriterForm : List ℕ → Type 0
WriterForm s = CodecForm (codec_of (unsigned_at 4 s 0)) (unsigned_at 4 s 8) (drop header_size s)
