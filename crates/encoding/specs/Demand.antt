-- Demand 2 as one statement, for every kind and each of its codecs, by what the calls answer and leave: a column that `decode` defines is handed
-- over; an encoder succeeds exactly when its codec can hold the column; what it wrote decodes to the column that was lent; and bytes in the
-- writer's form come back unchanged. Codecs 9 to 13 asked for as floats are divided and do not come back, so that nothing is claimed of them
-- here: what they give is the contract of `floats::decode_float32`. No lemma stands here: that the statement holds is `demand-2` of
-- Laws/Demand.antt. Assumes nothing.
use Rattle.std.specs.Prelude.{◌≡◌, Result, Ok, true, List, ◌++◌, map, ℕ, ◌≤◌, ◌<◌, ◌^◌, length, get_or, take, drop, ℤ, pos}
use Rattle.std.specs.Int.{w32}
use Rattle.std.proofs.Common.{to_z}
use Rattle.refusal.specs.Outcome.{answered}
use Rattle.numbers.specs.BigEndian.{Bytes, unsigned_at}
use Rattle.steps.specs.Fits.{AllFit}
use Rattle.columns.specs.declared.Kind.{Kind}
use Rattle.columns.specs.declared.Kind.TheVariants as kind
use Rattle.columns.specs.declared.Wanted.TheVariants.{Only, Real}
use Rattle.columns.specs.Decode.{column, decode}
use Rattle.columns.specs.Buffer.{decoded_answer, decoded_buffer}
use Rattle.columns.specs.Encode.{encode}
use Rattle.columns.specs.CanHold.{is_one_of, codecs_of, CanHold}
use Rattle.columns.specs.WriterForm.{WriterForm}
use Rattle.decoding.specs.Calls as decoding
use Rattle.floats.specs.Calls as floats
use Rattle.encoding.specs.Calls.{encoded_answer, encoded_buffer}

-- The calls of a kind

-- the elements of a lent column: the bits of floats, 32-bit numbers, or bytes
abbrev pub Element : Kind → Type 0
Element kind.Float32 = ℕ
Element kind.FixedPoint = ℤ
Element kind.Int8 = ℤ
Element kind.Int16 = ℤ
Element kind.Int32 = ℤ
Element kind.Strings = ℕ
Element kind.Chars = ℕ

-- a lent slice holds elements of its type
abbrev pub Typed : (k : Kind) → List (Element k) → Type 0
Typed kind.Float32 ys = (i : ℕ) → i < length ys → get_or ys i 0 < 2 ^ 32
Typed kind.FixedPoint ys = AllFit w32 ys
Typed kind.Int8 ys = AllFit w32 ys
Typed kind.Int16 ys = AllFit w32 ys
Typed kind.Int32 ys = AllFit w32 ys
Typed kind.Strings ys = Bytes ys
Typed kind.Chars ys = Bytes ys

-- the cells of a column that its elements are
abbrev pub cells_from : (k : Kind) → List (Element k) → List ℤ
cells_from kind.Float32 ys = map (to_z w32) ys
cells_from kind.FixedPoint ys = ys
cells_from kind.Int8 ys = ys
cells_from kind.Int16 ys = ys
cells_from kind.Int32 ys = ys
cells_from kind.Strings ys = map pos ys
cells_from kind.Chars ys = map pos ys

-- the element of a lent buffer that a cell becomes
abbrev pub element_of : (k : Kind) → ℤ → Element k
element_of kind.Float32 x = floats.kept x
element_of kind.FixedPoint x = x
element_of kind.Int8 x = x
element_of kind.Int16 x = x
element_of kind.Int32 x = x
element_of kind.Strings x = decoding.as_byte x
element_of kind.Chars x = decoding.as_byte x

-- the parameter that an encoder takes, a divisor or the size of names; the others take none
abbrev pub taken : Kind → ℕ → ℕ
taken kind.Float32 m = 0
taken kind.FixedPoint m = m
taken kind.Int8 m = 0
taken kind.Int16 m = 0
taken kind.Int32 m = 0
taken kind.Strings m = m
taken kind.Chars m = 0

-- what an encoder answers for the codec c, the parameter m and the elements ys, and what it leaves in the buffer; c and m are the 32 bits
-- of the numbers that the call takes
abbrev pub encoder_says : (k : Kind) → ℕ → ℕ → List (Element k) → ℕ → Result ℕ ℕ
encoder_says k c m ys room = encoded_answer (encode (Only k) c (taken k m) (cells_from k ys)) room

abbrev pub encoder_leaves : (k : Kind) → ℕ → ℕ → List (Element k) → List ℕ → List ℕ
encoder_leaves k c m ys buffer = encoded_buffer (encode (Only k) c (taken k m) (cells_from k ys)) buffer

-- what a decoder answers that wrote n elements, with the divisor d, which is 0 where there is none; d is told as the signed number of its 32
-- bits, which is d itself up to 2,147,483,647
abbrev pub wrote : ℕ → ℕ → Result (ℕ × ℤ) ℕ
wrote n d = Ok (n, to_z w32 d)

-- the divisor that a decoder tells of a column with the parameter m: that of fixed point, and 0 for the other kinds
abbrev pub divisor_of : Kind → ℕ → ℕ
divisor_of kind.Float32 m = 0
divisor_of kind.FixedPoint m = m
divisor_of kind.Int8 m = 0
divisor_of kind.Int16 m = 0
divisor_of kind.Int32 m = 0
divisor_of kind.Strings m = 0
divisor_of kind.Chars m = 0

-- what a decoder answers for the bytes s and a buffer of so many elements, and what it leaves in the buffer
abbrev pub decoder_says : Kind → List ℕ → ℕ → Result (ℕ × ℤ) ℕ
decoder_says kind.Float32 s room = decoding.with_divisor 0 (decoded_answer (floats.exactly (decode Real s)) room)
decoder_says kind.FixedPoint s room = decoding.fixed_answer (decode (Only kind.FixedPoint) s) room
decoder_says kind.Int8 s room = decoding.with_divisor 0 (decoded_answer (decode (Only kind.Int8) s) room)
decoder_says kind.Int16 s room = decoding.with_divisor 0 (decoded_answer (decode (Only kind.Int16) s) room)
decoder_says kind.Int32 s room = decoding.with_divisor 0 (decoded_answer (decode (Only kind.Int32) s) room)
decoder_says kind.Strings s room = decoding.with_divisor 0 (decoded_answer (decode (Only kind.Strings) s) room)
decoder_says kind.Chars s room = decoding.with_divisor 0 (decoded_answer (decode (Only kind.Chars) s) room)

abbrev pub decoder_leaves : (k : Kind) → List ℕ → List (Element k) → List (Element k)
decoder_leaves kind.Float32 s buffer = decoded_buffer floats.float_bits (floats.exactly (decode Real s)) buffer
decoder_leaves kind.FixedPoint s buffer = decoding.number_buffer (decode (Only kind.FixedPoint) s) buffer
decoder_leaves kind.Int8 s buffer = decoding.number_buffer (decode (Only kind.Int8) s) buffer
decoder_leaves kind.Int16 s buffer = decoding.number_buffer (decode (Only kind.Int16) s) buffer
decoder_leaves kind.Int32 s buffer = decoding.number_buffer (decode (Only kind.Int32) s) buffer
decoder_leaves kind.Strings s buffer = decoding.byte_buffer (decode (Only kind.Strings) s) buffer
decoder_leaves kind.Chars s buffer = decoding.byte_buffer (decode (Only kind.Chars) s) buffer

-- The demand

-- the bytes of a column of the kind k, by its codec's number, and the codec and the parameter in their header
abbrev pub OfKind : Kind → List ℕ → Type 0
OfKind k s = is_one_of (unsigned_at 4 s 0) (codecs_of k) ≡ true

abbrev pub codec_in : List ℕ → ℕ
codec_in s = unsigned_at 4 s 0

abbrev pub parameter_in : List ℕ → ℕ
parameter_in s = unsigned_at 4 s 8

-- the bytes s are a column of the codec c with the parameter m, and decode into the buffer to the elements ys, with the rest of the buffer as
-- it was
pub record Back (k : Kind) (c m : ℕ) (ys : List (Element k)) (s : List ℕ) (buffer : List (Element k)) : Type 0 where
  pub codec : codec_in s ≡ c
  pub parameter : taken k (parameter_in s) ≡ taken k m
  pub answer : decoder_says k s (length buffer) ≡ wrote (length ys) (divisor_of k m)
  pub buffer-after : decoder_leaves k s buffer ≡ ys ++ drop (length ys) buffer

pub record Demand2 : Type 0 where
  -- a column that its codec defines is handed over, in any buffer with room, and the rest of the buffer is left
  pub decodes : (k : Kind) (s : List ℕ) (m : ℕ) (xs : List ℤ) (buffer : List (Element k)) → decode (Only k) s ≡ column k m xs → length xs ≤ length buffer
      → (decoder_says k s (length buffer) ≡ wrote (length xs) (divisor_of k m)) × (decoder_leaves k s buffer ≡ map (element_of k) xs ++ drop (length xs) buffer)
  -- a column that the codec can hold is written in every buffer with room for its bytes, and is refused for room alone in a smaller one
  pub encodes : (k : Kind) (c m : ℕ) (ys : List (Element k)) → CanHold k c (taken k m) (cells_from k ys)
      → (n : ℕ) × ((room : ℕ) → encoder_says k c m ys room ≡ answered n room)
  -- whatever an encoder writes, the codec can hold
  pub encodes-held : (k : Kind) (c m : ℕ) (ys : List (Element k)) (room n : ℕ) → encoder_says k c m ys room ≡ Ok n → CanHold k c (taken k m) (cells_from k ys)
  -- an encoder that answers n wrote n bytes of the codec and the parameter that were asked for, and these decode, in any buffer with room,
  -- to the column that was lent
  pub decodes-back : (k : Kind) (c m : ℕ) (ys : List (Element k)) (old : List ℕ) (n : ℕ) → Typed k ys → encoder_says k c m ys (length old) ≡ Ok n
      → (buffer : List (Element k)) → length ys ≤ length buffer → Back k c m ys (take n (encoder_leaves k c m ys old)) buffer
  -- whatever a decoder hands over, the codec of its bytes can hold
  pub holds-decoded : (k : Kind) (s : List ℕ) (buffer : List (Element k)) (n d : ℕ) → OfKind k s → decoder_says k s (length buffer) ≡ wrote n d
      → CanHold k (codec_in s) (taken k (parameter_in s)) (cells_from k (take n (decoder_leaves k s buffer)))
  -- bytes in the writer's form, decoded and encoded again with the codec and the parameter of their header, are those bytes
  pub encodes-back : (k : Kind) (s : List ℕ) (buffer : List (Element k)) (n d : ℕ) → Bytes s → OfKind k s → WriterForm s → decoder_says k s (length buffer) ≡ wrote n d
      → (old : List ℕ) → length s ≤ length old
      → (encoder_says k (codec_in s) (parameter_in s) (take n (decoder_leaves k s buffer)) (length old) ≡ Ok (length s))
      × (encoder_leaves k (codec_in s) (parameter_in s) (take n (decoder_leaves k s buffer)) old ≡ s ++ drop (length s) old)
