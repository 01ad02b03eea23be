-- Laws of the table of refusal numbers: no two meanings have one number, since the number tells the meaning; and rows that join move no
-- other. Assumes nothing.
use Rattle.std.specs.Prelude.{◌≡◌, refl, Bool, true, cond, ◌&&◌, Result, Ok, Err, List, [], ◌∷◌, ℕ, eqb}
use Rattle.std.proofs.Common.{sym, ap, ◌∙◌}
use Rattle.refusal.specs.declared.Refusal.{Refusal}
use Rattle.refusal.specs.declared.Refusal.TheVariants.{FileOverLimit, CutShort, LeadByteUnknown, UnsignedTooLarge, StringNotUtf8, NestedTooDeep, TooManyEntries, KeyNotString, KeyRepeated, OuterNotMap, BytesAfter, FieldMissing, FieldType, ColumnShort, CodecUnknown, HeaderRange, PayloadSize, NumberNotAllowed, LengthDiffers, CountsDisagree, IndexOutside, ValueOutside, TooManyGroupTypes, VersionNot1, BufferTooSmall, NoSuchField, NotExact, NoSuchEntry, ReceiptMalformed, JobNotRising}
use Rattle.refusal.specs.Outcome.{number_of}

-- the outcomes of a call that gives nothing else, in any order
abbrev pub Outcome : Type 0
Outcome = Result (Unit {0}) Refusal

abbrev pub meanings : List Outcome
meanings = Ok record {} ∷ Err FileOverLimit ∷ Err CutShort ∷ Err LeadByteUnknown ∷ Err UnsignedTooLarge ∷ Err StringNotUtf8 ∷ Err NestedTooDeep ∷ Err TooManyEntries ∷ Err KeyNotString ∷ Err KeyRepeated ∷ Err OuterNotMap ∷ Err BytesAfter ∷ Err FieldMissing ∷ Err FieldType ∷ Err ColumnShort ∷ Err CodecUnknown ∷ Err HeaderRange ∷ Err PayloadSize ∷ Err NumberNotAllowed ∷ Err LengthDiffers ∷ Err CountsDisagree ∷ Err IndexOutside ∷ Err ValueOutside ∷ Err TooManyGroupTypes ∷ Err VersionNot1 ∷ Err BufferTooSmall ∷ Err NoSuchField ∷ Err NotExact ∷ Err NoSuchEntry ∷ Err ReceiptMalformed ∷ Err JobNotRising ∷ []

-- the first of some outcomes that has a number; that nothing was refused where none has
abbrev pub first_with : ℕ → List Outcome → Outcome
first_with n [] = Ok record {}
first_with n (r ∷ rs) = cond (eqb (number_of r) n) r (first_with n rs)

-- the outcome of a number
abbrev pub refusal_of : ℕ → Outcome
refusal_of n = first_with n meanings

pub refusal_of-refusal_number : (r : Outcome) → refusal_of (number_of r) ≡ r
refusal_of-refusal_number (Ok u) = refl
refusal_of-refusal_number (Err FileOverLimit) = refl
refusal_of-refusal_number (Err CutShort) = refl
refusal_of-refusal_number (Err LeadByteUnknown) = refl
refusal_of-refusal_number (Err UnsignedTooLarge) = refl
refusal_of-refusal_number (Err StringNotUtf8) = refl
refusal_of-refusal_number (Err NestedTooDeep) = refl
refusal_of-refusal_number (Err TooManyEntries) = refl
refusal_of-refusal_number (Err KeyNotString) = refl
refusal_of-refusal_number (Err KeyRepeated) = refl
refusal_of-refusal_number (Err OuterNotMap) = refl
refusal_of-refusal_number (Err BytesAfter) = refl
refusal_of-refusal_number (Err FieldMissing) = refl
refusal_of-refusal_number (Err FieldType) = refl
refusal_of-refusal_number (Err ColumnShort) = refl
refusal_of-refusal_number (Err CodecUnknown) = refl
refusal_of-refusal_number (Err HeaderRange) = refl
refusal_of-refusal_number (Err PayloadSize) = refl
refusal_of-refusal_number (Err NumberNotAllowed) = refl
refusal_of-refusal_number (Err LengthDiffers) = refl
refusal_of-refusal_number (Err CountsDisagree) = refl
refusal_of-refusal_number (Err IndexOutside) = refl
refusal_of-refusal_number (Err ValueOutside) = refl
refusal_of-refusal_number (Err TooManyGroupTypes) = refl
refusal_of-refusal_number (Err VersionNot1) = refl
refusal_of-refusal_number (Err BufferTooSmall) = refl
refusal_of-refusal_number (Err NoSuchField) = refl
refusal_of-refusal_number (Err NotExact) = refl
refusal_of-refusal_number (Err NoSuchEntry) = refl
refusal_of-refusal_number (Err ReceiptMalformed) = refl
refusal_of-refusal_number (Err JobNotRising) = refl

pub refusal_number-injective : (q r : Outcome) → number_of q ≡ number_of r → q ≡ r
refusal_number-injective q r e = sym (refusal_of-refusal_number q) ∙ ap refusal_of e ∙ refusal_of-refusal_number r

-- the thirty meanings of paper 01 with their numbers, before any joined
abbrev before : List (Outcome × ℕ)
before =
    (Ok record {}, 0)
    ∷ (Err FileOverLimit, 1)
    ∷ (Err CutShort, 2)
    ∷ (Err LeadByteUnknown, 3)
    ∷ (Err UnsignedTooLarge, 4)
    ∷ (Err StringNotUtf8, 5)
    ∷ (Err NestedTooDeep, 6)
    ∷ (Err TooManyEntries, 7)
    ∷ (Err KeyNotString, 8)
    ∷ (Err KeyRepeated, 9)
    ∷ (Err OuterNotMap, 10)
    ∷ (Err BytesAfter, 11)
    ∷ (Err FieldMissing, 12)
    ∷ (Err FieldType, 13)
    ∷ (Err ColumnShort, 14)
    ∷ (Err CodecUnknown, 15)
    ∷ (Err HeaderRange, 16)
    ∷ (Err PayloadSize, 17)
    ∷ (Err NumberNotAllowed, 18)
    ∷ (Err LengthDiffers, 19)
    ∷ (Err CountsDisagree, 20)
    ∷ (Err IndexOutside, 21)
    ∷ (Err ValueOutside, 22)
    ∷ (Err TooManyGroupTypes, 23)
    ∷ (Err VersionNot1, 24)
    ∷ (Err BufferTooSmall, 25)
    ∷ (Err NoSuchField, 26)
    ∷ (Err NotExact, 27)
    ∷ (Err NoSuchEntry, 28)
    ∷ (Err ReceiptMalformed, 29)
    ∷ []

-- whether each meaning still has the number beside it
abbrev kept : List (Outcome × ℕ) → Bool
kept [] = true
kept (row ∷ rows) = eqb (number_of row.0) row.1 && kept rows

pub before-kept : kept before ≡ true
before-kept = refl
