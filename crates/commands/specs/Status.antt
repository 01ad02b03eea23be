-- The status of a run: 0 where the file is accepted or the data were written, 1 where the file or the column is refused, 2 where nothing was produced. No lemma
-- stands here. Assumes nothing.
use Rattle.std.specs.Prelude.{Bool, cond, Option, Some, None, List, ℤ, ℕ, eqb, ltb, pos}
use Rattle.refusal.specs.Table.{accepted}
use Rattle.text.specs.Decimal.{number_in}
use Rattle.sentences.specs.declared.OfPart.{OfPart}
use Rattle.commands.specs.declared.status.Status.{Status}
use Rattle.commands.specs.declared.status.Status.TheVariants.{Done, Refused, Nothing}

-- a number as a descriptor
abbrev pub descriptor_by : Option ℕ → Option ℤ
descriptor_by (Some n) = cond (ltb n 2147483648) (Some (pos n)) None
descriptor_by None = None

-- the descriptor that a word names
abbrev pub descriptor_in : List ℕ → Option ℤ
descriptor_in word = descriptor_by (number_in word)

-- the status of a verdict
abbrev pub verdict_status : ℕ → Status
verdict_status verdict = cond (eqb verdict accepted) Done Refused

-- the status of data that were written whole, or not
abbrev pub written_status : Bool → Status
written_status written = cond written Done Nothing

-- the status of a part of a file that was not written
abbrev pub part_status : OfPart → Status
part_status (OfPart.Refused n) = Refused
part_status OfPart.NoField = Nothing
part_status OfPart.NoColumn = Nothing
part_status OfPart.NotShown = Nothing
part_status OfPart.Nested = Nothing
part_status OfPart.IsBinary = Nothing

-- the worse of two statuses: 2 over 1 over 0
abbrev pub worst_of : Status → Status → Status
worst_of Done b = b
worst_of Refused Done = Refused
worst_of Refused Refused = Refused
worst_of Refused Nothing = Nothing
worst_of Nothing b = Nothing

-- the digit of a status, in ASCII
abbrev pub digit_of : Status → ℕ
digit_of Done = 48
digit_of Refused = 49
digit_of Nothing = 50
