-- The words of the program: its commands, how many words each takes, and what they say. No lemma stands here. Assumes nothing.
use Rattle.std.specs.Prelude.{Bool, true, false, cond, Option, Some, None, List, ℕ, eqb, leb, ltb}
use Rattle.refusal.specs.Table.{buffer_too_small}
use Rattle.sentences.specs.declared.OfPart.{OfPart}
use Rattle.text.specs.Equal.{equal}
use Rattle.text.specs.Ascii.{ascii}
use Rattle.text.specs.Decimal.{number_in}
use Rattle.commands.specs.declared.words.Command.{Command}
use Rattle.commands.specs.declared.words.Command.TheVariants.{Check, Receipt, Bill, Fields, View, Column, Help, Version, Unknown}

-- the command about the program itself that a word names
abbrev pub about_of : List ℕ → Command
about_of word =
    cond (equal word (ascii "help")) Help
    (cond (equal word (ascii "--help")) Help
    (cond (equal word (ascii "-h")) Help
    (cond (equal word (ascii "--version")) Version
    Unknown)))

-- the command that a word names
abbrev pub command_of : List ℕ → Command
command_of word =
    cond (equal word (ascii "check")) Check
    (cond (equal word (ascii "receipt")) Receipt
    (cond (equal word (ascii "bill")) Bill
    (cond (equal word (ascii "fields")) Fields
    (cond (equal word (ascii "view")) (View false)
    (cond (equal word (ascii "column")) (Column false)
    (about_of word))))))

-- the command with --raw; one that does not take it stays
abbrev pub raw_of : Command → Command
raw_of Check = Check
raw_of Receipt = Receipt
raw_of Bill = Bill
raw_of Fields = Fields
raw_of (View raw) = View true
raw_of (Column raw) = Column true
raw_of Help = Help
raw_of Version = Version
raw_of Unknown = Unknown

-- the command with the word that stands directly after it
abbrev pub flagged : Command → List ℕ → Command
flagged command word = cond (equal word (ascii "--raw")) (raw_of command) command

-- are there as many words as a command takes? The program's name, the descriptor and the command are counted
abbrev pub words_fit : Command → ℕ → Bool
words_fit Check n = leb 4 n
words_fit Receipt n = eqb n 6
words_fit Bill n = leb 4 n
words_fit Fields n = eqb n 4
words_fit (View false) n = eqb n 5
words_fit (View true) n = eqb n 6
words_fit (Column false) n = eqb n 5
words_fit (Column true) n = eqb n 6
words_fit Help n = eqb n 3
words_fit Version n = eqb n 3
words_fit Unknown n = true

-- which of the words is the file's name, or the first of them
abbrev pub file_place : Command → ℕ
file_place Check = 3
file_place Receipt = 5
file_place Bill = 3
file_place Fields = 3
file_place (View false) = 3
file_place (View true) = 4
file_place (Column false) = 3
file_place (Column true) = 4
file_place Help = 3
file_place Version = 3
file_place Unknown = 3

-- which of the words is the name of a field: the one after the file's
abbrev pub name_place : Command → ℕ
name_place Check = 4
name_place Receipt = 6
name_place Bill = 4
name_place Fields = 4
name_place (View false) = 4
name_place (View true) = 5
name_place (Column false) = 4
name_place (Column true) = 5
name_place Help = 4
name_place Version = 4
name_place Unknown = 4

-- a number that a command asks for, 1 to a limit
abbrev pub asked_by : Option ℕ → ℕ → Option ℕ
asked_by None limit = None
asked_by (Some n) limit = cond (ltb n 1) None (cond (ltb limit n) None (Some n))

-- the number that a word says, if it is 1 to a limit
abbrev pub asked_of : List ℕ → ℕ → Option ℕ
asked_of word limit = asked_by (number_in word) limit

-- what is said of a column that is refused
abbrev pub part_of : ℕ → OfPart
part_of n = cond (eqb n buffer_too_small) OfPart.NotShown (OfPart.Refused n)
