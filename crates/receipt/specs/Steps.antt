-- For the code inside: a receipt's lines in parts as they are put, and one after another as they are read. No lemma stands here. Assumes nothing.
use Rattle.std.specs.Prelude.{Option, Some, None, Bool, cond, ◌&&◌, List, [], ◌∷◌, ◌++◌, ℕ, suc, ◌+◌, ◌*◌, ◌-◌, eqb, length, drop}
use Rattle.numbers.specs.Ranges.{within}
use Rattle.text.specs.Ascii.{ascii}
use Rattle.text.specs.Equal.{begins}
use Rattle.text.specs.Decimal.{is_digit}
use Rattle.receipt.specs.declared.Line.{Line}
use Rattle.receipt.specs.declared.Receipt.{Receipt}
use Rattle.receipt.specs.Receipt.{named_line}

-- the lines of station, job and verdict
abbrev pub first_lines : Receipt → List ℕ
first_lines r = named_line "station" r.station ++ named_line "job" r.job ++ named_line "verdict" r.verdict

-- the lines of the five counts
abbrev pub counts_lines : Receipt → List ℕ
counts_lines r =
    named_line "models" r.models
    ++ named_line "chains" r.chains
    ++ named_line "groups" r.groups
    ++ named_line "atoms" r.atoms
    ++ named_line "bonds" r.bonds

-- the lines of fields and units
abbrev pub last_lines : Receipt → List ℕ
last_lines r = named_line "fields" r.fields ++ named_line "units" r.units

-- what stands for a line that is not there: a number that no receipt has
abbrev pub no_line : Line
no_line = record { number = 4294967295; end = 0 }

-- a line, or what stands for one that is not there
abbrev pub line_or_none : Option Line → Line
line_or_none (Some l) = l
line_or_none None = no_line

-- whether a byte is a digit that can follow those of a number: not after a leading zero, and not after nine digits
abbrev pub takes_digit : ℕ → ℕ → Bool
takes_digit n b = is_digit b && within 1 99999999 n

-- the number that goes on at place i after digits that say n, up to a line feed, and the place after that
unfoldable pub digits_at : List ℕ → ℕ → ℕ → Line
digits_at [] n i = no_line
digits_at (b ∷ s) n i =
    cond (eqb b 0x0a) (record { number = n; end = suc i }) (cond (takes_digit n b) (digits_at s (n * 10 + (b - 48)) (suc i)) no_line)

-- the number that begins at place i, up to a line feed
unfoldable pub number_at : List ℕ → ℕ → Line
number_at [] i = no_line
number_at (b ∷ s) i = cond (is_digit b) (digits_at s (b - 48) (suc i)) no_line

-- the line at a place that begins with a word
unfoldable pub line_at : List ℕ → List ℕ → ℕ → Line
line_at word s at = cond (begins word (drop at s)) (number_at (drop (at + length word) s) (at + length word)) no_line

-- the words that the lines of a receipt begin with
abbrev pub words : List (List ℕ)
words =
    ascii "station="
    ∷ ascii "job="
    ∷ ascii "verdict="
    ∷ ascii "models="
    ∷ ascii "chains="
    ∷ ascii "groups="
    ∷ ascii "atoms="
    ∷ ascii "bonds="
    ∷ ascii "fields="
    ∷ ascii "units="
    ∷ []

-- the numbers of lines that begin with words, one after another from a place on, and where they end
abbrev pub numbers_at : List (List ℕ) → List ℕ → ℕ → List ℕ
numbers_at [] s at = []
numbers_at (w ∷ ws) s at = (line_at w s at).number ∷ numbers_at ws s (line_at w s at).end

abbrev pub end_at : List (List ℕ) → List ℕ → ℕ → ℕ
end_at [] s at = at
end_at (w ∷ ws) s at = end_at ws s (line_at w s at).end
