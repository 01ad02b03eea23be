-- Receipts (paper 01, "Views and the receipt"): their numbers, the rules that these keep, their bytes, and which bytes are a receipt. No reader
-- and no lemma stands here: the laws are in Laws/Reading.antt. Assumes nothing.
use Rattle.std.specs.Prelude.{◌≡◌, Result, Ok, Err, Bool, true, cond, ◌&&◌, List, [], ◌∷◌, ◌++◌, ℕ, eqb, leb}
use Prim.Native.String as Text
use Rattle.refusal.specs.Table.{accepted, version_not1, receipt_malformed}
use Rattle.numbers.specs.Ranges.{within}
use Rattle.fields.specs.Table.{field_count, required_fields}
use Rattle.counts.specs.Counts.{count_limit}
use Rattle.text.specs.Decimal.{decimal}
use Rattle.text.specs.Ascii.{ascii}
use Rattle.receipt.specs.declared.Receipt.{Receipt}

-- the last station and job
abbrev pub station_limit : ℕ
station_limit = 99

abbrev pub job_limit : ℕ
job_limit = 999999

-- the last verdict on a file
abbrev pub verdict_limit : ℕ
verdict_limit = version_not1

-- the required fields are 16, the named ones 39
abbrev pub fields_least : ℕ
fields_least = required_fields

abbrev pub fields_most : ℕ
fields_most = field_count

-- the most bytes of a receipt that keeps the rules, and the room of a page for ten lines with any numbers of 32 bits
abbrev pub receipt_limit : ℕ
receipt_limit = 128

abbrev pub page_room : ℕ
page_room = 176

-- station 1 to 99, job 1 to 999,999
abbrev pub numbered : ℕ → ℕ → Bool
numbered station job = within 1 station_limit station && within 1 job_limit job

-- after a verdict of 0: counts up to the limit, as many fields as a file can have, and one unit
abbrev pub accepted_right : Receipt → Bool
accepted_right r =
    (leb r.models count_limit && (leb r.chains count_limit && (leb r.groups count_limit && (leb r.atoms count_limit && leb r.bonds count_limit))))
    && (within fields_least fields_most r.fields && eqb r.units 1)

-- after any other verdict: zeros
abbrev pub refused_right : Receipt → Bool
refused_right r =
    (eqb r.models 0 && (eqb r.chains 0 && (eqb r.groups 0 && (eqb r.atoms 0 && eqb r.bonds 0))))
    && (eqb r.fields 0 && eqb r.units 0)

-- station and job are in range, the verdict is 0 to 24, and the lines after it are right
unfoldable pub rules_kept : Receipt → Bool
rules_kept r =
    numbered r.station r.job && (leb r.verdict verdict_limit && cond (eqb r.verdict accepted) (accepted_right r) (refused_right r))

-- the ten numbers in the order of the lines
abbrev pub numbers_of : Receipt → List ℕ
numbers_of r =
    r.station ∷ r.job ∷ r.verdict ∷ r.models ∷ r.chains ∷ r.groups ∷ r.atoms ∷ r.bonds ∷ r.fields ∷ r.units ∷ []

-- a line: a name, an equals sign, a number in decimal with the higher digits first and no leading zeros, and a line feed
unfoldable pub line : List ℕ → ℕ → List ℕ
line name n = name ++ (0x3d ∷ decimal n ++ (0x0a ∷ []))

-- a line by its name in ASCII
abbrev pub named_line : Text.String → ℕ → List ℕ
named_line name n = line (ascii name) n

-- the ten lines
unfoldable pub written : Receipt → List ℕ
written r =
    named_line "station" r.station
    ++ named_line "job" r.job
    ++ named_line "verdict" r.verdict
    ++ named_line "models" r.models
    ++ named_line "chains" r.chains
    ++ named_line "groups" r.groups
    ++ named_line "atoms" r.atoms
    ++ named_line "bonds" r.bonds
    ++ named_line "fields" r.fields
    ++ named_line "units" r.units

-- the bytes are the receipt r
pub record IsReceipt (bytes : List ℕ) (r : Receipt) : Type 0 where
  pub rules : rules_kept r ≡ true
  pub text : bytes ≡ written r

-- what reading answers: the numbers of the receipt that the bytes are; 29 where they are none
pub data Reads (bytes : List ℕ) : Result Receipt ℕ → Type 0 where
  is : {r : Receipt} → IsReceipt bytes r → Reads bytes (Ok r)
  none : ((r : Receipt) → IsReceipt bytes r → ⊥) → Reads bytes (Err receipt_malformed)
