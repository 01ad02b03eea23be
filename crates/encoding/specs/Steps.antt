-- The steps of an encoder: the forms of numbers, and what a placed payload comes to with its header. No lemma stands here: the laws are in
-- Laws/. Assumes nothing.
use Rattle.std.specs.Prelude.{◌≡◌, Result, Ok, Err, Bool, false, List, ℕ, ◌+◌, ◌≤◌, length}
use Rattle.steps.specs.declared.Form.{Form}
use Rattle.steps.specs.declared.Form.TheVariants.{Plain, Packed, Runs, Names}
use Rattle.columns.specs.declared.Kind.{Kind}
use Rattle.columns.specs.declared.Kind.TheVariants as kind
use Rattle.columns.specs.Header.{header_size}
use Rattle.writers.specs.Placed.{over}

-- the kinds whose cells are numbers, and the forms that these have
abbrev pub NumberKind : Kind → Type 0
NumberKind kind.Float32 = ⊥
NumberKind kind.FixedPoint = Unit {0}
NumberKind kind.Int8 = Unit {0}
NumberKind kind.Int16 = Unit {0}
NumberKind kind.Int32 = Unit {0}
NumberKind kind.Strings = ⊥
NumberKind kind.Chars = ⊥

abbrev pub NumberForm : Form → Bool → Type 0
NumberForm (Plain z) d = d ≡ false
NumberForm (Packed z) d = Unit {0}
NumberForm (Runs r) d = Unit {0}
NumberForm Names d = ⊥

-- what is said once a payload is placed
abbrev pub finished : Result ℕ ℕ → Result ℕ ℕ
finished (Ok n) = Ok (header_size + n)
finished (Err r) = Err r

-- the header h put before a payload that is placed in s
abbrev pub headed : List ℕ → List ℕ → Result ℕ ℕ → List ℕ
headed h s (Ok n) = over s 0 h
headed h s (Err r) = s

-- a payload that is placed stands in s after the header's place
abbrev pub HoldsPlaced : List ℕ → Result ℕ ℕ → Type 0
HoldsPlaced s (Ok n) = header_size + n ≤ length s
HoldsPlaced s (Err r) = Unit {0}
