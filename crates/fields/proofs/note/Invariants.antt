-- What is noted in the end, from here on with what is noted so far, is what is noted of all entries.
use mathlib.Core.Path.{◌≡◌}
use mathlib.Core.Bool.{true}
use Prim.Native.Nat.{◌-◌}
use lib.ListN.{length}
use Rattle.fields.specs.declared.Fields.{Fields}
use Rattle.fields.specs.Numbers.{type_table}
use Rattle.fields.specs.Table.{field_count}
use Rattle.fields.specs.Steps.{NoteSays, no_places}
use Rattle.fields.proofs.note.Given as goal

abbrev pub invariant-loop : goal.invariant-loop
invariant-loop l = (l.types ≡ type_table) × ((length l.places ≡ field_count) × ((length l.ends ≡ field_count) × ((r : Fields) → NoteSays l.file l.places l.ends l.presence l.typed (l.count - l.counter) l.p r → NoteSays l.file no_places no_places 0 true l.count l.at r)))
