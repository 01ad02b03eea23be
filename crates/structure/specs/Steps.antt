-- What the functions inside this crate say of a file whose fields are noted. No lemma stands here. Assumes nothing.
use Rattle.std.specs.Prelude.{List, ℕ}
use Rattle.refusal.specs.Table.{accepted}
use Rattle.messagepack.specs.Document.{Entries}
use Rattle.values.specs.Walked.{Short, WalkedBy}
use Rattle.fields.specs.Noted.{Noted}
use Rattle.fields.specs.declared.Fields.{Fields}
use Rattle.counts.specs.declared.Counts.{Counts}
use Rattle.structure.specs.declared.Summary.{Summary}

-- a promise on a walked file within the limit by its entries, of which the named fields are noted
abbrev pub WalkedNotes : List ℕ → Fields → (Entries → Type 0) → Type 0
WalkedNotes file noted P = Short file → WalkedBy (λ es. Noted file es noted) P

-- what is said of an accepted file with these counts and this set of fields
abbrev pub accepted_with : Counts → ℕ → Summary
accepted_with c presence =
    record {
      verdict = accepted;
      models = c.models;
      chains = c.chains;
      groups = c.groups;
      atoms = c.atoms;
      bonds = c.bonds;
      presence = presence;
    }
