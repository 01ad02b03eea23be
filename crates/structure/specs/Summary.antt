-- What a receipt says of a file: of an accepted one its five num fields and the set of its named fields, of a refused one its number and
-- zeros. No lemma stands here: the laws are in Laws/Summary.antt. Assumes nothing.
use Rattle.std.specs.Prelude.{cond, List, ℕ, eqb, nat_abs}
use Rattle.refusal.specs.Table.{accepted}
use Rattle.messagepack.specs.Document.{Entries}
use Rattle.messagepack.specs.Read.{document_of}
use Rattle.values.specs.Parts.{entries_of}
use Rattle.fields.specs.Fields.{presence_of}
use Rattle.counts.specs.Counts.{counted_of}
use Rattle.structure.specs.Accepted.{verdict_of}
use Rattle.structure.specs.declared.Summary.{Summary}

-- of an accepted file, by the entries of its document
abbrev pub accepted_summary : Entries → Summary
accepted_summary es =
    record {
      verdict = accepted;
      models = nat_abs (counted_of es).numModels;
      chains = nat_abs (counted_of es).numChains;
      groups = nat_abs (counted_of es).numGroups;
      atoms = nat_abs (counted_of es).numAtoms;
      bonds = nat_abs (counted_of es).numBonds;
      presence = presence_of es;
    }

-- of a refused file, by its number
abbrev pub refused : ℕ → Summary
refused n = record { verdict = n; models = 0; chains = 0; groups = 0; atoms = 0; bonds = 0; presence = 0 }

-- by a file's number and the entries of its document
abbrev pub said : ℕ → Entries → Summary
said n es = cond (eqb n accepted) (accepted_summary es) (refused n)

-- of any file
unfoldable pub summary_of : List ℕ → Summary
summary_of file = said (verdict_of file) (entries_of (document_of file))
