-- Decoding: what a column is, once for all sixteen codecs, with its refusals in their order: 14 to 17 by the header, 18 over the whole
-- payload, 19. The letters are those of Table.antt. No lemma stands here. Assumes nothing.
use Rattle.std.specs.Prelude.{Result, Ok, Err, Bool, cond, List, ℕ, length, drop, ℤ, eqb}
use Rattle.std.proofs.Math.Option.{Option, none, some}
use Rattle.refusal.specs.Table.{number_not_allowed, length_differs}
use Rattle.steps.specs.Delta.{sums_if}
use Rattle.steps.specs.Payload.{held_in}
use Rattle.columns.specs.declared.Kind.{Kind}
use Rattle.columns.specs.declared.Wanted.{Wanted}
use Rattle.columns.specs.declared.Header.{Header}
use Rattle.columns.specs.Table.{elements}
use Rattle.columns.specs.Header.{header_size, header_of}

-- what a column decodes to: a refusal, or its kind, its parameter and its cells (of names, their bytes)
pub data Decoding : Type 0 where
  refused : ℕ → Decoding
  column : Kind → ℕ → List ℤ → Decoding

-- the column of values that should be e: 18 where a payload holds none that are allowed, then 19
abbrev pub judged_values : ℕ → ℕ → Kind → Bool → Option (List ℤ) → Decoding
judged_values e m k d none = refused number_not_allowed
judged_values e m k d (some l) = cond (eqb (length l) e) (column k m (sums_if d l)) (refused length_differs)

-- the column of a header and the payload behind it
abbrev pub judged_payload : Result Header ℕ → List ℕ → Decoding
judged_payload (Err r) payload = refused r
judged_payload (Ok h) payload = judged_values (elements h.form h.length h.parameter) h.parameter h.kind h.delta (held_in h.form h.parameter payload)

-- a column of the kind that is wanted
unfoldable pub decode : Wanted → List ℕ → Decoding
decode w s = judged_payload (header_of w s) (drop header_size s)
