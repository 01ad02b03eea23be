-- Laws of a cell's answer. Assumes nothing.
use Rattle.std.specs.Prelude.{◌≡◌, Bool, false, List, ℕ, ◌<◌, ◌≤◌, length, get_or, ℤ, pos}
use Rattle.std.proofs.Common.{ap, lt-ltb, le-ltb}
use Rattle.refusal.specs.Table.{codec_unknown, no_such_entry}
use Rattle.steps.specs.declared.Form.{Form}
use Rattle.steps.specs.Delta.{sums_if}
use Rattle.columns.specs.declared.Kind.{Kind}
use Rattle.columns.specs.declared.Kind.TheVariants as kind
use Rattle.columns.specs.Header.{header_with}
use Rattle.columns.specs.Table.{is_strings}
use Rattle.columns.specs.Decode.{Decoding, refused, column, judged_payload}
use Rattle.payloads.specs.Laws.Judged.{Holds, holds-length}
use Rattle.cells.specs.declared.Cell.TheVariants.{Refused}
use Rattle.cells.specs.Calls.{value_of, cell_of}

pub cell-refused : (x : Decoding) (r i : ℕ) → x ≡ refused r → Refused r ≡ cell_of x i
cell-refused x r i e = rw e

pub cell-strings : (x : Decoding) (m i : ℕ) (l : List ℤ) → x ≡ column kind.Strings m l → Refused codec_unknown ≡ cell_of x i
cell-strings x m i l e = rw e

-- kinds that have cells
module _ (n m : ℕ) (k : Kind) (f : Form) (d : Bool) (s : List ℕ) (h : Holds n m k f d s) (i : ℕ) (c : is_strings k ≡ false) where
  pub cell-past : n ≤ i → Refused no_such_entry ≡ cell_of (judged_payload (header_with n m k f d) s) i
  cell-past l = let z = holds-length value_of n m k f d s h in rw (h.3, c, le-ltb i (length (sums_if d h.0)) (rw z l))

  pub cell-inside : (x : ℤ) → x ≡ get_or (sums_if d h.0) i (pos 0) → i < n → value_of k m x ≡ cell_of (judged_payload (header_with n m k f d) s) i
  cell-inside x q l = let z = holds-length value_of n m k f d s h in rw (h.3, c, lt-ltb i (length (sums_if d h.0)) (rw z l)) (ap (value_of k m) q)
