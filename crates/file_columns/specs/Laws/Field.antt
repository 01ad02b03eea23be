-- Laws of columns of named fields: what the header's rules say of names, what a check answers, and what a column that decodes keeps.
-- Assumes nothing.
use Rattle.std.specs.Prelude.{◌≡◌, ℕ, ◌-◌, ◌*◌, ◌/◌, Bool, true, false, cond, not, Ok, Err, List, length, take, drop, ℤ, ◌==◌}
use Rattle.std.proofs.Math.Path.{refl}
use Rattle.std.proofs.Common.{sym, ap, ◌∙◌, arith}
use borrow.Author.Tests.{le-leb, eqb-true, not-false}
use Rattle.refusal.specs.Table.{header_range}
use Rattle.numbers.specs.BigEndian.{unsigned_at}
use Rattle.steps.specs.declared.Form.{Form}
use Rattle.steps.proofs.Laws.Delta.{length-sums_if}
use Rattle.columns.specs.declared.Kind.{Kind}
use Rattle.columns.specs.declared.Wanted.{Wanted}
use Rattle.columns.specs.declared.Wanted.TheVariants.{Only}
use Rattle.columns.specs.declared.Parameter.{Parameter}
use Rattle.columns.specs.declared.Parameter.TheVariants.{Unused, Divisor, NameSize}
use Rattle.columns.specs.Table.{is_strings, suits, is_name_size, used, elements}
use Rattle.columns.specs.Header.{header_with, header_size, header_of}
use Rattle.columns.specs.Decode.{Decoding, refused, column, judged_payload, decode}
use Rattle.columns.proofs.Laws.Table.{Passes, header-passes, other_row, strings-row}
use Rattle.columns.proofs.Laws.Rows.{same_kind}
use Rattle.columns.proofs.Laws.Decode.{Decoded, decode-rules, decode-refused, decode-good}
use Rattle.payloads.specs.Laws.Scan.{elements-one}
use Rattle.file_columns.specs.declared.whole.Checked.{Checked}
use Rattle.file_columns.specs.Field.{field_name_size, other_names, field_column, length_of, checked_with, checked_of}

-- Kinds

-- where one kind is wanted no other suits
pub suits-only : (j k : Kind) → suits (Only j) k ≡ true → k ≡ j
suits-only j k e = sym (same_kind j k e)

-- Rows of the table

-- the size of names is used
used-size : (p : Parameter) (m : ℕ) → is_name_size p ≡ true → used p m ≡ m
used-size Unused m e = let y : ◌≡◌ {A = ℕ} 0 1 = cc in absurd (omega arith)
used-size Divisor m e = refl
used-size NameSize m e = refl

module _ (w : Wanted) (s : List ℕ) (n m : ℕ) (k : Kind) (f : Form) (d : Bool) (h : Passes w s n m k f d) where
  -- the names of a named field have its size
  pub strings-size : is_strings k ≡ true → other_names w s ≡ false → m ≡ field_name_size
  unfolding other_names
  strings-size e o =
      let sized = (strings-row w s n m k f d h e).2 in
      let q : not (unsigned_at 4 s 8 == field_name_size) ≡ false = rw (le-leb header_size (length s) h.0, h.3.1, h.2, sized) at o in
      h.6 ∙ used-size h.3.0 (unsigned_at 4 s 8) sized ∙ eqb-true (unsigned_at 4 s 8) field_name_size (not-false (unsigned_at 4 s 8 == field_name_size) q)

-- Answers

module _ (w : Wanted) (s : List ℕ) where
  pub field-other : other_names w s ≡ true → field_column w s ≡ refused header_range
  unfolding field_column
  field-other e = rw e

  pub field-same : other_names w s ≡ false → field_column w s ≡ decode w s
  unfolding field_column
  field-same e = rw e

  -- by the header, where names have no other size
  module _ (o : other_names w s ≡ false) where
    pub field-refused : (r : ℕ) → header_of w s ≡ Err r → field_column w s ≡ refused r
    field-refused r e = field-same o ∙ decode-refused w s r e

    pub field-good : (n m : ℕ) (k : Kind) (f : Form) (d : Bool) → header_of w s ≡ header_with n m k f d
        → field_column w s ≡ judged_payload (header_with n m k f d) (take (length s - header_size) (drop header_size s))
    field-good n m k f d e = field-same o ∙ decode-good w s n m k f d e

pub checked_refused : (x : Decoding) (r : ℕ) → x ≡ refused r → checked_of x ≡ Err r
checked_refused x r e = ap checked_of e

-- cells are results, but in strings
pub length-cells : (k : Kind) (xs : List ℤ) → is_strings k ≡ false → length_of k xs ≡ length xs
length-cells k xs e = rw e

-- what is answered says what the column is
pub checked-refusal : (x : Decoding) (r : ℕ) → checked_of x ≡ Err r → x ≡ refused r
checked-refusal (refused q) r e = let z : q ≡ r = cc in ap refused z
checked-refusal (column k m xs) r e = let y : ◌≡◌ {A = ℕ} 0 1 = cc in absurd (omega arith)

pub checked-column : (x : Decoding) (c : Checked) → checked_of x ≡ Ok c → (k : Kind) × (xs : List ℤ) × (x ≡ column k c.parameter xs) × (length_of k xs ≡ c.length)
checked-column (refused q) c e = let y : ◌≡◌ {A = ℕ} 0 1 = cc in absurd (omega arith)
checked-column (column k u xs) c e =
    let z : ◌≡◌ {A = Checked} (record { length = length_of k xs; parameter = u }) c = cc in
    (k, xs, ap (λ (y : Checked). column k y.parameter xs) z, ap (λ (y : Checked). y.length) z)

-- What a column that decodes keeps

module _ (w : Wanted) (s : List ℕ) (k : Kind) (m : ℕ) (xs : List ℤ) where
  passes : (r : Decoded w s k m xs) → Passes w s (unsigned_at 4 s 4) m k r.form r.delta
  passes r = (r.long, r.few, r.suited, (r.parameter, r.known, r.parameter-right), r.size-right, refl, sym r.parameter-read)

  counted : (r : Decoded w s k m xs) → length xs ≡ elements r.form (unsigned_at 4 s 4) m
  counted r = sym (ap length r.summed) ∙ length-sums_if r.delta r.values ∙ r.counted

  -- its kind is the one that is wanted
  pub decode-suits : decode w s ≡ column k m xs → suits w k ≡ true
  decode-suits e = (decode-rules w s k m xs e).suited

  -- A column of a named field

  pub field_column-same : field_column w s ≡ column k m xs → other_names w s ≡ false
  unfolding field_column
  field_column-same = by (other_names w s)
    where
      by : (t : Bool) → cond t (refused header_range) (decode w s) ≡ column k m xs → t ≡ false
      by true e = let y : ◌≡◌ {A = ℕ} 0 1 = cc in absurd (omega arith)
      by false e = refl

  -- it decodes as the kind that is wanted
  pub field_column-decode : field_column w s ≡ column k m xs → decode w s ≡ column k m xs
  field_column-decode e = sym (field-same w s (field_column-same e)) ∙ e

  -- so that its kind is that
  pub field_column-suits : field_column w s ≡ column k m xs → suits w k ≡ true
  field_column-suits e = decode-suits (field_column-decode e)

  -- its length is the one that its header states
  pub field_column-stated : field_column w s ≡ column k m xs → length_of k xs ≡ unsigned_at 4 s 4
  field_column-stated e = by (is_strings k) refl
    where
      r : Decoded w s k m xs
      r = decode-rules w s k m xs (field_column-decode e)

      names : is_strings k ≡ true → length xs ≡ unsigned_at 4 s 4 * field_name_size
      names h =
          let f = (strings-row w s (unsigned_at 4 s 4) m k r.form r.delta (passes r) h).0 in
          let size = strings-size w s (unsigned_at 4 s 4) m k r.form r.delta (passes r) h (field_column-same e) in
          counted r ∙ rw (f, size)

      by : (t : Bool) → is_strings k ≡ t → cond t (length xs / field_name_size) (length xs) ≡ unsigned_at 4 s 4
      by true h = let l = names h in omega arith
      by false h = counted r ∙ elements-one r.form (unsigned_at 4 s 4) m (other_row w s (unsigned_at 4 s 4) m k r.form r.delta (passes r) h)

-- a column that decodes has the length that was read
pub checked-fine : (w : Wanted) (s : List ℕ) (n m : ℕ) (k : Kind) (f : Form) (d : Bool) (xs : List ℤ) → header_of w s ≡ header_with n m k f d → field_column w s ≡ column k m xs → checked_with n m ≡ checked_of (field_column w s)
checked-fine w s n m k f d xs h e =
    let p = header-passes w s n m k f d h in
    let q : n ≡ length_of k xs = p.5 ∙ sym (field_column-stated w s k m xs e) in
    ap (λ (i : ℕ). checked_with i m) q ∙ sym (ap checked_of e)
