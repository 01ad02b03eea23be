-- Columns encoded and decoded, and columns in the writer's form decoded and encoded, once over the table. Assumes nothing.
use Rattle.std.specs.Prelude.{◌↔◌, ◌≡◌, Bool, true, List, ◌++◌, ℕ, ◌+◌, ◌-◌, ◌%◌, ◌<◌, drop, ℤ, pos}
use Rattle.std.proofs.Common.{sym, ap, ◌∙◌, arith, length-drop}
use Rattle.std.proofs.Math.Bool.{and-eq-true_iff}
use Rattle.std.proofs.Math.ListN.{length}
use Rattle.numbers.specs.BigEndian.{Bytes, unsigned_at}
use Rattle.numbers.specs.Laws.BigEndian.{drop-bytes}
use Rattle.steps.specs.declared.Form.{Form}
use Rattle.steps.specs.Numbers.{numbers_in, bytes_for}
use Rattle.steps.specs.Delta.{deltas_if}
use Rattle.steps.specs.Payload.{number_size, numbers_for, all_in, range_of, padded, allowed}
use Rattle.steps.specs.WriterForm.{NumbersForm}
use Rattle.steps.proofs.Laws.NumbersBack.{numbers_in-bytes_for}
use Rattle.steps.proofs.Laws.Delta.{sums_if-deltas_if, deltas_if-sums_if, length-deltas, length-sums_if}
use Rattle.steps.proofs.Laws.PayloadBack.{numbers_for-fit, numbers_for-form, held_in-allowed, held_in-bytes_for, Countable, unit_of, bytes_for-held_in}
use Rattle.columns.specs.declared.Kind.{Kind}
use Rattle.columns.specs.declared.Wanted.{Wanted}
use Rattle.columns.specs.declared.Parameter.{Parameter}
use Rattle.columns.specs.Table.{codec_with, codec_of, elements, size_right, used}
use Rattle.columns.specs.Header.{header_size, header_bytes}
use Rattle.columns.specs.Decode.{column, decode}
use Rattle.columns.specs.Encode.{bytes, results, payload_of, encode}
use Rattle.columns.specs.WriterForm.{CodecForm, WriterForm}
use Rattle.columns.proofs.Laws.Rows.{row-wide, row_sized, row_small}
use Rattle.columns.proofs.Laws.Form.{used-small, used-right, used-form, form-used, used-twice, elements-results, whole-elements, results-elements, countable, size-written, size-unit, held-32, held-written, held-deltas, held-sums}
use Rattle.columns.proofs.Laws.Header.{header-codec, header-length, header-parameter, drop-header, length-column, header_read}
use Rattle.columns.proofs.Laws.Encode.{Encoded, encode-rules, encode-kept}
use Rattle.columns.proofs.Laws.Decode.{Decoded, decode-rules, decode-kept}

-- Encoded, then decoded

module _ (w : Wanted) (c m : ℕ) (xs : List ℤ) (b : List ℕ) (r : Encoded w c m xs b) where
  abbrev count : ℕ
  count = results r.form m (length xs)

  abbrev field : ℕ
  field = used r.parameter m

  abbrev values : List ℤ
  values = deltas_if r.delta xs

  abbrev payload : List ℕ
  payload = payload_of r.form r.delta xs

  -- the parts of b
  pub codec-at : unsigned_at 4 b 0 ≡ c
  codec-at =
      let h : c < 4294967296 = omega (arith, row_small c r.known) in
      rw r.built at (header-codec c count field payload h)

  count_at : unsigned_at 4 b 4 ≡ count
  count_at =
      let h : count < 4294967296 = omega (arith, r.few) in
      rw r.built at (header-length c count field payload h)

  pub field_at : unsigned_at 4 b 8 ≡ used r.parameter m
  field_at = rw r.built at (header-parameter c count field payload (used-small r.parameter m r.parameter-right))

  pub payload-at : drop header_size b ≡ bytes_for (number_size r.form) (numbers_for r.form values)
  unfolding payload_of
  payload-at = rw r.built at (drop-header c count field payload)

  pub length_at : length b ≡ header_size + length (bytes_for (number_size r.form) (numbers_for r.form values))
  unfolding payload_of
  length_at = rw r.built at (length-column c count field payload)

  -- what the payload holds
  values-held : allowed r.form field values ≡ true
  values-held =
      held-deltas r.form r.delta field xs (row-wide c r.known) (held-written r.form r.parameter m xs (row_sized c r.known) r.held)

  values-in : all_in (range_of r.form) values ≡ true
  values-in = ((and-eq-true_iff (all_in (range_of r.form) values) (padded r.form field values)).0 values-held).0

  values_length : length values ≡ length xs
  values_length = length-deltas r.delta (pos 0) xs

  values-countable : Countable r.form (length values)
  values-countable = rw values_length (countable r.form m (length xs) r.few)

  values-counted : length values ≡ elements r.form count field
  values-counted = values_length ∙ elements-results r.form r.parameter m (length xs) (row_sized c r.known) r.whole

  payload-size : size_right r.form (unsigned_at 4 b 4) field (length b - header_size) ≡ true
  payload-size =
      let l : length b - header_size ≡ length (bytes_for (number_size r.form) (numbers_for r.form values)) = omega (arith, length_at) in
      rw (count_at, l) (size-written r.form count field values values-counted)

  encoded-decoded : Decoded w b r.kind field xs
  encoded-decoded =
      record {
        form = r.form;
        delta = r.delta;
        parameter = r.parameter;
        values = values;
        long = omega (arith, length_at);
        known = rw codec-at r.known;
        suited = r.suited;
        few = rw count_at r.few;
        parameter-read = ap (used r.parameter) field_at ∙ used-twice r.parameter m;
        parameter-right = used-right r.parameter m r.parameter-right;
        size-right = payload-size;
        values-read = rw payload-at (held_in-bytes_for r.form field values values-held values-countable);
        counted = rw count_at values-counted;
        summed = sums_if-deltas_if r.delta xs (held-32 r.form m xs r.held);
      }

  encoded-form : WriterForm b
  unfolding WriterForm
  encoded-form =
      let fit = numbers_for-fit r.form values values-in values-countable in
      let form : NumbersForm r.form (numbers_in (number_size r.form) (drop header_size b)) =
      rw (payload-at, numbers_in-bytes_for (number_size r.form) (numbers_for r.form values) fit) (numbers_for-form r.form values) in
      rw (codec-at, r.known) (rw field_at (used-form r.parameter m), form)

-- a column encoded and decoded is itself
pub decode-encode : (w : Wanted) (c m : ℕ) (xs : List ℤ) (b : List ℕ) → encode w c m xs ≡ bytes b
    → (k : Kind) × (f : Form) × (d : Bool) × (p : Parameter) × (codec_of c ≡ codec_with k f d p) × (decode w b ≡ column k (used p m) xs)
decode-encode w c m xs b e =
    let r = encode-rules w c m xs b e in
    (r.kind, r.form, r.delta, r.parameter, r.known, decode-kept w b r.kind (used r.parameter m) xs (encoded-decoded w c m xs b r))

-- the bytes of a column have the writer's form
pub encode-form : (w : Wanted) (c m : ℕ) (xs : List ℤ) (b : List ℕ) → encode w c m xs ≡ bytes b → WriterForm b
encode-form w c m xs b e = encoded-form w c m xs b (encode-rules w c m xs b e)

-- Decoded, then encoded

module _ (w : Wanted) (s : List ℕ) (k : Kind) (m : ℕ) (xs : List ℤ) (r : Decoded w s k m xs) where
  length-elements : length xs ≡ elements r.form (unsigned_at 4 s 4) m
  length-elements = ap length (sym r.summed) ∙ length-sums_if r.delta r.values ∙ r.counted

  same_count : results r.form m (length xs) ≡ unsigned_at 4 s 4
  same_count = rw length-elements (results-elements r.form r.parameter m (unsigned_at 4 s 4) (row_sized (unsigned_at 4 s 0) r.known) r.parameter-right)

  values-allowed : allowed r.form m r.values ≡ true
  values-allowed = held_in-allowed r.form m (drop header_size s) r.values r.values-read

  pub same-values : deltas_if r.delta xs ≡ r.values
  same-values = rw (← r.summed) (deltas_if-sums_if r.delta r.values (held-32 r.form m r.values values-allowed))

  -- a column that is decoded has an encoding by its codec
  pub decoded-encoded : (b : List ℕ) → header_bytes (unsigned_at 4 s 0) (results r.form m (length xs)) (used r.parameter m) ++ payload_of r.form r.delta xs ≡ b
      → Encoded w (unsigned_at 4 s 0) m xs b
  decoded-encoded b e =
      record {
        kind = k;
        form = r.form;
        delta = r.delta;
        parameter = r.parameter;
        known = r.known;
        suited = r.suited;
        parameter-right = r.parameter-right;
        whole = rw length-elements (whole-elements r.form m (unsigned_at 4 s 4));
        few = rw same_count r.few;
        held = rw (← r.summed) (held-sums r.form r.delta m r.values (row-wide (unsigned_at 4 s 0) r.known) values-allowed);
        built = e;
      }

  module _ (h : Bytes s) (g : WriterForm s) where
    codec-form : CodecForm (codec_with k r.form r.delta r.parameter) (unsigned_at 4 s 8) (drop header_size s)
    unfolding WriterForm
    codec-form = rw r.known at g

    same-field : used r.parameter m ≡ unsigned_at 4 s 8
    same-field = ap (used r.parameter) (sym r.parameter-read) ∙ used-twice r.parameter (unsigned_at 4 s 8) ∙ form-used r.parameter (unsigned_at 4 s 8) codec-form.0

    same-payload : payload_of r.form r.delta xs ≡ drop header_size s
    unfolding payload_of
    same-payload =
        let u : length (drop header_size s) % unit_of r.form ≡ 0 = rw (length-drop header_size s) (size-unit r.form (unsigned_at 4 s 4) m (length s - header_size) r.size-right) in
        rw same-values (bytes_for-held_in r.form m (drop header_size s) r.values (drop-bytes header_size s h) u codec-form.1 r.values-read)

    same-column : Encoded w (unsigned_at 4 s 0) m xs s
    same-column = decoded-encoded s (rw (same_count, same-field, same-payload) (header_read s h r.long))

-- a column in the writer's form decoded and encoded is itself
pub encode-decode : (w : Wanted) (s : List ℕ) (k : Kind) (m : ℕ) (xs : List ℤ) → Bytes s → decode w s ≡ column k m xs → WriterForm s
    → encode w (unsigned_at 4 s 0) m xs ≡ bytes s
encode-decode w s k m xs h e g = encode-kept w (unsigned_at 4 s 0) m xs s (same-column w s k m xs (decode-rules w s k m xs e) h g)

-- Both: the columns that come back unchanged are those in the writer's form
pub writer-form-exactly : (w : Wanted) (s : List ℕ) (k : Kind) (m : ℕ) (xs : List ℤ) → Bytes s → decode w s ≡ column k m xs
    → WriterForm s ↔ (encode w (unsigned_at 4 s 0) m xs ≡ bytes s)
writer-form-exactly w s k m xs h e = (encode-decode w s k m xs h e, encode-form w (unsigned_at 4 s 0) m xs s)
