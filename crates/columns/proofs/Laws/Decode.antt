-- What a decoding that gives a column kept, rule by rule. Assumes nothing.
use Rattle.std.proofs.Math.Path.{◌≡◌, refl, sym, ap, ap₂}
use Rattle.std.proofs.Common.{◌∙◌, arith, length-drop, take_all}
use Rattle.std.specs.Prelude.{Option, Some, None, Result, Err, Bool, ◌&&◌, List, ℕ, ◌-◌, ◌≤◌, take, drop, ℤ, ltb}
use Rattle.std.proofs.Math.Bool.{true, false, cond, and-eq-true_iff}
use Rattle.std.proofs.Math.Option.{Option as Maybe, none, some}
use Rattle.std.proofs.Math.ListN.{length}
use Rattle.std.proofs.Math.Dec.{leb, eqb}
use borrow.Author.Tests.{leb-true, le-leb, ltb-false, le-ltb, eqb-true, eq-eqb}
use Rattle.refusal.specs.Table.{column_short, codec_unknown, header_range, payload_size, length_differs}
use Rattle.numbers.specs.BigEndian.{unsigned_at}
use Rattle.steps.specs.declared.Form.{Form}
use Rattle.steps.specs.Delta.{sums_if}
use Rattle.steps.specs.Payload.{held_in}
use Rattle.columns.specs.declared.Kind.{Kind}
use Rattle.columns.specs.declared.Wanted.{Wanted}
use Rattle.columns.specs.declared.Wanted.TheVariants.{Only}
use Rattle.columns.specs.declared.Parameter.{Parameter}
use Rattle.columns.specs.declared.Codec.{Codec}
use Rattle.columns.specs.declared.Header.{Header}
use Rattle.columns.specs.Table.{codec_with, codec_of, suits, length_limit, parameter_ok, used, elements, size_right}
use Rattle.columns.specs.Header.{header_with, header_size, judged, header_of}
use Rattle.columns.specs.Decode.{refused, column, judged_values, judged_payload, decode}
use Rattle.columns.proofs.Laws.Rows.{same_kind, row_sized}
use Rattle.columns.proofs.Laws.Form.{used-right, right-used, used-size}

-- the rules, and what the kind k, the parameter m and the cells xs then are
pub record Decoded (w : Wanted) (s : List ℕ) (k : Kind) (m : ℕ) (xs : List ℤ) : Type 0 where
  pub form : Form
  pub delta : Bool
  pub parameter : Parameter
  pub values : List ℤ
  pub long : header_size ≤ length s
  pub known : codec_of (unsigned_at 4 s 0) ≡ codec_with k form delta parameter
  pub suited : suits w k ≡ true
  pub few : unsigned_at 4 s 4 ≤ length_limit
  pub parameter-read : used parameter (unsigned_at 4 s 8) ≡ m
  pub parameter-right : parameter_ok parameter m ≡ true
  pub size-right : size_right form (unsigned_at 4 s 4) m (length s - header_size) ≡ true
  pub values-read : held_in form m (drop header_size s) ≡ some values
  pub counted : length values ≡ elements form (unsigned_at 4 s 4) m
  pub summed : sums_if delta values ≡ xs

module _ (w : Wanted) (s : List ℕ) (k : Kind) (m : ℕ) (xs : List ℤ) where
  -- a rule that is not kept gives no column
  header-kept : (t : Bool) (h : Result Header ℕ) (r : ℕ) → judged_payload (cond t h (Err r)) (drop header_size s) ≡ column k m xs → (t ≡ true) × (judged_payload h (drop header_size s) ≡ column k m xs)
  header-kept true h r e = (refl, e)
  header-kept false h r e = let y : ◌≡◌ {A = ℕ} 0 1 = cc in absurd (omega arith)

  pub decode-rules : decode w s ≡ column k m xs → Decoded w s k m xs
  unfolding decode header_of
  decode-rules e = by_length (ltb (length s) header_size) refl e
    where
      by-row : (j : Kind) (f : Form) (d : Bool) (p : Parameter) → codec_of (unsigned_at 4 s 0) ≡ codec_with j f d p → header_size ≤ length s
          → judged_payload (judged w (codec_with j f d p) (unsigned_at 4 s 4) (unsigned_at 4 s 8) (length s - header_size)) (drop header_size s) ≡ column k m xs → Decoded w s k m xs
      by-row j f d p q' h e =
          let n = unsigned_at 4 s 4 in
          let u = unsigned_at 4 s 8 in
          let size = size_right f n u (length s - header_size) in
          let sized = cond size (header_with n (used p u) j f d) (Err payload_size) in
          let range = leb n length_limit && parameter_ok p u in
          let e1 = header-kept (suits w j) (cond range sized (Err header_range)) codec_unknown e in
          let e2 = header-kept range sized header_range e1.1 in
          let e3 = header-kept size (header_with n (used p u) j f d) payload_size e2.1 in
          by_values ((and-eq-true_iff (leb n length_limit) (parameter_ok p u)).0 e2.0) e1.0 e3.0 (held_in f (used p u) (drop header_size s)) refl e3.1
        where
          by_values : (leb (unsigned_at 4 s 4) length_limit ≡ true) × (parameter_ok p (unsigned_at 4 s 8) ≡ true) → suits w j ≡ true
              → size_right f (unsigned_at 4 s 4) (unsigned_at 4 s 8) (length s - header_size) ≡ true → (o : Maybe (List ℤ)) → held_in f (used p (unsigned_at 4 s 8)) (drop header_size s) ≡ o
              → judged_values (elements f (unsigned_at 4 s 4) (used p (unsigned_at 4 s 8))) (used p (unsigned_at 4 s 8)) j d o ≡ column k m xs → Decoded w s k m xs
          by_values r i z none v e = let y : ◌≡◌ {A = ℕ} 0 1 = cc in absurd (omega arith)
          by_values r i z (some l) v e = counted (eqb (length l) (elements f (unsigned_at 4 s 4) (used p (unsigned_at 4 s 8)))) refl e
            where
              counted : (t : Bool) → eqb (length l) (elements f (unsigned_at 4 s 4) (used p (unsigned_at 4 s 8))) ≡ t
                  → cond t (column j (used p (unsigned_at 4 s 8)) (sums_if d l)) (refused length_differs) ≡ column k m xs → Decoded w s k m xs
              counted false g q = let y : ◌≡◌ {A = ℕ} 0 1 = cc in absurd (omega arith)
              counted true g q =
                  let n = unsigned_at 4 s 4 in
                  let u = unsigned_at 4 s 8 in
                  let a : j ≡ k = cc in
                  let b : used p (unsigned_at 4 s 8) ≡ m = cc in
                  let size : size_right f n (used p (unsigned_at 4 s 8)) (length s - header_size) ≡ true = used-size f p n u (length s - header_size) (row_sized (unsigned_at 4 s 0) q') ∙ z in
                  record {
                    form = f;
                    delta = d;
                    parameter = p;
                    values = l;
                    long = h;
                    known = rw a at q';
                    suited = rw a at i;
                    few = leb-true n length_limit r.0;
                    parameter-read = b;
                    parameter-right = rw b at (used-right p u r.1);
                    size-right = rw b at size;
                    values-read = rw b at v;
                    counted = rw b at (eqb-true (length l) (elements f n (used p u)) g);
                    summed = cc;
                  }

      by-codec : (r : Option Codec) → codec_of (unsigned_at 4 s 0) ≡ r → header_size ≤ length s
          → judged_payload (judged w r (unsigned_at 4 s 4) (unsigned_at 4 s 8) (length s - header_size)) (drop header_size s) ≡ column k m xs → Decoded w s k m xs
      by-codec None q' h e = let y : ◌≡◌ {A = ℕ} 0 1 = cc in absurd (omega arith)
      by-codec (Some r) q' h e = by-row r.kind r.form r.delta r.parameter q' h e

      by_length : (t : Bool) → ltb (length s) header_size ≡ t
          → judged_payload (cond t (Err column_short) (judged w (codec_of (unsigned_at 4 s 0)) (unsigned_at 4 s 4) (unsigned_at 4 s 8) (length s - header_size))) (drop header_size s) ≡ column k m xs
          → Decoded w s k m xs
      by_length true h e = let y : ◌≡◌ {A = ℕ} 0 1 = cc in absurd (omega arith)
      by_length false h e = by-codec (codec_of (unsigned_at 4 s 0)) refl (ltb-false (length s) header_size h) e

  pub decode-kept : Decoded w s k m xs → decode w s ≡ column k m xs
  unfolding decode header_of
  decode-kept r =
      let long = le-ltb (length s) header_size r.long in
      let few = le-leb (unsigned_at 4 s 4) length_limit r.few in
      let right : parameter_ok r.parameter (unsigned_at 4 s 8) ≡ true = right-used r.parameter (unsigned_at 4 s 8) (rw r.parameter-read r.parameter-right) in
      let size : size_right r.form (unsigned_at 4 s 4) (unsigned_at 4 s 8) (length s - header_size) ≡ true =
      sym (used-size r.form r.parameter (unsigned_at 4 s 4) (unsigned_at 4 s 8) (length s - header_size) (row_sized (unsigned_at 4 s 0) r.known)) ∙ rw r.parameter-read r.size-right in
      let counted = eq-eqb (length r.values) (elements r.form (unsigned_at 4 s 4) m) r.counted in
      rw (long, r.known, r.suited, few, right, size, r.parameter-read, r.values-read, counted, r.summed)

-- By the header

-- the part of a column after its header
pub payload-part : (s : List ℕ) → take (length s - header_size) (drop header_size s) ≡ drop header_size s
payload-part s = take_all (length s - header_size) (drop header_size s) (let l = length-drop header_size s in omega arith)

module _ (w : Wanted) (s : List ℕ) where
  pub decode-refused : (r : ℕ) → header_of w s ≡ Err r → decode w s ≡ refused r
  unfolding decode
  decode-refused r e = ap (λ (h : Result Header ℕ). judged_payload h (drop header_size s)) e

  pub decode-good : (n m : ℕ) (k : Kind) (f : Form) (d : Bool) → header_of w s ≡ header_with n m k f d → decode w s ≡ judged_payload (header_with n m k f d) (take (length s - header_size) (drop header_size s))
  unfolding decode
  decode-good n m k f d e = ap₂ judged_payload e (sym (payload-part s))

-- What is wanted

-- where one kind is wanted, the column is of it
pub decode-kind : (k j : Kind) (s : List ℕ) (m : ℕ) (xs : List ℤ) → decode (Only k) s ≡ column j m xs → j ≡ k
decode-kind k j s m xs e = sym (same_kind k j (decode-rules (Only k) s j m xs e).suited)

-- a column decodes alike wherever its kind is wanted
pub decode-wanted : (v w : Wanted) (s : List ℕ) (k : Kind) (m : ℕ) (xs : List ℤ) → suits w k ≡ true → decode v s ≡ column k m xs → decode w s ≡ column k m xs
decode-wanted v w s k m xs h e =
    let r = decode-rules v s k m xs e in
    decode-kept w s k m xs
    record {
      form = r.form;
      delta = r.delta;
      parameter = r.parameter;
      values = r.values;
      long = r.long;
      known = r.known;
      suited = h;
      few = r.few;
      parameter-read = r.parameter-read;
      parameter-right = r.parameter-right;
      size-right = r.size-right;
      values-read = r.values-read;
      counted = r.counted;
      summed = r.summed;
    }
