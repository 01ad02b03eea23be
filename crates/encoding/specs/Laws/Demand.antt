-- Demand 2 holds (`demand-2`): the round trips of `columns` carried through what the calls answer and leave, once over the kinds. Assumes nothing.
use Rattle.std.specs.Prelude.{◌≡◌, refl, Result, Ok, Err, Bool, true, false, cond, ◌||◌, List, [], ◌∷◌, ◌++◌, map, ℕ, suc, ◌≤◌, ◌<◌, ◌^◌, length, get_or, take, drop, ℤ, pos, negsuc, ◌≤ℤ◌, eqb, leb}
use Rattle.std.proofs.Common.{sym, ap, ap₂, subst, ◌∙◌, map-id, mod-eq_of_lt, arith, take_at, leb→le, to_z, to_z-of_z, le-leb, leb-true, eqb-true}
use Rattle.std.proofs.lemmas.Simd.{map-map}
use Rattle.std.proofs.lemmas.List.{length-map}
use Rattle.std.specs.Int.{w32}
use Rattle.std.proofs.Math.Facts.{of_z-to_z}
use Rattle.numbers.specs.BigEndian.{Bytes, unsigned_at}
use Rattle.steps.specs.Fits.{Every}
use Rattle.columns.specs.declared.Kind.{Kind}
use Rattle.columns.specs.declared.Kind.TheVariants as kind
use Rattle.columns.specs.declared.Wanted.TheVariants.{Only, Real}
use Rattle.columns.specs.declared.Parameter.{Parameter}
use Rattle.columns.specs.Table.{used}
use Rattle.columns.specs.Decode.{Decoding, refused, column, decode}
use Rattle.columns.specs.Encode as encoding
use Rattle.columns.specs.Encode.{Encoding, bytes, encode}
use Rattle.columns.specs.CanHold.{is_one_of, least_by, most_by, CanHold}
use Rattle.columns.specs.WriterForm.{WriterForm}
use Rattle.columns.specs.Buffer.{decoded_answer, decoded_buffer}
use Rattle.columns.proofs.Laws.Buffer.{answers-done}
use Rattle.columns.proofs.Laws.Decode.{decode-rules, decode-kind, decode-wanted}
use Rattle.columns.proofs.Laws.Rows.{same_kind}
use Rattle.columns.proofs.Laws.Form.{used-twice}
use Rattle.columns.proofs.Laws.Encode.{Encoded, encode-rules}
use Rattle.columns.proofs.Laws.CanHold.{parameter_of, kind-parameter, codec-kind, encode-exactly, decode-held}
use Rattle.columns.proofs.Laws.RoundTrip.{codec-at, field_at, decode-encode, encode-decode}
use Rattle.columns.proofs.Laws.Shortest.{encode-holds, encode-fewest}
use Rattle.decoding.specs.Calls as decoding
use Rattle.floats.specs.Calls as floats
use Rattle.refusal.specs.Table.{buffer_too_small}
use Rattle.refusal.specs.Outcome.{answered}
use Rattle.encoding.specs.Calls.{encoded_answer, encoded_buffer}
use Rattle.encoding.specs.Demand.{Element, Typed, taken, encoder_says, encoder_leaves, wrote, divisor_of, decoder_says, decoder_leaves, OfKind, codec_in, parameter_in, element_of, Back, Demand2, cells_from}

-- Elements and cells

length-cells : (k : Kind) (ys : List (Element k)) → length (cells_from k ys) ≡ length ys
length-cells kind.Float32 ys = length-map ys (to_z w32)
length-cells kind.FixedPoint ys = refl
length-cells kind.Int8 ys = refl
length-cells kind.Int16 ys = refl
length-cells kind.Int32 ys = refl
length-cells kind.Strings ys = length-map ys pos
length-cells kind.Chars ys = length-map ys pos

words_back : (ys : List ℕ) → ((i : ℕ) → i < length ys → get_or ys i 0 < 2 ^ 32) → map floats.kept (map (to_z w32) ys) ≡ ys
words_back [] h = refl
words_back (y ∷ ys) h = ap₂ (λ (b : ℕ) (bs : List ℕ). b ∷ bs) (of_z-to_z {w = w32} (record { fits = h 0 (omega arith) })) (words_back ys (λ i l. h (suc i) (omega arith)))

bytes_back : (ys : List ℕ) → Bytes ys → map decoding.as_byte (map pos ys) ≡ ys
unfolding Bytes
bytes_back [] h = refl
bytes_back (y ∷ ys) h = ap₂ (λ (b : ℕ) (bs : List ℕ). b ∷ bs) (mod-eq_of_lt {m = 256} (h 0 (omega arith))) (bytes_back ys (λ i l. h (suc i) (omega arith)))

-- elements that became cells come back
elements-back : (k : Kind) (ys : List (Element k)) → Typed k ys → map (element_of k) (cells_from k ys) ≡ ys
elements-back kind.Float32 ys h = words_back ys h
elements-back kind.FixedPoint ys h = map-id ys
elements-back kind.Int8 ys h = map-id ys
elements-back kind.Int16 ys h = map-id ys
elements-back kind.Int32 ys h = map-id ys
elements-back kind.Strings ys h = bytes_back ys h
elements-back kind.Chars ys h = bytes_back ys h

-- a cell that a codec holds
abbrev Between : ℕ → ℤ → Type 0
Between c x = (least_by c ≤ℤ x) × (x ≤ℤ most_by c)

byte-cell : (x : ℤ) → (pos 0 ≤ℤ x) × (x ≤ℤ pos 127) → pos (decoding.as_byte x) ≡ x
byte-cell (pos n) h = ap pos (mod-eq_of_lt {m = 256} (let l = leb→le n 127 h.1.le in omega arith))
byte-cell (negsuc n) h = absurd h.0.le

word_cell : (x : ℤ) → (negsuc 2147483647 ≤ℤ x) × (x ≤ℤ pos 2147483647) → to_z w32 (floats.kept x) ≡ x
word_cell (pos n) h = to_z-of_z {w = w32} (let l = leb→le n 2147483647 h.1.le in record { sfits = omega arith })
word_cell (negsuc n) h = to_z-of_z {w = w32} (let l = leb→le n 2147483647 h.0.le in record { sfits = omega arith })

-- cells of codecs that are told by their number
one_of : (c d : ℕ) → is_one_of c (d ∷ []) ≡ true → c ≡ d
unfolding is_one_of
one_of c d e = by (eqb c d) refl e
  where
    by : (t : Bool) → eqb c d ≡ t → (t || false) ≡ true → c ≡ d
    by true q e = eqb-true c d q
    by false q e = let y : ◌≡◌ {A = ℕ} 0 1 = cc in absurd (omega arith)

each_back : (f : ℤ → ℤ) (P : ℤ → Type 0) → ((x : ℤ) → P x → f x ≡ x) → (l : List ℤ) → Every P l → map f l ≡ l
unfolding Every
each_back f P g [] h = refl
each_back f P g (x ∷ l) h = ap₂ (λ (y : ℤ) (ys : List ℤ). y ∷ ys) (g x h.0) (each_back f P g l h.1)

bytes-5 : (x : ℤ) → Between 5 x → pos (decoding.as_byte x) ≡ x
unfolding is_one_of
bytes-5 x h = byte-cell x h

bytes-6 : (x : ℤ) → Between 6 x → pos (decoding.as_byte x) ≡ x
unfolding is_one_of
bytes-6 x h = byte-cell x h

words-1 : (x : ℤ) → Between 1 x → to_z w32 (floats.kept x) ≡ x
unfolding is_one_of
words-1 x h = word_cell x h

-- cells that became elements come back
cells-back : (k : Kind) (c m : ℕ) (l : List ℤ) → CanHold k c m l → cells_from k (map (element_of k) l) ≡ l
cells-back kind.Float32 c m l h = map-map (to_z w32) floats.kept l ∙ each_back _ (Between c) (subst (λ (i : ℕ). (x : ℤ) → Between i x → to_z w32 (floats.kept x) ≡ x) (sym (one_of c 1 h.codec)) words-1) l h.numbers
cells-back kind.FixedPoint c m l h = map-id l
cells-back kind.Int8 c m l h = map-id l
cells-back kind.Int16 c m l h = map-id l
cells-back kind.Int32 c m l h = map-id l
cells-back kind.Strings c m l h = map-map pos decoding.as_byte l ∙ each_back _ (Between c) (subst (λ (i : ℕ). (x : ℤ) → Between i x → pos (decoding.as_byte x) ≡ x) (sym (one_of c 5 h.codec)) bytes-5) l h.numbers
cells-back kind.Chars c m l h = map-map pos decoding.as_byte l ∙ each_back _ (Between c) (subst (λ (i : ℕ). (x : ℤ) → Between i x → pos (decoding.as_byte x) ≡ x) (sym (one_of c 6 h.codec)) bytes-6) l h.numbers

-- Parameters

taken-used : (k : Kind) (p : Parameter) (m : ℕ) → parameter_of k ≡ p → used p m ≡ taken k m
taken-used kind.Float32 p m e = rw (← e)
taken-used kind.FixedPoint p m e = rw (← e)
taken-used kind.Int8 p m e = rw (← e)
taken-used kind.Int16 p m e = rw (← e)
taken-used kind.Int32 p m e = rw (← e)
taken-used kind.Strings p m e = rw (← e)
taken-used kind.Chars p m e = rw (← e)

taken_twice : (k : Kind) (m : ℕ) → taken k (taken k m) ≡ taken k m
taken_twice k m = sym (taken-used k (parameter_of k) (taken k m) refl) ∙ ap (used (parameter_of k)) (sym e) ∙ used-twice (parameter_of k) m ∙ e
  where
    e : used (parameter_of k) m ≡ taken k m
    e = taken-used k (parameter_of k) m refl

divisor-taken : (k : Kind) (p : Parameter) (m : ℕ) → parameter_of k ≡ p → divisor_of k (used p (taken k m)) ≡ divisor_of k m
divisor-taken kind.Float32 p m e = refl
divisor-taken kind.FixedPoint p m e = rw (← e)
divisor-taken kind.Int8 p m e = refl
divisor-taken kind.Int16 p m e = refl
divisor-taken kind.Int32 p m e = refl
divisor-taken kind.Strings p m e = refl
divisor-taken kind.Chars p m e = refl

-- A decoder's answer

-- of a column that fits the buffer
module _ (s : List ℕ) (m : ℕ) (l : List ℤ) where
  -- what is said and left of a decoding, for any elements
  handed : {B : Type 0} (element : Kind → ℕ → ℤ → B) (x : Decoding) (old : List B) (k : Kind) → x ≡ column k m l → length l ≤ length old
      → (decoded_answer x (length old) ≡ Ok (length l)) × (decoded_buffer element x old ≡ map (element k m) l ++ drop (length l) old)
  handed element x old k e h = let a = answers-done element x old k m l e h (map (element k m) l ++ drop (length l) old) refl in (sym a.0, sym a.1)

  numbers : (k : Kind) (buffer : List ℤ) → decode (Only k) s ≡ column k m l → length l ≤ length buffer
      → (decoding.with_divisor 0 (decoded_answer (decode (Only k) s) (length buffer)) ≡ wrote (length l) 0) × (decoding.number_buffer (decode (Only k) s) buffer ≡ map decoding.as_number l ++ drop (length l) buffer)
  numbers k buffer e h = let a = handed (λ (k : Kind) (m : ℕ). decoding.as_number) (decode (Only k) s) buffer k e h in (ap (decoding.with_divisor 0) a.0, a.1)

  chars : (k : Kind) (buffer : List ℕ) → decode (Only k) s ≡ column k m l → length l ≤ length buffer
      → (decoding.with_divisor 0 (decoded_answer (decode (Only k) s) (length buffer)) ≡ wrote (length l) 0) × (decoding.byte_buffer (decode (Only k) s) buffer ≡ map decoding.as_byte l ++ drop (length l) buffer)
  chars k buffer e h = let a = handed (λ (k : Kind) (m : ℕ). decoding.as_byte) (decode (Only k) s) buffer k e h in (ap (decoding.with_divisor 0) a.0, a.1)

  says : (k : Kind) (buffer : List (Element k)) → decode (Only k) s ≡ column k m l → length l ≤ length buffer
      → (decoder_says k s (length buffer) ≡ wrote (length l) (divisor_of k m)) × (decoder_leaves k s buffer ≡ map (element_of k) l ++ drop (length l) buffer)
  says kind.Float32 buffer e h =
      let d = decode-wanted (Only kind.Float32) Real s kind.Float32 m l refl e in
      let a = handed floats.float_bits (floats.exactly (decode Real s)) buffer kind.Float32 (ap floats.exactly d) h in
      (ap (decoding.with_divisor 0) a.0, a.1)
  says kind.FixedPoint buffer e h =
      let a = handed (λ (k : Kind) (m : ℕ). decoding.as_number) (decode (Only kind.FixedPoint) s) buffer kind.FixedPoint e h in
      (ap (λ (x : Decoding). decoding.fixed_answer x (length buffer)) e ∙ ap (decoding.with_divisor m) (ap (λ (x : Decoding). decoded_answer x (length buffer)) (sym e) ∙ a.0), a.1)
  says kind.Int8 buffer e h = numbers kind.Int8 buffer e h
  says kind.Int16 buffer e h = numbers kind.Int16 buffer e h
  says kind.Int32 buffer e h = numbers kind.Int32 buffer e h
  says kind.Strings buffer e h = chars kind.Strings buffer e h
  says kind.Chars buffer e h = chars kind.Chars buffer e h

-- an answer that counts n is of n elements, and they fit
answered-count : (k room n : ℕ) → answered k room ≡ Ok n → (k ≡ n) × (n ≤ room)
answered-count k room n e = by (leb k room) refl e
  where
    by : (t : Bool) → leb k room ≡ t → cond t (Ok k) (Err buffer_too_small) ≡ Ok n → (k ≡ n) × (n ≤ room)
    by true h q = let z : k ≡ n = cc in (z, rw z at (leb-true k room h))
    by false h q = let y : ◌≡◌ {A = ℕ} 0 1 = cc in absurd (omega arith)

with-divisor : (m : ℕ) (x : Result ℕ ℕ) (n : ℕ) (d : ℤ) → decoding.with_divisor m x ≡ Ok (n, d) → x ≡ Ok n
with-divisor m (Ok k) n d e = let z : ◌≡◌ {A = ℕ × ℤ} (k, to_z w32 m) (n, d) = cc in ap (λ (p : ℕ × ℤ). Ok p.0) z
with-divisor m (Err r) n d e = let y : ◌≡◌ {A = ℕ} 0 1 = cc in absurd (omega arith)

-- a decoder that wrote n elements had a column of them
abbrev Gave : (k : Kind) → List ℕ → ℕ → ℕ → Type 0
Gave k s room n = (m : ℕ) × (l : List ℤ) × (decode (Only k) s ≡ column k m l) × (length l ≡ n) × (n ≤ room)

module _ (s : List ℕ) (room n d : ℕ) where
  -- the answer of the decoders that tell their count alone
  counted : (k : Kind) → decoding.with_divisor 0 (decoded_answer (decode (Only k) s) room) ≡ wrote n d → Gave k s room n
  counted k e = by (decode (Only k) s) refl (with-divisor 0 (decoded_answer (decode (Only k) s) room) n (to_z w32 d) e)
    where
      by : (x : Decoding) → decode (Only k) s ≡ x → decoded_answer x room ≡ Ok n → Gave k s room n
      by (refused r) q e = let y : ◌≡◌ {A = ℕ} 0 1 = cc in absurd (omega arith)
      by (column j m l) q e = let a = answered-count (length l) room n e in (m, l, q ∙ ap (λ (i : Kind). column i m l) (decode-kind k j s m l q), a.0, a.1)

  divided : decoding.fixed_answer (decode (Only kind.FixedPoint) s) room ≡ wrote n d → Gave kind.FixedPoint s room n
  divided e = by (decode (Only kind.FixedPoint) s) refl e
    where
      by : (x : Decoding) → decode (Only kind.FixedPoint) s ≡ x → decoding.fixed_answer x room ≡ wrote n d → Gave kind.FixedPoint s room n
      by (refused r) q e = let y : ◌≡◌ {A = ℕ} 0 1 = cc in absurd (omega arith)
      by (column j m l) q e =
          let a = answered-count (length l) room n (with-divisor m (answered (length l) room) n (to_z w32 d) e) in
          (m, l, q ∙ ap (λ (i : Kind). column i m l) (decode-kind kind.FixedPoint j s m l q), a.0, a.1)

  -- floats of codec 1: a real column of this codec is of the kind that keeps its bits
  kept : OfKind kind.Float32 s → decoding.with_divisor 0 (decoded_answer (floats.exactly (decode Real s)) room) ≡ wrote n d → Gave kind.Float32 s room n
  kept o e = by (decode Real s) refl (with-divisor 0 (decoded_answer (floats.exactly (decode Real s)) room) n (to_z w32 d) e)
    where
      by : (x : Decoding) → decode Real s ≡ x → decoded_answer (floats.exactly x) room ≡ Ok n → Gave kind.Float32 s room n
      by (refused r) q e = let y : ◌≡◌ {A = ℕ} 0 1 = cc in absurd (omega arith)
      by (column j m l) q e =
          let f : j ≡ kind.Float32 = codec-kind (unsigned_at 4 s 0) o (decode-rules Real s j m l q).known in
          let b : decode Real s ≡ column kind.Float32 m l = q ∙ ap (λ (i : Kind). column i m l) f in
          let a = answered-count (length l) room n (subst (λ (i : Kind). decoded_answer (floats.exactly (column i m l)) room ≡ Ok n) f e) in
          (m, l, decode-wanted Real (Only kind.Float32) s kind.Float32 m l refl b, a.0, a.1)

  gave : (k : Kind) → OfKind k s → decoder_says k s room ≡ wrote n d → Gave k s room n
  gave kind.Float32 o e = kept o e
  gave kind.FixedPoint o e = divided e
  gave kind.Int8 o e = counted kind.Int8 e
  gave kind.Int16 o e = counted kind.Int16 e
  gave kind.Int32 o e = counted kind.Int32 e
  gave kind.Strings o e = counted kind.Strings e
  gave kind.Chars o e = counted kind.Chars e

-- An encoder's answer

-- an encoder that answers n had n bytes to write, and room for them
answer-bytes : (x : Encoding) (room n : ℕ) → encoded_answer x room ≡ Ok n → (b : List ℕ) × (x ≡ bytes b) × (length b ≡ n) × (n ≤ room)
answer-bytes (encoding.refused r) room n e = let y : ◌≡◌ {A = ℕ} 0 1 = cc in absurd (omega arith)
answer-bytes (bytes b) room n e = let a = answered-count (length b) room n e in (b, refl, a.0, a.1)

-- the bytes of an encoding stand at the buffer's start
buffer-bytes : (b old : List ℕ) (n : ℕ) → length b ≡ n → n ≤ length old → take n (encoded_buffer (bytes b) old) ≡ b
buffer-bytes b old n e h = let t : leb (length b) (length old) ≡ true = rw e (le-leb n (length old) h) in rw t (take_at b (drop (length b) old) n e)

-- The demand

module _ (k : Kind) (c m : ℕ) (ys : List (Element k)) where
  held-written : CanHold k c (taken k m) (cells_from k ys) → (n : ℕ) × ((room : ℕ) → encoder_says k c m ys room ≡ answered n room)
  held-written h = let r = (encode-exactly k c (taken k m) (cells_from k ys)).1 h in (length r.0, λ room. rw r.1)

  written_held : (room n : ℕ) → encoder_says k c m ys room ≡ Ok n → CanHold k c (taken k m) (cells_from k ys)
  written_held room n e =
      let r = answer-bytes (encode (Only k) c (taken k m) (cells_from k ys)) room n e in
      (encode-exactly k c (taken k m) (cells_from k ys)).0 (r.0, r.1)

  -- an encoding decodes to its column
  module _ (t : Typed k ys) (b : List ℕ) (e : encode (Only k) c (taken k m) (cells_from k ys) ≡ bytes b) where
    rules : Encoded (Only k) c (taken k m) (cells_from k ys) b
    rules = encode-rules (Only k) c (taken k m) (cells_from k ys) b e

    parameter-is : parameter_of k ≡ rules.parameter
    parameter-is = rw (← same_kind k rules.kind rules.suited) at (kind-parameter rules.kind rules.form rules.delta rules.parameter c rules.known)

    back : (buffer : List (Element k)) → length ys ≤ length buffer → Back k c m ys b buffer
    back buffer h =
        let q = decode-encode (Only k) c (taken k m) (cells_from k ys) b e in
        let u = used q.3 (taken k m) in
        let a = decode-kind k q.0 b u (cells_from k ys) q.5 in
        let p : parameter_of k ≡ q.3 = rw a at (kind-parameter q.0 q.1 q.2 q.3 c q.4) in
        let w = says b u (cells_from k ys) k buffer (q.5 ∙ ap (λ (i : Kind). column i u (cells_from k ys)) a) (rw (length-cells k ys) h) in
        record {
          codec = codec-at (Only k) c (taken k m) (cells_from k ys) b rules;
          parameter =
              ap (taken k) (field_at (Only k) c (taken k m) (cells_from k ys) b rules ∙ taken-used k rules.parameter (taken k m) parameter-is) ∙ ap (taken k) (taken_twice k m) ∙ taken_twice k m;
          answer = w.0 ∙ ap₂ wrote (length-cells k ys) (divisor-taken k q.3 m p);
          buffer-after = w.1 ∙ ap₂ (λ (x : List (Element k)) (i : ℕ). x ++ drop i buffer) (elements-back k ys t) (length-cells k ys);
        }

  written_back : (old : List ℕ) (n : ℕ) → Typed k ys → encoder_says k c m ys (length old) ≡ Ok n → (buffer : List (Element k)) → length ys ≤ length buffer
      → Back k c m ys (take n (encoder_leaves k c m ys old)) buffer
  written_back old n t e buffer h =
      let r = answer-bytes (encode (Only k) c (taken k m) (cells_from k ys)) (length old) n e in
      let z : take n (encoder_leaves k c m ys old) ≡ r.0 = ap (λ (x : Encoding). take n (encoded_buffer x old)) r.1 ∙ buffer-bytes r.0 old n r.2 r.3 in
      rw z (back t r.0 r.1 buffer h)

-- what a decoder wrote
module _ (k : Kind) (s : List ℕ) (buffer : List (Element k)) (n d : ℕ) (o : OfKind k s) (e : decoder_says k s (length buffer) ≡ wrote n d) where
  found : Gave k s (length buffer) n
  found = gave s (length buffer) n d k o e

  found-held : CanHold k (codec_in s) found.0 found.1
  found-held = decode-held (Only k) s k found.0 found.1 found.2

  -- the elements that were handed over are the cells of the column
  same-cells : cells_from k (take n (decoder_leaves k s buffer)) ≡ found.1
  same-cells =
      let l = found.1 in
      let w = (says s found.0 l k buffer found.2 (rw found.3 found.4)).1 in
      let t : take n (decoder_leaves k s buffer) ≡ map (element_of k) l = ap (take n) w ∙ take_at (map (element_of k) l) (drop (length l) buffer) n (length-map l (element_of k) ∙ found.3) in
      ap (cells_from k) t ∙ cells-back k (codec_in s) found.0 l found-held

  -- the header's parameter is the one that the encoder of the kind takes
  same-parameter : taken k (parameter_in s) ≡ found.0
  same-parameter =
      let r = decode-rules (Only k) s k found.0 found.1 found.2 in
      sym (taken-used k r.parameter (parameter_in s) (kind-parameter k r.form r.delta r.parameter (codec_in s) r.known)) ∙ r.parameter-read

  held : CanHold k (codec_in s) (taken k (parameter_in s)) (cells_from k (take n (decoder_leaves k s buffer)))
  held = rw (same-cells, same-parameter) found-held

  again : Bytes s → WriterForm s → encode (Only k) (codec_in s) (taken k (parameter_in s)) (cells_from k (take n (decoder_leaves k s buffer))) ≡ bytes s
  again b f = rw (same-cells, same-parameter) (encode-decode (Only k) s k found.0 found.1 b found.2 f)

  -- the column encoded again, by its codec and with its parameter, has no more bytes than it had
  pub again-no-longer : (i : ℕ) × (i ≤ length s) × ((room : ℕ) → encoder_says k (codec_in s) (parameter_in s) (take n (decoder_leaves k s buffer)) room ≡ answered i room)
  again-no-longer =
      let h = encode-holds (Only k) s k found.0 found.1 found.2 in
      let e : encode (Only k) (codec_in s) (taken k (parameter_in s)) (cells_from k (take n (decoder_leaves k s buffer))) ≡ bytes h.0 = rw (same-cells, same-parameter) h.1 in
      (length h.0, encode-fewest (Only k) (Only k) found.0 found.0 k found.1 h.0 s h.1 found.2, λ room. rw e)

pub demand-2 : Demand2
demand-2 =
    record {
      decodes = λ k s m xs buffer e h. says s m xs k buffer e h;
      encodes = held-written;
      encodes-held = written_held;
      decodes-back = λ k c m ys old n t e buffer h. written_back k c m ys old n t e buffer h;
      holds-decoded = λ k s buffer n d o e. held k s buffer n d o e;
      encodes-back = λ k s buffer n d b o f e old h.
          let q = again k s buffer n d o e b f in
          let t = le-leb (length s) (length old) h in
          (rw (q, t), rw (q, t));
    }
