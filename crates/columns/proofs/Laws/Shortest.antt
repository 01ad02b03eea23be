-- Whatever bytes decode to, the encoder takes by their codec, and its bytes are no more; if they are as many, the payload is the same. Once over
-- the table of codecs, delta included. Assumes nothing.
use Rattle.std.specs.Prelude.{◌≡◌, refl, Bool, false, List, ◌++◌, ℕ, ◌+◌, ◌≤◌, ◌<◌, length, drop, ℤ, pos}
use Rattle.std.proofs.Common.{sym, ap, ap₂, ◌∙◌, arith, length-drop}
use Rattle.std.proofs.Math.Option.{some}
use Rattle.numbers.specs.BigEndian.{Bytes, unsigned_at}
use Rattle.steps.specs.declared.Range.TheVariants.{Int32}
use Rattle.steps.specs.declared.Form.{Form}
use Rattle.steps.specs.Numbers.{bytes_for}
use Rattle.steps.specs.Delta.{deltas_if}
use Rattle.steps.specs.Payload.{number_size, numbers_for}
use Rattle.steps.specs.Fits.{Every, Between}
use Rattle.steps.specs.Packing.{unpack_from}
use Rattle.steps.proofs.Laws.PackingBack.{unpack-pack_all}
use Rattle.steps.proofs.Laws.PayloadBack.{all_in-32, unpacked-in}
use Rattle.steps.proofs.Laws.Fewest.{pack_all-fewest}
use Rattle.steps.proofs.Laws.PayloadFewest.{payload-fewest, payload-only}
use Rattle.columns.specs.declared.Kind.{Kind}
use Rattle.columns.specs.declared.Kind.TheVariants as kind
use Rattle.columns.specs.declared.Wanted.{Wanted}
use Rattle.columns.specs.declared.Wanted.TheVariants.{Only}
use Rattle.columns.specs.Table.{used}
use Rattle.columns.specs.Header.{header_size, header_bytes}
use Rattle.columns.specs.Decode.{column, decode}
use Rattle.columns.specs.Encode.{bytes, results, payload_of, encode}
use Rattle.columns.specs.CanHold.{CanHold}
use Rattle.columns.specs.Shortest.{Gives, Written, Shortest, ShortestPacked, NoShorter}
use Rattle.columns.proofs.Laws.Same.{same_codec}
use Rattle.columns.proofs.Laws.Rows.{row_small}
use Rattle.columns.proofs.Laws.Header.{header-codec, drop-header, length-column}
use Rattle.columns.proofs.Laws.Encode.{Encoded, encode-rules, encode-kept}
use Rattle.columns.proofs.Laws.Decode.{Decoded, decode-rules, decode-kind}
use Rattle.columns.proofs.Laws.RoundTrip.{payload-at, length_at, same-values, decoded-encoded, decode-encode}
use Rattle.columns.proofs.Laws.CanHold.{encode-exactly}

-- Columns

-- the encoder takes what bytes decode to
pub encode-holds : (w : Wanted) (s : List ℕ) (k : Kind) (m : ℕ) (xs : List ℤ) → decode w s ≡ column k m xs → (b : List ℕ) × (encode w (unsigned_at 4 s 0) m xs ≡ bytes b)
encode-holds w s k m xs e =
    let r = decode-rules w s k m xs e in
    let b = header_bytes (unsigned_at 4 s 0) (results r.form m (length xs)) (used r.parameter m) ++ payload_of r.form r.delta xs in
    (b, encode-kept w (unsigned_at 4 s 0) m xs b (decoded-encoded w s k m xs r b refl))

-- the bytes b that the encoder makes of the cells xs, and any bytes s of the same codec that decode to them; what is wanted and the parameter may
-- differ
module _ (w v : Wanted) (m n : ℕ) (k : Kind) (xs : List ℤ) (b s : List ℕ) (e : encode w (unsigned_at 4 s 0) m xs ≡ bytes b) (d : decode v s ≡ column k n xs) where
  own : Encoded w (unsigned_at 4 s 0) m xs b
  own = encode-rules w (unsigned_at 4 s 0) m xs b e

  other : Decoded v s k n xs
  other = decode-rules v s k n xs d

  abbrev payload : List ℕ
  payload = bytes_for (number_size other.form) (numbers_for other.form other.values)

  same-payload : bytes_for (number_size own.form) (numbers_for own.form (deltas_if own.delta xs)) ≡ payload
  same-payload =
      let same = same_codec (sym own.known ∙ other.known) in
      ap₂ (λ (f : Form) (d : Bool). bytes_for (number_size f) (numbers_for f (deltas_if d xs))) same.1 same.2
      ∙ ap (λ (l : List ℤ). bytes_for (number_size other.form) (numbers_for other.form l)) (same-values v s k n xs other)

  own-length : length b ≡ header_size + length payload
  own-length = rw same-payload at (length_at w (unsigned_at 4 s 0) m xs b own)

  -- they are no fewer
  pub encode-fewest : length b ≤ length s
  encode-fewest =
      let f = payload-fewest other.form n (drop header_size s) other.values other.values-read in
      omega (arith, own-length, length-drop header_size s, other.long)

  -- and if they are as few, they have the same payload
  pub encode-only : Bytes (drop header_size s) → length b ≡ length s → drop header_size b ≡ drop header_size s
  encode-only h z =
      let i : length payload ≡ length (drop header_size s) = omega (arith, own-length, length-drop header_size s, other.long) in
      payload-at w (unsigned_at 4 s 0) m xs b own ∙ same-payload ∙ payload-only other.form n (drop header_size s) other.values other.values-read h i

-- Payloads

module _ (k : Kind) (c m : ℕ) (xs : List ℤ) where
  -- the writer has a payload for a column that the codec can hold, and it gives the column
  has-payload : CanHold k c m xs → (own : List ℕ) × Written k c m xs own × Gives k c xs own
  has-payload h =
      let e = (encode-exactly k c m xs).1 h in
      let r = encode-rules (Only k) c m xs e.0 e.1 in
      let d = decode-encode (Only k) c m xs e.0 e.1 in
      let n = results r.form m (length xs) in
      let v = used r.parameter m in
      let own = payload_of r.form r.delta xs in
      let q = decode-kind k d.0 e.0 (used d.3 m) xs d.5 in
      let gives : decode (Only k) (header_bytes c n v ++ own) ≡ column k (used d.3 m) xs =
      ap (decode (Only k)) r.built ∙ d.5 ∙ ap (λ (j : Kind). column j (used d.3 m) xs) q in
      (own, (n, v, e.1 ∙ ap bytes (sym r.built)), (n, v, used d.3 m, gives))

  module _ (own payload : List ℕ) (a : Written k c m xs own) (g : Gives k c xs payload) where
    abbrev ours : List ℕ
    ours = header_bytes c a.0 a.1 ++ own

    abbrev theirs : List ℕ
    theirs = header_bytes c g.0 g.1 ++ payload

    codec-same : unsigned_at 4 theirs 0 ≡ c
    codec-same = header-codec c g.0 g.1 payload (omega (arith, row_small c (encode-rules (Only k) c m xs ours a.2).known))

    ours-encoded : encode (Only k) (unsigned_at 4 theirs 0) m xs ≡ bytes ours
    ours-encoded = rw codec-same a.2

    no-fewer : length own ≤ length payload
    no-fewer =
        let f = encode-fewest (Only k) (Only k) m g.2 k xs ours theirs ours-encoded g.3 in
        omega (arith, f, length-column c a.0 a.1 own, length-column c g.0 g.1 payload)

    alone : Bytes payload → length own ≡ length payload → own ≡ payload
    alone h z =
        let i : length ours ≡ length theirs = omega (arith, z, length-column c a.0 a.1 own, length-column c g.0 g.1 payload) in
        let t : drop header_size theirs ≡ payload = drop-header c g.0 g.1 payload in
        sym (drop-header c a.0 a.1 own) ∙ encode-only (Only k) (Only k) m g.2 k xs ours theirs ours-encoded g.3 (rw t h) i ∙ t

-- by any codec of any kind no payload is shorter than the writer's
pub shortest : (k : Kind) (c : ℕ) → Shortest k c
shortest k c = record { held = has-payload k c; fewest = no-fewer k c; only = alone k c }

-- Packing

pub shortest-packed : (p q : ℕ) (ns xs : List ℤ) → 0 < p → 0 < q → Every (Between p q) ns → unpack_from p q (pos 0) false ns ≡ some xs → ShortestPacked p q ns xs
shortest-packed p q ns xs a b f u =
    let few = pack_all-fewest p q a b ns xs f u in
    record { held = unpack-pack_all p q a b xs (all_in-32 Int32 xs (unpacked-in p q (pos 0) false ns xs u)); fewest = few.0; only = few.1 }

-- The statement

pub no-shorter : NoShorter
no-shorter = record {
  codec-7 = shortest kind.Int32 7;
  codec-14 = shortest kind.Int32 14;
  codec-15 = shortest kind.Int32 15;
  every-codec = shortest;
  every-width = shortest-packed;
}
