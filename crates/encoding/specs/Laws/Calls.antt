-- Laws of what the calls say and leave: a refused plan, and a placed payload with its header. Assumes nothing.
use Rattle.std.specs.Prelude.{◌≡◌, Result, Ok, Err, Bool, cond, List, ◌++◌, ℕ, ◌+◌, ◌≤◌, take, ℤ}
use Rattle.std.proofs.Math.Path.{refl}
use Rattle.std.proofs.Common.{sym, ap, ap₂, ◌∙◌, append_assoc, length-append}
use Rattle.std.proofs.Math.Bool.{true, false}
use native.Mathlib.Omega.{arith}
use Rattle.std.proofs.Math.ListN.{length, drop}
use Rattle.std.proofs.Math.Seq.{length-take-le, drop_at}
use Rattle.std.proofs.Math.Dec.{leb}
use borrow.Author.Tests.{leb-true}
use Rattle.refusal.specs.Table.{number_not_allowed}
use Rattle.numbers.specs.BigEndian.{bytes_of, written_at}
use Rattle.numbers.specs.Laws.BigEndian.{length-bytes_of}
use Rattle.steps.specs.declared.Form.{Form}
use Rattle.steps.specs.Payload.{allowed}
use Rattle.columns.specs.declared.Wanted.{Wanted}
use Rattle.columns.specs.Header.{header_bytes, header_size}
use Rattle.columns.specs.declared.Plan.{Plan}
use Rattle.columns.specs.Encode.{payload_of, Encoding, refused, bytes, plan_of, encoded_by, encode, plan_with}
use Rattle.columns.proofs.Laws.Header.{length-header}
use Rattle.columns.proofs.Laws.Encode.{encode-plan}
use Rattle.writers.specs.Placed.{over, placed, laid}
use Rattle.writers.specs.Laws.Placed.{over-length, over-then, over-written}
use Rattle.encoding.specs.Calls.{encoded_answer, encoded_buffer}
use Rattle.encoding.specs.Steps.{finished, headed, HoldsPlaced}

-- the three numbers of a header, written one after the other
pub header-written : (s : List ℕ) (c n m : ℕ) → header_size ≤ length s → written_at 4 (written_at 4 (written_at 4 s 0 c) 4 n) 8 m ≡ over s 0 (header_bytes c n m)
header-written s c n m h =
    let lc = length-bytes_of 4 c in
    let ln = length-bytes_of 4 n in
    let lm = length-bytes_of 4 m in
    let lb : length (bytes_of 4 c ++ bytes_of 4 n) ≡ 8 = length-append (bytes_of 4 c) (bytes_of 4 n) ∙ rw (lc, ln) in
    let oc = over-length s 0 (bytes_of 4 c) (omega arith) in
    let ob = over-length s 0 (bytes_of 4 c ++ bytes_of 4 n) (omega arith) in
    let ec : written_at 4 s 0 c ≡ over s 0 (bytes_of 4 c) = over-written s 0 4 c (omega arith) in
    let en : written_at 4 (written_at 4 s 0 c) 4 n ≡ over s 0 (bytes_of 4 c ++ bytes_of 4 n) =
    ap (λ (t : List ℕ). written_at 4 t 4 n) ec ∙ over-written (over s 0 (bytes_of 4 c)) 4 4 n (omega arith) ∙ over-then s 0 4 (bytes_of 4 c) (bytes_of 4 n) lc (omega arith) in
    ap (λ (t : List ℕ). written_at 4 t 8 m) en ∙ over-written (over s 0 (bytes_of 4 c ++ bytes_of 4 n)) 8 4 m (omega arith) ∙ over-then s 0 8 (bytes_of 4 c ++ bytes_of 4 n) (bytes_of 4 m) lb (omega arith)
    ∙ ap (over s 0) (append_assoc (bytes_of 4 c) (bytes_of 4 n) (bytes_of 4 m))

-- A placed payload and its header

module _ (h p s : List ℕ) (e : length h ≡ header_size) where
  both-length : length (h ++ p) ≡ header_size + length p
  both-length = length-append h p ∙ ap (λ (n : ℕ). n + length p) e

  -- the header over the payload's buffer
  both-over : header_size + length p ≤ length s → over (over s header_size p) 0 h ≡ (h ++ p) ++ drop (length (h ++ p)) s
  unfolding over
  both-over r =
      let t : length (take header_size s) ≡ header_size = length-take-le header_size s (omega arith) in
      let n : 0 + length h ≡ header_size = omega arith in
      rw (n, drop_at (take header_size s) (p ++ drop (header_size + length p) s) header_size t, both-length) (sym (append_assoc h p (drop (header_size + length p) s)))

  by-room : (t : Bool) → leb (header_size + length p) (length s) ≡ t
      → (finished (placed true p (length s) header_size) ≡ encoded_answer (bytes (h ++ p)) (length s)) × (headed h (laid true p s header_size) (placed true p (length s) header_size) ≡ encoded_buffer (bytes (h ++ p)) s) × HoldsPlaced (laid true p s header_size) (placed true p (length s) header_size)
  unfolding placed laid
  by-room true q =
      let r = leb-true (header_size + length p) (length s) q in
      let k : leb (length (h ++ p)) (length s) ≡ true = rw both-length q in
      (rw (q, k) (ap Ok (sym both-length)), rw (q, k) (both-over r), rw q (rw (over-length s header_size p r) r))
  by-room false q =
      let k : leb (length (h ++ p)) (length s) ≡ false = rw both-length q in
      (rw (q, k), rw (q, k), rw q tt)

  by-allowed : (ok : Bool)
      → (finished (placed ok p (length s) header_size) ≡ encoded_answer (cond ok (bytes (h ++ p)) (refused number_not_allowed)) (length s))
      × (headed h (laid ok p s header_size) (placed ok p (length s) header_size) ≡ encoded_buffer (cond ok (bytes (h ++ p)) (refused number_not_allowed)) s) × HoldsPlaced (laid ok p s header_size) (placed ok p (length s) header_size)
  unfolding placed laid
  by-allowed true = by-room (leb (header_size + length p) (length s)) refl
  by-allowed false = (refl, refl, tt)

-- The calls, for a codec c and a parameter m that stand for c₀ and m₀

module _ (w : Wanted) {c m c₀ m₀ : ℕ} (xs : List ℤ) (s : List ℕ) (ec : c ≡ c₀) (em : m ≡ m₀) where
  encoded : {t : Result Plan ℕ} → plan_of w c m (length xs) ≡ t → encode w c₀ m₀ xs ≡ encoded_by c m xs t
  encoded q = ap₂ (λ (i j : ℕ). encode w i j xs) (sym ec) (sym em) ∙ encode-plan w c m xs q

  pub refused-answer : {r : ℕ} → plan_of w c m (length xs) ≡ Err r → (Err r ≡ encoded_answer (encode w c₀ m₀ xs) (length s)) × (s ≡ encoded_buffer (encode w c₀ m₀ xs) s)
  refused-answer q = rw (encoded q) (refl, refl)

  module _ {f : Form} {d : Bool} {n v : ℕ} (q : plan_of w c m (length xs) ≡ plan_with f d n v) {ok : Bool} {p : List ℕ} (o : (ok ≡ allowed f m xs) × (p ≡ payload_of f d xs))
      {t : Result ℕ ℕ} {mid : List ℕ} (et : t ≡ placed ok p (length s) header_size) (el : mid ≡ laid ok p s header_size) where
    pub good-holds : HoldsPlaced mid t
    good-holds = rw (et, el) (by-allowed (header_bytes c n v) p s (length-header c n v p) ok).2

    pub good-answer : {r : Result ℕ ℕ} {new : List ℕ} → r ≡ finished t → new ≡ headed (header_bytes c n v) mid t → (r ≡ encoded_answer (encode w c₀ m₀ xs) (length s)) × (new ≡ encoded_buffer (encode w c₀ m₀ xs) s)
    good-answer {r} {new} er en =
        let k = by-allowed (header_bytes c n v) p s (length-header c n v p) ok in
        let g : encode w c₀ m₀ xs ≡ cond ok (bytes (header_bytes c n v ++ p)) (refused number_not_allowed) = encoded q ∙ rw (o.0, o.1) in
        (er ∙ ap finished et ∙ k.0 ∙ ap (λ (i : Encoding). encoded_answer i (length s)) (sym g), en ∙ ap₂ (headed (header_bytes c n v)) el et ∙ k.1 ∙ ap (λ (i : Encoding). encoded_buffer i s) (sym g))
