-- Laws of text put into a buffer: one piece after the other, and a piece that fits. Assumes nothing.
use Rattle.std.specs.Prelude.{◌≡◌, refl, Bool, true, false, List, [], ◌∷◌, ◌++◌, ℕ, suc, ◌+◌, ◌-◌, ◌≤◌, min, ltb, length, set, take, drop}
use Rattle.std.proofs.Common.{sym, ap, ◌∙◌, arith, length-append, length-set, take_at, ltb-true, ltb-false}
use Rattle.std.proofs.lemmas.List.Edits.{sets, sets-eq}
use Rattle.std.proofs.Math.Seq.{length-sets, set_out}
use Rattle.text.specs.Put.{Put}

-- past the end nothing is stored
pub sets-out : (text s : List ℕ) (at : ℕ) → length s ≤ at → sets s at text ≡ s
sets-out [] s at h = refl
sets-out (b ∷ text) s at h = ap (λ (l : List ℕ). sets l (suc at) text) (set_out s at b h) ∙ sets-out text s (suc at) (omega arith)

-- two pieces
pub sets_more : (t u s : List ℕ) (at : ℕ) → sets (sets s at t) (at + min (length t) (length s - at)) u ≡ sets s at (t ++ u)
sets_more [] u s at = let e : at + min 0 (length s - at) ≡ at = omega arith in rw e
sets_more (b ∷ t) u s at = go (ltb at (length s)) refl (sets_more t u (set s at b) (suc at))
  where
    go : (test : Bool) → ltb at (length s) ≡ test
        → sets (sets (set s at b) (suc at) t) (suc at + min (length t) (length (set s at b) - suc at)) u ≡ sets (set s at b) (suc at) (t ++ u)
        → sets (sets (set s at b) (suc at) t) (at + min (suc (length t)) (length s - at)) u ≡ sets (set s at b) (suc at) (t ++ u)
    go true e rest =
        let h = ltb-true at (length s) e in
        let l = length-set s at b in
        let p : at + min (suc (length t)) (length s - at) ≡ suc at + min (length t) (length (set s at b) - suc at) = omega arith in
        rw p rest
    go false e rest =
        let h = ltb-false at (length s) e in
        let p : at + min (suc (length t)) (length s - at) ≡ at = omega arith in
        let q = set_out s at b h in
        let k : length s ≤ suc at = omega arith in
        rw (p, q, sets-out t s (suc at), sets-out (t ++ u) s (suc at), sets-out u s at)

module _ {s t new : List ℕ} {at next : ℕ} (h : Put s at t new next) where
  pub put-length : length new ≡ length s
  put-length = ap length h.bytes ∙ length-sets s at t

  -- a piece after another
  pub put-more : {u last : List ℕ} {end : ℕ} → Put new next u last end → Put s at (t ++ u) last end
  put-more {u} {last} {end} k =
      let l = put-length in
      let a = length-append t u in
      record {
        bytes = k.bytes ∙ ap (λ (x : List ℕ). sets x next u) h.bytes ∙ ap (λ (n : ℕ). sets (sets s at t) n u) h.place ∙ sets_more t u s at;
        place = omega (arith, h.place, k.place);
      }

  -- a piece for which there is room
  pub put-fits : at + length t ≤ length s → next ≡ at + length t
  put-fits r = omega (arith, h.place)

  -- bytes that are equal are put alike
  pub put_as : {u : List ℕ} → u ≡ t → Put s at u new next
  put_as {u} e = record { bytes = h.bytes ∙ ap (sets s at) (sym e); place = omega (arith, h.place, ap length e) }

-- a text at the start of a buffer that has room for it: all of the buffer, and the text again
pub put_all : {old text new : List ℕ} {next : ℕ} → Put old 0 text new next → length text ≤ length old → (next ≡ length text) × (new ≡ text ++ drop (length text) old)
put_all {old} {text} {new} {next} p h =
    let z : 0 + length text ≡ length text = omega arith in
    (omega (arith, p.place), p.bytes ∙ sets-eq text old 0 (omega arith) ∙ ap (λ (k : ℕ). text ++ drop k old) z)

pub put-page : {old text new : List ℕ} {next : ℕ} → Put old 0 text new next → length text ≤ length old → (next ≡ length text) × (take next new ≡ text)
put-page {old} {text} {new} {next} p h =
    let a = put_all p h in
    (a.0, ap (take next) a.1 ∙ take_at text (drop (length text) old) next (sym a.0))

-- no bytes
pub put-none : (s : List ℕ) (at : ℕ) → Put s at [] s at
put-none s at = record { bytes = refl; place = omega arith }
