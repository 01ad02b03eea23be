-- Parts of a list of bytes: a part that stands from one place to another, and what stands first at a place.
-- Assumes nothing.
use Rattle.std.specs.Prelude.{◌≡◌, refl, List, [], ◌∷◌, ◌++◌, ℕ, suc, ◌+◌, ◌-◌, ◌<◌, ◌≤◌, length, get_or, take, drop}
use Rattle.std.proofs.Common.{sym, ap, ◌∙◌, append_assoc, arith, add-zero, add-one, length-append, length-take, length-drop, take-append-drop, drop-cons, drop-drop, drop_at, take_at}
use Rattle.heads.specs.Span.{Span}

pub part_length_lem : (s : List ℕ) (p k : ℕ) → p + k ≤ length s → length (take k (drop p s)) ≡ k
part_length_lem s p k le = simp (length-take, length-drop) (omega arith)

pub span_none : (s : List ℕ) (a : ℕ) → Span s a a []
span_none s a = record { is = refl; ends = sym (add-zero a) }

pub span-join : {s : List ℕ} {a b c : ℕ} {u v : List ℕ} → Span s a b u → Span s b c v → Span s a c (u ++ v)
span-join {s} {a} {b} {c} {u} {v} p q = record {
  is = rw (append_assoc u v (drop c s), ← q.is) p.is;
  ends = rw (length-append u v) (omega arith);
}

pub span-part : (s : List ℕ) (p k : ℕ) → p + k ≤ length s → Span s p (p + k) (take k (drop p s))
span-part s p k le = record {
  is = rw (← drop-drop k p s) (sym (take-append-drop k (drop p s)));
  ends = rw (part_length_lem s p k le);
}

pub span-one : (s : List ℕ) (p : ℕ) → p < length s → Span s p (p + 1) (get_or s p 0 ∷ [])
span-one s p lt = record { is = rw add-one (drop-cons s p 0 lt); ends = refl }

-- what stands first at a place, by what the rest of s there begins with
pub starts : (s : List ℕ) (a x : ℕ) (t : List ℕ) → drop a s ≡ x ∷ t → (a < length s) × (get_or s a 0 ≡ x) × (drop (a + 1) s ≡ t)
starts s a x t h =
    let l : length s - a ≡ suc (length t) = sym (length-drop a s) ∙ ap length h in
    let lt : a < length s = omega arith in
    let e : get_or s a 0 ∷ drop (suc a) s ≡ x ∷ t = sym (drop-cons s a 0 lt) ∙ h in
    (lt, cc, rw add-one (cc))

-- what stands after a first part
pub follows : (s : List ℕ) (a : ℕ) (u t : List ℕ) → drop a s ≡ u ++ t → drop (a + length u) s ≡ t
follows s a u t h = sym (drop-drop (length u) a s) ∙ rw h (drop_at u t (length u) refl)

-- a first part, taken
pub holds : (s : List ℕ) (a : ℕ) (u t : List ℕ) → drop a s ≡ u ++ t → take (length u) (drop a s) ≡ u
holds s a u t h = rw h (take_at u t (length u) refl)

-- a first part that is not empty ends inside
pub fits : (s : List ℕ) (a : ℕ) (u t : List ℕ) → 0 < length u → drop a s ≡ u ++ t → a + length u ≤ length s
fits s a u t pos h =
    let l : length s - a ≡ length u + length t = sym (length-drop a s) ∙ ap length h ∙ length-append u t in
    omega arith
