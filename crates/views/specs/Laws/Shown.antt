-- The part that shows a value: the body of a string or a binary, else the whole value.
-- Assumes nothing.
use Rattle.std.specs.Prelude.{◌≡◌, true, false, cond, ◌⊎◌, ℕ, ◌+◌, ◌-◌, ◌≤◌, ℤ}
use Rattle.std.proofs.Math.Path.{refl, ap}
use Rattle.std.proofs.Common.{◌∙◌, inl, inr}
use mathlib.Core.List.{List, ◌++◌, append_assoc}
use native.Mathlib.Omega.{arith}
use Rattle.std.proofs.Math.ListN.{length, drop, length-append}
use Rattle.heads.specs.Head.{HeadOf, kind_at, head_at}
use Rattle.heads.specs.declared.Kind.{Kind}
use Rattle.heads.proofs.Laws.Head.{head-told}
use Rattle.messagepack.specs.Limits.{nesting_limit}
use Rattle.messagepack.specs.Document.{Document, integer, float, string, binary, array, map, UnsignedOf, SignedOf, TextOf, Writes}
use Rattle.messagepack.specs.Rules.{depth, Keeps}
use Rattle.messagepack.proofs.Laws.Complete.{value-of}
use Rattle.values.specs.Standing.{Standing}
use Rattle.values.specs.Laws.Standing.{stands_one}
use Rattle.views.specs.Place.{Place, some_part, is_text, body_place, value_place}
use Rattle.views.specs.Shown.{shown_place, ShowsAt}

-- the place by the kind of the value at another: after a head, or the whole of the n bytes
by_kind : List ℕ → ℕ → ℕ → Place
by_kind s at n = cond (is_text (kind_at s at)) (body_place (head_at s at)) (some_part at (at + n - at))

module _ (s : List ℕ) (at : ℕ) where
  text-shows : {k : Kind} (t w v : List ℕ) → is_text k ≡ true → TextOf k t w → drop at s ≡ w ++ v → by_kind s at (length w) ≡ some_part (at + (length w - length t)) (length t)
  unfolding by_kind
  text-shows t w v i wr d =
      let q : drop at s ≡ wr.h ++ (t ++ v) = d ∙ ap (λ (y : List ℕ). y ++ v) wr.is ∙ append_assoc wr.h t v in
      let g = head-told s at (t ++ v) wr.head q in
      let l : length w ≡ length wr.h + length t = ap length wr.is ∙ length-append wr.h t in
      let n : at + length wr.h ≡ at + (length w - length t) = omega arith in
      rw (g.kind, i, g.head, n)

  other-shows : {k : Kind} {n : ℕ} {h : List ℕ} (t w : List ℕ) → is_text k ≡ false → HeadOf k n h → drop at s ≡ h ++ t → by_kind s at (length w) ≡ some_part (at + (length w - length w)) (length w)
  unfolding by_kind
  other-shows t w i hd d =
      let g = head-told s at t hd d in
      let z : at + (length w - length w) ≡ at = omega arith in
      let e : at + length w - at ≡ length w = omega arith in
      rw (g.kind, i, z, e)

  past : (w h v t : List ℕ) → w ≡ h ++ v → drop at s ≡ w ++ t → drop at s ≡ h ++ (v ++ t)
  past w h v t e d = d ∙ ap (λ (y : List ℕ). y ++ t) e ∙ append_assoc h v t

  integer-shows : (z : ℤ) (w v : List ℕ) → UnsignedOf z w ⊎ SignedOf z w → drop at s ≡ w ++ v → by_kind s at (length w) ≡ some_part (at + (length w - length w)) (length w)
  integer-shows z w v (inl o) d = other-shows v w refl o.head d
  integer-shows z w v (inr o) d = other-shows v w refl o.head d

  shows : (x : Document) (w v : List ℕ) → Writes x w → drop at s ≡ w ++ v → by_kind s at (length w) ≡ shown_place at x w
  unfolding Writes
  shows (string t) w v wr d = text-shows t w v refl wr d
  shows (binary t) w v wr d = text-shows t w v refl wr d
  shows (integer z) w v wr d = integer-shows z w v wr d
  shows (float bits) w v wr d = other-shows v w refl wr d
  shows (array ds) w v wr d = other-shows (wr.v ++ v) w refl wr.head (past w wr.h wr.v v wr.is d)
  shows (map es) w v wr d = other-shows (wr.v ++ v) w refl wr.head (past w wr.h wr.v v wr.is d)

  -- by the value's kind: the body after its head, else all of its bytes
  pub part-shows : (x : Document) (w v : List ℕ) → Writes x w → drop at s ≡ w ++ v → cond (is_text (kind_at s at)) (body_place (head_at s at)) (some_part at (at + length w - at)) ≡ shown_place at x w
  unfolding by_kind
  part-shows x w v wr d = shows x w v wr d

  -- the definition gives the part of a value that keeps the rules
  pub value-shows : (x : Document) (w v : List ℕ) → Writes x w → depth x ≤ nesting_limit → Keeps x → drop at s ≡ w ++ v → value_place s at ≡ shown_place at x w
  unfolding by_kind
  value-shows x w v wr n k d = rw (value-of s x w nesting_limit at v wr n k d) (shows x w v wr d)

  -- of a string or a binary its body
  pub body-shows : {r : Place} → is_text (kind_at s at) ≡ true → r ≡ body_place (head_at s at) → ShowsAt s at r
  unfolding by_kind
  body-shows a i x w v wr d = i ∙ (rw a at (shows x w v wr d))

  -- of another value the whole
  pub whole-shows : {r : Place} → is_text (kind_at s at) ≡ false → ((e : ℕ) → Standing s 1 at e → r ≡ some_part at (e - at)) → ShowsAt s at r
  unfolding by_kind
  whole-shows a f x w v wr d = f (at + length w) (stands_one s at x w v wr d) ∙ (rw a at (shows x w v wr d))
