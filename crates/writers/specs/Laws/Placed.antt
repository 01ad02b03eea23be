-- Laws of bytes put over a buffer: one part after the other, and the three answers. Assumes nothing.
use Rattle.std.specs.Prelude.{◌≡◌, Ok, Err, ℕ, ◌+◌, ◌<◌, ◌≤◌, Bool, true, false, List, [], ◌++◌, length, take, drop}
use Rattle.std.proofs.Math.Path.{sym, ap}
use Rattle.std.proofs.Common.{subst, ◌∙◌, append_assoc, take-append-drop}
use native.Mathlib.Omega.{arith}
use Rattle.std.proofs.Math.ListN.{length-append, length-drop}
use Rattle.std.proofs.Math.Seq.{length-take-le, take_at, drop_at, drop-drop}
use borrow.Author.Tests.{le-leb, lt-leb}
use Rattle.numbers.specs.BigEndian.{bytes_of, written_at}
use Rattle.numbers.specs.Laws.BigEndian.{written_at-in, length-bytes_of}
use Rattle.refusal.specs.Table.{number_not_allowed, buffer_too_small}
use Rattle.writers.specs.Placed.{over, placed, laid}

-- Bytes over a buffer

pub over_none : (s : List ℕ) (at : ℕ) → over s at [] ≡ s
unfolding over
over_none s at = let e : at + 0 ≡ at = omega arith in rw e (take-append-drop at s)

module _ (s : List ℕ) (at : ℕ) where
  pub over-length : (l : List ℕ) → at + length l ≤ length s → length (over s at l) ≡ length s
  unfolding over
  over-length l h =
      let a = length-append (take at s) (l ++ drop (at + length l) s) in
      let b = length-append l (drop (at + length l) s) in
      let c = length-take-le at s (omega arith) in
      let d = length-drop (at + length l) s in
      omega arith

  pub over-more : (l m : List ℕ) → at + length l + length m ≤ length s → over (over s at l) (at + length l) m ≡ over s at (l ++ m)
  unfolding over
  over-more l m h =
      let lo : length (take at s) ≡ at = length-take-le at s (omega arith) in
      let lp : length (take at s ++ l) ≡ at + length l = simp length-append (omega arith) in
      let q : over s at l ≡ (take at s ++ l) ++ drop (at + length l) s = sym (append_assoc (take at s) l (drop (at + length l) s)) in
      let t : take (at + length l) (over s at l) ≡ take at s ++ l = ap (take (at + length l)) q ∙ take_at (take at s ++ l) (drop (at + length l) s) (at + length l) lp in
      let e : drop (at + length l) (over s at l) ≡ drop (at + length l) s = ap (drop (at + length l)) q ∙ drop_at (take at s ++ l) (drop (at + length l) s) (at + length l) lp in
      let d : drop (at + length l + length m) (over s at l) ≡ drop (at + length l + length m) s =
      sym (drop-drop (length m) (at + length l) (over s at l)) ∙ ap (drop (length m)) e ∙ drop-drop (length m) (at + length l) s in
      let n : at + length (l ++ m) ≡ at + length l + length m = simp length-append (omega arith) in
      rw (t, d, n) (append_assoc (take at s) l (m ++ drop (at + length l + length m) s) ∙ ap (λ (x : List ℕ). take at s ++ x) (sym (append_assoc l m (drop (at + length l + length m) s))))

  pub over-then : (k : ℕ) (l m : List ℕ) → length l ≡ k → at + k + length m ≤ length s → over (over s at l) (at + k) m ≡ over s at (l ++ m)
  over-then k l m e h = ap (λ (n : ℕ). over (over s at l) (at + n) m) (sym e) ∙ over-more l m (omega arith)

  pub over-written : (k n : ℕ) → at + k ≤ length s → written_at k s at n ≡ over s at (bytes_of k n)
  unfolding over
  over-written k n h = written_at-in k s at n h ∙ rw (length-bytes_of k n) (append_assoc (take at s) (bytes_of k n) (drop (at + k) s))

-- Part after part

-- the bytes `rest` are still to come: put over s from `at` on they give the buffer `all`
pub record ToCome (all s : List ℕ) (at : ℕ) (rest : List ℕ) : Type 0 where
  pub gives : over s at rest ≡ all
  pub room : at + length rest ≤ length s

-- `rest` is l and then m
pub record Parts (rest l m : List ℕ) : Type 0 where
  pub are : rest ≡ l ++ m

pub parts-length : {rest l m : List ℕ} → Parts rest l m → length rest ≡ length l + length m
parts-length {rest} {l} {m} e = ap length e.are ∙ length-append l m

module _ {all s : List ℕ} {at : ℕ} {rest : List ℕ} (h : ToCome all s at rest) where
  pub come-end : rest ≡ [] → s ≡ all
  come-end e = sym (over_none s at) ∙ ap (over s at) (sym e) ∙ h.gives

  pub come-same : {new : List ℕ} → rest ≡ new → ToCome all s at new
  come-same e = subst (ToCome all s at) e h

  module _ {l m : List ℕ} (e : Parts rest l m) where
    both-room : at + length l + length m ≤ length s
    both-room = let a = length-append l m in omega (arith, ap length e.are, h.room)

    pub come-room : {k : ℕ} → length l ≡ k → at + k ≤ length s
    come-room q = omega (arith, both-room)

    pub come-on : {new : List ℕ} {n : ℕ} → new ≡ over s at l → n ≡ at + length l → ToCome all new n m
    come-on {new} {n} q k =
        let r = both-room in
        let f = over-length s at l (omega arith) in
        record { gives = ap (λ (t : List ℕ). over t n m) q ∙ ap (λ (i : ℕ). over (over s at l) i m) k ∙ over-more s at l m r ∙ ap (over s at) (sym e.are) ∙ h.gives; room = omega (arith, ap length q) }

-- The answers

module _ {ok : Bool} (p s : List ℕ) (at : ℕ) where
  pub answer-refused : ok ≡ false → (Err number_not_allowed ≡ placed ok p (length s) at) × (s ≡ laid ok p s at)
  unfolding placed laid
  answer-refused e = (rw e, rw e)

  pub answer-over : ok ≡ true → length s < at + length p → (Err buffer_too_small ≡ placed ok p (length s) at) × (s ≡ laid ok p s at)
  unfolding placed laid
  answer-over e h = let t = lt-leb (at + length p) (length s) h in (rw (e, t), rw (e, t))

  pub answer-in : {n : ℕ} {new : List ℕ} → ok ≡ true → at + length p ≤ length s → n ≡ length p → new ≡ over s at p → (Ok n ≡ placed ok p (length s) at) × (new ≡ laid ok p s at)
  unfolding placed laid
  answer-in e h q k = let t = le-leb (at + length p) (length s) h in (rw (e, t, q), rw (e, t) k)
