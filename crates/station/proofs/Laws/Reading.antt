-- Laws of what is read and decoded: it lies within its buffer. Assumes nothing.
use Rattle.std.specs.Prelude.{◌≡◌, refl, Bool, true, false, cond, Result, Ok, Err, ℕ, ℤ, ◌≤◌, leb, length}
use Rattle.std.proofs.Common.{sym, subst, arith, leb-true}
use Rattle.refusal.specs.Table.{buffer_too_small}
use Rattle.refusal.specs.Outcome.{numbered}
use Rattle.refusal.specs.declared.Refusal.{Refusal}
use Rattle.columns.specs.Decode.{Decoding, refused, column}
use Rattle.columns.specs.Buffer.{decoded_answer}
use Rattle.decoding.specs.Calls.{with_divisor, fixed_answer}
use Rattle.station.specs.Reading.{Within, FixedWithin, whole_of}

-- a larger buffer
pub within-more : {E : Type 0} (x : Result ℕ E) (n m : ℕ) → n ≤ m → Within x n → Within x m
within-more (Ok k) n m h w = omega arith
within-more (Err e) n m h w = tt

-- an outcome with its refusal as a number
numbered-within : (r : Result ℕ Refusal) (n : ℕ) → Within (numbered r) n → Within r n
numbered-within (Ok k) n h = h
numbered-within (Err e) n h = tt

numbered-fixed : (r : Result (ℕ × ℤ) Refusal) (n : ℕ) → FixedWithin (numbered r) n → FixedWithin r n
numbered-fixed (Ok (k, d)) n h = h
numbered-fixed (Err e) n h = tt

-- a decoder's answer
decoded-within : (d : Decoding) (room n : ℕ) → n ≡ room → Within (decoded_answer d room) n
decoded-within (refused k) room n q = tt
decoded-within (column k m l) room n q = go (leb (length l) room) refl
  where
    go : (t : Bool) → leb (length l) room ≡ t → Within (cond t (Ok (length l)) (Err buffer_too_small)) n
    go true f = let h = leb-true (length l) room f in omega arith
    go false f = tt

pub answer-within : (d : Decoding) (r : Result ℕ Refusal) (room n : ℕ) → numbered r ≡ decoded_answer d room → n ≡ room → Within r n
answer-within d r room n e q = numbered-within r n (subst (λ (x : Result ℕ ℕ). Within x n) (sym e) (decoded-within d room n q))

divisor-within : (m n : ℕ) (x : Result ℕ ℕ) → Within x n → FixedWithin (with_divisor m x) n
divisor-within m n (Ok k) h = h
divisor-within m n (Err e) h = tt

decoded-fixed : (d : Decoding) (room n : ℕ) → n ≡ room → FixedWithin (fixed_answer d room) n
decoded-fixed (refused k) room n q = tt
decoded-fixed (column k m l) room n q = divisor-within m n _ (decoded-within (column k m l) room n q)

pub fixed-within : (d : Decoding) (r : Result (ℕ × ℤ) Refusal) (room n : ℕ) → numbered r ≡ fixed_answer d room → n ≡ room → FixedWithin r n
fixed-within d r room n e q = numbered-fixed r n (subst (λ (x : Result (ℕ × ℤ) ℕ). FixedWithin x n) (sym e) (decoded-fixed d room n q))

pub whole-within : {E : Type 0} (a : Result ℕ E) (r : Result (ℕ × ℤ) E) (n : ℕ) → r ≡ whole_of a → Within a n → FixedWithin r n
whole-within {E} (Ok k) r n e h = subst (λ (x : Result (ℕ × ℤ) E). FixedWithin x n) (sym e) h
whole-within {E} (Err k) r n e h = subst (λ (x : Result (ℕ × ℤ) E). FixedWithin x n) (sym e) tt

-- the count of an answer
pub count-within : (d : Decoding) (r : Result ℕ Refusal) (room n k : ℕ) → numbered r ≡ decoded_answer d room → n ≡ room → r ≡ Ok k → k ≤ n
count-within d r room n k e q c = subst (λ (x : Result ℕ Refusal). Within x n) c (answer-within d r room n e q)
