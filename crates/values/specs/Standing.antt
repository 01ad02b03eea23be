-- Values that stand one after another in a file, whatever they are, and steps over them: what `skip` says. No lemma stands here: the laws are
-- in Laws/Standing.antt. Assumes nothing.
use Rattle.std.specs.Prelude.{◌≡◌, cond, List, ℕ, zero, suc, ◌+◌, ◌≤◌, ◌<◌, leb, length, get_or, Option, Some, None}
use Rattle.messagepack.specs.Document.{Document, Writes}
use Rattle.heads.specs.Lead.{kind_of, more_of}
use Rattle.heads.specs.declared.Kind.{Kind}
use Rattle.heads.specs.Span.{Span}
use Rattle.values.specs.declared.Step.{Step}

-- n values stand in s from p up to e, one after another
unfoldable pub Standing : List ℕ → ℕ → ℕ → ℕ → Type 0
Standing s zero p e = p ≡ e
Standing s (suc n) p e = record { x : Document; w : List ℕ; q : ℕ; writes : Writes x w; span : Span s p q w; rest : Standing s n q e }

-- a step over a value: where it goes on, and how many values are inside
abbrev pub step_to : ℕ → ℕ → Step
step_to next inside = record { next = next; inside = inside }

-- a step over n bytes from p on in a file of some length
abbrev pub past_over : ℕ → ℕ → ℕ → Option Step
past_over size n p = cond (leb (p + n) size) (Some (step_to (p + n) 0)) None

-- a step to n keys and their values
abbrev pub pairs_over : ℕ → ℕ → ℕ → Option Step
pairs_over size n p = cond (leb (p + (n + n)) size) (Some (step_to p (n + n))) None

-- the n values from a place on are integers in their lead bytes
pub record LowRun (s : List ℕ) (at n : ℕ) : Type 0 where
  pub inside : at + n ≤ length s
  pub low : (i : ℕ) → i < n → get_or s (at + i) 0 < 0x80

-- unsigned integers with a lead byte have a size, which is more than that byte
pub record Sized (lead size : ℕ) : Type 0 where
  pub kind : kind_of lead ≡ Kind.Unsigned
  pub is : size ≡ more_of lead + 1
  pub more : 1 < size

-- a step to n values, or over all of them, or to those that are left after some at the start
pub data ItemsOver (s : List ℕ) (n p : ℕ) : Option Step → Type 0 where
  over : LowRun s p n → ItemsOver s n p (Some (step_to (p + n) 0))
  each : ItemsOver s n p (Some (step_to p n))
  after : {q k : ℕ} → p ≤ q → q ≤ length s → ((m e : ℕ) → Standing s (n + m) p e → Standing s (k + m) q e) → ItemsOver s n p (Some (step_to q k))

-- a step over one value's head, and its body if it is a string or a binary: where it goes on, and how many values are inside
pub data Stepped (s : List ℕ) (p : ℕ) : Option Step → Type 0 where
  on : {q k : ℕ} → p < q → q ≤ length s → ((n e : ℕ) → Standing s (suc n) p e → Standing s (k + n) q e) → Stepped s p (Some (step_to q k))
  stop : ((n e : ℕ) → Standing s (suc n) p e → ⊥) → Stepped s p None
