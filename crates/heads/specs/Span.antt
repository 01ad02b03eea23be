-- A part of a list of bytes that stands from one place up to another. No lemma stands here; its laws are in Laws/Span.antt. Assumes nothing.
use Rattle.std.specs.Prelude.{◌≡◌, List, ◌++◌, ℕ, ◌+◌, length, drop}

-- the bytes w of s stand from a up to b
pub record Span (s : List ℕ) (a b : ℕ) (w : List ℕ) : Type 0 where
  pub is : drop a s ≡ w ++ drop b s
  pub ends : b ≡ a + length w
