-- Numbers of rules joined in their order: the first that is not 0 decides (paper 01: the first refusal by the stated order). No lemma stands
-- here: the laws are in Laws/First.antt. Assumes nothing.
use Rattle.std.specs.Prelude.{Bool, true, false, List, [], ◌∷◌, ℕ, zero, suc}
use Rattle.refusal.specs.Table.{accepted}

-- the first of two numbers that is not 0
abbrev pub or_else : ℕ → ℕ → ℕ
or_else zero m = m
or_else (suc n) m = suc n

-- a rule's number where it is broken, 0 where it holds
abbrev pub unless : Bool → ℕ → ℕ
unless true n = accepted
unless false n = n

-- the first number of a list that is not 0
abbrev pub first : List ℕ → ℕ
first [] = accepted
first (n ∷ ns) = or_else n (first ns)
