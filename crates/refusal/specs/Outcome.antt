-- The outcome of a call that may refuse: its number, and the outcome with its refusal as a number; and the answer of a call that fills a lent
-- buffer, 25 where its elements do not fit. No lemma stands here. Assumes nothing.
use Rattle.std.specs.Prelude.{Bool, true, false, cond, Result, Ok, Err, ℕ, leb}
use Rattle.refusal.specs.declared.Refusal.{Refusal}
use Rattle.refusal.specs.Table.{accepted, buffer_too_small, refusal_number}

-- 0 where nothing was refused, else the number of the refusal
abbrev pub number_of : {A : Type 0} → Result A Refusal → ℕ
number_of (Ok x) = accepted
number_of (Err r) = refusal_number r

-- the same outcome, its refusal as a number
abbrev pub numbered : {A : Type 0} → Result A Refusal → Result A ℕ
numbered (Ok x) = Ok x
numbered (Err r) = Err (refusal_number r)

-- the outcome of a rule: its refusal where it is broken, nothing refused where it holds
abbrev pub outcome_unless : {E : Type 0} → Bool → E → Result (Unit {0}) E
outcome_unless true e = Ok tt
outcome_unless false e = Err e

-- the answer for n elements and a buffer with room for so many
abbrev pub answered : ℕ → ℕ → Result ℕ ℕ
answered n room = cond (leb n room) (Ok n) (Err buffer_too_small)

-- the number of an answer, and the count afterwards where one was lent
abbrev pub answer_number : {A : Type 0} → Result A ℕ → ℕ
answer_number (Ok n) = accepted
answer_number (Err r) = r

abbrev pub answer_count : Result ℕ ℕ → ℕ → ℕ
answer_count (Ok n) old = n
answer_count (Err r) old = old
