-- Laws of numbers joined in their order: when the first decides, when the next one does, when all are 0, and how large they are. Assumes nothing.
use Rattle.std.specs.Prelude.{◌≡◌, refl, Bool, true, false, Result, List, [], ◌∷◌, ℕ, zero, suc, ◌≤◌, ◌<◌, get_or}
use Rattle.std.proofs.Common.{sym, ap, ◌∙◌, arith}
use Rattle.refusal.specs.declared.Refusal.{Refusal}
use Rattle.refusal.specs.Table.{accepted, refusal_number}
use Rattle.refusal.specs.First.{or_else, unless, first}
use Rattle.refusal.specs.Outcome.{number_of, answer_number, outcome_unless}

-- or_else

-- the next number decides where the first is 0
pub or_else-next : (n m : ℕ) → n ≡ accepted → or_else n m ≡ m
or_else-next n m e = ap (λ (k : ℕ). or_else k m) e

-- the first number decides where it is not 0
pub or_else-first : (n m : ℕ) → (n ≡ accepted → ⊥) → or_else n m ≡ n
or_else-first zero m h = absurd (h refl)
or_else-first (suc n) m h = refl

pub or_else-assoc : (a b c : ℕ) → or_else (or_else a b) c ≡ or_else a (or_else b c)
or_else-assoc zero b c = refl
or_else-assoc (suc a) b c = refl

pub or_else-none : (a : ℕ) → or_else a accepted ≡ a
or_else-none zero = refl
or_else-none (suc a) = refl

-- an answer is the joined number: it is the first one and not 0, or the first is 0 and it is the next
pub refused-or_else : (r n m : ℕ) → (r ≡ accepted → ⊥) → r ≡ n → r ≡ or_else n m
refused-or_else zero n m h q = absurd (h refl)
refused-or_else (suc r) n m h q = ap (λ (k : ℕ). or_else k m) q

pub passed-or_else : (r n m : ℕ) → n ≡ accepted → r ≡ m → r ≡ or_else n m
passed-or_else r n m z q = q ∙ sym (or_else-next n m z)

-- both numbers are 0 exactly when the joined one is
pub or_else-left : (n m : ℕ) → or_else n m ≡ accepted → n ≡ accepted
or_else-left zero m e = refl
or_else-left (suc n) m e = e

pub or_else-right : (n m : ℕ) → or_else n m ≡ accepted → m ≡ accepted
or_else-right zero m e = e
or_else-right (suc n) m e = absurd (omega arith)

pub or_else-zero : (n m : ℕ) → n ≡ accepted → m ≡ accepted → or_else n m ≡ accepted
or_else-zero n m e h = rw (e, h)

-- a number joined of two is at most what both are
pub or_else-most : {k : ℕ} (n m : ℕ) → n ≤ k → m ≤ k → or_else n m ≤ k
or_else-most zero m p q = q
or_else-most (suc n) m p q = p

-- unless

-- the outcome of a rule has the rule's number: that of its refusal, or the number that it has in place of one
pub number-unless : (b : Bool) (r : Refusal) {x : Result (Unit {0}) Refusal} → x ≡ outcome_unless b r → number_of x ≡ unless b (refusal_number r)
number-unless true r e = ap number_of e
number-unless false r e = ap number_of e

pub answer_number-unless : (b : Bool) (n : ℕ) {x : Result (Unit {0}) ℕ} → x ≡ outcome_unless b n → answer_number x ≡ unless b n
answer_number-unless true n e = ap answer_number e
answer_number-unless false n e = ap answer_number e

pub unless_holds : (b : Bool) (n : ℕ) → accepted < n → unless b n ≡ accepted → b ≡ true
unless_holds true n h e = refl
unless_holds false n h e = absurd (omega arith)

pub unless-zero : (b : Bool) (n : ℕ) → b ≡ true → unless b n ≡ accepted
unless-zero b n e = rw e

-- a rule's number, and those after it, are at most what both are
pub unless-most : {k : ℕ} (b : Bool) (n : ℕ) {m : ℕ} → n ≤ k → m ≤ k → or_else (unless b n) m ≤ k
unless-most true n p q = q
unless-most false n {m} p q = or_else-most n m p q

-- first

-- the first number of a list is 0 exactly when all are
pub first-each : (ns : List ℕ) → first ns ≡ accepted → (i : ℕ) → get_or ns i 0 ≡ accepted
first-each [] e i = refl
first-each (n ∷ ns) e zero = or_else-left n (first ns) e
first-each (n ∷ ns) e (suc i) = first-each ns (or_else-right n (first ns) e) i

abbrev pub AllZero : List ℕ → Type 0
AllZero [] = Unit {0}
AllZero (n ∷ ns) = (n ≡ accepted) × AllZero ns

pub first-zero : (ns : List ℕ) → AllZero ns → first ns ≡ accepted
first-zero [] z = refl
first-zero (n ∷ ns) z = or_else-zero n (first ns) z.0 (first-zero ns z.1)
