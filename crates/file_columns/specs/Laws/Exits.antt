-- What a call that may refuse answers, by its number: a refusal's number is not 0, so that a rule that refuses is broken, and one that does not
-- holds. Assumes nothing.
use Rattle.std.specs.Prelude.{◌≡◌, refl, Bool, true, false, Result, Ok, Err, is_ok, Option, Some, None, ok_or, ℕ, ◌<◌}
use Rattle.std.specs.Result.{result_ok}
use Rattle.std.proofs.Common.{arith}
use Rattle.refusal.specs.declared.Refusal.{Refusal}
use Rattle.refusal.specs.Table.{accepted, refusal_number}
use Rattle.refusal.specs.First.{unless}
use Rattle.refusal.specs.Outcome.{number_of}
use Rattle.refusal.proofs.Laws.Table.{Outcome, refusal_number-injective}

-- a refusal's number is not 0
pub some_number : (d : Refusal) → refusal_number d ≡ accepted → ⊥
some_number d e =
    let q : ◌≡◌ {A = Outcome} (Err d) (Ok record {}) = refusal_number-injective (Err d) (Ok record {}) e in
    let y : ◌≡◌ {A = ℕ} 0 1 = cc in
    absurd (omega arith)

-- a rule that refuses is broken, and refuses by its number
pub rule-broken : (b : Bool) (n : ℕ) (d : Refusal) → refusal_number d ≡ unless b n → (b ≡ false) × (refusal_number d ≡ n)
rule-broken true n d e = absurd (some_number d e)
rule-broken false n d e = (refl, e)

-- a rule that does not refuse holds
pub rule_holds : (b : Bool) (n : ℕ) → accepted < n → accepted ≡ unless b n → b ≡ true
rule_holds true n l e = refl
rule_holds false n l e = absurd (omega arith)

-- what is not refused has the number 0, and what is refused another
pub ok_number : {A : Type 0} (r : Result A Refusal) → is_ok r ≡ true → accepted ≡ number_of r
ok_number (Ok x) e = refl
ok_number (Err d) e = let y : ◌≡◌ {A = ℕ} 0 1 = cc in absurd (omega arith)

pub refused_number : {A : Type 0} (r : Result A Refusal) → is_ok r ≡ false → number_of r ≡ accepted → ⊥
refused_number (Ok x) e = let y : ◌≡◌ {A = ℕ} 0 1 = cc in absurd (omega arith)
refused_number (Err d) e = some_number d

-- what `ok` keeps of an answer
pub ok_some : {A : Type 0} (r : Result A Refusal) (x : A) → Some x ≡ result_ok r → r ≡ Ok x
ok_some (Ok y) x e = cc
ok_some (Err d) x e = let y : ◌≡◌ {A = ℕ} 0 1 = cc in absurd (omega arith)

pub ok_none : {A : Type 0} (r : Result A Refusal) → None ≡ result_ok r → (d : Refusal) × (r ≡ Err d)
ok_none (Ok y) e = let y : ◌≡◌ {A = ℕ} 0 1 = cc in absurd (omega arith)
ok_none (Err d) e = (d, refl)

-- what `ok_or` refuses is not there
pub ok_or-none : {A : Type 0} (o : Option A) (r d : Refusal) → Err d ≡ ok_or o r → (o ≡ None) × (d ≡ r)
ok_or-none (Some x) r d e = let y : ◌≡◌ {A = ℕ} 0 1 = cc in absurd (omega arith)
ok_or-none None r d e = (refl, cc)
