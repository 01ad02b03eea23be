-- What is written of a payload's results: what the contracts of the decoders' inner steps cite. No lemma stands here: the laws are in
-- Laws/Writing.antt and Laws/Runs.antt. Assumes nothing.
use Rattle.std.specs.Prelude.{◌≡◌, ℕ, ◌+◌, ◌≤◌, Bool, true, List, ◌++◌, map, length, take, drop, replicate, ℤ}
use Rattle.std.proofs.Math.Option.{some}
use Rattle.steps.specs.declared.Size.{Size}
use Rattle.steps.specs.declared.Form.{Form}
use Rattle.steps.specs.declared.Form.TheVariants.{Packed}
use Rattle.steps.specs.Delta.{results_from, last_from, sums_if}
use Rattle.steps.specs.Payload.{read_in}
use Rattle.payloads.specs.Exact.{all_exact}

-- l in place of what stands from o on
abbrev pub paste : {B : Type 0} → List B → ℕ → List B → List B
paste old o l = take o old ++ (l ++ drop (o + length l) old)

-- n values v of a run are written as elements g from a place on, after the result a, and x is the last result
abbrev pub Filled : {B : Type 0} → (ℤ → B) → Bool → ℤ → ℤ → List B → ℕ → ℕ → List B → ℤ → Type 0
Filled g d a v old from n new x = (new ≡ paste old from (map g (results_from d a (replicate n v)))) × (x ≡ last_from d a (replicate n v))

-- whether a payload's results have room
abbrev pub HasRoom : Form → List ℕ → ℕ → Type 0
HasRoom f s room = (l : List ℤ) × (read_in f s ≡ some l) × (length l ≤ room)

-- whether a payload has so many results
abbrev pub HasResults : Form → List ℕ → ℕ → Type 0
HasResults f s n = (l : List ℤ) × (read_in f s ≡ some l) × (length l ≡ n)

-- n elements b, or more up to a bound, are written from a place on
abbrev pub Covered : {B : Type 0} → B → List B → ℕ → ℕ → ℕ → List B → Type 0
Covered b old from n bound new = (m : ℕ) × (n ≤ m) × (m ≤ bound) × (new ≡ paste old from (replicate m b))

-- what a writer leaves: the results of a payload as elements g at the buffer's start
abbrev pub Wrote : {B : Type 0} → (ℤ → B) → Form → Bool → List ℕ → List B → List B → Type 0
Wrote g f d s old new = (l : List ℤ) → read_in f s ≡ some l → new ≡ map g (sums_if d l) ++ drop (length l) old

-- whether all results of packed numbers are exact in single precision
abbrev pub ResultsJudged : Size → Bool → List ℕ → Bool → Type 0
ResultsJudged z d s ok = (l : List ℤ) → read_in (Packed z) s ≡ some l → ok ≡ all_exact (sums_if d l)

-- all results of a payload are exact in single precision
abbrev pub ResultsExact : Form → Bool → List ℕ → Type 0
ResultsExact f d s = (l : List ℤ) → read_in f s ≡ some l → all_exact (sums_if d l) ≡ true
