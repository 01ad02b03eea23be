-- What the functions inside this crate say of whatever stands at a place. No lemma stands here. Assumes nothing.
use Rattle.std.specs.Prelude.{◌≡◌, cond, Option as Place, Some, None, Result, Ok, Err, List, ℕ, ◌<◌, eqb, Float}
use Rattle.std.proofs.Math.Option.{Option, some, none as nothing}
use Rattle.refusal.specs.Table.{accepted}
use Rattle.refusal.specs.declared.Refusal.{Refusal}
use Rattle.messagepack.specs.Document.{Document, Documents, count}
use Rattle.values.specs.Places.{At, AtAll}
use Rattle.transforms.specs.Matrix.{zeros, assemblies_number, transform_in, matrix_in}

-- a value that is found stands at its place
pub data FoundSays (s : List ℕ) : Place ℕ → Option Document → Type 0 where
  absent : FoundSays s None nothing
  there : {p e : ℕ} {x : Document} → At s p x e → FoundSays s (Some p) (some x)

-- the floats of an outcome: zeros on refusal
abbrev pub floats_or_zeros : Result (List Float) Refusal → List Float
floats_or_zeros (Ok floats) = floats
floats_or_zeros (Err r) = zeros

-- a promise on a walked file by the values of an array that stand from a place on, more than n of them
abbrev pub WalkedPast : List ℕ → ℕ → ℕ → (Documents → Type 0) → Type 0
WalkedPast file at n P = (ds : Documents) (e : ℕ) → AtAll file at ds e → n < count ds → P ds

-- what is answered with a number and the floats of a matrix
abbrev pub answer : ℕ → List Float → Result (List Float) ℕ
answer number floats = cond (eqb number accepted) (Ok floats) (Err number)

-- what is answered for a transform by bioAssemblyList
abbrev pub answer_of : ℕ → ℕ → Option Document → Result (List Float) ℕ
answer_of a t o = answer (assemblies_number a t o) (matrix_in (transform_in a t o))
