-- Laws of columns of names: their values are their bytes. Assumes nothing.
use Rattle.std.specs.Prelude.{◌≡◌, Bool, true, false, cond, List, ◌++◌, map, ℕ, length, drop, ℤ}
use Rattle.std.proofs.Common.{sym, ap₂, ◌∙◌, arith}
use Rattle.std.proofs.Math.Option.{none, some}
use Rattle.numbers.specs.BigEndian.{Bytes}
use Rattle.steps.specs.declared.Size.TheVariants.{One}
use Rattle.steps.specs.declared.Range.TheVariants.{Ascii}
use Rattle.steps.specs.declared.Form.TheVariants.{Names}
use Rattle.steps.specs.Numbers.{numbers_in}
use Rattle.steps.specs.Payload.{all_in, read_in}
use Rattle.steps.proofs.Laws.Names.{names-length}
use Rattle.decoding.specs.Calls.{as_byte}
use Rattle.decoding.specs.Laws.Signs.{bytes-numbers}

-- names that are read are the numbers of their bytes
pub names-read : (s : List ℕ) (l : List ℤ) → read_in Names s ≡ some l → l ≡ numbers_in One s
unfolding read_in
names-read s l = by (all_in Ascii (numbers_in One s))
  where
    by : (t : Bool) → cond t (some (numbers_in One s)) none ≡ some l → l ≡ numbers_in One s
    by true e = cc
    by false e = let y : ◌≡◌ {A = ℕ} 0 1 = cc in absurd (omega arith)

-- names as bytes are the payload
pub names-bytes : (s old new : List ℕ) → Bytes s → new ≡ s ++ drop (length s) old → new ≡ map as_byte (numbers_in One s) ++ drop (length (numbers_in One s)) old
names-bytes s old new b w = w ∙ ap₂ (λ (x : List ℕ) (n : ℕ). x ++ drop n old) (sym (bytes-numbers s b)) (sym (names-length s))
