-- The exact sum in 64 bits, held to 32 bits by two tests; then whether the number is a limit.
use Rattle.std.proofs.Common.{◌≡◌, ◌<◌, Bool, true, false, cond, ℤ, pos, negsuc, ◌+ℤ◌, sym, ap, ◌∙◌, ap₂, arith, to_z-of_z, w32, w64, SFits, to_z, of_z}
use lib.Signed.{mag, lt_z}
use Rattle.steps.specs.declared.Size.{Size}
use Rattle.steps.specs.Width.{upper, lower}
use Rattle.steps.specs.Packing.{is_limit}
use Rattle.steps.specs.declared.Turn.TheVariants.{More, Done, Wrong}
use Rattle.steps.specs.Steps.{turn_of}
use Rattle.steps.proofs.Laws.Packing.{mag-add, in-32, below-32, above-32, turn-outside, turn_inside}
use Rattle.steps.proofs.unpack_one.Goals as goal
use Rattle.steps.proofs.unpack_one.Goals.{then-t-ltminus2147483648-via-then-t-ltminus2147483648, then-t-ltminus2147483648-via-else-t-ltminus2147483648+then-t-gt2147483647}

-- the sum of two numbers of 32 bits, made in 64
module _ (x y p q : ℤ) (f : SFits w32 x) (g : SFits w32 y) (i : mag p < 9223372036854775808) (j : mag q < 9223372036854775808) (a : p ≡ to_z w32 (of_z w32 x)) (b : q ≡ to_z w32 (of_z w32 y)) where
  abbrev made : ℤ
  made = to_z w64 (of_z w64 (to_z w64 (of_z w64 p) +ℤ to_z w64 (of_z w64 q)))

  back : made ≡ x +ℤ y
  back =
      let fits : SFits w64 (x +ℤ y) = record { sfits = omega (arith, mag-add x y, f, g) } in
      ap (λ (z : ℤ). to_z w64 (of_z w64 z))
      (ap₂ (λ (n m : ℤ). n +ℤ m) (to_z-of_z {w = w64} (record { sfits = i }) ∙ a ∙ to_z-of_z {w = w32} f) (to_z-of_z {w = w64} (record { sfits = j }) ∙ b ∙ to_z-of_z {w = w32} g))
      ∙ to_z-of_z {w = w64} fits

  -- a sum that leaves 32 bits
  below : (z : Size) → lt_z made (negsuc 2147483647) ≡ true → Wrong ≡ turn_of z x y
  below z h = sym (turn-outside z x y (below-32 (x +ℤ y) (ap (λ (n : ℤ). lt_z n (negsuc 2147483647)) (sym back) ∙ h)))

  above : (z : Size) → lt_z (pos 2147483647) made ≡ true → Wrong ≡ turn_of z x y
  above z h = sym (turn-outside z x y (above-32 (x +ℤ y) (ap (λ (n : ℤ). lt_z (pos 2147483647) n) (sym back) ∙ h)))

  -- and one that does not: the turn by the test of a limit
  inside : (z : Size) (t : Bool) → lt_z made (negsuc 2147483647) ≡ false → lt_z (pos 2147483647) made ≡ false → t ≡ is_limit (upper z) (lower z) (to_z w32 (of_z w32 y))
      → cond t (More (to_z w32 (of_z w32 made))) (Done (to_z w32 (of_z w32 made))) ≡ turn_of z x y
  inside z t h k e =
      let fits : SFits w32 (x +ℤ y) =
      record { sfits = in-32 (x +ℤ y) (ap (λ (n : ℤ). lt_z n (negsuc 2147483647)) (sym back) ∙ h) (ap (λ (n : ℤ). lt_z (pos 2147483647) n) (sym back) ∙ k) } in
      ap₂ (λ (n : ℤ) (l : Bool). cond l (More n) (Done n)) (ap (λ (n : ℤ). to_z w32 (of_z w32 n)) back ∙ to_z-of_z {w = w32} fits) (e ∙ ap (is_limit (upper z) (lower z)) (to_z-of_z {w = w32} g))
      ∙ sym (turn_inside z x y fits.sfits)

pub returns-then-t-ltminus2147483648 : goal.returns-then-t-ltminus2147483648
returns-then-t-ltminus2147483648 c =
    let a = c.args in
    elim c.then-t-ltminus2147483648.branch [
      | then-t-ltminus2147483648-via-then-t-ltminus2147483648 w ↦ below a.sum a.number c.from.result c.from-2.result c.ranges.sum c.ranges.number c.from.type_inv c.from-2.type_inv c.from.ensures c.from-2.ensures a.size w.if-t-ltminus2147483648.true
      | then-t-ltminus2147483648-via-else-t-ltminus2147483648+then-t-gt2147483647 w ↦ above a.sum a.number c.from.result c.from-2.result c.ranges.sum c.ranges.number c.from.type_inv c.from-2.type_inv c.from.ensures c.from-2.ensures a.size w.if-t-gt2147483647.true
    ]

pub returns-then-is_limit : goal.returns-then-is_limit
returns-then-is_limit c =
    let a = c.args in
    let e = inside a.sum a.number c.from.result c.from-2.result c.ranges.sum c.ranges.number c.from.type_inv c.from-2.type_inv c.from.ensures c.from-2.ensures a.size c.is_limit.result c.if-t-ltminus2147483648.false c.if-t-gt2147483647.false c.is_limit.ensures in
    rw c.if-is_limit.true at e

pub returns : goal.returns
returns c =
    let a = c.args in
    let e = inside a.sum a.number c.from.result c.from-2.result c.ranges.sum c.ranges.number c.from.type_inv c.from-2.type_inv c.from.ensures c.from-2.ensures a.size c.is_limit.result c.if-t-ltminus2147483648.false c.if-t-gt2147483647.false c.is_limit.ensures in
    rw c.if-is_limit.false at e
