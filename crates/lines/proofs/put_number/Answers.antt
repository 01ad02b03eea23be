-- The bits tell the sign and the size; the line feed comes after the text.
use mathlib.Core.Path.{◌≡◌, sym, ap, subst, ◌∙◌}
use mathlib.Core.List.{List, [], ◌∷◌, ◌++◌}
use Prim.Native.Nat.{ℕ, ◌+◌, ◌-◌, ◌<◌, ◌≤◌}
use mir.Syntax.{w32}
use mir.Val.{of_z}
use mir.Facts.{to_z-of_z}
use Rattle.text.specs.Laws.Put.{put-more, put_as}
use Rattle.lines.specs.Texts.{magnitude_text}
use Rattle.lines.specs.Laws.Texts.{number-positive, number-negative}
use Rattle.lines.proofs.put_number.Goals as goal

pub returns-then-bits-lt2147483648 : goal.returns-then-bits-lt2147483648
returns-then-bits-lt2147483648 c =
    let a = c.args in
    let f = c.ranges.number in
    let e : c.cast_unsigned-bits.result ≡ of_z w32 a.number = c.cast_unsigned-bits.ensures ∙ ap (of_z w32) (to_z-of_z {w = w32} f) in
    let h = subst (λ (n : ℕ). n < 0x8000_0000) e c.if-bits-lt2147483648.true in
    put_as (put-more c.put_magnitude-end.ensures c.put_byte.ensures)
    (ap (λ (l : List ℕ). l ++ (10 ∷ [])) (number-positive a.divisor a.number f h ∙ ap (magnitude_text a.divisor) (sym e)))

pub returns : goal.returns
returns c =
    let a = c.args in
    let f = c.ranges.number in
    let e : c.cast_unsigned-bits.result ≡ of_z w32 a.number = c.cast_unsigned-bits.ensures ∙ ap (of_z w32) (to_z-of_z {w = w32} f) in
    let h = subst (λ (n : ℕ). 0x8000_0000 ≤ n) e c.if-bits-lt2147483648.false in
    put_as (put-more (put-more c.put_byte-sign.ensures c.put_magnitude-end-2.ensures) c.put_byte-2.ensures)
    (ap (λ (l : List ℕ). l ++ (10 ∷ [])) (number-negative a.divisor a.number f h ∙ ap (λ (n : ℕ). (45 ∷ []) ++ magnitude_text a.divisor (0xffff_ffff - n + 1)) (sym e)))
