-- The whole digits, the point, and the places after it.
use mathlib.Core.Path.{◌≡◌, ap, ◌∙◌}
use mathlib.Core.List.{[], ◌∷◌, ◌++◌}
use Prim.Native.Nat.{ℕ, ◌+◌, ◌-◌, ◌≤◌}
use native.Mathlib.Omega.{arith}
use lib.ListN.{length, take, drop, length-drop}
use lib.Seq.{take_all}
use Rattle.text.specs.Laws.Put.{put-more, put_as}
use Rattle.lines.specs.Figures.{glyphs, trimmed}
use Rattle.lines.specs.Laws.Decimals.{scaled-text}
use Rattle.lines.proofs.exact.put_scaled.Goals as goal

pub returns : goal.returns
returns c n e b =
    let row = c.args.row.now in
    let k = c.args.k in
    let t = c.whole_count.result in
    let l = length-drop k row in
    let all : length (drop k row) ≤ length row - k = omega arith in
    let whole = rw (take_all (length row - k) (drop k row) all) at c.whole_count.ensures.text in
    let q : t ≡ k + t - k = omega arith in
    put_as (put-more (put-more c.put_row-point.ensures c.put_byte-first.ensures) c.put_places.ensures)
    (scaled-text row k t n e b whole ∙ ap (λ (j : ℕ). (glyphs (take j (drop k row)) ++ (46 ∷ [])) ++ trimmed (take k row)) q)
