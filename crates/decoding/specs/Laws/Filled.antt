-- Laws of a part of a buffer that is filled with one value. Assumes nothing.
use Rattle.std.specs.Prelude.{◌≡◌, List, ◌++◌, ℕ, ◌+◌, ◌-◌, ◌≤◌, length, take, drop, replicate}
use Rattle.std.proofs.Common.{ap, ◌∙◌, arith, drop-drop, length-drop, length-take-le}
use Rattle.std.proofs.lemmas.List.{length-replicate}
use borrow.Rule.Slice.PartMut.{put_mid}
use Rattle.payloads.specs.Results.{paste}

-- the n elements from a place on
pub part-filled : {B : Type 0} (b : B) (old part : List B) (o e n : ℕ) → e ≡ o + n → e ≤ length old → part ≡ replicate (length (take (e - o) (drop o old))) b → put_mid o (e - o) old part ≡ paste old o (replicate n b)
part-filled b old part o e n q h p =
    let d = length-drop o old in
    let k : e - o ≡ n = omega arith in
    let l : length (take (e - o) (drop o old)) ≡ n = length-take-le (e - o) (drop o old) (omega arith) ∙ k in
    let f : part ≡ replicate n b = p ∙ ap (λ (i : ℕ). replicate i b) l in
    let r : drop (e - o) (drop o old) ≡ drop (o + length (replicate n b)) old = drop-drop (e - o) o old ∙ ap (λ (i : ℕ). drop i old) (let z = length-replicate n b in let y : o + (e - o) ≡ o + length (replicate n b) = omega arith in y) in
    ap (λ (i : List _). take o old ++ (i ++ drop (e - o) (drop o old))) f ∙ ap (λ (i : List _). take o old ++ (replicate n b ++ i)) r
