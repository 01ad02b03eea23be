-- Laws of writing a list's lines part by part: a turn stays inside the list, and leaves less of it. Assumes nothing.
use Rattle.std.specs.Prelude.{◌≡◌, List, ℕ, ◌+◌, ◌-◌, ◌*◌, ◌<◌, ◌≤◌, length, take, drop}
use Rattle.std.proofs.Common.{sym, arith, length-drop, length-take-le}
use Rattle.lines.specs.declared.Gathered.{Gathered}
use Rattle.lines.specs.Lines.{Lines, names_in}
use Rattle.lines.specs.Laws.Lines.{lines-most, lines-some, names-most}

-- what is left of a list from a place on
abbrev pub rest : {A : Type 0} → List A → ℕ → List A
rest xs from = take (length xs - from) (drop from xs)

pub rest-length : {A : Type 0} (xs : List A) (from : ℕ) → length (rest xs from) ≡ length xs - from
rest-length xs from = let d = length-drop from xs in length-take-le (length xs - from) (drop from xs) (omega arith)

pub turn-part : {A : Type 0} {text : A → List ℕ} {room : ℕ} {xs : List A} {old new : List ℕ} {r : Gathered} → Lines text room xs old new r → length new ≡ length old → r.bytes ≡ length (take r.bytes new)
turn-part {new = new} {r = r} h e = sym (length-take-le r.bytes new (omega (arith, h.inside)))

module _ {A : Type 0} {text : A → List ℕ} {room : ℕ} (xs : List A) (from : ℕ) {old new : List ℕ} {r : Gathered} (h : Lines text room (rest xs from) old new r) where
  pub turn_inside : from ≤ length xs → from + r.values ≤ length xs
  turn_inside k = let l = rest-length xs from in let m = lines-most h in omega arith

  pub turn-less : from < length xs → room ≤ length old → length xs - (from + r.values) < length xs - from
  turn-less k n =
      let l = rest-length xs from in
      let m = lines-most h in
      let s = lines-some h n (omega arith) in
      omega arith

-- names of a size that are lines stay inside what is there
module _ {text : List ℕ → List ℕ} {room : ℕ} (size : ℕ) (s : List ℕ) (from : ℕ) {old new : List ℕ} {r : Gathered} (h : Lines text room (names_in size (rest s from)) old new r) where
  pub step-inside : from ≤ length s → from + r.values * size ≤ length s
  step-inside k = let l = rest-length s from in let m = names-most size (rest s from) h in omega arith
