-- Laws of a table of numbered words as bytes: a line and its end, a row that is looked at, and the words of the rows. Assumes nothing.
use Rattle.std.specs.Prelude.{◌≡◌, refl, Bool, cond, not, ◌&&◌, eqb, get_or, take, drop}
use Rattle.std.proofs.Math.Path.{sym, ap}
use Rattle.std.proofs.Common.{◌∙◌, length-drop, drop_of_length-le, drop-drop}
use Rattle.std.proofs.Math.Bool.{true, false}
use mathlib.Core.List.{List, [], ◌∷◌, ◌++◌}
use Prim.Native.Nat.{ℕ, suc, ◌+◌, ◌-◌, ◌<◌, ◌≤◌}
use native.Mathlib.Omega.{arith}
use Rattle.std.proofs.Math.Nat.{add-zero}
use Rattle.std.proofs.Math.ListN.{length}
use Rattle.std.proofs.Math.Seq.{drop-cons}
use borrow.Author.Tests.{eq-eqb, ne_eqb}
use Rattle.numbers.specs.Laws.Tests.{and_left, and_right}
use Rattle.meanings.specs.Meanings.{Meaning, text_in}
use Rattle.meanings.specs.Steps.{line_feed, rows_of, line_of, line_end, words_from, words_in}

-- Lines

module _ (s : List ℕ) (i : ℕ) (h : i < length s) where
  -- a line ends at its line feed
  pub line-here : get_or s i 0 ≡ line_feed → i ≡ line_end s i
  unfolding line_end line_of
  line-here e = rw (drop-cons s i 0 h, eq-eqb _ _ e, add-zero i)

  -- and not before it
  pub line-next : (get_or s i 0 ≡ line_feed → ⊥) → line_end s (i + 1) ≡ line_end s i
  unfolding line_end line_of
  line-next e =
      let n : i + 1 ≡ suc i = omega arith in
      rw (drop-cons s i 0 h, ne_eqb _ _ e, n) (omega arith)

-- or where the bytes end
pub line-last : (s : List ℕ) (i : ℕ) → length s ≤ i → i ≡ line_end s i
unfolding line_end line_of
line-last s i h = rw (drop_of_length-le s h, add-zero i)

line-few : (s : List ℕ) → length (line_of s) ≤ length s
unfolding line_of
line-few [] = omega arith
line-few (b ∷ s) = go (eqb b line_feed) (line-few s)
  where
    go : (t : Bool) → length (line_of s) ≤ length s → length (cond t [] (b ∷ line_of s)) ≤ suc (length s)
    go true h = omega arith
    go false h = omega arith

-- it ends among the bytes
pub line-inside : (s : List ℕ) (i : ℕ) → i ≤ length s → (i ≤ line_end s i) × (line_end s i ≤ length s)
unfolding line_end
line-inside s i h =
    let f = line-few (drop i s) in
    let d = length-drop i s in
    (omega arith, omega arith)

-- a line is the bytes up to its end
take-line : (s : List ℕ) → take (length (line_of s)) s ≡ line_of s
unfolding line_of
take-line [] = refl
take-line (b ∷ s) = go (eqb b line_feed) (take-line s)
  where
    go : (t : Bool) → take (length (line_of s)) s ≡ line_of s → take (length (cond t [] (b ∷ line_of s))) (b ∷ s) ≡ cond t [] (b ∷ line_of s)
    go true e = refl
    go false e = ap (λ (l : List ℕ). b ∷ l) e

-- Rows

-- inside a row, the next one begins after the line
next_row : (s : List ℕ) (n : ℕ) → words_from false s n ≡ words_from true (drop (suc (length (line_of s))) s) n
unfolding line_of words_from
next_row [] n = refl
next_row (b ∷ s) n = go (eqb b line_feed) (next_row s n)
  where
    go : (t : Bool) → words_from false s n ≡ words_from true (drop (suc (length (line_of s))) s) n → words_from t s n ≡ words_from true (drop (length (cond t [] (b ∷ line_of s))) s) n
    go true e = refl
    go false e = e

module _ (table : List ℕ) (n row : ℕ) where
  -- what is found from a row on
  abbrev pub from : List ℕ
  from = words_from true (drop row table) n

  -- nothing where no row is left
  pub words-none : length table ≤ row → [] ≡ from
  unfolding words_from
  words-none h = rw (drop_of_length-le table h)

  module _ {end : ℕ} (h : row < length table) (at : end ≡ line_end table (row + 1)) where
    -- the words of this row
    pub words-here : get_or table row 0 ≡ n → take (end - (row + 1)) (drop (row + 1) table) ≡ from
    unfolding line_end words_from
    words-here e =
        let next : row + 1 ≡ suc row = omega arith in
        let size : end - (row + 1) ≡ length (line_of (drop (row + 1) table)) = omega (arith, at) in
        rw (size, take-line (drop (row + 1) table), drop-cons table row 0 h, eq-eqb _ _ e, next)

    -- or what is found from the next row on
    pub words-next : (get_or table row 0 ≡ n → ⊥) → words_from true (drop (end + 1) table) n ≡ from
    unfolding line_end words_from
    words-next e =
        let next : row + 1 ≡ suc row = omega arith in
        let after : row + 1 + suc (length (line_of (drop (row + 1) table))) ≡ end + 1 = omega (arith, at) in
        let here : from ≡ words_from false (drop (row + 1) table) n = rw (drop-cons table row 0 h, ne_eqb _ _ e, next) in
        ap (λ (i : ℕ). words_from true (drop i table) n) (sym after) ∙ ap (λ (l : List ℕ). words_from true l n) (sym (drop-drop (suc (length (line_of (drop (row + 1) table)))) (row + 1) table)) ∙ sym (next_row (drop (row + 1) table) n) ∙ sym here

-- The bytes of rows

-- has a text no line feed?
abbrev pub is_line : List ℕ → Bool
is_line [] = true
is_line (b ∷ s) = not (eqb b line_feed) && is_line s

abbrev pub are_lines : List Meaning → Bool
are_lines [] = true
are_lines (m ∷ ms) = is_line m.text && are_lines ms

-- a text without a line feed is the line before one
line-of : (t r : List ℕ) → is_line t ≡ true → line_of (t ++ (line_feed ∷ r)) ≡ t
unfolding line_of
line-of [] r e = refl
line-of (b ∷ t) r e = go (eqb b line_feed) refl (line-of t r)
  where
    go : (test : Bool) → eqb b line_feed ≡ test → (is_line t ≡ true → line_of (t ++ (line_feed ∷ r)) ≡ t) → line_of (b ∷ (t ++ (line_feed ∷ r))) ≡ b ∷ t
    go true q more = let z : false ≡ true = (rw q at e) in cc
    go false q more = rw q (ap (λ (l : List ℕ). b ∷ l) (more (rw q at e)))

-- and inside it no row begins
inside-line : (t r : List ℕ) (n : ℕ) → is_line t ≡ true → words_from false (t ++ (line_feed ∷ r)) n ≡ words_from true r n
unfolding words_from
inside-line [] r n e = refl
inside-line (b ∷ t) r n e = go (eqb b line_feed) refl (inside-line t r n)
  where
    go : (test : Bool) → eqb b line_feed ≡ test → (is_line t ≡ true → words_from false (t ++ (line_feed ∷ r)) n ≡ words_from true r n) → words_from test (t ++ (line_feed ∷ r)) n ≡ words_from true r n
    go true q more = let z : false ≡ true = (rw q at e) in cc
    go false q more = more (rw q at e)

words-rows : (ms : List Meaning) (n : ℕ) → are_lines ms ≡ true → words_from true (rows_of ms) n ≡ text_in ms n
unfolding rows_of text_in words_from
words-rows [] n e = refl
words-rows (m ∷ ms) n e =
    let l = and_left (is_line m.text) (are_lines ms) e in
    rw (line-of m.text (rows_of ms) l, inside-line m.text (rows_of ms) n l, words-rows ms n (and_right (is_line m.text) (are_lines ms) e))

-- a table that is the bytes of rows has their words
pub table-words : {table : List ℕ} (ms : List Meaning) (n : ℕ) → table ≡ rows_of ms → are_lines ms ≡ true → words_in table n ≡ text_in ms n
unfolding words_in
table-words {table} ms n e l = ap (λ (t : List ℕ). words_from true t n) e ∙ words-rows ms n l
