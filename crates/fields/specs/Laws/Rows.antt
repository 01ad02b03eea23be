-- Rows whose names are different, and one entry more, whose key is new.
-- Assumes nothing.
use Rattle.std.proofs.Math.Path.{◌≡◌, refl}
use Rattle.std.proofs.Common.{ap, ◌∙◌, arith}
use Rattle.std.specs.Prelude.{Bool, not, ◌&&◌, eqb, length}
use Rattle.std.proofs.Math.Bool.{true, false, cond}
use mathlib.Core.List.{List, ◌∷◌}
use Rattle.std.proofs.Math.Option.{some, none as nothing}
use Prim.Native.Nat.{ℕ, zero, suc, ◌<◌}
use Rattle.std.proofs.Math.Dec.{eqb-zero-suc, eqb-suc-zero, eqb-suc-suc}
use Rattle.std.proofs.Math.ListN.{set}
use Rattle.numbers.specs.Laws.Tests.{clash, and_left, and_right}
use Rattle.text.specs.Equal.{equal}
use Rattle.text.specs.Laws.Equal.{equal-true}
use Rattle.messagepack.specs.Document.{Document, Entries, empty, entry}
use Rattle.messagepack.specs.Rules.{NoKey}
use Rattle.values.specs.Parts.{look}
use Rattle.values.specs.Laws.Parts.{look_none}
use Rattle.fields.specs.Types.{Rows, last, row}
use Rattle.fields.specs.Tests.{is_there, on_value, typed, fitting}
use Rattle.fields.specs.Fields.{set_of, present, find_row, row_count, row_value}
use Rattle.fields.specs.Numbers.{row_test, new_name, distinct_names, marked}
use Rattle.fields.specs.Laws.Sets.{set-marked}

pub present-length : (rows : Rows) (es : Entries) → length (present rows es) ≡ row_count rows
unfolding present row_count
present-length last es = refl
present-length (row k q t rows) es = ap suc (present-length rows es)

-- no entry asks nothing of the rows
pub fitting-none : (rows : Rows) → fitting rows empty ≡ true
unfolding fitting look
fitting-none last = refl
fitting-none (row k q t rows) = fitting-none rows

-- an entry with a key that is none of the names

not-false : (b : Bool) → not b ≡ true → b ≡ false
not-false true e = clash e
not-false false e = refl

module _ (k : List ℕ) (x : Document) (es : Entries) where
  fitting-other : (rows : Rows) → new_name k rows ≡ true → fitting rows (entry k x es) ≡ fitting rows es
  unfolding fitting new_name look
  fitting-other last h = refl
  fitting-other (row l q t rows) h = rw (not-false (equal k l) (and_left (not (equal k l)) (new_name k rows) h), fitting-other rows (and_right (not (equal k l)) (new_name k rows) h))

  present-other : (rows : Rows) → new_name k rows ≡ true → present rows (entry k x es) ≡ present rows es
  unfolding present new_name look
  present-other last h = refl
  present-other (row l q t rows) h = rw (not-false (equal k l) (and_left (not (equal k l)) (new_name k rows) h), present-other rows (and_right (not (equal k l)) (new_name k rows) h))

  value_of-other : (i : ℕ) (rows : Rows) → new_name k rows ≡ true → row_value i rows (entry k x es) ≡ row_value i rows es
  unfolding row_value new_name look
  value_of-other i last h = refl
  value_of-other zero (row l q t rows) h = rw (not-false (equal k l) (and_left (not (equal k l)) (new_name k rows) h))
  value_of-other (suc i) (row l q t rows) h = value_of-other i rows (and_right (not (equal k l)) (new_name k rows) h)

swap : (a b c : Bool) → a && (b && c) ≡ b && (a && c)
swap true b c = refl
swap false true c = refl
swap false false c = refl

module _ (k : List ℕ) (x : Document) (es : Entries) where
  -- each named key has its type: the first one has, and the rest
  pub fitting-entry : (rows : Rows) → distinct_names rows ≡ true → NoKey k es → fitting rows (entry k x es) ≡ (row_test (find_row k rows) rows x && fitting rows es)
  unfolding fitting distinct_names look find_row row_test
  fitting-entry last d f = refl
  fitting-entry (row l q t rows) d f = go (equal k l) refl (fitting-entry rows (and_right (new_name l rows) (distinct_names rows) d) f)
    where
      go : (b : Bool) → equal k l ≡ b → fitting rows (entry k x es) ≡ (row_test (find_row k rows) rows x && fitting rows es) → (on_value (cond b (some x) (look l es)) (λ y. typed t y) && fitting rows (entry k x es)) ≡ (row_test (cond b 0 (suc (find_row k rows))) (row l q t rows) x && (on_value (look l es) (λ y. typed t y) && fitting rows es))
      go true e rest =
          let p : k ≡ l = equal-true k l e in
          let n : look l es ≡ nothing = look_none l es (rw p at f) in
          let o : new_name k rows ≡ true = rw p (and_left (new_name l rows) (distinct_names rows) d) in
          rw (n, fitting-other k x es rows o)
      go false e rest = rw rest (swap (on_value (look l es) (λ y. typed t y)) (row_test (find_row k rows) rows x) (fitting rows es))

  -- the keys that are there: the first one besides
  pub present-entry : (rows : Rows) → distinct_names rows ≡ true → present rows (entry k x es) ≡ set (present rows es) (find_row k rows) true
  unfolding present distinct_names look find_row
  present-entry last d = refl
  present-entry (row l q t rows) d = go (equal k l) refl (present-entry rows (and_right (new_name l rows) (distinct_names rows) d))
    where
      go : (b : Bool) → equal k l ≡ b → present rows (entry k x es) ≡ set (present rows es) (find_row k rows) true → ◌≡◌ {A = List Bool} (is_there (cond b (some x) (look l es)) ∷ present rows (entry k x es)) (set (is_there (look l es) ∷ present rows es) (cond b 0 (suc (find_row k rows))) true)
      go true e rest =
          let p : k ≡ l = equal-true k l e in
          let o : new_name k rows ≡ true = rw p (and_left (new_name l rows) (distinct_names rows) d) in
          rw (present-other k x es rows o)
      go false e rest = rw rest

  pub present-marked : (rows : Rows) → distinct_names rows ≡ true → set_of (present rows (entry k x es)) ≡ marked (row_count rows) (set_of (present rows es)) (find_row k rows)
  present-marked rows d = ap set_of (present-entry rows d) ∙ set-marked (present rows es) (find_row k rows) (row_count rows) (present-length rows es)

  -- the values of the rows: one is the first entry's
  pub value_of-entry : (i : ℕ) (rows : Rows) → distinct_names rows ≡ true → i < row_count rows → row_value i rows (entry k x es) ≡ cond (eqb i (find_row k rows)) (some x) (row_value i rows es)
  unfolding row_value distinct_names look find_row row_count
  value_of-entry i last d lt = absurd (omega arith)
  value_of-entry zero (row l q t rows) d lt = go (equal k l) refl
    where
      go : (b : Bool) → equal k l ≡ b → cond b (some x) (look l es) ≡ cond (eqb 0 (cond b 0 (suc (find_row k rows)))) (some x) (look l es)
      go true e = refl
      go false e = rw eqb-zero-suc
  value_of-entry (suc i) (row l q t rows) d lt = go (equal k l) refl (value_of-entry i rows (and_right (new_name l rows) (distinct_names rows) d) (omega arith))
    where
      go : (b : Bool) → equal k l ≡ b → row_value i rows (entry k x es) ≡ cond (eqb i (find_row k rows)) (some x) (row_value i rows es) → row_value i rows (entry k x es) ≡ cond (eqb (suc i) (cond b 0 (suc (find_row k rows)))) (some x) (row_value i rows es)
      go true e rest =
          let p : k ≡ l = equal-true k l e in
          let o : new_name k rows ≡ true = rw p (and_left (new_name l rows) (distinct_names rows) d) in
          rw eqb-suc-zero (value_of-other k x es i rows o)
      go false e rest = rw eqb-suc-suc rest
