-- Laws of the meanings: which numbers have one, how long each is, and the cases of writing one. Assumes nothing.
use Rattle.std.specs.Prelude.{◌≡◌, Result, Ok, Err, Bool, cond, ◌&&◌, ◌||◌, ℕ, ◌<◌, ◌≤◌, eqb, leb, ltb, length, take}
use Rattle.std.proofs.Math.Path.{refl, subst}
use Rattle.std.proofs.Common.{sym, ap, ◌∙◌, arith}
use Rattle.std.proofs.Math.Bool.{true, false}
use mathlib.Core.List.{List, [], ◌∷◌}
use borrow.Author.Tests.{eqb-true, leb-true, ltb-true, le-leb, lt-leb}
use Rattle.refusal.proofs.Laws.Table.{Outcome}
use Rattle.refusal.specs.Outcome.{number_of}
use Rattle.refusal.specs.Table.{buffer_too_small, no_such_entry}
use Rattle.refusal.proofs.Laws.Table.{first_with, refusal_of, refusal_of-refusal_number}
use Rattle.refusal.proofs.Laws.Table as table
use Rattle.numbers.specs.Laws.Tests.{and_left, and_right}
use Rattle.text.specs.Put.{Put}
use Rattle.text.specs.Laws.Put.{put_all, put-page}
use Rattle.meanings.specs.Meanings.{Meaning, meanings, is_in, text_in, has_meaning, meaning_of, meaning_limit, meaning_answer, meaning_buffer}

-- Every number of the table of refusals has a meaning

abbrev all_have : List Outcome → Bool
all_have [] = true
all_have (r ∷ rs) = has_meaning (number_of r) && all_have rs

first-has : (n : ℕ) (rs : List Outcome) → all_have rs ≡ true → has_meaning (number_of (first_with n rs)) ≡ true
unfolding is_in meanings
first-has n [] e = refl
first-has n (r ∷ rs) e = go (eqb (number_of r) n) (and_left (has_meaning (number_of r)) (all_have rs) e) (first-has n rs (and_right (has_meaning (number_of r)) (all_have rs) e))
  where
    go : (t : Bool) → has_meaning (number_of r) ≡ true → has_meaning (number_of (first_with n rs)) ≡ true → has_meaning (number_of (cond t r (first_with n rs))) ≡ true
    go true here more = here
    go false here more = more

pub meaning-each : (r : Outcome) → has_meaning (number_of r) ≡ true
unfolding is_in meanings
meaning-each r = subst (λ (x : Outcome). has_meaning (number_of x) ≡ true) (refusal_of-refusal_number r) (first-has (number_of r) table.meanings refl)

-- What is true of every row

-- its text has 1 to 64 bytes, and its number is one of the table of refusals
abbrev is_right : Meaning → Bool
is_right m = ltb 0 (length m.text) && (leb (length m.text) meaning_limit && eqb (number_of (refusal_of m.number)) m.number)

abbrev are_right : List Meaning → Bool
are_right [] = true
are_right (m ∷ ms) = is_right m && are_right ms

rows_right : are_right meanings ≡ true
unfolding meanings
rows_right = refl

-- what is found of a number in rows: a text of 1 to 64 bytes of a number of the table, or nothing
record Found (n : ℕ) (has : Bool) (text : List ℕ) : Type 0 where
  few : length text ≤ meaning_limit
  some : has ≡ true → 0 < length text
  none : has ≡ false → text ≡ []
  only : has ≡ true → number_of (refusal_of n) ≡ n

clash : {A : Type 0} → false ≡ true → A
clash e = let z : ◌≡◌ {A = ℕ} 0 1 = cc in absurd (omega arith)

found_in : (n : ℕ) (ms : List Meaning) → are_right ms ≡ true → Found n (is_in ms n) (text_in ms n)
unfolding is_in text_in
found_in n [] e = record { few = omega arith; some = λ q. clash q; none = λ q. refl; only = λ q. clash q }
found_in n (m ∷ ms) e = go (eqb m.number n) refl (and_left (is_right m) (are_right ms) e) (found_in n ms (and_right (is_right m) (are_right ms) e))
  where
    go : (t : Bool) → eqb m.number n ≡ t → is_right m ≡ true → Found n (is_in ms n) (text_in ms n) → Found n (t || is_in ms n) (cond t m.text (text_in ms n))
    go true q here more =
        let size = and_right (ltb 0 (length m.text)) _ here in
        let number = eqb-true (number_of (refusal_of m.number)) m.number (and_right (leb (length m.text) meaning_limit) _ size) in
        record {
          few = leb-true (length m.text) meaning_limit (and_left (leb (length m.text) meaning_limit) _ size);
          some = λ p. ltb-true 0 (length m.text) (and_left (ltb 0 (length m.text)) _ here);
          none = λ p. clash (sym p);
          only = λ p. subst (λ (k : ℕ). number_of (refusal_of k) ≡ k) (eqb-true m.number n q) number;
        }
    go false q here more = more

found : (n : ℕ) → Found n (has_meaning n) (meaning_of n)
unfolding meaning_of
found n = found_in n meanings rows_right

-- no other number has a meaning
pub meaning-only : (n : ℕ) → has_meaning n ≡ true → number_of (refusal_of n) ≡ n
meaning-only n h = (found n).only h

-- the room is enough for every meaning
pub meaning-most : (n : ℕ) → length (meaning_of n) ≤ meaning_limit
meaning-most n = (found n).few

-- so that a buffer with that room is never too small
pub meaning-room : (n room : ℕ) → meaning_limit ≤ room → meaning_answer n room ≡ Err buffer_too_small → ⊥
unfolding meaning_answer
meaning-room n room l q = go (has_meaning n) refl
  where
    fits : leb (length (meaning_of n)) room ≡ true
    fits = let m = meaning-most n in le-leb (length (meaning_of n)) room (omega arith)

    go : (t : Bool) → has_meaning n ≡ t → ⊥
    go true e = let z : Ok (length (meaning_of n)) ≡ Err buffer_too_small = (rw (e, fits) at q) in let d : ◌≡◌ {A = ℕ} 0 1 = cc in absurd (omega arith)
    go false e = let z : Err no_such_entry ≡ Err buffer_too_small = (rw e at q) in let d : ◌≡◌ {A = ℕ} no_such_entry buffer_too_small = cc in absurd (omega arith)

-- The cases of writing

-- a page with a meaning on it: its end, and the bytes up to there
pub page-holds : {old new : List ℕ} {next : ℕ} (n : ℕ) → length old ≡ meaning_limit → Put old 0 (meaning_of n) new next → (next ≡ length (meaning_of n)) × (take next new ≡ meaning_of n)
page-holds {old} {new} {next} n l p = let m = meaning-most n in put-page p (omega arith)

module _ (n : ℕ) (buffer : List ℕ) where
  -- what writing answers and leaves
  abbrev pub Wrote : Result ℕ ℕ → List ℕ → Type 0
  Wrote answer new = (answer ≡ meaning_answer n (length buffer)) × (new ≡ meaning_buffer n buffer)

  -- no such number
  pub wrote-28 : length (meaning_of n) ≡ 0 → Wrote (Err no_such_entry) buffer
  unfolding meaning_answer meaning_buffer
  wrote-28 z = go (has_meaning n) refl
    where
      go : (t : Bool) → has_meaning n ≡ t → Wrote (Err no_such_entry) buffer
      go true e = let s = (found n).some e in absurd (omega arith)
      go false e = (rw e, rw e)

  module _ (h : 0 < length (meaning_of n)) where
    has : has_meaning n ≡ true
    has = go (has_meaning n) refl
      where
        go : (t : Bool) → has_meaning n ≡ t → has_meaning n ≡ true
        go true e = e
        go false e = absurd (omega (arith, ap length ((found n).none e)))

    -- too little room
    pub wrote-25 : length buffer < length (meaning_of n) → Wrote (Err buffer_too_small) buffer
    unfolding meaning_answer meaning_buffer
    wrote-25 l = let t = lt-leb (length (meaning_of n)) (length buffer) l in (rw (has, t), rw (has, t))

    -- room enough
    pub wrote-all : {new page : List ℕ} {next : ℕ} → length (meaning_of n) ≤ length buffer → page ≡ meaning_of n → Put buffer 0 page new next → Wrote (Ok (length (meaning_of n))) new
    unfolding meaning_answer meaning_buffer
    wrote-all {new} {page} {next} l e p =
        let t = le-leb (length (meaning_of n)) (length buffer) l in
        let q = subst (λ (x : List ℕ). Put buffer 0 x new next) e p in
        (rw (has, t), (put_all q l).1 ∙ rw (has, t))
