-- Sets as numbers, one bit for each.
-- Assumes nothing.
use Rattle.std.specs.Prelude.{◌≡◌, refl, Bool, true, false, cond, not, ◌||◌, List, [], ◌∷◌, ℕ, zero, suc, ◌+◌, ◌*◌, ◌/◌, ◌%◌, ◌^◌, ◌<◌, ◌≤◌, max, eqb, ltb, length, set}
use Rattle.std.proofs.Common.{sym, ap, ap₂, ◌∙◌, arith, pow-suc, ltb-true, ltb-false}
use Rattle.std.proofs.Math.Arith.{bin_ind}
use Rattle.std.specs.Int.Bits.{bit_or, or_step, or_zero_r}
use Rattle.std.proofs.lemmas.Nat.{or_shr, or_comm}
use Rattle.std.specs.Int.Count.{ones, ones_step}
use Rattle.std.proofs.Math.Seq.{set_out}
use Rattle.numbers.specs.Laws.Tests.{clash, and_left, and_right}
use Rattle.messagepack.specs.Document.{Entries, empty}
use Rattle.values.specs.Parts.{look}
use Rattle.fields.specs.Types.{Rows, last, row}
use Rattle.fields.specs.Tests.{is_there, have}
use Rattle.fields.specs.Table.{named, field_count, required_fields}
use Rattle.fields.specs.Fields.{bit, set_of, member_count, present, presence_of, present_count, row_count}
use Rattle.fields.specs.Numbers.{covered, marked}

-- the union of sets

odd-or : (a b : ℕ) → bit_or a b % 2 ≡ max (a % 2) (b % 2)
odd-or a b = let s = or_step a b in omega arith

pub or_assoc : (a b c : ℕ) → bit_or (bit_or a b) c ≡ bit_or a (bit_or b c)
or_assoc = bin_ind (λ (a : ℕ). (b c : ℕ) → bit_or (bit_or a b) c ≡ bit_or a (bit_or b c)) (λ b c. refl) step
  where
    step : (a : ℕ) → ((b c : ℕ) → bit_or (bit_or (a / 2) b) c ≡ bit_or (a / 2) (bit_or b c)) → (b c : ℕ) → bit_or (bit_or a b) c ≡ bit_or a (bit_or b c)
    step a ih b c =
        let h : bit_or a b / 2 ≡ bit_or (a / 2) (b / 2) = or_shr a b 1 in
        let k : bit_or b c / 2 ≡ bit_or (b / 2) (c / 2) = or_shr b c 1 in
        let m : max (max (a % 2) (b % 2)) (c % 2) ≡ max (a % 2) (max (b % 2) (c % 2)) = omega arith in
        or_step (bit_or a b) c ∙ ap₂ (λ (x y : ℕ). bit_or x (c / 2) * 2 + max y (c % 2)) h (odd-or a b) ∙ ap₂ (λ (x y : ℕ). x * 2 + y) (ih (b / 2) (c / 2)) m
        ∙ sym (or_step a (bit_or b c) ∙ ap₂ (λ (x y : ℕ). bit_or (a / 2) x * 2 + max (a % 2) y) k (odd-or b c))

-- what comes in later may come in first
pub or_later : (a b c : ℕ) → bit_or a (bit_or b c) ≡ bit_or (bit_or a c) b
or_later a b c = ap (λ (x : ℕ). bit_or a x) (or_comm b c) ∙ sym (or_assoc a c b)

-- a set of a list: its lowest bit, and the others

bit_below : (b : Bool) → bit b < 2
bit_below true = omega arith
bit_below false = omega arith

set-half : (b : Bool) (n : ℕ) → (bit b + n * 2) / 2 ≡ n
set-half b n = let h = bit_below b in omega arith

set-odd : (b : Bool) (n : ℕ) → (bit b + n * 2) % 2 ≡ bit b
set-odd b n = let h = bit_below b in omega arith

-- how many are in it

ones_none : ones 0 ≡ 0
unfolding ones
ones_none = refl

pub ones-set_of : (bs : List Bool) → ones (set_of bs) ≡ member_count bs
unfolding set_of member_count
ones-set_of [] = ones_none
ones-set_of (b ∷ bs) = ones_step (bit b + set_of bs * 2) ∙ ap₂ (λ (x y : ℕ). x + ones y) (set-odd b (set_of bs)) (set-half b (set_of bs)) ∙ ap (λ (x : ℕ). bit b + x) (ones-set_of bs)

pub ones-presence : (es : Entries) → ones (presence_of es) ≡ present_count es
unfolding presence_of present_count
ones-presence es = ones-set_of (present named es)

-- at most as many as there are rows, and at least the required ones where they are there

bit-most : (b : Bool) → bit b ≤ 1
bit-most true = omega arith
bit-most false = omega arith

count_most : (rows : Rows) (es : Entries) → member_count (present rows es) ≤ row_count rows
unfolding present member_count row_count
count_most last es = omega arith
count_most (row k q t rows) es = omega (arith, bit-most (is_there (look k es)), count_most rows es)

required_count : Rows → ℕ
required_count last = 0
required_count (row k q t rows) = bit q + required_count rows

bit-least : (q b : Bool) → not q || b ≡ true → bit q ≤ bit b
bit-least true true h = omega arith
bit-least true false h = clash h
bit-least false b h = omega arith

count-least : (rows : Rows) (es : Entries) → have rows es ≡ true → required_count rows ≤ member_count (present rows es)
unfolding present member_count have required_count
count-least last es h = omega arith
count-least (row k q t rows) es h =
    let here = bit-least q (is_there (look k es)) (and_left (not q || is_there (look k es)) (have rows es) h) in
    omega (arith, count-least rows es (and_right (not q || is_there (look k es)) (have rows es) h))

pub present-most : (es : Entries) → present_count es ≤ field_count
unfolding present_count named row_count
present-most es = count_most named es

pub present-least : (es : Entries) → have named es ≡ true → required_fields ≤ present_count es
unfolding present_count named required_count
present-least es h = count-least named es h

-- one more in it

max-one : (b : Bool) → max (bit b) 1 ≡ 1
max-one true = refl
max-one false = refl

max_none : (b : Bool) → max (bit b) 0 ≡ bit b
max_none true = refl
max_none false = refl

or-one : (bs : List Bool) (i : ℕ) → i < length bs → bit_or (set_of bs) (2 ^ i) ≡ set_of (set bs i true)
unfolding set_of
or-one [] i h = absurd (omega arith)
or-one (b ∷ bs) zero h = or_step (bit b + set_of bs * 2) 1 ∙ rw (set-half b (set_of bs), set-odd b (set_of bs), or_zero_r (set_of bs), max-one b) (omega arith)
or-one (b ∷ bs) (suc i) h =
    let p = pow-suc 2 i in
    let e : 2 ^ suc i / 2 ≡ 2 ^ i = omega arith in
    let z : 2 ^ suc i % 2 ≡ 0 = omega arith in
    or_step (bit b + set_of bs * 2) (2 ^ suc i) ∙ rw (set-half b (set_of bs), set-odd b (set_of bs), e, z, max_none b, or-one bs i (omega arith)) (omega arith)

pub set-marked : (bs : List Bool) (i n : ℕ) → length bs ≡ n → set_of (set bs i true) ≡ marked n (set_of bs) i
set-marked bs i n l = go (ltb i n) refl
  where
    go : (t : Bool) → ltb i n ≡ t → set_of (set bs i true) ≡ cond t (bit_or (set_of bs) (2 ^ i)) (set_of bs)
    go true e = sym (or-one bs i (omega (arith, ltb-true i n e)))
    go false e = ap set_of (set_out bs i true (omega (arith, ltb-false i n e)))

-- nothing is in the set of no entries

pub present-none : (rows : Rows) → set_of (present rows empty) ≡ 0
unfolding set_of present look
present-none last = refl
present-none (row k q t rows) = rw (present-none rows)

-- the required rows are covered exactly when each required key is there

bit-one : (b : Bool) → eqb (bit b) 1 ≡ b
bit-one true = refl
bit-one false = refl

pub covered-have : (rows : Rows) (es : Entries) → covered rows (set_of (present rows es)) ≡ have rows es
unfolding covered have present set_of
covered-have last es = refl
covered-have (row k q t rows) es = rw (set-odd (is_there (look k es)) (set_of (present rows es)), set-half (is_there (look k es)) (set_of (present rows es)), bit-one (is_there (look k es)), covered-have rows es)
