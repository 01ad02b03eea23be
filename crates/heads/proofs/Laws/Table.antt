-- The tables of lead bytes: their rows, and that kind and head by it are those of the lead-byte rule.
-- Assumes nothing.
use Rattle.std.specs.Prelude.{◌≡◌, Option, None, Bool, ◌&&◌, ◌||◌, List, [], ◌∷◌, eqb, length}
use Rattle.std.proofs.Math.Path.{refl}
use Rattle.std.proofs.Common.{sym, ap, subst, ◌∙◌, arith, add-zero, zero-add, add-suc, suc-add, le_of_suc-le-suc, not-suc-le-zero, ext_get_or, leb-true, eqb-true, ltb-true, ltb-false, lt-ltb, le-ltb}
use Rattle.std.proofs.Math.Bool.{true, false, cond}
use Prim.Native.Nat.{ℕ, zero, suc, ◌+◌, ◌-◌, ◌*◌, ◌/◌, ◌%◌, ◌<◌, ◌≤◌}
use Rattle.std.proofs.Math.Nat.{sub-zero}
use Rattle.std.proofs.Math.Arith.{digits_div, digits_mod}
use Rattle.std.proofs.Math.Dec.{ltb, leb}
use Rattle.std.proofs.Math.ListN.{get_or}
use Rattle.numbers.specs.BigEndian.{Bytes}
use Rattle.numbers.specs.Laws.BigEndian.{unsigned_at-in, byte_at}
use Rattle.heads.specs.Lead.{Row, row, lead_bytes, in_row, row_in, kind_of, more_of, held_by}
use Rattle.heads.specs.Head.{kind_at, head_number, some_head, head_from, head_at}
use Rattle.heads.specs.Table.{kind_cell, kind_from, values_from, kind_table, size_table, lead_table, kind_by, sized_number, sized_head, head_by}
use Rattle.heads.specs.declared.Kind.{Kind}
use Rattle.heads.specs.declared.Head.{Head}

-- rows that are the values of a function

rows-from : (f : ℕ → ℕ) (i n k : ℕ) → k < n → get_or (values_from f i n) k 0 ≡ f (i + k)
rows-from f i zero k h = absurd (not-suc-le-zero h)
rows-from f i (suc n) zero h = ap f (sym (add-zero i))
rows-from f i (suc n) (suc k) h = rows-from f (suc i) n k (le_of_suc-le-suc h) ∙ ap f (suc-add i k ∙ sym (add-suc i k))

-- the row at k is the value at k
pub rows_at : (f : ℕ → ℕ) (n k : ℕ) → k < n → get_or (values_from f 0 n) k 0 ≡ f k
rows_at f n k h = rows-from f 0 n k h ∙ ap f (zero-add k)

-- as many rows as are asked for
pub values_length : (f : ℕ → ℕ) (i n : ℕ) → length (values_from f i n) ≡ n
values_length f i zero = refl
values_length f i (suc n) = ap suc (values_length f (suc i) n)

-- what each row of lead bytes passes, and the row for none, the row of any byte passes
abbrev every : (Row → Bool) → List Row → Bool
every test [] = true
every test (r ∷ rs) = test r && every test rs

row-passes : (test : Row → Bool) (b : ℕ) (rs : List Row) → test (row b b Kind.Outside 0) ≡ true → every test rs ≡ true → test (row_in b rs) ≡ true
row-passes test b [] o h = o
row-passes test b (r ∷ rs) o h = go (test r) refl (in_row b r) h (row-passes test b rs o)
  where
    go : (t : Bool) → test r ≡ t → (c : Bool) → t && every test rs ≡ true → (every test rs ≡ true → test (row_in b rs) ≡ true) → test (cond c r (row_in b rs)) ≡ true
    go true e true k rest = e
    go true e false k rest = rest k
    go false e c k rest = let z : ◌≡◌ {A = ℕ} 0 1 = cc in absurd (omega arith)

ranges : ℕ → ℕ
ranges b = cond (ltb b 0x80) b (cond (ltb b 0xa0) (b % 16) (cond (ltb b 0xc0) (b % 32) (cond (ltb b 0xe0) 0 (b % 32))))

-- computed over all 256 rows
held-table : values_from held_by 0 256 ≡ values_from ranges 0 256
unfolding held_by ranges
held-table = refl

-- at most four bytes follow a lead byte
pub more_of-bound : (b : ℕ) → more_of b ≤ 4
unfolding more_of
more_of-bound b = leb-true _ 4 (row-passes (λ r. leb r.more 4) b lead_bytes refl refl)

-- more than two are four
pub more_of-four : (b : ℕ) → 2 < more_of b → more_of b ≡ 4
unfolding more_of
more_of-four b h = go (leb (row_in b lead_bytes).more 2) refl (row-passes (λ r. leb r.more 2 || eqb r.more 4) b lead_bytes refl refl)
  where
    go : (t : Bool) → leb (row_in b lead_bytes).more 2 ≡ t → t || eqb (row_in b lead_bytes).more 4 ≡ true → (row_in b lead_bytes).more ≡ 4
    go true e k = absurd (omega (arith, leb-true (row_in b lead_bytes).more 2 e))
    go false e k = eqb-true (row_in b lead_bytes).more 4 k

abbrev present : Kind → Bool
present Kind.Missing = false
present Kind.Outside = true
present Kind.Unsigned = true
present Kind.Signed = true
present Kind.Float = true
present Kind.Str = true
present Kind.Bin = true
present Kind.Array = true
present Kind.Map = true

number-kind : (k : Kind) → present k ≡ true → kind_from (kind_cell k) ≡ k
number-kind Kind.Missing h = let z : ◌≡◌ {A = ℕ} 0 1 = cc in absurd (omega arith)
number-kind Kind.Outside h = refl
number-kind Kind.Unsigned h = refl
number-kind Kind.Signed h = refl
number-kind Kind.Float h = refl
number-kind Kind.Str h = refl
number-kind Kind.Bin h = refl
number-kind Kind.Array h = refl
number-kind Kind.Map h = refl

kind-named : (b : ℕ) → kind_from (kind_cell (kind_of b)) ≡ kind_of b
unfolding kind_of
kind-named b = number-kind _ (row-passes (λ r. present r.kind) b lead_bytes refl refl)

-- what two functions have in common, shown by computing both over a range
values_agree : (f g : ℕ → ℕ) (i n : ℕ) → values_from f i n ≡ values_from g i n → (b : ℕ) → i ≤ b → b < i + n → f b ≡ g b
values_agree f g i n e b l h =
    let k : i + (b - i) ≡ b = omega arith in
    let lt : b - i < n = omega arith in
    ap f (sym k) ∙ sym (rows-from f i n (b - i) lt) ∙ ap (λ (v : List ℕ). get_or v (b - i) 0) e ∙ rows-from g i n (b - i) lt ∙ ap g k

-- a lead byte whose number is in it: its kind, that no bytes follow, and what it holds
pub record Alone (k : Kind) (b n : ℕ) : Type 0 where
  pub kind : kind_of b ≡ k
  pub more : more_of b ≡ 0
  pub held : held_by b ≡ n

-- the n lead bytes from i on, of one kind, hold their places among them
alone_among : (k : Kind) (i n : ℕ) → kind_from (kind_cell k) ≡ k → values_from (λ j. kind_cell (kind_of j)) i n ≡ values_from (λ j. kind_cell k) i n → values_from more_of i n ≡ values_from (λ j. 0) i n → values_from held_by i n ≡ values_from (λ j. j - i) i n → (b : ℕ) → i ≤ b → b < i + n → Alone k b (b - i)
alone_among k i n named kinds mores helds b l h = record {
  kind = sym (kind-named b) ∙ ap kind_from (values_agree (λ j. kind_cell (kind_of j)) (λ j. kind_cell k) i n kinds b l h) ∙ named;
  more = values_agree more_of (λ j. 0) i n mores b l h;
  held = values_agree held_by (λ j. j - i) i n helds b l h;
}

-- the lead bytes 00 to 7f
pub low-lead : (b : ℕ) → b < 0x80 → Alone Kind.Unsigned b b
unfolding kind_of more_of held_by
low-lead b h = subst (Alone Kind.Unsigned b) (sub-zero b) (alone_among Kind.Unsigned 0 0x80 refl refl refl refl b (omega arith) (omega arith))

-- the lead bytes 80 to 8f
pub map-lead : (b : ℕ) → 0x80 ≤ b → b < 0x90 → Alone Kind.Map b (b - 0x80)
unfolding kind_of more_of held_by
map-lead b l h = alone_among Kind.Map 0x80 16 refl refl refl refl b l (omega arith)

-- the lead bytes 90 to 9f
pub array-lead : (b : ℕ) → 0x90 ≤ b → b < 0xa0 → Alone Kind.Array b (b - 0x90)
unfolding kind_of more_of held_by
array-lead b l h = alone_among Kind.Array 0x90 16 refl refl refl refl b l (omega arith)

-- the lead bytes a0 to bf
pub string-lead : (b : ℕ) → 0xa0 ≤ b → b < 0xc0 → Alone Kind.Str b (b - 0xa0)
unfolding kind_of more_of held_by
string-lead b l h = alone_among Kind.Str 0xa0 32 refl refl refl refl b l (omega arith)

-- the tables of lead bytes, row by row

module _ (b : ℕ) (byte : b < 256) where
  kinds-row : get_or kind_table b 0 ≡ kind_cell (kind_of b)
  unfolding kind_table
  kinds-row = rows_at (λ i. kind_cell (kind_of i)) 256 b byte

  sizes-row : get_or size_table b 0 ≡ more_of b + 1
  unfolding size_table
  sizes-row = rows_at (λ i. more_of i + 1) 256 b byte

  -- kinds are at most 7 and head sizes at most 5, so that a row of both is a byte
  pub kinds-bound : get_or kind_table b 0 ≤ 7
  unfolding kind_of
  kinds-bound = rw kinds-row (leb-true _ 7 (row-passes (λ r. leb (kind_cell r.kind) 7) b lead_bytes refl refl))

  pub sizes-bound : get_or size_table b 0 ≤ 5
  sizes-bound = omega (arith, sizes-row, more_of-bound b)

  -- a row of the table of lead bytes, by the two tables
  leads-row : get_or lead_table b 0 ≡ get_or kind_table b 0 * 8 + get_or size_table b 0
  unfolding lead_table
  leads-row = rows_at (λ i. get_or kind_table i 0 * 8 + get_or size_table i 0) 256 b byte

  -- a row of the table of lead bytes, by the lead-byte rule: eight times its kind's number, plus the size of its head
  pub row_is : get_or lead_table b 0 ≡ kind_cell (kind_of b) * 8 + (more_of b + 1)
  row_is = leads-row ∙ rw (kinds-row, sizes-row)

  row-kind : kind_from (get_or lead_table b 0 / 8) ≡ kind_of b
  row-kind =
      let q : (kind_cell (kind_of b) * 8 + (more_of b + 1)) / 8 ≡ kind_cell (kind_of b) = digits_div (kind_cell (kind_of b)) (omega (arith, more_of-bound b)) in
      rw (row_is, q) (kind-named b)

  row-size : get_or lead_table b 0 % 8 ≡ more_of b + 1
  row-size = rw row_is (digits_mod (kind_cell (kind_of b)) (omega (arith, more_of-bound b)))

  -- a row of the table of lead bytes gives what the two tables have
  pub kinds-leads : get_or lead_table b 0 / 8 ≡ get_or kind_table b 0
  kinds-leads = rw leads-row (digits_div (get_or kind_table b 0) (omega (arith, sizes-bound)))

  pub sizes-leads : get_or lead_table b 0 % 8 ≡ get_or size_table b 0
  sizes-leads = rw leads-row (digits_mod (get_or kind_table b 0) (omega (arith, sizes-bound)))

-- 256 rows that are packed from the two tables are the table of lead bytes
pub leads-packed : (rows : List ℕ) → length rows ≡ 256 → ((k : ℕ) → k < 256 → get_or rows k 0 ≡ get_or kind_table k 0 * 8 + get_or size_table k 0) → rows ≡ lead_table
unfolding lead_table
leads-packed rows long h =
    ext_get_or 0 rows lead_table (long ∙ sym (values_length (λ b. get_or kind_table b 0 * 8 + get_or size_table b 0) 0 256))
    (λ k lt. h k (omega arith) ∙ sym (leads-row k (omega arith)))

-- what a lead byte holds, in ranges
pub held-ranges : (b : ℕ) → b < 256 → held_by b ≡ cond (ltb b 0x80) b (cond (ltb b 0xa0) (b % 16) (cond (ltb b 0xc0) (b % 32) (cond (ltb b 0xe0) 0 (b % 32))))
unfolding ranges
held-ranges b h = sym (rows_at held_by 256 b h) ∙ ap (λ (l : List ℕ). get_or l b 0) held-table ∙ rows_at ranges 256 b h

-- by the table of lead bytes, kind and head are those of the lead-byte rule

module _ (s : List ℕ) (bytes : Bytes s) (at : ℕ) where
  pub kind_by-leads : kind_by lead_table s at ≡ kind_at s at
  unfolding kind_by kind_at
  kind_by-leads = go (ltb at (length s)) refl
    where
      go : (t : Bool) → ltb at (length s) ≡ t → cond t (kind_from (get_or lead_table (get_or s at 0) 0 / 8)) Kind.Missing ≡ cond t (kind_of (get_or s at 0)) Kind.Missing
      go true e = row-kind (get_or s at 0) (byte_at s bytes at (ltb-true at (length s) e))
      go false e = refl

  sized : (y : ℕ) → more_of (get_or s at 0) ≡ y → at + 1 + y ≤ length s → sized_number s (get_or s at 0) at (y + 1) ≡ head_number s (get_or s at 0) y (at + 1)
  sized zero e le = refl
  sized (suc zero) e le = unsigned_at-in 1 s (at + 1) le
  sized (suc (suc zero)) e le = unsigned_at-in 2 s (at + 1) le
  sized (suc (suc (suc y))) e le =
      let four : suc (suc (suc y)) ≡ 4 = sym e ∙ more_of-four (get_or s at 0) (omega arith) in
      rw four (unsigned_at-in 4 s (at + 1) (omega arith))

  pub head_by-leads : head_by lead_table s at ≡ head_at s at
  unfolding head_by head_at
  head_by-leads = go (ltb at (length s)) refl
    where
      b : ℕ
      b = get_or s at 0

      whole : (t : Bool) → ltb (length s - (at + 1)) (more_of b) ≡ t → at < length s → sized_head s b at (more_of b + 1) ≡ cond t None (some_head (head_number s b (more_of b) (at + 1)) (at + 1 + more_of b))
      whole true e lt = rw (lt-ltb (length s - at) (more_of b + 1) (omega (arith, ltb-true (length s - (at + 1)) (more_of b) e)))
      whole false e lt =
          let le : more_of b ≤ length s - (at + 1) = ltb-false (length s - (at + 1)) (more_of b) e in
          let i : at + (more_of b + 1) ≡ at + 1 + more_of b = omega arith in
          rw (le-ltb (length s - at) (more_of b + 1) (omega arith), sized (more_of b) refl (omega arith), i)

      go : (t : Bool) → ltb at (length s) ≡ t → cond t (sized_head s b at (get_or lead_table b 0 % 8)) None ≡ cond t (head_from s b (more_of b) (at + 1)) None
      go true e =
          let lt : at < length s = ltb-true at (length s) e in
          ap (sized_head s b at) (row-size b (byte_at s bytes at lt)) ∙ whole (ltb (length s - (at + 1)) (more_of b)) refl lt
      go false e = refl

-- an answer by a table, where that is the table of lead bytes, is that of the lead-byte rule
module _ (s : List ℕ) (bytes : Bytes s) (at : ℕ) {table : List ℕ} where
  pub kind-rule : {r : Kind} → r ≡ kind_by table s at → table ≡ lead_table → r ≡ kind_at s at
  kind-rule e t = e ∙ ap (λ (l : List ℕ). kind_by l s at) t ∙ kind_by-leads s bytes at

  pub head-rule : {r : Option Head} → r ≡ head_by table s at → table ≡ lead_table → r ≡ head_at s at
  head-rule e t = e ∙ ap (λ (l : List ℕ). head_by l s at) t ∙ head_by-leads s bytes at
