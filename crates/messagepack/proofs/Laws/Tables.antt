-- The tables of keys: rows that hold keys, a row more, and the loop over a map's entries.
-- Assumes nothing.
use Rattle.std.specs.Prelude.{◌≡◌, ℕ, zero, suc, ◌+◌, ◌-◌, ◌*◌, ◌%◌, ◌<◌, ◌≤◌, Bool, false, ◌||◌, ◌≢◌, List, [], ◌∷◌, ◌++◌, length, take, drop, set, slice_index, slice_index_or, slice_range, slice_set, Result, Ok, Err, None}
use Rattle.std.proofs.Math.Path.{refl, ap, subst}
use Rattle.std.proofs.Common.{sym, ◌∙◌, append-nil, ⊎_elim, not-suc-le-zero, eq-or-lt_of_le, le_of_suc-le-suc, mod-eq_of_lt, add-one, length-set, length-drop, drop-drop, get_or-set_same, get_or-set_other, drop-set-lt, take-suc, take-suc-set, drop-cons, length-take-le}
use Rattle.std.proofs.Math.Nat.{add-zero}
use native.Mathlib.Omega.{arith}
use Rattle.std.proofs.Math.Seq.{get_or-drop, append_snoc}
use Rattle.std.proofs.lemmas.List.{drop-set-add, set_at}
use borrow.Author.Tests.{le-leb, lt-leb}
use Rattle.refusal.specs.Table.{buffer_too_small}
use Rattle.refusal.specs.Outcome.{answered}
use Rattle.refusal.specs.Answer.{leaves}
use Rattle.numbers.specs.BigEndian.{unsigned_at}
use Rattle.numbers.specs.Laws.BigEndian.{unsigned_at-part, unsigned_at-out}
use Rattle.text.specs.Equal.{equal}
use Rattle.text.specs.Laws.Equal.{equal-false}
use Rattle.heads.specs.Head.{head_at, some_head}
use Rattle.heads.proofs.Laws.Span.{part_length_lem}
use Rattle.messagepack.specs.Limits.{file_limit, nesting_limit, entry_limit}
use Rattle.heads.proofs.Laws.Head.{same-parts}
use Rattle.messagepack.specs.Walk.{among, key_at, entries_from, entries_at, value_at, ok_text}
use Rattle.messagepack.specs.Outer.{keys_from}
use Rattle.messagepack.specs.Keys.{table_length, print_of, key_bytes, key_here, keys_of, keys_in, KeyThere, RowHolds, Stored, Free, Kept, Rows, Sought, refused, repeated, noted, KeyNoted, KeysWalked, MapNoted, EntriesNoted, ValueNoted}
use Rattle.messagepack.proofs.Laws.Walk as w
use Rattle.messagepack.proofs.Laws.Outer as o

-- prints

module _ (s : List ℕ) (a m : ℕ) (le : a + m ≤ length s) where
  last-part : (k : ℕ) → k ≤ m → unsigned_at k (take m (drop a s)) (m - k) ≡ unsigned_at k s (a + m - k)
  last-part k h = let i : a + (m - k) ≡ a + m - k = omega arith in unsigned_at-part k s a m (m - k) le (omega arith) ∙ rw i

  first_part : (k : ℕ) → k ≤ m → unsigned_at k (take m (drop a s)) 0 ≡ unsigned_at k s a
  first_part k h = unsigned_at-part k s a m 0 le (omega arith) ∙ rw (add-zero a)

  pub print-four : 4 ≤ m → print_of (take m (drop a s)) ≡ (m % 65536 * 65536 + (unsigned_at 4 s a + unsigned_at 4 s (a + m - 4)) % 4294967296) % 4294967296
  unfolding print_of
  print-four h = rw (part_length_lem s a m le, le-leb 4 m h, first_part 4 h, last-part 4 h)

  pub print-two : m < 4 → 2 ≤ m → print_of (take m (drop a s)) ≡ (m % 65536 * 65536 + unsigned_at 2 s (a + m - 2)) % 4294967296
  unfolding print_of
  print-two l h = rw (part_length_lem s a m le, lt-leb 4 m l, last-part 2 h)

  pub print-short : m < 2 → print_of (take m (drop a s)) ≡ m % 65536 * 65536
  unfolding print_of
  print-short l =
      let z : unsigned_at 2 (take m (drop a s)) (m - 2) ≡ 0 = unsigned_at-out 2 (take m (drop a s)) (m - 2) (rw (part_length_lem s a m le) (omega arith)) in
      rw (part_length_lem s a m le, lt-leb 4 m (omega arith), z) (mod-eq_of_lt (omega arith) ∙ add-zero (m % 65536 * 65536))

-- rows, counted from the first

module _ (s starts : List ℕ) where
  keys_none : (k : List ℕ) → among k (keys_of s starts zero) ≡ false
  unfolding among keys_of
  keys_none k = refl

  keys-next : (k : List ℕ) (n : ℕ) (t : Bool) → equal k (key_here s (slice_index starts n)) ≡ t → among k (keys_of s starts (suc n)) ≡ t || among k (keys_of s starts n)
  unfolding among keys_of
  keys-next k n t e = rw (← e)

  keys-set : (j at i : ℕ) → i ≤ j → keys_of s (slice_set starts j at) i ≡ keys_of s starts i
  unfolding keys_of
  keys-set j at zero h = refl
  keys-set j at (suc i) h = let ne : i ≢ j = omega arith in rw (get_or-set_other starts j i at 0 ne, keys-set j at i (omega arith))

  keys-more : (j at : ℕ) → j < length starts → keys_of s (slice_set starts j at) (suc j) ≡ key_here s at ∷ keys_of s starts j
  unfolding keys_of
  keys-more j at h = rw (get_or-set_same starts j at 0 h, keys-set j at j (omega arith))

stored_more : (s starts prints : List ℕ) (j at q : ℕ) → j < length starts → j < length prints → KeyThere s at → q ≡ print_of (key_here s at) → Stored s starts prints j → Stored s (slice_set starts j at) (slice_set prints j q) (suc j)
unfolding Stored
stored_more s starts prints j at q h k key p old i lt = ⊎_elim
    (λ (e : i ≡ j). record { key = rw (e, get_or-set_same starts j at 0 h) key; print = rw (e, get_or-set_same starts j at 0 h, get_or-set_same prints j q 0 k) p })
    (λ (l : i < j).
    let ne : i ≢ j = omega arith in
    let o = old i l in
    record { key = rw (get_or-set_other starts j i at 0 ne) o.key; print = rw (get_or-set_other starts j i at 0 ne, get_or-set_other prints j i q 0 ne) o.print })
    (eq-or-lt_of_le (le_of_suc-le-suc lt))

-- rows from base on

module _ (s starts : List ℕ) (base : ℕ) where
  -- a row by its place in the whole table
  pub row-holds : (prints : List ℕ) (n : ℕ) → Stored s (drop base starts) (drop base prints) n → (i : ℕ) → base ≤ i → i < base + n → RowHolds s starts prints i
  unfolding Stored
  row-holds prints n st i le lt =
      let r = st (i - base) (omega arith) in
      let e : base + (i - base) ≡ i = omega arith in
      let a : slice_index_or (drop base starts) (i - base) 0 ≡ slice_index_or starts i 0 = get_or-drop base starts (i - base) 0 ∙ ap (λ (k : ℕ). slice_index starts k) e in
      let b : slice_index_or (drop base prints) (i - base) 0 ≡ slice_index_or prints i 0 = get_or-drop base prints (i - base) 0 ∙ ap (λ (k : ℕ). slice_index prints k) e in
      record { key = subst (KeyThere s) a r.key; print = rw (a, b) at r.print }

  module _ (k : List ℕ) where
    pub seen_none : (i : ℕ) → i ≤ base → among k (keys_in s starts base i) ≡ false
    seen_none i le = let e : i - base ≡ 0 = omega arith in rw e (keys_none s (drop base starts) k)

    pub seen_next : (i : ℕ) (t : Bool) → base < i → equal k (key_here s (slice_index starts (i - 1))) ≡ t → among k (keys_in s starts base i) ≡ t || among k (keys_in s starts base (i - 1))
    seen_next i t lt h =
        let e : i - base ≡ suc (i - 1 - base) = omega arith in
        let f : base + (i - 1 - base) ≡ i - 1 = omega arith in
        let a : slice_index_or (drop base starts) (i - 1 - base) 0 ≡ slice_index_or starts (i - 1) 0 = get_or-drop base starts (i - 1 - base) 0 ∙ ap (λ (j : ℕ). slice_index starts j) f in
        rw e (keys-next s (drop base starts) k (i - 1 - base) t (rw a h))

-- a key that stands at a place: its head is read, and its bytes are inside
pub there-read : {s : List ℕ} {at n p : ℕ} → KeyThere s at → head_at s at ≡ some_head n p → (p + n ≤ length s) × (key_here s at ≡ take n (drop p s))
there-read {s} {at} {n} {p} k g =
    let i = w.text-is s at (w.key-is s at k.is).1 in
    let h : head_at s at ≡ some_head k.m k.a = i.head in
    let same = same-parts (sym h ∙ g) in
    let m : k.m ≡ n = same.0 in
    let a : k.a ≡ p = same.1 in
    (rw (m, a) at i.inside, ap (key_bytes s) k.is ∙ rw (m, a))

pub there-head : {s : List ℕ} (at : ℕ) → KeyThere s at → head_at s at ≢ None
there-head {s} at k g =
    let h : head_at s at ≡ some_head k.m k.a = (w.text-is s at (w.key-is s at k.is).1).head in
    let z : ◌≡◌ {A = ℕ} 0 1 = cc in
    omega arith

-- a row's key, by the place that it has
pub row_same : (s starts : List ℕ) (i at : ℕ) {q : ℕ} {b : Bool} → q ≡ slice_index starts i → b ≡ equal (key_here s at) (key_here s q) → equal (key_here s at) (key_here s (slice_index starts i)) ≡ b
row_same s starts i at o h = rw (← o) (sym h)

-- a row whose print is another holds another key
pub row-differs : {s starts prints : List ℕ} {i : ℕ} (k : List ℕ) {print : ℕ} → RowHolds s starts prints i → print ≡ print_of k → (slice_index prints i ≢ print) → equal k (key_here s (slice_index starts i)) ≡ false
row-differs k r p ne = equal-false k _ (λ e. ne (r.print ∙ ap print_of (sym e) ∙ sym p))

-- no row has the print: the key is in none
module _ (s starts prints : List ℕ) (base end : ℕ) (st : Stored s (drop base starts) (drop base prints) (end - base)) (k : List ℕ) (print : ℕ) (is : print ≡ print_of k) (no : (i : ℕ) → base ≤ i → i < end → slice_index prints i ≢ print) where
  none_below : (n : ℕ) → n ≤ end - base → among k (keys_in s starts base (base + n)) ≡ false
  none_below zero h = seen_none s starts base k (base + 0) (omega arith)
  none_below (suc n) h =
      let i : base + suc n - 1 ≡ base + n = omega arith in
      let r : RowHolds s starts prints (base + n) = row-holds s starts base prints (end - base) st (base + n) (omega arith) (omega arith) in
      let d : equal k (key_here s (slice_index starts (base + suc n - 1))) ≡ false = rw i (row-differs k r is (no (base + n) (omega arith) (omega arith))) in
      seen_next s starts base k (base + suc n) false (omega arith) d ∙ rw i (none_below n (omega arith))

  pub none_seen : base ≤ end → among k (keys_in s starts base end) ≡ false
  none_seen le = let e : base + (end - base) ≡ end = omega arith in subst (λ (i : ℕ). among k (keys_in s starts base i) ≡ false) e (none_below (end - base) (omega arith))

-- the key whose bytes and print were read
pub sought : {s starts prints : List ℕ} {at base end a m print : ℕ} → Rows s base end starts prints → key_at s at ≡ ok_text a m → print ≡ print_of (take m (drop a s)) → Sought s base end starts prints at print
sought {s} {a = a} {m = m} r k p = record { rows = r; key = record { a = a; m = m; is = k }; is = rw k p }

-- a row more

module _ {s starts prints : List ℕ} {base end at print : ℕ} (x : Sought s base end starts prints at print) where
  split : end ≡ base + (end - base)
  split = omega (arith, x.rows.order)

  rows-set : (t : List ℕ) (v : ℕ) → drop base (slice_set t end v) ≡ slice_set (drop base t) (end - base) v
  rows-set t v = subst (λ (i : ℕ). drop base (slice_set t i v) ≡ slice_set (drop base t) (end - base) v) (sym split) (drop-set-add base t (end - base) v)

  next : end + 1 - base ≡ suc (end - base)
  next = omega (arith, x.rows.order)

  starts-room : end - base < length (drop base starts)
  starts-room = simp length-drop (omega (arith, x.rows.order, x.rows.room, x.rows.starts-long))

  prints-room : end - base < length (drop base prints)
  prints-room = simp length-drop (omega (arith, x.rows.order, x.rows.room, x.rows.prints-long))

  pub noted-keys : keys_in s (slice_set starts end at) base (end + 1) ≡ key_here s at ∷ keys_in s starts base end
  noted-keys = rw (rows-set starts at, next) (keys-more s (drop base starts) (end - base) at starts-room)

  pub noted-places : (rest : List ℕ) → take (end + 1 - base) (drop base (slice_set starts end at)) ++ rest ≡ slice_range starts base end ++ (at ∷ rest)
  noted-places rest = rw (rows-set starts at, next, take-suc-set (drop base starts) (end - base) at starts-room) (append_snoc (slice_range starts base end) at rest)

  pub noted-stored : Stored s (drop base (slice_set starts end at)) (drop base (slice_set prints end print)) (end + 1 - base)
  noted-stored =
      rw (rows-set starts at, rows-set prints print, next)
      (stored_more s (drop base starts) (drop base prints) (end - base) at print starts-room prints-room x.key x.is x.rows.stored)

-- a row more is copied to a buffer
pub row_copied : (rows old : List ℕ) (i v : ℕ) → i < length old → i < length rows → v ≡ slice_index rows i → slice_set (take i rows ++ drop i old) i v ≡ take (i + 1) rows ++ drop (i + 1) old
row_copied rows old i v h k is =
    ap (λ (l : List ℕ). set (take i rows ++ l) i v) (drop-cons old i 0 h)
    ∙ set_at (take i rows) (slice_index old i) (drop (suc i) old) v i (length-take-le i rows (omega arith))
    ∙ sym (append_snoc (take i rows) v (drop (suc i) old))
    ∙ ap (λ (l : List ℕ). l ++ drop (suc i) old) (ap (λ (y : ℕ). take i rows ++ (y ∷ [])) is ∙ sym (take-suc rows i 0 k))
    ∙ rw (add-one i)

-- the first n rows, if there is room for them
module _ (rows old : List ℕ) (n : ℕ) (h : n ≤ length rows) where
  pub rows-refused : length old < n → (Err buffer_too_small ≡ answered n (length old)) × (old ≡ leaves (take n rows) old)
  rows-refused l = (rw (lt-leb n (length old) l), rw (length-take-le n rows h, lt-leb n (length old) l))

  pub rows-copied : n ≤ length old → (Ok n ≡ answered n (length old)) × (take n rows ++ drop n old ≡ leaves (take n rows) old)
  rows-copied l = (rw (le-leb n (length old) l), rw (length-take-le n rows h, le-leb n (length old) l))

-- tables that are kept

pub kept-all : (depth : ℕ) {t : List ℕ} → length t ≡ table_length → Kept depth t t
kept-all depth l = record { long = l; same = refl }

pub kept_then : {depth : ℕ} {t u v : List ℕ} → Kept depth t u → Kept depth u v → Kept depth t v
kept_then a b = record { long = b.long; same = b.same ∙ a.same }

-- what is kept with fewer levels left is kept with more
pub kept_more : {depth : ℕ} {t u : List ℕ} → Kept depth t u → Kept (depth + 1) t u
kept_more {depth} {t} {u} k =
    let e : (depth + 1) * entry_limit ≡ depth * entry_limit + entry_limit = omega arith in
    record { long = k.long; same = rw (e, ← drop-drop entry_limit (depth * entry_limit) u, ← drop-drop entry_limit (depth * entry_limit) t, k.same) }

pub kept_at : {d e : ℕ} {t u : List ℕ} → d ≡ e → Kept d t u → Kept e t u
kept_at {d} {e} {t} {u} q k = subst (λ (i : ℕ). Kept i t u) q k

-- a walk with fewer levels left may begin too, and with tables that were kept
pub free-less : {s : List ℕ} {d e : ℕ} {starts prints : List ℕ} → d ≤ e → Free s e starts prints → Free s d starts prints
free-less le x = record { small = x.small; levels = omega (arith, x.levels); starts-long = x.starts-long; prints-long = x.prints-long }

pub free-kept : {s : List ℕ} {d : ℕ} {starts prints starts' prints' : List ℕ} → Free s d starts prints → Kept d starts starts' → Kept d prints prints' → Free s d starts' prints'
free-kept x ks kp = record { small = x.small; levels = x.levels; starts-long = ks.long; prints-long = kp.long }

-- an answer by its case, and one for a value with more levels left
pub walked_as : {expected : Result ℕ ℕ} {d : ℕ} {starts prints starts' prints' : List ℕ} {r q : Result ℕ ℕ} → r ≡ q → KeysWalked expected d starts prints r starts' prints' → KeysWalked expected d starts prints q starts' prints'
walked_as e v = record { answer = sym e ∙ v.answer; starts-kept = v.starts-kept; prints-kept = v.prints-kept }

pub walked-in : {inner outer : Result ℕ ℕ} {d e : ℕ} {starts prints starts' prints' : List ℕ} {r : Result ℕ ℕ} → d ≡ e → outer ≡ inner → KeysWalked inner d starts prints r starts' prints' → KeysWalked outer e starts prints r starts' prints'
walked-in q o v = record { answer = v.answer ∙ sym o; starts-kept = kept_at q v.starts-kept; prints-kept = kept_at q v.prints-kept }

pub walked_more : {expected : Result ℕ ℕ} {d : ℕ} {starts prints starts' prints' : List ℕ} {r : Result ℕ ℕ} → KeysWalked expected d starts prints r starts' prints' → KeysWalked expected (d + 1) starts prints r starts' prints'
walked_more v = record { answer = v.answer; starts-kept = kept_more v.starts-kept; prints-kept = kept_more v.prints-kept }

pub noted-as : {s : List ℕ} {at base end : ℕ} {starts prints starts' prints' : List ℕ} {r q : Result ℕ ℕ} → r ≡ q → KeyNoted s at base end starts prints r starts' prints' → KeyNoted s at base end starts prints q starts' prints'
noted-as {s} {at} {base} {end} {starts} {prints} {starts'} {prints'} e n = subst (λ (v : Result ℕ ℕ). KeyNoted s at base end starts prints v starts' prints') e n

-- nothing is noted of entries that are refused, nor of a value that is refused or no map

pub entries-unnoted : {s : List ℕ} {levels n at k : ℕ} {starts : List ℕ} → EntriesNoted s levels n at (Err k) starts
entries-unnoted = record { says = λ e q. let z : ◌≡◌ {A = ℕ} 0 1 = cc in absurd (omega arith) }

pub value-unnoted : {s : List ℕ} {depth at k : ℕ} {starts : List ℕ} → ValueNoted s depth at (Err k) starts
value-unnoted = record { says = λ n p e m h q. let z : ◌≡◌ {A = ℕ} 0 1 = cc in absurd (omega arith) }

-- a row of the level itself is not among those that are kept
pub kept_set : (depth i v : ℕ) (t : List ℕ) → length t ≡ table_length → i < (depth + 1) * entry_limit → Kept (depth + 1) t (slice_set t i v)
kept_set depth i v t l lt = record { long = length-set t i v ∙ l; same = drop-set-lt ((depth + 1) * entry_limit) t i v lt }

-- the loop over a map's entries

-- the bytes of a key by its place and size
among-key : (s : List ℕ) (at : ℕ) (keys : List (List ℕ)) {a m : ℕ} {t : Bool} → key_at s at ≡ ok_text a m → among (key_here s at) keys ≡ t → among (take m (drop a s)) keys ≡ t
among-key s at keys k b = rw k at b

-- the rows of the map's level hold its first keys, and the entries from here on decide
pub record Going (s : List ℕ) (n at depth : ℕ) (starts₀ prints₀ starts prints : List ℕ) (row p : ℕ) : Type 0 where
  pub levels : depth < nesting_limit
  pub small : length s ≤ file_limit
  pub few : n ≤ entry_limit
  pub from : depth * entry_limit ≤ row
  pub to : row ≤ depth * entry_limit + n
  pub starts-kept : Kept (depth + 1) starts₀ starts
  pub prints-kept : Kept (depth + 1) prints₀ prints
  pub stored : Stored s (drop (depth * entry_limit) starts) (drop (depth * entry_limit) prints) (row - depth * entry_limit)
  pub places : take (row - depth * entry_limit) (drop (depth * entry_limit) starts) ++ keys_from s depth (depth * entry_limit + n - row) p ≡ keys_from s depth n at
  pub goes : entries_at s (value_at s depth) n at ≡ entries_from s (value_at s depth) (depth * entry_limit + n - row) (keys_in s starts (depth * entry_limit) row) p

module _ {s : List ℕ} {n at depth : ℕ} where
  pub going-first : {starts prints : List ℕ} → Free s (depth + 1) starts prints → n ≤ entry_limit → Going s n at depth starts prints starts prints (depth * entry_limit) at
  unfolding Stored keys_of
  going-first {starts} {prints} x few =
      let e : depth * entry_limit + n - depth * entry_limit ≡ n = omega arith in
      let z : depth * entry_limit - depth * entry_limit ≡ 0 = omega arith in
      record {
        levels = omega (arith, x.levels);
        small = x.small;
        few = few;
        from = omega arith;
        to = omega arith;
        starts-kept = kept-all (depth + 1) x.starts-long;
        prints-kept = kept-all (depth + 1) x.prints-long;
        stored = λ i lt. absurd (not-suc-le-zero (rw z at lt));
        places = rw (e, z);
        goes = rw (e, z) (w.entries-few s (value_at s depth) n at few);
      }

  module _ {starts₀ prints₀ starts prints : List ℕ} {row p : ℕ} (g : Going s n at depth starts₀ prints₀ starts prints row p) where
    -- the rows hold the places of all keys
    pub going-noted : depth * entry_limit + n ≤ row → MapNoted s depth n at starts
    going-noted le =
        let e : row - depth * entry_limit ≡ n = omega (arith, g.to) in
        let z : depth * entry_limit + n - row ≡ 0 = omega arith in
        record { few = g.few; places = sym (append-nil (take n (drop (depth * entry_limit) starts))) ∙ rw (e, z, o.keys_none s depth p) at g.places }

    pub going-last : depth * entry_limit + n ≤ row → KeysWalked (entries_at s (value_at s depth) n at) (depth + 1) starts₀ prints₀ (Ok p) starts prints
    going-last le = record {
      answer = sym (g.goes ∙ w.entries_none s (value_at s depth) (depth * entry_limit + n - row) p (keys_in s starts (depth * entry_limit) row) (omega arith));
      starts-kept = g.starts-kept;
      prints-kept = g.prints-kept;
    }

    module _ (lt : row < depth * entry_limit + n) where
      pub going-rows : Rows s (depth * entry_limit) row starts prints
      going-rows = record {
        small = g.small;
        order = g.from;
        room = omega (arith, g.levels, g.few);
        starts-long = g.starts-kept.long;
        prints-long = g.prints-kept.long;
        stored = g.stored;
      }

      -- a key that is refused
      pub going-key : {e : ℕ} {starts' prints' : List ℕ} → KeyNoted s p (depth * entry_limit) row starts prints (Err e) starts' prints' → KeysWalked (entries_at s (value_at s depth) n at) (depth + 1) starts₀ prints₀ (Err e) starts' prints'
      going-key (refused k) = record {
        answer = sym (g.goes ∙ w.entries-key s (value_at s depth) (depth * entry_limit + n - row) p (keys_in s starts (depth * entry_limit) row) (omega arith) k);
        starts-kept = g.starts-kept;
        prints-kept = g.prints-kept;
      }
      going-key (repeated k b) = record {
        answer = sym (g.goes ∙ w.entries_twice s (value_at s depth) (depth * entry_limit + n - row) p (keys_in s starts (depth * entry_limit) row) (omega arith) k (among-key s p (keys_in s starts (depth * entry_limit) row) k b));
        starts-kept = g.starts-kept;
        prints-kept = g.prints-kept;
      }

      -- a key that is new: its value may be walked
      pub going-free : {q : ℕ} {starts' prints' : List ℕ} → KeyNoted s p (depth * entry_limit) row starts prints (Ok q) starts' prints' → Free s depth starts' prints'
      going-free (noted k x b) = record {
        small = g.small;
        levels = omega (arith, g.levels);
        starts-long = length-set starts row _ ∙ g.starts-kept.long;
        prints-long = length-set prints row _ ∙ g.prints-kept.long;
      }

      row_below : row < (depth + 1) * entry_limit
      row_below = omega (arith, g.few)

      -- what a value leaves alone, and a row of the level, the map leaves alone
      kept-past : {t₀ t t' : List ℕ} (v : ℕ) → Kept (depth + 1) t₀ t → Kept depth (slice_set t row v) t' → Kept (depth + 1) t₀ t'
      kept-past {t₀} {t} {t'} v a b = kept_then a (kept_then (kept_set depth row v t a.long row_below) (kept_more b))

      -- its value is refused
      pub going-value : {q e : ℕ} {starts' prints' starts'' prints'' : List ℕ} → KeyNoted s p (depth * entry_limit) row starts prints (Ok q) starts' prints' → KeysWalked (value_at s depth q) depth starts' prints' (Err e) starts'' prints'' → KeysWalked (entries_at s (value_at s depth) n at) (depth + 1) starts₀ prints₀ (Err e) starts'' prints''
      going-value (noted k x b) v = record {
        answer = sym (g.goes ∙ w.entries-value s (value_at s depth) (depth * entry_limit + n - row) p (keys_in s starts (depth * entry_limit) row) (omega arith) k (among-key s p (keys_in s starts (depth * entry_limit) row) k b) (sym v.answer));
        starts-kept = kept-past _ g.starts-kept v.starts-kept;
        prints-kept = kept-past _ g.prints-kept v.prints-kept;
      }

      -- its value ends: one entry more is done
      pub going_next : {q e : ℕ} {starts' prints' starts'' prints'' : List ℕ} → KeyNoted s p (depth * entry_limit) row starts prints (Ok q) starts' prints' → KeysWalked (value_at s depth q) depth starts' prints' (Ok e) starts'' prints'' → Going s n at depth starts₀ prints₀ starts'' prints'' (row + 1) e
      going_next {e = e} (noted k x b) v =
          let d : depth * entry_limit + n - row - 1 ≡ depth * entry_limit + n - (row + 1) = omega arith in
          let left : List ℕ = keys_from s depth (depth * entry_limit + n - (row + 1)) e in
          let one : keys_from s depth (depth * entry_limit + n - row) p ≡ p ∷ left = o.keys-next s depth (depth * entry_limit + n - row) p (omega arith) k (sym v.answer) ∙ ap (λ (j : ℕ). p ∷ keys_from s depth j e) d in
          record {
            levels = g.levels;
            small = g.small;
            few = g.few;
            from = omega (arith, g.from);
            to = omega arith;
            starts-kept = kept-past _ g.starts-kept v.starts-kept;
            prints-kept = kept-past _ g.prints-kept v.prints-kept;
            stored = rw (v.starts-kept.same, v.prints-kept.same) (noted-stored x);
            places = rw (v.starts-kept.same, noted-places x left, ← one) g.places;
            goes =
                g.goes
                ∙ w.entries-end s (value_at s depth) (depth * entry_limit + n - row) p (keys_in s starts (depth * entry_limit) row) (omega arith) k (among-key s p (keys_in s starts (depth * entry_limit) row) k b) (sym v.answer)
                ∙ rw (v.starts-kept.same, noted-keys x, k, d);
          }
