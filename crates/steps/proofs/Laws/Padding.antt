-- Laws of padding, name by name: what a whole name adds, what is left after the last, and four bytes as one number. Assumes nothing.
use Rattle.std.specs.Prelude.{◌≡◌, ℕ, zero, suc, ◌+◌, ◌-◌, ◌*◌, ◌/◌, ◌%◌, ◌<◌, ◌≤◌, Bool, true, false, cond, not, ◌&&◌, ◌||◌, List, [], ◌∷◌, ◌++◌, map, length, take, drop, ℤ, pos, ◌==◌, bit_and, nat_eq, nat_le, slice_index, refl}
use Rattle.std.proofs.Common.{sym, ap, ap₂, ◌∙◌, append-nil, add-zero, add-mul, one-mul, mod-eq_of_lt, add-one, arith, take-append-drop, length-drop, drop-drop, length-take-le, of_z, eqb-true, eq-eqb, ne_eqb, leb-true, le-leb}
use Rattle.std.proofs.Math.Bool.{and-false}
use Rattle.std.proofs.lemmas.List.{map-append, length-map}
use Rattle.std.proofs.Math.Nat.{mod-zero, mod-one, mul-mod_left, mul-add-mod_self_right}
use Rattle.std.proofs.lemmas.Nat.{and_block}
use Rattle.std.proofs.lemmas.Nat.Bits.{and_high}
use Rattle.std.specs.Int.{w32}
use Rattle.std.proofs.lemmas.Bool.{eqb-false}
use Rattle.steps.specs.declared.Range.TheVariants.{Ascii}
use Rattle.steps.specs.declared.Form.TheVariants.{Names}
use Rattle.steps.specs.Payload.{all_in, padded_from, allowed}
use Rattle.steps.specs.Steps.{one_name, word_of, marks_of, zeros_last}
use Rattle.steps.proofs.Laws.Lists.{drop_at}
use Rattle.steps.proofs.Laws.Allowed.{all_split, and-true, and-more, ascii}

-- the last of values, or the one before them
abbrev last_of : ℤ → List ℤ → ℤ
last_of a [] = a
last_of a (x ∷ xs) = last_of x xs

-- a place within a name is its first only where it is 0
first-place : (m k j : ℕ) → j < m → ((k * m + j) % m == 0) ≡ (j % 0 == 0)
first-place m k j h = ap (λ (n : ℕ). nat_eq n 0) (mul-add-mod_self_right k m j ∙ mod-eq_of_lt h ∙ sym (mod-zero j))

-- a part of a name, and then the rest
part : (m k j : ℕ) (a : ℤ) (xs ys : List ℤ) → j + length xs ≤ m
    → padded_from m (k * m + j) a (xs ++ ys) ≡ padded_from 0 j a xs && padded_from m (k * m + j + length xs) (last_of a xs) ys
unfolding padded_from
part m k j a [] ys h = ap (λ (n : ℕ). padded_from m n a ys) (sym (add-zero (k * m + j)))
part m k j a (x ∷ xs) ys h =
    let t = j % 0 == 0 || not (of_z w32 a == 0) || nat_eq (of_z w32 x) 0 in
    let e : suc (k * m + j) ≡ k * m + suc j = omega arith in
    let g : k * m + suc j + length xs ≡ k * m + j + suc (length xs) = omega arith in
    ap₂ (λ (b : Bool) (n : ℕ). (b || not (of_z w32 a == 0) || of_z w32 x == 0) && padded_from m n x (xs ++ ys)) (first-place m k j (omega arith)) e
    ∙ ap (λ (b : Bool). t && b) (part m k (suc j) x xs ys (omega arith) ∙ ap (λ (n : ℕ). padded_from 0 (suc j) x xs && padded_from m n (last_of x xs) ys) g)
    ∙ sym (and-more t (padded_from 0 (suc j) x xs) (padded_from m (k * m + j + suc (length xs)) (last_of x xs) ys))

-- the first byte of a name asks nothing of the byte before it
any-before : (m i : ℕ) (a b : ℤ) (xs : List ℤ) → i % m ≡ 0 → padded_from m i a xs ≡ padded_from m i b xs
unfolding padded_from
any-before m i a b [] h = refl
any-before m i a b (x ∷ xs) h = rw (eq-eqb (i % m) 0 h)

-- a whole name, and those after it
pub whole-name : (m k : ℕ) (s : List ℕ) → k * m + m ≤ length s
    → padded_from m (k * m) (pos 0) (map pos (drop (k * m) s)) ≡ one_name (take m (drop (k * m) s)) && padded_from m ((k + 1) * m) (pos 0) (map pos (drop ((k + 1) * m) s))
whole-name m k s h =
    let t = take m (drop (k * m) s) in
    let next : k * m + m ≡ (k + 1) * m = sym (add-mul k 1 m ∙ ap (λ (n : ℕ). k * m + n) (one-mul m)) in
    let l : length (map pos t) ≡ m = length-map t pos ∙ length-take-le m (drop (k * m) s) (omega (arith, length-drop (k * m) s)) in
    let u = map pos (drop ((k + 1) * m) s) in
    let e : map pos (drop (k * m) s) ≡ map pos t ++ u = ap (map pos) (sym (take-append-drop m (drop (k * m) s)) ∙ ap (λ (r : List ℕ). t ++ r) (drop-drop m (k * m) s ∙ ap (λ (n : ℕ). drop n s) next)) ∙ map-append pos t (drop ((k + 1) * m) s) in
    let n : k * m + 0 + length (map pos t) ≡ (k + 1) * m = ap (λ (i : ℕ). k * m + 0 + i) l ∙ ap (λ (i : ℕ). i + m) (add-zero (k * m)) ∙ next in
    ap₂ (λ (i : ℕ) (r : List ℤ). padded_from m i (pos 0) r) (sym (add-zero (k * m))) e
    ∙ part m k 0 (pos 0) (map pos t) u (omega arith)
    ∙ ap (λ (i : ℕ). one_name t && padded_from m i (last_of (pos 0) (map pos t)) u) n
    ∙ ap (λ (b : Bool). one_name t && b) (any-before m ((k + 1) * m) (last_of (pos 0) (map pos t)) (pos 0) u (mul-mod_left (k + 1) m))

-- what is left, which is less than a name
pub name-left : (m k : ℕ) (s : List ℕ) → length s ≤ k * m + m → padded_from m (k * m) (pos 0) (map pos (drop (k * m) s)) ≡ one_name (drop (k * m) s)
unfolding padded_from
name-left m k s h =
    let r = map pos (drop (k * m) s) in
    let l : length r ≡ length s - k * m = length-map (drop (k * m) s) pos ∙ length-drop (k * m) s in
    ap₂ (λ (i : ℕ) (q : List ℤ). padded_from m i (pos 0) q) (sym (add-zero (k * m))) (sym (append-nil r))
    ∙ part m k 0 (pos 0) r [] (omega arith) ∙ and-true (one_name (drop (k * m) s))

-- one name: its first byte, and each after it
pub name-first : (s : List ℕ) → padded_from 0 1 (pos (slice_index s 0)) (map pos (drop 1 s)) ≡ one_name s
unfolding padded_from
name-first [] = refl
name-first (x ∷ s) = refl

pub name-next : (i a b : ℕ) (xs ys : List ℤ) → 0 < i → ys ≡ pos b ∷ xs → padded_from 0 i (pos a) ys ≡ (not (a == 0) || b == 0) && padded_from 0 (i + 1) (pos b) xs
unfolding padded_from
name-next i a b xs ys h e =
    let z : nat_eq (i % 0) 0 ≡ false = ap (λ (n : ℕ). nat_eq n 0) (mod-zero i) ∙ ne_eqb i 0 (λ q. omega arith) in
    ap (padded_from 0 i (pos a)) e ∙ rw (z, add-one i)

pub name-end : (i : ℕ) (a : ℤ) (ys : List ℤ) → ys ≡ [] → padded_from 0 i a ys ≡ true
unfolding padded_from
name-end i a ys e = ap (padded_from 0 i a) e

-- four bytes at a place
pub four-at : (s : List ℕ) (at : ℕ) → at + 4 ≤ length s
    → take 4 (drop at s) ≡ slice_index s at ∷ slice_index s (at + 1) ∷ slice_index s (at + 2) ∷ slice_index s (at + 3) ∷ []
four-at s at h =
    let e : at + 1 + 1 ≡ at + 2 = omega arith in
    let f : at + 2 + 1 ≡ at + 3 = omega arith in
    ap (take 4) (drop_at 0 s at (omega arith) ∙ ap (λ (l : List ℕ). slice_index s at ∷ l) (drop_at 0 s (at + 1) (omega arith) ∙ ap (λ (l : List ℕ). slice_index s (at + 1) ∷ l) (ap (λ (n : ℕ). drop n s) e
    ∙ drop_at 0 s (at + 2) (omega arith) ∙ ap (λ (l : List ℕ). slice_index s (at + 2) ∷ l) (ap (λ (n : ℕ). drop n s) f ∙ drop_at 0 s (at + 3) (omega arith)))))

-- a byte of ASCII
pub ascii-at : (s : List ℕ) (i : ℕ) → all_in Ascii (map pos s) ≡ true → slice_index s i < 128
ascii-at [] zero h = omega arith
ascii-at [] (suc i) h = omega arith
ascii-at (x ∷ s) zero h = let l = leb-true x 127 (sym (ascii x) ∙ (all_split Ascii (pos x) (map pos s) _ refl h).0) in omega arith
ascii-at (x ∷ s) (suc i) h = ascii-at s i (all_split Ascii (pos x) (map pos s) _ refl h).1

-- names that are ASCII are allowed where they are padded
pub allowed-padded : (m n : ℕ) (xs : List ℤ) (r : Bool) → all_in Ascii xs ≡ true → m ≡ n → r ≡ padded_from n 0 (pos 0) xs → r ≡ allowed Names m xs
allowed-padded m n xs r h e q = q ∙ ap (λ (k : ℕ). padded_from k 0 (pos 0) xs) (sym e) ∙ sym (ap (λ (t : Bool). t && padded_from m 0 (pos 0) xs) h)

-- names of one byte are padded
pub padded-one : (i : ℕ) (a : ℤ) (xs : List ℤ) → padded_from 1 i a xs ≡ true
unfolding padded_from
padded-one i a [] = refl
padded-one i a (x ∷ xs) = rw (eq-eqb (i % 1) 0 (mod-one i), padded-one (suc i) x xs)

-- the higher of two bytes is ASCII where both are
pub higher-ascii : (a b : ℕ) → a ≤ b → nat_le b 127 ≡ nat_le a 127 && nat_le b 127
higher-ascii a b h = by (nat_le b 127) refl
  where
    by : (t : Bool) → nat_le b 127 ≡ t → t ≡ nat_le a 127 && t
    by true e = let l = leb-true b 127 e in rw (le-leb a 127 (omega arith))
    by false e = sym (and-false (nat_le a 127))

-- the mark of a byte
mark : (x : ℕ) → x < 128 → bit_and (x + 127) 128 ≡ cond (x == 0) 0 128
mark x h = by (x == 0) refl
  where
    by : (t : Bool) → (x == 0) ≡ t → bit_and (x + 127) 128 ≡ cond t 0 128
    by true e = let z = eqb-true x 0 e in rw z
    by false e =
        let z = eqb-false x 0 e in
        let q : (x + 127) / 128 % 2 ≡ 1 = omega arith in
        and_high (x + 127) 1 7 ∙ ap (λ (n : ℕ). n * 128) q

-- the marks of a word
marks : (a b c d : ℕ) → a < 128 → b < 128 → c < 128 → d < 128
    → marks_of (word_of a b c d) ≡ ((cond (d == 0) 0 128 * 256 + cond (c == 0) 0 128) * 256 + cond (b == 0) 0 128) * 256 + cond (a == 0) 0 128
marks a b c d ha hb hc hd =
    let u = d + 127 in
    let v = u * 256 + (c + 127) in
    let w = v * 256 + (b + 127) in
    let e : (word_of a b c d + 2139062143) % 4294967296 ≡ w * 256 + (a + 127) = mod-eq_of_lt (omega arith) ∙ omega arith in
    ap (λ (n : ℕ). bit_and n 2155905152) e ∙ and_block 8 w 8421504 (a + 127) 128 (omega arith) (omega arith)
    ∙ ap₂ (λ (x y : ℕ). x * 256 + y) (and_block 8 v 32896 (b + 127) 128 (omega arith) (omega arith)
    ∙ ap₂ (λ (x y : ℕ). x * 256 + y) (and_block 8 u 128 (c + 127) 128 (omega arith) (omega arith)
    ∙ ap₂ (λ (x y : ℕ). x * 256 + y) (mark d hd) (mark c hc)) (mark b hb)) (mark a ha)

-- a name of four bytes is padded where the bytes of its word that are 0 are the last
pub four-name : (a b c d : ℕ) → a < 128 → b < 128 → c < 128 → d < 128 → zeros_last (word_of a b c d) ≡ one_name (a ∷ b ∷ c ∷ d ∷ [])
unfolding padded_from
four-name a b c d ha hb hc hd = ap test (marks a b c d ha hb hc hd) ∙ table (a == 0) (b == 0) (c == 0) (d == 0)
  where
    test : ℕ → Bool
    test n = n == 0 || n == 128 || n == 32896 || n == 8421504 || n == 2155905152

    table : (p q r t : Bool) → test (((cond t 0 128 * 256 + cond r 0 128) * 256 + cond q 0 128) * 256 + cond p 0 128) ≡ (not p || q) && ((not q || r) && ((not r || t) && true))
    table true true true true = refl
    table true true true false = refl
    table true true false true = refl
    table true true false false = refl
    table true false true true = refl
    table true false true false = refl
    table true false false true = refl
    table true false false false = refl
    table false true true true = refl
    table false true true false = refl
    table false true false true = refl
    table false true false false = refl
    table false false true true = refl
    table false false true false = refl
    table false false false true = refl
    table false false false false = refl
