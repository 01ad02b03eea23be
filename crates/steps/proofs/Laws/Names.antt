-- Laws of names by their bytes: their values are the bytes as numbers with signs, and they are judged as the bytes are. Assumes nothing.
use Rattle.std.specs.Prelude.{◌≡◌, ℕ, zero, suc, ◌+◌, ◌-◌, ◌<◌, ◌≤◌, Bool, true, false, ◌&&◌, List, [], ◌∷◌, map, length, drop, ℤ, pos, negsuc, ◌==◌, nat_lt, slice_index, slice_index_or, refl}
use Rattle.std.proofs.Common.{sym, ap, ap₂, ◌∙◌, add-zero, div-one, arith, to_z, of_z, to_z-of_z, ne_eqb, eqb-true, ltb-true, ltb-false}
use Rattle.std.specs.Int.{w8, w32}
use Rattle.std.proofs.Math.Facts.{sfits_to_z, sfits_widen, to_z_inj, to_z_pos, to_z-neg}
use Rattle.std.proofs.lemmas.Bool.{eqb-false, lt-leb}
use Rattle.numbers.specs.BigEndian.{Bytes, signed_at, unsigned_at}
use Rattle.numbers.specs.Laws.BigEndian.{unsigned_at-loads}
use Rattle.steps.specs.declared.Size.TheVariants.{One}
use Rattle.steps.specs.declared.Range.TheVariants.{Ascii}
use Rattle.steps.specs.declared.Form.TheVariants.{Names}
use Rattle.steps.specs.Numbers.{numbers_in}
use Rattle.steps.specs.Payload.{in_range, all_in, padded_from, allowed}
use Rattle.steps.proofs.Laws.Numbers.{numbers-step, numbers-end, length-numbers}
use Rattle.steps.proofs.Laws.Lists.{map_at, map-end}
use Rattle.steps.proofs.Laws.Allowed.{ascii}

-- as many values as bytes
pub names-length : (s : List ℕ) → length (numbers_in One s) ≡ length s
names-length s = length-numbers One s ∙ div-one (length s)

-- the number of a byte is 0 only where the byte is
bits-zero : (b : ℕ) → b < 256 → of_z w32 (to_z w8 b) ≡ 0 → b ≡ 0
bits-zero b h q =
    let f = sfits_to_z {w = w8} {n = b} (record { fits = h }) in
    let e : to_z w8 b ≡ to_z w8 0 = sym (to_z-of_z {w = w32} (sfits_widen {w = w8} {w' = w32} tt f)) ∙ ap (to_z w32) q in
    to_z_inj {w = w8} (record { fits = h }) (record { fits = omega arith }) e

-- a byte is 0 where its number is
zero-byte : (b : ℕ) → b < 256 → (of_z w32 (to_z w8 b) == 0) ≡ (b == 0)
zero-byte b h = by (b == 0) refl
  where
    by : (t : Bool) → (b == 0) ≡ t → (of_z w32 (to_z w8 b) == 0) ≡ t
    by true e = let z = eqb-true b 0 e in rw z
    by false e = ne_eqb (of_z w32 (to_z w8 b)) 0 (λ q. eqb-false b 0 e (bits-zero b h q))

-- the number of a byte
byte-number : (s : List ℕ) (i : ℕ) → i < length s → signed_at w8 s i ≡ to_z w8 (slice_index s i)
unfolding signed_at
byte-number s i h =
    let e : unsigned_at 1 s i ≡ slice_index_or s i 0 = let f = rw add-zero at (unsigned_at-loads 1 s i (omega arith)) in omega arith in
    ap (to_z w8) e

-- the numbers of bytes, one for each
pub numbers-bytes : (s : List ℕ) → numbers_in One s ≡ map (to_z w8) s
numbers-bytes s = from (length s) 0 (omega arith)
  where
    from : (n i : ℕ) → i + n ≡ length s → numbers_in One (drop i s) ≡ map (to_z w8) (drop i s)
    from zero i e = numbers-end One s i (omega arith) ∙ sym (map-end (to_z w8) 0 s i (omega arith))
    from (suc n) i e =
        let h : i < length s = omega arith in
        numbers-step One s i (omega arith) ∙ ap₂ (λ (x : ℤ) (l : List ℤ). x ∷ l) (byte-number s i h) (from n (i + 1) (omega arith)) ∙ sym (map_at (to_z w8) 0 s i h)

-- a byte from 128 on is a number below 0
pub high_byte : (x : ℕ) → 128 ≤ x → x < 256 → to_z w8 x ≡ negsuc (255 - x)
high_byte x l h = let q : 256 - suc (255 - x) ≡ x = omega arith in ap (to_z w8) (sym q) ∙ to_z-neg w8 (255 - x) (omega arith)

-- it is not in ASCII, as the byte is not
ascii-byte : (x : ℕ) → x < 256 → in_range Ascii (to_z w8 x) ≡ in_range Ascii (pos x)
ascii-byte x h = by (nat_lt x 128) refl
  where
    by : (t : Bool) → nat_lt x 128 ≡ t → in_range Ascii (to_z w8 x) ≡ in_range Ascii (pos x)
    by true e = ap (in_range Ascii) (to_z_pos w8 {n = x} (ltb-true x 128 e))
    by false e =
        let l = ltb-false x 128 e in
        ap (in_range Ascii) (high_byte x (omega arith) h) ∙ sym (ascii x ∙ lt-leb x 127 (omega arith))

-- so that names are judged by their bytes
all-bytes : (s : List ℕ) → Bytes s → all_in Ascii (map (to_z w8) s) ≡ all_in Ascii (map pos s)
unfolding all_in Bytes
all-bytes [] b = refl
all-bytes (x ∷ s) b = ap₂ (λ (t u : Bool). t && u) (ascii-byte x (b 0 (omega arith))) (all-bytes s (λ i h. b (suc i) (omega arith)))

padded-bytes : (m i before : ℕ) (s : List ℕ) → before < 256 → Bytes s → padded_from m i (to_z w8 before) (map (to_z w8) s) ≡ padded_from m i (pos before) (map pos s)
unfolding padded_from Bytes
padded-bytes m i before [] h b = refl
padded-bytes m i before (x ∷ s) h b =
    let l : x < 256 = b 0 (omega arith) in
    rw (zero-byte before h, zero-byte x l, padded-bytes m (suc i) x s l (λ j k. b (suc j) (omega arith)))

pub allowed-bytes : (m : ℕ) (s : List ℕ) → Bytes s → allowed Names m (numbers_in One s) ≡ allowed Names m (map pos s)
allowed-bytes m s b = ap (allowed Names m) (numbers-bytes s) ∙ ap₂ (λ (t u : Bool). t && u) (all-bytes s b) (padded-bytes m 0 0 s (omega arith) b)
