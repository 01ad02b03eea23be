-- Laws of plain numbers: their count is the payload's size, each stands at its place, and is written there. Assumes nothing.
use Rattle.std.specs.Prelude.{Ok, Err, ◌≡◌, ℕ, zero, suc, ◌+◌, ◌*◌, ◌/◌, ◌<◌, ◌≤◌, Bool, true, false, ◌&&◌, List, [], ◌∷◌, ◌++◌, map, length, get_or, take, drop, ℤ, pos, ◌≢◌, slice_index_or, slice_set, refl}
use Rattle.std.proofs.Common.{sym, ap, ◌∙◌, add-zero, div-mul-le_self, mul-le-mul_right, arith, to_z, eq-eqb, ne_eqb}
use Rattle.std.proofs.Math.Bool.{and-eq-true_iff}
use Rattle.std.proofs.lemmas.List.{length-map}
use Rattle.std.proofs.Math.ListN.{get_or-map}
use Rattle.std.specs.Int.{w8, w16, w32}
use Rattle.refusal.specs.Table.{length_differs}
use Rattle.numbers.specs.BigEndian.{signed_at}
use Rattle.numbers.specs.Laws.BigEndian.{unsigned_at-part}
use Rattle.steps.specs.declared.Size.{Size}
use Rattle.steps.specs.declared.Size.TheVariants.{One, Two, Four}
use Rattle.steps.specs.declared.Form.TheVariants.{Plain}
use Rattle.steps.specs.Width.{width_of, size_of}
use Rattle.steps.specs.Delta.{sums_if}
use Rattle.steps.specs.Numbers.{numbers_in}
use Rattle.steps.proofs.Laws.Numbers.{numbers-step, length-numbers}
use Rattle.steps.proofs.Laws.Delta.{results-plain}
use Rattle.steps.specs.Payload.{read_in}
use Rattle.payloads.specs.Exact.{exact, all_exact}
use Rattle.payloads.specs.Results.{HasResults, Wrote, ResultsExact}
use Rattle.payloads.specs.Scan.{judges_exact, scan_of}
use Rattle.payloads.specs.Laws.Exact.{plain-exact}
use Rattle.payloads.specs.Laws.Writing.{laid_next, laid-all}

-- a number of a part of a payload is the number of the payload itself
pub number-within : (z : Size) (s : List ℕ) (at n i : ℕ) → at + n ≤ length s → i + size_of z ≤ n → signed_at (width_of z) (take n (drop at s)) i ≡ signed_at (width_of z) s (at + i)
unfolding signed_at
number-within One s at n i h l = ap (to_z w8) (unsigned_at-part 1 s at n i h l)
number-within Two s at n i h l = ap (to_z w16) (unsigned_at-part 2 s at n i h l)
number-within Four s at n i h l = ap (to_z w32) (unsigned_at-part 4 s at n i h l)

-- the number at i, counted from the place j
number-from : (z : Size) (s : List ℕ) (i j : ℕ) → j + suc i * size_of z ≤ length s → slice_index_or (numbers_in z (drop j s)) i (pos 0) ≡ signed_at (width_of z) s (j + i * size_of z)
number-from z s zero j h =
    let a : suc 0 * size_of z ≡ size_of z = omega arith in
    let b : j + 0 * size_of z ≡ j = omega arith in
    rw b (ap (λ (l : List ℤ). get_or l 0 (pos 0)) (numbers-step z s j (omega arith)))
number-from z s (suc i) j h =
    let a : suc (suc i) * size_of z ≡ size_of z + suc i * size_of z = omega arith in
    let b : suc i * size_of z ≡ size_of z + i * size_of z = omega arith in
    let e : j + suc i * size_of z ≡ j + size_of z + i * size_of z = omega arith in
    rw e (ap (λ (l : List ℤ). get_or l (suc i) (pos 0)) (numbers-step z s j (omega arith)) ∙ number-from z s i (j + size_of z) (omega arith))

-- a place before the end of n numbers
pub place_in : (z : Size) (b n i : ℕ) → b / size_of z ≡ n → i < n → suc i * size_of z ≤ b
place_in z b n i e h =
    let a : suc i * size_of z ≤ n * size_of z = mul-le-mul_right (size_of z) h in
    let c : b / size_of z * size_of z ≤ b = div-mul-le_self b (size_of z) in
    let d : b / size_of z * size_of z ≡ n * size_of z = ap (λ (k : ℕ). k * size_of z) e in
    omega arith

pub number-at-place : (z : Size) (s : List ℕ) (n i : ℕ) → length s / size_of z ≡ n → i < n → slice_index_or (numbers_in z s) i (pos 0) ≡ signed_at (width_of z) s (i * size_of z)
number-at-place z s n i e h =
    let a : 0 + i * size_of z ≡ i * size_of z = omega arith in
    let b = place_in z (length s) n i e h in
    number-from z s i 0 (omega arith) ∙ ap (signed_at (width_of z) s) a

-- whether they are exact
plain-judged : (z : Size) (d : Bool) (s : List ℕ) → (judges_exact (Plain z) d && all_exact (sums_if d (numbers_in z s))) ≡ judges_exact (Plain z) d
plain-judged One false s = ap all_exact (results-plain (pos 0) (numbers_in One s)) ∙ plain-exact One s (λ e. let y : ◌≡◌ {A = ℕ} 0 1 = cc in absurd (omega arith))
plain-judged Two false s = ap all_exact (results-plain (pos 0) (numbers_in Two s)) ∙ plain-exact Two s (λ e. let y : ◌≡◌ {A = ℕ} 0 1 = cc in absurd (omega arith))
plain-judged One true s = refl
plain-judged Two true s = refl
plain-judged Four d s = refl

module _ (z : Size) (d : Bool) (s : List ℕ) (n : ℕ) where
  pub plain_other : (length s / size_of z ≢ n) → scan_of (Plain z) d n (read_in (Plain z) s) ≡ Err length_differs
  unfolding read_in
  plain_other h = rw (ne_eqb (length (numbers_in z s)) n (λ e. h (sym (length-numbers z s) ∙ e)))

  pub plain-right : length s / size_of z ≡ n → scan_of (Plain z) d n (read_in (Plain z) s) ≡ Ok (judges_exact (Plain z) d)
  unfolding read_in
  plain-right e = rw (eq-eqb (length (numbers_in z s)) n (length-numbers z s ∙ e), plain-judged z d s)

-- Written one after the other

-- a number in the part of a payload that it fills is the number of the payload itself
pub number-part : (z : Size) (s : List ℕ) (at : ℕ) → at + size_of z ≤ length s → signed_at (width_of z) (take (size_of z) (drop at s)) 0 ≡ signed_at (width_of z) s at
number-part z s at h = number-within z s at (size_of z) 0 h (omega arith) ∙ ap (signed_at (width_of z) s) (add-zero at)

exact-at : (l : List ℤ) (i : ℕ) → all_exact l ≡ true → i < length l → exact (slice_index_or l i (pos 0)) ≡ true
unfolding all_exact
exact-at [] i e h = absurd (omega arith)
exact-at (x ∷ l) zero e h = ((and-eq-true_iff (exact x) (all_exact l)).0 e).0
exact-at (x ∷ l) (suc i) e h = exact-at l i ((and-eq-true_iff (exact x) (all_exact l)).0 e).1 (omega arith)

module _ {B : Type 0} (g : ℤ → B) (z : Size) (s : List ℕ) (n : ℕ) (held : HasResults (Plain z) s n) where
  plain-read : held.0 ≡ numbers_in z s
  unfolding read_in
  plain-read = let e = held.1 in cc

  plain_size : length s / size_of z ≡ n
  plain_size = sym (length-numbers z s) ∙ ap length (sym plain-read) ∙ held.2

  plain-count : length (map g (numbers_in z s)) ≡ n
  plain-count = length-map (numbers_in z s) g ∙ length-numbers z s ∙ plain_size

  -- the elements of the first i numbers stand at the buffer's start
  abbrev pub PlainTo : List B → ℕ → List B → Type 0
  PlainTo old i new = new ≡ take i (map g (numbers_in z s)) ++ drop i old

  module _ (i : ℕ) (h : i < n) where
    -- the bytes of the number at i are inside
    pub plain-inside : i * size_of z + size_of z ≤ length s
    plain-inside = let a = place_in z (length s) n i plain_size h in omega arith

    plain-number : signed_at (width_of z) (take (size_of z) (drop (i * size_of z) s)) 0 ≡ slice_index_or (numbers_in z s) i (pos 0)
    plain-number = number-part z s (i * size_of z) plain-inside ∙ sym (number-at-place z s n i plain_size h)

    module _ (x : ℤ) (e : x ≡ signed_at (width_of z) (take (size_of z) (drop (i * size_of z) s)) 0) where
      -- it is exact where all results are
      pub plain-exact-at : ResultsExact (Plain z) false s → exact x ≡ true
      plain-exact-at r =
          let a : all_exact (numbers_in z s) ≡ true = rw (results-plain (pos 0) (numbers_in z s)) at (rw plain-read at (r held.0 held.1)) in
          let l : i < length (numbers_in z s) = rw (length-numbers z s, plain_size) h in
          rw (e, plain-number) (exact-at (numbers_in z s) i a l)

      -- one number more
      pub plain-next : (old new : List B) (b : B) → n ≤ length old → b ≡ g x → PlainTo old i new → PlainTo old (i + 1) (slice_set new i b)
      plain-next old new b k q w =
          let c = plain-count in
          let a : b ≡ get_or (map g (numbers_in z s)) i (g (pos 0)) = q ∙ ap g (e ∙ plain-number) ∙ sym (get_or-map g (numbers_in z s) i (pos 0)) in
          laid_next (map g (numbers_in z s)) old new i b (g (pos 0)) (omega arith) (omega arith) a w

  -- at the end all is written
  pub plain-wrote : (old new : List B) (i : ℕ) → i ≡ n → PlainTo old i new → Wrote g (Plain z) false s old new
  plain-wrote old new i e w l q =
      let c = plain-count in
      let a : l ≡ numbers_in z s = (let y : l ≡ held.0 = cc held.1 in y ∙ plain-read) in
      let d = length-map (numbers_in z s) g in
      rw (a, results-plain (pos 0) (numbers_in z s), ← d) (laid-all (map g (numbers_in z s)) old new i (omega arith) w)
