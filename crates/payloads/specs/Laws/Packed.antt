-- Laws of scans and of writing of packed numbers, number by number. Assumes nothing.
use Rattle.std.specs.Prelude.{Ok, Err, ◌≡◌, ℕ, ◌+◌, ◌-◌, ◌<◌, ◌≤◌, Bool, true, false, cond, ◌&&◌, List, [], ◌∷◌, ◌++◌, length, take, drop, ℤ, pos, ◌≢◌, slice_set, refl}
use Rattle.std.proofs.Common.{sym, ap, subst, ◌∙◌, append-nil, append_assoc, add-zero, arith, length-append, eq-eqb, ne_eqb}
use Rattle.std.proofs.Math.Option.{Option, none, some, map}
use Rattle.refusal.specs.Table.{number_not_allowed, length_differs}
use Rattle.numbers.specs.BigEndian.{signed_at}
use Rattle.steps.specs.declared.Size.{Size}
use Rattle.steps.specs.declared.Form.TheVariants.{Packed}
use Rattle.steps.specs.declared.Turn.{Turn}
use Rattle.steps.specs.declared.Turn.TheVariants.{More, Done, Wrong}
use Rattle.steps.specs.Width.{width_of, size_of}
use Rattle.steps.specs.Delta.{advance, results_from, last_from}
use Rattle.steps.specs.Steps.{turn_of}
use Rattle.steps.proofs.Laws.Allowed.{and-true}
use Rattle.steps.specs.Payload.{read_in}
use Rattle.steps.proofs.Laws.Delta.{results-one, last_one}
use Rattle.payloads.specs.Exact.{exact, all_exact}
use Rattle.payloads.specs.Scan.{scan_of}
use Rattle.payloads.specs.Results.{HasRoom, Wrote}
use Rattle.payloads.specs.Laws.Items.{from, after, from-turn, from_end, from_some, packed-is}
use Rattle.payloads.specs.Laws.Exact.{exact-append}
use Rattle.payloads.specs.Laws.Scan.{map-id, map_both}
use Rattle.payloads.specs.Laws.Plain.{number-within}
use Rattle.payloads.specs.Laws.Writing.{WrittenTo, written_start, written-length, written-left, written_one, written-end, written-wrong}

-- the number at the start of what is left
pub part-first : (z : Size) (s : List ℕ) (at : ℕ) → at + size_of z ≤ length s → signed_at (width_of z) (take (length s - at) (drop at s)) 0 ≡ signed_at (width_of z) s at
part-first z s at h = number-within z s at (length s - at) 0 (omega arith) (omega arith) ∙ ap (signed_at (width_of z) s) (add-zero at)

-- The results of the values p are done before the place: how many, the last, and whether all are exact. A result that has begun has the
-- sum `part` so far.
abbrev pub Unpacked : Size → Bool → List ℕ → ℕ → ℤ → Bool → ℕ → ℤ → Bool → Type 0
Unpacked z d s at part begun count sum ok =
    (p : List ℤ) × (read_in (Packed z) s ≡ map (λ (l : List ℤ). p ++ l) (from z s part begun at)) × (count ≡ length p) × (sum ≡ last_from d (pos 0) p)
    × (ok ≡ all_exact (results_from d (pos 0) p))

pub unpacked-start : (z : Size) (d : Bool) (s : List ℕ) → Unpacked z d s 0 (pos 0) false 0 (pos 0) true
unfolding last_from results_from all_exact
unpacked-start z d s = ([], packed-is z s 0 ∙ map-id (from z s (pos 0) false 0), refl, refl, refl)

exact_one : (l : List ℤ) (y : ℤ) → all_exact (l ++ (y ∷ [])) ≡ (all_exact l && exact y)
unfolding all_exact
exact_one l y = exact-append l (y ∷ []) ∙ ap (λ (b : Bool). all_exact l && b) (and-true (exact y))

module _ (z : Size) (d : Bool) (n : ℕ) (s : List ℕ) (at : ℕ) (part : ℤ) (begun : Bool) (count : ℕ) (sum : ℤ) (ok : Bool) (w : Unpacked z d s at part begun count sum ok) where
  module _ (h : at + size_of z ≤ length s) where
    turned : (u : Turn) → turn_of z part (signed_at (width_of z) s at) ≡ u → read_in (Packed z) s ≡ map (λ (l : List ℤ). w.0 ++ l) (after z u s (at + size_of z))
    turned u e =
        w.1 ∙ ap (map (λ (l : List ℤ). w.0 ++ l)) (from-turn z part begun s at h ∙ ap (λ (v : Turn). after z v s (at + size_of z)) e)

    -- a limit: the result goes on
    pub unpacked-more : (a : ℤ) → turn_of z part (signed_at (width_of z) s at) ≡ More a → Unpacked z d s (at + size_of z) a true count sum ok
    unpacked-more a e = (w.0, turned (More a) e, w.2, w.3, w.4)

    -- a result more
    pub unpacked-done : (r y : ℤ) → turn_of z part (signed_at (width_of z) s at) ≡ Done r → y ≡ advance d sum r
        → Unpacked z d s (at + size_of z) (pos 0) false (count + 1) y (ok && exact y)
    unpacked-done r y e q =
        let a = turned (Done r) e ∙ map_both (λ (l : List ℤ). w.0 ++ l) (λ (l : List ℤ). r ∷ l) (from z s (pos 0) false (at + size_of z)) in
        let v = q ∙ ap (λ (x : ℤ). advance d x r) w.3 in
        let l = length-append w.0 (r ∷ []) in
        let k = w.2 in
        let m = results-one d (pos 0) w.0 r ∙ ap (λ (x : ℤ). results_from d (pos 0) w.0 ++ (x ∷ [])) (sym v) in (
          w.0 ++ (r ∷ []),
          simp append_assoc a,
          omega arith,
          v ∙ sym (last_one d (pos 0) w.0 r),
          ap (λ (b : Bool). b && exact y) w.4 ∙ sym (ap all_exact m ∙ exact_one (results_from d (pos 0) w.0) y),
        )

    -- a sum outside 32 bits
    pub unpacked-wrong : turn_of z part (signed_at (width_of z) s at) ≡ Wrong → Err number_not_allowed ≡ scan_of (Packed z) d n (read_in (Packed z) s)
    unpacked-wrong e = sym (ap (scan_of (Packed z) d n) (turned Wrong e))

  module _ (h : length s - at < size_of z) where
    left : from z s part begun at ≡ cond begun none (some [])
    left = from_end z part begun s at h

    -- an unfinished result
    pub unpacked-unfinished : begun ≡ true → Err number_not_allowed ≡ scan_of (Packed z) d n (read_in (Packed z) s)
    unpacked-unfinished e =
        let a = w.1 ∙ ap (map (λ (l : List ℤ). w.0 ++ l)) (left ∙ ap (λ (b : Bool). cond b none (some [])) e) in
        sym (ap (scan_of (Packed z) d n) a)

    module _ (e : begun ≡ false) where
      pub unpacked-whole : read_in (Packed z) s ≡ some w.0
      unpacked-whole = w.1 ∙ ap (map (λ (l : List ℤ). w.0 ++ l)) (left ∙ ap (λ (b : Bool). cond b none (some [])) e) ∙ ap some (append-nil w.0)

      -- too many results, or too few
      pub unpacked-other : (count ≢ n) → Err length_differs ≡ scan_of (Packed z) d n (read_in (Packed z) s)
      unpacked-other q = sym (ap (scan_of (Packed z) d n) unpacked-whole ∙ rw (ne_eqb (length w.0) n (λ x. q (w.2 ∙ x))))

      -- as many as there should be
      pub unpacked-all : count ≡ n → Ok ok ≡ scan_of (Packed z) d n (read_in (Packed z) s)
      unpacked-all q =
          sym (ap (scan_of (Packed z) d n) unpacked-whole ∙ rw (eq-eqb (length w.0) n (sym w.2 ∙ q)) (sym (ap Ok w.4)))

-- Writing

module _ {B : Type 0} (g : ℤ → B) (z : Size) (d : Bool) (s : List ℕ) (old : List B) (room : HasRoom (Packed z) s (length old)) where
  -- the results before the place stand at the buffer's start, and `part` is the sum of one that may have begun
  abbrev pub WrittenPacked : ℕ → ℤ → ℕ → List B → ℤ → Type 0
  WrittenPacked at part o new x = (begun : Bool) × WrittenTo g (Packed z) d s old room (from z s part begun at) o new x

  pub packed-written-start : WrittenPacked 0 (pos 0) 0 old (pos 0)
  packed-written-start = (false, subst (λ (l : Option (List ℤ)). WrittenTo g (Packed z) d s old room l 0 old (pos 0)) (packed-is z s 0) (written_start g (Packed z) d s old room))

  module _ (at : ℕ) (part : ℤ) (o : ℕ) (new : List B) (x : ℤ) (w : WrittenPacked at part o new x) where
    pub packed-written-length : length new ≡ length old
    packed-written-length = written-length g (Packed z) d s old room (from z s part w.0 at) o new x w.1

    module _ (h : at + size_of z ≤ length s) where
      pub step : (u : Turn) → turn_of z part (signed_at (width_of z) s at) ≡ u → from z s part w.0 at ≡ after z u s (at + size_of z)
      step u e = from-turn z part w.0 s at h ∙ ap (λ (v : Turn). after z v s (at + size_of z)) e

      pub packed-written-more : (a : ℤ) → turn_of z part (signed_at (width_of z) s at) ≡ More a → WrittenTo g (Packed z) d s old room (from z s a true (at + size_of z)) o new x
      packed-written-more a e = subst (λ (l : Option (List ℤ)). WrittenTo g (Packed z) d s old room l o new x) (step (More a) e) w.1

      module _ (r : ℤ) (e : turn_of z part (signed_at (width_of z) s at) ≡ Done r) where
        pub packed-written-done : (y : ℤ) (b c : B) → y ≡ advance d x r → b ≡ g y → WrittenPacked (at + size_of z) (pos 0) (o + 1) (slice_set new o b) y
        packed-written-done y b c q k =
            (false, written_one g (Packed z) d s old room (from z s part w.0 at) o new x w.1 r 1 (from z s (pos 0) false (at + size_of z)) (step (Done r) e) refl y b c q k)

      pub packed-written-wrong : {A : Type 0} → turn_of z part (signed_at (width_of z) s at) ≡ Wrong → A
      packed-written-wrong e = written-wrong g (Packed z) d s old room (from z s part w.0 at) o new x w.1 (step Wrong e)

      -- a result is left, for which there is room
      pub packed-written-left : o + 1 ≤ length new
      packed-written-left = written-left g (Packed z) d s old room (from z s part w.0 at) o new x w.1 (λ r e. from_some z part w.0 s at h r e)

    -- where too few bytes are left no result has begun
    pub packed-written-unfinished : {A : Type 0} → length s - at < size_of z → w.0 ≡ true → A
    packed-written-unfinished h e = written-wrong g (Packed z) d s old room (from z s part w.0 at) o new x w.1 (from_end z part w.0 s at h ∙ ap (λ (b : Bool). cond b none (some [])) e)

    -- and all is written
    pub packed-written-end : length s - at < size_of z → Wrote g (Packed z) d s old new
    packed-written-end h = by w.0 w.1
      where
        by : (b : Bool) → WrittenTo g (Packed z) d s old room (from z s part b at) o new x → Wrote g (Packed z) d s old new
        by true v = written-wrong g (Packed z) d s old room (from z s part true at) o new x v (from_end z part true s at h)
        by false v = written-end g (Packed z) d s old room (from z s part false at) o new x v (from_end z part false s at h)
