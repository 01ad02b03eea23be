-- Laws of a number that is found after its payload was checked: the place of a plain number, and the walk over packed numbers and over
-- runs. Assumes nothing.
use Rattle.std.specs.Prelude.{Result, Ok, Err, ◌≡◌, refl, Bool, true, false, cond, ◌&&◌, List, [], ◌∷◌, ◌++◌, ℕ, zero, suc, ◌+◌, ◌-◌, ◌*◌, ◌/◌, ◌<◌, ◌≤◌, length, drop, get_or, replicate, ℤ, pos, ◌+ℤ◌, ltb}
use Rattle.std.proofs.Common.{sym, ap, ◌∙◌, append-nil, append_assoc, length-append, of_z, SFits, eq-eqb, ltb-true, ltb-false}
use Rattle.std.proofs.Math.Option.{Option, some, map}
use native.Mathlib.Omega.{arith}
use Rattle.std.proofs.lemmas.List.{length-replicate}
use Rattle.std.specs.Int.Signed.{mag}
use Rattle.std.specs.Int.{w32}
use Rattle.refusal.specs.Table.{number_not_allowed, length_differs}
use Rattle.numbers.specs.BigEndian.{signed_at}
use Rattle.steps.specs.declared.Size.{Size}
use Rattle.steps.specs.declared.Range.{Range}
use Rattle.steps.specs.declared.Form.TheVariants.{Plain, Packed, Runs}
use Rattle.steps.specs.declared.Turn.TheVariants.{More, Done}
use Rattle.steps.specs.Width.{width_of, size_of, upper, lower}
use Rattle.steps.specs.Numbers.{numbers_in}
use Rattle.steps.specs.Delta.{plus_delta, sums_if, advance, results_from, last_from, after_run}
use Rattle.steps.specs.Packing.{is_limit}
use Rattle.steps.specs.Steps.{turn_of}
use Rattle.steps.proofs.Laws.Numbers.{length-numbers}
use Rattle.steps.proofs.Laws.NumbersBack.{signed_at-32}
use Rattle.steps.proofs.Laws.Packing.{turn_inside, turn-outside}
use Rattle.steps.specs.Payload.{read_in}
use Rattle.steps.proofs.Laws.Delta.{length-results, results-append, last-append, run_at, run-last}
use Rattle.payloads.specs.Scan.{judges_exact, scan_of}
use Rattle.payloads.specs.Laws.Items.{from, runs-end}
use Rattle.payloads.specs.Laws.Plain.{place_in, number-at-place}
use Rattle.payloads.specs.Laws.Scan.{get_d-left, get_d-right, map-id, map_both, rest_of}
use Rattle.payloads.specs.Laws.Packed.{Unpacked, unpacked-start, unpacked-more, unpacked-done, unpacked-wrong, unpacked-unfinished, unpacked-other}
use Rattle.payloads.specs.Laws.Totals.{total-more, total-start}
use Rattle.payloads.specs.Laws.Runs.{run-here}
use Rattle.payloads.specs.Exact.{exact, all_exact}

-- Values before a place

-- a result of the values before the place
result-before : (d : Bool) (p l : List ℤ) (o : Option (List ℤ)) (i : ℕ) → some l ≡ map (λ (m : List ℤ). p ++ m) o → i < length p → get_or (results_from d (pos 0) p) i (pos 0) ≡ get_or (sums_if d l) i (pos 0)
result-before d p l o i q h =
    let m = rest_of p l o q in
    let k = length-results d (pos 0) p in
    sym (ap (λ (t : List ℤ). get_or t i (pos 0)) (ap (results_from d (pos 0)) m.2 ∙ results-append d (pos 0) p m.0) ∙ get_d-left (results_from d (pos 0) p) (results_from d (last_from d (pos 0) p) m.0) i (omega arith))

-- the last result of some
result-last : (d : Bool) (a : ℤ) (p : List ℤ) (i : ℕ) → length p ≡ suc i → get_or (results_from d a p) i (pos 0) ≡ last_from d a p
unfolding results_from last_from
result-last d a [] i h = absurd (omega arith)
result-last d a (v ∷ []) zero h = refl
result-last d a (v ∷ []) (suc i) h = absurd (omega arith)
result-last d a (v ∷ (w ∷ p)) zero h = absurd (omega arith)
result-last d a (v ∷ (w ∷ p)) (suc i) h = result-last d (advance d a v) (w ∷ p) i (omega arith)

-- Plain numbers

-- the one at i stands at its place
pub plain_here : (z : Size) (s : List ℕ) (i : ℕ) (l : List ℤ) → read_in (Plain z) s ≡ some l → i < length l → (suc i * size_of z ≤ length s) × (signed_at (width_of z) s (i * size_of z) ≡ get_or l i (pos 0))
unfolding read_in
plain_here z s i l e h =
    let q : l ≡ numbers_in z s = cc in
    let n : length s / size_of z ≡ length l = sym (ap length q ∙ length-numbers z s) in
    (place_in z (length s) (length l) i n h, sym (ap (λ (t : List ℤ). get_or t i (pos 0)) q ∙ number-at-place z s (length l) i n h))

-- Packed numbers

module _ (z : Size) (d : Bool) (i : ℕ) (s : List ℕ) (l : List ℤ) (e : read_in (Packed z) s ≡ some l) where
  -- the results before the place are not yet the one at i: so many are left before it, and `total` is the total
  abbrev pub Sought : ℕ → ℕ → ℤ → Type 0
  Sought at left total =
      (part : ℤ) × (begun : Bool) × (count : ℕ) × (sum : ℤ) × (ok : Bool) × Unpacked z d s at part begun count sum ok × SFits w32 part × (count + left ≡ i) × (total ≡ advance d sum part)

  pub sought-start : Sought 0 i (pos 0)
  sought-start = (pos 0, false, 0, pos 0, true, unpacked-start z d s, record { sfits = omega arith }, omega arith, first d)
    where
      first : (t : Bool) → pos 0 ≡ advance t (pos 0) (pos 0)
      first true = refl
      first false = refl

  never : {A : Type 0} (r : ℕ) → Err r ≡ scan_of (Packed z) d (length l) (read_in (Packed z) s) → A
  never r q =
      let y : ◌≡◌ {A = Result Bool ℕ} (Err r) (Ok (judges_exact (Packed z) d && all_exact (sums_if d l))) = q ∙ ap (scan_of (Packed z) d (length l)) e ∙ rw (eq-eqb (length l) (length l) refl) in
      let x : ◌≡◌ {A = ℕ} 0 1 = cc in
      absurd (omega arith)

  module _ (at left : ℕ) (total : ℤ) (w : Sought at left total) where
    pub sought-end : {A : Type 0} → length s - at < size_of z → i < length l → A
    sought-end {A} h k = by w.1 refl
      where
        by : (t : Bool) → w.1 ≡ t → A
        by true q = never number_not_allowed (unpacked-unfinished z d (length l) s at w.0 w.1 w.2 w.3 w.4 w.5 h q)
        by false q = never length_differs (unpacked-other z d (length l) s at w.0 w.1 w.2 w.3 w.4 w.5 h q (λ x. let c = w.7 in omega arith))

    module _ (h : at + size_of z ≤ length s) where
      inside : mag (w.0 +ℤ signed_at (width_of z) s at) < 2147483648
      inside = by (ltb (mag (w.0 +ℤ signed_at (width_of z) s at)) 2147483648) refl
        where
          by : (t : Bool) → ltb (mag (w.0 +ℤ signed_at (width_of z) s at)) 2147483648 ≡ t → mag (w.0 +ℤ signed_at (width_of z) s at) < 2147483648
          by true q = ltb-true (mag (w.0 +ℤ signed_at (width_of z) s at)) 2147483648 q
          by false q = never number_not_allowed (unpacked-wrong z d (length l) s at w.0 w.1 w.2 w.3 w.4 w.5 h (turn-outside z w.0 (signed_at (width_of z) s at) (ltb-false (mag (w.0 +ℤ signed_at (width_of z) s at)) 2147483648 q)))

      module _ (y : ℤ) (q : y ≡ plus_delta total (signed_at (width_of z) s at)) where
        next : y ≡ advance d w.3 (w.0 +ℤ signed_at (width_of z) s at)
        next = q ∙ ap (λ (t : ℤ). plus_delta t (signed_at (width_of z) s at)) w.8 ∙ total-more d w.3 w.0 (signed_at (width_of z) s at) w.6 (signed_at-32 z s at) inside

        -- a limit
        pub sought-more : is_limit (upper z) (lower z) (signed_at (width_of z) s at) ≡ true → Sought (at + size_of z) left y
        sought-more m =
            let t : turn_of z w.0 (signed_at (width_of z) s at) ≡ More (w.0 +ℤ signed_at (width_of z) s at) = turn_inside z w.0 (signed_at (width_of z) s at) inside ∙ rw m in
            (w.0 +ℤ signed_at (width_of z) s at, true, w.2, w.3, w.4, unpacked-more z d (length l) s at w.0 w.1 w.2 w.3 w.4 w.5 h (w.0 +ℤ signed_at (width_of z) s at) t, record { sfits = inside }, w.7, next)

        -- the end of a result
        module _ (m : is_limit (upper z) (lower z) (signed_at (width_of z) s at) ≡ false) where
          done : Unpacked z d s (at + size_of z) (pos 0) false (w.2 + 1) y (w.4 && exact y)
          done =
              let t : turn_of z w.0 (signed_at (width_of z) s at) ≡ Done (w.0 +ℤ signed_at (width_of z) s at) = turn_inside z w.0 (signed_at (width_of z) s at) inside ∙ rw m in
              unpacked-done z d (length l) s at w.0 w.1 w.2 w.3 w.4 w.5 h (w.0 +ℤ signed_at (width_of z) s at) y t next

          pub sought-done : SFits w32 y → 0 < left → Sought (at + size_of z) (left - 1) (cond d y (pos 0))
          sought-done k b = let c = w.7 in (pos 0, false, w.2 + 1, y, _, done, record { sfits = omega arith }, omega arith, total-start d y k)

          pub sought-here : left ≡ 0 → y ≡ get_or (sums_if d l) i (pos 0)
          sought-here b =
              let u = done in
              let c = w.7 in
              let k = u.2 in
              let j : length u.0 ≡ suc i = omega arith in
              u.3 ∙ sym (result-last d (pos 0) u.0 i j) ∙ result-before d u.0 l (from z s (pos 0) false (at + size_of z)) i (sym e ∙ u.1) (omega arith)

-- Runs

module _ (r : Range) (d : Bool) (i : ℕ) (s : List ℕ) (l : List ℤ) (e : read_in (Runs r) s ≡ some l) where
  -- the values p of the runs before the place do not reach the result at i: so many results are left before it, and `sum` is the last
  abbrev pub Reaching : ℕ → ℕ → ℤ → Type 0
  Reaching at left sum =
      (p : List ℤ) × (read_in (Runs r) s ≡ map (λ (m : List ℤ). p ++ m) (read_in (Runs r) (drop at s))) × (length p + left ≡ i) × (sum ≡ last_from d (pos 0) p)

  pub reaching-start : Reaching 0 i (pos 0)
  unfolding last_from
  reaching-start = ([], map-id (read_in (Runs r) s), omega arith, refl)

  module _ (at left : ℕ) (sum : ℤ) (w : Reaching at left sum) where
    pub reaching-end : {A : Type 0} → length s - at < 8 → i < length l → A
    reaching-end g k =
        let m = rest_of w.0 l _ (sym e ∙ w.1) in
        let z : some m.0 ≡ some [] = sym m.1 ∙ runs-end r s at g in
        let y : m.0 ≡ [] = cc in
        let x = m.2 ∙ ap (λ (t : List ℤ). w.0 ++ t) y ∙ append-nil w.0 in
        let c = w.2 in
        absurd (omega (arith, ap length x))

    module _ (h : at + 8 ≤ length s) where
      run : (1 ≤ of_z w32 (signed_at w32 s (at + 4))) × (read_in (Runs r) (drop at s) ≡ map (λ (m : List ℤ). replicate (of_z w32 (signed_at w32 s (at + 4))) (signed_at w32 s at) ++ m) (read_in (Runs r) (drop (at + 8) s)))
      run = let m = rest_of w.0 l _ (sym e ∙ w.1) in run-here r s at m.0 h m.1

      module _ (k : ℕ) (q : k ≡ of_z w32 (signed_at w32 s (at + 4))) where
        after : read_in (Runs r) s ≡ map (λ (m : List ℤ). (w.0 ++ replicate k (signed_at w32 s at)) ++ m) (read_in (Runs r) (drop (at + 8) s))
        after =
            let a = w.1 ∙ ap (map (λ (m : List ℤ). w.0 ++ m)) run.1 ∙ map_both (λ (m : List ℤ). w.0 ++ m) (λ (m : List ℤ). replicate (of_z w32 (signed_at w32 s (at + 4))) (signed_at w32 s at) ++ m) (read_in (Runs r) (drop (at + 8) s)) in
            rw q (simp append_assoc a)

        counted : length (w.0 ++ replicate k (signed_at w32 s at)) ≡ length w.0 + k
        counted = length-append w.0 (replicate k (signed_at w32 s at)) ∙ ap (λ (m : ℕ). length w.0 + m) (length-replicate k (signed_at w32 s at))

        pub reaching-more : k ≤ left → Reaching (at + 8) (left - k) (after_run d sum (signed_at w32 s at) k)
        reaching-more b =
            let c = w.2 in
            let n = counted in
            let o = run.0 in
            let x : after_run d sum (signed_at w32 s at) k ≡ last_from d (pos 0) (w.0 ++ replicate k (signed_at w32 s at)) =
            sym (run-last d sum (signed_at w32 s at) k (omega arith)) ∙ ap (λ (a : ℤ). last_from d a (replicate k (signed_at w32 s at))) w.3 ∙ sym (last-append d (pos 0) w.0 (replicate k (signed_at w32 s at))) in
            (w.0 ++ replicate k (signed_at w32 s at), after, omega arith, x)

        pub reaching-here : left < k → after_run d sum (signed_at w32 s at) (left + 1) ≡ get_or (sums_if d l) i (pos 0)
        reaching-here b =
            let c = w.2 in
            let n = counted in
            let v = signed_at w32 s at in
            let a : left + 1 ≡ suc left = omega arith in
            let f = length-results d (pos 0) w.0 in
            let g : i - length (results_from d (pos 0) w.0) ≡ left = omega arith in
            let x : get_or (results_from d (pos 0) (w.0 ++ replicate k (signed_at w32 s at))) i (pos 0) ≡ after_run d sum (signed_at w32 s at) (suc left) =
            ap (λ (t : List ℤ). get_or t i (pos 0)) (results-append d (pos 0) w.0 (replicate k (signed_at w32 s at)) ∙ ap (λ (y : ℤ). results_from d (pos 0) w.0 ++ results_from d y (replicate k (signed_at w32 s at))) (sym w.3))
            ∙ get_d-right (results_from d (pos 0) w.0) (results_from d sum (replicate k (signed_at w32 s at))) i (omega arith)
            ∙ ap (λ (m : ℕ). get_or (results_from d sum (replicate k (signed_at w32 s at))) m (pos 0)) g ∙ run_at d sum (signed_at w32 s at) k left b in
            rw a (sym x ∙ result-before d (w.0 ++ replicate k (signed_at w32 s at)) l (read_in (Runs r) (drop (at + 8) s)) i (sym e ∙ after) (omega arith))
