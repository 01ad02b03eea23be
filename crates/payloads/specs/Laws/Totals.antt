-- Laws of packed numbers by one running total: of the result that has begun, and with delta of those before it too. Assumes nothing.
use Rattle.std.specs.Prelude.{Result, Ok, Err, ◌≡◌, ℕ, suc, ◌+◌, ◌-◌, ◌%◌, ◌<◌, ◌≤◌, Bool, true, false, cond, ◌&&◌, ◌||◌, List, length, set, replicate, ℤ, pos, negsuc, ◌+ℤ◌, FitsSigned, nat_lt}
use Rattle.std.proofs.Math.Path.{refl}
use Rattle.std.proofs.Common.{sym, ap, ◌∙◌, add-zero, arith, length-append, length-set, set-set, to_z, of_z, to_z-of_z, eq-eqb, ltb-true, ltb-false}
use Rattle.std.proofs.Math.Option.{some}
use Rattle.std.specs.Int.Signed.{mag}
use Rattle.std.specs.Int.{w32}
use Rattle.std.proofs.Math.Facts.{of_z-to_z}
use Rattle.refusal.specs.Table.{number_not_allowed}
use Rattle.numbers.specs.BigEndian.{signed_at}
use Rattle.steps.specs.declared.Size.{Size}
use Rattle.steps.specs.declared.Form.TheVariants.{Packed}
use Rattle.steps.specs.declared.Turn.TheVariants.{More, Done}
use Rattle.steps.specs.Width.{width_of, size_of, upper, lower}
use Rattle.steps.specs.Delta.{plus_delta, sums_if, advance, results_from}
use Rattle.steps.specs.Packing.{is_limit}
use Rattle.steps.specs.Steps.{turn_of}
use Rattle.steps.proofs.Laws.NumbersBack.{signed_at-32}
use Rattle.steps.proofs.Laws.Delta.{wrapped, plus-zero}
use Rattle.steps.proofs.Laws.Packing.{turn_inside, turn-outside}
use Rattle.steps.proofs.Laws.Allowed.{and-true}
use Rattle.steps.specs.Payload.{read_in}
use Rattle.payloads.specs.Exact.{exact, all_exact}
use Rattle.payloads.specs.Results.{HasRoom, Wrote, ResultsExact}
use Rattle.payloads.specs.Scan.{judges_exact, scan_of}
use Rattle.payloads.specs.Laws.Items.{from}
use Rattle.payloads.specs.Laws.Writing.{WrittenTo, written-rest, written-exact}
use Rattle.payloads.specs.Laws.Packed.{step, WrittenPacked, packed-written-start, packed-written-length, packed-written-left, packed-written-more, packed-written-done, packed-written-wrong, packed-written-unfinished, packed-written-end, Unpacked, unpacked-start, unpacked-more, unpacked-done, unpacked-wrong, unpacked-unfinished, unpacked-whole}

-- The total

-- the bits of a sum that has 32
sum-bits : (a b : ℤ) → FitsSigned w32 a → FitsSigned w32 b → mag (a +ℤ b) < 2147483648 → of_z w32 (a +ℤ b) ≡ (of_z w32 a + of_z w32 b) % 4294967296
sum-bits (pos a) (pos b) f g h = omega arith
sum-bits (pos a) (negsuc b) f g h = signs a b f.sfits g.sfits (nat_lt a (suc b)) refl
  where
    signs : (a b : ℕ) → a < 2147483648 → b < 2147483648 → (t : Bool) → nat_lt a (suc b) ≡ t → of_z w32 (cond t (negsuc (suc b - suc a)) (pos (a - suc b))) ≡ (a + (4294967296 - suc b)) % 4294967296
    signs a b k l true e = omega (arith, ltb-true a (suc b) e)
    signs a b k l false e = omega (arith, ltb-false a (suc b) e)
sum-bits (negsuc a) (pos b) f g h = signs b a g.sfits f.sfits (nat_lt b (suc a)) refl
  where
    signs : (a b : ℕ) → a < 2147483648 → b < 2147483648 → (t : Bool) → nat_lt a (suc b) ≡ t → of_z w32 (cond t (negsuc (suc b - suc a)) (pos (a - suc b))) ≡ (4294967296 - suc b + a) % 4294967296
    signs a b k l true e = omega (arith, ltb-true a (suc b) e)
    signs a b k l false e = omega (arith, ltb-false a (suc b) e)
sum-bits (negsuc a) (negsuc b) f g h = let k = f.sfits in let l = g.sfits in omega arith

-- a number more
pub total-more : (d : Bool) (a part x : ℤ) → FitsSigned w32 part → FitsSigned w32 x → mag (part +ℤ x) < 2147483648 → plus_delta (advance d a part) x ≡ advance d a (part +ℤ x)
total-more false a part x f g h = ap (to_z w32) (sym (sum-bits part x f g h)) ∙ to_z-of_z {w = w32} (record { sfits = h })
total-more true a part x f g h =
    let e : ((of_z w32 a + of_z w32 part) % 4294967296 + of_z w32 x) % 4294967296 ≡ (of_z w32 a + (of_z w32 part + of_z w32 x) % 4294967296) % 4294967296 = omega arith in
    ap (λ (n : ℕ). to_z w32 ((n + of_z w32 x) % 4294967296)) (of_z-to_z {w = w32} (wrapped (of_z w32 a + of_z w32 part))) ∙ ap (to_z w32) e
    ∙ ap (λ (n : ℕ). to_z w32 ((of_z w32 a + n) % 4294967296)) (sym (sum-bits part x f g h))

-- the start of the next result
pub total-start : (d : Bool) (a : ℤ) → FitsSigned w32 a → cond d a (pos 0) ≡ advance d a (pos 0)
total-start false a f = refl
total-start true a f = sym (plus-zero a f)

-- before the first number
at_first_lem : (d : Bool) → pos 0 ≡ advance d (pos 0) (pos 0)
at_first_lem true = refl
at_first_lem false = refl

-- Numbers that have results

module _ (z : Size) (d : Bool) (s : List ℕ) (l : List ℤ) (e : read_in (Packed z) s ≡ some l) where
  -- the numbers before the place have so many results, all exact or not, and `total` is the total
  abbrev pub Summed : ℕ → ℕ → Bool → ℤ → Type 0
  Summed at count ok total = (part : ℤ) × (begun : Bool) × (sum : ℤ) × Unpacked z d s at part begun count sum ok × FitsSigned w32 part × (total ≡ advance d sum part)

  pub summed-start : Summed 0 0 true (pos 0)
  summed-start = (pos 0, false, pos 0, unpacked-start z d s, record { sfits = omega arith }, at_first_lem d)

  never : {A : Type 0} (r : ℕ) → Err r ≡ scan_of (Packed z) d (length l) (read_in (Packed z) s) → A
  never r q =
      let y : ◌≡◌ {A = Result Bool ℕ} (Err r) (Ok (judges_exact (Packed z) d && all_exact (sums_if d l))) = q ∙ ap (scan_of (Packed z) d (length l)) e ∙ rw (eq-eqb (length l) (length l) refl) in
      let x : ◌≡◌ {A = ℕ} 0 1 = cc in
      absurd (omega arith)

  module _ (at count : ℕ) (ok : Bool) (total : ℤ) (w : Summed at count ok total) where
    -- at the end all results are there
    pub summed-end : length s - at < size_of z → (count ≡ length l) × (ok ≡ all_exact (sums_if d l))
    summed-end h = by w.1 refl
      where
        by : (t : Bool) → w.1 ≡ t → (count ≡ length l) × (ok ≡ all_exact (sums_if d l))
        by true q = never number_not_allowed (unpacked-unfinished z d (length l) s at w.0 w.1 count w.2 ok w.3 h q)
        by false q = let u = unpacked-whole z d (length l) s at w.0 w.1 count w.2 ok w.3 h q in let v : some w.3.0 ≡ some l = sym u ∙ e in let p : w.3.0 ≡ l = cc in (w.3.2 ∙ ap length p, w.3.4 ∙ ap (λ (t : List ℤ). all_exact (sums_if d t)) p)

    module _ (h : at + size_of z ≤ length s) where
      inside : mag (w.0 +ℤ signed_at (width_of z) s at) < 2147483648
      inside = by (nat_lt (mag (w.0 +ℤ signed_at (width_of z) s at)) 2147483648) refl
        where
          by : (t : Bool) → nat_lt (mag (w.0 +ℤ signed_at (width_of z) s at)) 2147483648 ≡ t → mag (w.0 +ℤ signed_at (width_of z) s at) < 2147483648
          by true q = ltb-true (mag (w.0 +ℤ signed_at (width_of z) s at)) 2147483648 q
          by false q = never number_not_allowed (unpacked-wrong z d (length l) s at w.0 w.1 count w.2 ok w.3 h (turn-outside z w.0 (signed_at (width_of z) s at) (ltb-false (mag (w.0 +ℤ signed_at (width_of z) s at)) 2147483648 q)))

      module _ (y : ℤ) (q : y ≡ plus_delta total (signed_at (width_of z) s at)) where
        onward : y ≡ advance d w.2 (w.0 +ℤ signed_at (width_of z) s at)
        onward = q ∙ ap (λ (t : ℤ). plus_delta t (signed_at (width_of z) s at)) w.5 ∙ total-more d w.2 w.0 (signed_at (width_of z) s at) w.4 (signed_at-32 z s at) inside

        -- the end of a result
        pub summed-done : is_limit (upper z) (lower z) (signed_at (width_of z) s at) ≡ false → Unpacked z d s (at + size_of z) (pos 0) false (count + 1) y (ok && exact y)
        summed-done m =
            let t : turn_of z w.0 (signed_at (width_of z) s at) ≡ Done (w.0 +ℤ signed_at (width_of z) s at) = turn_inside z w.0 (signed_at (width_of z) s at) inside ∙ rw m in
            unpacked-done z d (length l) s at w.0 w.1 count w.2 ok w.3 h (w.0 +ℤ signed_at (width_of z) s at) y t onward

        -- a number more, that is a limit or is none
        pub summed-next : FitsSigned w32 y → (t : Bool) → is_limit (upper z) (lower z) (signed_at (width_of z) s at) ≡ t → Summed (at + size_of z) (count + cond t 0 1) (ok && (t || exact y)) (cond (t || d) y (pos 0))
        summed-next k true m =
            let t : turn_of z w.0 (signed_at (width_of z) s at) ≡ More (w.0 +ℤ signed_at (width_of z) s at) = turn_inside z w.0 (signed_at (width_of z) s at) inside ∙ rw m in
            rw (add-zero count, and-true ok) (w.0 +ℤ signed_at (width_of z) s at, true, w.2, unpacked-more z d (length l) s at w.0 w.1 count w.2 ok w.3 h (w.0 +ℤ signed_at (width_of z) s at) t, record { sfits = inside }, onward)
        summed-next k false m = (pos 0, false, y, summed-done m, record { sfits = omega arith }, total-start d y k)

-- Writing

module _ {B : Type 0} (g : ℤ → B) (z : Size) (d : Bool) (s : List ℕ) (old : List B) (room : HasRoom (Packed z) s (length old)) where
  -- The results before the place stand at the start of the buffer `clean`, and `total` is the total. While a result has begun the buffer
  -- may have anything in its place.
  abbrev pub WrittenTotal : ℕ → ℤ → ℕ → List B → Type 0
  WrittenTotal at total o new =
      (part : ℤ) × (x : ℤ) × (clean : List B) × (w : WrittenPacked g z d s old room at part o clean x) × FitsSigned w32 part × (total ≡ advance d x part)
      × (length new ≡ length clean) × ((b : B) → set new o b ≡ set clean o b) × (w.0 ≡ false → new ≡ clean)

  pub total-written-start : WrittenTotal 0 (pos 0) 0 old
  total-written-start = (pos 0, pos 0, old, packed-written-start g z d s old room, record { sfits = omega arith }, at_first_lem d, refl, (λ b. refl), (λ e. refl))

  module _ (at : ℕ) (total : ℤ) (o : ℕ) (new : List B) (w : WrittenTotal at total o new) where
    pub total-written-length : length new ≡ length old
    total-written-length = w.6 ∙ packed-written-length g z d s old room at w.0 o w.2 w.1 w.3

    pub total-written-within : o ≤ length old
    total-written-within =
        let v = w.3.1 in
        let r = written-rest g (Packed z) d s old room (from z s w.0 w.3.0 at) o w.2 w.1 v in
        let a = length-append v.0 r.0 in
        let b = ap length r.2 in
        let h = room.2 in
        let j = v.2 in
        omega arith

    pub total-written-end : length s - at < size_of z → Wrote g (Packed z) d s old new
    total-written-end h = by w.3.0 refl
      where
        by : (t : Bool) → w.3.0 ≡ t → Wrote g (Packed z) d s old new
        by true e = packed-written-unfinished g z d s old room at w.0 o w.2 w.1 w.3 h e
        by false e = rw (w.8 e) (packed-written-end g z d s old room at w.0 o w.2 w.1 w.3 h)

    module _ (h : at + size_of z ≤ length s) where
      -- a number is left, and so is a result
      pub total-written-room : o + 1 ≤ length new
      total-written-room = let n = w.6 in let a = packed-written-left g z d s old room at w.0 o w.2 w.1 w.3 h in omega arith

      within-32 : mag (w.0 +ℤ signed_at (width_of z) s at) < 2147483648
      within-32 = by (nat_lt (mag (w.0 +ℤ signed_at (width_of z) s at)) 2147483648) refl
        where
          by : (t : Bool) → nat_lt (mag (w.0 +ℤ signed_at (width_of z) s at)) 2147483648 ≡ t → mag (w.0 +ℤ signed_at (width_of z) s at) < 2147483648
          by true e = ltb-true (mag (w.0 +ℤ signed_at (width_of z) s at)) 2147483648 e
          by false e = packed-written-wrong g z d s old room at w.0 o w.2 w.1 w.3 h (turn-outside z w.0 (signed_at (width_of z) s at) (ltb-false (mag (w.0 +ℤ signed_at (width_of z) s at)) 2147483648 e))

      module _ (y : ℤ) (e : y ≡ plus_delta total (signed_at (width_of z) s at)) where
        next : y ≡ advance d w.1 (w.0 +ℤ signed_at (width_of z) s at)
        next = e ∙ ap (λ (t : ℤ). plus_delta t (signed_at (width_of z) s at)) w.5 ∙ total-more d w.1 w.0 (signed_at (width_of z) s at) w.4 (signed_at-32 z s at) within-32

        -- a limit
        module _ (l : is_limit (upper z) (lower z) (signed_at (width_of z) s at) ≡ true) where
          more : WrittenTo g (Packed z) d s old room (from z s (w.0 +ℤ signed_at (width_of z) s at) true (at + size_of z)) o w.2 w.1
          more = packed-written-more g z d s old room at w.0 o w.2 w.1 w.3 h (w.0 +ℤ signed_at (width_of z) s at) (turn_inside z w.0 (signed_at (width_of z) s at) within-32 ∙ rw l)

          pub total-written-more : WrittenTotal (at + size_of z) y o new
          total-written-more = (w.0 +ℤ signed_at (width_of z) s at, w.1, w.2, (true, more), record { sfits = within-32 }, next, w.6, w.7, (λ q. let a : ◌≡◌ {A = ℕ} 0 1 = cc in absurd (omega arith)))

        -- the end of a result
        module _ (l : is_limit (upper z) (lower z) (signed_at (width_of z) s at) ≡ false) where
          ends : turn_of z w.0 (signed_at (width_of z) s at) ≡ Done (w.0 +ℤ signed_at (width_of z) s at)
          ends = turn_inside z w.0 (signed_at (width_of z) s at) within-32 ∙ rw l

          pub total-written-exact : ResultsExact (Packed z) d s → exact y ≡ true
          unfolding all_exact results_from
          total-written-exact all =
              let u : all_exact (results_from d w.1 (replicate 1 (w.0 +ℤ signed_at (width_of z) s at))) ≡ true =
              written-exact g (Packed z) d s old room (from z s w.0 w.3.0 at) o w.2 w.1 w.3.1 (w.0 +ℤ signed_at (width_of z) s at) 1 (from z s (pos 0) false (at + size_of z)) (step g z d s old room at w.0 o w.2 w.1 w.3 h (Done (w.0 +ℤ signed_at (width_of z) s at)) ends) all in
              by (exact y) refl (ap (λ (z : ℤ). exact z && true) next ∙ u)
            where
              by : (t : Bool) → exact y ≡ t → (t && true) ≡ true → exact y ≡ true
              by true a b = a
              by false a b = let z : ◌≡◌ {A = ℕ} 0 1 = cc in absurd (omega arith)

          pub total-written-done : FitsSigned w32 y → (b c : B) → b ≡ g y → WrittenTotal (at + size_of z) (cond d y (pos 0)) (o + 1) (set new o b)
          total-written-done k b c q =
              let v = packed-written-done g z d s old room at w.0 o w.2 w.1 w.3 h (w.0 +ℤ signed_at (width_of z) s at) ends y b c next q in
              rw (w.7 b) (pos 0, y, set w.2 o b, v, record { sfits = omega arith }, total-start d y k, refl, (λ a. refl), (λ r. refl))

        -- the total is stored after each number, and stays at the end of a result
        pub total-written-stored : FitsSigned w32 y → (t : Bool) → is_limit (upper z) (lower z) (signed_at (width_of z) s at) ≡ t → (b c : B) → b ≡ g y
            → WrittenTotal (at + size_of z) (cond (t || d) y (pos 0)) (o + cond t 0 1) (set new o b)
        total-written-stored k true l b c q =
            let m : length (set new o b) ≡ length w.2 = length-set new o b ∙ w.6 in
            rw (add-zero o) (w.0 +ℤ signed_at (width_of z) s at, w.1, w.2, (true, more l), record { sfits = within-32 }, next, m, (λ v. set-set new o b v ∙ w.7 v), (λ r. let a : ◌≡◌ {A = ℕ} 0 1 = cc in absurd (omega arith)))
        total-written-stored k false l b c q = total-written-done l k b c q
