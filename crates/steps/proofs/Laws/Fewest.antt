-- The writer's numbers are the fewest: numbers that give the same values are no fewer than those that the writer puts into a payload, and no
-- others are as few. First for runs, then for packing, once over both limits of the width: the upper is p, the lower -q. Assumes nothing.
use Rattle.std.specs.Prelude.{◌≡◌, ℕ, zero, suc, ◌+◌, ◌-◌, ◌*◌, ◌/◌, ◌%◌, ◌<◌, ◌≤◌, Bool, true, false, cond, List, [], ◌∷◌, length, ℤ, pos, negsuc, ◌+ℤ◌, ◌≤ℤ◌, ◌==◌, nat_lt}
use Rattle.std.proofs.Math.Path.{refl, ap}
use Rattle.std.proofs.Common.{sym, ◌∙◌, div-add-mod', div-lt_iff_lt-mul, of_z, ltb-true, ltb-false, eqb-true}
use Rattle.std.proofs.Math.Option.{some}
use native.Mathlib.Omega.{arith}
use Rattle.std.proofs.Math.ListN.{length-append}
use Rattle.std.proofs.lemmas.List.{length-replicate}
use Rattle.std.proofs.Math.IntN.{sub_ℕ, pos-ne-negsuc}
use Rattle.std.proofs.Math.Dec.{leb-zero, le→leb}
use Rattle.std.specs.Int.{w32}
use Rattle.std.proofs.lemmas.Bool.{eqb-false}
use Rattle.steps.specs.declared.Size.TheVariants.{Two}
use Rattle.steps.specs.Fits.{Every, Between}
use Rattle.steps.specs.RunLength.{expand, same, runs_from, runs_of}
use Rattle.steps.specs.Packing.{is_limit, unpack_from, unpack, pack_one, pack_all, pack}
use Rattle.steps.specs.WriterForm.{OwnSign}
use Rattle.steps.proofs.Laws.RunLength.{runs_grow, first_run}
use Rattle.steps.proofs.Laws.PackingBack.{upper-not-lower, own_any, turn-limit, turn_end, pack_all-unpack}

-- the writer's numbers and others: the writer's are no more, and if they are as many, they are the same
abbrev pub Fewest : List ℤ → List ℤ → Type 0
Fewest own other = (length own ≤ length other) × (length own ≡ length other → own ≡ other)

-- Runs

-- a run that is cut in two gives the same cells by twice as many numbers
pub cut-run : (expand (pos 7 ∷ (pos 2 ∷ (pos 7 ∷ (pos 1 ∷ [])))) ≡ some (pos 7 ∷ (pos 7 ∷ (pos 7 ∷ [])))) × (runs_of (pos 7 ∷ (pos 7 ∷ (pos 7 ∷ []))) ≡ pos 7 ∷ (pos 3 ∷ []))
unfolding expand runs_of runs_from
cut-run = (refl, refl)

-- how many runs there are depends on the first value, and not on its count
runs-alike : (v w : ℤ) (n m : ℕ) (xs : List ℤ) → of_z w32 v ≡ of_z w32 w → length (runs_from v n xs) ≡ length (runs_from w m xs)
unfolding runs_from
runs-alike v w n m [] e = refl
runs-alike v w n m (x ∷ xs) e = rw e (by_value (same x w) (runs-alike v w (suc n) (suc m) xs e))
  where
    by_value : (t : Bool) → length (runs_from v (suc n) xs) ≡ length (runs_from w (suc m) xs)
        → length (cond t (runs_from v (suc n) xs) (v ∷ (pos n ∷ runs_from x 1 xs))) ≡ length (cond t (runs_from w (suc m) xs) (w ∷ (pos m ∷ runs_from x 1 xs)))
    by_value true i = i
    by_value false i = refl

-- a run in front of cells joins their first run, or is a pair of its own
run-in-front : (v : ℤ) (n : ℕ) (t : List ℤ) → Fewest (runs_from v n t) (v ∷ (pos n ∷ runs_of t))
unfolding runs_from runs_of
run-in-front v n [] = (omega arith, λ e. refl)
run-in-front v n (x ∷ xs) = by_value (same x v) refl
  where
    by_value : (t : Bool) → same x v ≡ t → Fewest (cond t (runs_from v (suc n) xs) (v ∷ (pos n ∷ runs_from x 1 xs))) (v ∷ (pos n ∷ runs_from x 1 xs))
    by_value true e =
        let a = runs-alike v x (suc n) 1 xs (sym (eqb-true (of_z w32 x) (of_z w32 v) e)) in
        (omega arith, λ h. absurd (omega arith))
    by_value false e = (omega arith, λ h. refl)

-- of all runs that expand to the same cells the longest are the fewest
pub runs_of-fewest : (ns l : List ℤ) → expand ns ≡ some l → Fewest (runs_of l) ns
unfolding expand runs_of
runs_of-fewest [] l e = let z : [] ≡ l = cc in rw (← z) (omega arith, λ h. refl)
runs_of-fewest (v ∷ []) l e = let z : [] ≡ l = cc in rw (← z) (omega arith, λ h. absurd (omega arith))
runs_of-fewest (v ∷ (n ∷ ns)) l e =
    let i = first_run v n ns l e in
    let r = runs_of-fewest ns i.1 i.3 in
    let f = run-in-front v (1 + i.0) i.1 in
    let c : 1 + i.0 ≡ suc i.0 = omega arith in
    let o : runs_of l ≡ runs_from v (1 + i.0) i.1 = ap runs_of i.4 ∙ runs_grow v 1 i.0 i.1 in
    let same_count : v ∷ (pos (1 + i.0) ∷ ns) ≡ v ∷ (n ∷ ns) = ap (λ (c : ℤ). v ∷ (c ∷ ns)) (ap pos c ∙ sym i.2) in
    rw o (omega arith, λ h. f.1 (omega arith) ∙ ap (λ (t : List ℤ). v ∷ (pos (1 + i.0) ∷ t)) (r.1 (omega arith)) ∙ same_count)

-- Differences

-- x is u less v: sums of limits, whatever their signs, with natural numbers alone
Less : ℕ → ℕ → ℤ → Type 0
Less u v (pos n) = n + v ≡ u
Less u v (negsuc n) = suc n + u ≡ v

less-sub : (u v a b : ℕ) → a + v ≡ u + b → Less u v (sub_ℕ a b)
unfolding Less
less-sub u v a b e = by_order (nat_lt a b) refl
  where
    by_order : (t : Bool) → nat_lt a b ≡ t → Less u v (cond t (negsuc (b - suc a)) (pos (a - b)))
    by_order true h = omega (arith, ltb-true a b h)
    by_order false h = omega (arith, ltb-false a b h)

less-add : (u v s t : ℕ) (x y : ℤ) → Less u v x → Less s t y → Less (u + s) (v + t) (x +ℤ y)
unfolding Less
less-add u v s t (pos a) (pos b) h k = omega arith
less-add u v s t (pos a) (negsuc b) h k = less-sub (u + s) (v + t) a (suc b) (omega arith)
less-add u v s t (negsuc a) (pos b) h k = less-sub (u + s) (v + t) b (suc a) (omega arith)
less-add u v s t (negsuc a) (negsuc b) h k = omega arith

-- Packing

-- a result in which both limits stand takes more numbers than the writer's
pub both-limits : (unpack Two (pos 32767 ∷ (negsuc 32767 ∷ (pos 6 ∷ []))) ≡ some (pos 5 ∷ [])) × (pack Two (pos 5 ∷ []) ≡ pos 5 ∷ [])
unfolding unpack_from pack_all pack_one
both-limits = (refl, refl)

-- the first number, if there is one, is on the side of the i upper and j lower limits before it
Heads : ℕ → ℕ → List ℤ → Type 0
Heads i j [] = Unit
Heads i j (y ∷ ys) = (0 < i → pos 0 ≤ℤ y) × (0 < j → y ≤ℤ pos 0)

module _ (p q : ℕ) (p-pos : 0 < p) (q-pos : 0 < q) where
  -- a value takes one number for each time that it reaches the limit of its sign, and the last one
  length_above : (n : ℕ) → length (pack_one p q (pos n)) ≡ suc (n / p)
  unfolding pack_one
  length_above n = simp (length-append, length-replicate) (omega arith)

  length-below : (n : ℕ) → length (pack_one p q (negsuc n)) ≡ suc (suc n / q)
  unfolding pack_one
  length-below n = simp (length-append, length-replicate) (omega arith)

  -- a result of i upper limits, j lower ones and a last number that is no limit, which is u less d: the writer's numbers for it are no more, and if
  -- they are as many, the result has limits of one sign only, and a last number of that sign
  one-fewest : (i j u d : ℕ) (v : ℤ) → u < p → d < q → Less (i * p + u) (j * q + d) v
      → (length (pack_one p q v) ≤ suc (i + j)) × (length (pack_one p q v) ≡ suc (i + j) → (0 < i → 0 < j → ⊥) × (0 < i → d ≤ u) × (0 < j → u ≤ d))
  unfolding Less
  one-fewest i j u d (pos n) h k e =
      let a : n < suc i * p = omega arith in
      let b = (div-lt_iff_lt-mul p-pos).1 a in
      rw (length_above n) (omega arith, λ g. all j e (rw (suc_inj g) at (div-add-mod' n p)))
    where
      suc_inj : suc (n / p) ≡ suc (i + j) → n / p ≡ i + j
      suc_inj g = omega arith

      all : (j : ℕ) → n + (j * q + d) ≡ i * p + u → (i + j) * p + n % p ≡ n → (0 < i → 0 < j → ⊥) × (0 < i → d ≤ u) × (0 < j → u ≤ d)
      all zero e g = (λ x y. omega arith, λ x. omega arith, λ y. absurd (omega arith))
      all (suc j) e g = absurd (omega arith)
  one-fewest i j u d (negsuc n) h k e =
      let a : suc n < suc j * q = omega arith in
      let b = (div-lt_iff_lt-mul q-pos).1 a in
      rw (length-below n) (omega arith, λ g. all i e (rw (suc_inj g) at (div-add-mod' (suc n) q)))
    where
      suc_inj : suc (suc n / q) ≡ suc (i + j) → suc n / q ≡ i + j
      suc_inj g = omega arith

      all : (i : ℕ) → suc n + (i * p + u) ≡ j * q + d → (i + j) * q + suc n % q ≡ suc n → (0 < i → 0 < j → ⊥) × (0 < i → d ≤ u) × (0 < j → u ≤ d)
      all zero e g = (λ x y. omega arith, λ x. absurd (omega arith), λ y. omega arith)
      all (suc i) e g = absurd (omega arith)

  -- numbers after i upper and j lower limits: the writer's for their results are no more, and if they are as many, these keep the writer's form
  abbrev Few : ℕ → ℕ → List ℤ → List ℤ → Type 0
  Few i j ns l = (length (pack_all p q l) ≤ i + j + length ns) × (length (pack_all p q l) ≡ i + j + length ns → (0 < i → 0 < j → ⊥) × Heads i j ns × OwnSign p q ns)

  abbrev AllFew : List ℤ → Type 0
  AllFew ns = (i j : ℕ) (sum : ℤ) → Less (i * p) (j * q) sum → (begun : Bool) → (begun ≡ false → 0 < i → 0 < j → ⊥) → (l : List ℤ)
      → unpack_from p q sum begun ns ≡ some l → Few i j ns l

  -- a limit: one more on its side
  limit-turn : (x : ℤ) (up down : ℕ) (ns : List ℤ) → is_limit p q x ≡ true → up + down ≡ 1 → Less (up * p) (down * q) x
      → ((i j : ℕ) → (0 < i + up → 0 < j + down → ⊥) → Heads (i + up) (j + down) ns → OwnSign p q ns → Heads i j (x ∷ ns) × OwnSign p q (x ∷ ns)) → AllFew ns → AllFew (x ∷ ns)
  limit-turn x up down ns c one e own ih i j sum s begun g l u =
      let a : i * p + up * p ≡ (i + up) * p = omega arith in
      let b : j * q + down * q ≡ (j + down) * q = omega arith in
      let k : Less ((i + up) * p) ((j + down) * q) (sum +ℤ x) = rw (a, b) at (less-add (i * p) (j * q) (up * p) (down * q) sum x s e) in
      let r = ih (i + up) (j + down) (sum +ℤ x) k true going l (turn-limit p q p-pos q-pos sum begun x ns l c u) in
      (omega (arith, r.0), λ h. all (r.1 (omega arith)))
    where
      going : true ≡ false → 0 < i + up → 0 < j + down → ⊥
      going e = let y : ◌≡◌ {A = ℕ} 0 1 = cc in absurd (omega arith)

      all : (0 < i + up → 0 < j + down → ⊥) × Heads (i + up) (j + down) ns × OwnSign p q ns → (0 < i → 0 < j → ⊥) × Heads i j (x ∷ ns) × OwnSign p q (x ∷ ns)
      all o = let t = own i j o.0 o.1 o.2 in (λ y z. o.0 (omega arith) (omega arith), t.0, t.1)

  own-upper : (n : ℕ) → n ≡ p → (ns : List ℤ) (i j : ℕ) → (0 < i + 1 → 0 < j + 0 → ⊥) → Heads (i + 1) (j + 0) ns → OwnSign p q ns → Heads i j (pos n ∷ ns) × OwnSign p q (pos n ∷ ns)
  unfolding OwnSign Heads
  own-upper n e ns i j one h o = ((λ x. record { le = rw (leb-zero n) tt }, λ y. absurd (one (omega arith) (omega arith))), by ns h o)
    where
      by : (ns : List ℤ) → Heads (i + 1) (j + 0) ns → OwnSign p q ns → OwnSign p q (pos n ∷ ns)
      by [] h o = tt
      by (y ∷ ns) h o = (λ z. h.0 (omega arith), λ z. absurd (upper-not-lower p q p-pos q-pos (sym (ap pos e) ∙ z)), o)

  own-lower : (n : ℕ) (ns : List ℤ) (i j : ℕ) → (0 < i + 0 → 0 < j + 1 → ⊥) → Heads (i + 0) (j + 1) ns → OwnSign p q ns → Heads i j (negsuc n ∷ ns) × OwnSign p q (negsuc n ∷ ns)
  unfolding OwnSign Heads
  own-lower n ns i j one h o = ((λ x. absurd (one (omega arith) (omega arith)), λ y. record { le = tt }), by ns h o)
    where
      by : (ns : List ℤ) → Heads (i + 0) (j + 1) ns → OwnSign p q ns → OwnSign p q (negsuc n ∷ ns)
      by [] h o = tt
      by (y ∷ ns) h o = (λ z. absurd (pos-ne-negsuc p n (sym z)), λ z. h.1 (omega arith), o)

  -- before the first number
  origin : Less (0 * p) (0 * q) (pos 0)
  unfolding Less
  origin = omega arith

  -- the end of a result
  end-turn : (x : ℤ) (a d : ℕ) (ns : List ℤ) → is_limit p q x ≡ false → a < p → d < q → Less a d x → ((i j : ℕ) → (0 < i → d ≤ a) × (0 < j → a ≤ d) → Heads i j (x ∷ ns)) → AllFew ns → AllFew (x ∷ ns)
  unfolding pack_all Less
  end-turn x a d ns c h k e w ih i j sum s begun g l u =
      let t = turn_end p q p-pos q-pos sum begun x ns l c u in
      let r = ih 0 0 (pos 0) origin false (λ e y z. omega arith) t.0 t.1 in
      let o = one-fewest i j a d (sum +ℤ x) h k (less-add (i * p) (j * q) a d sum x s e) in
      let m : length (pack_all p q l) ≡ length (pack_one p q (sum +ℤ x)) + length (pack_all p q t.0) = ap (λ (l : List ℤ). length (pack_all p q l)) t.2 ∙ length-append (pack_one p q (sum +ℤ x)) (pack_all p q t.0) in
      (omega (arith, r.0, o.0), λ z. all (o.1 (omega (arith, r.0, o.0))) (r.1 (omega (arith, r.0, o.0))).2)
    where
      all : (0 < i → 0 < j → ⊥) × (0 < i → d ≤ a) × (0 < j → a ≤ d) → OwnSign p q ns → (0 < i → 0 < j → ⊥) × Heads i j (x ∷ ns) × OwnSign p q (x ∷ ns)
      all o f = (o.0, w i j (o.1, o.2), own_any p q p-pos q-pos x ns c f)

  -- one number more, a limit or the end of a result
  turn : (x : ℤ) (ns : List ℤ) → Between p q x → AllFew ns → AllFew (x ∷ ns)
  unfolding Heads Less
  turn (pos n) ns b ih = by-limit (n == p) refl
    where
      heads : (i j : ℕ) → (0 < i → 0 ≤ n) × (0 < j → n ≤ 0) → Heads i j (pos n ∷ ns)
      heads i j h = (λ x. record { le = rw (leb-zero n) tt }, λ y. record { le = le→leb n 0 (h.1 y) })

      by-limit : (t : Bool) → (n == p) ≡ t → AllFew (pos n ∷ ns)
      by-limit true e = let k = eqb-true n p e in limit-turn (pos n) 1 0 ns e (omega arith) (omega arith) (own-upper n k ns) ih
      by-limit false e = let k = eqb-false n p e in end-turn (pos n) n 0 ns e (omega arith) q-pos (omega arith) heads ih
  turn (negsuc n) ns b ih = by-limit (suc n == q) refl
    where
      heads : (i j : ℕ) → (0 < i → suc n ≤ 0) × (0 < j → 0 ≤ suc n) → Heads i j (negsuc n ∷ ns)
      heads i j h = (λ x. absurd (omega (arith, h.0 x)), λ y. record { le = tt })

      by-limit : (t : Bool) → (suc n == q) ≡ t → AllFew (negsuc n ∷ ns)
      by-limit true e = let k = eqb-true (suc n) q e in limit-turn (negsuc n) 0 1 ns e (omega arith) (omega arith) (own-lower n ns) ih
      by-limit false e = let k = eqb-false (suc n) q e in end-turn (negsuc n) 0 (suc n) ns e p-pos (omega arith) (omega arith) heads ih

  -- no number more: an unfinished result gives nothing
  no-turn : AllFew []
  unfolding unpack_from pack_all Heads OwnSign
  no-turn i j sum s true g l u = let y : ◌≡◌ {A = ℕ} 0 1 = cc in absurd (omega arith)
  no-turn i j sum s false g l u = let z : [] ≡ l = cc in rw (← z) (omega arith, λ h. (g refl, tt, tt))

  turns : (ns : List ℤ) → Every (Between p q) ns → AllFew ns
  unfolding Every
  turns [] f = no-turn
  turns (x ∷ ns) f = turn x ns f.0 (turns ns f.1)

  -- of all numbers within the limits that unpack to the same results the writer's are the fewest; without `Between` that is not so: by the limits
  -- 127 and -128 the number 1000 would be its own result
  pub pack_all-fewest : (ns l : List ℤ) → Every (Between p q) ns → unpack_from p q (pos 0) false ns ≡ some l → Fewest (pack_all p q l) ns
  pack_all-fewest ns l f u =
      let few = turns ns f 0 0 (pos 0) origin false (λ e x y. omega arith) l u in
      (omega (arith, few.0), λ e. pack_all-unpack p q p-pos q-pos ns l f (few.1 (omega arith)).2 u)
