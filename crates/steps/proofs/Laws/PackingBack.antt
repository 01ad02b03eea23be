-- Numbers packed and unpacked, and packed numbers in the writer's form unpacked and packed, once over both limits of the width: the
-- upper is p, the lower -q. Assumes nothing.
use Rattle.std.specs.Prelude.{◌≡◌, ℕ, zero, suc, ◌+◌, ◌*◌, ◌/◌, ◌%◌, ◌<◌, ◌≤◌, Bool, true, false, cond, T, List, [], ◌∷◌, ◌++◌, replicate, ℤ, pos, negsuc, ◌+ℤ◌, neg_ℤ, FitsSigned, ◌==◌, ◌≢◌, int_le}
use Rattle.std.proofs.Math.Path.{refl, sym, ap}
use Rattle.std.proofs.Common.{◌∙◌, append_assoc, div-add-mod', mod-eq_of_lt}
use Rattle.std.proofs.Math.Option.{Option, none, some, map}
use Rattle.std.proofs.Math.Nat.{mod-lt, mul-add-div_right, mul-add-mod_self_right, div-eq_of_lt}
use native.Mathlib.Omega.{arith}
use Rattle.std.proofs.Math.IntN.{neg_ℤ-+ℤ, pos-ne-negsuc}
use Rattle.std.proofs.Math.Dec.{leb-zero, leb→le}
use mir.Syntax.{w32}
use borrow.Author.Tests.{lt-ltb, eq-eqb, ne_eqb, eqb-true, eqb-false}
use Rattle.steps.specs.Fits.{Every, AllFit, Between}
use Rattle.steps.specs.Packing.{is_limit, in32, unpack_from, pack_one, pack_all}
use Rattle.steps.specs.WriterForm.{OwnSign}
use Rattle.steps.proofs.Laws.RunLength.{replicate-one-more}

-- -n
abbrev minus : ℕ → ℤ
minus n = neg_ℤ (pos n)

module _ (p q : ℕ) (p-pos : 0 < p) (q-pos : 0 < q) where
  -- Both sides of zero

  -- the numbers on one side, by their sizes: b is the limit's
  record Side (sign : ℕ → ℤ) (b : ℕ) : Type 0 where
    limit-pos : 0 < b
    origin : sign 0 ≡ pos 0
    add : (a r : ℕ) → sign a +ℤ sign r ≡ sign (a + r)
    limit : (r : ℕ) → is_limit p q (sign r) ≡ (r == b)
    packed : (n : ℕ) → pack_one p q (sign n) ≡ replicate (n / b) (sign b) ++ sign (n % b) ∷ []
    between : (r : ℕ) → r ≤ b → Between p q (sign r)
    own : (a : ℕ) (ns : List ℤ) → OwnSign p q (sign a ∷ ns) → OwnSign p q (sign b ∷ (sign a ∷ ns))

  pub upper-not-lower : pos p ≡ minus q → ⊥
  upper-not-lower e = from_suc q q-pos e
    where
      from_suc : (b : ℕ) → 0 < b → pos p ≢ minus b
      from_suc zero h e = omega arith
      from_suc (suc b) h e = pos-ne-negsuc p b e

  above : Side pos p
  unfolding pack_one OwnSign
  above = record {
    limit-pos = p-pos;
    origin = refl;
    add = λ a r. refl;
    limit = λ r. refl;
    packed = λ n. refl;
    between = λ r h. h;
    own = λ a ns o. (λ e. record { le = rw (leb-zero a) tt }, λ e. absurd (upper-not-lower e), o);
  }

  below : Side minus q
  unfolding pack_one OwnSign
  below = record {
    limit-pos = q-pos;
    origin = refl;
    add = λ a r. sym (neg_ℤ-+ℤ (pos a) (pos r));
    limit = limit;
    packed = packed;
    between = between;
    own = λ a ns o. (λ e. absurd (upper-not-lower (sym e)), λ e. record { le = not-above a }, o);
  }
    where
      limit : (r : ℕ) → is_limit p q (minus r) ≡ (r == q)
      limit zero = ne_eqb 0 p (λ e. omega arith) ∙ sym (ne_eqb 0 q (λ e. omega arith))
      limit (suc r) = refl

      packed : (n : ℕ) → pack_one p q (minus n) ≡ replicate (n / q) (minus q) ++ minus (n % q) ∷ []
      packed zero = rw (div-eq_of_lt p-pos, mod-eq_of_lt p-pos, div-eq_of_lt q-pos, mod-eq_of_lt q-pos)
      packed (suc n) = refl

      between : (r : ℕ) → r ≤ q → Between p q (minus r)
      between zero h = omega arith
      between (suc r) h = h

      not-above : (a : ℕ) → T (int_le (minus a) (pos 0))
      not-above zero = tt
      not-above (suc a) = tt

  -- a number that is no limit may be followed by any
  pub own_any : (x : ℤ) (ns : List ℤ) → is_limit p q x ≡ false → OwnSign p q ns → OwnSign p q (x ∷ ns)
  unfolding OwnSign
  own_any x [] e o = tt
  own_any x (y ∷ ns) e o = (λ h. absurd (other p (above.limit p) h), λ h. absurd (other q (below.limit q) h), o)
    where
      other : {v : ℤ} (b : ℕ) → is_limit p q v ≡ (b == b) → x ≢ v
      other b l h = eqb-false b b (sym l ∙ rw h at e) refl

  own-tail : (x : ℤ) (ns : List ℤ) → OwnSign p q (x ∷ ns) → OwnSign p q ns
  unfolding OwnSign
  own-tail x [] o = tt
  own-tail x (y ∷ ns) o = o.2

  -- a turn of unpacking: a limit, or the end of a result
  pub turn-limit : (sum : ℤ) (begun : Bool) (x : ℤ) (ns l : List ℤ) → is_limit p q x ≡ true → unpack_from p q sum begun (x ∷ ns) ≡ some l
      → unpack_from p q (sum +ℤ x) true ns ≡ some l
  unfolding unpack_from
  turn-limit sum begun x ns l i e = inside (in32 (sum +ℤ x)) (rw i at e)
    where
      inside : (t : Bool) → cond t (unpack_from p q (sum +ℤ x) true ns) none ≡ some l → unpack_from p q (sum +ℤ x) true ns ≡ some l
      inside true e = e
      inside false e = let y : ◌≡◌ {A = ℕ} 0 1 = cc in absurd (omega arith)

  pub turn_end : (sum : ℤ) (begun : Bool) (x : ℤ) (ns l : List ℤ) → is_limit p q x ≡ false → unpack_from p q sum begun (x ∷ ns) ≡ some l
      → (t : List ℤ) × (unpack_from p q (pos 0) false ns ≡ some t) × (l ≡ (sum +ℤ x) ∷ t)
  unfolding unpack_from
  turn_end sum begun x ns l i e = inside (in32 (sum +ℤ x)) (unpack_from p q (pos 0) false ns) refl (rw i at e)
    where
      inside : (t : Bool) (o : Option (List ℤ)) → unpack_from p q (pos 0) false ns ≡ o → cond t (map (λ (l : List ℤ). (sum +ℤ x) ∷ l) o) none ≡ some l
          → (t : List ℤ) × (unpack_from p q (pos 0) false ns ≡ some t) × (l ≡ (sum +ℤ x) ∷ t)
      inside true (some t) k e = (t, k, cc)
      inside true none k e = let y : ◌≡◌ {A = ℕ} 0 1 = cc in absurd (omega arith)
      inside false o k e = let y : ◌≡◌ {A = ℕ} 0 1 = cc in absurd (omega arith)

  -- packed numbers where a result begins are those written for their results
  abbrev Fresh : List ℤ → Type 0
  Fresh ns = (l : List ℤ) → OwnSign p q ns → unpack_from p q (pos 0) false ns ≡ some l → pack_all p q l ≡ ns

  -- One side

  module _ (sign : ℕ → ℤ) (b : ℕ) (side : Side sign b) where
    rest-limit : (r : ℕ) → r < b → is_limit p q (sign r) ≡ false
    rest-limit r h = side.limit r ∙ ne_eqb r b (λ e. omega arith)

    -- j limits and a rest, after a sum
    unpack-group : (a j r : ℕ) (begun : Bool) (ns : List ℤ) → r < b → ((c : ℕ) → c ≤ a + j * b + r → in32 (sign c) ≡ true)
        → unpack_from p q (sign a) begun (replicate j (sign b) ++ sign r ∷ ns) ≡ map (λ (l : List ℤ). sign (a + j * b + r) ∷ l) (unpack_from p q (pos 0) false ns)
    unfolding unpack_from
    unpack-group a zero r begun ns h k =
        let e : a + 0 * b + r ≡ a + r = omega arith in
        rw (e, side.add a r, k (a + r) (omega arith), rest-limit r h)
    unpack-group a (suc j) r begun ns h k =
        let e : a + suc j * b + r ≡ a + b + j * b + r = omega arith in
        rw (e, side.add a b, k (a + b) (omega arith), side.limit b, eq-eqb b b refl) (unpack-group (a + b) j r true ns h (λ c l. k c (omega arith)))

    unpack-one : (n : ℕ) (ns : List ℤ) → ((c : ℕ) → c ≤ n → in32 (sign c) ≡ true)
        → unpack_from p q (pos 0) false (pack_one p q (sign n) ++ ns) ≡ map (λ (l : List ℤ). sign n ∷ l) (unpack_from p q (pos 0) false ns)
    unpack-one n ns k =
        let e : 0 + n / b * b + n % b ≡ n = omega (arith, div-add-mod' n b) in
        let g = unpack-group 0 (n / b) (n % b) false ns (mod-lt n side.limit-pos) (λ c l. k c (omega arith)) in
        rw (side.packed n, append_assoc) (rw (side.origin, e) at g)

    between-one : (n : ℕ) (ns : List ℤ) → Every (Between p q) ns → Every (Between p q) (pack_one p q (sign n) ++ ns)
    unfolding Every
    between-one n ns g =
        let h : n % b < b = mod-lt n side.limit-pos in
        rw (side.packed n, append_assoc) (group (n / b) (n % b) (omega arith))
      where
        group : (j r : ℕ) → r ≤ b → Every (Between p q) (replicate j (sign b) ++ sign r ∷ ns)
        group zero r h = (side.between r h, g)
        group (suc j) r h = (side.between b (omega arith), group j r h)

    own-one : (n : ℕ) (ns : List ℤ) → OwnSign p q ns → OwnSign p q (pack_one p q (sign n) ++ ns)
    own-one n ns o = rw (side.packed n, append_assoc) (group (n / b) (n % b) (mod-lt n side.limit-pos))
      where
        group : (j r : ℕ) → r < b → OwnSign p q (replicate j (sign b) ++ sign r ∷ ns)
        group zero r h = own_any (sign r) ns (rest-limit r h) o
        group (suc zero) r h = side.own r ns (group zero r h)
        group (suc (suc j)) r h = side.own b (replicate j (sign b) ++ sign r ∷ ns) (group (suc j) r h)

    -- packed numbers after j limits, whose sum is a, are those written for their results
    abbrev After : List ℤ → Type 0
    After ns = (j a : ℕ) → a ≡ j * b → (l : List ℤ) → OwnSign p q (sign b ∷ ns) → unpack_from p q (sign a) true ns ≡ some l → pack_all p q l ≡ replicate j (sign b) ++ ns

    -- j limits and a rest are what is written for their sum
    pack-group : (j a r : ℕ) → a ≡ j * b → r < b → pack_one p q (sign (a + r)) ≡ replicate j (sign b) ++ sign r ∷ []
    pack-group j a r e h =
        let d : j + r / b ≡ j = rw (div-eq_of_lt h) (omega arith) in
        rw (side.packed (a + r), e, mul-add-div_right side.limit-pos j r, mul-add-mod_self_right j b r, mod-eq_of_lt h, d)

    -- one number more, after j limits or none
    pack-turn : (r : ℕ) (ns : List ℤ) → r ≤ b → Fresh ns → After ns → (j a : ℕ) → a ≡ j * b → (begun : Bool) (l : List ℤ) → OwnSign p q (sign r ∷ ns)
        → unpack_from p q (sign a) begun (sign r ∷ ns) ≡ some l → pack_all p q l ≡ replicate j (sign b) ++ sign r ∷ ns
    unfolding pack_all
    pack-turn r ns h fresh after j a e begun l o u = by-limit (r == b) refl
      where
        by-limit : (t : Bool) → (r == b) ≡ t → pack_all p q l ≡ replicate j (sign b) ++ sign r ∷ ns
        by-limit true i =
            let s : r ≡ b = eqb-true r b i in
            let k : OwnSign p q (sign b ∷ ns) = rw s at o in
            let v : unpack_from p q (sign (a + r)) true ns ≡ some l = rw (side.add a r) at (turn-limit (sign a) begun (sign r) ns l (side.limit r ∙ i) u) in
            rw s (after (suc j) (a + r) (omega arith) l k v ∙ sym (replicate-one-more j (sign b) ns))
        by-limit false i =
            let d : r ≡ b → ⊥ = eqb-false r b i in
            let v = turn_end (sign a) begun (sign r) ns l (side.limit r ∙ i) u in
            rw (v.2, side.add a r, pack-group j a r e (omega arith), fresh v.0 (own-tail (sign r) ns o) v.1, append_assoc)

  -- Numbers packed and unpacked

  pub unpack-pack_all : (xs : List ℤ) → AllFit w32 xs → unpack_from p q (pos 0) false (pack_all p q xs) ≡ some xs
  unfolding pack_all Every unpack_from
  unpack-pack_all [] f = refl
  unpack-pack_all (x ∷ xs) f = one x f.0 ∙ ap (map (λ (l : List ℤ). x ∷ l)) (unpack-pack_all xs f.1)
    where
      one : (x : ℤ) → FitsSigned w32 x → unpack_from p q (pos 0) false (pack_one p q x ++ pack_all p q xs) ≡ map (λ (l : List ℤ). x ∷ l) (unpack_from p q (pos 0) false (pack_all p q xs))
      one (pos n) f = unpack-one pos p above n (pack_all p q xs) (λ c h. lt-ltb c 2147483648 (omega (arith, f.sfits)))
      one (negsuc n) f = unpack-one minus q below (suc n) (pack_all p q xs) inside
        where
          inside : (c : ℕ) → c ≤ suc n → in32 (minus c) ≡ true
          inside zero h = refl
          inside (suc c) h = lt-ltb c 2147483648 (omega (arith, f.sfits))

  -- what is packed stands between the limits
  pub pack_all-between : (xs : List ℤ) → Every (Between p q) (pack_all p q xs)
  unfolding pack_all Every
  pack_all-between [] = tt
  pack_all-between (pos n ∷ xs) = between-one pos p above n (pack_all p q xs) (pack_all-between xs)
  pack_all-between (negsuc n ∷ xs) = between-one minus q below (suc n) (pack_all p q xs) (pack_all-between xs)

  -- what is packed takes the limit of the value's own sign
  pub pack_all-OwnSign : (xs : List ℤ) → OwnSign p q (pack_all p q xs)
  unfolding pack_all OwnSign
  pack_all-OwnSign [] = tt
  pack_all-OwnSign (pos n ∷ xs) = own-one pos p above n (pack_all p q xs) (pack_all-OwnSign xs)
  pack_all-OwnSign (negsuc n ∷ xs) = own-one minus q below (suc n) (pack_all p q xs) (pack_all-OwnSign xs)

  -- Packed numbers unpacked and packed

  pack-from : (ns : List ℤ) → Every (Between p q) ns → Fresh ns × After pos p above ns × After minus q below ns
  unfolding Every OwnSign unpack_from pack_all
  pack-from [] f = (λ l o u. let z : [] ≡ l = cc in rw (← z), λ j a e l o u. unfinished u, λ j a e l o u. unfinished u)
    where
      unfinished : {A : Type 0} {l : List ℤ} → none ≡ some l → A
      unfinished u = let y : ◌≡◌ {A = ℕ} 0 1 = cc in absurd (omega arith)
  pack-from (pos n ∷ ns) f =
      let i = pack-from ns f.1 in
      let e : 0 ≡ 0 * p = omega arith in
      let turn = pack-turn pos p above n ns f.0 i.0 i.1 in
      (λ l o u. turn 0 0 e false l o u, λ j a e l o u. turn j a e true l o.2 u, lower i.0 i.2 n)
    where
      -- 0 stands on both sides
      lower : Fresh ns → After minus q below ns → (n : ℕ) → After minus q below (pos n ∷ ns)
      lower fresh after zero j a e l o u = pack-turn minus q below 0 ns (omega arith) fresh after j a e true l o.2 u
      lower fresh after (suc n) j a e l o u = absurd (omega (arith, leb→le (suc n) 0 (o.1 refl).le))
  pack-from (negsuc n ∷ ns) f =
      let i = pack-from ns f.1 in
      let e : 0 ≡ 0 * q = omega arith in
      let turn = pack-turn minus q below (suc n) ns f.0 i.0 i.2 in
      (λ l o u. turn 0 0 e false l o u, λ j a e l o u. absurd (o.0 refl).le, λ j a e l o u. turn j a e true l o.2 u)

  pub pack_all-unpack : (ns l : List ℤ) → Every (Between p q) ns → OwnSign p q ns → unpack_from p q (pos 0) false ns ≡ some l → pack_all p q l ≡ ns
  pack_all-unpack ns l f = (pack-from ns f).0 l
