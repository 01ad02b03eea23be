-- Laws of run-length: cells into longest runs and back, and longest runs into cells and back. Assumes nothing.
use Rattle.std.specs.Prelude.{◌≡◌, ℕ, zero, suc, ◌+◌, ◌%◌, ◌<◌, Bool, true, false, cond, List, [], ◌∷◌, ◌++◌, length, replicate, ℤ, pos, negsuc, FitsSigned, ◌≢◌, int_lt, refl}
use Rattle.std.proofs.Common.{sym, ap, ◌∙◌, arith, to_z, of_z, to_z-of_z, eq-eqb, ne_eqb, eqb-true, le-ltb}
use Rattle.std.proofs.Math.Option.{Option, none, some, map}
use Rattle.std.specs.Int.{w32}
use Rattle.std.proofs.lemmas.Bool.{eqb-false}
use Rattle.steps.specs.Fits.{Every, AllFit}
use Rattle.steps.specs.RunLength.{expand, same, runs_from, runs_of}
use Rattle.steps.specs.WriterForm.{Longest}

-- Cells that are the same

same-equal : (x v : ℤ) → FitsSigned w32 x → FitsSigned w32 v → same x v ≡ true → x ≡ v
same-equal x v f g e = sym (to_z-of_z {w = w32} f) ∙ ap (to_z w32) (eqb-true (of_z w32 x) (of_z w32 v) e) ∙ to_z-of_z {w = w32} g

same-differ : (x v : ℤ) → FitsSigned w32 x → FitsSigned w32 v → (x ≢ v) → same x v ≡ false
same-differ x v f g d = ne_eqb (of_z w32 x) (of_z w32 v) (λ e. d (same-equal x v f g (eq-eqb (of_z w32 x) (of_z w32 v) e)))

-- Runs, then cells

count-ok : (n : ℕ) → int_lt (pos (suc n)) (pos 1) ≡ false
count-ok n = le-ltb (suc n) 1 (omega arith)

pub replicate-one-more : (n : ℕ) (v : ℤ) (xs : List ℤ) → replicate n v ++ v ∷ xs ≡ v ∷ (replicate n v ++ xs)
replicate-one-more zero v xs = refl
replicate-one-more (suc n) v xs = ap (λ (l : List ℤ). v ∷ l) (replicate-one-more n v xs)

expand-runs_from : (v : ℤ) (n : ℕ) (xs : List ℤ) → FitsSigned w32 v → AllFit w32 xs → expand (runs_from v (suc n) xs) ≡ some (v ∷ (replicate n v ++ xs))
unfolding expand runs_from Every
expand-runs_from v n [] f g = rw (count-ok n)
expand-runs_from v n (x ∷ xs) f g = by_value (expand-runs_from v (suc n) xs f g.1) (expand-runs_from x 0 xs g.0 g.1) (same x v) refl
  where
    by_value : expand (runs_from v (suc (suc n)) xs) ≡ some (v ∷ (v ∷ (replicate n v ++ xs))) → expand (runs_from x 1 xs) ≡ some (x ∷ xs) → (t : Bool) → same x v ≡ t
        → expand (cond t (runs_from v (suc (suc n)) xs) (v ∷ (pos (suc n) ∷ runs_from x 1 xs))) ≡ some (v ∷ (replicate n v ++ x ∷ xs))
    by_value i j true e = rw (same-equal x v g.0 f e, replicate-one-more n v xs) i
    by_value i j false e = rw (count-ok n, j)

-- cells written as runs and expanded
pub expand-runs_of : (xs : List ℤ) → AllFit w32 xs → expand (runs_of xs) ≡ some xs
unfolding expand runs_of Every
expand-runs_of [] f = refl
expand-runs_of (x ∷ xs) f = expand-runs_from x 0 xs f.0 f.1

-- what runs_of writes

runs-even : (v : ℤ) (n : ℕ) (xs : List ℤ) → length (runs_from v n xs) % 2 ≡ 0
unfolding runs_from
runs-even v n [] = refl
runs-even v n (x ∷ xs) = by_value (runs-even v (suc n) xs) (runs-even x 1 xs) (same x v)
  where
    by_value : length (runs_from v (suc n) xs) % 2 ≡ 0 → length (runs_from x 1 xs) % 2 ≡ 0 → (t : Bool) → length (cond t (runs_from v (suc n) xs) (v ∷ (pos n ∷ runs_from x 1 xs))) % 2 ≡ 0
    by_value i j true = i
    by_value i j false = omega arith

-- pairs of value and count
pub runs_of-even : (xs : List ℤ) → length (runs_of xs) % 2 ≡ 0
unfolding runs_of
runs_of-even [] = refl
runs_of-even (x ∷ xs) = runs-even x 1 xs

runs_fit : (v : ℤ) (n : ℕ) (xs : List ℤ) → FitsSigned w32 v → AllFit w32 xs → n + length xs < 2147483648 → AllFit w32 (runs_from v n xs)
unfolding runs_from Every
runs_fit v n [] f g h = (f, (record { sfits = omega arith }, tt))
runs_fit v n (x ∷ xs) f g h = by_value (runs_fit v (suc n) xs f g.1 (omega arith)) (runs_fit x 1 xs g.0 g.1 (omega arith)) (same x v)
  where
    by_value : AllFit w32 (runs_from v (suc n) xs) → AllFit w32 (runs_from x 1 xs) → (t : Bool) → AllFit w32 (cond t (runs_from v (suc n) xs) (v ∷ (pos n ∷ runs_from x 1 xs)))
    by_value i j true = i
    by_value i j false = (f, (record { sfits = omega arith }, j))

-- 32-bit numbers, where the cells are not too many to count
pub runs_of-fit : (xs : List ℤ) → AllFit w32 xs → length xs < 2147483648 → AllFit w32 (runs_of xs)
unfolding runs_of Every
runs_of-fit [] f h = tt
runs_of-fit (x ∷ xs) f h = runs_fit x 1 xs f.0 f.1 (omega arith)

runs-head : (v : ℤ) (n : ℕ) (xs : List ℤ) → (ys : List ℤ) × (runs_from v n xs ≡ v ∷ ys)
unfolding runs_from
runs-head v n [] = (pos n ∷ [], refl)
runs-head v n (x ∷ xs) = by_value (runs-head v (suc n) xs) (same x v)
  where
    by_value : (ys : List ℤ) × (runs_from v (suc n) xs ≡ v ∷ ys) → (t : Bool) → (ys : List ℤ) × (cond t (runs_from v (suc n) xs) (v ∷ (pos n ∷ runs_from x 1 xs)) ≡ v ∷ ys)
    by_value i true = i
    by_value i false = (pos n ∷ runs_from x 1 xs, refl)

runs-longest : (v : ℤ) (n : ℕ) (xs : List ℤ) → Longest (runs_from v n xs)
unfolding runs_from Longest
runs-longest v n [] = tt
runs-longest v n (x ∷ xs) = by_value (runs-longest v (suc n) xs) (runs-longest x 1 xs) (same x v) refl
  where
    by_value : Longest (runs_from v (suc n) xs) → Longest (runs_from x 1 xs) → (t : Bool) → same x v ≡ t → Longest (cond t (runs_from v (suc n) xs) (v ∷ (pos n ∷ runs_from x 1 xs)))
    by_value i j true e = i
    by_value i j false e =
        let h = runs-head x 1 xs in
        rw h.1 (λ q. eqb-false (of_z w32 x) (of_z w32 v) e (ap (of_z w32) q), rw h.1 at j)

-- the longest runs
pub runs_of-Longest : (xs : List ℤ) → Longest (runs_of xs)
unfolding runs_of Longest
runs_of-Longest [] = tt
runs_of-Longest (x ∷ xs) = runs-longest x 1 xs

-- Cells, then runs

longest-tail : (v n : ℤ) (ns : List ℤ) → Longest (v ∷ (n ∷ ns)) → Longest ns
unfolding Longest
longest-tail v n [] g = tt
longest-tail v n (w ∷ ns) g = g.1

pub runs_grow : (v : ℤ) (n k : ℕ) (l : List ℤ) → runs_from v n (replicate k v ++ l) ≡ runs_from v (n + k) l
unfolding runs_from
runs_grow v n zero l = let e : n + 0 ≡ n = omega arith in rw e
runs_grow v n (suc k) l = let e : n + suc k ≡ suc n + k = omega arith in rw (e, eq-eqb (of_z w32 v) (of_z w32 v) refl) (runs_grow v (suc n) k l)

-- the first run of an expansion
pub first_run : (v n : ℤ) (ns l : List ℤ) → expand (v ∷ (n ∷ ns)) ≡ some l
    → (k : ℕ) × (t : List ℤ) × (n ≡ pos (suc k)) × (expand ns ≡ some t) × (l ≡ v ∷ (replicate k v ++ t))
unfolding expand
first_run v (negsuc n) ns l e = let y : ◌≡◌ {A = ℕ} 0 1 = cc in absurd (omega arith)
first_run v (pos zero) ns l e = let y : ◌≡◌ {A = ℕ} 0 1 = cc in absurd (omega arith)
first_run v (pos (suc k)) ns l e = by-rest (expand ns) refl (rw (count-ok k) at e)
  where
    by-rest : (o : Option (List ℤ)) → expand ns ≡ o → map (λ (l : List ℤ). v ∷ (replicate k v ++ l)) o ≡ some l
        → (j : ℕ) × (t : List ℤ) × (pos (suc k) ≡ pos (suc j)) × (expand ns ≡ some t) × (l ≡ v ∷ (replicate j v ++ t))
    by-rest (some t) q h = (k, t, refl, q, cc)
    by-rest none q h = let y : ◌≡◌ {A = ℕ} 0 1 = cc in absurd (omega arith)

-- a run ends where another value follows
run_ends : (v n : ℤ) (k : ℕ) (ns t : List ℤ) → FitsSigned w32 v → AllFit w32 ns → Longest (v ∷ (n ∷ ns)) → runs_of t ≡ ns → runs_from v k t ≡ v ∷ (pos k ∷ ns)
unfolding runs_from runs_of Longest Every
run_ends v n k ns [] f g h e = ap (λ (l : List ℤ). v ∷ (pos k ∷ l)) e
run_ends v n k ns (w ∷ t) f g h e =
    let i = runs-head w 1 t in
    let r : ns ≡ w ∷ i.0 = sym e ∙ i.1 in
    let d : (w ≢ v) × Longest (w ∷ i.0) = rw r at h in
    let a : FitsSigned w32 w × AllFit w32 i.0 = rw r at g in
    rw (same-differ w v a.0 f d.0, e)

-- longest runs expanded and written as runs
pub runs_of-expand : (ns l : List ℤ) → AllFit w32 ns → length ns % 2 ≡ 0 → Longest ns → expand ns ≡ some l → runs_of l ≡ ns
unfolding expand runs_of Every
runs_of-expand [] l f h g e = let z : [] ≡ l = cc in ap runs_of (sym z)
runs_of-expand (v ∷ []) l f h g e = absurd (omega arith)
runs_of-expand (v ∷ (n ∷ ns)) l f h g e =
    let i = first_run v n ns l e in
    let r = runs_of-expand ns i.1 f.1.1 (omega arith) (longest-tail v n ns g) i.3 in
    let c : 1 + i.0 ≡ suc i.0 = omega arith in
    ap runs_of i.4 ∙ runs_grow v 1 i.0 i.1 ∙ run_ends v n (1 + i.0) ns i.1 f.0 f.1.1 g r ∙ ap (λ (c : ℤ). v ∷ (c ∷ ns)) (ap pos c ∙ sym i.2)
