-- Values at places by a table of lead bytes: what is made of a head that is known. Assumes nothing.
use Rattle.std.specs.Prelude.{◌≡◌, refl, Option, None, Bool, true, false, cond, not, ◌&&◌, List, [], ◌∷◌, map, ℕ, zero, suc, ◌+◌, ◌-◌, ◌≤◌, ◌<◌, T, eqb, leb, ltb, length, get_or}
use Rattle.std.proofs.Common.{sym, ap, subst, ◌∙◌, arith, le-leb, lt-ltb, le-ltb, leb-true, ne_eqb}
use Rattle.std.proofs.lemmas.Bool.{lt-leb}
use denote.Enum.Declared.{tag_of}
use types.Run.{OneOf, miss}
use mir.Val.{has_key}
use Rattle.heads.specs.Table.{kind_cell, kind_by, head_by}
use Rattle.heads.specs.contracts.Kind.{the_type}
use Rattle.heads.specs.declared.Kind.{Kind}
use Rattle.heads.specs.Head.{some_head}
use Rattle.heads.specs.declared.Head.{Head}
use Rattle.values.specs.Heads.{no_part, body_part, items_part, by_head, is_short, text_by, text_by_table}
use Rattle.values.specs.declared.Part.{Part}

-- a head that is cut short, and one that is there with its kind
module _ (leads s : List ℕ) (at : ℕ) {A : Type 0} (cut : A) (f : Kind → ℕ → ℕ → A) {h : Option Head} (q : h ≡ head_by leads s at) where
  pub by-cut : h ≡ None → cut ≡ by_head leads s at cut f
  by-cut t = rw (← q, t)

  pub by-head : {n p : ℕ} → h ≡ some_head n p → {k d : Kind} → k ≡ kind_by leads s at → k ≡ d → f d n p ≡ by_head leads s at cut f
  by-head t i j = rw (← q, t, ← i, j)

  pub by-other : {n p : ℕ} → h ≡ some_head n p → {k : Kind} → k ≡ kind_by leads s at → f k n p ≡ cut → cut ≡ by_head leads s at cut f
  by-other t i o = sym o ∙ by-head t i refl

-- a kind that is none of those that a match names

-- a kind's place in its enum, and the places of all kinds but some
abbrev place : Kind → ℕ
place k = tag_of the_type k

abbrev without : List ℕ → ℕ → ℕ → List ℕ
without ks i zero = []
without ks i (suc n) = cond (has_key ks i) (without ks (suc i) n) (i ∷ without ks (suc i) n)

abbrev pub all_but : List Kind → List ℕ
all_but ks = without (map place ks) 0 9

cell_other : (i j : ℕ) (ks : List ℕ) → T (not (has_key ks j)) → OneOf ks i → eqb (suc i) (suc j) ≡ false
cell_other i j ks h o = ne_eqb (suc i) (suc j) (λ e. let q : i ≡ j = omega arith in miss ks j h (subst (OneOf ks) q o))

pub kind-other : (w : Kind) (ws : List Kind) (k : Kind) → T (not (has_key (all_but ws) (place w))) → OneOf (all_but ws) (place k) → eqb (kind_cell k) (suc (place w)) ≡ false
kind-other w ws Kind.Unsigned h o = cell_other 0 (place w) (all_but ws) h o
kind-other w ws Kind.Signed h o = cell_other 1 (place w) (all_but ws) h o
kind-other w ws Kind.Float h o = cell_other 2 (place w) (all_but ws) h o
kind-other w ws Kind.Str h o = cell_other 3 (place w) (all_but ws) h o
kind-other w ws Kind.Bin h o = cell_other 4 (place w) (all_but ws) h o
kind-other w ws Kind.Array h o = cell_other 5 (place w) (all_but ws) h o
kind-other w ws Kind.Map h o = cell_other 6 (place w) (all_but ws) h o
kind-other w ws Kind.Outside h o = ne_eqb 0 (suc (place w)) (λ e. omega arith)
kind-other w ws Kind.Missing h o = ne_eqb 0 (suc (place w)) (λ e. omega arith)

-- bytes that are inside, and none
module _ {y : Part} (size n p : ℕ) (q : y ≡ body_part size n p) where
  pub body-part : p + n ≤ size → (y.at ≡ p) × (y.count ≡ n)
  body-part l = rw (q, le-leb (p + n) size l) (refl, refl)

  pub body-inside : y.at + y.count ≤ size
  body-inside = rw q (go (leb (p + n) size) refl)
    where
      go : (b : Bool) → leb (p + n) size ≡ b → (cond b (record { at = p; count = n }) no_part).at + (cond b (record { at = p; count = n }) no_part).count ≤ size
      go true e = leb-true (p + n) size e
      go false e = omega arith

-- values that can be inside, and none
module _ (size n p : ℕ) where
  pub items-part : n ≤ size → items_part size n p ≡ record { at = p; count = n }
  items-part l = rw (le-leb n size l)

  pub items-inside : (items_part size n p).count ≤ size
  items-inside = go (leb n size) refl
    where
      go : (b : Bool) → leb n size ≡ b → (cond b (record { at = p; count = n }) no_part).count ≤ size
      go true e = leb-true n size e
      go false e = omega arith

-- a short string is told by its lead byte, and another value by the table
module _ (leads s : List ℕ) (at : ℕ) {y : Part} where
  pub text-short : at < length s → 0xa0 ≤ get_or s at 0 → get_or s at 0 < 0xc0 → {n : ℕ} → n ≡ get_or s at 0 - 0xa0 → y ≡ body_part (length s) n (at + 1) → y ≡ text_by leads s at
  text-short l a b i q = q ∙ ap (λ (m : ℕ). body_part (length s) m (at + 1)) i ∙ sym (rw (lt-ltb at (length s) l, le-leb 0xa0 (get_or s at 0) a, lt-ltb (get_or s at 0) 0xc0 b))

  by-table : is_short s at ≡ false → y ≡ text_by_table leads s at → y ≡ text_by leads s at
  by-table e q = q ∙ sym (rw e)

  pub text-low : get_or s at 0 < 0xa0 → y ≡ text_by_table leads s at → y ≡ text_by leads s at
  text-low l = by-table (rw (lt-leb 0xa0 (get_or s at 0) l) (and-false (ltb at (length s))))
    where
      and-false : (b : Bool) → b && false ≡ false
      and-false true = refl
      and-false false = refl

  pub text-high : 0xc0 ≤ get_or s at 0 → y ≡ text_by_table leads s at → y ≡ text_by leads s at
  text-high l = by-table (rw (le-ltb (get_or s at 0) 0xc0 l) (neither (ltb at (length s)) (leb 0xa0 (get_or s at 0))))
    where
      neither : (a b : Bool) → a && (b && false) ≡ false
      neither true true = refl
      neither true false = refl
      neither false b = refl

  pub text-past : length s ≤ at → y ≡ text_by_table leads s at → y ≡ text_by leads s at
  text-past l = by-table (rw (le-ltb at (length s) l))
