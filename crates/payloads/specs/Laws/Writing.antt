-- Laws of writing a payload's results into a buffer, once over the elements' type: a run of them, and run after run. Assumes nothing.
use Rattle.std.specs.Prelude.{◌≡◌, ℕ, zero, suc, ◌+◌, ◌<◌, ◌≤◌, Bool, true, List, [], ◌∷◌, ◌++◌, map, length, take, drop, set, replicate, ℤ, pos, slice_index_or, slice_set}
use Rattle.std.proofs.Math.Path.{refl}
use Rattle.std.proofs.Common.{sym, ap, ap₂, subst, ◌∙◌, append-nil, append_assoc, arith, add-one, length-append, length-drop, take-append-drop, drop-cons, drop-drop, length-take-le, take-suc, take_all, take_at, drop_at}
use Rattle.std.proofs.Math.Option
use Rattle.std.proofs.Math.Option.{Option, none, some}
use Rattle.std.proofs.lemmas.List.{length-map, length-replicate, set_at}
use Rattle.steps.specs.declared.Form.{Form}
use Rattle.steps.specs.Delta.{advance, results_from, last_from}
use Rattle.steps.specs.Payload.{read_in}
use Rattle.steps.proofs.Laws.Delta.{length-results, results-append, last-append}
use Rattle.payloads.specs.Exact.{all_exact}
use Rattle.payloads.specs.Results.{paste, Filled, HasRoom, HasResults, Wrote, ResultsExact}
use Rattle.payloads.specs.Laws.Exact.{exact-parts}
use Rattle.payloads.specs.Laws.Scan.{map-id, map_both, rest_of}

-- Lists

module _ {B : Type 0} (g : ℤ → B) where
  pub map-append : (p q : List ℤ) → map g (p ++ q) ≡ map g p ++ map g q
  map-append [] q = refl
  map-append (x ∷ p) q = ap (λ (l : List B). g x ∷ l) (map-append p q)

module _ {B : Type 0} (old : List B) (o : ℕ) where
  pub paste_none : paste old o [] ≡ old
  paste_none = let e : o + 0 ≡ o = omega arith in rw e (take-append-drop o old)

  pub paste-length : (l : List B) → o + length l ≤ length old → length (paste old o l) ≡ length old
  paste-length l h =
      let a = length-append (take o old) (l ++ drop (o + length l) old) in
      let b = length-append l (drop (o + length l) old) in
      let c = length-take-le o old (omega arith) in
      let d = length-drop (o + length l) old in
      omega arith

  -- one element after those that are pasted
  pub paste-set : (l : List B) (x e : B) → o + length l < length old → slice_set (paste old o l) (o + length l) x ≡ paste old o (l ++ (x ∷ []))
  paste-set l x e h =
      let t : length (take o old) ≡ o = length-take-le o old (omega arith) in
      let p : length (take o old ++ l) ≡ o + length l = length-append (take o old) l ∙ ap (λ (n : ℕ). n + length l) t in
      let d : drop (o + length l) old ≡ slice_index_or old (o + length l) e ∷ drop (suc (o + length l)) old = drop-cons old (o + length l) e h in
      let s : paste old o l ≡ (take o old ++ l) ++ (slice_index_or old (o + length l) e ∷ drop (suc (o + length l)) old) = sym (append_assoc (take o old) l (drop (o + length l) old)) ∙ ap (λ (r : List B). (take o old ++ l) ++ r) d in
      let n : o + length (l ++ (x ∷ [])) ≡ suc (o + length l) = let a = length-append l (x ∷ []) in omega arith in
      ap (λ (r : List B). set r (o + length l) x) s
      ∙ set_at (take o old ++ l) (slice_index_or old (o + length l) e) (drop (suc (o + length l)) old) x (o + length l) p
      ∙ rw n (append_assoc (take o old) l (x ∷ drop (suc (o + length l)) old) ∙ ap (λ (r : List B). take o old ++ r) (sym (append_assoc l (x ∷ []) (drop (suc (o + length l)) old))))

  -- a list behind one that is pasted
  pub paste_more : (l m : List B) → o + (length l + length m) ≤ length old → paste (paste old o l) (o + length l) m ≡ paste old o (l ++ m)
  paste_more l m h =
      let n : length (take o old ++ l) ≡ o + length l = length-append (take o old) l ∙ ap (λ (i : ℕ). i + length l) (length-take-le o old (omega arith)) in
      let a : paste old o l ≡ (take o old ++ l) ++ drop (o + length l) old = sym (append_assoc (take o old) l (drop (o + length l) old)) in
      let t : take (o + length l) (paste old o l) ≡ take o old ++ l = ap (take (o + length l)) a ∙ take_at (take o old ++ l) (drop (o + length l) old) (o + length l) n in
      let e : o + length l + length m ≡ o + length (l ++ m) = let q = length-append l m in omega arith in
      let d : drop (o + length l + length m) (paste old o l) ≡ drop (o + length (l ++ m)) old =
      sym (drop-drop (length m) (o + length l) (paste old o l)) ∙ ap (drop (length m)) (ap (drop (o + length l)) a ∙ drop_at (take o old ++ l) (drop (o + length l) old) (o + length l) n)
      ∙ drop-drop (length m) (o + length l) old ∙ ap (λ (i : ℕ). drop i old) e in
      rw (t, d) (simp append_assoc)

-- after a list at the buffer's start, one more behind it
pub paste-front : {B : Type 0} (old l m : List B) → length l + length m ≤ length old
    → paste (l ++ drop (length l) old) (length l) m ≡ (l ++ m) ++ drop (length (l ++ m)) old
paste-front old l m h =
    let t = take_at l (drop (length l) old) (length l) refl in
    let d : drop (length l + length m) (l ++ drop (length l) old) ≡ drop (length (l ++ m)) old =
    sym (drop-drop (length m) (length l) (l ++ drop (length l) old)) ∙ ap (drop (length m)) (drop_at l (drop (length l) old) (length l) refl)
    ∙ drop-drop (length m) (length l) old ∙ ap (λ (n : ℕ). drop n old) (sym (length-append l m)) in
    rw (t, d) (sym (append_assoc l m (drop (length (l ++ m)) old)))

-- One after the other: the first i elements of l stand at the buffer's start, and from i on nothing has changed.
module _ {B : Type 0} (l old : List B) where
  pub laid_next : (new : List B) (i : ℕ) (b e : B) → i < length l → length l ≤ length old → b ≡ slice_index_or l i e → new ≡ take i l ++ drop i old
      → slice_set new i b ≡ take (i + 1) l ++ drop (i + 1) old
  laid_next new i b e h k q w =
      let n = length-take-le i l (omega arith) in
      let d = drop-cons old i e (omega arith) in
      let t = take-suc l i e h in
      ap (λ (x : List B). set x i b) (w ∙ ap (λ (x : List B). take i l ++ x) d)
      ∙ set_at (take i l) (slice_index_or old i e) (drop (suc i) old) b i n
      ∙ rw (add-one i, t, q) (sym (append_assoc (take i l) (slice_index_or l i e ∷ []) (drop (suc i) old)))

  pub laid-all : (new : List B) (i : ℕ) → i ≡ length l → new ≡ take i l ++ drop i old → new ≡ l ++ drop (length l) old
  laid-all new i e w = w ∙ rw e (ap (λ (x : List B). x ++ drop (length l) old) (take_all (length l) l (omega arith)))

-- A run

-- one value more at the end of a run
run_more : (d : Bool) (a v : ℤ) (n : ℕ) → results_from d a (replicate (suc n) v) ≡ results_from d a (replicate n v) ++ (advance d (last_from d a (replicate n v)) v ∷ [])
unfolding results_from last_from
run_more d a v zero = refl
run_more d a v (suc n) = ap (λ (l : List ℤ). advance d a v ∷ l) (run_more d (advance d a v) v n)

last_more : (d : Bool) (a v : ℤ) (n : ℕ) → last_from d a (replicate (suc n) v) ≡ advance d (last_from d a (replicate n v)) v
unfolding last_from
last_more d a v zero = refl
last_more d a v (suc n) = last_more d (advance d a v) v n

module _ {B : Type 0} (g : ℤ → B) (d : Bool) (a v : ℤ) (old : List B) (from : ℕ) where
  pub filled-start : Filled g d a v old from 0 old a
  unfolding results_from last_from
  filled-start = (sym (paste_none old from), refl)

  filled-size : (n : ℕ) → length (map g (results_from d a (replicate n v))) ≡ n
  filled-size n = length-map (results_from d a (replicate n v)) g ∙ length-results d a (replicate n v) ∙ length-replicate n v

  filled_more : (n : ℕ) (new : List B) (x y : ℤ) (e : B) → from + n < length old → Filled g d a v old from n new x → y ≡ advance d x v → Filled g d a v old from (suc n) (slice_set new (from + n) (g y)) y
  filled_more n new x y e h w q =
      let r = results_from d a (replicate n v) in
      let s = filled-size n in
      let z : y ≡ advance d (last_from d a (replicate n v)) v = q ∙ ap (λ (t : ℤ). advance d t v) w.1 in
      let m : map g (results_from d a (replicate (suc n) v)) ≡ map g (results_from d a (replicate n v)) ++ (g y ∷ []) =
      ap (map g) (run_more d a v n) ∙ map-append g (results_from d a (replicate n v)) (advance d (last_from d a (replicate n v)) v ∷ []) ∙ ap (λ (t : ℤ). map g (results_from d a (replicate n v)) ++ (g t ∷ [])) (sym z) in
      let p : set new (from + n) (g y) ≡ set (paste old from (map g (results_from d a (replicate n v)))) (from + length (map g (results_from d a (replicate n v)))) (g y) =
      ap₂ (λ (l : List B) (k : ℕ). set l (from + k) (g y)) w.0 (sym s) in
      (p ∙ paste-set old from (map g (results_from d a (replicate n v))) (g y) e (omega arith) ∙ ap (paste old from) (sym m), z ∙ sym (last_more d a v n))

  pub filled_next : (n : ℕ) (new : List B) (x y : ℤ) (b e : B) → from + n < length old → Filled g d a v old from n new x → y ≡ advance d x v → b ≡ g y → Filled g d a v old from (n + 1) (slice_set new (from + n) b) y
  filled_next n new x y b e h w q z = rw (add-one n, z) (filled_more n new x y e h w q)

-- Run after run

-- the results of the next run, behind those of the values p, are exact where all are
pub next-exact : (f : Form) (d : Bool) (s : List ℕ) (p : List ℤ) (x v : ℤ) (k : ℕ) (left left' : Option (List ℤ)) (l : List ℤ) → ResultsExact f d s → read_in f s ≡ some l
    → read_in f s ≡ Option.map (λ (t : List ℤ). p ++ t) left → x ≡ last_from d (pos 0) p → left ≡ Option.map (λ (t : List ℤ). replicate k v ++ t) left'
    → all_exact (results_from d x (replicate k v)) ≡ true
next-exact f d s p x v k left left' l h e a y q = by left' (a ∙ ap (Option.map (λ (t : List ℤ). p ++ t)) q)
  where
    by : (o : Option (List ℤ)) → read_in f s ≡ Option.map (λ (t : List ℤ). p ++ t) (Option.map (λ (t : List ℤ). replicate k v ++ t) o) → all_exact (results_from d x (replicate k v)) ≡ true
    by none z = let y : ◌≡◌ {A = ℕ} 0 1 = cc in absurd (omega arith)
    by (some t) z =
        let u = (exact-parts (results_from d (pos 0) p) (results_from d (last_from d (pos 0) p) (replicate k v ++ t)) (rw results-append at (h (p ++ (replicate k v ++ t)) z))).1 in
        rw y (exact-parts (results_from d (last_from d (pos 0) p) (replicate k v)) (results_from d (last_from d (last_from d (pos 0) p) (replicate k v)) t) (rw results-append at u)).0

module _ {B : Type 0} (g : ℤ → B) (f : Form) (d : Bool) (s : List ℕ) (old : List B) (room : HasRoom f s (length old)) where
  -- the values p are read before those that are left, and their results stand at the buffer's start
  abbrev pub WrittenTo : Option (List ℤ) → ℕ → List B → ℤ → Type 0
  WrittenTo left o new x =
      (p : List ℤ) × (read_in f s ≡ Option.map (λ (l : List ℤ). p ++ l) left) × (o ≡ length p) × (x ≡ last_from d (pos 0) p)
      × (new ≡ map g (results_from d (pos 0) p) ++ drop (length p) old)

  -- those that are left stand from the place `at` on
  abbrev pub Written : ℕ → ℕ → List B → ℤ → Type 0
  Written at o new x = WrittenTo (read_in f (drop at s)) o new x

  pub written_start : Written 0 0 old (pos 0)
  unfolding results_from last_from
  written_start = ([], map-id (read_in f s), refl, refl, refl)

  module _ (left : Option (List ℤ)) (o : ℕ) (new : List B) (x : ℤ) (w : WrittenTo left o new x) where
    -- the rest of the values
    pub written-rest : (r : List ℤ) × (left ≡ some r) × (w.0 ++ r ≡ room.0)
    written-rest = let r = rest_of w.0 room.0 left (sym room.1 ∙ w.1) in (r.0, r.1, sym r.2)

    pub written-length : length new ≡ length old
    written-length =
        let a = length-append w.0 written-rest.0 in
        let b = ap length written-rest.2 in
        let m = length-append (map g (results_from d (pos 0) w.0)) (drop (length w.0) old) in
        let c = length-map (results_from d (pos 0) w.0) g in
        let e = length-results d (pos 0) w.0 in
        let k = length-drop (length w.0) old in
        let h = room.2 in
        let n = ap length w.4 in
        omega arith

    module _ (v : ℤ) (k : ℕ) (left' : Option (List ℤ)) (q : left ≡ Option.map (λ (l : List ℤ). replicate k v ++ l) left') where
      -- there is room for a run
      pub written-room : o + k ≤ length new
      written-room =
          let x = rest_of (replicate k v) written-rest.0 left' (sym written-rest.1 ∙ q) in
          let a = ap length x.2 in
          let b = length-append (replicate k v) x.0 in
          let c = length-replicate k v in
          let m = length-append w.0 written-rest.0 in
          let i = ap length written-rest.2 in
          let h = room.2 in
          let n = written-length in
          let j = w.2 in
          omega arith

      -- a run more
      pub written-run : (new' : List B) (x' : ℤ) → Filled g d x v new o k new' x' → WrittenTo left' (o + k) new' x'
      written-run new' x' t =
          let p = w.0 in
          let a = w.1 ∙ ap (Option.map (λ (l : List ℤ). w.0 ++ l)) q ∙ map_both (λ (l : List ℤ). w.0 ++ l) (λ (l : List ℤ). replicate k v ++ l) (left') in
          let n = length-append w.0 (replicate k v) in
          let c = length-replicate k v in
          let j = w.2 in
          let r = written-room in
          let z = t.1 ∙ ap (λ (y : ℤ). last_from d y (replicate k v)) w.3 ∙ sym (last-append d (pos 0) w.0 (replicate k v)) in
          (w.0 ++ replicate k v, simp append_assoc a, omega arith, z, t.0 ∙ pasted)
        where
          P : List B
          P = map g (results_from d (pos 0) w.0)

          Q : List B
          Q = map g (results_from d x (replicate k v))

          size : length P ≡ length w.0
          size = length-map (results_from d (pos 0) w.0) g ∙ length-results d (pos 0) w.0

          whole : P ++ Q ≡ map g (results_from d (pos 0) (w.0 ++ replicate k v))
          whole = ap (λ (y : ℤ). P ++ map g (results_from d y (replicate k v))) w.3 ∙ sym (map-append g (results_from d (pos 0) w.0) (results_from d (last_from d (pos 0) w.0) (replicate k v))) ∙ ap (map g) (sym (results-append d (pos 0) w.0 (replicate k v)))

          all : length (P ++ Q) ≡ length (w.0 ++ replicate k v)
          all = ap length whole ∙ length-map (results_from d (pos 0) (w.0 ++ replicate k v)) g ∙ length-results d (pos 0) (w.0 ++ replicate k v)

          fits : length P + length Q ≤ length old
          fits =
              let a = length-map (results_from d x (replicate k v)) g ∙ length-results d x (replicate k v) ∙ length-replicate k v in
              let r = written-room in
              let n = written-length in
              let j = w.2 in
              omega (arith, size)

          pasted : paste new o Q ≡ map g (results_from d (pos 0) (w.0 ++ replicate k v)) ++ drop (length (w.0 ++ replicate k v)) old
          pasted =
              ap₂ (λ (l : List B) (i : ℕ). paste l i Q) (w.4 ∙ ap (λ (i : ℕ). P ++ drop i old) (sym size)) (w.2 ∙ sym size)
              ∙ paste-front old P Q fits ∙ ap₂ (λ (l : List B) (i : ℕ). l ++ drop i old) whole all

      -- the results of a run are exact where all are
      pub written-exact : ResultsExact f d s → all_exact (results_from d x (replicate k v)) ≡ true
      written-exact h = next-exact f d s w.0 x v k left left' room.0 h room.1 w.1 w.3 q

      -- one value more
      pub written_one : k ≡ 1 → (y : ℤ) (b e : B) → y ≡ advance d x v → b ≡ g y → WrittenTo left' (o + 1) (slice_set new o b) y
      written_one one y b e h z =
          let r = written-room in
          let n : o + 0 ≡ o = omega arith in
          let t = filled_next g d x v new o 0 new x y b e (omega arith) (filled-start g d x v new o) h z in
          let m = subst (λ (i : ℕ). Filled g d x v new o 1 (slice_set new i b) y) n t in
          let u : Filled g d x v new o k (slice_set new o b) y = rw one m in
          subst (λ (i : ℕ). WrittenTo left' (o + i) (slice_set new o b) y) one (written-run (slice_set new o b) y u)

    -- there is room for a value, where one is left
    pub written-left : ((r : List ℤ) → left ≡ some r → 1 ≤ length r) → o + 1 ≤ length new
    written-left f =
        let a = length-append w.0 written-rest.0 in
        let b = ap length written-rest.2 in
        let c = f written-rest.0 written-rest.1 in
        let h = room.2 in
        let n = written-length in
        let j = w.2 in
        omega arith

    -- where the reading ends all is written
    pub written-end : left ≡ some [] → Wrote g f d s old new
    written-end q l e =
        let a : some w.0 ≡ some l = sym (w.1 ∙ ap (Option.map (λ (l : List ℤ). w.0 ++ l)) q ∙ ap some (append-nil w.0)) ∙ e in
        let p : w.0 ≡ l = cc in
        w.4 ∙ ap (λ (t : List ℤ). map g (results_from d (pos 0) t) ++ drop (length t) old) p

    -- the reading does not end at a number that is not allowed
    pub written-wrong : {A : Type 0} → left ≡ none → A
    written-wrong q = let z : none ≡ some written-rest.0 = sym q ∙ written-rest.1 in let y : ◌≡◌ {A = ℕ} 0 1 = cc in absurd (omega arith)

-- By the form and the delta that a payload has

pub results-as : (s : List ℕ) (n : ℕ) {f h : Form} → f ≡ h → HasResults f s n → HasResults h s n
results-as s n e r = subst (λ (i : Form). HasResults i s n) e r

pub room_as : (s : List ℕ) (n room : ℕ) {f h : Form} → f ≡ h → HasResults f s n → n ≤ room → HasRoom h s room
room_as s n room {f} {h} e r k = let t = results-as s n e r in let l = t.2 in (t.0, t.1, omega arith)

pub wrote_as : {B : Type 0} (g : ℤ → B) (s : List ℕ) (old new : List B) {f h : Form} {d e : Bool} → f ≡ h → d ≡ e → Wrote g h e s old new → Wrote g f d s old new
wrote_as g s old new {f} {h} {d} {e} p q w = subst (λ (i : Form). Wrote g i d s old new) (sym p) (subst (λ (b : Bool). Wrote g h b s old new) (sym q) w)
