-- Laws of writing runs where more than a run may be written for it, inside the room of the results: what stands there is written over.
-- Assumes nothing.
use Rattle.std.specs.Prelude.{◌≡◌, ℕ, zero, suc, ◌+◌, ◌-◌, ◌≤◌, Bool, true, false, ◌&&◌, List, [], ◌∷◌, ◌++◌, map, length, take, drop, replicate, ℤ, pos, int_lt, nat_le, slice_set, refl}
use Rattle.std.proofs.Common.{sym, ap, ap₂, ◌∙◌, append-nil, append_assoc, arith, length-append, length-drop, take-append-drop, take_all, drop-drop, length-take-le, take_at, drop_at, leb-true, to_z, of_z}
use Rattle.std.proofs.Math.Bool.{and-eq-true_iff}
use Rattle.std.proofs.Math.Option
use Rattle.std.proofs.Math.Option.{none, some}
use Rattle.std.proofs.lemmas.List.{length-replicate, replicate-append-replicate}
use Rattle.std.specs.Int.{w32}
use Rattle.numbers.specs.BigEndian.{signed_at}
use Rattle.numbers.specs.Laws.BigEndian.{unsigned_at-drop}
use Rattle.steps.specs.declared.Range.{Range}
use Rattle.steps.specs.declared.Form.{Form}
use Rattle.steps.specs.declared.Form.TheVariants.{Runs}
use Rattle.steps.specs.Payload.{in_range, read_in}
use Rattle.steps.proofs.Laws.Delta.{results-plain}
use Rattle.payloads.specs.Results.{paste, Filled, HasResults, Covered, Wrote}
use Rattle.payloads.specs.Laws.Items.{count_bits, runs-count, runs-run, runs-wrong}
use Rattle.payloads.specs.Laws.Scan.{map-id, map_both, rest_of}
use Rattle.payloads.specs.Laws.Writing.{map-append, paste-length, paste-set, paste_none, paste_more}

-- The next run

-- a number in the part of a payload from a place on is the number of the payload itself
pub part-number : (s : List ℕ) (at i : ℕ) → at + i + 4 ≤ length s → signed_at w32 (take (length s - at) (drop at s)) i ≡ signed_at w32 s (at + i)
unfolding signed_at
part-number s at i h =
    let l = length-drop at s in
    rw (take_all (length s - at) (drop at s) (omega arith)) (ap (to_z w32) (unsigned_at-drop 4 s at i h))

-- where the payload has results, the value and the count at a place are a run
pub run-here : (r : Range) (s : List ℕ) (at : ℕ) (t : List ℤ) → at + 8 ≤ length s → read_in (Runs r) (drop at s) ≡ some t
    → (1 ≤ of_z w32 (signed_at w32 s (at + 4))) × (read_in (Runs r) (drop at s) ≡ Option.map (λ (l : List ℤ). replicate (of_z w32 (signed_at w32 s (at + 4))) (signed_at w32 s at) ++ l) (read_in (Runs r) (drop (at + 8) s)))
run-here r s at t h e = counted (int_lt (signed_at w32 s (at + 4)) (pos 1)) refl (in_range r (signed_at w32 s at)) refl
  where
    never : {A : Type 0} → read_in (Runs r) (drop at s) ≡ none → A
    never q = let z : none ≡ some t = sym q ∙ e in let y : ◌≡◌ {A = ℕ} 0 1 = cc in absurd (omega arith)

    counted : (b : Bool) → int_lt (signed_at w32 s (at + 4)) (pos 1) ≡ b → (c : Bool) → in_range r (signed_at w32 s at) ≡ c
        → (1 ≤ of_z w32 (signed_at w32 s (at + 4))) × (read_in (Runs r) (drop at s) ≡ Option.map (λ (l : List ℤ). replicate (of_z w32 (signed_at w32 s (at + 4))) (signed_at w32 s at) ++ l) (read_in (Runs r) (drop (at + 8) s)))
    counted true x c y = never (runs-count r s at h x)
    counted false x false y = never (runs-wrong r s at h x y)
    counted false x true y = let b = count_bits (signed_at w32 s (at + 4)) x in rw b.0 (b.1, runs-run r s at h x y)

-- Elements

map-replicate : {B : Type 0} (g : ℤ → B) (n : ℕ) (v : ℤ) → map g (replicate n v) ≡ replicate n (g v)
map-replicate g zero v = refl
map-replicate g (suc n) v = ap (λ (l : List _). g v ∷ l) (map-replicate g n v)

-- a run that is written
pub filled-same : {B : Type 0} (g : ℤ → B) (a v x : ℤ) (old new : List B) (from n : ℕ) → Filled g false a v old from n new x → new ≡ paste old from (replicate n (g v))
filled-same g a v x old new from n w = w.0 ∙ ap (paste old from) (ap (map g) (results-plain a (replicate n v)) ∙ map-replicate g n v)

-- the rest of a run behind its first k elements
pub covered-rest : {B : Type 0} (b : B) (old : List B) (o k n : ℕ) → k ≤ n → o + n ≤ length old → paste (paste old o (replicate k b)) (o + k) (replicate (n - k) b) ≡ paste old o (replicate n b)
covered-rest b old o k n h l =
    let p = length-replicate k b in
    let q = length-replicate (n - k) b in
    let e : replicate k b ++ replicate (n - k) b ≡ replicate n b = replicate-append-replicate k (n - k) b ∙ ap (λ (j : ℕ). replicate j b) (let z : k + (n - k) ≡ n = omega arith in z) in
    ap (λ (j : ℕ). paste (paste old o (replicate k b)) (o + j) (replicate (n - k) b)) (sym p) ∙ paste_more old o (replicate k b) (replicate (n - k) b) (omega arith) ∙ ap (paste old o) e

pub covered-filled : {B : Type 0} (g : ℤ → B) (a v x : ℤ) (old new : List B) (from n bound : ℕ) → n ≤ bound → Filled g false a v old from n new x → Covered (g v) old from n bound new
covered-filled g a v x old new from n bound h w = (n, omega arith, h, filled-same g a v x old new from n w)

-- the test of a short run
pub short-run : (count left : ℕ) (t : Bool) → t ≡ (nat_le count 4 && nat_le 4 left) → t ≡ true → (count ≤ 4) × (4 ≤ left)
short-run count left t e h = let b = (and-eq-true_iff (nat_le count 4) (nat_le 4 left)).0 (sym e ∙ h) in (leb-true count 4 b.0, leb-true 4 left b.1)

-- four elements
pub covered-four : {B : Type 0} (b e : B) (old : List B) (o n bound : ℕ) → n ≤ 4 → 4 ≤ bound → o + bound ≤ length old
    → Covered b old o n bound (slice_set (slice_set (slice_set (slice_set old o b) (o + 1) b) (o + 2) b) (o + 3) b)
covered-four b e old o n bound h k l =
    let z : o + 0 ≡ o = omega arith in
    let p0 : old ≡ paste old o [] = sym (paste_none old o) in
    let p1 : slice_set old o b ≡ paste old o (b ∷ []) = ap₂ (λ (t : List _) (i : ℕ). slice_set t i b) p0 (sym z) ∙ paste-set old o [] b e (omega arith) in
    let p2 : slice_set (slice_set old o b) (o + 1) b ≡ paste old o (b ∷ b ∷ []) = ap (λ (t : List _). slice_set t (o + 1) b) p1 ∙ paste-set old o (b ∷ []) b e (omega arith) in
    let p3 : slice_set (slice_set (slice_set old o b) (o + 1) b) (o + 2) b ≡ paste old o (b ∷ b ∷ b ∷ []) = ap (λ (t : List _). slice_set t (o + 2) b) p2 ∙ paste-set old o (b ∷ b ∷ []) b e (omega arith) in
    (4, h, k, ap (λ (t : List _). slice_set t (o + 3) b) p3 ∙ paste-set old o (b ∷ b ∷ b ∷ []) b e (omega arith))

-- what stands before and behind
module _ {B : Type 0} (b : B) (old : List B) (o k m : ℕ) (h : k ≤ m) (l : o + m ≤ length old) where
  front : length (take o old) ≡ o
  front = length-take-le o old (omega arith)

  pub covered-length : length (paste old o (replicate m b)) ≡ length old
  covered-length = let r = length-replicate m b in paste-length old o (replicate m b) (omega arith)

  pub covered-take : take (o + k) (paste old o (replicate m b)) ≡ take o old ++ replicate k b
  covered-take =
      let e : replicate m b ≡ replicate k b ++ replicate (m - k) b = ap (λ (j : ℕ). replicate j b) (let q : m ≡ k + (m - k) = omega arith in q) ∙ sym (replicate-append-replicate k (m - k) b) in
      let a = length-append (take o old) (replicate k b) in
      let f = front in
      let r = length-replicate k b in
      let q : paste old o (replicate m b) ≡ (take o old ++ replicate k b) ++ (replicate (m - k) b ++ drop (o + length (replicate m b)) old) =
      ap (λ (t : List B). take o old ++ (t ++ drop (o + length (replicate m b)) old)) e ∙ simp append_assoc in
      ap (take (o + k)) q ∙ take_at (take o old ++ replicate k b) (replicate (m - k) b ++ drop (o + length (replicate m b)) old) (o + k) (omega arith)

  pub covered-drop : (n : ℕ) → o + m ≤ n → drop n (paste old o (replicate m b)) ≡ drop n old
  covered-drop n q =
      let f = front in
      let r = length-replicate m b in
      let a = length-append (take o old) (replicate m b) in
      let e : n ≡ (n - (o + m)) + (o + m) = omega arith in
      let u : drop (o + m) (paste old o (replicate m b)) ≡ drop (o + m) old =
      ap (drop (o + m)) (sym (append_assoc (take o old) (replicate m b) (drop (o + length (replicate m b)) old))) ∙ drop_at (take o old ++ replicate m b) (drop (o + length (replicate m b)) old) (o + m) (omega arith) ∙ ap (λ (j : ℕ). drop (o + j) old) r in
      let v : drop n (paste old o (replicate m b)) ≡ drop (n - (o + m)) (drop (o + m) (paste old o (replicate m b))) = ap (λ (j : ℕ). drop j (paste old o (replicate m b))) (let q : n ≡ o + m + (n - (o + m)) = omega arith in q) ∙ sym (drop-drop (n - (o + m)) (o + m) (paste old o (replicate m b))) in
      v ∙ ap (drop (n - (o + m))) u ∙ drop-drop (n - (o + m)) (o + m) old ∙ ap (λ (j : ℕ). drop j old) (let q : o + m + (n - (o + m)) ≡ n = omega arith in q)

-- Run after run

module _ {B : Type 0} (g : ℤ → B) (f : Form) (s : List ℕ) (old : List B) (n : ℕ) (held : HasResults f s n) (room : n ≤ length old) where
  -- the values p are read and stand at the buffer's start; from n on nothing has changed
  abbrev pub Begun : ℕ → ℕ → List B → Type 0
  Begun at o new =
      (p : List ℤ) × (read_in f s ≡ Option.map (λ (l : List ℤ). p ++ l) (read_in f (drop at s))) × (o ≡ length p) × (length new ≡ length old) × (take o new ≡ map g p) × (drop n new ≡ drop n old)

  pub begun-start : Begun 0 0 old
  begun-start = ([], map-id (read_in f s), refl, refl, refl, refl)

  module _ (at o : ℕ) (new : List B) (w : Begun at o new) where
    -- the rest of the values
    pub begun-rest : (r : List ℤ) × (read_in f (drop at s) ≡ some r) × (w.0 ++ r ≡ held.0)
    begun-rest = let r = rest_of w.0 held.0 (read_in f (drop at s)) (sym held.1 ∙ w.1) in (r.0, r.1, sym r.2)

    module _ (v : ℤ) (k e : ℕ) (q : read_in f (drop at s) ≡ Option.map (λ (l : List ℤ). replicate k v ++ l) (read_in f (drop e s))) where
      -- there is room for a run
      pub begun-room : o + k ≤ n
      begun-room =
          let t = rest_of (replicate k v) begun-rest.0 (read_in f (drop e s)) (sym begun-rest.1 ∙ q) in
          let a = ap length t.2 in
          let b = length-append (replicate k v) t.0 in
          let c = length-replicate k v in
          let m = length-append w.0 begun-rest.0 in
          let i = ap length begun-rest.2 in
          let j = w.2 in
          let x = held.2 in
          omega arith

      -- a run more
      pub begun-run : (new' : List B) → Covered (g v) new o k (n - o) new' → Begun e (o + k) new'
      begun-run new' c =
          let a = w.1 ∙ ap (Option.map (λ (l : List ℤ). w.0 ++ l)) q ∙ map_both (λ (l : List ℤ). w.0 ++ l) (λ (l : List ℤ). replicate k v ++ l) (read_in f (drop e s)) in
          let x = length-append w.0 (replicate k v) in
          let y = length-replicate k v in
          let j = w.2 in
          let i = w.3 in
          let r = begun-room in
          let m = c.1 in
          let z = c.2 in
          let l : o + c.0 ≤ length new = omega arith in (
            w.0 ++ replicate k v,
            simp append_assoc a,
            omega arith,
            ap length c.3 ∙ covered-length (g v) new o k c.0 m l ∙ w.3,
            ap (take (o + k)) c.3 ∙ covered-take (g v) new o k c.0 m l ∙ ap₂ (λ (t u : List B). t ++ u) w.4 (sym (map-replicate g k v)) ∙ sym (map-append g w.0 (replicate k v)),
            ap (drop n) c.3 ∙ covered-drop (g v) new o k c.0 m l n (omega arith) ∙ w.5,
          )

    -- where the reading ends all is written
    pub begun-end : read_in f (drop at s) ≡ some [] → Wrote g f false s old new
    begun-end q l e =
        let a : some w.0 ≡ some l = sym (w.1 ∙ ap (Option.map (λ (l : List ℤ). w.0 ++ l)) q ∙ ap some (append-nil w.0)) ∙ e in
        let p : w.0 ≡ l = cc in
        let b : some l ≡ some held.0 = sym e ∙ held.1 in
        let c : l ≡ held.0 = cc in
        let o' : o ≡ length l = w.2 ∙ ap length p in
        let n' : n ≡ length l = sym held.2 ∙ ap length (sym c) in
        sym (take-append-drop n new) ∙ ap₂ (λ (t u : List B). t ++ u) (ap (λ (j : ℕ). take j new) (n' ∙ sym o') ∙ w.4 ∙ ap (map g) (p ∙ sym (results-plain (pos 0) l))) (w.5 ∙ ap (λ (j : ℕ). drop j old) n')
