-- Laws of lines in a buffer, for values of any kind: one line more, and the two ends. Assumes nothing.
use Rattle.std.specs.Prelude.{◌≡◌, Bool, true, false, cond, ℕ, zero, suc, ◌+◌, ◌-◌, ◌*◌, ◌/◌, ◌<◌, ◌≤◌, leb, length, get_or, take, drop}
use Rattle.std.proofs.Math.Path.{refl}
use Rattle.std.proofs.Common.{sym, ap, ◌∙◌, arith, pos_of_ne-zero, mul-zero, le-div_iff_mul-le, add-one, length-append, length-drop, take-append-drop, drop_of_length-le, take_at, take-suc, drop-cons, drop-drop, length-take-le, le-leb}
use mathlib.Core.List.{List, [], ◌∷◌, ◌++◌, append_assoc, append-nil}
use Rattle.std.proofs.Math.Nat.{sub-zero, div-zero, div-eq_of_lt, div-eq-sub-div}
use Rattle.std.proofs.lemmas.Bool.{lt-leb}
use Rattle.text.specs.Put.{Put}
use Rattle.text.specs.Laws.Put.{put-none, put-more, put_as, put-fits, put-length}
use Rattle.lines.specs.declared.Gathered.{Gathered}
use Rattle.lines.specs.Lines.{line, lines, gathered, Lines, names_from, names_in}

-- The lines of `done` stand in the buffer, and those of `rest` are still to come.
pub record Going {A : Type 0} (text : A → List ℕ) (room : ℕ) (done rest : List A) (old now : List ℕ) (at : ℕ) : Type 0 where
  pub put : Put old 0 (lines text done) now at
  pub place : at ≡ length (lines text done)
  pub inside : at ≤ length old
  pub left : gathered text room (length old) (done ++ rest) ≡ length done + gathered text room (length old - at) rest

module _ {A : Type 0} (text : A → List ℕ) (room : ℕ) where
  lines_more : (xs : List A) (x : A) → lines text (xs ++ (x ∷ [])) ≡ lines text xs ++ line text x
  unfolding lines
  lines_more [] x = append-nil (line text x)
  lines_more (y ∷ xs) x = rw (lines_more xs x) (sym (append_assoc (line text y) (lines text xs) (line text x)))

  gathered-one : (left : ℕ) (x : A) (xs : List A) → room ≤ left → gathered text room left (x ∷ xs) ≡ suc (gathered text room (left - length (line text x)) xs)
  unfolding gathered
  gathered-one left x xs h = simp (le-leb room left h)

  gathered-full : (left : ℕ) (xs : List A) → left < room → gathered text room left xs ≡ 0
  unfolding gathered
  gathered-full left [] h = refl
  gathered-full left (x ∷ xs) h = simp (lt-leb room left h)

  pub going_start : (xs : List A) (old : List ℕ) → Going text room [] xs old old 0
  unfolding lines
  going_start xs old = record { put = put-none old 0; place = refl; inside = omega arith; left = rw (sub-zero (length old)) (omega arith) }

  module _ {done rest : List A} {old now : List ℕ} {at : ℕ} where
    -- a line more
    pub going_more : {x : A} {next : List ℕ} {end : ℕ} → Going text room done (x ∷ rest) old now at
        → room ≤ length old - at → length (line text x) ≤ room → Put now at (line text x) next end → Going text room (done ++ (x ∷ [])) rest old next end
    going_more {x} {next} {end} g r few p =
        let l = put-length g.put in
        let e = put-fits p (omega (arith, g.inside)) in
        let m : length (lines text (done ++ (x ∷ []))) ≡ length (lines text done) + length (line text x) = ap length (lines_more done x) ∙ length-append (lines text done) (line text x) in
        let n = length-append done (x ∷ []) in
        let q : length old - at - length (line text x) ≡ length old - end = omega arith in
        let one = gathered-one (length old - at) x rest r in
        record {
          put = put_as (put-more g.put p) (lines_more done x);
          place = omega (arith, g.place);
          inside = omega (arith, g.inside);
          left = rw (append_assoc done (x ∷ []) rest, g.left, one, q) (omega arith);
        }

    -- the end, where no line more is put
    going_end : {xs : List A} {i : ℕ} → Going text room done rest old now at → done ++ rest ≡ xs → length done ≡ i → gathered text room (length old - at) rest ≡ 0
        → Lines text room xs old now (record { values = i; bytes = at })
    going_end {xs} {i} g e n z =
        let t : take i xs ≡ done = ap (take i) (sym e) ∙ take_at done rest i n in
        record {
          values = rw (← e) (omega (arith, g.left));
          bytes = rw t g.place;
          inside = g.inside;
          lent = rw t g.put.bytes;
        }

    -- no room is left
    pub going-full : {xs : List A} {i : ℕ} → Going text room done rest old now at → done ++ rest ≡ xs → length done ≡ i → length old - at < room
        → Lines text room xs old now (record { values = i; bytes = at })
    going-full g e n h = going_end g e n (gathered-full (length old - at) rest h)

    -- nothing is left to put
    pub going_done : {xs : List A} {i : ℕ} → Going text room done rest old now at → done ++ rest ≡ xs → length done ≡ i → rest ≡ []
        → Lines text room xs old now (record { values = i; bytes = at })
    unfolding gathered
    going_done g e n h = going_end g e n (rw h)

-- Values in a list, by their places: those before i are put

pub record GoingAt {A : Type 0} (text : A → List ℕ) (room : ℕ) (xs : List A) (i : ℕ) (old now : List ℕ) (at : ℕ) : Type 0 where
  pub within : i ≤ length xs
  pub going : Going text room (take i xs) (drop i xs) old now at

module _ {A : Type 0} (text : A → List ℕ) (room : ℕ) (xs : List A) where
  pub at-start : (old : List ℕ) → GoingAt text room xs 0 old old 0
  at-start old = record { within = omega arith; going = going_start text room xs old }

  module _ {i : ℕ} {old now : List ℕ} {at : ℕ} (g : GoingAt text room xs i old now at) where
    pub at_more : {next : List ℕ} {end : ℕ} (d : A) → i < length xs → room ≤ length old - at → ((x : A) → length (line text x) ≤ room) → Put now at (line text (get_or xs i d)) next end
        → GoingAt text room xs (i + 1) old next end
    at_more {next} {end} d h r few p =
        let k : Going text room (take i xs) (get_or xs i d ∷ drop (suc i) xs) old now at = rw (drop-cons xs i d h) at g.going in
        record { within = omega arith; going = rw (add-one i, take-suc xs i d h) (going_more text room k r (few (get_or xs i d)) p) }

    pub at-full : length old - at < room → Lines text room xs old now (record { values = i; bytes = at })
    at-full h = going-full text room g.going (take-append-drop i xs) (length-take-le i xs g.within) h

    pub at_done : length xs ≤ i → Lines text room xs old now (record { values = i; bytes = at })
    at_done h = going_done text room g.going (take-append-drop i xs) (length-take-le i xs g.within) (drop_of_length-le xs {i = i} h)

-- Names in bytes: those before `from` are put

names-one : (size : ℕ) (s : List ℕ) → 0 < size → size ≤ length s → names_in size s ≡ take size s ∷ names_in size (drop size s)
unfolding names_in names_from
names-one size s p h =
    let e : length s / size ≡ suc (length (drop size s) / size) = div-eq-sub-div p h ∙ add-one ((length s - size) / size) ∙ rw (length-drop size s) in
    rw e

names-none : (size : ℕ) (s : List ℕ) → length s < size → names_in size s ≡ []
unfolding names_in names_from
names-none size s h = rw (div-eq_of_lt h)

pub names-of-none : (s : List ℕ) → names_in 0 s ≡ []
unfolding names_in names_from
names-of-none s = rw (div-zero (length s))

pub record GoingFrom (text : List ℕ → List ℕ) (size : ℕ) (s : List ℕ) (i from : ℕ) (old now : List ℕ) (at : ℕ) : Type 0 where
  pub within : from ≤ length s
  pub slow : i ≤ from
  pub done : List (List ℕ)
  pub count : length done ≡ i
  pub parts : done ++ names_in size (drop from s) ≡ names_in size s
  pub going : Going text (size + 1) done (names_in size (drop from s)) old now at

module _ (text : List ℕ → List ℕ) (size : ℕ) (s : List ℕ) where
  pub from_start : (old : List ℕ) → GoingFrom text size s 0 0 old old 0
  from_start old = record { within = omega arith; slow = omega arith; done = []; count = refl; parts = refl; going = going_start text (size + 1) (names_in size s) old }

  -- no name has no bytes
  pub from-none : (old : List ℕ) → size ≡ 0 → Lines text (size + 1) (names_in size s) old old (record { values = 0; bytes = 0 })
  from-none old z = going_done text (size + 1) (going_start text (size + 1) (names_in size s) old) refl refl (ap (λ (n : ℕ). names_in n s) z ∙ names-of-none s)

  module _ {i from : ℕ} {old now : List ℕ} {at : ℕ} (g : GoingFrom text size s i from old now at) where
    pub from_more : {next : List ℕ} {end : ℕ} → (size ≡ 0 → ⊥) → size ≤ length s - from → size < length old - at
        → length (line text (take size (drop from s))) ≤ length (take size (drop from s)) + 1 → Put now at (line text (take size (drop from s))) next end
        → GoingFrom text size s (i + 1) (from + size) old next end
    from_more {next} {end} z h r few p =
        let l = length-drop from s in
        let t = length-take-le size (drop from s) (omega arith) in
        let e : names_in size (drop from s) ≡ take size (drop from s) ∷ names_in size (drop (from + size) s) = names-one size (drop from s) (pos_of_ne-zero z) (omega arith) ∙ rw (drop-drop size from s) in
        let k : Going text (size + 1) g.done (take size (drop from s) ∷ names_in size (drop (from + size) s)) old now at = rw e at g.going in
        let n = length-append g.done (take size (drop from s) ∷ []) in
        record {
          within = omega (arith, g.within);
          slow = omega (arith, g.slow, pos_of_ne-zero z);
          done = g.done ++ (take size (drop from s) ∷ []);
          count = omega (arith, g.count);
          parts = append_assoc g.done (take size (drop from s) ∷ []) (names_in size (drop (from + size) s)) ∙ ap (λ (l : List (List ℕ)). g.done ++ l) (sym e) ∙ g.parts;
          going = going_more text (size + 1) k (omega arith) (omega arith) p;
        }

    pub from-full : length old - at ≤ size → Lines text (size + 1) (names_in size s) old now (record { values = i; bytes = at })
    from-full h = going-full text (size + 1) g.going g.parts g.count (omega arith)

    pub from-done : length s - from < size → Lines text (size + 1) (names_in size s) old now (record { values = i; bytes = at })
    from-done h = let l = length-drop from s in going_done text (size + 1) g.going g.parts g.count (names-none size (drop from s) (omega arith))

-- How many lines there are

gathered-most : {A : Type 0} (text : A → List ℕ) (room left : ℕ) (xs : List A) → gathered text room left xs ≤ length xs
unfolding gathered
gathered-most text room left [] = omega arith
gathered-most text room left (x ∷ xs) = by (leb room left) (gathered-most text room (left - length (line text x)) xs)
  where
    by : (test : Bool) → gathered text room (left - length (line text x)) xs ≤ length xs → cond test (suc (gathered text room (left - length (line text x)) xs)) 0 ≤ suc (length xs)
    by true h = omega arith
    by false h = omega arith

module _ {A : Type 0} {text : A → List ℕ} {room : ℕ} {xs : List A} {old new : List ℕ} {r : Gathered} (h : Lines text room xs old new r) where
  pub lines-most : r.values ≤ length xs
  lines-most = let m = gathered-most text room (length old) xs in omega (arith, h.values)

  pub lines-some : room ≤ length old → 0 < length xs → 0 < r.values
  lines-some k n = go xs n h.values
    where
      go : (l : List A) → 0 < length l → r.values ≡ gathered text room (length old) l → 0 < r.values
      go [] n e = absurd (omega arith)
      go (x ∷ l) n e = omega (arith, e, gathered-one text room (length old) x l k)

names_from-length : (n size : ℕ) (s : List ℕ) → length (names_from n size s) ≡ n
unfolding names_from
names_from-length zero size s = refl
names_from-length (suc n) size s = ap suc (names_from-length n size (drop size s))

-- the names put as lines are all in the bytes
pub names-most : {text : List ℕ → List ℕ} {room : ℕ} (size : ℕ) (s : List ℕ) {old new : List ℕ} {r : Gathered} → Lines text room (names_in size s) old new r → r.values * size ≤ length s
unfolding names_in
names-most zero s {r = r} h = rw (mul-zero r.values) (omega arith)
names-most (suc size) s {r = r} h =
    let m = lines-most h in
    let e = names_from-length (length s / suc size) (suc size) s in
    (le-div_iff_mul-le {k = suc size} {x = r.values} {y = length s} (omega arith)).0 (omega arith)
