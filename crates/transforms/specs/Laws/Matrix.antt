-- A transform's matrix: values by their numbers, floats one after another, what a typed bioAssemblyList holds, and the answer case by case.
-- Assumes nothing.
use Rattle.std.specs.Prelude.{◌≡◌, refl, cond, Option as Place, Some, None, Result, Ok, Err, eqb, Bool, true, false, List, [], ◌∷◌, ◌++◌, ℕ, zero, suc, ◌+◌, ◌-◌, ◌%◌, ◌≤◌, ◌<◌, ltb, Float, length, get_or, set, take, drop}
use Rattle.std.proofs.Common.{sym, ap, ap₂, subst, ◌∙◌, append_assoc, append-nil, arith, mod-eq_of_lt, suc-add, eq-eqb, ne_eqb, eqb-true, lt-ltb, le-ltb, ltb-true, ltb-false, length-set, take-suc, take_all, get_or-set_same}
use Rattle.std.proofs.Math.Option.{Option, some, none as nothing}
use Rattle.std.specs.Float.{nan}
use Rattle.refusal.specs.Table.{accepted, field_type, no_such_field, no_such_entry}
use Rattle.refusal.specs.Outcome.{number_of, numbered}
use Rattle.refusal.specs.declared.Refusal.{Refusal}
use Rattle.numbers.specs.Laws.Tests.{clash}
use Rattle.text.specs.Ascii.{ascii}
use Rattle.text.specs.Equal.{equal}
use Rattle.heads.specs.Lead.{more_of, held_by}
use Rattle.heads.specs.Head.{some_head, Holds, kind_at, head_at}
use Rattle.heads.specs.declared.Kind.{Kind}
use Rattle.heads.proofs.Laws.Head.{same-parts}
use Rattle.heads.proofs.Laws.Table.{more_of-bound}
use Rattle.messagepack.specs.Document.{Document, Documents, integer, float, string, binary, array, map, none, item, count, Writes}
use Rattle.values.specs.Parts.{bits_of, items_of, entries_of, look}
use Rattle.values.specs.Places.{At, AtAll, PlaceSays, there as stands}
use Rattle.values.specs.Heads.{is_float}
use Rattle.values.specs.Laws.Places.{heads, read-heads, open-float, open-item, Stands}
use Rattle.messagepack.specs.Rules.{Container}
use Rattle.messagepack.specs.Walk.{container_number}
use Rattle.messagepack.proofs.Laws.Unique.{document_of-is}
use Rattle.fields.specs.Types.{FieldType, Rows, array_of, exactly, map_with, a_float, Each, Has, HasType, Fits}
use Rattle.fields.specs.Table.{transform_rows, assembly_rows, named}
use Rattle.fields.specs.Tests.{is_there, typed}
use Rattle.fields.specs.Fields.{find_row, is_required, type_under, field_number, type_in, field_type_of}
use Rattle.fields.specs.Laws.Fields.{has-name, fits-name}
use Rattle.fields.specs.Laws.Types.{typed-exactly}
use Rattle.transforms.specs.Matrix.{zeros, nth, assemblies_type, assemblies_of, transform_in, assemblies_number, matrix_number, float_of, floats_of, matrix_in, handed, matrix_floats}
use Rattle.transforms.specs.Steps.{FoundSays, absent, there, floats_or_zeros, answer, answer_of}

-- a float's bits

held_small : (b : ℕ) → b < 256 → held_by b < 4294967296
unfolding held_by
held_small b l = omega arith

holds-small : (k b n : ℕ) → k ≤ 4 → b < 256 → Holds k b n → n < 4294967296
holds-small zero b n l s h = let q = held_small b s in omega arith
holds-small (suc zero) b n l s h = omega arith
holds-small (suc (suc zero)) b n l s h = omega arith
holds-small (suc (suc (suc zero))) b n l s h = omega arith
holds-small (suc (suc (suc (suc zero)))) b n l s h = omega arith
holds-small (suc (suc (suc (suc (suc k))))) b n l s h = absurd (omega arith)

bits_small : {s : List ℕ} {p e bits : ℕ} → At s p (float bits) e → bits < 4294967296
unfolding Writes
bits_small {bits = bits} a = let h = a.writes in holds-small (more_of h.lead) h.lead bits (more_of-bound h.lead) h.byte h.holds

-- the bits of the float at a place are what its head holds
pub read-bits : {s : List ℕ} {p e n r : ℕ} (x : Document) → At s p x e → head_at s p ≡ some_head n r → kind_at s p ≡ Kind.Float → n % 4294967296 ≡ bits_of x
read-bits {s} {p} {e} {n} {r} x a h q = go x a (read-heads x a q)
  where
    go : (y : Document) → At s p y e → heads y Kind.Float ≡ true → n % 4294967296 ≡ bits_of y
    go (float bits) b f =
        let i : bits ≡ n = (same-parts (sym (open-float b).head ∙ h)).0 in
        let l = bits_small b in
        mod-eq_of_lt (omega arith) ∙ sym i
    go (integer v) b f = clash f
    go (string t) b f = clash f
    go (binary t) b f = clash f
    go (array ds) b f = clash f
    go (map es) b f = clash f

-- of another value they are 0
pub no_bits : {s : List ℕ} {p e : ℕ} {k : Kind} (x : Document) → At s p x e → kind_at s p ≡ k → is_float k ≡ false → 0 ≡ bits_of x
no_bits {k = k} x a q f = go x (read-heads x a q)
  where
    go : (y : Document) → heads y k ≡ true → 0 ≡ bits_of y
    go (float bits) h = clash (sym f ∙ h)
    go (integer v) h = refl
    go (string t) h = refl
    go (binary t) h = refl
    go (array ds) h = refl
    go (map es) h = refl

-- the first of the values that are left, where there is one
record Next (s : List ℕ) (p : ℕ) (ds : Documents) (e : ℕ) : Type 0 where
  pub d : Document
  pub rest : Documents
  pub is : ds ≡ item d rest
  pub q : ℕ
  pub first : At s p d q
  pub all : AtAll s q rest e

next : {s : List ℕ} {p e : ℕ} (ds : Documents) → AtAll s p ds e → 0 < count ds → Next s p ds e
unfolding count
next none a l = absurd (omega arith)
next (item d ds) a l = let o = open-item a in record { d = d; rest = ds; is = refl; q = o.q; first = o.first; all = o.rest }

-- going to value n of ds: of the values from here on it has the number that is left
pub record Going (s : List ℕ) (ds : Documents) (n p left e : ℕ) : Type 0 where
  pub rest : Documents
  pub all : AtAll s p rest e
  pub inside : left < count rest
  pub same : nth n ds ≡ nth left rest

pub going_start : {s : List ℕ} {ds : Documents} {n p e : ℕ} → AtAll s p ds e → n < count ds → Going s ds n p n e
going_start {ds = ds} a l = record { rest = ds; all = a; inside = l; same = refl }

pub going_more : {s : List ℕ} {ds : Documents} {n p left e q : ℕ} → Going s ds n p left e → 0 < left → ((x : Document) (f : ℕ) → At s p x f → q ≡ f) → Going s ds n q (left - 1) e
unfolding nth count
going_more {s} {ds} {n} {p} {left} {e} {q} g l f =
    let m = next g.rest g.all (omega (arith, g.inside)) in
    let c : count g.rest ≡ suc (count m.rest) = ap count m.is in
    record {
      rest = m.rest;
      all = subst (λ (j : ℕ). AtAll s j m.rest e) (sym (f m.d m.q m.first)) m.all;
      inside = omega (arith, g.inside);
      same = g.same ∙ ap (nth left) m.is ∙ less left l m.d m.rest;
    }
  where
    less : (i : ℕ) → 0 < i → (d : Document) (r : Documents) → nth i (item d r) ≡ nth (i - 1) r
    less zero h d r = absurd (omega arith)
    less (suc i) h d r = let z : i ≡ suc i - 1 = omega arith in ap (λ (j : ℕ). nth j r) z

pub going_end : {s : List ℕ} {ds : Documents} {n p left e : ℕ} → Going s ds n p left e → left ≤ 0 → FoundSays s (Some p) (nth n ds)
unfolding nth
going_end {s} {ds} {n} {p} {left} {e} g l =
    let m = next g.rest g.all (omega (arith, g.inside)) in
    let z : left ≡ 0 = omega arith in
    let i : nth n ds ≡ some m.d = g.same ∙ ap₂ nth z m.is in
    subst (FoundSays s (Some p)) (sym i) (there m.first)

-- past the last value there is none
pub nth_past : (n : ℕ) (ds : Documents) → count ds ≤ n → nth n ds ≡ nothing
unfolding nth count
nth_past n none l = refl
nth_past zero (item d ds) l = absurd (omega arith)
nth_past (suc n) (item d ds) l = nth_past n ds (omega arith)

-- there is a value exactly for the numbers below the count
pub nth-there : (n : ℕ) (ds : Documents) → is_there (nth n ds) ≡ ltb n (count ds)
unfolding nth count
nth-there n none = sym (le-ltb n 0 (omega arith))
nth-there zero (item d ds) = sym (lt-ltb 0 (suc (count ds)) (omega arith))
nth-there (suc n) (item d ds) = nth-there n ds ∙ go (ltb n (count ds)) refl
  where
    go : (b : Bool) → ltb n (count ds) ≡ b → b ≡ ltb (suc n) (suc (count ds))
    go true e = sym (lt-ltb (suc n) (suc (count ds)) (omega (arith, ltb-true n (count ds) e)))
    go false e = sym (le-ltb (suc n) (suc (count ds)) (omega (arith, ltb-false n (count ds) e)))

-- the floats of ds are read one after another: those before i stand in a list of sixteen
pub record Reading (s : List ℕ) (ds : Documents) (i p e : ℕ) (floats : List Float) : Type 0 where
  pub rest : Documents
  pub all : AtAll s p rest e
  pub counts : i + count rest ≡ 16
  pub done : take i floats ++ floats_of rest ≡ floats_of ds

pub reading-start : {s : List ℕ} {ds : Documents} {p e : ℕ} {floats : List Float} → AtAll s p ds e → count ds ≡ 16 → Reading s ds 0 p e floats
reading-start {ds = ds} a c = record { rest = ds; all = a; counts = omega arith; done = refl }

pub reading-more : {s : List ℕ} {ds : Documents} {i p e q : ℕ} {floats : List Float} (v : Float) → length floats ≡ 16 → Reading s ds i p e floats → i < 16 → ((x : Document) (f : ℕ) → At s p x f → (v ≡ float_of x) × (q ≡ f)) → Reading s ds (i + 1) q e (set floats i v)
unfolding floats_of count
reading-more {s} {ds} {i} {p} {e} {q} {floats} v long k l f =
    let m = next k.rest k.all (omega (arith, k.counts)) in
    let g = f m.d m.q m.first in
    let c : i + suc (count m.rest) ≡ 16 = sym (ap (λ (z : Documents). i + count z) m.is) ∙ k.counts in
    let one : i + 1 ≡ suc i = omega arith in
    let le : i < length (set floats i v) = (let w = length-set floats i v in omega arith) in
    let t : take (i + 1) (set floats i v) ≡ take i floats ++ (v ∷ []) = ap (λ (j : ℕ). take j (set floats i v)) one ∙ take-suc (set floats i v) i nan le ∙ ap₂ (λ (a : List Float) (b : Float). a ++ (b ∷ [])) (before floats i) (get_or-set_same floats i v nan (omega arith)) in
    record {
      rest = m.rest;
      all = subst (λ (j : ℕ). AtAll s j m.rest e) (sym g.1) m.all;
      counts = omega arith;
      done = ap (λ (a : List Float). a ++ floats_of m.rest) t ∙ append_assoc (take i floats) (v ∷ []) (floats_of m.rest) ∙ ap (λ (a : Float). take i floats ++ (a ∷ floats_of m.rest)) g.0 ∙ sym (ap (λ (z : Documents). take i floats ++ floats_of z) m.is) ∙ k.done;
    }
  where
    before : (l : List Float) (j : ℕ) → take j (set l j v) ≡ take j l
    before [] j = refl
    before (x ∷ xs) zero = refl
    before (x ∷ xs) (suc j) = ap (λ (r : List Float). x ∷ r) (before xs j)

pub reading-end : {s : List ℕ} {ds : Documents} {i p e : ℕ} {floats : List Float} → length floats ≡ 16 → Reading s ds i p e floats → 16 ≤ i → floats ≡ floats_of ds
unfolding floats_of count
reading-end {s} {ds} {i} {p} {e} {floats} long k l = go k.rest k.counts k.done
  where
    go : (r : Documents) → i + count r ≡ 16 → take i floats ++ floats_of r ≡ floats_of ds → floats ≡ floats_of ds
    go none c q = sym (append-nil floats) ∙ ap (λ (a : List Float). a ++ []) (sym (take_all i floats (omega arith))) ∙ q
    go (item d r) c q = absurd (omega arith)

-- four floats from one on
pub four : (fs : List Float) (i : ℕ) → i + 4 ≤ length fs → get_or fs i nan ∷ get_or fs (i + 1) nan ∷ get_or fs (i + 2) nan ∷ get_or fs (i + 3) nan ∷ [] ≡ take 4 (drop i fs)
four [] i l = absurd (omega arith)
four (a ∷ []) zero l = absurd (omega arith)
four (a ∷ b ∷ []) zero l = absurd (omega arith)
four (a ∷ b ∷ c ∷ []) zero l = absurd (omega arith)
four (a ∷ b ∷ c ∷ d ∷ fs) zero l = refl
four (a ∷ fs) (suc i) l = rw (suc-add i 1, suc-add i 2, suc-add i 3) (four fs i (omega arith))

-- a value that was found stands at its place; one that is absent is not there

pub found-there : {s : List ℕ} {p : ℕ} {r : Place ℕ} {o : Option Document} → FoundSays s r o → r ≡ Some p → Stands s p o
found-there {s} {p} {r} {o} f q = go (subst (λ (y : Place ℕ). FoundSays s y o) q f)
  where
    go : {u : Option Document} → FoundSays s (Some p) u → Stands s p u
    go (there {e = e} {x = x} a) = record { x = x; end = e; is = refl; at = a }

pub found-absent : {s : List ℕ} {r : Place ℕ} {o : Option Document} → FoundSays s r o → r ≡ None → o ≡ nothing
found-absent {s} {r} {o} f q = go (subst (λ (y : Place ℕ). FoundSays s y o) q f)
  where
    go : {u : Option Document} → FoundSays s None u → u ≡ nothing
    go absent = refl

pub place-there : {s : List ℕ} {p : ℕ} {o : Option Document} {x : Document} → PlaceSays s p o → o ≡ some x → record { end : ℕ; at : At s p x end }
place-there {s} {p} {o} {x} f q = go (subst (PlaceSays s p) q f)
  where
    go : {j : ℕ} → PlaceSays s j (some x) → record { end : ℕ; at : At s j x end }
    go (stands {e = e} l a) = record { end = e; at = a }

-- what a bioAssemblyList of its type holds

nth-each : (P : Document → Type 0) (ds : Documents) (i : ℕ) {y : Document} → Each P ds → nth i ds ≡ some y → P y
unfolding nth Each
nth-each P none i h q = let z : ◌≡◌ {A = ℕ} 0 1 = cc in absurd (omega arith)
nth-each P (item d ds) zero {y} h q = let e : d ≡ y = cc in subst P e h.0
nth-each P (item d ds) (suc i) h q = nth-each P ds i h.1 q

-- a value under a key, of a type
pub record Held (k : List ℕ) (t : FieldType) (y : Document) : Type 0 where
  pub x : Document
  pub is : look k (entries_of y) ≡ some x
  pub typed : HasType t x

-- each value of an array of maps has the maps' keys, each with its type
map_rows : (rows : Rows) (x : Document) {y : Document} (i : ℕ) → HasType (array_of (map_with rows)) x → nth i (items_of x) ≡ some y → Has rows (entries_of y) × Fits rows (entries_of y)
unfolding HasType
map_rows rows x {y} i h q =
    let m = nth-each (HasType (map_with rows)) h.values i h.each (sym (ap (λ (z : Document). nth i (items_of z)) h.is) ∙ q) in
    let e : entries_of y ≡ m.entries = ap entries_of m.is in
    (subst (Has rows) (sym e) m.has, subst (Fits rows) (sym e) m.fits)

-- a required key of such a map, with its type
held : (k : List ℕ) (rows : Rows) (x : Document) {y : Document} (i : ℕ) {t : FieldType} → is_required k rows ≡ true → type_under k rows ≡ some t → HasType (array_of (map_with rows)) x → nth i (items_of x) ≡ some y → Held k t y
held k rows x {y} i r u h q =
    let m = map_rows rows x i h q in
    let v = has-name k rows (entries_of y) m.0 r in
    record { x = v.x; is = v.is; typed = fits-name k rows (entries_of y) m.1 u v.is }

pub transforms-held : (x : Document) {y : Document} (a : ℕ) → typed assemblies_type x ≡ true → nth a (items_of x) ≡ some y → Held (ascii "transformList") (array_of (map_with transform_rows)) y
unfolding is_required type_under equal assembly_rows
transforms-held x a h q = held (ascii "transformList") assembly_rows x a refl refl ((typed-exactly assemblies_type x).0 h) q

pub matrix-held : (z : Document) {w : Document} (t : ℕ) → HasType (array_of (map_with transform_rows)) z → nth t (items_of z) ≡ some w → Held (ascii "matrix") (exactly 16 a_float) w
unfolding is_required type_under equal transform_rows
matrix-held z t h q = held (ascii "matrix") transform_rows z t refl refl h q

-- a matrix has sixteen values
pub matrix-sixteen : (x : Document) → HasType (exactly 16 a_float) x → count (items_of x) ≡ 16
unfolding HasType
matrix-sixteen x h = ap (λ (z : Document). count (items_of z)) h.is ∙ h.many

-- the answer by bioAssemblyList

module _ (a t : ℕ) (x : Document) (h : typed assemblies_type x ≡ true) where
  pub no-assembly : nth a (items_of x) ≡ nothing → Err no_such_entry ≡ answer_of a t (some x)
  no-assembly q = rw (h, q)

  module _ {y z : Document} (p : nth a (items_of x) ≡ some y) (q : look (ascii "transformList") (entries_of y) ≡ some z) where
    pub no-transform : nth t (items_of z) ≡ nothing → Err no_such_entry ≡ answer_of a t (some x)
    no-transform n = rw (h, p, q, n)

    pub matrix-there : {w m : Document} {floats : List Float} → nth t (items_of z) ≡ some w → look (ascii "matrix") (entries_of w) ≡ some m → floats ≡ floats_of (items_of m) → Ok floats ≡ answer_of a t (some x)
    matrix-there u v f = rw (h, p, q, u, v, f)

pub no-assemblies : (a t : ℕ) {o : Option Document} → o ≡ nothing → Err no_such_field ≡ answer_of a t o
no-assemblies a t q = rw q

pub mistyped : (a t : ℕ) {o : Option Document} {x : Document} → o ≡ some x → typed assemblies_type x ≡ false → Err field_type ≡ answer_of a t o
mistyped a t q f = rw (q, f)

pub answers-as : (a t : ℕ) {o : Option Document} {x : Document} {r : Result (List Float) ℕ} → o ≡ some x → r ≡ answer_of a t (some x) → r ≡ answer_of a t o
answers-as a t q e = rw q e

-- the type of the field bioAssemblyList
pub assemblies-type : {i : ℕ} → field_number "bioAssemblyList" ≡ i → field_type_of i ≡ assemblies_type
unfolding field_type_of type_in find_row equal named
assemblies-type e = sym (ap field_type_of e)

-- the answer for a file
pub record Answers (s : List ℕ) (a t : ℕ) (r : Result (List Float) Refusal) : Type 0 where
  pub number : number_of r ≡ matrix_number s a t
  pub floats : floats_or_zeros r ≡ matrix_floats s a t

-- an outcome that is an answer has its number, and hands its floats over
answer-number : (n : ℕ) (fs : List Float) (r : Result (List Float) Refusal) → numbered r ≡ answer n fs → (number_of r ≡ n) × (floats_or_zeros r ≡ handed n fs)
answer-number n fs r e = go r (eqb n accepted) refl e
  where
    go : (r : Result (List Float) Refusal) (b : Bool) → eqb n accepted ≡ b → numbered r ≡ cond b (Ok fs) (Err n) → (number_of r ≡ n) × (floats_or_zeros r ≡ cond b fs zeros)
    go (Ok gs) true h k = (sym (eqb-true n accepted h), cc)
    go (Err g) false h k = (cc, refl)
    go (Ok gs) false h k = let z : ◌≡◌ {A = ℕ} 0 1 = cc in absurd (omega arith)
    go (Err g) true h k = let z : ◌≡◌ {A = ℕ} 0 1 = cc in absurd (omega arith)

answers_by : {s : List ℕ} {a t n : ℕ} {fs : List Float} {r : Result (List Float) Refusal} → matrix_number s a t ≡ n → matrix_in (transform_in a t (assemblies_of s)) ≡ fs → numbered r ≡ answer n fs → Answers s a t r
unfolding matrix_floats
answers_by {n = n} {fs = fs} {r = r} p q e =
    let k = answer-number n fs r e in
    record { number = k.0 ∙ sym p; floats = k.1 ∙ sym (ap₂ handed p q) }

-- a file that is no container has its number
pub no-container : {s : List ℕ} (a t : ℕ) {r : Result (List Float) Refusal} → (container_number s ≡ 0 → ⊥) → numbered r ≡ Err (container_number s) → Answers s a t r
unfolding matrix_number
no-container {s} a t {r} n e =
    answers_by {n = container_number s} (rw (ne_eqb (container_number s) accepted n)) refl (e ∙ rw (ne_eqb (container_number s) accepted n))

-- in a container bioAssemblyList decides
pub container-answers : {s : List ℕ} (a t : ℕ) {r : Result (List Float) Refusal} (c : Container s) → container_number s ≡ 0 → numbered r ≡ answer_of a t (look (ascii "bioAssemblyList") c.entries) → Answers s a t r
unfolding matrix_number
container-answers {s} a t {r} c z e =
    let d : assemblies_of s ≡ look (ascii "bioAssemblyList") c.entries = ap (λ (x : Document). look (ascii "bioAssemblyList") (entries_of x)) (document_of-is (map c.entries) s c.writes c.nested) in
    answers_by (rw (eq-eqb (container_number s) accepted z) (ap (assemblies_number a t) d)) (ap (λ (o : Option Document). matrix_in (transform_in a t o)) d) e
