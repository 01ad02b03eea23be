-- The shape of a value: its kind at its place says so, and the values of an array are looked at one by one. Assumes nothing.
use Rattle.std.specs.Prelude.{◌≡◌, refl, Option as Answer, Some, None, Bool, cond, ◌&&◌, List, eqb}
use Rattle.std.proofs.Math.Path.{sym, ap, subst}
use Rattle.std.proofs.Common.{◌∙◌, arith, ne_eqb}
use Rattle.std.proofs.Math.Option.{none as nothing}
use Rattle.std.proofs.Math.Bool.{true, false}
use Prim.Native.Nat.{ℕ, suc, ◌-◌, ◌<◌, ◌≤◌}
use Rattle.refusal.specs.Table.{accepted}
use Rattle.heads.specs.Head.{kind_at}
use Rattle.heads.specs.declared.Kind.{Kind}
use Rattle.messagepack.specs.Document.{Document, Documents, integer, float, string, binary, array, map, none, item, count}
use Rattle.messagepack.specs.Walk.{container_number}
use Rattle.messagepack.specs.Read.{document_of}
use Rattle.values.specs.Parts.{items_of, entries_of, look}
use Rattle.values.specs.Places.{At, AtAll, PlaceSays}
use Rattle.values.specs.Laws.Places.{place_none, place-some, OpenInteger, unsigned, signed, open_array, open-map, open-string, open-binary, open-float, open-integer}
use Rattle.values.specs.Laws.Integers.{next_of}
use Rattle.views.specs.View.{value_under}
use Rattle.views.specs.Shapes.{plain, all_plain, shape_of, shape_in, shape_under, is_plain, kind_shape}
use Rattle.views.specs.declared.shapes.Shape.{Shape}

-- what a function of kinds says of a value at its place, where it says the same of both kinds of integers
by_kind : {A : Type 0} {s : List ℕ} {p e : ℕ} (f : Kind → A) (g : Document → A) (x : Document) → At s p x e → ((v : _) → f Kind.Unsigned ≡ g (integer v)) → ((v : _) → f Kind.Signed ≡ g (integer v)) → ((b : _) → f Kind.Float ≡ g (float b))
    → ((t : _) → f Kind.Str ≡ g (string t)) → ((t : _) → f Kind.Bin ≡ g (binary t)) → ((ds : _) → f Kind.Array ≡ g (array ds)) → ((es : _) → f Kind.Map ≡ g (map es)) → f (kind_at s p) ≡ g x
by_kind {A} {s} {p} {e} f g (integer v) a u i l t b d m = go (open-integer a)
  where
    go : OpenInteger s p v e → f (kind_at s p) ≡ g (integer v)
    go (unsigned n o j) = ap f o.kind ∙ u v
    go (signed k n o j q h r) = ap f o.kind ∙ i v
by_kind f g (float bits) a u i l t b d m = ap f (open-float a).kind ∙ l bits
by_kind f g (string x) a u i l t b d m = ap f (open-string a).told.kind ∙ t x
by_kind f g (binary x) a u i l t b d m = ap f (open-binary a).told.kind ∙ b x
by_kind f g (array ds) a u i l t b d m = ap f (open_array a).told.kind ∙ d ds
by_kind f g (map es) a u i l t b d m = ap f (open-map a).told.kind ∙ m es

-- the kind of a plain value at its place
pub kind-plain : {s : List ℕ} {p e : ℕ} (x : Document) → At s p x e → is_plain (kind_at s p) ≡ plain x
kind-plain x a = by_kind is_plain plain x a (λ v. refl) (λ v. refl) (λ b. refl) (λ t. refl) (λ t. refl) (λ ds. refl) (λ es. refl)

-- the shape of a value at its place
pub kind-shape : {s : List ℕ} {p e : ℕ} (x : Document) → At s p x e → kind_shape (kind_at s p) (all_plain (items_of x)) ≡ Some (shape_of x)
kind-shape {s} {p} {e} (integer v) a = go (open-integer a)
  where
    go : OpenInteger s p v e → kind_shape (kind_at s p) (all_plain none) ≡ Some Shape.Integer
    go (unsigned n t i) = rw t.kind
    go (signed k n t f g h i) = rw t.kind
kind-shape (float bits) a = rw (open-float a).kind
kind-shape (string t) a = rw (open-string a).told.kind
kind-shape (binary t) a = rw (open-binary a).told.kind
kind-shape (array ds) a = rw (open_array a).told.kind
kind-shape (map es) a = rw (open-map a).told.kind

-- the values of an array that are left decide with those before, which are plain
pub record Plains (s : List ℕ) (ds : Documents) (p left e : ℕ) : Type 0 where
  pub rest : Documents
  pub all : AtAll s p rest e
  pub counts : count rest ≡ left
  pub same : all_plain ds ≡ all_plain rest

pub plains-start : {s : List ℕ} {ds : Documents} {p n e : ℕ} → AtAll s p ds e → count ds ≡ n → Plains s ds p n e
plains-start {ds = ds} a c = record { rest = ds; all = a; counts = c; same = refl }

module _ {s : List ℕ} {ds : Documents} {p left e : ℕ} (k : Plains s ds p left e) (l : 0 < left) where
  pub plains-more : {q : ℕ} → is_plain (kind_at s p) ≡ true → ((x : Document) (f : ℕ) → At s p x f → q ≡ f) → Plains s ds q (left - 1) e
  unfolding count all_plain
  plains-more t f =
      let n = next_of k.rest k.all k.counts l in
      let c : suc (count n.rest) ≡ left = sym (ap count n.is) ∙ k.counts in
      let y : plain n.d ≡ true = sym (kind-plain n.d n.first) ∙ t in
      record {
        rest = n.rest;
        all = subst (λ (j : ℕ). AtAll s j n.rest e) (sym (f n.d n.q n.first)) n.all;
        counts = omega arith;
        same = k.same ∙ ap all_plain n.is ∙ ap (λ (b : Bool). b && all_plain n.rest) y;
      }

  pub plains-out : is_plain (kind_at s p) ≡ false → false ≡ all_plain ds
  unfolding all_plain
  plains-out t =
      let n = next_of k.rest k.all k.counts l in
      let y : plain n.d ≡ false = sym (kind-plain n.d n.first) ∙ t in
      sym (k.same ∙ ap all_plain n.is ∙ ap (λ (b : Bool). b && all_plain n.rest) y)

pub plains-end : {s : List ℕ} {ds : Documents} {p left e : ℕ} → Plains s ds p left e → left ≤ 0 → true ≡ all_plain ds
unfolding count all_plain
plains-end {s} {ds} {p} {left} k l = go k.rest k.counts k.same
  where
    go : (r : Documents) → count r ≡ left → all_plain ds ≡ all_plain r → true ≡ all_plain ds
    go none c q = sym q
    go (item d r) c q = absurd (omega arith)

-- a file that is no container
pub shape-refused : (s name : List ℕ) → (container_number s ≡ accepted → ⊥) → None ≡ shape_under s name
unfolding shape_under
shape-refused s name h = rw (ne_eqb _ _ h)

-- the value that is looked up decides
shape-look : (s name : List ℕ) → shape_under s name ≡ shape_in (value_under s name)
unfolding shape_under
shape-look s name = go (eqb (container_number s) accepted)
  where
    go : (b : Bool) → cond b (shape_in (look name (entries_of (document_of s)))) None ≡ shape_in (cond b (look name (entries_of (document_of s))) nothing)
    go true = refl
    go false = refl

module _ {s : List ℕ} (name : List ℕ) where
  pub shape-none : {p : ℕ} → PlaceSays s p (value_under s name) → p ≡ 0 → None ≡ shape_under s name
  shape-none h e = sym (shape-look s name ∙ ap shape_in (place_none h e))

  pub shape-some : {p : ℕ} {r : Answer Shape} → PlaceSays s p (value_under s name) → (p ≡ 0 → ⊥) → ((x : Document) (e : ℕ) → At s p x e → r ≡ Some (shape_of x)) → r ≡ shape_under s name
  shape-some h e f =
      let o = place-some h e in
      f o.x o.end o.at ∙ sym (shape-look s name ∙ ap shape_in o.is)
