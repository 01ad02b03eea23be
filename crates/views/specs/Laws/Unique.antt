-- A file shows one part for a name: two views agree in the place and in the part, so every answer of a call is the same.
-- Assumes nothing.
use Rattle.std.specs.Prelude.{Err, ◌≡◌, refl}
use Rattle.std.proofs.Math.Path.{sym, ap, ap₂}
use Rattle.std.proofs.Common.{subst, ◌∙◌, arith}
use mathlib.Core.List.{List, ◌++◌, append_assoc}
use Prim.Native.Nat.{ℕ, ◌+◌}
use Rattle.std.proofs.Math.ListN.{length, length-append}
use Rattle.heads.proofs.Laws.Head.{split, same_head}
use Rattle.heads.specs.declared.Kind.{Kind}
use Rattle.messagepack.specs.Document.{Document, Entries, string, map, empty, entry, TextOf, Writes, WritesEntries}
use Rattle.messagepack.specs.Rules.{NoKey, Distinct, Keeps, Container}
use Rattle.messagepack.proofs.Laws.Unique.{same-document}
use Rattle.views.specs.Place.{Place, some_part}
use Rattle.views.specs.View.{EntryIn, shown, Viewable, start_of, Placed, placed, refused, Viewed, viewed, nothing}
use Rattle.views.specs.Laws.View.{join, entry-map, same_entries}

-- equal bytes whose last parts are equal
first-parts : (u v p q : List ℕ) → u ++ p ≡ v ++ q → p ≡ q → u ≡ v
first-parts u v p q e f =
    let l : length u + length p ≡ length v + length q = sym (length-append u p) ∙ ap length e ∙ length-append v q in
    let m : length p ≡ length q = ap length f in
    (split u v p q (omega arith) e).0

-- two writings at the beginning of the same bytes: the document, the writing and what follows are the same
record Alike (x y : Document) (u v p q : List ℕ) : Type 0 where
  documents : x ≡ y
  writings : u ≡ v
  rests : p ≡ q

alike : (x y : Document) (u v p q : List ℕ) → Writes x u → Writes y v → u ++ p ≡ v ++ q → Alike x y u v p q
alike x y u v p q a b e =
    let s = same-document x y u v p q a b e in
    record { documents = s.0; writings = first-parts u v p q e s.1; rests = s.1 }

alike-keys : (k l u v p q : List ℕ) → TextOf Kind.Str k u → TextOf Kind.Str l v → u ++ p ≡ v ++ q → Alike (string k) (string l) u v p q
unfolding Writes
alike-keys k l u v p q a b e = alike (string k) (string l) u v p q a b e

string-inj : {k l : List ℕ} → string k ≡ string l → k ≡ l
string-inj e = cc

-- where the keys are different, a key is none of those before it

no-key-at : (k name : List ℕ) (x : Document) (es fs : Entries) → NoKey k (join es (entry name x fs)) → k ≡ name → ⊥
unfolding NoKey
no-key-at k name x empty fs h = h.0
no-key-at k name x (entry l y es) fs h = no-key-at k name x es fs h.1

no-key-before : (name : List ℕ) (x : Document) (es fs : Entries) → Distinct (join es (entry name x fs)) → NoKey name es
unfolding Distinct NoKey
no-key-before name x empty fs h = tt
no-key-before name x (entry k y es) fs h = ((λ (e : name ≡ k). no-key-at k name x es fs h.0 (sym e)), no-key-before name x es fs h.1)

keeps-distinct : (es : Entries) → Keeps (map es) → Distinct es
unfolding Keeps
keeps-distinct es h = h.1

before-other : {file name w : List ℕ} {x : Document} → Container file → (i : EntryIn file name x w) → NoKey name i.before
before-other {file} {name} {w} {x} c i =
    no-key-before name x i.before i.after
    (subst Distinct (same_entries c (join i.before (entry name x i.after)) (entry-map i)) (keeps-distinct c.entries c.keeps))

-- an entry's writing, with what follows it
past : (t c d e r : List ℕ) → t ≡ c ++ (d ++ e) → t ++ r ≡ c ++ (d ++ (e ++ r))
past t c d e r i = ap (λ (l : List ℕ). l ++ r) i ∙ append_assoc c (d ++ e) r ∙ ap (λ (l : List ℕ). c ++ l) (append_assoc d e r)

-- two entries of the same name in the same bytes, each after entries of other names
record Same (u v a b w z : List ℕ) (x y : Document) : Type 0 where
  earlier : length u ≡ length v
  keys : length a ≡ length b
  values : x ≡ y
  writings : w ≡ z

module _ (name a b w z p q : List ℕ) (x y : Document) (ka : TextOf Kind.Str name a) (kb : TextOf Kind.Str name b) (wx : Writes x w) (wy : Writes y z) where
  same : (es fs : Entries) (u v : List ℕ) → NoKey name es → NoKey name fs → WritesEntries es u → WritesEntries fs v → u ++ (a ++ (w ++ p)) ≡ v ++ (b ++ (z ++ q)) → Same u v a b w z x y
  unfolding WritesEntries NoKey
  same empty empty u v n m wu wv e =
      let f : a ++ (w ++ p) ≡ b ++ (z ++ q) = sym (ap (λ (l : List ℕ). l ++ (a ++ (w ++ p))) wu) ∙ e ∙ ap (λ (l : List ℕ). l ++ (b ++ (z ++ q))) wv in
      let k = alike-keys name name a b (w ++ p) (z ++ q) ka kb f in
      let d = alike x y w z p q wx wy k.rests in
      record { earlier = ap length (wu ∙ sym wv); keys = ap length k.writings; values = d.documents; writings = d.writings }
  same empty (entry l d fs) u v n m wu wv e =
      let f : a ++ (w ++ p) ≡ wv.a ++ (wv.u ++ (wv.v ++ (b ++ (z ++ q)))) = sym (ap (λ (l : List ℕ). l ++ (a ++ (w ++ p))) wu) ∙ e ∙ past v wv.a wv.u wv.v (b ++ (z ++ q)) wv.is in
      absurd (m.0 (string-inj (alike-keys name l a wv.a (w ++ p) (wv.u ++ (wv.v ++ (b ++ (z ++ q)))) ka wv.key f).documents))
  same (entry k c es) empty u v n m wu wv e =
      let f : b ++ (z ++ q) ≡ wu.a ++ (wu.u ++ (wu.v ++ (a ++ (w ++ p)))) = sym (ap (λ (l : List ℕ). l ++ (b ++ (z ++ q))) wv) ∙ sym e ∙ past u wu.a wu.u wu.v (a ++ (w ++ p)) wu.is in
      absurd (n.0 (string-inj (alike-keys name k b wu.a (z ++ q) (wu.u ++ (wu.v ++ (a ++ (w ++ p)))) kb wu.key f).documents))
  same (entry k c es) (entry l d fs) u v n m wu wv e =
      let r : List ℕ = wu.v ++ (a ++ (w ++ p)) in
      let t : List ℕ = wv.v ++ (b ++ (z ++ q)) in
      let f : wu.a ++ (wu.u ++ r) ≡ wv.a ++ (wv.u ++ t) = sym (past u wu.a wu.u wu.v (a ++ (w ++ p)) wu.is) ∙ e ∙ past v wv.a wv.u wv.v (b ++ (z ++ q)) wv.is in
      let key = alike-keys k l wu.a wv.a (wu.u ++ r) (wv.u ++ t) wu.key wv.key f in
      let value = alike c d wu.u wv.u r t wu.first wv.first key.rests in
      let s = same es fs wu.v wv.v n.1 m.1 wu.rest wv.rest value.rests in
      let i : u ≡ wv.a ++ (wv.u ++ wu.v) = wu.is ∙ ap₂ (λ (g h : List ℕ). g ++ (h ++ wu.v)) key.writings value.writings in
      let lu : length u ≡ length wv.a + (length wv.u + length wu.v) = ap length i ∙ simp length-append in
      let lv : length v ≡ length wv.a + (length wv.u + length wv.v) = ap length wv.is ∙ simp length-append in
      record { earlier = omega (arith, s.earlier); keys = s.keys; values = s.values; writings = s.writings }

-- a file shows one part for a name: two views of it agree in place and part
pub one-view : {file name : List ℕ} (v w : Viewable file name) → (start_of v ≡ start_of w) × (shown v.x v.w ≡ shown w.x w.w)
one-view {file} {name} v w =
    let i = v.entry-is in
    let j = w.entry-is in
    let p : List ℕ = i.earlier-bytes ++ (i.key-bytes ++ (v.w ++ i.later-bytes)) in
    let q : List ℕ = j.earlier-bytes ++ (j.key-bytes ++ (w.w ++ j.later-bytes)) in
    let e : i.head_bytes ++ p ≡ j.head_bytes ++ q = sym i.is ∙ j.is in
    let r : p ≡ q = (same_head p q i.head j.head e).rests in
    let h : length i.head_bytes ≡ length j.head_bytes = ap length (first-parts i.head_bytes j.head_bytes p q e r) in
    let s = same name i.key-bytes j.key-bytes v.w w.w i.later-bytes j.later-bytes v.x w.x i.key j.key i.value j.value i.before j.before i.earlier-bytes j.earlier-bytes (before-other v.container i) (before-other w.container j) i.earlier j.earlier r in
    let t : shown v.x v.w ≡ shown w.x w.w = ap₂ shown s.values s.writings in
    (omega (arith, h, s.earlier, s.keys, ap length s.writings, ap length t), t)

-- a call has one answer
pub one_place : {file name : List ℕ} {p q : Place} → Placed file name p → Placed file name q → p ≡ q
one_place (placed v) (placed w) = let o = one-view v w in ap₂ some_part o.0 (ap length o.1)
one_place (placed v) (refused pos e none) = absurd (none v)
one_place (refused pos e none) (placed w) = absurd (none w)
one_place (refused pos e none) (refused pos2 f none2) = ap (λ (n : ℕ). Err n) (e ∙ sym f)

-- a name has one part
pub one-part : {file name a b : List ℕ} → Viewed file name a → Viewed file name b → a ≡ b
one-part (viewed v) (viewed w) = (one-view v w).1
one-part (viewed v) (nothing none) = absurd (none v)
one-part (nothing none) (viewed w) = absurd (none w)
one-part (nothing none) (nothing none2) = refl
