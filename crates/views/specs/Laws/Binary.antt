-- Whether the value under an outer key is a binary: its kind at its place says so. Assumes nothing.
use Rattle.std.specs.Prelude.{◌≡◌, refl, Bool, true, false, cond, List, ℕ, eqb}
use Rattle.std.proofs.Common.{sym, ap, ◌∙◌, eq-eqb, ne_eqb}
use Rattle.std.proofs.Math.Option.{some, none}
use Rattle.refusal.specs.Table.{accepted}
use Rattle.heads.specs.Head.{kind_at}
use Rattle.messagepack.specs.Document.{Document, integer, float, string, binary, array, map}
use Rattle.messagepack.specs.Rules.{Container}
use Rattle.messagepack.specs.Walk.{container_number}
use Rattle.messagepack.specs.Read.{document_of}
use Rattle.messagepack.proofs.Laws.Unique.{document_of-is}
use Rattle.values.specs.Parts.{entries_of, look}
use Rattle.values.specs.Heads.{is_binary}
use Rattle.values.specs.Places.{At, PlaceSays, gone}
use Rattle.values.specs.Laws.Places.{place_none, place-some, OpenInteger, unsigned, signed, open_array, open-map, open-string, open-binary, open-float, open-integer}
use Rattle.views.specs.View.{value_under, is_binary_value, binary_under}

-- the kind of a value at its place
kind-binary : {s : List ℕ} {p e : ℕ} (x : Document) → At s p x e → is_binary (kind_at s p) ≡ is_binary_value (some x)
kind-binary {s} {p} {e} (integer v) a = go (open-integer a)
  where
    go : OpenInteger s p v e → is_binary (kind_at s p) ≡ false
    go (unsigned n t i) = ap is_binary t.kind
    go (signed k n t f g h i) = ap is_binary t.kind
kind-binary (float bits) a = ap is_binary (open-float a).kind
kind-binary (string t) a = ap is_binary (open-string a).told.kind
kind-binary (binary t) a = ap is_binary (open-binary a).told.kind
kind-binary (array ds) a = ap is_binary (open_array a).told.kind
kind-binary (map es) a = ap is_binary (open-map a).told.kind

-- a file that is no container
pub binary-refused : (s name : List ℕ) → (container_number s ≡ accepted → ⊥) → false ≡ binary_under s name
unfolding binary_under
binary-refused s name h = rw (ne_eqb _ _ h)

-- the value that is looked up decides
binary-look : (s name : List ℕ) → binary_under s name ≡ is_binary_value (value_under s name)
unfolding binary_under
binary-look s name = go (eqb (container_number s) accepted)
  where
    go : (b : Bool) → cond b (is_binary_value (look name (entries_of (document_of s)))) false ≡ is_binary_value (cond b (look name (entries_of (document_of s))) none)
    go true = refl
    go false = refl

module _ {s : List ℕ} (name : List ℕ) where
  pub binary-none : {p : ℕ} → PlaceSays s p (value_under s name) → p ≡ 0 → false ≡ binary_under s name
  binary-none h e = sym (binary-look s name ∙ ap is_binary_value (place_none h e))

  pub binary-some : {p : ℕ} → PlaceSays s p (value_under s name) → (p ≡ 0 → ⊥) → is_binary (kind_at s p) ≡ binary_under s name
  binary-some h e =
      let o = place-some h e in
      kind-binary o.x o.at ∙ sym (binary-look s name ∙ ap is_binary_value o.is)

-- a file that is no container shows no value; in a container the entries are those of its map
pub under-refused : (s name : List ℕ) → (container_number s ≡ accepted → ⊥) → PlaceSays s 0 (value_under s name)
under-refused s name h = rw (ne_eqb _ _ h) gone

pub under-container : {s : List ℕ} (name : List ℕ) (c : Container s) → container_number s ≡ accepted → value_under s name ≡ look name c.entries
under-container {s} name c z = rw (eq-eqb _ _ z, document_of-is (map c.entries) s c.writes c.nested)
