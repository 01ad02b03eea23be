-- The span that is noted of a named field is that of its view: the search for its name finds the value that stands there.
-- Assumes nothing.
use Rattle.std.specs.Prelude.{◌≡◌, refl, Ok, Err, Bool, true, false, cond, List, [], ℕ, suc, ◌-◌, ◌<◌, ◌≤◌, get_or, drop}
use Rattle.std.proofs.Common.{sym, ◌∙◌, arith, ne_eqb}
use Rattle.std.proofs.Math.Path.{ap}
use Rattle.std.proofs.Math.Option.{some, none as nothing}
use Rattle.refusal.specs.Table.{no_such_field}
use Rattle.numbers.specs.BigEndian.{Bytes}
use Rattle.text.specs.Equal.{equal}
use Rattle.heads.specs.Head.{kind_at, some_head, head_at}
use Rattle.heads.specs.declared.Kind.{Kind}
use Rattle.heads.specs.Table.{lead_table, kind_by, head_by}
use Rattle.heads.proofs.Laws.Table.{kind-rule, head-rule}
use Rattle.messagepack.specs.Limits.{nesting_limit}
use Rattle.messagepack.specs.Document.{Document, Entries, string, empty, entry, size}
use Rattle.messagepack.specs.Rules.{depth, depth_entries, Container}
use Rattle.messagepack.specs.Walk.{value_at, container_number}
use Rattle.messagepack.proofs.Laws.Complete.{value-of}
use Rattle.values.specs.Parts.{look}
use Rattle.values.specs.Places.{At, AtEntries}
use Rattle.values.specs.Heads.{entries_by}
use Rattle.values.specs.declared.Part.{Part}
use Rattle.values.specs.Laws.Places.{open-string, open-map, OpenEntry, open-entry, outer-at}
use Rattle.views.specs.Place.{some_part, is_text, body_place, value_place, after_value, entry_place}
use Rattle.views.specs.Laws.Shown.{value-shows, part-shows}
use Rattle.views.specs.Laws.Search.{place-container}
use Rattle.fields.specs.Fields.{field_names}
use Rattle.fields.specs.Noted.{Among, first, later, SpanFrom, absent, stands, Spanned}
use Rattle.fields.specs.declared.Fields.{Fields}
use Rattle.opening.specs.Steps.{span_place, SpansSay}

-- the part of a span, by its place and its kind

module _ (s : List ℕ) (at end : ℕ) where
  pub span_none : at ≡ 0 → Err no_such_field ≡ span_place s at end
  span_none z = rw z

  pub span-body : {k : Kind} → (at ≡ 0 → ⊥) → kind_at s at ≡ k → is_text k ≡ true → body_place (head_at s at) ≡ span_place s at end
  span-body h e t = rw (ne_eqb at 0 h, e, t)

  pub span-whole : {k : Kind} → (at ≡ 0 → ⊥) → kind_at s at ≡ k → is_text k ≡ false → some_part at (end - at) ≡ span_place s at end
  span-whole h e t = rw (ne_eqb at 0 h, e, t)

-- one entry: its key is read, and its value stands after it
entry_read : {s : List ℕ} {p r : ℕ} {l : List ℕ} (k : List ℕ) (n : ℕ) → At s p (string l) r → entry_place s k (suc n) p ≡ cond (equal l k) (value_place s r) (after_value (value_at s nesting_limit r) (λ e. entry_place s k n e))
unfolding entry_place
entry_read k n a =
    let o = open-string a in
    rw (o.told.head, o.text, ← o.ends)

-- a value that stands at a place ends where it stands up to, and is shown by its kind

value-end : {s : List ℕ} {p e : ℕ} {x : Document} → At s p x e → depth x ≤ nesting_limit → value_at s nesting_limit p ≡ Ok e
value-end {s} {p} {e} {x} a n = value-of s x a.w nesting_limit p (drop e s) a.writes n a.keeps a.span.is ∙ ap Ok (sym a.span.ends)

value-place : {s : List ℕ} {p e : ℕ} {x : Document} → At s p x e → depth x ≤ nesting_limit → 0 < p → value_place s p ≡ span_place s p e
value-place {s} {p} {e} {x} a n pos =
    value-shows s p x a.w (drop e s) a.writes n a.keeps a.span.is
    ∙ sym (part-shows s p x a.w (drop e s) a.writes a.span.is)
    ∙ rw (ne_eqb p 0 (λ z. omega arith), a.span.ends)

-- the search for a key finds its value

among-place : {s k : List ℕ} {p q e : ℕ} {es : Entries} → Among s k p es q e → 0 < q → depth_entries es ≤ nesting_limit → entry_place s k (size es) p ≡ span_place s q e
unfolding size depth
among-place {k = k} (first {es = es} h key value) pos n = entry_read k (size es) key ∙ rw h (value-place value (omega arith) pos)
among-place {s} {k} (later {es = es} h key value rest) pos n =
    entry_read k (size es) key ∙ rw (h, value-end value (omega arith)) (among-place rest pos (omega arith))

-- and nothing for another
absent-place : {s : List ℕ} (k : List ℕ) {p e : ℕ} (es : Entries) → look k es ≡ nothing → AtEntries s p es e → depth_entries es ≤ nesting_limit → entry_place s k (size es) p ≡ Err no_such_field
unfolding size depth look entry_place
absent-place k empty h a n = refl
absent-place {s} k {p} {e} (entry l x es) h a n = entry_read k (size es) o.key ∙ go (equal l k) refl h (λ q r i b d. absent-place k es i b d)
  where
    o : OpenEntry s p l x es e
    o = open-entry a

    go : (b : Bool) → equal l k ≡ b → cond b (some x) (look k es) ≡ nothing → ((q r : ℕ) → look k es ≡ nothing → AtEntries s q es r → depth_entries es ≤ nesting_limit → entry_place s k (size es) q ≡ Err no_such_field) → cond (equal l k) (value_place s o.q) (after_value (value_at s nesting_limit o.q) (λ i. entry_place s k (size es) i)) ≡ Err no_such_field
    go true t m rest = let z : ◌≡◌ {A = ℕ} 0 1 = cc in absurd (omega arith)
    go false t m rest = rw (t, value-end o.value (omega arith)) (rest o.r e m o.rest (omega arith))

-- the span of a name is the place of its view
span-place : {s k : List ℕ} {p e q r : ℕ} (es : Entries) → SpanFrom s k p es 0 0 q r → AtEntries s p es e → depth_entries es ≤ nesting_limit → entry_place s k (size es) p ≡ span_place s q r
span-place {k = k} es (absent h) a n = absent-place k es h a n
span-place es (stands pos m) a n = among-place m pos n

module _ {s : List ℕ} (c : Container s) where
  -- the head of the outer map is read by the table of lead bytes
  pub outer-read : Bytes s → {part : Part} → part ≡ entries_by lead_table s 0 → head_at s 0 ≡ some_head part.count part.at
  outer-read bytes {part} e =
      let o = open-map (outer-at c) in
      let k : kind_by lead_table s 0 ≡ Kind.Map = kind-rule s bytes 0 refl refl ∙ o.told.kind in
      let h : head_by lead_table s 0 ≡ some_head (size c.entries) o.q = head-rule s bytes 0 refl refl ∙ o.told.head in
      let p : part ≡ record { at = o.q; count = size c.entries } = e ∙ rw (k, h) in
      o.told.head ∙ ap (λ (x : Part). some_head x.count x.at) (sym p)

  -- what is noted of the entries after it are the views of the named fields
  pub spans-say : {n p e : ℕ} {r : Fields} → container_number s ≡ 0 → head_at s 0 ≡ some_head n p → size c.entries ≡ n → AtEntries s p c.entries e → Spanned s p c.entries r → SpansSay s r.places r.ends
  unfolding depth
  spans-say {p = p} z h m a spans = record {
    says = λ i lt.
        let d : depth_entries c.entries ≤ nesting_limit = (let t = c.nested in omega arith) in
        place-container s (get_or field_names i []) z h
        ∙ ap (λ (k : ℕ). entry_place s (get_or field_names i []) k p) (sym m)
        ∙ span-place c.entries (spans.spans i lt) a d;
  }
