-- Views: the place and the part that the definitions give are those of the name's value, in every file.
-- Assumes nothing.
use Rattle.std.specs.Prelude.{Err, ◌≡◌, refl, Bool, true, false, cond, ◌||◌, ◌↔◌, ℕ, zero, suc, ◌+◌, ◌-◌, ◌<◌, ◌≤◌, eqb, length, take, drop}
use Rattle.std.proofs.Common.{sym, ◌∙◌, arith, add-zero, zero-add, suc-add, pos_of_ne-zero, lit<, drop_at, take_at, drop-drop, eq-eqb, ne_eqb, eqb-true}
use Rattle.std.proofs.Math.Path.{ap, subst}
use mathlib.Core.List.{List, [], ◌++◌, append_assoc, append-nil}
use Rattle.std.proofs.Math.ListN.{length-append}
use Rattle.std.proofs.lemmas.List.{drop-append-le}
use Rattle.std.proofs.lemmas.Bool.{eqb-false}
use Rattle.refusal.specs.Table.{accepted, no_such_field}
use Rattle.numbers.specs.BigEndian.{Bytes}
use Rattle.text.specs.Equal.{equal}
use Rattle.text.specs.Laws.Equal.{equal-true, equal-refl}
use Rattle.heads.specs.Head.{HeadOf}
use Rattle.heads.specs.declared.Kind.{Kind}
use Rattle.heads.proofs.Laws.Span.{follows}
use Rattle.messagepack.specs.Document.{Document, Entries, integer, float, string, binary, array, map, empty, entry, size, TextOf, Writes, WritesEntries}
use Rattle.messagepack.specs.Rules.{Container}
use Rattle.messagepack.specs.Walk.{container_number}
use Rattle.messagepack.specs.Read.{document_of}
use Rattle.messagepack.proofs.Laws.Unique.{no-two-documents, document_of-is}
use Rattle.messagepack.proofs.Laws.Container.{container-exactly}
use Rattle.views.specs.View.{EntryIn, shown, Viewable, start_of, has_key, view_number, Placed, placed, refused, Viewed, viewed, nothing}
use Rattle.views.specs.Place.{Place, some_part, entry_place, place_of, place_number, part_at, part_of}
use Rattle.views.specs.Shown.{shown_place, Ahead}
use Rattle.views.specs.Laws.Search.{Outer, outer-of, Next, next_of, next-shown, next-other, entry-last, place-refused, place-container}

-- entries after entries

abbrev pub join : Entries → Entries → Entries
join empty fs = fs
join (entry k x es) fs = entry k x (join es fs)

size-join : (es fs : Entries) → size (join es fs) ≡ size es + size fs
unfolding size
size-join empty fs = sym (zero-add (size fs))
size-join (entry k x es) fs = ap suc (size-join es fs) ∙ sym (suc-add (size es) (size fs))

has_key-join : (name : List ℕ) (es fs : Entries) → has_key name (join es fs) ≡ has_key name es || has_key name fs
unfolding has_key
has_key-join name empty fs = refl
has_key-join name (entry k x es) fs = go (equal k name) (has_key-join name es fs)
  where
    go : (b : Bool) → has_key name (join es fs) ≡ has_key name es || has_key name fs → b || has_key name (join es fs) ≡ (b || has_key name es) || has_key name fs
    go true h = refl
    go false h = h

writes-join : (es fs : Entries) (u v : List ℕ) → WritesEntries es u → WritesEntries fs v → WritesEntries (join es fs) (u ++ v)
unfolding WritesEntries
writes-join empty fs u v a b = subst (WritesEntries fs) (ap (λ (x : List ℕ). x ++ v) (sym a)) b
writes-join (entry k x es) fs u v a b = record {
  a = a.a;
  u = a.u;
  v = a.v ++ v;
  key = a.key;
  first = a.first;
  rest = writes-join es fs a.v v a.rest b;
  is = ap (λ (y : List ℕ). y ++ v) a.is ∙ append_assoc a.a (a.u ++ a.v) v ∙ ap (λ (y : List ℕ). a.a ++ y) (append_assoc a.u a.v v);
}

single : (k a w : List ℕ) (x : Document) → TextOf Kind.Str k a → Writes x w → WritesEntries (entry k x empty) (a ++ w)
unfolding WritesEntries
single k a w x key wr = record { a = a; u = w; v = []; key = key; first = wr; rest = refl; is = ap (λ (y : List ℕ). a ++ y) (sym (append-nil w)) }

writes-map : (es : Entries) (h v s : List ℕ) → HeadOf Kind.Map (size es) h → WritesEntries es v → s ≡ h ++ v → Writes (map es) s
unfolding Writes
writes-map es h v s hd wr e = record { h = h; v = v; head = hd; body = wr; is = e }

-- a file with an entry is a writing of a map that has the key
pub entry-map : {s name w : List ℕ} {x : Document} (i : EntryIn s name x w) → Writes (map (join i.before (entry name x i.after))) s
unfolding size WritesEntries
entry-map {s} {name} {w} {x} i =
    writes-map (join i.before (entry name x i.after)) i.head_bytes (i.earlier-bytes ++ (i.key-bytes ++ (w ++ i.later-bytes))) s
    (rw (size-join i.before (entry name x i.after)) i.head)
    (writes-join i.before (entry name x i.after) i.earlier-bytes (i.key-bytes ++ (w ++ i.later-bytes)) i.earlier (record { a = i.key-bytes; u = w; v = i.later-bytes; key = i.key; first = i.value; rest = i.later; is = refl }))
    i.is

map_inj : {es fs : Entries} → map es ≡ map fs → es ≡ fs
map_inj e = cc

-- the document of a container is its map
module _ {s : List ℕ} (c : Container s) where
  document-is : document_of s ≡ map c.entries
  document-is = document_of-is (map c.entries) s c.writes c.nested

  pub same_entries : (es : Entries) → Writes (map es) s → c.entries ≡ es
  same_entries es wr = map_inj (no-two-documents (map c.entries) (map es) s c.writes wr)

  number_is : Bytes s → (name : List ℕ) → view_number s name ≡ cond (has_key name c.entries) accepted no_such_field
  unfolding view_number
  number_is bytes name = rw (eq-eqb (container_number s) accepted ((container-exactly s bytes).1 c), document-is)

has-entry : {s name : List ℕ} (v : Viewable s name) → has_key name v.container.entries ≡ true
unfolding has_key
has-entry {s} {name} v =
    let i = v.entry-is in
    let e = same_entries v.container (join i.before (entry name v.x i.after)) (entry-map i) in
    rw (e, has_key-join name i.before (entry name v.x i.after), equal-refl name) (or-true (has_key name i.before))
  where
    or-true : (b : Bool) → b || true ≡ true
    or-true true = refl
    or-true false = refl

-- a file that shows the name has the number 0
viewable-zero : {s name : List ℕ} → Bytes s → Viewable s name → view_number s name ≡ 0
viewable-zero {s} {name} bytes v = number_is v.container bytes name ∙ rw (has-entry v)

-- a file that is no container has its number
refused-number : (s name : List ℕ) → (container_number s ≡ 0 → ⊥) → container_number s ≡ view_number s name
unfolding view_number
refused-number s name h = rw (ne_eqb (container_number s) accepted h)

-- The search for a name, and what its end says

-- a search in a container: the entries before a place have other keys, and those from there on are ahead
record Looking (s name : List ℕ) (left p : ℕ) : Type 0 where
  container : Container s
  before : Entries
  h : List ℕ
  u : List ℕ
  head : HeadOf Kind.Map (size before + left) h
  earlier : WritesEntries before u
  others : has_key name before ≡ false
  is : s ≡ h ++ (u ++ drop p s)
  place : p ≡ length h + length u
  ahead : Ahead s left p

-- nothing is left: there is no such key
module _ {s name : List ℕ} {left p : ℕ} (bytes : Bytes s) (l : Looking s name left p) (z : left ≡ 0) where
  last-entries : (es : Entries) → size es ≡ 0 → WritesEntries es (drop p s) → drop p s ≡ []
  unfolding size WritesEntries
  last-entries empty e wr = wr
  last-entries (entry k x es) e wr = absurd (omega arith)

  all-before : l.container.entries ≡ l.before
  all-before =
      same_entries l.container l.before
      (writes-map l.before l.h l.u s (rw (z, add-zero (size l.before)) at l.head) l.earlier
      (l.is ∙ ap (λ (x : List ℕ). l.h ++ x) (ap (λ (x : List ℕ). l.u ++ x) (last-entries l.ahead.entries (l.ahead.counts ∙ z) l.ahead.writes) ∙ append-nil l.u)))

  looking-last : Placed s name (Err no_such_field)
  looking-last =
      let none : has_key name l.container.entries ≡ false = rw all-before l.others in
      let number : view_number s name ≡ no_such_field = number_is l.container bytes name ∙ rw none in
      refused {n = no_such_field} (lit< tt) (sym number) (λ v. let t : view_number s name ≡ 0 = viewable-zero bytes v in omega arith)

-- the next entry is the one, or the search goes on after it
module _ {s name : List ℕ} {left p : ℕ} (l : Looking s name left p) (n : Next s left p) (pos : 0 < left) where
  whole : s ≡ l.h ++ (l.u ++ (n.a ++ (n.w ++ n.v)))
  whole = l.is ∙ ap (λ (y : List ℕ). l.h ++ (l.u ++ y)) n.is

  looking-here : equal n.k name ≡ true → Placed s name (shown_place (n.from + length n.k) n.x n.w)
  looking-here b =
      let count : size l.before + left ≡ size l.before + suc (size n.others.entries) = (let m = n.others.counts in omega arith) in
      let view : Viewable s name = record {
        container = l.container;
        x = n.x;
        w = n.w;
        entry-is = record {
          before = l.before;
          after = n.others.entries;
          head_bytes = l.h;
          earlier-bytes = l.u;
          key-bytes = n.a;
          later-bytes = n.v;
          head = subst (λ (m : ℕ). HeadOf Kind.Map m l.h) count l.head;
          earlier = l.earlier;
          key = subst (λ (y : List ℕ). TextOf Kind.Str y n.a) (equal-true n.k name b) n.text;
          value = n.writes;
          later = subst (WritesEntries n.others.entries) n.rest n.others.writes;
          is = whole;
        };
      } in
      let e : n.from + length n.k + (length n.w - length (shown n.x n.w)) ≡ start_of view = omega (arith, l.place, n.start) in
      subst (λ (i : ℕ). Placed s name (some_part i (length (shown n.x n.w)))) (sym e) (placed view)

  looking-on : equal n.k name ≡ false → Looking s name (left - 1) (n.from + length n.k + length n.w)
  unfolding size has_key
  looking-on b =
      let count : size l.before + left ≡ size (join l.before (entry n.k n.x empty)) + (left - 1) = rw (size-join l.before (entry n.k n.x empty)) (omega arith) in
      record {
        container = l.container;
        before = join l.before (entry n.k n.x empty);
        h = l.h;
        u = l.u ++ (n.a ++ n.w);
        head = subst (λ (m : ℕ). HeadOf Kind.Map m l.h) count l.head;
        earlier = writes-join l.before (entry n.k n.x empty) l.u (n.a ++ n.w) l.earlier (single n.k n.a n.w n.x n.text n.writes);
        others = rw (has_key-join name l.before (entry n.k n.x empty), l.others, b);
        is = whole ∙ ap (λ (y : List ℕ). l.h ++ y) (sym (append_assoc l.u (n.a ++ n.w) n.v ∙ ap (λ (y : List ℕ). l.u ++ y) (append_assoc n.a n.w n.v))) ∙ ap (λ (y : List ℕ). l.h ++ ((l.u ++ (n.a ++ n.w)) ++ y)) (sym n.rest);
        place = rw (length-append l.u (n.a ++ n.w), length-append n.a n.w) (omega (arith, l.place, n.start));
        ahead = n.others;
      }

-- what the search finds is the place of the part
looking-found : {s name : List ℕ} → Bytes s → (m left p : ℕ) → left ≡ m → Looking s name left p → Placed s name (entry_place s name left p)
looking-found {s} {name} bytes zero left p e l = subst (Placed s name) (entry-last s name left p e) (looking-last bytes l e)
looking-found {s} {name} bytes (suc m) left p e l = go (equal n.k name) refl (looking-found bytes m)
  where
    pos : 0 < left
    pos = omega arith

    n : Next s left p
    n = next_of l.ahead pos

    go : (b : Bool) → equal n.k name ≡ b → ((k q : ℕ) → k ≡ m → Looking s name k q → Placed s name (entry_place s name k q)) → Placed s name (entry_place s name left p)
    go true h more = subst (Placed s name) (sym (next-shown n name pos h)) (looking-here l n pos h)
    go false h more = subst (Placed s name) (sym (next-other n name pos h)) (more (left - 1) (n.from + length n.k + length n.w) (omega arith) (looking-on l n pos h))

-- the search begins after the outer map's head
looking-first : {s : List ℕ} (name : List ℕ) (c : Container s) (o : Outer s c.entries) → Looking s name (size c.entries) (length o.h)
unfolding WritesEntries has_key size
looking-first name c o = record {
  container = c;
  before = empty;
  h = o.h;
  u = [];
  head = rw (zero-add (size c.entries)) o.head;
  earlier = refl;
  others = refl;
  is = o.is;
  place = sym (add-zero (length o.h));
  ahead = o.ahead;
}

-- the part of a place

text-tail : (t w h : List ℕ) → w ≡ h ++ t → (length t ≤ length w) × (drop (length w - length t) w ≡ t)
text-tail t w h e =
    let l : length w ≡ length h + length t = ap length e ∙ length-append h t in
    let d : length w - length t ≡ length h = omega arith in
    (omega arith, ap (λ (k : ℕ). drop k w) d ∙ ap (drop (length h)) e ∙ drop_at h t (length h) refl)

whole-tail : (w : List ℕ) → (length w ≤ length w) × (drop (length w - length w) w ≡ w)
whole-tail w = let d : length w - length w ≡ 0 = omega arith in (omega arith, ap (λ (k : ℕ). drop k w) d)

shown-tail : (x : Document) (w : List ℕ) → Writes x w → (length (shown x w) ≤ length w) × (drop (length w - length (shown x w)) w ≡ shown x w)
unfolding Writes
shown-tail (string t) w wr = text-tail t w wr.h wr.is
shown-tail (binary t) w wr = text-tail t w wr.h wr.is
shown-tail (integer v) w wr = whole-tail w
shown-tail (float bits) w wr = whole-tail w
shown-tail (array ds) w wr = whole-tail w
shown-tail (map es) w wr = whole-tail w

module _ {s name : List ℕ} (v : Viewable s name) where
  part-rest : drop (start_of v) s ≡ shown v.x v.w ++ v.entry-is.later-bytes
  part-rest =
      let i = v.entry-is in
      let tail = shown-tail v.x v.w i.value in
      let before : drop (length i.head_bytes + length i.earlier-bytes + length i.key-bytes) s ≡ v.w ++ i.later-bytes =
      follows s (length i.head_bytes + length i.earlier-bytes) i.key-bytes (v.w ++ i.later-bytes) (follows s (length i.head_bytes) i.earlier-bytes (i.key-bytes ++ (v.w ++ i.later-bytes)) (ap (drop (length i.head_bytes)) i.is ∙ drop_at i.head_bytes (i.earlier-bytes ++ (i.key-bytes ++ (v.w ++ i.later-bytes))) (length i.head_bytes) refl)) in
      sym (drop-drop (length v.w - length (shown v.x v.w)) (length i.head_bytes + length i.earlier-bytes + length i.key-bytes) s)
      ∙ ap (drop (length v.w - length (shown v.x v.w))) before
      ∙ drop-append-le (length v.w - length (shown v.x v.w)) v.w i.later-bytes (omega arith)
      ∙ ap (λ (y : List ℕ). y ++ i.later-bytes) tail.1

  part-fits : start_of v + length (shown v.x v.w) ≤ length s
  part-fits =
      let i = v.entry-is in
      let l : length s ≡ length i.head_bytes + (length i.earlier-bytes + (length i.key-bytes + (length v.w + length i.later-bytes))) = ap length i.is ∙ simp length-append in
      omega (arith, (shown-tail v.x v.w i.value).0)

-- a part is inside the file, and is what is shown

placed-fits : {s name : List ℕ} {i n : ℕ} → Placed s name (some_part i n) → i + n ≤ length s
placed-fits (placed v) = part-fits v

placed-part : {s name : List ℕ} {p : Place} → Placed s name p → Viewed s name (part_at s p)
placed-part {s} {name} (placed v) =
    subst (Viewed s name) (sym (ap (take (length (shown v.x v.w))) (part-rest v) ∙ take_at (shown v.x v.w) v.entry-is.later-bytes (length (shown v.x v.w)) refl)) (viewed v)
placed-part (refused pos q none) = nothing none

placed-number : {s name : List ℕ} {p : Place} → Bytes s → Placed s name p → (place_number p ≡ view_number s name) × ((place_number p ≡ 0) ↔ Viewable s name)
placed-number bytes (placed v) = (sym (viewable-zero bytes v), ((λ z. v), (λ w. refl)))
placed-number bytes (refused pos q none) = (q, ((λ z. absurd (omega arith)), (λ v. absurd (none v))))

-- What the definitions give

module _ (file name : List ℕ) (bytes : Bytes file) where
  -- the place is that of the part, or the refusal
  pub place_of-is : Placed file name (place_of file name)
  place_of-is = go (eqb (container_number file) accepted) refl
    where
      go : (b : Bool) → eqb (container_number file) accepted ≡ b → Placed file name (place_of file name)
      go true e =
          let z = eqb-true (container_number file) accepted e in
          let c = (container-exactly file bytes).0 z in
          let o = outer-of c in
          subst (Placed file name) (sym (place-container file name z o.there)) (looking-found bytes (size c.entries) (size c.entries) (length o.h) refl (looking-first name c o))
      go false e =
          let z = eqb-false (container_number file) accepted e in
          subst (Placed file name) (place-refused file name z) (refused (pos_of_ne-zero z) (refused-number file name z) (λ v. z ((container-exactly file bytes).1 v.container)))

  -- the part is what is shown under the name
  pub part_of-is : Viewed file name (part_of file name)
  unfolding part_of
  part_of-is = placed-part place_of-is

  -- the part is inside the file
  pub place_of-fits : {i n : ℕ} → place_of file name ≡ some_part i n → i + n ≤ length file
  place_of-fits e = placed-fits (subst (Placed file name) e place_of-is)

  -- the number of the place is that of the view, which is 0 exactly when the file shows the name
  pub place_of-number : {p : Place} → place_of file name ≡ p → (place_number p ≡ view_number file name) × ((place_number p ≡ 0) ↔ Viewable file name)
  place_of-number e = placed-number bytes (subst (Placed file name) e place_of-is)
