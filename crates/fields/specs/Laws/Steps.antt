-- What stands at a place has a type, by its head and by what stands inside: a law for each way on.
-- Assumes nothing.
use Rattle.std.specs.Prelude.{Option, None, ◌≡◌, refl, Bool, true, false, cond, ◌&&◌, ℕ, zero, suc, ◌+◌, ◌-◌, ◌^◌, ◌<◌, ◌≤◌, leb, ltb, get_or, take, drop}
use Rattle.std.proofs.Math.Path.{sym, ap}
use Rattle.std.proofs.Common.{subst, ◌∙◌, arith, add-zero, lit≤, eq-eqb, ne_eqb, le-leb}
use Rattle.std.proofs.Math.Bool.{and_comm}
use mathlib.Core.List.{List}
use Rattle.std.specs.Int.Bits.{bit_or, or_zero_r}
use Rattle.std.proofs.Math.Dec.{eqb}
use Rattle.std.proofs.Math.ListN.{length}
use Rattle.heads.specs.Head.{kind_at, head_at, some_head}
use Rattle.heads.proofs.Laws.Head.{same-parts, Told, alone-head, float-kind, float-head}
use Rattle.heads.proofs.Laws.Table.{low-lead, array-lead, string-lead}
use Rattle.heads.specs.declared.Head.{Head}
use Rattle.heads.specs.declared.Kind.{Kind}
use Rattle.messagepack.specs.Document.{Document, Documents, Entries, integer, float, string, binary, array, map, none, item, empty, entry, count, size, WritesAll, WritesEntries}
use Rattle.messagepack.specs.Rules.{NoKey}
use Rattle.values.specs.Places.{At, AtAll, AtEntries, TextAt}
use Rattle.values.specs.Standing.{Standing, LowRun}
use Rattle.values.specs.Laws.Standing.{low_first, low-rest}
use Rattle.values.specs.Laws.Places.{at-inside, at-standing, open_array, open-map, OpenText, open-string, open-binary, open-float, OpenInteger, unsigned, signed, open-integer, open-item, open-entry}
use Rattle.values.specs.declared.Part.{Part}
use Rattle.fields.specs.Types.{FieldType, Rows, plain, array_of, exactly, map_with, document_kind}
use Rattle.fields.specs.Tests.{on_array, on_map, all, have, typed, fitting}
use Rattle.fields.specs.Fields.{set_of, present, find_row, row_count}
use Rattle.fields.specs.Numbers.{code_of, rows_from, row_test, covered, marked, distinct_names}
use Rattle.fields.specs.Steps.{ends_if, head_kind, plain_end, ValueSays, ItemsSay, RunSays, EntriesSay}
use Rattle.fields.specs.Laws.Sets.{or_later, present-none, covered-have}
use Rattle.fields.specs.Laws.Rows.{fitting-none, fitting-entry, present-marked}
use Rattle.fields.specs.Laws.Numbers.{row_typed, row-free}

-- a document's head, and its kind by it

pub record Headed (s : List ℕ) (at : ℕ) : Type 0 where
  pub n : ℕ
  pub p : ℕ
  pub is : head_at s at ≡ some_head n p

abbrev told-head : {s : List ℕ} {at : ℕ} {k : Kind} {n p : ℕ} → Told s at k n p → Headed s at
told-head {n = n} {p = p} t = record { n = n; p = p; is = t.head }

head-integer : {s : List ℕ} {at : ℕ} {v : _} {e : ℕ} → OpenInteger s at v e → Headed s at
head-integer (unsigned n t q) = told-head t
head-integer (signed k n t q l m i) = told-head t

pub head-there : {s : List ℕ} {at : ℕ} (x : Document) {e : ℕ} → At s at x e → Headed s at
head-there (integer v) a = head-integer (open-integer a)
head-there (float bits) a = told-head (open-float a)
head-there (string t) a = told-head (open-string a).told
head-there (binary t) a = told-head (open-binary a).told
head-there (array ds) a = told-head (open_array a).told
head-there (map es) a = told-head (open-map a).told

kind-integer : {s : List ℕ} {at : ℕ} {v : _} {e : ℕ} → OpenInteger s at v e → head_kind (kind_at s at) ≡ 1
kind-integer (unsigned n t q) = ap head_kind t.kind
kind-integer (signed k n t q l m i) = ap head_kind t.kind

pub kind-there : {s : List ℕ} {at : ℕ} (x : Document) {e : ℕ} → At s at x e → head_kind (kind_at s at) ≡ document_kind x
kind-there (integer v) a = kind-integer (open-integer a)
kind-there (float bits) a = ap head_kind (open-float a).kind
kind-there (string t) a = ap head_kind (open-string a).told.kind
kind-there (binary t) a = ap head_kind (open-binary a).told.kind
kind-there (array ds) a = ap head_kind (open_array a).told.kind
kind-there (map es) a = ap head_kind (open-map a).told.kind

-- a value that holds no others ends with its head, or with its body

with-head : (b : Bool) {p e : ℕ} → p ≡ e → cond b p 0 ≡ ends_if b e
with-head true q = q
with-head false q = refl

module _ (s : List ℕ) (at n p : ℕ) (h : head_at s at ≡ some_head n p) where
  integer-end : {v : _} {e : ℕ} → OpenInteger s at v e → p ≡ e
  integer-end (unsigned m t q) = let k = (same-parts (sym h ∙ t.head)).1 in cc
  integer-end (signed k m t q l z i) = let g = (same-parts (sym h ∙ t.head)).1 in cc

  with-body : {k : Kind} {t : List ℕ} {e : ℕ} (b : Bool) → OpenText s at k t e → cond b (cond (leb (p + n) (length s)) (p + n) 0) 0 ≡ ends_if b e
  with-body {t = t} {e = e} true o =
      let g = same-parts (sym h ∙ o.told.head) in
      let i : n ≡ length t = g.0 in
      let j : p ≡ o.q = g.1 in
      let l : p + n ≤ length s = omega (arith, o.inside) in
      let f : p + n ≡ e = omega (arith, o.ends) in
      rw (le-leb (p + n) (length s) l) f
  with-body false o = refl

  plain_of : (wanted : ℕ) → wanted ≤ 4 → (x : Document) {e : ℕ} → At s at x e → plain_end (length s) (document_kind x) wanted n p ≡ ends_if (eqb (document_kind x) wanted) e
  plain_of w le (integer v) a = with-head (eqb 1 w) (integer-end (open-integer a))
  plain_of w le (float bits) a = with-head (eqb 2 w) (let g = (same-parts (sym h ∙ (open-float a).head)).1 in cc)
  plain_of w le (string t) a = with-body (eqb 3 w) (open-string a)
  plain_of w le (binary t) a = with-body (eqb 4 w) (open-binary a)
  plain_of w le (array ds) a = rw (ne_eqb 5 w (λ e. omega arith))
  plain_of w le (map es) a = rw (ne_eqb 6 w (λ e. omega arith))

-- the head at a place holds n and ends at p, and k is the number of its kind, by the lead-byte rule
pub record HeadRead (s : List ℕ) (at n p k : ℕ) : Type 0 where
  pub head : head_at s at ≡ some_head n p
  pub kind : head_kind (kind_at s at) ≡ k

pub head_read : (s : List ℕ) (at : ℕ) {n p k : ℕ} {h : Option Head} {kind : Kind} → h ≡ head_at s at → h ≡ some_head n p → (kind ≡ kind_at s at) → k ≡ head_kind kind → HeadRead s at n p k
head_read s at r g rk gk = record { head = sym r ∙ g; kind = ap head_kind (sym rk) ∙ sym gk }

-- no document has a head that is cut
pub value-cut : (s : List ℕ) (at : ℕ) (f : Document → Bool) {h : Option Head} → h ≡ head_at s at → h ≡ None → ValueSays s f at 0
value-cut s at f r c = record { says = λ x e a. let d = head-there x a in let i = r in let j = d.is in cc }

-- no document has the type 0

some-kind : (x : Document) → document_kind x ≡ 0 → ⊥
some-kind (integer v) h = omega (arith, h)
some-kind (float v) h = omega (arith, h)
some-kind (string v) h = omega (arith, h)
some-kind (binary v) h = omega (arith, h)
some-kind (array v) h = omega (arith, h)
some-kind (map v) h = omega (arith, h)

pub no_kind : (x : Document) → typed (plain 0) x ≡ false
unfolding typed
no_kind x = ne_eqb (document_kind x) 0 (some-kind x)

pub nothing-says : (s : List ℕ) (at : ℕ) (t : FieldType) → t ≡ plain 0 → ValueSays s (typed t) at 0
unfolding typed
nothing-says s at t q = record { says = λ x e a. rw (q, no_kind x) }

array-not : (f : Documents → Bool) (x : Document) → (document_kind x ≡ 5 → ⊥) → on_array x f ≡ false
array-not f (integer v) d = refl
array-not f (float bits) d = refl
array-not f (string t) d = refl
array-not f (binary t) d = refl
array-not f (array ds) d = absurd (d refl)
array-not f (map es) d = refl

map-not : (f : Entries → Bool) (x : Document) → (document_kind x ≡ 6 → ⊥) → on_map x f ≡ false
map-not f (integer v) d = refl
map-not f (float bits) d = refl
map-not f (string t) d = refl
map-not f (binary t) d = refl
map-not f (array ds) d = refl
map-not f (map es) d = absurd (d refl)

-- the values of an array that is there, and the entries of a map

pub record Items (s : List ℕ) (x : Document) (n p e : ℕ) : Type 0 where
  pub ds : Documents
  pub is : x ≡ array ds
  pub counts : count ds ≡ n
  pub all : AtAll s p ds e

items_of : (s : List ℕ) (at n p e : ℕ) → head_at s at ≡ some_head n p → (x : Document) → document_kind x ≡ 5 → At s at x e → Items s x n p e
items_of s at n p e h (integer v) q a = absurd (omega (arith, q))
items_of s at n p e h (float bits) q a = absurd (omega (arith, q))
items_of s at n p e h (string t) q a = absurd (omega (arith, q))
items_of s at n p e h (binary t) q a = absurd (omega (arith, q))
items_of s at n p e h (map es) q a = absurd (omega (arith, q))
items_of s at n p e h (array ds) q a =
    let o = open_array a in
    let i = same-parts (sym h ∙ o.told.head) in
    let c : count ds ≡ n = sym i.0 in
    let d : o.q ≡ p = sym i.1 in
    record { ds = ds; is = refl; counts = c; all = subst (λ (z : ℕ). AtAll s z ds e) d o.all }

pub record MapEntries (s : List ℕ) (x : Document) (n p e : ℕ) : Type 0 where
  pub es : Entries
  pub is : x ≡ map es
  pub counts : size es ≡ n
  pub all : AtEntries s p es e

entries-of : (s : List ℕ) (at n p e : ℕ) → head_at s at ≡ some_head n p → (x : Document) → document_kind x ≡ 6 → At s at x e → MapEntries s x n p e
entries-of s at n p e h (integer v) q a = absurd (omega (arith, q))
entries-of s at n p e h (float bits) q a = absurd (omega (arith, q))
entries-of s at n p e h (string t) q a = absurd (omega (arith, q))
entries-of s at n p e h (binary t) q a = absurd (omega (arith, q))
entries-of s at n p e h (array ds) q a = absurd (omega (arith, q))
entries-of s at n p e h (map es) q a =
    let o = open-map a in
    let i = same-parts (sym h ∙ o.told.head) in
    let c : size es ≡ n = sym i.0 in
    let d : o.q ≡ p = sym i.1 in
    record { es = es; is = refl; counts = c; all = subst (λ (z : ℕ). AtEntries s z es e) d o.all }

-- a value by its head, and by what is said of the values inside

module _ {s : List ℕ} {at n p k : ℕ} (r : HeadRead s at n p k) where
  kinds : (x : Document) {e : ℕ} → At s at x e → k ≡ document_kind x
  kinds x a = sym r.kind ∙ kind-there x a

  pub plain-says : (wanted : ℕ) {v : ℕ} → wanted ≤ 4 → v ≡ plain_end (length s) k wanted n p → ValueSays s (typed (plain wanted)) at v
  unfolding typed
  plain-says w small q = record { says = λ x e a. q ∙ ap (λ (i : ℕ). plain_end (length s) i w n p) (kinds x a) ∙ plain_of s at n p r.head w small x a }

  array-wrong : (f : Documents → Bool) → (k ≡ 5 → ⊥) → (x : Document) (e : ℕ) → At s at x e → 0 ≡ ends_if (on_array x f) e
  array-wrong f d x e a = rw (array-not f x (λ q. d (kinds x a ∙ q)))

  pub array_of-wrong : (t : FieldType) → (k ≡ 5 → ⊥) → ValueSays s (typed (array_of t)) at 0
  unfolding typed
  array_of-wrong t d = record { says = array-wrong (all (typed t)) d }

  pub exactly-wrong : (m : ℕ) (t : FieldType) → (k ≡ 5 → ⊥) → ValueSays s (typed (exactly m t)) at 0
  unfolding typed
  exactly-wrong m t d = record { says = array-wrong (λ ds. eqb (count ds) m && all (typed t) ds) d }

  items : k ≡ 5 → (x : Document) (e : ℕ) → At s at x e → Items s x n p e
  items q x e a = items_of s at n p e r.head x (sym (kinds x a) ∙ q) a

  pub array_of-says : (t : FieldType) {v : ℕ} → k ≡ 5 → ItemsSay s (typed t) n p v → ValueSays s (typed (array_of t)) at v
  unfolding typed
  array_of-says t q i = record { says = λ x e a. let o = items q x e a in i.says o.ds e o.all o.counts ∙ ap (λ (z : Document). ends_if (on_array z (all (typed t))) e) (sym o.is) }

  pub exactly-says : (m : ℕ) (t : FieldType) {v : ℕ} → k ≡ 5 → n ≡ m → ItemsSay s (typed t) n p v → ValueSays s (typed (exactly m t)) at v
  unfolding typed
  exactly-says m t q same i = record { says = λ x e a. let o = items q x e a in i.says o.ds e o.all o.counts ∙ ap (λ (b : Bool). ends_if (b && all (typed t) o.ds) e) (sym (eq-eqb (count o.ds) m (o.counts ∙ same))) ∙ ap (λ (z : Document). ends_if (on_array z (λ ds. eqb (count ds) m && all (typed t) ds)) e) (sym o.is) }

  pub exactly-other : (m : ℕ) (t : FieldType) → k ≡ 5 → (n ≡ m → ⊥) → ValueSays s (typed (exactly m t)) at 0
  unfolding typed
  exactly-other m t q other = record { says = λ x e a. let o = items q x e a in ap (λ (b : Bool). ends_if (b && all (typed t) o.ds) e) (sym (ne_eqb (count o.ds) m (λ i. other (sym o.counts ∙ i)))) ∙ ap (λ (z : Document). ends_if (on_array z (λ ds. eqb (count ds) m && all (typed t) ds)) e) (sym o.is) }

  pub map_with-wrong : (rows : Rows) → (k ≡ 6 → ⊥) → ValueSays s (typed (map_with rows)) at 0
  unfolding typed
  map_with-wrong rows d = record { says = λ x e a. rw (map-not (λ es. have rows es && fitting rows es) x (λ q. d (kinds x a ∙ q))) }

  pub map_with-says : (rows : Rows) {v : ℕ} → k ≡ 6 → EntriesSay s rows 0 n p v → ValueSays s (typed (map_with rows)) at v
  unfolding typed
  map_with-says rows q i = record {
    says = λ x e a.
        let o = entries-of s at n p e r.head x (sym (kinds x a) ∙ q) a in
        i.says o.es e o.all o.counts ∙ ap (λ (b : Bool). ends_if b e) (ap (λ (b : Bool). fitting rows o.es && b) (covered-have rows o.es) ∙ and_comm (fitting rows o.es) (have rows o.es)) ∙ ap (λ (z : Document). ends_if (on_map z (λ es. have rows es && fitting rows es)) e) (sym o.is);
  }

-- the commonest values, found by their lead byte

module _ (s : List ℕ) (at : ℕ) (inside : at < length s) where
  -- what a value of a kind says whose head is known
  known-says : (k : Kind) (n p wanted : ℕ) {v : ℕ} → (kind_at s at ≡ k) × (head_at s at ≡ some_head n p) → wanted ≤ 4 → v ≡ plain_end (length s) (head_kind k) wanted n p → ValueSays s (typed (plain wanted)) at v
  known-says k n p wanted h small q = plain-says (record { head = h.1; kind = ap head_kind h.0 }) wanted small q

  -- an integer in its lead byte
  pub low-says : get_or s at 0 < 0x80 → ValueSays s (typed (plain 1)) at (at + 1)
  low-says h = known-says Kind.Unsigned _ _ 1 (alone-head s at inside (low-lead (get_or s at 0) h)) (lit≤ tt) refl

  -- a float
  pub float_says : get_or s at 0 ≡ 0xca → at + 5 ≤ length s → ValueSays s (typed (plain 2)) at (at + 5)
  float_says h le = known-says Kind.Float _ _ 2 (float-kind s at inside h, float-head s at h le) (lit≤ tt) refl

  -- the head of a short array
  array-read : (n : ℕ) → 0x90 ≤ get_or s at 0 → get_or s at 0 < 0xa0 → n ≡ get_or s at 0 - 0x90 → HeadRead s at n (at + 1) 5
  array-read n low high is =
      let h = alone-head s at inside (array-lead (get_or s at 0) low high) in
      record { head = h.1 ∙ ap (λ (m : ℕ). some_head m (at + 1)) (sym is); kind = ap head_kind h.0 }

  -- a short string
  pub short-says : (n : ℕ) → 0xa0 ≤ get_or s at 0 → get_or s at 0 < 0xc0 → n ≡ get_or s at 0 - 0xa0 → at + 1 + n ≤ length s → ValueSays s (typed (plain 3)) at (at + 1 + n)
  short-says n low high e le =
      let r = alone-head s at inside (string-lead (get_or s at 0) low high) in
      known-says Kind.Str n (at + 1) 3 (r.0, r.1 ∙ ap (λ (m : ℕ). some_head m (at + 1)) (sym e)) (lit≤ tt) (rw (le-leb (at + 1 + n) (length s) le))

-- the values of an array, one after another

-- a step was right: where it ended, and that it passed
pub passed : (b : Bool) {q e : ℕ} → (q ≡ 0 → ⊥) → q ≡ ends_if b e → (b ≡ true) × (q ≡ e)
passed true n h = (refl, h)
passed false n h = absurd (n h)

-- it was wrong, since no value ends at 0
pub failed : (b : Bool) {s : List ℕ} {p e q : ℕ} {x : Document} → At s p x e → q ≡ 0 → q ≡ ends_if b e → b ≡ false
failed true a z h = absurd (omega (arith, (at-inside a).0))
failed false a z h = refl

module _ (s : List ℕ) (f : Document → Bool) where
  pub items-none : (n p : ℕ) → n ≤ 0 → ItemsSay s f n p (p)
  unfolding count all WritesAll
  items-none n p le = record { says = λ ds e a c. go ds e a (omega arith) }
    where
      go : (ds : Documents) (e : ℕ) → AtAll s p ds e → count ds ≡ 0 → p ≡ ends_if (all f ds) e
      go none e a c = sym (add-zero p) ∙ ap (λ (l : List ℕ). p + length l) (sym a.writes) ∙ sym a.span.ends
      go (item d ds) e a c = absurd (omega (arith, c))

  pub items-next : (n p : ℕ) {q r : ℕ} → 0 < n → ValueSays s f p q → (q ≡ 0 → ⊥) → ItemsSay s f (n - 1) q r → ItemsSay s f n p r
  unfolding count all
  items-next n p {q} {r} pos here is rest = record { says = λ ds e a c. go ds e a (omega (arith, c)) c }
    where
      go : (ds : Documents) (e : ℕ) → AtAll s p ds e → 0 < count ds → count ds ≡ n → r ≡ ends_if (all f ds) e
      go none e a h c = absurd (omega (arith, h))
      go (item d ds) e a h c =
          let o = open-item a in
          let k = passed (f d) is (here.says d o.q o.first) in
          rest.says ds e (subst (λ (z : ℕ). AtAll s z ds e) (sym k.1) o.rest) (omega (arith, c)) ∙ rw k.0

  pub items-wrong : (n p : ℕ) {v : ℕ} → 0 < n → ValueSays s f p v → v ≡ 0 → ItemsSay s f n p 0
  unfolding count all
  items-wrong n p pos here is = record { says = λ ds e a c. go ds e a (omega (arith, c)) }
    where
      go : (ds : Documents) (e : ℕ) → AtAll s p ds e → 0 < count ds → 0 ≡ ends_if (all f ds) e
      go none e a h = absurd (omega (arith, h))
      go (item d ds) e a h =
          let o = open-item a in
          rw (failed (f d) o.first is (here.says d o.q o.first))

-- the entries of a map, one after another

-- the first entry: its key, where its value stands, and the entries after it
pub record FirstEntry (s : List ℕ) (es : Entries) (e n : ℕ) (key : Part) : Type 0 where
  pub k : List ℕ
  pub x : Document
  pub others : Entries
  pub is : es ≡ entry k x others
  pub name : take key.count (drop key.at s) ≡ k
  pub end : ℕ
  pub value : At s (key.at + key.count) x end
  pub rest : AtEntries s end others e
  pub fresh : NoKey k others
  pub counts : size others ≡ n - 1
  pub positive : 0 < key.at + key.count

-- what `text_at` says of the key at a place
pub record KeyRead (s : List ℕ) (p : ℕ) (key : Part) : Type 0 where
  pub says : (x : Document) (e : ℕ) → At s p x e → TextAt s x e key

pub first_entry : {s : List ℕ} {p : ℕ} {key : Part} → KeyRead s p key → (es : Entries) (e n : ℕ) → AtEntries s p es e → size es ≡ n → 0 < n → FirstEntry s es e n key
unfolding size
first_entry t empty e n a c pos = absurd (omega (arith, c))
first_entry {s = s} {p = p} {key = key} t (entry k x es) e n a c pos =
    let o = open-entry a in
    let u = t.says (string k) o.q o.key in
    let i = at-inside o.key in
    record {
      k = k;
      x = x;
      others = es;
      is = refl;
      name = u.is;
      end = o.r;
      value = subst (λ (z : ℕ). At s z x o.r) u.ends o.value;
      rest = o.rest;
      fresh = o.fresh;
      counts = omega (arith, c);
      positive = omega (arith, i.0, u.ends);
    }

pub or-marked : (n a b i : ℕ) → bit_or a (marked n b i) ≡ bit_or (marked n a i) b
or-marked n a b i = go (ltb i n)
  where
    go : (t : Bool) → bit_or a (cond t (bit_or b (2 ^ i)) b) ≡ bit_or (cond t (bit_or a (2 ^ i)) a) b
    go true = or_later a b (2 ^ i)
    go false = refl

module _ (s : List ℕ) (rows : Rows) where
  -- at the end the required rows must have been seen
  entries-end : (n p seen : ℕ) → n ≤ 0 → (b : Bool) → b ≡ covered rows seen → EntriesSay s rows seen n p (ends_if b p)
  unfolding size WritesEntries
  entries-end n p seen le b h = record { says = λ es e a c. go es e a (omega arith) }
    where
      go : (es : Entries) (e : ℕ) → AtEntries s p es e → size es ≡ 0 → ends_if b p ≡ ends_if (fitting rows es && covered rows (bit_or seen (set_of (present rows es)))) e
      go empty e a c =
          let q : p ≡ e = sym (add-zero p) ∙ ap (λ (l : List ℕ). p + length l) (sym a.writes) ∙ sym a.span.ends in
          rw (fitting-none rows, present-none rows, or_zero_r seen, ← h, q)
      go (entry k x es) e a c = absurd (omega (arith, c))

  pub entries-done : (n p seen : ℕ) {b : Bool} → n ≤ 0 → b ≡ covered rows seen → b ≡ true → EntriesSay s rows seen n p (p)
  entries-done n p seen le h t = entries-end n p seen le true (sym t ∙ h)

  pub entries-lack : (n p seen : ℕ) {b : Bool} → n ≤ 0 → b ≡ covered rows seen → b ≡ false → EntriesSay s rows seen n p 0
  entries-lack n p seen le h t = entries-end n p seen le false (sym t ∙ h)

  module _ (distinct : distinct_names rows ≡ true) (n p seen i : ℕ) {key : Part} {v : ℕ} (pos : 0 < n) (read : KeyRead s p key) (found : i ≡ find_row (take key.count (drop key.at s)) rows) (here : ValueSays s (row_test i rows) (key.at + key.count) v) where
    pub entries_next : (after : ℕ) {r : ℕ} → (v ≡ 0 → ⊥) → after ≡ marked (row_count rows) seen i → EntriesSay s rows after (n - 1) v r → EntriesSay s rows seen n p r
    entries_next after {r = r} is set rest = record { says = λ es e a c. go es e a c }
      where
        grown : (k : List ℕ) (x : Document) (es : Entries) (e : ℕ) → NoKey k es → row_test (find_row k rows) rows x ≡ true → bit_or seen (set_of (present rows (entry k x es))) ≡ bit_or after (set_of (present rows es)) → ends_if (fitting rows es && covered rows (bit_or after (set_of (present rows es)))) e ≡ ends_if (fitting rows (entry k x es) && covered rows (bit_or seen (set_of (present rows (entry k x es))))) e
        grown k x es e f t u = rw (fitting-entry k x es rows distinct f, t, u)

        go : (es : Entries) (e : ℕ) → AtEntries s p es e → size es ≡ n → r ≡ ends_if (fitting rows es && covered rows (bit_or seen (set_of (present rows es)))) e
        go es e a c =
            let o = first_entry read es e n a c pos in
            let j : i ≡ find_row o.k rows = found ∙ ap (λ (z : List ℕ). find_row z rows) o.name in
            let w = passed (row_test i rows o.x) is (here.says o.x o.end o.value) in
            let t : row_test (find_row o.k rows) rows o.x ≡ true = ap (λ (z : ℕ). row_test z rows o.x) (sym j) ∙ w.0 in
            let u : bit_or seen (set_of (present rows (entry o.k o.x o.others))) ≡ bit_or after (set_of (present rows o.others)) = ap (λ (z : ℕ). bit_or seen z) (present-marked o.k o.x o.others rows distinct) ∙ or-marked (row_count rows) seen (set_of (present rows o.others)) (find_row o.k rows) ∙ ap (λ (z : ℕ). bit_or z (set_of (present rows o.others))) (ap (λ (z : ℕ). marked (row_count rows) seen z) (sym j) ∙ sym set) in
            rest.says o.others e (subst (λ (z : ℕ). AtEntries s z o.others e) (sym w.1) o.rest) o.counts ∙ grown o.k o.x o.others e o.fresh t u ∙ ap (λ (z : Entries). ends_if (fitting rows z && covered rows (bit_or seen (set_of (present rows z)))) e) (sym o.is)

    pub entries-wrong : v ≡ 0 → EntriesSay s rows seen n p 0
    entries-wrong is = record { says = λ es e a c. go es e a c }
      where
        go : (es : Entries) (e : ℕ) → AtEntries s p es e → size es ≡ n → 0 ≡ ends_if (fitting rows es && covered rows (bit_or seen (set_of (present rows es)))) e
        go es e a c =
            let o = first_entry read es e n a c pos in
            let j : i ≡ find_row o.k rows = found ∙ ap (λ (z : List ℕ). find_row z rows) o.name in
            let t : row_test (find_row o.k rows) rows o.x ≡ false = ap (λ (z : ℕ). row_test z rows o.x) (sym j) ∙ failed (row_test i rows o.x) o.value is (here.says o.x o.end o.value) in
            ap (λ (b : Bool). ends_if (b && covered rows (bit_or seen (set_of (present rows (entry o.k o.x o.others))))) e) (sym (fitting-entry o.k o.x o.others rows distinct o.fresh ∙ ap (λ (b : Bool). b && fitting rows o.others) t)) ∙ ap (λ (z : Entries). ends_if (fitting rows z && covered rows (bit_or seen (set_of (present rows z)))) e) (sym o.is)

-- what is said by a type is said by any that is equal
pub value_as : {s : List ℕ} {at : ℕ} {v : ℕ} (t u : FieldType) → t ≡ u → ValueSays s (typed u) at v → ValueSays s (typed t) at v
value_as {s} {at} {v} t u q h = subst (λ (z : FieldType). ValueSays s (typed z) at v) (sym q) h

pub items_as : {s : List ℕ} {n at : ℕ} {v : ℕ} (t u : FieldType) → t ≡ u → ItemsSay s (typed u) n at v → ItemsSay s (typed t) n at v
items_as {s} {n} {at} {v} t u q h = subst (λ (z : FieldType). ItemsSay s (typed z) n at v) (sym q) h

-- one value more is passed, and at first none is
-- what is left of a run after one more
pub left-next : (n i : ℕ) → n - (i + 1) ≡ n - i - 1
left-next n i = omega arith

pub run-next : {s : List ℕ} {f : Document → Bool} {n at left p q : ℕ} → RunSays s f n at left p → 0 < left → (ValueSays s f p q) → (q ≡ 0 → ⊥) → RunSays s f n at (left - 1) q
run-next {s} {f} {left = left} {p = p} run pos here is = record { says = λ r h. run.says r (items-next s f left p pos here is h) }

pub run-first : (s : List ℕ) (f : Document → Bool) (n at : ℕ) → RunSays s f n at n at
run-first s f n at = record { says = λ r h. h }

-- integers in their lead bytes, all at once
pub low-items : (s : List ℕ) (n p : ℕ) → LowRun s p n → ItemsSay s (typed (plain 1)) n p ((p + n))
low-items s zero p l = subst (λ (q : ℕ). ItemsSay s (typed (plain 1)) 0 p (q)) (sym (add-zero p)) (items-none s (typed (plain 1)) 0 p (omega arith))
low-items s (suc n) p l =
    let b = low_first l in
    let e : n ≡ suc n - 1 = omega arith in
    let f : p + 1 + n ≡ p + suc n = omega arith in
    let rest = low-items s n (p + 1) (low-rest l) in
    items-next s (typed (plain 1)) (suc n) p (omega arith) (low-says s p b.0 b.1) (λ z. omega arith)
    (subst (λ (k : ℕ). ItemsSay s (typed (plain 1)) k (p + 1) ((p + suc n))) e (subst (λ (q : ℕ). ItemsSay s (typed (plain 1)) n (p + 1) (q)) f rest))

-- an array whose count is in its lead byte, of integers in their lead bytes
pub integers-say : (s : List ℕ) (at n : ℕ) → at < length s → 0x90 ≤ get_or s at 0 → get_or s at 0 < 0xa0 → n ≡ get_or s at 0 - 0x90 → LowRun s (at + 1) n → ValueSays s (typed (array_of (plain 1))) at (at + 1 + n)
integers-say s at n lt low high is run = array_of-says (array-read s at lt n low high is) (plain 1) refl (low-items s n (at + 1) run)

-- a value under a row, or under none, which is stepped over

module _ (s : List ℕ) (f : ℕ → FieldType) (n r i : ℕ) {at : ℕ} where
  pub row-says : {c : ℕ} {v : ℕ} → i < n → c ≡ code_of (r + i) → ValueSays s (typed (f c)) at v → ValueSays s (row_test i (rows_from f n r)) at v
  row-says {c = c} lt q h = record { says = λ x e a. h.says x e a ∙ ap (λ (b : Bool). ends_if b e) (ap (λ (z : ℕ). typed (f z) x) q ∙ sym (row_typed f n r i x lt)) }

  pub row-over : {q : ℕ} → n ≤ i → ((e : ℕ) → Standing s 1 at e → q ≡ e) → ValueSays s (row_test i (rows_from f n r)) at (q)
  row-over le h = record { says = λ x e a. h e (at-standing a) ∙ ap (λ (b : Bool). ends_if b e) (sym (row-free f n r i x le)) }
