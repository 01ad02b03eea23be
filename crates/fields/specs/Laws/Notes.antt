-- What is noted of a file's entries, one entry after another, and the number that follows from it.
-- Assumes nothing.
use Rattle.std.specs.Prelude.{◌≡◌, Bool, true, false, cond, ◌&&◌, List, [], ℕ, zero, suc, ◌+◌, ◌-◌, ◌<◌, ◌≤◌, eqb, length, get_or, take, drop, set, replicate}
use Rattle.std.proofs.Math.Path.{refl, ap}
use Rattle.std.proofs.Common.{sym, subst, ◌∙◌, arith, get_or-set_same, get_or-set_other, eqb-true}
use Rattle.std.proofs.Math.Bool.{and-true, and_assoc}
use Rattle.std.proofs.Math.Option.{Option, some, none as nothing}
use Rattle.std.specs.Int.Bits.{bit_or, or_zero_r}
use Rattle.std.proofs.lemmas.Bool.{eqb-false}
use Rattle.refusal.specs.Table.{accepted, field_missing, field_type, version_not1}
use Rattle.text.specs.Ascii.{ascii}
use Rattle.text.specs.Equal.{equal}
use Rattle.text.specs.Laws.Equal.{equal-true}
use Rattle.messagepack.specs.Document.{Document, Entries, float, string, empty, entry, size}
use Rattle.messagepack.specs.Rules.{NoKey}
use Rattle.values.specs.Parts.{look}
use Rattle.values.specs.Places.{At, AtEntries, TextAt, PlaceSays, gone, there}
use Rattle.values.specs.Standing.{Standing}
use Rattle.values.specs.Laws.Parts.{look_none}
use Rattle.values.specs.Laws.Places.{at-standing, open-entry}
use Rattle.values.specs.declared.Part.{Part}
use Rattle.fields.specs.Laws.Fields.{named_count, place-name, has-name}
use Rattle.fields.specs.Types.{FieldType, Rows, last, row}
use Rattle.fields.specs.Table.{named, field_count}
use Rattle.fields.specs.Tests.{have, typed, fitting}
use Rattle.fields.specs.Fields.{row_count, row_value, names_of, field_names, field_at, field_type_of, present, set_of, presence_of, text_in, version_of, is_version_one, fields_number, find_row, field_number, is_required}
use Rattle.fields.specs.Noted.{Noted, Among, first, later, SpanFrom, absent, stands, Spanned}
use Rattle.fields.specs.Numbers.{rows_from, type_of, type_depth, first_field, row_test, covered, marked}
use Rattle.fields.specs.Steps.{ValueSays, RowSays, NotedFrom, NoteSays, no_places}
use Rattle.fields.specs.declared.Fields.{Fields}
use Rattle.fields.specs.Laws.Types.{have-exactly}
use Rattle.fields.specs.Laws.Sets.{present-none, covered-have}
use Rattle.fields.specs.Laws.Rows.{fitting-none, fitting-entry, present-marked, value_of-entry}
use Rattle.fields.specs.Laws.Numbers.{named-is, named-distinct, row_type, no-type}
use Rattle.fields.specs.Laws.Steps.{no_kind, passed, failed, or-marked, KeyRead, first_entry}

-- a field's value by its row

row_named : (i : ℕ) (x : Document) → row_test i (rows_from (type_of type_depth) field_count first_field) x ≡ row_test i named x
row_named i x = ap (λ (z : Rows). row_test i z x) named-is

module _ (i : ℕ) {s : List ℕ} {at : ℕ} {v : ℕ} (h : ValueSays s (row_test i (rows_from (type_of type_depth) field_count first_field)) at v) where
  pub judge-right : (v ≡ 0 → ⊥) → RowSays s i at v true
  judge-right is = record {
    says = λ x f a.
        let k = passed (row_test i (rows_from (type_of type_depth) field_count first_field) x) is (h.says x f a) in
        (k.1, sym k.0 ∙ row_named i x);
  }

  pub judge-wrong : (e : ℕ) → v ≡ 0 → ((f : ℕ) → Standing s 1 at f → e ≡ f) → RowSays s i at e false
  judge-wrong e is over = record {
    says = λ x f a.
        (over f (at-standing a), sym (failed (row_test i (rows_from (type_of type_depth) field_count first_field) x) a is (h.says x f a)) ∙ row_named i x);
  }

-- whether a field's value has its type, by that type

pub is-typed : {s : List ℕ} {i at e : ℕ} {b : Bool} → RowSays s i at e b → i < field_count → (x : Document) (f : ℕ) → At s at x f → b ≡ typed (field_type_of i) x
unfolding field_type_of
is-typed {i = i} h lt x f a = (h.says x f a).1 ∙ row_type named i x (omega (arith, named_count))

pub is-untyped : (i : ℕ) → field_count ≤ i → (x : Document) → false ≡ typed (field_type_of i) x
unfolding field_type_of
is-untyped i le x = sym (ap (λ (t : FieldType). typed t x) (no-type named i (omega (arith, named_count))) ∙ no_kind x)

-- places and ends

-- a value among the entries is the one under its key
record Found (s : List ℕ) (o : Option Document) (q e : ℕ) : Type 0 where
  x : Document
  is : o ≡ some x
  at : At s q x e

among-found : {s k : List ℕ} {p q e : ℕ} {es : Entries} → Among s k p es q e → Found s (look k es) q e
unfolding look
among-found (first {x = x} h key value) = record { x = x; is = rw h; at = value }
among-found (later h key value rest) = let f = among-found rest in record { x = f.x; is = rw h f.is; at = f.at }

-- without such a value the place and the end are those from before
span_same : {s k : List ℕ} {p q e a b : ℕ} {es : Entries} → SpanFrom s k p es q e a b → look k es ≡ nothing → (a ≡ q) × (b ≡ e)
span_same (absent h) n = (refl, refl)
span_same (stands pos a) n = let f = among-found a in let i = f.is in let z : ◌≡◌ {A = ℕ} 0 1 = cc in absurd (omega arith)

as_place : {s k : List ℕ} {p q e a b : ℕ} {es : Entries} → SpanFrom s k p es q e a b → q ≡ 0 → PlaceSays s a (look k es)
as_place {s} (absent h) z = rw (h, z) gone
as_place {s} {a = a} (stands pos m) z = let f = among-found m in subst (PlaceSays s a) (sym f.is) (there pos f.at)

zeros-at : (n i : ℕ) → get_or {A = ℕ} (replicate n 0) i 0 ≡ 0
zeros-at zero i = refl
zeros-at (suc n) zero = refl
zeros-at (suc n) (suc i) = zeros-at n i

-- the value of a field stands under its name
row-name : (i : ℕ) (rows : Rows) (es : Entries) → i < row_count rows → row_value i rows es ≡ look (get_or (names_of rows) i []) es
unfolding row_value row_count names_of
row-name i last es lt = absurd (omega arith)
row-name zero (row k q t rows) es lt = refl
row-name (suc i) (row k q t rows) es lt = row-name i rows es (omega arith)

field-name : (i : ℕ) (es : Entries) → i < field_count → field_at i es ≡ look (get_or field_names i []) es
unfolding field_at field_names
field-name i es lt = row-name i named es (omega (arith, named_count))

-- the value of a field after one more entry
field-entry : (k : List ℕ) (x : Document) (es : Entries) (j : ℕ) → j < field_count → look (get_or field_names j []) (entry k x es) ≡ cond (eqb j (find_row k named)) (some x) (look (get_or field_names j []) es)
unfolding field_at
field-entry k x es j lt =
    sym (field-name j (entry k x es) lt) ∙ value_of-entry k x es j named named-distinct (omega (arith, named_count)) ∙ ap (cond (eqb j (find_row k named)) (some x)) (field-name j es lt)

-- a key is a field's name exactly when the field's number is that of its row
name-is : (k : List ℕ) (j : ℕ) → j < field_count → equal k (get_or field_names j []) ≡ eqb j (find_row k named)
unfolding look
name-is k j lt = go (equal k (get_or field_names j [])) (eqb j (find_row k named)) (field-entry k (float 0) empty j lt)
  where
    go : (a b : Bool) → cond a (some (float 0)) nothing ≡ cond b (some (float 0)) nothing → a ≡ b
    go true true e = refl
    go true false e = let z : ◌≡◌ {A = ℕ} 0 1 = cc in absurd (omega arith)
    go false true e = let z : ◌≡◌ {A = ℕ} 0 1 = cc in absurd (omega arith)
    go false false e = refl

-- the span of a field, when the first entry's value stands from q up to e
span-entry : {s : List ℕ} (k : List ℕ) (x : Document) (es : Entries) (places ends : List ℕ) (p i q e : ℕ) → i ≡ find_row k named → NoKey k es → length places ≡ field_count → length ends ≡ field_count → 0 < q → At s p (string k) q → At s q x e → (j a b : ℕ) → j < field_count → SpanFrom s (get_or field_names j []) e es (get_or (set places i q) j 0) (get_or (set ends i e) j 0) a b → SpanFrom s (get_or field_names j []) p (entry k x es) (get_or places j 0) (get_or ends j 0) a b
unfolding look
span-entry {s} k x es places ends p i q e is f long long2 pos key value j a b lt rest = go (eqb j (find_row k named)) refl
  where
    go : (t : Bool) → eqb j (find_row k named) ≡ t → SpanFrom s (get_or field_names j []) p (entry k x es) (get_or places j 0) (get_or ends j 0) a b
    go true h =
        let t : equal k (get_or field_names j []) ≡ true = name-is k j lt ∙ h in
        let g : j ≡ i = eqb-true j (find_row k named) h ∙ sym is in
        let n : look (get_or field_names j []) es ≡ nothing = look_none (get_or field_names j []) es (subst (λ (z : List ℕ). NoKey z es) (equal-true k (get_or field_names j []) t) f) in
        let m = span_same rest n in
        let c : a ≡ q = m.0 ∙ ap (λ (z : ℕ). get_or (set places i q) z 0) g ∙ get_or-set_same places i q 0 (omega arith) in
        let d : b ≡ e = m.1 ∙ ap (λ (z : ℕ). get_or (set ends i e) z 0) g ∙ get_or-set_same ends i e 0 (omega arith) in
        rw (c, d) (stands pos (first t key value))
    go false h =
        let t : equal k (get_or field_names j []) ≡ false = name-is k j lt ∙ h in
        let o : j ≡ i → ⊥ = (λ g. eqb-false j (find_row k named) h (g ∙ is)) in
        later-span t (subst (λ (z : ℕ). SpanFrom s (get_or field_names j []) e es (get_or places j 0) z a b) (get_or-set_other ends i j e 0 o) (subst (λ (z : ℕ). SpanFrom s (get_or field_names j []) e es z (get_or (set ends i e) j 0) a b) (get_or-set_other places i j q 0 o) rest))
      where
        later-span : {y z : ℕ} → equal k (get_or field_names j []) ≡ false → SpanFrom s (get_or field_names j []) e es y z a b → SpanFrom s (get_or field_names j []) p (entry k x es) y z a b
        later-span t (absent n) = absent (rw t n)
        later-span t (stands pos2 m) = stands pos2 (later t key value m)

-- what is noted, one entry after another

pub note-none : (s places ends : List ℕ) (presence : ℕ) (typed : Bool) (n p : ℕ) → n ≤ 0 → length places ≡ field_count → NoteSays s places ends presence typed n p (record { places = places; ends = ends; presence = presence; typed = typed })
unfolding size look
note-none s places ends presence typed n p le long = record { says = λ es e a c. go es (omega (arith, c)) }
  where
    go : (es : Entries) → size es ≡ 0 → NotedFrom s p places ends presence typed es (record { places = places; ends = ends; presence = presence; typed = typed })
    go empty c = record {
      long = long;
      span = λ j lt. absent refl;
      present = rw (present-none named) (sym (or_zero_r presence));
      fit = rw (fitting-none named) (sym (and-true typed));
    }
    go (entry k x es) c = absurd (omega (arith, c))

-- the first key, by where it was read to end
first_key : {s : List ℕ} {p e : ℕ} {key : Part} {es others : Entries} {k : List ℕ} {x : Document} → KeyRead s p key → AtEntries s p es e → es ≡ entry k x others → At s p (string k) (key.at + key.count)
first_key {s = s} {p = p} {e = e} {k = k} read a is =
    let o = open-entry (subst (λ (z : Entries). AtEntries s p z e) is a) in
    subst (At s p (string k)) (read.says (string k) o.q o.key).ends o.key

pub note-next : (s places ends : List ℕ) (presence : ℕ) (typed : Bool) (n p i q : ℕ) (b : Bool) {key : Part} {after past : List ℕ} {next : ℕ} {right : Bool} {r : Fields} → 0 < n → length places ≡ field_count → length ends ≡ field_count → KeyRead s p key → ((f : ℕ → FieldType) → i ≡ find_row (take key.count (drop key.at s)) (rows_from f field_count first_field)) → RowSays s i (key.at + key.count) q b → after ≡ set places i (key.at + key.count) → past ≡ set ends i q → next ≡ marked field_count presence i → right ≡ (typed && b) → NoteSays s after past next right (n - 1) q r → NoteSays s places ends presence typed n p r
note-next s places ends presence typed n p i q b {key} {after} {past} {next} {right} {r} pos long long2 read number here put put2 marks fit rest = record { says = λ es e a c. go es e a c }
  where
    noted : (k : List ℕ) (x : Document) (es : Entries) (e : ℕ) → q ≡ e → i ≡ find_row k named → NoKey k es → 0 < key.at + key.count → At s p (string k) (key.at + key.count) → At s (key.at + key.count) x e → b ≡ row_test i named x → NotedFrom s e after past next right es r → NotedFrom s p places ends presence typed (entry k x es) r
    noted k x es e end j f large w v t m = record {
      long = m.long;
      span = λ z lt. span-entry k x es places ends p i (key.at + key.count) e j f long long2 large w v z (get_or r.places z 0) (get_or r.ends z 0) lt (subst (λ (y : List ℕ). SpanFrom s (get_or field_names z []) e es (get_or (set places i (key.at + key.count)) z 0) (get_or y z 0) (get_or r.places z 0) (get_or r.ends z 0)) (put2 ∙ ap (λ (y : ℕ). set ends i y) end) (subst (λ (y : List ℕ). SpanFrom s (get_or field_names z []) e es (get_or y z 0) (get_or past z 0) (get_or r.places z 0) (get_or r.ends z 0)) put (m.span z lt)));
      present =
          let u : bit_or presence (set_of (present named (entry k x es))) ≡ bit_or (marked field_count presence i) (set_of (present named es)) = ap (λ (z : ℕ). bit_or presence z) (present-marked k x es named named-distinct ∙ ap (λ (z : ℕ). marked z (set_of (present named es)) (find_row k named)) named_count ∙ ap (λ (z : ℕ). marked field_count (set_of (present named es)) z) (sym j)) ∙ or-marked field_count presence (set_of (present named es)) i in
          m.present ∙ ap (λ (z : ℕ). bit_or z (set_of (present named es))) marks ∙ sym u;
      fit =
          let u : fitting named (entry k x es) ≡ (b && fitting named es) = fitting-entry k x es named named-distinct f ∙ ap (λ (z : ℕ). row_test z named x && fitting named es) (sym j) ∙ ap (λ (z : Bool). z && fitting named es) (sym t) in
          m.fit ∙ ap (λ (z : Bool). z && fitting named es) fit ∙ and_assoc typed b (fitting named es) ∙ ap (λ (z : Bool). typed && z) (sym u);
    }

    go : (es : Entries) (e : ℕ) → AtEntries s p es e → size es ≡ n → NotedFrom s p places ends presence typed es r
    go es e a c =
        let o = first_entry read es e n a c pos in
        let j : i ≡ find_row o.k named = number (type_of type_depth) ∙ ap (find_row (take key.count (drop key.at s))) named-is ∙ ap (λ (z : List ℕ). find_row z named) o.name in
        let w = here.says o.x o.end o.value in
        let m = rest.says o.others e (subst (λ (z : ℕ). AtEntries s z o.others e) (sym w.0) o.rest) o.counts in
        subst (λ (z : Entries). NotedFrom s p places ends presence typed z r) (sym o.is) (noted o.k o.x o.others o.end w.0 j o.fresh o.positive (first_key read a o.is) o.value w.1 (subst (λ (z : ℕ). NotedFrom s z after past next right o.others r) w.0 m))

module _ {s : List ℕ} {n p : ℕ} {r : Fields} (h : NoteSays s no_places no_places 0 true n p r) (es : Entries) (e : ℕ) (a : AtEntries s p es e) (c : size es ≡ n) where
  -- in the end each field's span is noted
  pub note-spans : Spanned s p es r
  note-spans = record { spans = λ i lt. subst (λ (z : ℕ). SpanFrom s (get_or field_names i []) p es z z (get_or r.places i 0) (get_or r.ends i 0)) (zeros-at field_count i) ((h.says es e a c).span i lt) }

  -- and with it where its value stands
  pub note-done : Noted s es r
  unfolding presence_of
  note-done =
      let m = h.says es e a c in
      record { places = record { long = m.long; says = λ i lt. rw (field-name i es lt) (as_place (note-spans.spans i lt) refl) }; presence = m.present; typed = m.fit }

-- the number by what is noted

text-there : {s : List ℕ} {p : ℕ} {o : Option Document} {x : Document} {part : Part} → PlaceSays s p o → ((x : Document) (e : ℕ) → At s p x e → TextAt s x e part) → o ≡ some x → take part.count (drop part.at s) ≡ text_in o
text-there (there {e = e} {x = x} pos a) t i = (t x e a).is
text-there gone t i = let z : ◌≡◌ {A = ℕ} 0 1 = cc in absurd (omega arith)

module _ {s : List ℕ} {es : Entries} {r : Fields} (m : Noted s es r) where
  pub seen-have : {b : Bool} → b ≡ covered (rows_from (type_of type_depth) field_count first_field) r.presence → b ≡ have named es
  unfolding presence_of
  seen-have q = q ∙ ap (λ (z : ℕ). covered (rows_from (type_of type_depth) field_count first_field) z) m.presence ∙ ap (λ (z : Rows). covered z (set_of (present named es))) named-is ∙ covered-have named es

  -- the text of mmtfVersion, which is there
  pub version-read : {i : ℕ} {part : Part} → field_number "mmtfVersion" ≡ i → have named es ≡ true → ((x : Document) (e : ℕ) → At s (get_or r.places i 0) x e → TextAt s x e part) → take part.count (drop part.at s) ≡ version_of es
  unfolding is_required find_row equal named
  version-read v h t = text-there (place-name m.places "mmtfVersion" refl v) t (has-name (ascii "mmtfVersion") named es ((have-exactly named es).0 h) refl).is

pub fields-missing : (es : Entries) → have named es ≡ false → fields_number es ≡ field_missing
unfolding fields_number
fields-missing es h = rw h

pub fields-mistyped : (es : Entries) → have named es ≡ true → fitting named es ≡ false → fields_number es ≡ field_type
unfolding fields_number
fields-mistyped es h f = rw (h, f)

pub fields-version : (es : Entries) → have named es ≡ true → fitting named es ≡ true → is_version_one (version_of es) ≡ false → fields_number es ≡ version_not1
unfolding fields_number
fields-version es h f v = rw (h, f, v)

pub fields-right : (es : Entries) → have named es ≡ true → fitting named es ≡ true → is_version_one (version_of es) ≡ true → fields_number es ≡ accepted
unfolding fields_number
fields-right es h f v = rw (h, f, v)
