-- What the walk accepts is a writing of a document that keeps the rules: by induction on the levels left and on the counts.
-- Assumes nothing.
use Rattle.std.specs.Prelude.{◌≡◌, ℕ, zero, suc, ◌+◌, ◌-◌, ◌*◌, ◌^◌, ◌≤◌, Bool, true, false, cond, List, [], ◌∷◌, ◌++◌, length, take, drop, pos, negsuc, nat_le, nat_lt, slice_index, Result, Ok, Err, Option, None, Some}
use Rattle.std.proofs.Math.Path.{refl, ap, subst}
use Rattle.std.proofs.Common.{sym, ◌∙◌, arith, pow-suc, lit≤}
use Rattle.std.proofs.Math.Logic.{inl, inr}
use Rattle.std.proofs.Math.Nat.{pow-le-pow_right}
use borrow.Author.Tests.{leb-true, ltb-true, ltb-false}
use Rattle.refusal.specs.Table.{unsigned_too_large, nested_too_deep, too_many_entries, key_repeated}
use Rattle.numbers.specs.BigEndian.{Bytes}
use Rattle.numbers.specs.Ranges.{integer_limit}
use Rattle.utf8.specs.Laws.Utf8.{is_utf8-utf8}
use Rattle.heads.specs.Lead.{kind_of, more_of}
use Rattle.heads.specs.Head.{HeadOf, kind_at, head_at, some_head}
use Rattle.heads.specs.declared.Kind.{Kind}
use Rattle.heads.specs.declared.Head.{Head}
use Rattle.heads.specs.Span.{Span}
use Rattle.heads.proofs.Laws.Span.{part_length_lem, span_none, span-join, span-part}
use Rattle.heads.proofs.Laws.Table.{more_of-bound}
use Rattle.heads.proofs.Laws.Head.{Found, kind-in, head-found}
use Rattle.messagepack.specs.Limits.{entry_limit}
use Rattle.messagepack.specs.Document.{Document, Documents, Entries, integer, float, string, binary, array, map, none, item, empty, entry, count, size, signed_value, TextOf, Writes, WritesAll, WritesEntries}
use Rattle.messagepack.specs.Rules.{depth, depth_all, depth_entries, InRange, Distinct, Keeps, KeepsAll, KeepsEntries}
use Rattle.messagepack.specs.Walk.{on_head, on_walk, on_text, body_at, text_at, key_at, among, many_at, entries_from, entries_at, by_kind, value_at, ok_text}
use Rattle.messagepack.proofs.Laws.Walk.{body_end, TextIs, text-is, key-is}
use Rattle.messagepack.proofs.Laws.Keys.{Fresh, fresh-rest}
use Rattle.messagepack.specs.declared.Text.{Text}

-- a document that keeps the rules, of at most d levels, stands in s from a place up to another
pub record ValueIn (s : List ℕ) (d at e : ℕ) : Type 0 where
  pub doc : Document
  pub w : List ℕ
  pub writes : Writes doc w
  pub deep : depth doc ≤ d
  pub keeps : Keeps doc
  pub span : Span s at e w

-- a map that keeps the rules stands from a place up to another
pub record MapIn (s : List ℕ) (d at e : ℕ) : Type 0 where
  pub entries : Entries
  pub w : List ℕ
  pub writes : Writes (map entries) w
  pub deep : depth (map entries) ≤ d
  pub keeps : Keeps (map entries)
  pub span : Span s at e w

map-value : {s : List ℕ} {d at e : ℕ} → MapIn s d at e → ValueIn s d at e
map-value m = record { doc = map m.entries; w = m.w; writes = m.writes; deep = m.deep; keeps = m.keeps; span = m.span }

record ManyIn (s : List ℕ) (d n at e : ℕ) : Type 0 where
  docs : Documents
  w : List ℕ
  writes : WritesAll docs w
  counts : count docs ≡ n
  deep : depth_all docs ≤ d
  keeps : KeepsAll docs
  span : Span s at e w

record EntriesIn (s : List ℕ) (d n : ℕ) (ks : List (List ℕ)) (at e : ℕ) : Type 0 where
  entries : Entries
  w : List ℕ
  writes : WritesEntries entries w
  counts : size entries ≡ n
  deep : depth_entries entries ≤ d
  keeps : KeepsEntries entries
  distinct : Distinct entries
  fresh : Fresh ks entries
  span : Span s at e w

-- a signed head's integer is in range
signed_range : (k n : ℕ) → k ≤ 4 → InRange (signed_value k n)
signed_range zero n le = omega arith
signed_range (suc k) n le = go (nat_lt n (2 ^ (8 * suc k - 1))) refl
  where
    top : 2 ^ (8 * suc k - 1) ≤ 2147483648
    top = pow-le-pow_right {n = 2} (lit≤ tt) {i = 8 * suc k - 1} {j = 31} (omega arith)

    twice : 2 ^ (8 * suc k) ≡ 2 ^ (8 * suc k - 1) * 2
    twice = let e : 8 * suc k ≡ suc (8 * suc k - 1) = omega arith in ap (λ (m : ℕ). 2 ^ m) e ∙ pow-suc 2 (8 * suc k - 1)

    go : (b : Bool) → nat_lt n (2 ^ (8 * suc k - 1)) ≡ b → InRange (cond b (pos n) (negsuc (2 ^ (8 * suc k) - 1 - n)))
    go true b = omega (arith, top, ltb-true n (2 ^ (8 * suc k - 1)) b)
    go false b = omega (arith, top, twice, ltb-false n (2 ^ (8 * suc k - 1)) b)

module _ (s : List ℕ) (bytes : Bytes s) where
  -- the head that was read, with its kind
  record HeadIn (k : Kind) (at n p : ℕ) : Type 0 where
    h : List ℕ
    head : HeadOf k n h
    span : Span s at p h

  head_in : {k : Kind} (at : ℕ) {n p : ℕ} → kind_at s at ≡ k → head_at s at ≡ some_head n p → HeadIn k at n p
  head_in {k} at {n} {p} e g =
      let f : Found s at n p = head-found s at bytes g in
      let m : kind_of (slice_index s at) ≡ k = sym (kind-in s at f.inside) ∙ e in
      record { h = f.h; head = subst (λ (j : Kind). HeadOf j n f.h) m f.head; span = f.span }

  -- a string or a binary that was read
  record TextIn (k : Kind) (at n p : ℕ) : Type 0 where
    w : List ℕ
    writes : TextOf k (take n (drop p s)) w
    span : Span s at (p + n) w

  text_in_lem : {k : Kind} (at : ℕ) {n p : ℕ} → kind_at s at ≡ k → head_at s at ≡ some_head n p → p + n ≤ length s → TextIn k at n p
  text_in_lem at {n} {p} e g le =
      let f = head_in at e g in
      record { w = f.h ++ take n (drop p s); writes = record { h = f.h; head = rw (part_length_lem s p n le) f.head; is = refl }; span = span-join f.span (span-part s p n le) }

  unsigned-in : (d at e : ℕ) → kind_at s at ≡ Kind.Unsigned → (g : Option Head) → head_at s at ≡ g → on_head g (λ n p. cond (nat_le n integer_limit) (Ok p) (Err unsigned_too_large)) ≡ Ok e → ValueIn s d at e
  unfolding Writes depth Keeps
  unsigned-in d at e k None g h = let z : ◌≡◌ {A = ℕ} 0 1 = cc in absurd (omega arith)
  unsigned-in d at e k (Some x) g h = go (nat_le x.number integer_limit) refl h
    where
      go : (b : Bool) → nat_le x.number integer_limit ≡ b → cond b (Ok x.end) (Err unsigned_too_large) ≡ Ok e → ValueIn s d at e
      go false b q = let z : ◌≡◌ {A = ℕ} 0 1 = cc in absurd (omega arith)
      go true b q =
          let f = head_in at k g in
          let j : e ≡ x.end = cc in
          record { doc = integer (pos x.number); w = f.h; writes = inl (record { n = x.number; head = f.head; is = refl }); deep = omega arith; keeps = leb-true x.number integer_limit b; span = rw j f.span }

  signed-in : (d at e : ℕ) → kind_at s at ≡ Kind.Signed → (g : Option Head) → head_at s at ≡ g → on_head g (λ n p. Ok p) ≡ Ok e → ValueIn s d at e
  unfolding Writes depth Keeps
  signed-in d at e k None g h = let z : ◌≡◌ {A = ℕ} 0 1 = cc in absurd (omega arith)
  signed-in d at e k (Some x) g h =
      let f = head_in at k g in
      let j : e ≡ x.end = cc in
      record { doc = integer (signed_value (more_of f.head.lead) x.number); w = f.h; writes = inr (record { n = x.number; head = f.head; is = refl }); deep = omega arith; keeps = signed_range (more_of f.head.lead) x.number (more_of-bound f.head.lead); span = rw j f.span }

  float_in : (d at e : ℕ) → kind_at s at ≡ Kind.Float → (g : Option Head) → head_at s at ≡ g → on_head g (λ n p. Ok p) ≡ Ok e → ValueIn s d at e
  unfolding Writes depth Keeps
  float_in d at e k None g h = let z : ◌≡◌ {A = ℕ} 0 1 = cc in absurd (omega arith)
  float_in d at e k (Some x) g h =
      let f = head_in at k g in
      let j : e ≡ x.end = cc in
      record { doc = float x.number; w = f.h; writes = f.head; deep = omega arith; keeps = tt; span = rw j f.span }

  binary-in : (d at e : ℕ) → kind_at s at ≡ Kind.Bin → (g : Option Head) → head_at s at ≡ g → on_head g (λ n p. body_at s n p) ≡ Ok e → ValueIn s d at e
  unfolding Writes depth Keeps
  binary-in d at e k None g h = let z : ◌≡◌ {A = ℕ} 0 1 = cc in absurd (omega arith)
  binary-in d at e k (Some x) g h =
      let b : (x.end + x.number ≤ length s) × (e ≡ x.end + x.number) = body_end s x.number x.end h in
      let t = text_in_lem at k g b.0 in
      record { doc = binary (take x.number (drop x.end s)); w = t.w; writes = t.writes; deep = omega arith; keeps = tt; span = subst (λ (x : ℕ). Span s at x t.w) (sym b.1) t.span }

  string-in : (d at e : ℕ) → kind_at s at ≡ Kind.Str → (g : Result Text ℕ) → text_at s at ≡ g → on_text g (λ p n. Ok (p + n)) ≡ Ok e → ValueIn s d at e
  unfolding Writes depth Keeps
  string-in d at e k (Err r) g h = let z : ◌≡◌ {A = ℕ} 0 1 = cc in absurd (omega arith)
  string-in d at e k (Ok x) g h =
      let i : TextIs s at x.at x.count = text-is s at g in
      let t = text_in_lem at k i.head i.inside in
      let j : e ≡ x.at + x.count = cc in
      record { doc = string (take x.count (drop x.at s)); w = t.w; writes = t.writes; deep = omega arith; keeps = is_utf8-utf8 (take x.count (drop x.at s)) i.utf8; span = subst (λ (x : ℕ). Span s at x t.w) (sym j) t.span }

  module _ (d : ℕ) (value_in : (at e : ℕ) → value_at s d at ≡ Ok e → ValueIn s d at e) where
    many-in : (n at e : ℕ) → many_at (value_at s d) n at ≡ Ok e → ManyIn s d n at e
    unfolding many_at WritesAll depth_all KeepsAll count
    many-in zero at e h = let j : e ≡ at = cc in record { docs = none; w = []; writes = refl; counts = refl; deep = omega arith; keeps = tt; span = rw j (span_none s at) }
    many-in (suc n) at e h = go (value_at s d at) refl h (many-in n)
      where
        go : (v : Result ℕ ℕ) → value_at s d at ≡ v → on_walk v (λ q. many_at (value_at s d) n q) ≡ Ok e → ((p f : ℕ) → many_at (value_at s d) n p ≡ Ok f → ManyIn s d n p f) → ManyIn s d (suc n) at e
        go (Err r) q k rest = let z : ◌≡◌ {A = ℕ} 0 1 = cc in absurd (omega arith)
        go (Ok p) q k rest =
            let x : ValueIn s d at p = value_in at p q in
            let y : ManyIn s d n p e = rest p e k in
            record {
              docs = item x.doc y.docs;
              w = x.w ++ y.w;
              writes = record { u = x.w; v = y.w; first = x.writes; rest = y.writes; is = refl };
              counts = ap suc y.counts;
              deep = omega arith;
              keeps = (x.keeps, y.keeps);
              span = span-join x.span y.span;
            }

    entries-in : (n : ℕ) (ks : List (List ℕ)) (at e : ℕ) → entries_from s (value_at s d) n ks at ≡ Ok e → EntriesIn s d n ks at e
    unfolding entries_from WritesEntries depth_entries KeepsEntries Distinct Fresh size
    entries-in zero ks at e h = let j : e ≡ at = cc in record { entries = empty; w = []; writes = refl; counts = refl; deep = omega arith; keeps = tt; distinct = tt; fresh = tt; span = rw j (span_none s at) }
    entries-in (suc n) ks at e h = key (key_at s at) refl h (entries-in n)
      where
        Rest : Type 0
        Rest = (ls : List (List ℕ)) (p f : ℕ) → entries_from s (value_at s d) n ls p ≡ Ok f → EntriesIn s d n ls p f

        value : (a m : ℕ) → key_at s at ≡ ok_text a m → among (take m (drop a s)) ks ≡ false → (v : Result ℕ ℕ) → value_at s d (a + m) ≡ v → on_walk v (λ q. entries_from s (value_at s d) n (take m (drop a s) ∷ ks) q) ≡ Ok e → Rest → EntriesIn s d (suc n) ks at e
        value a m q b (Err r) u k rest = let z : ◌≡◌ {A = ℕ} 0 1 = cc in absurd (omega arith)
        value a m q b (Ok p) u k rest =
            let c = key-is s at q in
            let i : TextIs s at a m = text-is s at c.1 in
            let t = text_in_lem at c.0 i.head i.inside in
            let x : ValueIn s d (a + m) p = value_in (a + m) p u in
            let y : EntriesIn s d n (take m (drop a s) ∷ ks) p e = rest (take m (drop a s) ∷ ks) p e k in
            let f = fresh-rest (take m (drop a s)) ks y.entries y.fresh in
            record {
              entries = entry (take m (drop a s)) x.doc y.entries;
              w = t.w ++ (x.w ++ y.w);
              writes = record { a = t.w; u = x.w; v = y.w; key = t.writes; first = x.writes; rest = y.writes; is = refl };
              counts = ap suc y.counts;
              deep = omega arith;
              keeps = (is_utf8-utf8 (take m (drop a s)) i.utf8, x.keeps, y.keeps);
              distinct = (f.1, y.distinct);
              fresh = (b, f.0);
              span = span-join t.span (span-join x.span y.span);
            }

        seen : (a m : ℕ) → key_at s at ≡ ok_text a m → (b : Bool) → among (take m (drop a s)) ks ≡ b → cond b (Err key_repeated) (on_walk (value_at s d (a + m)) (λ q. entries_from s (value_at s d) n (take m (drop a s) ∷ ks) q)) ≡ Ok e → Rest → EntriesIn s d (suc n) ks at e
        seen a m q true b k rest = let z : ◌≡◌ {A = ℕ} 0 1 = cc in absurd (omega arith)
        seen a m q false b k rest = value a m q b (value_at s d (a + m)) refl k rest

        key : (g : Result Text ℕ) → key_at s at ≡ g → on_text g (λ p m. cond (among (take m (drop p s)) ks) (Err key_repeated) (on_walk (value_at s d (p + m)) (λ q. entries_from s (value_at s d) n (take m (drop p s) ∷ ks) q))) ≡ Ok e → Rest → EntriesIn s d (suc n) ks at e
        key (Err r) q k rest = let z : ◌≡◌ {A = ℕ} 0 1 = cc in absurd (omega arith)
        key (Ok x) q k rest = seen x.at x.count q (among (take x.count (drop x.at s)) ks) refl k rest

    array-in : (at e : ℕ) → kind_at s at ≡ Kind.Array → (g : Option Head) → head_at s at ≡ g → on_head g (many_at (value_at s d)) ≡ Ok e → ValueIn s (suc d) at e
    unfolding Writes depth Keeps
    array-in at e k None g h = let z : ◌≡◌ {A = ℕ} 0 1 = cc in absurd (omega arith)
    array-in at e k (Some x) g h =
        let f = head_in at k g in
        let y : ManyIn s d x.number x.end e = many-in x.number x.end e h in
        record {
          doc = array y.docs;
          w = f.h ++ y.w;
          writes = record { h = f.h; v = y.w; head = rw y.counts f.head; body = y.writes; is = refl };
          deep = omega arith;
          keeps = y.keeps;
          span = span-join f.span y.span;
        }

    pub map-in : (at e : ℕ) → kind_at s at ≡ Kind.Map → (g : Option Head) → head_at s at ≡ g → on_head g (entries_at s (value_at s d)) ≡ Ok e → MapIn s (suc d) at e
    unfolding Writes depth Keeps entries_at
    map-in at e k None g h = let z : ◌≡◌ {A = ℕ} 0 1 = cc in absurd (omega arith)
    map-in at e k (Some x) g h = go (nat_le x.number entry_limit) refl h
      where
        go : (b : Bool) → nat_le x.number entry_limit ≡ b → cond b (entries_from s (value_at s d) x.number [] x.end) (Err too_many_entries) ≡ Ok e → MapIn s (suc d) at e
        go false b m = let z : ◌≡◌ {A = ℕ} 0 1 = cc in absurd (omega arith)
        go true b m =
            let f = head_in at k g in
            let y : EntriesIn s d x.number [] x.end e = entries-in x.number [] x.end e m in
            record {
              entries = y.entries;
              w = f.h ++ y.w;
              writes = record { h = f.h; v = y.w; head = rw y.counts f.head; body = y.writes; is = refl };
              deep = omega arith;
              keeps = (rw y.counts (leb-true x.number entry_limit b), y.distinct, y.keeps);
              span = span-join f.span y.span;
            }

  -- a value that is no array and no map
  leaf-in : (d at e : ℕ) (fa fm : Option Head → Result ℕ ℕ) (k : Kind) → kind_at s at ≡ k → by_kind s at fa fm k ≡ Ok e → (kind_at s at ≡ Kind.Array → fa (head_at s at) ≡ Ok e → ValueIn s d at e) → (kind_at s at ≡ Kind.Map → fm (head_at s at) ≡ Ok e → ValueIn s d at e) → ValueIn s d at e
  leaf-in d at e fa fm Kind.Missing k h a m = let z : ◌≡◌ {A = ℕ} 0 1 = cc in absurd (omega arith)
  leaf-in d at e fa fm Kind.Outside k h a m = let z : ◌≡◌ {A = ℕ} 0 1 = cc in absurd (omega arith)
  leaf-in d at e fa fm Kind.Unsigned k h a m = unsigned-in d at e k (head_at s at) refl h
  leaf-in d at e fa fm Kind.Signed k h a m = signed-in d at e k (head_at s at) refl h
  leaf-in d at e fa fm Kind.Float k h a m = float_in d at e k (head_at s at) refl h
  leaf-in d at e fa fm Kind.Bin k h a m = binary-in d at e k (head_at s at) refl h
  leaf-in d at e fa fm Kind.Str k h a m = string-in d at e k (text_at s at) refl h
  leaf-in d at e fa fm Kind.Array k h a m = a k h
  leaf-in d at e fa fm Kind.Map k h a m = m k h

  pub value_in : (d at e : ℕ) → value_at s d at ≡ Ok e → ValueIn s d at e
  unfolding value_at
  value_in zero at e h =
      leaf-in zero at e (λ g. Err nested_too_deep) (λ g. Err nested_too_deep) (kind_at s at) refl h
      (λ k q. let z : ◌≡◌ {A = ℕ} 0 1 = cc in absurd (omega arith))
      (λ k q. let z : ◌≡◌ {A = ℕ} 0 1 = cc in absurd (omega arith))
  value_in (suc d) at e h =
      leaf-in (suc d) at e (λ g. on_head g (many_at (value_at s d))) (λ g. on_head g (entries_at s (value_at s d))) (kind_at s at) refl h
      (λ k q. array-in d (value_in d) at e k (head_at s at) refl q)
      (λ k q. map-value (map-in d (value_in d) at e k (head_at s at) refl q))
