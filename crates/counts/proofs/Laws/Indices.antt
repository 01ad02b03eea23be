-- Values of an array that are judged one by one, each at its place: what is left of them decides.
-- Assumes nothing.
use Rattle.std.specs.Prelude.{◌≡◌, refl, Some, Bool, true, false, cond, ◌&&◌, List, length, get_or, take, drop}
use Rattle.std.proofs.Math.Path.{sym, ap, subst}
use Rattle.std.proofs.Common.{◌∙◌, arith, le-leb}
use Rattle.std.proofs.Math.Option.{Option}
use Prim.Native.Nat.{ℕ, suc, ◌+◌, ◌-◌, ◌≤◌, ◌<◌}
use Rattle.text.specs.Ascii.{ascii}
use Rattle.text.specs.Equal.{equal}
use Rattle.heads.specs.declared.Kind.{Kind}
use Rattle.heads.specs.Head.{some_head, kind_at, head_at}
use Rattle.heads.proofs.Laws.Head.{alone-head}
use Rattle.heads.proofs.Laws.Table.{array-lead}
use Rattle.messagepack.specs.Document.{Document, Documents, Entries, none, item, count}
use Rattle.values.specs.Places.{At, AtAll, AtEntries, TextAt, PlaceSays}
use Rattle.values.specs.Seeking.{Seeking}
use Rattle.values.specs.declared.Part.{Part}
use Rattle.values.specs.Heads.{is_map}
use Rattle.values.specs.Standing.{Standing, step_to, past_over, LowRun, over}
use Rattle.values.specs.Laws.Standing.{standing-none, stepped-on, steps-short, steps-items}
use Rattle.values.specs.Laws.Seeking.{Left, turn, seeking-start, seeking-turn, seeking-end, part-equal}
use Rattle.fields.specs.Tests.{all}
use Rattle.values.specs.Laws.Integers.{Next, next_of}
use Rattle.values.specs.Laws.Places.{at-standing, place_none, no-entries}
use Rattle.values.specs.Parts.{entries_of, look, items_in}
use Rattle.counts.specs.IndexPlaces.{ListIn}
use Rattle.counts.specs.declared.indices.List as l

-- a place 0 has no values
pub none-judged : {s : List ℕ} {p : ℕ} {o : Option Document} (test : Document → Bool) → PlaceSays s p o → p ≡ 0 → true ≡ all test (items_in o)
unfolding all
none-judged test q e = sym (ap (λ (z : Option Document). all test (items_in z)) (place_none q e))

-- what is left of values ds that are judged one by one
pub record Judging (s : List ℕ) (ds : Documents) (test : Document → Bool) (p left e : ℕ) : Type 0 where
  pub rest : Documents
  pub all-at : AtAll s p rest e
  pub counts : count rest ≡ left
  pub same : all test ds ≡ all test rest

pub judging-start : {s : List ℕ} {ds : Documents} {test : Document → Bool} {p n e : ℕ} → AtAll s p ds e → count ds ≡ n → Judging s ds test p n e
judging-start {ds = ds} a c = record { rest = ds; all-at = a; counts = c; same = refl }

module _ {s : List ℕ} {ds : Documents} {test : Document → Bool} {p left e : ℕ} (k : Judging s ds test p left e) (l : 0 < left) where
  -- the next value
  pub judging-next : Next s p k.rest e
  judging-next = next_of k.rest k.all-at k.counts l

  -- the first of what is left decides, then the rest
  turned : {b : Bool} → test judging-next.d ≡ b → all test ds ≡ (b && all test judging-next.rest)
  unfolding all
  turned t = k.same ∙ ap (all test) judging-next.is ∙ ap (λ (b : Bool). b && all test judging-next.rest) t

  pub judging-more : {q : ℕ} → test judging-next.d ≡ true → q ≡ judging-next.q → Judging s ds test q (left - 1) e
  unfolding count
  judging-more t end =
      let n = judging-next in
      let c : suc (count n.rest) ≡ left = sym (ap count n.is) ∙ k.counts in
      record { rest = n.rest; all-at = subst (λ (j : ℕ). AtAll s j n.rest e) (sym end) n.all; counts = omega arith; same = turned t }

  pub judging-out : test judging-next.d ≡ false → false ≡ all test ds
  judging-out t = sym (turned t)

pub judging-end : {s : List ℕ} {ds : Documents} {test : Document → Bool} {p left e : ℕ} → Judging s ds test p left e → left ≤ 0 → true ≡ all test ds
unfolding all count
judging-end {ds = ds} {test = test} {left = left} k l = go k.rest k.counts k.same
  where
    go : (r : Documents) → count r ≡ left → all test ds ≡ all test r → true ≡ all test ds
    go none c q = sym q
    go (item d r) c q = absurd (omega arith)

-- what is no map has no list of chains
pub list-none : {s : List ℕ} {p e : ℕ} (x : Document) → At s p x e → {k : Kind} → kind_at s p ≡ k → is_map k ≡ false → {r : l.List} → r.at ≡ 0 → r.end ≡ e → ListIn s (entries_of x) e r
list-none {s} x a q f z e =
    let n = no-entries x a q f in
    record { says = subst (λ (j : ℕ). PlaceSays s j (look (ascii "chainIndexList") (entries_of x))) (sym z) (seeking-end (entries_of x) seeking-start (omega (arith, n.counts))); ends = e }

-- a turn of a search for a name that goes on to the end of the entries
pub seek-on : {s name : List ℕ} {p left e found : ℕ} {es : Entries} (l : Left s p left e) → Seeking s name es l.rest found → 0 < left → (key : Part) → ((x : Document) (f : ℕ) → At s p x f → TextAt s x f key) → {b : Bool} {q g : ℕ} → b ≡ equal (take (key.at + key.count - key.at) (drop key.at s)) name → g ≡ cond b (key.at + key.count) found → ((f : ℕ) → Standing s 1 (key.at + key.count) f → q ≡ f) → (m : Left s q (left - 1) e) × Seeking s name es m.rest g
seek-on {s} {name} {e = e} {es = es} l k pos key f is picks past =
    let u = turn l pos key f in
    let end = past u.q (at-standing u.value) in
    let same = part-equal s name key.at key.count (sym is) in
    let r = seeking-turn k u in
    (record { rest = u.after; all = subst (λ (j : ℕ). AtEntries s j u.after e) (sym end) u.all; counts = u.counts }, subst (λ (j : ℕ). Seeking s name es u.after j) (sym picks) (rw same at r))

-- a short string ends behind its bytes
pub short-end : (s : List ℕ) (p : ℕ) → p < length s → {n e : ℕ} → 0xa0 ≤ get_or s p 0 → get_or s p 0 < 0xc0 → n ≡ get_or s p 0 - 0xa0 → p + 1 + n ≤ length s → Standing s 1 p e → p + 1 + n ≡ e
short-end s p lt {n} {e} low high is le st =
    let o : Some (step_to (p + 1 + n) 0) ≡ past_over (length s) n (p + 1) = rw (le-leb _ _ le) in
    standing-none s 0 _ e (omega arith) ((stepped-on s p (steps-short s p lt low high is o) refl).goes 0 e st)

-- an array whose count is in its lead byte, of integers in their lead bytes, ends after them
pub integers-end : (s : List ℕ) (p : ℕ) → p < length s → {n e : ℕ} → 0x90 ≤ get_or s p 0 → get_or s p 0 < 0xa0 → n ≡ get_or s p 0 - 0x90 → LowRun s (p + 1) n → Standing s 1 p e → p + 1 + n ≡ e
integers-end s p lt {n} {e} low high is run st =
    let h = alone-head s p lt (array-lead (get_or s p 0) low high) in
    let g : head_at s p ≡ some_head n (p + 1) = h.1 ∙ ap (λ (m : ℕ). some_head m (p + 1)) (sym is) in
    standing-none s 0 _ e (omega arith) ((stepped-on s p (steps-items s p g h.0 (over run)) refl).goes 0 e st)
