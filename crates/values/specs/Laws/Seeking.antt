-- A search for a key, entry by entry: keys are different, so that a name is found once.
-- Assumes nothing.
use Rattle.std.specs.Prelude.{◌≡◌, Bool, cond, ℕ, ◌+◌, ◌-◌, ◌≤◌, ◌<◌, take, drop}
use Rattle.std.proofs.Math.Path.{refl, subst}
use Rattle.std.proofs.Common.{sym, ◌∙◌, arith}
use Rattle.std.proofs.Math.Bool.{true, false}
use mathlib.Core.List.{List}
use Rattle.std.proofs.Math.Option.{some}
use Rattle.text.specs.Equal.{equal}
use Rattle.text.specs.Laws.Equal.{equal-true}
use Rattle.messagepack.specs.Document.{Document, Entries, string, empty, entry, size}
use Rattle.messagepack.specs.Rules.{NoKey}
use Rattle.values.specs.Places.{At, AtEntries, TextAt, PlaceSays, gone, there}
use Rattle.values.specs.Laws.Places.{open-entry, at-inside}
use Rattle.values.specs.declared.Part.{Part}
use Rattle.values.specs.Parts.{look}
use Rattle.values.specs.Seeking.{Seeking, seek, found}

-- the entries that are left
pub record Left (s : List ℕ) (p left e : ℕ) : Type 0 where
  pub rest : Entries
  pub all : AtEntries s p rest e
  pub counts : size rest ≡ left

-- the first of them, when its key is read: the part of s that is the key, and what follows
pub record Turn (s : List ℕ) (rest : Entries) (key : Part) (left e : ℕ) : Type 0 where
  pub k : List ℕ
  pub x : Document
  pub after : Entries
  pub is : rest ≡ entry k x after
  pub bytes : take key.count (drop key.at s) ≡ k
  pub q : ℕ
  pub value : At s (key.at + key.count) x q
  pub all : AtEntries s q after e
  pub fresh : NoKey k after
  pub counts : size after ≡ left - 1
  pub positive : 0 < key.at + key.count

pub turn : {s : List ℕ} {p left e : ℕ} (l : Left s p left e) → 0 < left → (key : Part) → ((x : Document) (f : ℕ) → At s p x f → TextAt s x f key) → Turn s l.rest key left e
unfolding size
turn {s} {p} {left} {e} l pos key f = go l.rest l.all l.counts
  where
    go : (es : Entries) → AtEntries s p es e → size es ≡ left → Turn s es key left e
    go empty a c = absurd (omega arith)
    go (entry k x es) a c =
        let o = open-entry a in
        let t = f (string k) o.q o.key in
        let i = at-inside o.key in
        record {
          k = k;
          x = x;
          after = es;
          is = refl;
          bytes = t.is;
          q = o.r;
          value = subst (λ (j : ℕ). At s j x o.r) t.ends o.value;
          all = o.rest;
          fresh = o.fresh;
          counts = omega arith;
          positive = omega (arith, i.0, t.ends);
        }

module _ {s name : List ℕ} {es : Entries} where
  pub seeking-start : Seeking s name es es 0
  seeking-start = seek refl

  -- an entry whose value stands at q: the name is found there if it is the key, else the search goes on
  pub seeking-more : {p q f : ℕ} {k : List ℕ} {x : Document} {rest : Entries} → Seeking s name es (entry k x rest) p → 0 < q → At s q x f → NoKey k rest → Seeking s name es rest (cond (equal k name) q p)
  unfolding look NoKey
  seeking-more {p} {q} {f} {k} {x} {rest} (seek i) pos a n = go (equal k name) refl
    where
      go : (b : Bool) → equal k name ≡ b → Seeking s name es rest (cond b q 0)
      go true e =
          let l : look name es ≡ some x = i ∙ rw e in
          found pos (subst (PlaceSays s q) (sym l) (there pos a)) (subst (λ (t : List ℕ). NoKey t rest) (equal-true k name e) n)
      go false e = seek (i ∙ rw e)
  seeking-more {p} {q} {f} {k} {x} {rest} (found pp i m) pos a n = go (equal k name) refl
    where
      go : (b : Bool) → equal k name ≡ b → Seeking s name es rest (cond b q p)
      go true e = absurd (m.0 (sym (equal-true k name e)))
      go false e = found pp i m.1

  -- at the end the place is that of the value, or 0
  pub seeking-end : {p : ℕ} (rest : Entries) → Seeking s name es rest p → size rest ≤ 0 → PlaceSays s p (look name es)
  unfolding size look
  seeking-end empty (seek i) l = subst (PlaceSays s 0) (sym i) gone
  seeking-end (entry k x r) (seek i) l = absurd (omega arith)
  seeking-end rest (found pp i m) l = i

  pub seeking-found : {p : ℕ} {rest : Entries} → Seeking s name es rest p → 0 < p → PlaceSays s p (look name es)
  seeking-found (seek i) l = absurd (omega arith)
  seeking-found (found pp i m) l = i

  -- what is sought after a turn of the loop
  pub seeking-turn : {p left e : ℕ} {rest : Entries} {key : Part} → Seeking s name es rest p → (t : Turn s rest key left e) → Seeking s name es t.after (cond (equal (take key.count (drop key.at s)) name) (key.at + key.count) p)
  seeking-turn {p} {left} {e} {rest} {key} k t =
      rw t.bytes (seeking-more (subst (λ (r : Entries). Seeking s name es r p) t.is k) t.positive t.value t.fresh)

-- a part from a up to a + m is m bytes
pub part-equal : (s name : List ℕ) (a m : ℕ) {b : Bool} → equal (take (a + m - a) (drop a s)) name ≡ b → equal (take m (drop a s)) name ≡ b
part-equal s name a m h = let l : a + m - a ≡ m = omega arith in rw l at h
