-- A refusal of the walk has a number from 1 to 11.
-- Assumes nothing.
use Rattle.std.specs.Prelude.{ℕ, zero, suc, ◌+◌, ◌<◌, ◌≤◌, Bool, true, false, cond, List, [], ◌∷◌, length, take, drop, nat_le, Result, Ok, Err, Option, None, Some}
use Rattle.std.proofs.Common.{lit<, lit≤}
use Rattle.refusal.specs.Table.{bytes_after}
use Rattle.numbers.specs.Ranges.{integer_limit}
use Rattle.numbers.specs.Laws.Tests.{either}
use Rattle.utf8.specs.Check.{is_utf8}
use Rattle.heads.specs.Head.{kind_at, head_at}
use Rattle.heads.specs.declared.Kind.{Kind}
use Rattle.heads.specs.declared.Head.{Head}
use Rattle.messagepack.specs.Limits.{entry_limit}
use Rattle.messagepack.specs.Walk.{on_head, on_walk, on_text, body_at, text_body, text_head, text_at, key_of_kind, key_at, among, many_at, entries_from, entries_at, by_kind, value_at, ok_text}
use Rattle.messagepack.specs.declared.Text.{Text}

-- an answer whose refusal, if it is one, is 1 to 11
pub data Sure : Result ℕ ℕ → Type 0 where
  ended : {e : ℕ} → Sure (Ok e)
  refused : {n : ℕ} → 0 < n → n ≤ bytes_after → Sure (Err n)

data SureText : Result Text ℕ → Type 0 where
  found : {p n : ℕ} → SureText (ok_text p n)
  refused_text : {e : ℕ} → 0 < e → e ≤ bytes_after → SureText (Err e)

on_walk-sure : (v : Result ℕ ℕ) {f : ℕ → Result ℕ ℕ} → Sure v → ((q : ℕ) → Sure (f q)) → Sure (on_walk v f)
on_walk-sure (Ok e) o k = k e
on_walk-sure (Err n) o k = o

on_head-sure : (g : Option Head) {f : ℕ → ℕ → Result ℕ ℕ} → ((n p : ℕ) → Sure (f n p)) → Sure (on_head g f)
on_head-sure (Some x) k = k x.number x.end
on_head-sure None k = refused (lit< tt) (lit≤ tt)

on_text-sure : (g : Result Text ℕ) {f : ℕ → ℕ → Result ℕ ℕ} → SureText g → ((p n : ℕ) → Sure (f p n)) → Sure (on_text g f)
on_text-sure (Ok x) o k = k x.at x.count
on_text-sure (Err e) (refused_text h l) k = refused h l

module _ (s : List ℕ) where
  body-sure : (n p : ℕ) → Sure (body_at s n p)
  unfolding body_at
  body-sure n p = either Sure (nat_le (p + n) (length s)) ended (refused (lit< tt) (lit≤ tt))

  text-sure : (at : ℕ) → SureText (text_at s at)
  unfolding text_at
  text-sure at = head (head_at s at)
    where
      utf : (n p : ℕ) (b : Bool) → SureText (cond b (ok_text p n) (Err 5))
      utf n p true = found
      utf n p false = refused_text (lit< tt) (lit≤ tt)

      body : (n p : ℕ) (v : Result ℕ ℕ) → Sure v → SureText (text_body s n p v)
      body n p (Ok e) o = utf n p (is_utf8 (take n (drop p s)))
      body n p (Err e) (refused h l) = refused_text h l

      head : (g : Option Head) → SureText (text_head s g)
      head (Some x) = body x.number x.end (body_at s x.number x.end) (body-sure x.number x.end)
      head None = refused_text (lit< tt) (lit≤ tt)

  key-sure : (at : ℕ) → SureText (key_at s at)
  unfolding key_at
  key-sure at = go (kind_at s at)
    where
      go : (k : Kind) → SureText (key_of_kind s at k)
      go Kind.Str = text-sure at
      go Kind.Missing = refused_text (lit< tt) (lit≤ tt)
      go Kind.Outside = refused_text (lit< tt) (lit≤ tt)
      go Kind.Unsigned = refused_text (lit< tt) (lit≤ tt)
      go Kind.Signed = refused_text (lit< tt) (lit≤ tt)
      go Kind.Float = refused_text (lit< tt) (lit≤ tt)
      go Kind.Bin = refused_text (lit< tt) (lit≤ tt)
      go Kind.Array = refused_text (lit< tt) (lit≤ tt)
      go Kind.Map = refused_text (lit< tt) (lit≤ tt)

  many-sure : (f : ℕ → Result ℕ ℕ) → ((p : ℕ) → Sure (f p)) → (n at : ℕ) → Sure (many_at f n at)
  unfolding many_at
  many-sure f k zero at = ended
  many-sure f k (suc n) at = on_walk-sure (f at) (k at) (many-sure f k n)

  entries-sure : (f : ℕ → Result ℕ ℕ) → ((p : ℕ) → Sure (f p)) → (n : ℕ) (ks : List (List ℕ)) (at : ℕ) → Sure (entries_from s f n ks at)
  unfolding entries_from
  entries-sure f k zero ks at = ended
  entries-sure f k (suc n) ks at =
      on_text-sure (key_at s at) (key-sure at)
      (λ a m. either Sure (among (take m (drop a s)) ks) (refused (lit< tt) (lit≤ tt)) (on_walk-sure (f (a + m)) (k (a + m)) (entries-sure f k n (take m (drop a s) ∷ ks))))

  kind-sure : (at : ℕ) (fa fm : Option Head → Result ℕ ℕ) → ((g : Option Head) → Sure (fa g)) → ((g : Option Head) → Sure (fm g)) → (k : Kind) → Sure (by_kind s at fa fm k)
  kind-sure at fa fm ka km Kind.Missing = refused (lit< tt) (lit≤ tt)
  kind-sure at fa fm ka km Kind.Outside = refused (lit< tt) (lit≤ tt)
  kind-sure at fa fm ka km Kind.Unsigned = on_head-sure (head_at s at) (λ n p. either Sure (nat_le n integer_limit) ended (refused (lit< tt) (lit≤ tt)))
  kind-sure at fa fm ka km Kind.Signed = on_head-sure (head_at s at) (λ n p. ended)
  kind-sure at fa fm ka km Kind.Float = on_head-sure (head_at s at) (λ n p. ended)
  kind-sure at fa fm ka km Kind.Bin = on_head-sure (head_at s at) body-sure
  kind-sure at fa fm ka km Kind.Str = on_text-sure (text_at s at) (text-sure at) (λ p n. ended)
  kind-sure at fa fm ka km Kind.Array = ka (head_at s at)
  kind-sure at fa fm ka km Kind.Map = km (head_at s at)

  pub value-sure : (d at : ℕ) → Sure (value_at s d at)
  unfolding value_at entries_at
  value-sure zero at = kind-sure at (λ g. Err 6) (λ g. Err 6) (λ g. refused (lit< tt) (lit≤ tt)) (λ g. refused (lit< tt) (lit≤ tt)) (kind_at s at)
  value-sure (suc d) at =
      kind-sure at (λ g. on_head g (many_at (value_at s d))) (λ g. on_head g (entries_at s (value_at s d)))
      (λ g. on_head-sure g (many-sure (value_at s d) (value-sure d)))
      (λ g. on_head-sure g (λ n p. either Sure (nat_le n entry_limit) (entries-sure (value_at s d) (value-sure d) n [] p) (refused (lit< tt) (lit≤ tt))))
      (kind_at s at)
