-- Entering pieces: a piece, and then what was left of it with more bytes, is entered as both at once; a refused piece is refused with more bytes after
-- it; and what entering bytes does is determined. Assumes nothing.
use Rattle.std.specs.Prelude.{◌≡◌, ℕ, zero, suc, ◌+◌, ◌<◌, ◌≤◌, Bool, true, false, List, [], ◌∷◌, ◌++◌, length, take, drop, ◌≢◌, refl}
use Rattle.std.proofs.Common.{sym, ap₂, subst, ◌∙◌, arith, length-drop, take-append-drop, drop-drop, drop_at, take_at}
use Rattle.std.proofs.Math.Path.{ap}
use mathlib.Core.List.{append_assoc}
use Rattle.std.proofs.Math.ListN.{length-append}
use Rattle.std.proofs.lemmas.List.{drop-append-le, take-append-le}
use Rattle.refusal.specs.Table.{accepted}
use Rattle.refusal.specs.Outcome.{number_of}
use Rattle.refusal.proofs.Laws.Table.{refusal_of, refusal_of-refusal_number}
use Rattle.numbers.specs.Laws.Tests.{clash, and_left, and_right, and_both}
use Rattle.receipt.specs.declared.Receipt.{Receipt}
use Rattle.receipt.specs.Receipt.{receipt_limit, written, rules_kept}
use Rattle.receipt.specs.Reading.{read_from, has_front}
use Rattle.receipt.specs.Laws.Rules.{receipt-most}
use Rattle.receipt.specs.Laws.Reading.{read-front, front_of, front-rules, front-text, no_front}
use Rattle.bill.specs.declared.Entered.{Entered}
use Rattle.bill.specs.Run.{texts, all_kept}
use Rattle.bill.specs.declared.Ledger.{Ledger}
use Rattle.bill.specs.Ledger.{posted, posted_all, rises, all_rise, least, Stops, few, malformed, falling, Enters}
use Rattle.bill.specs.Laws.Run.{texts-append, kept_append, kept-first, kept-rest}
use Rattle.bill.specs.Laws.Ledger.{posted-append, rise-append}

-- Enough bytes from each receipt on

-- so many bytes at least from each of the receipts on, with so many after the last of them
abbrev Enough : ℕ → List Receipt → ℕ → Type 0
Enough n rs after = (k : ℕ) → k < length rs → n ≤ length (texts (drop k rs)) + after

-- from each of some receipts on, and from each of others after them
enough-append : (n : ℕ) (rs ts : List Receipt) (after : ℕ) → Enough n rs (length (texts ts) + after) → Enough n ts after → Enough n (rs ++ ts) after
enough-append n [] ts after h g k b = g k b
enough-append n (r ∷ rs) ts after h g zero b = omega (arith, h 0 (omega arith), ap length (texts-append (r ∷ rs) ts), length-append (texts (r ∷ rs)) (texts ts))
enough-append n (r ∷ rs) ts after h g (suc k) b = enough-append n rs ts after (λ i c. h (suc i) (omega arith)) g k (omega arith)

-- no more than the longest receipt is asked for
least-most : (ends : Bool) → least ends ≤ receipt_limit
least-most true = omega arith
least-most false = omega arith

-- A piece and what comes after it

-- what is entered of a piece, and then of what was left of it and more
abbrev pub joined : Entered → Entered → Entered
joined r q = record { outcome = q.outcome; bytes = r.bytes + q.bytes; receipts = r.receipts + q.receipts }

module _ {piece : List ℕ} (more : List ℕ) {ends : Bool} {l m n : Ledger} {r q : Entered} (p : Enters piece false l m r) (e : Enters (drop r.bytes piece ++ more) ends m n q) where
  -- what is left of both
  left : drop (r.bytes + q.bytes) (piece ++ more) ≡ drop q.bytes (drop r.bytes piece ++ more)
  left = sym (drop-drop q.bytes r.bytes (piece ++ more)) ∙ ap (drop q.bytes) (drop-append-le r.bytes piece more p.within)

  -- both are the texts of the receipts and what is left
  both : piece ++ more ≡ texts (p.receipts ++ e.receipts) ++ drop (r.bytes + q.bytes) (piece ++ more)
  both =
      ap (λ (x : List ℕ). x ++ more) p.text
      ∙ append_assoc (texts p.receipts) (drop r.bytes piece) more
      ∙ ap (λ (x : List ℕ). texts p.receipts ++ x) e.text
      ∙ sym (append_assoc (texts p.receipts) (texts e.receipts) (drop q.bytes (drop r.bytes piece ++ more)))
      ∙ ap (λ (x : List ℕ). x ++ drop q.bytes (drop r.bytes piece ++ more)) (sym (texts-append p.receipts e.receipts))
      ∙ ap (λ (x : List ℕ). texts (p.receipts ++ e.receipts) ++ x) (sym left)

  -- enough bytes from each of the receipts on
  enough-both : Enough (least ends) (p.receipts ++ e.receipts) (length (drop (r.bytes + q.bytes) (piece ++ more)))
  enough-both =
      let final : List ℕ = drop q.bytes (drop r.bytes piece ++ more) in
      let size : length (drop r.bytes piece ++ more) ≡ length (texts e.receipts) + length final = ap length e.text ∙ length-append (texts e.receipts) final in
      subst (λ (x : List ℕ). Enough (least ends) (p.receipts ++ e.receipts) (length x)) (sym left)
      (enough-append
      (least ends)
      p.receipts
      e.receipts
      (length final)
      (λ k b. omega (arith, p.enough k b, least-most ends, length-append (drop r.bytes piece) more))
      e.enough)

  -- the jobs of all of them rise
  order-both : all_rise l (p.receipts ++ e.receipts) ≡ true
  order-both = rise-append p.receipts e.receipts l ∙ and_both _ _ p.order (subst (λ (x : Ledger). all_rise x e.receipts ≡ true) p.ledger e.order)

  -- this is entering both at once
  pub pieces-joined : Enters (piece ++ more) ends l n (joined r q)
  pieces-joined = record {
    receipts = p.receipts ++ e.receipts;
    rules = kept_append p.receipts e.receipts p.rules e.rules;
    within = omega (arith, p.within, e.within, length-append (drop r.bytes piece) more, length-drop r.bytes piece, length-append piece more);
    text = both;
    enough = enough-both;
    count = omega (arith, p.count, e.count, length-append p.receipts e.receipts);
    order = order-both;
    ledger = e.ledger ∙ ap (λ (x : Ledger). posted_all x e.receipts) p.ledger ∙ sym (posted-append p.receipts e.receipts l);
    stops = subst (λ (x : List ℕ). Stops ends n x (number_of q.outcome)) (sym left) e.stops;
  }

-- A piece that is refused

-- a receipt at the front of bytes stands there with more bytes after them too
front-more : (rest more : List ℕ) → has_front rest ≡ true → (has_front (rest ++ more) ≡ true) × (read_from (rest ++ more) ≡ read_from rest)
front-more rest more h =
    let left : List ℕ = drop (length (written (read_from rest))) rest in
    let whole : rest ++ more ≡ written (read_from rest) ++ (left ++ more) = ap (λ (x : List ℕ). x ++ more) (front-text rest h) ∙ append_assoc (written (read_from rest)) left more in
    (ap has_front whole ∙ front_of (read_from rest) (left ++ more) (front-rules rest h), ap read_from whole ∙ read-front (read_from rest) (left ++ more) (front-rules rest h))

-- one at the front of bytes with more after them stands in the bytes alone, if these are as many as the longest receipt has
front_less : (rest more : List ℕ) → receipt_limit ≤ length rest → has_front (rest ++ more) ≡ true → has_front rest ≡ true
front_less rest more l h =
    let r : Receipt = read_from (rest ++ more) in
    let most = receipt-most r (front-rules (rest ++ more) h) in
    let size : ℕ = length (written r) in
    let begin : take size rest ≡ written r =
    sym (take-append-le size rest more (omega arith)) ∙ ap (take size) (front-text (rest ++ more) h) ∙ take_at (written r) (drop size (rest ++ more)) size refl in
    ap has_front (sym (take-append-drop size rest) ∙ ap (λ (x : List ℕ). x ++ drop size rest) begin) ∙ front_of r (drop size rest) (front-rules (rest ++ more) h)

-- where none stands in so many bytes, none stands with more after them
front-none : (rest more : List ℕ) → receipt_limit ≤ length rest → has_front rest ≡ false → has_front (rest ++ more) ≡ false
front-none rest more l h = go (has_front (rest ++ more)) refl
  where
    go : (t : Bool) → has_front (rest ++ more) ≡ t → has_front (rest ++ more) ≡ false
    go true e = clash (sym h ∙ front_less rest more l e)
    go false e = e

-- what is refused in a piece is refused with more bytes after it
stops-more : {ends : Bool} {l : Ledger} {rest : List ℕ} {u : ℕ} (more : List ℕ) → (u ≢ accepted) → Stops false l rest u → Stops ends l (rest ++ more) u
stops-more more h (few f) = absurd (h refl)
stops-more {ends} {rest = rest} more h (malformed g e) = malformed (omega (arith, least-most ends, length-append rest more)) (front-none rest more g e)
stops-more {ends} {l} {rest} more h (falling g e f) =
    let front = front-more rest more e in
    falling (omega (arith, least-most ends, length-append rest more)) front.0 (ap (rises l) front.1 ∙ f)

-- a refused piece: with more bytes after it the same receipts are entered, and the next one is refused
pub piece-refused : {piece : List ℕ} (more : List ℕ) {ends : Bool} {l m : Ledger} {r : Entered} → (number_of r.outcome ≢ accepted) → Enters piece false l m r → Enters (piece ++ more) ends l m r
piece-refused {piece} more {ends} {l} {m} {r} h p =
    let left : drop r.bytes (piece ++ more) ≡ drop r.bytes piece ++ more = drop-append-le r.bytes piece more p.within in
    record {
      receipts = p.receipts;
      rules = p.rules;
      within = omega (arith, p.within, length-append piece more);
      text = ap (λ (x : List ℕ). x ++ more) p.text ∙ append_assoc (texts p.receipts) (drop r.bytes piece) more ∙ ap (λ (x : List ℕ). texts p.receipts ++ x) (sym left);
      enough = λ k b. omega (arith, p.enough k b, least-most ends, ap length left, length-append (drop r.bytes piece) more);
      count = p.count;
      order = p.order;
      ledger = p.ledger;
      stops = subst (λ (x : List ℕ). Stops ends m x (number_of r.outcome)) (sym left) (stops-more more h p.stops);
    }

-- Entering is determined

-- where a receipt with a rising job stands, and enough is left, entering does not stop
no_stop : {ends : Bool} {l : Ledger} {rest : List ℕ} {u : ℕ} (t : Receipt) (after : List ℕ) → rules_kept t ≡ true → rises l t ≡ true → least ends ≤ length rest → rest ≡ written t ++ after → Stops ends l rest u → ⊥
no_stop t after k h l e (few f) = omega arith
no_stop {rest = rest} t after k h l e (malformed g f) = no_front t rest after f k e
no_stop {l = ledger} {rest} t after k h l e (falling g f d) = clash (sym d ∙ ap (rises ledger) (ap read_from e ∙ read-front t after k) ∙ h)

-- it stops in one way
one-stop : {ends : Bool} {l : Ledger} {rest : List ℕ} {u v : ℕ} → Stops ends l rest u → Stops ends l rest v → u ≡ v
one-stop (few f) (few g) = refl
one-stop (few f) (malformed g h) = absurd (omega arith)
one-stop (few f) (falling g h d) = absurd (omega arith)
one-stop (malformed g h) (few f) = absurd (omega arith)
one-stop (malformed g h) (malformed f k) = refl
one-stop (malformed g h) (falling f k d) = clash (sym h ∙ k)
one-stop (falling g h d) (few f) = absurd (omega arith)
one-stop (falling g h d) (malformed f k) = clash (sym k ∙ h)
one-stop (falling g h d) (falling f k c) = refl

-- receipts that are entered, and what is left where entering stops
record Goes (ends : Bool) (l : Ledger) (rs : List Receipt) (left : List ℕ) (u : ℕ) : Type 0 where
  rules : all_kept rs ≡ true
  order : all_rise l rs ≡ true
  enough : Enough (least ends) rs (length left)
  stops : Stops ends (posted_all l rs) left u

module _ {ends : Bool} {l : Ledger} {r : Receipt} {rs : List Receipt} {left : List ℕ} {u : ℕ} (g : Goes ends l (r ∷ rs) left u) where
  -- the first of them rises
  goes-rises : rises l r ≡ true
  unfolding all_rise
  goes-rises = and_left (rises l r) (all_rise (posted l r) rs) g.order

  -- those after the first
  goes-rest : Goes ends (posted l r) rs left u
  unfolding all_rise posted_all
  goes-rest = record {
    rules = kept-rest r rs g.rules;
    order = and_right (rises l r) (all_rise (posted l r) rs) g.order;
    enough = λ k h. g.enough (suc k) (omega arith);
    stops = g.stops;
  }

  -- entering does not stop before the first
  goes_on : {v : ℕ} (bytes : List ℕ) → bytes ≡ texts (r ∷ rs) ++ left → Stops ends l bytes v → ⊥
  unfolding texts
  goes_on bytes e s =
      let size : length bytes ≡ length (texts (r ∷ rs)) + length left = ap length e ∙ length-append (texts (r ∷ rs)) left in
      let room : least ends ≤ length bytes = omega (arith, g.enough 0 (omega arith)) in
      no_stop r (texts rs ++ left) (kept-first r rs g.rules) goes-rises room (e ∙ append_assoc (written r) (texts rs) left) s

-- the same bytes are the same receipts and what is left
one_list : {ends : Bool} {u v : ℕ} (l : Ledger) (rs ts : List Receipt) (x y : List ℕ) → Goes ends l rs x u → Goes ends l ts y v → texts rs ++ x ≡ texts ts ++ y
    → (rs ≡ ts) × (x ≡ y) × (u ≡ v)
unfolding texts posted_all
one_list {ends} {u} l [] [] x y g h e = (refl, e, one-stop (subst (λ (z : List ℕ). Stops ends l z u) e g.stops) h.stops)
one_list l [] (t ∷ ts) x y g h e = absurd (goes_on h x e g.stops)
one_list l (r ∷ rs) [] x y g h e = absurd (goes_on g y (sym e) h.stops)
one_list {ends} {u} {v} l (r ∷ rs) (t ∷ ts) x y g h e =
    let whole : written r ++ (texts rs ++ x) ≡ written t ++ (texts ts ++ y) = sym (append_assoc (written r) (texts rs) x) ∙ e ∙ append_assoc (written t) (texts ts) y in
    let same : r ≡ t = sym (read-front r (texts rs ++ x) (kept-first r rs g.rules)) ∙ ap read_from whole ∙ read-front t (texts ts ++ y) (kept-first t ts h.rules) in
    let size : length (written t) ≡ length (written r) = ap (λ (z : Receipt). length (written z)) (sym same) in
    let rest : texts rs ++ x ≡ texts ts ++ y =
    sym (drop_at (written r) (texts rs ++ x) (length (written r)) refl) ∙ ap (drop (length (written r))) whole ∙ drop_at (written t) (texts ts ++ y) (length (written r)) size in
    let next = one_list (posted l r) rs ts x y (goes-rest g) (subst (λ (z : Receipt). Goes ends (posted l z) ts y v) (sym same) (goes-rest h)) rest in
    (ap₂ (λ (z : Receipt) (zs : List Receipt). z ∷ zs) same next.0, next.1, next.2)

-- entering bytes into a ledger leaves one ledger and has one answer
pub one-entering : {bytes : List ℕ} {ends : Bool} {l m n : Ledger} {r q : Entered} → Enters bytes ends l m r → Enters bytes ends l n q → (m ≡ n) × (r ≡ q)
one-entering {bytes} {ends} {l} {m} {n} {r} {q} p e =
    let same = one_list l p.receipts e.receipts (drop r.bytes bytes) (drop q.bytes bytes) (goes p) (goes e) (sym p.text ∙ e.text) in
    let left : length (drop r.bytes bytes) ≡ length (drop q.bytes bytes) = ap length same.1 in
    let size : r.bytes ≡ q.bytes = omega (arith, p.within, e.within, length-drop r.bytes bytes, length-drop q.bytes bytes) in
    let count : r.receipts ≡ q.receipts = p.count ∙ ap length same.0 ∙ sym e.count in
    let outcome : r.outcome ≡ q.outcome = sym (refusal_of-refusal_number r.outcome) ∙ ap refusal_of same.2 ∙ refusal_of-refusal_number q.outcome in
    (p.ledger ∙ ap (posted_all l) same.0 ∙ sym e.ledger, λ i. record { outcome = outcome i; bytes = size i; receipts = count i })
  where
    goes : {x : Ledger} {a : Entered} (i : Enters bytes ends l x a) → Goes ends l i.receipts (drop a.bytes bytes) (number_of a.outcome)
    goes {a = a} i = record {
      rules = i.rules;
      order = i.order;
      enough = i.enough;
      stops = subst (λ (x : Ledger). Stops ends x (drop a.bytes bytes) (number_of a.outcome)) i.ledger i.stops;
    }
