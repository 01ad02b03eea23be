-- The receipt at a place, read line by line: it is the one that stands there, and none is found where none stands. Assumes nothing.
use Rattle.std.specs.Prelude.{◌≡◌, None, Ok, Err, Bool, ℕ, ◌+◌}
use Rattle.std.proofs.Math.Path.{refl, ap}
use Rattle.std.proofs.Common.{sym, subst, ◌∙◌, arith, drop-drop}
use Rattle.std.proofs.Math.Bool.{true, false, cond}
use mathlib.Core.List.{List, [], ◌∷◌, ◌++◌, append-nil}
use Rattle.std.proofs.Math.ListN.{length, drop}
use Rattle.std.proofs.Math.Seq.{drop-length}
use Rattle.refusal.specs.Table.{receipt_malformed}
use Rattle.numbers.specs.Laws.Tests.{clash}
use Rattle.text.specs.Ascii.{ascii}
use Rattle.receipt.specs.declared.Line.{Line}
use Rattle.receipt.specs.declared.Receipt.{Receipt}
use Rattle.receipt.specs.declared.Found.{Found}
use Rattle.receipt.specs.Receipt.{numbers_of, line, written, rules_kept, IsReceipt, is, none}
use Rattle.receipt.specs.Reading.{receipt_from, read_from, reading_of, has_front, At, found_at}
use Rattle.receipt.specs.Steps.{no_line, line_at, words, numbers_at, end_at}
use Rattle.receipt.specs.Laws.Rules.{AllSmall, allowed-small}
use Rattle.receipt.specs.Laws.Lines.{lines_text, EachSmall, lines-ended, lines-read}
use Rattle.receipt.specs.Laws.Reading.{read-front, front_of, front-rules, front-text, no_front, nested, read-receipt, one-reading, reading_of-is}

-- a receipt's text by the words that its lines begin with
written-lines : (r : Receipt) → written r ≡ lines_text words (numbers_of r)
unfolding line
written-lines r = sym (append-nil (written r)) ∙ nested r []

each-small : (r : Receipt) → AllSmall r → EachSmall (numbers_of r)
each-small r s = (s.station, (s.job, (s.verdict, (s.models, (s.chains, (s.groups, (s.atoms, (s.bonds, (s.fields, (s.units, tt))))))))))

-- What is found

-- the receipt that is found stands at the place
pub record Standing (bytes : List ℕ) (at : ℕ) (r : Receipt) (end : ℕ) : Type 0 where
  pub rules : rules_kept r ≡ true
  pub text : drop at bytes ≡ written r ++ drop end bytes
  pub place : end ≡ at + length (written r)

same_found : {a b : Receipt} {m n : ℕ} → At a m ≡ At b n → (a ≡ b) × (m ≡ n)
same_found {a} {b} {m} {n} p =
    let q : ◌≡◌ {A = Found} (record { receipt = a; end = m }) (record { receipt = b; end = n }) = cc in
    (ap (λ (f : Found). f.receipt) q, ap (λ (f : Found). f.end) q)

pub found-stands : (bytes : List ℕ) (at : ℕ) (r : Receipt) (end : ℕ) → found_at bytes at ≡ At r end → Standing bytes at r end
unfolding found_at
found-stands bytes at r end q = go (has_front (drop at bytes)) refl q
  where
    front : Receipt
    front = read_from (drop at bytes)

    go : (t : Bool) → has_front (drop at bytes) ≡ t → cond t (At front (at + length (written front))) None ≡ At r end → Standing bytes at r end
    go true e p =
        let same : front ≡ r = (same_found p).0 in
        let place : at + length (written front) ≡ end = (same_found p).1 in
        let here : end ≡ at + length (written r) = sym place ∙ ap (λ (x : Receipt). at + length (written x)) same in
        record {
          rules = sym (ap rules_kept same) ∙ front-rules (drop at bytes) e;
          text = front-text (drop at bytes) e ∙ ap (λ (x : Receipt). written x ++ drop (length (written x)) (drop at bytes)) same
              ∙ ap (λ (x : List ℕ). written r ++ x) (drop-drop (length (written r)) at bytes ∙ ap (λ (x : ℕ). drop x bytes) (sym here));
          place = here;
        }
    go false e p = let z : ◌≡◌ {A = ℕ} 0 1 = cc in absurd (omega arith)

-- where nothing is found, no receipt stands
pub found_none : (bytes : List ℕ) (at : ℕ) → found_at bytes at ≡ None → has_front (drop at bytes) ≡ false
unfolding found_at
found_none bytes at q = go (has_front (drop at bytes)) refl q
  where
    go : (t : Bool) → has_front (drop at bytes) ≡ t → cond t (At (read_from (drop at bytes)) (at + length (written (read_from (drop at bytes))))) None ≡ None → has_front (drop at bytes) ≡ false
    go true e p = let z : ◌≡◌ {A = ℕ} 0 1 = cc in absurd (omega arith)
    go false e p = e

-- Found line by line

module _ (s : List ℕ) (at : ℕ) where
  -- the receipt of the ten numbers that are read, and where the lines end
  here : Receipt
  here = receipt_from (numbers_at words s at)

  pub found_here : rules_kept (receipt_from (numbers_at words s at)) ≡ true → found_at s at ≡ At (receipt_from (numbers_at words s at)) (end_at words s at)
  unfolding found_at here
  found_here h =
      let lines = lines-ended words s at (each-small here (allowed-small here h)) in
      let text : drop at s ≡ written here ++ drop (end_at words s at) s = lines.0 ∙ ap (λ (x : List ℕ). x ++ drop (end_at words s at) s) (sym (written-lines here)) in
      let place : end_at words s at ≡ at + length (written here) = lines.1 ∙ ap (λ (x : List ℕ). at + length x) (sym (written-lines here)) in
      let test : has_front (drop at s) ≡ true = ap has_front text ∙ front_of here (drop (end_at words s at) s) h in
      let read : read_from (drop at s) ≡ here = ap read_from text ∙ read-front here (drop (end_at words s at) s) h in
      rw (test, read, ← place)

  pub found_nothing : rules_kept (receipt_from (numbers_at words s at)) ≡ false → found_at s at ≡ None
  unfolding found_at here
  found_nothing h = go (has_front (drop at s)) refl
    where
      go : (t : Bool) → has_front (drop at s) ≡ t → cond t (At (read_from (drop at s)) (at + length (written (read_from (drop at s))))) None ≡ None
      go true e =
          let r : Receipt = read_from (drop at s) in
          let k = front-rules (drop at s) e in
          let text : drop at s ≡ lines_text words (numbers_of (read_from (drop at s))) ++ drop (length (written (read_from (drop at s)))) (drop at s) =
          front-text (drop at s) e ∙ ap (λ (x : List ℕ). x ++ drop (length (written (read_from (drop at s)))) (drop at s)) (written-lines (read_from (drop at s))) in
          let lines = lines-read words (numbers_of (read_from (drop at s))) s at (drop (length (written (read_from (drop at s)))) (drop at s)) refl (each-small (read_from (drop at s)) (allowed-small (read_from (drop at s)) k)) text in
          clash (sym h ∙ ap (λ (ns : List ℕ). rules_kept (receipt_from ns)) lines.0 ∙ k)
      go false e = refl

-- ten lines, each from the end of the one before it
pub ten-lines : (s : List ℕ) (at : ℕ) {a b c d e f g h i j : Line}
    → a ≡ line_at (ascii "station=") s at
    → b ≡ line_at (ascii "job=") s a.end
    → c ≡ line_at (ascii "verdict=") s b.end
    → d ≡ line_at (ascii "models=") s c.end
    → e ≡ line_at (ascii "chains=") s d.end
    → f ≡ line_at (ascii "groups=") s e.end
    → g ≡ line_at (ascii "atoms=") s f.end
    → h ≡ line_at (ascii "bonds=") s g.end
    → i ≡ line_at (ascii "fields=") s h.end
    → j ≡ line_at (ascii "units=") s i.end
    → (receipt_from (a.number ∷ b.number ∷ c.number ∷ d.number ∷ e.number ∷ f.number ∷ g.number ∷ h.number ∷ i.number ∷ j.number ∷ []) ≡ receipt_from (numbers_at words s at))
    × (j.end ≡ end_at words s at)
ten-lines s at pa pb pc pd pe pf pg ph pi pj = (rw (pj, pi, ph, pg, pf, pe, pd, pc, pb, pa), rw (pj, pi, ph, pg, pf, pe, pd, pc, pb, pa))

-- a line is not there: the one at a place, or one after it
pub data Lost (s : List ℕ) : List (List ℕ) → ℕ → Type 0 where
  lost : {w : List ℕ} {ws : List (List ℕ)} {at : ℕ} → no_line ≡ line_at w s at → Lost s (w ∷ ws) at
  later : {w : List ℕ} {ws : List (List ℕ)} {at : ℕ} {l : Line} → l ≡ line_at w s at → Lost s ws l.end → Lost s (w ∷ ws) at

lost-large : {s : List ℕ} (ws : List (List ℕ)) (at : ℕ) → Lost s ws at → EachSmall (numbers_at ws s at) → ⊥
lost-large [] at l small = elim l [ ]
lost-large {s} (w ∷ ws) at (lost e) small = omega (arith, small.0, ap (λ (l : Line). l.number) e)
lost-large {s} (w ∷ ws) at (later {l = l} e rest) small =
    lost-large ws (line_at w s at).end (subst (λ (x : Line). Lost s ws x.end) e rest) small.1

-- then no receipt stands there
pub found_lost : (s : List ℕ) (at : ℕ) → Lost s words at → None ≡ found_at s at
found_lost s at l = go (rules_kept (receipt_from (numbers_at words s at))) refl
  where
    go : (t : Bool) → rules_kept (receipt_from (numbers_at words s at)) ≡ t → None ≡ found_at s at
    go true e = absurd (lost-large words at l (each-small (receipt_from (numbers_at words s at)) (allowed-small (receipt_from (numbers_at words s at)) e)))
    go false e = sym (found_nothing s at e)

-- What bytes are read as, by what is found at their start

pub reading-none : (bytes : List ℕ) → found_at bytes 0 ≡ None → Err receipt_malformed ≡ reading_of bytes
reading-none bytes q =
    one-reading (none (λ r i. no_front r bytes [] (found_none bytes 0 q) i.rules (i.text ∙ sym (append-nil (written r))))) (reading_of-is bytes)

module _ (bytes : List ℕ) (r : Receipt) (end : ℕ) (q : found_at bytes 0 ≡ At r end) where
  -- a receipt that ends where the bytes end
  pub reading-all : end ≡ length bytes → Ok r ≡ reading_of bytes
  reading-all e =
      let at = found-stands bytes 0 r end q in
      let text : bytes ≡ written r = at.text ∙ ap (λ (n : ℕ). written r ++ drop n bytes) e ∙ ap (λ (l : List ℕ). written r ++ l) (drop-length bytes) ∙ append-nil (written r) in
      one-reading (is record { rules = at.rules; text = text }) (reading_of-is bytes)

  -- a receipt that ends before the bytes do
  pub reading-more : (end ≡ length bytes → ⊥) → Err receipt_malformed ≡ reading_of bytes
  reading-more h = one-reading (none other) (reading_of-is bytes)
    where
      other : (x : Receipt) → IsReceipt bytes x → ⊥
      other x i =
          let at = found-stands bytes 0 r end q in
          let same : x ≡ r = sym (read-receipt i) ∙ ap read_from at.text ∙ read-front r (drop end bytes) at.rules in
          let place : end ≡ length (written r) = omega (arith, at.place) in
          h (place ∙ ap (λ (y : Receipt). length (written y)) (sym same) ∙ ap length (sym i.text))
