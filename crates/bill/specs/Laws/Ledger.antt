-- Laws of the ledger: receipts posted one after another, and what is known while bytes are entered. Assumes nothing.
use Rattle.std.specs.Prelude.{◌≡◌, ℕ, zero, suc, ◌+◌, ◌*◌, ◌<◌, ◌≤◌, Bool, true, false, cond, ◌&&◌, List, [], ◌∷◌, ◌++◌, length, drop, ◌==◌, slice_set, refl}
use Rattle.std.proofs.Common.{sym, ap, ◌∙◌, append_assoc, arith, length-append, length-set, length-drop}
use Rattle.refusal.specs.Outcome.{number_of}
use Rattle.refusal.proofs.Laws.Table.{Outcome}
use Rattle.numbers.specs.Laws.Tests.{and_both}
use Rattle.receipt.specs.declared.Receipt.{Receipt}
use Rattle.receipt.specs.Receipt.{written}
use Rattle.receipt.specs.Reading.{read_from, has_front, At, found_at}
use Rattle.receipt.specs.Laws.Rules.{written-least}
use Rattle.receipt.specs.Laws.Reading.{read-front, front_of}
use Rattle.receipt.specs.Laws.Found.{found-stands}
use Rattle.bill.specs.Run.{texts, all_kept}
use Rattle.bill.specs.Bill.{is_accepted}
use Rattle.bill.specs.declared.Ledger.{Ledger}
use Rattle.bill.specs.Ledger.{raised, posted, posted_all, rises, all_rise, least, Stops, falling, Enters}
use Rattle.bill.specs.Steps.{ledger}
use Rattle.bill.specs.Laws.Run.{texts-append, texts-one, texts-least, kept_append, kept-one}

-- posted_all, all_rise

pub posted-append : (rs ts : List Receipt) (l : Ledger) → posted_all l (rs ++ ts) ≡ posted_all (posted_all l rs) ts
unfolding posted_all
posted-append [] ts l = refl
posted-append (r ∷ rs) ts l = posted-append rs ts (posted l r)

and_assoc : (a b c : Bool) → (a && b) && c ≡ a && (b && c)
and_assoc true b c = refl
and_assoc false b c = refl

pub rise-append : (rs ts : List Receipt) (l : Ledger) → all_rise l (rs ++ ts) ≡ all_rise l rs && all_rise (posted_all l rs) ts
unfolding posted_all all_rise
rise-append [] ts l = refl
rise-append (r ∷ rs) ts l =
    ap (λ (b : Bool). rises l r && b) (rise-append rs ts (posted l r)) ∙ sym (and_assoc (rises l r) (all_rise (posted l r) rs) (all_rise (posted_all (posted l r) rs) ts))

pub posted-one : (r : Receipt) (l : Ledger) → posted_all l (r ∷ []) ≡ posted l r
unfolding posted_all
posted-one r l = refl

pub rise_one : (r : Receipt) (l : Ledger) → rises l r ≡ true → all_rise l (r ∷ []) ≡ true
unfolding all_rise
rise_one r l h = and_both (rises l r) true h refl

-- the columns keep their lengths

raised-length : (column : List ℕ) (s : ℕ) → length (raised column s) ≡ length column
raised-length column s = length-set column s _

jobs-length : (rs : List Receipt) (l : Ledger) → length (posted_all l rs).jobs ≡ length l.jobs
unfolding posted_all
jobs-length [] l = refl
jobs-length (r ∷ rs) l = jobs-length rs (posted l r) ∙ length-set l.jobs r.station r.job

either-length : (t : Bool) (column : List ℕ) (s : ℕ) → length (cond t (raised column s) column) ≡ length column
either-length true column s = raised-length column s
either-length false column s = refl

other_length : (t : Bool) (column : List ℕ) (s : ℕ) → length (cond t column (raised column s)) ≡ length column
other_length true column s = refl
other_length false column s = raised-length column s

accepted-length : (rs : List Receipt) (l : Ledger) → length (posted_all l rs).accepted ≡ length l.accepted
unfolding posted_all
accepted-length [] l = refl
accepted-length (r ∷ rs) l = accepted-length rs (posted l r) ∙ either-length (is_accepted r) l.accepted r.station

refused-length : (rs : List Receipt) (l : Ledger) → length (posted_all l rs).refused ≡ length l.refused
unfolding posted_all
refused-length [] l = refl
refused-length (r ∷ rs) l = refused-length rs (posted l r) ∙ other_length (is_accepted r) l.refused r.station

-- a receipt posted in three columns
pub posted-as : (jobs accepted refused jobs' accepted' refused' : List ℕ) (r : Receipt) (s : ℕ) → s ≡ r.station → jobs' ≡ slice_set jobs s r.job
    → accepted' ≡ cond (r.verdict == 0) (raised accepted s) accepted → refused' ≡ cond (r.verdict == 0) refused (raised refused s)
    → ledger jobs' accepted' refused' ≡ posted (ledger jobs accepted refused) r
posted-as jobs accepted refused jobs' accepted' refused' r s e a b c = rw (a, b, c, e)

-- Entering

-- enough bytes from each receipt on, with one receipt more: those from it on were left before it
enough-one : (rs : List Receipt) (r : Receipt) (k m left rest : ℕ) → left ≡ length (written r) + rest → m ≤ left
    → ((i : ℕ) → i < length rs → m ≤ length (texts (drop i rs)) + left) → k < length (rs ++ (r ∷ [])) → m ≤ length (texts (drop k (rs ++ (r ∷ [])))) + rest
enough-one [] r zero m left rest e g h l = omega (arith, ap length (texts-one r))
enough-one [] r (suc k) m left rest e g h l = absurd (omega arith)
enough-one (x ∷ rs) r zero m left rest e g h l =
    omega (arith, h 0 (omega arith), ap length (texts-append (x ∷ rs) (r ∷ [])), length-append (texts (x ∷ rs)) (texts (r ∷ [])), ap length (texts-one r))
enough-one (x ∷ rs) r (suc k) m left rest e g h l = enough-one rs r k m left rest e g (λ i j. h (suc i) (omega arith)) (omega arith)

-- what is known after the receipts before a place are entered
pub record Entering (bytes : List ℕ) (ends : Bool) (old new : Ledger) (at n : ℕ) : Type 0 where
  pub receipts : List Receipt
  pub rules : all_kept receipts ≡ true
  pub within : at ≤ length bytes
  pub text : bytes ≡ texts receipts ++ drop at bytes
  pub count : n ≡ length receipts
  pub order : all_rise old receipts ≡ true
  pub enough : (k : ℕ) → k < length receipts → least ends ≤ length (texts (drop k receipts)) + length (drop at bytes)
  pub ledger : new ≡ posted_all old receipts

pub entering-none : (bytes : List ℕ) (ends : Bool) (l : Ledger) → Entering bytes ends l l 0 0
unfolding texts all_kept all_rise posted_all
entering-none bytes ends l = record { receipts = []; rules = refl; within = omega arith; text = refl; count = refl; order = refl; enough = λ k h. absurd (omega arith); ledger = refl }

module _ {bytes : List ℕ} {ends : Bool} {old new : Ledger} {at count : ℕ} (e : Entering bytes ends old new at count) where
  -- the columns keep their lengths
  pub entering-jobs : length new.jobs ≡ length old.jobs
  entering-jobs = ap (λ (l : Ledger). length l.jobs) e.ledger ∙ jobs-length e.receipts old

  pub entering-accepted : length new.accepted ≡ length old.accepted
  entering-accepted = ap (λ (l : Ledger). length l.accepted) e.ledger ∙ accepted-length e.receipts old

  pub entering-refused : length new.refused ≡ length old.refused
  entering-refused = ap (λ (l : Ledger). length l.refused) e.ledger ∙ refused-length e.receipts old

  -- a receipt has 86 bytes at least
  pub entering-few : 86 * count ≤ length bytes
  entering-few = omega (arith, e.count, texts-least e.receipts, ap length e.text, length-append (texts e.receipts) (drop at bytes))

  -- so far, and why no further
  pub entering-stops : (outcome : Outcome) → Stops ends new (drop at bytes) (number_of outcome) → Enters bytes ends old new (record { outcome = outcome; bytes = at; receipts = count })
  entering-stops outcome s = record {
    receipts = e.receipts;
    rules = e.rules;
    within = e.within;
    text = e.text;
    count = e.count;
    order = e.order;
    enough = e.enough;
    ledger = e.ledger;
    stops = s;
  }

  module _ (r : Receipt) (end : ℕ) (q : found_at bytes at ≡ At r end) where
    -- a receipt lies inside the bytes
    pub entering-within : end ≤ length bytes
    entering-within =
        let s = found-stands bytes at r end q in
        let w = e.within in
        omega (arith, s.place, ap length s.text, length-append (written r) (drop end bytes), length-drop at bytes, length-drop end bytes)

    pub entering-further : at < end
    entering-further = omega (arith, (found-stands bytes at r end q).place, written-least r)

    -- one receipt more
    pub entering-one : least ends ≤ length (drop at bytes) → rises new r ≡ true → Entering bytes ends old (posted new r) end (count + 1)
    entering-one g h =
        let s = found-stands bytes at r end q in
        record {
          receipts = e.receipts ++ (r ∷ []);
          rules = kept_append e.receipts (r ∷ []) e.rules (kept-one r s.rules);
          within = entering-within;
          text = e.text ∙ ap (λ (l : List ℕ). texts e.receipts ++ l) s.text ∙ sym (append_assoc (texts e.receipts) (written r) (drop end bytes))
              ∙ ap (λ (l : List ℕ). l ++ drop end bytes) (ap (λ (l : List ℕ). texts e.receipts ++ l) (sym (texts-one r)) ∙ sym (texts-append e.receipts (r ∷ [])));
          count = omega (arith, e.count, length-append e.receipts (r ∷ []));
          order = rise-append e.receipts (r ∷ []) old ∙ and_both (all_rise old e.receipts) (all_rise (posted_all old e.receipts) (r ∷ [])) e.order (rise_one r (posted_all old e.receipts) (ap (λ (l : Ledger). rises l r) (sym e.ledger) ∙ h));
          enough = λ k l. enough-one e.receipts r k (least ends) (length (drop at bytes)) (length (drop end bytes)) (omega (arith, ap length s.text, length-append (written r) (drop end bytes))) g e.enough l;
          ledger = ap (λ (l : Ledger). posted l r) e.ledger ∙ sym (posted-one r (posted_all old e.receipts)) ∙ sym (posted-append e.receipts (r ∷ []) old);
        }

    -- a receipt whose job does not rise
    pub stops-falling : least ends ≤ length (drop at bytes) → rises new r ≡ false → Stops ends new (drop at bytes) 30
    stops-falling l h =
        let s = found-stands bytes at r end q in
        let front : has_front (drop at bytes) ≡ true = ap has_front s.text ∙ front_of r (drop end bytes) s.rules in
        let same : read_from (drop at bytes) ≡ r = ap read_from s.text ∙ read-front r (drop end bytes) s.rules in
        falling l front (ap (rises new) same ∙ h)
