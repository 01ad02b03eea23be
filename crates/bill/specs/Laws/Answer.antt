-- What billing answers: what entering all bytes gives is the refusal of the run, or its bill; bytes are billed exactly when they are a run whose jobs
-- rise; and the buffer of the stated room is never too small. Assumes nothing.
use Rattle.std.specs.Prelude.{◌≡◌, Result, Ok, Err, ℕ, suc, ◌-◌, ◌<◌, ◌≤◌, Bool, true, false, cond, ◌&&◌, ◌↔◌, List, [], ◌∷◌, ◌++◌, length, take, drop, ◌==◌, ◌≢◌, nat_eq, nat_le, refl}
use Rattle.std.proofs.Common.{sym, ap, subst, ◌∙◌, append-nil, arith, length-append, length-drop, take_at, eqb-true, eq-eqb, ne_eqb, leb-true, leb-false, le-leb}
use Rattle.std.proofs.lemmas.Bool.{eqb-false, lt-leb}
use Rattle.refusal.specs.Table.{accepted, file_over_limit, buffer_too_small, receipt_malformed, job_not_rising}
use Rattle.refusal.specs.First.{or_else, unless}
use Rattle.refusal.proofs.Laws.First.{or_else-left, or_else-right, unless_holds}
use Rattle.refusal.specs.declared.Refusal.{Refusal}
use Rattle.refusal.specs.Table.{refusal_number}
use Rattle.refusal.proofs.Laws.Table.{Outcome, refusal_number-injective}
use Rattle.refusal.specs.Outcome.{number_of, answered}
use Rattle.refusal.specs.Answer.{leaves}
use Rattle.messagepack.specs.Limits.{file_limit}
use Rattle.text.specs.Equal.{equal}
use Rattle.text.specs.Laws.Equal.{equal-true, equal-refl, equal-lengths}
use Rattle.receipt.specs.declared.Receipt.{Receipt}
use Rattle.receipt.specs.Receipt.{written}
use Rattle.receipt.specs.Reading.{read_from, has_front}
use Rattle.receipt.specs.Laws.Rules.{written-least}
use Rattle.receipt.specs.Laws.Reading.{front-text}
use Rattle.bill.specs.declared.Entered.{Entered}
use Rattle.bill.specs.Run.{texts, all_kept, IsRun, rising}
use Rattle.bill.specs.Bill.{bill_of, bill_text}
use Rattle.bill.specs.Answer.{receipts_in, front_receipts, run_number, bill_number, text_of, bill_answer, bill_buffer, bill_limit, Billable, Billed}
use Rattle.bill.specs.declared.Ledger.{Ledger}
use Rattle.bill.specs.Ledger.{blank, posted, posted_all, rises, all_rise, Stops, few, malformed, falling, Enters, ledger_bill}
use Rattle.bill.specs.Laws.Run.{texts-least, receipts-none, receipts-some, receipts-kept, front-texts, front-run}
use Rattle.bill.specs.Laws.Ledger.{rise-append}
use Rattle.bill.specs.Laws.Rising.{rising-rise}
use Rattle.bill.specs.Laws.Columns.{ledger-bill}
use Rattle.bill.specs.Laws.Longest.{run-few, bill-most}

-- The refusal of a run, by the receipts that are entered

-- a test beside one that fails
and-fails : (a b : Bool) → b ≡ false → a && b ≡ false
and-fails true b h = h
and-fails false b h = refl

-- all of the bytes
number-all : (rs : List Receipt) (bytes : List ℕ) → all_kept rs ≡ true → all_rise blank rs ≡ true → bytes ≡ texts rs → run_number bytes ≡ accepted
unfolding run_number
number-all rs bytes k h e =
    let front : front_receipts bytes ≡ rs = front-run (record { rules = k; text = e }) in
    let rise : rising (front_receipts bytes) ≡ true = ap rising front ∙ rising-rise rs k ∙ h in
    let same : equal (texts (front_receipts bytes)) bytes ≡ true = ap (λ (l : List Receipt). equal (texts l) bytes) front ∙ ap (λ (l : List ℕ). equal l bytes) (sym e) ∙ equal-refl bytes in
    rw (rise, same)

-- up to where no receipt stands
number-malformed : (rs : List Receipt) (rest : List ℕ) → all_kept rs ≡ true → all_rise blank rs ≡ true → 1 ≤ length rest → has_front rest ≡ false → run_number (texts rs ++ rest) ≡ receipt_malformed
unfolding run_number
number-malformed rs rest k h l f =
    let front : front_receipts (texts rs ++ rest) ≡ rs =
    front-texts rs rest k ∙ ap (λ (x : List Receipt). rs ++ x) (receipts-none (length (texts rs ++ rest) - length rs) rest f) ∙ append-nil rs in
    let rise : rising (front_receipts (texts rs ++ rest)) ≡ true = ap rising front ∙ rising-rise rs k ∙ h in
    let other : equal (texts (front_receipts (texts rs ++ rest))) (texts rs ++ rest) ≡ false =
    ap (λ (x : List Receipt). equal (texts x) (texts rs ++ rest)) front ∙ equal-lengths (texts rs) (texts rs ++ rest) (λ e. omega (arith, length-append (texts rs) rest)) in
    rw (rise, other)

-- up to a receipt whose job does not rise
number-falling : (rs : List Receipt) (rest : List ℕ) → all_kept rs ≡ true → has_front rest ≡ true → rises (posted_all blank rs) (read_from rest) ≡ false → run_number (texts rs ++ rest) ≡ job_not_rising
unfolding run_number all_rise
number-falling rs rest k f h =
    let some : 1 ≤ length (texts rs ++ rest) - length rs =
    omega (arith, texts-least rs, length-append (texts rs) rest, written-least (read_from rest), ap length (front-text rest f), length-append (written (read_from rest)) (drop (length (written (read_from rest))) rest)) in
    let more : length (texts rs ++ rest) - length rs ≡ suc (length (texts rs ++ rest) - length rs - 1) = omega arith in
    let front : front_receipts (texts rs ++ rest) ≡ rs ++ (read_from rest ∷ receipts_in (length (texts rs ++ rest) - length rs - 1) (drop (length (written (read_from rest))) rest)) =
    front-texts rs rest k ∙ ap (λ (n : ℕ). rs ++ receipts_in n rest) more ∙ ap (λ (x : List Receipt). rs ++ x) (receipts-some (length (texts rs ++ rest) - length rs - 1) rest f) in
    let fall : rising (front_receipts (texts rs ++ rest)) ≡ false =
    rising-rise (front_receipts (texts rs ++ rest)) (receipts-kept (length (texts rs ++ rest)) (texts rs ++ rest))
    ∙ ap (all_rise blank) front
    ∙ rise-append rs (read_from rest ∷ receipts_in (length (texts rs ++ rest) - length rs - 1) (drop (length (written (read_from rest))) rest)) blank
    ∙ and-fails (all_rise blank rs) (all_rise (posted_all blank rs) (read_from rest ∷ receipts_in (length (texts rs ++ rest) - length rs - 1) (drop (length (written (read_from rest))) rest)))
    (ap (λ (b : Bool). b && all_rise (posted (posted_all blank rs) (read_from rest)) (receipts_in (length (texts rs ++ rest) - length rs - 1) (drop (length (written (read_from rest))) rest))) h) in
    rw fall

-- What entering all bytes gives

no_bytes : (l : List ℕ) → length l < 1 → l ≡ []
no_bytes [] h = refl
no_bytes (x ∷ l) h = absurd (omega arith)

module _ (bytes : List ℕ) (new : Ledger) (r : Entered) (e : Enters bytes true blank new r) where
  -- the refusal is that of the run
  pub entered-number : number_of r.outcome ≡ run_number bytes
  entered-number = go e.stops
    where
      go : {n : ℕ} → Stops true new (drop r.bytes bytes) n → n ≡ run_number bytes
      go (few h) =
          let none : drop r.bytes bytes ≡ [] = no_bytes (drop r.bytes bytes) h in
          sym (number-all e.receipts bytes e.rules e.order (e.text ∙ ap (λ (l : List ℕ). texts e.receipts ++ l) none ∙ append-nil (texts e.receipts)))
      go (malformed l h) = sym (ap run_number e.text ∙ number-malformed e.receipts (drop r.bytes bytes) e.rules e.order l h)
      go (falling l h f) = sym (ap run_number e.text ∙ number-falling e.receipts (drop r.bytes bytes) e.rules h (ap (λ (x : Ledger). rises x (read_from (drop r.bytes bytes))) (sym e.ledger) ∙ f))

-- Bytes that are refused with no number are a run whose jobs rise

pub number-run : (bytes : List ℕ) → run_number bytes ≡ accepted → IsRun bytes (front_receipts bytes) × (rising (front_receipts bytes) ≡ true)
unfolding run_number
number-run bytes h =
    let order = unless_holds (rising (front_receipts bytes)) job_not_rising (omega arith) (or_else-left (unless (rising (front_receipts bytes)) job_not_rising) (unless (equal (texts (front_receipts bytes)) bytes) receipt_malformed) h) in
    let same = unless_holds (equal (texts (front_receipts bytes)) bytes) receipt_malformed (omega arith) (or_else-right (unless (rising (front_receipts bytes)) job_not_rising) (unless (equal (texts (front_receipts bytes)) bytes) receipt_malformed) h) in
    (record { rules = receipts-kept (length bytes) bytes; text = sym (equal-true (texts (front_receipts bytes)) bytes same) }, order)

pub run-number : {bytes : List ℕ} {rs : List Receipt} → IsRun bytes rs → rising rs ≡ true → run_number bytes ≡ accepted
run-number {bytes} {rs} i h = number-all rs bytes i.rules (sym (rising-rise rs i.rules) ∙ h) i.text

-- bytes over the limit
pub number-over : (bytes : List ℕ) → file_limit < length bytes → bill_number bytes ≡ file_over_limit
unfolding bill_number
number-over bytes h = rw (lt-leb (length bytes) file_limit h)

pub number-within : (bytes : List ℕ) → length bytes ≤ file_limit → bill_number bytes ≡ run_number bytes
unfolding bill_number
number-within bytes h = rw (le-leb (length bytes) file_limit h)

-- bytes have no refusal exactly when they can be billed
pub billable-exactly : (bytes : List ℕ) → (bill_number bytes ≡ accepted) ↔ Billable bytes
billable-exactly bytes = (there, back)
  where
    there : bill_number bytes ≡ accepted → Billable bytes
    there h = go (nat_le (length bytes) file_limit) refl
      where
        go : (t : Bool) → nat_le (length bytes) file_limit ≡ t → Billable bytes
        go true t =
            let l = leb-true (length bytes) file_limit t in
            let run = number-run bytes (sym (number-within bytes l) ∙ h) in
            record { receipts = front_receipts bytes; run = run.0; order = run.1; small = l }
        go false t = absurd (omega (arith, h, number-over bytes (leb-false (length bytes) file_limit t)))

    back : Billable bytes → bill_number bytes ≡ accepted
    back b = number-within bytes b.small ∙ run-number b.run b.order

-- The text

pub text-billed : (bytes : List ℕ) → bill_number bytes ≡ accepted → Billed bytes (text_of bytes)
unfolding text_of
text-billed bytes h =
    let b = (billable-exactly bytes).0 h in
    record { of = b; is = ap (λ (rs : List Receipt). bill_text (bill_of rs)) (front-run b.run) }

-- the bill of the ledger is that text
pub ledger-text : (bytes : List ℕ) (new : Ledger) (r : Entered) → Enters bytes true blank new r → length bytes ≤ file_limit → number_of r.outcome ≡ accepted
    → bill_text (ledger_bill new.accepted new.refused) ≡ text_of bytes
unfolding text_of
ledger-text bytes new r e l z =
    let number = sym (entered-number bytes new r e) ∙ z in
    let run = number-run bytes number in
    let same : e.receipts ≡ front_receipts bytes = sym (stopped e.stops z) in
    let small = run-few run.0 l in
    ap (λ (x : Ledger). bill_text (ledger_bill x.accepted x.refused)) e.ledger
    ∙ ap bill_text (ledger-bill e.receipts e.rules (omega (arith, ap length same)))
    ∙ ap (λ (rs : List Receipt). bill_text (bill_of rs)) same
  where
    stopped : {n : ℕ} → Stops true new (drop r.bytes bytes) n → n ≡ accepted → front_receipts bytes ≡ e.receipts
    stopped (few h) q = front-run (record { rules = e.rules; text = e.text ∙ ap (λ (x : List ℕ). texts e.receipts ++ x) (no_bytes (drop r.bytes bytes) h) ∙ append-nil (texts e.receipts) })
    stopped (malformed a b) q = absurd (omega arith)
    stopped (falling a b c) q = absurd (omega arith)

-- The cases of the call

-- a buffer keeps its length
pub leaves-length : (text buffer : List ℕ) → length (leaves text buffer) ≡ length buffer
leaves-length text buffer = go (nat_le (length text) (length buffer)) refl
  where
    go : (t : Bool) → nat_le (length text) (length buffer) ≡ t → length (cond t (text ++ drop (length text) buffer) buffer) ≡ length buffer
    go true e = omega (arith, leb-true (length text) (length buffer) e, length-append text (drop (length text) buffer), length-drop (length text) buffer)
    go false e = refl

-- all that the call says: its answer, its buffer, and that what it wrote is the bill
abbrev pub Says : List ℕ → List ℕ → List ℕ → Result ℕ ℕ → Type 0
Says bytes buffer new r =
    (r ≡ bill_answer bytes (length buffer)) × ((new ≡ bill_buffer bytes buffer) × ((n : ℕ) → r ≡ Ok n → Billed bytes (take n new)))

never : {A : Type 0} (r n : ℕ) → ◌≡◌ {A = Result ℕ ℕ} (Err r) (Ok n) → A
never r n q = let z : ◌≡◌ {A = ℕ} 0 1 = cc in absurd (omega arith)

-- a refusal
pub says-refused : (bytes buffer : List ℕ) (n : ℕ) → n ≡ bill_number bytes → (n ≢ accepted) → Says bytes buffer buffer (Err n)
unfolding bill_answer bill_buffer
says-refused bytes buffer n e h =
    let t : nat_eq (bill_number bytes) accepted ≡ false = ne_eqb (bill_number bytes) accepted (λ z. h (e ∙ z)) in
    (rw t (ap Err e), (rw t, λ m q. never n m q))

-- which has a number
pub refusal-numbered : (r : Refusal) → refusal_number r ≢ accepted
refusal-numbered r z =
    let e : ◌≡◌ {A = Outcome} (Err r) (Ok record {}) = refusal_number-injective (Err r) (Ok record {}) z in
    let d : ◌≡◌ {A = ℕ} 0 1 = cc in
    absurd (omega arith)

-- the bill, or 25
pub says-written : (bytes buffer new : List ℕ) (r : Result ℕ ℕ) → bill_number bytes ≡ accepted → r ≡ answered (length (text_of bytes)) (length buffer) → new ≡ leaves (text_of bytes) buffer → Says bytes buffer new r
unfolding bill_answer bill_buffer
says-written bytes buffer new r h a b =
    let t : nat_eq (bill_number bytes) accepted ≡ true = eq-eqb (bill_number bytes) accepted h in
    (rw t a, (rw t b, λ n q. subst (λ (x : List ℕ). Billed bytes (take n x)) (sym b) (go (nat_le (length (text_of bytes)) (length buffer)) (sym a ∙ q))))
  where
    go : {n : ℕ} (t : Bool) → cond t (Ok (length (text_of bytes))) (Err buffer_too_small) ≡ Ok n → Billed bytes (take n (cond t (text_of bytes ++ drop (length (text_of bytes)) buffer) buffer))
    go {n} true q =
        let m : length (text_of bytes) ≡ n = cc in
        subst (λ (x : List ℕ). Billed bytes x) (sym (take_at (text_of bytes) (drop (length (text_of bytes)) buffer) n m)) (text-billed bytes h)
    go {n} false q = never buffer_too_small n q

-- the refusal of bytes is never 25
number-room : (bytes : List ℕ) → bill_number bytes ≢ buffer_too_small
unfolding bill_number run_number
number-room bytes q = go (nat_le (length bytes) file_limit) (rising (front_receipts bytes)) (equal (texts (front_receipts bytes)) bytes) q
  where
    go : (a b c : Bool) → or_else (unless a file_over_limit) (or_else (unless b job_not_rising) (unless c receipt_malformed)) ≢ buffer_too_small
    go false b c p = omega arith
    go true false c p = omega arith
    go true true false p = omega arith
    go true true true p = omega arith

refusals : (a b : ℕ) → ◌≡◌ {A = Result ℕ ℕ} (Err a) (Err b) → a ≡ b
refusals a b p = cc

-- the text is not longer than the longest
pub text-most : (bytes : List ℕ) → Billable bytes → length (text_of bytes) ≤ bill_limit
unfolding text_of
text-most bytes b = omega (arith, bill-most b.run b.small, ap (λ (rs : List Receipt). length (bill_text (bill_of rs))) (front-run b.run))

-- a buffer with the stated room is never too small
pub answered-room : (bytes : List ℕ) (n : ℕ) → bill_limit ≤ n → bill_answer bytes n ≢ Err buffer_too_small
unfolding bill_answer
answered-room bytes n l q = go (bill_number bytes == accepted) refl q
  where
    go : (t : Bool) → (bill_number bytes == accepted) ≡ t → cond t (answered (length (text_of bytes)) n) (Err (bill_number bytes)) ≢ Err buffer_too_small
    go true e p =
        let most = text-most bytes ((billable-exactly bytes).0 (eqb-true (bill_number bytes) accepted e)) in
        let here : length (text_of bytes) ≤ n = omega arith in
        let z : cond (nat_le (length (text_of bytes)) n) (Ok (length (text_of bytes))) (Err buffer_too_small) ≡ Ok (length (text_of bytes)) = rw (le-leb (length (text_of bytes)) n here) in
        never buffer_too_small (length (text_of bytes)) (sym p ∙ z)
    go false e p = number-room bytes (refusals (bill_number bytes) buffer_too_small p)

-- a refusal has a number
pub answered-number : (bytes : List ℕ) (n r : ℕ) → Err r ≡ bill_answer bytes n → r ≢ accepted
unfolding bill_answer
answered-number bytes n r q z = go (bill_number bytes == accepted) refl (nat_le (length (text_of bytes)) n) q
  where
    go : (t : Bool) → (bill_number bytes == accepted) ≡ t → (u : Bool)
        → Err r ≢ cond t (cond u (Ok (length (text_of bytes))) (Err buffer_too_small)) (Err (bill_number bytes))
    go true e true p = never r (length (text_of bytes)) p
    go true e false p = omega (arith, refusals r buffer_too_small p)
    go false e u p = eqb-false (bill_number bytes) accepted e (sym (refusals r (bill_number bytes) p) ∙ z)

-- bytes are billed, with enough room, exactly when they are a run whose jobs rise
pub billed-exactly : (bytes : List ℕ) (n : ℕ) → bill_limit ≤ n → (bill_answer bytes n ≡ Ok (length (text_of bytes))) ↔ Billable bytes
unfolding bill_answer
billed-exactly bytes n l = (there, back)
  where
    there : cond (bill_number bytes == accepted) (answered (length (text_of bytes)) n) (Err (bill_number bytes)) ≡ Ok (length (text_of bytes)) → Billable bytes
    there q = go (bill_number bytes == accepted) refl q
      where
        go : (t : Bool) → (bill_number bytes == accepted) ≡ t → cond t (answered (length (text_of bytes)) n) (Err (bill_number bytes)) ≡ Ok (length (text_of bytes)) → Billable bytes
        go true e p = (billable-exactly bytes).0 (eqb-true (bill_number bytes) accepted e)
        go false e p = never (bill_number bytes) (length (text_of bytes)) p

    back : Billable bytes → cond (bill_number bytes == accepted) (answered (length (text_of bytes)) n) (Err (bill_number bytes)) ≡ Ok (length (text_of bytes))
    back b =
        let most = text-most bytes b in
        rw (eq-eqb (bill_number bytes) accepted ((billable-exactly bytes).1 b), le-leb (length (text_of bytes)) n (omega arith))

-- what is written is the bill
pub bill-written : (bytes buffer : List ℕ) (n : ℕ) → bill_answer bytes (length buffer) ≡ Ok n → Billed bytes (take n (bill_buffer bytes buffer))
bill-written bytes buffer n q = go (bill_number bytes == accepted) refl
  where
    go : (t : Bool) → (bill_number bytes == accepted) ≡ t → Billed bytes (take n (bill_buffer bytes buffer))
    go true e =
        let says = says-written bytes buffer (leaves (text_of bytes) buffer) (answered (length (text_of bytes)) (length buffer)) (eqb-true (bill_number bytes) accepted e) refl refl in
        subst (λ (x : List ℕ). Billed bytes (take n x)) says.1.0 (says.1.1 n (says.0 ∙ q))
    go false e =
        let says = says-refused bytes buffer (bill_number bytes) refl (eqb-false (bill_number bytes) accepted e) in
        never (bill_number bytes) n (says.0 ∙ q)
