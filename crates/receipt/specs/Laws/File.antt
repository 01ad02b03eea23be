-- The receipt of a file: that of its document or of its number, one by the rules, and what is written of it.
-- Assumes nothing.
use Rattle.std.specs.Prelude.{◌≡◌, refl, Result, Ok, Err, Bool, true, false, List, ◌++◌, ◌⊎◌, ℕ, ◌<◌, ◌≤◌, eqb, leb, length, take, drop}
use Rattle.std.proofs.Common.{sym, ap, subst, ◌∙◌, inl, inr, ⊎_elim, arith, take_at}
use Rattle.std.specs.Int.Count.{ones}
use borrow.Author.Tests.{ne_eqb, eqb-true, eqb-false, le-leb, lt-leb, leb-true, leb-false}
use Rattle.refusal.specs.Table.{buffer_too_small, receipt_malformed}
use Rattle.numbers.specs.BigEndian.{Bytes}
use Rattle.counts.specs.Counts.{count_limit}
use Rattle.text.specs.Put.{Put}
use Rattle.text.specs.Laws.Put.{put_all}
use Rattle.structure.specs.Accepted.{Accepted, verdict_of}
use Rattle.structure.specs.Summary.{accepted_summary, refused, summary_of}
use Rattle.structure.proofs.Laws.Accepted.{accepted-exactly}
use Rattle.structure.proofs.Laws.Summary.{verdict-most, verdict-refused, summary-accepted, summary-refused, accepted-few, accepted-fields}
use Rattle.structure.specs.declared.Summary.{Summary}
use Rattle.receipt.specs.declared.Receipt.{Receipt}
use Rattle.receipt.specs.Receipt.{verdict_limit, fields_least, fields_most, receipt_limit, page_room, numbered, written, rules_kept}
use Rattle.receipt.specs.Laws.Rules.{page-holds, receipt-most}
use Rattle.receipt.specs.File.{units_of, receipt_by, ReceiptOf, accepts, refuses, Receipted, receipt_text, receipt_answer, receipt_buffer}

-- The receipt's numbers

-- a file is accepted or not
decided : (s : List ℕ) → Bytes s → Accepted s ⊎ (Accepted s → ⊥)
decided s bytes = go (eqb (verdict_of s) 0) refl
  where
    go : (t : Bool) → eqb (verdict_of s) 0 ≡ t → Accepted s ⊎ (Accepted s → ⊥)
    go true e = inl ((accepted-exactly s bytes).0 (eqb-true (verdict_of s) 0 e))
    go false e = inr (λ a. eqb-false (verdict_of s) 0 e ((accepted-exactly s bytes).1 a))

-- what is said of a file is its receipt
pub receipt-of : (station job : ℕ) (s : List ℕ) → Bytes s → ReceiptOf station job s (receipt_by station job (summary_of s))
receipt-of station job s bytes =
    ⊎_elim (λ a. subst (λ (x : Summary). ReceiptOf station job s (receipt_by station job x)) (sym (summary-accepted s bytes a)) (accepts a))
    (λ h. subst (λ (x : Summary). ReceiptOf station job s (receipt_by station job x)) (sym (summary-refused s bytes h)) (refuses h)) (decided s bytes)

-- it keeps the rules

rules-accepted : {s : List ℕ} (station job : ℕ) (a : Accepted s) → numbered station job ≡ true → rules_kept (receipt_by station job (accepted_summary a.entries)) ≡ true
unfolding rules_kept
rules-accepted station job a h =
    let few = accepted-few a in
    let fields = accepted-fields a in
    rw (
      h,
      le-leb _ count_limit few.models,
      le-leb _ count_limit few.chains,
      le-leb _ count_limit few.groups,
      le-leb _ count_limit few.atoms,
      le-leb _ count_limit few.bonds,
      le-leb fields_least _ fields.0,
      le-leb _ fields_most fields.1,
    )

no_ones : ones 0 ≡ 0
unfolding ones
no_ones = refl

rules-refused : (station job n : ℕ) → numbered station job ≡ true → n ≤ verdict_limit → (n ≡ 0 → ⊥) → rules_kept (receipt_by station job (refused n)) ≡ true
unfolding rules_kept
rules-refused station job n h l z = rw (h, le-leb n verdict_limit l, ne_eqb n 0 z, no_ones)

pub rules-kept : (station job : ℕ) (s : List ℕ) → Bytes s → numbered station job ≡ true → rules_kept (receipt_by station job (summary_of s)) ≡ true
rules-kept station job s bytes h =
    ⊎_elim (λ a. subst (λ (x : Summary). rules_kept (receipt_by station job x) ≡ true) (sym (summary-accepted s bytes a)) (rules-accepted station job a h))
    (λ n. subst (λ (x : Summary). rules_kept (receipt_by station job x) ≡ true) (sym (summary-refused s bytes n))
    (rules-refused station job (verdict_of s) h (verdict-most s) (verdict-refused s bytes n))) (decided s bytes)

pub text-receipted : (station job : ℕ) (s : List ℕ) → Bytes s → numbered station job ≡ true → Receipted station job s (receipt_text station job s)
unfolding receipt_text
text-receipted station job s bytes h = record {
  receipt = receipt_by station job (summary_of s);
  of = receipt-of station job s bytes;
  is = record { rules = rules-kept station job s bytes h; text = refl };
}

-- it is not longer than the longest
pub text-most : (station job : ℕ) (s : List ℕ) → Bytes s → numbered station job ≡ true → length (receipt_text station job s) ≤ receipt_limit
unfolding receipt_text
text-most station job s bytes h = receipt-most (receipt_by station job (summary_of s)) (rules-kept station job s bytes h)

-- The cases of writing

module _ (station job : ℕ) (s : List ℕ) where
  -- station or job out of range

  pub answered-29 : (n : ℕ) → numbered station job ≡ false → Err receipt_malformed ≡ receipt_answer station job s n
  unfolding receipt_answer
  answered-29 n h = rw h

  pub leaves-29 : (buffer : List ℕ) → numbered station job ≡ false → buffer ≡ receipt_buffer station job s buffer
  unfolding receipt_buffer
  leaves-29 buffer h = rw h

  -- too little room

  pub answered-25 : (n : ℕ) → numbered station job ≡ true → n < length (receipt_text station job s) → Err buffer_too_small ≡ receipt_answer station job s n
  unfolding receipt_answer
  answered-25 n h l = rw (h, lt-leb (length (receipt_text station job s)) n l)

  pub leaves-25 : (buffer : List ℕ) → numbered station job ≡ true → length buffer < length (receipt_text station job s) → buffer ≡ receipt_buffer station job s buffer
  unfolding receipt_buffer
  leaves-25 buffer h l = rw (h, lt-leb (length (receipt_text station job s)) (length buffer) l)

  -- room enough

  pub answered-written : (n : ℕ) → numbered station job ≡ true → length (receipt_text station job s) ≤ n → Ok (length (receipt_text station job s)) ≡ receipt_answer station job s n
  unfolding receipt_answer
  answered-written n h l = rw (h, le-leb (length (receipt_text station job s)) n l)

  pub leaves-written : (buffer : List ℕ) → numbered station job ≡ true → length (receipt_text station job s) ≤ length buffer
      → receipt_text station job s ++ drop (length (receipt_text station job s)) buffer ≡ receipt_buffer station job s buffer
  unfolding receipt_buffer
  leaves-written buffer h l = rw (h, le-leb (length (receipt_text station job s)) (length buffer) l)

-- answers of different cases differ, and those of one case agree in their number

never : {A : Type 0} (o : Result ℕ ℕ) (r n : ℕ) → Err r ≡ o → o ≡ Ok n → A
never o r n p q = let z : ◌≡◌ {A = ℕ} 0 1 = cc in absurd (omega arith)

same : (o : Result ℕ ℕ) (m n : ℕ) → Ok m ≡ o → o ≡ Ok n → m ≡ n
same o m n p q = cc

refusals : (a b : ℕ) → ◌≡◌ {A = Result ℕ ℕ} (Err a) (Err b) → a ≡ b
refusals a b p = cc

-- a refusal has a number
pub answered-number : (station job : ℕ) (s : List ℕ) (n r : ℕ) → Err r ≡ receipt_answer station job s n → r ≡ 0 → ⊥
answered-number station job s n r q z = go (numbered station job) refl (leb (length (receipt_text station job s)) n) refl
  where
    go : (t : Bool) → numbered station job ≡ t → (u : Bool) → leb (length (receipt_text station job s)) n ≡ u → ⊥
    go false e u f = let d : r ≡ receipt_malformed = refusals r receipt_malformed (q ∙ sym (answered-29 station job s n e)) in omega arith
    go true e false f = let d : r ≡ buffer_too_small = refusals r buffer_too_small (q ∙ sym (answered-25 station job s n e (leb-false (length (receipt_text station job s)) n f))) in omega arith
    go true e true f = never (Err r) r (length (receipt_text station job s)) refl (q ∙ sym (answered-written station job s n e (leb-true (length (receipt_text station job s)) n f)))

-- what is written fits
pub answered-fits : (station job : ℕ) (s : List ℕ) (n m : ℕ) → receipt_answer station job s n ≡ Ok m → m ≤ n
answered-fits station job s n m q = go (numbered station job) refl (leb (length (receipt_text station job s)) n) refl
  where
    go : (t : Bool) → numbered station job ≡ t → (u : Bool) → leb (length (receipt_text station job s)) n ≡ u → m ≤ n
    go false e u f = never (receipt_answer station job s n) receipt_malformed m (answered-29 station job s n e) q
    go true e false f = never (receipt_answer station job s n) buffer_too_small m (answered-25 station job s n e (leb-false (length (receipt_text station job s)) n f)) q
    go true e true f =
        let l = leb-true (length (receipt_text station job s)) n f in
        let d = same (receipt_answer station job s n) (length (receipt_text station job s)) m (answered-written station job s n e l) q in
        omega arith

-- a buffer with room for the longest receipt is never too small
pub answered-room : (station job : ℕ) (s : List ℕ) (n : ℕ) → Bytes s → receipt_limit ≤ n → receipt_answer station job s n ≡ Err buffer_too_small → ⊥
answered-room station job s n bytes l q = go (numbered station job) refl
  where
    go : (t : Bool) → numbered station job ≡ t → ⊥
    go false e = let d : ◌≡◌ {A = ℕ} receipt_malformed buffer_too_small = refusals receipt_malformed buffer_too_small (answered-29 station job s n e ∙ q) in omega arith
    go true e =
        let m = text-most station job s bytes e in
        never (receipt_answer station job s n) buffer_too_small (length (receipt_text station job s)) (sym q) (sym (answered-written station job s n e (omega arith)))

-- What is written is the receipt of the file

pub receipt-left : (station job : ℕ) (s buffer : List ℕ) (n : ℕ) → Bytes s → receipt_answer station job s (length buffer) ≡ Ok n
    → Receipted station job s (take n (receipt_buffer station job s buffer))
receipt-left station job s buffer n bytes q = go (numbered station job) refl (leb (length text) (length buffer)) refl
  where
    text : List ℕ
    text = receipt_text station job s

    go : (t : Bool) → numbered station job ≡ t → (u : Bool) → leb (length text) (length buffer) ≡ u → Receipted station job s (take n (receipt_buffer station job s buffer))
    go false e u f = never (receipt_answer station job s (length buffer)) receipt_malformed n (answered-29 station job s (length buffer) e) q
    go true e false f = never (receipt_answer station job s (length buffer)) buffer_too_small n (answered-25 station job s (length buffer) e (leb-false (length text) (length buffer) f)) q
    go true e true f =
        let l = leb-true (length text) (length buffer) f in
        let m : length text ≡ n = same (receipt_answer station job s (length buffer)) (length text) n (answered-written station job s (length buffer) e l) q in
        let t : take n (receipt_buffer station job s buffer) ≡ text = ap (take n) (sym (leaves-written station job s buffer e l)) ∙ take_at text (drop (length text) buffer) n m in
        subst (Receipted station job s) (sym t) (text-receipted station job s bytes e)

-- One unit if the file is accepted, none if not

pub unit-accepted : {station job : ℕ} {s : List ℕ} {r : Receipt} → ReceiptOf station job s r → Accepted s → r.units ≡ 1
unit-accepted (accepts b) a = refl
unit-accepted (refuses h) a = absurd (h a)

units-none : (n : ℕ) → (n ≡ 0 → ⊥) → units_of n ≡ 0
units-none n h = rw (ne_eqb n 0 h)

pub unit-refused : {station job : ℕ} {s : List ℕ} {r : Receipt} → Bytes s → ReceiptOf station job s r → (Accepted s → ⊥) → r.units ≡ 0
unit-refused bytes (accepts b) h = absurd (h b)
unit-refused {station} {job} {s} bytes (refuses g) h = units-none (verdict_of s) (verdict-refused s bytes h)

-- What a call says and leaves

-- the bytes on a page, where a file's receipt has been put
pub page-text : {old new : List ℕ} {next : ℕ} {r : Receipt} (station job : ℕ) (s : List ℕ) → r ≡ receipt_by station job (summary_of s) → length old ≡ page_room
    → Put old 0 (written r) new next → (next ≡ length (receipt_text station job s)) × (take next new ≡ receipt_text station job s)
unfolding receipt_text
page-text {old} {new} {next} {r} station job s e l p =
    let page = page-holds r l p in
    (page.0 ∙ ap (λ (x : Receipt). length (written x)) e, page.1 ∙ ap written e)

-- the text of the receipt, put into the buffer
pub buffer-left : {buffer new page : List ℕ} {next : ℕ} (station job : ℕ) (s : List ℕ) → numbered station job ≡ true → length (receipt_text station job s) ≤ length buffer
    → page ≡ receipt_text station job s → Put buffer 0 page new next → new ≡ receipt_buffer station job s buffer
buffer-left {buffer} {new} {page} {next} station job s h l e p =
    let q = subst (λ (x : List ℕ). Put buffer 0 x new next) e p in
    (put_all q l).1 ∙ leaves-written station job s buffer h l

-- the answer and the buffer give the receipt
pub call-says : (station job : ℕ) (s buffer new : List ℕ) (r : Result ℕ ℕ) → Bytes s → r ≡ receipt_answer station job s (length buffer) → new ≡ receipt_buffer station job s buffer
    → (r ≡ receipt_answer station job s (length buffer)) × ((new ≡ receipt_buffer station job s buffer) × ((n : ℕ) → r ≡ Ok n → Receipted station job s (take n new)))
call-says station job s buffer new r bytes e f =
    (e, (f, λ n q. subst (λ (x : List ℕ). Receipted station job s (take n x)) (sym f) (receipt-left station job s buffer n bytes (sym e ∙ q))))
