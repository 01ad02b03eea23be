-- A station or a job out of range, too little room, or the page's bytes in the buffer. Assumes nothing.
use mathlib.Core.Path.{◌≡◌, ap, sym, subst, ◌∙◌}
use mathlib.Core.Bool.{true, false}
use Prim.Native.Nat.{ℕ, ◌<◌, ◌≤◌}
use native.Mathlib.Omega.{arith}
use lib.ListN.{length}
use Rattle.numbers.specs.Laws.BigEndian.{bytes-of}
use Rattle.std.specs.Prelude.{Ok}
use Rattle.refusal.specs.Outcome.{numbered as with_number}
use Rattle.receipt.specs.Receipt.{numbered}
use Rattle.receipt.specs.File.{receipt_text}
use Rattle.receipt.specs.Laws.File.{answered-29, leaves-29, answered-25, leaves-25, answered-written, page-text, buffer-left, call-says}
use Rattle.receipt.proofs.write.Goals as goal

pub returns-then-not-is_numbered : goal.returns-then-not-is_numbered
returns-then-not-is_numbered c =
    let a = c.args in
    let bytes = bytes-of a.file.now (λ i. omega (arith, c.shared_slice_known-1.given i)) in
    let h : numbered a.station a.job ≡ false = sym c.is_numbered.ensures ∙ c.if-not-is_numbered.true in
    let whole = call-says a.station a.job a.file.now a.buffer.now _ _ bytes (answered-29 _ _ _ _ h) (leaves-29 _ _ _ _ h) in
    record { answer = whole.0; buffer = whole.1.0; receipt = λ n e. whole.1.1 n (ap with_number e) }

pub returns-then-buffer-end : goal.returns-then-buffer-end
returns-then-buffer-end c =
    let a = c.args in
    let bytes = bytes-of a.file.now (λ i. omega (arith, c.shared_slice_known-1.given i)) in
    let h : numbered a.station a.job ≡ true = sym c.is_numbered.ensures ∙ c.if-not-is_numbered.false in
    let page = page-text a.station a.job a.file.now c.receipt_of.ensures c.blank-page.ensures c.put_receipt-end.ensures in
    let short = subst (λ (k : ℕ). length a.buffer.now < k) page.0 c.if-buffer-end.true in
    let whole = call-says a.station a.job a.file.now a.buffer.now _ _ bytes (answered-25 _ _ _ _ h short) (leaves-25 _ _ _ _ h short) in
    record { answer = whole.0; buffer = whole.1.0; receipt = λ n e. whole.1.1 n (ap with_number e) }

pub returns : goal.returns
returns c =
    let a = c.args in
    let bytes = bytes-of a.file.now (λ i. omega (arith, c.shared_slice_known-1.given i)) in
    let h : numbered a.station a.job ≡ true = sym c.is_numbered.ensures ∙ c.if-not-is_numbered.false in
    let page = page-text a.station a.job a.file.now c.receipt_of.ensures c.blank-page.ensures c.put_receipt-end.ensures in
    let room : length (receipt_text a.station a.job a.file.now) ≤ length a.buffer.now = subst (λ (k : ℕ). k ≤ length a.buffer.now) page.0 c.if-buffer-end.false in
    let whole = call-says a.station a.job a.file.now a.buffer.now _ _ bytes (ap Ok page.0 ∙ answered-written _ _ _ _ h room)
    (buffer-left a.station a.job a.file.now h room page.1 c.put.ensures) in
    record { answer = whole.0; buffer = whole.1.0; receipt = λ n e. whole.1.1 n (ap with_number e) }
