-- Laws of the verdict in a receipt: it is the verdict on the file. Assumes nothing.
use Rattle.std.specs.Prelude.{◌≡◌, refl, List, ℕ, ◌%◌}
use Rattle.std.proofs.Common.{sym, ◌∙◌, ap, arith}
use Rattle.numbers.specs.BigEndian.{Bytes}
use Rattle.structure.specs.Accepted.{verdict_of}
use Rattle.structure.proofs.Laws.Accepted.{accepted-exactly}
use Rattle.structure.proofs.Laws.Summary.{verdict-most}
use Rattle.receipt.specs.File.{ReceiptOf, accepts, refuses, Receipted}
use Rattle.receipt.specs.Reading.{reading_of}
use Rattle.receipt.specs.Laws.Reading.{reading-exactly}
use Rattle.receipt.specs.declared.Receipt.{Receipt}
use Rattle.station.specs.Receipts.{verdict_in}

-- the verdict of a file's receipt
verdict-of : {station job : ℕ} {s : List ℕ} {r : Receipt} → Bytes s → ReceiptOf station job s r → r.verdict ≡ verdict_of s
verdict-of {s = s} b (accepts a) = sym ((accepted-exactly s b).1 a)
verdict-of b (refuses h) = refl

-- the verdict that is read from a receipt of a file
pub verdict-read : {station job : ℕ} {s bytes : List ℕ} → Bytes s → Receipted station job s bytes → verdict_in (reading_of bytes) ≡ verdict_of s
verdict-read {s = s} {bytes = bytes} b h =
    let e = (reading-exactly bytes h.receipt).1 h.is in
    let v = verdict-of b h.of in
    let m = verdict-most s in
    let d : h.receipt.verdict % 256 ≡ verdict_of s = omega arith in
    ap verdict_in e ∙ d
