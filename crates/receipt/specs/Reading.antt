-- What bytes are read as, by a definition: the numbers at the ends of the lines, if they keep the rules and their text is the bytes; else 29. So
-- nothing but a receipt is read, whatever numbers are tried; that every receipt is read is `reading_of-is` of Laws/Reading.antt. Then the receipt
-- that stands at a place, whatever follows it. No lemma stands here. Assumes nothing.
use Rattle.std.specs.Prelude.{Option, Some, None, Result, Ok, Err, Bool, cond, ◌&&◌, List, [], ◌∷◌, ℕ, ◌+◌, ◌-◌, eqb, length, get_or, drop}
use Rattle.refusal.specs.Table.{receipt_malformed}
use Rattle.text.specs.Equal.{equal, begins}
use Rattle.text.specs.Decimal.{is_digit, with_digit}
use Rattle.receipt.specs.Receipt.{written, rules_kept}
use Rattle.receipt.specs.declared.Receipt.{Receipt}
use Rattle.receipt.specs.declared.Found.{Found}

-- a number with one digit more; as it was where the byte is no digit
abbrev pub with_byte : ℕ → ℕ → ℕ
with_byte n b = cond (is_digit b) (with_digit n (b - 48)) n

-- the numbers at the ends of lines, where n has been read of the first
unfoldable pub line_numbers : List ℕ → ℕ → List ℕ
line_numbers [] n = []
line_numbers (b ∷ bytes) n = cond (eqb b 0x0a) (n ∷ line_numbers bytes 0) (line_numbers bytes (with_byte n b))

-- the first ten numbers as a receipt's, with 0 for each that is not there
abbrev pub receipt_from : List ℕ → Receipt
receipt_from ns = record {
  station = get_or ns 0 0;
  job = get_or ns 1 0;
  verdict = get_or ns 2 0;
  models = get_or ns 3 0;
  chains = get_or ns 4 0;
  groups = get_or ns 5 0;
  atoms = get_or ns 6 0;
  bonds = get_or ns 7 0;
  fields = get_or ns 8 0;
  units = get_or ns 9 0;
}

-- the only receipt that the bytes can be
unfoldable pub read_from : List ℕ → Receipt
read_from bytes = receipt_from (line_numbers bytes 0)

-- the numbers at the ends of the lines, if they keep the rules and their text is the bytes; else 29
unfoldable pub reading_of : List ℕ → Result Receipt ℕ
reading_of bytes =
    cond (rules_kept (read_from bytes) && equal (written (read_from bytes)) bytes) (Ok (read_from bytes)) (Err receipt_malformed)

-- whether a receipt stands at the front of the bytes, whatever follows it
unfoldable pub has_front : List ℕ → Bool
has_front bytes = rules_kept (read_from bytes) && begins (written (read_from bytes)) bytes

-- a receipt that was found, and where it ends
abbrev pub At : Receipt → ℕ → Option Found
At r end = Some (record { receipt = r; end = end })

-- the receipt that stands at a place, and where it ends
unfoldable pub found_at : List ℕ → ℕ → Option Found
found_at bytes at =
    cond (has_front (drop at bytes)) (At (read_from (drop at bytes)) (at + length (written (read_from (drop at bytes))))) None
