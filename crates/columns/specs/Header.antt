-- A column's header: codec, length and parameter, 32 bits each, and its refusals in their order (14, 15, 16, 17). The letters are
-- those of Table.antt. No lemma stands here. Assumes nothing.
use Rattle.std.specs.Prelude.{Option, Some, None, Result, Ok, Err, Bool, cond, ◌&&◌, List, ◌++◌, ℕ, ◌-◌, length, leb, ltb}
use Rattle.refusal.specs.Table.{column_short, codec_unknown, header_range, payload_size}
use Rattle.numbers.specs.BigEndian.{unsigned_at, bytes_of}
use Rattle.steps.specs.declared.Form.{Form}
use Rattle.columns.specs.declared.Kind.{Kind}
use Rattle.columns.specs.declared.Wanted.{Wanted}
use Rattle.columns.specs.declared.Codec.{Codec}
use Rattle.columns.specs.declared.Header.{Header}
use Rattle.columns.specs.Table.{codec_of, suits, length_limit, parameter_ok, used, size_right}

-- the bytes of a header; the payload follows
abbrev pub header_size : ℕ
header_size = 12

-- a header that passes, by its length, parameter, kind, form and delta
abbrev pub header_with : ℕ → ℕ → Kind → Form → Bool → Result Header ℕ
header_with n m k f d = Ok (record { length = n; parameter = m; kind = k; form = f; delta = d })

-- The rules of a header with length n, parameter m and b bytes of payload. The three fields are read as the 32 bits they are: a
-- negative number is then above every limit.
abbrev pub judged : Wanted → Option Codec → ℕ → ℕ → ℕ → Result Header ℕ
judged w None n m b = Err codec_unknown
judged w (Some c) n m b =
    cond (suits w c.kind)
    (cond (leb n length_limit && parameter_ok c.parameter m)
    (cond (size_right c.form n m b) (header_with n (used c.parameter m) c.kind c.form c.delta) (Err payload_size))
    (Err header_range))
    (Err codec_unknown)

-- the header of a column
unfoldable pub header_of : Wanted → List ℕ → Result Header ℕ
header_of w s =
    cond (ltb (length s) header_size) (Err column_short)
    (judged w (codec_of (unsigned_at 4 s 0)) (unsigned_at 4 s 4) (unsigned_at 4 s 8) (length s - header_size))

-- a header as it is written
abbrev pub header_bytes : ℕ → ℕ → ℕ → List ℕ
header_bytes c n m = bytes_of 4 c ++ (bytes_of 4 n ++ bytes_of 4 m)
