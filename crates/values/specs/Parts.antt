-- The parts of a document, each total: of a document of another kind nothing. No place, no reader and no lemma stands here. Assumes nothing.
use Rattle.std.specs.Prelude.{cond, List, [], ℕ, ℤ, pos}
use Rattle.std.proofs.Math.Option.{Option, some, none as nothing}
use Prim.Native.String as Text
use Rattle.text.specs.Ascii.{ascii}
use Rattle.text.specs.Equal.{equal}
use Rattle.messagepack.specs.Document.{Document, Documents, Entries, integer, float, string, binary, array, map, none, empty, entry}

-- an integer, else 0
abbrev pub integer_of : Document → ℤ
integer_of (integer v) = v
integer_of (float bits) = pos 0
integer_of (string t) = pos 0
integer_of (binary t) = pos 0
integer_of (array ds) = pos 0
integer_of (map es) = pos 0

-- a float's bits, else 0
abbrev pub bits_of : Document → ℕ
bits_of (float bits) = bits
bits_of (integer v) = 0
bits_of (string t) = 0
bits_of (binary t) = 0
bits_of (array ds) = 0
bits_of (map es) = 0

-- the bytes of a string or a binary, else none
abbrev pub text_of : Document → List ℕ
text_of (string t) = t
text_of (binary t) = t
text_of (integer v) = []
text_of (float bits) = []
text_of (array ds) = []
text_of (map es) = []

-- the values of an array, else none
abbrev pub items_of : Document → Documents
items_of (array ds) = ds
items_of (integer v) = none
items_of (float bits) = none
items_of (string t) = none
items_of (binary t) = none
items_of (map es) = none

-- the entries of a map, else none
abbrev pub entries_of : Document → Entries
entries_of (map es) = es
entries_of (integer v) = empty
entries_of (float bits) = empty
entries_of (string t) = empty
entries_of (binary t) = empty
entries_of (array ds) = empty

-- the value under a key: the first, though by the rules of a container there is one at most
unfoldable pub look : List ℕ → Entries → Option Document
look k empty = nothing
look k (entry l x es) = cond (equal l k) (some x) (look k es)

-- the value under a key of a map, by its name
abbrev pub under : Text.String → Document → Option Document
under name x = look (ascii name) (entries_of x)

-- the values of an array, if there is one
abbrev pub items_in : Option Document → Documents
items_in (some x) = items_of x
items_in nothing = none
