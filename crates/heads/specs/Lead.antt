-- The lead bytes of paper 01, row by row: their kind, and how many bytes of a number follow.
-- The contracts of this crate and the writings of documents cite it. No lemma stands here. Assumes nothing.
use Rattle.std.specs.Prelude.{Bool, cond, ◌&&◌, List, [], ◌∷◌, ℕ, ◌-◌, leb}
use Rattle.heads.specs.declared.Kind.{Kind}

-- the lead bytes from one to another are of a kind, and so many bytes of a number follow each
pub record Row : Type 0 where
  pub from : ℕ
  pub to : ℕ
  pub kind : Kind
  pub more : ℕ

-- a row by its four parts
abbrev pub row : ℕ → ℕ → Kind → ℕ → Row
row f t k m = record { from = f; to = t; kind = k; more = m }

-- paper 01, "Lead bytes", in its order
abbrev pub lead_bytes : List Row
lead_bytes =
    row 0x00 0x7f Kind.Unsigned 0
    ∷ row 0x80 0x8f Kind.Map 0
    ∷ row 0x90 0x9f Kind.Array 0
    ∷ row 0xa0 0xbf Kind.Str 0
    ∷ row 0xc4 0xc4 Kind.Bin 1
    ∷ row 0xc5 0xc5 Kind.Bin 2
    ∷ row 0xc6 0xc6 Kind.Bin 4
    ∷ row 0xca 0xca Kind.Float 4
    ∷ row 0xcc 0xcc Kind.Unsigned 1
    ∷ row 0xcd 0xcd Kind.Unsigned 2
    ∷ row 0xce 0xce Kind.Unsigned 4
    ∷ row 0xd0 0xd0 Kind.Signed 1
    ∷ row 0xd1 0xd1 Kind.Signed 2
    ∷ row 0xd2 0xd2 Kind.Signed 4
    ∷ row 0xd9 0xd9 Kind.Str 1
    ∷ row 0xda 0xda Kind.Str 2
    ∷ row 0xdb 0xdb Kind.Str 4
    ∷ row 0xdc 0xdc Kind.Array 2
    ∷ row 0xdd 0xdd Kind.Array 4
    ∷ row 0xde 0xde Kind.Map 2
    ∷ row 0xdf 0xdf Kind.Map 4
    ∷ row 0xe0 0xff Kind.Signed 0
    ∷ []

-- is b among the lead bytes of a row?
abbrev pub in_row : ℕ → Row → Bool
in_row b r = leb r.from b && leb b r.to

-- the first of the rows that has b, or one that says that b is in none
abbrev pub row_in : ℕ → List Row → Row
row_in b [] = row b b Kind.Outside 0
row_in b (r ∷ rs) = cond (in_row b r) r (row_in b rs)

-- the kind of a lead byte
unfoldable pub kind_of : ℕ → Kind
kind_of b = (row_in b lead_bytes).kind

-- how many bytes of a number follow a lead byte
unfoldable pub more_of : ℕ → ℕ
more_of b = (row_in b lead_bytes).more

-- the number that a lead byte itself holds where none follow: its place in its row
unfoldable pub held_by : ℕ → ℕ
held_by b = b - (row_in b lead_bytes).from
