-- The value of a field as text: how each shape is shown, and the line of a plain value at a place. No lemma stands here. Assumes nothing.
use Rattle.std.specs.Prelude.{cond, Option, Some, None, List, ℕ}
use Rattle.heads.specs.Head.{kind_at}
use Rattle.values.specs.Heads.{is_string, is_float}
use Rattle.views.specs.Plain.{head_end, text_at, text_end, integer_at, bits_at}
use Rattle.views.specs.declared.shapes.Shape.{Shape}
use Rattle.lines.specs.Texts.{number_text}
use Rattle.lines.specs.Decimals.{float_text}
use Rattle.lines.specs.Lines.{line}
use Rattle.lines.specs.Single.{string_text}
use Rattle.sentences.specs.declared.OfPart.{OfPart}
use Rattle.commands.specs.declared.texts.Way.{Way}

-- how a value of a shape is shown, or what is said where it is not
abbrev pub way_of : Option Shape → Way
way_of (Some Shape.Integer) = Way.One
way_of (Some Shape.Float) = Way.One
way_of (Some Shape.String) = Way.Text
way_of (Some Shape.Flat) = Way.Each
way_of (Some Shape.Binary) = Way.Not OfPart.IsBinary
way_of (Some Shape.Nested) = Way.Not OfPart.Nested
way_of None = Way.Not OfPart.NoField

-- the line of the plain value at a place: a string, a float in decimal or an integer
abbrev pub item_text : List ℕ → ℕ → List ℕ
item_text s p =
    cond (is_string (kind_at s p)) (line string_text (text_at s p))
    (cond (is_float (kind_at s p)) (line float_text (bits_at s p))
    (line (number_text 1) (integer_at s p)))

-- where the plain value at a place ends
abbrev pub item_end : List ℕ → ℕ → ℕ
item_end s p = cond (is_string (kind_at s p)) (text_end s p) (head_end s p)
