-- What the functions inside this crate say of the named fields of a walked file. No lemma stands here. Assumes nothing.
use Rattle.std.specs.Prelude.{◌≡◌, Err, cond, List, [], ℕ, ◌-◌, ◌<◌, eqb, get_or}
use Rattle.refusal.specs.Table.{accepted, no_such_field}
use Rattle.heads.specs.Head.{kind_at, head_at}
use Rattle.messagepack.specs.Rules.{Container}
use Rattle.messagepack.specs.Walk.{container_number}
use Rattle.values.specs.declared.Part.{Part}
use Rattle.views.specs.Place.{Place, some_part, is_text, body_place, place_of}
use Rattle.fields.specs.Table.{field_count}
use Rattle.fields.specs.Fields.{field_names}
use Rattle.fields.specs.Noted.{Noted}
use Rattle.fields.specs.declared.Fields.{Fields}
use Rattle.opening.specs.Opening.{part_start, part_length}

-- the place of the part that shows the value which stands from one place up to another: the body of a string or a binary, else the whole; at
-- place 0, where no field's value stands, there is none
abbrev pub span_place : List ℕ → ℕ → ℕ → Place
span_place file at end =
    cond (eqb at 0) (Err no_such_field) (cond (is_text (kind_at file at)) (body_place (head_at file at)) (some_part at (end - at)))

-- a place as a part
abbrev pub as_part : Place → Part
as_part p = record { at = part_start p; count = part_length p }

-- the views of the named fields are those of the spans that are noted
pub record SpansSay (file places ends : List ℕ) : Type 0 where
  pub says : (i : ℕ) → i < field_count → place_of file (get_or field_names i []) ≡ span_place file (get_or places i 0) (get_or ends i 0)

-- a container whose named fields are noted
pub record Ready (file : List ℕ) (noted : Fields) : Type 0 where
  pub container : Container file
  pub passed : container_number file ≡ accepted
  pub fields : Noted file container.entries noted
  pub spans : SpansSay file noted.places noted.ends
