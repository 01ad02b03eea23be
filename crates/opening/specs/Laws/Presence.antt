-- The set of fields that a file is opened with: the bit of a field says whether the file has it, and so whether its view succeeds.
-- Assumes nothing.
use Rattle.std.specs.Prelude.{◌≡◌, refl, Bool, true, false, cond, ◌||◌, List, [], ◌∷◌, ◌↔◌, ℕ, zero, suc, ◌+◌, ◌*◌, ◌/◌, ◌%◌, ◌^◌, ◌<◌, get_or}
use Rattle.std.proofs.Common.{sym, ap, ◌∙◌, arith, div-one, eq-eqb}
use Rattle.std.proofs.Math.Option.{some}
use Rattle.std.proofs.Math.Nat.{zero-div, pow-succ', div-div-eq-div-mul}
use Rattle.refusal.specs.Table.{accepted, no_such_field}
use Rattle.numbers.specs.BigEndian.{Bytes}
use Rattle.text.specs.Equal.{equal}
use Rattle.messagepack.specs.Document.{Entries, empty, entry}
use Rattle.messagepack.specs.Walk.{container_number}
use Rattle.messagepack.proofs.Laws.Container.{container-exactly}
use Rattle.values.specs.Parts.{look}
use Rattle.views.specs.View.{Viewable, has_key, view_number}
use Rattle.views.specs.Place.{place_of, place_number}
use Rattle.views.specs.Laws.View.{place_of-number}
use Rattle.fields.specs.Types.{Rows, last, row}
use Rattle.fields.specs.Table.{named, field_count}
use Rattle.fields.specs.Tests.{is_there}
use Rattle.fields.specs.Fields.{row_count, names_of, field_names, present, bit, set_of, presence_of}
use Rattle.fields.specs.Laws.Fields.{named_count}
use Rattle.structure.specs.Accepted.{Accepted}
use Rattle.structure.proofs.Laws.Accepted.{accepted-container, one-document}

-- bit i of a set

set-half : (b : Bool) (n : ℕ) → (bit b + n * 2) / 2 ≡ n
set-half true n = omega arith
set-half false n = omega arith

set-odd : (b : Bool) (n : ℕ) → (bit b + n * 2) % 2 ≡ bit b
set-odd true n = omega arith
set-odd false n = omega arith

set-bit : (bs : List Bool) (i : ℕ) → set_of bs / 2 ^ i % 2 ≡ bit (get_or bs i false)
unfolding set_of
set-bit [] i = rw (zero-div (2 ^ i))
set-bit (b ∷ bs) zero = rw (div-one (bit b + set_of bs * 2)) (set-odd b (set_of bs))
set-bit (b ∷ bs) (suc i) = rw (pow-succ' 2 i, ← div-div-eq-div-mul (bit b + set_of bs * 2) 2 (2 ^ i), set-half b (set_of bs)) (set-bit bs i)

present-at : (rows : Rows) (es : Entries) (i : ℕ) → i < row_count rows → get_or (present rows es) i false ≡ is_there (look (get_or (names_of rows) i []) es)
unfolding present row_count names_of
present-at last es i lt = absurd (omega arith)
present-at (row k q t rows) es zero lt = refl
present-at (row k q t rows) es (suc i) lt = present-at rows es i (omega arith)

-- it says whether there is a value under the field's name
pub presence-bit : (es : Entries) (i : ℕ) → i < field_count → presence_of es / 2 ^ i % 2 ≡ bit (is_there (look (get_or field_names i []) es))
unfolding presence_of field_names
presence-bit es i lt = set-bit (present named es) i ∙ ap bit (present-at named es i (omega (arith, named_count)))

-- a key of the entries has a value
has_value : (name : List ℕ) (es : Entries) → has_key name es ≡ is_there (look name es)
unfolding has_key look
has_value name empty = refl
has_value name (entry k x es) = go (equal k name) (has_value name es)
  where
    go : (b : Bool) → has_key name es ≡ is_there (look name es) → b || has_key name es ≡ is_there (cond b (some x) (look name es))
    go true h = refl
    go false h = h

-- a field of an accepted file is in the set exactly when its view succeeds
module _ {s : List ℕ} (bytes : Bytes s) (a : Accepted s) (i : ℕ) (lt : i < field_count) where
  view-number : view_number s (get_or field_names i []) ≡ cond (is_there (look (get_or field_names i []) a.entries)) accepted no_such_field
  unfolding view_number
  view-number = rw (eq-eqb (container_number s) accepted ((container-exactly s bytes).1 (accepted-container a)), one-document a, has_value (get_or field_names i []) a.entries)

  pub field-viewed : (presence_of a.entries / 2 ^ i % 2 ≡ 1) ↔ Viewable s (get_or field_names i [])
  field-viewed = go (is_there (look (get_or field_names i []) a.entries)) (presence-bit a.entries i lt) view-number (place_of-number s (get_or field_names i []) bytes refl)
    where
      go : (b : Bool) → presence_of a.entries / 2 ^ i % 2 ≡ bit b → view_number s (get_or field_names i []) ≡ cond b accepted no_such_field → (place_number (place_of s (get_or field_names i [])) ≡ view_number s (get_or field_names i [])) × ((place_number (place_of s (get_or field_names i [])) ≡ 0) ↔ Viewable s (get_or field_names i [])) → (presence_of a.entries / 2 ^ i % 2 ≡ 1) ↔ Viewable s (get_or field_names i [])
      go true p n v = ((λ e. v.1.0 (v.0 ∙ n)), (λ w. p))
      go false p n v = ((λ e. absurd (omega arith)), (λ w. let z = sym n ∙ sym v.0 ∙ v.1.1 w in absurd (omega arith)))
