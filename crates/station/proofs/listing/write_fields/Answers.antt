-- The places of the keys lie within the buffer.
use Rattle.std.proofs.Common.{sym, ap, length-take-le}
use Rattle.refusal.specs.Outcome.{numbered}
use Rattle.messagepack.proofs.Laws.Outer.{keys-within}
use Rattle.station.proofs.listing.write_fields.Goals as goal

pub slice_bounds-places-end : goal.slice_bounds-places-end
slice_bounds-places-end c = keys-within _ (numbered c.keys.result) _ _ _ c.keys.ensures.answer c.keys.auto.places (ap numbered c.in-Ok.is)

pub slice_bounds-write_lines-end : goal.slice_bounds-write_lines-end
slice_bounds-write_lines-end c =
    sym (length-take-le _ c.keys.new.places (keys-within _ (numbered c.keys.result) _ _ _ c.keys.ensures.answer c.keys.auto.places (ap numbered c.in-Ok.is)))
