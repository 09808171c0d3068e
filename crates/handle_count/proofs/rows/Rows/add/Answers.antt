use Rattle.std.proofs.Common.{refl, ap, arith}
use Rattle.handle_count.specs.RowMaps.{RowMap}
use Rattle.handle_count.proofs.Keeping.{added}
use Rattle.handle_count.proofs.rows.Rows.add.Goals as goal

pub invariant_of-self : goal.invariant_of-self
invariant_of-self c =
    rw (c.put-place.ensures.places_room, c.put-place.ensures.free_room)
    (added c.self.inside.places.items _ c.self.inside.free.items _ c.self.inside.adds c.self.inside.spare c.self.invariant _ c.put-place.new.places.items c.put-place.new.free.items c.put-place.result
    c.put-place.ensures.put refl (omega (arith, c.requires.spare, ap (λ (m : RowMap). m.spare) c.self.view_is)))
