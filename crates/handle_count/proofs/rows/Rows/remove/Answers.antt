use Rattle.std.proofs.Common.{◌≡◌, List, Option, None, Some, IsSome, get_or, set, ap, sym, subst, ◌∙◌}
use Rattle.handle_count.specs.declared.rows.Row.{Row}
use Rattle.handle_count.specs.RowMaps.{RowMap, IsWithOne, find_row, live_from}
use Rattle.handle_count.proofs.Keeping.{gone, has_row, removed, without_it}
use Rattle.handle_count.proofs.rows.Rows.remove.Goals as goal
use Rattle.handle_count.proofs.rows.Rows.remove.Goals.{After-self-2-1}

-- the row that stands at the name's place
stands : (c : After-self-2-1) → get_or c.self.inside.places.items c.args.h.row None ≡ Some c.in-Some.row
stands c = ap (λ (ps : List (Option Row)). get_or ps c.args.h.row None) (sym c.deref.ensures.value) ∙ sym c.row_at.ensures ∙ c.in-Some.is

is_live : (c : After-self-2-1) → IsSome (find_row (live_from 0 c.self.inside.places.items) c.args.h)
is_live c = subst (λ (m : RowMap). IsSome (find_row m.live c.args.h)) (sym c.self.view_is) c.requires

pub unreachable-requires : goal.unreachable-requires
unreachable-requires c =
    let row = has_row c.self.inside.places.items c.args.h (subst (λ (m : RowMap). IsSome (find_row m.live c.args.h)) (sym c.self.view_is) c.requires) in
    let none : None ≡ Some row.0 = c.in_default.ensures ∙ ap (λ (ps : List (Option Row)). get_or ps c.args.h.row None) c.deref.ensures.value ∙ row.1 in cc

pub invariant_of-self : goal.invariant_of-self
invariant_of-self c =
    let now = removed c.self.inside.places.items c.self.inside.places.cap c.self.inside.free.items c.self.inside.free.cap c.self.inside.adds c.self.inside.spare c.self.invariant c.in-Some.row c.args.h.row (stands c) in
    rw (c.push_reserved.ensures.capacity, c.push_reserved.ensures.items) now

pub returns-clause-removed : goal.returns-clause-removed
returns-clause-removed c =
    let held = has_row c.self.inside.places.items c.args.h (is_live c) in
    let same : c.in-Some.row ≡ held.0 = (let e : Some c.in-Some.row ≡ Some held.0 = sym (stands c) ∙ held.1 in cc) in
    let one = without_it c.self.inside.places.items c.self.inside.places.cap c.self.inside.free.items c.self.inside.free.cap c.self.inside.adds c.self.inside.spare c.self.invariant c.in-Some.row c.args.h.row (stands c) in
    subst (λ (m : RowMap). IsWithOne (live_from 0 (set c.self.inside.places.items c.args.h.row None)) (record { name = c.args.h; kind = c.in-Some.row.kind; edge = c.in-Some.row.edge }) m.live) c.self.view_is
    (subst (λ g. IsWithOne (live_from 0 (set c.self.inside.places.items c.args.h.row None)) (record { name = record { row = c.args.h.row; generation = g }; kind = c.in-Some.row.kind; edge = c.in-Some.row.edge }) (live_from 0 c.self.inside.places.items))
    (ap (λ (r : Row). r.generation) same ∙ sym held.2) one)

pub returns-clause-gone : goal.returns-clause-gone
returns-clause-gone c = gone c.self.inside.places.items c.args.h
