use Rattle.std.proofs.Common.{List, Option, None, get_or, ap, sym, ◌∙◌}
use Rattle.handle_count.specs.declared.rows.Row.{Row}
use Rattle.handle_count.specs.RowMaps.{RowMap, find_row}
use Rattle.handle_count.proofs.Keeping.{finds, is_found, is_not_found}
use Rattle.handle_count.proofs.rows.Rows.row_of.Goals as goal

pub returns-in_default : goal.returns-in_default
returns-in_default c =
    sym (finds c.self.inside.places.items c.args.h None (ap (λ (ps : List (Option Row)). get_or ps c.args.h.row None) (sym c.deref.ensures.value) ∙ sym c.in_default.ensures))
    ∙ ap (λ (m : RowMap). find_row m.live c.args.h) c.self.view_is

pub returns-then-row-h : goal.returns-then-row-h
returns-then-row-h c =
    sym (is_found c.self.inside.places.items c.args.h c.in-Some.row (ap (λ (ps : List (Option Row)). get_or ps c.args.h.row None) (sym c.deref.ensures.value) ∙ sym c.row_at.ensures ∙ c.in-Some.is) c.if-row-h.true)
    ∙ ap (λ (m : RowMap). find_row m.live c.args.h) c.self.view_is

pub returns-else-row-h : goal.returns-else-row-h
returns-else-row-h c =
    sym (is_not_found c.self.inside.places.items c.args.h c.in-Some.row (ap (λ (ps : List (Option Row)). get_or ps c.args.h.row None) (sym c.deref.ensures.value) ∙ sym c.row_at.ensures ∙ c.in-Some.is) c.if-row-h.false)
    ∙ ap (λ (m : RowMap). find_row m.live c.args.h) c.self.view_is
