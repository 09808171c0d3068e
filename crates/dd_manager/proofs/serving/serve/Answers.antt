use Rattle.std.proofs.Common.{◌≡◌, Some, refl, sym, subst, ◌∙◌}
use Rattle.store_rows.specs.RowStores.{RowStoreView}
use Rattle.dd_manager.specs.Served.{Serves, Waits}
use Rattle.dd_manager.proofs.Whole.{served-whole}
use Rattle.dd_manager.proofs.serving.serve.Goals as goal

pub serve_whole-left-requires-clause-waits : goal.serve_whole-left-requires-clause-waits
serve_whole-left-requires-clause-waits c =
    let some : Some c.in-Some-take.rows ≡ Some c.serve_there-there.new.rows = sym c.in-Some-take.is ∙ c.take.ensures.value in
    let same : c.serve_there-there.new.rows ≡ c.in-Some-take.rows = cc in
    (c.in-Some.rows, subst (λ (d : RowStoreView). Waits c.asked_by-what.result c.in-Some.rows d) same (c.serve_there-there.ensures.none c.in_default.is).0)

pub returns : goal.returns
returns c =
    let some : Some c.in-Some-take.rows ≡ Some c.serve_there-there.new.rows = sym c.in-Some-take.is ∙ c.take.ensures.value in
    let same : c.in-Some-take.rows ≡ c.serve_there-there.new.rows = cc in
    let waits = c.serve_there-there.ensures.none c.in_default.is in
    served-whole c.args.manager.now (record { number = c.args.manager.now.number; rows = c.serve_whole-left.result.0; lists = c.serve_whole-left.new.lists }) c.args.request c.serve_whole-left.result.1 c.asked_by-what.result c.in-Some.rows
    c.serve_there-there.new.rows c.serve_there-there.new.lists c.in-Some.is c.asked_by-what.ensures waits.0 waits.1
    (subst (λ (d : RowStoreView). Serves c.asked_by-what.result c.args.manager.now.number d c.serve_there-there.new.lists c.args.request c.serve_whole-left.result.0 c.serve_whole-left.new.lists c.serve_whole-left.result.1) same c.serve_whole-left.ensures) refl
