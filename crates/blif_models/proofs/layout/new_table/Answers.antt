use Rattle.std.proofs.Common.{◌≡◌, ◌<◌, ◌+◌, List, Option, None, Some, ℕ, arith, length, ◌∙◌, ap, ◌++◌, ◌∷◌, []}
use Rattle.blif_models.specs.declared.numbered.Spot.{Spot}
use Rattle.blif_models.specs.Layouts.{joined_to, spot}
use Rattle.blif_models.proofs.Tables.{moved, read_at, table_begins, table_joined, table_new}
use Rattle.blif_models.proofs.layout.new_table.Goals as goal
use Rattle.blif_models.proofs.layout.new_table.Goals.{in-Some+in_ok-push, in_default+in_ok-number+in_ok-push-2+in_ok-push-3}

pub loop-name-init : goal.loop-name-init
loop-name-init c = table_begins c.args.spots.now.items c.args.outer.now c.args.copy c.args.model c.args.joins.now c.in_ok-table.table.items c.in_ok-table.ensures.items

pub loop-name-preserved : goal.loop-name-preserved
loop-name-preserved c =
    let old = c.args.spots.now.items in
    let outer = c.args.outer.now in
    let joins = c.args.joins.now in
    let name = c.loop-name.name in
    let spots = c.loop-name.spots.items in
    let table = c.loop-name.table.items in
    let within : name < c.args.names = c.loop-name-test.true in
    let known : (found : Option ℕ) → c.index.result.now ≡ found → joined_to outer joins name ≡ found = λ found e.
    read_at c.in_ok-joined.joined.items name c.index.result.now (joined_to outer joins name) found (omega (arith, within, c.in_ok-joined.ensures.many)) c.index.ensures (c.in_ok-joined.ensures.joined name within) e in
    elim c.match-index.branch [
      | in-Some+in_ok-push w ↦
          moved old outer c.args.copy c.args.model joins (name + 1) spots c.match-index.spots.items (table ++ w.in-Some.number ∷ []) c.match-index.table.items (ap (λ v. v.items) w.spots-is) (ap (λ v. v.items) w.table-is ∙ w.in_ok-push.ensures.items)
          (table_joined old outer c.args.copy c.args.model joins name w.in-Some.number spots table c.requires.outer c.requires.actual (known (Some w.in-Some.number) w.in-Some.is) c.loop-name.invariant)
      | in_default+in_ok-number+in_ok-push-2+in_ok-push-3 w ↦
          let number : w.in_ok-number.number ≡ length spots = w.in_ok-number.ensures ∙ ap (λ (xs : List Spot). length xs) w.deref.ensures.value in
          moved old outer c.args.copy c.args.model joins (name + 1) (spots ++ spot c.args.copy c.args.model name ∷ []) c.match-index.spots.items (table ++ length spots ∷ []) c.match-index.table.items (ap (λ v. v.items) w.spots-is ∙ w.in_ok-push-2.ensures.items)
          (ap (λ v. v.items) w.table-is ∙ w.in_ok-push-3.ensures.items ∙ ap (λ n. table ++ n ∷ []) number) (table_new old outer c.args.copy c.args.model joins name spots table (known None w.in_default.is) c.loop-name.invariant)
    ]
