use Rattle.std.proofs.Common.{rules, ap, ◌∙◌}
use Rattle.seat_guard.specs.Passes.{known}
use Rattle.seat_guard.specs.Views.{told_with}
use Rattle.seat_guard.proofs.Keeps.{draws_place}
use Rattle.seat_guard.proofs.seat.Guard.place.Goals as goal

pub fetch_add-requires : goal.fetch_add-requires
fetch_add-requires g c = (search rules, search rules, draws_place g.S.Content.keeps g.S.Content.board g.S.Content.counts g.S.Content.orders _ _ _ g.E.Told.told c.requires.own.1 c.requires.room c.requires.step c.requires.moves)

pub returns-clause-drew : goal.returns-clause-drew
returns-clause-drew g c = let t = c.fetch_add.ensures.2 in (t.0, t.1, ap (λ v. v.draws) t.2)

pub returns-clause-held : goal.returns-clause-held
returns-clause-held g c = λ holds. let t = c.fetch_add.ensures.2 in ap (λ v. v.draws) t.2 ∙ ap (λ now. told_with now (known c.args.pass.now) c.fetch_add.result g.E.Told.told) (t.1 holds)
