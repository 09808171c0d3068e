use Rattle.std.proofs.Common.{rules, ◌≡◌, ◌∷◌, [], ◌++◌, map, set, Some, refl, ap, sym, subst, ◌∙◌}
use mathlib.Core.Option.{some}
use Rattle.seat_guard.specs.Rule.{Rule}
use Rattle.seat_guard.specs.Views.{viewed, closing_of}
use Rattle.seat_guard.proofs.Openings.{opens}
use Rattle.seat_guard.proofs.opening.open.Goals as goal

pub new-requires : goal.new-requires
new-requires g c =
    let zero = c.in_ok-words.ensures.items_if_clones_equal (λ y e. e) in
    let written : c.as_slice.result.now ≡ set c.in_ok-words.words.items 24 c.args.key.now.sessions = search rules in
    subst (λ l. Rule g.S.Content.keeps g.S.Content.board g.S.Content.counts g.S.Content.orders (record { words = c.as_slice.result.now; homes = map some l; views = viewed (closing_of c.args.key.now) ∷ [] }))
    (sym (c.in_ok-push.ensures.items ∙ ap (λ l. l ++ Some c.args.content ∷ []) c.new-slots.ensures.items))
    (opens g.S.Content.keeps g.S.Content.board g.S.Content.counts g.S.Content.orders c.args.content (closing_of c.args.key.now) c.as_slice.result.now (written ∙ ap (λ l. set l 24 c.args.key.now.sessions) zero)
    c.requires.orders c.requires.counts refl refl refl refl refl c.requires.sessions refl refl refl c.requires.cells c.requires.empty c.requires.kept)
