use Rattle.std.proofs.Common.{rules, ◌≡◌, ◌∷◌, [], ℕ, List, map, length, Some, ap, sym, subst, ◌∙◌}
use mathlib.Core.Option.{some}
use Rattle.words_rule.specs.Layout.{Shape, word_count, words_of}
use Rattle.words_rule.specs.Openings.{first_view, shape_of}
use Rattle.words_rule.specs.Beginnings.{AreFirst}
use Rattle.words_rule.specs.Rule.{Rule}
use Rattle.words_rule.proofs.NewTables.{begins, three_pushed}
use Rattle.words_rule.proofs.seat.Guard.open.Goals as goal

pub new-requires : goal.new-requires
new-requires g c =
    let words : c.as_slice.result.now ≡ c.in_ok-words.words.items = search rules in
    let shape = c.sizes_of-sizes.ensures.shape in
    let long : length c.as_slice.result.now ≡ word_count (shape_of c.args.key.now) = ap (λ l. length l) words ∙ c.in_ok-words.ensures.long ∙ ap word_count shape in
    let first = subst (λ (y : Shape × List ℕ). AreFirst y.0 (words_of y.0 y.1)) (λ i. (shape i, sym words i)) c.in_ok-words.ensures.first in
    let pushed : c.push-3.new.self.items ≡ Some c.args.board ∷ Some c.args.free ∷ Some c.args.answers ∷ [] = three_pushed _ _ _ _ _ _ _ c.new-slots.ensures.items c.in_ok-push.ensures.items c.in_ok-push-2.ensures.items c.in_ok-push-3.ensures.items in
    subst (λ l. Rule g.S.Content.board g.S.Content.free_slots g.S.Content.memo (record { words = c.as_slice.result.now; homes = map some l; views = first_view c.args.key.now ∷ [] })) (sym pushed)
    (begins g.S.Content.board g.S.Content.free_slots g.S.Content.memo c.args.key.now c.as_slice.result.now c.args.board c.args.free c.args.answers c.requires.few.0 c.requires.few.1 c.requires.few.2 c.requires.room long first c.requires.cells c.requires.free c.requires.roomy c.requires.places c.requires.blank)
