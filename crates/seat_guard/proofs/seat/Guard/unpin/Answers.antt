use Rattle.std.proofs.Common.{rules, ◌+◌, refl, ap, sym, ◌∙◌, arith}
use Rattle.seat_guard.specs.declared.layout.TheConstants.{COUNTS}
use Rattle.seat_guard.proofs.CountSteps.{unpins_slot}
use Rattle.seat_guard.proofs.seat.Guard.unpin.Goals as goal

pub fetch_sub-requires : goal.fetch_sub-requires
fetch_sub-requires g c = (
  search rules,
  (let w = c.args.pass.now.words_are in let s = ap (λ i. i.words) c.requires.at.0 in let l = c.requires.at.2 in omega (arith, w, s, l)),
  unpins_slot g.S.Content.keeps g.S.Content.board g.S.Content.counts g.S.Content.orders _ _ _ c.requires.at.1 c.args.slot c.requires.at.2 c.requires.hold c.requires.pinned,
)

pub invariant_of-pass : goal.invariant_of-pass
invariant_of-pass g c = let now = c.fetch_sub.ensures.2 c.args.slot refl in record {
  number_is = (c.args.pass.now.number_is.0 ∙ sym (ap (λ m. m.0.draws.session) now), c.args.pass.now.number_is.1);
  given_is = c.args.pass.now.given_is ∙ sym (ap (λ m. m.0.draws.given) now);
  words_are = ap (λ i. i.words) c.fetch_sub.ensures.0 ∙ c.args.pass.now.words_are ∙ sym (ap (λ m. COUNTS + m.0.draws.slots) now);
}

pub returns-clause-own : goal.returns-clause-own
returns-clause-own g c = let now = c.fetch_sub.ensures.2 c.args.slot refl in (c.fetch_sub.ensures.0 ∙ c.requires.at.0, ap (λ m. m.0.draws) now, ap (λ m. m.1) now, ap (λ m. m.0.shares) now)

pub returns-clause-unpinned : goal.returns-clause-unpinned
returns-clause-unpinned g c = ap (λ m. m.0.counts) (c.fetch_sub.ensures.2 c.args.slot refl)
