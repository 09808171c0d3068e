use Rattle.std.proofs.Common.{rules, ◌+◌, refl, ap, sym, ◌∙◌, arith}
use Rattle.seat_guard.specs.declared.layout.TheConstants.{COUNTS}
use Rattle.seat_guard.proofs.CountSteps.{looked_counts, looks_at_count}
use Rattle.seat_guard.proofs.seat.Guard.count_of.Goals as goal

pub load-found-requires : goal.load-found-requires
load-found-requires g c = (
  search rules,
  (let w = c.args.pass.now.words_are in let s = ap (λ i. i.words) c.requires.at.0 in let l = c.requires.at.2 in omega (arith, w, s, l)),
  looks_at_count g.S.Content.keeps g.S.Content.board g.S.Content.counts g.S.Content.orders _ _ _ c.requires.at.1 c.args.slot c.requires.at.2 c.requires.hold,
)

pub invariant_of-pass : goal.invariant_of-pass
invariant_of-pass g c = let now = (looked_counts _ _ _ _ (c.load-found.ensures.2 c.args.slot refl)).1 in record {
  number_is = (c.args.pass.now.number_is.0 ∙ sym (ap (λ m. m.0.draws.session) now), c.args.pass.now.number_is.1);
  given_is = c.args.pass.now.given_is ∙ sym (ap (λ m. m.0.draws.given) now);
  words_are = ap (λ i. i.words) c.load-found.ensures.0 ∙ c.args.pass.now.words_are ∙ sym (ap (λ m. COUNTS + m.0.draws.slots) now);
}

pub returns-clause-own : goal.returns-clause-own
returns-clause-own g c = let now = (looked_counts _ _ _ _ (c.load-found.ensures.2 c.args.slot refl)).1 in (c.load-found.ensures.0 ∙ c.requires.at.0, ap (λ m. m.0.draws) now, ap (λ m. m.1) now, ap (λ m. m.0.shares) now)

pub returns-clause-none : goal.returns-clause-none
returns-clause-none g c = λ none. let t = (c.load-found.ensures.2 c.args.slot refl).0 none in (t.0, (_, ap (λ m. m.0.counts) t.1))

pub returns-clause-pinned : goal.returns-clause-pinned
returns-clause-pinned g c = λ counted pinned. (_, ap (λ m. m.0.counts) ((c.load-found.ensures.2 c.args.slot refl).1 counted pinned))

pub returns-clause-some : goal.returns-clause-some
returns-clause-some g c = λ counted unpinned. let t = (c.load-found.ensures.2 c.args.slot refl).2 counted unpinned in (_, t.0, t.1, t.2, ap (λ m. m.0.counts) t.3)
