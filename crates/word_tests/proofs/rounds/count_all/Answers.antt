use Rattle.std.proofs.Common.{refl, ap, ◌∙◌, arith}
use Rattle.words_rule.specs.declared.view.View.{View}
use Rattle.words_rule.specs.Passes.{view}
use Rattle.word_tests.proofs.Counting.{noted_more}
use Rattle.word_tests.proofs.rounds.count_all.Goals as goal

pub loop-slot-init : goal.loop-slot-init
loop-slot-init c = record { own = c.requires.own.0; out = refl; noted = (_, _, refl) }

pub load_count-requires-clause-own : goal.load_count-requires-clause-own
load_count-requires-clause-own c = (c.loop-slot.invariant.own, ap (λ (v : View). v.draws.live) c.loop-slot.invariant.noted.2 ∙ c.requires.own.1)

pub load_count-requires-clause-within : goal.load_count-requires-clause-within
load_count-requires-clause-within c = let lt = c.loop-slot-test.true in let e = ap (λ (v : View). v.draws.slots) c.loop-slot.invariant.noted.2 ∙ c.requires.slots in omega (arith, lt, e)

pub load_count-requires-clause-hold : goal.load_count-requires-clause-hold
load_count-requires-clause-hold c = ap (λ (v : View). v.shares.order) c.loop-slot.invariant.noted.2 ∙ c.requires.hold

pub loop-slot-preserved : goal.loop-slot-preserved
loop-slot-preserved c = record {
  own = c.load_count.ensures.own.0;
  out = c.load_count.ensures.own.1 ∙ c.loop-slot.invariant.out;
  noted = noted_more c.loop-slot.slot c.load_count.result (view c.args.pass.now) (view c.loop-slot.pass) (view c.load_count.new.pass) c.loop-slot.invariant.noted c.load_count.ensures.counted;
}
