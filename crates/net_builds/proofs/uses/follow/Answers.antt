use Rattle.std.proofs.Common.{◌≡◌, ◌<◌, ◌+◌, ◌-◌, ◌∙◌, ap, arith, subst, sym, length, All, List, ℕ, get_or}
use Rattle.cover_nets.specs.declared.net.Cover.{Cover}
use Rattle.net_builds.specs.Uses.{Raises}
use Rattle.net_builds.proofs.UseLemmas.{follows-more, reads_before, told-more}
use Rattle.net_builds.proofs.uses.follow.Goals as goal

-- the signals that the gate at hand reads
ins_are : (c : goal.After-as_slice) → c.as_slice.result.now ≡ (get_or c.args.net.now.gates (c.loop-left.left - 1) c.index-gates-left.result).ins
ins_are c = c.as_slice.ensures ∙ ap (λ (gates : List Cover). (get_or gates (c.loop-left.left - 1) c.index-gates-left.result).ins) c.gates.ensures

pub raise-requires : goal.raise-requires
raise-requires c = subst (λ (ins : List ℕ). All (λ signal. signal < length c.loop-left.last) ins) (sym (ins_are c))
    (λ k d less. let before = reads_before c.args.net.now c.requires.ordered (c.loop-left.left - 1) c.index-gates-left.result (omega (arith, c.loop-left.invariant.within, c.loop-left-test.true)) k d less in
    omega (arith, before, c.loop-left.invariant.long, c.loop-left.invariant.within, c.loop-left-test.true))

pub loop-left-preserved-then-last-reader-ne0 : goal.loop-left-preserved-then-last-reader-ne0
loop-left-preserved-then-last-reader-ne0 c =
    let net = c.args.net.now in
    let i = c.loop-left.left - 1 in
    let reader : length c.inputs-inputs.result.now + i ≡ length net.inputs + i = ap (λ n. n + i) c.loop-left.invariant.inputs in
    let ins_here : c.as_slice.result.now ≡ (get_or net.gates i c.index-gates-left.result).ins =
    c.as_slice.ensures ∙ ap (λ (gates : List Cover). (get_or gates i c.index-gates-left.result).ins) c.gates.ensures in
    let raises : Raises (get_or net.gates i c.index-gates-left.result).ins (length net.inputs + i) c.loop-left.last c.raise.new.last =
    subst (λ (x : List ℕ × ℕ). Raises x.0 x.1 c.loop-left.last c.raise.new.last) (λ k. (ins_here k, reader k)) c.raise.ensures in
    record {
      within = omega (arith, c.loop-left.invariant.within);
      inputs = c.loop-left.invariant.inputs;
      long = raises.long ∙ c.loop-left.invariant.long;
      raised = λ s. omega (arith, c.loop-left.invariant.raised s, raises.raised s);
      reads = follows-more net i c.index-gates-left.result c.loop-left.last c.raise.new.last c.requires.ordered (omega (arith, c.loop-left.invariant.within, c.loop-left-test.true))
          (λ j gate from at used. c.loop-left.invariant.reads j gate (omega (arith, from, c.loop-left-test.true)) at used) raises;
      told = told-more net i c.index-gates-left.result c.args.last.now c.loop-left.last c.raise.new.last (omega (arith, c.loop-left.invariant.within, c.loop-left-test.true))
          (λ none. c.if-last-reader-ne0.true (ap (λ n. get_or c.loop-left.last n 0) reader ∙ none)) c.loop-left.invariant.told raises;
    }
