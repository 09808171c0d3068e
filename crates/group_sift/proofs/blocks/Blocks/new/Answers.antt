use Rattle.std.proofs.Common.{◌≡◌, true, not, get_or, ◌∙◌, ap, refl, sym, arith}
use Rattle.std.specs.Result.{is_ok}
use Rattle.function_laws.specs.declared.orders.Mode.TheVariants.{Default}
use Rattle.group_sift.specs.declared.turns.BlockEnd.{BlockEnd}
use Rattle.group_sift.proofs.Blocking.{none_here, one_more, all_made}
use Rattle.group_sift.proofs.blocks.Blocks.new.Goals as goal

pub returns-then-end-last-clause-none : goal.returns-then-end-last-clause-none
returns-then-end-last-clause-none c = λ same rise.
    let inv = c.loop-i.invariant in
    let lt = c.loop-i-test.true in
    none_here c.args.ends.now c.args.modes.now c.loop-i.i c.loop-i.last 0 Default lt (omega (arith, lt, same)) c.loop-i.blocks.items inv.0 inv.1 inv.2 c.if-end-last.true rise

pub loop-i-preserved : goal.loop-i-preserved
loop-i-preserved c =
    let inv = c.loop-i.invariant in
    let lt = c.loop-i-test.true in
    let same = c.if-ends-modes.false in
    let b : BlockEnd = record { end = get_or c.args.ends.now c.loop-i.i 0; mode = get_or c.args.modes.now c.loop-i.i Default } in
    let ok : is_ok c.push.result ≡ true = c.is_err.ensures.negation ∙ ap not c.if-is_err.false in
    one_more c.args.ends.now c.args.modes.now c.loop-i.i c.loop-i.last 0 Default lt (omega (arith, lt, same)) c.loop-i.blocks.items inv.0 inv.1 inv.2 b c.push.new.self.items refl refl c.if-end-last.false (rw ok at c.push.ensures.items)

pub returns : goal.returns
returns c =
    let inv = c.loop-i.invariant in
    record {
      some = all_made c.args.ends.now c.args.modes.now c.loop-i.i c.loop-i.blocks.items c.loop-i-test.false inv.0;
      as_many = sym c.if-ends-modes.false;
      none = tt;
    }
