use Rattle.std.proofs.Common.{◌≡◌, ◌+◌, ◌<◌, length-set, refl, subst, sym, ◌∙◌, arith}
use Rattle.std.specs.Prelude.{slice_set}
use Rattle.words_rule.specs.Shapes.{shape_by}
use Rattle.words_rule.proofs.NewTables.{AreWritten, all_written, none_written, written_more}
use Rattle.words_rule.proofs.beginning.write_nodes.Goals as goal

pub loop-slot-init : goal.loop-slot-init
loop-slot-init c = record { long = refl; written = none_written (shape_by c.args.sizes.now) c.args.words.now.items c.requires.empty }

pub loop-slot-preserved : goal.loop-slot-preserved
loop-slot-preserved c =
    let l = c.loop-slot in
    let z = shape_by c.args.sizes.now in
    let below : l.slot < z.slots = let t = c.loop-slot-test.true in let r = c.requires.room in omega (arith, t, r) in record {
      long = length-set l.words.items c.node-word.result c.pack.result ∙ l.invariant.long;
      written = subst (λ i. AreWritten z c.args.words.now.items (slice_set l.words.items i c.pack.result) (l.slot + 1)) (sym c.node-word.ensures)
          (written_more z c.args.words.now.items l.words.items l.slot c.pack.result c.permanent.result below (l.invariant.long ∙ c.requires.long) c.pack.ensures.reads_back c.permanent.ensures.word c.pack.type_inv l.invariant.written);
    }

pub returns-clause-nodes : goal.returns-clause-nodes
returns-clause-nodes c =
    let l = c.loop-slot in
    let z = shape_by c.args.sizes.now in
    let all : l.slot ≡ 5 + z.variables = let t = c.loop-slot-test.false in let e = l.auto.slot-end in omega (arith, t, e) in all_written z c.args.words.now.items l.words.items (subst (AreWritten z c.args.words.now.items l.words.items) all l.invariant.written)
