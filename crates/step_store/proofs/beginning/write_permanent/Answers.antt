use Rattle.std.proofs.Common.{◌<◌, length, refl, Some, ap, ◌∙◌, arith, length-set}
use Rattle.edge_bits.specs.declared.words.Word.{Word}
use Rattle.step_store.proofs.Beginnings.{written_more, zero_fits}
use Rattle.step_store.proofs.beginning.write_permanent.Goals as goal

pub loop-slot-init : goal.loop-slot-init
loop-slot-init c = record {
  length_is = refl;
  permanent = λ s lt. absurd (omega (arith, lt));
  free = λ s le. c.requires.free s;
  fits = λ s. zero_fits c.args.words.now.items s (c.requires.free s);
}

pub loop-slot-preserved : goal.loop-slot-preserved
loop-slot-preserved c =
    let l = c.loop-slot in
    let i = l.invariant in
    let inside : l.slot < length l.words.items = let a = i.length_is in let b = c.requires.room in let d = c.loop-slot-test.true in omega (arith, a, b, d) in
    let more = written_more l.words.items l.slot c.pack.result inside (c.pack.ensures.reads_back ∙ ap (λ (w : Word). Some w) c.permanent.ensures.word) c.pack.type_inv i.permanent i.free i.fits in
    record {
      length_is = length-set l.words.items l.slot c.pack.result ∙ i.length_is;
      permanent = more.0;
      free = more.1;
      fits = more.2;
    }
