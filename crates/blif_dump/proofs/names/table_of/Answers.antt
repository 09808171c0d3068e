use Rattle.std.proofs.Common.{subst, sym, List}
use Rattle.job_words.specs.Text.{Word}
use Rattle.blif_dump.specs.Tables.{ArePlaces}
use Rattle.blif_dump.proofs.Places.{names_count, names_more}
use Rattle.blif_dump.proofs.names.table_of.Goals as goal

pub loop-place-preserved : goal.loop-place-preserved
loop-place-preserved c =
    subst (λ (names : List Word). ArePlaces c.note.new.table names) (sym (names_more c.args.names.now c.loop-place.place _ c.loop-place-test.true))
    (c.in_ok-note.ensures _ (names_count c.args.names.now c.loop-place.place c.loop-place-test.true) c.loop-place.invariant)
