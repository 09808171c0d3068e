use Rattle.std.proofs.Common.{◌≡◌, ◌++◌, ap, get_or, sym, ◌∙◌, take, append-nil}
use Rattle.std.proofs.lemmas.List.{take_more}
use Rattle.blif_wholes.specs.Arranged.{cover_in, reads_in}
use Rattle.blif_wholes.proofs.CoverReads.{no_cover, reads_last}
use Rattle.blif_wholes.proofs.reads.reads_of.Goals as goal
use Rattle.blif_wholes.proofs.reads.reads_of.Goals.{in-Cover+in_ok-push, in_default}

pub loop-number-preserved : goal.loop-number-preserved
loop-number-preserved c =
    let i = c.loop-number.number-index in
    let ns = c.args.ins.now in
    let more : c.match-role_at.reads ≡ c.loop-number.reads ++ cover_in c.role_at.result =
    elim c.match-role_at.branch [
      | in-Cover+in_ok-push w ↦ w.reads-is ∙ w.in_ok-push.ensures.ok ∙ ap (λ r. c.loop-number.reads ++ cover_in r) (sym w.in-Cover.is)
      | in_default w ↦ w.reads-is ∙ sym (append-nil c.loop-number.reads) ∙ ap (λ t. c.loop-number.reads ++ t) (sym (no_cover c.role_at.result w.in_default.not-Cover))
    ] in
    reads_last c.args.names.now (take i ns) c.loop-number.reads c.match-role_at.reads (get_or ns i 0) c.role_at.result c.loop-number.invariant c.role_at.ensures more
    ∙ ap (reads_in c.args.names.now) (sym (take_more ns i 0 c.loop-number-test.true))
