use Rattle.std.proofs.Common.{◌≡◌, ◌+◌, ◌<◌, ◌++◌, ◌∙◌, [], ap, sym, ℕ, get_or, length, pos, arith}
use Rattle.std.specs.Borrow.{Bor}
use Rattle.job_words.specs.Text.{Word}
use Rattle.blif_dump.specs.Calls.{names_in}
use Rattle.blif_dump.specs.Lines.{text_of}
use Rattle.blif_dump.specs.Multiplexers.{lines_at, name_at}
use Rattle.blif_dump.specs.Naming.{naming_in}
use Rattle.blif_dump.proofs.Texts.{lines_more, name_read}
use Rattle.blif_dump.proofs.writer.put_outputs.Goals as goal

no_name : Bor Word
no_name = record { ref_ptr = (0, 0); now = [] }

pub loop-place-preserved : goal.loop-place-preserved
unfolding no_name
loop-place-preserved c =
    let naming = naming_in c.args.naming.now in
    let outputs = names_in c.args.outputs.now in
    let roots = c.args.roots.now in
    let place = c.loop-place.place in
    let text = c.loop-place.text.items in
    let within : place < length c.args.outputs.now = omega (arith, c.requires, c.loop-place-test.true) in
    let name : (get_or c.args.outputs.now place no_name).now ≡ name_at outputs place = sym (name_read c.args.outputs.now place no_name within) in
    let same : place ≡ 0 + place = omega arith in
    lines_more (λ placed. lines_at naming placed.0 (name_at outputs placed.0) placed.1) 0 roots place (pos 0) text c.args.text.now.items c.put_at.new.text.items
    c.loop-place-test.true c.loop-place.invariant
    (c.in_ok-put_at.ensures ∙ ap (λ (z : Word). text ++ text_of (lines_at naming place z (get_or roots place (pos 0)))) name
    ∙ ap (λ (n : ℕ). text ++ text_of (lines_at naming n (name_at outputs n) (get_or roots place (pos 0)))) same)
