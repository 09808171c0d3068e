use Rattle.std.proofs.Common.{List, ◌++◌, option_map, ap, sym, ◌∙◌}
use Rattle.job_commands.specs.declared.commands.Opcode.{Opcode}
use Rattle.job_commands.specs.declared.commands.Place.{Place}
use Rattle.job_commands.specs.Slots.{slots_before}
use Rattle.job_words.specs.Text.{Word, split_words}
use Rattle.job_commands.proofs.Filling.{fitting}
use Rattle.job_commands.proofs.slots.filled.Goals as goal

pub returns : goal.returns
returns c =
    ap (λ o. option_map {U = Opcode × List (Place × Word)} (λ slots. (c.args.command.opcode, slots_before c.args.first ++ slots)) o)
    (sym (fitting c.args.command.places.now c.args.command.repeated.now (split_words c.args.words.now) (sym c.fits.ensures ∙ c.if-not-fits.false)))
