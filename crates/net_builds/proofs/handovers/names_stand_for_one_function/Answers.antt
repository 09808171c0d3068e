use Rattle.std.proofs.Common.{◌≡◌, ◌++◌, ap, sym, ◌∙◌, false}
use Rattle.function_laws.specs.declared.history.Entry.{Entry}
use Rattle.function_laws.specs.Handovers.{is_numbered}
use Rattle.function_laws.specs.Tables.{Table, opening}
use Rattle.function_laws.proofs.HistoryLemmas.{table_after-append}
use Rattle.net_builds.proofs.Contained.{all-has}
use Rattle.net_builds.proofs.HandedLaw.{each-of, has-left, has-right, legal-left, legal-right}
use Rattle.net_builds.proofs.NamesOnce.{stood}
use Rattle.net_builds.proofs.handovers.names_stand_for_one_function.Goals as goal

pub returns : goal.returns
returns c = λ sizes before rest legal plain s name f g then now.
    stood s name sizes before rest f g (legal-left 0 (opening sizes) before rest legal)
    (each-of (λ (e : Entry). is_numbered e.reply ≡ false) before (λ e has. all-has (λ (x : Entry). is_numbered x.reply ≡ false) (before ++ rest) plain e (has-left e before rest has)))
    (legal-right 0 (opening sizes) before rest legal)
    (each-of (λ (e : Entry). is_numbered e.reply ≡ false) rest (λ e has. all-has (λ (x : Entry). is_numbered x.reply ≡ false) (before ++ rest) plain e (has-right e before rest has)))
    then (sym (ap (λ (t : Table). t.live s name) (table_after-append (opening sizes) before rest)) ∙ now)
