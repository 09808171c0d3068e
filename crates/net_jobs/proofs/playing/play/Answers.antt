use Rattle.std.proofs.Common.{◌≡◌, ℕ, IfOk, List, rules, subst}
use Rattle.std.specs.List.{flat_map}
use Rattle.std.proofs.lemmas.List.Sorted.{IsNonDecreasingBy-from_sort, answers_always}
use Rattle.job_text.specs.declared.job.Command.{Command}
use Rattle.net_jobs.specs.Plays.{AllPlay}
use Rattle.net_jobs.specs.declared.said.Said.{Said}
use Rattle.net_jobs.proofs.Gathering.{played}
use Rattle.net_jobs.proofs.playing.play.Goals as goal

pub returns : goal.returns
returns g c =
    let sort = c.sort_unstable_by_key.ensures in
    let key : Said → ℕ = λ (line : Said). line.place in
    record {
      played = played c.written.result c.args.manager.now c.args.job.now.sections c.args.sessions.now c.parts.new.sessions c.in_ok-said.said.items c.sort_unstable_by_key.new.self.items c.requires.can c.requires.numbers
          (subst (λ (sections : List (List Command)). AllPlay sections c.args.sessions.now c.parts.new.sessions c.in_ok-said.said.items) c.as_slice-sections.ensures c.in_ok-said.ensures.said)
          sort.permutation (IsNonDecreasingBy-from_sort key _ (sort.sorted key (answers_always _ _ _ (λ f a r g h. search rules))))
          (subst (λ (l : List Said). IfOk c.written.result (λ text. text.items ≡ flat_map (λ (line : Said). line.text.items) l)) c.deref.ensures.value c.written.ensures);
      kept = c.in_ok-said.ensures.kept;
    }
