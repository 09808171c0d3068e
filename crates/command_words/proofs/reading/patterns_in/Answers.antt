use Rattle.std.proofs.Common.{◌∙◌, ap, List, ℕ, [], Option, Some, codes}
use Rattle.std.specs.Option.{unwrap_or}
use Rattle.std.proofs.lemmas.Result.{IfOk-weaker}
use Rattle.clap.specs.Matches.{found_of}
use Rattle.clap.proofs.WalkLemmas.{raw_values-rows}
use Rattle.command_words.specs.Values.{patterns_of}
use Rattle.command_words.proofs.reading.patterns_in.Goals as goal

pub returns-in-Some : goal.returns-in-Some
returns-in-Some c =
    let e = c.in-Some.ensures ∙ raw_values-rows (found_of c.args.found.now) (codes "bits") in
    IfOk-weaker c.patterns_of.result _ _ (λ patterns h. h ∙ ap (λ (o : Option (List (List ℕ))). patterns_of (unwrap_or o [])) e) c.patterns_of.ensures

pub returns-in-None : goal.returns-in-None
returns-in-None c =
    let e = c.in-None.ensures ∙ raw_values-rows (found_of c.args.found.now) (codes "bits") in
    ap Some c.new.ensures ∙ ap (λ (o : Option (List (List ℕ))). patterns_of (unwrap_or o [])) e
