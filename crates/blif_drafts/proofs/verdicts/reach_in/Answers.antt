use Rattle.std.proofs.Common.{List, ℕ, Option, length, map, ap, sym, subst, ◌∙◌}
use Rattle.blif_models.specs.Graphs.{AreWithin}
use Rattle.blif_formals.specs.declared.titles.Title.{Title}
use Rattle.blif_formals.specs.Calls.{held_by}
use Rattle.blif_drafts.proofs.Reaching.{are_within}
use Rattle.blif_drafts.proofs.verdicts.reach_in.Goals as goal

pub reached_from-requires-clause-within : goal.reached_from-requires-clause-within
reached_from-requires-clause-within c =
    let calls = c.args.calls.now in
    subst (λ (holds : List (List ℕ)). AreWithin (length holds) holds)
    (sym {A = List (List ℕ)} (c.deref-2.ensures.value ∙ c.in_ok-holds.ensures ∙ ap (λ (ts : List (Option Title)). map (held_by ts) calls) c.deref.ensures.value))
    (are_within c.args.headings.now c.in_ok-titles.titles.items c.in_ok-titles.ensures.titles calls c.requires.as_many)
