use Rattle.std.proofs.Common.{◌≡◌, ◌<◌, length, List, Some, ap, sym, ◌∙◌, subst, arith}
use Rattle.std.specs.Prelude.{slice_get}
use Rattle.std.proofs.lemmas.Option.{slice_get-get_or}
use Rattle.job_words.specs.Text.{Word}
use Rattle.blif_models.specs.Numberings.{word_of, words_at}
use Rattle.blif_wholes.specs.Names.{IsSpotIn, WholeName, words_in}
use Rattle.blif_wholes.proofs.NameSteps.{length_named, word_named}
use Rattle.blif_wholes.proofs.names.WholeNames.word_at.Goals as goal

pub index-requires : goal.index-requires
index-requires c =
    let inside = c.self.inside in
    let view = ap length c.self.view_is in
    let many = length_named inside.words.items inside.spots.items inside.roles.items c.self.invariant.1 in
    let stored = (inside.spots.ok).0 in
    omega (arith, c.requires, view, many, stored)

pub whole_name-requires-clause-model : goal.whole_name-requires-clause-model
whole_name-requires-clause-model c =
    let inside = c.self.inside in
    let view = ap length c.self.view_is in
    let many = length_named inside.words.items inside.spots.items inside.roles.items c.self.invariant.1 in
    let within : c.args.place < length inside.spots.items = omega (arith, c.requires, view, many) in
    let own : IsSpotIn inside.words.items c.index.result.now = subst (IsSpotIn inside.words.items) (sym c.index.ensures) (c.self.invariant.0 c.args.place c.index.result.now within) in
    subst (λ (words : List (List Word)). c.index.result.now.model < length words) (sym c.deref.ensures.value) own.model

pub whole_name-requires-clause-name : goal.whole_name-requires-clause-name
whole_name-requires-clause-name c =
    let inside = c.self.inside in
    let view = ap length c.self.view_is in
    let many = length_named inside.words.items inside.spots.items inside.roles.items c.self.invariant.1 in
    let within : c.args.place < length inside.spots.items = omega (arith, c.requires, view, many) in
    let own : IsSpotIn inside.words.items c.index.result.now = subst (IsSpotIn inside.words.items) (sym c.index.ensures) (c.self.invariant.0 c.args.place c.index.result.now within) in
    subst (λ (words : List (List Word)). c.index.result.now.name < length (words_at words c.index.result.now.model)) (sym c.deref.ensures.value) own.name

pub returns : goal.returns
returns c =
    let inside = c.self.inside in
    let view = ap length c.self.view_is in
    let many = length_named inside.words.items inside.spots.items inside.roles.items c.self.invariant.1 in
    let within : c.args.place < length inside.spots.items = omega (arith, c.requires, view, many) in
    let at : slice_get inside.spots.items c.args.place ≡ Some c.index.result.now = slice_get-get_or inside.spots.items c.args.place c.index.result.now within ∙ ap Some (sym c.index.ensures) in
    subst (λ (all : List WholeName). slice_get (words_in all) c.args.place ≡ Some c.in_ok-word.word) c.self.view_is
    (word_named inside.words.items inside.spots.items inside.roles.items c.args.place c.index.result.now c.self.invariant.1 at
    ∙ ap Some (sym (c.in_ok-word.ensures ∙ ap (λ (words : List (List Word)). word_of words c.index.result.now) c.deref.ensures.value)))
