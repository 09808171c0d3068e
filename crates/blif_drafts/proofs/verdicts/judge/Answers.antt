use Rattle.std.proofs.Common.{◌≡◌, ◌<◌, ℕ, Bool, Bor, List, [], None, Option, Some, get_or, length, map, ap, sym, ◌∙◌, subst, arith}
use Rattle.std.specs.Prelude.{All, slice_get}
use Rattle.std.proofs.lemmas.List.{get_or_default}
use Rattle.std.proofs.lemmas.Option.{slice_get_within}
use Rattle.job_words.specs.Text.{Word}
use Rattle.blif_models.specs.declared.limits.Adding.{Adding}
use Rattle.blif_models.specs.Additions.{AreRising}
use Rattle.blif_models.specs.Graphs.{AreReached}
use Rattle.blif_models.specs.ModelFaults.{adding_inputs}
use Rattle.blif_models.specs.Models.{Model}
use Rattle.blif_models.proofs.TurningLines.{some_model}
use Rattle.blif_formals.specs.declared.calls.Call.{Call}
use Rattle.blif_formals.specs.declared.clashes.Definition.{Definition}
use Rattle.blif_formals.specs.declared.formals.Callees.{Callees}
use Rattle.blif_formals.specs.declared.interface.Interface.{Interface}
use Rattle.blif_formals.specs.declared.titles.Heading.{Heading}
use Rattle.blif_formals.specs.declared.titles.Title.{Title}
use Rattle.blif_drafts.specs.declared.verdicts.Verdict.{Verdict}
use Rattle.blif_formals.specs.ByNames.{AreDefinitionsOf}
use Rattle.blif_formals.specs.Calls.{AreCallsBelow, held_by}
use Rattle.blif_drafts.specs.Entries.{AreKnownIn, AreModelsBy}
use Rattle.blif_drafts.specs.Parts.{ArePartsOf}
use Rattle.blif_formals.specs.Titles.{IsTitleBelow, title_of}
use Rattle.blif_formals.specs.Twice.{AreDefining, input_definitions}
use Rattle.blif_drafts.specs.Verdicts.{Comes, IsMisnaming, VerdictIs}
use Rattle.blif_formals.proofs.InLines.{lines_agree}
use Rattle.blif_drafts.proofs.Judging.{AreTold, callees_are, calls_below, headings_below, known_in}
use Rattle.blif_drafts.proofs.OfDrafts.{added_are, all_ported, as_many_joined, calls_are, headings_are, inputs_are, many, many_added, many_inputs, have_interfaces}
use Rattle.blif_drafts.proofs.Telling.{told_of}
use Rattle.blif_drafts.proofs.ByVerdict.{are_defining, comes, entries_rise, joined_lines, misnamed, named_lines}
use Rattle.blif_drafts.proofs.verdicts.judge.Goals as goal
use Rattle.blif_drafts.proofs.verdicts.judge.Goals.{in-Some, in-None+in_ok-models-in-None+in_ok-verdict-in-None}

pub parts_of-requires : goal.parts_of-requires
parts_of-requires c =
    all_ported c.args.titles.now c.requires.drafts.0 c.args.drafts.items c.requires.drafts.1.drafts_are

pub reach_in-requires-clause-headings : goal.reach_in-requires-clause-headings
reach_in-requires-clause-headings c =
    let titles = c.args.titles.now in
    let models = c.requires.drafts.0 in
    let all = c.requires.drafts.1 in
    let drafts = c.args.drafts.items in
    let parts = c.in_ok-headings.field-0 in
    let of : ArePartsOf drafts parts = c.in_ok-headings.ensures in
    subst (λ (hs : List Heading). All (λ heading. IsTitleBelow c.len.result heading.title) hs) (sym {A = List Heading} c.deref.ensures.value)
    (subst (λ n. All (λ (heading : Heading). IsTitleBelow n heading.title) parts.headings.items) (sym c.len.ensures.number) (headings_below titles models parts.headings.items (headings_are titles models drafts all.drafts_are parts of)))

pub reach_in-requires-clause-calls : goal.reach_in-requires-clause-calls
reach_in-requires-clause-calls c =
    let titles = c.args.titles.now in
    let models = c.requires.drafts.0 in
    let all = c.requires.drafts.1 in
    let drafts = c.args.drafts.items in
    let parts = c.in_ok-headings.field-0 in
    let of : ArePartsOf drafts parts = c.in_ok-headings.ensures in
    subst (λ (cs : List (List Call)). All (AreCallsBelow c.len.result) cs) (sym {A = List (List Call)} c.deref-2.ensures.value)
    (subst (λ n. All (AreCallsBelow n) parts.calls.items) (sym c.len.ensures.number) (calls_below titles models parts.calls.items (calls_are titles models drafts all.drafts_are parts of)))

pub misnaming-requires-clause-callees : goal.misnaming-requires-clause-callees
misnaming-requires-clause-callees c =
    let titles = c.args.titles.now in
    let models = c.requires.drafts.0 in
    let all = c.requires.drafts.1 in
    let drafts = c.args.drafts.items in
    let parts = c.in_ok-headings.field-0 in
    let of : ArePartsOf drafts parts = c.in_ok-headings.ensures in
    let callees : Callees = record { titles = c.deref-3.result; names = c.deref-4.result; interfaces = c.deref-5.result } in
    let so_many : length c.deref-3.result.now ≡ length titles = c.deref-3.ensures.len ∙ c.in_ok-reach.ensures.many ∙ c.len.ensures.number in
    let titled : (n : ℕ) → get_or c.deref-3.result.now n None ≡ title_of parts.headings.items n =
    λ n. ap (λ (ts : List (Option Title)). get_or ts n None) c.deref-3.ensures.value ∙ c.in_ok-reach.ensures.titles n ∙ ap (λ (hs : List Heading). title_of hs n) c.deref.ensures.value in
    let told : AreTold titles models callees parts.headings.items parts.items.items parts.calls.items parts.joined.items = told_of titles models drafts all parts of callees c.deref-4.ensures.value c.deref-5.ensures.value so_many titled in
    callees_are titles models callees parts.headings.items parts.items.items parts.calls.items parts.joined.items told

pub misnaming-requires-clause-headings : goal.misnaming-requires-clause-headings
misnaming-requires-clause-headings c =
    let titles = c.args.titles.now in
    let models = c.requires.drafts.0 in
    let all = c.requires.drafts.1 in
    let drafts = c.args.drafts.items in
    let parts = c.in_ok-headings.field-0 in
    let of : ArePartsOf drafts parts = c.in_ok-headings.ensures in
    let callees : Callees = record { titles = c.deref-3.result; names = c.deref-4.result; interfaces = c.deref-5.result } in
    let so_many : length c.deref-3.result.now ≡ length titles = c.deref-3.ensures.len ∙ c.in_ok-reach.ensures.many ∙ c.len.ensures.number in
    let titled : (n : ℕ) → get_or c.deref-3.result.now n None ≡ title_of parts.headings.items n =
    λ n. ap (λ (ts : List (Option Title)). get_or ts n None) c.deref-3.ensures.value ∙ c.in_ok-reach.ensures.titles n ∙ ap (λ (hs : List Heading). title_of hs n) c.deref.ensures.value in
    subst (λ (hs : List Heading). All (λ heading. IsTitleBelow (length c.deref-3.result.now) heading.title) hs) (sym {A = List Heading} c.deref-6.ensures.value)
    (subst (λ n. All (λ (heading : Heading). IsTitleBelow n heading.title) parts.headings.items) (sym so_many) (headings_below titles models parts.headings.items (headings_are titles models drafts all.drafts_are parts of)))

pub misnaming-requires-clause-calls : goal.misnaming-requires-clause-calls
misnaming-requires-clause-calls c =
    let titles = c.args.titles.now in
    let models = c.requires.drafts.0 in
    let all = c.requires.drafts.1 in
    let drafts = c.args.drafts.items in
    let parts = c.in_ok-headings.field-0 in
    let of : ArePartsOf drafts parts = c.in_ok-headings.ensures in
    let callees : Callees = record { titles = c.deref-3.result; names = c.deref-4.result; interfaces = c.deref-5.result } in
    let so_many : length c.deref-3.result.now ≡ length titles = c.deref-3.ensures.len ∙ c.in_ok-reach.ensures.many ∙ c.len.ensures.number in
    let titled : (n : ℕ) → get_or c.deref-3.result.now n None ≡ title_of parts.headings.items n =
    λ n. ap (λ (ts : List (Option Title)). get_or ts n None) c.deref-3.ensures.value ∙ c.in_ok-reach.ensures.titles n ∙ ap (λ (hs : List Heading). title_of hs n) c.deref.ensures.value in
    subst (λ (cs : List (List Call)). All (AreCallsBelow (length c.deref-3.result.now)) cs) (sym {A = List (List Call)} c.deref-7.ensures.value)
    (subst (λ n. All (AreCallsBelow n) parts.calls.items) (sym so_many) (calls_below titles models parts.calls.items (calls_are titles models drafts all.drafts_are parts of)))

pub misnaming-requires-clause-joined : goal.misnaming-requires-clause-joined
misnaming-requires-clause-joined c =
    let titles = c.args.titles.now in
    let models = c.requires.drafts.0 in
    let all = c.requires.drafts.1 in
    let drafts = c.args.drafts.items in
    let parts = c.in_ok-headings.field-0 in
    let of : ArePartsOf drafts parts = c.in_ok-headings.ensures in
    ap (map (λ ones. length ones)) c.deref-8.ensures.value ∙ as_many_joined titles models drafts all.drafts_are parts of ∙ sym (ap (map (λ ones. length ones)) c.deref-7.ensures.value)

pub models_in-requires-clause-callees : goal.models_in-requires-clause-callees
models_in-requires-clause-callees c =
    let titles = c.args.titles.now in
    let models = c.requires.drafts.0 in
    let all = c.requires.drafts.1 in
    let drafts = c.args.drafts.items in
    let parts = c.in_ok-headings.field-0 in
    let of : ArePartsOf drafts parts = c.in_ok-headings.ensures in
    let callees : Callees = record { titles = c.deref-3.result; names = c.deref-4.result; interfaces = c.deref-5.result } in
    let so_many : length c.deref-3.result.now ≡ length titles = c.deref-3.ensures.len ∙ c.in_ok-reach.ensures.many ∙ c.len.ensures.number in
    let titled : (n : ℕ) → get_or c.deref-3.result.now n None ≡ title_of parts.headings.items n =
    λ n. ap (λ (ts : List (Option Title)). get_or ts n None) c.deref-3.ensures.value ∙ c.in_ok-reach.ensures.titles n ∙ ap (λ (hs : List Heading). title_of hs n) c.deref.ensures.value in
    let told : AreTold titles models callees parts.headings.items parts.items.items parts.calls.items parts.joined.items = told_of titles models drafts all parts of callees c.deref-4.ensures.value c.deref-5.ensures.value so_many titled in
    callees_are titles models callees parts.headings.items parts.items.items parts.calls.items parts.joined.items told

pub models_in-requires-clause-known : goal.models_in-requires-clause-known
models_in-requires-clause-known c =
    let titles = c.args.titles.now in
    let models = c.requires.drafts.0 in
    let all = c.requires.drafts.1 in
    let drafts = c.args.drafts.items in
    let parts = c.in_ok-headings.field-0 in
    let of : ArePartsOf drafts parts = c.in_ok-headings.ensures in
    let callees : Callees = record { titles = c.deref-3.result; names = c.deref-4.result; interfaces = c.deref-5.result } in
    let so_many : length c.deref-3.result.now ≡ length titles = c.deref-3.ensures.len ∙ c.in_ok-reach.ensures.many ∙ c.len.ensures.number in
    let titled : (n : ℕ) → get_or c.deref-3.result.now n None ≡ title_of parts.headings.items n =
    λ n. ap (λ (ts : List (Option Title)). get_or ts n None) c.deref-3.ensures.value ∙ c.in_ok-reach.ensures.titles n ∙ ap (λ (hs : List Heading). title_of hs n) c.deref.ensures.value in
    let told : AreTold titles models callees parts.headings.items parts.items.items parts.calls.items parts.joined.items = told_of titles models drafts all parts of callees c.deref-4.ensures.value c.deref-5.ensures.value so_many titled in
    let met = c.as_slice-met.result.now in
    let reached : AreReached (map (held_by c.deref-3.result.now) parts.calls.items) 0 met =
    subst (λ (ms : List Bool). AreReached (map (held_by c.deref-3.result.now) parts.calls.items) 0 ms) (sym c.as_slice-met.ensures.value)
    (subst (λ (ts : List (Option Title)). AreReached (map (held_by ts) parts.calls.items) 0 c.in_ok-reach.reach.met.items) (sym {A = List (Option Title)} c.deref-3.ensures.value)
    (subst (λ (cs : List (List Call)). AreReached (map (held_by c.in_ok-reach.reach.titles.items) cs) 0 c.in_ok-reach.reach.met.items) c.deref-2.ensures.value c.in_ok-reach.ensures.met)) in
    let first = some_model models 0 (subst (λ n. 0 < n) (many titles models drafts all.drafts_are parts of) c.requires.some) in
    let main = first.0 in
    let at = first.1 in
    let naming : IsMisnaming callees parts.headings.items parts.calls.items parts.joined.items met None =
    subst (λ (o : Option Verdict). IsMisnaming callees parts.headings.items parts.calls.items parts.joined.items met o) c.in-None.is
    (subst (λ (hs : List Heading). IsMisnaming callees hs parts.calls.items parts.joined.items met c.in_ok-verdict.field-0) c.deref-6.ensures.value
    (subst (λ (cs : List (List Call)). IsMisnaming callees c.deref-6.result.now cs parts.joined.items met c.in_ok-verdict.field-0) c.deref-7.ensures.value
    (subst (λ (js : List (List (List (Bor (List ℕ))))). IsMisnaming callees c.deref-6.result.now c.deref-7.result.now js met c.in_ok-verdict.field-0) c.deref-8.ensures.value c.in_ok-verdict.ensures))) in
    subst (λ (cs : List (List Call)). AreKnownIn callees parts.items.items cs c.deref-in-None-2.result.now met) (sym {A = List (List Call)} c.deref-in-None.ensures.value)
    (subst (λ (js : List (List (List (Bor (List ℕ))))). AreKnownIn callees parts.items.items parts.calls.items js met) (sym {A = List (List (List (Bor (List ℕ))))} c.deref-in-None-2.ensures.value)
    (known_in titles models callees parts.headings.items parts.items.items parts.calls.items parts.joined.items told met main at reached (named_lines titles models callees parts.headings.items parts.items.items parts.calls.items parts.joined.items told met main at reached ∙ naming.0) (joined_lines titles models callees parts.headings.items parts.items.items parts.calls.items parts.joined.items told met main at reached None naming.1)))

pub come_of-requires-clause-models : goal.come_of-requires-clause-models
come_of-requires-clause-models c =
    let titles = c.args.titles.now in
    let models = c.requires.drafts.0 in
    let all = c.requires.drafts.1 in
    let drafts = c.args.drafts.items in
    let parts = c.in_ok-headings.field-0 in
    let of : ArePartsOf drafts parts = c.in_ok-headings.ensures in
    let callees : Callees = record { titles = c.deref-3.result; names = c.deref-4.result; interfaces = c.deref-5.result } in
    let so_many : length c.deref-3.result.now ≡ length titles = c.deref-3.ensures.len ∙ c.in_ok-reach.ensures.many ∙ c.len.ensures.number in
    let titled : (n : ℕ) → get_or c.deref-3.result.now n None ≡ title_of parts.headings.items n =
    λ n. ap (λ (ts : List (Option Title)). get_or ts n None) c.deref-3.ensures.value ∙ c.in_ok-reach.ensures.titles n ∙ ap (λ (hs : List Heading). title_of hs n) c.deref.ensures.value in
    let told : AreTold titles models callees parts.headings.items parts.items.items parts.calls.items parts.joined.items = told_of titles models drafts all parts of callees c.deref-4.ensures.value c.deref-5.ensures.value so_many titled in
    let met = c.as_slice-met.result.now in
    let reached : AreReached (map (held_by c.deref-3.result.now) parts.calls.items) 0 met =
    subst (λ (ms : List Bool). AreReached (map (held_by c.deref-3.result.now) parts.calls.items) 0 ms) (sym c.as_slice-met.ensures.value)
    (subst (λ (ts : List (Option Title)). AreReached (map (held_by ts) parts.calls.items) 0 c.in_ok-reach.reach.met.items) (sym {A = List (Option Title)} c.deref-3.ensures.value)
    (subst (λ (cs : List (List Call)). AreReached (map (held_by c.in_ok-reach.reach.titles.items) cs) 0 c.in_ok-reach.reach.met.items) c.deref-2.ensures.value c.in_ok-reach.ensures.met)) in
    let first = some_model models 0 (subst (λ n. 0 < n) (many titles models drafts all.drafts_are parts of) c.requires.some) in
    let main = first.0 in
    let at = first.1 in
    let numbered = c.in_ok-models-in-None.models.items in
    let by : AreModelsBy callees parts.items.items parts.calls.items parts.joined.items met numbered =
    subst (λ (cs : List (List Call)). AreModelsBy callees parts.items.items cs parts.joined.items met numbered) c.deref-in-None.ensures.value
    (subst (λ (js : List (List (List (Bor (List ℕ))))). AreModelsBy callees parts.items.items c.deref-in-None.result.now js met numbered) c.deref-in-None-2.ensures.value c.in_ok-models-in-None.ensures) in
    let inputs = parts.inputs.items in
    let so_many_inputs = many_inputs titles models drafts all.drafts_are parts of in
    let are_inputs = λ (m : ℕ) (model : Model) (found : slice_get models m ≡ Some model). subst (λ (ws : List (List Word)). AreDefinitionsOf ws m (get_or inputs m []) (input_definitions model)) (sym {A = List (List Word)} c.deref-4.ensures.value) (inputs_are titles models drafts all.drafts_are parts of m model found) in
    subst (λ (is : List Interface). AreDefining is c.deref-in-None-4.result.now numbered) (c.deref-5.ensures.value ∙ sym {A = List Interface} c.deref-in-None-3.ensures.value)
    (subst (λ (ones : List (List Definition)). AreDefining c.deref-5.result.now ones numbered) (sym {A = List (List Definition)} c.deref-in-None-4.ensures.value)
    (are_defining titles models callees parts.headings.items parts.items.items parts.calls.items parts.joined.items told met main at reached inputs so_many_inputs are_inputs numbered by))

pub come_of-requires-clause-added : goal.come_of-requires-clause-added
come_of-requires-clause-added c =
    let titles = c.args.titles.now in
    let models = c.requires.drafts.0 in
    let all = c.requires.drafts.1 in
    let drafts = c.args.drafts.items in
    let parts = c.in_ok-headings.field-0 in
    let of : ArePartsOf drafts parts = c.in_ok-headings.ensures in
    let first = some_model models 0 (subst (λ n. 0 < n) (many titles models drafts all.drafts_are parts of) c.requires.some) in
    let main = first.0 in
    let at = first.1 in
    let some : 0 < length parts.added.items = (let low = slice_get_within models 0 main at in let so = many_added titles models drafts all.drafts_are parts of in omega (arith, low, so)) in
    subst AreRising (sym {A = List Adding} (c.as_slice.ensures ∙ c.index-lines-0.is ∙ ap (λ (ones : List (List Adding)). get_or ones 0 c.index-lines-0.result) c.as_slice-lines.ensures.value ∙ get_or_default parts.added.items 0 c.index-lines-0.result [] some ∙ added_are titles models drafts all.drafts_are parts of 0 main at)) (lines_agree.inputs models 0 main all.rising at)

pub come_of-requires-clause-entries : goal.come_of-requires-clause-entries
come_of-requires-clause-entries c =
    let titles = c.args.titles.now in
    let models = c.requires.drafts.0 in
    let all = c.requires.drafts.1 in
    let drafts = c.args.drafts.items in
    let parts = c.in_ok-headings.field-0 in
    let of : ArePartsOf drafts parts = c.in_ok-headings.ensures in
    let callees : Callees = record { titles = c.deref-3.result; names = c.deref-4.result; interfaces = c.deref-5.result } in
    let so_many : length c.deref-3.result.now ≡ length titles = c.deref-3.ensures.len ∙ c.in_ok-reach.ensures.many ∙ c.len.ensures.number in
    let titled : (n : ℕ) → get_or c.deref-3.result.now n None ≡ title_of parts.headings.items n =
    λ n. ap (λ (ts : List (Option Title)). get_or ts n None) c.deref-3.ensures.value ∙ c.in_ok-reach.ensures.titles n ∙ ap (λ (hs : List Heading). title_of hs n) c.deref.ensures.value in
    let told : AreTold titles models callees parts.headings.items parts.items.items parts.calls.items parts.joined.items = told_of titles models drafts all parts of callees c.deref-4.ensures.value c.deref-5.ensures.value so_many titled in
    let met = c.as_slice-met.result.now in
    let reached : AreReached (map (held_by c.deref-3.result.now) parts.calls.items) 0 met =
    subst (λ (ms : List Bool). AreReached (map (held_by c.deref-3.result.now) parts.calls.items) 0 ms) (sym c.as_slice-met.ensures.value)
    (subst (λ (ts : List (Option Title)). AreReached (map (held_by ts) parts.calls.items) 0 c.in_ok-reach.reach.met.items) (sym {A = List (Option Title)} c.deref-3.ensures.value)
    (subst (λ (cs : List (List Call)). AreReached (map (held_by c.in_ok-reach.reach.titles.items) cs) 0 c.in_ok-reach.reach.met.items) c.deref-2.ensures.value c.in_ok-reach.ensures.met)) in
    let first = some_model models 0 (subst (λ n. 0 < n) (many titles models drafts all.drafts_are parts of) c.requires.some) in
    let main = first.0 in
    let at = first.1 in
    let numbered = c.in_ok-models-in-None.models.items in
    let by : AreModelsBy callees parts.items.items parts.calls.items parts.joined.items met numbered =
    subst (λ (cs : List (List Call)). AreModelsBy callees parts.items.items cs parts.joined.items met numbered) c.deref-in-None.ensures.value
    (subst (λ (js : List (List (List (Bor (List ℕ))))). AreModelsBy callees parts.items.items c.deref-in-None.result.now js met numbered) c.deref-in-None-2.ensures.value c.in_ok-models-in-None.ensures) in
    let inputs = parts.inputs.items in
    let so_many_inputs = many_inputs titles models drafts all.drafts_are parts of in
    let are_inputs = λ (m : ℕ) (model : Model) (found : slice_get models m ≡ Some model). subst (λ (ws : List (List Word)). AreDefinitionsOf ws m (get_or inputs m []) (input_definitions model)) (sym {A = List (List Word)} c.deref-4.ensures.value) (inputs_are titles models drafts all.drafts_are parts of m model found) in
    entries_rise titles models callees parts.headings.items parts.items.items parts.calls.items parts.joined.items told met main at reached inputs so_many_inputs are_inputs numbered by

pub returns-clause-judged : goal.returns-clause-judged
returns-clause-judged c =
    λ models main all at.
    let titles = c.args.titles.now in
    let drafts = c.args.drafts.items in
    let parts = c.in_ok-headings.field-0 in
    let of : ArePartsOf drafts parts = c.in_ok-headings.ensures in
    let callees : Callees = record { titles = c.deref-3.result; names = c.deref-4.result; interfaces = c.deref-5.result } in
    let so_many : length c.deref-3.result.now ≡ length titles = c.deref-3.ensures.len ∙ c.in_ok-reach.ensures.many ∙ c.len.ensures.number in
    let titled : (n : ℕ) → get_or c.deref-3.result.now n None ≡ title_of parts.headings.items n =
    λ n. ap (λ (ts : List (Option Title)). get_or ts n None) c.deref-3.ensures.value ∙ c.in_ok-reach.ensures.titles n ∙ ap (λ (hs : List Heading). title_of hs n) c.deref.ensures.value in
    let told : AreTold titles models callees parts.headings.items parts.items.items parts.calls.items parts.joined.items = told_of titles models drafts all parts of callees c.deref-4.ensures.value c.deref-5.ensures.value so_many titled in
    let met = c.as_slice-met.result.now in
    let reached : AreReached (map (held_by c.deref-3.result.now) parts.calls.items) 0 met =
    subst (λ (ms : List Bool). AreReached (map (held_by c.deref-3.result.now) parts.calls.items) 0 ms) (sym c.as_slice-met.ensures.value)
    (subst (λ (ts : List (Option Title)). AreReached (map (held_by ts) parts.calls.items) 0 c.in_ok-reach.reach.met.items) (sym {A = List (Option Title)} c.deref-3.ensures.value)
    (subst (λ (cs : List (List Call)). AreReached (map (held_by c.in_ok-reach.reach.titles.items) cs) 0 c.in_ok-reach.reach.met.items) c.deref-2.ensures.value c.in_ok-reach.ensures.met)) in
    let naming : IsMisnaming callees parts.headings.items parts.calls.items parts.joined.items met c.in_ok-verdict.field-0 =
    subst (λ (hs : List Heading). IsMisnaming callees hs parts.calls.items parts.joined.items met c.in_ok-verdict.field-0) c.deref-6.ensures.value
    (subst (λ (cs : List (List Call)). IsMisnaming callees c.deref-6.result.now cs parts.joined.items met c.in_ok-verdict.field-0) c.deref-7.ensures.value
    (subst (λ (js : List (List (List (Bor (List ℕ))))). IsMisnaming callees c.deref-6.result.now c.deref-7.result.now js met c.in_ok-verdict.field-0) c.deref-8.ensures.value c.in_ok-verdict.ensures)) in
    let Is = VerdictIs models callees.names.now main in
    let so : Is c.match-branch-4.verdict =
    elim c.match-branch-4.branch [
      | in-Some w ↦ subst Is (sym w.verdict-is) (misnamed titles models callees parts.headings.items parts.items.items parts.calls.items parts.joined.items told met main at reached w.in-Some.verdict (subst (λ (o : Option Verdict). IsMisnaming callees parts.headings.items parts.calls.items parts.joined.items met o) w.in-Some.is naming))
      | in-None+in_ok-models-in-None+in_ok-verdict-in-None w ↦
          let numbered = w.in_ok-models-in-None.models.items in
          let by : AreModelsBy callees parts.items.items parts.calls.items parts.joined.items met numbered =
          subst (λ (cs : List (List Call)). AreModelsBy callees parts.items.items cs parts.joined.items met numbered) w.deref-in-None.ensures.value
          (subst (λ (js : List (List (List (Bor (List ℕ))))). AreModelsBy callees parts.items.items w.deref-in-None.result.now js met numbered) w.deref-in-None-2.ensures.value w.in_ok-models-in-None.ensures) in
          let inputs = parts.inputs.items in
          let so_many_inputs = many_inputs titles models drafts all.drafts_are parts of in
          let are_inputs = λ (m : ℕ) (model : Model) (found : slice_get models m ≡ Some model). subst (λ (ws : List (List Word)). AreDefinitionsOf ws m (get_or inputs m []) (input_definitions model)) (sym {A = List (List Word)} c.deref-4.ensures.value) (inputs_are titles models drafts all.drafts_are parts of m model found) in
          let some : 0 < length parts.added.items = (let low = slice_get_within models 0 main at in let so = many_added titles models drafts all.drafts_are parts of in omega (arith, low, so)) in
          let added_is : w.as_slice.result.now ≡ map adding_inputs main.inputs =
          w.as_slice.ensures ∙ w.index-lines-0.is ∙ ap (λ (ones : List (List Adding)). get_or ones 0 w.index-lines-0.result) c.as_slice-lines.ensures.value ∙ get_or_default parts.added.items 0 w.index-lines-0.result [] some
          ∙ added_are titles models drafts all.drafts_are parts of 0 main at in
          let verdict = w.in_ok-verdict-in-None.verdict in
          let come : Comes callees.interfaces.now inputs numbered met w.as_slice.result.now verdict =
          subst (λ (is : List Interface). Comes is inputs numbered met w.as_slice.result.now verdict) (w.deref-in-None-3.ensures.value ∙ sym {A = List Interface} c.deref-5.ensures.value)
          (subst (λ (ones : List (List Definition)). Comes w.deref-in-None-3.result.now ones numbered met w.as_slice.result.now verdict) w.deref-in-None-4.ensures.value w.in_ok-verdict-in-None.ensures) in
          subst Is (sym w.verdict-is)
          (comes titles models callees parts.headings.items parts.items.items parts.calls.items parts.joined.items told met main at reached inputs so_many_inputs are_inputs numbered by w.as_slice.result.now verdict added_is (subst (λ (o : Option Verdict). IsMisnaming callees parts.headings.items parts.calls.items parts.joined.items met o) w.in-None.is naming) come)
    ] in
    (have_interfaces titles models drafts all.drafts_are parts of, subst (λ (ws : List (List Word)). VerdictIs models ws main c.match-branch-4.verdict) c.deref-4.ensures.value so)
