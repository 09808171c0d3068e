-- The text of a network that the sessions of a manager built, and why there is none.
use Rattle.std.proofs.Common.{◌≡◌, inl, inr, Bool, true, false, if◌then◌else◌, ℕ, ◌+◌, ◌≤◌, List, [], ◌++◌, length, map, take, drop, All, Result, Ok, Err, IfErr, IfOk, refl, ap, sym, ◌∙◌, subst, arith}
use Rattle.std.specs.Global.{Vec}
use Rattle.std.specs.List.{range_with_len}
use Rattle.std.proofs.lemmas.List.{append_assoc, length-map}
use Rattle.std.proofs.lemmas.List.FromFn.{length-range_with_len}
use Rattle.std.proofs.lemmas.List.Sorted.{length_permutation}
use Rattle.edge_bits.specs.declared.limits.TheConstants.{MOST_SIGNALS}
use Rattle.blif_dump.specs.Multiplexers.{multiplexers}
use Rattle.blif_net.specs.Dumped.{AreNames, DumpsAreRead, NetworksHaveNames}
use Rattle.blif_net.specs.Networks.{IsBlifText}
use Rattle.command_words.specs.declared.order.Options.{Options}
use Rattle.cover_nets.specs.declared.net.Net.{Net}
use Rattle.cover_nets.specs.declared.net.Output.{Output}
use Rattle.cover_nets.specs.Networks.{signal_value}
use Rattle.dd_session.specs.declared.answers.Full.{Full}
use Rattle.dd_session.specs.Managing.{AreAll, IsHistoryOf, Managed, Seen, opened}
use Rattle.dddmp_text.specs.Written.{written}
use Rattle.diagram_dumps.specs.Dumps.{root_value}
use Rattle.diagram_dumps.specs.Listings.{dump_of}
use Rattle.diagram_dumps.proofs.Counted.{lines_counted}
use Rattle.diagram_dumps.proofs.Listed.{listed_size}
use Rattle.function_laws.specs.Sizes.{Orders}
use Rattle.net_builds.specs.declared.handing.Handover.{Handover}
use Rattle.net_builds.specs.declared.host.HostRefusal.{HostRefusal}
use Rattle.net_builds.specs.declared.host.HostRefusal.TheVariants as refusals
use Rattle.net_builds.specs.declared.telling.Findings.{Findings}
use Rattle.net_builds.specs.declared.telling.Telling.TheVariants.{Report}
use Rattle.net_builds.specs.Builds.{AreUnsifted, Builds, FindsOf, IsFound, UnsiftedTellingsAreTrue}
use Rattle.net_builds.specs.Outputs.{AreRefused}
use Rattle.net_builds.specs.Sifting.{BuildsSifted, SiftedTellingsAreTrue}
use Rattle.net_builds.specs.Standings.{Standing, values_of}
use Rattle.net_builds.proofs.BackLemmas.{err_weaker, ok_weaker}
use Rattle.net_builds.proofs.Built.{as_many_handed}
use Rattle.net_reports.specs.Reports.{IsStored, Subject, output_functions, output_names}
use Rattle.net_reports.proofs.SameClasses.{same_length}
use Rattle.net_jobs.specs.declared.networks.TheConstants.{OUTPUTS_CELL}
use Rattle.net_jobs.specs.declared.stops.PartStop.{PartStop}
use Rattle.net_jobs.specs.declared.stops.PartStop.TheVariants as stops
use Rattle.net_jobs.specs.Ends.{IsBuildText, IsIf, IsNetworkText, built_subject, signals_of}
use Rattle.net_jobs.specs.Hosts.{TellsFullOf, standing_of}
use Rattle.net_jobs.specs.Networks.{IsBuildStopped, IsFoundIn, IsFreshOf, IsOpenedFor, IsReportStopped, part_stop}
use Rattle.net_jobs.specs.Texts.{IsTextOf, MayFollow, StopsText, signals_for}
use Rattle.net_jobs.proofs.BuiltHistories.{AreAgain, are_all, built_again, filled, fresh_are, fresh_own, refused_again, reported, written_back}

-- a permutation of the first n numbers has n
wide_as : (net : Net) (subject : Subject) (found : Findings) → subject.n ≡ length net.inputs → IsFound Report subject found → length subject.order ≡ length net.inputs
wide_as net subject found all is = length_permutation (range_with_len 0 subject.n) subject.order is.told.orders ∙ length-range_with_len 0 subject.n ∙ all

-- what was found of a network's outputs may be written behind the report
module _ (net : Net) (patterns : List (List Bool)) (cell : ℕ) (old new : List Standing) (found : Findings) (built : Builds (FindsOf net patterns Report) cell (output_functions net) old new found) where
  as_many_outputs : length net.outputs ≡ length found.listing.roots
  as_many_outputs =
      let wanted = length-map net.outputs (λ (output : Output). signal_value net output.signal) in
      let handed = as_many_handed cell (output_functions net) new built.first built.handovers built.handed in
      let names = length-map built.handovers (λ (h : Handover). h.to) in
      let stood = length-map (map (λ (h : Handover). h.to) built.handovers) built.note.stands in
      let functions = length-map built.functions (values_of built.first.vars) in
      let stand = ap length built.stand in
      let roots = length-map found.listing.roots (root_value (dump_of found.listing)) in
      let same = same_length (length built.note.order) (map (root_value (dump_of found.listing)) found.listing.roots) built.functions built.tells.listed.roots in
      omega (arith, wanted, handed, names, stood, functions, stand, roots, same)

  pub may_follow : MayFollow net (dump_of found.listing)
  may_follow = record {
    writable = built.tells.listed.writable;
    inputs =
        sym (ap length built.tells.listed.order_is ∙ length_permutation (range_with_len 0 (length net.inputs)) built.note.order built.tells.told.orders ∙ length-range_with_len 0 (length net.inputs));
    outputs = as_many_outputs;
  }

-- so with the patterns of the options
pub found_with : (m : Managed) (net : Net) (options : Options) (old new : List Seen) (found : Findings) (patterns : List (List Bool)) → patterns ≡ options.patterns
    → Builds (FindsOf net patterns Report) OUTPUTS_CELL (output_functions net) (map standing_of old) (map standing_of new) found
    → (options.sift ≡ true → BuildsSifted (FindsOf net patterns Report) m.limit OUTPUTS_CELL (output_functions net) (map standing_of old) (map standing_of new) found)
    → IsFoundIn m net options old new found
found_with m net options old new found patterns same built sifted = record {
  built = subst (λ (p : List (List Bool)). Builds (FindsOf net p Report) OUTPUTS_CELL (output_functions net) (map standing_of old) (map standing_of new) found) same built;
  sifted = λ yes. subst (λ (p : List (List Bool)). BuildsSifted (FindsOf net p Report) m.limit OUTPUTS_CELL (output_functions net) (map standing_of old) (map standing_of new) found) same (sifted yes);
}

-- there is the text or a stop where there is what was found
pub told_too : (m : Managed) (net : Net) (options : Options) (old new : List Seen) (found : Findings) → IsFoundIn m net options old new found → (result : Result (Vec ℕ) PartStop)
    → IfOk result (IsTextOf net options found) → IfOk result (λ text. (all : Findings) × IsFoundIn m net options old new all × IsTextOf net options all text)
told_too m net options old new found is result text =
    ok_weaker (IsTextOf net options found) (λ text. (all : Findings) × IsFoundIn m net options old new all × IsTextOf net options all text) (λ text told. (found, is, told)) result text

pub stopped_too : (m : Managed) (net : Net) (options : Options) (old new : List Seen) (found : Findings) → IsFoundIn m net options old new found → (result : Result (Vec ℕ) PartStop)
    → IfErr result (StopsText net options found) → IfErr result (IsBuildStopped m net options old new)
stopped_too m net options old new found is result stop =
    err_weaker (StopsText net options found) (IsBuildStopped m net options old new) (λ stop told. inr (found, is, told)) result stop

-- The sessions are as many as before and have their numbers, whether or not there is a text.
again_either : (m : Managed) (net : Net) (options : Options) (old new : List Seen) → old ≡ opened m → (result : Result (Vec ℕ) PartStop)
    → IfOk result (λ text. (found : Findings) × IsFoundIn m net options old new found × IsTextOf net options found text) → IfErr result (IsBuildStopped m net options old new) → AreAgain m new
again_either m net options old new is result built refused = by result built refused
  where
    at_found : (found : Findings) → IsFoundIn m net options old new found → AreAgain m new
    at_found found told =
        built_again m (FindsOf net options.patterns Report) OUTPUTS_CELL (output_functions net) new found
        (subst (λ (l : List Seen). Builds (FindsOf net options.patterns Report) OUTPUTS_CELL (output_functions net) (map standing_of l) (map standing_of new) found) is told.built)

    by : (result : Result (Vec ℕ) PartStop) → IfOk result (λ text. (found : Findings) × IsFoundIn m net options old new found × IsTextOf net options found text) → IfErr result (IsBuildStopped m net options old new) → AreAgain m new
    by (Ok text) built refused = at_found built.0 built.1
    by (Err stop) built (inl (refusal, told, left)) =
        refused_again m OUTPUTS_CELL options.sift new refusal
        (subst (λ (l : List Seen). AreRefused (TellsFullOf m) OUTPUTS_CELL options.sift (map standing_of l) (map standing_of new) refusal) is left)
    by (Err stop) built (inr (found, told, text)) = at_found found told

-- The slice that was lent, behind a build: it has all sessions of the manager, and a history of it is theirs.
module _ (m : Managed) (net : Net) (options : Options) (items old new : List Seen) (opens : items ≡ opened m) (value : old ≡ items) (result : Result (Vec ℕ) PartStop)
    (built : IfOk result (λ text. (found : Findings) × IsFoundIn m net options old new found × IsTextOf net options found text)) (refused : IfErr result (IsBuildStopped m net options old new)) where
  again : AreAgain m new
  again = again_either m net options old new (value ∙ opens) result built refused

  pub lent_all : (n : ℕ) → n ≡ length items → All (IsFreshOf m) new → AreAll m (take n (new ++ drop (length new) items))
  lent_all n long fresh = subst (AreAll m) (sym (written_back m new again items n opens long)) (are_all m new again (fresh_own m new fresh))

  pub lent_history : (n calls : ℕ) → n ≡ length items → IsHistoryOf m (take n (new ++ drop (length new) items)) calls → IsHistoryOf m new calls
  lent_history n calls long history = subst (λ (l : List Seen). IsHistoryOf m l calls) (written_back m new again items n opens long) history

-- a text where it is asked for
if_due : (b : Bool) (Is : List ℕ → Type 0) (text : List ℕ) → (b ≡ true → Is text) → IsIf b Is (if b then text else [])
if_due true Is text due = due refl
if_due false Is text due = refl

-- What was found of the outputs of a text's network as they are due.
module _ (bytes : List ℕ) (net : Net) (text : IsBlifText bytes net) (names : NetworksHaveNames) (dumps : DumpsAreRead) (limit : ℕ) (options : Options) (found : Findings) (is : IsFound Report (built_subject net limit options) found) where
  abbrev subject : Subject
  subject = built_subject net limit options

  named : AreNames (dump_of found.listing) net.inputs (output_names net)
  named = names bytes net subject.order found.listing text (wide_as net subject found refl is) is.listed

  -- as many signals as are told of the subject
  pub signals_are : signals_for net (dump_of found.listing) ≡ signals_of net.inputs subject
  signals_are =
      let orders : Orders = record { variables = subject.order; elements = [] } in
      let some : found.listing.roots ≡ [] → ⊥ = λ none. (let one = named.some in let long = ap length none in omega (arith, one, long)) in
      let counted = lines_counted (dump_of found.listing) is.listed.writable.well_made orders is.listed.under some ∙ listed_size orders found.listing subject.functions is.listed in
      ap (λ nodes. length net.inputs + nodes + length (output_names net)) counted

  pub text_due : (told : Vec ℕ) → IsTextOf net options found told → IsBuildText options net.inputs subject told.items
  text_due told of = record {
    report = found.text.items;
    stored = if options.store then written (dump_of found.listing) else [];
    network = if options.blif then multiplexers (dump_of found.listing) net.inputs (output_names net) else [];
    text_is = of.bytes
        ∙ sym (append_assoc found.text.items (if options.store then written (dump_of found.listing) else []) (if options.blif then multiplexers (dump_of found.listing) net.inputs (output_names net) else []));
    reports = is.told;
    stores = if_due options.store (IsStored subject) (written (dump_of found.listing)) (λ yes. record { listing = found.listing; listed = is.listed; bytes = refl });
    multiplexes = if_due options.blif (IsNetworkText net.inputs subject) (multiplexers (dump_of found.listing) net.inputs (output_names net)) (λ yes. record {
      listing = found.listing;
      listed = is.listed;
      bytes = refl;
      few = subst (λ n. n ≤ MOST_SIGNALS) signals_are (of.few yes);
      dumped = dumps (dump_of found.listing) net.inputs (output_names net) is.listed.writable named (of.few yes);
    });
  }

  pub stop_due : (stop : PartStop) → StopsText net options found stop → IsReportStopped net limit options stop
  stop_due stops.Memory told = tt
  stop_due (stops.Full full) told = absurd told.1
  stop_due (stops.Large signals) told = (told.0, told.1.0 ∙ signals_are, told.1.1)

-- A text's network that was built by the sessions of a manager, which had made no call, as the closing of the manager tells.
module _ (bytes : List ℕ) (net : Net) (text : IsBlifText bytes net) (names : NetworksHaveNames) (dumps : DumpsAreRead) (limit : ℕ) (options : Options) (m : Managed) (inputs : List (List ℕ)) (workers : ℕ) (items : List Seen)
    (inputs_are : inputs ≡ net.inputs) (opens : IsOpenedFor (length inputs) limit workers m items) (unsifted_law : UnsiftedTellingsAreTrue) (sifted_law : SiftedTellingsAreTrue) (old new : List Seen) (value : old ≡ items)
    (unsifted : options.sift ≡ false → AreUnsifted (map standing_of old) (map standing_of new)) where
  is : old ≡ opened m
  is = value ∙ opens.sessions_are

  vars : m.vars ≡ length net.inputs
  vars = opens.vars ∙ ap length inputs_are

  slots : m.limit ≡ 5 + length net.inputs + limit
  slots = opens.limit_is ∙ ap (λ (names : List (List ℕ)). 5 + length names + limit) inputs_are

  -- what was found is found of the outputs under the order that is due
  found_due : (n : ℕ) → All (IsFreshOf m) new → IsHistoryOf m new n → (found : Findings) → IsFoundIn m net options old new found → IsFound Report (built_subject net limit options) found
  found_due n fresh history found told =
      reported m net new found n vars (fresh_are m new fresh) history Report options.patterns unsifted_law sifted_law limit options opens.none slots
      (subst (λ (l : List Seen). Builds (FindsOf net options.patterns Report) OUTPUTS_CELL (output_functions net) (map standing_of l) (map standing_of new) found) is told.built)
      (λ yes. subst (λ (l : List Seen). BuildsSifted (FindsOf net options.patterns Report) m.limit OUTPUTS_CELL (output_functions net) (map standing_of l) (map standing_of new) found) is (told.sifted yes))
      (λ no. subst (λ (l : List Seen). AreUnsifted (map standing_of l) (map standing_of new)) is (unsifted no))

  pub texts_due : (n : ℕ) → All (IsFreshOf m) new → IsHistoryOf m new n → (result : Result (Vec ℕ) PartStop)
      → IfOk result (λ told. (found : Findings) × IsFoundIn m net options old new found × IsTextOf net options found told)
      → IfOk result (λ told. IsBuildText options net.inputs (built_subject net limit options) told.items)
  texts_due n fresh history result built =
      ok_weaker (λ (told : Vec ℕ). (found : Findings) × IsFoundIn m net options old new found × IsTextOf net options found told) (λ (told : Vec ℕ). IsBuildText options net.inputs (built_subject net limit options) told.items)
      (λ told has. text_due bytes net text names dumps limit options has.0 (found_due n fresh history has.0 has.1) told has.2) result built

  stopped_due : (n : ℕ) → All (IsFreshOf m) new → IsHistoryOf m new n → (stop : PartStop) → IsBuildStopped m net options old new stop → IsReportStopped net limit options stop
  stopped_due n fresh history stop (inl (refusal, told, refused)) = subst (IsReportStopped net limit options) (sym told) (by refusal refused)
    where
      by : (one : HostRefusal Full) → AreRefused (TellsFullOf m) OUTPUTS_CELL options.sift (map standing_of old) (map standing_of new) one → IsReportStopped net limit options (part_stop one)
      by refusals.Memory refused = tt
      by (refusals.Full full) refused = filled OUTPUTS_CELL options.sift m (map standing_of old) (map standing_of new) (λ all. all ≡ 5 + length net.inputs + limit) (refusals.Full full) slots refused
  stopped_due n fresh history stop (inr (found, told, stops)) = stop_due bytes net text names dumps limit options found (found_due n fresh history found told) stop stops

  pub stops_due : (n : ℕ) → All (IsFreshOf m) new → IsHistoryOf m new n → (result : Result (Vec ℕ) PartStop) → IfErr result (IsBuildStopped m net options old new) → IfErr result (IsReportStopped net limit options)
  stops_due n fresh history result refused = err_weaker (IsBuildStopped m net options old new) (IsReportStopped net limit options) (λ stop told. stopped_due n fresh history stop told) result refused
