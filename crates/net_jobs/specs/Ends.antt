-- How a run may end: each status with its cause, and the text that is told.
use Rattle.std.specs.Prelude.{◌≡◌, ℕ, ◌+◌, ◌<◌, ◌≤◌, ◌⊎◌, Bool, true, false, List, [], ◌++◌, Option, Some, None, length, codes, if◌then◌else◌}
use Rattle.std.specs.Io.KnownBytes.{Consumes, IsAtEnd}
use Rattle.std.specs.Fmt.{decimal}
use Rattle.std.specs.List.{range_with_len}
use Rattle.edge_bits.specs.declared.limits.TheConstants.{LONGEST_TEXT, MOST_SIGNALS, USUAL_LIMIT}
use Rattle.blif_dump.specs.Multiplexers.{multiplexers}
use Rattle.blif_net.specs.declared.faults.BlifFault.{BlifFault}
use Rattle.blif_net.specs.declared.faults.FaultKind.{FaultKind as BlifKind}
use Rattle.blif_net.specs.declared.faults.FaultKind.TheVariants as blif_kinds
use Rattle.cover_nets.specs.declared.net.Net.{Net}
use Rattle.blif_net.specs.Dumped.{IsDumped}
use Rattle.blif_net.specs.Faults.{fault_of}
use Rattle.blif_net.specs.Networks.{IsBlifText}
use Rattle.command_words.specs.declared.order.Options.{Options}
use Rattle.command_words.specs.declared.order.Order.{Order}
use Rattle.command_words.specs.declared.order.Order.TheVariants.{Play, Build, Load, Gen}
use Rattle.command_words.specs.Orders.{is_play, order_of}
use Rattle.dddmp_text.specs.declared.faults.DddmpFault.{DddmpFault}
use Rattle.dddmp_text.specs.declared.faults.FaultKind.{FaultKind as DddmpKind}
use Rattle.dddmp_text.specs.declared.faults.FaultKind.TheVariants as dddmp_kinds
use Rattle.dddmp_text.specs.Faults.{IsDddmpText, fault_of as diagram_fault_of}
use Rattle.diagram_dumps.specs.declared.dump.Dump.{Dump}
use Rattle.diagram_dumps.specs.declared.listings.Listing.{Listing}
use Rattle.diagram_dumps.specs.Listings.{IsListing, dump_of}
use Rattle.job_text.specs.declared.job.Job.{Job}
use Rattle.job_text.specs.declared.faults.JobFault.{JobFault}
use Rattle.job_text.specs.declared.faults.FaultKind.{FaultKind}
use Rattle.job_text.specs.declared.faults.FaultKind.TheVariants as kinds
use Rattle.job_text.specs.Grammar.{IsJobText}
use Rattle.job_text.specs.Faults.{IsFaultText}
use Rattle.job_text.specs.Histories.{IsPlayed}
use Rattle.byte_streams.specs.Causes.{FaultsRose}
use Rattle.blif_net.specs.GenTexts.{gen_text}
use Rattle.net_builds.specs.Sifting.{sifted_order}
use Rattle.net_reports.specs.Reports.{IsReport, IsStored, IsSummary, Subject, dump_subject, net_subject, node_count, output_functions}
use Rattle.net_jobs.specs.declared.status.Status.{Status}
use Rattle.net_jobs.specs.declared.status.Status.TheVariants as status

-- `play` is asked for by the word `play` alone, and by no other words
abbrev pub PlaysAlone : List (List ℕ) → Type 0
PlaysAlone words = (is_play words ≡ true → order_of words ≡ Some Play) × (is_play words ≡ false → order_of words ≡ Some Play → ⊥)

-- These bytes are all of the input, as far as the source tells: it had them left, is at its end, and they are not too many.
pub record IsWhole (left rest : Option (List ℕ)) (bytes : List ℕ) : Type 0 where
  pub taken : Consumes left rest bytes
  pub end : IsAtEnd rest
  pub short : length bytes ≤ LONGEST_TEXT

-- the name of a kind of fault of a job
abbrev pub kind_word : FaultKind → List ℕ
kind_word kinds.Word = codes "word"
kind_word kinds.Name = codes "name"
kind_word kinds.Kind = codes "kind"
kind_word kinds.Range = codes "range"
kind_word kinds.Limit = codes "limit"
kind_word kinds.Again = codes "again"

abbrev pub fault_line : JobFault → List ℕ
fault_line fault = codes "fault: job " ++ decimal fault.line ++ codes " " ++ kind_word fault.what ++ codes "\n"

-- the name of a kind of fault of a network's text
abbrev pub blif_word : BlifKind → List ℕ
blif_word blif_kinds.Word = codes "word"
blif_word blif_kinds.Row = codes "row"
blif_word blif_kinds.Mixed = codes "mixed"
blif_word blif_kinds.Twice = codes "twice"
blif_word blif_kinds.TooMany = codes "too-many"
blif_word blif_kinds.LeftOut = codes "left-out"
blif_word blif_kinds.Model = codes "model"
blif_word blif_kinds.Formal = codes "formal"
blif_word blif_kinds.Undefined = codes "undefined"
blif_word blif_kinds.Cycle = codes "cycle"
blif_word blif_kinds.NoOutputs = codes "no-outputs"

abbrev pub blif_line : BlifFault → List ℕ
blif_line fault = codes "fault: blif " ++ decimal fault.line ++ codes " " ++ blif_word fault.what ++ codes "\n"

-- the name of a kind of fault of a stored diagram's text
abbrev pub dddmp_word : DddmpKind → List ℕ
dddmp_word dddmp_kinds.Header = codes "header"
dddmp_word dddmp_kinds.Missing = codes "missing"
dddmp_word dddmp_kinds.Count = codes "count"
dddmp_word dddmp_kinds.Node = codes "node"
dddmp_word dddmp_kinds.Order = codes "order"
dddmp_word dddmp_kinds.Variable = codes "variable"
dddmp_word dddmp_kinds.Root = codes "root"
dddmp_word dddmp_kinds.End = codes "end"

abbrev pub dddmp_line : DddmpFault → List ℕ
dddmp_line fault = codes "fault: dddmp " ++ decimal fault.line ++ codes " " ++ dddmp_word fault.what ++ codes "\n"

-- so many slots are in use, of so many
abbrev pub full_line : ℕ → ℕ → List ℕ
full_line in_use limit = codes "fault: full " ++ decimal in_use ++ codes " of " ++ decimal limit ++ codes "\n"

-- the command reads the source
abbrev pub Reads : Option Order → Type 0
Reads None = ⊥
Reads (Some Play) = Unit {0}
Reads (Some (Build workers limit options)) = Unit {0}
Reads (Some (Load patterns)) = Unit {0}
Reads (Some (Gen workers bits)) = ⊥

-- the variables of a network in the order of its inputs
abbrev pub rising : Net → List ℕ
rising net = range_with_len 0 (length net.inputs)

-- In which order `build` has the variables of a network where it tells of the outputs: that of the inputs; or, where a sift is asked for, the one that a sift leaves for the outputs' functions over one default block, in a store of so many slots beyond the permanent ones.
abbrev pub order_for : Net → ℕ → Options → List ℕ
order_for net limit options =
    if options.sift then sifted_order (5 + length net.inputs + limit) (length net.inputs) (output_functions net) else rising net

-- inputs, nodes of the functions with the constant, and outputs
abbrev pub signals_of : List (List ℕ) → Subject → ℕ
signals_of inputs subject = length inputs + node_count subject.order subject.functions + length subject.names

-- The text is that of a network of multiplexers, one for each line of a listing of the subject's functions under its order: it has no more signals than a text may have and no fault, and each network of it has these inputs and the subject's names, as they are written, and gives each output its function.
pub record IsNetworkText (inputs : List (List ℕ)) (subject : Subject) (text : List ℕ) : Type 0 where
  pub listing : Listing
  pub listed : IsListing subject.order subject.functions listing
  pub bytes : text ≡ multiplexers (dump_of listing) inputs subject.names
  pub few : signals_of inputs subject ≤ MOST_SIGNALS
  pub dumped : IsDumped (dump_of listing) inputs subject.names text

-- such a text where it is asked for, and else none
abbrev pub IsIf : Bool → (List ℕ → Type 0) → List ℕ → Type 0
IsIf true Is text = Is text
IsIf false Is text = text ≡ []

-- What `build` tells: the report; behind it, where that is asked for, the stored diagram of the outputs; and behind both, where that is asked for, the outputs as a network of multiplexers.
pub record IsBuildText (options : Options) (inputs : List (List ℕ)) (subject : Subject) (text : List ℕ) : Type 0 where
  pub report : List ℕ
  pub stored : List ℕ
  pub network : List ℕ
  pub text_is : text ≡ report ++ stored ++ network
  pub reports : IsReport subject report
  pub stores : IsIf options.store (IsStored subject) stored
  pub multiplexes : IsIf options.blif (IsNetworkText inputs subject) network

-- what `build` tells of: the outputs of a network, under the order that is due
abbrev pub built_subject : Net → ℕ → Options → Subject
built_subject net limit options = net_subject net (order_for net limit options) options.patterns

-- What a command tells, whatever the number of workers: `play` the history of the job that it read, `build` what is due of the network that it read, `load` the report of the stored diagram that it read, `gen` the summary of the network that is made. The source had `left` left when the run began and has `rest` left.
abbrev pub IsDone : Option Order → Option (List ℕ) → Option (List ℕ) → List ℕ → Type 0
IsDone None left rest text = ⊥
IsDone (Some Play) left rest text = (bytes : List ℕ) × (job : Job) × IsWhole left rest bytes × IsJobText bytes job × IsPlayed job text
IsDone (Some (Build workers limit options)) left rest text =
    (bytes : List ℕ) × (net : Net) × IsWhole left rest bytes × IsBlifText bytes net × IsBuildText options net.inputs (built_subject net limit options) text
IsDone (Some (Load patterns)) left rest text =
    (bytes : List ℕ) × (dump : Dump) × IsWhole left rest bytes × IsDddmpText bytes dump × IsReport (dump_subject dump (range_with_len 0 dump.nvars) patterns) text
IsDone (Some (Gen workers bits)) left rest text =
    (rest ≡ left) × (net : Net) × IsBlifText (gen_text bits) net × IsSummary (net_subject net (rising net) []) text

-- What is told of a full manager: 5 slots, one for each variable and the limit are in use, of as many.
abbrev pub IsFilled : Option Order → Option (List ℕ) → Option (List ℕ) → List ℕ → Type 0
IsFilled None left rest text = ⊥
IsFilled (Some Play) left rest text = ⊥
IsFilled (Some (Build workers limit options)) left rest text =
    (bytes : List ℕ) × (net : Net) × IsWhole left rest bytes × IsBlifText bytes net × (text ≡ full_line (5 + length net.inputs + limit) (5 + length net.inputs + limit))
IsFilled (Some (Load patterns)) left rest text =
    (bytes : List ℕ) × (dump : Dump) × IsWhole left rest bytes × IsDddmpText bytes dump × (text ≡ full_line (5 + dump.nvars + USUAL_LIMIT) (5 + dump.nvars + USUAL_LIMIT))
IsFilled (Some (Gen workers bits)) left rest text =
    (rest ≡ left) × (net : Net) × IsBlifText (gen_text bits) net × (text ≡ full_line (5 + length net.inputs + USUAL_LIMIT) (5 + length net.inputs + USUAL_LIMIT))

-- a network of so many signals is more than is read
abbrev pub large_line : ℕ → List ℕ
large_line signals = codes "fault: large " ++ decimal signals ++ codes "\n"

-- The outputs were asked for as a network, which would have more signals than a text may have: their number is told.
abbrev pub IsLarge : Option Order → Option (List ℕ) → Option (List ℕ) → List ℕ → Type 0
IsLarge (Some (Build workers limit options)) left rest text =
    (options.blif ≡ true) × (bytes : List ℕ) × (net : Net) × IsWhole left rest bytes × IsBlifText bytes net
    × (MOST_SIGNALS < signals_of net.inputs (built_subject net limit options)) × (text ≡ large_line (signals_of net.inputs (built_subject net limit options)))
IsLarge _ left rest text = ⊥

-- a fault of the text of a network that was to be built
abbrev pub IsFaulty : Option Order → Option (List ℕ) → Option (List ℕ) → List ℕ → Type 0
IsFaulty (Some (Build workers limit options)) left rest text =
    (bytes : List ℕ) × (fault : BlifFault) × IsWhole left rest bytes × (fault_of bytes ≡ Some fault) × (text ≡ blif_line fault)
IsFaulty _ left rest text = ⊥

-- a fault of the text of a stored diagram that was to be loaded
abbrev pub IsFaultyDiagram : Option Order → Option (List ℕ) → Option (List ℕ) → List ℕ → Type 0
IsFaultyDiagram (Some (Load patterns)) left rest text =
    (bytes : List ℕ) × (fault : DddmpFault) × IsWhole left rest bytes × (diagram_fault_of bytes ≡ Some fault) × (text ≡ dddmp_line fault)
IsFaultyDiagram _ left rest text = ⊥

-- What there is to tell: a status with its cause, and its text. The source had `left` left when the run began and has `rest`
-- left; `failed` says that its count of faults rose. Want of memory alone has no cause. A failing sink is told of by itself.
abbrev pub Due : Option Order → Option (List ℕ) → Option (List ℕ) → Type 0 → Status → List ℕ → Type 0
Due order left rest failed status.Ok text = IsDone order left rest text
Due order left rest failed status.Usage text = (order ≡ None) × (text ≡ codes "fault: usage\n")
Due order left rest failed status.Blif text = IsFaulty order left rest text
Due order left rest failed status.Full text = IsFilled order left rest text
Due order left rest failed status.Memory text = text ≡ codes "fault: memory\n"
Due order left rest failed status.ReadFault text = Reads order × failed × (text ≡ codes "fault: read\n")
Due order left rest failed status.WriteFault text = ⊥
Due order left rest failed status.Dddmp text = IsFaultyDiagram order left rest text
Due order left rest failed status.Job text =
    (order ≡ Some Play) × (bytes : List ℕ) × (fault : JobFault) × IsWhole left rest bytes × IsFaultText bytes fault.line fault.what × (text ≡ fault_line fault)
Due order left rest failed status.TooLong text =
    Reads order × (bytes : List ℕ) × Consumes left rest bytes × (length bytes ≡ LONGEST_TEXT + 1) × (text ≡ codes "fault: too long\n")
Due order left rest failed status.Large text = IsLarge order left rest text

-- Where the words are `play`, the source tells what it has left, which is the text of a job and not too long, and its count of
-- faults did not rise, there is the history to tell, or want of memory.
abbrev pub IsComplete : Type 0
IsComplete = (bytes : List ℕ) (job : Job) (rest : Option (List ℕ)) (before now : ℕ) (ended : Status) (text : List ℕ)
    → IsJobText bytes job → length bytes ≤ LONGEST_TEXT → (FaultsRose before now → ⊥)
    → Due (Some Play) (Some bytes) rest (FaultsRose before now) ended text → (ended ≡ status.Ok) ⊎ (ended ≡ status.Memory)

-- Where the words ask for a network to be built, the source tells what it has left, which is the text of one and not too long, and
-- its count of faults did not rise, there is what is due to tell, that the manager is full, that the network of multiplexers is too large, or want of memory.
abbrev pub IsCompleteForBuilds : Type 0
IsCompleteForBuilds = (workers limit : ℕ) (options : Options) (bytes : List ℕ) (net : Net) (rest : Option (List ℕ)) (before now : ℕ) (ended : Status) (text : List ℕ)
    → IsBlifText bytes net → length bytes ≤ LONGEST_TEXT → (FaultsRose before now → ⊥)
    → Due (Some (Build workers limit options)) (Some bytes) rest (FaultsRose before now) ended text → (ended ≡ status.Ok) ⊎ ((ended ≡ status.Full) ⊎ ((ended ≡ status.Large) ⊎ (ended ≡ status.Memory)))

-- So it is where they ask for a stored diagram to be loaded.
abbrev pub IsCompleteForLoads : Type 0
IsCompleteForLoads = (patterns : List (List Bool)) (bytes : List ℕ) (dump : Dump) (rest : Option (List ℕ)) (before now : ℕ) (ended : Status) (text : List ℕ)
    → IsDddmpText bytes dump → length bytes ≤ LONGEST_TEXT → (FaultsRose before now → ⊥)
    → Due (Some (Load patterns)) (Some bytes) rest (FaultsRose before now) ended text → (ended ≡ status.Ok) ⊎ ((ended ≡ status.Full) ⊎ (ended ≡ status.Memory))

-- Where they ask for a network that is made, whatever the source has left and whether or not it fails, there is the summary to
-- tell, that the manager is full, or want of memory.
abbrev pub IsCompleteForMade : Type 0
IsCompleteForMade = (workers bits : ℕ) (left rest : Option (List ℕ)) (before now : ℕ) (ended : Status) (text : List ℕ)
    → Due (Some (Gen workers bits)) left rest (FaultsRose before now) ended text → (ended ≡ status.Ok) ⊎ ((ended ≡ status.Full) ⊎ (ended ≡ status.Memory))
