-- The report of a network or of a stored diagram, and the summary of a network.
use Rattle.std.specs.Prelude.{◌≡◌, ℕ, ◌==◌, Bool, List, [], ◌++◌, codes, length, map, count_by, IsPermutation, if◌then◌else◌}
use Rattle.std.specs.List.{enumerate_from, flat_map, range_with_len, zip}
use Rattle.std.specs.Fmt.{decimal}
use Rattle.function_laws.specs.Kinds.{BddFunction}
use Rattle.function_laws.specs.Sizes.{size}
use Rattle.cover_nets.specs.declared.net.Net.{Net}
use Rattle.cover_nets.specs.Networks.{signal_value}
use Rattle.diagram_dumps.specs.declared.dump.Dump.{Dump}
use Rattle.dddmp_text.specs.Written.{written}
use Rattle.diagram_dumps.specs.declared.listings.Listing.{Listing}
use Rattle.diagram_dumps.specs.Listings.{IsListing, dump_of}
use Rattle.net_reports.specs.Classes.{AreClasses, Function}
use Rattle.net_reports.specs.Evaluations.{evaluation_at}
use Rattle.net_reports.specs.RootClasses.{root_functions}
use Rattle.net_reports.specs.declared.classes.Class.{Class}
use Rattle.net_reports.specs.declared.patterns.Evaluation.{Evaluation}

-- a word and a number
abbrev pub count_line : List ℕ → ℕ → List ℕ
count_line word count = word ++ codes " " ++ decimal count ++ codes "\n"

-- `out I NAME F S`: an output's number and name, the number of its class's first output, and `-` where it is the complement of that
abbrev pub out_line : ℕ → List ℕ → Class → List ℕ
out_line i name class =
    codes "out " ++ decimal i ++ codes " " ++ name ++ codes " " ++ decimal class.first ++ (if class.complement then codes " -\n" else codes " +\n")

abbrev pub out_lines : List (List ℕ) → List Class → List ℕ
out_lines names classes = flat_map (λ numbered. out_line numbered.0 numbered.1.0 numbered.1.1) (enumerate_from 0 (zip names classes))

abbrev pub digit : Bool → ℕ
digit b = if b then 49 else 48

-- `eval BITS -> ` and one digit for each output
abbrev pub eval_line : List Bool → List Bool → List ℕ
eval_line pattern values = codes "eval " ++ map digit pattern ++ codes " -> " ++ map digit values ++ codes "\n"

-- `order` and the variables from the top
abbrev pub order_line : List ℕ → List ℕ
order_line order = codes "order" ++ flat_map (λ v. codes " " ++ decimal v) order ++ codes "\n"

-- the lines behind those of the outputs
abbrev pub rest_text : List Evaluation → List ℕ → ℕ → List ℕ
rest_text evaluations order nodes =
    flat_map (λ one. eval_line one.pattern one.values) evaluations ++ order_line order ++ count_line (codes "nodes") nodes

-- the text of a report of so many inputs, and of the outputs' names and classes
unfoldable pub report_text : ℕ → List (List ℕ) → List Class → List Evaluation → List ℕ → ℕ → List ℕ
report_text inputs names classes evaluations order nodes =
    count_line (codes "inputs") inputs ++ count_line (codes "outputs") (length names) ++ out_lines names classes ++ rest_text evaluations order nodes

-- the outputs that are their own first
abbrev pub count_firsts : List Class → ℕ
count_firsts classes = count_by (λ numbered. numbered.1.first == numbered.0) (enumerate_from 0 classes)

unfoldable pub summary_text : ℕ → ℕ → ℕ → ℕ → List ℕ
summary_text inputs outputs classes nodes =
    count_line (codes "inputs") inputs ++ count_line (codes "outputs") outputs ++ count_line (codes "classes") classes ++ count_line (codes "nodes") nodes

-- What is reported of: n variables, the outputs' names and functions, the order of the variables, and the patterns at which the outputs are evaluated.
pub record Subject : Type 0 where
  pub n : ℕ
  pub names : List (List ℕ)
  pub functions : List Function
  pub order : List ℕ
  pub patterns : List (List Bool)

-- the number of distinct functions, up to complement, among the cofactors of the functions by the first variables of the order
abbrev pub node_count : List ℕ → List Function → ℕ
node_count order functions = size (record { variables = order; elements = [] }) (map BddFunction functions)

-- the patterns with the values of the outputs
abbrev pub evaluations_of : Subject → List Evaluation
evaluations_of subject = map (evaluation_at subject.n subject.functions) subject.patterns

-- The text is a report of this subject, whose order has each of its variables once.
pub record IsReport (subject : Subject) (text : List ℕ) : Type 0 where
  pub orders : IsPermutation (range_with_len 0 subject.n) subject.order
  pub classes : List Class
  pub are_classes : AreClasses subject.n subject.functions classes
  pub bytes : text ≡ report_text subject.n subject.names classes (evaluations_of subject) subject.order (node_count subject.order subject.functions)

-- The text is the summary of this subject, whose order has each of its variables once: the outputs that are their own first are counted, not listed.
pub record IsSummary (subject : Subject) (text : List ℕ) : Type 0 where
  pub orders : IsPermutation (range_with_len 0 subject.n) subject.order
  pub classes : List Class
  pub are_classes : AreClasses subject.n subject.functions classes
  pub bytes : text ≡ summary_text subject.n (length subject.names) (count_firsts classes) (node_count subject.order subject.functions)

-- the outputs' names and functions of a network
abbrev pub output_names : Net → List (List ℕ)
output_names net = map (λ output. output.name) net.outputs

abbrev pub output_functions : Net → List Function
output_functions net = map (λ output. signal_value net output.signal) net.outputs

abbrev pub net_subject : Net → List ℕ → List (List Bool) → Subject
net_subject net order patterns = record {
  n = length net.inputs;
  names = output_names net;
  functions = output_functions net;
  order = order;
  patterns = patterns;
}

-- `r0`, `r1`, ..
abbrev pub root_names : ℕ → List (List ℕ)
root_names count = map (λ i. codes "r" ++ decimal i) (range_with_len 0 count)

abbrev pub dump_subject : Dump → List ℕ → List (List Bool) → Subject
dump_subject dump order patterns = record {
  n = dump.nvars;
  names = root_names (length dump.roots);
  functions = root_functions dump;
  order = order;
  patterns = patterns;
}

-- The text that follows a report where the outputs are stored: that of a listing of their functions under the order.
pub record IsStored (subject : Subject) (text : List ℕ) : Type 0 where
  pub listing : Listing
  pub listed : IsListing subject.order subject.functions listing
  pub bytes : text ≡ written (dump_of listing)
