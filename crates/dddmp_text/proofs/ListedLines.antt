-- A line behind `.nodes`, by what its first word is.
use Rattle.std.proofs.Common.{◌≡◌, ℕ, ◌+◌, ◌-◌, ◌<◌, ◌≤◌, ◌==◌, nat_lt, Bool, true, false, not, List, [], ◌∷◌, ◌++◌, Option, Some, None, codes, length, refl, sym, ◌∙◌, ap, subst, arith, if◌then◌else◌}
use Rattle.std.specs.Bool.{then_some}
use Rattle.std.specs.Option.{option_or}
use Rattle.std.specs.Str.{bytes_eq}
use Rattle.std.specs.Str.Parse.{digits_value}
use Rattle.std.proofs.lemmas.Bool.{eq-eqb}
use Rattle.std.proofs.lemmas.Bool.Decides.{nat_tests}
use Rattle.job_words.specs.Text.{Word, integer_value}
use Rattle.edge_bits.specs.declared.edges.Line.{Line}
use Rattle.dddmp_text.specs.declared.faults.DddmpStop.{DddmpStop}
use Rattle.dddmp_text.specs.declared.faults.FaultKind.{FaultKind}
use Rattle.dddmp_text.specs.declared.faults.FaultKind.TheVariants as kinds
use Rattle.dddmp_text.specs.declared.fields.Field.TheVariants as fields
use Rattle.dddmp_text.specs.declared.fields.Given.{Given}
use Rattle.dddmp_text.specs.declared.node_lines.Listed.{Listed}
use Rattle.dddmp_text.specs.declared.node_lines.NodeWords.{NodeWords}
use Rattle.dddmp_text.specs.Fields.{Fields, fields_of, is_node, is_terminal, number}
use Rattle.dddmp_text.specs.Faults.{Context, after_words, ended, fields_fault, listing, next_index, with_node, words_fault}
use Rattle.dddmp_text.specs.Reading.{AreOfHeader, IsEmptyAtStart, ListsOn, StopIs, TakesNode, fields_fault_of, fields_in, has_count, is_ordered, line_fault, line_of, read_fault, with_id, with_line, words_in}

clash : {A : Type 0} → true ≡ false → A
clash c = cc

-- lines of other lengths
pub no-fields : (words : List Word) → has_count words ≡ false → fields_of words ≡ None
no-fields [] h = refl
no-fields (a ∷ []) h = refl
no-fields (a ∷ b ∷ []) h = refl
no-fields (a ∷ b ∷ c ∷ []) h = refl
no-fields (a ∷ b ∷ c ∷ d ∷ []) h = clash h
no-fields (a ∷ b ∷ c ∷ d ∷ e ∷ []) h = clash h
no-fields (a ∷ b ∷ c ∷ d ∷ e ∷ f ∷ words) h = refl

pub no-terminal : (words : List Word) → has_count words ≡ false → is_terminal words ≡ false
no-terminal [] h = refl
no-terminal (a ∷ []) h = refl
no-terminal (a ∷ b ∷ []) h = refl
no-terminal (a ∷ b ∷ c ∷ []) h = refl
no-terminal (a ∷ b ∷ c ∷ d ∷ []) h = clash h
no-terminal (a ∷ b ∷ c ∷ d ∷ e ∷ []) h = clash h
no-terminal (a ∷ b ∷ c ∷ d ∷ e ∷ f ∷ words) h = refl

fields-with : (index : Word) (id : Option Word) (internal hi lo : Word) → fields_of (index ∷ with_id id (internal ∷ hi ∷ lo ∷ [])) ≡ Some (record { index = index; internal = internal; hi = hi; lo = lo })
fields-with index None internal hi lo = refl
fields-with index (Some id) internal hi lo = refl

pub fields-in : (line : List Word) (words : NodeWords) → line ≡ words_in words → fields_of line ≡ Some (fields_in words)
fields-in line words e = ap fields_of e ∙ fields-with words.index.now _ words.internal.now words.hi.now words.lo.now

module _ (old new : Listed) (index : ℕ) (variables : List ℕ) (line : List Word) where
  abbrev fault_by : Bool → Option Fields → Bool → Option FaultKind
  fault_by started read terminal = if started then fields_fault_of (length variables) index read else then_some (not terminal) kinds.Node

  fault-is : (started terminal : Bool) (read : Option Fields) → old.started ≡ started → fields_of line ≡ read → is_terminal line ≡ terminal
      → line_fault old.started index (length variables) line ≡ fault_by started read terminal
  fault-is started terminal read e f g =
      ap (λ (b : Bool). fault_by b (fields_of line) (is_terminal line)) e ∙ ap (λ (o : Option Fields). fault_by started o (is_terminal line)) f ∙ ap (λ (b : Bool). fault_by started read b) g

  -- a line of another length
  pub other-count : has_count line ≡ false → line_fault old.started index (length variables) line ≡ Some kinds.Node
  other-count h = by_start old.started refl
    where
      by_start : (b : Bool) → old.started ≡ b → line_fault old.started index (length variables) line ≡ Some kinds.Node
      by_start true e = fault-is true false None e (no-fields line h) (no-terminal line h)
      by_start false e = fault-is false false None e (no-fields line h) (no-terminal line h)

  -- the line of the constant, or another one in its place
  pub takes-constant : old.started ≡ false → is_terminal line ≡ true → new.started ≡ true → new.nodes ≡ old.nodes → TakesNode old index variables line new
  takes-constant e f started nodes = record {
    faultless = fault-is false true (fields_of line) e refl f;
    started = started;
    nodes = nodes ∙ sym (ap (λ (b : Bool). if b then with_line variables old.nodes (fields_of line) else old.nodes) e);
  }

  pub no-constant : old.started ≡ false → is_terminal line ≡ false → line_fault old.started index (length variables) line ≡ Some kinds.Node
  no-constant e f = fault-is false false (fields_of line) e refl f

  module _ (words : NodeWords) (is : line ≡ words_in words) (begun : old.started ≡ true) where
    -- a node
    pub takes-node : (node : Line) → read_fault (length variables) index (fields_in words) ≡ None → node ≡ line_of variables (fields_in words) → new.started ≡ true → new.nodes ≡ old.nodes ++ node ∷ []
        → TakesNode old index variables line new
    takes-node node faultless told started nodes = record {
      faultless = fault-is true (is_terminal line) (Some (fields_in words)) begun (fields-in line words is) refl ∙ faultless;
      started = started;
      nodes = nodes ∙ ap (λ (n : Line). old.nodes ++ n ∷ []) told ∙ sym (ap (λ (b : Bool). if b then with_line variables old.nodes (fields_of line) else old.nodes) begun
          ∙ ap (with_line variables old.nodes) (fields-in line words is));
    }

    pub node-stops : (kind : FaultKind) → read_fault (length variables) index (fields_in words) ≡ Some kind → line_fault old.started index (length variables) line ≡ Some kind
    node-stops kind fault = fault-is true (is_terminal line) (Some (fields_in words)) begun (fields-in line words is) refl ∙ fault

-- the internal index of a faultless line is that of a variable
third : (form order variable : Bool) → option_or (then_some (not form) kinds.Node) (option_or (then_some (not order) kinds.Order) (then_some (not variable) kinds.Variable)) ≡ None → variable ≡ true
third true true true h = refl
third true true false h = cc
third true false variable h = cc
third false order variable h = cc

less_from : (a b : ℕ) → nat_lt a b ≡ true → a < b
less_from a b e = grind (arith, nat_tests)

same-lines : (given : List Given) (variables : List ℕ) (header : AreOfHeader given variables) (nodes : List Line) (index : ℕ) (read : Option Fields) → fields_fault_of (length variables) index read ≡ None
    → with_line variables nodes read ≡ with_node given nodes read
same-lines given variables header nodes index None faultless = refl
same-lines given variables header nodes index (Some read) faultless =
    let internal = digits_value 10 read.internal in
    let known : internal < length variables = less_from internal (length variables) (third (is_node index read) (is_ordered index read) (nat_lt internal (length variables)) faultless) in
    let variable = header.told internal (omega (arith, known, header.as_many)) in
    ap (λ var. nodes ++ record { var = var; hi = digits_value 10 read.hi; lo = integer_value read.lo } ∷ []) variable

module _ (given : List Given) (variables : List ℕ) (header : AreOfHeader given variables) (old : Listed) (empty : IsEmptyAtStart old) where
  -- a line without words
  pub nothing-lists : (line : List Word) → line ≡ [] → ListsOn given old line old false
  nothing-lists line e = record { faultless = ap (words_fault (listing given old.started old.nodes)) e; leaves = ap (after_words (listing given old.started old.nodes)) e; empty = empty }

  abbrev any_fault : Bool → List Word → Option FaultKind
  any_fault is_end line =
      if is_end then then_some (not (next_index old.started old.nodes == number given fields.Nnodes + 1)) kinds.Count else
      if old.started then fields_fault given (next_index old.started old.nodes) (fields_of line) else then_some (not (is_terminal line)) kinds.Node

  abbrev any_after : Bool → List Word → Context
  any_after is_end line =
      if is_end then ended given old.nodes else
      if old.started then listing given true (with_node given old.nodes (fields_of line)) else listing given true []

  module _ (line : List Word) (word : Word) (behind : List Word) (cut : line ≡ word ∷ behind) where
    fault-by : (is_end : Bool) → bytes_eq word (codes ".end") ≡ is_end → words_fault (listing given old.started old.nodes) line ≡ any_fault is_end line
    fault-by is_end e =
        ap (words_fault (listing given old.started old.nodes)) cut ∙ ap (λ (b : Bool). any_fault b (word ∷ behind)) e ∙ ap (any_fault is_end) (sym cut)

    after-by : (is_end : Bool) → bytes_eq word (codes ".end") ≡ is_end → after_words (listing given old.started old.nodes) line ≡ any_after is_end line
    after-by is_end e =
        ap (after_words (listing given old.started old.nodes)) cut ∙ ap (λ (b : Bool). any_after b (word ∷ behind)) e ∙ ap (any_after is_end) (sym cut)

    -- `.end`
    pub ends : (index : ℕ) → bytes_eq word (codes ".end") ≡ true → index ≡ next_index old.started old.nodes → 1 ≤ index → index - 1 ≡ number given fields.Nnodes → ListsOn given old line old true
    ends index e is some counted =
        let same : next_index old.started old.nodes ≡ number given fields.Nnodes + 1 = omega (arith, is, some, counted) in
        record {
          faultless = fault-by true e ∙ ap (λ (b : Bool). then_some (not b) kinds.Count) (eq-eqb (next_index old.started old.nodes) (number given fields.Nnodes + 1) same);
          leaves = after-by true e;
          empty = empty;
        }

    pub end-stops : bytes_eq word (codes ".end") ≡ true → (next_index old.started old.nodes == number given fields.Nnodes + 1) ≡ false → words_fault (listing given old.started old.nodes) line ≡ Some kinds.Count
    end-stops e other = fault-by true e ∙ ap (λ (b : Bool). then_some (not b) kinds.Count) other

    same-fault : (read : Option Fields) → fields_fault given (next_index old.started old.nodes) read ≡ fields_fault_of (number given fields.Nsuppvars) (next_index old.started old.nodes) read
    same-fault None = refl
    same-fault (Some read) = refl

    node-fault : (index : ℕ) → bytes_eq word (codes ".end") ≡ false → index ≡ next_index old.started old.nodes
        → words_fault (listing given old.started old.nodes) line ≡ line_fault old.started index (length variables) line
    node-fault index e is =
        fault-by false e
        ∙ ap (λ (o : Option FaultKind). if old.started then o else then_some (not (is_terminal line)) kinds.Node) (same-fault (fields_of line))
        ∙ ap (λ support. line_fault old.started (next_index old.started old.nodes) support line) (sym header.as_many)
        ∙ ap (λ i. line_fault old.started i (length variables) line) (sym is)

    pub node-stop : (index : ℕ) (stop : DddmpStop) → bytes_eq word (codes ".end") ≡ false → index ≡ next_index old.started old.nodes
        → StopIs (line_fault old.started index (length variables) line) stop → StopIs (words_fault (listing given old.started old.nodes) line) stop
    node-stop index stop e is h = subst (λ (fault : Option FaultKind). StopIs fault stop) (sym (node-fault index e is)) h

    -- a node line
    pub lists-node : (index : ℕ) (new : Listed) → bytes_eq word (codes ".end") ≡ false → index ≡ next_index old.started old.nodes → TakesNode old index variables line new → ListsOn given old line new false
    lists-node index new e is takes = record {
      faultless = node-fault index e is ∙ takes.faultless;
      leaves = after-by false e ∙ by_start old.started refl;
      empty = λ h. clash (sym takes.started ∙ h);
    }
      where
        by_start : (b : Bool) → old.started ≡ b
            → (if old.started then listing given true (with_node given old.nodes (fields_of line)) else listing given true []) ≡ listing given new.started new.nodes
        by_start true begun =
            let faultless = sym (ap (λ (b : Bool). if b then fields_fault_of (length variables) index (fields_of line) else then_some (not (is_terminal line)) kinds.Node) begun) ∙ takes.faultless in
            let nodes = takes.nodes ∙ ap (λ (b : Bool). if b then with_line variables old.nodes (fields_of line) else old.nodes) begun in
            ap (λ (b : Bool). if b then listing given true (with_node given old.nodes (fields_of line)) else listing given true []) begun
            ∙ ap (λ (nodes : List Line). listing given true nodes) (sym (nodes ∙ same-lines given variables header old.nodes index (fields_of line) faultless))
            ∙ ap (λ (b : Bool). listing given b new.nodes) (sym takes.started)
        by_start false begun =
            let nodes = takes.nodes ∙ ap (λ (b : Bool). if b then with_line variables old.nodes (fields_of line) else old.nodes) begun in
            ap (λ (b : Bool). if b then listing given true (with_node given old.nodes (fields_of line)) else listing given true []) begun
            ∙ ap (λ (nodes : List Line). listing given true nodes) (sym (nodes ∙ empty begun))
            ∙ ap (λ (b : Bool). listing given b new.nodes) (sym takes.started)

pub not-other : (r b : Bool) → r ≡ not b → r ≡ true → b ≡ false
not-other r false e h = refl
not-other r true e h = clash (sym h ∙ e)
