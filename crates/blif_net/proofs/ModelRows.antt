-- Worked texts of several models, computed by the definitions.
use Rattle.std.proofs.Common.{◌≡◌, [], ◌∷◌, Some, None, true, codes, refl}
use Rattle.std.specs.Fmt.{digits}
use Rattle.job_words.specs.Classes.{words_between}
use Rattle.blif_models.specs.Circuits.{settles}
use Rattle.blif_models.specs.Models.{copies_within, expanded}
use Rattle.blif_models.specs.ModelFaults.{reached, signals_within, latches_in_all}
use Rattle.blif_net.specs.declared.faults.FaultKind.TheVariants as kinds
use Rattle.blif_text.specs.Text.{lines_of, joined_from, joined_lines}
use Rattle.blif_text.specs.Statements.{statement_of}
use Rattle.blif_net.specs.Circuits.{behind, circuit_of}
use Rattle.blif_net.specs.Faults.{faulty_line, line_fault, fault_of, fault_at}

two_models : fault_of (codes ".model top\n.inputs a b\n.outputs s\n.subckt x p=a q=b r=s\n.end\n.model x\n.inputs p q\n.outputs r\n.names p q r\n01 1\n10 1\n.end\n") ≡ None
unfolding fault_of lines_of joined_from words_between statement_of behind faulty_line line_fault copies_within expanded reached signals_within latches_in_all settles digits
two_models = refl

a_latch : fault_of (codes ".model m\n.inputs a\n.outputs q\n.latch a q 0\n") ≡ None
unfolding fault_of lines_of joined_from words_between statement_of behind faulty_line line_fault copies_within expanded reached signals_within latches_in_all settles digits
a_latch = refl

holds_itself : fault_of (codes ".model t\n.inputs a\n.outputs f\n.subckt t a=a f=f\n") ≡ Some (fault_at kinds.Cycle 4)
unfolding fault_of lines_of joined_from words_between statement_of behind faulty_line line_fault copies_within expanded reached signals_within latches_in_all settles digits
holds_itself = refl

no_such_model : fault_of (codes ".model t\n.inputs a\n.outputs f\n.subckt u a=a f=f\n") ≡ Some (fault_at kinds.Model 4)
unfolding fault_of lines_of joined_from words_between statement_of behind faulty_line line_fault copies_within expanded reached signals_within latches_in_all settles digits
no_such_model = refl

not_joined : fault_of (codes ".model t\n.inputs a\n.outputs f\n.subckt t f=f\n") ≡ Some (fault_at kinds.Formal 4)
unfolding fault_of lines_of joined_from words_between statement_of behind faulty_line line_fault copies_within expanded reached signals_within latches_in_all settles digits
not_joined = refl

-- a formal output's actual that has another definition, at the later line
joined_twice : fault_of (codes ".model t\n.inputs a b\n.outputs f g\n.subckt x p=a r=f\n.subckt x p=b r=f\n.model x\n.inputs p\n.outputs r\n.names p r\n1 1\n") ≡ Some (fault_at kinds.Twice 5)
unfolding fault_of lines_of joined_from words_between statement_of behind faulty_line line_fault copies_within expanded reached signals_within latches_in_all settles digits
joined_twice = refl

joined_to_an_input : fault_of (codes ".model t\n.inputs a\n.outputs a\n.subckt x r=a\n.model x\n.outputs r\n.names r\n1\n") ≡ Some (fault_at kinds.Twice 4)
unfolding fault_of lines_of joined_from words_between statement_of behind faulty_line line_fault copies_within expanded reached signals_within latches_in_all settles digits
joined_to_an_input = refl

joined_to_a_later_cover : fault_of (codes ".model t\n.outputs f\n.subckt x r=f\n.names f\n1\n.model x\n.outputs r\n.names r\n1\n") ≡ Some (fault_at kinds.Twice 4)
unfolding fault_of lines_of joined_from words_between statement_of behind faulty_line line_fault copies_within expanded reached signals_within latches_in_all settles digits
joined_to_a_later_cover = refl

both_outputs_joined_alike : fault_of (codes ".model t\n.outputs f\n.subckt x r=f s=f\n.model x\n.outputs r s\n.names r\n.names s\n") ≡ Some (fault_at kinds.Twice 3)
unfolding fault_of lines_of joined_from words_between statement_of behind faulty_line line_fault copies_within expanded reached signals_within latches_in_all settles digits
both_outputs_joined_alike = refl

first_value_four : fault_of (codes ".model m\n.inputs a\n.outputs q\n.latch a q 4\n") ≡ Some (fault_at kinds.Word 4)
unfolding fault_of lines_of joined_from words_between statement_of behind faulty_line line_fault copies_within expanded reached signals_within latches_in_all settles digits
first_value_four = refl

type_without_control : fault_of (codes ".model m\n.inputs a\n.outputs q\n.latch a q re\n") ≡ Some (fault_at kinds.Word 4)
unfolding fault_of lines_of joined_from words_between statement_of behind faulty_line line_fault copies_within expanded reached signals_within latches_in_all settles digits
type_without_control = refl

two_values : fault_of (codes ".model m\n.inputs a\n.outputs q\n.latch a q 2 3\n") ≡ Some (fault_at kinds.Word 4)
unfolding fault_of lines_of joined_from words_between statement_of behind faulty_line line_fault copies_within expanded reached signals_within latches_in_all settles digits
two_values = refl

latch_with_all : fault_of (codes ".model m\n.inputs a\n.outputs q\n.latch a q re clk 3\n") ≡ None
unfolding fault_of lines_of joined_from words_between statement_of behind faulty_line line_fault copies_within expanded reached signals_within latches_in_all settles digits
latch_with_all = refl

latch_of_an_input : fault_of (codes ".model m\n.inputs a\n.outputs a\n.latch a a 0\n") ≡ Some (fault_at kinds.Twice 4)
unfolding fault_of lines_of joined_from words_between statement_of behind faulty_line line_fault copies_within expanded reached signals_within latches_in_all settles digits
latch_of_an_input = refl

-- told at the cover that reads, not at the `.subckt`
undefined_inside : fault_of (codes ".model t\n.inputs a\n.outputs f\n.subckt x p=u r=f\n.model x\n.inputs p\n.outputs r\n.names p r\n1 1\n") ≡ Some (fault_at kinds.Undefined 8)
unfolding fault_of lines_of joined_from words_between statement_of behind faulty_line line_fault copies_within expanded reached signals_within latches_in_all settles digits
undefined_inside = refl

undefined_by_a_latch : fault_of (codes ".model t\n.inputs a\n.outputs a\n.latch u q\n") ≡ Some (fault_at kinds.Undefined 4)
unfolding fault_of lines_of joined_from words_between statement_of behind faulty_line line_fault copies_within expanded reached signals_within latches_in_all settles digits
undefined_by_a_latch = refl

-- a formal output that nothing defines is undefined where its actual is used
output_never_defined : fault_of (codes ".model t\n.inputs a\n.outputs f\n.subckt x r=f\n.model x\n.outputs r\n") ≡ Some (fault_at kinds.Undefined 3)
unfolding fault_of lines_of joined_from words_between statement_of behind faulty_line line_fault copies_within expanded reached signals_within latches_in_all settles digits
output_never_defined = refl

unused_output_never_defined : fault_of (codes ".model t\n.inputs a\n.outputs a\n.subckt x r=f\n.model x\n.outputs r\n") ≡ None
unfolding fault_of lines_of joined_from words_between statement_of behind faulty_line line_fault copies_within expanded reached signals_within latches_in_all settles digits
unused_output_never_defined = refl

cycle_through : fault_of (codes ".model t\n.inputs a\n.outputs f\n.subckt x p=f r=f\n.model x\n.inputs p\n.outputs r\n.names p r\n1 1\n") ≡ Some (fault_at kinds.Cycle 8)
unfolding fault_of lines_of joined_from words_between statement_of behind faulty_line line_fault copies_within expanded reached signals_within latches_in_all settles digits
cycle_through = refl

cycle_cut_by_a_latch : fault_of (codes ".model t\n.outputs f\n.names g f\n1 1\n.latch f g\n") ≡ None
unfolding fault_of lines_of joined_from words_between statement_of behind faulty_line line_fault copies_within expanded reached signals_within latches_in_all settles digits
cycle_cut_by_a_latch = refl

-- of two further models of one name the first line is the fault
second_of_a_name : fault_of (codes ".model t\n.inputs a\n.outputs a\n.model x\n.model x\n") ≡ Some (fault_at kinds.Model 4)
unfolding fault_of lines_of joined_from words_between statement_of behind faulty_line line_fault copies_within expanded reached signals_within latches_in_all settles digits
second_of_a_name = refl

named_as_the_main_one : fault_of (codes ".model t\n.inputs a\n.outputs a\n.model t\n") ≡ Some (fault_at kinds.Model 4)
unfolding fault_of lines_of joined_from words_between statement_of behind faulty_line line_fault copies_within expanded reached signals_within latches_in_all settles digits
named_as_the_main_one = refl

further_without_a_name : fault_of (codes ".model t\n.inputs a\n.outputs a\n.model\n") ≡ Some (fault_at kinds.Model 4)
unfolding fault_of lines_of joined_from words_between statement_of behind faulty_line line_fault copies_within expanded reached signals_within latches_in_all settles digits
further_without_a_name = refl

subckt_without_a_name : fault_of (codes ".model t\n.inputs a\n.outputs a\n.subckt\n") ≡ Some (fault_at kinds.Model 4)
unfolding fault_of lines_of joined_from words_between statement_of behind faulty_line line_fault copies_within expanded reached signals_within latches_in_all settles digits
subckt_without_a_name = refl

no_equals : fault_of (codes ".model t\n.inputs a\n.outputs a\n.subckt x p\n.model x\n.inputs p\n") ≡ Some (fault_at kinds.Formal 4)
unfolding fault_of lines_of joined_from words_between statement_of behind faulty_line line_fault copies_within expanded reached signals_within latches_in_all settles digits
no_equals = refl

no_formal_before : fault_of (codes ".model t\n.inputs a\n.outputs a\n.subckt x =a\n.model x\n") ≡ Some (fault_at kinds.Formal 4)
unfolding fault_of lines_of joined_from words_between statement_of behind faulty_line line_fault copies_within expanded reached signals_within latches_in_all settles digits
no_formal_before = refl

lacking_formal : fault_of (codes ".model t\n.inputs a\n.outputs a\n.subckt x q=a\n.model x\n") ≡ Some (fault_at kinds.Formal 4)
unfolding fault_of lines_of joined_from words_between statement_of behind faulty_line line_fault copies_within expanded reached signals_within latches_in_all settles digits
lacking_formal = refl

formal_twice : fault_of (codes ".model t\n.inputs a\n.outputs a\n.subckt x p=a p=a\n.model x\n.inputs p\n") ≡ Some (fault_at kinds.Formal 4)
unfolding fault_of lines_of joined_from words_between statement_of behind faulty_line line_fault copies_within expanded reached signals_within latches_in_all settles digits
formal_twice = refl

-- a formal that is both is an input, so its actual may be one
input_and_output : fault_of (codes ".model t\n.inputs a\n.outputs a\n.subckt x p=a\n.model x\n.inputs p\n.outputs p\n") ≡ None
unfolding fault_of lines_of joined_from words_between statement_of behind faulty_line line_fault copies_within expanded reached signals_within latches_in_all settles digits
input_and_output = refl

-- a word is parted at its first `=`
actual_with_equals : fault_of (codes ".model t\n.inputs a=b\n.outputs f\n.subckt x p=a=b r=f\n.model x\n.inputs p\n.outputs r\n.names p r\n1 1\n") ≡ None
unfolding fault_of lines_of joined_from words_between statement_of behind faulty_line line_fault copies_within expanded reached signals_within latches_in_all settles digits
actual_with_equals = refl

behind_end : fault_of (codes ".model t\n.inputs a\n.outputs a\n.end\n.inputs b\n") ≡ Some (fault_at kinds.Word 5)
unfolding fault_of lines_of joined_from words_between statement_of behind faulty_line line_fault copies_within expanded reached signals_within latches_in_all settles digits
behind_end = refl

-- lines before the first `.model` are the main model's, and what isn't reached is read for line faults
lines_before_the_first_model : fault_of (codes ".inputs a\n.outputs a\n.model x\n.inputs b\n.foo\n") ≡ Some (fault_at kinds.Word 5)
unfolding fault_of lines_of joined_from words_between statement_of behind faulty_line line_fault copies_within expanded reached signals_within latches_in_all settles digits
lines_before_the_first_model = refl

-- a model that isn't reached may hold itself, or one that is none
not_reached : fault_of (codes ".inputs a\n.outputs a\n.model x\n.outputs q\n.subckt x\n.subckt y\n") ≡ None
unfolding fault_of lines_of joined_from words_between statement_of behind faulty_line line_fault copies_within expanded reached signals_within latches_in_all settles digits
not_reached = refl

held_by_one_not_reached : fault_of (codes ".inputs a\n.outputs a\n.subckt y\n.model x\n.subckt y b=b\n.model y\n") ≡ None
unfolding fault_of lines_of joined_from words_between statement_of behind faulty_line line_fault copies_within expanded reached signals_within latches_in_all settles digits
held_by_one_not_reached = refl

no_outputs_but_a_latch : fault_of (codes ".inputs a\n.latch a q\n") ≡ None
unfolding fault_of lines_of joined_from words_between statement_of behind faulty_line line_fault copies_within expanded reached signals_within latches_in_all settles digits
no_outputs_but_a_latch = refl

no_outputs_in_all : fault_of (codes ".inputs a\n.model x\n.outputs q\n") ≡ Some (fault_at kinds.NoOutputs 3)
unfolding fault_of lines_of joined_from words_between statement_of behind faulty_line line_fault copies_within expanded reached signals_within latches_in_all settles digits
no_outputs_in_all = refl

-- each kind comes only where no earlier one does, also at a later line
model_before_formal : fault_of (codes ".outputs f\n.subckt x q=f\n.subckt y\n.model x\n") ≡ Some (fault_at kinds.Model 3)
unfolding fault_of lines_of joined_from words_between statement_of behind faulty_line line_fault copies_within expanded reached signals_within latches_in_all settles digits
model_before_formal = refl

formal_before_twice : fault_of (codes ".outputs f\n.subckt x r=f\n.subckt x r=f\n.subckt x q=f\n.model x\n.outputs r\n") ≡ Some (fault_at kinds.Formal 4)
unfolding fault_of lines_of joined_from words_between statement_of behind faulty_line line_fault copies_within expanded reached signals_within latches_in_all settles digits
formal_before_twice = refl

twice_before_cycle : fault_of (codes ".outputs f\n.subckt x r=f\n.subckt x r=f\n.model x\n.outputs r\n.subckt x\n") ≡ Some (fault_at kinds.Twice 3)
unfolding fault_of lines_of joined_from words_between statement_of behind faulty_line line_fault copies_within expanded reached signals_within latches_in_all settles digits
twice_before_cycle = refl

cycle_before_undefined : fault_of (codes ".outputs f\n.subckt x\n.model x\n.subckt x\n") ≡ Some (fault_at kinds.Cycle 4)
unfolding fault_of lines_of joined_from words_between statement_of behind faulty_line line_fault copies_within expanded reached signals_within latches_in_all settles digits
cycle_before_undefined = refl

latch_circuit : circuit_of (joined_lines (codes ".model m\n.inputs a\n.outputs q\n.latch a q 0\n"))
    ≡ record { inputs = codes "a" ∷ codes "q" ∷ []; outputs = codes "q" ∷ codes "a" ∷ []; covers = [] }
unfolding lines_of joined_from words_between statement_of behind copies_within expanded digits
latch_circuit = refl

-- copies inside copies: the second copy of x is number 3, since the first has a copy of y inside
nested : circuit_of (joined_lines (codes ".model t\n.inputs a\n.outputs f\n.subckt x p=a r=f\n.subckt x p=a\n.model y\n.inputs u\n.latch u v\n.model x\n.inputs p\n.outputs r\n.subckt y u=p\n.names p r\n1 1\n"))
    ≡ record {
      inputs = codes "a" ∷ codes "2#v" ∷ codes "4#v" ∷ [];
      outputs = codes "f" ∷ codes "a" ∷ codes "a" ∷ [];
      covers = (record { line = 13; ins = codes "a" ∷ []; name = codes "f"; rows = record { literals = codes "1"; output = true } ∷ [] })
          ∷ (record { line = 13; ins = codes "a" ∷ []; name = codes "3#r"; rows = record { literals = codes "1"; output = true } ∷ [] }) ∷ [];
    }
unfolding lines_of joined_from words_between statement_of behind copies_within expanded digits
nested = refl

-- a latch's output that is joined has its actual's name, and one model's names are not another's
joined_latch : circuit_of (joined_lines (codes ".model t\n.inputs a\n.outputs a\n.subckt x d=a q=b\n.names b c\n1 1\n.model x\n.inputs d\n.outputs q\n.latch b q\n.names d b\n0 1\n"))
    ≡ record {
      inputs = codes "a" ∷ codes "b" ∷ [];
      outputs = codes "a" ∷ codes "1#b" ∷ [];
      covers = (record { line = 11; ins = codes "a" ∷ []; name = codes "1#b"; rows = record { literals = codes "0"; output = true } ∷ [] })
          ∷ (record { line = 5; ins = codes "b" ∷ []; name = codes "c"; rows = record { literals = codes "1"; output = true } ∷ [] }) ∷ [];
    }
unfolding lines_of joined_from words_between statement_of behind copies_within expanded digits
joined_latch = refl
