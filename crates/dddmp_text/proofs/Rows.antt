-- Worked texts, computed by the definitions.
use Rattle.std.proofs.Common.{◌≡◌, [], ◌∷◌, Some, None, true, false, negsuc, codes, map, refl}
use Rattle.std.specs.Fmt.{digits}
use Rattle.job_words.specs.Classes.{words_between}
use Rattle.job_words.specs.Text.{lines_of, is_number, split_words}
use Rattle.dddmp_text.specs.declared.faults.FaultKind.TheVariants as kinds
use Rattle.diagram_dumps.specs.Dumps.{root_value, value_within}
use Rattle.dddmp_text.specs.Faults.{behind, dump_of, fault_of, faulty_line}
use Rattle.dddmp_text.specs.Written.{counts, header, written}

-- texts of the exclusive or of two variables
whole : fault_of (codes ".ver DDDMP-2.0\n.mode A\n.varinfo 0\n.nnodes 3\n.nvars 2\n.nsuppvars 2\n.ids 0 1\n.permids 0 1\n.nroots 1\n.rootids -3\n.nodes\n1 T 1 0 0\n2 1 1 1 -1\n3 0 0 2 -2\n.end\n") ≡ None
unfolding fault_of faulty_line lines_of split_words words_between is_number behind dump_of
whole = refl

no_last_feed : fault_of (codes ".ver DDDMP-2.0\n.mode A\n.varinfo 0\n.nnodes 3\n.nvars 2\n.nsuppvars 2\n.ids 0 1\n.permids 0 1\n.nroots 1\n.rootids -3\n.nodes\n1 T 1 0 0\n2 1 1 1 -1\n3 0 0 2 -2\n.end") ≡ None
unfolding fault_of faulty_line lines_of split_words words_between is_number behind dump_of
no_last_feed = refl

four_fields : fault_of (codes ".ver DDDMP-2.0\n.mode A\n.varinfo 4\n.nnodes 3\n.nvars 2\n.nsuppvars 2\n.ids 0 1\n.permids 0 1\n.nroots 1\n.rootids -3\n.nodes\n1 T 1 0 0\n2 1 1 -1\n3 0 2 -2\n.end\n") ≡ None
unfolding fault_of faulty_line lines_of split_words words_between is_number behind dump_of
four_fields = refl

short_constant : fault_of (codes ".ver DDDMP-2.0\n.mode A\n.varinfo 0\n.nnodes 3\n.nvars 2\n.nsuppvars 2\n.ids 0 1\n.permids 0 1\n.nroots 1\n.rootids -3\n.nodes\n1 T 0 0\n2 1 1 1 -1\n3 0 0 2 -2\n.end\n") ≡ None
unfolding fault_of faulty_line lines_of split_words words_between is_number behind dump_of
short_constant = refl

other_constant : fault_of (codes ".ver DDDMP-2.0\n.mode A\n.varinfo 0\n.nnodes 3\n.nvars 2\n.nsuppvars 2\n.ids 0 1\n.permids 0 1\n.nroots 1\n.rootids -3\n.nodes\n1 1 0 0\n2 1 1 1 -1\n3 0 0 2 -2\n.end\n") ≡ None
unfolding fault_of faulty_line lines_of split_words words_between is_number behind dump_of
other_constant = refl

other_order : fault_of (codes ".ver DDDMP-2.0\n.mode A\n.varinfo 0\n.nnodes 3\n.nvars 2\n.nsuppvars 2\n.ids 0 1\n.permids 1 0\n.nroots 1\n.rootids -3\n.nodes\n1 T 1 0 0\n2 0 1 1 -1\n3 1 0 1 -2\n.end\n") ≡ None
unfolding fault_of faulty_line lines_of split_words words_between is_number behind dump_of
other_order = refl

other_lines : fault_of (codes ".dd xor\n.rootnames f .ver\n.varinfo 0\n.nnodes 3\n.nvars 2\n\n.mode A\n.ver DDDMP-2.0\n\t\n.nsuppvars 2\n.ids 0 1\n.permids 0 1\n.nroots 1\n.rootids -3\n.nodes\n1 T 1 0 0\n2 1 1 1 -1\n 3  0\t0 2 -2 \n.end here\n2 2\n") ≡ None
unfolding fault_of faulty_line lines_of split_words words_between is_number behind dump_of
other_lines = refl

no_nodes : fault_of (codes ".ver DDDMP-2.0\n.mode A\n.varinfo 0\n.nnodes 0\n.nvars 2\n.nsuppvars 2\n.ids 0 1\n.permids 0 1\n.nroots 0\n.rootids\n.nodes\n.end\n") ≡ None
unfolding fault_of faulty_line lines_of split_words words_between is_number behind dump_of
no_nodes = refl

-- Header
mode : fault_of (codes ".ver DDDMP-2.0\n.mode B\n.varinfo 0\n.nnodes 3\n.nvars 2\n.nsuppvars 2\n.ids 0 1\n.permids 0 1\n.nroots 1\n.rootids -3\n.nodes\n1 T 1 0 0\n2 1 1 1 -1\n3 0 0 2 -2\n.end\n") ≡ Some (record { line = 2; what = kinds.Header })
unfolding fault_of faulty_line lines_of split_words words_between is_number behind dump_of
mode = refl

version_twice : fault_of (codes ".ver DDDMP-2.0\n.ver DDDMP-2.0\n.mode A\n.varinfo 0\n.nnodes 3\n.nvars 2\n.nsuppvars 2\n.ids 0 1\n.permids 0 1\n.nroots 1\n.rootids -3\n.nodes\n1 T 1 0 0\n2 1 1 1 -1\n3 0 0 2 -2\n.end\n") ≡ Some (record { line = 2; what = kinds.Header })
unfolding fault_of faulty_line lines_of split_words words_between is_number behind dump_of
version_twice = refl

unknown_word : fault_of (codes ".ver DDDMP-2.0\n.modes A\n.varinfo 0\n.nnodes 3\n.nvars 2\n.nsuppvars 2\n.ids 0 1\n.permids 0 1\n.nroots 1\n.rootids -3\n.nodes\n1 T 1 0 0\n2 1 1 1 -1\n3 0 0 2 -2\n.end\n") ≡ Some (record { line = 2; what = kinds.Header })
unfolding fault_of faulty_line lines_of split_words words_between is_number behind dump_of
unknown_word = refl

early_end : fault_of (codes ".ver DDDMP-2.0\n.end\n.varinfo 0\n.nnodes 3\n.nvars 2\n.nsuppvars 2\n.ids 0 1\n.permids 0 1\n.nroots 1\n.rootids -3\n.nodes\n1 T 1 0 0\n2 1 1 1 -1\n3 0 0 2 -2\n.end\n") ≡ Some (record { line = 2; what = kinds.Header })
unfolding fault_of faulty_line lines_of split_words words_between is_number behind dump_of
early_end = refl

varinfo_5 : fault_of (codes ".ver DDDMP-2.0\n.mode A\n.varinfo 5\n.nnodes 3\n.nvars 2\n.nsuppvars 2\n.ids 0 1\n.permids 0 1\n.nroots 1\n.rootids -3\n.nodes\n1 T 1 0 0\n2 1 1 1 -1\n3 0 0 2 -2\n.end\n") ≡ Some (record { line = 3; what = kinds.Header })
unfolding fault_of faulty_line lines_of split_words words_between is_number behind dump_of
varinfo_5 = refl

leading_zero : fault_of (codes ".ver DDDMP-2.0\n.mode A\n.varinfo 0\n.nnodes 03\n.nvars 2\n.nsuppvars 2\n.ids 0 1\n.permids 0 1\n.nroots 1\n.rootids -3\n.nodes\n1 T 1 0 0\n2 1 1 1 -1\n3 0 0 2 -2\n.end\n") ≡ Some (record { line = 4; what = kinds.Header })
unfolding fault_of faulty_line lines_of split_words words_between is_number behind dump_of
leading_zero = refl

two_numbers : fault_of (codes ".ver DDDMP-2.0\n.mode A\n.varinfo 0\n.nnodes 3\n.nvars 2 2\n.nsuppvars 2\n.ids 0 1\n.permids 0 1\n.nroots 1\n.rootids -3\n.nodes\n1 T 1 0 0\n2 1 1 1 -1\n3 0 0 2 -2\n.end\n") ≡ Some (record { line = 5; what = kinds.Header })
unfolding fault_of faulty_line lines_of split_words words_between is_number behind dump_of
two_numbers = refl

negative_id : fault_of (codes ".ver DDDMP-2.0\n.mode A\n.varinfo 0\n.nnodes 3\n.nvars 2\n.nsuppvars 2\n.ids 0 -1\n.permids 0 1\n.nroots 1\n.rootids -3\n.nodes\n1 T 1 0 0\n2 1 1 1 -1\n3 0 0 2 -2\n.end\n") ≡ Some (record { line = 7; what = kinds.Header })
unfolding fault_of faulty_line lines_of split_words words_between is_number behind dump_of
negative_id = refl

greatest_root_passed : fault_of (codes ".ver DDDMP-2.0\n.mode A\n.varinfo 0\n.nnodes 3\n.nvars 2\n.nsuppvars 2\n.ids 0 1\n.permids 0 1\n.nroots 1\n.rootids 2147483648\n.nodes\n1 T 1 0 0\n2 1 1 1 -1\n3 0 0 2 -2\n.end\n") ≡ Some (record { line = 10; what = kinds.Header })
unfolding fault_of faulty_line lines_of split_words words_between is_number behind dump_of
greatest_root_passed = refl

more_behind_nodes : fault_of (codes ".ver DDDMP-2.0\n.mode A\n.varinfo 0\n.nnodes 3\n.nvars 2\n.nsuppvars 2\n.ids 0 1\n.permids 0 1\n.rootids -3\n.nodes 3\n") ≡ Some (record { line = 10; what = kinds.Header })
unfolding fault_of faulty_line lines_of split_words words_between is_number behind dump_of
more_behind_nodes = refl

-- Missing
no_root_count : fault_of (codes ".ver DDDMP-2.0\n.mode A\n.varinfo 0\n.nnodes 3\n.nvars 2\n.nsuppvars 2\n.ids 0 1\n.permids 0 1\n.rootids -3\n.nodes\n1 T 1 0 0\n2 1 1 1 -1\n3 0 0 2 -2\n.end\n") ≡ Some (record { line = 10; what = kinds.Missing })
unfolding fault_of faulty_line lines_of split_words words_between is_number behind dump_of
no_root_count = refl

header_alone : fault_of (codes ".ver DDDMP-2.0\n.mode A\n.varinfo 0\n.nnodes 3\n.nvars 2\n.nsuppvars 2\n.ids 0 1\n.permids 0 1\n.nroots 1\n.rootids -3\n") ≡ Some (record { line = 11; what = kinds.Missing })
unfolding fault_of faulty_line lines_of split_words words_between is_number behind dump_of
header_alone = refl

empty : fault_of (codes "") ≡ Some (record { line = 1; what = kinds.Missing })
unfolding fault_of faulty_line lines_of split_words words_between is_number behind dump_of
empty = refl

-- Count, Variable and Root, where `.nodes` stands
one_id : fault_of (codes ".ver DDDMP-2.0\n.mode A\n.varinfo 0\n.nnodes 3\n.nvars 2\n.nsuppvars 2\n.ids 0\n.permids 0 1\n.nroots 1\n.rootids -3\n.nodes\n1 T 1 0 0\n2 1 1 1 -1\n3 0 0 2 -2\n.end\n") ≡ Some (record { line = 11; what = kinds.Count })
unfolding fault_of faulty_line lines_of split_words words_between is_number behind dump_of
one_id = refl

two_roots : fault_of (codes ".ver DDDMP-2.0\n.mode A\n.varinfo 0\n.nnodes 3\n.nvars 2\n.nsuppvars 2\n.ids 0 1\n.permids 0 1\n.nroots 1\n.rootids -3 3\n.nodes\n1 T 1 0 0\n2 1 1 1 -1\n3 0 0 2 -2\n.end\n") ≡ Some (record { line = 11; what = kinds.Count })
unfolding fault_of faulty_line lines_of split_words words_between is_number behind dump_of
two_roots = refl

too_many_variables : fault_of (codes ".ver DDDMP-2.0\n.mode A\n.varinfo 0\n.nnodes 3\n.nvars 16385\n.nsuppvars 2\n.ids 0 1\n.permids 0 1\n.nroots 1\n.rootids -3\n.nodes\n1 T 1 0 0\n2 1 1 1 -1\n3 0 0 2 -2\n.end\n") ≡ Some (record { line = 11; what = kinds.Variable })
unfolding fault_of faulty_line lines_of split_words words_between is_number behind dump_of
too_many_variables = refl

id_beyond : fault_of (codes ".ver DDDMP-2.0\n.mode A\n.varinfo 0\n.nnodes 3\n.nvars 2\n.nsuppvars 2\n.ids 0 2\n.permids 0 1\n.nroots 1\n.rootids -3\n.nodes\n1 T 1 0 0\n2 1 1 1 -1\n3 0 0 2 -2\n.end\n") ≡ Some (record { line = 11; what = kinds.Variable })
unfolding fault_of faulty_line lines_of split_words words_between is_number behind dump_of
id_beyond = refl

root_0 : fault_of (codes ".ver DDDMP-2.0\n.mode A\n.varinfo 0\n.nnodes 3\n.nvars 2\n.nsuppvars 2\n.ids 0 1\n.permids 0 1\n.nroots 1\n.rootids 0\n.nodes\n1 T 1 0 0\n2 1 1 1 -1\n3 0 0 2 -2\n.end\n") ≡ Some (record { line = 11; what = kinds.Root })
unfolding fault_of faulty_line lines_of split_words words_between is_number behind dump_of
root_0 = refl

root_beyond : fault_of (codes ".ver DDDMP-2.0\n.mode A\n.varinfo 0\n.nnodes 3\n.nvars 2\n.nsuppvars 2\n.ids 0 1\n.permids 0 1\n.nroots 1\n.rootids -4\n.nodes\n1 T 1 0 0\n2 1 1 1 -1\n3 0 0 2 -2\n.end\n") ≡ Some (record { line = 11; what = kinds.Root })
unfolding fault_of faulty_line lines_of split_words words_between is_number behind dump_of
root_beyond = refl

-- Node, Order and Variable of a node line
no_constant : fault_of (codes ".ver DDDMP-2.0\n.mode A\n.varinfo 0\n.nnodes 3\n.nvars 2\n.nsuppvars 2\n.ids 0 1\n.permids 0 1\n.nroots 1\n.rootids -3\n.nodes\n1 T 1 0 1\n2 1 1 1 -1\n3 0 0 2 -2\n.end\n") ≡ Some (record { line = 12; what = kinds.Node })
unfolding fault_of faulty_line lines_of split_words words_between is_number behind dump_of
no_constant = refl

nodes_twice : fault_of (codes ".ver DDDMP-2.0\n.mode A\n.varinfo 0\n.nnodes 3\n.nvars 2\n.nsuppvars 2\n.ids 0 1\n.permids 0 1\n.nroots 1\n.rootids -3\n.nodes\n1 T 1 0 0\n.nodes\n3 0 0 2 -2\n.end\n") ≡ Some (record { line = 13; what = kinds.Node })
unfolding fault_of faulty_line lines_of split_words words_between is_number behind dump_of
nodes_twice = refl

other_index : fault_of (codes ".ver DDDMP-2.0\n.mode A\n.varinfo 0\n.nnodes 3\n.nvars 2\n.nsuppvars 2\n.ids 0 1\n.permids 0 1\n.nroots 1\n.rootids -3\n.nodes\n1 T 1 0 0\n3 1 1 1 -1\n3 0 0 2 -2\n.end\n") ≡ Some (record { line = 13; what = kinds.Node })
unfolding fault_of faulty_line lines_of split_words words_between is_number behind dump_of
other_index = refl

index_with_zero : fault_of (codes ".ver DDDMP-2.0\n.mode A\n.varinfo 0\n.nnodes 3\n.nvars 2\n.nsuppvars 2\n.ids 0 1\n.permids 0 1\n.nroots 1\n.rootids -3\n.nodes\n1 T 1 0 0\n02 1 1 1 -1\n3 0 0 2 -2\n.end\n") ≡ Some (record { line = 13; what = kinds.Node })
unfolding fault_of faulty_line lines_of split_words words_between is_number behind dump_of
index_with_zero = refl

else_0 : fault_of (codes ".ver DDDMP-2.0\n.mode A\n.varinfo 0\n.nnodes 3\n.nvars 2\n.nsuppvars 2\n.ids 0 1\n.permids 0 1\n.nroots 1\n.rootids -3\n.nodes\n1 T 1 0 0\n2 1 1 1 0\n3 0 0 2 -2\n.end\n") ≡ Some (record { line = 13; what = kinds.Node })
unfolding fault_of faulty_line lines_of split_words words_between is_number behind dump_of
else_0 = refl

then_0 : fault_of (codes ".ver DDDMP-2.0\n.mode A\n.varinfo 0\n.nnodes 3\n.nvars 2\n.nsuppvars 2\n.ids 0 1\n.permids 0 1\n.nroots 1\n.rootids -3\n.nodes\n1 T 1 0 0\n2 1 1 0 -1\n3 0 0 2 -2\n.end\n") ≡ Some (record { line = 13; what = kinds.Node })
unfolding fault_of faulty_line lines_of split_words words_between is_number behind dump_of
then_0 = refl

negative_then : fault_of (codes ".ver DDDMP-2.0\n.mode A\n.varinfo 0\n.nnodes 3\n.nvars 2\n.nsuppvars 2\n.ids 0 1\n.permids 0 1\n.nroots 1\n.rootids -3\n.nodes\n1 T 1 0 0\n2 1 1 1 -1\n3 0 0 -2 2\n.end\n") ≡ Some (record { line = 14; what = kinds.Node })
unfolding fault_of faulty_line lines_of split_words words_between is_number behind dump_of
negative_then = refl

then_behind : fault_of (codes ".ver DDDMP-2.0\n.mode A\n.varinfo 0\n.nnodes 3\n.nvars 2\n.nsuppvars 2\n.ids 0 1\n.permids 0 1\n.nroots 1\n.rootids -3\n.nodes\n1 T 1 0 0\n2 1 1 3 -1\n3 0 0 2 -2\n.end\n") ≡ Some (record { line = 13; what = kinds.Order })
unfolding fault_of faulty_line lines_of split_words words_between is_number behind dump_of
then_behind = refl

else_itself : fault_of (codes ".ver DDDMP-2.0\n.mode A\n.varinfo 0\n.nnodes 3\n.nvars 2\n.nsuppvars 2\n.ids 0 1\n.permids 0 1\n.nroots 1\n.rootids -3\n.nodes\n1 T 1 0 0\n2 1 1 1 -2\n3 0 0 2 -2\n.end\n") ≡ Some (record { line = 13; what = kinds.Order })
unfolding fault_of faulty_line lines_of split_words words_between is_number behind dump_of
else_itself = refl

internal_beyond : fault_of (codes ".ver DDDMP-2.0\n.mode A\n.varinfo 0\n.nnodes 3\n.nvars 2\n.nsuppvars 2\n.ids 0 1\n.permids 0 1\n.nroots 1\n.rootids -3\n.nodes\n1 T 1 0 0\n2 1 1 1 -1\n3 0 2 2 -2\n.end\n") ≡ Some (record { line = 14; what = kinds.Variable })
unfolding fault_of faulty_line lines_of split_words words_between is_number behind dump_of
internal_beyond = refl

-- Count and End, where the text ends
too_few_nodes : fault_of (codes ".ver DDDMP-2.0\n.mode A\n.varinfo 0\n.nnodes 3\n.nvars 2\n.nsuppvars 2\n.ids 0 1\n.permids 0 1\n.nroots 1\n.rootids -3\n.nodes\n1 T 1 0 0\n2 1 1 1 -1\n.end\n") ≡ Some (record { line = 14; what = kinds.Count })
unfolding fault_of faulty_line lines_of split_words words_between is_number behind dump_of
too_few_nodes = refl

no_end : fault_of (codes ".ver DDDMP-2.0\n.mode A\n.varinfo 0\n.nnodes 3\n.nvars 2\n.nsuppvars 2\n.ids 0 1\n.permids 0 1\n.nroots 1\n.rootids -3\n.nodes\n1 T 1 0 0\n2 1 1 1 -1\n3 0 0 2 -2\n") ≡ Some (record { line = 15; what = kinds.End })
unfolding fault_of faulty_line lines_of split_words words_between is_number behind dump_of
no_end = refl

no_node_lines : fault_of (codes ".ver DDDMP-2.0\n.mode A\n.varinfo 0\n.nnodes 3\n.nvars 2\n.nsuppvars 2\n.ids 0 1\n.permids 0 1\n.nroots 1\n.rootids -3\n.nodes\n") ≡ Some (record { line = 12; what = kinds.End })
unfolding fault_of faulty_line lines_of split_words words_between is_number behind dump_of
no_node_lines = refl

-- the dump of the whole text, what is written for it, and its values
whole_dump : dump_of (codes ".ver DDDMP-2.0\n.mode A\n.varinfo 0\n.nnodes 3\n.nvars 2\n.nsuppvars 2\n.ids 0 1\n.permids 0 1\n.nroots 1\n.rootids -3\n.nodes\n1 T 1 0 0\n2 1 1 1 -1\n3 0 0 2 -2\n.end\n") ≡ record { nvars = 2; ids = 0 ∷ 1 ∷ []; permids = 0 ∷ 1 ∷ []; nodes = record { var = 1; hi = 1; lo = negsuc 0 } ∷ record { var = 0; hi = 2; lo = negsuc 1 } ∷ []; roots = negsuc 2 ∷ [] }
unfolding fault_of faulty_line lines_of split_words words_between is_number behind dump_of
whole_dump = refl

whole_written : written (dump_of (codes ".ver DDDMP-2.0\n.mode A\n.varinfo 0\n.nnodes 3\n.nvars 2\n.nsuppvars 2\n.ids 0 1\n.permids 0 1\n.nroots 1\n.rootids -3\n.nodes\n1 T 1 0 0\n2 1 1 1 -1\n3 0 0 2 -2\n.end\n")) ≡ codes ".ver DDDMP-2.0\n.mode A\n.varinfo 0\n.nnodes 3\n.nvars 2\n.nsuppvars 2\n.ids 0 1\n.permids 0 1\n.nroots 1\n.rootids -3\n.nodes\n1 T 1 0 0\n2 1 1 1 -1\n3 0 0 2 -2\n.end\n"
unfolding fault_of faulty_line lines_of split_words words_between is_number behind dump_of written counts header digits
whole_written = refl

value_at_2 : root_value (dump_of (codes ".ver DDDMP-2.0\n.mode A\n.varinfo 0\n.nnodes 3\n.nvars 2\n.nsuppvars 2\n.ids 0 1\n.permids 0 1\n.nroots 1\n.rootids -3\n.nodes\n1 T 1 0 0\n2 1 1 1 -1\n3 0 0 2 -2\n.end\n")) (negsuc 2) 2 ≡ true
unfolding fault_of faulty_line lines_of split_words words_between is_number behind dump_of value_within
value_at_2 = refl

value_at_3 : root_value (dump_of (codes ".ver DDDMP-2.0\n.mode A\n.varinfo 0\n.nnodes 3\n.nvars 2\n.nsuppvars 2\n.ids 0 1\n.permids 0 1\n.nroots 1\n.rootids -3\n.nodes\n1 T 1 0 0\n2 1 1 1 -1\n3 0 0 2 -2\n.end\n")) (negsuc 2) 3 ≡ false
unfolding fault_of faulty_line lines_of split_words words_between is_number behind dump_of value_within
value_at_3 = refl

-- in the other order the lines stand for the other variables
other_order_dump : dump_of (codes ".ver DDDMP-2.0\n.mode A\n.varinfo 0\n.nnodes 3\n.nvars 2\n.nsuppvars 2\n.ids 0 1\n.permids 1 0\n.nroots 1\n.rootids -3\n.nodes\n1 T 1 0 0\n2 0 1 1 -1\n3 1 0 1 -2\n.end\n") ≡ record { nvars = 2; ids = 0 ∷ 1 ∷ []; permids = 1 ∷ 0 ∷ []; nodes = record { var = 0; hi = 1; lo = negsuc 0 } ∷ record { var = 1; hi = 1; lo = negsuc 1 } ∷ []; roots = negsuc 2 ∷ [] }
unfolding fault_of faulty_line lines_of split_words words_between is_number behind dump_of
other_order_dump = refl

-- equal positions rank by their place
equal_positions : map (λ line. line.var) (dump_of (codes ".ver DDDMP-2.0\n.mode A\n.varinfo 0\n.nnodes 3\n.nvars 2\n.nsuppvars 2\n.ids 0 1\n.permids 1 1\n.nroots 1\n.rootids -3\n.nodes\n1 T 1 0 0\n2 1 1 1 -1\n3 0 0 2 -2\n.end\n")).nodes ≡ 1 ∷ 0 ∷ []
unfolding fault_of faulty_line lines_of split_words words_between is_number behind dump_of
equal_positions = refl
