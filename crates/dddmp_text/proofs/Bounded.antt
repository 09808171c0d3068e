-- The dumps of texts have children before parents, and texts have bytes for each node line.
use Rattle.std.proofs.Common.{◌≡◌, ℕ, zero, suc, ◌+◌, ◌*◌, ◌<◌, ◌≤◌, ◌==◌, Bool, true, false, cond, not, List, [], ◌∷◌, ◌++◌, Option, Some, None, inl, inr, length, length-append, slice_get, refl, sym, ◌∙◌, ap, subst, arith}
use Rattle.std.specs.Prelude.{◌⊎◌, filter}
use Rattle.std.specs.Bool.{then_some}
use Rattle.std.specs.List.{join_with_byte, onto_first, slice_split}
use Rattle.std.specs.Option.{option_map, option_or}
use Rattle.std.specs.Str.{bytes_eq}
use Rattle.std.specs.Prelude.{codes}
use Rattle.std.proofs.lemmas.Bool.Decides.{nat_tests}
use Rattle.std.proofs.lemmas.List.Splits.{join_with_byte-slice_split}
use Rattle.std.proofs.lemmas.Option.{slice_get-get_or}
use Rattle.edge_bits.specs.declared.edges.Line.{Line}
use Rattle.job_words.specs.Classes.{has_bytes, is_in, words_between}
use Rattle.job_words.specs.declared.cutting.ByteClass.TheVariants.{BlankOrReturn}
use Rattle.job_words.specs.Text.{Word, lines_of, split_words, without_empty_end}
use Rattle.diagram_dumps.specs.declared.dump.Dump.{Dump}
use Rattle.dddmp_text.specs.declared.faults.FaultKind.{FaultKind}
use Rattle.dddmp_text.specs.declared.faults.FaultKind.TheVariants as kinds
use Rattle.dddmp_text.specs.declared.fields.Field.TheVariants as fields
use Rattle.dddmp_text.specs.declared.fields.Given.{Given}
use Rattle.dddmp_text.specs.Bounds.{DumpsAreBounded, IsBounded, IsEarlier, LinesHaveBytes}
use Rattle.dddmp_text.specs.Faults.{Context, after_line, after_words, at_start, behind, dump_in, dump_of, end_fault, ended, fault_at, fault_of, faulty_line, fields_fault, heading, listing, next_index, node_of, nodes_fault, with_node, words_fault}
use Rattle.dddmp_text.specs.Fields.{Fields, fields_of, number, whole_numbers}
use Rattle.dddmp_text.proofs.ReadFaults.{Header, Node, header, is_false, node, none_or, not_false, roots_are_nodes}

-- lines with earlier children, and with variables of the dump
record AreNodes (given : List Given) (nodes : List Line) : Type 0 where
  each : (place : ℕ) (line : Line) → slice_get nodes place ≡ Some line → IsEarlier line (place + 2) × (line.var < number given fields.Nvars)

-- what the lines so far leave, where they have no fault
abbrev Good : Context → Type 0
Good (heading given) = Unit {0}
Good (listing given started nodes) = Header given × (started ≡ false → nodes ≡ []) × AreNodes given nodes
Good (ended given nodes) = Header given × (number given fields.Nnodes ≤ length nodes + 1) × AreNodes given nodes

no_nodes : (given : List Given) → AreNodes given []
no_nodes given = record { each = λ place line at. absurd (cc at) }

-- the last of some
last_is : {X : Type 0} (xs : List X) (x y : X) (place : ℕ) → slice_get (xs ++ x ∷ []) place ≡ Some y → (slice_get xs place ≡ Some y) ⊎ ((place ≡ length xs) × (x ≡ y))
last_is [] x y zero at = inr (refl, cc)
last_is [] x y (suc place) at = absurd (cc at)
last_is (z ∷ xs) x y zero at = inl at
last_is (z ∷ xs) x y (suc place) at = by (last_is xs x y place at)
  where
    by : (slice_get xs place ≡ Some y) ⊎ ((place ≡ length xs) × (x ≡ y)) → (slice_get xs place ≡ Some y) ⊎ ((suc place ≡ suc (length xs)) × (x ≡ y))
    by (inl here) = inl here
    by (inr (e, same)) = inr (ap suc e, same)

one_more : (given : List Given) (nodes : List Line) (read : Fields) → AreNodes given nodes → Node given (length nodes + 2) read → AreNodes given (nodes ++ node_of given read ∷ [])
one_more given nodes read are new = record {
  each = λ place line at. by place line (last_is nodes (node_of given read) line place at);
}
  where
    by : (place : ℕ) (line : Line) → (slice_get nodes place ≡ Some line) ⊎ ((place ≡ length nodes) × (node_of given read ≡ line)) → IsEarlier line (place + 2) × (line.var < number given fields.Nvars)
    by place line (inl at) = are.each place line at
    by place line (inr (e, same)) =
        subst (λ (l : Line). IsEarlier l (place + 2) × (l.var < number given fields.Nvars)) same
        (subst (λ i. IsEarlier (node_of given read) (i + 2)) (sym e) new.earlier, new.below)

-- as many node lines as are said
as_many : (started : Bool) (nodes : List Line) (said : ℕ) → (started ≡ false → nodes ≡ []) → not (next_index started nodes == said + 1) ≡ false → said ≤ length nodes + 1
as_many true nodes said none e = let same = not_false (length nodes + 2 == said + 1) e in grind (arith, nat_tests)
as_many false nodes said none e = let same = not_false (1 == said + 1) e in grind (arith, nat_tests)

-- a line before `.nodes`, or `.nodes`
begins : (given other : List Given) (b : Bool) (first rest : Option FaultKind) → cond b (option_or first (nodes_fault given)) rest ≡ None → Good (cond b (listing given false []) (heading other))
begins given other true first rest e = (header given (none_or first (nodes_fault given) e).1, λ _. refl, no_nodes given)
begins given other false first rest e = tt

-- a line behind it
goes_on : (given : List Given) (nodes : List Line) (ends started : Bool) (read : Option Fields) (terminal : Option FaultKind) → Good (listing given started nodes)
    → cond ends (then_some (not (next_index started nodes == number given fields.Nnodes + 1)) kinds.Count) (cond started (fields_fault given (next_index started nodes) read) terminal) ≡ None
    → Good (cond ends (ended given nodes) (cond started (listing given true (with_node given nodes read)) (listing given true [])))
goes_on given nodes true started read terminal good e = (good.0, as_many started nodes (number given fields.Nnodes) good.1 (is_false _ kinds.Count e), good.2)
goes_on given nodes false false read terminal good e = (good.0, λ f. absurd (cc f), no_nodes given)
goes_on given nodes false true None terminal good e = absurd (cc e)
goes_on given nodes false true (Some read) terminal good e = (good.0, λ f. absurd (cc f), one_more given nodes read good.2 (node given (length nodes + 2) read good.0 e))

step : (c : Context) (words : List Word) → words_fault c words ≡ None → Good c → Good (after_words c words)
step (heading given) [] e good = tt
step (heading given) (word ∷ words) e good = begins given _ (bytes_eq word (codes ".nodes")) _ _ e
step (listing given started nodes) [] e good = good
step (listing given started nodes) (word ∷ words) e good = goes_on given nodes (bytes_eq word (codes ".end")) started (fields_of (word ∷ words)) _ good e
step (ended given nodes) words e good = good

none_map : {A B : Type 0} (f : A → B) (o : Option A) → option_map f o ≡ None → o ≡ None
none_map f None e = refl
none_map f (Some x) e = absurd (cc e)

all_lines : (number : ℕ) (c : Context) (lines : List (List ℕ)) → faulty_line number c lines ≡ None → Good c → Good (behind c lines) × (end_fault (behind c lines) ≡ None)
unfolding faulty_line behind
all_lines number c [] e good = (good, none_map (fault_at number) (end_fault c) e)
all_lines number c (line ∷ lines) e good =
    let both = none_or (option_map (fault_at number) (words_fault c (split_words line))) (faulty_line (number + 1) (after_line c line) lines) e in
    all_lines (number + 1) (after_line c line) lines both.1 (step c (split_words line) (none_map (fault_at number) (words_fault c (split_words line)) both.0) good)

bounded_in : (c : Context) → Good c → end_fault c ≡ None → IsBounded (dump_in c)
bounded_in (heading given) good e = absurd (cc e)
bounded_in (listing given started nodes) good e = absurd (cc e)
bounded_in (ended given nodes) good e = record {
  variables = good.0.few;
  below = λ i d within. (good.2.each i _ (slice_get-get_or nodes i d within)).1;
  earlier = λ place line at. (good.2.each place line at).0;
  roots = roots_are_nodes (number given fields.Nnodes) (length nodes + 1) (whole_numbers given fields.Rootids) good.1 good.0.roots;
}

pub dumps_are_bounded : DumpsAreBounded
unfolding fault_of dump_of
dumps_are_bounded text dump is =
    let read = all_lines 1 at_start (lines_of text) is.faultless tt in
    subst IsBounded (sym is.dump_is) (bounded_in (behind at_start (lines_of text)) read.0 read.1)

-- the node lines so far
abbrev nodes_in : Context → List Line
nodes_in (heading given) = []
nodes_in (listing given started nodes) = nodes
nodes_in (ended given nodes) = nodes

dump_nodes : (c : Context) → (dump_in c).nodes ≡ nodes_in c
dump_nodes (heading given) = refl
dump_nodes (listing given started nodes) = refl
dump_nodes (ended given nodes) = refl

-- a line has no more words than bytes
some_bytes : (b : ℕ) (word : List ℕ) → has_bytes (b ∷ word) ≡ true
some_bytes b word = grind (arith, nat_tests)

with_word : (b : ℕ) (word : List ℕ) (parts : List (List ℕ)) → length (filter has_bytes ((b ∷ word) ∷ parts)) ≡ length (filter has_bytes parts) + 1
with_word b word parts = ap (λ c. length (cond c ((b ∷ word) ∷ filter has_bytes parts) (filter has_bytes parts))) (some_bytes b word) ∙ omega arith

one_word : (x : ℕ) (parts : List (List ℕ)) → length (filter has_bytes (onto_first x parts)) ≤ length (filter has_bytes parts) + 1
one_word x [] = omega (arith, with_word x [] [])
one_word x ([] ∷ parts) = omega (arith, with_word x [] parts)
one_word x ((b ∷ word) ∷ parts) = omega (arith, with_word x (b ∷ word) parts, with_word b word parts)

split_few : (p : ℕ → Bool) (bytes : List ℕ) → length (filter has_bytes (slice_split p bytes)) ≤ length bytes
split_few p [] = omega arith
split_few p (b ∷ bytes) = by (p b) (split_few p bytes)
  where
    by : (cut : Bool) → length (filter has_bytes (slice_split p bytes)) ≤ length bytes
        → length (filter has_bytes (cond cut ([] ∷ slice_split p bytes) (onto_first b (slice_split p bytes)))) ≤ suc (length bytes)
    by true rest = omega (arith, rest)
    by false rest = let more = one_word b (slice_split p bytes) in omega (arith, rest, more)

few_words : (line : List ℕ) → length (split_words line) ≤ length line
unfolding split_words words_between
few_words line = split_few (is_in BlankOrReturn) line

-- a node line has four words
four_words : (words : List Word) (read : Fields) → fields_of words ≡ Some read → 4 ≤ length words
four_words [] read e = absurd (cc e)
four_words (a ∷ []) read e = absurd (cc e)
four_words (a ∷ b ∷ []) read e = absurd (cc e)
four_words (a ∷ b ∷ c ∷ []) read e = absurd (cc e)
four_words (a ∷ b ∷ c ∷ d ∷ words) read e = omega arith

with_node_few : (given : List Given) (nodes : List Line) (words : List Word) (read : Option Fields) → fields_of words ≡ read → 5 * length (with_node given nodes read) ≤ 5 * length nodes + (length words + 1)
with_node_few given nodes words None e = omega arith
with_node_few given nodes words (Some read) e =
    let four = four_words words read e in let more = length-append nodes (node_of given read ∷ []) in omega (arith, four, more)

few_in : (n m : ℕ) (nodes more : List Line) (given : List Given) (ends started : Bool) → 5 * length nodes ≤ n → 5 * length more ≤ n + m
    → 5 * length (nodes_in (cond ends (ended given nodes) (cond started (listing given true more) (listing given true [])))) ≤ n + m
few_in n m nodes more given true started few fewer = omega (arith, few)
few_in n m nodes more given false true few fewer = fewer
few_in n m nodes more given false false few fewer = omega arith

none_in : (b : Bool) (given other : List Given) (n : ℕ) → 5 * length (nodes_in (cond b (listing given false []) (heading other))) ≤ n
none_in true given other n = omega arith
none_in false given other n = omega arith

step_few : (c : Context) (words : List Word) → 5 * length (nodes_in (after_words c words)) ≤ 5 * length (nodes_in c) + (length words + 1)
step_few (heading given) [] = omega arith
step_few (heading given) (word ∷ words) = none_in (bytes_eq word (codes ".nodes")) given _ (5 * 0 + (length (word ∷ words) + 1))
step_few (listing given started nodes) [] = omega arith
step_few (listing given started nodes) (word ∷ words) =
    few_in (5 * length nodes) (length (word ∷ words) + 1) nodes (with_node given nodes (fields_of (word ∷ words))) given (bytes_eq word (codes ".end")) started (omega arith)
    (with_node_few given nodes (word ∷ words) (fields_of (word ∷ words)) refl)
step_few (ended given nodes) words = omega arith

-- the bytes of lines, with a line feed each
abbrev total : List (List ℕ) → ℕ
total [] = 0
total (line ∷ lines) = length line + 1 + total lines

behind_few : (c : Context) (lines : List (List ℕ)) → 5 * length (nodes_in (behind c lines)) ≤ 5 * length (nodes_in c) + total lines
unfolding behind
behind_few c [] = omega arith
behind_few c (line ∷ lines) =
    omega (arith, behind_few (after_line c line) lines, step_few c (split_words line), few_words line)

without_end : (lines : List (List ℕ)) → total (without_empty_end lines) ≤ total lines
without_end [] = omega arith
without_end ([] ∷ []) = omega arith
without_end ([] ∷ (line ∷ lines)) = let r = without_end (line ∷ lines) in omega (arith, r)
without_end ((b ∷ line) ∷ lines) = let r = without_end lines in omega (arith, r)

joined : (line : List ℕ) (lines : List (List ℕ)) → total (line ∷ lines) ≡ length (join_with_byte 10 (line ∷ lines)) + 1
joined line [] = omega arith
joined line (next ∷ lines) =
    let r = joined next lines in let n = length-append line (10 ∷ join_with_byte 10 (next ∷ lines)) in omega (arith, r, n)

total_joined : (lines : List (List ℕ)) → total lines ≤ length (join_with_byte 10 lines) + 1
total_joined [] = omega arith
total_joined (line ∷ lines) = omega (arith, joined line lines)

total_bytes : (text : List ℕ) → total (lines_of text) ≤ length text + 1
unfolding lines_of
total_bytes text =
    let parts = slice_split (λ b. b == 10) text in
    omega (arith, without_end parts, total_joined parts, ap (length {A = ℕ}) (join_with_byte-slice_split 10 text))

pub lines_have_bytes : LinesHaveBytes
unfolding dump_of
lines_have_bytes text dump is =
    let c = behind at_start (lines_of text) in
    let nodes = ap (λ (d : Dump). length d.nodes) is.dump_is ∙ ap (length {A = Line}) (dump_nodes c) in
    omega (arith, nodes, behind_few at_start (lines_of text), total_bytes text)
