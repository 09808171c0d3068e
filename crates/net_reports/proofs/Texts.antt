-- Texts, written one after another.
use Rattle.std.proofs.Common.{◌≡◌, ℕ, ◌+◌, ◌<◌, ◌≤◌, false, codes, min, List, [], ◌∷◌, ◌++◌, length, get_or, map, take, sym, ap, ◌∙◌, arith}
use Rattle.std.specs.List.{enumerate_from, flat_map, zip}
use Rattle.std.specs.Fmt.{decimal}
use Rattle.std.proofs.lemmas.List.{flat_map_more, get_or-map, take_all, take_more}
use Rattle.std.proofs.lemmas.List.FromFn.{get_or-enumerate_from, get_or-map-range_with_len, length-enumerate_from, length-map-range_with_len}
use Rattle.std.proofs.lemmas.Slice.Zip.{get_or-zip, length-zip}
use Rattle.net_reports.specs.Reports.{count_line, out_line, out_lines, report_text, rest_text, root_names}
use Rattle.net_reports.specs.declared.classes.Class.{Class}
use Rattle.net_reports.specs.declared.patterns.Evaluation.{Evaluation}
use Rattle.cover_nets.specs.declared.net.Output.{Output}

-- one more element
one_more : {X : Type 0} (f : X → List ℕ) (xs : List X) (i : ℕ) (d : X) (start before after : List ℕ) → i < length xs
    → before ≡ start ++ flat_map f (take i xs) → after ≡ before ++ f (get_or xs i d) → after ≡ start ++ flat_map f (take (i + 1) xs)
one_more f xs i d start before after inside so_far next =
    next ∙ ap (λ text. text ++ f (get_or xs i d)) so_far ∙ flat_map_more f start (take i xs) (get_or xs i d)
    ∙ ap (λ items. start ++ flat_map f items) (sym (take_more xs i d inside))

-- what stands in no place
abbrev no_class : Class
no_class = record { first = 0; complement = false }

-- the line of a numbered output
abbrev pub numbered_line : ℕ × (List ℕ × Class) → List ℕ
numbered_line numbered = out_line numbered.0 numbered.1.0 numbered.1.1

-- names with their numbers and classes
abbrev pub numbered : List (List ℕ) → List Class → List (ℕ × (List ℕ × Class))
numbered names classes = enumerate_from 0 (zip names classes)

length-numbered : (names : List (List ℕ)) (classes : List Class) → length (numbered names classes) ≡ min (length names) (length classes)
length-numbered names classes = length-enumerate_from 0 (zip names classes) ∙ length-zip names classes

numbered_at : (names : List (List ℕ)) (classes : List Class) (number : ℕ) → number < length names → number < length classes
    → get_or (numbered names classes) number (0, ([], no_class)) ≡ (number, (get_or names number [], get_or classes number no_class))
numbered_at names classes number named classed =
    let zipped : number < length (zip names classes) = omega (arith, length-zip names classes, named, classed) in
    let same : 0 + number ≡ number = omega arith in
    get_or-enumerate_from 0 (zip names classes) number (0, ([], no_class)) zipped
    ∙ ap (λ i. (i, get_or (zip names classes) number ([], no_class))) same
    ∙ ap (λ (pair : List ℕ × Class). (number, pair)) (get_or-zip names classes number ([], no_class) named classed)

pub one_more_output : (names : List (List ℕ)) (classes : List Class) (number : ℕ) (name start before after : List ℕ) → number < length names → number < length classes
    → name ≡ get_or names number [] → before ≡ start ++ flat_map numbered_line (take number (numbered names classes))
    → after ≡ before ++ out_line number name (get_or classes number no_class)
    → after ≡ start ++ flat_map numbered_line (take (number + 1) (numbered names classes))
one_more_output names classes number name start before after named classed is so_far next =
    let within : number < length (numbered names classes) = omega (arith, length-numbered names classes, named, classed) in
    one_more numbered_line (numbered names classes) number (0, ([], no_class)) start before after within so_far
    (next ∙ ap (λ (word : List ℕ). before ++ out_line number word (get_or classes number no_class)) is
    ∙ ap (λ (one : ℕ × (List ℕ × Class)). before ++ numbered_line one) (sym (numbered_at names classes number named classed)))

-- all of them
pub all_numbered : (names : List (List ℕ)) (classes : List Class) (number : ℕ) → length classes ≤ number → take number (numbered names classes) ≡ numbered names classes
all_numbered names classes number most = take_all number (numbered names classes) (omega (arith, length-numbered names classes, most))

-- the name of an output
pub output_name : (outputs : List Output) (number : ℕ) (output : Output) → number < length outputs → output ≡ get_or outputs number output
    → output.name ≡ get_or (map (λ (one : Output). one.name) outputs) number []
output_name outputs number output inside at =
    ap (λ (one : Output). one.name) at ∙ sym (get_or-map (λ (one : Output). one.name) outputs number output [] inside)

-- and of a root
pub root_name : (count number : ℕ) → number < count → codes "r" ++ decimal number ≡ get_or (root_names count) number []
root_name count number inside =
    let same : 0 + number ≡ number = omega arith in
    sym (get_or-map-range_with_len (λ i. codes "r" ++ decimal i) 0 count number number [] inside same)

pub length-root_names : (count : ℕ) → length (root_names count) ≡ count
length-root_names count = length-map-range_with_len (λ i. codes "r" ++ decimal i) 0 count

-- a report of roots, from its parts
pub roots_reported : (inputs outputs count nodes : ℕ) (classes : List Class) (evaluations : List Evaluation) (order first second text : List ℕ) → length classes ≡ count → outputs ≡ count
    → first ≡ count_line (codes "inputs") inputs ++ count_line (codes "outputs") outputs → second ≡ first ++ out_lines (root_names (length classes)) classes
    → text ≡ second ++ rest_text evaluations order nodes → text ≡ report_text inputs (root_names count) classes evaluations order nodes
unfolding report_text
roots_reported inputs outputs count nodes classes evaluations order first second text many as_many counted listed last =
    let rest : List ℕ = rest_text evaluations order nodes in
    let head : ℕ → List ℕ = λ n. count_line (codes "inputs") inputs ++ count_line (codes "outputs") n in
    last ∙ ap (λ (before : List ℕ). before ++ rest) (listed ∙ ap (λ (before : List ℕ). before ++ out_lines (root_names (length classes)) classes) counted)
    ∙ ap (λ n. head n ++ out_lines (root_names (length classes)) classes ++ rest) (as_many ∙ sym (length-root_names count))
    ∙ ap (λ n. head (length (root_names count)) ++ out_lines (root_names n) classes ++ rest) many
