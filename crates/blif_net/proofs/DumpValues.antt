-- The values of the multiplexers are the functions of the dump's lines and roots.
use Rattle.std.proofs.Common.{◌≡◌, ℕ, zero, suc, ◌+◌, ◌<◌, ◌≤◌, not, Bool, true, false, cond, List, [], ◌∷◌, ◌++◌, ℤ, pos, negsuc, codes, length, map, nat_abs, get_or, Option, Some, None, refl, ap, sym, ◌∙◌, subst, arith}
use Rattle.std.specs.Prelude.{slice_get, option_map}
use Rattle.std.proofs.lemmas.Option.{same_Some, slice_get-get_or, slice_get-map, slice_get_within}
use Rattle.edge_bits.specs.Assignments.{bit}
use Rattle.edge_bits.specs.declared.edges.Line.{Line}
use Rattle.job_words.specs.Text.{Word}
use Rattle.diagram_dumps.specs.declared.dump.Dump.{Dump}
use Rattle.diagram_dumps.specs.Dumps.{line_value, root_value, signed}
use Rattle.diagram_dumps.specs.WellMade.{IsWritable}
use Rattle.diagram_dumps.proofs.Lines.{Indexed, at_line, at_one, earlier, indexed, line_is, one_is}
use Rattle.diagram_dumps.proofs.Walks.{AreLines, are_lines}
use Rattle.blif_models.specs.Circuits.{Cover, defined_in}
use Rattle.cover_nets.specs.declared.net.Net.{Net}
use Rattle.blif_wholes.specs.Networks.{IsNetOf}
use Rattle.blif_wholes.proofs.Alone.{Alone, among_got, get_front}
use Rattle.blif_net.specs.Dumped.{AreNames}
use Rattle.blif_dump.specs.Multiplexers.{is_due, literal_for, name_at}
use Rattle.blif_dump.specs.Names.{naming_of, place_in, prefix_for}
use Rattle.blif_net.proofs.KnownSignals.{node_of, word_of}
use Rattle.blif_net.proofs.MultiplexedLines.{circuit_for, constant_cover, cover_at, cover_if, node_cover, node_covers, output_cover, output_covers, row_of}
use Rattle.blif_net.proofs.MultiplexedSignals.{due_there, name_there}
use Rattle.blif_net.proofs.NamesApart.{stands, stands_at}
use Rattle.blif_net.proofs.NetValues.{AllGive, Gives, cover_gives, input_gives, value_by}
use Rattle.blif_dump.proofs.Variables.{variable_within}
use Rattle.blif_net.proofs.WrittenCircuits.{as_placed, placed}

-- what the rows give
constant_value : value_by (row_of [] ∷ []) [] ≡ true
constant_value = refl

-- then where v is 1, and else the else child or its complement
node_value : (lo : ℤ) (v t e : Bool) → value_by (row_of (codes "11-") ∷ row_of (48 ∷ 45 ∷ literal_for lo ∷ []) ∷ []) (v ∷ t ∷ e ∷ []) ≡ cond v t (signed (λ _. e) lo)
node_value (pos lo) true true e = refl
node_value (pos lo) true false e = refl
node_value (pos lo) false true true = refl
node_value (pos lo) false true false = refl
node_value (pos lo) false false true = refl
node_value (pos lo) false false false = refl
node_value (negsuc lo) true true e = refl
node_value (negsuc lo) true false e = refl
node_value (negsuc lo) false true true = refl
node_value (negsuc lo) false true false = refl
node_value (negsuc lo) false false true = refl
node_value (negsuc lo) false false false = refl

-- the root or its complement
output_value : (root : ℤ) (v : Bool) → value_by (row_of (literal_for root ∷ []) ∷ []) (v ∷ []) ≡ signed (λ _. v) root
output_value (pos root) true = refl
output_value (pos root) false = refl
output_value (negsuc root) true = refl
output_value (negsuc root) false = refl

signed_abs : (f : ℕ → Bool) (z : ℤ) → signed (λ _. f (nat_abs z)) z ≡ signed f z
signed_abs f (pos index) = refl
signed_abs f (negsuc below) =
    let same : suc below ≡ below + 1 = omega arith in ap (λ n. not (f n)) same

-- a cover keeps its place where covers get the numbers of their lines
placed_at : (number : ℕ) (covers : List Cover) (j : ℕ) (cover : Cover) → slice_get covers j ≡ Some cover → (line : ℕ) × (slice_get (placed number covers) j ≡ Some (record cover { line = line }))
placed_at number [] j cover h = cc
placed_at number (one ∷ covers) zero cover h = (number, ap (λ (t : Cover). Some (record t { line = number })) (same_Some one cover h))
placed_at number (one ∷ covers) (suc j) cover h = placed_at (number + (1 + length one.rows)) covers j cover h

-- where a node line's cover stands
node_at : (inputs outputs : List Word) (index : ℕ) (lines : List Line) (place : ℕ) (line : Line) → slice_get lines place ≡ Some line
    → slice_get (node_covers (naming_of inputs outputs) inputs index lines) place ≡ Some (node_cover (prefix_for (inputs ++ outputs)) (word_of inputs outputs (name_at inputs line.var)) (index + place) line)
node_at inputs outputs index [] place line h = cc
node_at inputs outputs index (first ∷ lines) zero line h =
    let same : index ≡ index + 0 = omega arith in
    ap (λ (t : Line). Some (node_cover (prefix_for (inputs ++ outputs)) (word_of inputs outputs (name_at inputs t.var)) index t)) (same_Some first line h)
    ∙ ap (λ n. Some (node_cover (prefix_for (inputs ++ outputs)) (word_of inputs outputs (name_at inputs line.var)) n line)) same
node_at inputs outputs index (first ∷ lines) (suc place) line h =
    let same : index + 1 + place ≡ index + suc place = omega arith in
    node_at inputs outputs (index + 1) lines place line h
    ∙ ap (λ n. Some (node_cover (prefix_for (inputs ++ outputs)) (word_of inputs outputs (name_at inputs line.var)) n line)) same

get_back : (front back : List Cover) (j : ℕ) (cover : Cover) → slice_get back j ≡ Some cover → slice_get (front ++ back) (length front + j) ≡ Some cover
get_back [] back j cover h = ap (slice_get back) (omega arith) ∙ h
get_back (one ∷ front) back j cover h = ap (λ n. slice_get (one ∷ (front ++ back)) n) (next (length front) j) ∙ get_back front back j cover h
  where
    next : (a b : ℕ) → suc a + b ≡ suc (a + b)
    next a b = omega arith

-- where an output's cover stands: at the name's first place
output_at : (inputs outputs : List Word) (place : ℕ) (roots : List ℤ) (p i : ℕ) (name : Word) (root : ℤ) → place_in inputs name ≡ None → place_in outputs name ≡ Some p → p ≡ place + i → slice_get roots i ≡ Some root
    → (j : ℕ) × (slice_get (output_covers (naming_of inputs outputs) outputs place roots) j ≡ Some (output_cover (prefix_for (inputs ++ outputs)) (word_of inputs outputs name) root))
output_at inputs outputs place [] p i name root none at e h = cc
output_at inputs outputs place (first ∷ roots) p zero name root none at e h =
    let here : p ≡ place = omega (arith, e) in
    let own : name_at outputs place ≡ name = ap (name_at outputs) (sym here) ∙ name_there outputs name p at in
    let due : is_due (place_in inputs (name_at outputs place)) (place_in outputs (name_at outputs place)) place ≡ true =
    ap (λ (z : Word). is_due (place_in inputs z) (place_in outputs z) place) own ∙ ap (λ o. is_due o (place_in outputs name) place) none
    ∙ ap (λ o. is_due None o place) (at ∙ ap (λ t. Some t) here) ∙ due_there place in
    let front = prefix_for (inputs ++ outputs) in
    let rest = output_covers (naming_of inputs outputs) outputs (place + 1) roots in (
      0,
      ap (λ (b : Bool). slice_get (cover_if b (output_cover front (word_of inputs outputs (name_at outputs place)) first) ++ rest) 0) due
          ∙ ap (λ (z : Word). Some (output_cover front (word_of inputs outputs z) first)) own
          ∙ ap (λ (t : ℤ). Some (output_cover front (word_of inputs outputs name) t)) (same_Some first root h),
    )
output_at inputs outputs place (first ∷ roots) p (suc i) name root none at e h =
    let found = output_at inputs outputs (place + 1) roots p i name root none at (omega (arith, e)) h in
    let here = cover_at (naming_of inputs outputs) place (name_at outputs place) first in
    (length here + found.0, get_back here (output_covers (naming_of inputs outputs) outputs (place + 1) roots) found.0 (output_cover (prefix_for (inputs ++ outputs)) (word_of inputs outputs name) root) found.1)

-- the roots, by place
pub root_at : (roots : List ℤ) (after i : ℕ) (root : ℤ) → AreLines roots after → slice_get roots i ≡ Some root → (1 ≤ nat_abs root) × (nat_abs root < after)
root_at [] after i root h e = cc
root_at (first ∷ roots) after zero root h e =
    let same : first ≡ root = same_Some first root e in
    subst (λ (t : ℤ). (1 ≤ nat_abs t) × (nat_abs t < after)) same (h.0, h.1)
root_at (first ∷ roots) after (suc i) root h e = root_at roots after i root h.2 e

-- Of a network of the circuit of a dump, at k.
module _ (dump : Dump) (inputs outputs : List Word) (writable : IsWritable dump) (named : AreNames dump inputs outputs) (net : Net) (h : IsNetOf (as_placed (circuit_for (naming_of inputs outputs) dump inputs outputs)) net) (alone : Alone (map (word_of inputs outputs) inputs) (defined_in (placed 4 (circuit_for (naming_of inputs outputs) dump inputs outputs).covers))) (k : ℕ) where
  -- an input
  variable_gives : (v : ℕ) (name : Word) → slice_get inputs v ≡ Some name → Gives net k (map (word_of inputs outputs) inputs ++ defined_in h.arranged) (word_of inputs outputs name) (bit k v)
  variable_gives v name at =
      input_gives (as_placed (circuit_for (naming_of inputs outputs) dump inputs outputs)) net h alone k v (word_of inputs outputs name)
      (slice_get-map (word_of inputs outputs) inputs v ∙ ap (option_map (word_of inputs outputs)) at)

  -- a cover, wherever it stands
  some_gives : (j : ℕ) (cover : Cover) (values : List Bool) → slice_get (circuit_for (naming_of inputs outputs) dump inputs outputs).covers j ≡ Some cover
      → AllGive net k (map (word_of inputs outputs) inputs ++ defined_in h.arranged) cover.ins values
      → Gives net k (map (word_of inputs outputs) inputs ++ defined_in h.arranged) cover.name (value_by cover.rows values)
  some_gives j cover values at gives =
      let there = placed_at 4 (circuit_for (naming_of inputs outputs) dump inputs outputs).covers j cover at in
      cover_gives (as_placed (circuit_for (naming_of inputs outputs) dump inputs outputs)) net h alone k j (record cover { line = there.0 }) values there.1 gives

  -- a node line, through so many lines at most
  line_gives : (limit index : ℕ) → index ≤ limit → Indexed dump index → Gives net k (map (word_of inputs outputs) inputs ++ defined_in h.arranged) (node_of inputs outputs index) (line_value dump index k)
  line_gives limit _ low at_one =
      let one : line_value dump 1 k ≡ true = ap (λ (f : ℕ → Bool). f k) (one_is dump writable.well_made) in
      λ s got. some_gives 0 (constant_cover (prefix_for (inputs ++ outputs))) [] refl tt s got ∙ sym one
  line_gives zero _ low (at_line place line at) = absurd (omega (arith, low))
  line_gives (suc limit) _ low (at_line place line at) =
      let within = slice_get_within dump.nodes place line at in
      let below = earlier dump writable.well_made place line at in
      let var = name_at inputs line.var in
      let var_at : slice_get inputs line.var ≡ Some var = slice_get-get_or inputs line.var [] (omega (arith, variable_within dump writable place line at, named.as_many_inputs)) in
      let naming = naming_of inputs outputs in
      let same : 2 + place ≡ place + 2 = omega arith in
      let cover = node_cover (prefix_for (inputs ++ outputs)) (word_of inputs outputs var) (place + 2) line in
      let nodes = node_covers naming inputs 2 dump.nodes in
      let there : slice_get (nodes ++ output_covers naming outputs 0 dump.roots) place ≡ Some cover =
      get_front nodes (output_covers naming outputs 0 dump.roots) place cover
      (node_at inputs outputs 2 dump.nodes place line at ∙ ap (λ n. Some (node_cover (prefix_for (inputs ++ outputs)) (word_of inputs outputs var) n line)) same) in
      let value : line_value dump (place + 2) k ≡ cond (bit k line.var) (line_value dump line.hi k) (signed (λ index. line_value dump index k) line.lo) =
      ap (λ (f : ℕ → Bool). f k) (line_is dump writable.well_made place line at) in
      λ s got.
      some_gives (suc place) cover (bit k line.var ∷ line_value dump line.hi k ∷ line_value dump (nat_abs line.lo) k ∷ []) there (
        variable_gives line.var var var_at,
        (
          line_gives limit line.hi (omega (arith, low, below.1)) (indexed dump line.hi below.0 (omega (arith, below.1, within))),
          (line_gives limit (nat_abs line.lo) (omega (arith, low, below.3)) (indexed dump (nat_abs line.lo) below.2 (omega (arith, below.3, within))), tt),
        ),
      ) s got
      ∙ node_value line.lo (bit k line.var) (line_value dump line.hi k) (line_value dump (nat_abs line.lo) k)
      ∙ ap (λ b. cond (bit k line.var) (line_value dump line.hi k) b) (signed_abs (λ index. line_value dump index k) line.lo) ∙ sym value

  -- an output
  pub output_gives : (i : ℕ) (name : Word) (root : ℤ) → slice_get outputs i ≡ Some name → slice_get dump.roots i ≡ Some root
      → Gives net k (map (word_of inputs outputs) inputs ++ defined_in h.arranged) (word_of inputs outputs name) (root_value dump root k)
  output_gives i name root at there = by_place (place_in inputs name) refl
    where
      by_place : (o : Option ℕ) → place_in inputs name ≡ o → Gives net k (map (word_of inputs outputs) inputs ++ defined_in h.arranged) (word_of inputs outputs name) (root_value dump root k)
      by_place (Some v) e =
          λ s got. variable_gives v name (stands_at inputs name v e) s got ∙ sym (named.projected i v k name root at there (stands_at inputs name v e))
      by_place None e =
          let found = stands outputs 0 name (among_got outputs i name at) in
          let first : slice_get outputs found.0 ≡ Some name = stands_at outputs name found.0 found.1 in
          let within : found.0 < length dump.roots = omega (arith, slice_get_within outputs found.0 name first, named.as_many_outputs) in
          let own = get_or dump.roots found.0 (pos 0) in
          let own_at : slice_get dump.roots found.0 ≡ Some own = slice_get-get_or dump.roots found.0 (pos 0) within in
          let same : own ≡ root = named.one_root found.0 i name own root first at own_at there in
          let root_there : slice_get dump.roots found.0 ≡ Some root = own_at ∙ ap (λ (t : ℤ). Some t) same in
          let naming = naming_of inputs outputs in
          let cover = output_at inputs outputs 0 dump.roots found.0 found.0 name root e found.1 (omega arith) root_there in
          let nodes = node_covers naming inputs 2 dump.nodes in
          let bounds = root_at dump.roots (2 + length dump.nodes) found.0 root (are_lines dump writable.well_made) root_there in
          λ s got.
          some_gives (suc (length nodes + cover.0)) (output_cover (prefix_for (inputs ++ outputs)) (word_of inputs outputs name) root) (line_value dump (nat_abs root) k ∷ [])
          (get_back nodes (output_covers naming outputs 0 dump.roots) cover.0 (output_cover (prefix_for (inputs ++ outputs)) (word_of inputs outputs name) root) cover.1)
          (line_gives (nat_abs root) (nat_abs root) (omega arith) (indexed dump (nat_abs root) bounds.0 bounds.1), tt) s got
          ∙ output_value root (line_value dump (nat_abs root) k) ∙ signed_abs (λ index. line_value dump index k) root
