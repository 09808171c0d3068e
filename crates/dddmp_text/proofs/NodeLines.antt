-- Node lines, written one after another.
use Rattle.std.proofs.Common.{◌≡◌, ℕ, ◌+◌, ◌<◌, List, [], ◌∷◌, ◌++◌, All, Contains, length, get_or, take, sym, ◌∙◌, ap, arith, pos, append_assoc}
use Rattle.std.specs.List.{enumerate_from, flat_map}
use Rattle.std.proofs.lemmas.List.{append-nil, length-take-le, take_more}
use Rattle.std.proofs.lemmas.Grind.{flat_map-append}
use Rattle.edge_bits.specs.declared.edges.Line.{Line}
use Rattle.diagram_dumps.specs.declared.dump.Dump.{Dump}
use Rattle.dddmp_text.specs.Ranks.{internal_of}
use Rattle.dddmp_text.specs.Written.{AreInternals, node_item, node_items}
use Rattle.dddmp_text.proofs.Counting.{enumerate-append}

-- what stands past the end of a list of lines
abbrev pub nothing : Line
nothing = record { var = 0; hi = 0; lo = pos 0 }

-- a line with its index
abbrev item_of : Dump → ℕ × Line → List ℕ
item_of dump numbered = node_item (internal_of dump numbered.1.var) numbered.0 numbered.1

node_items-append : (dump : Dump) (before : List Line) (line : Line)
    → node_items dump (before ++ line ∷ []) ≡ node_items dump before ++ node_item (internal_of dump line.var) (2 + length before) line
node_items-append dump before line =
    ap (flat_map (item_of dump)) (enumerate-append 2 before (line ∷ []))
    ∙ flat_map-append (item_of dump) (enumerate_from 2 before) ((2 + length before, line) ∷ [])
    ∙ ap (λ text. node_items dump before ++ text) (append-nil (item_of dump (2 + length before, line)))

-- the next line was written, with the internal index that is looked up
pub one_more : (dump : Dump) (internals : List ℕ) (shown : List Line) (place : ℕ) (start before after : List ℕ) → shown ≡ dump.nodes
    → AreInternals dump internals → All (λ line. Contains dump.ids line.var) dump.nodes → place < length shown
    → before ≡ start ++ node_items dump (take place dump.nodes)
    → after ≡ before ++ node_item (get_or internals (get_or shown place nothing).var 0) (place + 2) (get_or shown place nothing)
    → after ≡ start ++ node_items dump (take (place + 1) dump.nodes)
one_more dump internals shown place start before after same are holds within so_far next =
    let inside : place < length dump.nodes = omega (arith, ap (λ (s : List Line). length s) same) in
    let line : Line = get_or dump.nodes place nothing in
    let index : place + 2 ≡ 2 + length (take place dump.nodes) = omega (arith, length-take-le place dump.nodes) in
    next
    ∙ ap (λ (s : List Line). before ++ node_item (get_or internals (get_or s place nothing).var 0) (place + 2) (get_or s place nothing)) same
    ∙ ap (λ internal. before ++ node_item internal (place + 2) (get_or dump.nodes place nothing)) (are _ (holds place nothing inside)).1
    ∙ ap (λ index. before ++ node_item (internal_of dump (get_or dump.nodes place nothing).var) index (get_or dump.nodes place nothing)) index
    ∙ ap (λ text. text ++ node_item (internal_of dump (get_or dump.nodes place nothing).var) (2 + length (take place dump.nodes)) (get_or dump.nodes place nothing)) so_far
    ∙ append_assoc start (node_items dump (take place dump.nodes)) _
    ∙ ap (λ text. start ++ text) (sym (node_items-append dump (take place dump.nodes) (get_or dump.nodes place nothing)))
    ∙ ap (λ lines. start ++ node_items dump lines) (sym (take_more dump.nodes place nothing inside))
