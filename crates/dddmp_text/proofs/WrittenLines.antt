-- What is written for a dump, line by line.
use Rattle.std.proofs.Common.{◌≡◌, ℕ, ◌+◌, List, [], ◌∷◌, ◌++◌, codes, length, map, refl, sym, ◌∙◌, ap, append_assoc}
use Rattle.std.specs.List.{enumerate_from, flat_map}
use Rattle.std.specs.Fmt.{decimal, signed_decimal}
use Rattle.std.proofs.lemmas.List.{append-nil}
use Rattle.std.proofs.lemmas.Grind.{flat_map-append}
use Rattle.edge_bits.specs.declared.edges.Line.{Line}
use Rattle.diagram_dumps.specs.declared.dump.Dump.{Dump}
use Rattle.dddmp_text.specs.Ranks.{internal_of}
use Rattle.dddmp_text.specs.Written.{counts, header, item, node_item, node_items, written}
use Rattle.dddmp_text.proofs.Spelled.{Line as Words, text_of}

abbrev pub node_line : Dump → ℕ → Line → Words
node_line dump index line = (decimal index, decimal line.var ∷ decimal (internal_of dump line.var) ∷ decimal line.hi ∷ signed_decimal line.lo ∷ [])

abbrev pub node_lines : Dump → ℕ → List Line → List Words
node_lines dump index [] = []
node_lines dump index (line ∷ lines) = node_line dump index line ∷ node_lines dump (index + 1) lines

abbrev pub end_lines : List Words
end_lines = (codes ".end", []) ∷ []

abbrev pub header_lines : Dump → List Words
header_lines dump =
    (codes ".ver", codes "DDDMP-2.0" ∷ []) ∷ (codes ".mode", codes "A" ∷ []) ∷ (codes ".varinfo", codes "0" ∷ [])
    ∷ (codes ".nnodes", decimal (length dump.nodes + 1) ∷ []) ∷ (codes ".nvars", decimal dump.nvars ∷ []) ∷ (codes ".nsuppvars", decimal (length dump.ids) ∷ [])
    ∷ (codes ".ids", map decimal dump.ids) ∷ (codes ".permids", map decimal dump.permids)
    ∷ (codes ".nroots", decimal (length dump.roots) ∷ []) ∷ (codes ".rootids", map signed_decimal dump.roots)
    ∷ (codes ".nodes", []) ∷ (codes "1", codes "T" ∷ codes "1" ∷ codes "0" ∷ codes "0" ∷ []) ∷ []

abbrev pub written_lines : Dump → List Words
written_lines dump = header_lines dump ++ (node_lines dump 2 dump.nodes ++ end_lines)

nodes-text : (dump : Dump) (index : ℕ) (lines : List Line)
    → flat_map (λ numbered. node_item (internal_of dump numbered.1.var) numbered.0 numbered.1) (enumerate_from index lines) ≡ text_of (node_lines dump index lines)
nodes-text dump index [] = refl
nodes-text dump index (line ∷ lines) = ap (λ rest. node_item (internal_of dump line.var) index line ++ rest) (nodes-text dump (index + 1) lines)

regroup : (v m i a b c d e f g n t : List ℕ)
    → ((((((((v ++ (m ++ i)) ++ a) ++ b) ++ c) ++ d) ++ e) ++ f) ++ g) ++ (n ++ t) ≡ v ++ (m ++ (i ++ (a ++ (b ++ (c ++ (d ++ (e ++ (f ++ (g ++ (n ++ (t ++ [])))))))))))
regroup v m i a b c d e f g n t = simp (append_assoc, append-nil)

header-text : (dump : Dump) → header dump ≡ text_of (header_lines dump)
unfolding header counts
header-text dump =
    regroup (item (codes ".ver") (codes "DDDMP-2.0" ∷ [])) (item (codes ".mode") (codes "A" ∷ [])) (item (codes ".varinfo") (codes "0" ∷ []))
    (item (codes ".nnodes") (decimal (length dump.nodes + 1) ∷ [])) (item (codes ".nvars") (decimal dump.nvars ∷ [])) (item (codes ".nsuppvars") (decimal (length dump.ids) ∷ []))
    (item (codes ".ids") (map decimal dump.ids)) (item (codes ".permids") (map decimal dump.permids)) (item (codes ".nroots") (decimal (length dump.roots) ∷ []))
    (item (codes ".rootids") (map signed_decimal dump.roots)) (item (codes ".nodes") []) (item (codes "1") (codes "T" ∷ codes "1" ∷ codes "0" ∷ codes "0" ∷ []))

pub written-text : (dump : Dump) → written dump ≡ text_of (written_lines dump)
unfolding written
written-text dump =
    let one : Words → List ℕ = λ line. item line.0 line.1 in
    ap (λ text. (text ++ node_items dump dump.nodes) ++ codes ".end\n") (header-text dump)
    ∙ ap (λ text. (text_of (header_lines dump) ++ text) ++ codes ".end\n") (nodes-text dump 2 dump.nodes)
    ∙ append_assoc (text_of (header_lines dump)) (text_of (node_lines dump 2 dump.nodes)) (codes ".end\n")
    ∙ ap (λ text. text_of (header_lines dump) ++ text) (sym (flat_map-append (λ (line : Words). item line.0 line.1) (node_lines dump 2 dump.nodes) end_lines))
    ∙ sym (flat_map-append (λ (line : Words). item line.0 line.1) (header_lines dump) (node_lines dump 2 dump.nodes ++ end_lines))
