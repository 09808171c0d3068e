-- The text that is written for a dump.
use Rattle.std.specs.Prelude.{◌≡◌, ℕ, ◌+◌, ◌<◌, List, [], ◌∷◌, ◌++◌, Contains, codes, length, map, slice_index}
use Rattle.std.specs.List.{enumerate_from, flat_map}
use Rattle.std.specs.Fmt.{decimal, signed_decimal}
use Rattle.job_words.specs.Text.{Word}
use Rattle.edge_bits.specs.declared.edges.Line.{Line}
use Rattle.diagram_dumps.specs.declared.dump.Dump.{Dump}
use Rattle.dddmp_text.specs.Ranks.{internal_of}

-- a word and numbers, each behind a blank, and a line feed
abbrev pub item : Word → List Word → List ℕ
item word numbers = word ++ flat_map (λ number. codes " " ++ number) numbers ++ codes "\n"

-- the first lines of the header
unfoldable pub counts : Dump → List ℕ
counts dump =
    codes ".ver DDDMP-2.0\n.mode A\n.varinfo 0\n"
    ++ item (codes ".nnodes") (decimal (length dump.nodes + 1) ∷ [])
    ++ item (codes ".nvars") (decimal dump.nvars ∷ [])
    ++ item (codes ".nsuppvars") (decimal (length dump.ids) ∷ [])

-- the lines before the nodes, with that of the constant
unfoldable pub header : Dump → List ℕ
header dump =
    counts dump
    ++ item (codes ".ids") (map decimal dump.ids)
    ++ item (codes ".permids") (map decimal dump.permids)
    ++ item (codes ".nroots") (decimal (length dump.roots) ∷ [])
    ++ item (codes ".rootids") (map signed_decimal dump.roots)
    ++ codes ".nodes\n1 T 1 0 0\n"

-- `index id internal then else`
abbrev pub node_item : ℕ → ℕ → Line → List ℕ
node_item internal index line = item (decimal index) (decimal line.var ∷ decimal internal ∷ decimal line.hi ∷ signed_decimal line.lo ∷ [])

-- node lines, whose indices are counted from 2
abbrev pub node_items : Dump → List Line → List ℕ
node_items dump lines = flat_map (λ numbered. node_item (internal_of dump numbered.1.var) numbered.0 numbered.1) (enumerate_from 2 lines)

unfoldable pub written : Dump → List ℕ
written dump = header dump ++ node_items dump dump.nodes ++ codes ".end\n"

-- by variable, the internal indices of the ids
abbrev pub AreInternals : Dump → List ℕ → Type 0
AreInternals dump internals = (var : ℕ) → Contains dump.ids var → (var < length internals) × (slice_index internals var ≡ internal_of dump var)
