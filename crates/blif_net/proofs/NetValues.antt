-- The values of a network's signals by their names.
use Rattle.std.proofs.Common.{◌≡◌, ℕ, zero, suc, ◌+◌, ◌<◌, ◌&&◌, ◌||◌, not, Bool, true, cond, List, [], ◌∷◌, ◌++◌, length, map, Some, inl, inr, refl, ap, sym, ◌∙◌, subst, arith, append_assoc}
use Rattle.std.specs.Prelude.{◌⊎◌, Contains, IsPermutation, find, slice_get}
use Rattle.std.specs.List.{list_any}
use Rattle.std.specs.Str.{bytes_eq}
use Rattle.std.proofs.lemmas.Bool.{both_ways}
use Rattle.std.proofs.lemmas.List.Sorted.{Contains-permutation, IsPermutation-sym}
use Rattle.std.proofs.lemmas.Option.{get_or_from_slice_get, same_Some, slice_get_read, slice_get_within}
use Rattle.edge_bits.specs.Assignments.{bit}
use Rattle.job_words.specs.Text.{Word, is_among}
use Rattle.blif_models.specs.Circuits.{Circuit, Cover, Row, defined_in}
use Rattle.cover_nets.specs.declared.net.Net.{Net}
use Rattle.cover_nets.specs.declared.net.Cover.{Cover as Gate}
use Rattle.cover_nets.specs.declared.net.Cube.{Cube}
use Rattle.cover_nets.specs.declared.net.Literal.{Literal}
use Rattle.cover_nets.specs.Networks.{cover_value, fits, matches, signal_value}
use Rattle.blif_wholes.specs.Networks.{AreGates, AreNumbers, IsGateOf, IsNetOf, is_on, literals_of}
use Rattle.blif_wholes.proofs.Alone.{Alone, among_got, covered, found_once, get_front, not_input, place_once}
use Rattle.blif_net.proofs.OneNet.{GateAt}
use Rattle.blif_net.proofs.Ordered.{ordered_net}
use Rattle.cover_nets.proofs.Values.{gate_is, input_is}

-- what rows give from the values of the inputs
abbrev pub fits_all : List Literal → List Bool → Bool
fits_all (literal ∷ literals) (value ∷ values) = fits literal value && fits_all literals values
fits_all _ _ = true

abbrev pub value_by : List Row → List Bool → Bool
value_by rows values = cond (list_any (λ (cube : Cube). fits_all cube.literals values) (map literals_of rows)) (is_on rows) (not (is_on rows))

matches_are : (f : ℕ → Bool) (literals : List Literal) (signals : List ℕ) (values : List Bool) → map f signals ≡ values → matches f literals signals ≡ fits_all literals values
matches_are f [] signals values h = refl
matches_are f (literal ∷ literals) [] [] h = refl
matches_are f (literal ∷ literals) [] (value ∷ values) h = cc
matches_are f (literal ∷ literals) (signal ∷ signals) [] h = cc
matches_are f (literal ∷ literals) (signal ∷ signals) (value ∷ values) h =
    let first : f signal ≡ value = cc in
    let rest : map f signals ≡ values = cc in
    ap (λ b. fits literal b && matches f literals signals) first ∙ ap (λ b. fits literal value && b) (matches_are f literals signals values rest)

any_are : (f : ℕ → Bool) (cubes : List Cube) (signals : List ℕ) (values : List Bool) → map f signals ≡ values
    → list_any (λ (cube : Cube). matches f cube.literals signals) cubes ≡ list_any (λ (cube : Cube). fits_all cube.literals values) cubes
any_are f [] signals values h = refl
any_are f (cube ∷ cubes) signals values h =
    ap (λ b. b || list_any (λ (other : Cube). matches f other.literals signals) cubes) (matches_are f cube.literals signals values h)
    ∙ ap (λ b. fits_all cube.literals values || b) (any_are f cubes signals values h)

gate_value : (names : List Word) (cover : Cover) (gate : Gate) (f : ℕ → Bool) (values : List Bool) → IsGateOf names cover gate → map f gate.ins ≡ values → cover_value gate f ≡ value_by cover.rows values
gate_value names cover gate f values is h =
    ap (λ (cubes : List Cube). cond (list_any (λ (cube : Cube). matches f cube.literals gate.ins) cubes) gate.on (not gate.on)) is.rows
    ∙ ap (λ b. cond b gate.on (not gate.on)) (any_are f (map literals_of cover.rows) gate.ins values h)
    ∙ ap (λ b. cond (list_any (λ (cube : Cube). fits_all cube.literals values) (map literals_of cover.rows)) b (not b)) is.on

-- where a name stands: in the front, or behind it
abbrev Splits : List Word → List Word → ℕ → Word → Type 0
Splits xs ys s z = (slice_get xs s ≡ Some z) ⊎ ((i : ℕ) × (s ≡ length xs + i) × (slice_get ys i ≡ Some z))

splits : (xs ys : List Word) (s : ℕ) (z : Word) → slice_get (xs ++ ys) s ≡ Some z → Splits xs ys s z
splits [] ys s z h = inr (s, omega arith, h)
splits (x ∷ xs) ys zero z h = inl h
splits (x ∷ xs) ys (suc s) z h = onward (splits xs ys s z h)
  where
    onward : Splits xs ys s z → Splits (x ∷ xs) ys (suc s) z
    onward (inl e) = inl e
    onward (inr (i, at, e)) = inr (i, omega (arith, at), e)

-- the gate of a cover
gate_at : (names : List Word) (arranged : List Cover) (gates : List Gate) (i : ℕ) (cover : Cover) → AreGates names arranged gates → slice_get arranged i ≡ Some cover → GateAt names arranged gates i cover
gate_at names [] [] i cover h e = cc
gate_at names [] (gate ∷ gates) i cover h e = cc
gate_at names (one ∷ arranged) [] i cover h e = absurd h
gate_at names (one ∷ arranged) (gate ∷ gates) zero cover h e = record {
  gate = gate;
  at = refl;
  front = names;
  back = defined_in (one ∷ arranged);
  all = refl;
  is = subst (λ (t : Cover). IsGateOf names t gate) (same_Some one cover e) h.0;
}
gate_at names (one ∷ arranged) (gate ∷ gates) (suc i) cover h e =
    let rest = gate_at (names ++ one.name ∷ []) arranged gates i cover h.1 e in
    record {
      gate = rest.gate;
      at = rest.at;
      front = rest.front;
      back = rest.back;
      all = sym (append_assoc names (one.name ∷ []) (defined_in arranged)) ∙ rest.all;
      is = rest.is;
    }

-- a cover of an arrangement is one of the circuit's
in_circuit : (covers arranged : List Cover) (i : ℕ) (cover : Cover) → IsPermutation covers arranged → slice_get arranged i ≡ Some cover → (j : ℕ) × (slice_get covers j ≡ Some cover)
in_circuit covers arranged i cover p h =
    let found : Contains covers cover = Contains-permutation arranged covers cover (IsPermutation-sym covers arranged p) (i, slice_get_within arranged i cover h, get_or_from_slice_get arranged i cover cover h) in
    (found.0, slice_get_read covers (length covers) found.0 cover refl found.1 (sym found.2))

-- each signal of this name has this value at k, where signals have these names
abbrev pub Gives : Net → ℕ → List Word → Word → Bool → Type 0
Gives net k names z b = (s : ℕ) → slice_get names s ≡ Some z → signal_value net s k ≡ b

abbrev pub AllGive : Net → ℕ → List Word → List Word → List Bool → Type 0
AllGive net k names [] [] = Unit {0}
AllGive net k names (z ∷ zs) (b ∷ bs) = Gives net k names z b × AllGive net k names zs bs
AllGive net k names _ _ = ⊥

-- the values of the inputs of a gate
ins_give : (net : Net) (k : ℕ) (front back zs : List Word) (signals : List ℕ) (bs : List Bool) → AreNumbers front zs signals → AllGive net k (front ++ back) zs bs → map (λ s. signal_value net s k) signals ≡ bs
ins_give net k front back [] [] [] numbers gives = refl
ins_give net k front back [] [] (b ∷ bs) numbers gives = absurd gives
ins_give net k front back [] (s ∷ signals) bs numbers gives = cc
ins_give net k front back (z ∷ zs) [] bs numbers gives = cc
ins_give net k front back (z ∷ zs) (s ∷ signals) [] numbers gives = absurd gives
ins_give net k front back (z ∷ zs) (s ∷ signals) (b ∷ bs) numbers gives =
    let first : slice_get front s ≡ Some z = cc in
    let rest : map (slice_get front) signals ≡ map Some zs = cc in
    ap (λ v. v ∷ map (λ t. signal_value net t k) signals) (gives.0 s (get_front front back s z first)) ∙ ap (λ vs. b ∷ vs) (ins_give net k front back zs signals bs rest gives.1)

-- Of a network of a circuit in which no two signals have one name, at k.
module _ (circuit : Circuit) (net : Net) (h : IsNetOf circuit net) (alone : Alone circuit.inputs (defined_in circuit.covers)) (k : ℕ) where
  -- an input's bit
  pub input_gives : (v : ℕ) (z : Word) → slice_get circuit.inputs v ≡ Some z → Gives net k (circuit.inputs ++ defined_in h.arranged) z (bit k v)
  input_gives v z at s got = by_kind (splits circuit.inputs (defined_in h.arranged) s z got)
    where
      by_kind : Splits circuit.inputs (defined_in h.arranged) s z → signal_value net s k ≡ bit k v
      by_kind (inl e) =
          let same : s ≡ v = sym (place_once circuit.inputs s z alone.inputs e) ∙ place_once circuit.inputs v z alone.inputs at in
          let low : s < length net.inputs = subst (λ (t : List Word). s < length t) (sym h.inputs) (slice_get_within circuit.inputs s z e) in
          input_is net s k low ∙ ap (bit k) same
      by_kind (inr (i, e, got')) =
          let found = covered h.arranged i z got' in
          let own = in_circuit circuit.covers h.arranged i found.0 h.each_once found.1 in
          absurd (both_ways (is_among circuit.inputs found.0.name) (not_input circuit own.0 found.0 alone own.1)
          (ap (is_among circuit.inputs) found.2 ∙ among_got circuit.inputs v z at))

  -- what a cover gives from the values of its inputs
  pub cover_gives : (j : ℕ) (cover : Cover) (values : List Bool) → slice_get circuit.covers j ≡ Some cover → AllGive net k (circuit.inputs ++ defined_in h.arranged) cover.ins values
      → Gives net k (circuit.inputs ++ defined_in h.arranged) cover.name (value_by cover.rows values)
  cover_gives j cover values at gives s got = by_kind (splits circuit.inputs (defined_in h.arranged) s cover.name got)
    where
      by_kind : Splits circuit.inputs (defined_in h.arranged) s cover.name → signal_value net s k ≡ value_by cover.rows values
      by_kind (inl e) = absurd (both_ways (is_among circuit.inputs cover.name) (not_input circuit j cover alone at) (among_got circuit.inputs s cover.name e))
      by_kind (inr (i, e, got')) =
          let found = covered h.arranged i cover.name got' in
          let own = in_circuit circuit.covers h.arranged i found.0 h.each_once found.1 in
          let one : find (λ (other : Cover). bytes_eq cover.name other.name) circuit.covers ≡ Some found.0 =
          ap (λ (z : Word). find (λ (other : Cover). bytes_eq z other.name) circuit.covers) (sym found.2) ∙ found_once circuit.covers own.0 found.0 alone.covers own.1 in
          let same : found.0 ≡ cover = same_Some found.0 cover (sym one ∙ found_once circuit.covers j cover alone.covers at) in
          let there : slice_get h.arranged i ≡ Some cover = found.1 ∙ ap (λ (t : Cover). Some t) same in
          let g = gate_at circuit.inputs h.arranged net.gates i cover h.gates there in
          let place : s ≡ length net.inputs + i = e ∙ ap (λ (t : List Word). length t + i) (sym h.inputs) in
          let within = subst (λ (t : List Word). AllGive net k t cover.ins values) g.all gives in
          ap (λ t. signal_value net t k) place ∙ gate_is net (ordered_net circuit net h) i k g.gate g.at
          ∙ gate_value g.front cover g.gate (λ t. signal_value net t k) values g.is (ins_give net k g.front g.back cover.ins (g.gate).ins values (g.is).ins within)
