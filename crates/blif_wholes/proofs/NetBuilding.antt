-- What was built of a whole's draft is a network of its circuit.
use Rattle.std.proofs.Common.{◌≡◌, ℕ, zero, suc, ◌+◌, ◌==◌, ◌<◌, ◌||◌, Bool, true, false, List, [], ◌∷◌, ◌++◌, length, map, get_or, Option, Some, refl, ap, sym, ◌∙◌, subst, arith}
use Rattle.std.specs.Prelude.{slice_get, slice_index}
use Rattle.std.specs.List.{list_all}
use Rattle.std.specs.Global.{Vec}
use Rattle.std.proofs.lemmas.Bool.{and_parts, false≢true, or_left, or_right}
use Rattle.std.proofs.lemmas.List.{length-map}
use Rattle.std.proofs.lemmas.Option.{get_or_from_slice_get, slice_get_within, slice_get-get_or}
use Rattle.cover_nets.specs.declared.net.Cover.{Cover as Gate}
use Rattle.cover_nets.specs.declared.net.Net.{Net}
use Rattle.cover_nets.specs.declared.net.Output.{Output}
use Rattle.job_words.specs.Text.{Word}
use Rattle.blif_models.specs.Circuits.{Circuit, Cover, defined_in, is_signal}
use Rattle.blif_models.specs.Models.{Model}
use Rattle.blif_order.specs.Orders.{Once, Ordered, is_in}
use Rattle.blif_order.proofs.Walks.{own, same_number}
use Rattle.blif_wholes.specs.declared.bodies.CoverRows.{CoverRows}
use Rattle.blif_wholes.specs.declared.drafting.WholeDraft.{WholeDraft}
use Rattle.blif_wholes.specs.declared.parting.WholeCover.{WholeCover}
use Rattle.blif_wholes.specs.declared.roles.Role.{Role}
use Rattle.blif_wholes.specs.declared.roles.Role.TheVariants as roles
use Rattle.blif_wholes.specs.Arranged.{ReadsOf}
use Rattle.blif_wholes.specs.Bodies.{KeepRows}
use Rattle.blif_wholes.specs.Built.{IsSound}
use Rattle.blif_wholes.specs.Drafting.{AreCoversBy, AreRolesBy, IsCoverBy, IsRoleOfWord, IsWholeDraft}
use Rattle.blif_wholes.specs.Names.{WholeName, words_in}
use Rattle.blif_wholes.specs.Networks.{AreNumbers, IsNetOf, is_on, literals_of}
use Rattle.blif_wholes.specs.Placing.{IsBuilt, gate_of, no_cover, signal_in}
use Rattle.blif_wholes.proofs.Alone.{all_of_cover, alone, covered, get_front}
use Rattle.blif_wholes.proofs.CoverReads.{as_many_covers}
use Rattle.blif_wholes.proofs.Networks.{Gives, blank, gates_over, picked, stands}
use Rattle.blif_wholes.proofs.Orders.{names_apart, picked_once}

-- where a number stands
place_in : (xs : List ℕ) (c : ℕ) → is_in xs c ≡ true → (p : ℕ) × (slice_get xs p ≡ Some c)
place_in [] c h = absurd (false≢true h)
place_in (x ∷ xs) c h = by_cases (x == c) refl h (λ k. place_in xs c k)
  where
    by_cases : (b : Bool) → (x == c) ≡ b → (b || is_in xs c) ≡ true → (is_in xs c ≡ true → (p : ℕ) × (slice_get xs p ≡ Some c)) → (p : ℕ) × (slice_get (x ∷ xs) p ≡ Some c)
    by_cases true e k more = (0, ap Some (same_number x c e))
    by_cases false e k more = let m = more k in (suc m.0, m.1)

get_back : (front back : List Word) (i : ℕ) → slice_get (front ++ back) (length front + i) ≡ slice_get back i
get_back [] back i = ap (slice_get back) (zero_first i)
  where
    zero_first : (n : ℕ) → 0 + n ≡ n
    zero_first n = omega arith
get_back (x ∷ front) back i = ap (slice_get (x ∷ front ++ back)) (suc_first (length front) i) ∙ get_back front back i
  where
    suc_first : (a b : ℕ) → suc a + b ≡ suc (a + b)
    suc_first a b = omega arith

names_got : (covers : List Cover) (order : List ℕ) (p c : ℕ) → slice_get order p ≡ Some c → slice_get (defined_in (picked covers order)) p ≡ Some (get_or covers c blank).name
names_got covers [] p c h = cc
names_got covers (x ∷ order) zero c h = let same : x ≡ c = cc in ap (λ k. Some (get_or covers k blank).name) same
names_got covers (x ∷ order) (suc p) c h = names_got covers order p c h

-- the signal of a name that is one of a signal
name_signal : (circuit : Circuit) (order placed : List ℕ) (z : Word) (r : Role) → ((c : ℕ) → c < length circuit.covers → is_in order c ≡ true)
    → ((p c : ℕ) → slice_get order p ≡ Some c → slice_get placed c ≡ Some (length circuit.inputs + p))
    → IsRoleOfWord circuit.inputs (defined_in circuit.covers) z r → is_signal circuit z ≡ true → slice_get (circuit.inputs ++ defined_in (picked circuit.covers order)) (signal_in placed r) ≡ Some z
name_signal circuit order placed z roles.Unknown all at h k = absurd (false≢true (sym h ∙ k))
name_signal circuit order placed z (roles.Input i) all at h k = get_front circuit.inputs (defined_in (picked circuit.covers order)) i z h
name_signal circuit order placed z (roles.Cover c) all at h k =
    let found = covered circuit.covers c z h in
    let p = place_in order c (all c (slice_get_within circuit.covers c found.0 found.1)) in
    let same : Some (get_or circuit.covers c blank) ≡ Some found.0 = sym (slice_get-get_or circuit.covers c blank (slice_get_within circuit.covers c found.0 found.1)) ∙ found.1 in
    let one : get_or circuit.covers c blank ≡ found.0 = cc in
    ap (slice_get (circuit.inputs ++ defined_in (picked circuit.covers order))) (get_or_from_slice_get placed c (length circuit.inputs + p.0) 0 (at p.0 c p.1))
    ∙ get_back circuit.inputs (defined_in (picked circuit.covers order)) p.0 ∙ names_got circuit.covers order p.0 c p.1 ∙ ap Some (ap (λ (t : Cover). t.name) one ∙ found.2)

-- the numbers are signals of names that are signals'
abbrev pub GiveSignals : (Word → Bool) → List Word → List Word → List ℕ → Type 0
GiveSignals known signals words numbers = (n : ℕ) (z : Word) → slice_get words n ≡ Some z → known z ≡ true → slice_get signals (slice_index numbers n) ≡ Some z

name_signals : (circuit : Circuit) (order placed : List ℕ) (all : List WholeName) → ((c : ℕ) → c < length circuit.covers → is_in order c ≡ true)
    → ((p c : ℕ) → slice_get order p ≡ Some c → slice_get placed c ≡ Some (length circuit.inputs + p))
    → AreRolesBy circuit.inputs (defined_in circuit.covers) all
    → GiveSignals (is_signal circuit) (circuit.inputs ++ defined_in (picked circuit.covers order)) (words_in all) (map (signal_in placed) (map (λ (name : WholeName). name.role) all))
name_signals circuit order placed [] every at h n z e k = cc
name_signals circuit order placed (name ∷ all) every at h zero z e k =
    let same : name.word ≡ z = cc in
    name_signal circuit order placed z name.role every at (subst (λ (t : Word). IsRoleOfWord circuit.inputs (defined_in circuit.covers) t name.role) same h.0) k
name_signals circuit order placed (name ∷ all) every at h (suc n) z e k = name_signals circuit order placed all every at h.1 n z e k

-- the signals of words by the numbers of their names
pub through : (known : Word → Bool) (signals words : List Word) (numbers : List ℕ) (ws : List Word) (ns : List ℕ) → GiveSignals known signals words numbers → list_all known ws ≡ true → AreNumbers words ws ns
    → AreNumbers signals ws (map (slice_index numbers) ns)
through known signals words numbers [] [] h all k = refl
through known signals words numbers [] (n ∷ ns) h all k = cc
through known signals words numbers (w ∷ ws) [] h all k = cc
through known signals words numbers (w ∷ ws) (n ∷ ns) h all k =
    let here : slice_get words n ≡ Some w = cc in
    let rest : map (slice_get words) ns ≡ map Some ws = cc in
    let both = and_parts (known w) (list_all known ws) all in
    ap (λ t. t ∷ map (slice_get signals) (map (slice_index numbers) ns)) (h n w here both.0) ∙ ap (λ t. Some w ∷ t) (through known signals words numbers ws ns h both.1 rest)

-- the gates are the covers'
cover_or : (models : List Model) (words : List Word) (covers : List Cover) (all : List WholeCover) (c : ℕ) → AreCoversBy models words covers all → c < length covers
    → IsCoverBy models words (get_or covers c blank) (get_or all c no_cover)
cover_or models words [] all c h lt = absurd (omega (arith, lt))
cover_or models words (cover ∷ covers) [] c h lt = absurd h
cover_or models words (cover ∷ covers) (one ∷ all) zero h lt = h.0
cover_or models words (cover ∷ covers) (one ∷ all) (suc c) h lt = cover_or models words covers all c h.1 (omega (arith, lt))

module _ (models : List Model) (kept : List (Vec (Option CoverRows))) (rows : KeepRows models kept) (known : Word → Bool) (signals words : List Word) (numbers : List ℕ) (h : GiveSignals known signals words numbers) where
  gates_give : (covers : List Cover) (all : List WholeCover) (order : List ℕ) → AreCoversBy models words covers all → ((c : ℕ) → c < length covers → list_all known (get_or covers c blank).ins ≡ true)
      → ((c : ℕ) → is_in order c ≡ true → c < length covers) → Gives signals (picked covers order) (map (λ c. gate_of kept numbers (get_or all c no_cover)) order)
  gates_give covers all [] k read within = tt
  gates_give covers all (c ∷ order) k read within =
      let here : c < length covers = within c (or_left (c == c) (is_in order c) (own c)) in
      let cover = get_or covers c blank in
      let one = get_or all c no_cover in
      let is = cover_or models words covers all c k here in
      let body = rows one.model one.place in (
        record { ins = through known signals words numbers cover.ins one.cover.ins h (read c here) is.ins; rows = body.rows ∙ ap (map literals_of) (sym is.rows); on = body.on ∙ ap is_on (sym is.rows) },
        gates_give covers all order k read (λ d e. within d (or_right (c == d) (is_in order d) e)),
      )

some_same : (xs ys : List Word) → map Some xs ≡ map Some ys → xs ≡ ys
some_same [] [] h = refl
some_same [] (y ∷ ys) h = cc
some_same (x ∷ xs) [] h = cc
some_same (x ∷ xs) (y ∷ ys) h =
    let head : x ≡ y = cc in
    let rest : map Some xs ≡ map Some ys = cc in
    ap (λ t. t ∷ xs) head ∙ ap (λ t. y ∷ t) (some_same xs ys rest)

output_names : (outputs : List Output) → map (λ (output : Output). Some output.name) outputs ≡ map Some (map (λ (output : Output). output.name) outputs)
output_names [] = refl
output_names (output ∷ outputs) = ap (λ t. Some output.name ∷ t) (output_names outputs)

-- as many numbers as words
pub as_many_numbers : (names words : List Word) (numbers : List ℕ) → AreNumbers names words numbers → length words ≡ length numbers
as_many_numbers names words numbers h = sym (length-map words Some) ∙ ap length (sym h) ∙ length-map numbers (slice_get names)

-- the whole
pub built_net : (models : List Model) (kept : List (Vec (Option CoverRows))) (circuit : Circuit) (draft : WholeDraft) (order : List ℕ) (net : Net) (reads : List (List ℕ)) → IsWholeDraft models circuit draft → IsSound circuit
    → KeepRows models kept → ReadsOf circuit reads
    → Ordered reads [] order → Once order → ((c : ℕ) → c < length reads → is_in order c ≡ true) → ((c : ℕ) → is_in order c ≡ true → c < length reads) → IsBuilt kept draft order net → IsNetOf circuit net
built_net models kept circuit draft order net reads h sound rows r ordered once every within b =
    let every_cover : (c : ℕ) → c < length circuit.covers → is_in order c ≡ true = λ c lt. every c (omega (arith, lt, r.as_many)) in
    let within_covers : (c : ℕ) → is_in order c ≡ true → c < length circuit.covers = λ c e. omega (arith, within c e, r.as_many) in
    let permutation = picked_once circuit.covers order once every_cover within_covers in
    let many = as_many_numbers (words_in draft.names) circuit.inputs draft.inputs.items h.inputs in
    let covers = b.placed.0 in
    let placed : (p c : ℕ) → slice_get order p ≡ Some c → slice_get covers c ≡ Some (length circuit.inputs + p) = λ p c e. b.placed.1 p c e ∙ ap (λ n. Some (n + p)) (sym many) in
    let all = circuit.inputs ++ defined_in (picked circuit.covers order) in
    let words = words_in draft.names in
    let known = is_signal circuit in
    let signals : GiveSignals known all words b.numbers = subst (GiveSignals known all words) (sym b.placed.2) (name_signals circuit order covers draft.names every_cover placed h.roles) in
    let read : (c : ℕ) → c < length circuit.covers → list_all known (get_or circuit.covers c blank).ins ≡ true =
    λ c lt. all_of_cover (λ (one : Cover). list_all known one.ins) circuit.covers c (get_or circuit.covers c blank) sound.reads (slice_get-get_or circuit.covers c blank lt) in
    record {
      inputs = some_same net.inputs circuit.inputs (b.inputs ∙ h.inputs);
      arranged = picked circuit.covers order;
      each_once = permutation;
      gates = gates_over circuit.inputs (picked circuit.covers order) net.gates (names_apart circuit (picked circuit.covers order) (alone circuit sound) permutation)
          (stands circuit reads r [] order circuit.inputs ordered (λ z e. e) (λ d other e place. absurd (false≢true e)) within_covers)
          (subst (λ (t : List Gate). Gives all (picked circuit.covers order) t) (sym b.gates) (gates_give models kept rows known all words b.numbers signals circuit.covers draft.covers.items order h.covers read within_covers));
      names = some_same (map (λ (output : Output). output.name) net.outputs) circuit.outputs (sym (output_names net.outputs) ∙ b.names ∙ h.outputs);
      signals = subst (λ (t : List ℕ). AreNumbers all circuit.outputs t) (sym b.signals) (through known all words b.numbers circuit.outputs draft.outputs.items signals sound.shows h.outputs);
    }

-- a name's cover is one of the circuit's
cover_role : (ins defined : List Word) (all : List WholeName) (n c : ℕ) → AreRolesBy ins defined all → slice_get (map (λ (name : WholeName). name.role) all) n ≡ Some (roles.Cover c) → c < length defined
cover_role ins defined [] n c h e = cc
cover_role ins defined (name ∷ all) zero c h e =
    let same : name.role ≡ roles.Cover c = cc in slice_get_within defined c name.word (subst (λ (r : Role). IsRoleOfWord ins defined name.word r) same h.0)
cover_role ins defined (name ∷ all) (suc n) c h e = cover_role ins defined all n c h.1 e

pub roles_within : (models : List Model) (circuit : Circuit) (draft : WholeDraft) (n c : ℕ) → IsWholeDraft models circuit draft → slice_get (map (λ (name : WholeName). name.role) draft.names) n ≡ Some (roles.Cover c)
    → c < length draft.covers.items
roles_within models circuit draft n c h e =
    omega (
      arith,
      cover_role circuit.inputs (defined_in circuit.covers) draft.names n c h.roles e,
      length-map circuit.covers (λ (cover : Cover). cover.name),
      as_many_covers models (words_in draft.names) circuit.covers draft.covers.items h.covers,
    )
