-- Covers that are not led back to inputs lie on cycles or depend on such.
use Rattle.std.proofs.Common.{◌≡◌, ℕ, zero, suc, ◌==◌, ◌<◌, ◌&&◌, ◌||◌, Bool, true, false, List, [], ◌∷◌, ◌++◌, length, Some, inl, inr, refl, ap, sym, ◌∙◌, subst, arith}
use Rattle.std.specs.Prelude.{◌⊎◌, slice_get}
use Rattle.std.specs.List.{list_all, list_any}
use Rattle.std.specs.Str.{bytes_eq}
use Rattle.std.proofs.lemmas.Bool.{false≢true, or_parts}
use Rattle.std.proofs.lemmas.Bool.Decides.{nat_tests}
use Rattle.std.proofs.lemmas.List.Folds.{list_any-append}
use Rattle.std.proofs.lemmas.Option.{slice_get_within}
use Rattle.std.proofs.lemmas.Slice.Eq.{bytes_eq-Decides}
use Rattle.job_words.specs.Text.{is_among}
use Rattle.blif_text.specs.Text.{Word}
use Rattle.blif_models.specs.Circuits.{Circuit, Cover, defined_in, is_settled, is_signal, settles}
use Rattle.blif_net.specs.Cycles.{CyclesAreFound, IsCyclic, Leads, LiesOnCycle, ReadsCover}
use Rattle.blif_wholes.proofs.Alone.{Alone, all_of_cover, all_of_word, covered, not_input}
use Rattle.blif_wholes.proofs.Cycles.{by_name, none_here, some_word}
use Rattle.blif_wholes.proofs.Networks.{place_of}
use Rattle.blif_wholes.proofs.Permutations.{split_at}
use Rattle.blif_wholes.proofs.Words.{not_so, once_parts}
use Rattle.blif_order.specs.Orders.{Once, is_in}
use Rattle.blif_order.proofs.Ends.{order_length}

-- What is cyclic reads what is cyclic
next_of : (covers : List Cover) (one other : Cover) (between : List Cover) → Leads covers one between other → LiesOnCycle covers other → (next : Cover) × ReadsCover covers one next × IsCyclic covers next
next_of covers one other [] l on = (other, l, inl on)
next_of covers one other (next ∷ between) l on = (next, l.0, inr (other, between, l.1, on))

-- from a place on a cycle, the cover behind it lies on that cycle too, or leads to it
next_on : (covers : List Cover) (cover : Cover) → LiesOnCycle covers cover → (next : Cover) × ReadsCover covers cover next × IsCyclic covers next
next_on covers cover (between, l) = next_of covers cover cover between l (between, l)

next_cyclic : (covers : List Cover) (cover : Cover) → IsCyclic covers cover → (next : Cover) × ReadsCover covers cover next × IsCyclic covers next
next_cyclic covers cover (inl on) = next_on covers cover on
next_cyclic covers cover (inr (other, between, l, on)) = next_of covers cover other between l on

-- and is not led back, through however many
never_settled : (circuit : Circuit) → Alone circuit.inputs (defined_in circuit.covers) → (limit : ℕ) (cover : Cover) → IsCyclic circuit.covers cover → list_all (settles circuit limit) cover.ins ≡ false
unfolding settles
never_settled circuit a zero cover c =
    let n = next_cyclic circuit.covers cover c in
    some_word (settles circuit zero) cover.ins (n.0).name (n.1).0 (not_input circuit ((n.1).1).0 n.0 a ((n.1).1).1)
never_settled circuit a (suc limit) cover c =
    let n = next_cyclic circuit.covers cover c in
    let at = (n.1).1 in
    let stops = never_settled circuit a limit n.0 n.2 in
    some_word (settles circuit (suc limit)) cover.ins (n.0).name (n.1).0
    (ap (λ b. b || list_any (λ one. bytes_eq (n.0).name one.name && list_all (settles circuit limit) one.ins) circuit.covers) (not_input circuit at.0 n.0 a at.1)
    ∙ none_here (λ one. bytes_eq (n.0).name one.name && list_all (settles circuit limit) one.ins) circuit.covers (λ e one place. by_name circuit at.0 e n.0 one limit a at.1 place stops (bytes_eq (n.0).name one.name) refl))

-- A cover that is not led back reads another
word_of : (p : Word → Bool) (words : List Word) → list_all p words ≡ false → (z : Word) × (is_among words z ≡ true) × (p z ≡ false)
word_of p [] h = absurd (false≢true (sym h))
word_of p (w ∷ words) h = by_cases (p w) refl h (λ k. word_of p words k)
  where
    later : (a b : Bool) → b ≡ true → (a || b) ≡ true
    later true b e = refl
    later false b e = e

    by_cases : (b : Bool) → p w ≡ b → (b && list_all p words) ≡ false → (list_all p words ≡ false → (z : Word) × (is_among words z ≡ true) × (p z ≡ false)) → (z : Word) × (is_among (w ∷ words) z ≡ true) × (p z ≡ false)
    by_cases false e k more = (w, ap (λ b. b || is_among words w) ((bytes_eq-Decides w w).1 refl), e)
    by_cases true e k more = let m = more k in (m.0, later (bytes_eq m.0 w) (is_among words m.0) m.1, m.2)

-- each input of each cover is a signal
abbrev AllSignals : Circuit → Type 0
AllSignals circuit = (i : ℕ) (cover : Cover) → slice_get circuit.covers i ≡ Some cover → list_all (is_signal circuit) cover.ins ≡ true

-- the cover whose output is a word that is a signal and no input
cover_of : (circuit : Circuit) (z : Word) → is_signal circuit z ≡ true → is_among circuit.inputs z ≡ false → (j : ℕ) × (other : Cover) × (slice_get circuit.covers j ≡ Some other) × (other.name ≡ z)
cover_of circuit z s n =
    let at = place_of (defined_in circuit.covers) z (sym (ap (λ b. b || is_among (defined_in circuit.covers) z) n) ∙ sym (list_any-append (bytes_eq z) circuit.inputs (defined_in circuit.covers)) ∙ s) in
    let found = covered circuit.covers at.0 z at.1 in
    (at.0, found.0, found.1, found.2)

-- the one of these places reads the other
abbrev Links : List Cover → ℕ → ℕ → Type 0
Links covers i j = (one other : Cover) × (slice_get covers i ≡ Some one) × (slice_get covers j ≡ Some other) × (is_among one.ins other.name ≡ true)

abbrev Chained : List Cover → ℕ → List ℕ → Type 0
Chained covers i [] = (one : Cover) × (slice_get covers i ≡ Some one)
Chained covers i (j ∷ path) = Links covers i j × Chained covers j path

none_passes : (p : Cover → Bool) (covers : List Cover) (j : ℕ) (cover : Cover) → list_any p covers ≡ false → slice_get covers j ≡ Some cover → p cover ≡ false
none_passes p [] j cover h e = cc
none_passes p (x ∷ covers) zero cover h e = let same : x ≡ cover = cc in ap p (sym same) ∙ (or_parts (p x) (list_any p covers) h).0
none_passes p (x ∷ covers) (suc j) cover h e = none_passes p covers j cover (or_parts (p x) (list_any p covers) h).1 e

one_longer : (path : List ℕ) (n : ℕ) → length path ≡ n → suc (length path) ≡ suc n
one_longer path n h = ap suc h

-- a path of as many covers as one wants
path_from : (circuit : Circuit) → AllSignals circuit → (limit i : ℕ) (cover : Cover) → slice_get circuit.covers i ≡ Some cover → list_all (settles circuit limit) cover.ins ≡ false
    → (path : List ℕ) × (length path ≡ suc limit) × Chained circuit.covers i path
unfolding settles
path_from circuit s zero i cover at h =
    let w = word_of (settles circuit zero) cover.ins h in
    let next = cover_of circuit w.0 (all_of_word (is_signal circuit) cover.ins w.0 (s i cover at) w.1) w.2 in
    (next.0 ∷ [], refl, ((cover, next.1, at, next.2, ap (is_among cover.ins) next.3 ∙ w.1), (next.1, next.2)))
path_from circuit s (suc limit) i cover at h =
    let w = word_of (settles circuit (suc limit)) cover.ins h in
    let both = or_parts (is_among circuit.inputs w.0) (list_any (λ one. bytes_eq w.0 one.name && list_all (settles circuit limit) one.ins) circuit.covers) w.2 in
    let next = cover_of circuit w.0 (all_of_word (is_signal circuit) cover.ins w.0 (s i cover at) w.1) both.0 in
    let stops = none_passes (λ one. bytes_eq w.0 one.name && list_all (settles circuit limit) one.ins) circuit.covers next.0 next.1 both.1 next.2 in
    let rest = path_from circuit s limit next.0 next.1 next.2
    (sym (ap (λ b. b && list_all (settles circuit limit) (next.1).ins) ((bytes_eq-Decides w.0 (next.1).name).1 (sym next.3))) ∙ stops) in
    (next.0 ∷ rest.0, one_longer rest.0 (suc limit) rest.1, ((cover, next.1, at, next.2, ap (is_among cover.ins) next.3 ∙ w.1), rest.2))

-- a number that stands twice
repeats : (xs : List ℕ) → Once xs ⊎ ((front mid back : List ℕ) × (c : ℕ) × (xs ≡ front ++ c ∷ (mid ++ c ∷ back)))
repeats [] = inl tt
repeats (x ∷ xs) = by_cases (is_in xs x) refl (repeats xs)
  where
    by_cases : (b : Bool) → is_in xs x ≡ b → Once xs ⊎ ((front mid back : List ℕ) × (c : ℕ) × (xs ≡ front ++ c ∷ (mid ++ c ∷ back)))
        → Once (x ∷ xs) ⊎ ((front mid back : List ℕ) × (c : ℕ) × (x ∷ xs ≡ front ++ c ∷ (mid ++ c ∷ back)))
    by_cases true e rest = let at = split_at x xs e in inr ([], at.0, at.1, x, ap (λ t. x ∷ t) at.2)
    by_cases false e (inl o) = inl (e, o)
    by_cases false e (inr (front, mid, back, c, f)) = inr (x ∷ front, mid, back, c, ap (λ t. x ∷ t) f)

in_chain : (covers : List Cover) (i : ℕ) (path : List ℕ) → Chained covers i path → (c : ℕ) → is_in (i ∷ path) c ≡ true → c < length covers
in_chain covers i [] (one, at) c h = by_cases (i == c) refl h
  where
    same : (i == c) ≡ true → i ≡ c
    same e = grind (arith, nat_tests)

    by_cases : (b : Bool) → (i == c) ≡ b → (b || false) ≡ true → c < length covers
    by_cases true e k = subst (λ (n : ℕ). n < length covers) (same e) (slice_get_within covers i one at)
    by_cases false e k = absurd (false≢true k)
in_chain covers i (j ∷ path) (link, rest) c h = by_cases (i == c) refl h (λ k. in_chain covers j path rest c k)
  where
    same : (i == c) ≡ true → i ≡ c
    same e = grind (arith, nat_tests)

    by_cases : (b : Bool) → (i == c) ≡ b → (b || is_in (j ∷ path) c) ≡ true → (is_in (j ∷ path) c ≡ true → c < length covers) → c < length covers
    by_cases true e k more = subst (λ (n : ℕ). n < length covers) (same e) (slice_get_within covers i link.0 link.2)
    by_cases false e k more = more k

-- a part of a chain leads from its first cover to the one behind it
leads : (covers : List Cover) (i : ℕ) (mid : List ℕ) (d : ℕ) (back : List ℕ) (one other : Cover) → Chained covers i (mid ++ d ∷ back) → slice_get covers i ≡ Some one → slice_get covers d ≡ Some other → (between : List Cover) × Leads covers one between other
leads covers i [] d back one other ((x, y, at, place, read), rest) e f =
    let first : x ≡ one = cc in
    let last : y ≡ other = cc in
    ([], (subst (λ (t : Cover). is_among t.ins other.name ≡ true) first (subst (λ (t : Cover). is_among x.ins t.name ≡ true) last read), (d, f)))
leads covers i (m ∷ mid) d back one other ((x, y, at, place, read), rest) e f =
    let first : x ≡ one = cc in
    let more = leads covers m mid d back y other rest place f in
    (y ∷ more.0, ((subst (λ (t : Cover). is_among t.ins y.name ≡ true) first read, (m, place)), more.1))

-- the rest of a chain
tail : (covers : List Cover) (i : ℕ) (front : List ℕ) (c : ℕ) (rest : List ℕ) → Chained covers i (front ++ c ∷ rest) → Chained covers c rest
tail covers i [] c rest (link, h) = h
tail covers i (f ∷ front) c rest (link, h) = tail covers f front c rest h

start : (covers : List Cover) (i : ℕ) (path : List ℕ) → Chained covers i path → (one : Cover) × (slice_get covers i ≡ Some one)
start covers i [] h = h
start covers i (j ∷ path) ((x, y, at, place, read), rest) = (x, at)

cycle_in : (covers : List Cover) (i : ℕ) (path : List ℕ) (cover : Cover) → slice_get covers i ≡ Some cover → Chained covers i path → (front mid back : List ℕ) (c : ℕ) → i ∷ path ≡ front ++ c ∷ (mid ++ c ∷ back) → IsCyclic covers cover
cycle_in covers i path cover at h [] mid back c e =
    let first : i ≡ c = cc in
    let rest : path ≡ mid ++ c ∷ back = cc in
    let chain : Chained covers i (mid ++ i ∷ back) = subst (λ (t : List ℕ). Chained covers i t) (rest ∙ ap (λ k. mid ++ k ∷ back) (sym first)) h in
    inl (leads covers i mid i back cover cover chain at at)
cycle_in covers i path cover at h (f ∷ front) mid back c e =
    let rest : path ≡ front ++ c ∷ (mid ++ c ∷ back) = cc in
    let chain : Chained covers i (front ++ c ∷ (mid ++ c ∷ back)) = subst (λ (t : List ℕ). Chained covers i t) rest h in
    let later = tail covers i front c (mid ++ c ∷ back) chain in
    let other = start covers c (mid ++ c ∷ back) later in
    let to = leads covers i front c (mid ++ c ∷ back) cover other.0 chain at other.1 in
    let round = leads covers c mid c back other.0 other.0 later other.1 other.1 in
    inr (other.0, to.0, to.1, round)

cyclic_is : (circuit : Circuit) → AllSignals circuit → (i : ℕ) (cover : Cover) → slice_get circuit.covers i ≡ Some cover → is_settled circuit cover ≡ false → IsCyclic circuit.covers cover
cyclic_is circuit s i cover at h =
    let path = path_from circuit s (length circuit.covers) i cover at h in
    by_kind path.0 path.1 path.2 (repeats (i ∷ path.0))
  where
    by_kind : (path : List ℕ) → length path ≡ suc (length circuit.covers) → Chained circuit.covers i path → Once (i ∷ path) ⊎ ((front mid back : List ℕ) × (c : ℕ) × (i ∷ path ≡ front ++ c ∷ (mid ++ c ∷ back))) → IsCyclic circuit.covers cover
    by_kind path long chain (inl once) = absurd (omega (arith, order_length (i ∷ path) (length circuit.covers) once (in_chain circuit.covers i path chain), long))
    by_kind path long chain (inr (front, mid, back, c, e)) = cycle_in circuit.covers i path cover at chain front mid back c e

pub cycles_found : CyclesAreFound
cycles_found = record {
  cyclic = λ circuit cover sound at h.
      let signals : AllSignals circuit = λ i one place. all_of_cover (λ (other : Cover). list_all (is_signal circuit) other.ins) circuit.covers i one sound.reads place in
      cyclic_is circuit signals at.0 cover at.1 h;
  unsettled = λ circuit cover once at c.
      let parts = once_parts circuit.inputs (defined_in circuit.covers) once in
      let alone : Alone circuit.inputs (defined_in circuit.covers) = record { inputs = parts.0; covers = parts.1; apart = λ z e. not_so (is_among (defined_in circuit.covers) z) (λ f. parts.2 z e f) } in
      never_settled circuit alone (length circuit.covers) cover c;
}
