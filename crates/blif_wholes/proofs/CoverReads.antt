-- The covers that covers read, by the roles of names.
use Rattle.std.proofs.Common.{◌≡◌, ℕ, zero, suc, ◌-◌, ◌<◌, ◌^◌, ◌||◌, Bool, true, false, List, [], ◌∷◌, ◌++◌, length, map, get_or, Some, inl, inr, refl, ap, sym, ◌∙◌, subst, arith, append_assoc}
use Rattle.std.specs.Prelude.{◌⊎◌, slice_get}
use Rattle.std.specs.List.{All}
use Rattle.std.specs.Str.{bytes_eq}
use Rattle.std.proofs.lemmas.Bool.{false≢true, or_left, or_right}
use Rattle.std.proofs.lemmas.List.{length-map}
use Rattle.std.proofs.lemmas.Option.{slice_get_within, slice_get-get_or}
use Rattle.std.proofs.lemmas.Slice.Eq.{bytes_eq-Decides}
use Rattle.job_words.specs.Text.{Word, is_among}
use Rattle.blif_models.specs.Circuits.{Circuit, Cover, defined_in}
use Rattle.blif_models.specs.Models.{Model}
use Rattle.blif_order.specs.Orders.{IsSmall, reads_of as reads_at}
use Rattle.blif_wholes.specs.declared.drafting.WholeDraft.{WholeDraft}
use Rattle.blif_wholes.specs.declared.parting.WholeCover.{WholeCover}
use Rattle.blif_wholes.specs.declared.roles.Role.{Role}
use Rattle.blif_wholes.specs.declared.roles.Role.TheVariants as roles
use Rattle.blif_wholes.specs.Arranged.{AreInRange, ReadsOf, cover_in, reads_in, role_or_none}
use Rattle.blif_wholes.specs.Built.{IsSound}
use Rattle.blif_wholes.specs.Drafting.{AreCoversBy, AreRolesBy, IsCoverBy, IsRoleOfWord, IsWholeDraft}
use Rattle.blif_wholes.specs.Names.{WholeName, words_in}
use Rattle.blif_wholes.specs.Networks.{AreNumbers}
use Rattle.blif_wholes.proofs.Alone.{among_got, covered, signal_read}

-- the role of a name by its number
pub role_numbered : (all : List WholeName) (n : ℕ) (r : Role) → slice_get (map (λ (name : WholeName). name.role) all) n ≡ Some r → role_or_none (slice_get all n) ≡ r
role_numbered [] n r h = cc
role_numbered (name ∷ all) zero r h = cc
role_numbered (name ∷ all) (suc n) r h = role_numbered all n r h

pub reads_append : (all : List WholeName) (xs ys : List ℕ) → reads_in all (xs ++ ys) ≡ reads_in all xs ++ reads_in all ys
reads_append all [] ys = refl
reads_append all (x ∷ xs) ys = ap (λ t. cover_in (role_or_none (slice_get all x)) ++ t) (reads_append all xs ys) ∙ sym (append_assoc (cover_in (role_or_none (slice_get all x))) (reads_in all xs) (reads_in all ys))

pub no_cover : (r : Role) → ((c : ℕ) → r ≡ roles.Cover c → ⊥) → cover_in r ≡ []
no_cover roles.Unknown h = refl
no_cover (roles.Input i) h = refl
no_cover (roles.Cover c) h = absurd (h c refl)

-- one more number
pub reads_last : (all : List WholeName) (xs reads reads' : List ℕ) (n : ℕ) (r : Role) → reads ≡ reads_in all xs → slice_get (map (λ (name : WholeName). name.role) all) n ≡ Some r → reads' ≡ reads ++ cover_in r
    → reads' ≡ reads_in all (xs ++ n ∷ [])
reads_last all xs reads reads' n r e h f =
    f ∙ ap (λ t. t ++ cover_in r) e ∙ ap (λ t. reads_in all xs ++ t) (sym (ap cover_in (role_numbered all n r h)) ∙ one (cover_in (role_or_none (slice_get all n)))) ∙ sym (reads_append all xs (n ∷ []))
  where
    one : (ys : List ℕ) → ys ≡ ys ++ []
    one [] = refl
    one (y ∷ ys) = ap (λ t. y ∷ t) (one ys)

-- a number of a word is that of a name
role_at_number : (ins defined : List Word) (all : List WholeName) (n : ℕ) (z : Word) → AreRolesBy ins defined all → slice_get (words_in all) n ≡ Some z → IsRoleOfWord ins defined z (role_or_none (slice_get all n))
role_at_number ins defined [] n z h e = cc
role_at_number ins defined (name ∷ all) zero z h e =
    let same : name.word ≡ z = cc in subst (λ (t : Word). IsRoleOfWord ins defined t name.role) same h.0
role_at_number ins defined (name ∷ all) (suc n) z h e = role_at_number ins defined all n z h.1 e

-- what a cover reads, from its inputs and back
abbrev Goes : List Word → List Word → List ℕ → Word → Type 0
Goes ins defined reads z = (is_among ins z ≡ true) ⊎ ((d j : ℕ) × (slice_get reads j ≡ Some d) × (slice_get defined d ≡ Some z))

goes_first : (ins defined : List Word) (z : Word) (r : Role) (rest : List ℕ) → IsRoleOfWord ins defined z r → is_among (ins ++ defined) z ≡ true → Goes ins defined (cover_in r ++ rest) z
goes_first ins defined z roles.Unknown rest h e = absurd (false≢true (sym h ∙ e))
goes_first ins defined z (roles.Input i) rest h e = inl (among_got ins i z h)
goes_first ins defined z (roles.Cover c) rest h e = inr (c, 0, refl, h)

goes_later : (ins defined : List Word) (z : Word) (r : Role) (rest : List ℕ) → Goes ins defined rest z → Goes ins defined (cover_in r ++ rest) z
goes_later ins defined z roles.Unknown rest g = g
goes_later ins defined z (roles.Input i) rest g = g
goes_later ins defined z (roles.Cover c) rest (inl e) = inl e
goes_later ins defined z (roles.Cover c) rest (inr (d, j, at, named)) = inr (d, suc j, at, named)

onward : (ins defined : List Word) (all : List WholeName) (ws : List Word) (ns : List ℕ) (z : Word) → AreRolesBy ins defined all → is_among (ins ++ defined) z ≡ true → AreNumbers (words_in all) ws ns → is_among ws z ≡ true
    → Goes ins defined (reads_in all ns) z
onward ins defined all [] ns z r k h e = absurd (false≢true e)
onward ins defined all (w ∷ ws) [] z r k h e = cc
onward ins defined all (w ∷ ws) (n ∷ ns) z r k h e =
    let here : slice_get (words_in all) n ≡ Some w = cc in
    let rest : map (slice_get (words_in all)) ns ≡ map Some ws = cc in
    by_cases (bytes_eq z w) refl e here (λ f. goes_later ins defined z (role_or_none (slice_get all n)) (reads_in all ns) (onward ins defined all ws ns z r k rest f))
  where
    by_cases : (b : Bool) → bytes_eq z w ≡ b → (b || is_among ws z) ≡ true → slice_get (words_in all) n ≡ Some w → (is_among ws z ≡ true → Goes ins defined (reads_in all (n ∷ ns)) z) → Goes ins defined (reads_in all (n ∷ ns)) z
    by_cases true f g here more =
        goes_first ins defined z (role_or_none (slice_get all n)) (reads_in all ns) (role_at_number ins defined all n z r (here ∙ ap Some (sym ((bytes_eq-Decides z w).0 f)))) k
    by_cases false f g here more = more g

-- a cover that is read is that of an input
abbrev Comes : List Word → List Word → ℕ → Type 0
Comes defined ws d = (z : Word) × (slice_get defined d ≡ Some z) × (is_among ws z ≡ true)

comes_first : (ins defined : List Word) (w : Word) (ws : List Word) (r : Role) (rest : List ℕ) (j d : ℕ) → IsRoleOfWord ins defined w r → slice_get (cover_in r ++ rest) j ≡ Some d
    → ((i : ℕ) → slice_get rest i ≡ Some d → Comes defined ws d) → Comes defined (w ∷ ws) d
comes_first ins defined w ws roles.Unknown rest j d h e more = let m = more j e in (m.0, m.1, or_right (bytes_eq m.0 w) (is_among ws m.0) m.2)
comes_first ins defined w ws (roles.Input i) rest j d h e more = let m = more j e in (m.0, m.1, or_right (bytes_eq m.0 w) (is_among ws m.0) m.2)
comes_first ins defined w ws (roles.Cover c) rest zero d h e more =
    let same : c ≡ d = cc in
    (w, subst (λ (t : ℕ). slice_get defined t ≡ Some w) same h, or_left (bytes_eq w w) (is_among ws w) ((bytes_eq-Decides w w).1 refl))
comes_first ins defined w ws (roles.Cover c) rest (suc j) d h e more = let m = more j e in (m.0, m.1, or_right (bytes_eq m.0 w) (is_among ws m.0) m.2)

backward : (ins defined : List Word) (all : List WholeName) (ws : List Word) (ns : List ℕ) (j d : ℕ) → AreRolesBy ins defined all → AreNumbers (words_in all) ws ns → slice_get (reads_in all ns) j ≡ Some d → Comes defined ws d
backward ins defined all [] [] j d r h e = cc
backward ins defined all [] (n ∷ ns) j d r h e = cc
backward ins defined all (w ∷ ws) [] j d r h e = cc
backward ins defined all (w ∷ ws) (n ∷ ns) j d r h e =
    let here : slice_get (words_in all) n ≡ Some w = cc in
    let rest : map (slice_get (words_in all)) ns ≡ map Some ws = cc in
    comes_first ins defined w ws (role_or_none (slice_get all n)) (reads_in all ns) j d (role_at_number ins defined all n w r here) e (λ i f. backward ins defined all ws ns i d r rest f)

-- the covers of a circuit by number
pub as_many_covers : (models : List Model) (words : List Word) (covers : List Cover) (all : List WholeCover) → AreCoversBy models words covers all → length covers ≡ length all
as_many_covers models words [] [] h = refl
as_many_covers models words [] (one ∷ all) h = absurd h
as_many_covers models words (cover ∷ covers) [] h = absurd h
as_many_covers models words (cover ∷ covers) (one ∷ all) h = ap suc (as_many_covers models words covers all h.1)

pub cover_by : (models : List Model) (words : List Word) (covers : List Cover) (all : List WholeCover) (c : ℕ) (cover : Cover) → AreCoversBy models words covers all → slice_get covers c ≡ Some cover
    → (one : WholeCover) × (slice_get all c ≡ Some one) × IsCoverBy models words cover one
cover_by models words [] all c cover h e = cc
cover_by models words (x ∷ covers) [] c cover h e = absurd h
cover_by models words (x ∷ covers) (y ∷ all) zero cover h e =
    let same : x ≡ cover = cc in (y, refl, subst (λ (t : Cover). IsCoverBy models words t y) same h.0)
cover_by models words (x ∷ covers) (y ∷ all) (suc c) cover h e = cover_by models words covers all c cover h.1 e

read_map : (names : List WholeName) (all : List WholeCover) (c : ℕ) (one : WholeCover) → slice_get all c ≡ Some one → reads_at (map (λ (other : WholeCover). reads_in names other.cover.ins) all) c ≡ reads_in names one.cover.ins
read_map names [] c one h = cc
read_map names (x ∷ all) zero one h = let same : x ≡ one = cc in ap (λ (t : WholeCover). reads_in names t.cover.ins) same
read_map names (x ∷ all) (suc c) one h = read_map names all c one h

pub reads_are : (models : List Model) (circuit : Circuit) (draft : WholeDraft) (reads : List (List ℕ)) → IsWholeDraft models circuit draft → IsSound circuit
    → reads ≡ map (λ (one : WholeCover). reads_in draft.names one.cover.ins) draft.covers.items → ReadsOf circuit reads
reads_are models circuit draft reads h sound e = record {
  as_many = ap length e ∙ length-map draft.covers.items (λ (one : WholeCover). reads_in draft.names one.cover.ins) ∙ sym (as_many_covers models (words_in draft.names) circuit.covers draft.covers.items h.covers);
  onward = λ c cover z at in_it.
      let found = cover_by models (words_in draft.names) circuit.covers draft.covers.items c cover h.covers at in
      let here : reads_at reads c ≡ reads_in draft.names (found.0).cover.ins = ap (λ t. reads_at t c) e ∙ read_map draft.names draft.covers.items c found.0 found.1 in
      out c z here (onward circuit.inputs (defined_in circuit.covers) draft.names cover.ins (found.0).cover.ins z h.roles (signal_read circuit c cover z sound at in_it) (found.2).ins in_it);
  back = λ c d j cover at read.
      let found = cover_by models (words_in draft.names) circuit.covers draft.covers.items c cover h.covers at in
      let here : reads_at reads c ≡ reads_in draft.names (found.0).cover.ins = ap (λ t. reads_at t c) e ∙ read_map draft.names draft.covers.items c found.0 found.1 in
      let from = backward circuit.inputs (defined_in circuit.covers) draft.names cover.ins (found.0).cover.ins j d h.roles (found.2).ins (ap (λ t. slice_get t j) (sym here) ∙ read) in
      let other = covered circuit.covers d from.0 from.1 in
      (other.0, other.1, ap (is_among cover.ins) other.2 ∙ from.2);
}
  where
    out : (c : ℕ) (z : Word) {one : List ℕ} → reads_at reads c ≡ one → Goes circuit.inputs (defined_in circuit.covers) one z
        → (is_among circuit.inputs z ≡ true) ⊎ ((d j : ℕ) × (other : Cover) × (slice_get (reads_at reads c) j ≡ Some d) × (slice_get circuit.covers d ≡ Some other) × (z ≡ other.name))
    out c z here (inl f) = inl f
    out c z here (inr (d, j, at, named)) =
        let other = covered circuit.covers d z named in
        inr (d, j, other.0, ap (λ t. slice_get t j) here ∙ at, other.1, sym other.2)

-- all numbers are in range
all_below : (words ws : List Word) (ns : List ℕ) → AreNumbers words ws ns → All (λ n. n < length words) ns
all_below words [] [] h = λ k d lt. absurd (omega (arith, lt))
all_below words [] (n ∷ ns) h = cc
all_below words (w ∷ ws) [] h = cc
all_below words (w ∷ ws) (n ∷ ns) h =
    let here : slice_get words n ≡ Some w = cc in
    let rest : map (slice_get words) ns ≡ map Some ws = cc in
    both n ns (slice_get_within words n w here) (all_below words ws ns rest)
  where
    both : (m : ℕ) (ms : List ℕ) → m < length words → All (λ n. n < length words) ms → All (λ n. n < length words) (m ∷ ms)
    both m ms lt more zero d k = lt
    both m ms lt more (suc i) d k = more i d (omega (arith, k))

pub numbers_in_range : (all : List WholeName) (ws : List Word) (ns : List ℕ) → AreNumbers (words_in all) ws ns → All (λ n. n < length all) ns
numbers_in_range all ws ns h = subst (λ (t : ℕ). All (λ n. n < t) ns) (length-map all (λ (name : WholeName). name.word)) (all_below (words_in all) ws ns h)

pub covers_in_range : (models : List Model) (names : List WholeName) (covers : List Cover) (all : List WholeCover) → AreCoversBy models (words_in names) covers all → AreInRange names all
covers_in_range models names [] [] h = λ k d lt. absurd (omega (arith, lt))
covers_in_range models names [] (one ∷ all) h = absurd h
covers_in_range models names (cover ∷ covers) [] h = absurd h
covers_in_range models names (cover ∷ covers) (one ∷ all) h = both (numbers_in_range names cover.ins one.cover.ins (h.0).ins) (covers_in_range models names covers all h.1)
  where
    both : All (λ n. n < length names) one.cover.ins → AreInRange names all → AreInRange names (one ∷ all)
    both first more zero d k = first
    both first more (suc i) d k = more i d (omega (arith, k))

-- what is read is covers
pub reads_small : (circuit : Circuit) (reads : List (List ℕ)) → ReadsOf circuit reads → length reads < 2 ^ 32 → All (λ one. length one < 2 ^ 32 - 1) reads → IsSmall reads
reads_small circuit reads h many few = record {
  below = λ c j d read.
      let at = cover_at_reads c j d read in
      omega (arith, slice_get_within circuit.covers d ((h.back c d j at.0 at.1 read).0) ((h.back c d j at.0 at.1 read).1), h.as_many);
  few = λ c. few_at c;
  many = many;
}
  where
    short : (xs : List (List ℕ)) (c j d : ℕ) → slice_get (reads_at xs c) j ≡ Some d → c < length xs
    short [] c j d e = cc
    short (x ∷ xs) zero j d e = omega arith
    short (x ∷ xs) (suc c) j d e = omega (arith, short xs c j d e)

    cover_at_reads : (c j d : ℕ) → slice_get (reads_at reads c) j ≡ Some d → (cover : Cover) × (slice_get circuit.covers c ≡ Some cover)
    cover_at_reads c j d e =
        let blank : Cover = record { line = 0; ins = []; name = []; rows = [] } in
        (get_or circuit.covers c blank, slice_get-get_or circuit.covers c blank (omega (arith, short reads c j d e, h.as_many)))

    read_or : (xs : List (List ℕ)) → All (λ one. length one < 2 ^ 32 - 1) xs → (c : ℕ) → length (reads_at xs c) < 2 ^ 32 - 1
    read_or [] a c = omega arith
    read_or (x ∷ xs) a zero = a 0 [] (omega arith)
    read_or (x ∷ xs) a (suc c) = read_or xs (λ k e lt. a (suc k) e (omega (arith, lt))) c

    few_at : (c : ℕ) → length (reads_at reads c) < 2 ^ 32 - 1
    few_at c = read_or reads few c
