-- The network of a circuit from an order of its covers.
use Rattle.std.proofs.Common.{◌≡◌, ℕ, zero, suc, ◌==◌, ◌<◌, ◌&&◌, ◌||◌, Bool, true, false, List, [], ◌∷◌, ◌++◌, length, map, get_or, Some, inl, inr, refl, ap, sym, ◌∙◌, subst, append_assoc}
use Rattle.std.specs.Prelude.{◌⊎◌, slice_get}
use Rattle.std.specs.List.{list_all}
use Rattle.std.specs.Str.{bytes_eq}
use Rattle.std.proofs.lemmas.Bool.{and_parts, false≢true, or_left, or_right}
use Rattle.std.proofs.lemmas.Slice.Eq.{bytes_eq-Decides}
use Rattle.std.proofs.lemmas.List.Folds.{list_any-append}
use Rattle.std.proofs.lemmas.Option.{same_Some, slice_get-get_or}
use Rattle.cover_nets.specs.declared.net.Cover.{Cover as Gate}
use Rattle.job_words.specs.Text.{Word, is_among}
use Rattle.blif_models.specs.Circuits.{Circuit, Cover, defined_in}
use Rattle.blif_order.specs.Orders.{Ordered, is_in, reads_of}
use Rattle.blif_order.proofs.Walks.{in_last, or_cases, own, same_number}
use Rattle.blif_wholes.specs.Arranged.{ReadsOf}
use Rattle.blif_wholes.specs.Defined.{Once as Apart}
use Rattle.blif_wholes.specs.Networks.{AreGates, AreNumbers, IsGateOf}
use Rattle.blif_wholes.proofs.Alone.{get_front, place_once}

-- a cover for a number that is none's
abbrev pub blank : Cover
blank = record { line = 0; ins = []; name = []; rows = [] }

-- the covers in the order of these numbers
abbrev pub picked : List Cover → List ℕ → List Cover
picked covers order = map (λ c. get_or covers c blank) order

-- each cover's inputs are names, and then its own name is one
abbrev pub Stands : List Word → List Cover → Type 0
Stands names [] = Unit {0}
Stands names (cover ∷ covers) = (list_all (is_among names) cover.ins ≡ true) × Stands (names ++ cover.name ∷ []) covers

pub all_words : (p : Word → Bool) (words : List Word) → ((z : Word) → is_among words z ≡ true → p z ≡ true) → list_all p words ≡ true
all_words p [] h = refl
all_words p (word ∷ words) h =
    ap (λ b. b && list_all p words) (h word (or_left (bytes_eq word word) (is_among words word) ((bytes_eq-Decides word word).1 refl)))
    ∙ all_words p words (λ z e. h z (or_right (bytes_eq z word) (is_among words z) e))

pub all_at : (p : ℕ → Bool) (xs : List ℕ) (j d : ℕ) → list_all p xs ≡ true → slice_get xs j ≡ Some d → p d ≡ true
all_at p [] j d h e = cc
all_at p (x ∷ xs) zero d h e = ap p (sym (same_Some x d e)) ∙ (and_parts (p x) (list_all p xs) h).0
all_at p (x ∷ xs) (suc j) d h e = all_at p xs j d (and_parts (p x) (list_all p xs) h).1 e

-- in an order each cover's inputs are names before it
pub stands : (circuit : Circuit) (reads : List (List ℕ)) → ReadsOf circuit reads → (before order : List ℕ) (names : List Word) → Ordered reads before order
    → ((z : Word) → is_among circuit.inputs z ≡ true → is_among names z ≡ true)
    → ((d : ℕ) (other : Cover) → is_in before d ≡ true → slice_get circuit.covers d ≡ Some other → is_among names other.name ≡ true)
    → ((c : ℕ) → is_in order c ≡ true → c < length circuit.covers) → Stands names (picked circuit.covers order)
stands circuit reads r before [] names h inputs named within = tt
stands circuit reads r before (c ∷ order) names h inputs named within =
    let cover = get_or circuit.covers c blank in
    let at : slice_get circuit.covers c ≡ Some cover = slice_get-get_or circuit.covers c blank (within c (or_left (c == c) (is_in order c) (own c))) in (
      all_words (is_among names) cover.ins (λ z e. by_kind z (r.onward c cover z at e)),
      stands circuit reads r (before ++ c ∷ []) order (names ++ cover.name ∷ []) h.1
          (λ z e. more_names names (cover.name ∷ []) z (inputs z e))
          (λ d other e place. by_place d other place (or_cases (is_in before d) (c == d) (sym (in_last before d c) ∙ e)) at)
          (λ d e. within d (or_right (c == d) (is_in order d) e)),
    )
  where
    more_names : (front back : List Word) (z : Word) → is_among front z ≡ true → is_among (front ++ back) z ≡ true
    more_names front back z e = list_any-append (bytes_eq z) front back ∙ or_left (is_among front z) (is_among back z) e

    by_kind : (z : Word) → (is_among circuit.inputs z ≡ true) ⊎ ((d j : ℕ) × (other : Cover) × (slice_get (reads_of reads c) j ≡ Some d) × (slice_get circuit.covers d ≡ Some other) × (z ≡ other.name)) → is_among names z ≡ true
    by_kind z (inl e) = inputs z e
    by_kind z (inr (d, j, other, read, place, name)) = subst (λ (t : Word). is_among names t ≡ true) (sym name) (named d other (all_at (is_in before) (reads_of reads c) j d h.0 read) place)

    by_place : (d : ℕ) (other : Cover) → slice_get circuit.covers d ≡ Some other → (is_in before d ≡ true) ⊎ ((c == d) ≡ true) → slice_get circuit.covers c ≡ Some (get_or circuit.covers c blank)
        → is_among (names ++ (get_or circuit.covers c blank).name ∷ []) other.name ≡ true
    by_place d other place (inl e) at = more_names names ((get_or circuit.covers c blank).name ∷ []) other.name (named d other e place)
    by_place d other place (inr e) at =
        let same : Some (get_or circuit.covers c blank) ≡ Some other = sym at ∙ ap (slice_get circuit.covers) (same_number c d e) ∙ place in
        let one : get_or circuit.covers c blank ≡ other = cc in
        list_any-append (bytes_eq other.name) names ((get_or circuit.covers c blank).name ∷ [])
        ∙ or_right (is_among names other.name) (bytes_eq other.name (get_or circuit.covers c blank).name || false)
        (or_left (bytes_eq other.name (get_or circuit.covers c blank).name) false ((bytes_eq-Decides other.name (get_or circuit.covers c blank).name).1 (ap (λ (t : Cover). t.name) (sym one))))

-- the place of a word among names
pub place_of : (names : List Word) (word : Word) → is_among names word ≡ true → (i : ℕ) × (slice_get names i ≡ Some word)
place_of [] word h = absurd (false≢true h)
place_of (name ∷ names) word h = by_cases (bytes_eq word name) refl (λ more. place_of names word more)
  where
    by_cases : (b : Bool) → bytes_eq word name ≡ b → (is_among names word ≡ true → (i : ℕ) × (slice_get names i ≡ Some word)) → (i : ℕ) × (slice_get (name ∷ names) i ≡ Some word)
    by_cases true e more = (0, ap Some (sym ((bytes_eq-Decides word name).0 e)))
    by_cases false e more = let rest = more (sym (ap (λ b. b || is_among names word) e) ∙ h) in (suc rest.0, rest.1)

-- numbers over all names are numbers over the front that has the words
numbers_in_front : (front back words : List Word) (signals : List ℕ) → Apart (front ++ back) → list_all (is_among front) words ≡ true → AreNumbers (front ++ back) words signals → AreNumbers front words signals
numbers_in_front front back [] [] a h e = refl
numbers_in_front front back [] (s ∷ signals) a h e = cc
numbers_in_front front back (word ∷ words) [] a h e = cc
numbers_in_front front back (word ∷ words) (s ∷ signals) a h e = by_cases (is_among front word) refl h (λ k. numbers_in_front front back words signals a k cc)
  where
    by_cases : (b : Bool) → is_among front word ≡ b → (b && list_all (is_among front) words) ≡ true → (list_all (is_among front) words ≡ true → AreNumbers front words signals) → AreNumbers front (word ∷ words) (s ∷ signals)
    by_cases false f k more = absurd (false≢true k)
    by_cases true f k more =
        let p = place_of front word f in
        let here : slice_get (front ++ back) s ≡ Some word = cc in
        let same : s ≡ p.0 = sym (place_once (front ++ back) s word a here) ∙ place_once (front ++ back) p.0 word a (get_front front back p.0 word p.1) in
        ap (λ o. o ∷ map (slice_get front) signals) (ap (slice_get front) same ∙ p.1) ∙ ap (λ t. Some word ∷ t) (more k)

-- the gates have the covers' inputs by their numbers over all names, and their rows
abbrev pub Gives : List Word → List Cover → List Gate → Type 0
Gives all [] [] = Unit {0}
Gives all (cover ∷ covers) (gate ∷ gates) = IsGateOf all cover gate × Gives all covers gates
Gives all _ _ = ⊥

pub gates_over : (names : List Word) (covers : List Cover) (gates : List Gate) → Apart (names ++ defined_in covers) → Stands names covers → Gives (names ++ defined_in covers) covers gates → AreGates names covers gates
gates_over names [] [] a s g = tt
gates_over names [] (gate ∷ gates) a s g = absurd g
gates_over names (cover ∷ covers) [] a s g = absurd g
gates_over names (cover ∷ covers) (gate ∷ gates) a s g =
    let all : names ++ cover.name ∷ defined_in covers ≡ (names ++ cover.name ∷ []) ++ defined_in covers = sym (append_assoc names (cover.name ∷ []) (defined_in covers)) in (
      record { ins = numbers_in_front names (cover.name ∷ defined_in covers) cover.ins gate.ins a s.0 (g.0).ins; rows = (g.0).rows; on = (g.0).on },
      gates_over (names ++ cover.name ∷ []) covers gates (subst Apart all a) s.1 (subst (λ (t : List Word). Gives t covers gates) all g.1),
    )
