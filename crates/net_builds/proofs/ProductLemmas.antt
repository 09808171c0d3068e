-- The products of a cover's literals, and their sum.
use Rattle.std.proofs.Common.{◌≡◌, ℕ, zero, suc, ◌+◌, ◌<◌, Bool, true, false, cond, ◌&&◌, ◌||◌, not, List, [], ◌∷◌, length, get_or, drop, take, Option, Some, refl, sym, ap, subst, arith}
use Rattle.std.specs.Prelude.{slice_get}
use Rattle.std.proofs.lemmas.List.Folds.{list_any_more}
use Rattle.cover_nets.specs.declared.net.Cover.{Cover as Gate}
use Rattle.cover_nets.specs.declared.net.Cube.{Cube}
use Rattle.cover_nets.specs.declared.net.Literal.{Literal}
use Rattle.cover_nets.specs.Networks.{cover_value, fits, matches}
use Rattle.function_laws.specs.declared.history.Name.{Name}
use Rattle.function_laws.specs.Values.{disjunction, negation}
use Rattle.net_builds.specs.declared.factors.Factor.{Factor}
use Rattle.net_builds.specs.Factors.{GivesForIf, GivesIf, HoldsIf}
use Rattle.net_builds.specs.Products.{match_any, match_at, with_fit}
use Rattle.net_builds.specs.Signals.{HaveValues}
use Rattle.net_builds.specs.Standings.{Holds, Makes, Standing}
use Rattle.net_builds.proofs.FactorLemmas.{given_holds, given_kept, given_same, given_then, given_values}
use Rattle.net_builds.proofs.StandingLemmas.{makes_same}
use Rattle.net_builds.proofs.RowLemmas.{row_holds}

-- past the end of the literals or of the signals nothing is asked
matches_none : (v : ℕ → Bool) (literals : List Literal) → matches v literals [] ≡ true
matches_none v [] = refl
matches_none v (literal ∷ literals) = refl

pub matches_end : (v : ℕ → Bool) (at : ℕ) (literals : List Literal) (ins : List ℕ) → (at < length literals → at < length ins → ⊥) → matches v (drop at literals) (drop at ins) ≡ true
matches_end v zero [] ins h = refl
matches_end v zero (literal ∷ literals) [] h = refl
matches_end v zero (literal ∷ literals) (signal ∷ ins) h = absurd (h (omega arith) (omega arith))
matches_end v (suc at) [] ins h = refl
matches_end v (suc at) (literal ∷ literals) [] h = matches_none v (drop at literals)
matches_end v (suc at) (literal ∷ literals) (signal ∷ ins) h = matches_end v at literals ins (λ a b. h (omega (arith, a)) (omega (arith, b)))

-- one more literal in front
matches_front : (v : ℕ → Bool) (at : ℕ) (literals : List Literal) (ins : List ℕ) (literal : Literal) → slice_get literals at ≡ Some literal → at < length ins
    → matches v (drop at literals) (drop at ins) ≡ (fits literal (v (get_or ins at 0)) && matches v (drop (suc at) literals) (drop (suc at) ins))
matches_front v zero [] ins literal is below = cc
matches_front v zero (first ∷ literals) [] literal is below = absurd (omega (arith, below))
matches_front v zero (first ∷ literals) (signal ∷ ins) literal is below =
    let e : first ≡ literal = cc in
    ap (λ x. fits x (v signal) && matches v literals ins) e
matches_front v (suc at) [] ins literal is below = cc
matches_front v (suc at) (first ∷ literals) [] literal is below = absurd (omega (arith, below))
matches_front v (suc at) (first ∷ literals) (signal ∷ ins) literal is below = matches_front v at literals ins literal is (omega (arith, below))

-- the product with that literal
pub product_step : (start now new : Standing) (rows : List (Option Name)) (ins : List ℕ) (literals : List Literal) (values : ℕ → ℕ → Bool) (at before : ℕ) (product next : Option Factor) (row : Name) (literal : Literal)
    → suc before ≡ at → slice_get literals before ≡ Some literal → before < length ins → slice_get rows (get_or ins before 0) ≡ Some (Some row)
    → ((f p : ℕ → Bool) → Holds now row f → HoldsIf true now product p → GivesForIf true now new product next (with_fit literal f p))
    → HaveValues start rows values ins → GivesIf true start now product (match_at values (drop at ins) (drop at literals))
    → GivesIf true start new next (match_at values (drop before ins) (drop before literals))
product_step start now new rows ins literals values at before product next row literal below_is is below has step have gives =
    let f = values (get_or ins before 0) in
    let p = match_at values (drop at ins) (drop at literals) in
    let replaces = step f p (given_kept true start now product row p f gives (row_holds start rows ins values before row have below has)) (given_holds true start now product p gives) in
    given_same true start new next (with_fit literal f p) (match_at values (drop before ins) (drop before literals)) (given_then true start now new product next p (with_fit literal f p) gives replaces)
    (λ k. subst (λ n. (fits literal (f k) && matches (λ s. values s k) (drop n literals) (drop n ins)) ≡ matches (λ s. values s k) (drop before literals) (drop before ins)) below_is
    (sym (matches_front (λ s. values s k) before literals ins literal is below)))

-- the sum with one product more
pub sum_step : (start now new : Standing) (rows : List (Option Name)) (ins : List ℕ) (cubes : List Cube) (values : ℕ → ℕ → Bool) (i : ℕ) (sum : Option Factor) (next : Factor) (cube : Cube)
    → i < length cubes → get_or cubes i cube ≡ cube
    → ((v : ℕ → ℕ → Bool) (f : ℕ → Bool) → HaveValues now rows v ins → HoldsIf false now sum f → GivesForIf false now new sum (Some next) (disjunction f (match_at v ins cube.literals)))
    → HaveValues start rows values ins → GivesIf false start now sum (match_any values ins (take i cubes))
    → GivesIf false start new (Some next) (match_any values ins (take (i + 1) cubes))
sum_step start now new rows ins cubes values i sum next cube below is step have gives =
    let f = match_any values ins (take i cubes) in
    let p = match_at values ins cube.literals in
    let replaces = step values f (given_values false start now sum f rows ins values gives have) (given_holds false start now sum f gives) in
    given_same false start new (Some next) (disjunction f p) (match_any values ins (take (i + 1) cubes)) (given_then false start now new sum (Some next) f (disjunction f p) gives replaces)
    (λ k. subst (λ (c : Cube). (f k || matches (λ s. values s k) c.literals ins) ≡ match_any values ins (take (i + 1) cubes) k) is
    (sym (list_any_more (λ (c : Cube). matches (λ s. values s k) c.literals ins) cubes i cube below)))

-- the rows and the signals of a cover, as they were passed on
pub cover_sum : (old new : Standing) (rows : List (Option Name)) (name : Name) (gate : Gate) (cubes : List Cube) (ins : List ℕ) → cubes ≡ gate.rows → ins ≡ gate.ins
    → ((values : ℕ → ℕ → Bool) → HaveValues old rows values ins → Makes old new name (match_any values ins cubes))
    → (values : ℕ → ℕ → Bool) → HaveValues old rows values gate.ins → Makes old new name (match_any values gate.ins gate.rows)
cover_sum old new rows name gate cubes ins same_rows same_ins made =
    subst (λ (signals : List ℕ). (values : ℕ → ℕ → Bool) → HaveValues old rows values signals → Makes old new name (match_any values signals gate.rows)) same_ins
    (subst (λ (all : List Cube). (values : ℕ → ℕ → Bool) → HaveValues old rows values ins → Makes old new name (match_any values ins all)) same_rows made)

-- a cover that is 1, or 0, where a row matches
on_value : (b on : Bool) → on ≡ true → b ≡ cond b on (not on)
on_value true on is = sym is
on_value false on is = ap not (sym is)

off_value : (b on : Bool) → on ≡ false → not b ≡ cond b on (not on)
off_value true on is = sym is
off_value false on is = ap not (sym is)

pub cover_on : (old new : Standing) (name : Name) (gate : Gate) (values : ℕ → ℕ → Bool) → gate.on ≡ true
    → Makes old new name (match_any values gate.ins gate.rows) → Makes old new name (λ k. cover_value gate (λ signal. values signal k))
cover_on old new name gate values on makes =
    makes_same old new name (match_any values gate.ins gate.rows) (λ k. cover_value gate (λ signal. values signal k)) makes
    (λ k. on_value (match_any values gate.ins gate.rows k) gate.on on)

pub cover_off : (old new : Standing) (name : Name) (gate : Gate) (values : ℕ → ℕ → Bool) → gate.on ≡ false
    → Makes old new name (negation (match_any values gate.ins gate.rows)) → Makes old new name (λ k. cover_value gate (λ signal. values signal k))
cover_off old new name gate values off makes =
    makes_same old new name (negation (match_any values gate.ins gate.rows)) (λ k. cover_value gate (λ signal. values signal k)) makes
    (λ k. off_value (match_any values gate.ins gate.rows k) gate.on off)
