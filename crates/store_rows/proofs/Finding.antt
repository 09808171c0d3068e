-- A row that comes is found under its name, and all others as before.
use Rattle.std.proofs.Common.{◌≡◌, ◌<◌, Bool, true, false, cond, ◌&&◌, ◌==◌, List, [], ◌∷◌, ◌++◌, Some, None, refl, ap, sym, ◌∙◌, arith, ne_eqb}
use Rattle.std.specs.List.{All}
use Rattle.std.proofs.lemmas.Bool.{eqb-true}
use Rattle.std.proofs.lemmas.List.Elements.{All-head, All-tail}
use Rattle.function_laws.specs.declared.history.Name.{Name}
use Rattle.function_laws.specs.Tables.{same_name}
use Rattle.handle_count.specs.declared.rows.Held.{Held as Live}
use Rattle.handle_count.specs.RowMaps.{IsWithOne, find_row}

both_true : (x y : Bool) → (x && y) ≡ true → (x ≡ true) × (y ≡ true)
both_true true true e = (refl, refl)
both_true true false e = cc
both_true false y e = cc

-- two names with one row and one generation
pub same_name-eq : (a b : Name) → same_name a b ≡ true → a ≡ b
same_name-eq a b is =
    let t = both_true (a.row == b.row) (a.generation == b.generation) is in
    let rows = eqb-true a.row b.row t.0 in
    let generations = eqb-true a.generation b.generation t.1 in λ i. record { row = rows i; generation = generations i }

find-behind : (xs ys : List Live) (name : Name) → find_row xs name ≡ None → find_row (xs ++ ys) name ≡ find_row ys name
find-behind [] ys name none = refl
find-behind (x ∷ xs) ys name none = by (find-behind xs ys name) (same_name name x.name) refl none
  where
    by : (find_row xs name ≡ None → find_row (xs ++ ys) name ≡ find_row ys name) → (b : Bool) → same_name name x.name ≡ b → cond (same_name name x.name) (Some x) (find_row xs name) ≡ None → cond (same_name name x.name) (Some x) (find_row (xs ++ ys) name) ≡ find_row ys name
    by rest true is e = absurd (let z : Some x ≡ None = sym (ap (λ b. cond b (Some x) (find_row xs name)) is) ∙ e in cc)
    by rest false is e = ap (λ b. cond b (Some x) (find_row (xs ++ ys) name)) is ∙ rest (sym (ap (λ b. cond b (Some x) (find_row xs name)) is) ∙ e)

-- one that has another name is not found under this one
find-other : (xs ys : List Live) (one : Live) (name : Name) → same_name name one.name ≡ false → find_row (xs ++ one ∷ ys) name ≡ find_row (xs ++ ys) name
find-other [] ys one name apart = ap (λ b. cond b (Some one) (find_row ys name)) apart
find-other (x ∷ xs) ys one name apart = ap (λ o. cond (same_name name x.name) (Some x) o) (find-other xs ys one name apart)

none-before : (xs ys : List Live) (name : Name) → find_row (xs ++ ys) name ≡ None → find_row xs name ≡ None
none-before [] ys name none = refl
none-before (x ∷ xs) ys name none = by (none-before xs ys name) (same_name name x.name) refl none
  where
    by : (find_row (xs ++ ys) name ≡ None → find_row xs name ≡ None) → (b : Bool) → same_name name x.name ≡ b → cond (same_name name x.name) (Some x) (find_row (xs ++ ys) name) ≡ None → cond (same_name name x.name) (Some x) (find_row xs name) ≡ None
    by rest true is e = absurd (let z : Some x ≡ None = sym (ap (λ b. cond b (Some x) (find_row (xs ++ ys) name)) is) ∙ e in cc)
    by rest false is e = ap (λ b. cond b (Some x) (find_row xs name)) is ∙ rest (sym (ap (λ b. cond b (Some x) (find_row (xs ++ ys) name)) is) ∙ e)

-- a name above all that were given is not found
pub none-given : (lives : List Live) (name : Name) → All (λ (held : Live). held.name.generation < name.generation) lives → find_row lives name ≡ None
none-given [] name all = refl
none-given (x ∷ lives) name all =
    let below : x.name.generation < name.generation = All-head (λ (held : Live). held.name.generation < name.generation) x lives all in
    let apart : same_name name x.name ≡ false = ap (λ b. (name.row == x.name.row) && b) (ne_eqb name.generation x.name.generation (λ e. omega (arith, e, below))) ∙ none_and (name.row == x.name.row) in
    ap (λ b. cond b (Some x) (find_row lives name)) apart ∙ none-given lives name (All-tail (λ (held : Live). held.name.generation < name.generation) x lives all)
  where
    none_and : (b : Bool) → (b && false) ≡ false
    none_and true = refl
    none_and false = refl

module _ (old new : List Live) (one : Live) (is : IsWithOne old one new) (none : find_row old one.name ≡ None) where
  -- with one more, that is found under its name, and all others as before
  pub finds-more : (name : Name) → find_row new name ≡ cond (same_name name one.name) (Some one) (find_row old name)
  finds-more name = ap (λ l. find_row l name) is.with_it ∙ by (same_name name one.name) refl
    where
      by : (b : Bool) → same_name name one.name ≡ b → find_row (is.before ++ one ∷ is.behind) name ≡ cond (same_name name one.name) (Some one) (find_row old name)
      by true same =
          let eq = same_name-eq name one.name same in
          let before : find_row is.before name ≡ None = none-before is.before is.behind name (ap (λ l. find_row l name) (sym is.without) ∙ ap (find_row old) eq ∙ none) in
          find-behind is.before (one ∷ is.behind) name before ∙ ap (λ b. cond b (Some one) (find_row is.behind name)) same ∙ sym (ap (λ b. cond b (Some one) (find_row old name)) same)
      by false other = find-other is.before is.behind one name other ∙ ap (λ l. find_row l name) (sym is.without) ∙ sym (ap (λ b. cond b (Some one) (find_row old name)) other)
