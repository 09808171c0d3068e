-- Entries in the order of their places are the history, if each session's are its entries of it.
use Rattle.std.proofs.Common.{◌≡◌, ◌≢◌, ℕ, ◌+◌, ◌≤◌, ◌==◌, Bool, true, false, cond, List, [], ◌∷◌, refl, ap, sym, subst, ◌∙◌, arith, eq-eqb, ne_eqb}
use mathlib.Core.Logic.{dite}
use native.Mathlib.Decide.{ℕ_discrete}
use Rattle.function_laws.specs.declared.history.Entry.{Entry}
use Rattle.function_laws.specs.Tables.{Table}
use Rattle.function_laws.specs.Histories.{IsLegalFrom, after_entry}
use Rattle.function_laws.specs.SessionEntries.{entries_of}
use Rattle.function_laws.specs.SessionEntries.{Each, IsByPlace}

each_weaker : (P Q : Entry → Type 0) → ((e : Entry) → P e → Q e) → (es : List Entry) → Each P es → Each Q es
each_weaker P Q f [] all = tt
each_weaker P Q f (e ∷ es) all = (f e all.0, each_weaker P Q f es all.1)

-- a history's places are no lower than its first
legal_high : (es : List Entry) (n : ℕ) (t : Table) → IsLegalFrom n t es → Each (λ (f : Entry). n ≤ f.place) es
legal_high [] n t legal = tt
legal_high (e ∷ es) n t legal = (let at = legal.0 in omega (arith, at), each_weaker (λ (f : Entry). n + 1 ≤ f.place) (λ (f : Entry). n ≤ f.place) (λ f le. omega (arith, le)) es (legal_high es (n + 1) (after_entry t e) legal.2))

entries_here : (e : Entry) (es : List Entry) (s : ℕ) → e.session ≡ s → entries_of s (e ∷ es) ≡ e ∷ entries_of s es
entries_here e es s is = ap (λ b. cond b (e ∷ entries_of s es) (entries_of s es)) (eq-eqb e.session s is)

entries_else : (e : Entry) (es : List Entry) (s : ℕ) → e.session ≢ s → entries_of s (e ∷ es) ≡ entries_of s es
entries_else e es s apart = ap (λ b. cond b (e ∷ entries_of s es) (entries_of s es)) (ne_eqb e.session s apart)

-- what holds of each entry holds of a session's first
first_has : (P : Entry → Type 0) (es : List Entry) (s : ℕ) (y : Entry) (ys : List Entry) → Each P es → entries_of s es ≡ y ∷ ys → P y
first_has P [] s y ys all is = absurd (let a : [] ≡ y ∷ ys = is in cc)
first_has P (e ∷ es) s y ys all is = by (e.session == s) (first_has P es s y ys all.1) is
  where
    by : (b : Bool) → (entries_of s es ≡ y ∷ ys → P y) → cond b (e ∷ entries_of s es) (entries_of s es) ≡ y ∷ ys → P y
    by true rest at = subst P (heads e y (entries_of s es) ys at) all.0
      where
        heads : (a b : Entry) (ls ms : List Entry) → a ∷ ls ≡ b ∷ ms → a ≡ b
        heads a b ls ms e = cc
    by false rest at = rest at

no_entries : (es : List Entry) → ((s : ℕ) → entries_of s es ≡ []) → es ≡ []
no_entries [] none = refl
no_entries (e ∷ es) none = absurd (let a : e ∷ entries_of e.session es ≡ [] = sym (entries_here e es e.session refl) ∙ none e.session in cc)

tails : (e : Entry) (xs ys : List Entry) (s : ℕ) → entries_of s (e ∷ xs) ≡ entries_of s (e ∷ ys) → entries_of s xs ≡ entries_of s ys
tails e xs ys s is = by (e.session == s) is
  where
    by : (b : Bool) → cond b (e ∷ entries_of s xs) (entries_of s xs) ≡ cond b (e ∷ entries_of s ys) (entries_of s ys) → entries_of s xs ≡ entries_of s ys
    by true at = cc
    by false at = at

-- Lines in the order of their places, of which each session's are its entries of a legal history, are that history.
pub one_order : (log es : List Entry) (n : ℕ) (t : Table) → IsLegalFrom n t log → IsByPlace es → ((s : ℕ) → entries_of s es ≡ entries_of s log) → es ≡ log
one_order [] es n t legal sorted same = no_entries es same
one_order (e ∷ log) [] n t legal sorted same = absurd (let a : [] ≡ e ∷ entries_of e.session log = same e.session ∙ entries_here e log e.session refl in cc)
one_order (e ∷ log) (x ∷ es) n t legal sorted same = whole first (one_order log es (n + 1) (after_entry t e) legal.2 sorted.1)
  where
    heads : (a b : Entry) (ls ms : List Entry) → a ∷ ls ≡ b ∷ ms → a ≡ b
    heads a b ls ms e = cc

    first : x ≡ e
    first = dite (ℕ_discrete e.session x.session)
        (λ is. heads x e (entries_of x.session es) (entries_of x.session log) (sym (entries_here x es x.session refl) ∙ same x.session ∙ entries_here e log x.session is))
        (λ apart.
        let later : n + 1 ≤ x.place = first_has (λ (f : Entry). n + 1 ≤ f.place) log x.session x (entries_of x.session es) (legal_high log (n + 1) (after_entry t e) legal.2)
        (sym (entries_else e log x.session apart) ∙ sym (same x.session) ∙ entries_here x es x.session refl) in
        let sooner : x.place ≤ e.place = first_has (λ (f : Entry). x.place ≤ f.place) es e.session e (entries_of e.session log) sorted.0
        (sym (entries_else x es e.session (λ is. apart (sym is))) ∙ same e.session ∙ entries_here e log e.session refl) in
        let at : e.place ≡ n = legal.0 in absurd (omega (arith, later, sooner, at)))

    whole : x ≡ e → (((s : ℕ) → entries_of s es ≡ entries_of s log) → es ≡ log) → x ∷ es ≡ e ∷ log
    whole is rest =
        let all : (s : ℕ) → entries_of s es ≡ entries_of s log = λ s. tails e es log s (ap (λ (y : Entry). entries_of s (y ∷ es)) (sym is) ∙ same s) in
        ap (λ (y : Entry). y ∷ es) is ∙ ap (λ l. e ∷ l) (rest all)
