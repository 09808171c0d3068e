-- Histories: the entries of one session, and how many they are.
use Rattle.std.proofs.Common.{◌≡◌, ◌≢◌, ℕ, zero, suc, ◌+◌, ◌*◌, ◌<◌, ◌≤◌, ◌==◌, Bool, true, false, List, [], ◌∷◌, ◌++◌, length, refl, ap, sym, subst, ◌∙◌, arith, eq-eqb, ne_eqb, true≢false}
use Rattle.std.specs.Prelude.{All, cond}
use mathlib.Core.Logic.{dite}
use native.Mathlib.Decide.{ℕ_discrete, dec_lt}
use Rattle.function_laws.specs.declared.history.Entry.{Entry}
use Rattle.function_laws.specs.Tables.{Table}
use Rattle.function_laws.specs.Histories.{IsLegalFrom, after_entry}
use Rattle.function_laws.specs.SessionEntries.{entries_of}

-- f with x at i
abbrev pub put_at : {A : Type 0} → (ℕ → A) → ℕ → A → ℕ → A
put_at f i x j = cond (j == i) x (f j)

pub put_here : {A : Type 0} (f : ℕ → A) (i : ℕ) (x : A) → put_at f i x i ≡ x
put_here f i x = ap (λ b. cond b x (f i)) (eq-eqb i i refl)

pub put_else : {A : Type 0} (f : ℕ → A) (i j : ℕ) (x : A) → j ≢ i → put_at f i x j ≡ f j
put_else f i j x n = ap (λ b. cond b x (f j)) (ne_eqb j i n)

cond_snoc : (b : Bool) (x e : Entry) (l m : List Entry) → l ≡ m ++ e ∷ [] → cond b (x ∷ l) l ≡ cond b (x ∷ m) m ++ e ∷ []
cond_snoc true x e l m is = ap (λ y. x ∷ y) is
cond_snoc false x e l m is = is

pub entries_same : (es : List Entry) (s : ℕ) (e : Entry) → e.session ≡ s → entries_of s (es ++ e ∷ []) ≡ entries_of s es ++ e ∷ []
entries_same [] s e is = ap (λ b. cond b (e ∷ []) []) (eq-eqb e.session s is)
entries_same (x ∷ es) s e is = cond_snoc (x.session == s) x e (entries_of s (es ++ e ∷ [])) (entries_of s es) (entries_same es s e is)

pub entries_other : (es : List Entry) (s : ℕ) (e : Entry) → e.session ≢ s → entries_of s (es ++ e ∷ []) ≡ entries_of s es
entries_other [] s e apart = ap (λ b. cond b (e ∷ []) []) (ne_eqb e.session s apart)
entries_other (x ∷ es) s e apart = ap (λ l. cond (x.session == s) (x ∷ l) l) (entries_other es s e apart)

abbrev Low : ℕ → List Entry → Type 0
Low n es = All (λ (e : Entry). e.place < n) es

low_cons : (n : ℕ) (e : Entry) (es : List Entry) → e.place < n → Low n es → Low n (e ∷ es)
low_cons n e es here all zero d l = here
low_cons n e es here all (suc k) d l = all k d (omega (arith, l))

low_cond : (b : Bool) (n : ℕ) (e : Entry) (es : List Entry) → e.place < n → Low n es → Low n (cond b (e ∷ es) es)
low_cond true n e es here all = low_cons n e es here all
low_cond false n e es here all = all

-- the places of a session's entries are below the number of all
pub places_low : (es : List Entry) (n : ℕ) (t : Table) (s : ℕ) → IsLegalFrom n t es → Low (n + length es) (entries_of s es)
places_low [] n t s legal = λ k d l. absurd (omega (arith, l))
places_low (e ∷ es) n t s legal = let at = legal.0 in let len : n + suc (length es) ≡ n + 1 + length es = omega arith in
    low_cond (e.session == s) (n + suc (length es)) e (entries_of s es) (omega (arith, at)) (subst (λ (k : ℕ). Low k (entries_of s es)) (sym len) (places_low es (n + 1) (after_entry t e) s legal.2))

-- how many entries are of the sessions below k
count_below : ℕ → List Entry → ℕ
count_below zero es = 0
count_below (suc k) es = count_below k es + length (entries_of k es)

count_nil : (k : ℕ) → count_below k [] ≡ 0
unfolding count_below
count_nil zero = refl
count_nil (suc k) = let r = count_nil k in omega (arith, r)

-- one entry more counts once, where its session is below k
count_head : (k : ℕ) (e : Entry) (es : List Entry) → (k ≤ e.session → count_below k (e ∷ es) ≡ count_below k es) × (e.session < k → count_below k (e ∷ es) ≡ suc (count_below k es))
unfolding count_below
count_head zero e es = ((λ _. refl), (λ l. absurd (omega (arith, l))))
count_head (suc k) e es =
    let r = count_head k e es in
    let here : e.session ≡ k → length (entries_of k (e ∷ es)) ≡ suc (length (entries_of k es)) = λ is. ap (λ b. length (cond b (e ∷ entries_of k es) (entries_of k es))) (eq-eqb e.session k is) in
    let off : e.session ≢ k → length (entries_of k (e ∷ es)) ≡ length (entries_of k es) = λ is. ap (λ b. length (cond b (e ∷ entries_of k es) (entries_of k es))) (ne_eqb e.session k is) in (
      (λ le. let a = r.0 (omega (arith, le)) in let b = off (λ is. omega (arith, le, is)) in omega (arith, a, b)),
      (λ lt. dite (ℕ_discrete e.session k)
          (λ is. let a = r.0 (omega (arith, is)) in let b = here is in omega (arith, a, b))
          (λ no-is. let a = r.1 (omega (arith, lt, no-is)) in let b = off no-is in omega (arith, a, b))),
    )

-- where each session has at most m entries, k sessions have at most k * m
count_most : (k m : ℕ) (es : List Entry) → ((p : ℕ) → length (entries_of p es) ≤ m) → count_below k es ≤ k * m
unfolding count_below
count_most zero m es each = omega arith
count_most (suc k) m es each = let a = count_most k m es each in let b = each k in let c : suc k * m ≡ k * m + m = grind arith in omega (arith, a, b, c)

tail_none : (b : Bool) (e : Entry) (l : List Entry) → cond b (e ∷ l) l ≡ [] → (b ≡ false) × (l ≡ [])
tail_none true e l is = absurd (cc is)
tail_none false e l is = (refl, is)

-- where no entry is of another session, all are counted
count_all : (k : ℕ) (es : List Entry) → ((p : ℕ) → k ≤ p → entries_of p es ≡ []) → count_below k es ≡ length es
count_all k [] beyond = count_nil k
count_all k (e ∷ es) beyond =
    let rest : (p : ℕ) → k ≤ p → entries_of p es ≡ [] = λ p le. (tail_none (e.session == p) e (entries_of p es) (beyond p le)).1 in
    let below : e.session < k = dite (dec_lt e.session k) (λ l. l) (λ le. let b = (tail_none (e.session == e.session) e (entries_of e.session es) (beyond e.session (omega (arith, le)))).0 in absurd (true≢false (sym (eq-eqb e.session e.session refl) ∙ b))) in
    (count_head k e es).1 below ∙ ap suc (count_all k es rest)

-- a history of few sessions with few entries each is short
pub short : (k m : ℕ) (es : List Entry) → ((p : ℕ) → length (entries_of p es) ≤ m) → ((p : ℕ) → k ≤ p → entries_of p es ≡ []) → length es ≤ k * m
short k m es each beyond = let a = count_all k es beyond in let b = count_most k m es each in omega (arith, a, b)
