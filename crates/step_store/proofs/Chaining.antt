-- The steps on heads, links and words that put a slot on its chain.
use Rattle.std.proofs.Common.{◌≡◌, ◌≢◌, ◌⊎◌, inl, inr, ⊎_elim, ℕ, zero, suc, ◌<◌, ◌≤◌, Bool, true, false, List, [], ◌∷◌, ◌++◌, length, refl, sym, ap, ◌∙◌, subst, eqb, eqb-true, ne_eqb, ◌||◌, arith}
use Rattle.std.specs.List.{IsDistinct, AllByRecursion, list_any}
use Rattle.std.proofs.lemmas.Map.Steps.{length-le_from_distinct_below}
use mathlib.Core.Logic.{dite}
use native.Mathlib.Decide.{ℕ_discrete}
use Rattle.node_store.specs.Changes.{put_at}
use Rattle.node_store.proofs.Rewriting.{put_at-same as put_here, put_at-other as put_else}
use Rattle.step_store.specs.Chains.{Lists, Along, Once, Chains, link_to}
use Rattle.step_store.specs.Plain.{links_along}

-- two numbers are one or not
pub same_or : (i j : ℕ) → (i ≡ j) ⊎ (i ≢ j)
same_or i j = dite (ℕ_discrete i j) inl inr

-- what is on is not what is off
pub apart : (on : ℕ → Bool) (s t : ℕ) → on s ≡ false → on t ≡ true → t ≢ s
apart on s t off is same = let b : on t ≡ false = ap on same ∙ off in cc

-- a link that is stored at a slot which is not on leads nobody astray
pub along_kept : (next : ℕ → ℕ) (on : ℕ → Bool) (s x link : ℕ) (ss : List ℕ) → on s ≡ false → ((t : ℕ) → Lists ss t → on t ≡ true) → Along next link ss → Along (put_at next s x) link ss
along_kept next on s x link [] off all is = is
along_kept next on s x link (t ∷ ts) off all is =
    (is.0, subst (λ l. Along (put_at next s x) l ts) (sym (put_else next s t x (apart on s t off (all t (inl refl))))) (along_kept next on s x (next t) ts off (λ u h. all u (inr h)) is.1))

module _ (heads : ℕ) (head next head_of word : ℕ → ℕ) (on : ℕ → Bool) (chain : ℕ → List ℕ) (c : Chains heads head next head_of word on chain) where
  -- a link is stored at a slot that is not on
  pub stores_link : (s x : ℕ) → on s ≡ false → Chains heads head (put_at next s x) head_of word on chain
  stores_link s x off = record {
    along = λ h lt. along_kept next on s x (head h) (chain h) off (λ t is. (c.only h t lt is).0) (c.along h lt);
    listed = c.listed;
    only = c.only;
    once = c.once;
  }

  -- a word is stored there
  pub stores_word : (s w : ℕ) → on s ≡ false → Chains heads head next head_of (put_at word s w) on chain
  stores_word s w off = record {
    along = c.along;
    listed = λ t is. subst (λ v. (head_of v < heads) × Lists (chain (head_of v)) t) (sym (put_else word s t w (apart on s t off is))) (c.listed t is);
    only = λ h t lt is. let old = c.only h t lt is in (old.0, ap head_of (put_else word s t w (apart on s t off old.0)) ∙ old.1);
    once = c.once;
  }

  -- The head of the slot's word was found to be the slot's link, and becomes the slot's: the slot stands before the others.
  module _ (s : ℕ) (off : on s ≡ false) (lt : head_of (word s) < heads) (found : head (head_of (word s)) ≡ next s) where
    abbrev at : ℕ
    at = head_of (word s)

    abbrev chain' : ℕ → List ℕ
    chain' = put_at chain at (s ∷ chain at)

    on_still : (t : ℕ) → on t ≡ true → put_at on s true t ≡ true
    on_still t is = put_else on s t true (apart on s t off is) ∙ is

    before : (t : ℕ) → put_at on s true t ≡ true → (t ≡ s) ⊎ (on t ≡ true)
    before t is = ⊎_elim inl (λ ne. inr (sym (put_else on s t true ne) ∙ is)) (same_or t s)

    in_chain : (h t : ℕ) → Lists (chain h) t → Lists (chain' h) t
    in_chain h t is = ⊎_elim (λ same. subst (λ (l : List ℕ). Lists l t) (sym (ap chain' same ∙ put_here chain at (s ∷ chain at))) (inr (subst (λ k. Lists (chain k) t) same is)))
        (λ ne. subst (λ (l : List ℕ). Lists l t) (sym (put_else chain at h (s ∷ chain at) ne)) is) (same_or h at)

    out_of : (h t : ℕ) → Lists (chain' h) t → ((t ≡ s) × (h ≡ at)) ⊎ Lists (chain h) t
    out_of h t is = ⊎_elim
        (λ same. ⊎_elim (λ first. inl (sym first, same)) (λ rest. inr (subst (λ k. Lists (chain k) t) (sym same) rest))
        (subst (λ (l : List ℕ). Lists l t) (ap chain' same ∙ put_here chain at (s ∷ chain at)) is))
        (λ ne. inr (subst (λ (l : List ℕ). Lists l t) (put_else chain at h (s ∷ chain at) ne) is)) (same_or h at)

    pub pushes : Chains heads (put_at head at (suc s)) next head_of word (put_at on s true) chain'
    pushes = record {
      along = λ h below. ⊎_elim
          (λ same. subst (λ k. Along next (put_at head at (suc s) k) (chain' k)) (sym same)
          (subst (λ (l : List ℕ). Along next (put_at head at (suc s) at) l) (sym (put_here chain at (s ∷ chain at)))
          (put_here head at (suc s), subst (λ l. Along next l (chain at)) found (c.along at lt))))
          (λ ne. subst (λ (l : List ℕ). Along next (put_at head at (suc s) h) l) (sym (put_else chain at h (s ∷ chain at) ne))
          (subst (λ l. Along next l (chain h)) (sym (put_else head at h (suc s) ne)) (c.along h below)))
          (same_or h at);
      listed = λ t is. ⊎_elim
          (λ same. subst (λ u. (head_of (word u) < heads) × Lists (chain' (head_of (word u))) u) (sym same) (lt, subst (λ (l : List ℕ). Lists l s) (sym (put_here chain at (s ∷ chain at))) (inl refl)))
          (λ old. ((c.listed t old).0, in_chain (head_of (word t)) t (c.listed t old).1)) (before t is);
      only = λ h t below is. ⊎_elim
          (λ new. (ap (put_at on s true) new.0 ∙ put_here on s true, ap (λ u. head_of (word u)) new.0 ∙ sym new.1))
          (λ old. let o = c.only h t below old in (on_still t o.0, o.1)) (out_of h t is);
      once = λ h below. ⊎_elim
          (λ same. subst Once (sym (ap chain' same ∙ put_here chain at (s ∷ chain at))) ((λ again. apart on s s off (c.only at s lt again).0 refl), c.once at lt))
          (λ ne. subst Once (sym (put_else chain at h (s ∷ chain at) ne)) (c.once h below)) (same_or h at);
    }

-- At the opening no slot is on, and each head is 0.
pub no_chains : (heads : ℕ) (head next head_of word : ℕ → ℕ) → ((h : ℕ) → h < heads → head h ≡ 0) → Chains heads head next head_of word (λ s. false) (λ h. [])
no_chains heads head next head_of word zeros = record {
  along = λ h lt. zeros h lt;
  listed = λ s is. absurd (never is);
  only = λ h s lt is. absurd is;
  once = λ h lt. tt;
}
  where
    never : false ≡ true → ⊥
    never e = cc

-- a list whose slots come once, all below a number, is no longer
any_lists : (l : List ℕ) (q : ℕ) → list_any (eqb q) l ≡ true → Lists l q
any_lists [] q e = cc
any_lists (x ∷ xs) q e = by (any_lists xs q) (eqb q x) refl
  where
    by : (list_any (eqb q) xs ≡ true → Lists xs q) → (b : Bool) → eqb q x ≡ b → Lists (x ∷ xs) q
    by rest true is = inl (sym (eqb-true q x is))
    by rest false is = inr (rest (sym (ap (λ (b : Bool). b || list_any (eqb q) xs) is) ∙ e))

none_equal : (x : ℕ) (l : List ℕ) → (Lists l x → ⊥) → AllByRecursion (λ (y : ℕ). eqb x y ≡ false) l
none_equal x [] out = tt
none_equal x (y ∷ ys) out = (ne_eqb x y (λ e. out (inl (sym e))), none_equal x ys (λ is. out (inr is)))

distinct : (l : List ℕ) → Once l → IsDistinct eqb l
unfolding IsDistinct
distinct [] o = tt
distinct (x ∷ xs) o = (none_equal x xs o.0, distinct xs o.1)

pub once_short : (l : List ℕ) (n : ℕ) → Once l → ((s : ℕ) → Lists l s → s < n) → length l ≤ n
once_short l n once below = length-le_from_distinct_below l n (distinct l once) (λ q e. below q (any_lists l q e))

-- the list along which links lead is the one that they tell
pub along_list : (next : ℕ → ℕ) (link : ℕ) (l : List ℕ) (n : ℕ) → Along next link l → length l ≤ n → links_along n next link ≡ l
along_list next link [] n along few = ap (links_along n next) along ∙ at n
  where
    at : (n : ℕ) → links_along n next 0 ≡ []
    at zero = refl
    at (suc n) = refl
along_list next link (s ∷ ss) zero along few = absurd (omega (arith, few))
along_list next link (s ∷ ss) (suc n) along few = ap (links_along (suc n) next) along.0 ∙ ap (λ (l : List ℕ). s ∷ l) (along_list next (next s) ss n along.1 (omega (arith, few)))

pub along_link : (next : ℕ → ℕ) (link : ℕ) (l : List ℕ) → Along next link l → link ≡ link_to l
along_link next link [] along = along
along_link next link (s ∷ ss) along = along.0

-- the link behind a slot of the list
pub along_next : (next : ℕ → ℕ) (link : ℕ) (front : List ℕ) (s : ℕ) (behind : List ℕ) → Along next link (front ++ s ∷ behind) → next s ≡ link_to behind
along_next next link [] s behind along = along_link next (next s) behind along.1
along_next next link (t ∷ front) s behind along = along_next next (next t) front s behind along.1
