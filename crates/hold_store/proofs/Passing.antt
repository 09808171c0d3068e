-- Walks along the chain that is known.
use Rattle.std.proofs.Common.{◌≡◌, ◌≢◌, ℕ, suc, ◌+◌, ◌-◌, ◌<◌, ◌≤◌, ◌⊎◌, inl, inr, ⊎_elim, List, [], ◌∷◌, ◌++◌, length, Some, None, refl, ap, sym, ◌∙◌, subst, arith}
use Rattle.step_store.specs.Chains.{Lists, link_to}
use Rattle.step_store.specs.Knowing.{IsChain, Walk}
use Rattle.hold_store.specs.Held.{AllElse, ComesBehind, Knowledge, LeadsAlong, StandsBefore}

append_nil : (l : List ℕ) → l ++ [] ≡ l
append_nil [] = refl
append_nil (x ∷ xs) = ap (λ (l : List ℕ). x ∷ l) (append_nil xs)

pub append_one : (l : List ℕ) (s : ℕ) (m : List ℕ) → (l ++ s ∷ []) ++ m ≡ l ++ s ∷ m
append_one [] s m = refl
append_one (x ∷ xs) s m = ap (λ (l : List ℕ). x ∷ l) (append_one xs s m)

length_append : (l m : List ℕ) → length (l ++ m) ≡ length l + length m
length_append [] m = omega arith
length_append (x ∷ xs) m = let e = length_append xs m in omega (arith, e)

pub middle : (front : List ℕ) (s : ℕ) (behind : List ℕ) → Lists (front ++ s ∷ behind) s
middle [] s behind = inl refl
middle (x ∷ xs) s behind = inr (middle xs s behind)

one_of : (front : List ℕ) (s t : ℕ) → Lists (front ++ s ∷ []) t → Lists front t ⊎ (s ≡ t)
one_of [] s t (inl e) = inr e
one_of [] s t (inr e) = absurd e
one_of (x ∷ xs) s t (inl e) = inl (inl e)
one_of (x ∷ xs) s t (inr is) = ⊎_elim (λ h. inl (inr h)) inr (one_of xs s t is)

pub some_same : {A : Type 0} (a b : A) → Some a ≡ Some b → a ≡ b
some_same a b e = cc

pub none_some : {A : Type 0} (x : A) → None ≡ Some x → ⊥
none_some x e = cc

-- the first of the list that a link leads to
first_of : (l : List ℕ) (link s : ℕ) → link ≡ link_to l → link ≡ suc s → (behind : List ℕ) × (l ≡ s ∷ behind)
first_of [] link s at is = absurd (let e : link_to [] ≡ suc s = sym at ∙ is in omega (arith, e))
first_of (x ∷ xs) link s at is = (xs, ap (λ (y : ℕ). y ∷ xs) (let e : suc x ≡ suc s = sym at ∙ is in omega (arith, e)))

pub record IsBefore (k : Knowledge) (slot before count : ℕ) : Type 0 where
  pub walk : Walk
  pub is : k.hand.walk ≡ Some walk
  pub chain : IsChain k.content.limit walk.rest
  pub front : List ℕ
  pub behind : List ℕ
  pub parts : walk.rest ≡ front ++ before ∷ behind
  pub there : Lists behind slot
  pub passed : length front ≡ count

pub begins : (k : Knowledge) (first slot : ℕ) → ComesBehind k first slot → IsBefore k slot first 0
begins k first slot c = record { walk = c.0; is = c.2; chain = c.5; front = []; behind = c.1; parts = c.3; there = c.4; passed = refl }

module _ (k : Knowledge) (slot before count : ℕ) (p : IsBefore k slot before count) where
  pub on_walk : (n : Walk) × (k.hand.walk ≡ Some n) × Lists n.rest before
  on_walk = (p.walk, p.is, subst (λ (l : List ℕ). Lists l before) (sym p.parts) (middle p.front before p.behind))

  pub few_left : count < k.content.limit
  few_left = by p.behind p.there (ap (λ (l : List ℕ). length l) p.parts)
    where
      by : (l : List ℕ) → Lists l slot → length p.walk.rest ≡ length (p.front ++ before ∷ l) → count < k.content.limit
      by [] is e = absurd is
      by (x ∷ xs) is e = let a = length_append p.front (before ∷ x ∷ xs) in let few = p.chain.few in let d = p.passed in omega (arith, a, e, few, d)

  module _ (link : ℕ) (link_is : (n : Walk) (front behind : List ℕ) → k.hand.walk ≡ Some n → n.rest ≡ front ++ before ∷ behind → link ≡ link_to behind) where
    leads : link ≡ link_to p.behind
    leads = link_is p.walk p.front p.behind p.is p.parts

    pub found : link ≡ slot + 1 → StandsBefore k before slot
    found is = let f = first_of p.behind link slot leads (omega (arith, is)) in
        (p.walk, p.front, f.0, p.is, p.parts ∙ ap (λ (l : List ℕ). p.front ++ before ∷ l) f.1)

    pub goes_on : (link ≡ slot + 1 → ⊥) → (0 < link) × IsBefore k slot (link - 1) (count + 1)
    goes_on other = by p.behind p.there refl
      where
        by : (l : List ℕ) → Lists l slot → p.behind ≡ l → (0 < link) × IsBefore k slot (link - 1) (count + 1)
        by [] is e = absurd is
        by (x ∷ xs) is e =
            let at : link ≡ suc x = leads ∙ ap link_to e in
            let here : x ≡ link - 1 = omega (arith, at) in (
              omega (arith, at),
              subst (λ y. IsBefore k slot y (count + 1)) here (record {
                walk = p.walk;
                is = p.is;
                chain = p.chain;
                front = p.front ++ before ∷ [];
                behind = xs;
                parts = p.parts ∙ ap (λ (l : List ℕ). p.front ++ before ∷ l) e ∙ sym (append_one p.front before (x ∷ xs));
                there = ⊎_elim (λ same. absurd (other (omega (arith, at, same)))) (λ rest. rest) is;
                passed = (let a = length_append p.front (before ∷ []) in let d = p.passed in omega (arith, a, d));
              }),
            )

pub record IsPassing (k : Knowledge) (bits link count : ℕ) : Type 0 where
  pub walk : Walk
  pub is : k.hand.walk ≡ Some walk
  pub chain : IsChain k.content.limit walk.rest
  pub front : List ℕ
  pub behind : List ℕ
  pub parts : walk.rest ≡ front ++ behind
  pub passed : length front ≡ count
  pub link_is : link ≡ link_to behind
  pub others : (s : ℕ) → Lists front s → k.bits s ≢ bits

pub starts : (k : Knowledge) (bits link : ℕ) → LeadsAlong k link → IsPassing k bits link 0
starts k bits link a = record { walk = a.0; is = a.1; chain = a.3; front = []; behind = a.0.rest; parts = refl; passed = refl; link_is = a.2; others = λ s is. absurd is }

module _ (k : Knowledge) (bits link count : ℕ) (p : IsPassing k bits link count) where
  all_passed : p.behind ≡ [] → AllElse k bits
  all_passed none n is s on =
      let same : n ≡ p.walk = some_same n p.walk (sym is ∙ p.is) in
      p.others s (subst (λ (l : List ℕ). Lists l s) (ap (λ (x : Walk). x.rest) same ∙ p.parts ∙ ap (λ (l : List ℕ). p.front ++ l) none ∙ append_nil p.front) on)

  -- the walk has come to the end
  pub ends : link ≡ 0 → AllElse k bits
  ends zero_link = all_passed (empty p.behind (sym p.link_is ∙ zero_link))
    where
      empty : (l : List ℕ) → link_to l ≡ 0 → l ≡ []
      empty [] e = refl
      empty (x ∷ xs) e = absurd (omega (arith, e))

  -- as many were passed as there are slots
  pub exhausts : k.content.limit ≤ count → AllElse k bits
  exhausts le = all_passed (short p.behind (
      let a = length_append p.front p.behind in let b = ap (λ (l : List ℕ). length l) p.parts in let c = p.chain.few in let d = p.passed in omega (arith, a, b, c, d, le)))
    where
      short : (l : List ℕ) → length l ≡ 0 → l ≡ []
      short [] e = refl
      short (x ∷ xs) e = absurd (omega (arith, e))

  -- the slot of the link
  at_slot : (link ≡ 0 → ⊥) → (behind : List ℕ) × (p.behind ≡ (link - 1) ∷ behind)
  at_slot some = by p.behind refl
    where
      by : (l : List ℕ) → p.behind ≡ l → (behind : List ℕ) × (p.behind ≡ (link - 1) ∷ behind)
      by [] e = absurd (some (p.link_is ∙ ap link_to e))
      by (x ∷ xs) e = (xs, e ∙ ap (λ (y : ℕ). y ∷ xs) (let at : link ≡ suc x = p.link_is ∙ ap link_to e in omega (arith, at)))

  pub passing_on : (link ≡ 0 → ⊥) → (n : Walk) × (k.hand.walk ≡ Some n) × Lists n.rest (link - 1)
  passing_on some = let a = at_slot some in
      (p.walk, p.is, subst (λ (l : List ℕ). Lists l (link - 1)) (sym (p.parts ∙ ap (λ (l : List ℕ). p.front ++ l) a.1)) (middle p.front (link - 1) a.0))

  pub reaches : (link ≡ 0 → ⊥) → (link - 1 < k.content.limit) × (0 < link)
  reaches some = ((p.chain.each (link - 1) (let o = passing_on some in subst (λ (n : Walk). Lists n.rest (link - 1)) (some_same o.0 p.walk (sym o.1 ∙ p.is)) o.2)).1, omega (arith, some))

  pub passes : (link ≡ 0 → ⊥) → k.bits (link - 1) ≢ bits → (next : ℕ) → ((n : Walk) (front behind : List ℕ) → k.hand.walk ≡ Some n → n.rest ≡ front ++ (link - 1) ∷ behind → next ≡ link_to behind)
      → IsPassing k bits next (count + 1)
  passes some other next next_is =
      let a = at_slot some in
      let whole : p.walk.rest ≡ p.front ++ (link - 1) ∷ a.0 = p.parts ∙ ap (λ (l : List ℕ). p.front ++ l) a.1 in
      record {
        walk = p.walk;
        is = p.is;
        chain = p.chain;
        front = p.front ++ (link - 1) ∷ [];
        behind = a.0;
        parts = whole ∙ sym (append_one p.front (link - 1) a.0);
        passed = (let b = length_append p.front ((link - 1) ∷ []) in let d = p.passed in omega (arith, b, d));
        link_is = next_is p.walk p.front a.0 p.is whole;
        others = λ s on. ⊎_elim (p.others s) (λ same. subst (λ t. k.bits t ≢ bits) same other) (one_of p.front (link - 1) s on);
      }
