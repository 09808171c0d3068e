-- A walk along a chain that is known: what it has passed has other bits.
use Rattle.std.proofs.Common.{◌≡◌, ◌≢◌, ℕ, ◌+◌, ◌-◌, ◌<◌, ◌≤◌, ◌⊎◌, inl, inr, ⊎_elim, List, [], ◌∷◌, ◌++◌, length, Option, Some, None, refl, ap, sym, ◌∙◌, subst, arith}
use Rattle.std.specs.Prelude.{IfNone}
use Rattle.edge_bits.specs.declared.words.Word.{Word}
use Rattle.edge_bits.specs.Words.{unpack_of}
use Rattle.step_store.specs.Chains.{Lists, link_to}
use Rattle.step_store.specs.Knowing.{AllElse, HasWalked, Hand, IsAlong, IsChain, IsFound, Knowledge, Learns, Meets, Walk, handed}

append_nil : (l : List ℕ) → l ++ [] ≡ l
append_nil [] = refl
append_nil (x ∷ xs) = ap (λ (l : List ℕ). x ∷ l) (append_nil xs)

append_one : (l : List ℕ) (s : ℕ) (m : List ℕ) → (l ++ s ∷ []) ++ m ≡ l ++ s ∷ m
append_one [] s m = refl
append_one (x ∷ xs) s m = ap (λ (l : List ℕ). x ∷ l) (append_one xs s m)

length_append : (l m : List ℕ) → length (l ++ m) ≡ length l + length m
length_append [] m = omega arith
length_append (x ∷ xs) m = let e = length_append xs m in omega (arith, e)

middle : (front : List ℕ) (s : ℕ) (behind : List ℕ) → Lists (front ++ s ∷ behind) s
middle [] s behind = inl refl
middle (x ∷ xs) s behind = inr (middle xs s behind)

one_of : (front : List ℕ) (s t : ℕ) → Lists (front ++ s ∷ []) t → Lists front t ⊎ (s ≡ t)
one_of [] s t (inl e) = inr e
one_of [] s t (inr e) = absurd e
one_of (x ∷ xs) s t (inl e) = inl (inl e)
one_of (x ∷ xs) s t (inr is) = ⊎_elim (λ h. inl (inr h)) inr (one_of xs s t is)

pub some_same : {A : Type 0} (a b : A) → Some a ≡ Some b → a ≡ b
some_same a b e = cc

pub none_some : {A : Type 0} (x : A) → None ≡ Some x → ⊥
none_some x e = cc

pub record IsPassing (old k : Knowledge) (bits link count : ℕ) : Type 0 where
  pub walk : Walk
  pub is : old.hand.walk ≡ Some walk
  pub chain : IsChain old.view.slots walk.rest
  pub front : List ℕ
  pub behind : List ℕ
  pub parts : walk.rest ≡ front ++ behind
  pub passed : length front ≡ count
  pub link_is : link ≡ link_to behind
  pub others : AllElse k front bits

pub begins : (k : Knowledge) (bits link : ℕ) → IsAlong k link → IsPassing k k bits link 0
begins k bits link a = record { walk = a.0; is = a.1; chain = a.3; front = []; behind = a.0.rest; parts = refl; passed = refl; link_is = a.2; others = λ s is. absurd is }

module _ (old k : Knowledge) (bits link count : ℕ) (p : IsPassing old k bits link count) where
  all_passed : p.behind ≡ [] → (n : Walk) → old.hand.walk ≡ Some n → AllElse k n.rest bits
  all_passed none n is =
      let same : n ≡ p.walk = some_same n p.walk (sym is ∙ p.is) in
      subst (λ (l : List ℕ). AllElse k l bits) (sym (ap (λ (x : Walk). x.rest) same ∙ p.parts ∙ ap (λ (l : List ℕ). p.front ++ l) none ∙ append_nil p.front)) p.others

  -- the walk has come to the end
  pub ends : link ≡ 0 → (n : Walk) → old.hand.walk ≡ Some n → AllElse k n.rest bits
  ends zero_link = all_passed (empty p.behind (sym p.link_is ∙ zero_link))
    where
      empty : (l : List ℕ) → link_to l ≡ 0 → l ≡ []
      empty [] e = refl
      empty (x ∷ xs) e = cc

  -- as many were passed as there are slots
  pub exhausts : old.view.slots ≤ count → (n : Walk) → old.hand.walk ≡ Some n → AllElse k n.rest bits
  exhausts le = all_passed (short p.behind (
      let a = length_append p.front p.behind in let b = ap (λ (l : List ℕ). length l) p.parts in let c = p.chain.few in let d = p.passed in omega (arith, a, b, c, d, le)))
    where
      short : (l : List ℕ) → length l ≡ 0 → l ≡ []
      short [] e = refl
      short (x ∷ xs) e = absurd (omega (arith, e))

  -- the slot of the link
  pub at_slot : (link ≡ 0 → ⊥) → (behind : List ℕ) × (p.walk.rest ≡ p.front ++ (link - 1) ∷ behind)
  at_slot some = by p.behind refl
    where
      by : (l : List ℕ) → p.behind ≡ l → (behind : List ℕ) × (p.walk.rest ≡ p.front ++ (link - 1) ∷ behind)
      by [] e = absurd (some (p.link_is ∙ ap link_to e))
      by (x ∷ xs) e =
          let head : x ≡ link - 1 = let l = p.link_is ∙ ap link_to e in omega (arith, l) in
          (xs, p.parts ∙ ap (λ (l : List ℕ). p.front ++ l) e ∙ ap (λ (y : ℕ). p.front ++ y ∷ xs) head)

  pub listed : (link ≡ 0 → ⊥) → Lists p.walk.rest (link - 1)
  listed some = let a = at_slot some in subst (λ (l : List ℕ). Lists l (link - 1)) (sym a.1) (middle p.front (link - 1) a.0)

  pub inside : (link ≡ 0 → ⊥) → (3 ≤ link - 1) × (link - 1 < old.view.slots)
  inside some = p.chain.each (link - 1) (listed some)

  pub met : Learns old k → k.hand ≡ old.hand → (some : link ≡ 0 → ⊥) → (n : Walk) × (k.hand.walk ≡ Some n) × Lists n.rest (link - 1)
  met learns same some = (p.walk, ap (λ (h : Hand). h.walk) same ∙ p.is, listed some)

  pub reaches : (learns : Learns old k) (some : link ≡ 0 → ⊥) → link - 1 < k.view.slots
  reaches learns some = subst (λ n. link - 1 < n) (sym learns.kept.grown.slots) (inside some).1

  -- the slot has the bits
  pub found_here : (some : link ≡ 0 → ⊥) (new : Knowledge) (found : ℕ) → Learns old k → Learns k new → found ≡ bits → ((word : Word) → unpack_of found ≡ Some word → Meets new (link - 1) found word) → IsFound new bits (link - 1)
  found_here some new found before learns same meets = (
    (inside some).0,
    subst (λ n. link - 1 < n) (sym learns.kept.grown.slots) (reaches before some),
    λ word reads. subst (λ b. Meets new (link - 1) b word) same (meets word (ap unpack_of same ∙ reads)),
  )

  -- one slot further
  pub passes : (some : link ≡ 0 → ⊥) (new : Knowledge) (found next : ℕ) → Learns k new → ((word : Word) → unpack_of found ≡ Some word → Meets new (link - 1) found word) → ((word : Word) × (unpack_of found ≡ Some word)) → found ≢ bits
      → ((front behind : List ℕ) → p.walk.rest ≡ front ++ (link - 1) ∷ behind → next ≡ link_to behind) → IsPassing old new bits next (count + 1)
  passes some new found next learns meets used other leads =
      let a = at_slot some in record {
        walk = p.walk;
        is = p.is;
        chain = p.chain;
        front = p.front ++ (link - 1) ∷ [];
        behind = a.0;
        parts = a.1 ∙ sym (append_one p.front (link - 1) a.0);
        passed = (let e = length_append p.front ((link - 1) ∷ []) in let d = p.passed in omega (arith, e, d));
        link_is = leads p.front a.0 a.1;
        others = λ s is. ⊎_elim
            (λ before. let o = p.others s before in (o.0, learns.words s o.0 o.1, o.2))
            (λ here. (found, ap new.word (sym here) ∙ (meets used.0 used.1).noted, other))
            (one_of p.front (link - 1) s is);
      }

-- what a walk along a head's chain found nowhere
pub walked : (old start k : Knowledge) (head level bits : ℕ) (rest : List ℕ) → start ≡ handed old (record old.hand { walk = Some (record { head = head; level = level; rest = rest }) }) → k.hand ≡ start.hand
    → ((n : Walk) → start.hand.walk ≡ Some n → AllElse k n.rest bits) → HasWalked k head level bits
walked old start k head level bits rest is same none =
    let n : Walk = record { head = head; level = level; rest = rest } in
    let at : start.hand.walk ≡ Some n = ap (λ (x : Knowledge). x.hand.walk) is in
    record { walk = n; is = ap (λ (x : Hand). x.walk) same ∙ at; head_is = refl; level_is = refl; others = none n at }

pub walked_hand : (old start k : Knowledge) (head level : ℕ) (rest : List ℕ) → start ≡ handed old (record old.hand { walk = Some (record { head = head; level = level; rest = rest }) }) → k.hand ≡ start.hand
    → k.hand ≡ record old.hand { walk = k.hand.walk }
walked_hand old start k head level rest is same =
    let all = same ∙ ap (λ (x : Knowledge). x.hand) is in
    all ∙ ap (λ (o : Option Walk). record old.hand { walk = o }) (sym (ap (λ (x : Hand). x.walk) all))

pub walked_none : (o : Option ℕ) (old start k : Knowledge) (head level bits : ℕ) (rest : List ℕ) → start ≡ handed old (record old.hand { walk = Some (record { head = head; level = level; rest = rest }) }) → k.hand ≡ start.hand
    → IfNone o ((n : Walk) → start.hand.walk ≡ Some n → AllElse k n.rest bits) → IfNone o (HasWalked k head level bits)
walked_none None old start k head level bits rest is same none = walked old start k head level bits rest is same none
walked_none (Some s) old start k head level bits rest is same none = tt
