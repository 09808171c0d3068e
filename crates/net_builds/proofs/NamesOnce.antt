-- A name stands for one function, as long as it stands for any.
use Rattle.std.proofs.Common.{◌≡◌, ◌⊎◌, ℕ, ◌+◌, ◌==◌, Bool, true, false, cond, ◌&&◌, ◌||◌, List, [], ◌∷◌, length, Option, Some, None, refl, ap, ap₂, sym, subst, ◌∙◌, inl, inr, true≢false}
use Rattle.std.proofs.lemmas.Bool.{eqb-true}
use Rattle.function_laws.specs.declared.history.Name.{Name}
use Rattle.function_laws.specs.declared.history.Function.{Function}
use Rattle.function_laws.specs.declared.history.Call.{Call}
use Rattle.function_laws.specs.declared.history.Call.TheVariants as calls
use Rattle.function_laws.specs.declared.history.Reply.{Reply}
use Rattle.function_laws.specs.declared.history.Reply.TheVariants.{Made, Chose, Fetched, Numbered, Done, Truth, Value, Overflow, Apart, Most, Full}
use Rattle.function_laws.specs.declared.history.Entry.{Entry}
use Rattle.function_laws.specs.Tables.{Sizes, Table, opening, same_name, with_name}
use Rattle.function_laws.specs.Outcomes.{Outcome, makes, fetches}
use Rattle.function_laws.specs.Steps.{with_result, changed, Replies, IsAllowed, after}
use Rattle.function_laws.specs.Histories.{IsLegalFrom, after_entry, table_after}
use Rattle.function_laws.specs.Handovers.{is_numbered}
use Rattle.function_laws.specs.SessionEntries.{Each}
use Rattle.function_laws.proofs.StepLemmas.{chosen-new}

both_true : (x y : Bool) → (x && y) ≡ true → (x ≡ true) × (y ≡ true)
both_true true true e = (refl, refl)
both_true true false e = cc
both_true false y e = cc

-- what a call makes of a name: it stays as it was, or stands for nothing any more, or is new
abbrev Becomes : ℕ → Name → Table → Table → Type 0
Becomes s name t u =
    ((u.live s name ≡ t.live s name) × (u.given s name ≡ t.given s name))
    ⊎ (((u.live s name ≡ None) × (u.given s name ≡ t.given s name)) ⊎ ((t.given s name ≡ false) × (u.given s name ≡ true)))

module _ (s : ℕ) (name : Name) where
  given-same : (t : Table) (p : ℕ) (r : Name) → ((s == p) && same_name name r) ≡ true → t.given s name ≡ t.given p r
  given-same t p r same =
      let all = both_true (s == p) (same_name name r) same in
      let e = both_true (name.row == r.row) (name.generation == r.generation) all.1 in
      ap₂ (λ (q : ℕ) (x : Name). t.given q x) (eqb-true s p all.0)
      (λ k. record { row = eqb-true name.row r.row e.0 k; generation = eqb-true name.generation r.generation e.1 k })

  named : (t : Table) (p : ℕ) (r : Name) (g : Function) → t.given p r ≡ false → Becomes s name t (with_name t p r g)
  named t p r g new = by ((s == p) && same_name name r) refl
    where
      by : (b : Bool) → ((s == p) && same_name name r) ≡ b → Becomes s name t (with_name t p r g)
      by true is = inr (inr (given-same t p r is ∙ new, ap (λ b. b || t.given s name) is))
      by false is = inl (ap (λ b. cond b (Some g) (t.live s name)) is, ap (λ b. b || t.given s name) is)

  made : (t : Table) (p : ℕ) (r : Name) (o : Outcome) → Replies t p o (Made r) → Becomes s name t (with_result t p r (Some o))
  made t p r (makes g) replies = named t p r g replies
  made t p r _ replies = absurd replies

  fetched : (t : Table) (p : ℕ) (r : Name) (told : Bool) (o : Outcome) → Replies t p o (Fetched r told) → Becomes s name t (with_result t p r (Some o))
  fetched t p r told (fetches g posted) replies = named t p r g replies.0
  fetched t p r told _ replies = absurd replies

  done : (t : Table) (p : ℕ) (call : Call) → Becomes s name t (changed t p call)
  done t p (calls.DropRow a) = by ((s == p) && same_name name a) refl
    where
      by : (b : Bool) → ((s == p) && same_name name a) ≡ b → Becomes s name t (changed t p (calls.DropRow a))
      by true is = inr (inl (ap (λ b. cond b None (t.live s name)) is, refl))
      by false is = inl (ap (λ b. cond b None (t.live s name)) is, refl)
  done t p _ = inl (refl, refl)

  pub becomes : (t : Table) (p : ℕ) (call : Call) (reply : Reply) → IsAllowed t p call reply → is_numbered reply ≡ false → Becomes s name t (after t p call reply)
  becomes t p call (Made r) allowed plain = subst (λ o. Becomes s name t (with_result t p r o)) (sym allowed.1) (made t p r allowed.0 allowed.2)
  becomes t p call (Chose r g) allowed plain = named t p r g (chosen-new t p r allowed.0 g allowed.2)
  becomes t p call (Fetched r told) allowed plain = subst (λ o. Becomes s name t (with_result t p r o)) (sym allowed.1) (fetched t p r told allowed.0 allowed.2)
  becomes t p call (Numbered r m) allowed plain = absurd (true≢false plain)
  becomes t p call Done allowed plain = done t p call
  becomes t p call (Truth told) allowed plain = inl (refl, refl)
  becomes t p call (Value z) allowed plain = inl (refl, refl)
  becomes t p call Overflow allowed plain = inl (refl, refl)
  becomes t p call Apart allowed plain = inl (refl, refl)
  becomes t p call Most allowed plain = inl (refl, refl)
  becomes t p call (Full a b) allowed plain = inl (refl, refl)

  -- the name was given, and stands for this or for nothing
  abbrev Once : Option Function → Table → Type 0
  Once x t = (t.given s name ≡ true) × ((t.live s name ≡ x) ⊎ (t.live s name ≡ None))

  once-step : (x : Option Function) (t u : Table) → Becomes s name t u → Once x t → Once x u
  once-step x t u (inl (live, given)) (was, inl stands) = (given ∙ was, inl (live ∙ stands))
  once-step x t u (inl (live, given)) (was, inr none) = (given ∙ was, inr (live ∙ none))
  once-step x t u (inr (inl (gone, given))) (was, rest) = (given ∙ was, inr gone)
  once-step x t u (inr (inr (new, now))) (was, rest) = absurd (true≢false (sym was ∙ new))

  -- a live name was given
  abbrev IsKnown : Table → Type 0
  IsKnown t = (f : Function) → t.live s name ≡ Some f → t.given s name ≡ true

  known-step : (t u : Table) → Becomes s name t u → IsKnown t → IsKnown u
  known-step t u (inl (live, given)) known = λ f stands. given ∙ known f (sym live ∙ stands)
  known-step t u (inr (inl (gone, given))) known = λ f stands. absurd (none_some f (sym gone ∙ stands))
    where
      none_some : (f : Function) → None ≡ Some f → ⊥
      none_some f e = cc
  known-step t u (inr (inr (new, now))) known = λ f stands. now

  abbrev pub ArePlain : List Entry → Type 0
  ArePlain es = Each (λ (e : Entry). is_numbered e.reply ≡ false) es

  once-after : (x : Option Function) (n : ℕ) (t : Table) (es : List Entry) → IsLegalFrom n t es → ArePlain es → Once x t → Once x (table_after t es)
  once-after x n t [] legal plain once = once
  once-after x n t (e ∷ es) legal plain once =
      once-after x (n + 1) (after_entry t e) es legal.2 plain.1 (once-step x t (after_entry t e) (becomes t e.session e.call e.reply legal.1 plain.0) once)

  known-after : (n : ℕ) (t : Table) (es : List Entry) → IsLegalFrom n t es → ArePlain es → IsKnown t → IsKnown (table_after t es)
  known-after n t [] legal plain known = known
  known-after n t (e ∷ es) legal plain known =
      known-after (n + 1) (after_entry t e) es legal.2 plain.1 (known-step t (after_entry t e) (becomes t e.session e.call e.reply legal.1 plain.0) known)

  -- What a name stood for somewhere in a history it stands for at the end, if it still stands for anything.
  pub stood : (sizes : Sizes) (before rest : List Entry) (f g : Function) → IsLegalFrom 0 (opening sizes) before → ArePlain before → IsLegalFrom (0 + length before) (table_after (opening sizes) before) rest → ArePlain rest
      → (table_after (opening sizes) before).live s name ≡ Some f → (table_after (table_after (opening sizes) before) rest).live s name ≡ Some g → f ≡ g
  stood sizes before rest f g legal plain legal_rest plain_rest then now =
      let t : Table = table_after (opening sizes) before in
      let given = known-after 0 (opening sizes) before legal plain (λ h none. cc) f then in
      by (once-after (Some f) (0 + length before) t rest legal_rest plain_rest (given, inl then))
    where
      some_same : Some f ≡ Some g → f ≡ g
      some_same e = cc

      by : Once (Some f) (table_after (table_after (opening sizes) before) rest) → f ≡ g
      by (given, inl stands) = some_same (sym stands ∙ now)
      by (given, inr none) = cc
