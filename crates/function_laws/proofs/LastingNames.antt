-- What a live name stands for lasts until it is dropped.
use Rattle.std.proofs.Common.{◌≡◌, ℕ, ◌+◌, ◌==◌, Bool, true, false, cond, ◌&&◌, ◌||◌, List, [], ◌∷◌, Some, None, refl, ap, ap₂, sym, subst, ◌∙◌, ne_eqb, true≢false}
use mathlib.Core.Logic.{dite}
use native.Mathlib.Decide.{ℕ_discrete}
use Rattle.std.proofs.lemmas.Bool.{eqb-true}
use Rattle.function_laws.specs.declared.history.Name.{Name}
use Rattle.function_laws.specs.declared.history.Function.{Function}
use Rattle.function_laws.specs.declared.history.Call.{Call}
use Rattle.function_laws.specs.declared.history.Call.TheVariants as calls
use Rattle.function_laws.specs.declared.history.Reply.{Reply}
use Rattle.function_laws.specs.declared.history.Reply.TheVariants.{Made, Chose, Fetched, Numbered, Done, Truth, Value, Overflow, Apart, Most, Full}
use Rattle.function_laws.specs.declared.history.Entry.{Entry}
use Rattle.function_laws.specs.Tables.{Table, same_name, with_name}
use Rattle.function_laws.specs.Outcomes.{Outcome, makes, fetches}
use Rattle.function_laws.specs.Steps.{with_result, changed, Replies, IsAllowed, after}
use Rattle.function_laws.specs.Histories.{IsLegalFrom, after_entry, table_after}
use Rattle.function_laws.specs.Handovers.{is_numbered}
use Rattle.function_laws.specs.SessionEntries.{Each}
use Rattle.function_laws.specs.Handovers.{drops_it, LeavesName}
use Rattle.function_laws.proofs.StepLemmas.{chosen-new}

-- a live name that was given, as it should be
abbrev Stands : ℕ → Name → Function → Table → Type 0
Stands s name f t = (t.live s name ≡ Some f) × (t.given s name ≡ true)

other_name : (t : Table) (s : ℕ) (name r : Name) → t.given s name ≡ true → t.given s r ≡ false → same_name name r ≡ false
other_name t s name r given new = by (same_name name r) refl
  where
    both : (x y : Bool) → (x && y) ≡ true → (x ≡ true) × (y ≡ true)
    both true true e = (refl, refl)
    both true false e = cc
    both false y e = cc

    by : (b : Bool) → same_name name r ≡ b → b ≡ false
    by false is = refl
    by true is =
        let t = both (name.row == r.row) (name.generation == r.generation) is in
        absurd (true≢false (sym given ∙ ap₂ (λ (a g : ℕ). t_given a g) (eqb-true name.row r.row t.0) (eqb-true name.generation r.generation t.1) ∙ new))
      where
        t_given : ℕ → ℕ → Bool
        t_given a g = t.given s (record { row = a; generation = g })

none_and : (b : Bool) → (b && false) ≡ false
none_and true = refl
none_and false = refl

module _ (s : ℕ) (name : Name) (f : Function) where
  -- another name, or another session's
  apart : (t : Table) (p : ℕ) (r : Name) → t.given s name ≡ true → t.given p r ≡ false → ((s == p) && same_name name r) ≡ false
  apart t p r given new = dite (ℕ_discrete s p)
      (λ is. ap (λ b. (s == p) && b) (other_name t s name r given (ap (λ q. t.given q r) is ∙ new)) ∙ none_and (s == p))
      (λ no-is. ap (λ b. b && same_name name r) (ne_eqb s p no-is))

  named : (t : Table) (p : ℕ) (r : Name) (g : Function) → Stands s name f t → t.given p r ≡ false → Stands s name f (with_name t p r g)
  named t p r g stands new = let off = apart t p r stands.1 new in (
    ap (λ b. cond b (Some g) (t.live s name)) off ∙ stands.0,
    ap (λ b. b || t.given s name) off ∙ stands.1,
  )

  made : (t : Table) (p : ℕ) (r : Name) (o : Outcome) → Stands s name f t → Replies t p o (Made r) → Stands s name f (with_result t p r (Some o))
  made t p r (makes g) stands replies = named t p r g stands replies
  made t p r _ stands replies = absurd replies

  fetched : (t : Table) (p : ℕ) (r : Name) (told : Bool) (o : Outcome) → Stands s name f t → Replies t p o (Fetched r told) → Stands s name f (with_result t p r (Some o))
  fetched t p r told (fetches g posted) stands replies = named t p r g stands replies.0
  fetched t p r told _ stands replies = absurd replies

  done : (t : Table) (p : ℕ) (call : Call) → Stands s name f t → (p ≡ s → drops_it name call ≡ false) → Stands s name f (changed t p call)
  done t p (calls.DropRow a) stands keeps = (
    ap (λ b. cond b None (t.live s name)) (dite (ℕ_discrete s p)
        (λ is. ap (λ b. (s == p) && b) (keeps (sym is)) ∙ none_and (s == p))
        (λ no-is. ap (λ b. b && same_name name a) (ne_eqb s p no-is))) ∙ stands.0,
    stands.1,
  )
  done t p _ stands keeps = stands

  step : (t : Table) (p : ℕ) (call : Call) (reply : Reply) → IsAllowed t p call reply → is_numbered reply ≡ false → (p ≡ s → drops_it name call ≡ false) → Stands s name f t → Stands s name f (after t p call reply)
  step t p call (Made r) allowed plain keeps stands = subst (λ o. Stands s name f (with_result t p r o)) (sym allowed.1) (made t p r allowed.0 stands allowed.2)
  step t p call (Chose r g) allowed plain keeps stands = named t p r g stands (chosen-new t p r allowed.0 g allowed.2)
  step t p call (Fetched r told) allowed plain keeps stands = subst (λ o. Stands s name f (with_result t p r o)) (sym allowed.1) (fetched t p r told allowed.0 stands allowed.2)
  step t p call (Numbered r m) allowed plain keeps stands = absurd (true≢false plain)
  step t p call Done allowed plain keeps stands = done t p call stands keeps
  step t p call (Truth told) allowed plain keeps stands = stands
  step t p call (Value z) allowed plain keeps stands = stands
  step t p call Overflow allowed plain keeps stands = stands
  step t p call Apart allowed plain keeps stands = stands
  step t p call Most allowed plain keeps stands = stands
  step t p call (Full a b) allowed plain keeps stands = stands

  -- what a name stands for lasts as long as no entry drops it
  pub lasts : (n : ℕ) (t : Table) (es : List Entry) → IsLegalFrom n t es → Each (LeavesName s name) es → Stands s name f t → Stands s name f (table_after t es)
  lasts n t [] legal leaves stands = stands
  lasts n t (e ∷ es) legal leaves stands = lasts (n + 1) (after_entry t e) es legal.2 leaves.1 (step t e.session e.call e.reply legal.1 leaves.0.0 leaves.0.1 stands)
