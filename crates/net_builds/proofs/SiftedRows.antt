-- What rows and cells stand for, seen from behind: which entries can have given a row or a cell its function.
use Rattle.std.proofs.Common.{◌≡◌, ℕ, ◌+◌, ◌==◌, Bool, true, false, cond, ◌&&◌, List, [], ◌∷◌, ◌++◌, length, take, Option, Some, None, refl, ap, ap₂, sym, ◌∙◌, inl, inr, arith, ne_eqb, true≢false}
use Rattle.std.proofs.Math.Seq.{take-append_seam}
use Rattle.function_laws.specs.declared.history.Name.{Name}
use Rattle.function_laws.specs.declared.history.Function.{Function}
use Rattle.function_laws.specs.declared.history.Call.{Call}
use Rattle.function_laws.specs.declared.history.Call.TheVariants as calls
use Rattle.function_laws.specs.declared.history.Reply.{Reply}
use Rattle.function_laws.specs.declared.history.Reply.TheVariants.{Made, Chose, Fetched, Numbered, Done, Truth, Value, Overflow, Apart, Most, Full}
use Rattle.function_laws.specs.declared.history.Entry.{Entry}
use Rattle.function_laws.specs.Handovers.{is_numbered}
use Rattle.function_laws.specs.Histories.{IsLegal, IsLegalFrom, after_entry, table_after}
use Rattle.function_laws.specs.Outcomes.{Outcome, makes, fetches, counts}
use Rattle.function_laws.specs.Steps.{after, changed, outcome, with_result}
use Rattle.function_laws.specs.Tables.{Sizes, Table, opening, same_name, with_name}
use Rattle.net_builds.proofs.HandedLaw.{Has, places, split}

-- an entry of a legal history has those of the lower places before it
pub at_place : (sizes : Sizes) (log : List Entry) (e : Entry) → IsLegal sizes log → Has e log → (rest : List Entry) × (log ≡ take e.place log ++ e ∷ rest)
at_place sizes log e legal has =
    let one = split 0 (opening sizes) log e legal has in
    let at : e.place ≡ length one.0 = omega (arith, one.3) in
    let front : take e.place log ≡ one.0 = ap₂ (λ (p : ℕ) (es : List Entry). take p es) at one.2 ∙ take-append_seam one.0 (e ∷ one.1) in
    (one.1, one.2 ∙ ap (λ (es : List Entry). es ++ e ∷ one.1) (sym front))

-- two of one place are one
pub same_entry : (n : ℕ) (t : Table) (log : List Entry) (e other : Entry) → IsLegalFrom n t log → Has e log → Has other log → e.place ≡ other.place → e ≡ other
same_entry n t [] e other legal has have same = absurd has
same_entry n t (x ∷ log) e other legal (inl is) (inl other_is) same = sym is ∙ other_is
same_entry n t (x ∷ log) e other legal (inl is) (inr have) same =
    let at = places (n + 1) (after_entry t x) log other legal.2 have in
    absurd (omega (arith, at.0, same, legal.0, ap (λ (y : Entry). y.place) is))
same_entry n t (x ∷ log) e other legal (inr has) (inl other_is) same =
    let at = places (n + 1) (after_entry t x) log e legal.2 has in
    absurd (omega (arith, at.0, same, legal.0, ap (λ (y : Entry). y.place) other_is))
same_entry n t (x ∷ log) e other legal (inr has) (inr have) same = same_entry (n + 1) (after_entry t x) log e other legal.2 has have same

-- an entry that adds no variable and no element, and gives the session no name
abbrev pub GivesNone : ℕ → Entry → Type 0
GivesNone s e = (is_numbered e.reply ≡ false) × (e.session ≡ s → e.reply ≡ Done)

module _ (s : ℕ) (name : Name) where
  -- the new name is another session's
  live_named : (t : Table) (p : ℕ) (r : Name) (f : Function) → (p ≡ s → ⊥) → (with_name t p r f).live s name ≡ t.live s name
  live_named t p r f apart = ap (λ b. cond (b && same_name name r) (Some f) (t.live s name)) (ne_eqb s p (λ is. apart (sym is)))

  live_result : (t : Table) (p : ℕ) (r : Name) (o : Option Outcome) → (p ≡ s → ⊥) → (with_result t p r o).live s name ≡ t.live s name
  live_result t p r (Some (makes f)) apart = live_named t p r f apart
  live_result t p r (Some (fetches f posted)) apart = live_named t p r f apart
  live_result t p r (Some (counts f m)) apart = live_named t p r f apart
  live_result t p r _ apart = refl

  module _ (g : Function) where
    was_done : (t : Table) (p : ℕ) (call : Call) → (changed t p call).live s name ≡ Some g → t.live s name ≡ Some g
    was_done t p (calls.DropRow a) stands = by ((s == p) && same_name name a) stands
      where
        by : (b : Bool) → cond b None (t.live s name) ≡ Some g → t.live s name ≡ Some g
        by true stands = cc
        by false stands = stands
    was_done t p _ stands = stands

    made_done : (r : Name) → Made r ≡ Done → ⊥
    made_done r is = cc

    chose_done : (r : Name) (f : Function) → Chose r f ≡ Done → ⊥
    chose_done r f is = cc

    fetched_done : (r : Name) (posted : Bool) → Fetched r posted ≡ Done → ⊥
    fetched_done r posted is = cc

    was_live : (t : Table) (p : ℕ) (call : Call) (reply : Reply) → is_numbered reply ≡ false → (p ≡ s → reply ≡ Done)
        → (after t p call reply).live s name ≡ Some g → t.live s name ≡ Some g
    was_live t p call (Made r) plain none stands = sym (live_result t p r (outcome t p call) (λ is. made_done r (none is))) ∙ stands
    was_live t p call (Chose r f) plain none stands = sym (live_named t p r f (λ is. chose_done r f (none is))) ∙ stands
    was_live t p call (Fetched r posted) plain none stands = sym (live_result t p r (outcome t p call) (λ is. fetched_done r posted (none is))) ∙ stands
    was_live t p call (Numbered r m) plain none stands = absurd (true≢false plain)
    was_live t p call Done plain none stands = was_done t p call stands
    was_live t p call (Truth told) plain none stands = stands
    was_live t p call (Value z) plain none stands = stands
    was_live t p call Overflow plain none stands = stands
    was_live t p call Apart plain none stands = stands
    was_live t p call Most plain none stands = stands
    was_live t p call (Full a b) plain none stands = stands

    -- what a name stands for behind entries that give its session no name it stood for before
    pub stood_before : (t : Table) (es : List Entry) → ((e : Entry) → Has e es → GivesNone s e) → (table_after t es).live s name ≡ Some g → t.live s name ≡ Some g
    stood_before t [] none stands = stands
    stood_before t (e ∷ es) none stands =
        let here = none e (inl refl) in
        was_live t e.session e.call e.reply here.0 here.1 (stood_before (after_entry t e) es (λ x has. none x (inr has)) stands)

-- what a name stands for behind entries of other sessions it stood for before
module _ (s : ℕ) (name : Name) where
  kept_done : (t : Table) (p : ℕ) (call : Call) → (p ≡ s → ⊥) → (changed t p call).live s name ≡ t.live s name
  kept_done t p (calls.DropRow a) apart = ap (λ b. cond (b && same_name name a) None (t.live s name)) (ne_eqb s p (λ is. apart (sym is)))
  kept_done t p _ apart = refl

  kept_live : (t : Table) (p : ℕ) (call : Call) (reply : Reply) → is_numbered reply ≡ false → (p ≡ s → ⊥) → (after t p call reply).live s name ≡ t.live s name
  kept_live t p call (Made r) plain apart = live_result s name t p r (outcome t p call) apart
  kept_live t p call (Chose r f) plain apart = live_named s name t p r f apart
  kept_live t p call (Fetched r posted) plain apart = live_result s name t p r (outcome t p call) apart
  kept_live t p call (Numbered r m) plain apart = absurd (true≢false plain)
  kept_live t p call Done plain apart = kept_done t p call apart
  kept_live t p call (Truth told) plain apart = refl
  kept_live t p call (Value z) plain apart = refl
  kept_live t p call Overflow plain apart = refl
  kept_live t p call Apart plain apart = refl
  kept_live t p call Most plain apart = refl
  kept_live t p call (Full a b) plain apart = refl

  pub stays_live : (t : Table) (es : List Entry) → ((e : Entry) → Has e es → is_numbered e.reply ≡ false) → ((e : Entry) → Has e es → e.session ≡ s → ⊥) → (table_after t es).live s name ≡ t.live s name
  stays_live t [] plain apart = refl
  stays_live t (e ∷ es) plain apart =
      stays_live (after_entry t e) es (λ x has. plain x (inr has)) (λ x has. apart x (inr has)) ∙ kept_live t e.session e.call e.reply (plain e (inl refl)) (apart e (inl refl))

-- A fact on functions, of those that cells have.
module _ (P : Function → Type 0) where
  abbrev pub CellsHave : Table → Type 0
  CellsHave t = (i : ℕ) (g : Function) → t.cells i ≡ Some g → P g

  -- a post hands over such a function
  abbrev pub PostsOnly : Table → ℕ → Call → Type 0
  PostsOnly t s call = (i : ℕ) (a : Name) → call ≡ calls.Post i a → (g : Function) → t.live s a ≡ Some g → P g

  have_result : (t : Table) (s : ℕ) (r : Name) (o : Option Outcome) → CellsHave t → CellsHave (with_result t s r o)
  have_result t s r (Some (makes f)) have = have
  have_result t s r (Some (fetches f posted)) have = have
  have_result t s r (Some (counts f m)) have = have
  have_result t s r _ have = have

  have_done : (t : Table) (s : ℕ) (call : Call) → PostsOnly t s call → CellsHave t → CellsHave (changed t s call)
  have_done t s (calls.Post j a) posts have i g stands = by (i == j) stands
    where
      by : (b : Bool) → cond b (t.live s a) (t.cells i) ≡ Some g → P g
      by true stands = posts j a refl g stands
      by false stands = have i g stands
  have_done t s (calls.DropRow a) posts have i g stands = have i g stands
  have_done t s _ posts have i g stands = have i g stands

  have_after : (t : Table) (s : ℕ) (call : Call) (reply : Reply) → is_numbered reply ≡ false → PostsOnly t s call → CellsHave t → CellsHave (after t s call reply)
  have_after t s call (Made r) plain posts have = have_result t s r (outcome t s call) have
  have_after t s call (Chose r f) plain posts have = have
  have_after t s call (Fetched r posted) plain posts have = have_result t s r (outcome t s call) have
  have_after t s call (Numbered r m) plain posts have = absurd (true≢false plain)
  have_after t s call Done plain posts have = have_done t s call posts have
  have_after t s call (Truth told) plain posts have = have
  have_after t s call (Value z) plain posts have = have
  have_after t s call Overflow plain posts have = have
  have_after t s call Apart plain posts have = have
  have_after t s call Most plain posts have = have
  have_after t s call (Full a b) plain posts have = have

  -- where each post hands over such a function, cells have such ones alone
  pub cells_have : (t : Table) (es : List Entry)
      → ((before : List Entry) (e : Entry) (rest : List Entry) → es ≡ before ++ e ∷ rest → (is_numbered e.reply ≡ false) × PostsOnly (table_after t before) e.session e.call)
      → CellsHave t → CellsHave (table_after t es)
  cells_have t [] posts have = have
  cells_have t (e ∷ es) posts have =
      let here = posts [] e es refl in
      cells_have (after_entry t e) es (λ before x rest is. posts (e ∷ before) x rest (ap (λ (xs : List Entry). e ∷ xs) is)) (have_after t e.session e.call e.reply here.0 here.1 have)
