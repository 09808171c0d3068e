-- What is handed over by a cell of the board.
use Rattle.std.proofs.Common.{◌≡◌, ℕ, nat_lt, Bool, true, false, cond, ◌&&◌, List, [], ◌∷◌, Option, Some, None, refl, ap, ap₂, sym, subst, ◌∙◌, eq-eqb, true≢false}
use Rattle.function_laws.specs.declared.history.Name.{Name}
use Rattle.function_laws.specs.declared.history.Function.{Function}
use Rattle.function_laws.specs.declared.history.Call.{Call}
use Rattle.function_laws.specs.declared.history.Call.TheVariants as calls
use Rattle.function_laws.specs.declared.history.Reply.{Reply}
use Rattle.function_laws.specs.declared.history.Reply.TheVariants.{Made, Chose, Fetched, Numbered, Done, Truth, Value, Overflow, Apart, Most, Full}
use Rattle.function_laws.specs.declared.history.Entry.{Entry}
use Rattle.function_laws.specs.Tables.{Table}
use Rattle.function_laws.specs.Outcomes.{Outcome, makes, fetches, counts, with_one, when}
use Rattle.function_laws.specs.Steps.{outcome, with_result, from_cell, same_kind, changed, Replies, IsAllowed, after}
use Rattle.function_laws.specs.Histories.{after_entry, table_after}
use Rattle.function_laws.specs.Handovers.{is_numbered}
use Rattle.function_laws.specs.SessionEntries.{Each}
use Rattle.function_laws.specs.Handovers.{posts_to, LeavesCell, IsHandedOver}

result_cells : (t : Table) (s : ℕ) (r : Name) (o : Option Outcome) → (with_result t s r o).cells ≡ t.cells
result_cells t s r (Some (makes f)) = refl
result_cells t s r (Some (fetches f posted)) = refl
result_cells t s r (Some (counts f n)) = refl
result_cells t s r _ = refl

changed_cell : (t : Table) (s i : ℕ) (call : Call) → posts_to i call ≡ false → (changed t s call).cells i ≡ t.cells i
changed_cell t s i (calls.Post j a) apart = ap (λ b. cond b (t.live s a) (t.cells i)) apart
changed_cell t s i (calls.DropRow a) apart = refl
changed_cell t s i _ apart = refl

cell_kept : (t : Table) (s i : ℕ) (call : Call) (reply : Reply) → is_numbered reply ≡ false → posts_to i call ≡ false → (after t s call reply).cells i ≡ t.cells i
cell_kept t s i call (Made r) plain apart = ap (λ (f : ℕ → Option Function). f i) (result_cells t s r (outcome t s call))
cell_kept t s i call (Chose r g) plain apart = refl
cell_kept t s i call (Fetched r posted) plain apart = ap (λ (f : ℕ → Option Function). f i) (result_cells t s r (outcome t s call))
cell_kept t s i call (Numbered r m) plain apart = absurd (true≢false plain)
cell_kept t s i call Done plain apart = changed_cell t s i call apart
cell_kept t s i call (Truth told) plain apart = refl
cell_kept t s i call (Value z) plain apart = refl
cell_kept t s i call Overflow plain apart = refl
cell_kept t s i call Apart plain apart = refl
cell_kept t s i call Most plain apart = refl
cell_kept t s i call (Full a b) plain apart = refl

cells_kept : (es : List Entry) (t : Table) (i : ℕ) → Each (LeavesCell i) es → (table_after t es).cells i ≡ t.cells i
cells_kept [] t i leaves = refl
cells_kept (e ∷ es) t i leaves = cells_kept es (after_entry t e) i leaves.1 ∙ cell_kept t e.session i e.call e.reply leaves.0.0 leaves.0.1

-- what was found posted is what the cell has
from_posted : (cell : Option Function) (other f : Function) → from_cell cell other ≡ fetches f true → cell ≡ Some f
from_posted None other f is = cc
from_posted (Some g) other f is = by (same_kind g other) is
  where
    by : (b : Bool) → cond b (fetches g true) (fetches other false) ≡ fetches f true → Some g ≡ Some f
    by true at = cc
    by false at = cc

module _ (t : Table) (s i : ℕ) (other to : Name) where
  found_by : (b : Bool) (x : Option Function) (o : Outcome) → when b (with_one x (from_cell (t.cells i))) ≡ Some o → Replies t s o (Fetched to true) → (with_result t s to (Some o)).live s to ≡ t.cells i
  found_by true (Some f) (fetches g posted) is replies =
      let at : from_cell (t.cells i) f ≡ fetches g true = some_same (from_cell (t.cells i) f) (fetches g posted) is ∙ ap (fetches g) (sym replies.1) in
      ap₂ (λ a b. cond (a && b) (Some g) (t.live s to)) (eq-eqb s s refl) (ap₂ (λ a b. a && b) (eq-eqb to.row to.row refl) (eq-eqb to.generation to.generation refl)) ∙ sym (from_posted (t.cells i) f g at)
    where
      some_same : (a b : Outcome) → Some a ≡ Some b → a ≡ b
      some_same a b e = cc
  found_by true (Some f) _ is replies = absurd replies
  found_by true None o is replies = cc
  found_by false x o is replies = cc

  -- a name that a fetch found posted stands for what the cell had
  pub fetch_finds : IsAllowed t s (calls.Fetch i other) (Fetched to true) → (after t s (calls.Fetch i other) (Fetched to true)).live s to ≡ t.cells i
  fetch_finds allowed = ap (λ o. (with_result t s to o).live s to) allowed.1 ∙ found_by (nat_lt i t.sizes.cells) (t.live s other) allowed.0 allowed.1 allowed.2

-- In a legal history the name that a fetch gives stands for what the posted name stood for, whoever did what in between.
pub handed_over : (n : ℕ) (t : Table) (i : ℕ) (post fetch : Entry) (between : List Entry) (from to : Name) → IsHandedOver i post between fetch from to → Each (LeavesCell i) between
    → IsAllowed (table_after (after_entry t post) between) fetch.session fetch.call fetch.reply
    → (after_entry (table_after (after_entry t post) between) fetch).live fetch.session to ≡ t.live post.session from
handed_over n t i post fetch between from to handed leaves allowed =
    let u : Table = table_after (after_entry t post) between in
    let call = handed.fetch_call in
    let reply = handed.fetch_reply in
    ap₂ (λ (c : Call) (r : Reply). (after u fetch.session c r).live fetch.session to) call reply
    ∙ fetch_finds u fetch.session i handed.other to (subst (λ (y : Call × Reply). IsAllowed u fetch.session y.0 y.1) (λ k. (call k, reply k)) allowed)
    ∙ cells_kept between (after_entry t post) i leaves
    ∙ ap₂ (λ (c : Call) (r : Reply). (after t post.session c r).cells i) handed.post_call handed.post_reply
    ∙ ap (λ b. cond b (t.live post.session from) (t.cells i)) (eq-eqb i i refl)
