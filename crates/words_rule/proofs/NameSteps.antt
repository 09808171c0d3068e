-- What becomes of a session's names and rows at its own step.
use Rattle.std.proofs.Common.{◌≡◌, ◌⊎◌, ℕ, ◌==◌, Bool, true, false, cond, ◌&&◌, ◌||◌, List, [], ◌∷◌, Option, Some, None, refl, ap, ap₂, sym, subst, ◌∙◌, inl, inr, true≢false, eq-eqb}
use Rattle.std.proofs.lemmas.Bool.{eqb-true}
use Rattle.function_laws.specs.declared.history.Name.{Name}
use Rattle.function_laws.specs.declared.history.Function.{Function}
use Rattle.function_laws.specs.declared.history.Function.TheVariants.{Bdd, Add, Zdd}
use Rattle.function_laws.specs.declared.history.Call.{Call}
use Rattle.function_laws.specs.declared.history.Call.TheVariants as calls
use Rattle.function_laws.specs.declared.history.Reply.{Reply}
use Rattle.function_laws.specs.declared.history.Reply.TheVariants.{Made, Chose, Fetched, Numbered, Done, Truth, Value, Overflow, Apart, Most, Full}
use Rattle.function_laws.specs.Tables.{Table, same_name, with_name}
use Rattle.function_laws.specs.Outcomes.{Outcome, makes, restricts, covers, is_apart, fetches, counts, overflows, is_most, compares, tells, shows, is_done}
use Rattle.function_laws.specs.Steps.{with_result, changed, Replies, IsAllowed, after}
use Rattle.function_laws.specs.Handovers.{is_numbered}
use Rattle.function_laws.specs.SessionEntries.{Each}
use Rattle.words_rule.specs.declared.view.Row.{Row}
use Rattle.words_rule.specs.declared.view.Change.{Change}
use Rattle.words_rule.specs.declared.view.Change.TheVariants.{Nothing, Adds, Takes, Posts}
use Rattle.words_rule.specs.declared.view.Telling.{Telling}
use Rattle.words_rule.specs.declared.view.Draws.{Draws}
use Rattle.words_rule.specs.Views.{Agrees, stands_for, without, rows_after, told_of}
use Rattle.words_rule.proofs.Lists.{each_map, each_both}

both_true : (x y : Bool) → (x && y) ≡ true → (x ≡ true) × (y ≡ true)
both_true true true e = (refl, refl)
both_true true false e = cc
both_true false y e = cc

same_name-refl : (name : Name) → same_name name name ≡ true
same_name-refl name = ap₂ (λ a b. a && b) (eq-eqb name.row name.row refl) (eq-eqb name.generation name.generation refl)

-- a name stays as it was, or goes, or is new
abbrev Becomes : ℕ → Name → Table → Table → Type 0
Becomes s name t u = ((u.live s name ≡ t.live s name) × (u.given s name ≡ t.given s name)) ⊎ ((u.live s name ≡ None) ⊎ ((t.given s name ≡ false) × (u.given s name ≡ true)))

module _ (s : ℕ) (name : Name) where
  given-same : (t : Table) (r : Name) → same_name name r ≡ true → t.given s name ≡ t.given s r
  given-same t r same =
      let e = both_true (name.row == r.row) (name.generation == r.generation) same in
      ap₂ (λ (a g : ℕ). t.given s (record { row = a; generation = g })) (eqb-true name.row r.row e.0) (eqb-true name.generation r.generation e.1)

  named : (t : Table) (r : Name) (g : Function) → t.given s r ≡ false → Becomes s name t (with_name t s r g)
  named t r g new = by ((s == s) && same_name name r) refl
    where
      by : (b : Bool) → ((s == s) && same_name name r) ≡ b → Becomes s name t (with_name t s r g)
      by true is = inr (inr (given-same t r (both_true (s == s) (same_name name r) is).1 ∙ new, ap (λ b. b || t.given s name) is))
      by false is = inl (ap (λ b. cond b (Some g) (t.live s name)) is, ap (λ b. b || t.given s name) is)

  made : (t : Table) (r : Name) (o : Outcome) → Replies t s o (Made r) → Becomes s name t (with_result t s r (Some o))
  made t r (makes g) replies = named t r g replies
  made t r (restricts g c) replies = absurd replies
  made t r (fetches g posted) replies = absurd replies
  made t r (covers l u) replies = absurd replies
  made t r is_apart replies = absurd replies
  made t r (counts g n) replies = absurd replies
  made t r overflows replies = absurd replies
  made t r is_most replies = absurd replies
  made t r (compares g h) replies = absurd replies
  made t r (tells b) replies = absurd replies
  made t r (shows z) replies = absurd replies
  made t r is_done replies = absurd replies

  fetched : (t : Table) (r : Name) (told : Bool) (o : Outcome) → Replies t s o (Fetched r told) → Becomes s name t (with_result t s r (Some o))
  fetched t r told (fetches g posted) replies = named t r g replies.0
  fetched t r told (makes g) replies = absurd replies
  fetched t r told (restricts g c) replies = absurd replies
  fetched t r told (counts g n) replies = absurd replies
  fetched t r told (covers l u) replies = absurd replies
  fetched t r told is_apart replies = absurd replies
  fetched t r told overflows replies = absurd replies
  fetched t r told is_most replies = absurd replies
  fetched t r told (compares g h) replies = absurd replies
  fetched t r told (tells b) replies = absurd replies
  fetched t r told (shows z) replies = absurd replies
  fetched t r told is_done replies = absurd replies

  chosen : (t : Table) (r : Name) (g : Function) (o : Outcome) → Replies t s o (Chose r g) → Becomes s name t (with_name t s r g)
  chosen t r (Bdd g) (makes h) replies = absurd replies
  chosen t r (Bdd g) (restricts h c) replies = named t r (Bdd g) replies.0
  chosen t r (Bdd g) (covers l u) replies = absurd replies
  chosen t r (Bdd g) is_apart replies = absurd replies
  chosen t r (Bdd g) (fetches h posted) replies = absurd replies
  chosen t r (Bdd g) (counts h n) replies = absurd replies
  chosen t r (Bdd g) overflows replies = absurd replies
  chosen t r (Bdd g) is_most replies = absurd replies
  chosen t r (Bdd g) (compares h i) replies = absurd replies
  chosen t r (Bdd g) (tells b) replies = absurd replies
  chosen t r (Bdd g) (shows z) replies = absurd replies
  chosen t r (Bdd g) is_done replies = absurd replies
  chosen t r (Add g) (makes h) replies = absurd replies
  chosen t r (Add g) (restricts h c) replies = absurd replies
  chosen t r (Add g) (covers l u) replies = absurd replies
  chosen t r (Add g) is_apart replies = absurd replies
  chosen t r (Add g) (fetches h posted) replies = absurd replies
  chosen t r (Add g) (counts h n) replies = absurd replies
  chosen t r (Add g) overflows replies = absurd replies
  chosen t r (Add g) is_most replies = absurd replies
  chosen t r (Add g) (compares h i) replies = absurd replies
  chosen t r (Add g) (tells b) replies = absurd replies
  chosen t r (Add g) (shows z) replies = absurd replies
  chosen t r (Add g) is_done replies = absurd replies
  chosen t r (Zdd g) (makes h) replies = absurd replies
  chosen t r (Zdd g) (restricts h c) replies = absurd replies
  chosen t r (Zdd g) (covers l u) replies = named t r (Zdd g) replies.0
  chosen t r (Zdd g) is_apart replies = absurd replies
  chosen t r (Zdd g) (fetches h posted) replies = absurd replies
  chosen t r (Zdd g) (counts h n) replies = absurd replies
  chosen t r (Zdd g) overflows replies = absurd replies
  chosen t r (Zdd g) is_most replies = absurd replies
  chosen t r (Zdd g) (compares h i) replies = absurd replies
  chosen t r (Zdd g) (tells b) replies = absurd replies
  chosen t r (Zdd g) (shows z) replies = absurd replies
  chosen t r (Zdd g) is_done replies = absurd replies

  done : (t : Table) (call : Call) → Becomes s name t (changed t s call)
  done t (calls.DropRow a) = by ((s == s) && same_name name a) refl
    where
      by : (b : Bool) → ((s == s) && same_name name a) ≡ b → Becomes s name t (changed t s (calls.DropRow a))
      by true is = inr (inl (ap (λ b. cond b None (t.live s name)) is))
      by false is = inl (ap (λ b. cond b None (t.live s name)) is, refl)
  done t _ = inl (refl, refl)

  becomes : (t : Table) (call : Call) (reply : Reply) → is_numbered reply ≡ false → IsAllowed t s call reply → Becomes s name t (after t s call reply)
  becomes t call (Made r) plain allowed = subst (λ o. Becomes s name t (with_result t s r o)) (sym allowed.1) (made t r allowed.0 allowed.2)
  becomes t call (Chose r g) plain allowed = chosen t r g allowed.0 allowed.2
  becomes t call (Fetched r told) plain allowed = subst (λ o. Becomes s name t (with_result t s r o)) (sym allowed.1) (fetched t r told allowed.0 allowed.2)
  becomes t call (Numbered r m) plain allowed = absurd (true≢false plain)
  becomes t call Done plain allowed = done t call
  becomes t call (Truth told) plain allowed = inl (refl, refl)
  becomes t call (Value z) plain allowed = inl (refl, refl)
  becomes t call Overflow plain allowed = inl (refl, refl)
  becomes t call Most plain allowed = inl (refl, refl)
  becomes t call Apart plain allowed = inl (refl, refl)
  becomes t call (Full a b) plain allowed = inl (refl, refl)

  none-some : (g : Function) → None ≡ Some g → ⊥
  none-some g e = cc

  -- a live name has been given
  given-by : (t u : Table) → Becomes s name t u → ((f : Function) → t.live s name ≡ Some f → t.given s name ≡ true) → (g : Function) → u.live s name ≡ Some g → u.given s name ≡ true
  given-by t u (inl same) given g live = same.1 ∙ given g (sym same.0 ∙ live)
  given-by t u (inr (inl gone)) given g live = absurd (none-some g (sym gone ∙ live))
  given-by t u (inr (inr new)) given g live = new.1

  -- one that is live before and after stands for the same
  same-by : (t u : Table) → Becomes s name t u → (f g : Function) → t.live s name ≡ Some f → t.given s name ≡ true → u.live s name ≡ Some g → u.live s name ≡ Some f
  same-by t u (inl same) f g was given live = same.0 ∙ was
  same-by t u (inr (inl gone)) f g was given live = absurd (none-some g (sym gone ∙ live))
  same-by t u (inr (inr new)) f g was given live = absurd (true≢false (sym given ∙ new.0))

-- each row's name stands for something
abbrev IsNamed : List Row → Row → Type 0
IsNamed rows row = (g : Function) × (stands_for rows row.name ≡ Some g)

named_later : (x : Row) (rows : List Row) (row : Row) → IsNamed rows row → IsNamed (x ∷ rows) row
named_later x rows row (g, is) = by (same_name row.name x.name) refl
  where
    by : (b : Bool) → same_name row.name x.name ≡ b → IsNamed (x ∷ rows) row
    by true same = (x.held.function, ap (λ b. cond b (Some x.held.function) (stands_for rows row.name)) same)
    by false other = (g, ap (λ b. cond b (Some x.held.function) (stands_for rows row.name)) other ∙ is)

all_named : (rows : List Row) → Each (IsNamed rows) rows
all_named [] = tt
all_named (x ∷ rows) = (
  (x.held.function, ap (λ b. cond b (Some x.held.function) (stands_for rows x.name)) (same_name-refl x.name)),
  each_map (IsNamed rows) (IsNamed (x ∷ rows)) (named_later x rows) rows (all_named rows),
)

each_without : (P : Row → Type 0) (name : Name) (rows : List Row) → Each P rows → Each P (without name rows)
each_without P name [] all = tt
each_without P name (x ∷ rows) all = by (each_without P name rows all.1) (same_name x.name name) refl
  where
    by : Each P (without name rows) → (b : Bool) → same_name x.name name ≡ b → Each P (without name (x ∷ rows))
    by rest true is = subst (λ b. Each P (cond b (without name rows) (x ∷ without name rows))) (sym is) rest
    by rest false is = subst (λ b. Each P (cond b (without name rows) (x ∷ without name rows))) (sym is) (all.0, rest)

-- after the step each row's name stands for the row's function, as before
pub stand-after : (d : Draws) (x : Telling) (t : Table) → is_numbered x.reply ≡ false → IsAllowed t d.session x.call x.reply → Agrees (told_of d 0 x) (after t d.session x.call x.reply)
    → ((name : Name) (f : Function) → t.live d.session name ≡ Some f → t.given d.session name ≡ true)
    → Each (λ (row : Row). t.live d.session row.name ≡ Some row.held.function) d.rows
    → Each (λ (row : Row). (after t d.session x.call x.reply).live d.session row.name ≡ Some row.held.function) (rows_after x.change d.rows)
stand-after d x t plain allowed agrees given stand = by x.change agrees.live
  where
    u : Table
    u = after t d.session x.call x.reply

    Was : Row → Type 0
    Was row = t.live d.session row.name ≡ Some row.held.function

    Is : Row → Type 0
    Is row = u.live d.session row.name ≡ Some row.held.function

    -- a row that was there
    old : (rows : List Row) → u.live d.session ≡ stands_for rows → (row : Row) → IsNamed rows row → Was row → Is row
    old rows live row (g, is) was = same-by d.session row.name t u (becomes d.session row.name t x.call x.reply plain allowed) row.held.function g was (given row.name row.held.function was)
        (ap (λ (h : Name → Option Function). h row.name) live ∙ is)

    by : (change : Change) → u.live d.session ≡ stands_for (rows_after change d.rows) → Each Is (rows_after change d.rows)
    by Nothing live = each_both (IsNamed d.rows) Was Is (old d.rows live) d.rows (all_named d.rows) stand
    by (Posts i held) live = each_both (IsNamed d.rows) Was Is (old d.rows live) d.rows (all_named d.rows) stand
    by (Adds row) live = (
      ap (λ (h : Name → Option Function). h row.name) live ∙ ap (λ b. cond b (Some row.held.function) (stands_for d.rows row.name)) (same_name-refl row.name),
      each_both (IsNamed (row ∷ d.rows)) Was Is (old (row ∷ d.rows) live) d.rows (all_named (row ∷ d.rows)).1 stand,
    )
    by (Takes name) live = each_both (IsNamed (without name d.rows)) Was Is (old (without name d.rows) live) (without name d.rows) (all_named (without name d.rows)) (each_without Was name d.rows stand)

pub given-after : (d : Draws) (x : Telling) (t : Table) → is_numbered x.reply ≡ false → IsAllowed t d.session x.call x.reply
    → ((name : Name) (f : Function) → t.live d.session name ≡ Some f → t.given d.session name ≡ true)
    → (name : Name) (f : Function) → (after t d.session x.call x.reply).live d.session name ≡ Some f → (after t d.session x.call x.reply).given d.session name ≡ true
given-after d x t plain allowed given name f live =
    given-by d.session name t (after t d.session x.call x.reply) (becomes d.session name t x.call x.reply plain allowed) (given name) f live
