-- What a call leaves of the names of its session.
use Rattle.std.proofs.Common.{◌≡◌, ℕ, suc, ◌≤◌, ◌<◌, ⊎_elim, Bool, true, false, cond, ◌&&◌, ◌||◌, ◌==◌, Option, Some, None, refl, ap, ap₂, sym, subst, ◌∙◌, arith, eq-eqb}
use Rattle.std.specs.Prelude.{nat_lt}
use Rattle.std.proofs.lemmas.Bool.{false≢true}
use Rattle.std.proofs.lemmas.Bool.Decides.{leb_tells}
use Rattle.edge_bits.specs.declared.edges.Kind.{Kind}
use Rattle.function_laws.specs.declared.history.Call.{Call}
use Rattle.function_laws.specs.declared.history.Call.TheVariants as calls
use Rattle.function_laws.specs.declared.history.Function.{Function}
use Rattle.function_laws.specs.declared.history.Function.TheVariants.{Bdd, Zdd}
use Rattle.function_laws.specs.declared.history.Name.{Name}
use Rattle.function_laws.specs.declared.history.Reply.{Reply}
use Rattle.function_laws.specs.declared.history.Reply.TheVariants as replies
use Rattle.function_laws.specs.Tables.{Sizes, Table, same_name, with_name}
use Rattle.function_laws.specs.Outcomes.{Outcome, makes, restricts, covers, fetches, counts, is_done}
use Rattle.function_laws.specs.Steps.{IsAllowed, IsNew, Replies, after, outcome, outcome_of, with_result}
use Rattle.function_laws.proofs.StepLemmas.{chosen-new}
use Rattle.dd_session.specs.Sessions.{kind_of, stands_now}
use Rattle.job_text.specs.Histories.{drops, given_by}
use Rattle.dd_session.specs.Sessions.{Called, Seen, names_in}
use Rattle.dd_session.proofs.Naming.{same_name-refl}
use Rattle.dd_session.proofs.SessionLaws.{is_allowed, posted_stays, seen_in_table, stands_after, stands_still, stood_before, table_of}
use Rattle.net_jobs.specs.Saying.{is_none}
use Rattle.net_jobs.proofs.OutcomeKinds.{IsOfKind, is_plain, no-count, one}

-- what comes of a call is always of this kind
abbrev pub ComesOf : Kind → Seen → Call → Type 0
ComesOf k old call = (z : Sizes) (cells : ℕ → Option Function) (o : Outcome) → outcome_of z cells (stands_now old) call ≡ Some o → IsOfKind k o

-- A name that a call gave: it is that of the next generation, and stands for a function of the kind that is due; each other name
-- stands for what it stood for.
pub record Given (old new : Seen) (call : Call) (name : Name) : Type 0 where
  pub generation : name.generation ≡ old.adds
  pub function : Function
  pub stands : stands_now new name ≡ Some function
  pub kind : (k : Kind) → ComesOf k old call → kind_of function ≡ k
  pub others : (other : Name) → same_name other name ≡ false → stands_now new other ≡ stands_now old other

with_here : (s : ℕ) (t : Table) (name : Name) (f : Function) → (with_name t s name f).live s name ≡ Some f
with_here s t name f = ap₂ (λ a b. cond (a && b) (Some f) (t.live s name)) (eq-eqb s s refl) (same_name-refl name)

with_other : (s : ℕ) (t : Table) (name : Name) (f : Function) (other : Name) → same_name other name ≡ false → (with_name t s name f).live s other ≡ t.live s other
with_other s t name f other apart = ap (λ b. cond ((s == s) && b) (Some f) (t.live s other)) apart ∙ by (s == s)
  where
    by : (b : Bool) → cond (b && false) (Some f) (t.live s other) ≡ t.live s other
    by true = refl
    by false = refl

at_least : (a b : ℕ) → nat_lt a b ≡ false → b ≤ a
at_least a b is = ⊎_elim (λ yes. absurd (false≢true (sym is ∙ yes.0))) (λ no. omega (arith, no.1)) (leb_tells (suc a) b)

pub one_name : (reply : Reply) → names_in reply ≤ 1
one_name (replies.Made r) = omega arith
one_name (replies.Chose r g) = omega arith
one_name (replies.Fetched r posted) = omega arith
one_name (replies.Numbered r n) = omega arith
one_name reply = omega arith

-- as many names as the reply gives
abbrev pub count_of : Option Name → ℕ
count_of None = 0
count_of (Some name) = 1

pub names_given : (reply : Reply) → names_in reply ≡ count_of (given_by reply)
names_given (replies.Made r) = refl
names_given (replies.Chose r g) = refl
names_given (replies.Fetched r posted) = refl
names_given (replies.Numbered r n) = refl
names_given reply = refl

module _ (old new : Seen) (call : Call) (reply : Reply) (place : ℕ) (called : Called old new call reply place) where
  abbrev t : Table
  t = table_of old called.board

  live_before : t.live old.number ≡ stands_now old
  live_before = λ i name. stood_before old new call reply place called name i

  -- a name that is new is that of the next generation
  generation-new : (name : Name) (f : Function) → after t old.number call reply ≡ with_name t old.number name f → IsNew t old.number name → name.generation ≡ old.adds
  generation-new name f is fresh =
      let below : nat_lt name.generation old.adds ≡ false = ap (λ b. b && nat_lt name.generation old.adds) (sym (eq-eqb old.number old.number refl)) ∙ fresh in
      let lower = at_least name.generation old.adds below in
      let given : (after t old.number call reply).given new.number name ≡ true =
      ap (λ (u : Table). u.given new.number name) is ∙ ap₂ (λ a b. (a && b) || t.given new.number name) (eq-eqb new.number old.number called.number_is) (same_name-refl name) in
      let upper : name.generation < new.adds = ⊎_elim
      (λ yes. absurd (false≢true (sym ((called.step t (seen_in_table old called.board) refl (sym called.sizes_are)).1.fresh name yes.1) ∙ given)))
      (λ no. no.1) (leb_tells new.adds name.generation) in
      omega (arith, lower, upper, called.adds_are, one_name reply)

  core : (name : Name) (f : Function) → after t old.number call reply ≡ with_name t old.number name f → IsNew t old.number name → ((k : Kind) → ComesOf k old call → kind_of f ≡ k) → Given old new call name
  core name f is fresh kind = record {
    generation = generation-new name f is fresh;
    function = f;
    stands = stands_after old new call reply place called name ∙ ap (λ (u : Table). u.live old.number name) is ∙ with_here old.number t name f;
    kind = kind;
    others = λ other apart. stands_after old new call reply place called other ∙ ap (λ (u : Table). u.live old.number other) is
        ∙ with_other old.number t name f other apart ∙ stood_before old new call reply place called other;
  }

-- so in the table before it
kind_of_outcome : (k : Kind) (old new : Seen) (call : Call) (reply : Reply) (place : ℕ) (called : Called old new call reply place) → ComesOf k old call → (o : Outcome)
    → outcome (table_of old called.board) old.number call ≡ Some o → IsOfKind k o
kind_of_outcome k old new call reply place called comes o at =
    let t = table_of old called.board in
    comes t.sizes t.cells o (sym (ap (λ live. outcome_of t.sizes t.cells live call) (live_before old new call reply place called)) ∙ at)

-- a function that was chosen is of the kind of what comes of the call
chosen-kind : (t : Table) (s : ℕ) (r : Name) (k : Kind) (o : Outcome) (f : Function) → Replies t s o (replies.Chose r f) → IsOfKind k o → kind_of f ≡ k
chosen-kind t s r k (restricts f c) (Bdd g) says is = sym is
chosen-kind t s r k (covers lower upper) (Zdd p) says is = sym is
chosen-kind t s r k _ _ says is = absurd says

-- a call that gives a name
pub given : (old new : Seen) (call : Call) (reply : Reply) (place : ℕ) (called : Called old new call reply place) (name : Name) → is_plain call ≡ true → given_by reply ≡ Some name → Given old new call name
given old new call (replies.Made r) place called name plain is = subst (Given old new call) (same is) (by (is_allowed old new call (replies.Made r) place called))
  where
    same : Some r ≡ Some name → r ≡ name
    same e = cc

    by : IsAllowed (table_of old called.board) old.number call (replies.Made r) → Given old new call r
    by (makes f, at, fresh) = core old new call (replies.Made r) place called r f (ap (with_result (table_of old called.board) old.number r) at) fresh (λ k comes. kind_of_outcome k old new call (replies.Made r) place called comes (makes f) at)
    by (_, at, says) = absurd says
given old new call (replies.Chose r g) place called name plain is = subst (Given old new call) (same is) (by (is_allowed old new call (replies.Chose r g) place called))
  where
    same : Some r ≡ Some name → r ≡ name
    same e = cc

    by : IsAllowed (table_of old called.board) old.number call (replies.Chose r g) → Given old new call r
    by (o, at, says) = core old new call (replies.Chose r g) place called r g refl (chosen-new (table_of old called.board) old.number r o g says)
        (λ k comes. chosen-kind (table_of old called.board) old.number r k o g says (kind_of_outcome k old new call (replies.Chose r g) place called comes o at))
given old new call (replies.Fetched r posted) place called name plain is = subst (Given old new call) (same is) (by (is_allowed old new call (replies.Fetched r posted) place called))
  where
    same : Some r ≡ Some name → r ≡ name
    same e = cc

    by : IsAllowed (table_of old called.board) old.number call (replies.Fetched r posted) → Given old new call r
    by (fetches f p, at, says) = core old new call (replies.Fetched r posted) place called r f (ap (with_result (table_of old called.board) old.number r) at) says.0 (λ k comes. kind_of_outcome k old new call (replies.Fetched r posted) place called comes (fetches f p) at)
    by (_, at, says) = absurd says
given old new call (replies.Numbered r n) place called name plain is = by (is_allowed old new call (replies.Numbered r n) place called)
  where
    by : IsAllowed (table_of old called.board) old.number call (replies.Numbered r n) → Given old new call name
    by (counts f m, at, says) = absurd (no-count _ _ _ call (counts f m) plain at)
    by (_, at, says) = absurd says
given old new call reply place called name plain is = cc

-- what a call that gives no name leaves of what a name stands for
abbrev pub left_by : Call → Name → Option Function → Option Function
left_by (calls.DropRow a) name o = cond (same_name name a) None o
left_by _ name o = o

-- a drop is done
drop_allowed : (t : Table) (s : ℕ) (a : Name) (P : Outcome → Type 0) → P is_done → (o : Outcome) → outcome t s (calls.DropRow a) ≡ Some o → P o
drop_allowed t s a P holds o at = one P (t.live s a) (λ f. is_done) o (λ f. holds) at

done_stays : (old new : Seen) (call : Call) (place : ℕ) → Called old new call replies.Done place → (name : Name) → stands_now new name ≡ left_by call name (stands_now old name)
done_stays old new (calls.DropRow a) place called name =
    stands_after old new (calls.DropRow a) replies.Done place called name
    ∙ ap (λ b. cond (b && same_name name a) None ((table_of old called.board).live old.number name)) (eq-eqb old.number old.number refl)
    ∙ ap (cond (same_name name a) None) (stood_before old new (calls.DropRow a) replies.Done place called name)
done_stays old new (calls.Post i a) place called name = posted_stays old new i a place called name
done_stays old new call place called name = stands_still old new call replies.Done place called refl name

-- a call that gives no name
pub left : (old new : Seen) (call : Call) (reply : Reply) (place : ℕ) → Called old new call reply place → given_by reply ≡ None → (name : Name) → stands_now new name ≡ left_by call name (stands_now old name)
left old new call (replies.Made r) place called none name = cc
left old new call (replies.Chose r g) place called none name = cc
left old new call (replies.Fetched r posted) place called none name = cc
left old new call (replies.Numbered r n) place called none name = cc
left old new call replies.Done place called none name = done_stays old new call place called name
left old new (calls.DropRow a) (replies.Truth b) place called none name =
    let allowed = is_allowed old new (calls.DropRow a) (replies.Truth b) place called in
    absurd (drop_allowed (table_of old called.board) old.number a (λ o. Replies (table_of old called.board) old.number o (replies.Truth b) → ⊥) (λ says. says) allowed.0 allowed.1 allowed.2)
left old new call (replies.Truth b) place called none name = stands_still old new call (replies.Truth b) place called refl name ∙ refl
left old new (calls.DropRow a) (replies.Value z) place called none name =
    let allowed = is_allowed old new (calls.DropRow a) (replies.Value z) place called in
    absurd (drop_allowed (table_of old called.board) old.number a (λ o. Replies (table_of old called.board) old.number o (replies.Value z) → ⊥) (λ says. says) allowed.0 allowed.1 allowed.2)
left old new call (replies.Value z) place called none name = stands_still old new call (replies.Value z) place called refl name
left old new (calls.DropRow a) replies.Overflow place called none name =
    let allowed = is_allowed old new (calls.DropRow a) replies.Overflow place called in
    absurd (drop_allowed (table_of old called.board) old.number a (λ o. Replies (table_of old called.board) old.number o replies.Overflow → ⊥) (λ says. says) allowed.0 allowed.1 allowed.2)
left old new call replies.Overflow place called none name = stands_still old new call replies.Overflow place called refl name
left old new (calls.DropRow a) replies.Apart place called none name =
    let allowed = is_allowed old new (calls.DropRow a) replies.Apart place called in
    absurd (drop_allowed (table_of old called.board) old.number a (λ o. Replies (table_of old called.board) old.number o replies.Apart → ⊥) (λ says. says) allowed.0 allowed.1 allowed.2)
left old new call replies.Apart place called none name = stands_still old new call replies.Apart place called refl name
left old new (calls.DropRow a) replies.Most place called none name =
    let allowed = is_allowed old new (calls.DropRow a) replies.Most place called in
    absurd (drop_allowed (table_of old called.board) old.number a (λ o. Replies (table_of old called.board) old.number o replies.Most → ⊥) (λ says. says) allowed.0 allowed.1 allowed.2)
left old new call replies.Most place called none name = stands_still old new call replies.Most place called refl name
left old new (calls.DropRow a) (replies.Full in_use need) place called none name =
    absurd (false≢true (is_allowed old new (calls.DropRow a) (replies.Full in_use need) place called).3)
left old new call (replies.Full in_use need) place called none name = stands_still old new call (replies.Full in_use need) place called refl name

-- it takes away the name that it drops
pub left_none : (call : Call) (name : Name) (o : Option Function) → is_none (left_by call name o) ≡ (is_none o || drops name call)
left_none (calls.DropRow a) name o = by (same_name name a) o
  where
    by : (b : Bool) (o : Option Function) → is_none (cond b None o) ≡ (is_none o || b)
    by true None = refl
    by true (Some f) = refl
    by false None = refl
    by false (Some f) = refl
left_none call name None = refl
left_none call name (Some f) = refl
