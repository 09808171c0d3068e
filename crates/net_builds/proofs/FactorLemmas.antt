-- Rows that are there already, and rows that are made on the way to a cover's function.
use Rattle.std.proofs.Common.{◌≡◌, ℕ, ◌+◌, ◌≤◌, ◌^◌, ◌++◌, Bool, true, false, ◌&&◌, ◌||◌, List, get_or, Option, None, Some, Result, Ok, Err, [], refl, sym, ap, subst, ◌∙◌, arith}
use Rattle.std.proofs.lemmas.List.{append-nil}
use Rattle.std.proofs.lemmas.List.Elements.{All-nil}
use Rattle.cover_nets.specs.declared.net.Literal.{Literal}
use Rattle.cover_nets.specs.declared.net.Literal.TheVariants.{Any}
use Rattle.cover_nets.specs.Networks.{fits}
use Rattle.function_laws.specs.declared.history.Entry.{Entry}
use Rattle.function_laws.specs.declared.history.Function.TheVariants.{Bdd}
use Rattle.function_laws.specs.declared.history.Name.{Name}
use Rattle.function_laws.proofs.ListLemmas.{list_of-same}
use Rattle.net_builds.specs.Asked.{ComesBack}
use Rattle.net_builds.specs.declared.factors.Factor.{Factor}
use Rattle.net_builds.specs.declared.factors.Factor.TheVariants.{Given, Made}
use Rattle.net_builds.specs.declared.host.HostRefusal.{HostRefusal}
use Rattle.net_builds.specs.Factors.{Gives, GivesFor, GivesForIf, GivesIf, HoldsIf, IsHeldIf, IsLet, TakesUp, TakesUpIf, name_of}
use Rattle.net_builds.specs.Products.{with_fit}
use Rattle.net_builds.specs.Signals.{HaveRows, HaveValues}
use Rattle.net_builds.specs.Standings.{Holds, IsCaused, IsLive, IsQuiet, KeepsAll, Makes, Standing, Works}
use Rattle.net_builds.proofs.BackLemmas.{comes_none, comes_over, err_weaker, takes_none, takes_over}
use Rattle.net_builds.proofs.ReplaceLemmas.{makes_in_place, makes_then, replaces_none}
use Rattle.net_builds.proofs.StandingLemmas.{caused_before, caused_behind, gains_none, gains_then, holds_live, kept_holds, kept_live, makes_over, makes_same}

-- nothing was called
unfoldable pub gains_same : (old new : Standing) → new ≡ old → Works old new
gains_same old new same = record {
  vars_are = ap (λ (s : Standing). s.vars) same;
  number_is = ap (λ (s : Standing). s.number) same;
  notes_are = ap (λ (s : Standing). s.notes) same;
  gained = [];
  entries_are = ap (λ (s : Standing). s.entries) same ∙ sym (append-nil old.entries);
  each = All-nil IsQuiet;
  more = omega (arith, ap (λ (s : Standing). s.adds) same);
  behind = [];
  placed_are = ap (λ (s : Standing). s.placed) same ∙ sym (append-nil old.placed);
}

-- a function may be given by another that has its values
holds_same : (s : Standing) (name : Name) (f g : ℕ → Bool) → Holds s name f → ((k : ℕ) → f k ≡ g k) → Holds s name g
holds_same s name f g holds same = record {
  stands = holds.stands ∙ ap (λ values. Some (Bdd values)) (list_of-same (2 ^ s.vars) f g (λ k below. same k));
  given = holds.given;
}

pub gives_same : (old new : Standing) (factor : Factor) (f g : ℕ → Bool) → Gives old new factor f → ((k : ℕ) → f k ≡ g k) → Gives old new factor g
gives_same old new (Given name) f g gives same = (gives.0, holds_same old name f g gives.1 same)
gives_same old new (Made name) f g gives same = makes_same old new name f g gives same

-- the row holds the function, and each row what it held
pub gives_holds : (old new : Standing) (factor : Factor) (f : ℕ → Bool) → Gives old new factor f → Holds new (name_of factor) f
gives_holds old new (Given name) f gives = subst (λ (s : Standing). Holds s name f) (sym gives.0) gives.1
gives_holds old new (Made name) f gives = gives.holds

pub gives_kept : (old new : Standing) (factor : Factor) (other : Name) (f g : ℕ → Bool) → Gives old new factor f → Holds old other g → Holds new other g
gives_kept old new (Given name) other f g gives holds = subst (λ (s : Standing). Holds s other g) (sym gives.0) holds
gives_kept old new (Made name) other f g gives holds = kept_holds old new name other f g gives holds

pub gives_works : (old new : Standing) (factor : Factor) (f : ℕ → Bool) → Gives old new factor f → Works old new
gives_works old new (Given name) f gives = gains_same old new gives.0
gives_works old new (Made name) f gives = gives.works

pub gives_keeps : (old new : Standing) (factor : Factor) (f : ℕ → Bool) → Gives old new factor f → KeepsAll old new
gives_keeps old new (Given name) f gives = λ other below. ap (λ (s : Standing). s.stands other) gives.0
gives_keeps old new (Made name) f gives = gives.kept

pub gives_rows : (old new : Standing) (factor : Factor) (f : ℕ → Bool) → Gives old new factor f → new.rows ≤ old.rows + 1
gives_rows old new (Given name) f gives = omega (arith, ap (λ (s : Standing). s.rows) gives.0)
gives_rows old new (Made name) f gives = gives.rows

-- the row is still there after another one was made
pub factor_live : (old mid new : Standing) (factor : Factor) (f : ℕ → Bool) → Gives old mid factor f → mid.adds ≤ new.adds → KeepsAll mid new → IsLive new (name_of factor)
factor_live old mid new factor f gives more kept = kept_live mid new (name_of factor) more kept (holds_live mid (name_of factor) f (gives_holds old mid factor f gives))

-- a row was given, and then another in its place
pub gives_then : (start now new : Standing) (factor next : Factor) (f g : ℕ → Bool) → Gives start now factor f → GivesFor now new factor next g → Gives start new next g
gives_then start now new (Given name) next f g first second = subst (λ (s : Standing). Gives s new next g) first.0 second
gives_then start now new (Made name) (Given other) f g first second = absurd second
gives_then start now new (Made name) (Made other) f g first second = makes_then start now new name other f g first second

-- a row was made from another, which was let go where it was made on the way
pub in_place : (old mid new : Standing) (factor : Factor) (name : Name) (f g : ℕ → Bool) → Holds old (name_of factor) f → Makes old mid name g → IsLet mid new factor → GivesFor old new factor (Made name) g
in_place old mid new (Given gone) name f g holds makes goes = subst (λ (s : Standing). Makes old s name g) (sym goes) makes
in_place old mid new (Made gone) name f g holds makes goes = makes_in_place old mid new gone name g holds.given makes goes

pub let_then : (old mid late new : Standing) (factor : Factor) (name : Name) (f g : ℕ → Bool) → Gives old mid factor f → Makes mid late name g → IsLet late new factor → Makes old new name g
let_then old mid late new (Given gone) name f g gives makes goes = subst (λ (s : Standing). Makes s new name g) gives.0 (subst (λ (s : Standing). Makes mid s name g) (sym goes) makes)
let_then old mid late new (Made gone) name f g gives makes goes = makes_over old mid late new gone name f g gives makes goes

-- the same where there may be no row yet
pub given_holds : (empty : Bool) (old new : Standing) (row : Option Factor) (f : ℕ → Bool) → GivesIf empty old new row f → HoldsIf empty new row f
given_holds empty old new None f gives = gives.1
given_holds empty old new (Some factor) f gives = gives_holds old new factor f gives

pub given_held : (empty : Bool) (old new : Standing) (row : Option Factor) (f : ℕ → Bool) → GivesIf empty old new row f → IsHeldIf new row
given_held empty old new None f gives = tt
given_held empty old new (Some factor) f gives = (f, gives_holds old new factor f gives)

pub given_kept : (empty : Bool) (old new : Standing) (row : Option Factor) (other : Name) (f g : ℕ → Bool) → GivesIf empty old new row f → Holds old other g → Holds new other g
given_kept empty old new None other f g gives holds = subst (λ (s : Standing). Holds s other g) (sym gives.0) holds
given_kept empty old new (Some factor) other f g gives holds = gives_kept old new factor other f g gives holds

pub given_rows : (empty : Bool) (old new : Standing) (row : Option Factor) (f : ℕ → Bool) → GivesIf empty old new row f → new.rows ≤ old.rows + 1
given_rows empty old new None f gives = omega (arith, ap (λ (s : Standing). s.rows) gives.0)
given_rows empty old new (Some factor) f gives = gives_rows old new factor f gives

pub given_same : (empty : Bool) (old new : Standing) (row : Option Factor) (f g : ℕ → Bool) → GivesIf empty old new row f → ((k : ℕ) → f k ≡ g k) → GivesIf empty old new row g
given_same empty old new None f g gives same = (gives.0, λ k. sym (same k) ∙ gives.1 k)
given_same empty old new (Some factor) f g gives same = gives_same old new factor f g gives same

pub given_then : (empty : Bool) (start now new : Standing) (row next : Option Factor) (f g : ℕ → Bool) → GivesIf empty start now row f → GivesForIf empty now new row next g → GivesIf empty start new next g
given_then empty start now new None next f g first second = subst (λ (s : Standing). GivesIf empty s new next g) first.0 second
given_then empty start now new (Some factor) None f g first second = absurd second
given_then empty start now new (Some factor) (Some next) f g first second = gives_then start now new factor next f g first second

-- signals keep their rows and their values
pub given_have : (empty : Bool) (old new : Standing) (row : Option Factor) (f : ℕ → Bool) (rows : List (Option Name)) (signals : List ℕ) → GivesIf empty old new row f
    → HaveRows old rows signals → HaveRows new rows signals
given_have empty old new row f rows signals gives have = λ k d below.
    let h = have k d below in
    (h.0, h.1, (h.2.0, given_kept empty old new row h.0 f h.2.0 gives h.2.1))

pub given_values : (empty : Bool) (old new : Standing) (row : Option Factor) (f : ℕ → Bool) (rows : List (Option Name)) (signals : List ℕ) (values : ℕ → ℕ → Bool) → GivesIf empty old new row f
    → HaveValues old rows values signals → HaveValues new rows values signals
given_values empty old new row f rows signals values gives have = λ k d below.
    let h = have k d below in
    (h.0, h.1, given_kept empty old new row h.0 f (values (get_or signals k d)) gives h.2)

-- the empty product and the empty sum
times_one : (a b : Bool) → b ≡ true → a ≡ (a && b)
times_one true b is = sym is
times_one false b is = refl

plus_none : (a b : Bool) → a ≡ false → b ≡ (a || b)
plus_none a b is = subst (λ x. b ≡ (x || b)) (sym is) refl

pub first_times : (old new : Standing) (next : Option Factor) (literal : Literal) (f p : ℕ → Bool) → GivesIf true old new next (λ k. fits literal (f k)) → ((k : ℕ) → p k ≡ true)
    → GivesIf true old new next (with_fit literal f p)
first_times old new next literal f p gives all = given_same true old new next (λ k. fits literal (f k)) (with_fit literal f p) gives (λ k. times_one (fits literal (f k)) (p k) (all k))

pub first_plus : (old new : Standing) (next : Factor) (f p : ℕ → Bool) → Gives old new next p → ((k : ℕ) → f k ≡ false) → Gives old new next (λ k. f k || p k)
first_plus old new next f p gives none = gives_same old new next p (λ k. f k || p k) gives (λ k. plus_none (f k) (p k) (none k))

pub twice : (a : Bool) → (a && a) ≡ a
twice true = refl
twice false = refl

-- a literal that asks nothing leaves the product as it is
pub stays_given : (s : Standing) (row : Option Factor) (literal : Literal) (f p : ℕ → Bool) → literal ≡ Any → HoldsIf true s row p → GivesForIf true s s row row (with_fit literal f p)
stays_given s None literal f p is holds = (refl, λ k. subst (λ (l : Literal). (fits l (f k) && p k) ≡ true) (sym is) (holds k))
stays_given s (Some (Given name)) literal f p is holds = (refl, subst (λ (l : Literal). Holds s name (with_fit l f p)) (sym is) holds)
stays_given s (Some (Made name)) literal f p is holds = replaces_none s name literal f p is holds

module _ {M S F : Type 0} (has : M → S → Type 0) (standing : S → Standing) (tells : M → F → Entry → Type 0) (manager : M) where
  -- A call came back between others. They made no more rows than they let go, and changed no name that was given before.
  comes_between : {X : Type 0} (old first mid new : S) (result : Result X (HostRefusal F)) → Works (standing old) (standing first) → KeepsAll (standing old) (standing first)
      → Works (standing mid) (standing new) → KeepsAll (standing old) (standing new) → (standing new).rows + (standing first).rows ≤ (standing mid).rows + (standing old).rows
      → has manager new → ComesBack has standing tells manager first mid result → ComesBack has standing tells manager old new result
  unfolding gains_then
  comes_between old first mid new result before kept after keeps few own back =
      let then = gains_then IsQuiet (standing first) (standing mid) (standing new) back.works after in
      record {
        own = own;
        works = gains_then IsQuiet (standing old) (standing first) (standing new) before then;
        kept = keeps;
        few = omega (arith, few, back.few);
        rows = err_weaker (λ _. (standing mid).rows ≤ (standing first).rows) (λ _. (standing new).rows ≤ (standing old).rows) (λ _ less. omega (arith, less, few)) result back.rows;
        caused = err_weaker (IsCaused (tells manager) back.works.gained) (IsCaused (tells manager) (before.gained ++ (back.works.gained ++ after.gained)))
            (λ refusal caused. caused_behind (tells manager) before.gained (back.works.gained ++ after.gained) refusal
            (caused_before (tells manager) back.works.gained after.gained refusal caused)) result back.caused;
      }

  -- a row was given, a call came back, and the row was let go where it was made on the way
  pub comes_let : {X : Type 0} (old first mid new : S) (factor : Factor) (f : ℕ → Bool) (result : Result X (HostRefusal F)) → Gives (standing old) (standing first) factor f
      → ComesBack has standing tells manager first mid result → has manager new → IsLet (standing mid) (standing new) factor → ComesBack has standing tells manager old new result
  comes_let old first mid new (Given name) f result gives back own goes =
      comes_between old first mid new result (gives_works (standing old) (standing first) (Given name) f gives) (gives_keeps (standing old) (standing first) (Given name) f gives)
      (gains_same (standing mid) (standing new) goes)
      (λ other below. ap (λ (s : Standing). s.stands other) goes ∙ back.kept other (omega (arith, below, ap (λ (s : Standing). s.adds) gives.0)) ∙ ap (λ (s : Standing). s.stands other) gives.0)
      (omega (arith, ap (λ (s : Standing). s.rows) gives.0, ap (λ (s : Standing). s.rows) goes)) own back
  comes_let old first mid new (Made name) f result gives back own goes =
      comes_between old first mid new result gives.works gives.kept goes.works
      (λ other below. goes.kept other (λ e. absurd (omega (arith, e, below, gives.newer))) ∙ back.kept other (omega (arith, below, gives.works.more)) ∙ gives.kept other below)
      (omega (arith, gives.rows, goes.rows)) own back

  -- a call came back, and a row that was taken up was let go where it was made on the way
  pub takes_up : {X : Type 0} (old mid new : S) (factor : Factor) (result : Result X (HostRefusal F)) → ComesBack has standing tells manager old mid result → has manager new
      → IsLet (standing mid) (standing new) factor → TakesUp has standing tells manager old new factor result
  takes_up old mid new (Given name) result back own goes =
      comes_between old old mid new result (gains_none IsQuiet (standing old)) (λ other below i. (standing old).stands other) (gains_same (standing mid) (standing new) goes)
      (λ other below. ap (λ (s : Standing). s.stands other) goes ∙ back.kept other below) (omega (arith, ap (λ (s : Standing). s.rows) goes)) own back
  takes_up old mid new (Made name) result back own goes = takes_over has standing tells manager old mid new result name back own goes

  -- an answer or a refusal of another type
  pub up_ok : {X Y : Type 0} (old new : S) (factor : Factor) (x : X) (y : Y) → TakesUp has standing tells manager old new factor (Ok x) → TakesUp has standing tells manager old new factor (Ok y)
  up_ok old new (Given name) x y up = record { own = up.own; works = up.works; kept = up.kept; few = up.few; rows = tt; caused = tt }
  up_ok old new (Made name) x y up = record { own = up.own; works = up.works; kept = up.kept; rows = tt; caused = tt }

  pub up_err : (X Y : Type 0) (old new : S) (factor : Factor) (stop : HostRefusal F) → TakesUp {X = X} has standing tells manager old new factor (Err stop)
      → TakesUp {X = Y} has standing tells manager old new factor (Err stop)
  up_err X Y old new (Given name) stop up = record { own = up.own; works = up.works; kept = up.kept; few = up.few; rows = up.rows; caused = up.caused }
  up_err X Y old new (Made name) stop up = record { own = up.own; works = up.works; kept = up.kept; rows = up.rows; caused = up.caused }

  pub back_ok : {X Y : Type 0} (old new : S) (x : X) (y : Y) → ComesBack has standing tells manager old new (Ok x) → ComesBack has standing tells manager old new (Ok y)
  back_ok old new x y back = record { own = back.own; works = back.works; kept = back.kept; few = back.few; rows = tt; caused = tt }

  pub back_err : (X Y : Type 0) (old new : S) (stop : HostRefusal F) → ComesBack {X = X} has standing tells manager old new (Err stop) → ComesBack {X = Y} has standing tells manager old new (Err stop)
  back_err X Y old new stop back = record { own = back.own; works = back.works; kept = back.kept; few = back.few; rows = back.rows; caused = back.caused }

  -- a row was given
  pub comes_given : {X : Type 0} (old new : S) (factor : Factor) (f : ℕ → Bool) (x : X) → has manager new → Gives (standing old) (standing new) factor f → ComesBack has standing tells manager old new (Ok x)
  comes_given old new factor f x own gives = record {
    own = own;
    works = gives_works (standing old) (standing new) factor f gives;
    kept = gives_keeps (standing old) (standing new) factor f gives;
    few = gives_rows (standing old) (standing new) factor f gives;
    rows = tt;
    caused = tt;
  }

  -- nothing was called, and then a call came back
  pub comes_behind : {X : Type 0} (old first new : S) (result : Result X (HostRefusal F)) → standing first ≡ standing old → ComesBack has standing tells manager first new result
      → ComesBack has standing tells manager old new result
  comes_behind old first new result same back =
      comes_between old first new new result (gains_same (standing old) (standing first) same) (λ other below. ap (λ (s : Standing). s.stands other) same) (gains_none IsQuiet (standing new))
      (λ other below. back.kept other (omega (arith, below, ap (λ (s : Standing). s.adds) same)) ∙ ap (λ (s : Standing). s.stands other) same)
      (omega (arith, ap (λ (s : Standing). s.rows) same)) back.own back

  -- the session is the manager's still
  pub taken_own : {X : Type 0} (old new : S) (row : Option Factor) (result : Result X (HostRefusal F)) → TakesUpIf has standing tells manager old new row result → has manager new
  taken_own old new None result up = up.own
  taken_own old new (Some (Given name)) result up = up.own
  taken_own old new (Some (Made name)) result up = up.own

  -- a row was given, and a call that took it up was refused
  gives_over : {X : Type 0} (old mid new : S) (factor : Factor) (f : ℕ → Bool) (refusal : HostRefusal F) → Gives (standing old) (standing mid) factor f
      → TakesUp {X = X} has standing tells manager mid new factor (Err refusal) → ComesBack {X = X} has standing tells manager old new (Err refusal)
  gives_over old mid new (Given name) f refusal gives up = comes_behind old mid new (Err refusal) gives.0 up
  gives_over old mid new (Made name) f refusal gives up = comes_over has standing tells manager old mid new name f refusal gives up

  pub given_over : {X : Type 0} (empty : Bool) (old mid new : S) (row : Option Factor) (f : ℕ → Bool) (refusal : HostRefusal F) → GivesIf empty (standing old) (standing mid) row f
      → TakesUpIf {X = X} has standing tells manager mid new row (Err refusal) → ComesBack {X = X} has standing tells manager old new (Err refusal)
  given_over empty old mid new None f refusal gives up = comes_behind old mid new (Err refusal) gives.0 up
  given_over empty old mid new (Some factor) f refusal gives up = gives_over old mid new factor f refusal gives up

  -- and calls nothing
  pub stays_taken : {X : Type 0} (s : S) (row : Option Factor) (x : X) → has manager s → TakesUpIf has standing tells manager s s row (Ok x)
  stays_taken s None x own = comes_none has standing tells manager s x own
  stays_taken s (Some (Given name)) x own = comes_none has standing tells manager s x own
  stays_taken s (Some (Made name)) x own = takes_none has standing tells manager s name x own
