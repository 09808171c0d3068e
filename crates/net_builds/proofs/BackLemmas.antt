-- What a function leaves that makes a row, from what the calls in it leave.
use Rattle.std.proofs.Common.{ℕ, ◌+◌, ◌≤◌, ◌++◌, Bool, Result, Ok, Err, IfErr, IfOk, ◌∙◌, arith}
use Rattle.function_laws.specs.declared.history.Entry.{Entry}
use Rattle.function_laws.specs.declared.history.Name.{Name}
use Rattle.net_builds.specs.declared.host.HostRefusal.{HostRefusal}
use Rattle.net_builds.specs.Asked.{ComesBack, TakesOver}
use Rattle.net_builds.specs.Standings.{IsCaused, IsQuiet, KeepsAll, LetsGo, Makes, Standing, Works}
use Rattle.net_builds.proofs.StandingLemmas.{caused_before, caused_behind, gains_none, gains_then, keeps_gone, keeps_then}

-- what holds of an answer, or of a refusal, follows from what holds of it
pub ok_weaker : {X E : Type 0} (P Q : X → Type 0) → ((x : X) → P x → Q x) → (result : Result X E) → IfOk result P → IfOk result Q
ok_weaker P Q weaker (Ok x) holds = weaker x holds
ok_weaker P Q weaker (Err e) holds = tt

pub ok_both : {X E : Type 0} (P Q R : X → Type 0) → ((x : X) → P x → Q x → R x) → (result : Result X E) → IfOk result P → IfOk result Q → IfOk result R
ok_both P Q R both (Ok x) first second = both x first second
ok_both P Q R both (Err e) first second = tt

pub err_weaker : {X E : Type 0} (P Q : E → Type 0) → ((e : E) → P e → Q e) → (result : Result X E) → IfErr result P → IfErr result Q
err_weaker P Q weaker (Ok x) holds = tt
err_weaker P Q weaker (Err e) holds = weaker e holds

module _ {M S F : Type 0} (has : M → S → Type 0) (standing : S → Standing) (tells : M → F → Entry → Type 0) (manager : M) where
  -- a row was made on the way, and let go whatever was answered
  pub comes_dropped : {X : Type 0} (old first mid new : S) (result : Result X (HostRefusal F)) (gone : Name) → Works (standing old) (standing first) → KeepsAll (standing old) (standing first)
      → (standing first).rows ≤ (standing old).rows + 1 → (standing old).adds ≤ gone.generation → ComesBack has standing tells manager first mid result → has manager new
      → LetsGo (standing mid) (standing new) gone → ComesBack has standing tells manager old new result
  unfolding gains_then
  comes_dropped old first mid new result gone works kept few newer back own goes =
      let then = gains_then IsQuiet (standing first) (standing mid) (standing new) back.works goes.works in
      record {
        own = own;
        works = gains_then IsQuiet (standing old) (standing first) (standing new) works then;
        kept = keeps_gone (standing old) (standing mid) (standing new) gone (omega (arith, works.more, back.works.more)) newer
            (keeps_then (standing old) (standing first) (standing mid) works.more kept back.kept) goes;
        few = omega (arith, few, back.few, goes.rows);
        rows = err_weaker (λ _. (standing mid).rows ≤ (standing first).rows) (λ _. (standing new).rows ≤ (standing old).rows) (λ _ less. omega (arith, less, few, goes.rows)) result back.rows;
        caused = err_weaker (IsCaused (tells manager) back.works.gained) (IsCaused (tells manager) (works.gained ++ (back.works.gained ++ goes.works.gained)))
            (λ refusal caused. caused_behind (tells manager) works.gained (back.works.gained ++ goes.works.gained) refusal
            (caused_before (tells manager) back.works.gained goes.works.gained refusal caused)) result back.caused;
      }

  -- a name that was taken over was let go whatever was answered
  pub takes_over : {X : Type 0} (old mid new : S) (result : Result X (HostRefusal F)) (gone : Name) → ComesBack has standing tells manager old mid result → has manager new
      → LetsGo (standing mid) (standing new) gone → TakesOver has standing tells manager old new gone result
  unfolding gains_then
  takes_over old mid new result gone back own goes = record {
    own = own;
    works = gains_then IsQuiet (standing old) (standing mid) (standing new) back.works goes.works;
    kept = λ other below apart. goes.kept other apart ∙ back.kept other below;
    rows = err_weaker (λ _. (standing mid).rows ≤ (standing old).rows) (λ _. (standing new).rows + 1 ≤ (standing old).rows) (λ _ less. omega (arith, less, goes.rows)) result back.rows;
    caused = err_weaker (IsCaused (tells manager) back.works.gained) (IsCaused (tells manager) (back.works.gained ++ goes.works.gained))
        (caused_before (tells manager) back.works.gained goes.works.gained) result back.caused;
  }

  -- it is its own in place of itself
  pub takes_none : {X : Type 0} (s : S) (gone : Name) (x : X) → has manager s → TakesOver {X = X} has standing tells manager s s gone (Ok x)
  takes_none s gone x own = record { own = own; works = gains_none IsQuiet (standing s); kept = λ other below apart i. (standing s).stands other; rows = tt; caused = tt }

  -- a row was made, and a call that took it over was refused
  pub comes_over : {X : Type 0} (old mid new : S) (gone : Name) (f : ℕ → Bool) (refusal : HostRefusal F) → Makes (standing old) (standing mid) gone f
      → TakesOver {X = X} has standing tells manager mid new gone (Err refusal) → ComesBack {X = X} has standing tells manager old new (Err refusal)
  unfolding gains_then
  comes_over old mid new gone f refusal makes over = record {
    own = over.own;
    works = gains_then IsQuiet (standing old) (standing mid) (standing new) makes.works over.works;
    kept = λ other below. over.kept other (omega (arith, below, makes.works.more)) (λ e. omega (arith, e, below, makes.newer)) ∙ makes.kept other below;
    few = omega (arith, over.rows, makes.rows);
    rows = omega (arith, over.rows, makes.rows);
    caused = caused_behind (tells manager) makes.works.gained over.works.gained refusal over.caused;
  }

  -- a row was made
  pub comes_made : {X : Type 0} (old new : S) (name : Name) (f : ℕ → Bool) (x : X) → has manager new → Makes (standing old) (standing new) name f
      → ComesBack {X = X} has standing tells manager old new (Ok x)
  comes_made old new name f x own makes = record { own = own; works = makes.works; kept = makes.kept; few = makes.rows; rows = tt; caused = tt }

  -- nothing was called
  pub comes_none : {X : Type 0} (s : S) (x : X) → has manager s → ComesBack {X = X} has standing tells manager s s (Ok x)
  comes_none s x own = record { own = own; works = gains_none IsQuiet (standing s); kept = λ other below i. (standing s).stands other; few = omega arith; rows = tt; caused = tt }
