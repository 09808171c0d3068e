-- The rows of a stored diagram while they are made.
use Rattle.std.proofs.Common.{◌≡◌, ◌⊎◌, ℕ, zero, suc, ◌+◌, ◌-◌, ◌*◌, ◌<◌, ◌≤◌, ◌^◌, Bool, not, ℤ, pos, negsuc, List, [], ◌∷◌, ◌++◌, Option, Some, None, Result, Err, length, length-append, map, nat_abs, replicate, inl, inr, refl, sym, ap, ap₂, subst, ◌∙◌, arith}
use Rattle.std.specs.Prelude.{slice_get}
use Rattle.std.specs.Int.{is_negative}
use Rattle.std.proofs.Math.ListN.{set}
use mathlib.Core.Logic.{dite}
use native.Mathlib.Decide.{ℕ_discrete}
use Rattle.std.proofs.lemmas.Bool.Decides.{nat_tests}
use Rattle.std.proofs.lemmas.List.{get_or-set_same, get_or-set_other, length-replicate, length-set}
use Rattle.std.proofs.lemmas.List.Elements.{All-append, All-cons, All-nil, All-weaker}
use Rattle.std.proofs.lemmas.Option.{none-some, same_Some}
use Rattle.edge_bits.specs.declared.edges.Line.{Line}
use Rattle.dddmp_text.specs.Bounds.{IsBounded}
use Rattle.diagram_dumps.specs.declared.dump.Dump.{Dump}
use Rattle.diagram_dumps.specs.Dumps.{line_value, root_value, signed}
use Rattle.diagram_dumps.proofs.LineValues.{line_is}
use Rattle.function_laws.specs.declared.history.Entry.{Entry}
use Rattle.function_laws.specs.declared.history.Function.{Function}
use Rattle.function_laws.specs.declared.history.Function.TheVariants.{Bdd}
use Rattle.function_laws.specs.declared.history.Name.{Name}
use Rattle.function_laws.specs.Lists.{list_of}
use Rattle.function_laws.specs.Values.{choice, negation}
use Rattle.function_laws.proofs.ValueLemmas.{everywhere}
use Rattle.net_builds.specs.Building.{row_at}
use Rattle.net_builds.specs.Holdings.{names_in}
use Rattle.net_builds.specs.Asked.{ComesBack}
use Rattle.net_builds.specs.Loads.{HoldLines, IsStack, IsTurned, StaysMade, turned_if}
use Rattle.net_builds.specs.Signals.{AllHold}
use Rattle.net_builds.specs.Standings.{HasRoom, Holds, IsCaused, IsLive, IsQuiet, KeepsAll, Standing, Works}
use Rattle.net_builds.specs.declared.host.HostRefusal.{HostRefusal}
use Rattle.net_builds.proofs.BackLemmas.{err_weaker}
use Rattle.net_builds.proofs.HoldingLemmas.{more_in, none_in, rising_append}
use Rattle.net_builds.proofs.OutputNames.{none_at}
use Rattle.net_builds.proofs.StandingLemmas.{caused_behind, gains_then, holds_live, kept_live, still_holds}

-- no row
pub stack_none : (s : Standing) → s.rows ≡ 0 → IsStack s []
stack_none s none = record { live = All-nil (IsLive s); rising = tt; counted = omega (arith, none) }

-- a function may be given by another that has its values
pub holds_as : (s : Standing) (name : Name) (f g : ℕ → Bool) → f ≡ g → Holds s name f → Holds s name g
holds_as s name f g same = subst (Holds s name) same

-- calls that keep all names that were given
module _ (a b : Standing) (more : a.adds ≤ b.adds) (kept : KeepsAll a b) where
  -- and make no row
  pub stack_same : (made : List Name) → b.rows ≤ a.rows → IsStack a made → IsStack b made
  stack_same made rows stack = record {
    live = All-weaker (IsLive a) (IsLive b) (λ name. kept_live a b name more kept) made stack.live;
    rising = stack.rising;
    counted = omega (arith, rows, stack.counted);
  }

  -- or one
  pub stack_more : (made : List Name) (name : Name) → IsLive b name → a.adds ≤ name.generation → b.rows ≤ a.rows + 1 → IsStack a made → IsStack b (made ++ name ∷ [])
  stack_more made name live newer rows stack = record {
    live = All-append (IsLive b) made (name ∷ []) (All-weaker (IsLive a) (IsLive b) (λ other. kept_live a b other more kept) made stack.live) (All-cons (IsLive b) name [] live (All-nil (IsLive b)));
    rising = rising_append a.adds made (name ∷ []) stack.rising (All-nil (λ (other : Name). name.generation < other.generation), tt)
        (All-weaker (IsLive a) (λ (other : Name). other.generation < a.adds) (λ other held. held.2) made stack.live)
        (All-cons (λ (other : Name). a.adds ≤ other.generation) name [] newer (All-nil (λ (other : Name). a.adds ≤ other.generation)));
    counted = omega (arith, rows, stack.counted, length-append made (name ∷ []));
  }

  module _ (vars : b.vars ≡ a.vars) where
    pub holds_later : (name : Name) (f : ℕ → Bool) → Holds a name f → Holds b name f
    holds_later name f holds = still_holds a b name more (kept name holds.given) f vars holds

    pub lines_later : (dump : Dump) (made : List Name) → HoldLines a dump made → HoldLines b dump made
    lines_later dump made lines place name within at = holds_later name (line_value dump (place + 1)) (lines place name within at)

    pub all_later : (fs : List (ℕ → Bool)) (names : List Name) → AllHold a fs names → AllHold b fs names
    all_later [] [] hold = tt
    all_later [] (name ∷ names) hold = absurd hold
    all_later (f ∷ fs) [] hold = absurd hold
    all_later (f ∷ fs) (name ∷ names) hold = (holds_later name f hold.0, all_later fs names hold.1)

    -- the diagram's rows, where none was made
    pub turned_later : (dump : Dump) (made : List Name) (turned : List (Option Name)) → b.rows ≤ a.rows → IsTurned a dump made turned → IsTurned b dump made turned
    turned_later dump made turned rows is = record {
      stack = stack_same made rows is.stack;
      lines = lines_later dump made is.lines;
      wide = is.wide;
      long = is.long;
      complements = λ index name at. holds_later name (negation (line_value dump index)) (is.complements index name at);
    }

-- one function more
pub all_more : (s : Standing) (fs : List (ℕ → Bool)) (names : List Name) (f : ℕ → Bool) (name : Name) → AllHold s fs names → Holds s name f → AllHold s (fs ++ f ∷ []) (names ++ name ∷ [])
all_more s [] [] f name hold holds = (holds, tt)
all_more s [] (other ∷ names) f name hold holds = absurd hold
all_more s (g ∷ fs) [] f name hold holds = absurd hold
all_more s (g ∷ fs) (other ∷ names) f name hold holds = (hold.0, all_more s fs names f name hold.1 holds)

-- what names stand for
pub all_stand : (s : Standing) (fs : List (ℕ → Bool)) (names : List Name) → AllHold s fs names → map s.stands names ≡ map (λ f. Some (Bdd (list_of (2 ^ s.vars) f))) fs
all_stand s [] [] hold = refl
all_stand s [] (name ∷ names) hold = absurd hold
all_stand s (f ∷ fs) [] hold = absurd hold
all_stand s (f ∷ fs) (name ∷ names) hold = ap₂ (λ (o : Option Function) (os : List (Option Function)). o ∷ os) hold.0.stands (all_stand s fs names hold.1)

-- one of some names, or the last
last_is : (xs : List Name) (x y : Name) (place : ℕ) → slice_get (xs ++ x ∷ []) place ≡ Some y → (slice_get xs place ≡ Some y) ⊎ ((place ≡ length xs) × (x ≡ y))
last_is [] x y zero at = inr (refl, cc)
last_is [] x y (suc place) at = absurd (cc at)
last_is (z ∷ xs) x y zero at = inl at
last_is (z ∷ xs) x y (suc place) at = by (last_is xs x y place at)
  where
    by : (slice_get xs place ≡ Some y) ⊎ ((place ≡ length xs) × (x ≡ y)) → (slice_get (z ∷ xs) (suc place) ≡ Some y) ⊎ ((suc place ≡ length (z ∷ xs)) × (x ≡ y))
    by (inl here) = inl here
    by (inr (e, same)) = inr (ap suc e, same)

module _ (dump : Dump) where
  -- the row of a line more, or of something that is no line's
  pub lines_more : (s : Standing) (made : List Name) (name : Name) → HoldLines s dump made → (length made ≤ length dump.nodes → Holds s name (line_value dump (length made + 1)))
      → HoldLines s dump (made ++ name ∷ [])
  lines_more s made name lines holds place other within at = by (last_is made name other place at)
    where
      by : (slice_get made place ≡ Some other) ⊎ ((place ≡ length made) × (name ≡ other)) → Holds s other (line_value dump (place + 1))
      by (inl here) = lines place other within here
      by (inr (e, same)) = subst (λ (n : Name). Holds s n (line_value dump (place + 1))) same (subst (λ i. Holds s name (line_value dump (i + 1))) (sym e) (holds (omega (arith, e, within))))

  pub lines_none : (s : Standing) → HoldLines s dump []
  lines_none s place name within at = absurd (none-some name at)

  -- an index without its sign, and turned where it is negative
  turned_signed : (z : ℤ) (k : ℕ) → turned_if (is_negative z) (line_value dump (nat_abs z)) k ≡ signed (λ index. line_value dump index k) z
  turned_signed (pos index) k = grind (arith, nat_tests)
  turned_signed (negsuc below) k = let more : suc below ≡ below + 1 = omega arith in ap (λ i. not (line_value dump i k)) more

  pub root_is : (root : ℤ) → turned_if (is_negative root) (line_value dump (nat_abs root)) ≡ root_value dump root
  root_is root = everywhere (turned_if (is_negative root) (line_value dump (nat_abs root))) (root_value dump root) (turned_signed root)

  pub line_made : IsBounded dump → (place : ℕ) (line : Line) → slice_get dump.nodes place ≡ Some line
      → choice line.var (line_value dump line.hi) (turned_if (is_negative line.lo) (line_value dump (nat_abs line.lo))) ≡ line_value dump (place + 2)
  line_made bounded place line at = ap (choice line.var (line_value dump line.hi)) (root_is line.lo) ∙ sym (line_is dump bounded.earlier place line at)

  -- at first no complement has a row
  pub turned_none : (s : Standing) (made : List Name) (turned : List (Option Name)) → turned ≡ replicate (length dump.nodes + 2) None → IsStack s made → HoldLines s dump made
      → length made ≡ length dump.nodes + 1 → IsTurned s dump made turned
  turned_none s made turned is stack lines long = record {
    stack = stack;
    lines = lines;
    wide = ap length is ∙ length-replicate (length dump.nodes + 2) None;
    long = omega (arith, long, ap (λ (rows : List (Option Name)). length (names_in rows)) is, ap (λ (names : List Name). length names) (none_in (length dump.nodes + 2)));
    complements = λ index name at. absurd (none-some name (sym (none_at (length dump.nodes + 2) index) ∙ ap (λ (rows : List (Option Name)). row_at rows index) (sym is) ∙ at));
  }

  -- the complement of an index was made
  module _ (a b : Standing) (made : List Name) (turned : List (Option Name)) (index : ℕ) (name : Name) (more : a.adds ≤ b.adds) (kept : KeepsAll a b) (vars : b.vars ≡ a.vars) where
    pub turned_more : index ≤ length dump.nodes + 1 → row_at turned index ≡ None → Holds b name (negation (line_value dump index)) → a.adds ≤ name.generation → b.rows ≤ a.rows + 1
        → IsTurned a dump made turned → IsTurned b dump (made ++ name ∷ []) (set turned index (Some name))
    turned_more within none holds newer rows is = record {
      stack = stack_more a b more kept made name (holds_live b name (negation (line_value dump index)) holds) newer rows is.stack;
      lines = lines_more b made name (lines_later a b more kept vars dump made is.lines) (λ few. absurd (omega (arith, few, is.long)));
      wide = length-set turned index (Some name) ∙ is.wide;
      long = omega (arith, length-append made (name ∷ []), is.long, more_in turned index name (omega (arith, within, is.wide)) none);
      complements = λ other one at. dite (ℕ_discrete other index)
          (λ e. let here : Some name ≡ Some one = sym (get_or-set_same turned index (Some name) None (omega (arith, within, is.wide))) ∙ ap (row_at (set turned index (Some name))) (sym e) ∙ at in
          subst (λ i. Holds b one (negation (line_value dump i))) (sym e) (subst (λ (n : Name). Holds b n (negation (line_value dump index))) (same_Some name one here) holds))
          (λ apart. holds_later a b more kept vars one (negation (line_value dump other)) (is.complements other one (sym (get_or-set_other turned index other (Some name) None apart) ∙ at)));
    }

-- no more complements than indices
few_in : (rows : List (Option Name)) → length (names_in rows) ≤ length rows
few_in [] = omega arith
few_in (None ∷ rows) = omega (arith, few_in rows)
few_in (Some name ∷ rows) = omega (arith, few_in rows)

pub few_made : (dump : Dump) (s : Standing) (made : List Name) (turned : List (Option Name)) → IsTurned s dump made turned → length made ≤ 2 * length dump.nodes + 3
few_made dump s made turned is = omega (arith, is.long, is.wide, few_in turned)

-- and one less where one has none
pub fewer_made : (dump : Dump) (s : Standing) (made : List Name) (turned : List (Option Name)) (index : ℕ) (name : Name) → IsTurned s dump made turned → index ≤ length dump.nodes + 1
    → row_at turned index ≡ None → length made < 2 * length dump.nodes + 3
fewer_made dump s made turned index name is within none =
    omega (arith, is.long, is.wide, few_in (set turned index (Some name)), length-set turned index (Some name), more_in turned index name (omega (arith, within, is.wide)) none)

-- the row of an index is that of its line
pub line_row : (s : Standing) (dump : Dump) (made : List Name) (index : ℕ) (row : Name) → 1 ≤ index → index ≤ length dump.nodes + 1 → slice_get made (index - 1) ≡ Some row → HoldLines s dump made
    → Holds s row (line_value dump index)
line_row s dump made index row low high at lines =
    let same : (index - 1) + 1 ≡ index = omega (arith, low) in
    subst (λ i. Holds s row (line_value dump i)) same (lines (index - 1) row (omega (arith, high)) at)

-- what is left while a diagram is made
module _ {M S F : Type 0} (has : M → S → Type 0) (standing : S → Standing) (tells : M → F → Entry → Type 0) (manager : M) where
  -- some rows were made, and then a call was refused
  pub stays_refused : {X Y : Type 0} (old mid new : S) (made : List Name) (refusal : HostRefusal F) → Works (standing old) (standing mid) → HasRoom (standing new) → IsStack (standing new) made
      → ComesBack {X = X} has standing tells manager mid new (Err refusal) → StaysMade {X = Y} has standing tells manager old new made (Err refusal)
  unfolding gains_then
  stays_refused old mid new made refusal works room stack back = record {
    own = back.own;
    works = gains_then IsQuiet (standing old) (standing mid) (standing new) works back.works;
    room = room;
    stack = stack;
    caused = caused_behind (tells manager) works.gained back.works.gained refusal back.caused;
  }

  pub stays_then : {X : Type 0} (old mid new : S) (made : List Name) (result : Result X (HostRefusal F)) → Works (standing old) (standing mid) → StaysMade has standing tells manager mid new made result
      → StaysMade has standing tells manager old new made result
  unfolding gains_then
  stays_then old mid new made result works stays = record {
    own = stays.own;
    works = gains_then IsQuiet (standing old) (standing mid) (standing new) works stays.works;
    room = stays.room;
    stack = stays.stack;
    caused = err_weaker (IsCaused (tells manager) stays.works.gained) (IsCaused (tells manager) (works.gained ++ stays.works.gained))
        (λ refusal. caused_behind (tells manager) works.gained stays.works.gained refusal) result stays.caused;
  }
