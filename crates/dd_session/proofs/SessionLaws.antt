-- What the clause of a call tells of its session, for callers to cite in place of the clause.
use Rattle.std.proofs.Common.{◌≡◌, ℕ, ℤ, pos, Bool, true, false, cond, ◌&&◌, ◌==◌, Option, Some, None, option_map, List, [], ◌∷◌, length, take_all, IsTrue, ◌↔◌, refl, ap, ap₂, sym, subst, ◌∙◌, arith, eq-eqb}
use Rattle.std.specs.Prelude.{◌^◌, ◌%◌, ◌<◌, nat_lt, if◌then◌else◌}
use Rattle.std.specs.Cmp.{both_ways}
use Rattle.std.proofs.lemmas.Bool.{le-ltb}
use Rattle.edge_bits.specs.Words.{digit}
use Rattle.function_laws.specs.declared.history.Name.{Name}
use Rattle.function_laws.specs.declared.history.Function.{Function}
use Rattle.function_laws.specs.declared.history.Function.TheVariants.{Bdd, Add, Zdd}
use Rattle.function_laws.specs.declared.history.Call.{Call}
use Rattle.function_laws.specs.declared.history.Call.TheVariants as calls
use Rattle.function_laws.specs.declared.history.Reply.{Reply}
use Rattle.function_laws.specs.declared.history.Reply.TheVariants as replies
use Rattle.function_laws.specs.Tables.{Sizes, Table, same_name}
use Rattle.function_laws.specs.Functions.{leq_of}
use Rattle.function_laws.specs.IrredundantCovers.{IsIrredundant, cover_value}
use Rattle.function_laws.specs.Lists.{list_of, truth, whole}
use Rattle.function_laws.specs.Outcomes.{Outcome, makes, restricts, covers, is_apart, fetches, counts, overflows, is_most, compares, tells, shows, is_done, as_bdd, as_zdd, in_range, when, with_one, with_two}
use Rattle.function_laws.specs.Steps.{outcome, value_at, with_result, IsAllowed, Replies, after}
use Rattle.function_laws.specs.Values.{assignment_of}
use Rattle.function_laws.specs.Widening.{at_sizes}
use Rattle.function_laws.proofs.ListLemmas.{length-list_of, same_truths, truth-list_of}
use Rattle.seat_guard.specs.Views.{stands_for}
use Rattle.edge_bits.specs.declared.edges.Kind.{Kind}
use Rattle.function_laws.specs.declared.making.Making.{Making}
use Rattle.function_laws.specs.declared.making.Making.TheVariants as makings
use Rattle.function_laws.specs.declared.making.BddMaking.TheVariants as bdds
use Rattle.function_laws.specs.declared.making.ZddMaking.TheVariants as zdds
use Rattle.function_laws.specs.Makings.{Taken, function, variable, element, value, number, bit, variables, pairs, literals, cover_function, covered, has_literals, taken}
use Rattle.operator_calls.specs.Taking.{CanTake, CanTakeAll}
use Rattle.dd_session.specs.MadeRows.{HasTaken}
use Rattle.dd_session.specs.Sessions.{Called, IsLiveAs, Seen, SeenIn, elements_in, kind_of, known_sizes, stands_now, variables_in}
use Rattle.dd_session.proofs.Naming.{same_name-refl}

kind_stays : (z : Sizes) (f : Function) → kind_of (at_sizes z f) ≡ kind_of f
kind_stays z (Bdd f) = refl
kind_stays z (Add f) = refl
kind_stays z (Zdd p) = refl

-- a row of a kind stands for a function of it now, and what stands for one is a row of its kind
pub now_live : (k : Kind) (s : Seen) (name : Name) → IsLiveAs k s name → (f : Function) × (stands_now s name ≡ Some f) × (kind_of f ≡ k)
now_live k s name live = (at_sizes (known_sizes s) live.0, ap (option_map (at_sizes (known_sizes s))) live.1, kind_stays (known_sizes s) live.0 ∙ live.2)

pub live_now : (k : Kind) (s : Seen) (name : Name) (f : Function) → stands_now s name ≡ Some f → kind_of f ≡ k → IsLiveAs k s name
live_now k s name f is kind = by (stands_for s.rows name) refl is
  where
    by : (o : Option Function) → stands_for s.rows name ≡ o → option_map (at_sizes (known_sizes s)) o ≡ Some f → IsLiveAs k s name
    by None at e = absurd (let z : None ≡ Some f = e in cc)
    by (Some g) at e = let same : at_sizes (known_sizes s) g ≡ f = cc in (g, at, sym (kind_stays (known_sizes s) g) ∙ ap kind_of same ∙ kind)

-- what may be made with the variables and elements that the manager was opened with may be made
pub can_still : (s : Seen) (making : Making Name (List ℕ) (List (ℕ × Name))) → CanTakeAll (λ k a. IsLiveAs k s a) s.manager.vars s.manager.vars s.manager.elements (taken making) → HasTaken s making
can_still s making can = all (taken making) can
  where
    one : (t : Taken Name) → CanTake (λ k a. IsLiveAs k s a) s.manager.vars s.manager.vars s.manager.elements t → CanTake (λ k a. IsLiveAs k s a) s.manager.vars (variables_in s) (elements_in s) t
    one (function k a) is = is
    one (variable v) below = omega (arith, below)
    one (element e) below = omega (arith, below)
    one (value z) is = is
    one (number z) is = tt
    one (bit b) is = tt
    one (variables vs) below = λ k v inside. let b = below k v inside in omega (arith, b)
    one (pairs ps) can = ((λ k pair inside. let b = can.0 k pair inside in omega (arith, b)), can.1, can.2)
    one literals can = omega (arith, can)

    all : (ts : List (Taken Name)) → CanTakeAll (λ k a. IsLiveAs k s a) s.manager.vars s.manager.vars s.manager.elements ts → CanTakeAll (λ k a. IsLiveAs k s a) s.manager.vars (variables_in s) (elements_in s) ts
    all [] can = tt
    all (t ∷ ts) can = (one t can.0, all ts can.1)

-- a table in which the session is seen, with this board
abbrev pub table_of : Seen → (ℕ → Option Function) → Table
table_of s board = record {
  sizes = known_sizes s;
  live = λ p name. cond (p == s.number) (stands_now s name) None;
  given = λ p name. (p == s.number) && nat_lt name.generation s.adds;
  cells = board;
}

pub seen_in_table : (s : Seen) (board : ℕ → Option Function) → SeenIn s (table_of s board)
seen_in_table s board = record {
  grown = (omega arith, omega arith);
  live = λ name. ap (λ b. cond b (stands_now s name) None) (eq-eqb s.number s.number refl);
  fresh = λ name le. ap (λ b. (s.number == s.number) && b) (le-ltb name.generation s.adds le) ∙ none_and (s.number == s.number);
}
  where
    none_and : (b : Bool) → (b && false) ≡ false
    none_and true = refl
    none_and false = refl

module _ (old new : Seen) (call : Call) (reply : Reply) (place : ℕ) (called : Called old new call reply place) where
  abbrev pub before : Table
  before = table_of old called.board

  abbrev stepped : IsAllowed before old.number call reply × SeenIn new (after before old.number call reply) × ((after before old.number call reply).sizes ≡ known_sizes new)
  stepped = called.step before (seen_in_table old called.board) refl (sym called.sizes_are)

  -- the reply is one that the call may have
  pub is_allowed : IsAllowed before old.number call reply
  is_allowed = stepped.0

  -- what the names stand for afterwards
  pub stands_after : (name : Name) → stands_now new name ≡ (after before old.number call reply).live old.number name
  stands_after name =
      ap (λ (z : Sizes). option_map (at_sizes z) (stands_for new.rows name)) (sym stepped.2) ∙ sym (stepped.1.live name) ∙ ap (λ p. (after before old.number call reply).live p name) called.number_is

  pub stood_before : (name : Name) → before.live old.number name ≡ stands_now old name
  stood_before name = ap (λ b. cond b (stands_now old name) None) (eq-eqb old.number old.number refl)

  -- a call that leaves the table as it is leaves each name what it stands for
  pub stands_still : after before old.number call reply ≡ before → (name : Name) → stands_now new name ≡ stands_now old name
  stands_still same name = stands_after name ∙ ap (λ (t : Table). t.live old.number name) same ∙ stood_before name

-- a name that was added stands for the function, and each other name for what it stood for
module _ (s : ℕ) (t : Table) (name : Name) where
  with_here : (f : Function) → cond ((s == s) && same_name name name) (Some f) (t.live s name) ≡ Some f
  with_here f = ap₂ (λ a b. cond (a && b) (Some f) (t.live s name)) (eq-eqb s s refl) (same_name-refl name)

  with_other : (f : Function) (other : Name) → same_name other name ≡ false → cond ((s == s) && same_name other name) (Some f) (t.live s other) ≡ t.live s other
  with_other f other apart = ap (λ b. cond ((s == s) && b) (Some f) (t.live s other)) apart ∙ by (s == s)
    where
      by : (b : Bool) → cond (b && false) (Some f) (t.live s other) ≡ t.live s other
      by true = refl
      by false = refl

-- a call that made a row
module _ (old new : Seen) (call : Call) (name : Name) (place : ℕ) (called : Called old new call (replies.Made name) place) where
  -- it stands for what comes of the call
  pub made_as : (f : Function) → outcome (table_of old called.board) old.number call ≡ Some (makes f) → stands_now new name ≡ Some f
  made_as f is = stands_after old new call (replies.Made name) place called name ∙ ap (λ o. (with_result (table_of old called.board) old.number name o).live old.number name) is ∙ with_here old.number (table_of old called.board) name f

  pub made_is_live : (f : Function) × (stands_now new name ≡ Some f)
  made_is_live = by (is_allowed old new call (replies.Made name) place called)
    where
      by : IsAllowed (table_of old called.board) old.number call (replies.Made name) → (f : Function) × (stands_now new name ≡ Some f)
      by (makes f, is, replies) = (f, made_as f is)
      by (restricts f g, is, replies) = absurd replies
      by (covers f g, is, replies) = absurd replies
      by (fetches f p, is, replies) = absurd replies
      by (counts f n, is, replies) = absurd replies
      by (overflows, is, replies) = absurd replies
      by (is_apart, is, replies) = absurd replies
      by (is_most, is, replies) = absurd replies
      by (compares f g, is, replies) = absurd replies
      by (tells b, is, replies) = absurd replies
      by (shows z, is, replies) = absurd replies
      by (is_done, is, replies) = absurd replies

  -- and each other name for what it stood for
  pub made_stays : (f : Function) → outcome (table_of old called.board) old.number call ≡ Some (makes f) → (other : Name) → same_name other name ≡ false → stands_now new other ≡ stands_now old other
  made_stays f is other apart =
      stands_after old new call (replies.Made name) place called other ∙ ap (λ o. (with_result (table_of old called.board) old.number name o).live old.number other) is
      ∙ with_other old.number (table_of old called.board) name f other apart ∙ stood_before old new call (replies.Made name) place called other

-- a fetch
module _ (old new : Seen) (call : Call) (name : Name) (posted : Bool) (place : ℕ) (called : Called old new call (replies.Fetched name posted) place) where
  pub fetched_is_live : (f : Function) × (stands_now new name ≡ Some f)
  fetched_is_live = by (is_allowed old new call (replies.Fetched name posted) place called)
    where
      live : (f : Function) (p : Bool) → outcome (table_of old called.board) old.number call ≡ Some (fetches f p) → stands_now new name ≡ Some f
      live f p is = stands_after old new call (replies.Fetched name posted) place called name ∙ ap (λ o. (with_result (table_of old called.board) old.number name o).live old.number name) is ∙ with_here old.number (table_of old called.board) name f

      by : IsAllowed (table_of old called.board) old.number call (replies.Fetched name posted) → (f : Function) × (stands_now new name ≡ Some f)
      by (fetches f p, is, replies) = (f, live f p is)
      by (makes f, is, replies) = absurd replies
      by (restricts f g, is, replies) = absurd replies
      by (covers f g, is, replies) = absurd replies
      by (counts f n, is, replies) = absurd replies
      by (overflows, is, replies) = absurd replies
      by (is_apart, is, replies) = absurd replies
      by (is_most, is, replies) = absurd replies
      by (compares f g, is, replies) = absurd replies
      by (tells b, is, replies) = absurd replies
      by (shows z, is, replies) = absurd replies
      by (is_done, is, replies) = absurd replies

-- a name stands for the function that was chosen for it
pub chosen_as : (old new : Seen) (call : Call) (name : Name) (g : Function) (place : ℕ) → Called old new call (replies.Chose name g) place → stands_now new name ≡ Some g
chosen_as old new call name g place called = stands_after old new call (replies.Chose name g) place called name ∙ with_here old.number (table_of old called.board) name g

-- a truth, a value, a refusal and an overflow change no name
pub told_stays : (old new : Seen) (call : Call) (b : Bool) (place : ℕ) → Called old new call (replies.Truth b) place → (name : Name) → stands_now new name ≡ stands_now old name
told_stays old new call b place called = stands_still old new call (replies.Truth b) place called refl

pub valued_stays : (old new : Seen) (call : Call) (z : ℤ) (place : ℕ) → Called old new call (replies.Value z) place → (name : Name) → stands_now new name ≡ stands_now old name
valued_stays old new call z place called = stands_still old new call (replies.Value z) place called refl

pub full_stays : (old new : Seen) (call : Call) (in_use need place : ℕ) → Called old new call (replies.Full in_use need) place → (name : Name) → stands_now new name ≡ stands_now old name
full_stays old new call in_use need place called = stands_still old new call (replies.Full in_use need) place called refl

pub overflowed_stays : (old new : Seen) (call : Call) (place : ℕ) → Called old new call replies.Overflow place → (name : Name) → stands_now new name ≡ stands_now old name
overflowed_stays old new call place called = stands_still old new call replies.Overflow place called refl

-- and so do bounds that are apart
pub apart_stays : (old new : Seen) (call : Call) (place : ℕ) → Called old new call replies.Apart place → (name : Name) → stands_now new name ≡ stands_now old name
apart_stays old new call place called = stands_still old new call replies.Apart place called refl

-- and so do a post and a sweep
pub posted_stays : (old new : Seen) (i : ℕ) (a : Name) (place : ℕ) → Called old new (calls.Post i a) replies.Done place → (name : Name) → stands_now new name ≡ stands_now old name
posted_stays old new i a place called name = stands_after old new (calls.Post i a) replies.Done place called name ∙ stood_before old new (calls.Post i a) replies.Done place called name

pub swept_stays : (old new : Seen) (place : ℕ) → Called old new calls.Sweep replies.Done place → (name : Name) → stands_now new name ≡ stands_now old name
swept_stays old new place called = stands_still old new calls.Sweep replies.Done place called refl

-- a drop takes its name away, and no other
pub dropped_stays : (old new : Seen) (a : Name) (place : ℕ) → Called old new (calls.DropRow a) replies.Done place → (name : Name) → same_name name a ≡ false → stands_now new name ≡ stands_now old name
dropped_stays old new a place called name apart =
    stands_after old new (calls.DropRow a) replies.Done place called name ∙ ap (λ b. cond ((old.number == old.number) && b) None ((table_of old called.board).live old.number name)) apart ∙ by (old.number == old.number)
    ∙ stood_before old new (calls.DropRow a) replies.Done place called name
  where
    by : (b : Bool) → cond (b && false) None ((table_of old called.board).live old.number name) ≡ (table_of old called.board).live old.number name
    by true = refl
    by false = refl

some_same : (x y : Outcome) → Some x ≡ Some y → x ≡ y
some_same x y e = cc

-- what a comparison was told is right
pub compared : (old new : Seen) (call : Call) (b : Bool) (place : ℕ) (called : Called old new call (replies.Truth b) place) (f g : Function) → outcome (table_of old called.board) old.number call ≡ Some (compares f g) → IsTrue b ↔ (f ≡ g)
compared old new call b place called f g is = by (is_allowed old new call (replies.Truth b) place called)
  where
    by : IsAllowed (table_of old called.board) old.number call (replies.Truth b) → IsTrue b ↔ (f ≡ g)
    by (o, at, says) = subst (λ (x : Outcome). Replies (table_of old called.board) old.number x (replies.Truth b)) (some_same o (compares f g) (sym at ∙ is)) says

-- and so is the value that a call told
pub shown_as : (old new : Seen) (call : Call) (told z : ℤ) (place : ℕ) (called : Called old new call (replies.Value told) place) → outcome (table_of old called.board) old.number call ≡ Some (shows z) → told ≡ z
shown_as old new call told z place called is = by (is_allowed old new call (replies.Value told) place called)
  where
    by : IsAllowed (table_of old called.board) old.number call (replies.Value told) → told ≡ z
    by (o, at, says) = subst (λ (x : Outcome). Replies (table_of old called.board) old.number x (replies.Value told)) (some_same o (shows z) (sym at ∙ is)) says

-- the value of a row of any kind
pub evaluated_as : (old new : Seen) (a : Name) (bits : List Bool) (told : ℤ) (place : ℕ) → Called old new (calls.Eval a bits) (replies.Value told) place → (f : Function) → stands_now old a ≡ Some f
    → told ≡ value_at (known_sizes old) f bits
evaluated_as old new a bits told place called f is =
    let sizes = known_sizes old in
    shown_as old new (calls.Eval a bits) told (value_at sizes f bits) place called
    (ap (λ o. with_one o (λ g. shows (value_at sizes g bits))) (stood_before old new (calls.Eval a bits) (replies.Value told) place called a ∙ is))

-- of a family it tells whether the elements whose bits are set are a member
pub member_told : (old new : Seen) (a : Name) (bits : List Bool) (told : ℤ) (place : ℕ) → Called old new (calls.Eval a bits) (replies.Value told) place → (p : List Bool) → stands_now old a ≡ Some (Zdd p)
    → length bits ≡ old.manager.elements → told ≡ pos (digit (truth p (assignment_of bits)))
member_told old new a bits told place called p is long =
    evaluated_as old new a bits told place called (Zdd p) is ∙ ap (λ bs. pos (digit (truth p (assignment_of bs)))) (take_all (elements_in old) bits (omega (arith, long)))

-- an operation on numbers whose values may be out of range
module _ (old new : Seen) (call : Call) (place : ℕ) where
  -- it made a row where all are in range, which stands for them
  pub made_exact : (name : Name) (called : Called old new call (replies.Made name) place) (o : Option (List ℤ)) → outcome (table_of old called.board) old.number call ≡ Some (in_range o)
      → (f : List ℤ) × (o ≡ Some f) × (stands_now new name ≡ Some (Add f))
  made_exact name called (Some f) is = (f, refl, made_as old new call name place called (Add f) is)
  made_exact name called None is = absurd (by (is_allowed old new call (replies.Made name) place called))
    where
      by : IsAllowed (table_of old called.board) old.number call (replies.Made name) → ⊥
      by (o, at, says) = subst (λ (x : Outcome). Replies (table_of old called.board) old.number x (replies.Made name)) (some_same o overflows (sym at ∙ is)) says

  -- and it was told as out of range only where one is
  pub overflowed : (called : Called old new call replies.Overflow place) (o : Option (List ℤ)) → outcome (table_of old called.board) old.number call ≡ Some (in_range o) → o ≡ None
  overflowed called None is = refl
  overflowed called (Some f) is = absurd (by (is_allowed old new call replies.Overflow place called))
    where
      by : IsAllowed (table_of old called.board) old.number call replies.Overflow → ⊥
      by (o, at, says) = subst (λ (x : Outcome). Replies (table_of old called.board) old.number x replies.Overflow) (some_same o (makes (Add f)) (sym at ∙ is)) says

-- an irredundant cover between two bounds
module _ (old new : Seen) (call : Call) (place : ℕ) (lower upper : List Bool) where
  -- it was chosen as one
  pub chosen_cover : (name : Name) (p : List Bool) (called : Called old new call (replies.Chose name (Zdd p)) place) → outcome (table_of old called.board) old.number call ≡ Some (covered lower upper)
      → IsIrredundant (variables_in old) (elements_in old) (truth lower) (truth upper) (truth p)
  chosen_cover name p called is = by (leq_of lower upper) (is_allowed old new call (replies.Chose name (Zdd p)) place called) is
    where
      by : (b : Bool) → IsAllowed (table_of old called.board) old.number call (replies.Chose name (Zdd p)) → outcome (table_of old called.board) old.number call ≡ Some (if b then covers lower upper else is_apart)
          → IsIrredundant (variables_in old) (elements_in old) (truth lower) (truth upper) (truth p)
      by true (o, at, says) is = (subst (λ (x : Outcome). Replies (table_of old called.board) old.number x (replies.Chose name (Zdd p))) (some_same o (covers lower upper) (sym at ∙ is)) says).2
      by false (o, at, says) is = absurd (subst (λ (x : Outcome). Replies (table_of old called.board) old.number x (replies.Chose name (Zdd p))) (some_same o is_apart (sym at ∙ is)) says)

  -- and was told as apart only where the bounds are
  pub told_apart : (called : Called old new call replies.Apart place) → outcome (table_of old called.board) old.number call ≡ Some (covered lower upper) → leq_of lower upper ≡ false
  told_apart called is = by (leq_of lower upper) (is_allowed old new call replies.Apart place called) is
    where
      by : (b : Bool) → IsAllowed (table_of old called.board) old.number call replies.Apart → outcome (table_of old called.board) old.number call ≡ Some (if b then covers lower upper else is_apart) → b ≡ false
      by true (o, at, says) is = absurd (subst (λ (x : Outcome). Replies (table_of old called.board) old.number x replies.Apart) (some_same o (covers lower upper) (sym at ∙ is)) says)
      by false allowed is = refl

-- a cover between a function and itself has that function
module _ (z : Sizes) (f p : List Bool) where
  abbrev covering : ℕ → Bool
  covering = cover_value z.variables z.elements (truth p)

  pub covers_exactly : length f ≡ 2 ^ z.variables → IsIrredundant z.variables z.elements (truth f) (truth f) (truth p) → cover_function z p ≡ f
  covers_exactly long is = same_truths (cover_function z p) f (length-list_of (2 ^ z.variables) covering ∙ sym long) at
    where
      at : (k : ℕ) → k < length (cover_function z p) → truth (cover_function z p) k ≡ truth f k
      at k below =
          let here : k < 2 ^ z.variables = subst (λ (n : ℕ). k < n) (length-list_of (2 ^ z.variables) covering) below in
          truth-list_of (2 ^ z.variables) k covering here ∙ both_ways (covering k) (truth f k) (is.stays k here) (is.reaches k here)

-- a function of Booleans has a value for each assignment
now_long : (s : Seen) (a : Name) (f : List Bool) → stands_now s a ≡ Some (Bdd f) → length f ≡ 2 ^ variables_in s
now_long s a f is = by (stands_for s.rows a) is
  where
    by : (o : Option Function) → option_map (at_sizes (known_sizes s)) o ≡ Some (Bdd f) → length f ≡ 2 ^ variables_in s
    by None e = absurd (let z : None ≡ Some (Bdd f) = e in cc)
    by (Some (Bdd g)) e =
        let now : Some (Bdd (list_of (2 ^ variables_in s) (λ k. truth g (k % length g)))) ≡ Some (Bdd f) = e in
        let same : list_of (2 ^ variables_in s) (λ k. truth g (k % length g)) ≡ f = cc in
        ap length (sym same) ∙ length-list_of (2 ^ variables_in s) (λ k. truth g (k % length g))
    by (Some (Add g)) e = absurd (let now : Some (Add (list_of (2 ^ variables_in s) (λ k. whole g (k % length g)))) ≡ Some (Bdd f) = e in cc)
    by (Some (Zdd g)) e = absurd (let now : Some (Zdd (list_of (2 ^ elements_in s) (truth g))) ≡ Some (Bdd f) = e in cc)

-- the function of a cover between a function and itself is that function: what `isop a a` made, `coverof` turns back
module _ (old between new : Seen) (a c d : Name) (f p : List Bool) (place later : ℕ) where
  abbrev asks : Call
  asks = calls.Makes (makings.Zdd (zdds.Isop a a))

  abbrev reads : Call
  reads = calls.Makes (makings.Bdd (bdds.CoverOf c))

  pub cover_of_isop : Called old between asks (replies.Chose c (Zdd p)) place → Called between new reads (replies.Made d) later → stands_now old a ≡ Some (Bdd f) → stands_now new d ≡ Some (Bdd f)
  cover_of_isop chosen made is =
      made_as between new reads d later made (Bdd f)
      (ap (λ o. when (has_literals (known_sizes between)) (with_one (as_zdd o) (λ q. makes (Bdd (cover_function (known_sizes between) q))))) cover_stands
      ∙ ap (λ (z : Sizes). when (has_literals z) (Some (makes (Bdd (cover_function z p))))) (sym (stepped old between asks (replies.Chose c (Zdd p)) place chosen).2)
      ∙ ap₂ (λ b g. when b (Some (makes (Bdd g)))) literals_fit (covers_exactly (known_sizes old) f p (now_long old a f is) irredundant))
    where
      cover_stands : (table_of between made.board).live between.number c ≡ Some (Zdd p)
      cover_stands = stood_before between new reads (replies.Made d) later made c ∙ chosen_as old between asks c (Zdd p) place chosen

      asked : outcome (table_of old chosen.board) old.number asks ≡ when (has_literals (known_sizes old)) (Some (covered f f))
      asked = ap (λ o. when (has_literals (known_sizes old)) (with_two (as_bdd o) (as_bdd o) covered)) (stood_before old between asks (replies.Chose c (Zdd p)) place chosen a ∙ is)

      literals_fit : has_literals (known_sizes old) ≡ true
      literals_fit = by (has_literals (known_sizes old)) asked (is_allowed old between asks (replies.Chose c (Zdd p)) place chosen)
        where
          by : (b : Bool) → outcome (table_of old chosen.board) old.number asks ≡ when b (Some (covered f f)) → IsAllowed (table_of old chosen.board) old.number asks (replies.Chose c (Zdd p)) → b ≡ true
          by true at allowed = refl
          by false at (o, may, says) = absurd (let z : None ≡ Some o = sym at ∙ may in cc)

      irredundant : IsIrredundant (variables_in old) (elements_in old) (truth f) (truth f) (truth p)
      irredundant = chosen_cover old between asks place f f c p chosen (asked ∙ ap (λ b. when b (Some (covered f f))) literals_fit)
