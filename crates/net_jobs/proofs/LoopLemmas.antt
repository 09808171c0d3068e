-- The loop over the commands of a session.
use Rattle.std.proofs.Common.{◌≡◌, ℕ, zero, suc, ◌+◌, ◌-◌, ◌<◌, ◌≤◌, Bool, true, false, not, ◌&&◌, ◌||◌, List, [], ◌∷◌, ◌++◌, length, map, take, drop, Option, Some, None, refl, sym, ap, ap₂, ◌∙◌, subst, arith}
use Rattle.std.specs.Prelude.{slice_get}
use Rattle.std.specs.List.{list_any, list_all, range_with_len}
use Rattle.std.proofs.lemmas.Bool.{false≢true}
use Rattle.std.proofs.lemmas.List.{length_push, length-append, length-map}
use Rattle.std.proofs.lemmas.List.Folds.{list_any-append}
use Rattle.function_laws.specs.declared.history.Call.{Call}
use Rattle.function_laws.specs.declared.history.Name.{Name}
use Rattle.function_laws.specs.declared.history.Sifting.{Sifting}
use Rattle.std.proofs.lemmas.Option.{slice_get_within}
use Rattle.job_commands.specs.declared.acts.Act.{Act}
use Rattle.function_laws.specs.declared.orders.Order.TheVariants.{Variables, Elements}
use Rattle.job_commands.specs.declared.acts.Act.TheVariants.{Drop, Swap, Sift}
use Rattle.job_text.specs.declared.job.Command.{Command}
use Rattle.job_text.specs.declared.job.Counts.{Counts}
use Rattle.job_text.specs.declared.job.Register.{Register}
use Rattle.job_text.specs.Grammar.{CommandsSay, Says, registers_after}
use Rattle.job_text.specs.Histories.{HistoryLine, SayInOrder, drops, registers_of, stops}
use Rattle.dd_session.specs.Sessions.{HasRoom, Managed, Seen}
use Rattle.net_jobs.specs.declared.answering.Answered.{Answered}
use Rattle.net_jobs.specs.declared.registers.Assigned.{Assigned}
use Rattle.net_jobs.specs.declared.section.Script.{Script}
use Rattle.net_jobs.specs.Sections.{CanPlay, counts_of, entry_of}
use Rattle.net_jobs.specs.Saying.{CanCall, Covers, SaysOne, SaysThrough, Spoke, HasSaid, assigned_after, call_of, last_told, name_at, target_in}
use Rattle.net_jobs.proofs.CanLemmas.{can_call}
use Rattle.net_jobs.proofs.CoverLemmas.{covers-after, name-apart, numbered, plain}
use Rattle.net_jobs.proofs.OrderLemmas.{in_order-after}
use Rattle.net_jobs.proofs.StandsLemmas.{generation_of, said_line, stands-after, stands-first}

-- a command drops no name that was not given
drops_old : (told : Sifting) (n : Counts) (s : Seen) (names : List Assigned) (first : ℕ) (act : Act) → CanCall n s names act → map generation_of names ≡ range_with_len first (length names) → s.adds ≡ first + length names
    → (name : Name) → s.adds ≤ name.generation → drops name (call_of told names act) ≡ false
drops_old told n s names first (Drop a) can generations adds name from =
    name-apart name (name_at names a) (λ e. omega (arith, e, from, adds, numbered names first generations a can.1.0, can.1.0))
drops_old told n s names first (Swap Variables level) can generations adds name from = refl
drops_old told n s names first (Swap Elements level) can generations adds name from = refl
drops_old told n s names first (Sift Variables) can generations adds name from = refl
drops_old told n s names first (Sift Elements) can generations adds name from = refl
drops_old told n s names first act can generations adds name from = refl

-- So many commands were said, none of which stopped the session.
pub record SaysUpTo (old now : Seen) (commands : List Command) (script : Script) (i : ℕ) : Type 0 where
  pub registers : List Register
  pub rest : CommandsSay (counts_of old.manager) registers (drop i commands)
  pub covers : Covers registers now script.names.items
  pub said : List HistoryLine
  pub stands : HasSaid old now commands script.names.items script.lines.items said
  pub in_order : SayInOrder (registers_of said) said commands
  pub none_stops : list_any (λ line. stops line.reply) said ≡ false
  pub count : length said ≡ i
  pub few : length script.names.items ≤ i

-- the commands from a place on begin with that one
rest_at : (n : Counts) (registers : List Register) (commands : List Command) (i : ℕ) (command : Command) → slice_get commands i ≡ Some command
    → CommandsSay n registers (drop i commands) → Says n registers command.words command.act × CommandsSay n (registers_after registers command.words) (drop (i + 1) commands)
rest_at n registers [] i command is rest = cc
rest_at n registers (first ∷ commands) zero command is rest =
    let same : first ≡ command = cc in
    subst (λ (c : Command). Says n registers c.words c.act × CommandsSay n (registers_after registers c.words) commands) same rest
rest_at n registers (first ∷ commands) (suc i) command is rest =
    let next : suc i + 1 ≡ suc (i + 1) = omega arith in
    let inner = rest_at n registers commands i command is rest in
    (inner.0, subst (λ k. CommandsSay n (registers_after registers command.words) (drop k (first ∷ commands))) (sym next) inner.1)

-- how many calls the session made
pub entries_said : (old now : Seen) (commands : List Command) (script : Script) (said : List HistoryLine) → HasSaid old now commands script.names.items script.lines.items said
    → length now.entries ≡ length old.entries + length said
entries_said old now commands script said stands =
    omega (arith, ap length stands.gained, length-append old.entries (map entry_of said), length-map said entry_of)

-- there is room for one more call
pub room_at : (m : Managed) (old now : Seen) (commands : List Command) (script : Script) (i : ℕ) → CanPlay m commands old → SaysUpTo old now commands script i → i < length commands → HasRoom now
room_at m old now commands script i can up below = (
  omega (arith, can.few, below, up.few, up.stands.few),
  omega (arith, can.few, can.calls, below, up.count, entries_said old now commands script up.said up.stands),
)

can_start : (old now : Seen) (commands : List Command) (script : Script) (i : ℕ) (command : Command) → SaysUpTo old now commands script i → slice_get commands i ≡ Some command
    → CanCall (counts_of old.manager) now script.names.items command.act
can_start old now commands script i command up is =
    can_call (counts_of old.manager) up.registers now script.names.items command.words command.act (rest_at (counts_of old.manager) up.registers commands i command is up.rest).0 up.covers

pub can_at : (old now : Seen) (commands : List Command) (script : Script) (i : ℕ) (command : Command) → SaysUpTo old now commands script i → slice_get commands i ≡ Some command
    → CanCall (counts_of now.manager) now script.names.items command.act
can_at old now commands script i command up is =
    subst (λ m. CanCall (counts_of m) now script.names.items command.act) (sym up.stands.manager_is) (can_start old now commands script i command up is)

or_both : (a b : Bool) → a ≡ false → b ≡ false → (a || (b || false)) ≡ false
or_both true b first second = absurd (false≢true (sym first))
or_both false true first second = absurd (false≢true (sym second))
or_both false false first second = refl

not_not : (b : Bool) (c : Bool) → c ≡ not b → b ≡ not c
not_not true c is = sym (ap not is)
not_not false c is = sym (ap not is)

none_all : (b c d : Bool) → (b || c) ≡ false → (c ≡ false → d ≡ true) → (not b && d) ≡ true
none_all true c d none rest = absurd (false≢true (sym none))
none_all false c d none rest = rest none

none_stops_all : (said : List HistoryLine) → list_any (λ line. stops line.reply) said ≡ false → list_all (λ line. not (stops line.reply)) said ≡ true
none_stops_all [] none = refl
none_stops_all (line ∷ said) none =
    none_all (stops line.reply) (list_any (λ line. stops line.reply) said) (list_all (λ line. not (stops line.reply)) said) none (none_stops_all said)

take_front : (said : List HistoryLine) (line : HistoryLine) → take (length (said ++ line ∷ []) - 1) (said ++ line ∷ []) ≡ said
take_front said line =
    let one_less : length (said ++ line ∷ []) - 1 ≡ length said = omega (arith, length_push said line) in
    ap (λ k. take k (said ++ line ∷ [])) one_less ∙ take_append said (line ∷ [])
  where
    take_append : (xs ys : List HistoryLine) → take (length xs) (xs ++ ys) ≡ xs
    take_append [] ys = refl
    take_append (x ∷ xs) ys = ap (λ zs. x ∷ zs) (take_append xs ys)

and_both : (a b : Bool) → (a && b) ≡ true → (a ≡ true) × (b ≡ true)
and_both true b is = (refl, is)
and_both false b is = absurd (false≢true is)

front_goes_on : (said : List HistoryLine) → list_any (λ line. stops line.reply) said ≡ false → list_all (λ line. not (stops line.reply)) (take (length said - 1) said) ≡ true
front_goes_on said none = by_take (length said - 1) said (none_stops_all said none)
  where
    by_take : (k : ℕ) (xs : List HistoryLine) → list_all (λ line. not (stops line.reply)) xs ≡ true → list_all (λ line. not (stops line.reply)) (take k xs) ≡ true
    by_take zero xs all = refl
    by_take (suc k) [] all = refl
    by_take (suc k) (x ∷ xs) all =
        let both = and_both (not (stops x.reply)) (list_all (λ line. not (stops line.reply)) xs) all in
        ap₂ (λ a b. a && b) both.0 (by_take k xs both.1)

-- what say_all tells
abbrev pub Through : Seen → Seen → List Command → Script → Type 0
Through old now commands script = (said : List HistoryLine) × HasSaid old now commands script.names.items script.lines.items said × SaysThrough commands said × (length said ≤ length commands)

length-after : (made : Option Name) (i : ℕ) (names : List Assigned) → length (assigned_after made i names) ≤ length names + 1
length-after None i names = omega arith
length-after (Some name) i names = omega (arith, length_push names (record { name = name; command = i }))

-- nothing was said yet
pub says-first : (m : Managed) (old : Seen) (commands : List Command) (script : Script) → CanPlay m commands old → script.names.items ≡ [] → script.lines.items ≡ [] → SaysUpTo old old commands script 0
says-first m old commands script can names lines = record {
  registers = [];
  rest = subst (λ x. CommandsSay (counts_of x) [] commands) (sym can.own) can.say;
  covers = record { as_many = sym (ap length names); held = λ a word k at. cc };
  said = [];
  stands = subst (λ ns. HasSaid old old commands ns script.lines.items []) (sym names) (subst (λ ls. HasSaid old old commands [] ls []) (sym lines) (stands-first old commands can.empty));
  in_order = tt;
  none_stops = refl;
  count = refl;
  few = omega (arith, ap length names);
}

module _ (old now new : Seen) (commands : List Command) (before after : Script) (i : ℕ) (command : Command) (up : SaysUpTo old now commands before i) (at : slice_get commands i ≡ Some command)
    (answered : Answered) (told : Sifting) (spoke : Spoke now new before after i command.words (call_of told before.names.items command.act) answered) where
  abbrev names : List Assigned
  names = before.names.items

  abbrev call : Call
  call = call_of told names command.act

  can : CanCall (counts_of old.manager) now names command.act
  can = can_start old now commands before i command up at

  old_drops : (name : Name) → now.adds ≤ name.generation → drops name call ≡ false
  old_drops = drops_old told (counts_of old.manager) now names old.adds command.act can up.stands.generations up.stands.adds

  abbrev line : HistoryLine
  line = said_line old now new commands names before.lines.items after.lines.items up.said command.words call answered i up.stands spoke.is (plain told names command.act) old_drops

  stands-next : HasSaid old new commands after.names.items after.lines.items (up.said ++ line ∷ [])
  stands-next = subst (λ ns. HasSaid old new commands ns after.lines.items (up.said ++ line ∷ [])) (sym spoke.names)
      (stands-after old now new commands names before.lines.items after.lines.items up.said command.words call answered i up.stands spoke.is (plain told names command.act) old_drops
      (λ made. (slice_get_within commands i command at, sym (ap target_in at))) spoke.lines)

  in_order-next : SayInOrder (registers_of (up.said ++ line ∷ [])) (up.said ++ line ∷ []) commands
  in_order-next = in_order-after (counts_of old.manager) now commands names up.said up.stands.registers told line command up.in_order (ap (slice_get commands) up.count ∙ at) refl refl can

  count-next : length (up.said ++ line ∷ []) ≡ i + 1
  count-next = length_push up.said line ∙ ap (λ k. k + 1) up.count

  pub next_command : stops answered.reply ≡ false → SaysUpTo old new commands after (i + 1)
  next_command goes =
      let rest = rest_at (counts_of old.manager) up.registers commands i command at up.rest in
      record {
        registers = registers_after up.registers command.words;
        rest = rest.1;
        covers = subst (λ ns. Covers (registers_after up.registers command.words) new ns) (sym spoke.names)
            (covers-after (counts_of old.manager) up.registers now new names old.adds i command.words up.covers up.stands.generations up.stands.adds told command.act answered spoke.is goes rest.0);
        said = up.said ++ line ∷ [];
        stands = stands-next;
        in_order = in_order-next;
        none_stops = list_any-append (λ line. stops line.reply) up.said (line ∷ []) ∙ or_both (list_any (λ line. stops line.reply) up.said) (stops line.reply) up.none_stops goes;
        count = count-next;
        few = omega (arith, ap length spoke.names, length-after answered.made i names, up.few);
      }

  -- the command stopped the session
  pub says_stop : stops answered.reply ≡ true → i < length commands → Through old new commands after × (length after.names.items ≤ length commands)
  says_stop stopped below = (
    (
      up.said ++ line ∷ [],
      stands-next,
      record {
        in_order = in_order-next;
        goes_on = ap (list_all (λ line. not (stops line.reply))) (take_front up.said line) ∙ none_stops_all up.said up.none_stops;
        to_the_end = λ none. absurd (false≢true (sym none ∙ list_any-append (λ line. stops line.reply) up.said (line ∷ [])
            ∙ ap (λ b. list_any (λ line. stops line.reply) up.said || (b || false)) stopped ∙ or_end (list_any (λ line. stops line.reply) up.said)));
      },
      omega (arith, count-next, below),
    ),
    omega (arith, ap length spoke.names, length-after answered.made i names, up.few, below),
  )
    where
      or_end : (b : Bool) → (b || true) ≡ true
      or_end true = refl
      or_end false = refl

-- the same, by what say tells
pub next_said : (old now new : Seen) (commands : List Command) (before after : Script) (i : ℕ) (command : Command) → SaysUpTo old now commands before i → slice_get commands i ≡ Some command
    → SaysOne now new before after i command true → SaysUpTo old new commands after (i + 1)
next_said old now new commands before after i command up at one = next_command old now new commands before after i command up at one.0 (last_told new.entries) one.1 (not_not (stops (one.0).reply) true one.2)

pub stop_said : (old now new : Seen) (commands : List Command) (before after : Script) (i : ℕ) (command : Command) → SaysUpTo old now commands before i → slice_get commands i ≡ Some command
    → SaysOne now new before after i command false → i < length commands → Through old new commands after × (length after.names.items ≤ length commands)
stop_said old now new commands before after i command up at one below =
    says_stop old now new commands before after i command up at one.0 (last_told new.entries) one.1 (not_not (stops (one.0).reply) false one.2) below

-- at the end of the commands
pub says_all : (old now : Seen) (commands : List Command) (script : Script) (i : ℕ) → SaysUpTo old now commands script i → length commands ≡ i
    → Through old now commands script × (length script.names.items ≤ length commands)
says_all old now commands script i up end = (
  (
    up.said,
    up.stands,
    record {
      in_order = up.in_order;
      goes_on = front_goes_on up.said up.none_stops;
      to_the_end = λ none. up.count ∙ sym end;
    },
    omega (arith, up.count, end),
  ),
  omega (arith, up.few, end),
)
