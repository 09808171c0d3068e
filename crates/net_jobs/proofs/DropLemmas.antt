-- The drops at the end of a session.
use Rattle.std.proofs.Common.{◌≡◌, ℕ, zero, suc, ◌+◌, ◌<◌, ◌≤◌, inr, ⊎_elim, IsTrue, ◌↔◌, Bool, true, false, cond, not, ◌&&◌, List, [], ◌∷◌, ◌++◌, length, map, take, Option, Some, None, refl, sym, ap, ap₂, ◌∙◌, subst, arith, append_assoc}
use Rattle.std.specs.Prelude.{filter, if◌then◌else◌, is_some, option_map, slice_get}
use Rattle.std.specs.List.{All, list_any}
use Rattle.std.proofs.lemmas.List.Elements.{All-head, All-tail}
use Rattle.std.proofs.lemmas.Bool.{false≢true}
use Rattle.std.proofs.lemmas.List.{append-nil, length-append, length-map, map-append, take_all}
use Rattle.std.proofs.lemmas.Option.{slice_get_within, slice_get-map}
use Rattle.function_laws.specs.declared.history.Call.{Call}
use Rattle.function_laws.specs.declared.history.Call.TheVariants as calls
use Rattle.function_laws.specs.declared.history.Function.{Function}
use Rattle.function_laws.specs.declared.history.Name.{Name}
use Rattle.function_laws.specs.declared.history.Sifting.{Sifting}
use Rattle.function_laws.specs.SessionEntries.{entry}
use Rattle.function_laws.specs.Tables.{same_name}
use Rattle.dd_session.specs.Sessions.{kind_of, stands_now}
use Rattle.dd_session.proofs.SessionLaws.{live_now, now_live}
use Rattle.job_commands.specs.declared.acts.Act.{Act}
use Rattle.job_commands.specs.declared.acts.Act.TheVariants.{Drop}
use Rattle.job_text.specs.declared.job.Command.{Command}
use Rattle.job_text.specs.declared.job.Counts.{Counts}
use Rattle.job_words.specs.Text.{Word}
use Rattle.job_text.specs.Histories.{NamedRegister, HistoryLine, drop_of, drops, line_text, registers_of, stops}
use Rattle.dd_session.specs.Sessions.{IsLive, IsLiveAs, Seen, names_in}
use Rattle.net_jobs.specs.declared.answering.Answered.{Answered}
use Rattle.net_jobs.specs.declared.registers.Assigned.{Assigned}
use Rattle.net_jobs.specs.declared.section.Script.{Script}
use Rattle.net_jobs.specs.Sections.{written_as}
use Rattle.net_jobs.specs.Saying.{CanCall, DropsOne, DropsTheRest, IsAnswered, IsKept, HasSaid, assigned_after, call_of, drop_words, is_dropped, is_none, name_at, name_in, register_of, spoken}
use Rattle.net_jobs.proofs.CallLaws.{count_of, left, names_given}
use Rattle.net_jobs.proofs.CoverLemmas.{name-apart, numbered}
use Rattle.net_jobs.proofs.StandsLemmas.{said_line, stands-after}

-- a drop gives no name
pub drops_none : (old new : Seen) (a : Name) (answered : Answered) → IsAnswered old new (calls.DropRow a) answered → answered.made ≡ None
drops_none old new a answered is = by answered.made is.made_if
  where
    by : (o : Option Name) → is_some o ≡ (false && not (stops answered.reply)) → o ≡ None
    by None none = refl
    by (Some name) none = absurd (false≢true (sym none))

-- and leaves no more rows
pub drop_few : (old new : Seen) (a : Name) (answered : Answered) → IsAnswered old new (calls.DropRow a) answered → length new.rows ≤ length old.rows
drop_few old new a answered is =
    let none : names_in is.reply ≡ 0 = names_given is.reply ∙ ap count_of (is.gives ∙ drops_none old new a answered is) in
    omega (arith, none, is.called.few)

-- and is one entry more
pub one_entry : (old new : Seen) (call : Call) (answered : Answered) → IsAnswered old new call answered → length new.entries ≤ length old.entries + 1
one_entry old new call answered is = omega (arith, ap length is.called.entries_are, length-append old.entries (entry answered.place old.number call is.reply ∷ []))

some_live : (o : Option Function) → is_none o ≡ false → (f : Function) × (o ≡ Some f)
some_live None is = absurd (false≢true (sym is))
some_live (Some f) is = (f, refl)

-- whether a name is live tells what it stands for
pub gone_if : (s : Seen) (name : Name) (live : Bool) → IsTrue live ↔ IsLive s name → live ≡ false → is_none (stands_now s name) ≡ true
gone_if s name live tells off = by (stands_now s name) refl
  where
    by : (o : Option Function) → stands_now s name ≡ o → is_none (stands_now s name) ≡ true
    by None at = ap is_none at
    by (Some f) at = absurd (false≢true (sym off ∙ tells.1 (kind_of f, live_now (kind_of f) s name f at refl)))

pub kept_if : (s : Seen) (name : Name) → IsLive s name → is_none (stands_now s name) ≡ false
kept_if s name live = ap is_none (now_live live.0 s name live.1).1

-- a live register may be dropped
pub can_drop : (n : Counts) (s : Seen) (names : List Assigned) (row : ℕ) (assigned : Assigned) (act : Act) → slice_get names row ≡ Some assigned → act ≡ Drop row → IsLive s assigned.name → CanCall n s names act
can_drop n s names row assigned act at is live =
    let named : name_at names row ≡ assigned.name = ap name_in at in
    subst (λ (a : Act). CanCall n s names a) (sym is) (live.0, (slice_get_within names row assigned at, subst (IsLiveAs live.0 s) (sym named) live.1))

pub drops_live : (commands : List Command) (old new : Seen) (before after : Script) (row : ℕ) (assigned : Assigned) (command : Command) (answered : Answered) (told : Sifting) → slice_get before.names.items row ≡ Some assigned
    → command.act ≡ Drop row → command.words ≡ drop_words commands assigned → is_none (stands_now old assigned.name) ≡ false → IsAnswered old new (call_of told before.names.items command.act) answered
    → map written_as after.lines.items ≡ map written_as before.lines.items ++ (answered.place, line_text answered.place old.number command.words answered.reply) ∷ []
    → after.names.items ≡ before.names.items → DropsOne commands old new before after row assigned
drops_live commands old new before after row assigned command answered told at act words kept is lines names =
    let named : name_at before.names.items row ≡ assigned.name = ap name_in at in
    let call : call_of told before.names.items command.act ≡ calls.DropRow assigned.name = ap (call_of told before.names.items) act ∙ ap calls.DropRow named in
    let dropped : IsAnswered old new (calls.DropRow assigned.name) answered = subst (λ (c : Call). IsAnswered old new c answered) call is in
    inr (
      kept,
      (
        answered,
        record {
          is = dropped;
          lines = lines ∙ ap (λ ws. map written_as before.lines.items ++ (answered.place, line_text answered.place old.number ws answered.reply) ∷ []) words;
          names = names ∙ sym (ap (λ made. assigned_after made row before.names.items) (drops_none old new assigned.name answered dropped));
        },
      ),
    )

-- the register's line, or none where it was dropped before
abbrev drop_line : Bool → List Command → Assigned → List (List Word × Call)
drop_line gone commands assigned = if gone then [] else drop_of (register_of commands assigned) ∷ []

-- What a register's turn adds to the lines, and leaves of the other names.
pub record Turned (start now new : Seen) (commands : List Command) (after : Script) (assigned : Assigned) (said : List HistoryLine) : Type 0 where
  pub added : List HistoryLine
  pub stands : HasSaid start new commands after.names.items after.lines.items (said ++ added)
  pub says : map spoken added ≡ drop_line (is_none (stands_now now assigned.name)) commands assigned
  pub others : (name : Name) → same_name name assigned.name ≡ false → stands_now new name ≡ stands_now now name

turned : (start now new : Seen) (commands : List Command) (before after : Script) (row : ℕ) (assigned : Assigned) (said : List HistoryLine) → slice_get before.names.items row ≡ Some assigned
    → HasSaid start now commands before.names.items before.lines.items said → DropsOne commands now new before after row assigned → Turned start now new commands after assigned said
turned start now new commands before after row assigned said at stands drops_it = ⊎_elim
    (λ gone. record {
      added = [];
      stands = subst (λ lines. HasSaid start new commands after.names.items after.lines.items lines) (sym (append-nil said))
          (subst (λ (s : Seen). HasSaid start s commands after.names.items after.lines.items said) (sym gone.1)
          (subst (λ (x : Script). HasSaid start now commands x.names.items x.lines.items said) (sym gone.2) stands));
      says = sym (ap (λ b. drop_line b commands assigned) gone.0);
      others = λ name apart. ap (λ (s : Seen). stands_now s name) gone.1;
    })
    (λ live.
    let answered = live.1.0 in
    let spoke = live.1.1 in
    let none = drops_none now new assigned.name answered spoke.is in
    let named : name_at before.names.items row ≡ assigned.name = ap name_in at in
    let below = slice_get_within before.names.items row assigned at in
    let generation = numbered before.names.items start.adds stands.generations row below in
    let fresh : (name : Name) → now.adds ≤ name.generation → drops name (calls.DropRow assigned.name) ≡ false = λ name from.
    name-apart name assigned.name (λ e. omega (arith, e, from, below, generation, stands.adds, ap (λ (x : Name). x.generation) named)) in
    let line = said_line start now new commands before.names.items before.lines.items after.lines.items said (drop_words commands assigned) (calls.DropRow assigned.name) answered row stands spoke.is refl fresh in
    record {
      added = line ∷ [];
      stands = subst (λ ns. HasSaid start new commands ns after.lines.items (said ++ line ∷ [])) (sym spoke.names)
          (stands-after start now new commands before.names.items before.lines.items after.lines.items said (drop_words commands assigned) (calls.DropRow assigned.name) answered row stands spoke.is refl fresh
          (λ made. absurd (false≢true (sym (ap is_some none) ∙ made))) spoke.lines);
      says = sym (ap (λ b. drop_line b commands assigned) live.0);
      others = λ name apart. left now new (calls.DropRow assigned.name) (spoke.is).reply answered.place (spoke.is).called ((spoke.is).gives ∙ none) name
          ∙ ap (λ b. cond b None (stands_now now name)) apart;
    })
    drops_it

-- the lines do not drop the register
abbrev is_left : List HistoryLine → NamedRegister → Bool
is_left said register = not (list_any (λ line. drops register.name line.entry.call) said)

-- The registers of the lines before the drops, up to so many, were dropped; the others are as they were.
pub record Dropping (start old now : Seen) (commands : List Command) (before script : Script) (row : ℕ) (said : List HistoryLine) : Type 0 where
  pub dropped : List HistoryLine
  pub stands : HasSaid start now commands script.names.items script.lines.items (said ++ dropped)
  pub says : map spoken dropped ≡ map drop_of (filter (is_left said) (take row (registers_of said)))
  pub others : (k : ℕ) → row ≤ k → k < length before.names.items → stands_now now (name_at before.names.items k) ≡ stands_now old (name_at before.names.items k)

-- a register is live where the lines do not drop it
live_at : (s : Seen) (commands : List Command) (names : List Assigned) (said : List HistoryLine) (row : ℕ) (assigned : Assigned) → slice_get names row ≡ Some assigned
    → All (λ (a : Assigned). is_dropped said a.name ≡ is_none (stands_now s a.name)) names → is_dropped said assigned.name ≡ is_none (stands_now s assigned.name)
live_at s commands [] said row assigned at live = cc
live_at s commands (a ∷ names) said zero assigned at live =
    let same : a ≡ assigned = cc in
    subst (λ (x : Assigned). is_dropped said x.name ≡ is_none (stands_now s x.name)) same (All-head (λ (x : Assigned). is_dropped said x.name ≡ is_none (stands_now s x.name)) a names live)
live_at s commands (a ∷ names) said (suc row) assigned at live =
    live_at s commands names said row assigned at (All-tail (λ (x : Assigned). is_dropped said x.name ≡ is_none (stands_now s x.name)) a names live)

-- So many registers are dropped.
pub record DropsUpTo (old now : Seen) (commands : List Command) (before script : Script) (row : ℕ) : Type 0 where
  pub lines : (start : Seen) (said : List HistoryLine) → HasSaid start old commands before.names.items before.lines.items said → Dropping start old now commands before script row said
  pub names : script.names.items ≡ before.names.items
  pub rows : length now.rows ≤ length old.rows
  pub entries : length now.entries ≤ length old.entries + row
  pub kept : IsKept old now

take-next : (xs : List NamedRegister) (i : ℕ) (x : NamedRegister) → slice_get xs i ≡ Some x → take (i + 1) xs ≡ take i xs ++ x ∷ []
take-next [] i x is = cc
take-next (y ∷ xs) zero x is = let same : y ≡ x = cc in ap (λ z. z ∷ []) same
take-next (y ∷ xs) (suc i) x is =
    let next : suc i + 1 ≡ suc (i + 1) = omega arith in
    ap (λ k. take k (y ∷ xs)) next ∙ ap (λ zs. y ∷ zs) (take-next xs i x is)

filter-push : (p : NamedRegister → Bool) (xs : List NamedRegister) (x : NamedRegister) → filter p (xs ++ x ∷ []) ≡ filter p xs ++ (if p x then x ∷ [] else [])
filter-push p [] x = by_test (p x)
  where
    by_test : (b : Bool) → (if b then x ∷ [] else []) ≡ [] ++ (if b then x ∷ [] else [])
    by_test true = refl
    by_test false = refl
filter-push p (y ∷ xs) x = ap (λ zs. if p y then y ∷ zs else zs) (filter-push p xs x) ∙ by_test (p y) (filter p xs) (if p x then x ∷ [] else [])
  where
    by_test : (b : Bool) (zs ws : List NamedRegister) → (if b then y ∷ (zs ++ ws) else (zs ++ ws)) ≡ (if b then y ∷ zs else zs) ++ ws
    by_test true zs ws = refl
    by_test false zs ws = refl

-- a register is dropped, or says its drop
said_if : (gone left : Bool) (register : NamedRegister) → left ≡ not gone → (if gone then [] else drop_of register ∷ []) ≡ map drop_of (if left then register ∷ [] else [])
said_if true left register is = sym (ap (λ b. map drop_of (if b then register ∷ [] else [])) is)
said_if false left register is = sym (ap (λ b. map drop_of (if b then register ∷ [] else [])) is)

pub first_drop : (old : Seen) (commands : List Command) (before : Script) → DropsUpTo old old commands before before 0
first_drop old commands before = record {
  lines = λ start said stands. record {
    dropped = [];
    stands = subst (λ lines. HasSaid start old commands before.names.items before.lines.items lines) (sym (append-nil said)) stands;
    says = refl;
    others = λ k from below. refl;
  };
  names = refl;
  rows = omega arith;
  entries = omega arith;
  kept = (refl, refl);
}

names_after : (commands : List Command) (now new : Seen) (before after : Script) (row : ℕ) (assigned : Assigned) → DropsOne commands now new before after row assigned → after.names.items ≡ before.names.items
names_after commands now new before after row assigned drops_it = ⊎_elim
    (λ gone. ap (λ (x : Script). x.names.items) gone.2)
    (λ live. (live.1.1).names ∙ ap (λ made. assigned_after made row before.names.items) (drops_none now new assigned.name live.1.0 (live.1.1).is))
    drops_it

pub next_drop : (old now new : Seen) (commands : List Command) (before script after : Script) (row : ℕ) (assigned : Assigned) → DropsUpTo old now commands before script row
    → slice_get script.names.items row ≡ Some assigned → DropsOne commands now new script after row assigned
    → length new.rows ≤ length now.rows → length new.entries ≤ length now.entries + 1 → IsKept now new → DropsUpTo old new commands before after (row + 1)
next_drop old now new commands before script after row assigned up at drops_it rows entries kept = record {
  lines = λ start said stands.
      let was = up.lines start said stands in
      let turn = turned start now new commands script after row assigned (said ++ was.dropped) at was.stands drops_it in
      let here : slice_get before.names.items row ≡ Some assigned = ap (λ ns. slice_get ns row) (sym up.names) ∙ at in
      let below = slice_get_within before.names.items row assigned here in
      let register = register_of commands assigned in
      let is_register : slice_get (registers_of said) row ≡ Some register =
      ap (λ rs. slice_get rs row) stands.registers ∙ slice_get-map (register_of commands) before.names.items row ∙ ap (option_map (register_of commands)) here in
      let named : name_at before.names.items row ≡ assigned.name = ap name_in here in
      let same : stands_now now assigned.name ≡ stands_now old assigned.name =
      subst (λ (name : Name). stands_now now name ≡ stands_now old name) named (was.others row (omega arith) below) in
      let left_is : is_left said register ≡ not (is_none (stands_now now assigned.name)) = ap not (live_at old commands before.names.items said row assigned here stands.live ∙ ap is_none (sym same)) in
      record {
        dropped = was.dropped ++ turn.added;
        stands = subst (λ lines. HasSaid start new commands after.names.items after.lines.items lines) (append_assoc said was.dropped turn.added) turn.stands;
        says = map-append spoken was.dropped turn.added ∙ ap₂ (λ xs ys. xs ++ ys) was.says (turn.says ∙ said_if (is_none (stands_now now assigned.name)) (is_left said register) register left_is)
            ∙ sym (map-append drop_of (filter (is_left said) (take row (registers_of said))) (if is_left said register then register ∷ [] else []))
            ∙ ap (map drop_of) (sym (filter-push (is_left said) (take row (registers_of said)) register))
            ∙ ap (λ xs. map drop_of (filter (is_left said) xs)) (sym (take-next (registers_of said) row register is_register));
        others = λ k from within.
            let apart = name-apart (name_at before.names.items k) assigned.name
            (λ e. omega (arith, e, from, ap (λ (x : Name). x.generation) named, numbered before.names.items start.adds stands.generations k within, numbered before.names.items start.adds stands.generations row below)) in
            turn.others (name_at before.names.items k) apart ∙ was.others k (omega (arith, from)) within;
      };
  names = names_after commands now new script after row assigned drops_it ∙ up.names;
  rows = omega (arith, up.rows, rows);
  entries = omega (arith, up.entries, entries);
  kept = (kept.0 ∙ up.kept.0, kept.1 ∙ up.kept.1);
}

pub last_drop : (old now : Seen) (commands : List Command) (before script : Script) (row : ℕ) → DropsUpTo old now commands before script row → row ≡ length before.names.items
    → (start : Seen) (said : List HistoryLine) → HasSaid start old commands before.names.items before.lines.items said → DropsTheRest start now commands script said
last_drop old now commands before script row up end start said stands =
    let was = up.lines start said stands in
    let all : take row (registers_of said) ≡ registers_of said =
    take_all row (registers_of said) (omega (arith, end, ap length stands.registers, length-map before.names.items (register_of commands))) in
    record { dropped = was.dropped; stands = was.stands; rest = was.says ∙ ap (λ xs. map drop_of (filter (is_left said) xs)) all }
