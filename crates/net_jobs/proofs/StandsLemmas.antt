-- A session that has said one more line.
use Rattle.std.proofs.Common.{◌≡◌, ℕ, zero, suc, ◌+◌, ◌<◌, ◌≤◌, Bool, true, false, not, ◌&&◌, ◌||◌, List, [], ◌∷◌, ◌++◌, length, map, Option, Some, None, refl, sym, ap, ap₂, ◌∙◌, subst, arith, append_assoc}
use Rattle.std.specs.Prelude.{◌==◌, is_some}
use Rattle.std.specs.List.{All, cons_option, range_with_len}
use Rattle.std.proofs.lemmas.Bool.{false≢true, ne_eqb}
use Rattle.std.proofs.lemmas.List.{append-nil, length_push, map-append}
use Rattle.std.proofs.lemmas.List.Elements.{All-append, All-cons, All-head, All-nil, All-tail, filter_map-append}
use Rattle.std.proofs.lemmas.List.Folds.{list_any-append}
use Rattle.function_laws.specs.declared.history.Call.{Call}
use Rattle.function_laws.specs.declared.history.Call.TheVariants as calls
use Rattle.function_laws.specs.declared.history.Entry.{Entry}
use Rattle.function_laws.specs.declared.history.Name.{Name}
use Rattle.function_laws.specs.SessionEntries.{entry}
use Rattle.function_laws.specs.Tables.{same_name}
use Rattle.dd_session.specs.Sessions.{stands_now}
use Rattle.job_text.specs.declared.job.Command.{Command}
use Rattle.job_words.specs.Text.{Word}
use Rattle.job_text.specs.Grammar.{target_of}
use Rattle.job_text.specs.Histories.{HistoryLine, drops, given_by, register_as, held_by, line_text, registers_of, stops, told_of}
use Rattle.dd_session.specs.Sessions.{Seen}
use Rattle.net_jobs.specs.declared.answering.Answered.{Answered}
use Rattle.net_jobs.specs.declared.registers.Assigned.{Assigned}
use Rattle.net_jobs.specs.declared.said.Said.{Said}
use Rattle.net_jobs.specs.Sections.{IsFullBy, Rises, entry_of, said_of, written_as}
use Rattle.net_jobs.specs.Saying.{IsAnswered, HasSaid, assigned_after, is_dropped, is_none, makes_row, register_of, target_at}
use Rattle.net_jobs.proofs.CallLaws.{Given, count_of, given, left, left_none, names_given}
use Rattle.net_jobs.proofs.OutcomeKinds.{is_plain}

abbrev pub generation_of : Assigned → ℕ
generation_of a = a.name.generation

-- one number more
pub range-more : (first n : ℕ) → range_with_len first (n + 1) ≡ range_with_len first n ++ (first + n) ∷ []
range-more first zero = ap (λ k. k ∷ []) (omega arith)
range-more first (suc n) =
    let longer : suc n + 1 ≡ suc (n + 1) = omega arith in
    ap (range_with_len first) longer ∙ ap (λ xs. first ∷ xs) (range-more (first + 1) n ∙ ap (λ k. range_with_len (first + 1) n ++ k ∷ []) (omega arith))

-- names of generations from the first on are below the next
pub all_below : (names : List Assigned) (first : ℕ) → map generation_of names ≡ range_with_len first (length names) → All (λ (a : Assigned). a.name.generation < first + length names) names
all_below [] first is = All-nil (λ (a : Assigned). a.name.generation < first + 0)
all_below (a ∷ names) first is =
    let head : a.name.generation ≡ first = cc in
    let tail : map generation_of names ≡ range_with_len (first + 1) (length names) = cc in
    All-cons (λ (x : Assigned). x.name.generation < first + suc (length names)) a names (omega (arith, head))
    (λ k x at. (let below = all_below names (first + 1) tail k x at in omega (arith, below)))

-- a name of another generation is another name
pub other_generation : (a b : Name) → a.generation < b.generation → same_name a b ≡ false
other_generation a b less = ap (λ g. (a.row == b.row) && g) (ne_eqb a.generation b.generation (λ e. omega (arith, e, less))) ∙ and_false (a.row == b.row)
  where
    and_false : (x : Bool) → (x && false) ≡ false
    and_false true = refl
    and_false false = refl

pub rises-push : (es : List Entry) (e : Entry) → Rises es → All (λ (f : Entry). f.place < e.place) es → Rises (es ++ e ∷ [])
rises-push [] e rises later = (All-nil (λ (f : Entry). e.place < f.place), tt)
rises-push (x ∷ es) e rises later = (
  All-append (λ (f : Entry). x.place < f.place) es (e ∷ []) rises.0 (All-cons (λ (f : Entry). x.place < f.place) e [] (All-head (λ (f : Entry). f.place < e.place) x es later) (All-nil (λ (f : Entry). x.place < f.place))),
  rises-push es e rises.1 (All-tail (λ (f : Entry). f.place < e.place) x es later),
)

-- what follows for each from what holds of it
all_kept : (P Q R : Assigned → Type 0) (xs : List Assigned) → ((x : Assigned) → P x → Q x → R x) → All P xs → All Q xs → All R xs
all_kept P Q R xs f p q = λ k d below. f _ (p k d below) (q k d below)

-- the part of a list that stands behind another
pub all_behind : (P : Entry → Type 0) (xs ys : List Entry) → All P (xs ++ ys) → All P ys
all_behind P [] ys all = all
all_behind P (x ∷ xs) ys all = all_behind P xs ys (All-tail P x (xs ++ ys) all)

or_false : (b : Bool) → (b || false) ≡ b
or_false true = refl
or_false false = refl

registers-grow : (said : List HistoryLine) (line : HistoryLine) (o : Option Name) → given_by line.entry.reply ≡ o → registers_of (said ++ line ∷ []) ≡ registers_of said ++ cons_option (register_as line.words o) []
registers-grow said line o is = filter_map-append held_by said (line ∷ []) ∙ ap (λ o. registers_of said ++ cons_option (register_as line.words o) []) is

-- a call that makes a row drops none
makes_drops : (call : Call) (name : Name) → makes_row call ≡ true → drops name call ≡ false
makes_drops (calls.DropRow a) name is = cc
makes_drops call name is = refl

-- a register that is noted was assigned by one of the commands
within-after : (made : Option Name) (i n : ℕ) (names : List Assigned) → All (λ (a : Assigned). a.command < n) names → (is_some made ≡ true → i < n) → All (λ (a : Assigned). a.command < n) (assigned_after made i names)
within-after None i n names all lt = all
within-after (Some name) i n names all lt =
    let one : Assigned = record { name = name; command = i } in
    All-append (λ (a : Assigned). a.command < n) names (one ∷ []) all (All-cons (λ (a : Assigned). a.command < n) one [] (lt refl) (All-nil (λ (a : Assigned). a.command < n)))

and_first : (a b : Bool) → true ≡ (a && b) → a ≡ true
and_first true b is = refl
and_first false b is = absurd (false≢true (sym is))

module _ (start old new : Seen) (commands : List Command) (names : List Assigned) (written written' : List Said) (said : List HistoryLine) (words : List Word) (call : Call) (answered : Answered) (i : ℕ)
    (stands : HasSaid start old commands names written said) (is : IsAnswered old new call answered) (plain : is_plain call ≡ true)
    (given_before : (name : Name) → old.adds ≤ name.generation → drops name call ≡ false) where
  -- the line of the call
  abbrev pub said_line : HistoryLine
  said_line = record { entry = entry answered.place old.number call is.reply; words = words; reply = answered.reply }

  abbrev after : List HistoryLine
  after = said ++ said_line ∷ []

  entries-after : map entry_of after ≡ map entry_of said ++ said_line.entry ∷ []
  entries-after = map-append entry_of said (said_line ∷ [])

  gained-after : new.entries ≡ start.entries ++ map entry_of after
  gained-after = is.called.entries_are ∙ ap (λ es. es ++ said_line.entry ∷ []) stands.gained ∙ append_assoc start.entries (map entry_of said) (said_line.entry ∷ []) ∙ ap (λ es. start.entries ++ es) (sym entries-after)

  all-after : (P : HistoryLine → Type 0) → All P said → P said_line → All P after
  all-after P all one = All-append P said (said_line ∷ []) all (All-cons P said_line [] one (All-nil P))

  rises-after : Rises (map entry_of after)
  rises-after = subst Rises (sym entries-after) (rises-push (map entry_of said) said_line.entry stands.rises
      (all_behind (λ (f : Entry). f.place < answered.place) start.entries (map entry_of said) (subst (All (λ (f : Entry). f.place < answered.place)) stands.gained is.called.later)))

  dropped-after : (name : Name) → is_dropped after name ≡ (is_dropped said name || drops name call)
  dropped-after name = list_any-append (λ line. drops name line.entry.call) said (said_line ∷ []) ∙ ap (λ b. is_dropped said name || b) (or_false (drops name call))

  below : All (λ (a : Assigned). a.name.generation < old.adds) names
  below = subst (λ n. All (λ (a : Assigned). a.name.generation < n) names) (sym stands.adds) (all_below names start.adds stands.generations)

  abbrev IsLeft : List HistoryLine → Seen → Assigned → Type 0
  IsLeft lines s a = is_dropped lines a.name ≡ is_none (stands_now s a.name)

  -- what depends on whether the call gave a name
  record Registers (made : Option Name) : Type 0 where
    pub registers : registers_of after ≡ map (register_of commands) (assigned_after made i names)
    pub adds : new.adds ≡ start.adds + length (assigned_after made i names)
    pub generations : map generation_of (assigned_after made i names) ≡ range_with_len start.adds (length (assigned_after made i names))
    pub fresh : (name : Name) → new.adds ≤ name.generation → is_dropped after name ≡ false
    pub live : All (IsLeft after new) (assigned_after made i names)
    pub few : length new.rows ≤ length (assigned_after made i names)

  adds_by : (made : Option Name) → given_by is.reply ≡ made → new.adds ≡ old.adds + count_of made
  adds_by made gives = is.called.adds_are ∙ ap (λ n. old.adds + n) (names_given is.reply ∙ ap count_of gives)

  rows_by : (made : Option Name) → given_by is.reply ≡ made → length new.rows ≤ length old.rows + count_of made
  rows_by made gives = subst (λ n. length new.rows ≤ length old.rows + n) (names_given is.reply ∙ ap count_of gives) is.called.few

  fresh_by : (name : Name) → old.adds ≤ name.generation → is_dropped after name ≡ false
  fresh_by name from = dropped-after name ∙ ap₂ (λ a b. a || b) (stands.fresh name from) (given_before name from)

  registers-none : given_by is.reply ≡ None → Registers None
  registers-none gives = record {
    registers = registers-grow said said_line None gives ∙ append-nil (registers_of said) ∙ stands.registers;
    adds = omega (arith, adds_by None gives, stands.adds);
    generations = stands.generations;
    fresh = λ name from. fresh_by name (omega (arith, from, adds_by None gives));
    live = all_kept (IsLeft said old) (λ a. a.name.generation < old.adds) (IsLeft after new) names (λ a kept before.
        dropped-after a.name ∙ ap (λ b. b || drops a.name call) kept ∙ sym (left_none call a.name (stands_now old a.name))
        ∙ ap is_none (sym (left old new call is.reply answered.place is.called gives a.name))) stands.live below;
    few = omega (arith, rows_by None gives, stands.few);
  }

  registers-made : (name : Name) → given_by is.reply ≡ Some name → answered.made ≡ Some name → target_of words ≡ target_at commands i → Registers (Some name)
  registers-made name gives made word =
      let is_given : Given old new call name = given old new call is.reply answered.place is.called name plain gives in
      let makes : makes_row call ≡ true = and_first (makes_row call) (not (stops answered.reply)) (ap is_some (sym made) ∙ is.made_if) in
      let one : Assigned = record { name = name; command = i } in
      let longer = length_push names one in record {
        registers = registers-grow said said_line (Some name) gives ∙ ap₂ (λ rs (w : Word). rs ++ record { word = w; name = name } ∷ []) stands.registers word
            ∙ sym (map-append (register_of commands) names (one ∷ []));
        adds = omega (arith, adds_by (Some name) gives, stands.adds, longer);
        generations = map-append generation_of names (one ∷ []) ∙ ap₂ (λ xs g. xs ++ g ∷ []) stands.generations (is_given.generation ∙ stands.adds)
            ∙ sym (range-more start.adds (length names)) ∙ ap (range_with_len start.adds) (sym longer);
        fresh = λ other from. fresh_by other (omega (arith, from, adds_by (Some name) gives));
        live = All-append (IsLeft after new) names (one ∷ [])
            (all_kept (IsLeft said old) (λ a. a.name.generation < old.adds) (IsLeft after new) names (λ a kept before.
            dropped-after a.name ∙ ap₂ (λ x y. x || y) kept (makes_drops call a.name makes) ∙ or_false (is_none (stands_now old a.name))
            ∙ ap is_none (sym (is_given.others a.name (other_generation a.name name (omega (arith, before, is_given.generation)))))) stands.live below)
            (All-cons (IsLeft after new) one [] (fresh_by name (omega (arith, is_given.generation)) ∙ ap is_none (sym is_given.stands)) (All-nil (IsLeft after new)));
        few = omega (arith, rows_by (Some name) gives, stands.few, longer);
      }

  registers-after : (made : Option Name) → answered.made ≡ made → (is_some made ≡ true → target_of words ≡ target_at commands i) → Registers made
  registers-after None made word = registers-none (is.gives ∙ made)
  registers-after (Some name) made word = registers-made name (is.gives ∙ made) made (word refl)

  pub stands-after : (is_some answered.made ≡ true → (i < length commands) × (target_of words ≡ target_at commands i))
      → map written_as written' ≡ map written_as written ++ (answered.place, line_text answered.place old.number words answered.reply) ∷ []
      → HasSaid start new commands (assigned_after answered.made i names) written' after
  stands-after word text =
      let r = registers-after answered.made refl (λ made. (word made).1) in record {
        gained = gained-after;
        own = all-after (λ (line : HistoryLine). line.entry.session ≡ start.number) stands.own stands.number_is;
        told = all-after (λ (line : HistoryLine). told_of line.entry.reply ≡ Some line.reply) stands.told is.told;
        full = all-after (λ (line : HistoryLine). IsFullBy start.manager line.entry.call line.entry.reply) stands.full (subst (λ m. IsFullBy m call is.reply) stands.manager_is is.full);
        rises = rises-after;
        texts = text ∙ ap (λ xs. xs ++ said_of said_line ∷ []) stands.texts ∙ sym (map-append said_of said (said_line ∷ []));
        manager_is = is.called.manager_is ∙ stands.manager_is;
        number_is = is.called.number_is ∙ stands.number_is;
        registers = r.registers;
        within = within-after answered.made i (length commands) names stands.within (λ made. (word made).0);
        adds = r.adds;
        generations = r.generations;
        fresh = r.fresh;
        live = r.live;
        few = r.few;
      }

-- at the beginning nothing was said
pub stands-first : (s : Seen) (commands : List Command) → s.rows ≡ [] → HasSaid s s commands [] [] []
stands-first s commands empty = record {
  gained = sym (append-nil s.entries);
  own = All-nil (λ (line : HistoryLine). line.entry.session ≡ s.number);
  told = All-nil (λ (line : HistoryLine). told_of line.entry.reply ≡ Some line.reply);
  full = All-nil (λ (line : HistoryLine). IsFullBy s.manager line.entry.call line.entry.reply);
  rises = tt;
  texts = refl;
  manager_is = refl;
  number_is = refl;
  registers = refl;
  within = All-nil (λ (a : Assigned). a.command < length commands);
  adds = omega arith;
  generations = refl;
  fresh = λ name from. refl;
  live = All-nil (λ (a : Assigned). is_dropped [] a.name ≡ is_none (stands_now s a.name));
  few = omega (arith, ap length empty);
}
