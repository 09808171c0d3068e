-- The registers of the grammar are live, and of their kinds, after each command.
use Rattle.std.proofs.Common.{◌≡◌, ◌≢◌, ℕ, zero, suc, ◌+◌, ◌<◌, ⊎_elim, Bool, true, false, cond, not, ◌&&◌, List, [], ◌∷◌, ◌++◌, length, map, Option, Some, None, refl, sym, ap, ◌∙◌, subst, arith}
use Rattle.std.specs.Prelude.{is_some, option_map, slice_get}
use Rattle.std.specs.Str.{bytes_eq}
use Rattle.std.specs.List.{range_with_len}
use Rattle.std.specs.Prelude.{◌==◌}
use Rattle.std.proofs.lemmas.Bool.{false≢true, ne_eqb}
use Rattle.std.proofs.lemmas.List.{length_push, length-map}
use Rattle.std.proofs.lemmas.Option.{slice_get-map}
use Rattle.std.proofs.lemmas.Slice.Eq.{bytes_eq-Decides}
use Rattle.edge_bits.specs.declared.edges.Kind.{Kind}
use Rattle.function_laws.specs.declared.history.Call.{Call}
use Rattle.function_laws.specs.declared.history.Call.TheVariants as calls
use Rattle.function_laws.specs.declared.history.Function.{Function}
use Rattle.function_laws.specs.declared.history.Name.{Name}
use Rattle.function_laws.specs.declared.history.Sifting.{Sifting}
use Rattle.function_laws.specs.declared.orders.Order.TheVariants.{Variables, Elements}
use Rattle.function_laws.specs.Tables.{same_name}
use Rattle.dd_session.specs.Sessions.{kind_of, stands_now}
use Rattle.dd_session.proofs.SessionLaws.{live_now, now_live}
use Rattle.job_commands.specs.declared.acts.Act.{Act}
use Rattle.job_commands.specs.declared.acts.Act.TheVariants.{Makes, Copy, Fetch, Post, Drop, Same, Leq, Eval, Sweep, Swap, Sift}
use Rattle.job_text.specs.declared.job.Counts.{Counts}
use Rattle.job_text.specs.declared.job.Register.{Register}
use Rattle.job_text.specs.declared.operands.Operand.TheVariants as operands
use Rattle.job_words.specs.Text.{Word}
use Rattle.function_laws.specs.Makings.{kind_made}
use Rattle.job_text.specs.Places.{StandsFor, kind_at}
use Rattle.job_text.specs.Grammar.{Says, registers_after, without}
use Rattle.job_text.specs.Histories.{stops}
use Rattle.job_text.proofs.Effects.{EachStands, Leaves, leaves, operands_stand}
use Rattle.job_text.proofs.Rows.{Takes, takes}
use Rattle.dd_session.specs.Sessions.{IsLiveAs, Seen}
use Rattle.net_jobs.specs.declared.answering.Answered.{Answered}
use Rattle.net_jobs.specs.declared.registers.Assigned.{Assigned}
use Rattle.net_jobs.specs.Saying.{Covers, IsAnswered, assigned_after, call_of, makes_row, name_at, name_in}
use Rattle.function_laws.specs.Outcomes.{Outcome}
use Rattle.function_laws.specs.Steps.{outcome_of}
use Rattle.function_laws.specs.Tables.{Sizes}
use Rattle.net_jobs.proofs.CallLaws.{ComesOf, Given, given, left, left_by}
use Rattle.net_jobs.proofs.CanLemmas.{refers-kind}
use Rattle.net_jobs.proofs.ListLemmas.{slice_get-push, slice_get-push_new, slice_get-push_old}
use Rattle.net_jobs.proofs.OutcomeKinds.{IsOfKind, copy-kind, fetch-kind, is_plain, kind_or, named-kind}
use Rattle.net_jobs.proofs.StandsLemmas.{generation_of, other_generation}

-- the names of the registers are of one generation after another
pub numbered : (names : List Assigned) (first : ℕ) → map generation_of names ≡ range_with_len first (length names) → (a : ℕ) → a < length names → (name_at names a).generation ≡ first + a
numbered [] first is a below = absurd (omega (arith, below))
numbered (x ∷ names) first is zero below = let head : x.name.generation ≡ first = cc in omega (arith, head)
numbered (x ∷ names) first is (suc a) below =
    let tail : map generation_of names ≡ range_with_len (first + 1) (length names) = cc in
    let rest = numbered names (first + 1) tail a (omega (arith, below)) in
    omega (arith, rest)

-- two of them are two names
pub name-apart : (a b : Name) → a.generation ≢ b.generation → same_name a b ≡ false
name-apart a b apart = ap (λ g. (a.row == b.row) && g) (ne_eqb a.generation b.generation apart) ∙ and_false (a.row == b.row)
  where
    and_false : (x : Bool) → (x && false) ≡ false
    and_false true = refl
    and_false false = refl

-- a command's call is one of a job
pub plain : (told : Sifting) (names : List Assigned) (act : Act) → is_plain (call_of told names act) ≡ true
plain told names (Drop a) = refl
plain told names (Swap Variables level) = refl
plain told names (Swap Elements level) = refl
plain told names (Sift Variables) = refl
plain told names (Sift Elements) = refl
plain told names act = refl

and_both : (a b : Bool) → (a && b) ≡ true → (a ≡ true) × (b ≡ true)
and_both true b is = (refl, is)
and_both false b is = absurd (false≢true is)

not_true : (b : Bool) → not b ≡ true → b ≡ false
not_true true is = absurd (false≢true is)
not_true false is = refl

same_word : (w : Word) → bytes_eq w w ≡ true
same_word w = (bytes_eq-Decides w w).1 refl

-- a register that is live after a drop was live before, and has another name
without-live : (dropped word : Word) (k : Kind) (o : Option Register) → option_map (without dropped) o ≡ Some (record { name = word; live = true; kind = k })
    → (o ≡ Some (record { name = word; live = true; kind = k })) × (bytes_eq word dropped ≡ false)
without-live dropped word k None is = cc
without-live dropped word k (Some register) is =
    let same : without dropped register ≡ record { name = word; live = true; kind = k } = cc in
    let name : register.name ≡ word = ap (λ (r : Register). r.name) same in
    let flags : (register.live && not (bytes_eq register.name dropped)) ≡ true = ap (λ (r : Register). r.live) same in
    let both = and_both register.live (not (bytes_eq register.name dropped)) flags in
    let still : register.live ≡ (register.live && not (bytes_eq register.name dropped)) = both.0 ∙ sym flags in
    let kept : Some register ≡ Some (without dropped register) = ap (λ (b : Bool). Some (record { name = register.name; live = b; kind = register.kind })) still in (
      kept ∙ ap (λ (r : Register). Some r) same,
      ap (λ w. bytes_eq w dropped) (sym name) ∙ not_true (bytes_eq register.name dropped) both.1,
    )

-- what stands for the same is live of the same kind
live_along : (k : Kind) (old new : Seen) (name : Name) → stands_now new name ≡ stands_now old name → IsLiveAs k old name → IsLiveAs k new name
live_along k old new name same live = let held = now_live k old name live in live_now k new name held.0 (same ∙ held.1) held.2

kind_held : (k : Kind) (s : Seen) (name : Name) → IsLiveAs k s name → kind_or (stands_now s name) ≡ k
kind_held k s name live = let held = now_live k s name live in ap kind_or held.1 ∙ held.2

module _ (n : Counts) (registers : List Register) (old new : Seen) (names : List Assigned) (first i : ℕ) (words : List Word) (covers : Covers registers old names)
    (generations : map generation_of names ≡ range_with_len first (length names)) (adds : old.adds ≡ first + length names) where
  covers-kept : ((name : Name) → stands_now new name ≡ stands_now old name) → Covers registers new names
  covers-kept same = record {
    as_many = covers.as_many;
    held = λ a word k at. let held = covers.held a word k at in (held.0, live_along k old new (name_at names a) (same (name_at names a)) held.1);
  }

  covers-push : (name : Name) (call : Call) (word : Word) (k : Kind) → (is : Given old new call name) → kind_of is.function ≡ k
      → Covers (registers ++ record { name = word; live = true; kind = k } ∷ []) new (assigned_after (Some name) i names)
  covers-push name call word k is kind =
      let register : Register = record { name = word; live = true; kind = k } in
      let one : Assigned = record { name = name; command = i } in
      let longer = length_push names one in
      record {
        as_many = length_push registers register ∙ ap (λ j. j + 1) covers.as_many ∙ sym longer;
        held = λ a other j at. ⊎_elim
            (λ was.
            let held = covers.held a other j was.1 in
            let same : name_at (names ++ one ∷ []) a ≡ name_at names a = ap name_in (slice_get-push_old names one a held.0) in
            let apart = other_generation (name_at names a) name (omega (arith, numbered names first generations a held.0, held.0, adds, is.generation)) in
            (omega (arith, held.0, longer), subst (IsLiveAs j new) (sym same) (live_along j old new (name_at names a) (is.others (name_at names a) apart) held.1)))
            (λ fresh.
            let same : k ≡ j = ap (λ (r : Register). r.kind) fresh.1 in
            let here : a ≡ length names = fresh.0 ∙ covers.as_many in
            let named : name_at (names ++ one ∷ []) a ≡ name = ap (name_at (names ++ one ∷ [])) here ∙ ap name_in (slice_get-push_new names one) in
            (omega (arith, here, longer), subst (IsLiveAs j new) (sym named) (live_now j new name is.function is.stands (kind ∙ same))))
            (slice_get-push registers register (record { name = other; live = true; kind = j }) a at);
      }

  covers-drop : (word : Word) (kind : Kind) (a : ℕ) → slice_get registers a ≡ Some (record { name = word; live = true; kind = kind })
      → ((name : Name) → stands_now new name ≡ left_by (calls.DropRow (name_at names a)) name (stands_now old name)) → Covers (map (without word) registers) new names
  covers-drop word kind a is gone = record {
    as_many = length-map registers (without word) ∙ covers.as_many;
    held = λ j name k at.
        let before = without-live word name k (slice_get registers j) (sym (slice_get-map (without word) registers j) ∙ at) in
        let apart : j ≢ a = λ same.
        let one : Register = record { name = name; live = true; kind = k } in
        let two : Register = record { name = word; live = true; kind = kind } in
        let both : Some one ≡ Some two = sym before.0 ∙ ap (slice_get registers) same ∙ is in
        let equal : one ≡ two = cc in
        let word_is : name ≡ word = ap (λ (r : Register). r.name) equal in
        false≢true (sym before.1 ∙ ap (λ w. bytes_eq w word) word_is ∙ same_word word) in
        let held = covers.held j name k before.0 in
        let dropped = covers.held a word kind is in
        let other = name-apart (name_at names j) (name_at names a)
        (λ e. apart (omega (arith, e, numbered names first generations j held.0, numbered names first generations a dropped.0))) in
        (held.0, live_along k old new (name_at names j) (gone (name_at names j) ∙ ap (λ b. cond b None (stands_now old (name_at names j))) other) held.1);
  }

  module _ (told : Sifting) (act : Act) (answered : Answered) (is : IsAnswered old new (call_of told names act) answered) (goes : stops answered.reply ≡ false) where
    made-is : makes_row (call_of told names act) ≡ true → is_some answered.made ≡ true
    made-is makes = is.made_if ∙ ap (λ b. b && not (stops answered.reply)) makes ∙ ap not goes

    made-none : makes_row (call_of told names act) ≡ false → is_some answered.made ≡ false
    made-none none = is.made_if ∙ ap (λ b. b && not (stops answered.reply)) none

    -- the call gave a name
    pub gave : makes_row (call_of told names act) ≡ true → (name : Name) × (answered.made ≡ Some name) × Given old new (call_of told names act) name
    gave makes = by answered.made refl (made-is makes)
      where
        by : (o : Option Name) → answered.made ≡ o → is_some o ≡ true → (name : Name) × (answered.made ≡ Some name) × Given old new (call_of told names act) name
        by None made some = absurd (false≢true some)
        by (Some name) made some = (name, made, given old new (call_of told names act) is.reply answered.place is.called name (plain told names act) (is.gives ∙ made))

    -- or none
    pub gave_none : makes_row (call_of told names act) ≡ false → (answered.made ≡ None) × ((name : Name) → stands_now new name ≡ left_by (call_of told names act) name (stands_now old name))
    gave_none none = by answered.made refl (made-none none)
      where
        by : (o : Option Name) → answered.made ≡ o → is_some o ≡ false → (answered.made ≡ None) × ((name : Name) → stands_now new name ≡ left_by (call_of told names act) name (stands_now old name))
        by None made some = (made, left old new (call_of told names act) is.reply answered.place is.called (is.gives ∙ made))
        by (Some name) made some = absurd (false≢true (sym some))

    along : (o : Option Name) (rs : List Register) → registers_after registers words ≡ rs → answered.made ≡ o → Covers rs new (assigned_after o i names) → Covers (registers_after registers words) new (assigned_after answered.made i names)
    along o rs same made c = subst (λ (x : List Register). Covers x new (assigned_after answered.made i names)) (sym same) (subst (λ (x : Option Name). Covers rs new (assigned_after x i names)) (sym made) c)

    after-made : (k : Kind) (r : Word) → registers_after registers words ≡ registers ++ record { name = r; live = true; kind = k } ∷ [] → ComesOf k old (call_of told names act) → makes_row (call_of told names act) ≡ true
        → Covers (registers_after registers words) new (assigned_after answered.made i names)
    after-made k r more comes makes =
        let one = gave makes in
        along (Some one.0) _ more one.1 (covers-push one.0 (call_of told names act) r k one.2 (one.2.kind k comes))

    after-kept : registers_after registers words ≡ registers → makes_row (call_of told names act) ≡ false
        → ((name : Name) (o : Option Function) → left_by (call_of told names act) name o ≡ o) → Covers (registers_after registers words) new (assigned_after answered.made i names)
    after-kept keeps none same =
        let nothing = gave_none none in
        along None registers keeps nothing.0 (covers-kept (λ name. nothing.1 name ∙ same name (stands_now old name)))

  -- what was handed on is of the kind of its register
  handed : (a : ℕ) (call : Call) → (word : Word) × StandsFor n registers word (operands.Any a)
      → ((z : Sizes) (cells : ℕ → Option Function) (o : Outcome) → outcome_of z cells (stands_now old) call ≡ Some o → IsOfKind (kind_or (stands_now old (name_at names a))) o)
      → ComesOf (kind_at registers a) old call
  handed a call stands comes z cells o at =
      let k = stands.1.0 in
      let held = covers.held a stands.0 k stands.1.1.1 in
      subst (λ (j : Kind). IsOfKind j o) (kind_held k old (name_at names a) held.1 ∙ sym (refers-kind registers stands.0 a k stands.1.1)) (comes z cells o at)

  -- the registers after a command that goes on
  pub covers-after : (told : Sifting) (act : Act) (answered : Answered) → IsAnswered old new (call_of told names act) answered → stops answered.reply ≡ false → Says n registers words act
      → Covers (registers_after registers words) new (assigned_after answered.made i names)
  covers-after told act answered is goes says = by act is (leaves n registers words act says) (takes n registers words act says) (operands_stand n registers words act says)
    where
      by : (act : Act) → IsAnswered old new (call_of told names act) answered → Leaves n registers words act → Takes n registers act says.operands → EachStands n registers says.operands
          → Covers (registers_after registers words) new (assigned_after answered.made i names)
      by (Makes making) is leave take each =
          after-made told (Makes making) answered is goes (kind_made making) leave.0 leave.1 (λ z cells o at. named-kind z (stands_now old) (name_at names) making o at) refl
      by (Copy a) is leave take each =
          let one = subst (EachStands n registers) take each in
          after-made told (Copy a) answered is goes (kind_at registers a) leave.0 leave.1 (handed a (calls.Copy (name_at names a)) one.0 (λ z cells o at. copy-kind z cells (stands_now old) (name_at names a) o at)) refl
      by (Fetch cell a) is leave take each =
          let both = subst (EachStands n registers) take each in
          after-made told (Fetch cell a) answered is goes (kind_at registers a) leave.0 leave.1 (handed a (calls.Fetch cell (name_at names a)) both.1.0 (λ z cells o at. fetch-kind z cells (stands_now old) cell (name_at names a) o at)) refl
      by (Drop a) is leave take each =
          let nothing = gave_none told (Drop a) answered is goes refl in
          along told (Drop a) answered is goes None (map (without leave.0) registers) leave.3 nothing.0 (covers-drop leave.0 leave.1 a leave.2.1 nothing.1)
      by (Post cell a) is leave take each = after-kept told (Post cell a) answered is goes leave refl (λ name o. refl)
      by Sweep is leave take each = after-kept told Sweep answered is goes leave refl (λ name o. refl)
      by (Swap Variables level) is leave take each = after-kept told (Swap Variables level) answered is goes leave refl (λ name o. refl)
      by (Swap Elements level) is leave take each = after-kept told (Swap Elements level) answered is goes leave refl (λ name o. refl)
      by (Sift Variables) is leave take each = after-kept told (Sift Variables) answered is goes leave refl (λ name o. refl)
      by (Sift Elements) is leave take each = after-kept told (Sift Elements) answered is goes leave refl (λ name o. refl)
      by (Same a b) is leave take each = after-kept told (Same a b) answered is goes leave refl (λ name o. refl)
      by (Leq a b) is leave take each = after-kept told (Leq a b) answered is goes leave refl (λ name o. refl)
      by (Eval a bits) is leave take each = after-kept told (Eval a bits) answered is goes leave refl (λ name o. refl)
