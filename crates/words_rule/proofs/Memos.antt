-- The computed table is taken, with all that it tells, and put back.
use Rattle.std.proofs.Common.{Bool, false, ◌≡◌, ◌≢◌, inl, inr, ℕ, zero, suc, ◌<◌, ◌==◌, true, true≢false, List, [], ◌∷◌, set, get_or, Some, None, refl, ap, sym, ◌∙◌, subst, arith, length-set, eq-eqb, ne_eqb}
use Rattle.std.specs.Prelude as std
use Rattle.std.proofs.lemmas.Bool.{cases_eq}
use mathlib.Core.Logic.{dite}
use mathlib.Core.Option.{Option, none, some}
use native.Mathlib.Decide.{ℕ_discrete}
use lib.ListN.{get_elem?}
use prog.Atomic.{either}
use Rattle.atomic_table.specs.Table.{State, Me, step, stepped, keeps, takes, gives, rest, Allows}
use Rattle.atomic_table.proofs.Lists.{set_else, set_here}
use Rattle.edge_bits.specs.declared.words.Word.{Word}
use Rattle.edge_bits.specs.Words.{unpack_of}
use Rattle.function_laws.specs.Kinds.{Denoted}
use Rattle.function_laws.specs.SessionEntries.{Each}
use Rattle.node_store.specs.Contents.{Content, top_of, top_of_word, view_of}
use Rattle.node_store.proofs.MemoLaws.{Carries}
use Rattle.step_store.specs.Knowing as knowing
use Rattle.step_store.specs.Knowing.{Knowledge, Learns, Stands}
use Rattle.words_rule.specs.declared.cell.Cell.{Cell}
use Rattle.words_rule.specs.declared.view.Held.{Held}
use Rattle.words_rule.specs.declared.view.Hand.{Hand}
use Rattle.words_rule.specs.declared.view.Share.TheVariants as shares
use Rattle.words_rule.specs.declared.view.View.{View}
use Rattle.words_rule.specs.Views.{orders_of}
use Rattle.words_rule.specs.Layout.{Shape, Words, content_of, words_of}
use Rattle.words_rule.specs.Chains.{Lists}
use Rattle.words_rule.specs.Kept.{IsHeldBy}
use Rattle.words_rule.specs.Remembered.{AreAnswers, Remembered}
use Rattle.words_rule.specs.Rule.{Parts, Rule, hands_in}
use Rattle.words_rule.specs.Seen.{StandsSo}
use Rattle.words_rule.specs.Known.{Own, known_of, noted_content, word_in}
use Rattle.words_rule.specs.Plays.{memo_taken, memo_given}
use Rattle.words_rule.proofs.Boards.{tables_home}
use Rattle.words_rule.proofs.Handed.{handed, parts_hand, seen_here, hand_at}
use Rattle.words_rule.proofs.Handling.{hands_it}
use Rattle.words_rule.proofs.Layouts.{set_memo_turn}
use Rattle.words_rule.proofs.Learning.{with_notes, AllHave, words_at, held_at, each_word, each_held, met_here, parts_noting, noting_function}
use Rattle.words_rule.proofs.Linking.{hand_links}
use Rattle.words_rule.proofs.Lists.{set_at}
use Rattle.words_rule.proofs.Meeting.{content_true, narrow, word_stands}
use Rattle.words_rule.proofs.Remembering.{entries_carried, remembered_taken, remembered_given}
use Rattle.words_rule.proofs.Standing.{stands_more}
use Rattle.words_rule.proofs.Tabling.{after_word, set_set, stays, told_still}
use Rattle.free_list.specs.FreeSlots.{FreeSlots}

never : (word : Word) → ◌≡◌ {A = std.Option Word} None (Some word) → ⊥
never word e = cc

-- the slots below a number that denote something
abbrev with_slot : std.Option Denoted → ℕ → List ℕ → List ℕ
with_slot None s l = l
with_slot (Some f) s l = s ∷ l

abbrev used_below : (ℕ → std.Option Denoted) → ℕ → List ℕ
used_below function zero = []
used_below function (suc n) = with_slot (function n) n (used_below function n)

pub used_have : (function : ℕ → std.Option Denoted) (n : ℕ) → AllHave function (used_below function n)
used_have function zero = tt
used_have function (suc n) = by (function n) refl (used_have function n)
  where
    by : (o : std.Option Denoted) → function n ≡ o → AllHave function (used_below function n) → AllHave function (with_slot o n (used_below function n))
    by None is all = all
    by (Some f) is all = ((f, is), all)

used_lists : (function : ℕ → std.Option Denoted) (n s : ℕ) (f : Denoted) → s < n → function s ≡ Some f → Lists (used_below function n) s
used_lists function zero s f lt is = absurd (omega (arith, lt))
used_lists function (suc n) s f lt is = elim (cases_eq n s) [
  | inl same ↦ subst (λ (o : std.Option Denoted). Lists (with_slot o n (used_below function n)) s) (sym (ap function same ∙ is)) (inl same)
  | inr ne ↦ by (function n) (used_lists function n s f (omega (arith, lt, ne)) is)
]
  where
    by : (o : std.Option Denoted) → Lists (used_below function n) s → Lists (with_slot o n (used_below function n)) s
    by None there = there
    by (Some g) there = inr there

-- what is so of a seat with an operation share is so whatever it has in hand
pub stands_handed : (k : Knowledge) (h : knowing.Hand) → Stands k → Stands (knowing.handed k h)
stands_handed k h s = record {
  permanent = s.permanent;
  projections = s.projections;
  canonical = s.canonical;
  within = s.within;
  few_variables = s.few_variables;
  few_elements = s.few_elements;
  few_slots = s.few_slots;
  some_heads = s.some_heads;
  few_heads = s.few_heads;
  few_fulls = s.few_fulls;
  never_wants = s.never_wants;
}

module _ {S : Type 0} (board : S → List (std.Option Cell)) (free_slots : S → FreeSlots) (memo : S → List ℕ) where
  abbrev PartsOf : Shape → Words → (ℕ → Option (Option (std.Option S))) → List View → Type 0
  PartsOf = Parts board free_slots memo

  abbrev TheRule : State (std.Option S) View → Type 0
  TheRule = Rule board free_slots memo

  abbrev Sat : Type 0
  Sat = Me (std.Option S) View

  module _ (z : Shape) (ws : Words) (home : ℕ → Option (Option (std.Option S))) (vs : List View) (r : PartsOf z ws home vs) (id : ℕ) (v : View) (at : get_elem? vs id ≡ some v)
      (live : v.draws.live ≡ true) (share : v.shares.op ≡ shares.Held) (o : Own) where
    abbrev w : Content
    w = content_of z ws.node r.orders r.function r.half

    abbrev K : Knowledge
    K = known_of v o

    orders_noted : orders_of v.known ≡ r.orders
    orders_noted = r.ordered.shared id v at share

    -- what a seat puts in holds of the store
    pub known_carries : Carries K.view (view_of w) (λ _. Unit {0})
    known_carries = let n = narrow board free_slots memo z ws home vs r id v at live share orders_noted o in record { vars = n.vars; elements = n.elements; level = n.level; content = λ s f these is. n.content s f is }

    -- a seat notes all slots in use
    abbrev all_slots : List ℕ
    all_slots = used_below r.function z.slots

    abbrev all_have : AllHave r.function all_slots
    all_have = used_have r.function z.slots

    abbrev pub all_view : View
    all_view = with_notes v (words_at ws.node all_slots) (held_at z r.function all_slots all_have)

    all_words : Each (StandsSo ws.node v) (words_at ws.node all_slots)
    all_words = each_word (StandsSo ws.node v) ws.node r.function (λ s f is. let u = r.sound.used s f is in (refl, λ free. absurd (never u.0 (sym free ∙ u.1)))) all_slots all_have

    all_held : Each (IsHeldBy z r.function) (held_at z r.function all_slots all_have)
    all_held = each_held z r.function all_slots all_have

    pub all_parts : PartsOf z ws home (set vs id all_view)
    all_parts = parts_noting board free_slots memo z ws home vs r id v at (words_at ws.node all_slots) (held_at z r.function all_slots all_have) (λ has. all_words) (λ has. all_held)

    all_function : all_parts.function ≡ r.function
    unfolding all_parts
    all_function = noting_function board free_slots memo z ws home vs r id v at (words_at ws.node all_slots) (held_at z r.function all_slots all_have) (λ has. all_words) (λ has. all_held)

    abbrev K' : Knowledge
    K' = known_of all_view o

    pub at_all : get_elem? (set vs id all_view) id ≡ some all_view
    at_all = set_at vs id v all_view at

    orders_all : orders_of all_view.known ≡ all_parts.orders
    orders_all = all_parts.ordered.shared id all_view at_all share

    met_all : (s : ℕ) (f : Denoted) → r.function s ≡ Some f → (K'.view.content s ≡ Some f) × (K'.word s ≡ Some (ws.node s))
    met_all s f is =
        let there = used_lists r.function z.slots s f (r.sound.within s (r.sound.used s f is)) is in
        let m = met_here v.draws.vars z ws.node r.function all_slots all_have s there in
        let c = content_true board free_slots memo z ws home (set vs id all_view) all_parts id all_view at_all live share orders_all o s m.0 m.1 in
        (m.1 ∙ sym c.3 ∙ ap (λ (g : ℕ → std.Option Denoted). g s) all_function ∙ is, c.1 ∙ ap Some (sym c.2))

    content_kept : (t : ℕ) (g : Denoted) → K.view.content t ≡ Some g → K'.view.content t ≡ Some g
    content_kept t g is = (met_all t g (content_true board free_slots memo z ws home vs r id v at live share orders_noted o t g is).3).0

    words_kept : (t b : ℕ) → K.word t ≡ Some b → K'.word t ≡ Some b
    words_kept t b is =
        let st = word_stands board free_slots memo z ws home vs r id v at live share orders_noted o t b is in
        let d = r.sound.denotes t (st.1, ap unpack_of st.0 ∙ st.2) in
        (met_all t d.0 d.1).1 ∙ ap Some st.0

    pub learns_all : Learns K K'
    learns_all = record {
      kept = record {
        grown = record {
          vars = refl;
          elements = refl;
          slots = refl;
          level = refl;
          content = content_kept;
          top = λ t g is. (let c = content_true board free_slots memo z ws home vs r id v at live share orders_noted o t g is in tops t c.0 c.1);
          made = λ t is. is;
          fulls = omega arith;
          counts = refl;
          generations = refl;
          holds = refl;
          wants = λ is. is;
        };
        made = refl;
        fulls = refl;
        due = refl;
      };
      room = refl;
      words = words_kept;
      heads = refl;
    }
      where
        tops : (t b : ℕ) → K.word t ≡ Some b → top_of (noted_content all_view) t ≡ top_of (noted_content v) t
        tops zero b is = refl
        tops (suc zero) b is = refl
        tops (suc (suc zero)) b is = refl
        tops (suc (suc (suc t))) b is = ap (λ (x : std.Option ℕ). top_of_word (orders_of v.known) (word_in x)) (words_kept (suc (suc (suc t))) b is ∙ sym is)

    pub all_hold : (words : List ℕ) → AreAnswers (view_of w) words → AreAnswers K'.view words
    all_hold words hold =
        let n = narrow board free_slots memo z ws home vs r id v at live share orders_noted o in
        entries_carried (view_of w) K'.view words (record { vars = sym n.vars; elements = sym n.elements; level = sym n.level; content = λ s f these is. (met_all s f is).0 }) hold

    pub all_stand : K.view.fulls < 18446744073709551616 → Stands K → Stands K'
    all_stand few st = stands_more board free_slots memo z ws home (set vs id all_view) all_parts id all_view at_all live share orders_all o K st learns_all.kept.grown refl few

  -- only the computed table moves
  module _ (z : Shape) (ws : Words) (home : ℕ → Option (Option (std.Option S))) (vs : List View) (r : PartsOf z ws home vs) (id : ℕ) (v : View) (at : get_elem? vs id ≡ some v) (live : v.draws.live ≡ true) where
    pub parts_memo : (has : Bool) (turn : ℕ) (home' : ℕ → Option (Option (std.Option S))) → home' 0 ≡ home 0 → home' 1 ≡ home 1
        → Remembered memo (view_of (content_of z ws.node r.orders r.function r.half)) turn (home' 2) (set (hands_in vs) id (record v.hand { memo = has })) → PartsOf z (record ws { memo_turn = turn }) home' (set vs id (handed v (record v.hand { memo = has })))
    parts_memo has turn home' same_board same_free remembered =
        let h : Hand = record v.hand { memo = has } in
        let t = r.tied id v at in
        let here = hand_at board free_slots memo z ws home vs r id v at in
        let w = content_of z ws.node r.orders r.function r.half in
        parts_hand board free_slots memo z ws home vs r id v at h ws.free_turn turn ws.turn ws.node ws.next ws.head home' r.function r.on r.chain same_board r.kept r.sound remembered
        (tables_home free_slots z w r.on ws.free_turn ws.turn home home' (set (hands_in vs) id h) same_free
        (hands_it free_slots z w r.on ws.free_turn ws.turn home (hands_in vs) r.tables id v.hand here h refl refl refl refl (r.tables.walking id v.hand here)))
        (hand_links z ws.node ws.next ws.head r.on r.chain (hands_in vs) r.linked id h (r.linked.links id v.hand here) (r.linked.walks id v.hand here) (r.linked.wholes id v.hand here))
        (record { zeros = t.zeros; pins = t.pins; taken = t.taken; alone = t.alone; dead = λ gone. absurd (true≢false (sym live ∙ gone)) })
        (seen_here board free_slots memo z ws home vs r id v at h)

  pub takes_memo : (slots id : ℕ) (me : Sat) (o : Own) (new : ℕ) → me.0.draws.live ≡ true → me.0.shares.op ≡ shares.Held → o.fulls < 18446744073709551616 → new ≢ 0
      → Allows TheRule slots id me 5 (λ n. either (n == 0) new n) (memo_taken memo o (step slots 5 0 new none) me)
  takes_memo slots id me o new live share few nonzero s r long at small =
      let v = me.0 in
      let z = r.shape in
      let p = r.parts in
      let home = λ (k : ℕ). get_elem? s.homes k in
      let ws = words_of z s.words in
      let n : ℕ = get_or s.words 5 0 in
      dite (ℕ_discrete n 0)
      (λ hit.
      let y = p.remembered.at_home hit in
      let x : S = y.1 in
      let hs = set s.homes 2 none in
      let u : View = all_view z ws home s.views p id v at live share o in
      let q : PartsOf z ws home (set s.views id u) = all_parts z ws home s.views p id v at live share o in
      let at_u = at_all z ws home s.views p id v at live share o in
      let l = learns_all z ws home s.views p id v at live share o in
      let h : Hand = record v.hand { memo = true } in
      let w : View = handed u h in
      let view = view_of (content_of z ws.node q.orders q.function q.half) in
      let parts = parts_memo z ws home (set s.views id u) q id u at_u live true new (λ k. get_elem? hs k) (set_else s.homes 2 0 none (λ e. omega (arith, e))) (set_else s.homes 2 1 none (λ e. omega (arith, e)))
      (remembered_taken memo view view ws.memo_turn (home 2) new (get_elem? hs 2) (hands_in (set s.views id u)) id h hit nonzero q.remembered) in (
        w,
        takes 2 (Some x),
        y.2,
        subst (λ b. TheRule (stepped s 5 (either b new n) id me.1 w (takes 2 (Some x)))) (sym (eq-eqb n 0 hit))
            (after_word board free_slots memo s r 5 new (set s.views id w) hs (record ws { memo_turn = new }) (length-set s.homes 2 none) (set_memo_turn z s.words new (let l = r.wide in omega (arith, l)))
            (subst (λ (y : List View). PartsOf z (record ws { memo_turn = new }) (λ k. get_elem? hs k) y) (set_set s.views id u w) parts)
            (told_still board free_slots memo s r id v w at refl)),
        (
          refl,
          (λ _. (
            x,
            record {
              seat = record { draws = refl; shares = refl; counts = refl; orders = refl };
              hand = refl;
              work = refl;
              stored = refl;
              learns = record { kept = l.kept; room = l.room; words = l.words; heads = l.heads };
              stands = λ st. stands_handed (known_of u o) (known_of w o).hand (all_stand z ws home s.views p id v at live share o few st);
              holds = all_hold z ws home s.views p id v at live share o (memo x) y.3;
            },
            refl,
          )),
          (λ miss. absurd (miss hit)),
        ),
      ))
      (λ miss. (
        v,
        keeps,
        tt,
        subst (λ b. TheRule (stepped s 5 (either b new n) id me.1 v keeps)) (sym (ne_eqb n 0 miss)) (stays board free_slots memo s 5 id me r at),
        (refl, (λ hit. absurd (miss hit)), (λ _. refl)),
      ))

  pub gives_memo : (slots id : ℕ) (me : Sat) (o : Own) (x : S) → me.0.draws.live ≡ true → me.0.shares.op ≡ shares.Held → me.1 ≡ (2, Some x) ∷ rest me.1 → me.0.hand.memo ≡ true → AreAnswers (known_of me.0 o).view (memo x)
      → Allows TheRule slots id me 5 (λ _. 0) (memo_given (step slots 5 0 0 none) me)
  gives_memo slots id me o x live share has has_memo hold s r long at small =
      let v = me.0 in
      let z = r.shape in
      let p = r.parts in
      let home = λ (k : ℕ). get_elem? s.homes k in
      let ws = words_of z s.words in
      let hs = set s.homes 2 (some (Some x)) in
      let w : View = handed v (record v.hand { memo = false }) in
      let view = view_of (content_of z ws.node p.orders p.function p.half) in
      let parts = parts_memo z ws home s.views p id v at live false 0 (λ k. get_elem? hs k) (set_else s.homes 2 0 (some (Some x)) (λ e. omega (arith, e))) (set_else s.homes 2 1 (some (Some x)) (λ e. omega (arith, e)))
      (remembered_given memo view view ws.memo_turn (home 2) (get_elem? hs 2) x (hands_in s.views) id v.hand (record v.hand { memo = false }) (hand_at board free_slots memo z ws home s.views p id v at) has_memo refl
      (set_here s.homes 2 (some (Some x)) (let e = r.long in omega (arith, e))) (entries_carried (known_of v o).view view (memo x) (known_carries z ws home s.views p id v at live share o) hold) p.remembered) in (
        w,
        gives,
        tt,
        subst (λ (c : List (ℕ × std.Option S)). TheRule (stepped s 5 0 id c w gives)) (sym has)
            (after_word board free_slots memo s r 5 0 (set s.views id w) hs (record ws { memo_turn = 0 }) (length-set s.homes 2 (some (Some x))) (set_memo_turn z s.words 0 (let l = r.wide in omega (arith, l))) parts (told_still board free_slots memo s r id v w at refl)),
        refl,
      )
