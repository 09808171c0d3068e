-- A seat that takes an operation share or a walk share learns what its rows' edges denote, and of the slots that are told by their number.
use Rattle.std.proofs.Common.{◌≡◌, ◌⊎◌, inl, inr, ℕ, ◌+◌, ◌-◌, ◌%◌, ◌^◌, ◌<◌, ◌≤◌, cond, true, List, [], ◌∷◌, ◌++◌, set, get_or, length, Some, None, refl, ap, sym, ◌∙◌, subst, arith}
use Rattle.std.specs.Prelude as std
use Rattle.std.proofs.lemmas.Bool.{cases_lt}
use mathlib.Core.Logic.{dite}
use mathlib.Core.Option.{Option, none, some}
use native.Mathlib.Decide.{dec_lt}
use lib.ListN.{get_elem?}
use Rattle.atomic_table.specs.Table.{State, Me, step, stepped, keeps, Allows}
use Rattle.atomic_table.proofs.Lists.{at_map}
use Rattle.edge_bits.specs.declared.words.Word.{Word}
use Rattle.edge_bits.specs.declared.words.Word.TheVariants.{Leaf}
use Rattle.edge_bits.specs.Permanent.{base_slot}
use Rattle.function_laws.specs.Families.{base}
use Rattle.function_laws.specs.Kinds.{Denoted, BddFunction, ZddFamily, flipped}
use Rattle.function_laws.specs.SessionEntries.{Each}
use Rattle.function_laws.specs.Values.{projection}
use Rattle.node_store.specs.KindLaws.{flipped-some}
use Rattle.node_store.specs.Contents.{constant_value}
use Rattle.step_store.specs.Knowing.{Stands}
use Rattle.words_rule.specs.declared.cell.Cell.{Cell}
use Rattle.words_rule.specs.declared.view.Held.{Held}
use Rattle.words_rule.specs.declared.view.Row.{Row}
use Rattle.words_rule.specs.declared.view.Draws.{Draws}
use Rattle.words_rule.specs.declared.view.Share.TheVariants as shares
use Rattle.words_rule.specs.declared.view.View.{View}
use Rattle.words_rule.specs.Shapes.{shape_in}
use Rattle.words_rule.specs.Layout.{Shape, Words, words_of}
use Rattle.words_rule.specs.Chains.{Lists}
use Rattle.words_rule.specs.Kept.{IsHeldBy}
use Rattle.words_rule.specs.Phase.{with_op, with_walk}
use Rattle.words_rule.specs.Tallies.{tally_of, parts_of}
use Rattle.words_rule.specs.Seen.{HasShare, StandsSo}
use Rattle.words_rule.specs.OneSession.{OneSession, storer_of}
use Rattle.words_rule.specs.Rule.{Parts, Rule, footings_in, storers_in}
use Rattle.words_rule.specs.Known.{Own, known_of, noted_content, own_none}
use Rattle.words_rule.specs.Loads.{IsInside, sees_of}
use Rattle.words_rule.specs.PhasePlays.{op_entered, walk_entered}
use Rattle.words_rule.proofs.Lists.{set_at}
use Rattle.words_rule.proofs.Layouts.{set_phase}
use Rattle.words_rule.proofs.Phases.{small_word}
use Rattle.words_rule.proofs.Stepping.{shape_is, takes_share, parts_walk_in, parts_walk_owed}
use Rattle.words_rule.proofs.Tabling.{after_word, set_set, told_still}
use Rattle.words_rule.proofs.Meeting.{content_true}
use Rattle.words_rule.proofs.WalkSteps.{list_true}
use Rattle.words_rule.proofs.FirstStands.{stands_first}
use Rattle.words_rule.proofs.Learning.{with_notes, AllHave, words_at, held_at, each_word, each_held, met_here, below, lists_below, all_below, lists_left, lists_right, all_both, parts_noting, noting_function}
use Rattle.words_rule.proofs.Draws.{one_still}
use Rattle.free_list.specs.FreeSlots.{FreeSlots}

some_denoted : (a b : Denoted) → Some a ≡ Some b → a ≡ b
some_denoted a b e = cc

never : (word : Word) → ◌≡◌ {A = std.Option Word} None (Some word) → ⊥
never word e = cc

-- the slots that the rows name
abbrev pub rows_at : List Row → List ℕ
rows_at [] = []
rows_at (row ∷ rows) = row.held.edge.index ∷ rows_at rows

abbrev AreHeldBy : Shape → (ℕ → std.Option Denoted) → List Row → Type 0
AreHeldBy z function rows = Each (λ (row : Row). IsHeldBy z function row.held) rows

rows_have : (z : Shape) (function : ℕ → std.Option Denoted) (rows : List Row) → AreHeldBy z function rows → AllHave function (rows_at rows)
rows_have z function [] all = tt
rows_have z function (row ∷ rows) all = (flipped-some row.held.edge.complement (function row.held.edge.index) all.0.0 all.0.1, rows_have z function rows all.1)

-- rows whose slots denote by other notes what they do
rows_still : (z : Shape) (function notes : ℕ → std.Option Denoted) (rows : List Row) → ((s : ℕ) → Lists (rows_at rows) s → notes s ≡ function s) → AreHeldBy z function rows → AreHeldBy z notes rows
rows_still z function notes [] same all = tt
rows_still z function notes (row ∷ rows) same all =
    ((all.0.0, ap (λ (x : std.Option Denoted). flipped row.held.edge.complement x) (same row.held.edge.index (inl refl)) ∙ all.0.1, all.0.2), rows_still z function notes rows (λ s there. same s (inr there)) all.1)

module _ {S : Type 0} (board : S → List (std.Option Cell)) (free_slots : S → FreeSlots) (memo : S → List ℕ) where
  abbrev PartsOf : Shape → Words → (ℕ → Option (Option (std.Option S))) → List View → Type 0
  PartsOf = Parts board free_slots memo

  abbrev TheRule : State (std.Option S) View → Type 0
  TheRule = Rule board free_slots memo

  abbrev Sat : Type 0
  Sat = Me (std.Option S) View

  module _ (z : Shape) (ws : Words) (home : ℕ → Option (Option (std.Option S))) (vs : List View) (r : PartsOf z ws home vs) (id : ℕ) (v : View) (at : get_elem? vs id ≡ some v) (live : v.draws.live ≡ true) where
    rows_held : AreHeldBy z r.function v.draws.rows
    rows_held = (r.kept.each id (tally_of v) (at_map tally_of vs id v at)).rows

    first_have : (s : ℕ) → s < 5 + z.variables → (f : Denoted) × (r.function s ≡ Some f)
    first_have s lt = elim (cases_lt s 5) [
      | inl low ↦ r.sound.denotes s (Leaf (constant_value s), r.sound.constants s low)
      | inr high ↦ (BddFunction (projection (s - 5)), ap r.function (let e : s ≡ 5 + (s - 5) = omega (arith, high) in e) ∙ r.kept.fixed (s - 5) (omega (arith, lt, high)))
    ]

    -- what an operation share teaches
    abbrev op_slots : List ℕ
    op_slots = below (5 + z.variables) ++ rows_at v.draws.rows

    pub op_have : AllHave r.function op_slots
    op_have = all_both r.function (below (5 + z.variables)) (rows_at v.draws.rows) (all_below r.function (5 + z.variables) first_have) (rows_have z r.function v.draws.rows rows_held)

    abbrev pub op_view : View
    op_view = with_notes v (words_at ws.node op_slots) (held_at z r.function op_slots op_have)

    op_words : Each (StandsSo ws.node v) (words_at ws.node op_slots)
    op_words = each_word (StandsSo ws.node v) ws.node r.function (λ s f is. let u = r.sound.used s f is in (refl, λ free. absurd (never u.0 (sym free ∙ u.1)))) op_slots op_have

    op_held : Each (IsHeldBy z r.function) (held_at z r.function op_slots op_have)
    op_held = each_held z r.function op_slots op_have

    pub op_parts : PartsOf z ws home (set vs id op_view)
    op_parts = parts_noting board free_slots memo z ws home vs r id v at (words_at ws.node op_slots) (held_at z r.function op_slots op_have) (λ has. op_words) (λ has. op_held)

    op_function : op_parts.function ≡ r.function
    unfolding op_parts
    op_function = noting_function board free_slots memo z ws home vs r id v at (words_at ws.node op_slots) (held_at z r.function op_slots op_have) (λ has. op_words) (λ has. op_held)

    op_met : (s : ℕ) → Lists op_slots s → (g : Denoted) × ((noted_content op_view).function s ≡ Some g)
    op_met s there = let k = met_here v.draws.vars z ws.node r.function op_slots op_have s there in (k.0, k.1)

    pub op_stands : v.shares.op ≡ shares.Held → (o : Own) → o.fulls < 18446744073709551616 → Stands (known_of op_view o)
    op_stands share o few = stands_first board free_slots memo z ws home (set vs id op_view) op_parts id op_view (set_at vs id v op_view at) live share o
        (λ s lt. op_met s (lists_left (below (5 + z.variables)) (rows_at v.draws.rows) s (lists_below (5 + z.variables) s (subst (λ (y : Shape). s < 5 + y.variables) (sym (shape_is board free_slots memo z ws home vs r id v at live)) lt)))) few

    pub op_rows : v.shares.op ≡ shares.Held → AreHeldBy (shape_in v.draws) (noted_content op_view).function v.draws.rows
    op_rows share = subst (λ (y : Shape). AreHeldBy y (noted_content op_view).function v.draws.rows) (shape_is board free_slots memo z ws home vs r id v at live)
        (rows_still z r.function (noted_content op_view).function v.draws.rows
        (λ s there.
        let at1 = set_at vs id v op_view at in
        let g = op_met s (lists_right (below (5 + z.variables)) (rows_at v.draws.rows) s there) in
        let c = content_true board free_slots memo z ws home (set vs id op_view) op_parts id op_view at1 live share (op_parts.ordered.shared id op_view at1 share) own_none s g.0 g.1 in
        g.1 ∙ sym c.3 ∙ ap (λ (f : ℕ → std.Option Denoted). f s) op_function)
        rows_held)

    -- and a walk share
    abbrev walk_slots : List ℕ
    walk_slots = base_slot ∷ rows_at v.draws.rows

    pub walk_have : AllHave r.function walk_slots
    walk_have = ((ZddFamily base, r.sound.base_family), rows_have z r.function v.draws.rows rows_held)

    abbrev walk_list : List Held
    walk_list = held_at z r.function walk_slots walk_have

    abbrev pub walk_view : View
    walk_view = with_notes v v.known.words walk_list

    walk_held : Each (IsHeldBy z r.function) walk_list
    walk_held = each_held z r.function walk_slots walk_have

    pub walk_parts : PartsOf z ws home (set vs id walk_view)
    walk_parts = parts_noting board free_slots memo z ws home vs r id v at v.known.words walk_list (λ has. (r.seen id v at).words has) (λ has. walk_held)

    walk_met : (s : ℕ) → Lists walk_slots s → (sees_of walk_view).content s ≡ r.function s
    walk_met s there =
        let k = met_here v.draws.vars z ws.node r.function walk_slots walk_have s there in
        k.2 ∙ sym (list_true board free_slots memo z ws home vs r id v at live walk_list walk_held s k.0 k.2)

    pub walk_base : (sees_of walk_view).content base_slot ≡ Some (ZddFamily base)
    walk_base = walk_met base_slot (inl refl) ∙ r.sound.base_family

    pub walk_inside : IsInside walk_view
    walk_inside s f is = subst (λ (y : Shape). s < y.slots) (shape_is board free_slots memo z ws home vs r id v at live) (r.sound.within s (r.sound.used s f (list_true board free_slots memo z ws home vs r id v at live walk_list walk_held s f is)))

    pub walk_rows : AreHeldBy (shape_in v.draws) (sees_of walk_view).content v.draws.rows
    walk_rows = subst (λ (y : Shape). AreHeldBy y (sees_of walk_view).content v.draws.rows) (shape_is board free_slots memo z ws home vs r id v at live)
        (rows_still z r.function (sees_of walk_view).content v.draws.rows (λ s there. walk_met s (inr there)) rows_held)

  pub enters_share : (slots id : ℕ) (me : Sat) → me.0.draws.live ≡ true → me.0.shares.op ≡ shares.Nothing → me.0.known.words ≡ [] → me.0.known.seen ≡ []
      → Allows TheRule slots id me 1 (λ n. (n + 1) % 2 ^ 64) (op_entered (step slots 1 1 0 none) me)
  enters_share slots id me live free unnoted unseen s r long at small =
      let x = takes_share board free_slots memo slots id me live free unnoted unseen s r long at small in
      let n : ℕ = get_or s.words 1 0 in
      let v : View = x.0 in
      let s1 : State (std.Option S) View = stepped s 1 ((n + 1) % 2 ^ 64) id me.1 v x.1 in
      let r1 : TheRule s1 = x.3 in
      let at1 : get_elem? s1.views id ≡ some v = set_at s.views id me.0 v at in
      let ws : Words = words_of r1.shape s1.words in
      let home = λ (k : ℕ). get_elem? s1.homes k in
      dite (dec_lt n 4294967296)
      (λ low.
      let t = x.4.0 low in
      let is : v ≡ record me.0 { known = record me.0.known { variable_order = t.0; element_order = t.1 }; shares = with_op me.0.shares shares.Held n } = ap (λ (q : Sat). q.0) t.2 in
      let live1 : v.draws.live ≡ true = ap (λ (y : View). y.draws.live) is ∙ live in
      let share : v.shares.op ≡ shares.Held = ap (λ (y : View). y.shares.op) is in
      let u : View = op_view r1.shape ws home s1.views r1.parts id v at1 live1 in
      let p : PartsOf r1.shape ws home (set s1.views id u) = op_parts r1.shape ws home s1.views r1.parts id v at1 live1 in (
        u,
        x.1,
        x.2,
        record { shape = r1.shape; wide = r1.wide; long = r1.long; parts = subst (λ (l : List View). PartsOf r1.shape ws home l) (set_set s.views id v u) p; one = subst (λ (l : List View). OneSession r1.shape ws.order ws.node ws.count (storers_in l)) (set_set s.views id v u) (one_still r1.shape ws.order ws.node ws.count s1.views id v u at1 refl r1.one) },
        (
          ap (λ (q : Sat). q.1) t.2,
          (λ _. record {
            draws = ap (λ (y : View). y.draws) is;
            counts = ap (λ (y : View). y.counts) is;
            hand = ap (λ (y : View). y.hand) is;
            work = ap (λ (y : View). y.work) is;
            stored = ap (λ (y : View). y.stored) is;
            shares = ap (λ (y : View). y.shares) is;
            stands = op_stands r1.shape ws home s1.views r1.parts id v at1 live1 share;
            rows = subst (λ (d : Draws). AreHeldBy (shape_in d) (noted_content u).function d.rows) (ap (λ (y : View). y.draws) is) (op_rows r1.shape ws home s1.views r1.parts id v at1 live1 share);
          }),
          (λ high. absurd (omega (arith, low, high))),
        ),
      ))
      (λ no_low. let high : 4294967296 ≤ n = omega (arith, no_low) in (v, x.1, x.2, r1, (ap (λ (q : Sat). q.1) (x.4.1 high), (λ low. absurd (no_low low)), x.4.1)))

  pub enters_walk : (slots id : ℕ) (me : Sat) → me.0.draws.live ≡ true → me.0.shares.walk ≡ shares.Nothing → HasShare me.0 ⊎ (me.0.known.seen ≡ [])
      → Allows TheRule slots id me 1 (λ n. (n + 65536) % 2 ^ 64) (walk_entered (step slots 1 65536 0 none) me)
  enters_walk slots id me live free unseen s r long at small =
      let z = r.shape in
      let p = r.parts in
      let v = me.0 in
      let n : ℕ = get_or s.words 1 0 in
      let home = λ (k : ℕ). get_elem? s.homes k in
      let ws : Words = words_of z s.words in
      let ws1 : Words = record ws { phase = n + 65536 } in
      let few = small_word n (footings_in s.views) p.phase in
      let next : (n + 65536) % 2 ^ 64 ≡ n + 65536 = omega (arith, few) in
      let has_part : 0 < parts_of v.draws = let e : parts_of v.draws ≡ 1 = ap (λ b. cond b 1 (cond v.draws.closing ((64 - v.draws.given) + length v.draws.gone) 0)) live in omega (arith, e) in
      let words : words_of z (set s.words 1 ((n + 65536) % 2 ^ 64)) ≡ ws1 = set_phase z s.words ((n + 65536) % 2 ^ 64) (let l = r.wide in omega (arith, l)) ∙ ap (λ (k : ℕ). record ws { phase = k }) next in
      let end : (u : View) → storer_of u ≡ storer_of v → PartsOf z ws1 home (set s.views id u) → TheRule (record { words = set s.words 1 ((n + 65536) % 2 ^ 64); homes = s.homes; views = set s.views id u }) =
      λ u same parts. after_word board free_slots memo s r 1 ((n + 65536) % 2 ^ 64) (set s.views id u) s.homes ws1 refl words parts (told_still board free_slots memo s r id v u at same) in
      dite (dec_lt n 8589934592)
      (λ low.
      let v1 : View = record v { shares = with_walk v.shares shares.Held n } in
      let p1 : PartsOf z ws1 home (set s.views id v1) = parts_walk_in board free_slots memo z ws home s.views p id v at has_part free low unseen in
      let at1 = set_at s.views id v v1 at in
      let u : View = walk_view z ws1 home (set s.views id v1) p1 id v1 at1 live in (
        u,
        keeps,
        tt,
        end u refl (subst (λ (l : List View). PartsOf z ws1 home l) (set_set s.views id v1 u) (walk_parts z ws1 home (set s.views id v1) p1 id v1 at1 live)),
        (
          refl,
          (λ _. record {
            draws = refl;
            counts = refl;
            hand = refl;
            work = refl;
            stored = refl;
            shares = refl;
            stands = walk_base z ws1 home (set s.views id v1) p1 id v1 at1 live;
            inside = walk_inside z ws1 home (set s.views id v1) p1 id v1 at1 live;
            rows = walk_rows z ws1 home (set s.views id v1) p1 id v1 at1 live;
          }),
          (λ high. absurd (omega (arith, low, high))),
        ),
      ))
      (λ no_low. let u : View = record v { shares = with_walk v.shares shares.Owed n } in
      (u, keeps, tt, end u refl (parts_walk_owed board free_slots memo z ws home s.views p id v at has_part free), (refl, (λ low. absurd (no_low low)), (λ _. refl))))
