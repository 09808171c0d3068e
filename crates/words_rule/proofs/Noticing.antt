-- A seat with an operation share notes slots in use: it learns them.
use Rattle.std.proofs.Common.{◌≡◌, ℕ, zero, suc, ◌==◌, ◌&&◌, Bool, true, false, cond, List, set, Some, None, refl, ap, sym, ◌∙◌, arith, eqb-true, eq-eqb}
use Rattle.std.specs.Prelude as std
use mathlib.Core.Option.{Option, some}
use lib.ListN.{get_elem?}
use Rattle.edge_bits.specs.declared.words.Word.{Word}
use Rattle.edge_bits.specs.Words.{unpack_of}
use Rattle.function_laws.specs.Kinds.{Denoted}
use Rattle.node_store.specs.Contents.{Content, top_of, top_of_word}
use Rattle.node_store.specs.ViewLaws.{Kept-trans}
use Rattle.step_store.specs.Knowing.{Knowledge, Learns}
use Rattle.words_rule.specs.declared.cell.Cell.{Cell}
use Rattle.words_rule.specs.declared.view.Held.{Held}
use Rattle.words_rule.specs.declared.view.Share.TheVariants as shares
use Rattle.words_rule.specs.declared.view.View.{View}
use Rattle.words_rule.specs.Views.{orders_of}
use Rattle.words_rule.specs.Layout.{Shape, Words, content_of}
use Rattle.words_rule.specs.Kept.{whole_of}
use Rattle.words_rule.specs.Rule.{Parts}
use Rattle.words_rule.specs.Known.{Own, denoted_in, noted_bits, noted_function, word_in, met_in, noted_content, known_of}
use Rattle.words_rule.proofs.Rewrites.{parts_known}
use Rattle.words_rule.proofs.Stepping.{shape_is}
use Rattle.words_rule.proofs.Storing.{noting_slot, edge_at, parts_notes}
use Rattle.words_rule.proofs.Narrowing.{Has}
use Rattle.words_rule.proofs.Meeting.{word_stands, content_true, decoded, some_denoted}
use Rattle.free_list.specs.FreeSlots.{FreeSlots}

never : (word : Word) → ◌≡◌ {A = std.Option Word} None (Some word) → ⊥
never word e = cc

pub learns_trans : {a b c : Knowledge} → Learns a b → Learns b c → Learns a c
learns_trans x y = record {
  kept = Kept-trans x.kept y.kept;
  room = y.room ∙ x.room;
  words = λ s b is. y.words s b (x.words s b is);
  heads = y.heads ∙ x.heads;
}

module _ {S : Type 0} (board : S → List (std.Option Cell)) (free_slots : S → FreeSlots) (memo : S → List ℕ) where
  abbrev PartsOf : Shape → Words → (ℕ → Option (Option (std.Option S))) → List View → Type 0
  PartsOf = Parts board free_slots memo

  module _ (z : Shape) (ws : Words) (home : ℕ → Option (Option (std.Option S))) (vs : List View) (r : PartsOf z ws home vs) (id : ℕ) (v : View) (at : get_elem? vs id ≡ some v)
      (live : v.draws.live ≡ true) (share : v.shares.op ≡ shares.Held) (orders_noted : orders_of v.known ≡ r.orders) (o : Own) where
    abbrev w : Content
    w = content_of z ws.node r.orders r.function r.half

    abbrev K : Knowledge
    K = known_of v o

    abbrev pub noticing : ℕ → Denoted → View
    noticing s f = noting_slot v (record { slot = s; bits = ws.node s }) (edge_at s (whole_of z f))

    module _ (s : ℕ) (word : Word) (reads : unpack_of (ws.node s) ≡ Some word) (f : Denoted) (f_is : r.function s ≡ Some f) where
      abbrev v' : View
      v' = noticing s f

      abbrev K' : Knowledge
      K' = known_of v' o

      pub noticed_parts : PartsOf z ws home (set vs id v')
      noticed_parts = parts_notes board free_slots memo z ws home vs r id v at (record { slot = s; bits = ws.node s }) (edge_at s (whole_of z f)) (refl, λ free. absurd (never word (sym free ∙ reads))) (f, f_is, refl)

      pub noticed_orders : noticed_parts.orders ≡ r.orders
      unfolding noticed_parts parts_notes parts_known
      noticed_orders = refl

      content_here : denoted_in v.draws.vars (whole_of z f) ≡ f
      content_here = ap (λ n. denoted_in n (whole_of z f)) (ap (λ (y : Shape). y.variables) (sym (shape_is board free_slots memo z ws home vs r id v at live))) ∙ decoded board free_slots memo z ws home vs r id v at live share orders_noted o s f f_is

      words_kept : (t b : ℕ) → K.word t ≡ Some b → K'.word t ≡ Some b
      words_kept t b is = by (s == t) refl
        where
          by : (c : Bool) → (s == t) ≡ c → cond (s == t) (Some (ws.node s)) (noted_bits v.known.words t) ≡ Some b
          by true e = ap (λ c. cond c (Some (ws.node s)) (noted_bits v.known.words t)) e ∙ ap (λ x. Some (ws.node x)) (eqb-true s t e) ∙ ap Some (word_stands board free_slots memo z ws home vs r id v at live share orders_noted o t b is).0
          by false e = ap (λ c. cond c (Some (ws.node s)) (noted_bits v.known.words t)) e ∙ is

      content_kept : (t : ℕ) (g : Denoted) → K.view.content t ≡ Some g → K'.view.content t ≡ Some g
      content_kept t g is = by (s == t) refl
        where
          by : (c : Bool) → (s == t) ≡ c → met_in v.draws.vars (cond (s == t) (Some (ws.node s)) (noted_bits v.known.words t)) (cond ((s == t) && true) (Some (whole_of z f)) (noted_function v.known.seen t)) ≡ Some g
          by true e =
              let g_is = (content_true board free_slots memo z ws home vs r id v at live share orders_noted o t g is).3 in
              let same : f ≡ g = some_denoted f g (sym f_is ∙ ap r.function (eqb-true s t e) ∙ g_is) in
              ap (λ c. met_in v.draws.vars (cond c (Some (ws.node s)) (noted_bits v.known.words t)) (cond (c && true) (Some (whole_of z f)) (noted_function v.known.seen t))) e ∙ ap Some (content_here ∙ same)
          by false e = ap (λ c. met_in v.draws.vars (cond c (Some (ws.node s)) (noted_bits v.known.words t)) (cond (c && true) (Some (whole_of z f)) (noted_function v.known.seen t))) e ∙ is

      pub noticed_here : K'.word s ≡ Some (ws.node s)
      noticed_here = ap (λ c. cond c (Some (ws.node s)) (noted_bits v.known.words s)) (same_number s)
        where
          same_number : (n : ℕ) → (n == n) ≡ true
          same_number n = eq-eqb n n refl

      pub noticed_has : Has K'.view s
      noticed_has = (f, ap (λ c. met_in v.draws.vars (cond c (Some (ws.node s)) (noted_bits v.known.words s)) (cond (c && true) (Some (whole_of z f)) (noted_function v.known.seen s))) (same_number s) ∙ ap Some content_here)
        where
          same_number : (n : ℕ) → (n == n) ≡ true
          same_number n = eq-eqb n n refl

      pub noticed_learns : Learns K K'
      noticed_learns = record {
        kept = record {
          grown = record {
            vars = refl;
            elements = refl;
            slots = refl;
            level = refl;
            content = content_kept;
            top = λ t g is. (let c = content_true board free_slots memo z ws home vs r id v at live share orders_noted o t g is in tops t c.0 c.1);
            made = λ t is. is;
            fulls = omega arith;
            counts = refl;
            generations = refl;
            holds = refl;
            wants = λ is. is;
          };
          made = refl;
          fulls = refl;
          due = refl;
        };
        room = refl;
        words = words_kept;
        heads = refl;
      }
        where
          tops : (t b : ℕ) → K.word t ≡ Some b → top_of (noted_content v') t ≡ top_of (noted_content v) t
          tops zero b is = refl
          tops (suc zero) b is = refl
          tops (suc (suc zero)) b is = refl
          tops (suc (suc (suc t))) b is = ap (λ (x : std.Option ℕ). top_of_word (orders_of v.known) (word_in x)) (words_kept (suc (suc (suc t))) b is ∙ sym is)
