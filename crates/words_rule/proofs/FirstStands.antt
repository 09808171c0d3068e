-- What is so of a seat that has taken an operation share and noted the slots that are told by their number.
use Rattle.std.proofs.Common.{◌≡◌, ℕ, zero, suc, ◌+◌, ◌<◌, ◌≤◌, ◌^◌, ◌*◌, cond, Bool, true, false, List, length, Some, pos, refl, ap, sym, ◌∙◌, subst, arith, pow_pos, pow_mono}
use Rattle.std.specs.Prelude as std
use Rattle.std.specs.Prelude.{nat_lt}
use mathlib.Core.Option.{Option, some}
use lib.ListN.{get_elem?}
use Rattle.edge_bits.specs.declared.edges.Kind.TheVariants.{Bdd}
use Rattle.edge_bits.specs.declared.words.Word.TheVariants.{Inner, Leaf}
use Rattle.edge_bits.specs.Permanent.{first_element}
use Rattle.edge_bits.specs.Reading.{plain}
use Rattle.function_laws.specs.Kinds.{BddFunction, ValueOf, function_of}
use Rattle.function_laws.specs.Values.{projection}
use Rattle.node_store.specs.Contents.{Content, view_of, constant_value, projection_node}
use Rattle.node_store.specs.Views.{values_at}
use Rattle.node_slots.proofs.Canonical.{edge_is}
use Rattle.step_store.specs.Knowing.{Knowledge, Stands}
use Rattle.words_rule.specs.declared.cell.Cell.{Cell}
use Rattle.words_rule.specs.declared.view.Held.{Held}
use Rattle.words_rule.specs.declared.view.Share.TheVariants as shares
use Rattle.words_rule.specs.declared.view.View.{View}
use Rattle.words_rule.specs.Layout.{Shape, Words, head_bits, content_of}
use Rattle.words_rule.specs.Rule.{Parts}
use Rattle.words_rule.specs.Known.{Own, known_of}
use Rattle.words_rule.proofs.Fresh.{edge_once}
use Rattle.words_rule.proofs.Freeing.{projection_there}
use Rattle.words_rule.proofs.Stepping.{shape_is}
use Rattle.words_rule.proofs.Opened.{at_edge, top_word}
use Rattle.words_rule.proofs.Narrowing.{Has, content_same, denotes_up, denotes_down, level_same}
use Rattle.words_rule.proofs.Meeting.{content_true, narrow}
use Rattle.free_list.specs.FreeSlots.{FreeSlots}

few_bits : (k slots : ℕ) → head_bits k slots ≤ 6 + k
unfolding head_bits
few_bits zero slots = omega arith
few_bits (suc k) slots = by (nat_lt (2 ^ head_bits k slots * 2) slots) (few_bits k slots)
  where
    by : (b : Bool) → head_bits k slots ≤ 6 + k → cond b (suc (head_bits k slots)) (head_bits k slots) ≤ 6 + suc k
    by true le = omega (arith, le)
    by false le = omega (arith, le)

module _ {S : Type 0} (board : S → List (std.Option Cell)) (free_slots : S → FreeSlots) (memo : S → List ℕ) where
  module _ (z : Shape) (ws : Words) (home : ℕ → Option (Option (std.Option S))) (vs : List View) (r : Parts board free_slots memo z ws home vs) (id : ℕ) (v : View) (at : get_elem? vs id ≡ some v)
      (live : v.draws.live ≡ std.true) (share : v.shares.op ≡ shares.Held) (o : Own) where
    abbrev w : Content
    w = content_of z ws.node r.orders r.function r.half

    abbrev K : Knowledge
    K = known_of v o

    pub stands_first : ((s : ℕ) → s < 5 + v.draws.vars → Has K.view s) → o.fulls < 18446744073709551616 → Stands K
    stands_first has few =
        let on = r.ordered.shared id v at share in
        let n = narrow board free_slots memo z ws home vs r id v at live share on o in
        let shape = shape_is board free_slots memo z ws home vs r id v at live in
        let vars_is : z.variables ≡ v.draws.vars = ap (λ (y : Shape). y.variables) shape in
        let low : (s : ℕ) → s < 5 → Has K.view s = λ s lt. has s (omega (arith, lt)) in
        let content : (s : ℕ) → s < 5 → K.view.content s ≡ r.function s = λ s lt. sym (content_same n s (low s lt)) in
        let top : (s : ℕ) → s < 5 → K.view.top s ≡ (view_of w).top s = λ s lt. (let h = low s lt in sym (n.top s h.0 h.1)) in
        let leaf : (s : ℕ) → 3 ≤ s → s < 5 → (view_of w).top s ≡ length r.orders.variables = λ s le lt. top_word w r.sound s (Some (Leaf (constant_value s))) le (r.sound.constants s lt) in record {
          permanent = record {
            one = content 0 (omega arith) ∙ r.sound.logic_one;
            empty = content 1 (omega arith) ∙ r.sound.empty_family;
            base = content 2 (omega arith) ∙ r.sound.base_family;
            add_zero = content 3 (omega arith) ∙ (r.sound.leaves 3 (pos 0) (omega arith) (r.sound.constants 3 (omega arith))).0;
            add_one = content 4 (omega arith) ∙ (r.sound.leaves 4 (pos 1) (omega arith) (r.sound.constants 4 (omega arith))).0;
            one_top = top 0 (omega arith) ∙ n.vars;
            empty_top = top 1 (omega arith) ∙ n.elements;
            base_top = top 2 (omega arith) ∙ n.elements;
            add_zero_top = top 3 (omega arith) ∙ leaf 3 (omega arith) (omega arith) ∙ n.vars;
            add_one_top = top 4 (omega arith) ∙ leaf 4 (omega arith) (omega arith) ∙ n.vars;
          };
          projections = λ u lt.
              let inside : u < z.variables = subst (λ (x : ℕ). u < x) (sym vars_is) lt in
              let within : u < length r.orders.variables = subst (λ (x : ℕ). u < x) (sym r.positions.variables_long) inside in
              let fixed = r.kept.fixed u inside in
              let there = r.sound.projections u within in
              let at_s : there.0 ≡ 5 + u = r.sound.apart there.0 (5 + u) (BddFunction (projection u)) (projection_there w r.sound there.0 u there.1) fixed in
              let h = has (5 + u) (omega (arith, lt)) in record {
                denotes = denotes_down n Bdd (plain (5 + u)) (projection u) h (at_edge w r.sound (plain (5 + u)) Bdd (projection u) fixed);
                top = sym (n.top (5 + u) h.0 h.1) ∙ top_word w r.sound (5 + u) (Some (Inner (projection_node u))) (omega arith) (ap w.word (sym at_s) ∙ there.1) ∙ level_same n u;
              };
          canonical = λ j e f is its same.
              let once = edge_once w r.sound e f (function_of j (values_at j K.view e)) (denotes_up n j e (values_at j K.view e) is).is
              ((denotes_up n j f (values_at j K.view f) its).is ∙ ap (λ (x : ℕ → ValueOf j). Some (function_of j x)) (sym same)) in edge_is e f once.0 once.1;
          within = λ s f is. (let c = content_true board free_slots memo z ws home vs r id v at live share on o s f is in subst (λ (y : Shape). s < y.slots) shape (r.sound.within s (r.sound.used s f c.3)));
          few_variables = subst (λ (x : ℕ). x ≤ first_element) n.vars r.sound.few_variables;
          few_elements = subst (λ (x : ℕ). x ≤ first_element) n.elements r.sound.few_elements;
          few_slots = subst (λ (y : Shape). y.slots < 8388608) shape (let f = r.sound.few_slots in omega (arith, f));
          some_heads = pow_pos (head_bits 18 v.draws.slots);
          few_heads = (let b = few_bits 18 v.draws.slots in let p : 2 ^ head_bits 18 v.draws.slots ≤ 2 ^ 24 = (let le : head_bits 18 v.draws.slots ≤ 24 = omega (arith, b) in pow_mono le) in omega (arith, p));
          few_fulls = few;
          never_wants = refl;
        }
