-- What is so of each seat with an operation share lasts as it learns.
use Rattle.std.proofs.Common.{◌≡◌, ℕ, ◌<◌, ◌≤◌, List, Some, refl, ap, sym, ◌∙◌, subst}
use Rattle.std.specs.Prelude as std
use mathlib.Core.Option.{Option, some}
use lib.ListN.{get_elem?}
use Rattle.edge_bits.specs.Permanent.{first_element}
use Rattle.function_laws.specs.Kinds.{ValueOf, function_of}
use Rattle.node_store.specs.Contents.{Content}
use Rattle.node_store.specs.Views.{Grown, values_at}
use Rattle.node_store.specs.ViewLaws.{Permanent-grown, IsProjection-grown}
use Rattle.node_slots.proofs.Canonical.{edge_is}
use Rattle.step_store.specs.Knowing.{Knowledge, Stands}
use Rattle.words_rule.specs.declared.cell.Cell.{Cell}
use Rattle.words_rule.specs.declared.view.Held.{Held}
use Rattle.words_rule.specs.declared.view.Share.TheVariants as shares
use Rattle.words_rule.specs.declared.view.View.{View}
use Rattle.words_rule.specs.Views.{orders_of}
use Rattle.words_rule.specs.Layout.{Shape, Words, content_of}
use Rattle.words_rule.specs.Rule.{Parts}
use Rattle.words_rule.specs.Known.{Own, known_of}
use Rattle.words_rule.proofs.Fresh.{edge_once}
use Rattle.words_rule.proofs.Stepping.{shape_is}
use Rattle.words_rule.proofs.Narrowing.{denotes_up}
use Rattle.words_rule.proofs.Meeting.{content_true, narrow}
use Rattle.free_list.specs.FreeSlots.{FreeSlots}

module _ {S : Type 0} (board : S → List (std.Option Cell)) (free_slots : S → FreeSlots) (memo : S → List ℕ) where
  module _ (z : Shape) (ws : Words) (home : ℕ → Option (Option (std.Option S))) (vs : List View) (r : Parts board free_slots memo z ws home vs) (id : ℕ) (v : View) (at : get_elem? vs id ≡ some v)
      (live : v.draws.live ≡ std.true) (share : v.shares.op ≡ shares.Held) (orders_noted : orders_of v.known ≡ r.orders) (o : Own) where
    abbrev w : Content
    w = content_of z ws.node r.orders r.function r.half

    abbrev K : Knowledge
    K = known_of v o

    pub stands_more : (a : Knowledge) → Stands a → Grown a.view K.view → K.heads ≡ a.heads → K.view.fulls < 18446744073709551616 → Stands K
    stands_more a st g heads few =
        let n = narrow board free_slots memo z ws home vs r id v at live share orders_noted o in
        let shape = shape_is board free_slots memo z ws home vs r id v at live in record {
          permanent = Permanent-grown g st.permanent;
          projections = λ u lt. IsProjection-grown g (st.projections u (subst (λ (x : ℕ). u < x) g.vars lt));
          canonical = λ j e f is its same.
              let once = edge_once w r.sound e f (function_of j (values_at j K.view e)) (denotes_up n j e (values_at j K.view e) is).is
              ((denotes_up n j f (values_at j K.view f) its).is ∙ ap (λ (x : ℕ → ValueOf j). Some (function_of j x)) (sym same)) in edge_is e f once.0 once.1;
          within = λ s f is. (let c = content_true board free_slots memo z ws home vs r id v at live share orders_noted o s f is in subst (λ (y : Shape). s < y.slots) shape (r.sound.within s (r.sound.used s f c.3)));
          few_variables = subst (λ (x : ℕ). x ≤ first_element) (sym g.vars) st.few_variables;
          few_elements = subst (λ (x : ℕ). x ≤ first_element) (sym g.elements) st.few_elements;
          few_slots = subst (λ (x : ℕ). x < 8388608) (sym g.slots) st.few_slots;
          some_heads = subst (λ (x : ℕ). 0 < x) (sym heads) st.some_heads;
          few_heads = subst (λ (x : ℕ). x < 4294967296) (sym heads) st.few_heads;
          few_fulls = few;
          never_wants = refl;
        }
