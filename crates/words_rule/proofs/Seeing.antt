-- What a seat knows of the nodes lasts through each kind of step.
use Rattle.std.proofs.Common.{◌≡◌, ◌≢◌, inl, inr, ℕ, List, ◌∷◌, set, Some, None, refl, ap, sym, ◌∙◌}
use Rattle.std.specs.Prelude as std
use Rattle.std.proofs.lemmas.Bool.{cases_eq}
use mathlib.Core.Option.{some}
use lib.ListN.{get_elem?}
use Rattle.edge_bits.specs.declared.words.Node.{Node}
use Rattle.edge_bits.specs.declared.words.Word.TheVariants.{Inner}
use Rattle.edge_bits.specs.Words.{unpack_of}
use Rattle.function_laws.specs.Kinds.{Denoted}
use Rattle.function_laws.specs.Sizes.{Orders}
use Rattle.node_store.specs.Contents.{IsSound, IsNodeOf, Pair}
use Rattle.node_store.specs.Changes.{put_at}
use Rattle.node_store.proofs.Rewriting.{put_at-other}
use Rattle.words_rule.specs.declared.view.Hold.TheVariants.{Holding}
use Rattle.words_rule.specs.declared.view.View.{View}
use Rattle.words_rule.specs.Layout.{Shape, content_of}
use Rattle.words_rule.specs.Kept.{IsHeldBy}
use Rattle.words_rule.specs.Seen.{KeepsSlots, StandsSo, IsSeen, AreSeen}
use Rattle.words_rule.proofs.Lists.{each_set, each_map}
use Rattle.words_rule.proofs.Keeping.{still_held}

module _ (z : Shape) (node : ℕ → ℕ) (function : ℕ → std.Option Denoted) (vs : List View) (all : AreSeen z node function vs) (id : ℕ) (w : View) where
  -- a node comes to stand in a free slot; nobody else holds the order
  pub seen_store : (s bits : ℕ) (new : ℕ → std.Option Denoted) → unpack_of (node s) ≡ None → ((t : ℕ) (f : Denoted) → function t ≡ Some f → new t ≡ Some f)
      → ((j : ℕ) (v : View) → j ≢ id → get_elem? vs j ≡ some v → v.shares.order ≡ Holding → ⊥) → IsSeen z (put_at node s bits) new w → AreSeen z (put_at node s bits) new (set vs id w)
  seen_store s bits new free grows nobody mine = each_set (λ _ (v : View). IsSeen z (put_at node s bits) new v) vs id w (λ j v apart at. let is = all j v at in record {
    words = λ share. each_map (StandsSo node v) (StandsSo (put_at node s bits) v) (λ note st. elim (cases_eq note.slot s) [
      | inl e ↦ absurd (nobody j v apart at (st.1 (ap unpack_of (sym st.0 ∙ ap node e) ∙ free)))
      | inr ne ↦ (put_at-other node s note.slot bits ne ∙ st.0, st.1)
    ]) v.known.words (is.words share);
    held = λ share. each_map (IsHeldBy z function) (IsHeldBy z new) (still_held z function new grows) v.known.seen (is.held share);
  }) mine

  -- a rewrite, an order store and a free store: nobody else has a share or a hold
  pub seen_alone : (node' : ℕ → ℕ) (new : ℕ → std.Option Denoted) → ((j : ℕ) (v : View) → j ≢ id → get_elem? vs j ≡ some v → KeepsSlots v → ⊥) → IsSeen z node' new w → AreSeen z node' new (set vs id w)
  seen_alone node' new nobody mine = each_set (λ _ (v : View). IsSeen z node' new v) vs id w (λ j v apart at. record {
    words = λ share. absurd (nobody j v apart at (inl share));
    held = λ share. absurd (nobody j v apart at share);
  }) mine

  -- any other step: the view is right after it
  pub seen_other : IsSeen z node function w → AreSeen z node function (set vs id w)
  seen_other mine = each_set (λ _ (v : View). IsSeen z node function v) vs id w (λ j v apart at. all j v at) mine

-- a node load under a share notes the word, and it is a node of what its children denote
pub loads : (z : Shape) (node : ℕ → ℕ) (orders : Orders) (function : ℕ → std.Option Denoted) (half : std.Option Pair) (v : View) (s : ℕ) (n : Node) (f : Denoted) → IsSound (content_of z node orders function half) → IsSeen z node function v
    → unpack_of (node s) ≡ Some (Inner n) → function s ≡ Some f
    → IsSeen z node function (record v { known = record v.known { words = record { slot = s; bits = node s } ∷ v.known.words } }) × IsNodeOf (content_of z node orders function half) n f
loads z node orders function half v s n f sound seen word is = (
  record { words = λ share. ((refl, λ free. absurd (never (sym free ∙ word))), seen.words share); held = seen.held },
  sound.nodes s n f word is,
)
  where
    never : None ≡ Some (Inner n) → ⊥
    never e = cc
