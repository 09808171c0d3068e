-- What is kept in a store's computed table.
use Rattle.std.proofs.Common.{◌≡◌, inl, inr, ℕ, ◌<◌, ◌^◌, List, Option, Some, None, ap, sym, ◌∙◌, subst, arith}
use Rattle.std.specs.Prelude.{IfSome}
use Rattle.std.proofs.lemmas.Bool.{cases_eq}
use Rattle.edge_bits.specs.declared.edges.Edge.{Edge}
use Rattle.computed_cache.specs.declared.Key.{Key}
use Rattle.computed_cache.specs.Entries.{IsInRange, Kept, kept_at}
use Rattle.node_store.specs.Memo.{MemoHolds}
use Rattle.node_store.specs.Views.{IsKey, Permanent}
use Rattle.node_store.proofs.MemoLaws.{MemoHolds-edge}
use Rattle.node_slots.specs.Stores.{Plain, plain_view, AreRemembered, IsStore}
use Rattle.node_slots.proofs.Calls.{permanent_is}
use Rattle.node_slots.proofs.Answering.{index_small}

-- the parts of a key have room in an entry
pub key_small : (q p : Plain) → q ≡ p → IsStore q → (key : Key) → IsKey (plain_view p) key → IsInRange key
key_small q p same st key is =
    let least = is.least in let most = is.most in
    record {
      some = omega arith;
      few = omega arith;
      f = index_small q p same st is.f.0 key.f is.f.1;
      g = index_small q p same st is.g.0 key.g is.g.1;
      h = index_small q p same st is.h.0 key.h is.h.1;
    }

-- so has an answer
pub answer_small : (q p : Plain) → q ≡ p → IsStore q → (key : Key) (e : Edge) → MemoHolds (plain_view p) key e → e.index < 2 ^ 23
answer_small q p same st key e holds =
    let d = MemoHolds-edge (plain_view p) (subst (λ x. Permanent (plain_view x)) same (permanent_is q st)) key e holds in index_small q p same st d.0 e d.1

-- what stands under a key is an answer
pub remembered_hit : (q p : Plain) → q ≡ p → IsStore q → (key : Key) (place : ℕ) (o : Option Edge)
    → IfSome o (λ e. kept_at q.memo place ≡ Some (record { key = key; edge = e })) → IfSome o (λ e. MemoHolds (plain_view p) key e)
remembered_hit q p same st key place None h = h
remembered_hit q p same st key place (Some e) h =
    subst (λ x. MemoHolds (plain_view x) key e) same (st.remembered place (record { key = key; edge = e }) h)

-- an answer that is put stands beside those that stood there
pub remembered_put : (q p : Plain) → q ≡ p → IsStore q → (key : Key) (e : Edge) (memo : List ℕ) (place : ℕ) → kept_at memo place ≡ Some (record { key = key; edge = e })
    → ((i : ℕ) → (i ≡ place → ⊥) → kept_at memo i ≡ kept_at q.memo i) → MemoHolds (plain_view p) key e → AreRemembered (plain_view q) memo
remembered_put q p same st key e memo place here others holds i kept is = elim (cases_eq i place) [
  | inl at ↦ (
      let put : Some (record { key = key; edge = e }) ≡ Some kept = sym here ∙ ap (kept_at memo) (sym at) ∙ is in
      let one : record { key = key; edge = e } ≡ kept = cc in
      subst (λ (x : Kept). MemoHolds (plain_view q) x.key x.edge) one (subst (λ x. MemoHolds (plain_view x) key e) (sym same) holds))
  | inr ne ↦ st.remembered i kept (sym (others i ne) ∙ is)
]
