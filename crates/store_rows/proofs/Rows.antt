-- The rows under their names, and the edges that they hold.
use Rattle.std.proofs.Common.{◌≡◌, ℕ, ◌+◌, ◌<◌, ◌≤◌, ◌==◌, Bool, true, false, cond, IsTrue, List, [], ◌∷◌, length, Option, Some, None, refl, ap, sym, subst, ◌∙◌, ◌↔◌, arith, eq-eqb}
use Rattle.std.specs.Prelude.{IfSome, IsSome}
use Rattle.edge_bits.specs.declared.edges.Edge.{Edge}
use Rattle.edge_bits.specs.declared.edges.Kind.{Kind}
use Rattle.function_laws.specs.declared.history.Name.{Name}
use Rattle.function_laws.specs.Tables.{same_name}
use Rattle.handle_count.specs.declared.rows.Held.{Held}
use Rattle.handle_count.specs.RowMaps.{find_row}
use Rattle.node_store.specs.Views.{View, Is}
use Rattle.store_upkeep.specs.Lasting.{one_if}
use Rattle.store_rows.specs.RowStores.{HoldsAll, IsLive, IsLiveAs, edge_in, edge_or, rows_at}

-- what holds of each row holds of the one that is found
held_is : (w : View) (live : List Held) (name : Name) (h : Held) → find_row live name ≡ Some h → HoldsAll w live → Is h.kind w h.edge
held_is w [] name h e all = absurd (let z : None ≡ Some h = e in cc)
held_is w (x ∷ xs) name h e all = by (λ f. held_is w xs name h f all.1) (same_name name x.name) refl
  where
    by : (find_row xs name ≡ Some h → Is h.kind w h.edge) → (b : Bool) → same_name name x.name ≡ b → Is h.kind w h.edge
    by rest true is = let z : Some x ≡ Some h = sym (ap (λ b. cond b (Some x) (find_row xs name)) is) ∙ e in let y : x ≡ h = cc in subst (λ (g : Held). Is g.kind w g.edge) y all.0
    by rest false is = rest (sym (ap (λ b. cond b (Some x) (find_row xs name)) is) ∙ e)

pub live-is : (w : View) (live : List Held) (k : Kind) (h : Name) → IsLiveAs k live h → HoldsAll w live → Is k w (edge_in live h)
live-is w live k h named all =
    subst (λ (e : Edge). Is k w e) (sym (ap edge_or named.1)) (subst (λ (j : Kind). Is j w named.0.edge) named.2 (held_is w live h named.0 named.1 all))

-- the slot of a row that is found is held
pub some-held : (live : List Held) (name : Name) (h : Held) → find_row live name ≡ Some h → 0 < rows_at h.edge.index live
some-held [] name h e = absurd (let z : None ≡ Some h = e in cc)
some-held (x ∷ xs) name h e = by (some-held xs name h) (same_name name x.name) refl
  where
    by : (find_row xs name ≡ Some h → 0 < rows_at h.edge.index xs) → (b : Bool) → same_name name x.name ≡ b → 0 < one_if (x.edge.index == h.edge.index) + rows_at h.edge.index xs
    by rest true is =
        let z : Some x ≡ Some h = sym (ap (λ b. cond b (Some x) (find_row xs name)) is) ∙ e in
        let y : x ≡ h = cc in
        let i : one_if (x.edge.index == h.edge.index) ≡ 1 = ap one_if (eq-eqb x.edge.index h.edge.index (ap (λ (g : Held). g.edge.index) y)) in omega (arith, i)
    by rest false is = let r = rest (sym (ap (λ b. cond b (Some x) (find_row xs name)) is) ∙ e) in omega (arith, r)

pub live-held : (live : List Held) (k : Kind) (h : Name) → IsLiveAs k live h → 0 < rows_at (edge_in live h).index live
live-held live k h named = subst (λ (e : Edge). 0 < rows_at e.index live) (sym (ap edge_or named.1)) (some-held live h named.0 named.1)

one-few : (b : Bool) → one_if b ≤ 1
one-few true = omega arith
one-few false = omega arith

pub rows-few : (k : ℕ) (live : List Held) → rows_at k live ≤ length live
rows-few k [] = omega arith
rows-few k (x ∷ xs) = let e = rows-few k xs in let o = one-few (x.edge.index == k) in omega (arith, e, o)

-- a name is live exactly if a row is found under it
pub found-live : (live : List Held) (h : Name) → IsSome (find_row live h) → IsLive live h
found-live live h some = by (find_row live h) refl some
  where
    by : (o : Option Held) → find_row live h ≡ o → IsSome o → IsLive live h
    by None none some = absurd (let z : false ≡ true = some in cc)
    by (Some held) there some = (held.kind, (held, there, refl))

pub live-found : (live : List Held) (h : Name) → IsLive live h → IsSome (find_row live h)
live-found live h named = subst IsSome (sym named.1.1) refl

pub live-either : (live : List Held) (h : Name) (b : Bool) → IsTrue b ↔ IsSome (find_row live h) → IsTrue b ↔ IsLive live h
live-either live h b is = ((λ yes. found-live live h (is.0 yes)), (λ named. is.1 (live-found live h named)))

-- what is told of a row that is found
pub kind-told : (live : List Held) (h : Name) (k : Kind) → IsLive live h → IfSome (find_row live h) (λ held. k ≡ held.kind) → IsLiveAs k live h
kind-told live h k named told = (named.1.0, named.1.1, sym (subst (λ (o : Option Held). IfSome o (λ held. k ≡ held.kind)) named.1.1 told))

pub edge-told : (live : List Held) (h : Name) (e : Edge) → IsLive live h → IfSome (find_row live h) (λ held. e ≡ held.edge) → e ≡ edge_in live h
edge-told live h e named told = subst (λ (o : Option Held). IfSome o (λ held. e ≡ held.edge)) named.1.1 told ∙ sym (ap edge_or named.1.1)

-- a name has one kind
pub one-kind : (live : List Held) (h : Name) (k l : Kind) → IsLiveAs k live h → IsLiveAs l live h → k ≡ l
one-kind live h k l first second =
    let same : Some first.0 ≡ Some second.0 = sym first.1 ∙ second.1 in
    let held : first.0 ≡ second.0 = cc in
    sym first.2 ∙ ap (λ (x : Held). x.kind) held ∙ second.2
