use Rattle.std.proofs.Common.{◌≡◌, ◌<◌, ◌-◌, List, ◌∷◌, ℕ, length, None, refl, ap, sym, ◌∙◌, subst, arith}
use Rattle.std.specs.Prelude.{slice_index, vec_capacity}
use Rattle.std.specs.List.{range_with_len}
use Rattle.std.specs.Vec.{with_item}
use Rattle.node_store.specs.Changes.{put_at}
use Rattle.step_store.specs.Chains.{Lists}
use Rattle.held_table.specs.declared.table.HeldTable.{HeldTable}
use Rattle.held_table.specs.Tables.{free_in, free_list, hand_of}
use Rattle.held_table.proofs.Frees.{has_list, list_now, listed_more, room_for, stacked_more}
use Rattle.held_table.proofs.Steps.{frees, word_is}
use Rattle.held_table.proofs.Tables.{within}
use Rattle.held_table.proofs.holds.HeldTableHolds.free_node.Goals as goal

pub index_mut-requires : goal.index_mut-requires
index_mut-requires c =
    let t = c.args.self.now in
    let l = c.requires.own.chained.loose c.args.slot c.requires.loose in
    let lt : c.args.slot < t.limit = within t c.requires.own c.args.slot l.2 l.3 in
    let inside : c.args.slot < length t.words.items = (let m = c.requires.own.words.as_many in omega (arith, lt, m)) in
    subst (λ n. c.args.slot < n) (sym t.words.ok.0) inside

pub push_reserved-requires : goal.push_reserved-requires
push_reserved-requires c =
    let t = c.args.self.now in
    let l = c.requires.own.chained.loose c.args.slot c.requires.loose in
    subst (λ n. n < vec_capacity t.freed) (sym t.freed.ok.0) (room_for t c.requires.own c.args.slot l.2 l.3)

pub returns-clause-own : goal.returns-clause-own
returns-clause-own c =
    let t = c.args.self.now in
    let p = c.push_reserved.ensures in
    let list = ap (λ (l : List ℕ). free_list l t.next_free t.limit) p.items ∙ stacked_more t.freed.items c.args.slot (range_with_len t.next_free (t.limit - t.next_free)) in
    (frees t _ c.requires.own c.args.slot c.requires.loose c.requires.dead refl refl list (λ y on. listed_more t.freed.items c.args.slot y (subst (λ (l : List ℕ). Lists l y) p.items on)) p.capacity).0

pub returns-clause-freed : goal.returns-clause-freed
returns-clause-freed c = λ old free.
    let t = c.args.self.now in
    let l = c.requires.own.chained.loose c.args.slot c.requires.loose in
    let lt : c.args.slot < t.limit = within t c.requires.own c.args.slot l.2 l.3 in
    let inside : c.args.slot < length t.words.items = (let m = c.requires.own.words.as_many in omega (arith, lt, m)) in
    let p = c.push_reserved.ensures in
    let u : HeldTable = record t { words = with_item t.words c.args.slot 0; freed = c.push_reserved.new.self; loose = None; renewed = None; link = None } in
    let list : free_in u ≡ c.args.slot ∷ free_in t = ap (λ (l : List ℕ). free_list l t.next_free t.limit) p.items ∙ stacked_more t.freed.items c.args.slot (range_with_len t.next_free (t.limit - t.next_free)) in
    let has = has_list t.has_free (free_in t) old free in
    let seen = (frees t u c.requires.own c.args.slot c.requires.loose c.requires.dead refl refl list (λ y on. listed_more t.freed.items c.args.slot y (subst (λ (l : List ℕ). Lists l y) p.items on)) p.capacity).1 in
    let bits : slice_index u.words.items ≡ put_at (slice_index t.words.items) c.args.slot 0 = word_is t c.requires.own c.args.slot 0 u.words.items refl lt (omega arith) in
    let all = list_now t.has_free (free_in u) (c.args.slot ∷ old) has.0 (list ∙ ap (λ (l : List ℕ). c.args.slot ∷ l) has.1) in
    λ i. record { content = seen i; bits = bits i; heads = length t.heads.items; hand = record (hand_of t) { free = all i; loose = None; renewed = None; link = None } }
