use Rattle.std.proofs.Common.{◌≡◌, ◌<◌, List, ◌∷◌, ℕ, length, None, Some, refl, sym, subst, arith}
use Rattle.std.specs.Prelude.{slice_index}
use Rattle.std.specs.Vec.{with_item}
use Rattle.node_store.specs.Changes.{put_at}
use Rattle.held_table.specs.declared.table.HeldTable.{HeldTable}
use Rattle.held_table.specs.Tables.{free_in, hand_of}
use Rattle.held_table.proofs.Frees.{has_list, list_now, takes_first}
use Rattle.held_table.proofs.Steps.{first_within, stores, word_is}
use Rattle.held_table.proofs.holds.HeldTableHolds.store_node.Goals as goal

pub index_mut-requires : goal.index_mut-requires
index_mut-requires c =
    let t = c.args.self.now in
    let first = has_list t.has_free (free_in t) (c.args.slot ∷ c.requires.first.0) c.requires.first.1 in
    let lt : c.args.slot < length t.words.items = first_within t c.requires.own c.args.slot c.requires.first.0 first.1 in
    subst (λ n. c.args.slot < n) (sym t.words.ok.0) lt

pub returns-clause-own : goal.returns-clause-own
returns-clause-own c =
    let t = c.args.self.now in
    let list : List ℕ = c.requires.first.0 in
    let first = has_list t.has_free (free_in t) (c.args.slot ∷ list) c.requires.first.1 in
    let f = takes_first t c.requires.own c.args.slot list c.without_first-self.new.freed.items c.without_first-self.result first.1 c.without_first-self.ensures.taken in
    let n = c.requires.new in
    (stores t _ c.requires.own c.args.slot c.args.bits n.0 n.1 list c.requires.calm c.ranges.bits.fits n.2 n.3 first.1 refl refl f.0 f.1 f.2 f.3 f.4 c.without_first-self.ensures.room).0

pub returns-clause-stored : goal.returns-clause-stored
returns-clause-stored c = λ k node list reads new free.
    let t = c.args.self.now in
    let u : HeldTable = record t { words = with_item t.words c.args.slot c.args.bits; next_free = c.without_first-self.result; freed = c.without_first-self.new.freed; loose = Some c.args.slot; renewed = None; link = None } in
    let first = has_list t.has_free (free_in t) (c.args.slot ∷ list) free in
    let f = takes_first t c.requires.own c.args.slot list c.without_first-self.new.freed.items c.without_first-self.result first.1 c.without_first-self.ensures.taken in
    let seen = (stores t u c.requires.own c.args.slot c.args.bits k node list c.requires.calm c.ranges.bits.fits reads new first.1 refl refl f.0 f.1 f.2 f.3 f.4 c.without_first-self.ensures.room).1 in
    let lt : c.args.slot < t.limit = (let a = first_within t c.requires.own c.args.slot list first.1 in let m = c.requires.own.words.as_many in omega (arith, a, m)) in
    let bits : slice_index u.words.items ≡ put_at (slice_index t.words.items) c.args.slot c.args.bits = word_is t c.requires.own c.args.slot c.args.bits u.words.items refl lt c.ranges.bits.fits in
    let left = list_now t.has_free (free_in u) list first.0 f.0 in
    λ i. record { content = seen i; bits = bits i; heads = length t.heads.items; hand = record (hand_of t) { free = left i; loose = Some c.args.slot; renewed = None; link = None } }
