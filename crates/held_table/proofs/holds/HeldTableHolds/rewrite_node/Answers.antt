use Rattle.std.proofs.Common.{◌≡◌, ◌<◌, ℕ, length, Some, refl, ap, sym, ◌∙◌, subst, arith}
use Rattle.std.specs.Prelude.{slice_index}
use Rattle.std.specs.Vec.{with_item}
use Rattle.std.proofs.lemmas.List.{get_or_read}
use Rattle.edge_bits.specs.Reading.{plain}
use Rattle.edge_bits.specs.Words.{unpack_of}
use Rattle.edge_bits.specs.declared.words.Node.{Node}
use Rattle.node_store.specs.Changes.{CanRewrite, put_at, var_of}
use Rattle.held_table.specs.declared.table.HeldTable.{HeldTable}
use Rattle.held_table.specs.Tables.{hand_of, view_of}
use Rattle.held_table.proofs.Steps.{inner_same, rewrites, word_is}
use Rattle.held_table.proofs.Tables.{within}
use Rattle.held_table.proofs.holds.HeldTableHolds.rewrite_node.Goals as goal

pub index-requires : goal.index-requires
index-requires c =
    let t = c.args.self.now in
    let l = c.requires.own.chained.loose c.args.slot c.requires.loose in
    let lt : c.args.slot < t.limit = within t c.requires.own c.args.slot l.2 l.3 in
    let inside : c.args.slot < length t.words.items = (let m = c.requires.own.words.as_many in omega (arith, lt, m)) in
    subst (λ n. c.args.slot < n) (sym t.words.ok.0) inside

pub returns-clause-own : goal.returns-clause-own
returns-clause-own c =
    let t = c.args.self.now in
    let l = c.requires.own.chained.loose c.args.slot c.requires.loose in
    let lt : c.args.slot < t.limit = within t c.requires.own c.args.slot l.2 l.3 in
    let inside : c.args.slot < length t.words.items = (let m = c.requires.own.words.as_many in omega (arith, lt, m)) in
    let n = c.requires.can in
    let read : c.index.result.now ≡ slice_index t.words.items c.args.slot = get_or_read t.words.items c.args.slot c.index.result.now inside c.index.ensures 0 in
    (rewrites t _ c.requires.own c.args.slot c.args.bits c.variable_in-was.result c.variable_in-now.result n.0 n.1 c.requires.loose c.ranges.bits.fits n.2 n.3 refl refl
    (c.variable_in-was.ensures ∙ ap (λ (x : ℕ). var_of (unpack_of x)) read) (c.variable_in-now.ensures ∙ ap var_of n.2)).0

pub returns-clause-rewritten : goal.returns-clause-rewritten
returns-clause-rewritten c = λ node reads.
    let t = c.args.self.now in
    let l = c.requires.own.chained.loose c.args.slot c.requires.loose in
    let lt : c.args.slot < t.limit = within t c.requires.own c.args.slot l.2 l.3 in
    let inside : c.args.slot < length t.words.items = (let m = c.requires.own.words.as_many in omega (arith, lt, m)) in
    let n = c.requires.can in
    let same : n.1 ≡ node = inner_same n.1 node (sym n.2 ∙ reads) in
    let can : CanRewrite n.0 (view_of t) c.args.slot node.var (plain node.hi) node.lo = subst (λ (x : Node). CanRewrite n.0 (view_of t) c.args.slot x.var (plain x.hi) x.lo) same n.3 in
    let read : c.index.result.now ≡ slice_index t.words.items c.args.slot = get_or_read t.words.items c.args.slot c.index.result.now inside c.index.ensures 0 in
    let u : HeldTable = record t { words = with_item t.words c.args.slot c.args.bits; half = Some (record { was = c.variable_in-was.result; now = c.variable_in-now.result }) } in
    let seen = (rewrites t u c.requires.own c.args.slot c.args.bits c.variable_in-was.result c.variable_in-now.result n.0 node c.requires.loose c.ranges.bits.fits reads can refl refl
    (c.variable_in-was.ensures ∙ ap (λ (x : ℕ). var_of (unpack_of x)) read) (c.variable_in-now.ensures ∙ ap var_of reads)).1 in
    let bits : slice_index u.words.items ≡ put_at (slice_index t.words.items) c.args.slot c.args.bits = word_is t c.requires.own c.args.slot c.args.bits u.words.items refl lt c.ranges.bits.fits in
    λ i. record { content = seen i; bits = bits i; heads = length t.heads.items; hand = hand_of t }
