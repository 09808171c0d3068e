use Rattle.std.proofs.Common.{◌≡◌, ◌<◌, ℕ, length, set, refl, ap, sym, ◌∙◌, subst, arith}
use Rattle.std.specs.Prelude.{slice_index}
use Rattle.std.proofs.lemmas.List.{get_or_read}
use Rattle.held_table.proofs.Links.{pushes_slot}
use Rattle.held_table.proofs.Steps.{head_below}
use Rattle.held_table.proofs.holds.HeldTableHolds.push_head.Goals as goal

pub index-found-requires : goal.index-found-requires
index-found-requires c =
    let t = c.args.self.now in
    let lt : c.args.head < length t.heads.items = subst (λ n. n < length t.heads.items) (sym c.requires.head) (head_below (slice_index t.words.items c.args.slot) (length t.heads.items) c.requires.own.words.some_heads) in
    subst (λ n. c.args.head < n) (sym t.heads.ok.0) lt

pub index_mut-requires : goal.index_mut-requires
index_mut-requires c =
    let t = c.args.self.now in
    let lt : c.args.head < length t.heads.items = subst (λ n. n < length t.heads.items) (sym c.requires.head) (head_below (slice_index t.words.items c.args.slot) (length t.heads.items) c.requires.own.words.some_heads) in
    subst (λ n. c.args.head < n) (sym t.heads.ok.0) lt

pub returns-then-found-link-clause-own : goal.returns-then-found-link-clause-own
returns-then-found-link-clause-own c =
    let t = c.args.self.now in
    let lt : c.args.head < length t.heads.items = subst (λ n. n < length t.heads.items) (sym c.requires.head) (head_below (slice_index t.words.items c.args.slot) (length t.heads.items) c.requires.own.words.some_heads) in
    let e : c.index-found.result.now ≡ slice_index t.heads.items c.args.head = get_or_read t.heads.items c.args.head c.index-found.result.now lt c.index-found.ensures 0 in
    pushes_slot t _ c.requires.own c.args.head c.args.slot c.args.link c.requires.loose c.requires.linked (sym e ∙ c.if-found-link.true) c.requires.head lt refl (ap (λ (x : ℕ). set t.heads.items c.args.head x) (omega arith))
