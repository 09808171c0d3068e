use Rattle.std.proofs.Common.{◌≡◌, ℕ, ◌≤◌, Option, Some, None, sym, ap, ◌∙◌, subst}
use Rattle.std.specs.Prelude.{IfNone}
use Rattle.edge_bits.specs.Words.{unpack_of}
use Rattle.edge_bits.specs.declared.words.Word.{Word}
use Rattle.hold_store.specs.Held.{AllElse, Knowledge, LeadsAlong, level_of_word}
use Rattle.hold_store.proofs.Finding.{found_nowhere, leads}
use Rattle.hold_store.proofs.Passing.{some_same}
use Rattle.hold_store.proofs.chains.find.Goals as goal

pub search-requires-clause-along : goal.search-requires-clause-along
search-requires-clause-along g c =
    let k = g.S.Holds.known c.args.seat.now in
    let l = c.load_head-first.ensures.loaded in
    subst (λ (x : Knowledge). LeadsAlong x c.load_head-first.result) (sym l.1) (leads k c.args.head c.args.level l.0 l.3 c.load_head-first.result l.2)

pub returns-clause-none : goal.returns-clause-none
returns-clause-none g c =
    let k = g.S.Holds.known c.args.seat.now in
    let l = c.load_head-first.ensures.loaded in
    at c.search.result c.search.ensures.none
  where
    at : (o : Option ℕ) → IfNone o (AllElse (g.S.Holds.known c.load_head-first.new.self) c.args.bits)
        → IfNone o ((s : ℕ) (word : Word) → 3 ≤ s → unpack_of c.args.bits ≡ Some word → (g.S.Holds.known c.args.seat.now).content.word s ≡ Some word → ⊥)
    at (Some s) none = tt
    at None none = λ s word high reads has.
        let k = g.S.Holds.known c.args.seat.now in
        let l = c.load_head-first.ensures.loaded in
        let w = c.requires.word in
        found_nowhere k c.args.head c.args.level l.0 l.3 (g.met.S.Holds.stands c.args.seat.now c.requires.own) c.requires.calm c.args.bits c.ranges.bits.fits c.requires.head word reads
        (w.2 ∙ ap (level_of_word k) (some_same w.0 word (sym w.1 ∙ reads)))
        (subst (λ (x : Knowledge). AllElse x c.args.bits) l.1 none) s high has
