use Rattle.std.proofs.Common.{◌≡◌, ap, sym, ◌∙◌, subst}
use Rattle.std.specs.Prelude.{slice_index}
use Rattle.std.proofs.lemmas.List.{get_or_read}
use Rattle.edge_bits.specs.Words.{unpack_of}
use Rattle.step_store.specs.Knowing.{Meets}
use Rattle.step_store.specs.Plain.{known_of}
use Rattle.step_store.proofs.Tables.{met_used, word_met}
use Rattle.step_store.proofs.plain.PlainTableSteps.load_node.Goals as goal

pub returns-clause-meets : goal.returns-clause-meets
returns-clause-meets c = λ word reads.
    let t = c.args.self.now in
    let e : c.index.result.now ≡ slice_index t.core.words.items c.args.slot = get_or_read t.core.words.items c.args.slot c.index.result.now c.requires.within c.index.ensures 0 in
    subst (λ b. Meets (known_of t) c.args.slot b word) (sym e) (word_met t c.requires.own c.args.slot word (ap unpack_of (sym e) ∙ reads))

pub returns-clause-used : goal.returns-clause-used
returns-clause-used c = λ met.
    let t = c.args.self.now in
    let e : c.index.result.now ≡ slice_index t.core.words.items c.args.slot = get_or_read t.core.words.items c.args.slot c.index.result.now c.requires.within c.index.ensures 0 in
    let u = met_used t c.requires.own c.args.slot met in (u.0, ap unpack_of e ∙ u.1)
