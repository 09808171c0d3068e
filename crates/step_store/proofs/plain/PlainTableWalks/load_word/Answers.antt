use Rattle.std.proofs.Common.{◌≡◌, ◌<◌, inl, ap, sym, ◌∙◌, subst}
use Rattle.std.specs.Prelude.{slice_index}
use Rattle.std.proofs.lemmas.List.{get_or_read}
use Rattle.edge_bits.specs.Words.{unpack_of}
use Rattle.node_store.specs.Contents.{opened_of}
use Rattle.node_store.specs.Views.{values_at}
use Rattle.step_store.specs.Plain.{known_of}
use Rattle.step_store.specs.TableLaws.{slot_within}
use Rattle.step_store.proofs.Tables.{met_used, word_met}
use Rattle.step_store.proofs.WalkLemmas.{opens_tells}
use Rattle.step_store.proofs.plain.PlainTableWalks.load_word.Goals as goal

pub index-requires : goal.index-requires
index-requires c =
    let t = c.args.self.now in
    let u = met_used t c.requires.own c.args.slot (inl c.requires.met) in
    subst (λ n. c.args.slot < n) (sym t.core.words.ok.0) (slot_within t.core c.args.slot u.0 u.1)

pub returns-clause-used : goal.returns-clause-used
returns-clause-used c =
    let t = c.args.self.now in
    let u = met_used t c.requires.own c.args.slot (inl c.requires.met) in
    let e : c.index.result.now ≡ slice_index t.core.words.items c.args.slot = get_or_read t.core.words.items c.args.slot c.index.result.now (slot_within t.core c.args.slot u.0 u.1) c.index.ensures 0 in
    (u.0, ap unpack_of e ∙ u.1)

pub returns-clause-tells : goal.returns-clause-tells
returns-clause-tells c = λ word reads e at k is.
    let t = c.args.self.now in
    let u = met_used t c.requires.own c.args.slot (inl c.requires.met) in
    let same : c.index.result.now ≡ slice_index t.core.words.items c.args.slot = get_or_read t.core.words.items c.args.slot c.index.result.now (slot_within t.core c.args.slot u.0 u.1) c.index.ensures 0 in
    let w = (known_of t).view in
    opens_tells k w e (values_at k w e) (opened_of word e.complement) ((word_met t c.requires.own c.args.slot word (ap unpack_of (sym same) ∙ reads)).opens e at k is)
