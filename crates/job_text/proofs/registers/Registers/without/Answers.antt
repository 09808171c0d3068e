use Rattle.std.proofs.Common.{◌≡◌, List, map, ap, sym, ◌∙◌, subst, arith, length, Vec, Global}
use Rattle.std.proofs.lemmas.List.{length-map}
use Rattle.edge_bits.specs.declared.edges.Kind.{Kind}
use Rattle.job_words.specs.Text.{Word}
use Rattle.job_text.specs.declared.job.Register.{Register}
use Rattle.job_text.specs.Places.{Refers}
use Rattle.job_text.specs.Grammar.{without}
use Rattle.job_text.specs.Names.{AreDistinct, IsIndex}
use Rattle.job_text.proofs.NameIndex.{none_drops, one_drops, distinct_after, index_after}
use Rattle.job_text.proofs.registers.Registers.without.Goals.{Joined-place-len, then-place-len, else-place-len}
use Rattle.job_text.proofs.registers.Registers.without.Goals as goal

dropped : (c : goal.Joined-place-len) (w : Word) (kind : Kind) → Refers c.self.inside.items.items w c.args.number kind → c.if-place-len.items.items ≡ map (without w) c.self.inside.items.items
dropped c w kind refers =
    let rs = c.self.inside.items.items in
    let i = c.args.number in
    let place = sym refers.2 in
    elim c.if-place-len.branch [
      | then-place-len v ↦ ap (λ (t : Vec Register Global). t.items) v.items-is ∙ one_drops w rs i v.index_mut.result.now c.self.invariant.1 place (omega (arith, v.if-place-len.true, c.len.ensures)) v.index_mut.ensures.value
      | else-place-len v ↦ ap (λ (t : Vec Register Global). t.items) v.items-is ∙ sym (none_drops w rs i place (omega (arith, v.if-place-len.false, c.len.ensures)))
    ]

held : (c : goal.Joined-place-len) (w : Word) (kind : Kind) → Refers c.args.self w c.args.number kind → Refers c.self.inside.items.items w c.args.number kind
held c w kind = subst (λ (rs : List Register). Refers rs w c.args.number kind) (sym c.self.view_is)

pub invariant_of-result : goal.invariant_of-result
invariant_of-result c =
    let w = c.requires.0 in
    let drops = dropped c w c.requires.1 (held c w c.requires.1 c.requires.2) in (
      subst (λ (rs : List Register). IsIndex c.self.inside.places rs) (sym drops) (index_after w c.self.inside.places c.self.inside.items.items c.self.invariant.0),
      subst AreDistinct (sym drops) (distinct_after w c.self.inside.items.items c.self.invariant.1),
      omega (arith, ap length drops, length-map c.self.inside.items.items (without w), c.self.invariant.2),
    )

pub returns : goal.returns
returns c = λ w kind refers. dropped c w kind (held c w kind refers) ∙ ap (map (without w)) c.self.view_is
