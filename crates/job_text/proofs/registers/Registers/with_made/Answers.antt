use Rattle.std.proofs.Common.{◌≡◌, ◌∷◌, ◌++◌, [], List, length, false, ap, sym, ◌∙◌, subst, arith, length-append}
use Rattle.std.specs.List.{list_any}
use Rattle.job_text.specs.declared.job.Register.{Register}
use Rattle.job_text.specs.Places.{is_called}
use Rattle.job_text.specs.Grammar.{register_made}
use Rattle.job_text.specs.Names.{AreDistinct, IsIndex}
use Rattle.job_text.proofs.NameIndex.{distinct_more, index_more}
use Rattle.job_text.proofs.registers.Registers.with_made.Goals as goal

pub invariant_of-result : goal.invariant_of-result
invariant_of-result c =
    let name = c.args.name.now in
    let rs = c.self.inside.items.items in
    let own = register_made name c.args.kind in
    let fresh = subst (λ (rs : List Register). list_any (is_called name) rs ≡ false) (sym c.self.view_is) c.requires in
    let same = c.in_ok-push.ensures.items ∙ ap (λ (r : Register). rs ++ r ∷ []) c.in_ok-made.ensures.ok in (
      subst (λ (rs : List Register). IsIndex c.insert.new.self rs) (sym same)
          (index_more c.self.inside.places c.insert.new.self rs own c.in_ok-from_slice.field-0 c.len-place.result c.self.invariant.0 c.in_ok-insert.ensures.updates c.in_ok-from_slice.ensures.items (c.len-place.ensures ∙ c.self.inside.items.ok.0) fresh),
      subst AreDistinct (sym same) (distinct_more rs own c.self.invariant.1 fresh),
      omega (arith, ap length c.in_ok-push.ensures.items, length-append rs (c.in_ok-made.field-0 ∷ []), c.if-place-ge-MOST_REGISTERS.false, c.len-place.ensures),
    )
