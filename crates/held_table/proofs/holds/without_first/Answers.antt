use Rattle.std.proofs.Common.{inl, inr, ◌++◌, Option, ℕ, refl, ap, sym, ◌∙◌}
use Rattle.std.specs.Prelude.{option_to_list}
use Rattle.held_table.proofs.Frees.{none_of}
use Rattle.held_table.proofs.holds.without_first.Goals as goal

pub returns-in-Some-clause-taken : goal.returns-in-Some-clause-taken
returns-in-Some-clause-taken c = inl (c.in-Some.field-0, c.pop.ensures.items ∙ ap (λ (o : Option ℕ). c.pop.new.self.items ++ option_to_list o) c.in-Some.is, refl)

pub returns-in-None-clause-taken : goal.returns-in-None-clause-taken
returns-in-None-clause-taken c = let e = c.in-None.ensures.cases in let n = none_of c.args.freed.now.items c.pop.new.self.items (sym c.args.freed.now.ok.0 ∙ e.0) (sym c.pop.new.self.ok.0 ∙ e.1) in inr (n.0, n.1, refl)
