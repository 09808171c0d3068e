use Rattle.std.proofs.Common.{sym, subst}
use Rattle.node_store.specs.Remembering.{IsOf}
use Rattle.node_store.specs.RememberingLaws.{Remembers-of}
use Rattle.node_store.specs.Stacks.{Scratch}
use Rattle.node_store.proofs.stack.Stack.remember.Goals as goal

pub returns-then-write-clause-remembers : goal.returns-then-write-clause-remembers
returns-then-write-clause-remembers c =
    Remembers-of c.args.self.now.answers c.self.inside.answers.items c.write.new.answers.items c.args.task c.args.edge
    (subst (λ (s : Scratch). IsOf c.args.self.now.answers s.answers) (sym c.self.view_is) c.make_place.ensures.is_of) c.write.ensures

pub returns-else-write-clause-remembers : goal.returns-else-write-clause-remembers
returns-else-write-clause-remembers c =
    Remembers-of c.args.self.now.answers c.self.inside.answers.items c.write.new.answers.items c.args.task c.args.edge
    (subst (λ (s : Scratch). IsOf c.args.self.now.answers s.answers) (sym c.self.view_is) c.make_place.ensures.is_of) c.write.ensures
