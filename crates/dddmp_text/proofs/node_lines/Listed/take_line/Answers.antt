use Rattle.std.proofs.Common.{◌∙◌, ap, not, codes, List, ℕ}
use Rattle.std.specs.Str.{bytes_eq}
use Rattle.dddmp_text.proofs.ListedLines.{lists-node, not-other}
use Rattle.dddmp_text.proofs.node_lines.Listed.take_line.Goals as goal

pub returns-then-ne-clause-ok : goal.returns-then-ne-clause-ok
returns-then-ne-clause-ok c =
    lists-node c.args.given.now c.args.variables.now c.requires.variables c.args.self.now c.requires.empty _ c.in-Some.word.now _ c.in-Some.ensures.words c.in_ok-index.index c.take_node.new.self
    (not-other c.ne.result (bytes_eq c.in-Some.word.now (codes ".end")) (c.ne.ensures ∙ ap (λ (s : List ℕ). not (bytes_eq c.in-Some.word.now s)) c.as_slice.ensures) c.if-ne.true) c.in_ok-index.ensures.0 c.in_ok-take_node.ensures.ok
