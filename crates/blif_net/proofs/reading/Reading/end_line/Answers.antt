use Rattle.std.proofs.Common.{◌≡◌, ◌==◌, List, [], ◌∷◌, ap, arith, length, map, refl, sym, true, ◌∙◌}
use Rattle.std.proofs.lemmas.Bool.Decides.{nat_tests}
use Rattle.blif_net.proofs.Taking.{end_taken}
use Rattle.blif_net.proofs.reading.Reading.end_line.Goals as goal

no_items : {X : Type 0} (xs : List X) → (length xs == 0) ≡ true → xs ≡ []
no_items [] e = refl
no_items (x ∷ xs) e = absurd (grind (arith, nat_tests))

pub returns-clause-ok : goal.returns-clause-ok
returns-clause-ok c = λ line. end_taken c.args.self.now c.close.new.self line (map (λ word. word.now) c.args.words.now) (ap (map (λ word. word.now)) (no_items c.args.words.now (sym c.is_empty.ensures ∙ c.if-not-is_empty.false))) c.in_ok-close.ensures
