use Rattle.std.proofs.Common.{List, ap, arith, length, map, sym, ◌∙◌, ◌++◌, refl, [], ◌∷◌, ◌≡◌, ◌==◌, true, false}
use Rattle.std.specs.Prelude.{replicate, vec_len}
use Rattle.std.specs.Global.{Vec}
use Rattle.std.proofs.lemmas.Bool.Decides.{nat_tests}
use Rattle.std.proofs.lemmas.List.{length-map}
use Rattle.std.proofs.lemmas.Result.{err_from_is_err_and}
use Rattle.blif_net.proofs.Taking.{main_outputs_taken, other_outputs_taken, outputs_stopped}
use Rattle.blif_net.proofs.reading.Reading.outputs_line.Goals as goal

no_items : {X : Type 0} (xs : List X) → (length xs == 0) ≡ true → xs ≡ []
no_items [] e = refl
no_items (x ∷ xs) e = absurd (grind (arith, nat_tests))

some_items : {X : Type 0} (xs : List X) → (length xs == 0) ≡ false → xs ≡ [] → ⊥
some_items [] e f = absurd (grind (arith, nat_tests))
some_items (x ∷ xs) e f = cc

many : {X : Type 0} (all : Vec X) → (length all.items == 0) ≡ (vec_len all == 0)
many all = let same : length all.items ≡ vec_len all = cc in ap (λ n. n == 0) same

pub returns-in_err-add_outputs-clause-stop : goal.returns-in_err-add_outputs-clause-stop
returns-in_err-add_outputs-clause-stop c =
    let p = err_from_is_err_and c.from_residual-in_err-add_outputs.result c.from_residual-in_err-add_outputs.ensures.1 in
    rw (p.1, p.2) (outputs_stopped c.args.self.now c.close.new.self c.args.line (map (λ word. word.now) c.args.words.now) c.in_err-add_outputs.field-0.0 c.in_ok-close.ensures c.in_err-add_outputs.ensures.stop)

pub returns-in_ok-add_lines-clause-ok : goal.returns-in_ok-add_lines-clause-ok
returns-in_ok-add_lines-clause-ok c =
    main_outputs_taken c.args.self.now c.close.new.self c.add_outputs.new.self c.add_lines.new.lines c.args.line (map (λ word. word.now) c.args.words.now) c.in_ok-close.ensures (c.in_ok-add_outputs.ensures.ok c.args.line) c.in_ok-add_outputs.ensures.names
    (no_items c.close.new.self.closed.items (many c.close.new.self.closed ∙ sym c.is_empty.ensures ∙ c.if-is_empty.true)) (c.in_ok-add_lines.ensures ∙ ap (λ n. c.close.new.self.outputs.items ++ replicate n c.args.line) (sym (length-map c.args.words.now (λ word. word.now))))

pub returns-else-is_empty-clause-ok : goal.returns-else-is_empty-clause-ok
returns-else-is_empty-clause-ok c =
    other_outputs_taken c.args.self.now c.close.new.self c.add_outputs.new.self c.args.line (map (λ word. word.now) c.args.words.now) c.in_ok-close.ensures (c.in_ok-add_outputs.ensures.ok c.args.line) c.in_ok-add_outputs.ensures.names
    (some_items c.close.new.self.closed.items (many c.close.new.self.closed ∙ sym c.is_empty.ensures ∙ c.if-is_empty.false))
