use Rattle.std.proofs.Common.{◌≡◌, ◌∷◌, ◌++◌, [], List, Bor, ℕ, length, map, ap, sym, ◌∙◌}
use Rattle.std.proofs.lemmas.List.{length-map, map-append}
use Rattle.std.proofs.lemmas.Result.{err_from_is_err_and}
use Rattle.blif_net.proofs.Taking.{names_stopped, names_taken}
use Rattle.blif_net.proofs.reading.Reading.names_line.Goals as goal

-- the words are those before the last, and the last
parts : (ws ins : List (Bor (List ℕ))) (name : Bor (List ℕ)) → ws ≡ ins ++ name ∷ [] → map (λ (w : Bor (List ℕ)). w.now) ws ≡ map (λ (w : Bor (List ℕ)). w.now) ins ++ name.now ∷ []
parts ws ins name e = ap (map (λ (w : Bor (List ℕ)). w.now)) e ∙ map-append (λ (w : Bor (List ℕ)). w.now) ins (name ∷ [])

pub returns-in_err-add_cover-clause-stop : goal.returns-in_err-add_cover-clause-stop
returns-in_err-add_cover-clause-stop c =
    let p = err_from_is_err_and c.from_residual-in_err-add_cover.result c.from_residual-in_err-add_cover.ensures.1 in
    rw (p.1, p.2)
    (names_stopped c.args.self.now c.close.new.self c.args.line (map (λ word. word.now) c.args.words.now) (map (λ word. word.now) c.in-Some.ins.now) c.in-Some.name.now.now c.in_err-add_cover.field-0.0
    (parts c.args.words.now c.in-Some.ins.now c.in-Some.name.now c.in-Some.ensures.cases.0) c.in_ok-close.ensures c.in_err-add_cover.ensures.stop)

pub returns-clause-ok : goal.returns-clause-ok
returns-clause-ok c =
    names_taken c.args.self.now c.close.new.self c.add_cover.new.self c.args.line (length c.in-Some.ins.now) (map (λ word. word.now) c.args.words.now) (map (λ word. word.now) c.in-Some.ins.now) c.in-Some.name.now.now c.new.result
    (parts c.args.words.now c.in-Some.ins.now c.in-Some.name.now c.in-Some.ensures.cases.0) c.in_ok-close.ensures c.in_ok-add_cover.ensures.ok c.in_ok-add_cover.ensures.names (sym (length-map c.in-Some.ins.now (λ word. word.now))) c.new.ensures
