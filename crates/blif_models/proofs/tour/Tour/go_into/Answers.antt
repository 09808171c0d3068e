use Rattle.std.proofs.Common.{◌≡◌, ◌+◌, ◌++◌, ◌∷◌, [], ◌∙◌, All, List, ap, arith, get_or, length, rules, subst, sym, true, false, ℕ}
use Rattle.std.proofs.lemmas.List.{length-map, length-set, length-append, length_push}
use Rattle.blif_models.specs.declared.tour.Turn.TheVariants as turns
use Rattle.blif_models.specs.Graphs.{is_met}
use Rattle.blif_models.specs.Ranks.{TurnIs, into_each}
use Rattle.blif_models.proofs.CappedSums.{held_at}
use Rattle.blif_models.proofs.Tours.{more_to_come, weight_less}
use Rattle.blif_models.proofs.tour.Tour.go_into.Goals as goal

pub returns-in_ok-turn_into-clause-tour : goal.returns-in_ok-turn_into-clause-tour
returns-in_ok-turn_into-clause-tour c =
    let next = c.args.next.now in
    let m = c.args.model in
    let old = c.args.self.now in
    let there : c.as_slice.result.now ≡ get_or next m [] = c.as_slice.ensures ∙ c.index-next-model.is ∙ sym (held_at next m c.index-next-model.result c.requires.model) ∙ held_at next m [] c.requires.model in
    let coming : c.turn_into.new.turns.items ≡ (old.turns.items ++ turns.Leave m ∷ []) ++ into_each (get_or next m []) =
    c.in_ok-turn_into.ensures ∙ (λ j. c.in_ok-push.ensures.items j ++ into_each (there j)) in
    record {
      as_many = length-set old.met.items m true ∙ c.requires.tour.as_many;
      coming = subst (All (TurnIs (length next))) (sym coming) (more_to_come (length next) m old.turns.items (get_or next m []) c.requires.model (c.requires.within m [] c.requires.model) c.requires.tour.coming);
      gone = c.requires.tour.gone;
    }

pub returns-in_ok-turn_into-clause-work : goal.returns-in_ok-turn_into-clause-work
returns-in_ok-turn_into-clause-work c =
    let next = c.args.next.now in
    let m = c.args.model in
    let old = c.args.self.now in
    let held : List ℕ = get_or next m [] in
    let there : c.as_slice.result.now ≡ held = c.as_slice.ensures ∙ c.index-next-model.is ∙ sym (held_at next m c.index-next-model.result c.requires.model) ∙ held_at next m [] c.requires.model in
    let new : is_met old.met.items m ≡ false = search (rules, c.index.ensures, c.if-not-index.true) in
    let coming : length c.turn_into.new.turns.items ≡ length old.turns.items + 1 + length held =
    ap length (c.in_ok-turn_into.ensures ∙ (λ j. c.in_ok-push.ensures.items j ++ into_each (there j)))
    ∙ length-append (old.turns.items ++ turns.Leave m ∷ []) (into_each held)
    ∙ (λ j. length_push old.turns.items (turns.Leave m) j + length-map held turns.Into j) in
    omega (arith, coming, weight_less next old.met.items m c.requires.model c.requires.tour.as_many new)
