use Rattle.std.proofs.Common.{◌≡◌, ◌<◌, List, ℕ, false, length, ap, subst, sym, ◌∙◌}
use Rattle.std.specs.Prelude.{All}
use Rattle.std.specs.Global.{Vec}
use Rattle.std.specs.List.{list_all}
use Rattle.std.proofs.lemmas.Option.{MatchOption-at_none}
use Rattle.blif_formals.specs.ByNames.{joins_one_of}
use Rattle.blif_formals.specs.Formals.{words_in}
use Rattle.blif_formals.specs.Joining.{joins_well}
use Rattle.blif_formals.specs.Parting.{JoinNumbers}
use Rattle.blif_formals.proofs.Parted.{numbered, numbers_below, told_by_numbers, told_unknown}
use Rattle.blif_formals.proofs.parting.is_misjoined.Goals as goal

pub joins_well-requires-clause-within : goal.joins_well-requires-clause-within
joins_well-requires-clause-within c =
    subst (λ k. All (λ n. n < k) c.deref.result.now) (sym c.requires.many)
    (subst (λ (ns : List ℕ). All (λ n. n < length c.args.names.now) ns) (sym c.deref.ensures.value) (numbers_below c.args.names.now (words_in c.args.words.now) c.in-Some.formals.items
    (numbered c.args.names.now (words_in c.args.words.now) c.in_ok-formals.field-0 c.in-Some.formals c.in-Some.is c.in_ok-formals.ensures)))

pub returns-in_ok-joins_well-in-Some : goal.returns-in_ok-joins_well-in-Some
returns-in_ok-joins_well-in-Some c =
    let i = c.args.interface.now in
    told_by_numbers c.args.names.now i (words_in c.args.words.now) c.in-Some.formals.items c.in_ok-joins_well-in-Some.field-0
    (numbered c.args.names.now (words_in c.args.words.now) c.in_ok-formals.field-0 c.in-Some.formals c.in-Some.is c.in_ok-formals.ensures)
    (c.in_ok-joins_well-in-Some.ensures ∙ ap (joins_well i.inputs i.outputs) c.deref.ensures.value)

pub returns-in-None : goal.returns-in-None
returns-in-None c =
    told_unknown c.args.names.now c.args.interface.now (words_in c.args.words.now)
    (MatchOption-at_none (list_all (joins_one_of c.args.names.now) (words_in c.args.words.now) ≡ false) (λ (formals : Vec ℕ). JoinNumbers c.args.names.now (words_in c.args.words.now) formals.items) c.in-None.is c.in_ok-formals.ensures)
