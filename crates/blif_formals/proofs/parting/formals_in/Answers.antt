use Rattle.std.proofs.Common.{◌≡◌, Bor, ◌++◌, ◌∷◌, [], ◌+◌, List, ℕ, get_or, map, take, ap, subst, sym, ◌∙◌}
use Rattle.std.proofs.lemmas.List.{map-append, take_more}
use Rattle.job_words.specs.Text.{Word}
use Rattle.blif_formals.specs.ByNames.{joins_one_of}
use Rattle.blif_formals.specs.Parting.{JoinNumbers}
use Rattle.blif_formals.proofs.Parted.{one_fails, one_number}
use Rattle.blif_formals.proofs.parting.formals_in.Goals as goal

abbrev no_word : Bor (List ℕ)
no_word = record { ref_ptr = (0, 0); now = [] }

pub returns-in-None : goal.returns-in-None
returns-in-None c = one_fails (joins_one_of c.args.names.now) (λ (w : Bor (List ℕ)). w.now) c.args.words.now c.loop-word.word-index no_word c.loop-word-test.true c.in-None.ensures

pub loop-word-preserved : goal.loop-word-preserved
loop-word-preserved c =
    let i = c.loop-word.word-index in
    let ws = c.args.words.now in
    let names = c.args.names.now in
    let word : Word = (get_or ws i no_word).now in
    let front : List Word = map (λ w. w.now) (take i ws) in
    let more : map (λ w. w.now) (take (i + 1) ws) ≡ front ++ word ∷ [] = ap (map (λ w. w.now)) (take_more ws i no_word c.loop-word-test.true) ∙ map-append (λ w. w.now) (take i ws) (get_or ws i no_word ∷ []) in
    let step = one_number names front c.loop-word.formals.items word c.in-Some.number c.loop-word.invariant c.in-Some.ensures in
    subst (λ (t : List Word). JoinNumbers names t c.push.new.self.items) (sym more) (rw c.in_ok-push-in-Some.ensures.items step)
