use Rattle.std.proofs.Common.{◌≡◌, ℕ, suc, ◌<◌, List, ◌++◌, ◌∷◌, [], length, take, get_or, add-one, ap, sym, ◌∙◌, arith, length-append, rules}
use Rattle.std.specs.List.{zip}
use Rattle.std.proofs.Math.Seq.{take-suc}
use Rattle.std.proofs.lemmas.List.{take_all}
use Rattle.std.proofs.lemmas.Slice.Zip.{zip_turn, zip_end, length-zip, get_or-zip}
use Rattle.job_commands.proofs.commands.paired.Goals as goal

-- the next pair of two lists
pair_more : (ks vs : List ℕ) (i x y : ℕ) (pairs : List (ℕ × ℕ)) → pairs ≡ take i (zip ks vs) → i < length ks → i < length vs → x ≡ get_or ks i 0 → y ≡ get_or vs i 0
    → pairs ++ (x, y) ∷ [] ≡ take (suc i) (zip ks vs)
pair_more ks vs i x y pairs e first second h k =
    let within : i < length (zip ks vs) = omega (arith, length-zip ks vs) in
    ap (λ t. t ++ (x, y) ∷ []) e
    ∙ ap (λ t. take i (zip ks vs) ++ t ∷ []) (ap (λ t. (t, y)) h ∙ ap (λ t. (get_or ks i 0, t)) k ∙ sym (get_or-zip ks vs i (0, 0) first second))
    ∙ sym (take-suc (zip ks vs) i (0, 0) within)

pub loop-variable-preserved : goal.loop-variable-preserved
loop-variable-preserved c =
    let ks = c.args.variables.now in
    let vs = c.args.registers.now in
    let turn = zip_turn ks vs c.loop-variable.yielded c.into_iter-variable-iterator.result c.loop-variable.variable-iterator c.next.new.self c.next.result (search rules) (search rules)
    c.loop-variable.yielded_by (c.in-Some.variable, c.in-Some.register) c.in-Some.is (search rules) in
    c.in_ok-push.ensures.ok
    ∙ pair_more ks vs (length c.loop-variable.yielded) c.in-Some.variable.now c.in-Some.register.now c.loop-variable.pairs c.loop-variable.invariant turn.0 turn.1 (turn.2 0) (turn.3 0)
    ∙ ap (λ i. take i (zip ks vs)) (sym (add-one (length c.loop-variable.yielded)) ∙ sym (length-append c.loop-variable.yielded ((c.in-Some.variable, c.in-Some.register) ∷ [])))

pub returns : goal.returns
returns c =
    let ks = c.args.variables.now in
    let vs = c.args.registers.now in
    let end = zip_end ks vs c.loop-variable.yielded c.into_iter-variable-iterator.result c.loop-variable.variable-iterator c.next.new.self c.next.result (search rules) (search rules)
    c.loop-variable.yielded_by c.in-None.is (search rules) in
    c.loop-variable.invariant ∙ take_all (length c.loop-variable.yielded) (zip ks vs) (omega (arith, length-zip ks vs, end))
