use Rattle.std.proofs.Common.{◌≡◌, ℕ, ◌+◌, ◌-◌, ◌≤◌, List, ◌++◌, length, take, drop, ap, sym, ◌∙◌, arith, length-take, length-drop}
use Rattle.std.proofs.lemmas.List.{take-append-drop, take_at, drop-drop}
use Rattle.byte_streams.proofs.memory.give.Goals as goal

given : (xs part rest : List ℕ) (r n : ℕ) → r + n ≤ length xs → part ≡ take (r + n - r) (drop r xs) → drop r xs ≡ take n (part ++ rest) ++ drop (r + n) xs
given xs part rest r n fits e =
    let k : r + n - r ≡ n = omega arith in
    let e' : part ≡ take n (drop r xs) = rw k at e in
    let long : length part ≡ n = ap length e' ∙ grind (arith, length-take {A = ℕ}, length-drop {A = ℕ}) in
    rw (take_at part rest n long, e') (sym (take-append-drop n (drop r xs)) ∙ ap (λ t. take n (drop r xs) ++ t) (drop-drop n r xs))

pub returns-clause-bytes : goal.returns-clause-bytes
returns-clause-bytes c = given c.args.items.now c.copy_from_slice.new.self _ c.args.read c.min-count.result (omega arith) c.copy_from_slice.ensures.after
