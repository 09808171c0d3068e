-- Lines as commands.
use Rattle.std.proofs.Common.{◌≡◌, false, cond, List, [], ◌∷◌, refl, ap}
use Rattle.job_words.specs.Text.{Word, is_assignment}
use Rattle.job_commands.specs.Commands.{command_of, assignment_of, telling_of}

pub telling_is : (first : Word) (rest : List Word) → is_assignment (first ∷ rest) ≡ false → command_of (first ∷ rest) ≡ telling_of first rest
telling_is first [] h = refl
telling_is first (second ∷ []) h = refl
telling_is first (second ∷ third ∷ words) h = ap (λ b. cond b (assignment_of first third words) (telling_of first (second ∷ third ∷ words))) h
