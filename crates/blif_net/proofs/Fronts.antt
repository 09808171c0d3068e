-- The words of `.names`: those before the last, and the last.
use Rattle.std.proofs.Common.{◌≡◌, ◌+◌, List, [], ◌∷◌, ◌++◌, length, nat_lt, take, refl, ap, ◌∙◌, arith, length-append}
use Rattle.std.specs.Bool.{then_some}
use Rattle.std.specs.Option.{option_or}
use Rattle.edge_bits.specs.declared.limits.TheConstants.{MOST_SIGNALS}
use Rattle.job_words.specs.Text.{is_among}
use Rattle.blif_text.specs.Text.{Word}
use Rattle.blif_net.specs.declared.faults.FaultKind.TheVariants as kinds
use Rattle.blif_net.specs.CoverTexts.{front_of, last_of}
use Rattle.blif_net.specs.PlainTexts.{Context, names_fault, signals_in}

pub front_is : (front : List Word) (last : Word) → (front_of (front ++ last ∷ []) ≡ front) × (last_of (front ++ last ∷ []) ≡ last)
front_is front last = (ap (λ n. take n (front ++ last ∷ [])) (omega (arith, length-append front (last ∷ []))) ∙ taken front, lasts front)
  where
    taken : (ws : List Word) → take (length ws) (ws ++ last ∷ []) ≡ ws
    taken [] = refl
    taken (w ∷ ws) = ap (λ t. w ∷ t) (taken ws)

    lasts : (ws : List Word) → last_of (ws ++ last ∷ []) ≡ last
    lasts [] = refl
    lasts (w ∷ []) = refl
    lasts (w ∷ v ∷ ws) = lasts (v ∷ ws)

pub some_names : (c : Context) (front : List Word) (last : Word) → names_fault c (front ++ last ∷ []) ≡ option_or (then_some (is_among (signals_in c) last) kinds.Twice) (then_some (nat_lt MOST_SIGNALS (length (signals_in c) + 1)) kinds.TooMany)
some_names c [] last = refl
some_names c (w ∷ front) last =
    ap (λ t. option_or (then_some (is_among (signals_in c) t) kinds.Twice) (then_some (nat_lt MOST_SIGNALS (length (signals_in c) + 1)) kinds.TooMany)) ((front_is (w ∷ front) last).1)
