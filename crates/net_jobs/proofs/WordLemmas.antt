-- The words that ask for a job to be played are `play` alone.
use Rattle.std.proofs.Common.{◌≡◌, Bool, true, false, List, ℕ, Option, Some, None, Result, Ok, Err, IfOk, IfSome, if◌then◌else◌, refl}
use Rattle.command_words.specs.declared.order.Order.{Order}
use Rattle.command_words.specs.declared.order.Order.TheVariants.{Play, Build, Load, Gen}
use Rattle.command_words.specs.Orders.{is_play, order_of, table_order}
use Rattle.command_words.proofs.Alone.{HasOptions, of_table}
use Rattle.net_jobs.specs.Ends.{PlaysAlone}

-- what has options is another command
is_other : (o : Option Order) → IfSome o HasOptions → o ≡ Some Play → ⊥
is_other None has is = cc
is_other (Some Play) has is = absurd has
is_other (Some (Build workers limit options)) has is = cc
is_other (Some (Load patterns)) has is = cc
is_other (Some (Gen workers bits)) has is = cc

by_test : (b : Bool) (o : Option Order) → IfSome o HasOptions → (b ≡ true → (if b then Some Play else o) ≡ Some Play) × (b ≡ false → (if b then Some Play else o) ≡ Some Play → ⊥)
by_test true o has = (λ _. refl, λ no _. absurd (apart no))
  where
    apart : true ≡ false → ⊥
    apart e = cc
by_test false o has = (λ no. absurd (apart no), λ _ is. is_other o has is)
  where
    apart : false ≡ true → ⊥
    apart e = cc

pub plays_alone : (words : List (List ℕ)) → PlaysAlone words
unfolding order_of
plays_alone words = by_test (is_play words) (table_order words) (of_table words)

-- what holds of an answer in one form holds of it in another
pub if_ok_as : {X E : Type 0} {P Q : X → Type 0} (r : Result X E) → IfOk r P → ((x : X) → P x → Q x) → IfOk r Q
if_ok_as (Ok x) p step = step x p
if_ok_as (Err e) p step = tt
