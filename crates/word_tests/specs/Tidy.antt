-- A seat that has put down all that it had.
use Rattle.std.specs.Prelude.{◌≡◌, []}
use Rattle.words_rule.specs.declared.seat.Guard.{Guard}
use Rattle.words_rule.specs.declared.seat.Pass.{Pass}
use Rattle.words_rule.specs.Passes.{in_hand, view}
use Rattle.words_rule.specs.Tokens.{IsFreeOf}
use Rattle.words_rule.specs.Endings.{IsSettled}

module _ {S : Type 0} where
  pub record IsTidy (g : Guard S) (p : Pass S) : Type 0 where
    pub free : IsFreeOf g p
    pub settled : IsSettled (view p)
    pub pins : (view p).counts.pins ≡ []
    pub out : in_hand p ≡ []
