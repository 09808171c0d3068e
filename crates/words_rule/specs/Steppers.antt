-- A seat with an operation share, as a store that only grows sees it.
use Rattle.std.specs.Prelude.{◌≡◌, ℕ, ◌<◌, ◌++◌, ◌∷◌, [], Bool, true, false, List, Option, Some, None, option_map}
use Rattle.edge_bits.specs.declared.edges.Kind.{Kind}
use Rattle.edge_bits.specs.declared.edges.Kind.TheVariants.{Bdd, Add, Zdd}
use Rattle.function_laws.specs.Kinds.{Denoted, BddFunction, AddFunction, ZddFamily, function_of}
use Rattle.function_laws.specs.Values.{constant}
use Rattle.node_slots.specs.Stores.{lent_room}
use Rattle.node_store.specs.Views as views
use Rattle.node_store.specs.Views.{function_at, node_values}
use Rattle.step_store.specs.declared.hand.Taken.{Taken}
use Rattle.step_store.specs.declared.job.Job.{Job}
use Rattle.step_store.specs.declared.job.Job.TheVariants as jobs
use Rattle.step_store.specs.Chains.{Lists}
use Rattle.step_store.specs.Knowing.{Knowledge, IsChain, Stands, Walk, turns}
use Rattle.words_rule.specs.declared.seat.Guard.{Guard}
use Rattle.words_rule.specs.declared.seat.Pass.{Pass}
use Rattle.words_rule.specs.declared.stepper.Stepper.{Stepper}
use Rattle.words_rule.specs.declared.view.Besides.{Besides}
use Rattle.words_rule.specs.declared.view.Share.TheVariants.{Held}
use Rattle.words_rule.specs.declared.view.View.{View}
use Rattle.words_rule.specs.Known.{known_of, own_of}
use Rattle.words_rule.specs.Loads.{TakenReads}
use Rattle.words_rule.specs.Passes.{view, in_hand, IsLiveOf}
use Rattle.words_rule.specs.Phase.{no_shares}
use Rattle.words_rule.specs.Remembered.{AreAnswers}
use Rattle.words_rule.specs.Views.{blank}
use Rattle.free_list.specs.FreeSlots.{FreeSlots, slots_in}

-- what it knows, with room for so many levels in the scratch beside it
abbrev pub knows : View → ℕ → Knowledge
knows v room = known_of v (own_of v room)

abbrev pub no_besides : Besides
no_besides = record {
  words = 0;
  slots = 0;
  views_name = 0;
  atom = 0;
  block = 0;
  offset = 0;
  slot_names = [];
  draws = blank;
  shares = no_shares;
  counts = record { raised = []; owed = []; pins = []; zeros = []; above = []; generations = [] };
}

-- what it has in hand is of the table
pub record LiesWithin (k : Knowledge) : Type 0 where
  pub turn : (l : ℕ) → Lists k.hand.levels l → l < turns k.view
  pub taken : (t : Taken) → k.hand.taken ≡ Some t → t.slot < k.view.slots
  pub loose : (s : ℕ) → k.hand.loose ≡ Some s → s < k.view.slots
  pub walk : (n : Walk) → k.hand.walk ≡ Some n → IsChain k.view.slots n.rest

abbrev pub is_there : {S : Type 0} → Option S → Bool
is_there None = false
is_there (Some x) = true

-- the slot that it has out, where it has its content
abbrev pub out_of : {S : Type 0} → ℕ → Option S → List (ℕ × Option S)
out_of k None = []
out_of k (Some x) = (k, None) ∷ []

-- the function that a job would have stored
abbrev pub kind_at : Option Denoted → Kind
kind_at (Some (BddFunction f)) = Bdd
kind_at (Some (AddFunction f)) = Add
kind_at (Some (ZddFamily p)) = Zdd
kind_at None = Bdd

abbrev pub due_at : views.View → Job → Denoted
due_at w (jobs.Node v hi lo) = function_of (kind_at (function_at w hi)) (node_values (kind_at (function_at w hi)) w v hi lo)
due_at w (jobs.Leaf x) = function_of Add (constant x)

module _ {S : Type 0} (free_slots : S → FreeSlots) (memo : S → List ℕ) where
  -- an operation share, with the free list and the computed table where it has them in hand
  pub record IsOperating (g : Guard S) (p : Pass S) (list table : Option S) (room : ℕ) : Type 0 where
    pub own : IsLiveOf g p
    pub share : (view p).shares.op ≡ Held
    pub stands : Stands (knows (view p) room)
    pub within : LiesWithin (knows (view p) room)
    pub reads : TakenReads (view p)
    pub list_is : (view p).hand.free ≡ option_map (slots_in free_slots) list
    pub roomy : (x : S) → list ≡ Some x → (free_slots x).room ≡ (view p).draws.slots
    pub table_is : (view p).hand.memo ≡ is_there table
    pub answers : (x : S) → table ≡ Some x → AreAnswers (knows (view p) room).view (memo x)
    pub out : in_hand p ≡ out_of 1 list ++ out_of 2 table

  abbrev pub IsStepper : Stepper S → Type 0
  IsStepper s = IsOperating s.guard.now s.pass s.free s.memo (lent_room s.scratch)

  abbrev pub stepper_stands : (s : Stepper S) → IsStepper s → Stands (knows (view s.pass) (lent_room s.scratch))
  stepper_stands s is = is.stands
