-- Tasks of one function whose values, one by one, become those of another kind. Both kinds depend on variables.
use Rattle.std.specs.Prelude.{◌≡◌, ℕ, ◌-◌}
use Rattle.edge_bits.specs.declared.edges.Edge.{Edge}
use Rattle.edge_bits.specs.declared.edges.Kind.{Kind}
use Rattle.computed_cache.specs.declared.Key.{Key}
use Rattle.function_laws.specs.Kinds.{Denoted, ValueOf, function_of}
use Rattle.node_store.specs.Memo.{MemoHolds}
use Rattle.node_store.specs.Views.{View, Denotes, Is, IsKey, IsVariable, Permanent, Splits, levels, values_at}
use Rattle.node_store.specs.Work.{IsPart}
use Rattle.node_store.specs.declared.operator.Task.{Task}

-- the operation at each place
abbrev pub converted : {X Y : Type 0} → (X → Y) → (ℕ → X) → ℕ → Y
converted op f x = op (f x)

abbrev pub converted_at : (j k : Kind) → (ValueOf j → ValueOf k) → View → Edge → ℕ → ValueOf k
converted_at j k op w f = converted op (values_at j w f)

-- the work of a call is its value
abbrev pub value_of_one : (j k : Kind) → (ValueOf j → ValueOf k) → Edge → View → Denoted → Type 0
value_of_one j k op f w F = F ≡ function_of k (converted_at j k op w f)

-- a task of the call with this function
pub record OneDue (j k : Kind) (op : ValueOf j → ValueOf k) (f : Edge) (w : View) (t : Task) : Type 0 where
  pub permanent : Permanent w
  pub root : Is j w f
  pub edge : Is j w t.f
  pub part : IsPart k w (converted_at j k op w f) (converted_at j k op w t.f)

abbrev pub OneAnswers : (j k : Kind) → (ValueOf j → ValueOf k) → View → Task → Edge → Type 0
OneAnswers j k op w t e = Denotes k w e (converted_at j k op w t.f)

pub record OneSplits (j : Kind) (w : View) (t : Task) (v : ℕ) (hi lo : Task) : Type 0 where
  pub in_range : IsVariable j w v
  pub splits : Splits j w v (values_at j w t.f) hi.f lo.f

abbrev pub one_depth : Kind → View → Task → ℕ
one_depth j w t = levels j w - w.top t.f.index

-- what the store may keep under the key is the answer for the function
pub record IsKeyOf (j k : Kind) (op : ValueOf j → ValueOf k) (f : Edge) (key : Key) : Type 0 where
  pub is_key : (w : View) → Is j w f → IsKey w key
  pub memo : (w : View) (e : Edge) → Is j w f → Denotes k w e (converted_at j k op w f) → MemoHolds w key e
  pub hit : (w : View) (e : Edge) → MemoHolds w key e → Denotes k w e (converted_at j k op w f)
