-- What answers a making is of its kind, and still answers it where slots are counted otherwise.
use Rattle.std.proofs.Common.{ℕ, List, sym, subst}
use Rattle.edge_bits.specs.declared.edges.Edge.{Edge}
use Rattle.edge_bits.specs.declared.edges.Kind.TheVariants as kinds
use Rattle.function_laws.specs.declared.making.Making.{Making}
use Rattle.function_laws.specs.declared.making.Making.TheVariants as makings
use Rattle.function_laws.specs.declared.making.BddMaking.TheVariants as bdds
use Rattle.function_laws.specs.declared.making.AddMaking.TheVariants as adds
use Rattle.function_laws.specs.declared.making.ZddMaking.TheVariants as zdds
use Rattle.function_laws.specs.Makings.{kind_made}
use Rattle.node_store.specs.ViewLaws.{Is-from}
use Rattle.node_store.specs.Views.{View, Is}
use Rattle.operator_calls.specs.Making.{answer}
use Rattle.store_upkeep.proofs.Lasting.{Denotes-counted}
use Rattle.store_rows.specs.RowStores.{differs_in_counts}

answered : (making : Making Edge (List ℕ) (List (ℕ × Edge))) (v w : View) (e : Edge) → answer making v w e
    → Is (kind_made making) w e × ((c : ℕ → ℕ) → answer making v (record w { count = c }) e)
answered (makings.Bdd bdds.One) v w e is = (Is-from kinds.Bdd is, λ c. Denotes-counted kinds.Bdd w c e _ is)
answered (makings.Bdd bdds.Zero) v w e is = (Is-from kinds.Bdd is, λ c. Denotes-counted kinds.Bdd w c e _ is)
answered (makings.Bdd (bdds.Var x)) v w e is = (Is-from kinds.Bdd is, λ c. Denotes-counted kinds.Bdd w c e _ is)
answered (makings.Bdd (bdds.Not a)) v w e is = (Is-from kinds.Bdd is, λ c. Denotes-counted kinds.Bdd w c e _ is)
answered (makings.Bdd (bdds.And a b)) v w e is = (Is-from kinds.Bdd is, λ c. Denotes-counted kinds.Bdd w c e _ is)
answered (makings.Bdd (bdds.Or a b)) v w e is = (Is-from kinds.Bdd is, λ c. Denotes-counted kinds.Bdd w c e _ is)
answered (makings.Bdd (bdds.Xor a b)) v w e is = (Is-from kinds.Bdd is, λ c. Denotes-counted kinds.Bdd w c e _ is)
answered (makings.Bdd (bdds.Ite a b c)) v w e is = (Is-from kinds.Bdd is, λ c. Denotes-counted kinds.Bdd w c e _ is)
answered (makings.Bdd (bdds.Cofactor a x bit)) v w e is = (Is-from kinds.Bdd is, λ c. Denotes-counted kinds.Bdd w c e _ is)
answered (makings.Bdd (bdds.Exists a vs)) v w e is = (Is-from kinds.Bdd is, λ c. Denotes-counted kinds.Bdd w c e _ is)
answered (makings.Bdd (bdds.Forall a vs)) v w e is = (Is-from kinds.Bdd is, λ c. Denotes-counted kinds.Bdd w c e _ is)
answered (makings.Bdd (bdds.AndExists a b vs)) v w e is = (Is-from kinds.Bdd is, λ c. Denotes-counted kinds.Bdd w c e _ is)
answered (makings.Bdd (bdds.Compose a x b)) v w e is = (Is-from kinds.Bdd is, λ c. Denotes-counted kinds.Bdd w c e _ is)
answered (makings.Bdd (bdds.VectorCompose a ps)) v w e is = (Is-from kinds.Bdd is, λ c. Denotes-counted kinds.Bdd w c e _ is)
answered (makings.Bdd (bdds.Restrict a b)) v w e is = (is.answer, λ c. record { answer = Denotes-counted kinds.Bdd w c e _ is.answer; restricts = is.restricts; restriction = is.restriction })
answered (makings.Bdd (bdds.Support a)) v w e is = (Is-from kinds.Bdd is, λ c. Denotes-counted kinds.Bdd w c e _ is)
answered (makings.Bdd (bdds.AtLeast a z)) v w e is = (Is-from kinds.Bdd is, λ c. Denotes-counted kinds.Bdd w c e _ is)
answered (makings.Bdd (bdds.Pattern a)) v w e is = (Is-from kinds.Bdd is, λ c. Denotes-counted kinds.Bdd w c e _ is)
answered (makings.Bdd (bdds.CoverOf a)) v w e is = (Is-from kinds.Bdd is, λ c. Denotes-counted kinds.Bdd w c e _ is)
answered (makings.Add (adds.Constant z)) v w e is = (Is-from kinds.Add is, λ c. Denotes-counted kinds.Add w c e _ is)
answered (makings.Add (adds.FromBdd a)) v w e is = (Is-from kinds.Add is, λ c. Denotes-counted kinds.Add w c e _ is)
answered (makings.Add (adds.Min a b)) v w e is = (Is-from kinds.Add is, λ c. Denotes-counted kinds.Add w c e _ is)
answered (makings.Add (adds.Max a b)) v w e is = (Is-from kinds.Add is, λ c. Denotes-counted kinds.Add w c e _ is)
answered (makings.Add (adds.Threshold a b)) v w e is = (Is-from kinds.Add is, λ c. Denotes-counted kinds.Add w c e _ is)
answered (makings.Add (adds.AddIte a b c)) v w e is = (Is-from kinds.Add is, λ c. Denotes-counted kinds.Add w c e _ is)
answered (makings.Exact making) v w e is = (Is-from kinds.Add is, λ c. Denotes-counted kinds.Add w c e _ is)
answered (makings.Zdd zdds.Empty) v w e is = (Is-from kinds.Zdd is, λ c. Denotes-counted kinds.Zdd w c e _ is)
answered (makings.Zdd zdds.Base) v w e is = (Is-from kinds.Zdd is, λ c. Denotes-counted kinds.Zdd w c e _ is)
answered (makings.Zdd (zdds.Single m)) v w e is = (Is-from kinds.Zdd is, λ c. Denotes-counted kinds.Zdd w c e _ is)
answered (makings.Zdd (zdds.Union a b)) v w e is = (Is-from kinds.Zdd is, λ c. Denotes-counted kinds.Zdd w c e _ is)
answered (makings.Zdd (zdds.Meet a b)) v w e is = (Is-from kinds.Zdd is, λ c. Denotes-counted kinds.Zdd w c e _ is)
answered (makings.Zdd (zdds.Diff a b)) v w e is = (Is-from kinds.Zdd is, λ c. Denotes-counted kinds.Zdd w c e _ is)
answered (makings.Zdd (zdds.Subset1 a m)) v w e is = (Is-from kinds.Zdd is, λ c. Denotes-counted kinds.Zdd w c e _ is)
answered (makings.Zdd (zdds.Subset0 a m)) v w e is = (Is-from kinds.Zdd is, λ c. Denotes-counted kinds.Zdd w c e _ is)
answered (makings.Zdd (zdds.Change a m)) v w e is = (Is-from kinds.Zdd is, λ c. Denotes-counted kinds.Zdd w c e _ is)
answered (makings.Zdd (zdds.Product a b)) v w e is = (Is-from kinds.Zdd is, λ c. Denotes-counted kinds.Zdd w c e _ is)
answered (makings.Zdd (zdds.Quotient a b)) v w e is = (Is-from kinds.Zdd is, λ c. Denotes-counted kinds.Zdd w c e _ is)
answered (makings.Zdd (zdds.Isop a b)) v w e is = (is.is, λ c. record { is = Denotes-counted kinds.Zdd w c e _ is.is; irredundant = is.irredundant })

pub answer-is : (making : Making Edge (List ℕ) (List (ℕ × Edge))) (v w : View) (e : Edge) → answer making v w e → Is (kind_made making) w e
answer-is making v w e is = (answered making v w e is).0

pub answer-counted : (making : Making Edge (List ℕ) (List (ℕ × Edge))) (v w x : View) (e : Edge) → differs_in_counts w x → answer making v w e → answer making v x e
answer-counted making v w x e same is = subst (λ (y : View). answer making v y e) (sym same) ((answered making v w e is).1 x.count)
