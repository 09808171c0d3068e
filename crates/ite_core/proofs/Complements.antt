-- Disjunction by complements of conjunction.
use Rattle.std.proofs.Common.{◌≡◌, ℕ, Bool, true, false, not, ◌&&◌, ◌||◌, Result, Ok, Err, refl, subst}
use Rattle.edge_bits.specs.declared.edges.Edge.{Edge}
use Rattle.edge_bits.specs.declared.edges.Kind.TheVariants.{Bdd}
use Rattle.function_laws.specs.Values.{negation, conjunction, disjunction}
use Rattle.function_laws.proofs.ValueLemmas.{everywhere}
use Rattle.function_laws.specs.Kinds.{BddFunction}
use Rattle.node_store.specs.Edges.{flip_if}
use Rattle.node_store.specs.Views.{View, AreTwo, Is, Denotes, bdd_at}
use Rattle.node_store.specs.ViewLaws.{Denotes-flip, Is-from, values_at-is}
use Rattle.node_store.specs.Operations.{Serves}
use Rattle.node_store.specs.Two.{value_of_two}
use Rattle.node_store.specs.declared.operator.Halt.{Halt}
use Rattle.node_store.proofs.ComplementWork.{IsWork-negation, Adds-negation}

pub Is-flip : (w : View) (f f2 : Edge) → f2 ≡ flip_if true f → Is Bdd w f → Is Bdd w f2
Is-flip w f f2 same d = rw same (Is-from Bdd (Denotes-flip d))

pub AreTwo-flip : (w : View) (f g f2 g2 : Edge) → f2 ≡ flip_if true f → g2 ≡ flip_if true g → AreTwo Bdd w f g → AreTwo Bdd w f2 g2
AreTwo-flip w f g f2 g2 sf sg d = record {
  first = Is-flip w f f2 sf d.first;
  second = Is-flip w g g2 sg d.second;
}

pub flipped-is : (w : View) (e e2 : Edge) → e2 ≡ flip_if true e → Is Bdd w e → bdd_at w e2 ≡ negation (bdd_at w e)
flipped-is w e e2 same d = rw same (values_at-is Bdd (Denotes-flip d))

or_by_and : (a b : Bool) → not (not a && not b) ≡ (a || b)
or_by_and true true = refl
or_by_and true false = refl
or_by_and false true = refl
or_by_and false false = refl

pub conjunction-flip : (w : View) (f g f2 g2 : Edge) → f2 ≡ flip_if true f → g2 ≡ flip_if true g → AreTwo Bdd w f g
    → negation (conjunction (bdd_at w f2) (bdd_at w g2)) ≡ disjunction (bdd_at w f) (bdd_at w g)
conjunction-flip w f g f2 g2 sf sg d =
    rw (flipped-is w f f2 sf d.first, flipped-is w g g2 sg d.second)
    (everywhere (negation (conjunction (negation (bdd_at w f)) (negation (bdd_at w g)))) (disjunction (bdd_at w f) (bdd_at w g)) (λ k. or_by_and (bdd_at w f k) (bdd_at w g k)))

-- the outcome with its answer complemented
abbrev pub flipped_outcome : Result Edge Halt → Result Edge Halt
flipped_outcome (Ok e) = Ok (flip_if true e)
flipped_outcome (Err halt) = Err halt

pub Serves-negation : {S K : Type 0} (v w : View) (p q : ℕ → Bool) → negation p ≡ q → (r : Result Edge Halt)
    → Serves (λ e. Denotes Bdd w e p) ⊥ (λ f. f ≡ BddFunction p) S K v w r → Serves (λ e. Denotes Bdd w e q) ⊥ (λ f. f ≡ BddFunction q) S K v w (flipped_outcome r)
Serves-negation {S} {K} v w p q same r s = subst (λ x. Serves (λ e. Denotes Bdd w e x) ⊥ (λ f. f ≡ BddFunction x) S K v w (flipped_outcome r)) same (by_outcome r s)
  where
    never : {e : Edge} {halt : Halt} → Ok e ≡ Err halt → ⊥
    never is = cc

    by_outcome : (r : Result Edge Halt) → Serves (λ e. Denotes Bdd w e p) ⊥ (λ f. f ≡ BddFunction p) S K v w r → Serves (λ e. Denotes Bdd w e (negation p)) ⊥ (λ f. f ≡ BddFunction (negation p)) S K v w (flipped_outcome r)
    by_outcome (Ok e) s = record {
      grown = s.grown;
      room = s.room;
      answer = Denotes-flip s.answer;
      overflow = λ is. never is;
      work = Adds-negation v w p s.work;
      memory = λ is. absurd (never is);
      full = λ is. absurd (never is);
      due = λ is. absurd (never is);
    }
    by_outcome (Err halt) s = record {
      grown = s.grown;
      room = s.room;
      answer = tt;
      overflow = s.overflow;
      work = Adds-negation v w p s.work;
      memory = s.memory;
      full = s.full;
      due = λ is. IsWork-negation w p w.due (s.due is);
    }

-- a disjunction's outcome from that of the complements' conjunction
pub Serves-or : {S K : Type 0} (v w : View) (f g f2 g2 : Edge) → f2 ≡ flip_if true f → g2 ≡ flip_if true g → AreTwo Bdd v f g → (r : Result Edge Halt)
    → Serves (λ e. Denotes Bdd w e (conjunction (bdd_at v f2) (bdd_at v g2))) ⊥ (value_of_two Bdd (λ a b. a && b) f2 g2 v) S K v w r
    → Serves (λ e. Denotes Bdd w e (disjunction (bdd_at v f) (bdd_at v g))) ⊥ (value_of_two Bdd (λ a b. a || b) f g v) S K v w (flipped_outcome r)
Serves-or v w f g f2 g2 sf sg d r s = Serves-negation v w (conjunction (bdd_at v f2) (bdd_at v g2)) (disjunction (bdd_at v f) (bdd_at v g)) (conjunction-flip v f g f2 g2 sf sg d) r s
