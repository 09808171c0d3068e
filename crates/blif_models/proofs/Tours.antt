-- A walk over models goes into each once.
use Rattle.std.proofs.Common.{◌≡◌, ℕ, zero, suc, ◌+◌, ◌<◌, Bool, true, false, List, [], ◌∷◌, ◌++◌, length, replicate, set, get_or, sym, arith}
use Rattle.std.specs.Prelude.{All}
use Rattle.std.proofs.lemmas.Bool.{false≢true}
use Rattle.std.proofs.lemmas.List.Elements.{All-append, All-cons, All-head, All-nil, All-push, All-set, All-tail}
use Rattle.blif_models.specs.declared.tour.Turn.{Turn}
use Rattle.blif_models.specs.declared.tour.Turn.TheVariants as turns
use Rattle.blif_models.specs.Graphs.{AreWithin, is_met}
use Rattle.blif_models.specs.Ranks.{TurnIs, into_each, weight_left}

-- one more is noted in one of the lists
pub one_noted : (count i m : ℕ) (lists : List (List ℕ)) → i < length lists → m < count → AreWithin count lists → AreWithin count (set lists i (get_or lists i [] ++ m ∷ []))
one_noted count i m lists lt small within = All-set (λ (held : List ℕ). All (λ k. k < count) held) lists i (get_or lists i [] ++ m ∷ []) (All-push (λ k. k < count) (get_or lists i []) m (within i [] lt) small) within

pub none_noted : (count n : ℕ) → AreWithin count (replicate n [])
none_noted count zero = All-nil (λ (held : List ℕ). All (λ k. k < count) held)
none_noted count (suc n) = All-cons (λ (held : List ℕ). All (λ k. k < count) held) [] (replicate n []) (All-nil (λ k. k < count)) (none_noted count n)

-- a model that is gone into takes its turns
pub weight_less : (next : List (List ℕ)) (met : List Bool) (m : ℕ) → m < length next → length met ≡ length next → is_met met m ≡ false → weight_left next (set met m true) + (length (get_or next m []) + 1) ≡ weight_left next met
weight_less [] met m lt many new = absurd (omega (arith, lt))
weight_less (models ∷ next) [] m lt many new = absurd (omega (arith, many))
weight_less (models ∷ next) (true ∷ met) zero lt many new = absurd (false≢true (sym new))
weight_less (models ∷ next) (false ∷ met) zero lt many new = omega arith
weight_less (models ∷ next) (was ∷ met) (suc m) lt many new = omega (arith, weight_less next met m (omega (arith, lt)) (omega (arith, many)) new)

pub turns_within : (count : ℕ) (models : List ℕ) → All (λ m. m < count) models → All (TurnIs count) (into_each models)
turns_within count [] h = All-nil (TurnIs count)
turns_within count (m ∷ models) h = All-cons (TurnIs count) (turns.Into m) (into_each models) (All-head (λ k. k < count) m models h) (turns_within count models (All-tail (λ k. k < count) m models h))

pub more_to_come : (count m : ℕ) (to_come : List Turn) (models : List ℕ) → m < count → All (λ k. k < count) models → All (TurnIs count) to_come → All (TurnIs count) ((to_come ++ turns.Leave m ∷ []) ++ into_each models)
more_to_come count m to_come models lt held before = All-append (TurnIs count) (to_come ++ turns.Leave m ∷ []) (into_each models) (All-push (TurnIs count) to_come (turns.Leave m) before lt) (turns_within count models held)
