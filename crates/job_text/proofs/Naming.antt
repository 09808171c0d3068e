-- What the words of a line name, and which fit those to their left.
use Rattle.std.proofs.Common.{◌≡◌, ℕ, ◌==◌, Bool, true, false, not, cond, List, [], ◌∷◌, ◌++◌, map, Some, None, refl, ap, sym, ◌∙◌, subst, arith, append_assoc}
use Rattle.std.specs.List.{list_any, flat_map}
use Rattle.std.proofs.lemmas.Bool.{and_parts, and_from, or_parts, or_from, not-true, not_from_false}
use Rattle.std.proofs.lemmas.Bool.Decides.{nat_tests}
use Rattle.std.proofs.lemmas.List.{append-nil}
use Rattle.std.proofs.lemmas.List.Folds.{list_any-append}
use Rattle.function_laws.specs.Makings.{are_distinct}
use Rattle.edge_bits.specs.declared.edges.Kind.TheVariants.{Bdd}
use Rattle.job_commands.specs.declared.commands.Place.{Place}
use Rattle.job_text.specs.declared.faults.FaultKind.TheVariants as kinds
use Rattle.job_text.specs.declared.job.Counts.{Counts}
use Rattle.job_text.specs.declared.job.Register.{Register}
use Rattle.job_text.specs.declared.operands.Operand.{Operand}
use Rattle.job_text.specs.declared.operands.Operand.TheVariants as operands
use Rattle.job_commands.specs.declared.operands.Operands.{Operands}
use Rattle.job_words.specs.Text.{Word, bits_in}
use Rattle.job_text.specs.Places.{AllFit, bits_for, kind_fault, misfit, with_operand}
use Rattle.job_text.specs.Faults.{beside_fault, left_after}
use Rattle.job_text.specs.Drafts.{IsOperand, left_by}
use Rattle.job_words.proofs.Bits.{length_bit_word}
use Rattle.job_text.proofs.RegisterLists.{kind_is}

-- a word names what its operand adds
pub left_is : (n : Counts) (rs : List Register) (others : Operands) (slot : Place × Word) (o : Operand) → IsOperand n rs slot o → left_after rs (left_by others) slot ≡ left_by (with_operand rs others o)
left_is n rs others slot operands.Target h =
    subst (λ (p : Place). left_after rs (left_by others) (p, slot.1) ≡ left_by (with_operand rs others operands.Target)) h.0 refl
left_is n rs others slot (operands.Register kind a) h =
    subst (λ (p : Place). left_after rs (left_by others) (p, slot.1) ≡ left_by (with_operand rs others (operands.Register kind a))) h.0 (ap (λ k. record { variables = others.variables; kind = k }) (kind_is rs slot.1 a kind h.1))
left_is n rs others slot (operands.Any a) h =
    subst (λ (p : Place). left_after rs (left_by others) (p, slot.1) ≡ left_by (with_operand rs others (operands.Any a))) h.0 (ap (λ k. record { variables = others.variables; kind = k }) (kind_is rs slot.1 a h.1.0 h.1.1))
left_is n rs others slot (operands.Alike a) h =
    subst (λ (p : Place). left_after rs (left_by others) (p, slot.1) ≡ left_by (with_operand rs others (operands.Alike a))) h.0 (ap (λ k. record { variables = others.variables; kind = k }) (kind_is rs slot.1 a h.1.0 h.1.1))
left_is n rs others slot (operands.Variable v) h =
    subst (λ (p : Place). left_after rs (left_by others) (p, slot.1) ≡ left_by (with_operand rs others (operands.Variable v))) h.0 (ap (λ t. record { variables = others.variables ++ t ∷ []; kind = others.kind }) h.1.0.1)
left_is n rs others slot (operands.NewVariable v) h =
    subst (λ (p : Place). left_after rs (left_by others) (p, slot.1) ≡ left_by (with_operand rs others (operands.NewVariable v))) h.0 (ap (λ t. record { variables = others.variables ++ t ∷ []; kind = others.kind }) h.1.0.1)
left_is n rs others slot (operands.Element e) h =
    subst (λ (p : Place). left_after rs (left_by others) (p, slot.1) ≡ left_by (with_operand rs others (operands.Element e))) h.0 refl
left_is n rs others slot (operands.Level order l) h =
    subst (λ (p : Place). left_after rs (left_by others) (p, slot.1) ≡ left_by (with_operand rs others (operands.Level order l))) h.0 refl
left_is n rs others slot (operands.Cell k) h =
    subst (λ (p : Place). left_after rs (left_by others) (p, slot.1) ≡ left_by (with_operand rs others (operands.Cell k))) h.0 refl
left_is n rs others slot (operands.Value w) h =
    subst (λ (p : Place). left_after rs (left_by others) (p, slot.1) ≡ left_by (with_operand rs others (operands.Value w))) h.0 refl
left_is n rs others slot (operands.Bit b) h =
    subst (λ (p : Place). left_after rs (left_by others) (p, slot.1) ≡ left_by (with_operand rs others (operands.Bit b))) h.0 refl
left_is n rs others slot (operands.Bits bits) h =
    subst (λ (p : Place). left_after rs (left_by others) (p, slot.1) ≡ left_by (with_operand rs others (operands.Bits bits))) h.0 refl
left_is n rs others slot operands.Literals h =
    subst (λ (p : Place). left_after rs (left_by others) (p, slot.1) ≡ left_by (with_operand rs others operands.Literals)) h.0 refl

-- and is at fault beside others where its operand is
pub beside_is : (n : Counts) (rs : List Register) (others : Operands) (slot : Place × Word) (o : Operand) → IsOperand n rs slot o → beside_fault n rs (left_by others) slot ≡ misfit n rs others o
beside_is n rs others slot operands.Target h =
    subst (λ (p : Place). beside_fault n rs (left_by others) (p, slot.1) ≡ misfit n rs others operands.Target) h.0 refl
beside_is n rs others slot (operands.Register kind a) h =
    subst (λ (p : Place). beside_fault n rs (left_by others) (p, slot.1) ≡ misfit n rs others (operands.Register kind a)) h.0 refl
beside_is n rs others slot (operands.Any a) h =
    subst (λ (p : Place). beside_fault n rs (left_by others) (p, slot.1) ≡ misfit n rs others (operands.Any a)) h.0 refl
beside_is n rs others slot (operands.Alike a) h =
    subst (λ (p : Place). beside_fault n rs (left_by others) (p, slot.1) ≡ misfit n rs others (operands.Alike a)) h.0 (ap (kind_fault others.kind) (kind_is rs slot.1 a h.1.0 h.1.1))
beside_is n rs others slot (operands.Variable v) h =
    subst (λ (p : Place). beside_fault n rs (left_by others) (p, slot.1) ≡ misfit n rs others (operands.Variable v)) h.0 refl
beside_is n rs others slot (operands.NewVariable v) h =
    subst (λ (p : Place). beside_fault n rs (left_by others) (p, slot.1) ≡ misfit n rs others (operands.NewVariable v)) h.0 (ap (λ t. cond (list_any (λ u. u == t) others.variables) (Some kinds.Range) None) h.1.0.1)
beside_is n rs others slot (operands.Element e) h =
    subst (λ (p : Place). beside_fault n rs (left_by others) (p, slot.1) ≡ misfit n rs others (operands.Element e)) h.0 refl
beside_is n rs others slot (operands.Level order l) h =
    subst (λ (p : Place). beside_fault n rs (left_by others) (p, slot.1) ≡ misfit n rs others (operands.Level order l)) h.0 refl
beside_is n rs others slot (operands.Cell k) h =
    subst (λ (p : Place). beside_fault n rs (left_by others) (p, slot.1) ≡ misfit n rs others (operands.Cell k)) h.0 refl
beside_is n rs others slot (operands.Value w) h =
    subst (λ (p : Place). beside_fault n rs (left_by others) (p, slot.1) ≡ misfit n rs others (operands.Value w)) h.0 refl
beside_is n rs others slot (operands.Bit b) h =
    subst (λ (p : Place). beside_fault n rs (left_by others) (p, slot.1) ≡ misfit n rs others (operands.Bit b)) h.0 refl
beside_is n rs others slot (operands.Bits bits) h =
    subst (λ (p : Place). beside_fault n rs (left_by others) (p, slot.1) ≡ misfit n rs others (operands.Bits bits)) h.0 (ap (λ k. cond (k == bits_for n others.kind) None (Some kinds.Range)) (ap bits_in h.1 ∙ length_bit_word bits))
beside_is n rs others slot operands.Literals h =
    subst (λ (p : Place). beside_fault n rs (left_by others) (p, slot.1) ≡ misfit n rs others operands.Literals) h.0 refl

-- Numbers that are distinct, where each is tested against those before it
turned : (u v : ℕ) → (u == v) ≡ false → (v == u) ≡ false
turned u v h = grind (arith, nat_tests)

distinct_more : (us : List ℕ) (v : ℕ) → are_distinct us ≡ true → list_any (λ u. u == v) us ≡ false → are_distinct (us ++ v ∷ []) ≡ true
distinct_more [] v h e = refl
distinct_more (u ∷ us) v h e =
    let own = and_parts (not (list_any (λ x. x == u) us)) (are_distinct us) h in
    let other = or_parts (u == v) (list_any (λ x. x == v) us) e in
    let last : list_any (λ x. x == u) (v ∷ []) ≡ false = or_from (v == u) false (turned u v other.0) refl in
    let none = list_any-append (λ x. x == u) us (v ∷ []) ∙ or_from (list_any (λ x. x == u) us) (list_any (λ x. x == u) (v ∷ [])) (not-true (list_any (λ x. x == u) us) own.0) last in
    and_from (not (list_any (λ x. x == u) (us ++ v ∷ []))) (are_distinct (us ++ v ∷ [])) (not_from_false (list_any (λ x. x == u) (us ++ v ∷ [])) none) (distinct_more us v own.1 other.1)

-- a variable, and the register that is put for it
abbrev pub pair_operands : ℕ × ℕ → List Operand
pair_operands pair = operands.NewVariable pair.0 ∷ operands.Register Bdd pair.1 ∷ []

abbrev first_of : ℕ × ℕ → ℕ
first_of pair = pair.0

abbrev with_pair : List Register → Operands → ℕ × ℕ → Operands
with_pair rs others pair = with_operand rs (with_operand rs others (operands.NewVariable pair.0)) (operands.Register Bdd pair.1)

-- a variable that fits is none of the others
fits_new : (b : Bool) → cond b (Some kinds.Range) None ≡ None → b ≡ false
fits_new true h = cc
fits_new false h = refl

-- pairs that name each variable anew have distinct ones
pub pairs_distinct : (n : Counts) (rs : List Register) (others : Operands) (pairs : List (ℕ × ℕ)) → are_distinct others.variables ≡ true → AllFit n rs others (flat_map pair_operands pairs)
    → are_distinct (others.variables ++ map first_of pairs) ≡ true
pairs_distinct n rs others [] d h = ap are_distinct (append-nil others.variables) ∙ d
pairs_distinct n rs others (pair ∷ pairs) d h =
    sym (ap are_distinct (append_assoc others.variables (pair.0 ∷ []) (map first_of pairs)))
    ∙ pairs_distinct n rs (with_pair rs others pair) pairs
    (distinct_more others.variables pair.0 d (fits_new (list_any (λ u. u == pair.0) others.variables) h.0)) h.1.1
