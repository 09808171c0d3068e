-- The laws of the three kinds, in one form.
use Rattle.std.proofs.Common.{◌≡◌, ◌≢◌, ℕ, Bool, true, false, cond, Option, Some, None, refl, sym, ap, ◌∙◌}
use Rattle.std.proofs.lemmas.Bool.{cond_both}
use Rattle.edge_bits.specs.declared.edges.Kind.{Kind}
use Rattle.edge_bits.specs.declared.edges.Kind.TheVariants.{Bdd, Add, Zdd}
use Rattle.edge_bits.specs.Assignments.{bit, set_bit}
use Rattle.edge_bits.specs.Reading.{element_of}
use Rattle.edge_bits.proofs.AssignmentLemmas.{bit-set_other}
use Rattle.function_laws.specs.Numbers.{is_value}
use Rattle.function_laws.specs.Families.{empty, joined, IsWithout}
use Rattle.function_laws.proofs.ValueLemmas.{everywhere, cofactor-choice_true, cofactor-choice_false, cofactor-free, IsFree-choice_other, IsFree-place, choice-same, place_two}
use Rattle.function_laws.proofs.FamilyLemmas.{subset1-joined, subset0-joined, place_joined}
use Rattle.function_laws.specs.Kinds.{Denoted, ValueOf, function_of, values_of, joined_at, Lacks, part_at, absent_part, Fits, KeepsAbsent, place, flipped}

pub values_of-function : (k : Kind) (f : ℕ → ValueOf k) → values_of k (Some (function_of k f)) ≡ f
values_of-function Bdd f = refl
values_of-function Add f = refl
values_of-function Zdd f = refl

-- another variable, or element
abbrev pub Apart : Kind → ℕ → ℕ → Type 0
Apart Bdd u v = u ≢ v
Apart Add u v = u ≢ v
Apart Zdd u v = element_of u ≢ element_of v

pub joined-place : (k : Kind) (op : ValueOf k → ValueOf k → ValueOf k) (v : ℕ) (f g f' g' : ℕ → ValueOf k)
    → place op (joined_at k v f g) (joined_at k v f' g') ≡ joined_at k v (place op f f') (place op g g')
joined-place Bdd op v f g f' g' = place_two op f g f' g' v
joined-place Add op v f g f' g' = place_two op f g f' g' v
joined-place Zdd op v f g f' g' = place_joined op f g f' g' (element_of v)

pub Lacks-place : (k : Kind) (op : ValueOf k → ValueOf k → ValueOf k) → KeepsAbsent k op → (v : ℕ) (f g : ℕ → ValueOf k)
    → Lacks k f v → Lacks k g v → Lacks k (place op f g) v
Lacks-place Bdd op keeps v f g p q = IsFree-place op f g v p q
Lacks-place Add op keeps v f g p q = IsFree-place op f g v p q
Lacks-place Zdd op keeps v f g p q = λ a has. ap (λ x. op x (g a)) (p a has) ∙ ap (op false) (q a has) ∙ keeps

IsWithout-joined : (p q : ℕ → Bool) (e u : ℕ) → u ≢ e → IsWithout p u → IsWithout q u → IsWithout (joined e p q) u
IsWithout-joined p q e u apart hp hq = λ a has.
    cond_both (bit a e) (p (set_bit a e false)) (q a) (λ x. x ≡ false)
    (λ _. hp (set_bit a e false) (bit-set_other a e u false apart ∙ has)) (λ _. hq a has)

pub Lacks-joined : (k : Kind) (u v : ℕ) (f g : ℕ → ValueOf k) → Apart k u v → Lacks k f u → Lacks k g u → Lacks k (joined_at k v f g) u
Lacks-joined Bdd u v f g apart p q = IsFree-choice_other f g v u (λ e. apart (sym e)) p q
Lacks-joined Add u v f g apart p q = IsFree-choice_other f g v u (λ e. apart (sym e)) p q
Lacks-joined Zdd u v f g apart p q = IsWithout-joined f g (element_of v) (element_of u) apart p q

pub part-joined : (k : Kind) (v : ℕ) (f g : ℕ → ValueOf k) (b : Bool) → Lacks k f v → Lacks k g v → part_at k (joined_at k v f g) v b ≡ cond b f g
part-joined Bdd v f g true p q = cofactor-choice_true f g v ∙ cofactor-free f v true p
part-joined Bdd v f g false p q = cofactor-choice_false f g v ∙ cofactor-free g v false q
part-joined Add v f g true p q = cofactor-choice_true f g v ∙ cofactor-free f v true p
part-joined Add v f g false p q = cofactor-choice_false f g v ∙ cofactor-free g v false q
part-joined Zdd v f g true p q = subset1-joined f g (element_of v) p
part-joined Zdd v f g false p q = subset0-joined f g (element_of v) q

joined-empty : (p : ℕ → Bool) (e : ℕ) → IsWithout p e → joined e empty p ≡ p
joined-empty p e h = everywhere (joined e empty p) p (λ a. cond_both (bit a e) false (p a) (λ x. x ≡ p a) (λ has. sym (h a has)) (λ _. refl))

-- a function that lacks the variable is joined of its absent part and itself
pub joined-absent : (k : Kind) (v : ℕ) (f : ℕ → ValueOf k) → Lacks k f v → joined_at k v (absent_part k f) f ≡ f
joined-absent Bdd v f h = choice-same f v
joined-absent Add v f h = choice-same f v
joined-absent Zdd v f h = joined-empty f (element_of v) h

pub Lacks-absent : (k : Kind) (u : ℕ) (f : ℕ → ValueOf k) → Lacks k f u → Lacks k (absent_part k f) u
Lacks-absent Bdd u f h = h
Lacks-absent Add u f h = h
Lacks-absent Zdd u f h = λ a has. refl

-- values in range
pub Fits-joined : (k : Kind) (v : ℕ) (f g : ℕ → ValueOf k) → Fits k f → Fits k g → Fits k (joined_at k v f g)
Fits-joined Bdd v f g p q = tt
Fits-joined Add v f g p q = λ x. cond_both (bit x v) (f x) (g x) (λ y. is_value y ≡ true) (λ _. p x) (λ _. q x)
Fits-joined Zdd v f g p q = tt

pub flipped-function : (k : Kind) (b : Bool) (o p : Option Denoted) (f : ℕ → ValueOf k) → flipped b o ≡ Some (function_of k f)
    → ((g : Denoted) → o ≡ Some g → p ≡ Some g) → flipped b p ≡ Some (function_of k f)
flipped-function k true None p f h keeps = cc
flipped-function k false None p f h keeps = cc
flipped-function k b (Some g) p f h keeps = rw (keeps g refl) h

-- what denotes something through an edge denotes something
pub flipped-some : (b : Bool) (o : Option Denoted) (f : Denoted) → flipped b o ≡ Some f → (g : Denoted) × (o ≡ Some g)
flipped-some true None f h = cc
flipped-some false None f h = cc
flipped-some b (Some g) f h = (g, refl)
