-- Parts of functions by a variable, whatever their kind.
use Rattle.std.proofs.Common.{◌≡◌, ℕ, Bool, true, false, cond, refl, sym, ap, ◌∙◌, subst}
use Rattle.edge_bits.specs.Reading.{element_of}
use Rattle.edge_bits.specs.declared.edges.Kind.{Kind}
use Rattle.edge_bits.specs.declared.edges.Kind.TheVariants.{Bdd, Add, Zdd}
use Rattle.function_laws.proofs.ValueLemmas.{choice-cofactors}
use Rattle.function_laws.proofs.FamilyLemmas.{joined-subsets}
use Rattle.function_laws.proofs.LackingParts.{Free, own, Free-Lacks, Lacks-Free, Free-part, Free-more, part-function}
use Rattle.function_laws.specs.Kinds.{ValueOf, function_of, joined_at, Lacks, part_at, absent_part}
use Rattle.node_store.specs.KindLaws.{Apart, part-joined, Lacks-joined, joined-absent}
use Rattle.node_store.specs.Views.{IsProper}
use Rattle.level_swap.proofs.Exchanging.{joined-exchanged}

pub Lacks-part : (k : Kind) (f : ℕ → ValueOf k) (u v : ℕ) (b : Bool) → Lacks k f u → Lacks k (part_at k f v b) u
Lacks-part k f u v b h =
    Lacks-Free k (part_at k f v b) u (subst (λ g. Free g (own k u)) (part-function k f v b) (Free-more (function_of k f) (own k u) (own k v) b (Free-Lacks k f u h)))

pub Lacks-own_part : (k : Kind) (f : ℕ → ValueOf k) (v : ℕ) (b : Bool) → Lacks k (part_at k f v b) v
Lacks-own_part k f v b =
    Lacks-Free k (part_at k f v b) v (subst (λ g. Free g (own k v)) (part-function k f v b) (Free-part (function_of k f) (own k v) b))

-- a function is joined of its parts
pub joined-parts : (k : Kind) (f : ℕ → ValueOf k) (v : ℕ) → joined_at k v (part_at k f v true) (part_at k f v false) ≡ f
joined-parts Bdd f v = choice-cofactors f v
joined-parts Add f v = choice-cofactors f v
joined-parts Zdd f v = joined-subsets f (element_of v)

-- a function whose then part is absent lacks the variable
absent_then : (k : Kind) (f : ℕ → ValueOf k) (v : ℕ) → part_at k f v true ≡ absent_part k (part_at k f v false) → Lacks k f v
absent_then k f v e =
    let low = part_at k f v false in
    let lacks = Lacks-own_part k f v false in
    let same : low ≡ f = sym (joined-absent k v low lacks) ∙ ap (λ h. joined_at k v h low) (sym e) ∙ joined-parts k f v in
    subst (λ g. Lacks k g v) same lacks

-- the parts of a function that depends on the variable make a node
pub parts-proper : (k : Kind) (f : ℕ → ValueOf k) (v : ℕ) → (Lacks k f v → ⊥) → IsProper k (part_at k f v true) (part_at k f v false)
parts-proper Bdd f v depends = λ e. depends (absent_then Bdd f v e)
parts-proper Add f v depends = λ e. depends (absent_then Add f v e)
parts-proper Zdd f v depends = λ e. depends (absent_then Zdd f v e)

either : {X : Type 0} (x : Bool → X) (b : Bool) → cond b (x true) (x false) ≡ x b
either x true = refl
either x false = refl

-- the part of what is joined at another variable is joined of the parts
pub part-exchanged : (k : Kind) (u v : ℕ) (high low : ℕ → ValueOf k) (b : Bool) → Apart k u v → Apart k v u
    → part_at k (joined_at k u high low) v b ≡ joined_at k u (part_at k high v b) (part_at k low v b)
part-exchanged k u v high low b uv vu =
    let lacks : (c : Bool) → Lacks k (joined_at k u (part_at k high v c) (part_at k low v c)) v =
    λ c. Lacks-joined k v u (part_at k high v c) (part_at k low v c) vu (Lacks-own_part k high v c) (Lacks-own_part k low v c) in
    ap (λ h. part_at k (joined_at k u h low) v b) (sym (joined-parts k high v))
    ∙ ap (λ h. part_at k (joined_at k u (joined_at k v (part_at k high v true) (part_at k high v false)) h) v b) (sym (joined-parts k low v))
    ∙ ap (λ h. part_at k h v b) (joined-exchanged k u v (part_at k high v true) (part_at k high v false) (part_at k low v true) (part_at k low v false) uv)
    ∙ part-joined k v (joined_at k u (part_at k high v true) (part_at k low v true)) (joined_at k u (part_at k high v false) (part_at k low v false)) b (lacks true) (lacks false)
    ∙ either (λ c. joined_at k u (part_at k high v c) (part_at k low v c)) b

-- the parts of what is joined at the variable itself
pub then-joined : (k : Kind) (u : ℕ) (high low : ℕ → ValueOf k) → Lacks k high u → Lacks k low u → part_at k (joined_at k u high low) u true ≡ high
then-joined k u high low h l = part-joined k u high low true h l

pub else-joined : (k : Kind) (u : ℕ) (high low : ℕ → ValueOf k) → Lacks k high u → Lacks k low u → part_at k (joined_at k u high low) u false ≡ low
else-joined k u high low h l = part-joined k u high low false h l
