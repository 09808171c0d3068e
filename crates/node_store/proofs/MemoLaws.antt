-- What a computed table holds stays right as long as the slots that its key and its answer name denote what they did.
use Rattle.std.proofs.Common.{◌≡◌, ℕ, Bool, true, false, Some, List, [], ◌∷◌, ap, sym, subst, ◌∙◌, ◌==◌}
use Rattle.std.specs.Prelude.{◌^◌, nat_lt}
use Rattle.edge_bits.specs.declared.edges.Edge.{Edge}
use Rattle.computed_cache.specs.declared.Key.{Key}
use Rattle.edge_bits.specs.declared.edges.Kind.{Kind}
use Rattle.edge_bits.specs.declared.edges.Kind.TheVariants.{Bdd, Add, Zdd}
use Rattle.function_laws.specs.Families.{product, quotient}
use Rattle.function_laws.specs.IrredundantCovers.{cover_value}
use Rattle.function_laws.specs.Kinds.{Denoted, ValueOf}
use Rattle.function_laws.specs.MorrealeCalls.{interval, morreale}
use Rattle.node_store.specs.Views.{View, Denotes, Grown, Is, IsBeyond, IsFunction, IsVariable, Permanent, values_at}
use Rattle.node_store.specs.KindLaws.{flipped-function}
use Rattle.node_store.specs.ViewLaws.{Denotes-truth, Is-from, values_at-is}
use Rattle.node_store.specs.Memo.{either, PlaceHolds, IteHolds, CofactorHolds, ImplicationHolds, ExistsHolds, AndExistsHolds, SupportHolds, ComposeHolds, RestrictHolds, FromTruthHolds, PatternHolds, SumHolds, ProductHolds, QuotientHolds, CoverHolds, BetweenHolds, IsopHolds, by_level, cover_between, NumberHolds, FamilyHolds, MemoHolds, Shape, placewise, choice, cofactors, implies, quantifies, conjoins, supports, composes, restricts, lies_between, converts, tests, sums, multiplies, divides, covers, finds_cover, Holds, CaseOf, truth_cases, number_cases, family_cases}

either-map : (b : Bool) (A B C D : Type 0) → (A → C) → (B → D) → either b A B → either b C D
either-map true A B C D f g h = f h
either-map false A B C D f g h = g h

-- what holds of the shape beside a number, whatever holds
case-map : (P Q : Shape → Type 0) → ((shape : Shape) → P shape → Q shape) → (cases : List (ℕ × Shape)) (op : ℕ) (A B : Type 0) → (A → B) → CaseOf P cases op A → CaseOf Q cases op B
case-map P Q each [] op A B other h = other h
case-map P Q each (case ∷ cases) op A B other h =
    either-map (op == case.0) (P case.1) (CaseOf P cases op A) (Q case.1) (CaseOf Q cases op B) (each case.1) (case-map P Q each cases op A B other) h

-- as many variables and elements at the levels where they were, and these slots denote what they did
pub record Carries (a b : View) (These : ℕ → Type 0) : Type 0 where
  pub vars : b.vars ≡ a.vars
  pub elements : b.elements ≡ a.elements
  pub level : b.level ≡ a.level
  pub content : (s : ℕ) (f : Denoted) → These s → a.content s ≡ Some f → b.content s ≡ Some f

pub Carries-grown : {a b : View} → Grown a b → Carries a b (λ s. Unit {0})
Carries-grown g = record { vars = g.vars; elements = g.elements; level = g.level; content = λ s f these is. g.content s f is }

module _ {a b : View} {These : ℕ → Type 0} (k : Kind) (c : Carries a b These) where
  IsVariable-carried : (v : ℕ) → IsVariable k a v → IsVariable k b v
  IsVariable-carried = by_kind k
    where
      by_kind : (k : Kind) (v : ℕ) → IsVariable k a v → IsVariable k b v
      by_kind Bdd v h = (h.0, rw c.vars h.1)
      by_kind Add v h = (h.0, rw c.vars h.1)
      by_kind Zdd v h = (h.0, rw c.elements h.1)

  beyond-before : (v : ℕ) → IsBeyond k b v → IsBeyond k a v
  beyond-before = by_kind k
    where
      by_kind : (k : Kind) (v : ℕ) → IsBeyond k b v → IsBeyond k a v
      by_kind Bdd v h = rw (sym c.vars) h
      by_kind Add v h = rw (sym c.vars) h
      by_kind Zdd v h = rw (sym c.elements) h

  Denotes-carried : {e : Edge} {f : ℕ → ValueOf k} → These e.index → Denotes k a e f → Denotes k b e f
  Denotes-carried {e} {f} these d = record {
    is = flipped-function k e.complement (a.content e.index) (b.content e.index) f d.is (λ g is. c.content e.index g these is);
    beyond = λ v h. d.beyond v (beyond-before v h);
    fits = d.fits;
  }

  Is-carried : {e : Edge} → These e.index → Is k a e → Is k b e
  Is-carried these d = Is-from k (Denotes-carried these d)

  values_at-carried : {e : Edge} → These e.index → Is k a e → values_at k b e ≡ values_at k a e
  values_at-carried these d = values_at-is k (Denotes-carried these d)

module _ {a b : View} {These : ℕ → Type 0} (c : Carries a b These) (key : Key) (e : Edge) (pf : These key.f.index) (pg : These key.g.index) (ph : These key.h.index) (pe : These e.index) where
  pub PlaceHolds-carried : (k : Kind) (op : ValueOf k → ValueOf k → ValueOf k) → PlaceHolds k op a key e → PlaceHolds k op b key e
  PlaceHolds-carried k op p = record {
    f = Is-carried k c pf p.f;
    g = Is-carried k c pg p.g;
    answer = rw (values_at-carried k c pf p.f, values_at-carried k c pg p.g) (Denotes-carried k c pe p.answer);
  }

  pub IteHolds-carried : (k : Kind) → IteHolds k a key e → IteHolds k b key e
  IteHolds-carried k p = record {
    f = Is-carried Bdd c pf p.f;
    g = Is-carried k c pg p.g;
    h = Is-carried k c ph p.h;
    answer = rw (values_at-carried Bdd c pf p.f, values_at-carried k c pg p.g, values_at-carried k c ph p.h) (Denotes-carried k c pe p.answer);
  }

  pub CofactorHolds-carried : CofactorHolds a key e → CofactorHolds b key e
  CofactorHolds-carried p = record {
    variable = p.variable;
    bit = p.bit;
    in_range = IsVariable-carried Bdd c p.variable p.in_range;
    literal = Denotes-carried Bdd c pg p.literal;
    f = Is-carried Bdd c pf p.f;
    answer = rw (values_at-carried Bdd c pf p.f) (Denotes-carried Bdd c pe p.answer);
  }

  pub ImplicationHolds-carried : ImplicationHolds a key e → ImplicationHolds b key e
  ImplicationHolds-carried p = record {
    f = Is-carried Bdd c pf p.f;
    g = Is-carried Bdd c pg p.g;
    answer = rw (values_at-carried Bdd c pf p.f, values_at-carried Bdd c pg p.g) p.answer;
  }

  pub ExistsHolds-carried : ExistsHolds a key e → ExistsHolds b key e
  ExistsHolds-carried p = record {
    f = Is-carried Bdd c pf p.f;
    cube = Is-carried Bdd c pg p.cube;
    answer = Is-carried Bdd c pe p.answer;
    exists = rw (values_at-carried Bdd c pf p.f, values_at-carried Bdd c pg p.cube, values_at-carried Bdd c pe p.answer) p.exists;
  }

  pub AndExistsHolds-carried : AndExistsHolds a key e → AndExistsHolds b key e
  AndExistsHolds-carried p = record {
    f = Is-carried Bdd c pf p.f;
    g = Is-carried Bdd c pg p.g;
    cube = Is-carried Bdd c ph p.cube;
    answer = Is-carried Bdd c pe p.answer;
    exists = rw (values_at-carried Bdd c pf p.f, values_at-carried Bdd c pg p.g, values_at-carried Bdd c ph p.cube, values_at-carried Bdd c pe p.answer) p.exists;
  }

  pub SupportHolds-carried : SupportHolds a key e → SupportHolds b key e
  SupportHolds-carried p = record {
    f = Is-carried Bdd c pf p.f;
    answer = Is-carried Bdd c pe p.answer;
    support = rw (values_at-carried Bdd c pf p.f, values_at-carried Bdd c pe p.answer) p.support;
  }

  pub ComposeHolds-carried : ComposeHolds a key e → ComposeHolds b key e
  ComposeHolds-carried p = record {
    variable = p.variable;
    in_range = IsVariable-carried Bdd c p.variable p.in_range;
    projection = Denotes-carried Bdd c ph p.projection;
    f = Is-carried Bdd c pf p.f;
    g = Is-carried Bdd c pg p.g;
    answer = rw (values_at-carried Bdd c pf p.f, values_at-carried Bdd c pg p.g) (Denotes-carried Bdd c pe p.answer);
  }

  pub RestrictHolds-carried : RestrictHolds a key e → RestrictHolds b key e
  RestrictHolds-carried p = record {
    f = Is-carried Bdd c pf p.f;
    condition = Is-carried Bdd c pg p.condition;
    answer = Is-carried Bdd c pe p.answer;
    restricts = rw (values_at-carried Bdd c pf p.f, values_at-carried Bdd c pg p.condition, values_at-carried Bdd c pe p.answer) p.restricts;
  }

  pub FromTruthHolds-carried : FromTruthHolds a key e → FromTruthHolds b key e
  FromTruthHolds-carried p = record { f = Is-carried Bdd c pf p.f; answer = rw (values_at-carried Bdd c pf p.f) (Denotes-carried Add c pe p.answer) }

  pub PatternHolds-carried : PatternHolds a key e → PatternHolds b key e
  PatternHolds-carried p = record { f = Is-carried Add c pf p.f; answer = rw (values_at-carried Add c pf p.f) (Denotes-carried Bdd c pe p.answer) }

  pub SumHolds-carried : SumHolds a key e → SumHolds b key e
  SumHolds-carried p = record {
    variable = p.variable;
    in_range = IsVariable-carried Add c p.variable p.in_range;
    projection = Denotes-carried Bdd c pg p.projection;
    f = Is-carried Add c pf p.f;
    answer = rw (values_at-carried Add c pf p.f) (Denotes-carried Add c pe p.answer);
  }

  pub ProductHolds-carried : ProductHolds a key e → ProductHolds b key e
  ProductHolds-carried p = record {
    f = Is-carried Zdd c pf p.f;
    g = Is-carried Zdd c pg p.g;
    answer = rw (values_at-carried Zdd c pf p.f, values_at-carried Zdd c pg p.g) (subst (λ n. Denotes Zdd b e (product (2 ^ n) (values_at Zdd a key.f) (values_at Zdd a key.g))) (sym c.elements) (Denotes-carried Zdd c pe p.answer));
  }

  pub QuotientHolds-carried : QuotientHolds a key e → QuotientHolds b key e
  QuotientHolds-carried p = record {
    f = Is-carried Zdd c pf p.f;
    g = Is-carried Zdd c pg p.g;
    answer = rw (values_at-carried Zdd c pf p.f, values_at-carried Zdd c pg p.g) (subst (λ n. Denotes Zdd b e (quotient (2 ^ n) (values_at Zdd a key.f) (values_at Zdd a key.g))) (sym c.elements) (Denotes-carried Zdd c pe p.answer));
  }

  pub CoverHolds-carried : CoverHolds a key e → CoverHolds b key e
  CoverHolds-carried p = record {
    variables = p.variables;
    last = Denotes-carried Bdd c pg p.last;
    f = Is-carried Zdd c pf p.f;
    answer = rw (values_at-carried Zdd c pf p.f) (subst (λ m. Denotes Bdd b e (cover_value p.variables m (values_at Zdd a key.f))) (sym c.elements) (Denotes-carried Bdd c pe p.answer));
  }

  cover-carried : (lower upper : ℕ → Bool) → cover_between b lower upper ≡ cover_between a lower upper
  cover-carried lower upper =
      ap (λ n. morreale n b.elements (by_level n b.level) (interval lower upper)) c.vars
      ∙ ap (λ m. morreale a.vars m (by_level a.vars b.level) (interval lower upper)) c.elements
      ∙ ap (λ level. morreale a.vars a.elements (by_level a.vars level) (interval lower upper)) c.level

  between-carried : (lower upper : ℕ → Bool) → cover_value b.vars b.elements (cover_between b lower upper) ≡ cover_value a.vars a.elements (cover_between a lower upper)
  between-carried lower upper =
      ap (λ n. cover_value n b.elements (cover_between b lower upper)) c.vars
      ∙ ap (λ m. cover_value a.vars m (cover_between b lower upper)) c.elements
      ∙ ap (cover_value a.vars a.elements) (cover-carried lower upper)

  pub BetweenHolds-carried : BetweenHolds a key e → BetweenHolds b key e
  BetweenHolds-carried p = record {
    lower = Is-carried Bdd c pf p.lower;
    upper = Is-carried Bdd c pg p.upper;
    answer = rw (values_at-carried Bdd c pf p.lower, values_at-carried Bdd c pg p.upper)
        (subst (Denotes Bdd b e) (sym (between-carried (values_at Bdd a key.f) (values_at Bdd a key.g))) (Denotes-carried Bdd c pe p.answer));
  }

  pub IsopHolds-carried : IsopHolds a key e → IsopHolds b key e
  IsopHolds-carried p = record {
    lower = Is-carried Bdd c pf p.lower;
    upper = Is-carried Bdd c pg p.upper;
    answer = rw (values_at-carried Bdd c pf p.lower, values_at-carried Bdd c pg p.upper)
        (subst (Denotes Zdd b e) (sym (cover-carried (values_at Bdd a key.f) (values_at Bdd a key.g))) (Denotes-carried Zdd c pe p.answer));
  }

  pub holds-carried : (shape : Shape) → Holds shape a key e → Holds shape b key e
  holds-carried (placewise k op) = PlaceHolds-carried k op
  holds-carried (choice k) = IteHolds-carried k
  holds-carried cofactors = CofactorHolds-carried
  holds-carried implies = ImplicationHolds-carried
  holds-carried quantifies = ExistsHolds-carried
  holds-carried conjoins = AndExistsHolds-carried
  holds-carried supports = SupportHolds-carried
  holds-carried composes = ComposeHolds-carried
  holds-carried restricts = RestrictHolds-carried
  holds-carried lies_between = BetweenHolds-carried
  holds-carried converts = FromTruthHolds-carried
  holds-carried tests = PatternHolds-carried
  holds-carried sums = SumHolds-carried
  holds-carried multiplies = ProductHolds-carried
  holds-carried divides = QuotientHolds-carried
  holds-carried covers = CoverHolds-carried
  holds-carried finds_cover = IsopHolds-carried

  pub MemoHolds-carried : MemoHolds a key e → MemoHolds b key e
  unfolding NumberHolds FamilyHolds
  MemoHolds-carried =
      case-map (λ shape. Holds shape a key e) (λ shape. Holds shape b key e) holds-carried truth_cases key.op _ _
      (either-map (nat_lt key.op 40) _ _ _ _
      (case-map (λ shape. Holds shape a key e) (λ shape. Holds shape b key e) holds-carried number_cases key.op ⊥ ⊥ (λ h. h))
      (case-map (λ shape. Holds shape a key e) (λ shape. Holds shape b key e) holds-carried family_cases key.op ⊥ ⊥ (λ h. h)))

-- what is kept is an edge of the store
either-one : (b : Bool) (A B C : Type 0) → (A → C) → (B → C) → either b A B → C
either-one true A B C f g h = f h
either-one false A B C f g h = g h

case-one : (P : Shape → Type 0) {C : Type 0} → ((shape : Shape) → P shape → C) → (cases : List (ℕ × Shape)) (op : ℕ) (A : Type 0) → (A → C) → CaseOf P cases op A → C
case-one P each [] op A other h = other h
case-one P {C} each (case ∷ cases) op A other h = either-one (op == case.0) (P case.1) (CaseOf P cases op A) C (each case.1) (case-one P each cases op A other) h

module _ (w : View) (first : Permanent w) (key : Key) (e : Edge) where
  holds-edge : (shape : Shape) → Holds shape w key e → IsFunction w e
  holds-edge (placewise k op) p = (k, Is-from k p.answer)
  holds-edge (choice k) p = (k, Is-from k p.answer)
  holds-edge cofactors p = (Bdd, Is-from Bdd p.answer)
  holds-edge implies p = (Bdd, subst (Is Bdd w) (sym p.answer.is) (Is-from Bdd (Denotes-truth w first p.answer.yes)))
  holds-edge quantifies p = (Bdd, p.answer)
  holds-edge conjoins p = (Bdd, p.answer)
  holds-edge supports p = (Bdd, p.answer)
  holds-edge composes p = (Bdd, Is-from Bdd p.answer)
  holds-edge restricts p = (Bdd, p.answer)
  holds-edge lies_between p = (Bdd, Is-from Bdd p.answer)
  holds-edge converts p = (Add, Is-from Add p.answer)
  holds-edge tests p = (Bdd, Is-from Bdd p.answer)
  holds-edge sums p = (Add, Is-from Add p.answer)
  holds-edge multiplies p = (Zdd, Is-from Zdd p.answer)
  holds-edge divides p = (Zdd, Is-from Zdd p.answer)
  holds-edge covers p = (Bdd, Is-from Bdd p.answer)
  holds-edge finds_cover p = (Zdd, Is-from Zdd p.answer)

  pub MemoHolds-edge : MemoHolds w key e → IsFunction w e
  unfolding NumberHolds FamilyHolds
  MemoHolds-edge =
      case-one (λ shape. Holds shape w key e) holds-edge truth_cases key.op _
      (either-one (nat_lt key.op 40) _ _ _
      (case-one (λ shape. Holds shape w key e) holds-edge number_cases key.op ⊥ (λ bad. absurd bad))
      (case-one (λ shape. Holds shape w key e) holds-edge family_cases key.op ⊥ (λ bad. absurd bad)))
