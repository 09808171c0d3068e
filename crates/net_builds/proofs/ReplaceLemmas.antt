-- Names that come in place of others.
use Rattle.std.proofs.Common.{◌≡◌, ℕ, ◌<◌, Bool, ◌∙◌, arith, refl, subst, sym}
use Rattle.cover_nets.specs.declared.net.Literal.{Literal}
use Rattle.cover_nets.specs.declared.net.Literal.TheVariants.{Any}
use Rattle.function_laws.specs.declared.history.Name.{Name}
use Rattle.net_builds.specs.Products.{Replaces, with_fit}
use Rattle.net_builds.specs.Standings.{Holds, IsQuiet, LetsGo, Makes, Standing}
use Rattle.net_builds.proofs.StandingLemmas.{gains_none, gains_then, left_holds}

-- a row was made, and an earlier one let go
pub makes_in_place : (old mid new : Standing) (gone name : Name) (f : ℕ → Bool) → gone.generation < old.adds → Makes old mid name f → LetsGo mid new gone → Replaces old new gone name f
makes_in_place old mid new gone name f given makes goes = record {
  works = gains_then _ old mid new makes.works goes.works;
  holds = left_holds mid new gone name f goes (λ e. absurd (omega (arith, e, given, makes.newer))) makes.holds;
  newer = omega (arith, given, makes.newer);
  kept = λ other earlier apart. goes.kept other apart ∙ makes.kept other earlier;
  rows = omega (arith, makes.rows, goes.rows);
}

-- a new row was replaced
pub makes_then : (old mid new : Standing) (gone name : Name) (f g : ℕ → Bool) → Makes old mid gone f → Replaces mid new gone name g → Makes old new name g
makes_then old mid new gone name f g makes replaces = record {
  works = gains_then _ old mid new makes.works replaces.works;
  holds = replaces.holds;
  newer = omega (arith, makes.newer, replaces.newer);
  kept = λ other given. replaces.kept other (omega (arith, given, makes.works.more)) (λ e. absurd (omega (arith, e, given, makes.newer))) ∙ makes.kept other given;
  rows = omega (arith, makes.rows, replaces.rows);
}

-- a literal that asks nothing leaves the product as it is
pub replaces_none : (s : Standing) (product : Name) (literal : Literal) (f p : ℕ → Bool) → literal ≡ Any → Holds s product p → Replaces s s product product (with_fit literal f p)
replaces_none s product literal f p is holds = record {
  works = gains_none IsQuiet s;
  holds = subst (λ (l : Literal). Holds s product (with_fit l f p)) (sym is) holds;
  newer = omega arith;
  kept = λ other below apart. refl;
  rows = omega arith;
}
