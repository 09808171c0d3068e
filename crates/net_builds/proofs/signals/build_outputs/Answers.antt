use Rattle.std.proofs.Common.{◌≡◌, ◌∙◌, ◌≤◌, ◌++◌, [], ℕ, ap, arith, All, List, Option, drop, length, subst, sym, take}
use Rattle.std.proofs.lemmas.Bool.{eqb-false, eqb-true}
use Rattle.std.proofs.lemmas.Result.{err_from_is_err_and}
use Rattle.function_laws.specs.declared.history.Name.{Name}
use Rattle.net_builds.specs.Holdings.{AreRising, names_in}
use Rattle.net_builds.specs.Building.{ended}
use Rattle.net_builds.specs.Outputs.{AreOnlyOf, wanted_of}
use Rattle.net_builds.specs.Signals.{AllHold}
use Rattle.net_builds.specs.Standings.{IsLive}
use Rattle.net_builds.proofs.OutputNames.{built_live, built_rising, no_items, no_share_built, own_signals, share_empty, undone_none, written}
use Rattle.net_builds.proofs.signals.build_outputs.Goals as goal

pub returns-clause-built : goal.returns-clause-built
returns-clause-built g c =
    let net = c.args.net.now in
    let last = ended c.deref-2.result.now in
    let now = g.H.Host.standing c.build_all.new.session in
    let rows : List (Option Name) = c.build_all.new.rows in
    let names : List Name = c.build_all.new.names in
    let told = c.in_ok-build_all.ensures in
    let same_names : take c.in_ok-own-2.field-0.names.len (names ++ drop (length names) c.in_ok-own-2.field-0.names.items) ≡ names =
    written names c.deref_mut-2.result.now c.in_ok-own-2.field-0.names.items c.in_ok-own-2.field-0.names.len c.build_all.auto.names c.deref_mut-2.ensures.value c.in_ok-own-2.field-0.names.ok.0 in
    let same_rows : take c.in_ok-own-2.field-0.rows.len (rows ++ drop (length rows) c.in_ok-own-2.field-0.rows.items) ≡ rows =
    written rows c.deref_mut.result.now c.in_ok-own-2.field-0.rows.items c.in_ok-own-2.field-0.rows.len c.build_all.auto.rows c.deref_mut.ensures.value c.in_ok-own-2.field-0.rows.ok.0 in
    record {
      works = told.built.works;
      has = record {
        holds = subst (AllHold now (wanted_of net c.args.worker.of c.args.worker.number)) (sym same_names) told.built.holds;
        live = subst (λ (l : List (Option Name)). All (IsLive now) (names_in l)) (sym same_rows) (built_live net last told.rows.0 now rows told.rows.1);
        rising = subst (λ (l : List (Option Name)). AreRising (names_in l)) (sym same_rows) (built_rising net last told.rows.0 now rows told.rows.1);
        counted = subst (λ (l : List (Option Name)). now.rows ≤ length (names_in l)) (sym same_rows) told.rows.1.counted;
        only = subst (λ (l : List Name). AreOnlyOf l (take c.in_ok-own-2.field-0.rows.len (rows ++ drop (length rows) c.in_ok-own-2.field-0.rows.items))) (sym same_names) (subst (λ (l : List (Option Name)). AreOnlyOf names l) (sym same_rows) told.only);
      };
      rows = told.built.rows;
    }

pub returns-then-is_empty-clause-built : goal.returns-then-is_empty-clause-built
returns-then-is_empty-clause-built g c =
    let none : c.in_ok-own.own.items ≡ [] = no_items c.in_ok-own.own.items (omega (arith, eqb-true _ _ (sym c.if-is_empty.ensures), c.in_ok-own.own.ok.0)) in
    no_share_built c.args.net.now c.args.worker.number c.args.worker.of (g.H.Host.standing c.args.session.now) c.no_outputs.result (sym c.in_ok-own.ensures ∙ none) c.requires.may.none c.no_outputs.ensures.0 c.no_outputs.ensures.1

pub begin-requires-clause-own : goal.begin-requires-clause-own
begin-requires-clause-own g c = own_signals c.args.net.now c.args.worker.number c.args.worker.of c.in_ok-own.own.items c.requires.may.bounded c.in_ok-own.ensures

pub returns-in_err-own-2-clause-undone : goal.returns-in_err-own-2-clause-undone
returns-in_err-own-2-clause-undone g c =
    let p = err_from_is_err_and c.from_residual-in_err-own-2.result c.from_residual-in_err-own-2.ensures.1 in
    rw (p.1, p.2) (undone_none (g.H.Host.tells c.args.host.now) (g.H.Host.standing c.args.session.now) c.requires.may.none)

pub returns-in_err-build_all-clause-idle : goal.returns-in_err-build_all-clause-idle
returns-in_err-build_all-clause-idle g c none =
    let items : c.in_ok-own.own.items ≡ [] = c.in_ok-own.ensures ∙ share_empty c.args.net.now c.args.worker.number c.args.worker.of none in
    absurd (eqb-false _ _ (sym c.if-is_empty.ensures) (omega (arith, ap (length {A = ℕ}) items, c.in_ok-own.own.ok.0)))

pub returns-in_err-own-clause-undone : goal.returns-in_err-own-clause-undone
returns-in_err-own-clause-undone g c =
    let p = err_from_is_err_and c.from_residual.result c.from_residual.ensures.1 in
    rw (p.1, p.2) (undone_none (g.H.Host.tells c.args.host.now) (g.H.Host.standing c.args.session.now) c.requires.may.none)
