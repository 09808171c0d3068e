use Rattle.std.proofs.Common.{All, ◌∙◌, arith, ap, subst, sym, length}
use Rattle.dd_session.specs.Managing.{Seen}
use Rattle.net_jobs.specs.Networks.{IsFreshOf}
use Rattle.net_jobs.proofs.BuiltHistories.{opened_fresh}
use Rattle.net_jobs.proofs.BuiltTexts.{lent_all, lent_history, stops_due, texts_due}
use Rattle.net_jobs.proofs.Opening.{opened_many}
use Rattle.net_jobs.proofs.networks.report_of.Goals as goal

pub overflow_cast-inputs : goal.overflow_cast-inputs
overflow_cast-inputs g c =
    let text = c.requires.text in
    let bounded = c.networks_are_bounded.ensures text.0 c.args.net.now text.1 in let few = bounded.inputs in let long = ap length c.inputs.ensures in omega (arith, few, long)

pub opened-requires-clause-inputs : goal.opened-requires-clause-inputs
opened-requires-clause-inputs g c =
    let text = c.requires.text in
    let bounded = c.networks_are_bounded.ensures text.0 c.args.net.now text.1 in let few = bounded.inputs in let long = ap length c.inputs.ensures in omega (arith, few, long)

pub build-told-requires-clause-some : goal.build-told-requires-clause-some
build-told-requires-clause-some g c κs within =
    let m = c.in-Ok.manager in
    let long = ap (length {A = Seen}) (c.deref_mut.ensures.value ∙ c.in-Ok.ensures.sessions_are) ∙ opened_many m ∙ c.in-Ok.ensures.as_many in
    let workers = c.requires.workers in (omega (arith, long, workers.0), omega (arith, long, workers.1))

pub build-told-requires-clause-fresh : goal.build-told-requires-clause-fresh
build-told-requires-clause-fresh g c κs within =
    let m = c.in-Ok.manager in subst (All (IsFreshOf m)) (sym (c.deref_mut.ensures.value ∙ c.in-Ok.ensures.sessions_are)) (opened_fresh m)

pub build-told-requires-clause-bounded : goal.build-told-requires-clause-bounded
build-told-requires-clause-bounded g c κs within = c.networks_are_bounded.ensures c.requires.text.0 c.args.net.now c.requires.text.1

pub close-closed-requires : goal.close-closed-requires
close-closed-requires g c =
    lent_all c.in-Ok.manager c.args.net.now c.args.options.now c.in-Ok.sessions.items c.deref_mut.result.now c.build-told.new.sessions c.in-Ok.ensures.sessions_are c.deref_mut.ensures.value c.build-told.result c.build-told.ensures.built
    c.build-told.ensures.refused c.in-Ok.sessions.len c.in-Ok.sessions.ok.0 c.build-told.ensures.fresh

pub returns-clause-report : goal.returns-clause-report
returns-clause-report g c =
    let m = c.in-Ok.manager in
    let net = c.args.net.now in
    let options = c.args.options.now in
    let items = c.in-Ok.sessions.items in
    let old = c.deref_mut.result.now in
    let new = c.build-told.new.sessions in
    let calls = c.close-closed.result.calls in
    let history =
    lent_history m net options items old new c.in-Ok.ensures.sessions_are c.deref_mut.ensures.value c.build-told.result c.build-told.ensures.built c.build-told.ensures.refused c.in-Ok.sessions.len calls c.in-Ok.sessions.ok.0
    c.close-closed.ensures.history.history in
    texts_due c.requires.text.0 net c.requires.text.1 c.networks_have_names.ensures c.dumps_are_read_again.ensures c.args.limit options m c.inputs.result.now c.args.workers items c.inputs.ensures c.in-Ok.ensures
    c.tellings_are_true.ensures.unsifted c.sifted_tellings_are_true.ensures old new c.deref_mut.ensures.value c.build-told.ensures.unsifted calls c.build-told.ensures.fresh history c.build-told.result c.build-told.ensures.built

pub returns-clause-stopped : goal.returns-clause-stopped
returns-clause-stopped g c =
    let m = c.in-Ok.manager in
    let net = c.args.net.now in
    let options = c.args.options.now in
    let items = c.in-Ok.sessions.items in
    let old = c.deref_mut.result.now in
    let new = c.build-told.new.sessions in
    let calls = c.close-closed.result.calls in
    let history =
    lent_history m net options items old new c.in-Ok.ensures.sessions_are c.deref_mut.ensures.value c.build-told.result c.build-told.ensures.built c.build-told.ensures.refused c.in-Ok.sessions.len calls c.in-Ok.sessions.ok.0
    c.close-closed.ensures.history.history in
    stops_due c.requires.text.0 net c.requires.text.1 c.networks_have_names.ensures c.dumps_are_read_again.ensures c.args.limit options m c.inputs.result.now c.args.workers items c.inputs.ensures c.in-Ok.ensures
    c.tellings_are_true.ensures.unsifted c.sifted_tellings_are_true.ensures old new c.deref_mut.ensures.value c.build-told.ensures.unsifted calls c.build-told.ensures.fresh history c.build-told.result c.build-told.ensures.refused
