use Rattle.std.proofs.Common.{ap, refl, sym, subst, ◌∙◌, ◌≡◌, ◌<◌, ◌++◌, [], List, append_assoc, append-nil, length}
use Rattle.blif_models.specs.declared.layout.Frame.{Frame}
use Rattle.blif_models.specs.declared.numbered.Spot.{Spot}
use Rattle.blif_models.specs.Layouts.{counted, laid_whole, main_table, model_at}
use Rattle.blif_models.specs.SpotsApart.{copies_over}
use Rattle.blif_models.specs.Unfinished.{AreFresh, IsStart, steps_left}
use Rattle.blif_models.proofs.FreshSpots.{fresh_main}
use Rattle.blif_models.proofs.GoingOn.{frame_of, layout_starts, names_at}
use Rattle.blif_models.proofs.layout.lay_out.Goals as goal

pub loop-frame-init : goal.loop-frame-init
loop-frame-init c =
    let models = c.args.models.now in
    let main = c.args.main in
    let layout = c.in_ok-layout.layout in
    let counts = counted c.args.copies.now c.args.signals.now in
    let names = names_at models main c.index-models-main.result c.requires.main c.index-models-main.is in
    let spots : layout.spots.items ≡ main_table main (model_at models main).names = c.in_ok-layout.ensures.spots ∙ ap (main_table main) names in
    let most = copies_over c.args.copies.now (model_at models main).entries in
    let stack : IsStart main (model_at models main).names layout.stack.items = subst (λ n. IsStart main n layout.stack.items) names c.in_ok-layout.ensures.stack in
    record {
      layout = λ rank ranks le. layout_starts models counts rank (length models) main layout.spots.items layout.laid.items layout.stack.items c.requires.main le spots c.in_ok-layout.ensures.laid stack;
      spots = ([], spots ∙ sym (append-nil (main_table main (model_at models main).names)));
      fresh = λ enough.
          let frame = stack.0 in
          subst (λ (xs : List Spot). AreFresh models c.args.copies.now most xs layout.stack.items) (sym spots)
          (subst (AreFresh models c.args.copies.now most (main_table main (model_at models main).names)) (sym stack.1) (fresh_main models c.args.copies.now main (model_at models main).names frame stack.2 stack.3 stack.4 c.requires.main refl));
    }

pub step-requires-clause-frame : goal.step-requires-clause-frame
step-requires-clause-frame c =
    let models = c.args.models.now in
    let layout = c.loop-frame.layout in
    let counts = counted c.args.copies.now c.args.signals.now in
    let ranked = c.requires.ranked in
    (frame_of models counts ranked.0 (length models) (laid_whole models counts (length models) c.args.main) layout.spots.items layout.laid.items layout.stack.items c.pop.new.self.items c.in-Some.frame c.in-Some.ensures.items (c.loop-frame.invariant.layout ranked.0 ranked.1 ranked.2)).0

pub loop-frame-smaller : goal.loop-frame-smaller
loop-frame-smaller c =
    let models = c.args.models.now in
    let layout = c.loop-frame.layout in
    let counts = counted c.args.copies.now c.args.signals.now in
    let whole = laid_whole models counts (length models) c.args.main in
    let ranked = c.requires.ranked in
    let before = (frame_of models counts ranked.0 (length models) whole layout.spots.items layout.laid.items layout.stack.items c.pop.new.self.items c.in-Some.frame c.in-Some.ensures.items (c.loop-frame.invariant.layout ranked.0 ranked.1 ranked.2)).1 in
    subst (λ (xs : List Frame). steps_left models (length models) c.step.new.self.stack.items < steps_left models (length models) xs) (sym c.in-Some.ensures.items) (c.in_ok-step.ensures.layout ranked.0 (length models) whole ranked.1 before).1

pub loop-frame-preserved : goal.loop-frame-preserved
loop-frame-preserved c =
    let models = c.args.models.now in
    let layout = c.loop-frame.layout in
    let counts = counted c.args.copies.now c.args.signals.now in
    let whole = laid_whole models counts (length models) c.args.main in
    let table = main_table c.args.main (model_at models c.args.main).names in
    let before = c.loop-frame.invariant.spots in
    let more = c.in_ok-step.ensures.spots in
    record {
      layout = λ rank ranks le. (c.in_ok-step.ensures.layout rank (length models) whole ranks
          (frame_of models counts rank (length models) whole layout.spots.items layout.laid.items layout.stack.items c.pop.new.self.items c.in-Some.frame c.in-Some.ensures.items (c.loop-frame.invariant.layout rank ranks le)).1).0;
      spots = (before.0 ++ more.0, more.1 ∙ ap (λ (xs : List Spot). xs ++ more.0) before.1 ∙ append_assoc table before.0 more.0);
      fresh = λ enough.
          let most = copies_over c.args.copies.now (model_at models c.args.main).entries in
          c.in_ok-step.ensures.fresh most enough (subst (AreFresh models c.args.copies.now most layout.spots.items) c.in-Some.ensures.items (c.loop-frame.invariant.fresh enough));
    }

pub returns-clause-apart : goal.returns-clause-apart
returns-clause-apart c = λ enough. ((c.loop-frame.invariant.fresh enough).one_spot, (c.loop-frame.invariant.fresh enough).named)
