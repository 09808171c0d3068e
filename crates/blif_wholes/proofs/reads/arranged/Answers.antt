use Rattle.std.proofs.Common.{◌≡◌, ◌<◌, ◌-◌, ◌^◌, ap, arith, sym, ◌∙◌, map, subst, length, List, ℕ}
use Rattle.std.specs.List.{All}
use Rattle.std.proofs.lemmas.List.{length-map}
use Rattle.std.proofs.lemmas.Result.{IfOk-weaker}
use Rattle.blif_models.specs.Circuits.{Circuit}
use Rattle.blif_models.specs.Models.{Model}
use Rattle.blif_order.specs.Orders.{ArrangedIs}
use Rattle.blif_wholes.specs.declared.parting.WholeCover.{WholeCover}
use Rattle.blif_wholes.specs.Arranged.{AreInRange, IsArranged, reads_in}
use Rattle.blif_wholes.specs.Built.{IsSound}
use Rattle.blif_wholes.specs.Drafting.{IsWholeDraft}
use Rattle.blif_wholes.proofs.CoverReads.{covers_in_range, reads_are, reads_small}
use Rattle.blif_wholes.proofs.reads.arranged.Goals as goal
use Rattle.blif_wholes.proofs.reads.arranged.Goals.{After-deref}

pub all_reads-requires : goal.all_reads-requires
all_reads-requires c =
    let draft = c.args.draft.now in
    let h = c.requires in
    subst (AreInRange draft.names) (sym c.as_slice-covers.ensures.value) (covers_in_range h.0 draft.names (h.1).covers draft.covers.items (h.2).covers)

-- what was read of the covers
read : (c : After-deref) → c.deref.result.now ≡ map (λ (one : WholeCover). reads_in c.args.draft.now.names one.cover.ins) c.args.draft.now.covers.items
read c = c.deref.ensures.value ∙ c.in_ok-reads.ensures.reads ∙ ap (map (λ (one : WholeCover). reads_in c.args.draft.now.names one.cover.ins)) c.as_slice-covers.ensures.value

pub arrange-requires : goal.arrange-requires
arrange-requires c =
    let draft = c.args.draft.now in
    let h = c.requires in
    reads_small h.1 c.deref.result.now (reads_are h.0 h.1 draft c.deref.result.now h.2 h.3 (read c))
    (omega (arith, ap length (read c), length-map draft.covers.items (λ (one : WholeCover). reads_in draft.names one.cover.ins), ap length c.as_slice-covers.ensures.value, c.if-covers-gt-MOST.false))
    (subst (λ (t : List (List ℕ)). All (λ one. length one < 2 ^ 32 - 1) t) (sym c.deref.ensures.value) c.in_ok-reads.ensures.few)

pub returns : goal.returns
returns c =
    let draft = c.args.draft.now in
    let are : c.deref.result.now ≡ map (λ (one : WholeCover). reads_in draft.names one.cover.ins) draft.covers.items =
    c.deref.ensures.value ∙ c.in_ok-reads.ensures.reads ∙ ap (map (λ (one : WholeCover). reads_in draft.names one.cover.ins)) c.as_slice-covers.ensures.value in
    IfOk-weaker c.arrange.result (ArrangedIs c.deref.result.now) (λ arranged. (models : List Model) (circuit : Circuit) → IsWholeDraft models circuit draft → IsSound circuit → IsArranged circuit arranged)
    (λ arranged a models circuit h sound. (c.deref.result.now, reads_are models circuit draft c.deref.result.now h sound are, a)) c.arrange.ensures
