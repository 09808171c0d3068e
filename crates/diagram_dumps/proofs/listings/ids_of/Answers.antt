use Rattle.std.proofs.Common.{◌+◌, ◌≡◌, ◌∙◌, ◌++◌, ◌∷◌, [], List, ℕ, Bool, cond, ap, sym, arith, length, get_or, append-nil}
use Rattle.std.specs.Prelude.{◌==◌}
use Rattle.std.specs.List.{list_any}
use Rattle.std.proofs.lemmas.List.FromFn.{get_or-map-range_with_len, length-map-range_with_len}
use Rattle.edge_bits.specs.declared.edges.Line.{Line}
use Rattle.diagram_dumps.specs.Listings.{ids_of}
use Rattle.diagram_dumps.proofs.Listed.{ids_more}
use Rattle.diagram_dumps.proofs.listings.ids_of.Goals as goal
use Rattle.diagram_dumps.proofs.listings.ids_of.Goals.{then-index+in_ok-push, else-index}

pub index-requires : goal.index-requires
index-requires c =
    let long : length c.in_ok-marks.marks.items ≡ c.args.vars = ap length c.in_ok-marks.ensures ∙ length-map-range_with_len _ 0 c.args.vars in
    omega (arith, c.loop-var-test.true, long)

pub loop-var-preserved : goal.loop-var-preserved
loop-var-preserved c =
    let v = c.loop-var.var in
    let has : ℕ → Bool = λ u. list_any (λ (line : Line). line.var == u) c.args.lines.now in
    let long : length c.in_ok-marks.marks.items ≡ c.args.vars = ap length c.in_ok-marks.ensures ∙ length-map-range_with_len has 0 c.args.vars in
    let same : 0 + v ≡ v = omega arith in
    let told : c.index.result.now ≡ has v =
    c.index.ensures ∙ ap (λ (marks : List Bool). get_or marks v c.index.result.now) c.in_ok-marks.ensures
    ∙ get_or-map-range_with_len has 0 c.args.vars v v c.index.result.now c.loop-var-test.true same in
    let more = ids_more v c.args.lines.now in
    elim c.if-index.branch [
      | then-index+in_ok-push w ↦ w.ids-is ∙ w.in_ok-push.ensures.ok ∙ ap (λ (ids : List ℕ). ids ++ v ∷ []) c.loop-var.invariant
          ∙ sym (more ∙ ap (λ b. ids_of v c.args.lines.now ++ cond b (v ∷ []) []) (sym told ∙ w.if-index.true))
      | else-index w ↦ w.ids-is ∙ c.loop-var.invariant
          ∙ sym (more ∙ ap (λ b. ids_of v c.args.lines.now ++ cond b (v ∷ []) []) (sym told ∙ w.if-index.false) ∙ append-nil (ids_of v c.args.lines.now))
    ]
