use Rattle.std.proofs.Common.{◌≡◌, ◌<◌, ◌+◌, None, Some, ◌++◌, ◌∷◌, [], get_or, length, set, take, ap, sym, ◌∙◌, subst, arith}
use Rattle.std.proofs.lemmas.List.{get_or_default, length-set, length-take, take_more}
use Rattle.blif_formals.specs.declared.titles.Heading.{Heading}
use Rattle.blif_formals.specs.Titles.{IsTitleBelow, noted, title_of}
use Rattle.blif_formals.proofs.Titled.{title_kept, title_noted}
use Rattle.blif_formals.proofs.titles.titles_of.Goals as goal
use Rattle.blif_formals.proofs.titles.titles_of.Goals.{in-Some, in_default}

pub loop-model-preserved : goal.loop-model-preserved
loop-model-preserved c =
    let headings = c.args.headings.now in
    let m = c.loop-model.model in
    let lt : m < length headings = subst (λ k. m < k) c.in_ok-count.ensures c.loop-model-test.true in
    let one : Heading = get_or headings m (record { line = 0; title = None }) in
    let titles = c.loop-model.titles.items in
    let more : take (m + 1) headings ≡ take m headings ++ one ∷ [] = take_more headings m (record { line = 0; title = None }) lt in
    let cut = length-take m headings in
    let many : length (take m headings) ≡ m = omega (arith, lt, cut) in
    elim c.match-headings-model.branch [
      | in-Some w ↦
          let k = w.in-Some.number in
          let low : k < length titles = subst (λ n. k < n) (sym c.loop-model.invariant.many) (subst (IsTitleBelow c.args.names) w.in-Some.is (c.requires m (record { line = 0; title = None }) lt)) in
          let items : c.match-headings-model.titles.items ≡ set titles k (Some w.noted.result) = ap (λ v. v.items) w.titles-is in
          let read : w.index.result.now ≡ title_of (take m headings) k = w.index.ensures ∙ get_or_default titles k w.index.result.now None low ∙ c.loop-model.invariant.titles k in
          record {
            many = ap length items ∙ length-set titles k (Some w.noted.result) ∙ c.loop-model.invariant.many;
            titles = λ n.
                ap (λ xs. get_or xs n None) items ∙ ap (λ t. get_or (set titles k (Some t)) n None) (w.noted.ensures ∙ (λ j. noted (read j) (sym many j)))
                ∙ title_noted (take m headings) one k w.in-Some.is titles c.loop-model.invariant.titles low n ∙ ap (λ xs. title_of xs n) (sym more);
          }
      | in_default w ↦
          record {
            many = ap (λ v. length v.items) w.titles-is ∙ c.loop-model.invariant.many;
            titles = λ n. ap (λ v. get_or v.items n None) w.titles-is ∙ c.loop-model.invariant.titles n ∙ sym (title_kept (take m headings) one w.in_default.is n) ∙ ap (λ xs. title_of xs n) (sym more);
          }
    ]
