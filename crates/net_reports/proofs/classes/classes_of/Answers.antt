use Rattle.std.proofs.Common.{◌≡◌, ◌+◌, ◌<◌, ◌++◌, ◌∷◌, ◌∙◌, [], None, Option, Some, ℕ, ℤ, arith, length, map, nat_abs, slice_set, take, ap, sym, subst, List, pos, get_or}
use Rattle.std.specs.Int.{is_negative}
use Rattle.std.specs.Option.{unwrap_or}
use Rattle.std.proofs.lemmas.List.{get_or_read, length-set, map_more, take_all}
use Rattle.function_laws.specs.Values.{differs}
use Rattle.diagram_dumps.specs.Listings.{dump_of}
use Rattle.net_reports.specs.Classes.{AreClasses}
use Rattle.net_reports.specs.RootClasses.{class_among}
use Rattle.net_reports.specs.declared.classes.Class.{Class}
use Rattle.net_reports.proofs.Firsts.{AreFirsts, class_is, first_within, known, magnitude, next}
use Rattle.net_reports.proofs.RootLaws.{index_within, listed_classes}
use Rattle.net_reports.proofs.classes.classes_of.Goals as goal

pub index-requires : goal.index-requires
index-requires c =
    omega (
      arith,
      c.loop-place.firsts.ok.0,
      c.loop-place.invariant.long,
      index_within (dump_of c.args.listing.now) c.requires c.as_slice-roots.result.now c.loop-place.place c.magnitude-index.result c.as_slice-roots.ensures c.loop-place-test.true c.magnitude-index.ensures,
    )

pub index_mut-requires : goal.index_mut-requires
index_mut-requires c =
    omega (
      arith,
      c.loop-place.firsts.ok.0,
      c.loop-place.invariant.long,
      index_within (dump_of c.args.listing.now) c.requires c.as_slice-roots.result.now c.loop-place.place c.magnitude-index.result c.as_slice-roots.ensures c.loop-place-test.true c.magnitude-index.ensures,
    )

pub class_from-requires : goal.class_from-requires
class_from-requires c =
    let roots = c.args.listing.now.roots in
    let moved : length c.as_slice-roots.result.now ≡ length roots = ap (λ (all : List ℤ). length all) c.as_slice-roots.ensures in
    let inside : c.loop-place.place < length roots = omega (arith, moved, c.loop-place-test.true) in
    let index : c.magnitude-index.result < length c.loop-place.firsts.items =
    omega (
      arith,
      c.loop-place.invariant.long,
      index_within (dump_of c.args.listing.now) c.requires c.as_slice-roots.result.now c.loop-place.place c.magnitude-index.result c.as_slice-roots.ensures c.loop-place-test.true c.magnitude-index.ensures,
    ) in
    omega (
      arith,
      moved,
      c.unwrap_or-first.ensures,
      first_within roots c.loop-place.place c.magnitude-index.result c.index.result.now inside
          (known roots c.loop-place.place c.magnitude-index.result c.loop-place.firsts.items c.index.result.now index c.index.ensures c.loop-place.invariant.firsts),
    )

pub loop-place-preserved : goal.loop-place-preserved
loop-place-preserved c =
    let roots = c.args.listing.now.roots in
    let shown = c.as_slice-roots.result.now in
    let place = c.loop-place.place in
    let index = c.magnitude-index.result in
    let old = c.index.result.now in
    let firsts = c.loop-place.firsts.items in
    let first = c.unwrap_or-first.result in
    let moved : length shown ≡ length roots = ap (λ (all : List ℤ). length all) c.as_slice-roots.ensures in
    let inside : place < length roots = omega (arith, moved, c.loop-place-test.true) in
    let index_is : index ≡ magnitude roots place = c.magnitude-index.ensures ∙ ap (λ (all : List ℤ). nat_abs (get_or all place (pos 0))) c.as_slice-roots.ensures in
    let within : index < length firsts =
    omega (arith, c.loop-place.invariant.long, index_within (dump_of c.args.listing.now) c.requires shown place index c.as_slice-roots.ensures c.loop-place-test.true c.magnitude-index.ensures) in
    let class_at : List ℤ → ℕ → Class =
    λ all at. record { first = at; complement = differs (is_negative (get_or all place (pos 0))) (is_negative (get_or all at (pos 0))) } in
    let class_is_due : c.class_from.result ≡ class_among roots (get_or roots place (pos 0)) =
    c.class_from.ensures ∙ ap (λ (all : List ℤ). class_at all first) c.as_slice-roots.ensures ∙ ap (class_at roots) c.unwrap_or-first.ensures
    ∙ class_is roots place index old inside index_is (known roots place index firsts old within c.index.ensures c.loop-place.invariant.firsts) in
    record {
      long = length-set firsts index (Some first) ∙ c.loop-place.invariant.long;
      firsts = subst (λ at. AreFirsts roots (place + 1) (slice_set firsts index (Some at)))
          (sym (c.unwrap_or-first.ensures ∙ ap (λ (o : Option ℕ). unwrap_or o place) (get_or_read firsts index old within c.index.ensures None)))
          (next roots place index firsts within (sym index_is) c.loop-place.invariant.firsts);
      classes = c.in_ok-push.ensures.items ∙ ap (λ (classes : List Class). classes ++ c.class_from.result ∷ []) c.loop-place.invariant.classes
          ∙ ap (λ (class : Class). map (class_among roots) (take place roots) ++ class ∷ []) class_is_due
          ∙ sym (map_more (class_among roots) roots place (pos 0) inside);
    }

pub returns-clause-by_function : goal.returns-clause-by_function
returns-clause-by_function c = λ order functions is.
    let roots = c.args.listing.now.roots in
    let all : length roots ≡ length c.as_slice-roots.result.now = sym (ap (λ (roots : List ℤ). length roots) c.as_slice-roots.ensures) in
    subst (λ (classes : List Class). AreClasses (length order) functions classes)
    (sym (c.loop-place.invariant.classes ∙ ap (map (class_among roots)) (take_all c.loop-place.place roots (omega (arith, all, c.loop-place-test.false)))))
    (listed_classes order functions c.args.listing.now is)
