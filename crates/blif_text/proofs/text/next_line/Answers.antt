use Rattle.std.proofs.Common.{◌≡◌, ◌∙◌, ◌+◌, ◌++◌, ◌∷◌, ap, drop, sym, take, arith, false, true}
use Rattle.blif_text.specs.Text.{joined_from, kept_from, line_at, lines_of, onto_next}
use Rattle.blif_text.proofs.Joining.{joined_here, joined_onward, last_joined, more_joined, nothing_joined}
use Rattle.blif_text.proofs.Keeping.{first_parted, kept_behind, kept_here, kept_nothing, kept_onward, more_parted}
use Rattle.blif_text.proofs.Split.{is_nothing, no_lines}
use Rattle.blif_text.proofs.text.next_line.Goals as goal

pub returns-then-not-goes_on-clause-lines : goal.returns-then-not-goes_on-clause-lines
returns-then-not-goes_on-clause-lines c =
    let line = c.cut_physical.result.0.now in
    let lines = lines_of c.cut_physical.result.1.now in
    ap (joined_from c.args.number) c.cut_physical.ensures.lines
    ∙ joined_here c.args.number line lines (sym c.goes_on.ensures.value ∙ c.if-not-goes_on.true)
    ∙ ap (λ b. line_at c.args.number b ∷ joined_from (c.args.number + 1) lines) (sym c.left_of-piece.ensures)

pub returns-then-not-goes_on-clause-kept : goal.returns-then-not-goes_on-clause-kept
returns-then-not-goes_on-clause-kept c =
    let line = c.cut_physical.result.0.now in
    let lines = lines_of c.cut_physical.result.1.now in
    c.requires.kept ∙ ap (kept_from false) c.cut_physical.ensures.lines ∙ kept_here line lines (sym c.goes_on.ensures.value ∙ c.if-not-goes_on.true)

pub loop-rest-init : goal.loop-rest-init
loop-rest-init c =
    let line = c.cut_physical.result.0.now in
    let lines = lines_of c.cut_physical.result.1.now in
    let piece = c.left_of-piece.result.now in
    let more = sym c.goes_on.ensures.value ∙ c.if-not-goes_on.false in
    let whole : c.args.kept.now ≡ piece ++ kept_from true lines =
    c.requires.kept ∙ ap (kept_from false) c.cut_physical.ensures.lines ∙ kept_onward line lines more ∙ ap (λ t. t ++ kept_from true lines) (sym c.left_of-piece.ensures) in
    let parts = first_parted c.args.kept.now piece (kept_from true lines) whole in
    record {
      joined = ap (joined_from c.args.number) c.cut_physical.ensures.lines
          ∙ joined_onward c.args.number line lines more
          ∙ ap (λ b. onto_next c.args.number b (joined_from (c.args.number + 1) lines)) (sym c.left_of-piece.ensures ∙ sym parts.front);
      kept = parts.rest;
      within = parts.within;
      shorter = c.cut_physical.ensures.shorter;
      later = omega arith;
      numbers = omega (arith, c.cut_physical.ensures.shorter);
    }

pub loop-rest-preserved : goal.loop-rest-preserved
loop-rest-preserved c =
    let i = c.loop-rest.invariant in
    let line = c.cut_physical-in-loop-rest.result.0.now in
    let lines = lines_of c.cut_physical-in-loop-rest.result.1.now in
    let piece = c.left_of-piece-in-loop-rest.result.now in
    let more = sym c.goes_on-in-loop-rest.ensures.value ∙ c.if-not-goes_on-2.false in
    let front = take c.loop-rest.long c.args.kept.now in
    let rest : drop c.loop-rest.long c.args.kept.now ≡ piece ++ kept_from true lines =
    i.kept ∙ ap (kept_from true) c.cut_physical-in-loop-rest.ensures.lines ∙ kept_behind line lines true more ∙ ap (λ t. t ++ kept_from true lines) (sym c.left_of-piece-in-loop-rest.ensures) in
    let parts = more_parted c.args.kept.now piece (kept_from true lines) c.loop-rest.long i.within rest in
    record {
      joined = i.joined ∙ ap (λ t. onto_next c.args.number front (joined_from c.loop-rest.next t)) c.cut_physical-in-loop-rest.ensures.lines
          ∙ more_joined c.args.number c.loop-rest.next front line lines more
          ∙ ap (λ b. onto_next c.args.number b (joined_from (c.loop-rest.next + 1) lines)) (ap (λ t. front ++ t) (sym c.left_of-piece-in-loop-rest.ensures) ∙ sym parts.front);
      kept = parts.rest;
      within = parts.within;
      shorter = omega (arith, c.cut_physical-in-loop-rest.ensures.shorter, i.shorter);
      later = omega (arith, i.later);
      numbers = omega (arith, c.cut_physical-in-loop-rest.ensures.shorter, i.numbers);
    }

pub parted-requires : goal.parted-requires
parted-requires c =
    let i = c.loop-rest.invariant in
    let line = c.cut_physical-in-loop-rest.result.0.now in
    let lines = lines_of c.cut_physical-in-loop-rest.result.1.now in
    let piece = c.left_of-piece-in-loop-rest.result.now in
    let last = sym c.goes_on-in-loop-rest.ensures.value ∙ c.if-not-goes_on-2.true in
    let rest : drop c.loop-rest.long c.args.kept.now ≡ piece ++ kept_from false lines =
    i.kept ∙ ap (kept_from true) c.cut_physical-in-loop-rest.ensures.lines ∙ kept_behind line lines false last ∙ ap (λ t. t ++ kept_from false lines) (sym c.left_of-piece-in-loop-rest.ensures) in
    let parts = more_parted c.args.kept.now piece (kept_from false lines) c.loop-rest.long i.within rest in
    parts.within

pub returns-then-not-goes_on-2-clause-lines : goal.returns-then-not-goes_on-2-clause-lines
returns-then-not-goes_on-2-clause-lines c =
    let i = c.loop-rest.invariant in
    let line = c.cut_physical-in-loop-rest.result.0.now in
    let lines = lines_of c.cut_physical-in-loop-rest.result.1.now in
    let piece = c.left_of-piece-in-loop-rest.result.now in
    let last = sym c.goes_on-in-loop-rest.ensures.value ∙ c.if-not-goes_on-2.true in
    let front = take c.loop-rest.long c.args.kept.now in
    let rest : drop c.loop-rest.long c.args.kept.now ≡ piece ++ kept_from false lines =
    i.kept ∙ ap (kept_from true) c.cut_physical-in-loop-rest.ensures.lines ∙ kept_behind line lines false last ∙ ap (λ t. t ++ kept_from false lines) (sym c.left_of-piece-in-loop-rest.ensures) in
    let parts = more_parted c.args.kept.now piece (kept_from false lines) c.loop-rest.long i.within rest in
    i.joined ∙ ap (λ t. onto_next c.args.number front (joined_from c.loop-rest.next t)) c.cut_physical-in-loop-rest.ensures.lines
    ∙ last_joined c.args.number c.loop-rest.next front line lines last
    ∙ ap (λ b. line_at c.args.number b ∷ joined_from (c.loop-rest.next + 1) lines) (ap (λ t. front ++ t) (sym c.left_of-piece-in-loop-rest.ensures) ∙ sym parts.front ∙ sym c.parted.ensures.front)

pub returns-then-not-goes_on-2-clause-kept : goal.returns-then-not-goes_on-2-clause-kept
returns-then-not-goes_on-2-clause-kept c =
    let i = c.loop-rest.invariant in
    let line = c.cut_physical-in-loop-rest.result.0.now in
    let lines = lines_of c.cut_physical-in-loop-rest.result.1.now in
    let piece = c.left_of-piece-in-loop-rest.result.now in
    let last = sym c.goes_on-in-loop-rest.ensures.value ∙ c.if-not-goes_on-2.true in
    let rest : drop c.loop-rest.long c.args.kept.now ≡ piece ++ kept_from false lines =
    i.kept ∙ ap (kept_from true) c.cut_physical-in-loop-rest.ensures.lines ∙ kept_behind line lines false last ∙ ap (λ t. t ++ kept_from false lines) (sym c.left_of-piece-in-loop-rest.ensures) in
    let parts = more_parted c.args.kept.now piece (kept_from false lines) c.loop-rest.long i.within rest in
    c.parted.ensures.back ∙ parts.rest

pub returns-clause-lines : goal.returns-clause-lines
returns-clause-lines c =
    let i = c.loop-rest.invariant in
    let none = no_lines c.loop-rest.rest.now (is_nothing c.loop-rest.rest.now (sym c.is_empty.ensures ∙ c.loop-rest-test.false)) in
    i.joined ∙ nothing_joined c.args.number c.loop-rest.next (take c.loop-rest.long c.args.kept.now) c.loop-rest.rest.now (lines_of c.loop-rest.rest.now) none
    ∙ ap (λ b. line_at c.args.number b ∷ joined_from c.loop-rest.next (lines_of c.loop-rest.rest.now)) (sym c.parted-2.ensures.front)

pub returns-clause-kept : goal.returns-clause-kept
returns-clause-kept c =
    let i = c.loop-rest.invariant in
    let none = no_lines c.loop-rest.rest.now (is_nothing c.loop-rest.rest.now (sym c.is_empty.ensures ∙ c.loop-rest-test.false)) in
    c.parted-2.ensures.back ∙ i.kept ∙ kept_nothing true (lines_of c.loop-rest.rest.now) none ∙ sym (kept_nothing false (lines_of c.loop-rest.rest.now) none)
