use Rattle.std.proofs.Common.{◌+◌, ◌/◌, ℕ, eqb-true, length, refl, sym, ◌∙◌, arith}
use Rattle.net_jobs.proofs.Halving.{both_can, both_kept, both_play, can_long, halves_are, none_kept, none_plays, one_kept, one_plays}
use Rattle.net_jobs.proofs.halves.+halves.Goals as goal

pub parts-returns-then-is_empty : goal.parts-returns-then-is_empty
parts-returns-then-is_empty g t c = let none = eqb-true (length c.args.sessions.now) 0 (sym c.is_empty.ensures ∙ c.if-is_empty.true) in record {
  said = none_plays c.args.manager.now c.args.sections.now c.args.sessions.now c.new.result.items c.requires.can none c.new.ensures.items;
  kept = none_kept c.args.sessions.now none;
}

pub parts-returns-then-sessions-eq1 : goal.parts-returns-then-sessions-eq1
parts-returns-then-sessions-eq1 g t c = record {
  said = one_plays c.play_section.result c.args.manager.now c.args.sections.now c.args.sessions.now c.index-sections-0.result c.as_slice-commands.result.now c.index-sessions-0.result _ c.requires.can c.if-sessions-eq1.true c.index-sections-0.is c.as_slice-commands.ensures c.play_section.ensures.said;
  kept = one_kept c.args.sessions.now c.index-sessions-0.result _ c.if-sessions-eq1.true c.play_section.ensures.own;
}

pub parts-split_at-requires : goal.parts-split_at-requires
parts-split_at-requires g t c = let n = can_long c.args.manager.now c.args.sections.now c.args.sessions.now c.requires.can in omega (arith, n)

pub parts-both_halves-requires-clause-low : goal.parts-both_halves-requires-clause-low
parts-both_halves-requires-clause-low g t c κs within =
    let s = c.split_at.ensures in
    let m = c.split_at_mut-low.ensures in
    let k : ℕ = length c.args.sessions.now / 2 in
    let r = both_can c.args.manager.now c.args.first k (c.args.first + k) c.args.sections.now c.split_at.result.0.now c.split_at.result.1.now c.args.sessions.now c.split_at_mut-low.result.0.now c.split_at_mut-low.result.1.now
    c.requires.can c.requires.numbers (halves_are k c.args.sections.now c.split_at.result.0.now c.split_at.result.1.now s.front s.back) m.value s.front_len m.front_len refl in
    let few = c.requires.few in
    let n = m.front_len in (r.0.0, r.0.1, omega (arith, few, n))

pub parts-both_halves-requires-clause-high : goal.parts-both_halves-requires-clause-high
parts-both_halves-requires-clause-high g t c κs within =
    let s = c.split_at.ensures in
    let m = c.split_at_mut-low.ensures in
    let k : ℕ = length c.args.sessions.now / 2 in
    let r = both_can c.args.manager.now c.args.first k (c.args.first + k) c.args.sections.now c.split_at.result.0.now c.split_at.result.1.now c.args.sessions.now c.split_at_mut-low.result.0.now c.split_at_mut-low.result.1.now
    c.requires.can c.requires.numbers (halves_are k c.args.sections.now c.split_at.result.0.now c.split_at.result.1.now s.front s.back) m.value s.front_len m.front_len refl in
    let few = c.requires.few in
    let n = m.back_len in (r.1.0, r.1.1, omega (arith, few, n))

pub parts-returns : goal.parts-returns
parts-returns g t c =
    let s = c.split_at.ensures in
    let halves = c.both_halves.ensures in
    record {
      said = both_play c.both_halves.result c.args.sections.now c.split_at.result.0.now c.split_at.result.1.now c.args.sessions.now c.split_at_mut-low.result.0.now _ c.split_at_mut-low.result.1.now _
          (halves_are (length c.args.sessions.now / 2) c.args.sections.now c.split_at.result.0.now c.split_at.result.1.now s.front s.back) c.split_at_mut-low.ensures.value halves.said;
      kept = both_kept c.args.sessions.now c.split_at_mut-low.result.0.now _ c.split_at_mut-low.result.1.now _ c.split_at_mut-low.ensures.value halves.kept.0 halves.kept.1;
    }
