use Rattle.std.proofs.Common.{◌≡◌, ◌∙◌, ◌+◌, ◌<◌, ◌++◌, ◌%◌, ◌/◌, [], ◌∷◌, ℕ, Bool, false, List, ap, get_or, length, map, take, sym, subst, arith, refl}
use Rattle.std.proofs.Math.Seq.{take-length}
use Rattle.std.proofs.lemmas.Result.{err_from_is_err_and}
use Rattle.std.proofs.lemmas.List.{length-append, length-map}
use Rattle.std.proofs.lemmas.List.Elements.{All-map}
use Rattle.edge_bits.specs.declared.limits.TheConstants.{MOST_ROWS}
use Rattle.function_laws.specs.declared.history.Name.{Name}
use Rattle.net_builds.specs.Handings.{AreInTurn, Gathers, HandsOne}
use Rattle.net_builds.specs.Shares.{IsLiveAt}
use Rattle.net_builds.specs.Standings.{Holds, Standing}
use Rattle.net_builds.specs.declared.handing.Handover.{Handover}
use Rattle.net_builds.proofs.Gathering.{gathers_none}
use Rattle.net_builds.proofs.Slices.{some_map}
use Rattle.net_builds.proofs.Turns.{as_many_shares, first_live, first_within, gathers_next, holds_turn, live_given, room_left, some_sessions, within_names, within_shares}
use Rattle.net_builds.proofs.StandingLemmas.{holds_live}
use Rattle.net_builds.proofs.handing.hand_all.Goals as goal

no_function : ℕ → Bool
no_function k = false

pub bounds-shares-0 : goal.bounds-shares-0
bounds-shares-0 g c =
    let may = c.requires.may.1 in
    omega (arith, some_sessions g.H.Host.has g.H.Host.standing c.args.host.now c.args.sessions.now c.requires.may.0 c.args.shares.now may, as_many_shares g.H.Host.has g.H.Host.standing c.args.host.now c.args.sessions.now c.requires.may.0 c.args.shares.now may)

pub index-other-requires : goal.index-other-requires
index-other-requires g c =
    omega (arith, first_within g.H.Host.has g.H.Host.standing c.args.host.now c.args.sessions.now c.requires.may.0 c.args.shares.now c.requires.may.1 c.index-shares-0.result, (get_or c.args.shares.now 0 c.index-shares-0.result).outputs.names.ok.0)

pub loop-output-init : goal.loop-output-init
loop-output-init g c =
    let sessions = c.args.sessions.now in
    let some = some_sessions g.H.Host.has g.H.Host.standing c.args.host.now sessions c.requires.may.0 c.args.shares.now c.requires.may.1 in
    let first = some_map g.H.Host.standing sessions some in
    record {
      own = c.requires.may.1.own;
      long = refl;
      room = c.requires.room;
      many = ap (length {A = Handover}) c.requires.none;
      gathered = λ wanted may long.
          subst (Gathers c.args.cell [] (map g.H.Host.standing sessions) (map g.H.Host.standing sessions)) (sym c.requires.none) (gathers_none c.args.cell (map g.H.Host.standing sessions) first.0 first.1);
    }

pub offset_bounds-shares-giver : goal.offset_bounds-shares-giver
offset_bounds-shares-giver g c =
    let within = within_shares g.H.Host.has g.H.Host.standing c.args.host.now c.args.sessions.now c.requires.may.0 c.args.shares.now c.requires.may.1 c.loop-output.output in
    omega (arith, subst (λ n. c.loop-output.output % n < length c.args.shares.now) (sym c.loop-output.invariant.long) within)

pub bounds-shares-giver : goal.bounds-shares-giver
bounds-shares-giver g c =
    let within = within_shares g.H.Host.has g.H.Host.standing c.args.host.now c.args.sessions.now c.requires.may.0 c.args.shares.now c.requires.may.1 c.loop-output.output in
    subst (λ n. c.loop-output.output % n < length c.args.shares.now) (sym c.loop-output.invariant.long) within

pub index-name-requires : goal.index-name-requires
index-name-requires g c =
    let i = c.loop-output.output in
    let d = c.index-shares-giver.result in
    let shares = c.args.shares.now in
    let within = within_names g.H.Host.has g.H.Host.standing c.args.host.now c.args.sessions.now c.requires.may.0 shares c.requires.may.1 i d no_function (omega (arith, c.loop-output-test.true, c.requires.may.2)) in
    omega (arith, subst (λ n. i / n < length (get_or shares (i % n) d).outputs.names.items) (sym c.loop-output.invariant.long) within, (get_or shares (i % length c.loop-output.sessions) d).outputs.names.ok.0)

pub hand_one-requires-clause-room : goal.hand_one-requires-clause-room
hand_one-requires-clause-room g c =
    let may = c.requires.may.1 in
    let so_far = c.loop-output.invariant.gathered c.requires.may.0 may c.requires.may.2 in
    room_left c.args.cell (length c.requires.may.0) c.loop-output.handovers.items 0 (map g.H.Host.standing c.args.sessions.now) (map g.H.Host.standing c.loop-output.sessions)
    (omega (arith, c.loop-output.invariant.many, c.loop-output-test.true, c.requires.may.2)) so_far.each
    (All-map (λ (s : Standing). s.rows + length c.requires.may.0 < MOST_ROWS) g.H.Host.standing c.args.sessions.now may.room)

-- a name of an offer is that of the share whose turn it is
pub hand_one-requires-clause-held : goal.hand_one-requires-clause-held
unfolding no_function
hand_one-requires-clause-held g c =
    let st = g.H.Host.standing in
    let sessions = c.args.sessions.now in
    let may = c.requires.may.1 in
    let i = c.loop-output.output in
    let d = c.index-shares-giver.result in
    let so_far = c.loop-output.invariant.gathered c.requires.may.0 may c.requires.may.2 in
    let long = sym c.loop-output.invariant.long in
    let named = subst (λ n. c.index-name.result.now ≡ get_or (get_or c.args.shares.now (i % n) d).outputs.names.items (i / n) c.index-name.result.now) c.loop-output.invariant.long c.index-name.ensures in
    subst (λ n. IsLiveAt (map st c.loop-output.sessions) (i % n) c.index-name.result.now) long
    (live_given c.args.cell c.loop-output.handovers.items (map st sessions) (map st c.loop-output.sessions) (i % length sessions) c.index-name.result.now so_far.each
    (λ s at. holds_live s c.index-name.result.now (get_or c.requires.may.0 i no_function) (subst (λ (n : Name). Holds s n (get_or c.requires.may.0 i no_function)) (sym named)
    (holds_turn g.H.Host.has st c.args.host.now sessions c.requires.may.0 c.args.shares.now may i d no_function (omega (arith, c.loop-output-test.true, c.requires.may.2)) c.index-name.result.now s at))))

pub hand_one-requires-clause-other : goal.hand_one-requires-clause-other
hand_one-requires-clause-other g c =
    let st = g.H.Host.standing in
    let sessions = c.args.sessions.now in
    let may = c.requires.may.1 in
    let so_far = c.loop-output.invariant.gathered c.requires.may.0 may c.requires.may.2 in
    live_given c.args.cell c.loop-output.handovers.items (map st sessions) (map st c.loop-output.sessions) 0 c.index-other.result.now so_far.each
    (subst (λ (n : Name). IsLiveAt (map st sessions) 0 n) (sym c.index-other.ensures) (first_live g.H.Host.has st c.args.host.now sessions c.requires.may.0 c.args.shares.now may c.index-shares-0.result c.index-other.result.now))

pub returns-in_err-next-clause-refused : goal.returns-in_err-next-clause-refused
returns-in_err-next-clause-refused g c =
    let p = err_from_is_err_and c.from_residual.result c.from_residual.ensures.1 in
    rw p.1 (record {
      some = take c.loop-output.output c.requires.may.0;
      few = omega (arith, c.loop-output.invariant.many, c.loop-output-test.true);
      mid = map g.H.Host.standing c.loop-output.sessions;
      gathers = c.loop-output.invariant.gathered c.requires.may.0 c.requires.may.1 c.requires.may.2;
      returns = c.in_err-next.ensures.refused;
    })

pub loop-output-preserved : goal.loop-output-preserved
unfolding no_function
loop-output-preserved g c =
    let st = g.H.Host.standing in
    let sessions = c.args.sessions.now in
    let i = c.loop-output.output in
    let d = c.index-shares-giver.result in
    let earlier : List Handover = c.loop-output.handovers.items in
    let next : Handover = c.in_ok-next.next in
    let all : List Handover = c.push_reserved.new.self.items in
    let seen : List Handover = c.deref.result.now in
    let one = c.in_ok-next.ensures.handed in
    let named = subst (λ n. c.index-name.result.now ≡ get_or (get_or c.args.shares.now (i % n) d).outputs.names.items (i / n) c.index-name.result.now) c.loop-output.invariant.long c.index-name.ensures in
    let turns : (wanted : List (ℕ → Bool)) → Gathers c.args.cell (take i wanted) (map st sessions) (map st c.loop-output.sessions) earlier → AreInTurn 0 (earlier ++ next ∷ []) =
    λ wanted so_far. subst {A = List Handover} (λ (hs : List Handover). AreInTurn 0 (hs ++ next ∷ [])) c.deref.ensures.value
    (c.is_behind.ensures c.wait_unless.ensures (subst {A = List Handover} (AreInTurn 0) (sym {A = List Handover} {a = seen} {b = earlier} c.deref.ensures.value) so_far.turns) (omega arith, one.turn, tt)) in
    record {
      own = c.in_ok-next.ensures.own;
      long = c.hand_one.auto.sessions ∙ c.loop-output.invariant.long;
      room = omega (arith, c.loop-output.invariant.room, c.push_reserved.ensures.capacity);
      many = ap (length {A = Handover}) c.push_reserved.ensures.items ∙ length-append earlier (next ∷ []) ∙ omega (arith, c.loop-output.invariant.many);
      gathered = λ wanted may long.
          (let so_far = c.loop-output.invariant.gathered wanted may long in
          gathers_next c.args.cell wanted (length sessions) (sym (length-map sessions st)) (map st c.loop-output.sessions) (map st c.hand_one.new.sessions) earlier all i no_function c.index-name.result.now next (omega (arith, c.loop-output-test.true, long)) so_far
          (subst (λ n. HandsOne c.args.cell (i % n) (map st c.loop-output.sessions) (map st c.hand_one.new.sessions) c.index-name.result.now next) c.loop-output.invariant.long one) c.loop-output.invariant.many
          (λ s at. subst (λ (n : Name). Holds s n (get_or wanted i no_function)) (sym named)
          (holds_turn g.H.Host.has st c.args.host.now sessions wanted c.args.shares.now may i d no_function (omega (arith, c.loop-output-test.true, long)) c.index-name.result.now s at)) (turns wanted so_far) c.push_reserved.ensures.items);
    }

pub returns-clause-handed : goal.returns-clause-handed
returns-clause-handed g c wanted may long =
    let end : c.loop-output.output ≡ length wanted = omega (arith, c.loop-output.auto.output-end, c.loop-output-test.false, long) in
    subst (λ (ws : List (ℕ → Bool)). Gathers c.args.cell ws (map g.H.Host.standing c.args.sessions.now) (map g.H.Host.standing c.loop-output.sessions) c.loop-output.handovers.items)
    (ap (λ k. take k wanted) end ∙ take-length wanted) (c.loop-output.invariant.gathered wanted may long)
