use Rattle.std.proofs.Common.{◌≡◌, ◌∙◌, ◌+◌, ◌<◌, ◌≤◌, ◌⊎◌, ℕ, List, Option, Some, ap, arith, get_or, length, map, set, subst, sym, inl, inr}
use Rattle.std.specs.Prelude.{slice_get}
use Rattle.std.proofs.lemmas.Bool.{cases_order}
use Rattle.std.proofs.lemmas.List.{length-map, length-set}
use Rattle.std.proofs.lemmas.List.Elements.{All-get_or, All-set}
use Rattle.std.proofs.lemmas.Option.{get_or_from_slice_get, same_Some, slice_get_within}
use Rattle.function_laws.specs.declared.history.Name.{Name}
use Rattle.net_builds.specs.Holdings.{LetsAllGo, MayLetAllGo, names_in}
use Rattle.net_builds.specs.Standings.{Standing}
use Rattle.net_builds.specs.declared.sharing.Share.{Share}
use Rattle.net_builds.proofs.Going.{all_go, as_many_rows, rows_of}
use Rattle.net_builds.proofs.Pairs.{get_set_same, map_set}
use Rattle.net_builds.proofs.Slices.{at_map, get_set_other}
use Rattle.net_builds.proofs.sharing.let_go_shares.Goals as goal

pub offset_bounds-shares-number : goal.offset_bounds-shares-number
offset_bounds-shares-number g c =
    omega (arith, c.loop-number-test.true, as_many_rows (map g.H.Host.standing c.args.sessions.now) c.args.shares.now c.requires.may.rows, length-map c.args.sessions.now g.H.Host.standing)

pub bounds-shares-number : goal.bounds-shares-number
bounds-shares-number g c =
    omega (arith, c.loop-number-test.true, as_many_rows (map g.H.Host.standing c.args.sessions.now) c.args.shares.now c.requires.may.rows, length-map c.args.sessions.now g.H.Host.standing)

pub let_go_rows-requires : goal.let_go_rows-requires
let_go_rows-requires g c =
    let st = g.H.Host.standing in
    let now = c.loop-number.sessions in
    let n = c.loop-number.number in
    let d = c.index-sessions-number.result in
    let within : n < length now = omega (arith, c.loop-number-test.true, c.loop-number.invariant.long) in
    let at : slice_get (map st c.args.sessions.now) n ≡ Some (st (get_or now n d)) = sym (c.loop-number.invariant.same n (omega arith)) ∙ at_map st now n d within in
    let rows = rows_of (map st c.args.sessions.now) c.args.shares.now n (st (get_or now n d)) c.index-shares-number.result c.requires.may.rows at in
    record {
      may = subst (λ (l : List (Option Name)). MayLetAllGo g.H.Host.has st c.args.host.now (get_or now n d) (names_in l)) (sym c.deref.ensures.value) (record {
        own = All-get_or (g.H.Host.has c.args.host.now) now n d within c.loop-number.invariant.own;
        room = rows.room;
        live = rows.live;
        rising = rows.rising;
      });
    }

-- one share more was let go
module _ {S F : Type 0} (st : S → Standing) (start now : List S) (shares : List (Share F)) (n : ℕ) (x d : S) (e : Share F) (within : n < length now)
    (same : (i : ℕ) → n ≤ i → slice_get (map st now) i ≡ slice_get (map st start) i) (gone : LetsAllGo (st (get_or now n d)) (st x) (names_in (get_or shares n e).outputs.rows.items)) where
  at_start : slice_get (map st start) n ≡ Some (st (get_or now n d))
  at_start = sym (same n (omega arith)) ∙ at_map st now n d within

  at_end : slice_get (map st (set now n x)) n ≡ Some (st x)
  at_end = ap (λ l. slice_get l n) (map_set st now n x) ∙ get_set_same (map st now) n (st (get_or now n d)) (st x) (at_map st now n d within)

  same_more : (i : ℕ) → n + 1 ≤ i → slice_get (map st (set now n x)) i ≡ slice_get (map st start) i
  same_more i past = ap (λ l. slice_get l i) (map_set st now n x) ∙ get_set_other (map st now) n i (st x) (λ e. omega (arith, e, past)) ∙ same i (omega (arith, past))

  gone_here : (a b : Standing) (one : Share F) → slice_get (map st start) n ≡ Some a → slice_get (map st (set now n x)) n ≡ Some b → slice_get shares n ≡ Some one → LetsAllGo a b (names_in one.outputs.rows.items)
  gone_here a b one at_a at_b at_one =
      subst (λ s. LetsAllGo s b (names_in one.outputs.rows.items)) (same_Some (st (get_or now n d)) a (sym at_start ∙ at_a))
      (subst (λ s. LetsAllGo (st (get_or now n d)) s (names_in one.outputs.rows.items)) (same_Some (st x) b (sym at_end ∙ at_b))
      (subst (λ (o : Share F). LetsAllGo (st (get_or now n d)) (st x) (names_in o.outputs.rows.items)) (get_or_from_slice_get shares n one e at_one) gone))

  gone_more : ((i : ℕ) (a b : Standing) (one : Share F) → i < n → slice_get (map st start) i ≡ Some a → slice_get (map st now) i ≡ Some b → slice_get shares i ≡ Some one → LetsAllGo a b (names_in one.outputs.rows.items))
      → (i : ℕ) (a b : Standing) (one : Share F) → i < n + 1 → slice_get (map st start) i ≡ Some a → slice_get (map st (set now n x)) i ≡ Some b → slice_get shares i ≡ Some one → LetsAllGo a b (names_in one.outputs.rows.items)
  gone_more before i a b one less at_a at_b at_one = by (cases_order i n)
    where
      by : (i ≡ n) ⊎ ((i < n) ⊎ (n < i)) → LetsAllGo a b (names_in one.outputs.rows.items)
      by (inl is) =
          gone_here a b one (ap (slice_get (map st start)) (sym is) ∙ at_a) (ap (slice_get (map st (set now n x))) (sym is) ∙ at_b) (ap (slice_get shares) (sym is) ∙ at_one)
      by (inr (inl earlier)) = before i a b one earlier at_a (sym (get_set_other (map st now) n i (st x) (λ same. omega (arith, same, earlier))) ∙ ap (λ l. slice_get l i) (sym (map_set st now n x)) ∙ at_b) at_one
      by (inr (inr later)) = absurd (omega (arith, later, less))

pub loop-number-preserved : goal.loop-number-preserved
loop-number-preserved g c =
    let st = g.H.Host.standing in
    let now = c.loop-number.sessions in
    let n = c.loop-number.number in
    let d = c.index-sessions-number.result in
    let x = c.let_go_rows.new.session in
    let within : n < length now = omega (arith, c.loop-number-test.true, c.loop-number.invariant.long) in
    let gone = subst (λ (l : List (Option Name)). LetsAllGo (st (get_or now n d)) (st x) (names_in l)) c.deref.ensures.value c.let_go_rows.ensures.gone in
    record {
      own = All-set (g.H.Host.has c.args.host.now) now n x c.let_go_rows.ensures.own c.loop-number.invariant.own;
      long = length-set now n x ∙ c.loop-number.invariant.long;
      gone = gone_more st c.args.sessions.now now c.args.shares.now n x d c.index-shares-number.result within c.loop-number.invariant.same gone c.loop-number.invariant.gone;
      same = same_more st c.args.sessions.now now c.args.shares.now n x d c.index-shares-number.result within c.loop-number.invariant.same gone;
    }

pub returns-clause-gone : goal.returns-clause-gone
returns-clause-gone g c =
    let st = g.H.Host.standing in
    let sessions = c.args.sessions.now in
    all_go (map st sessions) (map st c.loop-number.sessions) c.args.shares.now (length-map c.loop-number.sessions st ∙ c.loop-number.invariant.long ∙ sym (length-map sessions st))
    (as_many_rows (map st sessions) c.args.shares.now c.requires.may.rows)
    (λ i a b one at_a at_b at_one. c.loop-number.invariant.gone i a b one (omega (arith, slice_get_within (map st sessions) i a at_a, length-map sessions st, c.loop-number-test.false)) at_a at_b at_one)
