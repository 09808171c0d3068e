-- What may be done with shares that were built, and with what was gathered of them.
use Rattle.std.proofs.Common.{◌≡◌, ℕ, suc, ◌+◌, ◌<◌, ◌≤◌, Bool, false, List, [], ◌∷◌, length, map, set, get_or, Some, refl, ap, sym, ◌∙◌, subst, arith, All}
use Rattle.std.specs.Prelude.{slice_get}
use Rattle.std.specs.List.{AllZip}
use Rattle.std.proofs.lemmas.List.{length-map, length-set, set-set}
use Rattle.std.proofs.lemmas.List.Elements.{All-cons, All-get_or, All-head, All-map, All-nil, All-tail, All-weaker}
use Rattle.std.proofs.lemmas.Slice.Zip.{AllZip-long}
use Rattle.std.proofs.lemmas.Option.{none-some, same_Some, slice_get_within}
use Rattle.cover_nets.specs.declared.net.Net.{Net}
use Rattle.cover_nets.specs.declared.net.Output.{Output}
use Rattle.cover_nets.specs.Bounds.{signal_count}
use Rattle.cover_nets.specs.Networks.{signal_value}
use Rattle.edge_bits.specs.declared.limits.TheConstants.{MOST_ROWS}
use Rattle.function_laws.specs.declared.history.Entry.{Entry}
use Rattle.net_reports.specs.Reports.{output_functions}
use Rattle.net_builds.specs.Asked.{MayReport}
use Rattle.net_builds.specs.Handings.{Gathers, GathersSome, Gives, PairsFrom, Returns}
use Rattle.net_builds.specs.Holdings.{LetsAllGo, MayLetAllGo}
use Rattle.net_builds.specs.Shares.{AreBuilt, HandsAndTells, MayFinish, MayGather, SiftsAndTells, StopsOnly, stop_of}
use Rattle.net_builds.specs.Standings.{HasRoom, IsLive, Standing}
use Rattle.net_builds.specs.declared.handing.Handover.{Handover}
use Rattle.net_builds.specs.declared.host.HostRefusal.{HostRefusal}
use Rattle.net_builds.specs.declared.host.HostRefusal.TheVariants as stops
use Rattle.net_builds.specs.declared.sharing.Share.{Share}
use Rattle.net_builds.specs.declared.telling.Findings.{Findings}
use Rattle.net_builds.proofs.Built.{as_many_handed, few_rows, have_shares}
use Rattle.net_builds.proofs.Gathering.{gathered_returns, returns_none}
use Rattle.net_builds.proofs.Pairs.{map_set, zip_at, zip_set}
use Rattle.net_builds.proofs.Slices.{at_map, map_all}
use Rattle.net_builds.proofs.StandingLemmas.{kept_live}
use Rattle.net_builds.proofs.Turns.{room_left}

-- as many functions as outputs
pub as_many_wanted : (net : Net) → length (output_functions net) ≡ length net.outputs
as_many_wanted net = length-map net.outputs (λ (output : Output). signal_value net output.signal)

vars_given : (cell n : ℕ) (hs : List Handover) (k : ℕ) (old new : List Standing) → PairsFrom (Gives cell hs (length hs)) k old new → All (λ (s : Standing). s.vars ≡ n) old → All (λ (s : Standing). s.vars ≡ n) new
vars_given cell n hs k [] [] pairs vars = All-nil (λ (s : Standing). s.vars ≡ n)
vars_given cell n hs k [] (b ∷ new) pairs vars = absurd pairs
vars_given cell n hs k (a ∷ old) [] pairs vars = absurd pairs
vars_given cell n hs k (a ∷ old) (b ∷ new) pairs vars =
    All-cons (λ (s : Standing). s.vars ≡ n) b new (pairs.0.gains.vars_are ∙ All-head (λ (s : Standing). s.vars ≡ n) a old vars)
    (vars_given cell n hs (suc k) old new pairs.1 (All-tail (λ (s : Standing). s.vars ≡ n) a old vars))

-- what was gathered was gathered by some session
pub some_gathered : {S : Type 0} (cell : ℕ) (wanted : List (ℕ → Bool)) (old : List Standing) (standing : S → Standing) (mid : List S) (hs : List Handover) → Gathers cell wanted old (map standing mid) hs → 0 < length mid
some_gathered cell wanted old standing mid hs gathers = omega (arith, slice_get_within (map standing mid) 0 gathers.first gathers.first_is, length-map mid standing)

-- a worker was refused, and nothing was done
pub stopped_only : {F : Type 0} (shares : List (Share F)) (sessions : List Standing) (stop : HostRefusal F) → stop_of shares ≡ Some stop → StopsOnly shares sessions sessions stop
stopped_only shares sessions stops.Memory is = tt
stopped_only shares sessions (stops.Full full) is = (is, refl)

rows_with : (most few : ℕ) (sessions : List Standing) → All (λ (s : Standing). s.rows ≤ few) sessions → few + most < MOST_ROWS → All (λ (s : Standing). s.rows + most < MOST_ROWS) sessions
rows_with most few sessions rows less = All-weaker (λ (s : Standing). s.rows ≤ few) (λ (s : Standing). s.rows + most < MOST_ROWS) (λ s le. omega (arith, le, less)) sessions rows

module _ {M S : Type 0} (has : M → S → Type 0) (standing : S → Standing) (manager : M) where
  -- where no worker was refused, the shares may be gathered
  pub may_gather : {F : Type 0} (tells : M → F → Entry → Type 0) (sessions : List S) (net : Net) (shares : List (Share F)) → MayFinish has standing tells manager sessions net shares → AreBuilt shares
      → MayGather has standing manager sessions (output_functions net) shares
  may_gather tells sessions net shares may done = record {
    own = may.own;
    has_shares = have_shares (tells manager) net (length sessions) 0 may.shared.0 (map standing sessions) shares may.shared.1 done;
    any = may.some;
    some = λ none. omega (arith, none, as_many_wanted net, may.bounded.some);
    room = map_all (λ (s : Standing). s.rows + length (output_functions net) < MOST_ROWS) standing sessions
        (rows_with (length (output_functions net)) (signal_count net) (map standing sessions) (few_rows (tells manager) net (length sessions) 0 may.shared.0 (map standing sessions) shares may.shared.1)
        (omega (arith, may.bounded.signals, may.bounded.outputs, as_many_wanted net)));
  }

  -- What was gathered.
  module _ (cell : ℕ) (net : Net) (old mid : List S) (hs : List Handover) (d : S) (gathers : Gathers cell (output_functions net) (map standing old) (map standing mid) hs)
      (room : All (λ (s : S). (standing s).rows + length (output_functions net) < MOST_ROWS) old) (vars : All (λ (s : Standing). s.vars ≡ length net.inputs) (map standing old)) (own : All (has manager) mid) where
    abbrev first : Standing
    first = standing (get_or mid 0 d)

    some : 0 < length mid
    some = some_gathered cell (output_functions net) (map standing old) standing mid hs gathers

    pub first_is : gathers.first ≡ first
    first_is = same_Some gathers.first first (sym gathers.first_is ∙ at_map standing mid 0 d some)

    many : length hs ≡ length (output_functions net)
    many = as_many_handed cell (output_functions net) (map standing mid) gathers.first hs gathers.handed

    rooms : All HasRoom (map standing mid)
    rooms = room_left cell (length (output_functions net)) hs 0 (map standing old) (map standing mid) (omega (arith, many)) gathers.each (All-map (λ (s : Standing). s.rows + length (output_functions net) < MOST_ROWS) standing old room)

    held : All (IsLive first) (map (λ (h : Handover). h.to) hs)
    held = All-map (IsLive first) (λ (h : Handover). h.to) hs (subst (λ (s : Standing). All (λ (h : Handover). IsLive s h.to) hs) first_is gathers.held)

    pub may_report : MayReport has standing manager (get_or mid 0 d) (length net.inputs) (length net.outputs) (map (λ (h : Handover). h.to) hs)
    may_report = record {
      own = All-get_or (has manager) mid 0 d some own;
      room = All-get_or (λ s. HasRoom (standing s)) mid 0 d some (map_all HasRoom standing mid rooms);
      vars = All-get_or (λ s. (standing s).vars ≡ length net.inputs) mid 0 d some
          (map_all (λ (s : Standing). s.vars ≡ length net.inputs) standing mid (vars_given cell (length net.inputs) hs 0 (map standing old) (map standing mid) gathers.each vars));
      held = held;
      many_are = length-map hs (λ (h : Handover). h.to) ∙ many ∙ as_many_wanted net;
    }

    -- and then told of
    module _ (told last : S) (sifts : Bool) (returns : (c : ℕ) → Returns c sifts first (standing told)) where
      pub may_let_go : has manager told → MayLetAllGo has standing manager told (map (λ (h : Handover). h.to) hs)
      may_let_go own_told = record {
        own = own_told;
        room = omega (arith, (returns cell).rows, may_report.room);
        live = All-weaker (IsLive first) (IsLive (standing told)) (λ name. kept_live first (standing told) name (returns cell).more (returns cell).kept) (map (λ (h : Handover). h.to) hs) held;
        rising = gathers.rising;
      }

      abbrev late : List Standing
      late = set (map standing mid) 0 (standing told)

      late_is : map standing (set mid 0 told) ≡ late
      late_is = map_set standing mid 0 told

      some_left : 0 < length (set mid 0 told)
      some_left = omega (arith, some, length-set mid 0 told)

      module _ (gone : LetsAllGo (standing told) (standing last) (map (λ (h : Handover). h.to) hs)) where
        pub told_returns : AllZip (Returns cell sifts) (map standing old) (map standing (set (set mid 0 told) 0 last))
        told_returns =
            subst (AllZip (Returns cell sifts) (map standing old)) (sym (map_set standing (set mid 0 told) 0 last ∙ ap (λ l. set l 0 (standing last)) late_is))
            (gathered_returns cell sifts (output_functions net) (map standing old) (map standing mid) late hs gathers
            (zip_set (Returns cell sifts) (returns_none cell sifts) (map standing mid) 0 first (standing told) (at_map standing mid 0 d some) (returns cell))
            (standing told) (standing last) (ap (λ l. slice_get l 0) (sym late_is) ∙ (let there = at_map standing (set mid 0 told) 0 told some_left in there ∙ ap (λ s. Some (standing s)) same_told)) gone)
          where
            same_told : get_or (set mid 0 told) 0 told ≡ told
            same_told = by mid some
              where
                by : (xs : List S) → 0 < length xs → get_or (set xs 0 told) 0 told ≡ told
                by [] less = absurd (omega (arith, less))
                by (x ∷ xs) less = refl

        pub told_of : (limit : ℕ) (Tells : List (ℕ → Bool) → List ℕ → Findings → Type 0) (found : Findings) → SiftsAndTells sifts limit Tells first (standing told) (map (λ (h : Handover). h.to) hs) found
            → HandsAndTells sifts limit Tells cell (output_functions net) (map standing old) (map standing (set (set mid 0 told) 0 last)) found
        told_of limit Tells found tells = record {
          mid = map standing mid;
          handovers = hs;
          gathers = gathers;
          told = standing told;
          tells = subst (λ (s : Standing). SiftsAndTells sifts limit Tells s (standing told) (map (λ (h : Handover). h.to) hs) found) (sym first_is) tells;
          last = standing last;
          gone = gone;
          new_is = map_set standing (set mid 0 told) 0 last ∙ ap (λ l. set l 0 (standing last)) late_is ∙ set-set (map standing mid) 0 (standing told) (standing last);
        }

  -- Some were gathered, and then a call was refused.
  module _ (cell most : ℕ) (old late : List S) (hs : List Handover) (d : S) (part : GathersSome cell most (map standing old) (map standing late) hs)
      (room : All (λ (s : S). (standing s).rows + most < MOST_ROWS) old) (own : All (has manager) late) where
    abbrev left : Standing
    left = standing (get_or late 0 d)

    mid_first : slice_get part.mid 0 ≡ Some part.gathers.first
    mid_first = part.gathers.first_is

    some_late : 0 < length late
    some_late = omega (arith, slice_get_within part.mid 0 part.gathers.first mid_first, AllZip-long (Returns cell false) part.mid (map standing late) part.returns, length-map late standing)

    back : Returns cell false part.gathers.first left
    back = zip_at (Returns cell false) part.mid (map standing late) 0 part.gathers.first left part.returns mid_first (at_map standing late 0 d some_late)

    rooms_left : All HasRoom part.mid
    rooms_left = room_left cell most hs 0 (map standing old) part.mid part.few part.gathers.each (All-map (λ (s : Standing). s.rows + most < MOST_ROWS) standing old room)

    first_room : HasRoom part.gathers.first
    first_room = by part.mid rooms_left mid_first
      where
        by : (xs : List Standing) → All HasRoom xs → slice_get xs 0 ≡ Some part.gathers.first → HasRoom part.gathers.first
        by [] all at = absurd (none-some part.gathers.first at)
        by (x ∷ xs) all at = subst HasRoom (same_Some x part.gathers.first at) (All-head HasRoom x xs all)

    pub part_may : MayLetAllGo has standing manager (get_or late 0 d) (map (λ (h : Handover). h.to) hs)
    part_may = record {
      own = All-get_or (has manager) late 0 d some_late own;
      room = omega (arith, back.rows, first_room);
      live = All-map (IsLive left) (λ (h : Handover). h.to) hs
          (All-weaker (λ (h : Handover). IsLive part.gathers.first h.to) (λ (h : Handover). IsLive left h.to) (λ h. kept_live part.gathers.first left h.to back.more back.kept) hs part.gathers.held);
      rising = part.gathers.rising;
    }

    pub part_back : (last : S) → LetsAllGo left (standing last) (map (λ (h : Handover). h.to) hs) → AllZip (Returns cell false) (map standing old) (map standing (set late 0 last))
    part_back last gone =
        subst (AllZip (Returns cell false) (map standing old)) (sym (map_set standing late 0 last))
        (gathered_returns cell false part.some (map standing old) part.mid (map standing late) hs part.gathers part.returns left (standing last) (at_map standing late 0 d some_late) gone)
