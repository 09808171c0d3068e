-- What was told of shares that were gathered, when all rows were let go.
use Rattle.std.proofs.Common.{◌≡◌, ◌⊎◌, ℕ, zero, suc, ◌<◌, ◌≤◌, ◌++◌, Bool, false, true, Option, Some, None, List, [], ◌∷◌, length, map, refl, ap, sym, ◌∙◌, subst, append_assoc, length-append, inl, inr, arith, All}
use Rattle.std.specs.Prelude.{slice_get}
use Rattle.std.specs.List.{AllZip, Contains}
use Rattle.std.proofs.Math.ListN.{drop, set}
use Rattle.std.proofs.Math.Seq.{drop-append_seam}
use Rattle.std.proofs.lemmas.Bool.{cases_lt}
use Rattle.std.proofs.lemmas.List.{append-nil, length-map}
use Rattle.std.proofs.lemmas.List.Elements.{All-append, All-cons, All-contains, All-contains_itself, All-head, All-map, All-nil, All-tail, All-weaker, Contains-append_left, Contains-append_right}
use Rattle.std.proofs.lemmas.Option.{none-some, same_Some}
use Rattle.function_laws.specs.declared.history.Call.TheVariants as calls
use Rattle.function_laws.specs.declared.history.Entry.{Entry}
use Rattle.function_laws.specs.declared.history.Function.{Function}
use Rattle.function_laws.specs.declared.history.Name.{Name}
use Rattle.function_laws.specs.declared.history.Reply.TheVariants as replies
use Rattle.function_laws.specs.SessionEntries.{entry}
use Rattle.cover_nets.specs.declared.net.Net.{Net}
use Rattle.cover_nets.specs.Bounds.{signal_count}
use Rattle.net_reports.specs.Reports.{output_functions}
use Rattle.net_builds.specs.Builds.{AllHandedOver, AreUnsifted, Builds}
use Rattle.net_builds.specs.Handings.{AreInTurn, Gathers, Gives, IsKnown, IsOrderly, IsTold, Looks, Offers, PairsFrom}
use Rattle.net_builds.specs.Holdings.{AreRising, IsCounted, LetsAllGo, names_in}
use Rattle.net_builds.specs.Outputs.{AreShared, BuildsOutputs, HasShare, IsShared, wanted_of}
use Rattle.net_builds.specs.Shares.{AllGo, AreBuilt, HandsAndTells, SiftsIf}
use Rattle.net_builds.specs.Sifting.{BuildsSifted, GivesOnly, HoldsOnly, IsOneOf}
use Rattle.net_builds.specs.Signals.{AllHold}
use Rattle.net_builds.specs.Standings.{IsLive, IsQuiet, IsSiftedBy, KeepsOrders, Note, Sifts, Standing, Works, values_of}
use Rattle.net_builds.specs.declared.handing.Handover.{Handover}
use Rattle.net_builds.specs.declared.sharing.Share.{Share}
use Rattle.net_builds.specs.declared.telling.Findings.{Findings}
use Rattle.net_builds.proofs.Built.{IsGain, all_gain, as_many_handed, fetched_below, shared_works}
use Rattle.net_builds.proofs.HoldingLemmas.{rising_append}
use Rattle.net_builds.proofs.Passing.{Grows, grows_then, handed_grown, quiet_orderly}
use Rattle.net_builds.proofs.ShareLemmas.{share_all, share_none}
use Rattle.net_builds.proofs.StandingLemmas.{kept_live}

-- what was gained, and then more
gain_then : (cell : ℕ) (hs : List Handover) (a b c : Standing) → IsGain cell hs a b → IsGain cell hs b c → IsGain cell hs a c
gain_then cell hs a b c first second = (
  first.0 ++ second.0,
  second.1 ∙ ap (λ (es : List Entry). es ++ second.0) first.1 ∙ append_assoc a.entries first.0 second.0,
  All-append (IsKnown cell hs) first.0 second.0 first.2 second.2,
  second.3 ∙ first.3,
  second.4 ∙ first.4,
)

gain_works : (cell : ℕ) (hs : List Handover) (a b : Standing) → Works a b → IsGain cell hs a b
gain_works cell hs a b works = (
  works.gained,
  works.entries_are,
  All-weaker IsQuiet (IsKnown cell hs) (λ e quiet. (quiet_orderly cell hs e quiet).0) works.gained works.each,
  works.vars_are,
  works.number_is,
)

grows_works : (a b : Standing) → Works a b → Grows a b
grows_works a b works = record { vars_are = works.vars_are; number_is = works.number_is; gained = works.gained; entries_are = works.entries_are; behind = works.behind; placed_are = works.placed_are }

-- What a sift leaves, or what is as before.
pub record Passes (cell : ℕ) (hs : List Handover) (a b : Standing) : Type 0 where
  pub gain : IsGain cell hs a b
  pub notes_are : b.notes ≡ a.notes
  pub behind : List Note
  pub placed_are : b.placed ≡ a.placed ++ behind

sift_passes : (cell : ℕ) (hs : List Handover) (sifts : Bool) (limit : ℕ) (a b : Standing) → SiftsIf sifts limit a b → Passes cell hs a b
sift_passes cell hs false limit a b same =
    subst (Passes cell hs a) (sym same) (record { gain = ([], sym (append-nil a.entries), All-nil (IsKnown cell hs), refl, refl); notes_are = refl; behind = []; placed_are = sym (append-nil a.placed) })
sift_passes cell hs true limit a b ((place, sifts), counted) = record {
  gain = (
    entry place a.number (calls.Sift sifts.told) replies.Done ∷ [],
    sifts.entries_are,
    All-cons (IsKnown cell hs) (entry place a.number (calls.Sift sifts.told) replies.Done) [] (record { plain = refl; elsewhere = λ other apart. refl }, λ posts. absurd (never posts)) (All-nil (IsKnown cell hs)),
    sifts.vars_are,
    sifts.number_is,
  );
  notes_are = sifts.notes_are;
  behind = sifts.note ∷ [];
  placed_are = sifts.placed_are;
}
  where
    never : false ≡ true → ⊥
    never same = cc

not_dropped : {cell : ℕ} {other : Name} (a : Name) → calls.Fetch cell other ≡ calls.DropRow a → ⊥
not_dropped a is = cc

-- names that stand for wanted functions
held_one : (s : Standing) (ws : List (ℕ → Bool)) (names : List Name) (wanted : List (ℕ → Bool)) (name : Name) → AllHold s ws names → All (Contains wanted) ws → Contains names name
    → (w : ℕ → Bool) × Contains wanted w × (s.stands name ≡ values_of s.vars w)
held_one s [] [] wanted name hold among (i, inside, is) = absurd (omega (arith, inside))
held_one s [] (x ∷ names) wanted name hold among there = absurd hold
held_one s (w ∷ ws) [] wanted name hold among there = absurd hold
held_one s (w ∷ ws) (x ∷ names) wanted name hold among (zero, inside, is) = (w, All-head (Contains wanted) w ws among, ap s.stands (sym is) ∙ hold.0.stands)
held_one s (w ∷ ws) (x ∷ names) wanted name hold among (suc i, inside, is) =
    held_one s ws names wanted name hold.1 (All-tail (Contains wanted) w ws among) (i, omega (arith, inside), is)

-- a name of two lists is one of the first or one of the second
contains_either : (xs ys : List Name) (x : Name) → Contains (xs ++ ys) x → Contains xs x ⊎ Contains ys x
contains_either [] ys x there = inr there
contains_either (y ∷ xs) ys x (zero, inside, is) = inl (0, omega arith, is)
contains_either (y ∷ xs) ys x (suc i, inside, is) = elim (contains_either xs ys x (i, omega (arith, inside), is)) [
  | inl there ↦ inl (suc there.0, omega (arith, there.1), there.2)
  | inr there ↦ inr there
]

module _ {F : Type 0} (tells : F → Entry → Type 0) (net : Net) (workers cell : ℕ) (hs : List Handover) where
  abbrev wanted : List (ℕ → Bool)
  wanted = output_functions net

  abbrev Given : ℕ → Standing → Standing → Type 0
  Given = Gives cell hs (length hs)

  -- a share stands for wanted functions alone
  share_holds : (k : ℕ) (b : Standing) (one : Share F) (has : HasShare (wanted_of net workers k) b one.outputs) (name : Name) → Contains (names_in one.outputs.rows.items) name
      → (w : ℕ → Bool) × Contains wanted w × (b.stands name ≡ values_of b.vars w)
  share_holds k b one has name there =
      held_one b (wanted_of net workers k) one.outputs.names.items wanted name has.holds
      (share_all (Contains wanted) k workers wanted (All-contains_itself wanted))
      (All-contains (λ (n : Name). Contains one.outputs.names.items n) (names_in one.outputs.rows.items) name has.only there)

  -- the sessions of other workers, from one on
  pub gain_all : (k : ℕ) (old built mid new : List Standing) (shares : List (Share F)) → AreShared tells net workers k old built shares → PairsFrom Given k built mid → AllGo mid new shares → AllZip (IsGain cell hs) old new
  gain_all k [] [] [] [] [] shared gives gone = tt
  gain_all k [] [] mid new (one ∷ shares) shared gives gone = absurd shared
  gain_all k [] [] (c ∷ mid) new [] shared gives gone = absurd gives
  gain_all k [] [] [] (d ∷ new) [] shared gives gone = absurd gone
  gain_all k [] (b ∷ built) mid new shares shared gives gone = absurd shared
  gain_all k (a ∷ old) [] mid new shares shared gives gone = absurd shared
  gain_all k (a ∷ old) (b ∷ built) mid new [] shared gives gone = absurd shared
  gain_all k (a ∷ old) (b ∷ built) [] new (one ∷ shares) shared gives gone = absurd gives
  gain_all k (a ∷ old) (b ∷ built) (c ∷ mid) [] (one ∷ shares) shared gives gone = absurd gone
  gain_all k (a ∷ old) (b ∷ built) (c ∷ mid) (d ∷ new) (one ∷ shares) shared gives gone = (
    gain_then cell hs a b d (gain_works cell hs a b (shared_works tells (wanted_of net workers k) (signal_count net) a b one shared.0))
        (gain_then cell hs b c d (gain_given b c gives.0) (gain_works cell hs c d gone.0.works)),
    gain_all (suc k) old built mid new shares shared.1 gives.1 gone.1,
  )
    where
      gain_given : (x y : Standing) → Given k x y → IsGain cell hs x y
      gain_given x y gives = (gives.gains.gained, gives.gains.entries_are, All-weaker (IsOrderly cell hs) (IsKnown cell hs) (λ e orderly. orderly.0) gives.gains.gained gives.gains.each, gives.gains.vars_are, gives.gains.number_is)

  pub grow_all : (mid new : List Standing) (shares : List (Share F)) → AllGo mid new shares → AllZip Grows mid new
  grow_all [] [] [] gone = tt
  grow_all [] [] (one ∷ shares) gone = absurd gone
  grow_all [] (d ∷ new) shares gone = absurd gone
  grow_all (c ∷ mid) [] shares gone = absurd gone
  grow_all (c ∷ mid) (d ∷ new) [] gone = absurd gone
  grow_all (c ∷ mid) (d ∷ new) (one ∷ shares) gone = (grows_works c d gone.0.works, grow_all mid new shares gone.1)

  -- they swap and sift nothing
  unsifted_all : (k : ℕ) (old built mid new : List Standing) (shares : List (Share F)) → AreShared tells net workers k old built shares → PairsFrom Given k built mid → AllGo mid new shares → AreUnsifted old new
  unsifted_all k [] [] [] [] [] shared gives gone = tt
  unsifted_all k [] [] mid new (one ∷ shares) shared gives gone = absurd shared
  unsifted_all k [] [] (c ∷ mid) new [] shared gives gone = absurd gives
  unsifted_all k [] [] [] (d ∷ new) [] shared gives gone = absurd gone
  unsifted_all k [] (b ∷ built) mid new shares shared gives gone = absurd shared
  unsifted_all k (a ∷ old) [] mid new shares shared gives gone = absurd shared
  unsifted_all k (a ∷ old) (b ∷ built) mid new [] shared gives gone = absurd shared
  unsifted_all k (a ∷ old) (b ∷ built) [] new (one ∷ shares) shared gives gone = absurd gives
  unsifted_all k (a ∷ old) (b ∷ built) (c ∷ mid) [] (one ∷ shares) shared gives gone = absurd gone
  unsifted_all k (a ∷ old) (b ∷ built) (c ∷ mid) (d ∷ new) (one ∷ shares) shared gives gone = (here, unsifted_all (suc k) old built mid new shares shared.1 gives.1 gone.1)
    where
      works : Works a b
      works = shared_works tells (wanted_of net workers k) (signal_count net) a b one shared.0

      here : All KeepsOrders (drop (length a.entries) d.entries)
      here =
          let gained : List Entry = works.gained ++ (gives.0.gains.gained ++ gone.0.works.gained) in
          let entries : d.entries ≡ a.entries ++ gained =
          gone.0.works.entries_are ∙ ap (λ (es : List Entry). es ++ gone.0.works.gained) gives.0.gains.entries_are ∙ append_assoc b.entries gives.0.gains.gained gone.0.works.gained
          ∙ ap (λ (es : List Entry). es ++ (gives.0.gains.gained ++ gone.0.works.gained)) works.entries_are ∙ append_assoc a.entries works.gained (gives.0.gains.gained ++ gone.0.works.gained) in
          subst (All KeepsOrders) (sym (ap (drop (length a.entries)) entries ∙ drop-append_seam a.entries gained))
          (All-append KeepsOrders works.gained (gives.0.gains.gained ++ gone.0.works.gained) (All-weaker IsQuiet KeepsOrders (λ e quiet. quiet.keeps) works.gained works.each)
          (All-append KeepsOrders gives.0.gains.gained gone.0.works.gained (All-weaker (IsOrderly cell hs) KeepsOrders (λ e orderly. orderly.1) gives.0.gains.gained gives.0.gains.each)
          (All-weaker IsQuiet KeepsOrders (λ e quiet. quiet.keeps) gone.0.works.gained gone.0.works.each)))

  -- what the sift's law asks of another session
  module _ (n : ℕ) (many : length hs ≡ length wanted) where
    gives_one : (k : ℕ) (a b c d : Standing) (one : Share F) → (k ≡ 0 → ⊥) → one.stop ≡ None → IsShared tells (wanted_of net workers k) (signal_count net) a b one.outputs one.stop → Given k b c
        → LetsAllGo c d (names_in one.outputs.rows.items) → IsCounted b → b.vars ≡ n → GivesOnly n wanted hs a d
    gives_one k a b c d one apart stop shared gives gone counted vars = by (cases_lt k (length hs))
      where
        offers : Offers hs k b c gives.gains.gained
        offers = gives.offers apart

        built : BuildsOutputs (wanted_of net workers k) (signal_count net) a b one.outputs × (wanted_of net workers k ≡ [] → b ≡ a)
        built = subst (IsShared tells (wanted_of net workers k) (signal_count net) a b one.outputs) stop shared

        behind_b : List Entry
        behind_b = gives.gains.gained ++ gone.works.gained

        entries : d.entries ≡ b.entries ++ behind_b
        entries = gone.works.entries_are ∙ ap (λ (es : List Entry). es ++ gone.works.gained) gives.gains.entries_are ∙ append_assoc b.entries gives.gains.gained gone.works.gained

        done : All (λ (e : Entry). e.reply ≡ replies.Done) behind_b
        done = All-append (λ (e : Entry). e.reply ≡ replies.Done) gives.gains.gained gone.works.gained offers.done gone.done

        holds : (stands : Name → Option Function) → ((other : Name) → stands other ≡ b.stands other) → HoldsOnly n wanted stands
        holds stands same name f is =
            let there = counted (names_in one.outputs.rows.items) built.0.has.rising built.0.has.live built.0.has.counted name f (sym (same name) ∙ is) in
            let one_of = share_holds k b one built.0.has name there in
            (one_of.0, one_of.1, same_Some f _ (sym is ∙ same name ∙ one_of.2 ∙ ap (λ m. values_of m one_of.0) vars))

        by : (k < length hs) ⊎ (length hs ≤ k) → GivesOnly n wanted hs a d
        by (inl less) =
            let first = offers.first less in
            inr (
              first.0,
              subst (λ (notes : List Note). Contains notes first.0) (sym gone.works.placed_are) (Contains-append_left c.placed gone.works.behind first.0 first.1),
              first.2,
              (first.5.0, subst (λ (es : List Entry). Contains es first.5.0) (sym gone.works.entries_are) (Contains-append_left c.entries gone.works.gained first.5.0 first.5.1), first.5.2),
              holds first.0.stands first.3,
              subst (All (λ (e : Entry). first.0.place ≤ e.place → e.reply ≡ replies.Done)) (sym entries)
                  (All-append (λ (e : Entry). first.0.place ≤ e.place → e.reply ≡ replies.Done) b.entries behind_b
                  (All-weaker (λ (e : Entry). e.place < first.0.place) (λ (e : Entry). first.0.place ≤ e.place → e.reply ≡ replies.Done) (λ e below above. absurd (omega (arith, below, above))) b.entries first.4)
                  (All-weaker (λ (e : Entry). e.reply ≡ replies.Done) (λ (e : Entry). first.0.place ≤ e.place → e.reply ≡ replies.Done) (λ e is above. is) behind_b done)),
            )
        by (inr past) =
            let same : b ≡ a = built.1 (share_none k workers wanted (omega (arith, past, many))) in
            inl (behind_b, entries ∙ ap (λ (x : Standing). x.entries ++ behind_b) same, done)

    gives_all : (k : ℕ) (old built mid new : List Standing) (shares : List (Share F)) → (k ≡ 0 → ⊥) → AreBuilt shares → AreShared tells net workers k old built shares → PairsFrom Given k built mid → AllGo mid new shares
        → All IsCounted built → All (λ (s : Standing). s.vars ≡ n) built → AllZip (GivesOnly n wanted hs) old new
    gives_all k [] [] [] [] [] apart all shared gives gone counted vars = tt
    gives_all k [] [] mid new (one ∷ shares) apart all shared gives gone counted vars = absurd shared
    gives_all k [] [] (c ∷ mid) new [] apart all shared gives gone counted vars = absurd gives
    gives_all k [] [] [] (d ∷ new) [] apart all shared gives gone counted vars = absurd gone
    gives_all k [] (b ∷ built) mid new shares apart all shared gives gone counted vars = absurd shared
    gives_all k (a ∷ old) [] mid new shares apart all shared gives gone counted vars = absurd shared
    gives_all k (a ∷ old) (b ∷ built) mid new [] apart all shared gives gone counted vars = absurd shared
    gives_all k (a ∷ old) (b ∷ built) [] new (one ∷ shares) apart all shared gives gone counted vars = absurd gives
    gives_all k (a ∷ old) (b ∷ built) (c ∷ mid) [] (one ∷ shares) apart all shared gives gone counted vars = absurd gone
    gives_all k (a ∷ old) (b ∷ built) (c ∷ mid) (d ∷ new) (one ∷ shares) apart all shared gives gone counted vars = (
      gives_one k a b c d one apart (All-head (λ (x : Share F). x.stop ≡ None) one shares all) shared.0 gives.0 gone.0 (All-head IsCounted b built counted) (All-head (λ (s : Standing). s.vars ≡ n) b built vars),
      gives_all (suc k) old built mid new shares (λ e. omega (arith, e)) (All-tail (λ (x : Share F). x.stop ≡ None) one shares all) shared.1 gives.1 gone.1 (All-tail IsCounted b built counted)
          (All-tail (λ (s : Standing). s.vars ≡ n) b built vars),
    )

  -- The first session and the others, step by step.
  module _ (Tells : List (ℕ → Bool) → List ℕ → Findings → Type 0) (sifts : Bool) (limit : ℕ) (found : Findings) (a b g s t l z : Standing) (os bs gs zs : List Standing) (one : Share F) (shares : List (Share F))
      (shared : IsShared tells (wanted_of net workers 0) (signal_count net) a b one.outputs one.stop) (others : AreShared tells net workers 1 os bs shares)
      (given : Given 0 b g) (givers : PairsFrom Given 1 bs gs) (handed : AllHandedOver cell wanted (g ∷ gs) g hs) (turns : AreInTurn 0 hs)
      (sifted : SiftsIf sifts limit g s) (told : IsTold Tells s t (map (λ (h : Handover). h.to) hs) found) (gone : LetsAllGo t l (map (λ (h : Handover). h.to) hs))
      (own_gone : LetsAllGo l z (names_in one.outputs.rows.items)) (others_gone : AllGo gs zs shares) where
    pub passes : Passes cell hs g s
    passes = sift_passes cell hs sifts limit g s sifted

    pub grows_sift : Grows g s
    grows_sift = record { vars_are = passes.gain.3; number_is = passes.gain.4; gained = passes.gain.0; entries_are = passes.gain.1; behind = passes.behind; placed_are = passes.placed_are }

    pub looks : Looks s t
    looks = told.looks

    pub grows_told : Grows s t
    grows_told = record { vars_are = looks.vars_are; number_is = looks.number_is; gained = looks.gained; entries_are = looks.entries_are; behind = looks.behind; placed_are = looks.placed_are }

    pub grows_gone : Grows t z
    grows_gone = grows_then t l z (grows_works t l gone.works) (grows_works l z own_gone.works)

    pub grows_first : Grows g z
    grows_first = grows_then g s z grows_sift (grows_then s t z grows_told grows_gone)

    pub gain_first : IsGain cell hs a z
    gain_first =
        gain_then cell hs a b z (gain_works cell hs a b (shared_works tells (wanted_of net workers 0) (signal_count net) a b one shared))
        (gain_then cell hs b g z (given.gains.gained, given.gains.entries_are, All-weaker (IsOrderly cell hs) (IsKnown cell hs) (λ e orderly. orderly.0) given.gains.gained given.gains.each, given.gains.vars_are, given.gains.number_is)
        (gain_then cell hs g s z passes.gain
        (gain_then cell hs s t z (looks.gained, looks.entries_are, All-weaker IsQuiet (IsKnown cell hs) (λ e quiet. (quiet_orderly cell hs e quiet).0) looks.gained looks.quiet, looks.vars_are, looks.number_is)
        (gain_then cell hs t l z (gain_works cell hs t l gone.works) (gain_works cell hs l z own_gone.works)))))

    abbrev own_works : Works a b
    own_works = shared_works tells (wanted_of net workers 0) (signal_count net) a b one shared

    unfoldable pub builds_told : Builds Tells cell wanted (a ∷ os) (z ∷ zs) found
    builds_told = record {
      handovers = hs;
      before = a;
      others = os;
      old_is = refl;
      first = z;
      rest = zs;
      new_is = refl;
      handed = handed_grown cell wanted (g ∷ gs) (z ∷ zs) g z hs (grows_first, grow_all gs zs shares others_gone) grows_first handed;
      turns = turns;
      gains = all_gain cell hs (a ∷ os) (z ∷ zs) (gain_first, gain_all 1 os bs gs zs shares others givers others_gone);
      note = told.note;
      noted = own_gone.works.notes_are ∙ gone.works.notes_are ∙ told.notes_are ∙ ap (λ (notes : List Note). notes ++ told.note ∷ []) (passes.notes_are ∙ given.gains.notes_are ∙ own_works.notes_are);
      functions = told.functions;
      later = fetched_below cell told.note.place wanted (g ∷ gs) s hs (handed_grown cell wanted (g ∷ gs) (g ∷ gs) g s hs (same_all (g ∷ gs)) grows_sift handed) told.later;
      stand = told.stand ∙ ap (λ n. map (values_of n) told.functions) (sym grows_gone.vars_are);
      tells = told.tells;
    }
      where
        same_all : (xs : List Standing) → AllZip Grows xs xs
        same_all [] = tt
        same_all (x ∷ xs) = (
          record { vars_are = refl; number_is = refl; gained = []; entries_are = sym (append-nil x.entries); behind = []; placed_are = sym (append-nil x.placed) },
          same_all xs,
        )

    -- where it sifted
    module _ (does : sifts ≡ true) (done : AreBuilt (one ∷ shares)) (unsifted : AreUnsifted os zs) (held : All (λ (h : Handover). IsLive g h.to) hs) (newer : All (λ (h : Handover). b.adds ≤ h.to.generation) hs)
        (rising : AreRising (map (λ (h : Handover). h.to) hs)) (counted : All IsCounted bs) (vars : All (λ (x : Standing). x.vars ≡ z.vars) (b ∷ bs))
        (ended : (es : List Entry) × (h : Handover) × (g.entries ≡ es ++ entry h.fetch g.number (calls.Fetch cell h.other) (replies.Fetched h.to true) ∷ [])) where
      here : ((place : ℕ) × Sifts limit g s place) × IsCounted g
      here = subst (λ c. SiftsIf c limit g s) does sifted

      abbrev place : ℕ
      place = here.0.0

      sift : Sifts limit g s place
      sift = here.0.1

      abbrev sift_entry : Entry
      sift_entry = entry place g.number (calls.Sift sift.told) replies.Done

      has : HasShare (wanted_of net workers 0) b one.outputs
      has = (subst (IsShared tells (wanted_of net workers 0) (signal_count net) a b one.outputs) (All-head (λ (x : Share F). x.stop ≡ None) one shares done) shared).0.has

      abbrev low : List Entry
      low = own_works.gained ++ given.gains.gained

      abbrev high : List Entry
      high = looks.gained ++ (gone.works.gained ++ own_gone.works.gained)

      before_sift : g.entries ≡ a.entries ++ low
      before_sift = given.gains.entries_are ∙ ap (λ (es : List Entry). es ++ given.gains.gained) own_works.entries_are ∙ append_assoc a.entries own_works.gained given.gains.gained

      behind_sift : z.entries ≡ g.entries ++ (sift_entry ∷ high)
      behind_sift =
          own_gone.works.entries_are ∙ ap (λ (es : List Entry). es ++ own_gone.works.gained) gone.works.entries_are ∙ append_assoc t.entries gone.works.gained own_gone.works.gained
          ∙ ap (λ (es : List Entry). es ++ (gone.works.gained ++ own_gone.works.gained)) looks.entries_are ∙ append_assoc s.entries looks.gained (gone.works.gained ++ own_gone.works.gained)
          ∙ ap (λ (es : List Entry). es ++ high) sift.entries_are ∙ append_assoc g.entries (sift_entry ∷ []) high

      fetched_before : All (λ (h : Handover). h.fetch < place) hs
      fetched_before = fetched_below cell place wanted (g ∷ gs) g hs handed sift.later

      own_names : (name : Name) (f : Function) → sift.note.stands name ≡ Some f → Contains (map (λ (h : Handover). h.to) hs) name ⊎ IsOneOf z.vars wanted f
      own_names name f is =
          let rows = names_in one.outputs.rows.items in
          let fetched = map (λ (h : Handover). h.to) hs in
          let stands : g.stands name ≡ Some f = sym (sift.stood name) ∙ is in
          let old_live : All (IsLive g) rows = All-weaker (IsLive b) (IsLive g) (λ x. kept_live b g x given.gains.more given.kept) rows has.live in
          let rise : AreRising (rows ++ fetched) = rising_append b.adds rows fetched has.rising rising (All-weaker (IsLive b) (λ (x : Name). x.generation < b.adds) (λ x live. live.2) rows has.live)
          (All-map (λ (x : Name). b.adds ≤ x.generation) (λ (h : Handover). h.to) hs newer) in
          let few : g.rows ≤ length (rows ++ fetched) = omega (arith, given.rows, has.counted, length-append rows fetched, length-map hs (λ (h : Handover). h.to)) in
          let there = here.1 (rows ++ fetched) rise (All-append (IsLive g) rows fetched old_live (All-map (IsLive g) (λ (h : Handover). h.to) hs held)) few name f stands in
          elim (contains_either rows fetched name there) [
            | inl own ↦ (
                let one_of = share_holds 0 b one has name own in
                let kept : g.stands name ≡ b.stands name = given.kept name (All-contains (IsLive b) rows name has.live own).2 in
                inr (one_of.0, one_of.1, same_Some f _ (sym stands ∙ kept ∙ one_of.2 ∙ ap (λ m. values_of m one_of.0) (All-head (λ (x : Standing). x.vars ≡ z.vars) b bs vars))))
            | inr taken ↦ inl taken
          ]

      pub builds_sifted : BuildsSifted Tells limit cell wanted (a ∷ os) (z ∷ zs) found
      unfolding builds_told
      builds_sifted = record {
        builds = builds_told;
        place = place;
        told = sift.told;
        low = low;
        high = high;
        entries_are = behind_sift ∙ ap (λ (es : List Entry). es ++ (sift_entry ∷ high)) before_sift
            ∙ ap (λ m. (a.entries ++ low) ++ (entry place m (calls.Sift sift.told) replies.Done ∷ high)) (sym grows_first.number_is);
        low_keeps = All-append KeepsOrders own_works.gained given.gains.gained (All-weaker IsQuiet KeepsOrders (λ e quiet. quiet.keeps) own_works.gained own_works.each)
            (All-weaker (IsOrderly cell hs) KeepsOrders (λ e orderly. orderly.1) given.gains.gained given.gains.each);
        high_keeps = All-weaker IsQuiet KeepsOrders (λ e quiet. quiet.keeps) high
            (All-append IsQuiet looks.gained (gone.works.gained ++ own_gone.works.gained) looks.quiet (All-append IsQuiet gone.works.gained own_gone.works.gained gone.works.each own_gone.works.each));
        others_keep = unsifted;
        behind = fetched_before;
        above = All-contains (λ (e : Entry). e.place < told.note.place) s.entries sift_entry told.later
            (subst (λ (es : List Entry). Contains es sift_entry) (sym sift.entries_are) (Contains-append_right g.entries (sift_entry ∷ []) sift_entry (0, omega arith, refl)));
        sifting = sift.note;
        among = subst (λ (notes : List Note). Contains notes sift.note) (sym (grows_then s t z grows_told grows_gone).placed_are)
            (Contains-append_left s.placed (grows_then s t z grows_told grows_gone).behind sift.note
            (subst (λ (notes : List Note). Contains notes sift.note) (sym sift.placed_are) (Contains-append_right g.placed (sift.note ∷ []) sift.note (0, omega arith, refl))));
        at_place = sift.place_is;
        stood = all_stood hs;
        own = own_names;
        givers = gives_all z.vars (as_many_handed cell wanted (g ∷ gs) g hs handed) 1 os bs gs zs shares (λ e. omega (arith, e)) (All-tail (λ (x : Share F). x.stop ≡ None) one shares done) others givers others_gone
            counted (All-tail (λ (x : Standing). x.vars ≡ z.vars) b bs vars);
        ends = (ended.0, entry ended.1.fetch g.number (calls.Fetch cell ended.1.other) (replies.Fetched ended.1.to true), sym before_sift ∙ ended.2, λ a. not_dropped a);
        sift = subst (λ n. IsSiftedBy limit n sift.told) (sym grows_first.vars_are) sift.sift;
      }
        where
          all_stood : (xs : List Handover) → All (λ (h : Handover). sift.note.stands h.to ≡ told.note.stands h.to) xs
          all_stood [] = All-nil (λ (h : Handover). sift.note.stands h.to ≡ told.note.stands h.to)
          all_stood (h ∷ xs) =
              All-cons (λ (h : Handover). sift.note.stands h.to ≡ told.note.stands h.to) h xs
              (sift.stood h.to ∙ sym (sift.kept h.to) ∙ sym (told.stood h.to)) (all_stood xs)

-- What was told of shares that were gathered is told of what all sessions built, from where they began.
module _ {F : Type 0} (tells : F → Entry → Type 0) (net : Net) (workers cell : ℕ) (Tells : List (ℕ → Bool) → List ℕ → Findings → Type 0) (sifts : Bool) (limit : ℕ) (found : Findings) (built mid : List Standing)
    (handed : HandsAndTells sifts limit Tells cell (output_functions net) built mid found) where
  abbrev hs : List Handover
  hs = handed.handovers

  abbrev gathers : Gathers cell (output_functions net) built handed.mid hs
  gathers = handed.gathers

  mid_is : (g : Standing) (gs : List Standing) → g ∷ gs ≡ handed.mid → mid ≡ handed.last ∷ gs
  mid_is g gs same = handed.new_is ∙ ap (λ l. set l 0 handed.last) (sym same)

  first_is : (g : Standing) (gs : List Standing) → g ∷ gs ≡ handed.mid → gathers.first ≡ g
  first_is g gs same = same_Some gathers.first g (sym gathers.first_is ∙ ap (λ l. slice_get l 0) (sym same))

  before_is : (b : Standing) (bs : List Standing) → b ∷ bs ≡ built → gathers.before ≡ b
  before_is b bs same = same_Some gathers.before b (sym gathers.before_is ∙ ap (λ l. slice_get l 0) (sym same))

  given_all : (b g : Standing) (bs gs : List Standing) → b ∷ bs ≡ built → g ∷ gs ≡ handed.mid → PairsFrom (Gives cell hs (length hs)) 0 (b ∷ bs) (g ∷ gs)
  given_all b g bs gs same_b same_g =
      subst (λ l. PairsFrom (Gives cell hs (length hs)) 0 l (g ∷ gs)) (sym same_b) (subst (λ l. PairsFrom (Gives cell hs (length hs)) 0 built l) (sym same_g) gathers.each)

  handed_here : (g : Standing) (gs : List Standing) → g ∷ gs ≡ handed.mid → AllHandedOver cell (output_functions net) (g ∷ gs) g hs
  handed_here g gs same =
      subst (λ s. AllHandedOver cell (output_functions net) (g ∷ gs) s hs) (first_is g gs same) (subst (λ l. AllHandedOver cell (output_functions net) l gathers.first hs) (sym same) gathers.handed)

  sifted_here : (g : Standing) (gs : List Standing) → g ∷ gs ≡ handed.mid → SiftsIf sifts limit g handed.tells.0
  sifted_here g gs same = subst (λ s. SiftsIf sifts limit s handed.tells.0) (first_is g gs same) handed.tells.1

  pub finish_builds : (old new : List Standing) (shares : List (Share F)) → AreShared tells net workers 0 old built shares → AllGo mid new shares → Builds Tells cell (output_functions net) old new found
  finish_builds old new shares shared gone = by old built new shares handed.mid refl refl shared gone
    where
      by : (os bs zs : List Standing) (ones : List (Share F)) (gs : List Standing) → bs ≡ built → gs ≡ handed.mid → AreShared tells net workers 0 os bs ones → AllGo mid zs ones → Builds Tells cell (output_functions net) os zs found
      by os [] zs ones gs same_b same_g shared gone = absurd (none-some gathers.before (ap (λ l. slice_get l 0) same_b ∙ gathers.before_is))
      by [] (b ∷ bs) zs ones gs same_b same_g shared gone = absurd shared
      by (a ∷ os) (b ∷ bs) zs [] gs same_b same_g shared gone = absurd shared
      by (a ∷ os) (b ∷ bs) zs (one ∷ ones) [] same_b same_g shared gone = absurd (none-some gathers.first (ap (λ l. slice_get l 0) same_g ∙ gathers.first_is))
      by (a ∷ os) (b ∷ bs) [] (one ∷ ones) (g ∷ gs) same_b same_g shared gone = absurd (subst (λ l. AllGo l [] (one ∷ ones)) (mid_is g gs same_g) gone)
      by (a ∷ os) (b ∷ bs) (z ∷ zs) (one ∷ ones) (g ∷ gs) same_b same_g shared gone =
          let goes = subst (λ l. AllGo l (z ∷ zs) (one ∷ ones)) (mid_is g gs same_g) gone in
          let given = given_all b g bs gs same_b same_g in
          builds_told tells net workers cell hs Tells sifts limit found a b g handed.tells.0 handed.told handed.last z os bs gs zs one ones shared.0 shared.1 given.0 given.1 (handed_here g gs same_g) gathers.turns
          (sifted_here g gs same_g) handed.tells.2 handed.gone goes.0 goes.1

  -- and where it sifted
  module _ (does : sifts ≡ true) (n : ℕ) (some : 0 < length (output_functions net)) where
    pub finish_sifted : (old new : List Standing) (shares : List (Share F)) → AreBuilt shares → All IsCounted built → All (λ (s : Standing). s.vars ≡ n) built → AreShared tells net workers 0 old built shares → AllGo mid new shares
        → BuildsSifted Tells limit cell (output_functions net) old new found
    finish_sifted old new shares done counted vars shared gone = by old built new shares handed.mid refl refl done shared gone
      where
        by : (os bs zs : List Standing) (ones : List (Share F)) (gs : List Standing) → bs ≡ built → gs ≡ handed.mid → AreBuilt ones → AreShared tells net workers 0 os bs ones → AllGo mid zs ones
            → BuildsSifted Tells limit cell (output_functions net) os zs found
        by os [] zs ones gs same_b same_g all shared gone = absurd (none-some gathers.before (ap (λ l. slice_get l 0) same_b ∙ gathers.before_is))
        by [] (b ∷ bs) zs ones gs same_b same_g all shared gone = absurd shared
        by (a ∷ os) (b ∷ bs) zs [] gs same_b same_g all shared gone = absurd shared
        by (a ∷ os) (b ∷ bs) zs (one ∷ ones) [] same_b same_g all shared gone = absurd (none-some gathers.first (ap (λ l. slice_get l 0) same_g ∙ gathers.first_is))
        by (a ∷ os) (b ∷ bs) [] (one ∷ ones) (g ∷ gs) same_b same_g all shared gone = absurd (subst (λ l. AllGo l [] (one ∷ ones)) (mid_is g gs same_g) gone)
        by (a ∷ os) (b ∷ bs) (z ∷ zs) (one ∷ ones) (g ∷ gs) same_b same_g all shared gone =
            let goes = subst (λ l. AllGo l (z ∷ zs) (one ∷ ones)) (mid_is g gs same_g) gone in
            let given = given_all b g bs gs same_b same_g in
            let counted_here = subst (All IsCounted) (sym same_b) counted in
            let vars_here = subst (All (λ (s : Standing). s.vars ≡ n)) (sym same_b) vars in
            let first_vars : z.vars ≡ n =
            goes.0.works.vars_are ∙ handed.gone.works.vars_are ∙ handed.tells.2.looks.vars_are ∙ sift_vars sifts g handed.tells.0 (sifted_here g gs same_g) ∙ given.0.gains.vars_are ∙ All-head (λ (s : Standing). s.vars ≡ n) b bs vars_here in
            builds_sifted tells net workers cell hs Tells sifts limit found a b g handed.tells.0 handed.told handed.last z os bs gs zs one ones shared.0 shared.1 given.0 given.1 (handed_here g gs same_g) gathers.turns
            (sifted_here g gs same_g) handed.tells.2 handed.gone goes.0 goes.1 does all (unsifted_all tells net workers cell hs 1 os bs gs zs ones shared.1 given.1 goes.1)
            (subst (λ (s : Standing). All (λ (h : Handover). IsLive s h.to) hs) (first_is g gs same_g) gathers.held)
            (subst (λ (s : Standing). All (λ (h : Handover). s.adds ≤ h.to.generation) hs) (before_is b bs same_b) gathers.newer) gathers.rising
            (All-tail IsCounted b bs counted_here)
            (All-weaker (λ (x : Standing). x.vars ≡ n) (λ (x : Standing). x.vars ≡ z.vars) (λ x is. is ∙ sym first_vars) (b ∷ bs) vars_here)
            (ended_here g gs same_g)
          where
            ended_here : (x : Standing) (xs : List Standing) → x ∷ xs ≡ handed.mid → (es : List Entry) × (h : Handover) × (x.entries ≡ es ++ entry h.fetch x.number (calls.Fetch cell h.other) (replies.Fetched h.to true) ∷ [])
            ended_here x xs same = subst (λ (s : Standing). (es : List Entry) × (h : Handover) × (s.entries ≡ es ++ entry h.fetch s.number (calls.Fetch cell h.other) (replies.Fetched h.to true) ∷ [])) (first_is x xs same)
                (elim gathers.ends [ inl none ↦ absurd (omega (arith, ap (length {A = Handover}) none, as_many_handed cell (output_functions net) handed.mid gathers.first hs gathers.handed, some)) | inr ended ↦ ended ])

            sift_vars : (c : Bool) (x y : Standing) → SiftsIf c limit x y → y.vars ≡ x.vars
            sift_vars false x y same = ap (λ (s : Standing). s.vars) same
            sift_vars true x y (sift, counted) = sift.1.vars_are
