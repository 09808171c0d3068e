-- One function more is handed over, and what is left where that was refused.
use Rattle.std.proofs.Common.{◌≡◌, ℕ, zero, suc, ◌+◌, ◌<◌, ◌≤◌, Bool, false, true, List, [], ◌∷◌, ◌++◌, length, map, set, Some, refl, ap, sym, ◌∙◌, subst, append_assoc, length-append, inl, inr, arith}
use Rattle.std.specs.Prelude.{slice_get}
use Rattle.std.specs.List.{AllZip, Contains}
use Rattle.std.proofs.lemmas.List.{append-nil, length-map, map-append}
use Rattle.std.proofs.lemmas.List.Elements.{All-append, All-cons, All-map, All-nil, All-weaker, Contains-append_right}
use Rattle.function_laws.specs.declared.history.Call.TheVariants as calls
use Rattle.function_laws.specs.declared.history.Entry.{Entry}
use Rattle.function_laws.specs.declared.history.Name.{Name}
use Rattle.function_laws.specs.declared.history.Reply.TheVariants as replies
use Rattle.function_laws.specs.SessionEntries.{entry}
use Rattle.net_builds.specs.Handings.{AreInTurn, Gathers, Gives, HandsOne, IsDelivered, IsOrderly, IsWithin, Looks, PairsFrom, Returns}
use Rattle.net_builds.specs.Holdings.{AreRising, LetsAllGo}
use Rattle.net_builds.specs.Standings.{Holds, IsLive, IsQuiet, KeepsOrders, Note, Posts, Standing, values_of}
use Rattle.net_builds.specs.declared.handing.Handover.{Handover}
use Rattle.net_builds.proofs.HoldingLemmas.{rising_append}
use Rattle.net_builds.proofs.Pairs.{from_at, from_partner, from_set, from_then, from_zip, get_contains, get_set_same, zip_at, zip_contains, zip_set, zip_then}
use Rattle.net_builds.proofs.Passing.{Grows, delivered_grown, fetch_of, fetches_elsewhere, fetches_grow, fetches_more, grows_none, grows_then, handed_grown, handed_more, post_of, post_within, posts_elsewhere, posts_grow, posts_more, quiet_within}
use Rattle.net_builds.proofs.StandingLemmas.{gains_none, kept_live, still_live}

-- a post or a fetch leaves other names
abbrev Stays : Standing → Standing → Type 0
Stays a b = (a.adds ≤ b.adds) × ((other : Name) → b.stands other ≡ a.stands other)

-- none is handed over
pub gathers_none : (cell : ℕ) (sessions : List Standing) (s : Standing) → slice_get sessions 0 ≡ Some s → Gathers cell [] sessions sessions []
unfolding gains_none
gathers_none cell sessions s at = record {
  each = each 0 sessions;
  before = s;
  before_is = at;
  first = s;
  first_is = at;
  handed = tt;
  turns = tt;
  ends = inl refl;
  held = All-nil (λ (h : Handover). IsLive s h.to);
  newer = All-nil (λ (h : Handover). s.adds ≤ h.to.generation);
  rising = tt;
}
  where
    gives : (k : ℕ) (x : Standing) → Gives cell [] 0 k x x
    gives k x = record {
      gains = gains_none (IsOrderly cell []) x;
      kept = λ other below. refl;
      rows = omega arith;
      offers = λ apart. record { done = All-nil (λ (e : Entry). e.reply ≡ replies.Done); stands = λ other. refl; first = λ less. absurd (omega (arith, less)) };
    }

    each : (k : ℕ) (xs : List Standing) → PairsFrom (Gives cell [] 0) k xs xs
    each k [] = tt
    each k (x ∷ xs) = (gives k x, each (suc k) xs)

-- One function more is handed over.
module _ (cell : ℕ) (old ns new : List Standing) (some : List (ℕ → Bool)) (hs : List Handover) (giver : ℕ) (name : Name) (w : ℕ → Bool) (h : Handover)
    (so_far : Gathers cell some old ns hs) (one : HandsOne cell giver ns new name h) (in_turn : (k : ℕ) → k < length old → k ≡ length hs → k ≡ giver)
    (holds : (s : Standing) → slice_get old giver ≡ Some s → Holds s name w) (turns : AreInTurn 0 (hs ++ h ∷ [])) where
  abbrev more : List Handover
  more = hs ++ h ∷ []

  abbrev mid : List Standing
  mid = set ns giver one.posted

  posts : Posts cell one.from one.posted h.from h.post
  posts = subst (λ (n : Name). Posts cell one.from one.posted n h.post) (sym one.name_is) one.posts

  each_mid : PairsFrom (Gives cell more (length hs)) 0 old mid
  each_mid = from_set (Gives cell hs (length hs)) (Gives cell more (length hs)) 0 old ns giver one.from one.posted one.from_is
      (λ x there gives. posts_more cell (length hs) (0 + giver) x one.from one.posted hs h gives posts)
      (λ j a b low high apart gives. posts_elsewhere cell (length hs) j a b hs h (λ e. apart (in_turn j (omega (arith, high)) e ∙ (let same : giver ≡ 0 + giver = omega arith in same))) gives) so_far.each

  each_new : PairsFrom (Gives cell more (length more)) 0 old new
  each_new = subst (λ l. PairsFrom (Gives cell more (length more)) 0 old l) (sym one.new_is)
      (subst (λ n. PairsFrom (Gives cell more n) 0 old (set mid 0 one.last)) (let long : length hs + 1 ≡ length more = omega (arith, length-append hs (h ∷ [])) in long)
      (from_set (Gives cell more (length hs)) (Gives cell more (length hs + 1)) 0 old mid 0 one.first one.last one.first_is
      (λ x there gives. fetches_more cell (length hs) x one.first one.last more h gives one.fetches)
      (λ j a b low high apart gives. fetches_elsewhere cell (length hs) j a b more apart gives) each_mid))

  new_first : slice_get new 0 ≡ Some one.last
  new_first = ap (λ l. slice_get l 0) one.new_is ∙ get_set_same mid 0 one.first one.last one.first_is

  mid_grown : AllZip Grows mid new
  mid_grown = subst (AllZip Grows mid) (sym one.new_is) (zip_set Grows grows_none mid 0 one.first one.last one.first_is (fetches_grow cell h.fetch one.first one.last h.other h.to true one.fetches))

  grown : AllZip Grows ns new
  grown = zip_then Grows Grows Grows grows_then ns mid new (zip_set Grows grows_none ns giver one.from one.posted one.from_is (posts_grow cell h.post one.from one.posted h.from posts)) mid_grown

  stays : Stays so_far.first one.first
  stays = zip_at Stays ns mid 0 so_far.first one.first
      (zip_set Stays (λ x. (omega arith, λ other. refl)) ns giver one.from one.posted one.from_is (omega (arith, posts.adds_are), posts.kept)) so_far.first_is one.first_is

  kept_to : (name : Name) → IsLive so_far.first name → IsLive one.last name
  kept_to name live = kept_live one.first one.last name one.fetches.more one.fetches.kept (still_live so_far.first one.first name stays.0 (stays.1 name) live)

  -- what is delivered by the session as it was when it had posted
  delivered : IsDelivered cell w one.posted one.last h
  delivered =
      let was = from_partner (Gives cell hs (length hs)) 0 old ns giver one.from so_far.each one.from_is in
      let held = holds was.0 was.1 in
      let named : h.from ≡ name = one.name_is in
      record {
        posting = posts.note;
        among = subst (λ (notes : List Note). Contains notes posts.note) (sym posts.placed_are) (Contains-append_right one.from.placed (posts.note ∷ []) posts.note (0, omega arith, refl));
        at_post = posts.place_is;
        built = posts.stood h.from ∙ ap one.from.stands named ∙ was.2.kept name held.given ∙ held.stands ∙ ap (λ n. values_of n w) (sym (posts.vars_are ∙ was.2.gains.vars_are));
        passed = (
          subst (λ n. Contains one.posted.entries (post_of cell n h)) (sym posts.number_is)
              (subst (λ (es : List Entry). Contains es (post_of cell one.from.number h)) (sym posts.entries_are)
              (Contains-append_right one.from.entries (post_of cell one.from.number h ∷ []) (post_of cell one.from.number h) (0, omega arith, refl))),
          subst (λ n. Contains one.last.entries (fetch_of cell n h)) (sym one.fetches.number_is)
              (subst (λ (es : List Entry). Contains es (fetch_of cell one.first.number h)) (sym one.fetches.entries_are)
              (Contains-append_right one.first.entries (fetch_of cell one.first.number h ∷ []) (fetch_of cell one.first.number h) (0, omega arith, refl))),
        );
      }

  delivered_now : (giver : Standing) × Contains new giver × IsDelivered cell w giver one.last h
  delivered_now =
      let to = zip_contains Grows mid new one.posted mid_grown (get_contains mid giver one.posted (get_set_same ns giver one.from one.posted one.from_is)) in
      (to.0, to.1, delivered_grown cell w one.posted to.0 one.last one.last h to.2 (grows_none one.last) delivered)

  pub gathers_more : Gathers cell (some ++ w ∷ []) old new more
  gathers_more = record {
    each = each_new;
    before = so_far.before;
    before_is = so_far.before_is;
    first = one.last;
    first_is = new_first;
    handed = handed_more cell some w new one.last hs h
        (handed_grown cell some ns new so_far.first one.last hs grown (zip_at Grows ns new 0 so_far.first one.last grown so_far.first_is new_first) so_far.handed) delivered_now;
    turns = turns;
    ends = inr (one.first.entries, h, one.fetches.entries_are ∙ ap (λ m. one.first.entries ++ fetch_of cell m h ∷ []) (sym one.fetches.number_is));
    held = All-append (λ (x : Handover). IsLive one.last x.to) hs (h ∷ [])
        (All-weaker (λ (x : Handover). IsLive so_far.first x.to) (λ (x : Handover). IsLive one.last x.to) (λ x. kept_to x.to) hs so_far.held)
        (All-cons (λ (x : Handover). IsLive one.last x.to) h [] one.fetches.held (All-nil (λ (x : Handover). IsLive one.last x.to)));
    newer = All-append (λ (x : Handover). so_far.before.adds ≤ x.to.generation) hs (h ∷ []) so_far.newer
        (All-cons (λ (x : Handover). so_far.before.adds ≤ x.to.generation) h [] (omega (arith, earlier.gains.more, stays.0, one.fetches.newer)) (All-nil (λ (x : Handover). so_far.before.adds ≤ x.to.generation)));
    rising = subst AreRising (sym (map-append (λ (x : Handover). x.to) hs (h ∷ []))) (rising_append one.first.adds (map (λ (x : Handover). x.to) hs) (h.to ∷ []) so_far.rising (All-nil (λ (n : Name). h.to.generation < n.generation), tt)
        (All-map (λ (n : Name). n.generation < one.first.adds) (λ (x : Handover). x.to) hs
        (All-weaker (λ (x : Handover). IsLive so_far.first x.to) (λ (x : Handover). x.to.generation < one.first.adds) (λ x live. omega (arith, live.2, stays.0)) hs so_far.held))
        (All-cons (λ (n : Name). one.first.adds ≤ n.generation) h.to [] one.fetches.newer (All-nil (λ (n : Name). one.first.adds ≤ n.generation))));
  }
    where
      earlier : Gives cell hs (length hs) 0 so_far.before so_far.first
      earlier = from_at (Gives cell hs (length hs)) 0 old ns 0 so_far.before so_far.first so_far.each so_far.before_is so_far.first_is

-- what tells of a session as it was
pub looks_return : (cell : ℕ) (sifts : Bool) (a b : Standing) → Looks a b → Returns cell sifts a b
looks_return cell sifts a b looks = record {
  vars_are = looks.vars_are;
  number_is = looks.number_is;
  gained = looks.gained;
  entries_are = looks.entries_are;
  within = All-weaker IsQuiet (IsWithin cell) (quiet_within cell) looks.gained looks.quiet;
  keeps = λ _. All-weaker IsQuiet KeepsOrders (λ e quiet. quiet.keeps) looks.gained looks.quiet;
  more = looks.more;
  kept = λ other below. looks.kept other;
  rows = looks.rows;
}

pub returns_none : (cell : ℕ) (sifts : Bool) (s : Standing) → Returns cell sifts s s
returns_none cell sifts s = record {
  vars_are = refl;
  number_is = refl;
  gained = [];
  entries_are = sym (append-nil s.entries);
  within = All-nil (IsWithin cell);
  keeps = λ _. All-nil KeepsOrders;
  more = omega arith;
  kept = λ other below. refl;
  rows = omega arith;
}

pub returns_then : (cell : ℕ) (sifts : Bool) (a b c : Standing) → Returns cell sifts a b → Returns cell sifts b c → Returns cell sifts a c
returns_then cell sifts a b c first second = record {
  vars_are = second.vars_are ∙ first.vars_are;
  number_is = second.number_is ∙ first.number_is;
  gained = first.gained ++ second.gained;
  entries_are = second.entries_are ∙ ap (λ (es : List Entry). es ++ second.gained) first.entries_are ∙ append_assoc a.entries first.gained second.gained;
  within = All-append (IsWithin cell) first.gained second.gained first.within second.within;
  keeps = λ none. All-append KeepsOrders first.gained second.gained (first.keeps none) (second.keeps none);
  more = omega (arith, first.more, second.more);
  kept = λ other below. second.kept other (omega (arith, below, first.more)) ∙ first.kept other below;
  rows = omega (arith, first.rows, second.rows);
}

pub returns_unsifted : (cell : ℕ) (sifts : Bool) (a b : Standing) → Returns cell false a b → Returns cell sifts a b
returns_unsifted cell sifts a b returns = record {
  vars_are = returns.vars_are;
  number_is = returns.number_is;
  gained = returns.gained;
  entries_are = returns.entries_are;
  within = returns.within;
  keeps = λ _. returns.keeps refl;
  more = returns.more;
  kept = returns.kept;
  rows = returns.rows;
}

-- a name was posted, and no memory was there to fetch it
pub posted_returns : (cell : ℕ) (old new : Standing) (name : Name) (place : ℕ) → Posts cell old new name place → Returns cell false old new
posted_returns cell old new name place posts = record {
  vars_are = posts.vars_are;
  number_is = posts.number_is;
  gained = entry place old.number (calls.Post cell name) replies.Done ∷ [];
  entries_are = posts.entries_are;
  within = All-cons (IsWithin cell) (entry place old.number (calls.Post cell name) replies.Done) [] (post_within cell place old.number name) (All-nil (IsWithin cell));
  keeps = λ _. All-cons KeepsOrders (entry place old.number (calls.Post cell name) replies.Done) [] (λ orders. refl) (All-nil KeepsOrders);
  more = omega (arith, posts.adds_are);
  kept = λ other below. posts.kept other;
  rows = posts.rows;
}

-- Functions were handed over, other calls came, and what was fetched was let go.
module _ (cell : ℕ) (sifts : Bool) (wanted : List (ℕ → Bool)) (old mid late : List Standing) (hs : List Handover) (gathers : Gathers cell wanted old mid hs) (returns : AllZip (Returns cell sifts) mid late)
    (told last : Standing) (told_is : slice_get late 0 ≡ Some told) (gone : LetsAllGo told last (map (λ (h : Handover). h.to) hs)) where
  -- of the first session
  back_first : (a : Standing) → slice_get old 0 ≡ Some a → (b : Standing) × Gives cell hs (length hs) 0 a b × Returns cell sifts b told → Returns cell sifts a last
  back_first a at (b, gives, back) = record {
    vars_are = gone.works.vars_are ∙ back.vars_are ∙ gives.gains.vars_are;
    number_is = gone.works.number_is ∙ back.number_is ∙ gives.gains.number_is;
    gained = gives.gains.gained ++ (back.gained ++ gone.works.gained);
    entries_are = gone.works.entries_are ∙ ap (λ (es : List Entry). es ++ gone.works.gained) back.entries_are ∙ append_assoc b.entries back.gained gone.works.gained
        ∙ ap (λ (es : List Entry). es ++ (back.gained ++ gone.works.gained)) gives.gains.entries_are ∙ append_assoc a.entries gives.gains.gained (back.gained ++ gone.works.gained);
    within = All-append (IsWithin cell) gives.gains.gained (back.gained ++ gone.works.gained)
        (All-weaker (IsOrderly cell hs) (IsWithin cell) (λ e known. known.0.0) gives.gains.gained gives.gains.each)
        (All-append (IsWithin cell) back.gained gone.works.gained back.within (All-weaker IsQuiet (IsWithin cell) (quiet_within cell) gone.works.gained gone.works.each));
    keeps = λ none. All-append KeepsOrders gives.gains.gained (back.gained ++ gone.works.gained)
        (All-weaker (IsOrderly cell hs) KeepsOrders (λ e known. known.1) gives.gains.gained gives.gains.each)
        (All-append KeepsOrders back.gained gone.works.gained (back.keeps none) (All-weaker IsQuiet KeepsOrders (λ e quiet. quiet.keeps) gone.works.gained gone.works.each));
    more = omega (arith, gives.gains.more, back.more, gone.works.more);
    kept = λ other below.
        gone.kept other (All-map (λ (x : Name). other.generation ≡ x.generation → ⊥) (λ (h : Handover). h.to) hs
        (All-weaker (λ (h : Handover). gathers.before.adds ≤ h.to.generation) (λ (h : Handover). other.generation ≡ h.to.generation → ⊥)
        (λ h le e. omega (arith, below, le, e, ap (λ (s : Standing). s.adds) (same_first a at))) hs gathers.newer))
        ∙ back.kept other (omega (arith, below, gives.gains.more)) ∙ gives.kept other below;
    rows = omega (arith, gone.rows, back.rows, gives.rows, length-map hs (λ (h : Handover). h.to));
  }
    where
      same_first : (x : Standing) → slice_get old 0 ≡ Some x → x ≡ gathers.before
      same_first x there = (let e : Some x ≡ Some gathers.before = sym there ∙ gathers.before_is in cc)

  -- and of another one
  back_other : (k : ℕ) (a c : Standing) → (k ≡ 0 → ⊥) → (b : Standing) × Gives cell hs (length hs) k a b × Returns cell sifts b c → Returns cell sifts a c
  back_other zero a c apart both = absurd (apart refl)
  back_other (suc k) a c apart (b, gives, back) = record {
    vars_are = back.vars_are ∙ gives.gains.vars_are;
    number_is = back.number_is ∙ gives.gains.number_is;
    gained = gives.gains.gained ++ back.gained;
    entries_are = back.entries_are ∙ ap (λ (es : List Entry). es ++ back.gained) gives.gains.entries_are ∙ append_assoc a.entries gives.gains.gained back.gained;
    within = All-append (IsWithin cell) gives.gains.gained back.gained (All-weaker (IsOrderly cell hs) (IsWithin cell) (λ e known. known.0.0) gives.gains.gained gives.gains.each) back.within;
    keeps = λ none. All-append KeepsOrders gives.gains.gained back.gained (All-weaker (IsOrderly cell hs) KeepsOrders (λ e known. known.1) gives.gains.gained gives.gains.each) (back.keeps none);
    more = omega (arith, gives.gains.more, back.more);
    kept = λ other below. back.kept other (omega (arith, below, gives.gains.more)) ∙ gives.kept other below;
    rows = omega (arith, gives.rows, back.rows);
  }

  abbrev Both : ℕ → Standing → Standing → Type 0
  Both j a c = (b : Standing) × Gives cell hs (length hs) j a b × Returns cell sifts b c

  pub gathered_returns : AllZip (Returns cell sifts) old (set late 0 last)
  gathered_returns = from_zip (λ _. Returns cell sifts) (Returns cell sifts) (λ j x y r. r) 0 old (set late 0 last)
      (from_set Both (λ _. Returns cell sifts) 0 old late 0 told last told_is back_first (λ j a c low high apart both. back_other j a c apart both)
      (from_then (Gives cell hs (length hs)) (Returns cell sifts) 0 old mid late gathers.each returns))
