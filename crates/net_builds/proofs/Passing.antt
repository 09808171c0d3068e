-- Functions that are handed over one after another.
use Rattle.std.proofs.Common.{◌≡◌, ◌⊎◌, ℕ, zero, suc, ◌+◌, ◌<◌, ◌≤◌, Bool, false, true, List, [], ◌∷◌, ◌++◌, length, map, ne_eqb, refl, ap, sym, ◌∙◌, subst, append_assoc, length-append, arith, All, inl, inr}
use Rattle.std.specs.List.{AllZip, Contains}
use Rattle.std.proofs.Math.Seq.{take-append_seam}
use Rattle.std.proofs.lemmas.Bool.{cases_lt}
use Rattle.std.proofs.lemmas.List.{append-nil, map-append}
use Rattle.std.proofs.lemmas.List.Elements.{All-append, All-cons, All-nil, All-take, All-weaker, Contains-append_left, Contains-append_right}
use Rattle.function_laws.specs.declared.history.Call.TheVariants as calls
use Rattle.function_laws.specs.declared.history.Entry.{Entry}
use Rattle.function_laws.specs.declared.history.Name.{Name}
use Rattle.function_laws.specs.declared.history.Reply.TheVariants as replies
use Rattle.function_laws.specs.SessionEntries.{entry}
use Rattle.net_builds.specs.Handings.{AllHandedOver, Gives, IsDelivered, IsOrderly, IsPassed, IsWithin, Offers}
use Rattle.net_builds.specs.Standings.{Fetches, IsQuiet, Note, Posts, Standing, values_of}
use Rattle.net_builds.specs.declared.handing.Handover.{Handover}
use Rattle.net_builds.proofs.Pairs.{zip_contains}

abbrev pub post_of : ℕ → ℕ → Handover → Entry
post_of cell number h = entry h.post number (calls.Post cell h.from) replies.Done

abbrev pub fetch_of : ℕ → ℕ → Handover → Entry
fetch_of cell number h = entry h.fetch number (calls.Fetch cell h.other) (replies.Fetched h.to true)

abbrev pub places : List Handover → List ℕ
places hs = map (λ (h : Handover). h.post) hs

-- what holds of a list holds of its front
pub all_front : {X : Type 0} (P : X → Type 0) (xs ys : List X) → All P (xs ++ ys) → All P xs
all_front P xs ys all = subst (All P) (take-append_seam xs ys) (All-take P (length xs) (xs ++ ys) all)

-- a post to the cell is one to no other cell
pub post_within : (cell place number : ℕ) (name : Name) → IsWithin cell (entry place number (calls.Post cell name) replies.Done)
post_within cell place number name = record { plain = refl; elsewhere = λ other apart. ne_eqb other cell apart }

-- an entry that posts nothing
pub quiet_within : (cell : ℕ) (e : Entry) → IsQuiet e → IsWithin cell e
quiet_within cell e quiet = record { plain = quiet.plain; elsewhere = λ other apart. quiet.posts other }

pub quiet_orderly : (cell : ℕ) (hs : List Handover) (e : Entry) → IsQuiet e → IsOrderly cell hs e
quiet_orderly cell hs e quiet = ((quiet_within cell e quiet, λ posts. absurd (apart (sym (quiet.posts cell) ∙ posts))), quiet.keeps)
  where
    apart : false ≡ true → ⊥
    apart same = cc

-- one handover more
places_more : (hs : List Handover) (h : Handover) → places (hs ++ h ∷ []) ≡ places hs ++ h.post ∷ []
places_more hs h = map-append (λ (x : Handover). x.post) hs (h ∷ [])

pub orderly_more : (cell : ℕ) (hs : List Handover) (h : Handover) (e : Entry) → IsOrderly cell hs e → IsOrderly cell (hs ++ h ∷ []) e
orderly_more cell hs h e known = (
  (
    known.0.0,
    λ posts. subst (λ ps. Contains ps e.place) (sym (places_more hs h)) (Contains-append_left (places hs) (h.post ∷ []) e.place (known.0.1 posts)),
  ),
  known.1,
)

post_orderly : (cell number : ℕ) (hs : List Handover) (h : Handover) → IsOrderly cell (hs ++ h ∷ []) (post_of cell number h)
post_orderly cell number hs h = (
  (
    post_within cell h.post number h.from,
    λ posts. subst (λ ps. Contains ps h.post) (sym (places_more hs h)) (Contains-append_right (places hs) (h.post ∷ []) h.post (0, omega arith, refl)),
  ),
  λ orders. refl,
)

fetch_orderly : (cell number : ℕ) (hs : List Handover) (h : Handover) → IsOrderly cell hs (fetch_of cell number h)
fetch_orderly cell number hs h = ((record { plain = refl; elsewhere = λ other apart. refl }, λ posts. absurd (apart posts)), λ orders. refl)
  where
    apart : false ≡ true → ⊥
    apart same = cc

-- What a session leaves that has more calls: those of before, and what there was at their places, are a front.
pub record Grows (old new : Standing) : Type 0 where
  pub vars_are : new.vars ≡ old.vars
  pub number_is : new.number ≡ old.number
  pub gained : List Entry
  pub entries_are : new.entries ≡ old.entries ++ gained
  pub behind : List Note
  pub placed_are : new.placed ≡ old.placed ++ behind

pub grows_none : (s : Standing) → Grows s s
grows_none s = record { vars_are = refl; number_is = refl; gained = []; entries_are = sym (append-nil s.entries); behind = []; placed_are = sym (append-nil s.placed) }

pub grows_then : (a b c : Standing) → Grows a b → Grows b c → Grows a c
grows_then a b c first second = record {
  vars_are = second.vars_are ∙ first.vars_are;
  number_is = second.number_is ∙ first.number_is;
  gained = first.gained ++ second.gained;
  entries_are = second.entries_are ∙ ap (λ (es : List Entry). es ++ second.gained) first.entries_are ∙ append_assoc a.entries first.gained second.gained;
  behind = first.behind ++ second.behind;
  placed_are = second.placed_are ∙ ap (λ (notes : List Note). notes ++ second.behind) first.placed_are ∙ append_assoc a.placed first.behind second.behind;
}

pub posts_grow : (cell place : ℕ) (old new : Standing) (name : Name) → Posts cell old new name place → Grows old new
posts_grow cell place old new name posts = record {
  vars_are = posts.vars_are;
  number_is = posts.number_is;
  gained = entry place old.number (calls.Post cell name) replies.Done ∷ [];
  entries_are = posts.entries_are;
  behind = posts.note ∷ [];
  placed_are = posts.placed_are;
}

pub fetches_grow : (cell place : ℕ) (old new : Standing) (other to : Name) (posted : Bool) → Fetches cell old new other to posted place → Grows old new
fetches_grow cell place old new other to posted fetches = record {
  vars_are = fetches.vars_are;
  number_is = fetches.number_is;
  gained = entry place old.number (calls.Fetch cell other) (replies.Fetched to posted) ∷ [];
  entries_are = fetches.entries_are;
  behind = fetches.behind;
  placed_are = fetches.placed_are;
}

-- what was passed and posted is so when there are more calls
passed_grown : (cell : ℕ) (a b f g : Standing) (h : Handover) → Grows a b → Grows f g → IsPassed cell a f h → IsPassed cell b g h
passed_grown cell a b f g h giver first passed = (
  moved a b giver (post_of cell a.number h) (post_of cell b.number h) (ap (λ n. post_of cell n h) (sym giver.number_is)) passed.0,
  moved f g first (fetch_of cell f.number h) (fetch_of cell g.number h) (ap (λ n. fetch_of cell n h) (sym first.number_is)) passed.1,
)
  where
    moved : (x y : Standing) → Grows x y → (d e : Entry) → d ≡ e → Contains x.entries d → Contains y.entries e
    moved x y grows d e same there =
        subst (Contains y.entries) same (subst (λ es. Contains es d) (sym grows.entries_are) (Contains-append_left x.entries grows.gained d there))

pub delivered_grown : (cell : ℕ) (wanted : ℕ → Bool) (a b f g : Standing) (h : Handover) → Grows a b → Grows f g → IsDelivered cell wanted a f h → IsDelivered cell wanted b g h
delivered_grown cell wanted a b f g h giver first is = record {
  posting = is.posting;
  among = subst (λ (notes : List Note). Contains notes is.posting) (sym giver.placed_are) (Contains-append_left a.placed giver.behind is.posting is.among);
  at_post = is.at_post;
  built = is.built ∙ ap (λ n. values_of n wanted) (sym giver.vars_are);
  passed = passed_grown cell a b f g h giver first is.passed;
}

pub handed_grown : (cell : ℕ) (wanted : List (ℕ → Bool)) (old new : List Standing) (f g : Standing) (hs : List Handover) → AllZip Grows old new → Grows f g
    → AllHandedOver cell wanted old f hs → AllHandedOver cell wanted new g hs
handed_grown cell [] old new f g [] all first handed = tt
handed_grown cell [] old new f g (h ∷ hs) all first handed = absurd handed
handed_grown cell (w ∷ wanted) old new f g [] all first handed = absurd handed
handed_grown cell (w ∷ wanted) old new f g (h ∷ hs) all first handed =
    let to = zip_contains Grows old new handed.0.0 all handed.0.1 in (
      (to.0, to.1, delivered_grown cell w handed.0.0 to.0 f g h to.2 first handed.0.2),
      handed_grown cell wanted old new f g hs all first handed.1,
    )

pub handed_more : (cell : ℕ) (wanted : List (ℕ → Bool)) (w : ℕ → Bool) (sessions : List Standing) (first : Standing) (hs : List Handover) (h : Handover) → AllHandedOver cell wanted sessions first hs
    → ((giver : Standing) × Contains sessions giver × IsDelivered cell w giver first h) → AllHandedOver cell (wanted ++ w ∷ []) sessions first (hs ++ h ∷ [])
handed_more cell [] w sessions first [] h handed one = (one, tt)
handed_more cell [] w sessions first (x ∷ hs) h handed one = absurd handed
handed_more cell (v ∷ wanted) w sessions first [] h handed one = absurd handed
handed_more cell (v ∷ wanted) w sessions first (x ∷ hs) h handed one = (handed.0, handed_more cell wanted w sessions first hs h handed.1 one)

-- session k posts one more
pub posts_more : (cell fetched k : ℕ) (a b c : Standing) (hs : List Handover) (h : Handover) → Gives cell hs fetched k a b → Posts cell b c h.from h.post → Gives cell (hs ++ h ∷ []) fetched k a c
posts_more cell fetched k a b c hs h gives posts =
    let gains = gives.gains in
    let entries : c.entries ≡ a.entries ++ (gains.gained ++ post_of cell b.number h ∷ []) =
    posts.entries_are ∙ ap (λ (es : List Entry). es ++ post_of cell b.number h ∷ []) gains.entries_are ∙ append_assoc a.entries gains.gained (post_of cell b.number h ∷ []) in
    let placed : c.placed ≡ a.placed ++ (gains.behind ++ posts.note ∷ []) =
    posts.placed_are ∙ ap (λ (notes : List Note). notes ++ posts.note ∷ []) gains.placed_are ∙ append_assoc a.placed gains.behind (posts.note ∷ []) in
    record {
      gains = record {
        vars_are = posts.vars_are ∙ gains.vars_are;
        number_is = posts.number_is ∙ gains.number_is;
        notes_are = posts.notes_are ∙ gains.notes_are;
        gained = gains.gained ++ post_of cell b.number h ∷ [];
        entries_are = entries;
        each = All-append (IsOrderly cell (hs ++ h ∷ [])) gains.gained (post_of cell b.number h ∷ [])
            (All-weaker (IsOrderly cell hs) (IsOrderly cell (hs ++ h ∷ [])) (orderly_more cell hs h) gains.gained gains.each)
            (All-cons (IsOrderly cell (hs ++ h ∷ [])) (post_of cell b.number h) [] (post_orderly cell b.number hs h) (All-nil (IsOrderly cell (hs ++ h ∷ []))));
        more = omega (arith, gains.more, posts.adds_are);
        behind = gains.behind ++ posts.note ∷ [];
        placed_are = placed;
      };
      kept = λ other below. posts.kept other ∙ gives.kept other below;
      rows = omega (arith, gives.rows, posts.rows);
      offers = λ apart. offered (gives.offers apart) placed;
    }
  where
    offered : Offers hs k a b gives.gains.gained → c.placed ≡ a.placed ++ (gives.gains.behind ++ posts.note ∷ []) → Offers (hs ++ h ∷ []) k a c (gives.gains.gained ++ post_of cell b.number h ∷ [])
    offered offers placed = record {
      done = All-append (λ (e : Entry). e.reply ≡ replies.Done) gives.gains.gained (post_of cell b.number h ∷ []) offers.done
          (All-cons (λ (e : Entry). e.reply ≡ replies.Done) (post_of cell b.number h) [] refl (All-nil (λ (e : Entry). e.reply ≡ replies.Done)));
      stands = λ other. posts.kept other ∙ offers.stands other;
      first = λ less. by less (cases_lt k (length hs));
    }
      where
        by : k < length (hs ++ h ∷ []) → (k < length hs) ⊎ (length hs ≤ k)
            → (note : Note) × Contains c.placed note × Contains (places (hs ++ h ∷ [])) note.place × ((other : Name) → note.stands other ≡ a.stands other) × All (λ (e : Entry). e.place < note.place) a.entries × ((e : Entry) × Contains c.entries e × (e.place ≡ note.place))
        by less (inl before) =
            let was = offers.first before in (
              was.0,
              subst (λ (notes : List Note). Contains notes was.0) (sym posts.placed_are) (Contains-append_left b.placed (posts.note ∷ []) was.0 was.1),
              subst (λ ps. Contains ps was.0.place) (sym (places_more hs h)) (Contains-append_left (places hs) (h.post ∷ []) was.0.place was.2),
              was.3,
              was.4,
              (was.5.0, subst (λ (es : List Entry). Contains es was.5.0) (sym posts.entries_are) (Contains-append_left b.entries (post_of cell b.number h ∷ []) was.5.0 was.5.1), was.5.2),
            )
        by less (inr now) = (
          posts.note,
          subst (λ (notes : List Note). Contains notes posts.note) (sym posts.placed_are) (Contains-append_right b.placed (posts.note ∷ []) posts.note (0, omega arith, refl)),
          subst (λ ps. Contains ps posts.note.place) (sym (places_more hs h))
              (subst (Contains (places hs ++ h.post ∷ [])) (sym posts.place_is) (Contains-append_right (places hs) (h.post ∷ []) h.post (0, omega arith, refl))),
          λ other. posts.stood other ∙ offers.stands other,
          subst (λ p. All (λ (e : Entry). e.place < p) a.entries) (sym posts.place_is)
              (all_front (λ (e : Entry). e.place < h.post) a.entries gives.gains.gained (subst (All (λ (e : Entry). e.place < h.post)) gives.gains.entries_are posts.later)),
          (
            post_of cell b.number h,
            subst (λ (es : List Entry). Contains es (post_of cell b.number h)) (sym posts.entries_are)
                (Contains-append_right b.entries (post_of cell b.number h ∷ []) (post_of cell b.number h) (0, omega arith, refl)),
            sym posts.place_is,
          ),
        )

-- another one posts
pub posts_elsewhere : (cell fetched k : ℕ) (a b : Standing) (hs : List Handover) (h : Handover) → (k ≡ length hs → ⊥) → Gives cell hs fetched k a b → Gives cell (hs ++ h ∷ []) fetched k a b
posts_elsewhere cell fetched k a b hs h other gives = record {
  gains = record {
    vars_are = gives.gains.vars_are;
    number_is = gives.gains.number_is;
    notes_are = gives.gains.notes_are;
    gained = gives.gains.gained;
    entries_are = gives.gains.entries_are;
    each = All-weaker (IsOrderly cell hs) (IsOrderly cell (hs ++ h ∷ [])) (orderly_more cell hs h) gives.gains.gained gives.gains.each;
    more = gives.gains.more;
    behind = gives.gains.behind;
    placed_are = gives.gains.placed_are;
  };
  kept = gives.kept;
  rows = gives.rows;
  offers = λ some. (let offers = gives.offers some in record {
    done = offers.done;
    stands = offers.stands;
    first = λ less. (let was = offers.first (omega (arith, less, other, length-append hs (h ∷ []))) in (
      was.0,
      was.1,
      subst (λ ps. Contains ps was.0.place) (sym (places_more hs h)) (Contains-append_left (places hs) (h.post ∷ []) was.0.place was.2),
      was.3,
      was.4,
      was.5,
    ));
  });
}

-- the first one fetches
pub fetches_more : (cell fetched : ℕ) (a b c : Standing) (hs : List Handover) (h : Handover) → Gives cell hs fetched 0 a b → Fetches cell b c h.other h.to true h.fetch → Gives cell hs (fetched + 1) 0 a c
fetches_more cell fetched a b c hs h gives fetches =
    let gains = gives.gains in record {
      gains = record {
        vars_are = fetches.vars_are ∙ gains.vars_are;
        number_is = fetches.number_is ∙ gains.number_is;
        notes_are = fetches.notes_are ∙ gains.notes_are;
        gained = gains.gained ++ fetch_of cell b.number h ∷ [];
        entries_are = fetches.entries_are ∙ ap (λ (es : List Entry). es ++ fetch_of cell b.number h ∷ []) gains.entries_are ∙ append_assoc a.entries gains.gained (fetch_of cell b.number h ∷ []);
        each = All-append (IsOrderly cell hs) gains.gained (fetch_of cell b.number h ∷ []) gains.each
            (All-cons (IsOrderly cell hs) (fetch_of cell b.number h) [] (fetch_orderly cell b.number hs h) (All-nil (IsOrderly cell hs)));
        more = omega (arith, gains.more, fetches.more);
        behind = gains.behind ++ fetches.behind;
        placed_are = fetches.placed_are ∙ ap (λ (notes : List Note). notes ++ fetches.behind) gains.placed_are ∙ append_assoc a.placed gains.behind fetches.behind;
      };
      kept = λ other below. fetches.kept other (omega (arith, below, gains.more)) ∙ gives.kept other below;
      rows = omega (arith, gives.rows, fetches.rows);
      offers = λ apart. absurd (apart refl);
    }

-- and others don't
pub fetches_elsewhere : (cell fetched k : ℕ) (a b : Standing) (hs : List Handover) → (k ≡ 0 → ⊥) → Gives cell hs fetched k a b → Gives cell hs (fetched + 1) k a b
fetches_elsewhere cell fetched zero a b hs apart gives = absurd (apart refl)
fetches_elsewhere cell fetched (suc k) a b hs apart gives = record { gains = gives.gains; kept = gives.kept; rows = gives.rows; offers = gives.offers }
