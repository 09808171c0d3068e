-- Names that are held, and let go one after another.
use Rattle.std.proofs.Common.{◌≡◌, ℕ, zero, suc, ◌+◌, ◌<◌, ◌≤◌, List, [], ◌∷◌, ◌++◌, length, get_or, map, replicate, take, Option, Some, None, All, refl, ap, sym, subst, ◌∙◌, length-append, arith}
use Rattle.std.proofs.Math.ListN.{set}
use Rattle.std.proofs.lemmas.List.Elements.{All-append, All-cons, All-head, All-nil, All-tail, All-weaker}
use Rattle.std.proofs.lemmas.Option.{none-some, same_Some}
use Rattle.function_laws.specs.declared.history.Entry.{Entry}
use Rattle.function_laws.specs.declared.history.Name.{Name}
use Rattle.function_laws.specs.declared.history.Reply.TheVariants as replies
use Rattle.net_builds.specs.declared.handing.Handover.{Handover}
use Rattle.net_builds.specs.Building.{row_at}
use Rattle.net_builds.specs.Holdings.{AreRising, LetsAllGo, names_in}
use Rattle.net_builds.specs.Standings.{IsLive, IsQuiet, LetsGo, Standing}
use Rattle.net_builds.proofs.StandingLemmas.{gains_none, gains_then, still_live}

-- the names of rows by signal
pub names_all : (P : Name → Type 0) (rows : List (Option Name)) → ((signal : ℕ) (name : Name) → row_at rows signal ≡ Some name → P name) → All P (names_in rows)
names_all P [] holds = All-nil P
names_all P (None ∷ rows) holds = names_all P rows (λ signal. holds (suc signal))
names_all P (Some name ∷ rows) holds = All-cons P name (names_in rows) (holds zero name refl) (names_all P rows (λ signal. holds (suc signal)))

pub names_rise : (rows : List (Option Name))
    → ((a b : ℕ) (one other : Name) → a < b → row_at rows a ≡ Some one → row_at rows b ≡ Some other → one.generation < other.generation) → AreRising (names_in rows)
names_rise [] rising = tt
names_rise (None ∷ rows) rising = names_rise rows (λ a b one other less. rising (suc a) (suc b) one other (omega (arith, less)))
names_rise (Some name ∷ rows) rising = (
  names_all (λ (other : Name). name.generation < other.generation) rows (λ signal other at. rising zero (suc signal) name other (omega arith) refl at),
  names_rise rows (λ a b one other less. rising (suc a) (suc b) one other (omega (arith, less))),
)

pub none_in : (count : ℕ) → names_in (replicate count None) ≡ []
none_in zero = refl
none_in (suc count) = none_in count

-- one row more, and one less
pub more_in : (rows : List (Option Name)) (signal : ℕ) (name : Name) → signal < length rows → row_at rows signal ≡ None → length (names_in (set rows signal (Some name))) ≡ suc (length (names_in rows))
more_in [] signal name within none = absurd (omega (arith, within))
more_in (None ∷ rows) zero name within none = refl
more_in (Some other ∷ rows) zero name within none = absurd (none-some other (sym none))
more_in (None ∷ rows) (suc signal) name within none = more_in rows signal name (omega (arith, within)) none
more_in (Some other ∷ rows) (suc signal) name within none = ap suc (more_in rows signal name (omega (arith, within)) none)

pub fewer_in : (rows : List (Option Name)) (signal : ℕ) (name : Name) → row_at rows signal ≡ Some name → length (names_in rows) ≡ suc (length (names_in (set rows signal None)))
fewer_in [] signal name at = absurd (none-some name at)
fewer_in (None ∷ rows) zero name at = absurd (none-some name at)
fewer_in (Some other ∷ rows) zero name at = refl
fewer_in (None ∷ rows) (suc signal) name at = fewer_in rows signal name at
fewer_in (Some other ∷ rows) (suc signal) name at = ap suc (fewer_in rows signal name at)

-- the names of the rows up to one more
in_next : (rows : List (Option Name)) (i : ℕ) (name : Name) → i < length rows → row_at rows i ≡ Some name → names_in (take (suc i) rows) ≡ names_in (take i rows) ++ name ∷ []
in_next [] i name within at = absurd (omega (arith, within))
in_next (None ∷ rows) zero name within at = absurd (none-some name at)
in_next (Some other ∷ rows) zero name within at = ap (λ (n : Name). n ∷ []) (same_Some other name at)
in_next (None ∷ rows) (suc i) name within at = in_next rows i name (omega (arith, within)) at
in_next (Some other ∷ rows) (suc i) name within at = ap (λ (ns : List Name). other ∷ ns) (in_next rows i name (omega (arith, within)) at)

in_same_next : (rows : List (Option Name)) (i : ℕ) → row_at rows i ≡ None → names_in (take (suc i) rows) ≡ names_in (take i rows)
in_same_next [] zero none = refl
in_same_next [] (suc i) none = refl
in_same_next (None ∷ rows) zero none = refl
in_same_next (Some other ∷ rows) zero none = absurd (none-some other (sym none))
in_same_next (None ∷ rows) (suc i) none = in_same_next rows i none
in_same_next (Some other ∷ rows) (suc i) none = ap (λ (ns : List Name). other ∷ ns) (in_same_next rows i none)

pub in_more : (rows : List (Option Name)) (i : ℕ) (name : Name) → i < length rows → row_at rows i ≡ Some name → names_in (take (i + 1) rows) ≡ names_in (take i rows) ++ name ∷ []
in_more rows i name within at = let next : i + 1 ≡ suc i = omega arith in ap (λ k. names_in (take k rows)) next ∙ in_next rows i name within at

pub in_same : (rows : List (Option Name)) (i : ℕ) → row_at rows i ≡ None → names_in (take (i + 1) rows) ≡ names_in (take i rows)
in_same rows i none = let next : i + 1 ≡ suc i = omega arith in ap (λ k. names_in (take k rows)) next ∙ in_same_next rows i none

-- a row is one of the names, and newer than those of earlier rows
pub row_among : (P : Name → Type 0) (rows : List (Option Name)) (i : ℕ) (name : Name) → All P (names_in rows) → row_at rows i ≡ Some name → P name
row_among P [] i name all at = absurd (none-some name at)
row_among P (None ∷ rows) zero name all at = absurd (none-some name at)
row_among P (Some other ∷ rows) zero name all at = subst P (same_Some other name at) (All-head P other (names_in rows) all)
row_among P (None ∷ rows) (suc i) name all at = row_among P rows i name all at
row_among P (Some other ∷ rows) (suc i) name all at = row_among P rows i name (All-tail P other (names_in rows) all) at

abbrev IsApart : Name → Name → Type 0
IsApart name other = name.generation ≡ other.generation → ⊥

pub row_apart : (rows : List (Option Name)) (i : ℕ) (name : Name) → AreRising (names_in rows) → row_at rows i ≡ Some name → All (IsApart name) (names_in (take i rows))
row_apart [] zero name rising at = All-nil (IsApart name)
row_apart [] (suc i) name rising at = All-nil (IsApart name)
row_apart (row ∷ rows) zero name rising at = All-nil (IsApart name)
row_apart (None ∷ rows) (suc i) name rising at = row_apart rows i name rising at
row_apart (Some other ∷ rows) (suc i) name rising at =
    All-cons (IsApart name) other (names_in (take i rows))
    (λ e. let less = row_among (λ (x : Name). other.generation < x.generation) rows i name rising.0 at in omega (arith, e, less))
    (row_apart rows i name rising.1 at)

-- and so of names one behind another
pub name_apart : (names : List Name) (i : ℕ) (d : Name) → i < length names → AreRising names → All (IsApart (get_or names i d)) (take i names)
name_apart [] i d within rising = absurd (omega (arith, within))
name_apart (x ∷ names) zero d within rising = All-nil (IsApart x)
name_apart (x ∷ names) (suc i) d within rising =
    All-cons (IsApart (get_or names i d)) x (take i names)
    (λ e. let less = rising.0 i d (omega (arith, within)) in omega (arith, e, less))
    (name_apart names i d (omega (arith, within)) rising.1)

-- and of handovers
abbrev to_of : Handover → Name
to_of h = h.to

pub fetched_apart : (hs : List Handover) (i : ℕ) (d : Handover) → i < length hs → AreRising (map to_of hs) → All (IsApart (get_or hs i d).to) (map to_of (take i hs))
fetched_apart [] i d within rising = absurd (omega (arith, within))
fetched_apart (h ∷ hs) zero d within rising = All-nil (IsApart h.to)
fetched_apart (h ∷ hs) (suc i) d within rising =
    All-cons (IsApart (get_or hs i d).to) h.to (map to_of (take i hs))
    (λ e. let less = among hs i d (omega (arith, within)) rising.0 in omega (arith, e, less))
    (fetched_apart hs i d (omega (arith, within)) rising.1)
  where
    among : (xs : List Handover) (k : ℕ) (e : Handover) → k < length xs → All (λ (x : Name). h.to.generation < x.generation) (map to_of xs) → h.to.generation < (get_or xs k e).to.generation
    among [] k e within all = absurd (omega (arith, within))
    among (x ∷ xs) zero e within all = All-head (λ (y : Name). h.to.generation < y.generation) x.to (map to_of xs) all
    among (x ∷ xs) (suc k) e within all = among xs k e (omega (arith, within)) (All-tail (λ (y : Name). h.to.generation < y.generation) x.to (map to_of xs) all)

pub fetched_among : (P : Name → Type 0) (hs : List Handover) (i : ℕ) (d : Handover) → i < length hs → All P (map to_of hs) → P (get_or hs i d).to
fetched_among P [] i d within all = absurd (omega (arith, within))
fetched_among P (h ∷ hs) zero d within all = All-head P h.to (map to_of hs) all
fetched_among P (h ∷ hs) (suc i) d within all = fetched_among P hs i d (omega (arith, within)) (All-tail P h.to (map to_of hs) all)

-- rising names and then others that are newer
pub rising_append : (bound : ℕ) (xs ys : List Name) → AreRising xs → AreRising ys → All (λ (x : Name). x.generation < bound) xs → All (λ (y : Name). bound ≤ y.generation) ys → AreRising (xs ++ ys)
rising_append bound [] ys first second below above = second
rising_append bound (x ∷ xs) ys first second below above = (
  All-append (λ (other : Name). x.generation < other.generation) xs ys first.0
      (All-weaker (λ (y : Name). bound ≤ y.generation) (λ (y : Name). x.generation < y.generation)
      (λ y le. let less = All-head (λ (z : Name). z.generation < bound) x xs below in omega (arith, le, less)) ys above),
  rising_append bound xs ys first.1 second (All-tail (λ (z : Name). z.generation < bound) x xs below) above,
)

-- none was let go, and one more
pub goes_none : (s : Standing) → LetsAllGo s s []
unfolding gains_none
goes_none s = record { works = gains_none IsQuiet s; done = All-nil (λ (e : Entry). e.reply ≡ replies.Done); kept = λ other apart. refl; rows = omega arith }

pub goes_more : (start now new : Standing) (done : List Name) (name : Name) → LetsAllGo start now done → LetsGo now new name → LetsAllGo start new (done ++ name ∷ [])
unfolding gains_then
goes_more start now new done name all goes = record {
  works = gains_then IsQuiet start now new all.works goes.works;
  done = All-append (λ (e : Entry). e.reply ≡ replies.Done) all.works.gained goes.works.gained all.done goes.done;
  kept = λ other apart. goes.kept other (last other done apart) ∙ all.kept other (front other done apart);
  rows = omega (arith, all.rows, goes.rows, length-append done (name ∷ []));
}
  where
    last : (other : Name) (done : List Name) → All (IsApart other) (done ++ name ∷ []) → IsApart other name
    last other [] apart = All-head (IsApart other) name [] apart
    last other (x ∷ done) apart = last other done (All-tail (IsApart other) x (done ++ name ∷ []) apart)

    front : (other : Name) (done : List Name) → All (IsApart other) (done ++ name ∷ []) → All (IsApart other) done
    front other [] apart = All-nil (IsApart other)
    front other (x ∷ done) apart =
        All-cons (IsApart other) x done (All-head (IsApart other) x (done ++ name ∷ []) apart) (front other done (All-tail (IsApart other) x (done ++ name ∷ []) apart))

-- another name lives still
pub live_left : (start now : Standing) (done : List Name) (name : Name) → LetsAllGo start now done → All (IsApart name) done → IsLive start name → IsLive now name
live_left start now done name all apart live = still_live start now name all.works.more (all.kept name apart) live
