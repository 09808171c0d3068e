-- What several sessions wrote, once it is in the order of places.
use Rattle.std.proofs.Common.{◌≡◌, ℕ, suc, ◌+◌, ◌<◌, ◌≤◌, ◌==◌, Bool, true, false, cond, List, [], ◌∷◌, ◌++◌, length, map, Some, All, Result, Ok, Err, IfOk, refl, ap, ap₂, sym, subst, ◌∙◌, arith, eq-eqb, ne_eqb, ◌≢◌}
use Rattle.std.specs.List.{flat_map}
use Rattle.std.specs.declared.vec.Vec.{Vec}
use Rattle.std.specs.List.Sorted.{IsNonDecreasingBy, IsPermutation}
use Rattle.std.proofs.lemmas.List.{append_assoc, append-nil, map-append}
use Rattle.std.proofs.lemmas.List.Elements.{All-append, All-nil}
use Rattle.std.proofs.lemmas.List.Sorted.{All-permutation, IsPermutation-map}
use Rattle.function_laws.specs.declared.history.Entry.{Entry}
use Rattle.function_laws.specs.SessionEntries.{Each, IsByPlace}
use Rattle.job_text.specs.declared.job.Command.{Command}
use Rattle.job_text.specs.Histories.{HistoryLine, text_of, told_of}
use Rattle.dd_session.specs.Managing.{Managed, Seen}
use Rattle.net_jobs.specs.declared.said.Said.{Said}
use Rattle.net_jobs.specs.Sections.{IsFullBy, PlaysSection, Rises, entry_of, said_of, written_as}
use Rattle.net_jobs.specs.Plays.{AllCan, AllGain, AllPlay, AreNumbered, Gains, PlaysIn, lines_of}
use Rattle.net_jobs.proofs.Lifting.{lifted}
use Rattle.net_jobs.proofs.Sorting.{Rising, SortedBy, all_each, each_all, part_sorted}

abbrev place_of : HistoryLine → ℕ
place_of line = line.entry.place

-- the lines of all sessions, one session after another
abbrev all_lines : (sections : List (List Command)) (old new : List Seen) (written : List Said) → AllPlay sections old new written → List HistoryLine
all_lines [] [] [] written p = []
all_lines [] [] (b ∷ new) written p = absurd p
all_lines [] (a ∷ old) new written p = absurd p
all_lines (c ∷ sections) [] new written p = absurd p
all_lines (c ∷ sections) (a ∷ old) [] written p = absurd p
all_lines (c ∷ sections) (a ∷ old) (b ∷ new) written p = p.3.lines ++ all_lines sections old new p.1 p.4

texts_are : (sections : List (List Command)) (old new : List Seen) (written : List Said) (p : AllPlay sections old new written) → map written_as written ≡ map said_of (all_lines sections old new written p)
texts_are [] [] [] written p = ap (map written_as) p
texts_are [] [] (b ∷ new) written p = absurd p
texts_are [] (a ∷ old) new written p = absurd p
texts_are (c ∷ sections) [] new written p = absurd p
texts_are (c ∷ sections) (a ∷ old) [] written p = absurd p
texts_are (c ∷ sections) (a ∷ old) (b ∷ new) written p =
    ap (map written_as) p.2 ∙ map-append written_as p.0 p.1 ∙ ap₂ (λ x y. x ++ y) p.3.texts (texts_are sections old new p.1 p.4)
    ∙ sym (map-append said_of p.3.lines (all_lines sections old new p.1 p.4))

-- what the lines of each session are, all are
all_are : (P : HistoryLine → Type 0) (m : Managed) (sections : List (List Command)) (old new : List Seen) (written : List Said) (p : AllPlay sections old new written) → AllCan m sections old
    → ((c : List Command) (a b : Seen) (here : List Said) → a.manager ≡ m → (q : PlaysSection c a b here) → All P q.lines) → All P (all_lines sections old new written p)
all_are P m [] [] [] written p can f = All-nil P
all_are P m [] [] (b ∷ new) written p can f = absurd p
all_are P m [] (a ∷ old) new written p can f = absurd p
all_are P m (c ∷ sections) [] new written p can f = absurd p
all_are P m (c ∷ sections) (a ∷ old) [] written p can f = absurd p
all_are P m (c ∷ sections) (a ∷ old) (b ∷ new) written p can f =
    All-append P p.3.lines (all_lines sections old new p.1 p.4) (f c a b p.0 can.0.own p.3) (all_are P m sections old new p.1 p.4 can.1 f)

abbrev IsWithin : ℕ → ℕ → HistoryLine → Type 0
IsWithin n k line = (n ≤ line.entry.session) × (line.entry.session < n + k)

each_weaker : {X : Type 0} (P Q : X → Type 0) → ((x : X) → P x → Q x) → (xs : List X) → Each P xs → Each Q xs
each_weaker P Q f [] all = tt
each_weaker P Q f (x ∷ xs) all = (f x all.0, each_weaker P Q f xs all.1)

each_append : {X : Type 0} (P : X → Type 0) (xs ys : List X) → Each P xs → Each P ys → Each P (xs ++ ys)
each_append P [] ys a b = b
each_append P (x ∷ xs) ys a b = (a.0, each_append P xs ys a.1 b)

within : (n : ℕ) (sections : List (List Command)) (old new : List Seen) (written : List Said) (p : AllPlay sections old new written) → AreNumbered n old → Each (IsWithin n (length sections)) (all_lines sections old new written p)
within n [] [] [] written p numbers = tt
within n [] [] (b ∷ new) written p numbers = absurd p
within n [] (a ∷ old) new written p numbers = absurd p
within n (c ∷ sections) [] new written p numbers = absurd p
within n (c ∷ sections) (a ∷ old) [] written p numbers = absurd p
within n (c ∷ sections) (a ∷ old) (b ∷ new) written p numbers =
    each_append (IsWithin n (suc (length sections))) p.3.lines (all_lines sections old new p.1 p.4)
    (each_weaker (λ (line : HistoryLine). line.entry.session ≡ a.number) (IsWithin n (suc (length sections))) (λ line is. let at = numbers.0 in (omega (arith, is, at), omega (arith, is, at))) p.3.lines (all_each (λ (line : HistoryLine). line.entry.session ≡ a.number) p.3.lines p.3.own))
    (each_weaker (IsWithin (suc n) (length sections)) (IsWithin n (suc (length sections))) (λ line is. let low = is.0 in let high = is.1 in (omega (arith, low), omega (arith, high))) (all_lines sections old new p.1 p.4) (within (suc n) sections old new p.1 p.4 numbers.1))

-- of lines of others a session has none, and of its own all
lines_append : (s : ℕ) (xs ys : List HistoryLine) → lines_of s (xs ++ ys) ≡ lines_of s xs ++ lines_of s ys
lines_append s [] ys = refl
lines_append s (x ∷ xs) ys = by (x.entry.session == s) (lines_append s xs ys)
  where
    by : (b : Bool) → lines_of s (xs ++ ys) ≡ lines_of s xs ++ lines_of s ys → cond b (x ∷ lines_of s (xs ++ ys)) (lines_of s (xs ++ ys)) ≡ cond b (x ∷ lines_of s xs) (lines_of s xs) ++ lines_of s ys
    by true is = ap (λ l. x ∷ l) is
    by false is = is

lines_none : (s : ℕ) (xs : List HistoryLine) → Each (λ (line : HistoryLine). line.entry.session ≢ s) xs → lines_of s xs ≡ []
lines_none s [] others = refl
lines_none s (x ∷ xs) others = ap (λ b. cond b (x ∷ lines_of s xs) (lines_of s xs)) (ne_eqb x.entry.session s others.0) ∙ lines_none s xs others.1

lines_all : (s : ℕ) (xs : List HistoryLine) → Each (λ (line : HistoryLine). line.entry.session ≡ s) xs → lines_of s xs ≡ xs
lines_all s [] own = refl
lines_all s (x ∷ xs) own = ap (λ b. cond b (x ∷ lines_of s xs) (lines_of s xs)) (eq-eqb x.entry.session s own.0) ∙ ap (λ l. x ∷ l) (lines_all s xs own.1)

rising : (lines : List HistoryLine) → Rises (map entry_of lines) → Rising place_of lines
rising [] r = tt
rising (line ∷ lines) r = (later lines (all_each (λ (f : Entry). line.entry.place < f.place) (map entry_of lines) r.0), rising lines r.1)
  where
    later : (ls : List HistoryLine) → Each (λ (f : Entry). line.entry.place < f.place) (map entry_of ls) → Each (λ (l : HistoryLine). line.entry.place < l.entry.place) ls
    later [] all = tt
    later (l ∷ ls) all = (all.0, later ls all.1)

-- each session's lines in another order of all are those that it gained
spread : (n : ℕ) (before lines : List HistoryLine) (sections : List (List Command)) (old new : List Seen) (written : List Said) (p : AllPlay sections old new written) → Each (λ (line : HistoryLine). line.entry.session < n) before → AreNumbered n old
    → ((s : ℕ) → Rising place_of (lines_of s (before ++ all_lines sections old new written p)) → lines_of s (before ++ all_lines sections old new written p) ≡ lines_of s lines) → AllGain n sections old new lines
spread n before lines [] [] [] written p below numbers same = tt
spread n before lines [] [] (b ∷ new) written p below numbers same = absurd p
spread n before lines [] (a ∷ old) new written p below numbers same = absurd p
spread n before lines (c ∷ sections) [] new written p below numbers same = absurd p
spread n before lines (c ∷ sections) (a ∷ old) [] written p below numbers same = absurd p
spread n before lines (c ∷ sections) (a ∷ old) (b ∷ new) written p below numbers same = (
  subst (Gains c a b) here (record { gained = plays.gained; says = plays.says; manager_is = plays.manager_is; number_is = plays.number_is }),
  spread (suc n) (before ++ plays.lines) lines sections old new p.1 p.4
      (each_append (λ (line : HistoryLine). line.entry.session < suc n) before plays.lines (each_weaker (λ (line : HistoryLine). line.entry.session < n) (λ (line : HistoryLine). line.entry.session < suc n) (λ line lt. omega (arith, lt)) before below)
      (each_weaker (λ (line : HistoryLine). line.entry.session ≡ n) (λ (line : HistoryLine). line.entry.session < suc n) (λ line is. omega (arith, is)) plays.lines own)) numbers.1
      (λ s. subst (λ (l : List HistoryLine). Rising place_of (lines_of s l) → lines_of s l ≡ lines_of s lines) (sym (append_assoc before plays.lines rest)) (same s)),
)
  where
    plays : PlaysSection c a b p.0
    plays = p.3

    rest : List HistoryLine
    rest = all_lines sections old new p.1 p.4

    own : Each (λ (line : HistoryLine). line.entry.session ≡ n) plays.lines
    own = each_weaker (λ (line : HistoryLine). line.entry.session ≡ a.number) (λ (line : HistoryLine). line.entry.session ≡ n) (λ line is. is ∙ numbers.0) plays.lines (all_each (λ (line : HistoryLine). line.entry.session ≡ a.number) plays.lines plays.own)

    gained : lines_of n (before ++ (plays.lines ++ rest)) ≡ plays.lines
    gained =
        lines_append n before (plays.lines ++ rest)
        ∙ ap₂ (λ x y. x ++ y) (lines_none n before (each_weaker (λ (line : HistoryLine). line.entry.session < n) (λ (line : HistoryLine). line.entry.session ≢ n) (λ line lt is. omega (arith, lt, is)) before below))
        (lines_append n plays.lines rest ∙ ap₂ (λ x y. x ++ y) (lines_all n plays.lines own)
        (lines_none n rest (each_weaker (IsWithin (suc n) (length sections)) (λ (line : HistoryLine). line.entry.session ≢ n) (λ line at is. let low = at.0 in omega (arith, low, is)) rest (within (suc n) sections old new p.1 p.4 numbers.1))))
        ∙ append-nil plays.lines

    here : plays.lines ≡ lines_of n lines
    here = sym gained ∙ same n (subst (Rising place_of) (sym gained) (rising plays.lines plays.rises))

-- the order of places
sorted_from : {X : Type 0} (key : X → ℕ) (xs : List X) → IsNonDecreasingBy key xs → SortedBy key xs
sorted_from key [] up = tt
sorted_from key (x ∷ xs) up = (all_each (λ y. key x ≤ key y) xs (λ k d lt. up 0 (suc k) d (omega arith) (omega (arith, lt))), sorted_from key xs (λ i j d le lt. up (suc i) (suc j) d (omega (arith, le)) (omega (arith, lt))))

sorted_keys : {X : Type 0} (key : X → ℕ) (xs : List X) → SortedBy key xs → SortedBy (λ (n : ℕ). n) (map key xs)
sorted_keys key [] sorted = tt
sorted_keys key (x ∷ xs) sorted = (later xs sorted.0, sorted_keys key xs sorted.1)
  where
    later : (ys : List _) → Each (λ y. key x ≤ key y) ys → Each (λ (n : ℕ). key x ≤ n) (map key ys)
    later [] all = tt
    later (y ∷ ys) all = (all.0, later ys all.1)

sorted_of : {X : Type 0} (key : X → ℕ) (xs : List X) → SortedBy (λ (n : ℕ). n) (map key xs) → SortedBy key xs
sorted_of key [] sorted = tt
sorted_of key (x ∷ xs) sorted = (later xs sorted.0, sorted_of key xs sorted.1)
  where
    later : (ys : List _) → Each (λ (n : ℕ). key x ≤ n) (map key ys) → Each (λ y. key x ≤ key y) ys
    later [] all = tt
    later (y ∷ ys) all = (all.0, later ys all.1)

by_place : (lines : List HistoryLine) → SortedBy place_of lines → IsByPlace (map entry_of lines)
by_place [] sorted = tt
by_place (line ∷ lines) sorted = (later lines sorted.0, by_place lines sorted.1)
  where
    later : (ls : List HistoryLine) → Each (λ (l : HistoryLine). line.entry.place ≤ l.entry.place) ls → Each (λ (f : Entry). line.entry.place ≤ f.place) (map entry_of ls)
    later [] all = tt
    later (l ∷ ls) all = (all.0, later ls all.1)

places_same : (sorted : List Said) (lines : List HistoryLine) → map written_as sorted ≡ map said_of lines → map (λ (s : Said). s.place) sorted ≡ map place_of lines
places_same [] [] is = refl
places_same [] (line ∷ lines) is = absurd (let a : [] ≡ said_of line ∷ map said_of lines = is in cc)
places_same (s ∷ sorted) [] is = absurd (let a : written_as s ∷ map written_as sorted ≡ [] = is in cc)
places_same (s ∷ sorted) (line ∷ lines) is = ap₂ (λ x l. x ∷ l) (ap (λ (p : ℕ × List ℕ). p.0) (heads is)) (places_same sorted lines (tails is))
  where
    heads : written_as s ∷ map written_as sorted ≡ said_of line ∷ map said_of lines → written_as s ≡ said_of line
    heads e = cc

    tails : written_as s ∷ map written_as sorted ≡ said_of line ∷ map said_of lines → map written_as sorted ≡ map said_of lines
    tails e = cc

bytes_same : (sorted : List Said) (lines : List HistoryLine) → map written_as sorted ≡ map said_of lines → flat_map (λ (s : Said). s.text.items) sorted ≡ flat_map text_of lines
bytes_same [] [] is = refl
bytes_same [] (line ∷ lines) is = absurd (let a : [] ≡ said_of line ∷ map said_of lines = is in cc)
bytes_same (s ∷ sorted) [] is = absurd (let a : written_as s ∷ map written_as sorted ≡ [] = is in cc)
bytes_same (s ∷ sorted) (line ∷ lines) is = ap₂ (λ x l. x ++ l) (ap (λ (p : ℕ × List ℕ). p.1) (heads is)) (bytes_same sorted lines (tails is))
  where
    heads : written_as s ∷ map written_as sorted ≡ said_of line ∷ map said_of lines → written_as s ≡ said_of line
    heads e = cc

    tails : written_as s ∷ map written_as sorted ≡ said_of line ∷ map said_of lines → map written_as sorted ≡ map said_of lines
    tails e = cc

-- What the sessions wrote, in the order of places, is what they played.
pub plays_in : (m : Managed) (sections : List (List Command)) (old new : List Seen) (written sorted : List Said) (text : List ℕ) → AllCan m sections old → AreNumbered 0 old → AllPlay sections old new written
    → IsPermutation written sorted → IsNonDecreasingBy (λ (s : Said). s.place) sorted → text ≡ flat_map (λ (s : Said). s.text.items) sorted → PlaysIn m sections old new text
plays_in m sections old new written sorted text can numbers p permutes up bytes = record {
  lines = lines;
  sorted = by_place lines ordered;
  told = All-permutation (λ (line : HistoryLine). told_of line.entry.reply ≡ Some line.reply) all lines moved (all_are (λ (line : HistoryLine). told_of line.entry.reply ≡ Some line.reply) m sections old new written p can (λ c a b here own q. q.told));
  full = All-permutation (λ (line : HistoryLine). IsFullBy m line.entry.call line.entry.reply) all lines moved (all_are (λ (line : HistoryLine). IsFullBy m line.entry.call line.entry.reply) m sections old new written p can (λ c a b here own q. subst (λ (n : Managed). All (λ (line : HistoryLine). IsFullBy n line.entry.call line.entry.reply) q.lines) own q.full));
  no_other = All-permutation (λ (line : HistoryLine). line.entry.session < length sections) all lines moved (each_all (λ (line : HistoryLine). line.entry.session < length sections) all (each_weaker (IsWithin 0 (length sections)) (λ (line : HistoryLine). line.entry.session < length sections) (λ line at. let h = at.1 in omega (arith, h)) all (within 0 sections old new written p numbers)));
  each = spread 0 [] lines sections old new written p tt numbers (λ s rises. part_sorted place_of (λ (line : HistoryLine). line.entry.session == s) all lines moved ordered rises);
  bytes = bytes ∙ bytes_same sorted lines (sym same);
}
  where
    all : List HistoryLine
    all = all_lines sections old new written p

    found : (ws : List HistoryLine) × (map said_of ws ≡ map written_as sorted) × IsPermutation all ws
    found = lifted said_of all (map written_as sorted) (subst (λ (l : List (ℕ × List ℕ)). IsPermutation l (map written_as sorted)) (texts_are sections old new written p) (IsPermutation-map written_as written sorted permutes))

    lines : List HistoryLine
    lines = found.0

    same : map said_of lines ≡ map written_as sorted
    same = found.1

    moved : IsPermutation all lines
    moved = found.2

    ordered : SortedBy place_of lines
    ordered = sorted_of place_of lines (subst (λ (l : List ℕ). SortedBy (λ (n : ℕ). n) l) (places_same sorted lines (sym same)) (sorted_keys (λ (s : Said). s.place) sorted (sorted_from (λ (s : Said). s.place) sorted up)))

pub played : {A E : Type 0} (result : Result (Vec ℕ A) E) (m : Managed) (sections : List (List Command)) (old new : List Seen) (written sorted : List Said) → AllCan m sections old → AreNumbered 0 old → AllPlay sections old new written
    → IsPermutation written sorted → IsNonDecreasingBy (λ (s : Said). s.place) sorted → IfOk result (λ text. text.items ≡ flat_map (λ (s : Said). s.text.items) sorted) → IfOk result (λ text. PlaysIn m sections old new text.items)
played (Err e) m sections old new written sorted can numbers plays permutes up is = tt
played (Ok text) m sections old new written sorted can numbers plays permutes up is = plays_in m sections old new written sorted text.items can numbers plays permutes up is
