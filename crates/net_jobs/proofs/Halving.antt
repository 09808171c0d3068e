-- Two halves of the sessions, and what they play together.
use Rattle.std.proofs.Common.{◌≡◌, ℕ, suc, ◌+◌, List, [], ◌∷◌, ◌++◌, length, take, drop, slice_index_or, slice_set, Result, Ok, Err, IfOk, refl, ap, ap₂, sym, subst, ◌∙◌, arith}
use Rattle.std.specs.declared.vec.Vec.{Vec}
use Rattle.std.proofs.lemmas.List.{append_assoc, append-nil, take-append-drop}
use Rattle.job_text.specs.declared.job.Command.{Command}
use Rattle.dd_session.specs.Managing.{Managed, Seen}
use Rattle.net_jobs.specs.declared.said.Said.{Said}
use Rattle.net_jobs.specs.Plays.{AllCan, AllKept, AllPlay, AreNumbered}
use Rattle.net_jobs.specs.Saying.{IsKept}
use Rattle.net_jobs.specs.Sections.{PlaysSection}

-- as many sections as sessions
pub can_long : (m : Managed) (sections : List (List Command)) (sessions : List Seen) → AllCan m sections sessions → length sections ≡ length sessions
can_long m [] [] can = refl
can_long m [] (s ∷ sessions) can = absurd can
can_long m (c ∷ sections) [] can = absurd can
can_long m (c ∷ sections) (s ∷ sessions) can = let r = can_long m sections sessions can.1 in omega (arith, r)

pub can_split : (m : Managed) (cs ds : List (List Command)) (xs ys : List Seen) → length cs ≡ length xs → AllCan m (cs ++ ds) (xs ++ ys) → AllCan m cs xs × AllCan m ds ys
can_split m [] ds [] ys long can = (tt, can)
can_split m [] ds (x ∷ xs) ys long can = absurd (omega (arith, long))
can_split m (c ∷ cs) ds [] ys long can = absurd (omega (arith, long))
can_split m (c ∷ cs) ds (x ∷ xs) ys long can = let r = can_split m cs ds xs ys (omega (arith, long)) can.1 in ((can.0, r.0), r.1)

pub numbers_split : (n k : ℕ) (xs ys : List Seen) → k ≡ n + length xs → AreNumbered n (xs ++ ys) → AreNumbered n xs × AreNumbered k ys
numbers_split n k [] ys is numbers = (tt, subst (λ (m : ℕ). AreNumbered m ys) (omega (arith, is)) numbers)
numbers_split n k (x ∷ xs) ys is numbers = let r = numbers_split (suc n) k xs ys (omega (arith, is)) numbers.1 in ((numbers.0, r.0), r.1)

pub play_append : (cs ds : List (List Command)) (xs xs' ys ys' : List Seen) (here rest : List Said) → AllPlay cs xs xs' here → AllPlay ds ys ys' rest → AllPlay (cs ++ ds) (xs ++ ys) (xs' ++ ys') (here ++ rest)
play_append [] ds [] [] ys ys' here rest a b = subst (λ (l : List Said). AllPlay ds ys ys' (l ++ rest)) (sym a) b
play_append [] ds [] (x' ∷ xs') ys ys' here rest a b = absurd a
play_append [] ds (x ∷ xs) xs' ys ys' here rest a b = absurd a
play_append (c ∷ cs) ds [] xs' ys ys' here rest a b = absurd a
play_append (c ∷ cs) ds (x ∷ xs) [] ys ys' here rest a b = absurd a
play_append (c ∷ cs) ds (x ∷ xs) (x' ∷ xs') ys ys' here rest a b =
    (a.0, a.1 ++ rest, ap (λ l. l ++ rest) a.2 ∙ append_assoc a.0 a.1 rest, a.3, play_append cs ds xs xs' ys ys' a.1 rest a.4 b)

-- the halves of both lists
pub halves_are : {X : Type 0} (k : ℕ) (xs front back : List X) → front ≡ take k xs → back ≡ drop k xs → xs ≡ front ++ back
halves_are k xs front back low high = sym (take-append-drop k xs) ∙ ap₂ (λ a b. a ++ b) (sym low) (sym high)

pub both_can : (m : Managed) (n k up : ℕ) (sections cs ds : List (List Command)) (sessions xs ys : List Seen) → AllCan m sections sessions → AreNumbered n sessions → sections ≡ cs ++ ds → sessions ≡ xs ++ ys → length cs ≡ k → length xs ≡ k → up ≡ n + k
    → (AllCan m cs xs × AreNumbered n xs) × (AllCan m ds ys × AreNumbered up ys)
both_can m n k up sections cs ds sessions xs ys can numbers is_sections is_sessions low long at =
    let c = can_split m cs ds xs ys (low ∙ sym long) (subst (λ (p : List (List Command) × List Seen). AllCan m p.0 p.1) (λ i. (is_sections i, is_sessions i)) can) in
    let n = numbers_split n up xs ys (omega (arith, at, long)) (subst (AreNumbered n) is_sessions numbers) in ((c.0, n.0), (c.1, n.1))

pub both_play : {A E : Type 0} (result : Result (Vec Said A) E) (sections cs ds : List (List Command)) (sessions xs xs' ys ys' : List Seen) → sections ≡ cs ++ ds → sessions ≡ xs ++ ys
    → IfOk result (λ said. (here : List Said) × (rest : List Said) × (said.items ≡ here ++ rest) × AllPlay cs xs xs' here × AllPlay ds ys ys' rest) → IfOk result (λ said. AllPlay sections sessions (xs' ++ ys') said.items)
both_play (Err e) sections cs ds sessions xs xs' ys ys' is_sections is_sessions both = tt
both_play (Ok said) sections cs ds sessions xs xs' ys ys' is_sections is_sessions both =
    subst (λ (p : List (List Command) × List Seen × List Said). AllPlay p.0 p.1 (xs' ++ ys') p.2) (λ i. (sym is_sections i, sym is_sessions i, sym both.2 i))
    (play_append cs ds xs xs' ys ys' both.0 both.1 both.3 both.4)

-- the sessions of both halves are still their manager's
kept_append : (xs xs' ys ys' : List Seen) → AllKept xs xs' → AllKept ys ys' → AllKept (xs ++ ys) (xs' ++ ys')
kept_append [] [] ys ys' a b = b
kept_append [] (x' ∷ xs') ys ys' a b = absurd a
kept_append (x ∷ xs) [] ys ys' a b = absurd a
kept_append (x ∷ xs) (x' ∷ xs') ys ys' a b = (a.0, kept_append xs xs' ys ys' a.1 b)

pub both_kept : (sessions xs xs' ys ys' : List Seen) → sessions ≡ xs ++ ys → AllKept xs xs' → AllKept ys ys' → AllKept sessions (xs' ++ ys')
both_kept sessions xs xs' ys ys' is a b = subst (λ (l : List Seen). AllKept l (xs' ++ ys')) (sym is) (kept_append xs xs' ys ys' a b)

pub none_kept : (sessions : List Seen) → length sessions ≡ 0 → AllKept sessions sessions
none_kept [] none = tt
none_kept (s ∷ sessions) none = absurd (omega (arith, none))

pub one_kept : (sessions : List Seen) (s s' : Seen) → length sessions ≡ 1 → IsKept (slice_index_or sessions 0 s) s' → AllKept sessions (slice_set sessions 0 s')
one_kept [] s s' one kept = absurd (omega (arith, one))
one_kept (x ∷ []) s s' one kept = (kept, tt)
one_kept (x ∷ (y ∷ xs)) s s' one kept = absurd (omega (arith, one))

-- one session alone
pub one_plays : {A E : Type 0} (result : Result (Vec Said A) E) (m : Managed) (sections : List (List Command)) (sessions : List Seen) (c commands : List Command) (s s' : Seen) → AllCan m sections sessions → length sessions ≡ 1
    → c ≡ slice_index_or sections 0 c → commands ≡ c → IfOk result (λ said. PlaysSection commands (slice_index_or sessions 0 s) s' said.items) → IfOk result (λ said. AllPlay sections sessions (slice_set sessions 0 s') said.items)
one_plays (Err e) m sections sessions c commands s s' can one is_c is plays = tt
one_plays (Ok said) m [] [] c commands s s' can one is_c is plays = absurd (omega (arith, one))
one_plays (Ok said) m [] (x ∷ xs) c commands s s' can one is_c is plays = absurd can
one_plays (Ok said) m (d ∷ ds) [] c commands s s' can one is_c is plays = absurd can
one_plays (Ok said) m (d ∷ ds) (x ∷ (y ∷ xs)) c commands s s' can one is_c is plays = absurd (omega (arith, one))
one_plays (Ok said) m (d ∷ (e ∷ ds)) (x ∷ []) c commands s s' can one is_c is plays = absurd can.1
one_plays (Ok said) m (d ∷ []) (x ∷ []) c commands s s' can one is_c is plays =
    subst (λ (l : List Command). (here : List Said) × (rest : List Said) × (said.items ≡ here ++ rest) × PlaysSection l x s' here × (rest ≡ [])) (is ∙ is_c)
    (said.items, [], sym (append-nil said.items), plays, refl)

-- and none
pub none_plays : (m : Managed) (sections : List (List Command)) (sessions : List Seen) (written : List Said) → AllCan m sections sessions → length sessions ≡ 0 → written ≡ [] → AllPlay sections sessions sessions written
none_plays m [] [] written can none is = is
none_plays m [] (s ∷ sessions) written can none is = absurd can
none_plays m (c ∷ sections) [] written can none is = absurd can
none_plays m (c ∷ sections) (s ∷ sessions) written can none is = absurd (omega (arith, none))
