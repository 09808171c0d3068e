-- The spots of a copy's names.
use Rattle.std.proofs.Common.{◌≡◌, ℕ, suc, ◌+◌, ◌==◌, ◌<◌, Bool, true, false, cond, List, [], ◌∷◌, ◌++◌, Option, Some, None, length, map, set, take, get_or, refl, ap, sym, ◌∙◌, subst, inl, inr, arith, append-nil, append_assoc}
use Rattle.std.specs.Prelude.{◌⊎◌, All, find}
use Rattle.std.specs.Option.{is_some, option_map, option_or}
use Rattle.std.proofs.lemmas.Bool.{false≢true}
use Rattle.std.proofs.lemmas.Bool.Decides.{nat_tests}
use Rattle.std.proofs.lemmas.List.{get_or-map, get_or-set_same, get_or-set_other, get_or_append_left, get_or_push, get_or_read, length-append, length_push, map-append, take_more}
use Rattle.std.proofs.lemmas.List.Elements.{All-head, All-push, All-tail}
use Rattle.std.proofs.lemmas.List.Folds.{find-append}
use Rattle.blif_order.proofs.Walks.{own, same_or_not}
use Rattle.blif_models.specs.declared.numbered.NumberedJoin.{NumberedJoin}
use Rattle.blif_models.specs.declared.numbered.Spot.{Spot}
use Rattle.blif_models.proofs.FreshSpots.{none_own, own_more, own_wider}
use Rattle.blif_models.specs.Layouts.{IsTable, joined_to, no_spot, spot, spot_at, spot_by, spot_within, spots_of, up_to}

-- joins, one by one

option_mapped : {X Y : Type 0} (f : X → Y) (a b : Option X) → option_map f (option_or a b) ≡ option_or (option_map f a) (option_map f b)
option_mapped f None b = refl
option_mapped f (Some x) b = refl

join_last : (outer : List ℕ) (joins : List NumberedJoin) (join : NumberedJoin) (name : ℕ) → joined_to outer (joins ++ join ∷ []) name ≡ option_or (joined_to outer joins name) (joined_to outer (join ∷ []) name)
join_last outer joins join name =
    ap (option_map (λ (one : NumberedJoin). get_or outer one.actual 0)) (find-append (λ (one : NumberedJoin). one.formal == name) joins (join ∷ []))
    ∙ option_mapped (λ (one : NumberedJoin). get_or outer one.actual 0) (find (λ (one : NumberedJoin). one.formal == name) joins) (find (λ (one : NumberedJoin). one.formal == name) (join ∷ []))

here_or_not : (outer : List ℕ) (join : NumberedJoin) (name : ℕ) (b : Bool) → (join.formal == name) ≡ b → joined_to outer (join ∷ []) name ≡ cond b (Some (get_or outer join.actual 0)) None
here_or_not outer join name true e = ap (λ b. option_map (λ (one : NumberedJoin). get_or outer one.actual 0) (cond b (Some join) None)) e
here_or_not outer join name false e = ap (λ b. option_map (λ (one : NumberedJoin). get_or outer one.actual 0) (cond b (Some join) None)) e

or_none : {X : Type 0} (a : Option X) → option_or a None ≡ a
or_none None = refl
or_none (Some x) = refl

-- a formal name that is joined already stays so
pub joined_again : (outer : List ℕ) (joins : List NumberedJoin) (join : NumberedJoin) (found : Option ℕ) (number name : ℕ) → joined_to outer joins join.formal ≡ Some number → found ≡ joined_to outer joins name → found ≡ joined_to outer (joins ++ join ∷ []) name
joined_again outer joins join found number name before is = is ∙ sym (join_last outer joins join name ∙ by_cases (same_or_not name join.formal))
  where
    by_cases : (name ≡ join.formal) ⊎ ((name == join.formal) ≡ false) → option_or (joined_to outer joins name) (joined_to outer (join ∷ []) name) ≡ joined_to outer joins name
    by_cases (inl same) = let some : joined_to outer joins name ≡ Some number = ap (joined_to outer joins) same ∙ before in ap (λ o. option_or o (joined_to outer (join ∷ []) name)) some ∙ sym some
    by_cases (inr apart) = ap (option_or (joined_to outer joins name)) (here_or_not outer join name false (grind (arith, nat_tests))) ∙ or_none (joined_to outer joins name)

-- one that is not is joined now
pub joined_now : (outer : List ℕ) (joins : List NumberedJoin) (join : NumberedJoin) (xs : List (Option ℕ)) (name : ℕ) → join.formal < length xs → joined_to outer joins join.formal ≡ None → get_or xs name None ≡ joined_to outer joins name
    → get_or (set xs join.formal (Some (get_or outer join.actual 0))) name None ≡ joined_to outer (joins ++ join ∷ []) name
joined_now outer joins join xs name lt before is = by_cases (same_or_not name join.formal) ∙ sym (join_last outer joins join name)
  where
    value : Option ℕ
    value = Some (get_or outer join.actual 0)

    by_cases : (name ≡ join.formal) ⊎ ((name == join.formal) ≡ false) → get_or (set xs join.formal value) name None ≡ option_or (joined_to outer joins name) (joined_to outer (join ∷ []) name)
    by_cases (inl same) =
        ap (λ n. get_or (set xs join.formal value) n None) same ∙ get_or-set_same xs join.formal value None lt
        ∙ sym (ap (λ o. option_or o (joined_to outer (join ∷ []) name)) (ap (joined_to outer joins) same ∙ before) ∙ here_or_not outer join name true (ap (λ n. join.formal == n) same ∙ own join.formal))
    by_cases (inr apart) =
        get_or-set_other xs join.formal name value None (λ e. absurd (false≢true (sym apart ∙ ap (λ n. n == join.formal) e ∙ own join.formal)))
        ∙ is
        ∙ sym (ap (option_or (joined_to outer joins name)) (here_or_not outer join name false (grind (arith, nat_tests))) ∙ or_none (joined_to outer joins name))

none_is : {X : Type 0} (o : Option X) → is_some o ≡ false → o ≡ None
none_is None e = refl
none_is (Some x) e = absurd (false≢true (sym e))

some_is : {X : Type 0} (o : Option X) → is_some o ≡ true → (x : X) × (o ≡ Some x)
some_is None e = absurd (false≢true e)
some_is (Some x) e = (x, refl)

-- the loop's step, where the formal name was not joined before, and where it was
pub step_now : (outer : List ℕ) (joins : List NumberedJoin) (i names : ℕ) (d : NumberedJoin) (xs ys : List (Option ℕ)) (read : Option ℕ) → i < length joins → length xs ≡ names → (get_or joins i d).formal < names
    → read ≡ get_or xs (get_or joins i d).formal read → is_some read ≡ false → ys ≡ set xs (get_or joins i d).formal (Some (get_or outer (get_or joins i d).actual 0))
    → ((name : ℕ) → name < names → get_or xs name None ≡ joined_to outer (take i joins) name) → (name : ℕ) → name < names → get_or ys name None ≡ joined_to outer (take (i + 1) joins) name
step_now outer joins i names d xs ys read lt many formal is none same before name within =
    let join = get_or joins i d in
    let at : get_or xs join.formal None ≡ None = sym (get_or_read xs join.formal read (omega (arith, formal, many)) is None) ∙ none_is read none in
    ap (λ (zs : List (Option ℕ)). get_or zs name None) same
    ∙ joined_now outer (take i joins) join xs name (omega (arith, formal, many)) (sym (before join.formal formal) ∙ at) (before name within)
    ∙ ap (λ (js : List NumberedJoin). joined_to outer js name) (sym (take_more joins i d lt))

pub step_again : (outer : List ℕ) (joins : List NumberedJoin) (i names : ℕ) (d : NumberedJoin) (xs : List (Option ℕ)) (read : Option ℕ) → i < length joins → length xs ≡ names → (get_or joins i d).formal < names
    → read ≡ get_or xs (get_or joins i d).formal read → is_some read ≡ true
    → ((name : ℕ) → name < names → get_or xs name None ≡ joined_to outer (take i joins) name) → (name : ℕ) → name < names → get_or xs name None ≡ joined_to outer (take (i + 1) joins) name
step_again outer joins i names d xs read lt many formal is some before name within =
    let join = get_or joins i d in
    let found = some_is read some in
    let at : get_or xs join.formal None ≡ Some found.0 = sym (get_or_read xs join.formal read (omega (arith, formal, many)) is None) ∙ found.1 in
    joined_again outer (take i joins) join (get_or xs name None) found.0 name (sym (before join.formal formal) ∙ at) (before name within)
    ∙ ap (λ (js : List NumberedJoin). joined_to outer js name) (sym (take_more joins i d lt))

-- spots that stay while others are added

pub spot_kept : (spots more : List Spot) (n : ℕ) → n < length spots → spot_at (spots ++ more) n ≡ spot_at spots n
spot_kept spots more n lt = get_or_append_left spots more no_spot n lt

pub spots_kept : (spots more : List Spot) (ns : List ℕ) → All (λ n. n < length spots) ns → spots_of (spots ++ more) ns ≡ spots_of spots ns
spots_kept spots more [] a = refl
spots_kept spots more (n ∷ ns) a = λ j. spot_kept spots more n (All-head (λ k. k < length spots) n ns a) j ∷ spots_kept spots more ns (All-tail (λ k. k < length spots) n ns a) j

pub within_more : (spots more : List Spot) (ns : List ℕ) → All (λ n. n < length spots) ns → All (λ n. n < length (spots ++ more)) ns
within_more spots more ns a = λ i d lt. omega (arith, a i d lt, length-append spots more)

-- the names of a copy, one by one

up_to_more : (n : ℕ) → up_to (n + 1) ≡ up_to n ++ n ∷ []
up_to_more n = let same : n + 1 ≡ suc n = omega arith in ap up_to same

pub table_begins : (old : List Spot) (outer : List ℕ) (copy model : ℕ) (joins : List NumberedJoin) (table : List ℕ) → table ≡ [] → IsTable old outer copy model joins 0 old table
table_begins old outer copy model joins table none = record {
  more = [];
  grown = sym (append-nil old);
  own = none_own copy model 0;
  many = ap length none;
  within = subst (λ (ns : List ℕ). All (λ n. n < length old) ns) (sym none) (λ i d lt. absurd (omega (arith, lt)));
  spots = ap (spots_of old) none;
}

found_in : (p : NumberedJoin → Bool) (P : NumberedJoin → Type 0) (joins : List NumberedJoin) (join : NumberedJoin) → All P joins → find p joins ≡ Some join → P join
found_in p P [] join a e = cc
found_in p P (one ∷ joins) join a e = by_cases (p one) e (All-head P one joins a) (λ f. found_in p P joins join (All-tail P one joins a) f)
  where
    by_cases : (b : Bool) → cond b (Some one) (find p joins) ≡ Some join → P one → (find p joins ≡ Some join → P join) → P join
    by_cases true f here more = let same : one ≡ join = cc in subst P same here
    by_cases false f here more = more f

-- a name that is joined
pub table_joined : (old : List Spot) (outer : List ℕ) (copy model : ℕ) (joins : List NumberedJoin) (name number : ℕ) (new : List Spot) (table : List ℕ) → All (λ n. n < length old) outer → All (λ join. join.actual < length outer) joins
    → joined_to outer joins name ≡ Some number → IsTable old outer copy model joins name new table → IsTable old outer copy model joins (name + 1) new (table ++ number ∷ [])
table_joined old outer copy model joins name number new table o a is t = record {
  more = t.more;
  grown = t.grown;
  own = own_wider copy model name t.more t.own;
  many = omega (arith, length_push table number, t.many);
  within = All-push (λ n. n < length new) table number t.within (omega (arith, known.0, ap length t.grown, length-append old t.more));
  spots = map-append (spot_at new) table (number ∷ [])
      ∙ (λ j. t.spots j ++ (ap (λ (xs : List Spot). spot_at xs number) t.grown ∙ spot_kept old t.more number known.0 ∙ known.1) j ∷ [])
      ∙ sym (ap (map (spot_within (spots_of old outer) copy model joins)) (up_to_more name) ∙ map-append (spot_within (spots_of old outer) copy model joins) (up_to name) (name ∷ []));
}
  where
    by_find : (found : Option NumberedJoin) → find (λ (one : NumberedJoin). one.formal == name) joins ≡ found → option_map (λ (one : NumberedJoin). get_or outer one.actual 0) found ≡ Some number
        → (number < length old) × (spot_at old number ≡ spot_by (spots_of old outer) (spot copy model name) found)
    by_find None e f = cc
    by_find (Some join) e f =
        let among : join.actual < length outer = found_in (λ one. one.formal == name) (λ one. one.actual < length outer) joins join a e in
        let same : get_or outer join.actual 0 ≡ number = cc in
        (omega (arith, o join.actual 0 among, same), ap (spot_at old) (sym same) ∙ sym (get_or-map (spot_at old) outer join.actual 0 no_spot among))

    known : (number < length old) × (spot_at old number ≡ spot_within (spots_of old outer) copy model joins name)
    known = by_find (find (λ one. one.formal == name) joins) refl is

-- and one that isn't
pub table_new : (old : List Spot) (outer : List ℕ) (copy model : ℕ) (joins : List NumberedJoin) (name : ℕ) (new : List Spot) (table : List ℕ) → joined_to outer joins name ≡ None → IsTable old outer copy model joins name new table
    → IsTable old outer copy model joins (name + 1) (new ++ spot copy model name ∷ []) (table ++ length new ∷ [])
table_new old outer copy model joins name new table is t = record {
  more = t.more ++ spot copy model name ∷ [];
  grown = ap (λ (xs : List Spot). xs ++ spot copy model name ∷ []) t.grown ∙ append_assoc old t.more (spot copy model name ∷ []);
  own = own_more copy model name t.more t.own;
  many = omega (arith, length_push table (length new), t.many);
  within = All-push (λ n. n < length (new ++ spot copy model name ∷ [])) table (length new) (within_more new (spot copy model name ∷ []) table t.within) (omega (arith, length_push new (spot copy model name)));
  spots = map-append (spot_at (new ++ spot copy model name ∷ [])) table (length new ∷ [])
      ∙ (λ j. (spots_kept new (spot copy model name ∷ []) table t.within ∙ t.spots) j ++ (get_or_push new (spot copy model name) no_spot (length new) refl ∙ none (find (λ one. one.formal == name) joins) refl is) j ∷ [])
      ∙ sym (ap (map (spot_within (spots_of old outer) copy model joins)) (up_to_more name) ∙ map-append (spot_within (spots_of old outer) copy model joins) (up_to name) (name ∷ []));
}
  where
    none : (found : Option NumberedJoin) → find (λ (one : NumberedJoin). one.formal == name) joins ≡ found → option_map (λ (one : NumberedJoin). get_or outer one.actual 0) found ≡ None → spot copy model name ≡ spot_by (spots_of old outer) (spot copy model name) found
    none None e f = refl
    none (Some join) e f = cc

pub moved : (old : List Spot) (outer : List ℕ) (copy model : ℕ) (joins : List NumberedJoin) (name : ℕ) (new new' : List Spot) (table table' : List ℕ) → new' ≡ new → table' ≡ table → IsTable old outer copy model joins name new table
    → IsTable old outer copy model joins name new' table'
moved old outer copy model joins name new new' table table' e f t = subst (λ (xs : List Spot). IsTable old outer copy model joins name xs table') (sym e) (subst (λ (ns : List ℕ). IsTable old outer copy model joins name new ns) (sym f) t)

pub read_at : (xs : List (Option ℕ)) (name : ℕ) (read was found : Option ℕ) → name < length xs → read ≡ get_or xs name read → get_or xs name None ≡ was → read ≡ found → was ≡ found
read_at xs name read was found lt is known e = sym known ∙ sym (get_or_read xs name read lt is None) ∙ e
