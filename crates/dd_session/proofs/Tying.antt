-- The rows in memory stay those that the seat knows.
use Rattle.std.proofs.Common.{◌≡◌, ℕ, suc, ◌+◌, ◌<◌, ◌≤◌, Bool, true, false, cond, ◌&&◌, ◌==◌, List, [], ◌∷◌, ◌++◌, length, Option, Some, None, option_map, refl, ap, ap₂, sym, subst, ◌∙◌, arith, ne_eqb, length-append}
use Rattle.std.specs.List.{All}
use Rattle.std.proofs.lemmas.List.Elements.{All-head, All-tail}
use Rattle.edge_bits.specs.declared.edges.Edge.{Edge}
use Rattle.function_laws.specs.declared.history.Name.{Name}
use Rattle.function_laws.specs.declared.history.Entry.{Entry}
use Rattle.function_laws.specs.Tables.{same_name}
use Rattle.handle_count.specs.declared.rows.Held.{Held as Live}
use Rattle.handle_count.specs.RowMaps.{IsWithOne, RowMap, find_row}
use Rattle.seat_guard.specs.declared.view.Draws.{Draws}
use Rattle.seat_guard.specs.declared.view.Held.{Held}
use Rattle.seat_guard.specs.declared.view.Row.{Row}
use Rattle.seat_guard.specs.Turn.{one_if, row_count}
use Rattle.seat_guard.specs.Views.{without}
use Rattle.dd_session.specs.Sessions.{held_as}
use Rattle.dd_session.specs.Turns.{AreApart, Tied, live_as, live_count}
use Rattle.dd_session.proofs.Naming.{same_back, cond_none, same_name-eq}

-- lists of rows in memory

live_count-append : (k : ℕ) (xs ys : List Live) → live_count k (xs ++ ys) ≡ live_count k xs + live_count k ys
live_count-append k [] ys = omega arith
live_count-append k (x ∷ xs) ys = let r = live_count-append k xs ys in omega (arith, r)

module _ (old new : List Live) (one : Live) (is : IsWithOne old one new) where
  pub longer : length new ≡ length old + 1
  longer = let a = ap length is.with_it in let b = ap length is.without in let c = length-append is.before (one ∷ is.behind) in let d = length-append is.before is.behind in omega (arith, a, b, c, d)

  pub counts-more : (k : ℕ) → live_count k new ≡ live_count k old + one_if (one.edge.index == k)
  counts-more k =
      let a = ap (live_count k) is.with_it in let b = ap (live_count k) is.without in
      let c = live_count-append k is.before (one ∷ is.behind) in let d = live_count-append k is.before is.behind in omega (arith, a, b, c, d)

find-behind : (xs ys : List Live) (name : Name) → find_row xs name ≡ None → find_row (xs ++ ys) name ≡ find_row ys name
find-behind [] ys name none = refl
find-behind (x ∷ xs) ys name none = by (find-behind xs ys name) (same_name name x.name) refl none
  where
    by : (find_row xs name ≡ None → find_row (xs ++ ys) name ≡ find_row ys name) → (b : Bool) → same_name name x.name ≡ b → cond (same_name name x.name) (Some x) (find_row xs name) ≡ None → cond (same_name name x.name) (Some x) (find_row (xs ++ ys) name) ≡ find_row ys name
    by rest true is e = absurd (let z : Some x ≡ None = sym (ap (λ b. cond b (Some x) (find_row xs name)) is) ∙ e in cc)
    by rest false is e = ap (λ b. cond b (Some x) (find_row (xs ++ ys) name)) is ∙ rest (sym (ap (λ b. cond b (Some x) (find_row xs name)) is) ∙ e)

-- one that has another name is not found under this one
find-other : (xs ys : List Live) (one : Live) (name : Name) → same_name name one.name ≡ false → find_row (xs ++ one ∷ ys) name ≡ find_row (xs ++ ys) name
find-other [] ys one name apart = ap (λ b. cond b (Some one) (find_row ys name)) apart
find-other (x ∷ xs) ys one name apart = ap (λ o. cond (same_name name x.name) (Some x) o) (find-other xs ys one name apart)

none-before : (xs ys : List Live) (name : Name) → find_row (xs ++ ys) name ≡ None → find_row xs name ≡ None
none-before [] ys name none = refl
none-before (x ∷ xs) ys name none = by (none-before xs ys name) (same_name name x.name) refl none
  where
    by : (find_row (xs ++ ys) name ≡ None → find_row xs name ≡ None) → (b : Bool) → same_name name x.name ≡ b → cond (same_name name x.name) (Some x) (find_row (xs ++ ys) name) ≡ None → cond (same_name name x.name) (Some x) (find_row xs name) ≡ None
    by rest true is e = absurd (let z : Some x ≡ None = sym (ap (λ b. cond b (Some x) (find_row (xs ++ ys) name)) is) ∙ e in cc)
    by rest false is e = ap (λ b. cond b (Some x) (find_row xs name)) is ∙ rest (sym (ap (λ b. cond b (Some x) (find_row (xs ++ ys) name)) is) ∙ e)

-- a name above all that were given is not found
pub none-given : (lives : List Live) (name : Name) → All (λ (held : Live). held.name.generation < name.generation) lives → find_row lives name ≡ None
none-given [] name all = refl
none-given (x ∷ lives) name all =
    let below : x.name.generation < name.generation = All-head (λ (held : Live). held.name.generation < name.generation) x lives all in
    let apart : same_name name x.name ≡ false = ap (λ b. (name.row == x.name.row) && b) (ne_eqb name.generation x.name.generation (λ e. omega (arith, e, below))) ∙ none_and (name.row == x.name.row) in
    ap (λ b. cond b (Some x) (find_row lives name)) apart ∙ none-given lives name (All-tail (λ (held : Live). held.name.generation < name.generation) x lives all)
  where
    none_and : (b : Bool) → (b && false) ≡ false
    none_and true = refl
    none_and false = refl

module _ (old new : List Live) (one : Live) (is : IsWithOne old one new) (none : find_row old one.name ≡ None) where
  -- with one more, that is found under its name, and all others as before
  pub finds-more : (name : Name) → find_row new name ≡ cond (same_name name one.name) (Some one) (find_row old name)
  finds-more name = ap (λ l. find_row l name) is.with_it ∙ by (same_name name one.name) refl
    where
      by : (b : Bool) → same_name name one.name ≡ b → find_row (is.before ++ one ∷ is.behind) name ≡ cond (same_name name one.name) (Some one) (find_row old name)
      by true same =
          let eq = same_name-eq name one.name same in
          let before : find_row is.before name ≡ None = none-before is.before is.behind name (ap (λ l. find_row l name) (sym is.without) ∙ ap (find_row old) eq ∙ none) in
          find-behind is.before (one ∷ is.behind) name before ∙ ap (λ b. cond b (Some one) (find_row is.behind name)) same ∙ sym (ap (λ b. cond b (Some one) (find_row old name)) same)
      by false other = find-other is.before is.behind one name other ∙ ap (λ l. find_row l name) (sym is.without) ∙ sym (ap (λ b. cond b (Some one) (find_row old name)) other)

-- what is found under a name has it
held-live : (rows : List Row) (name : Name) (o : Option Held) → option_map (live_as name) o ≡ None → o ≡ None
held-live rows name None e = refl
held-live rows name (Some h) e = absurd (let z : Some (live_as name h) ≡ None = e in cc)

-- a row more
pub tied_more : (d e : Draws) (rows rows' : RowMap) (name : Name) (held : Held) (generation : ℕ) → Tied d rows → e.rows ≡ record { name = name; held = held; generation = generation } ∷ d.rows → e.adds ≡ suc d.adds → length e.entries ≡ length d.entries + 1
    → IsWithOne rows.live (live_as name held) rows'.live → All (λ (live : Live). live.name.generation < name.generation) rows.live → rows'.adds ≡ rows.adds + 1 → Tied e rows'
tied_more d e rows rows' name held generation tied is adds longer_by one never more =
    let none : find_row rows.live name ≡ None = none-given rows.live name never in
    let fresh : held_as d.rows name ≡ None = held-live d.rows name (held_as d.rows name) (sym (tied.found name) ∙ none) in record {
      adds_are = let a = tied.adds_are in omega (arith, adds, more, a);
      few = let a = tied.few in omega (arith, adds, longer_by, a);
      found = λ other. finds-more rows.live rows'.live (live_as name held) one none other ∙ by other (same_name other name) refl ∙ sym (ap (λ (l : List Row). option_map (live_as other) (held_as l other)) is);
      many = let a = longer rows.live rows'.live (live_as name held) one in let b = tied.many in let c : length e.rows ≡ suc (length d.rows) = ap (λ (l : List Row). length l) is in omega (arith, a, b, c);
      counted = λ k. let a = counts-more rows.live rows'.live (live_as name held) one k in let b = tied.counted k in let c : row_count k e.rows ≡ one_if (held.edge.index == k) + row_count k d.rows = ap (row_count k) is in omega (arith, a, b, c);
      apart = subst AreApart (sym is) (fresh, tied.apart);
    }
  where
    by : (other : Name) (b : Bool) → same_name other name ≡ b → cond (same_name other name) (Some (live_as name held)) (find_row rows.live other) ≡ option_map (live_as other) (cond (same_name other name) (Some held) (held_as d.rows other))
    by other true same = ap (λ b. cond b (Some (live_as name held)) (find_row rows.live other)) same ∙ ap (λ (n : Name). Some (live_as n held)) (sym (same_name-eq other name same)) ∙ sym (ap (λ b. option_map (live_as other) (cond b (Some held) (held_as d.rows other))) same)
    by other false apart = ap (λ b. cond b (Some (live_as name held)) (find_row rows.live other)) apart ∙ tied.found other ∙ sym (ap (λ b. option_map (live_as other) (cond b (Some held) (held_as d.rows other))) apart)

-- lists of rows that the seat knows, without a name
module _ (name : Name) where
  without-none : (rows : List Row) → held_as rows name ≡ None → without name rows ≡ rows
  without-none [] none = refl
  without-none (row ∷ rows) none = by (without-none rows) (same_name name row.name) refl none
    where
      by : (held_as rows name ≡ None → without name rows ≡ rows) → (b : Bool) → same_name name row.name ≡ b → cond (same_name name row.name) (Some row.held) (held_as rows name) ≡ None → cond (same_name row.name name) (without name rows) (row ∷ without name rows) ≡ row ∷ rows
      by rest true is e = absurd (let z : Some row.held ≡ None = sym (ap (λ b. cond b (Some row.held) (held_as rows name)) is) ∙ e in cc)
      by rest false is e =
          ap (λ b. cond b (without name rows) (row ∷ without name rows)) (same_back row.name name ∙ is)
          ∙ ap (λ l. row ∷ l) (rest (sym (ap (λ b. cond b (Some row.held) (held_as rows name)) is) ∙ e))

  held-without : (rows : List Row) (other : Name) → held_as (without name rows) other ≡ cond (same_name other name) None (held_as rows other)
  held-without [] other = cond_none Held (same_name other name)
  held-without (row ∷ rows) other = by (same_name row.name name) refl (same_name other row.name) refl (same_name other name) refl (held-without rows other)
    where
      by : (p : Bool) → same_name row.name name ≡ p → (q : Bool) → same_name other row.name ≡ q → (s : Bool) → same_name other name ≡ s → held_as (without name rows) other ≡ cond (same_name other name) None (held_as rows other)
          → held_as (cond (same_name row.name name) (without name rows) (row ∷ without name rows)) other ≡ cond (same_name other name) None (cond (same_name other row.name) (Some row.held) (held_as rows other))
      by true gone true here true is rest = ap (λ b. held_as (cond b (without name rows) (row ∷ without name rows)) other) gone ∙ rest ∙ ap (λ b. cond b None (held_as rows other)) is ∙ sym (ap (λ b. cond b None (cond (same_name other row.name) (Some row.held) (held_as rows other))) is)
      by true gone true here false is rest = absurd (let e : row.name ≡ name = same_name-eq row.name name gone in let x : same_name other name ≡ true = subst (λ (n : Name). same_name other n ≡ true) e here in let z : true ≡ false = sym x ∙ is in cc)
      by true gone false apart s is rest = ap (λ b. held_as (cond b (without name rows) (row ∷ without name rows)) other) gone ∙ rest ∙ sym (ap (λ b. cond (same_name other name) None (cond b (Some row.held) (held_as rows other))) apart)
      by false stays true here true is rest = absurd (let e : other ≡ row.name = same_name-eq other row.name here in let x : same_name row.name name ≡ true = subst (λ (n : Name). same_name n name ≡ true) e is in let z : true ≡ false = sym x ∙ stays in cc)
      by false stays true here false is rest = ap (λ b. held_as (cond b (without name rows) (row ∷ without name rows)) other) stays ∙ ap (λ b. cond b (Some row.held) (held_as (without name rows) other)) here ∙ sym (ap₂ (λ b c. cond b None (cond c (Some row.held) (held_as rows other))) is here)
      by false stays false apart s is rest = ap (λ b. held_as (cond b (without name rows) (row ∷ without name rows)) other) stays ∙ ap (λ b. cond b (Some row.held) (held_as (without name rows) other)) apart ∙ rest ∙ sym (ap (λ b. cond (same_name other name) None (cond b (Some row.held) (held_as rows other))) apart)

  apart-without : (rows : List Row) → AreApart rows → AreApart (without name rows)
  apart-without [] apart = tt
  apart-without (row ∷ rows) apart = by (apart-without rows apart.1) (same_name row.name name) refl
    where
      by : AreApart (without name rows) → (b : Bool) → same_name row.name name ≡ b → AreApart (cond (same_name row.name name) (without name rows) (row ∷ without name rows))
      by rest true is = subst (λ b. AreApart (cond b (without name rows) (row ∷ without name rows))) (sym is) rest
      by rest false is = subst (λ b. AreApart (cond b (without name rows) (row ∷ without name rows))) (sym is)
          (held-without rows row.name ∙ ap (λ b. cond b None (held_as rows row.name)) is ∙ apart.0, rest)

  -- one row less
  pub fewer : (rows : List Row) (h : Held) → AreApart rows → held_as rows name ≡ Some h → (length (without name rows) + 1 ≡ length rows) × ((k : ℕ) → row_count k (without name rows) + one_if (h.edge.index == k) ≡ row_count k rows)
  fewer [] h apart is = absurd (let z : None ≡ Some h = is in cc)
  fewer (row ∷ rows) h apart is = by (fewer rows h apart.1) (same_name name row.name) refl is
    where
      by : (held_as rows name ≡ Some h → (length (without name rows) + 1 ≡ length rows) × ((k : ℕ) → row_count k (without name rows) + one_if (h.edge.index == k) ≡ row_count k rows)) → (b : Bool) → same_name name row.name ≡ b → cond (same_name name row.name) (Some row.held) (held_as rows name) ≡ Some h
          → (length (cond (same_name row.name name) (without name rows) (row ∷ without name rows)) + 1 ≡ suc (length rows)) × ((k : ℕ) → row_count k (cond (same_name row.name name) (without name rows) (row ∷ without name rows)) + one_if (h.edge.index == k) ≡ one_if (row.held.edge.index == k) + row_count k rows)
      by rest true here e =
          let same : row.held ≡ h = some_same row.held h (sym (ap (λ b. cond b (Some row.held) (held_as rows name)) here) ∙ e) in
          let gone : held_as rows name ≡ None = ap (held_as rows) (same_name-eq name row.name here) ∙ apart.0 in
          let back : cond (same_name row.name name) (without name rows) (row ∷ without name rows) ≡ rows = ap (λ b. cond b (without name rows) (row ∷ without name rows)) (same_back row.name name ∙ here) ∙ without-none rows gone in (
            (let a = ap (λ (l : List Row). length l) back in omega (arith, a)),
            (λ k. let a = ap (row_count k) back in let b : one_if (row.held.edge.index == k) ≡ one_if (h.edge.index == k) = ap (λ (x : Held). one_if (x.edge.index == k)) same in omega (arith, a, b)),
          )
        where
          some_same : (a b : Held) → Some a ≡ Some b → a ≡ b
          some_same a b e = cc
      by rest false other e =
          let r = rest (sym (ap (λ b. cond b (Some row.held) (held_as rows name)) other) ∙ e) in
          let back : cond (same_name row.name name) (without name rows) (row ∷ without name rows) ≡ row ∷ without name rows = ap (λ b. cond b (without name rows) (row ∷ without name rows)) (same_back row.name name ∙ other) in (
            (let a = ap (λ (l : List Row). length l) back in let b = r.0 in omega (arith, a, b)),
            (λ k. let a = ap (row_count k) back in let b = r.1 k in omega (arith, a, b)),
          )

  -- a row less
  pub tied_less : (d e : Draws) (rows rows' : RowMap) (h : Held) (live : Live) → Tied d rows → held_as d.rows name ≡ Some h → live.name ≡ name → live.edge ≡ h.edge → e.rows ≡ without name d.rows → e.adds ≡ d.adds → length e.entries ≡ length d.entries + 1
      → IsWithOne rows'.live live rows.live → find_row rows'.live name ≡ None → rows'.adds ≡ rows.adds → Tied e rows'
  tied_less d e rows rows' h live tied held named edge is adds longer_by one gone same =
      let f = fewer d.rows h tied.apart held in
      let none : find_row rows'.live live.name ≡ None = ap (find_row rows'.live) named ∙ gone in record {
        adds_are = let a = tied.adds_are in omega (arith, adds, same, a);
        few = let a = tied.few in omega (arith, adds, longer_by, a);
        found = λ other. by other (same_name other name) refl (finds-more rows'.live rows.live live one none other) ∙ sym (ap (λ (l : List Row). option_map (live_as other) (held_as l other)) is ∙ ap (option_map (live_as other)) (held-without d.rows other));
        many = let a = longer rows'.live rows.live live one in let b = tied.many in let c : length e.rows ≡ length (without name d.rows) = ap (λ (l : List Row). length l) is in let g = f.0 in omega (arith, a, b, c, g);
        counted = λ k. let a = counts-more rows'.live rows.live live one k in let b = tied.counted k in let c : row_count k e.rows ≡ row_count k (without name d.rows) = ap (row_count k) is in let g = f.1 k in let m : one_if (live.edge.index == k) ≡ one_if (h.edge.index == k) = ap (λ (x : Edge). one_if (x.index == k)) edge in omega (arith, a, b, c, g, m);
        apart = subst AreApart (sym is) (apart-without d.rows tied.apart);
      }
    where
      by : (other : Name) (b : Bool) → same_name other name ≡ b → find_row rows.live other ≡ cond (same_name other live.name) (Some live) (find_row rows'.live other) → find_row rows'.live other ≡ option_map (live_as other) (cond (same_name other name) None (held_as d.rows other))
      by other true here was = ap (find_row rows'.live) (same_name-eq other name here) ∙ gone ∙ sym (ap (λ b. option_map (live_as other) (cond b None (held_as d.rows other))) here)
      by other false apart was =
          sym (was ∙ ap (λ (n : Name). cond (same_name other n) (Some live) (find_row rows'.live other)) named ∙ ap (λ b. cond b (Some live) (find_row rows'.live other)) apart) ∙ tied.found other ∙ sym (ap (λ b. option_map (live_as other) (cond b None (held_as d.rows other))) apart)

-- the same rows
pub tied_same : (d e : Draws) (rows : RowMap) → Tied d rows → e.rows ≡ d.rows → e.adds ≡ d.adds → length d.entries ≤ length e.entries → Tied e rows
tied_same d e rows tied is adds more = record {
  adds_are = adds ∙ tied.adds_are;
  few = let a = tied.few in omega (arith, adds, more, a);
  found = λ name. tied.found name ∙ sym (ap (λ (l : List Row). option_map (live_as name) (held_as l name)) is);
  many = tied.many ∙ sym (ap (λ (l : List Row). length l) is);
  counted = λ k. tied.counted k ∙ sym (ap (row_count k) is);
  apart = subst AreApart (sym is) tied.apart;
}

-- other rows of the same map: only the room changed
pub tied_room : (d : Draws) (rows rows' : RowMap) → Tied d rows → rows'.live ≡ rows.live → rows'.adds ≡ rows.adds → Tied d rows'
tied_room d rows rows' tied live adds = record {
  adds_are = tied.adds_are ∙ sym adds;
  few = tied.few;
  found = λ name. ap (λ l. find_row l name) live ∙ tied.found name;
  many = ap (λ (l : List Live). length l) live ∙ tied.many;
  counted = λ k. ap (live_count k) live ∙ tied.counted k;
  apart = tied.apart;
}

-- one call more
pub longer_by : (d e : Draws) (x : Entry) → e.entries ≡ d.entries ++ x ∷ [] → length e.entries ≡ length d.entries + 1
longer_by d e x is = ap (λ (l : List Entry). length l) is ∙ length-append d.entries (x ∷ [])
