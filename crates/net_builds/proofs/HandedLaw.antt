-- What a name of the fetching session stands for at the end of a history is what the posted name stands for.
use Rattle.std.proofs.Common.{◌≡◌, ◌⊎◌, ℕ, zero, suc, ◌+◌, ◌<◌, ◌≤◌, Bool, true, false, List, [], ◌∷◌, ◌++◌, length, take, append_assoc, Option, Some, None, refl, ap, ap₂, sym, subst, ◌∙◌, inl, inr, arith}
use Rattle.std.proofs.Math.Seq.{take-append_seam}
use Rattle.function_laws.specs.declared.history.Name.{Name}
use Rattle.function_laws.specs.declared.history.Function.{Function}
use Rattle.function_laws.specs.declared.history.Call.{Call}
use Rattle.function_laws.specs.declared.history.Call.TheVariants as calls
use Rattle.function_laws.specs.declared.history.Reply.{Reply}
use Rattle.function_laws.specs.declared.history.Reply.TheVariants as replies
use Rattle.function_laws.specs.declared.history.Entry.{Entry}
use Rattle.function_laws.specs.Handovers.{LeavesCell, is_numbered}
use Rattle.function_laws.specs.Histories.{IsLegal, IsLegalFrom, after_entry, table_after}
use Rattle.function_laws.specs.SessionEntries.{Each}
use Rattle.function_laws.specs.Outcomes.{when, with_one, is_done}
use Rattle.function_laws.specs.Steps.{IsAllowed}
use Rattle.function_laws.specs.Tables.{Sizes, Table, opening}
use Rattle.std.specs.Prelude.{nat_lt}
use Rattle.function_laws.proofs.HandoverLemmas.{handed_over}
use Rattle.function_laws.proofs.HistoryLemmas.{table_after-append}
use Rattle.net_builds.proofs.NamesOnce.{stood}

-- the entry is one of these
abbrev pub Has : Entry → List Entry → Type 0
Has e [] = ⊥
Has e (x ∷ xs) = (x ≡ e) ⊎ Has e xs

pub has-left : (e : Entry) (xs ys : List Entry) → Has e xs → Has e (xs ++ ys)
has-left e [] ys has = absurd has
has-left e (x ∷ xs) ys (inl is) = inl is
has-left e (x ∷ xs) ys (inr has) = inr (has-left e xs ys has)

pub has-right : (e : Entry) (xs ys : List Entry) → Has e ys → Has e (xs ++ ys)
has-right e [] ys has = has
has-right e (x ∷ xs) ys has = inr (has-right e xs ys has)

-- an entry of a legal history stands at its place
pub split : (n : ℕ) (t : Table) (log : List Entry) (e : Entry) → IsLegalFrom n t log → Has e log → (before : List Entry) × (rest : List Entry) × (log ≡ before ++ e ∷ rest) × (e.place ≡ n + length before)
split n t [] e legal has = absurd has
split n t (x ∷ xs) e legal (inl is) = ([], xs, ap (λ y. y ∷ xs) is, ap (λ (y : Entry). y.place) (sym is) ∙ legal.0 ∙ omega arith)
split n t (x ∷ xs) e legal (inr has) =
    let inner = split (n + 1) (after_entry t x) xs e legal.2 has in
    (x ∷ inner.0, inner.1, ap (λ ys. x ∷ ys) inner.2, inner.3 ∙ omega arith)

-- the places of a legal part
pub places : (n : ℕ) (t : Table) (es : List Entry) (e : Entry) → IsLegalFrom n t es → Has e es → (n ≤ e.place) × (e.place < n + length es)
places n t [] e legal has = absurd has
places n t (x ∷ xs) e legal (inl is) = let at : e.place ≡ n = ap (λ (y : Entry). y.place) (sym is) ∙ legal.0 in (omega (arith, at), omega (arith, at))
places n t (x ∷ xs) e legal (inr has) = let inner = places (n + 1) (after_entry t x) xs e legal.2 has in (omega (arith, inner.0), omega (arith, inner.1))

pub legal-left : (n : ℕ) (t : Table) (xs ys : List Entry) → IsLegalFrom n t (xs ++ ys) → IsLegalFrom n t xs
legal-left n t [] ys legal = tt
legal-left n t (x ∷ xs) ys legal = (legal.0, legal.1, legal-left (n + 1) (after_entry t x) xs ys legal.2)

pub legal-right : (n : ℕ) (t : Table) (xs ys : List Entry) → IsLegalFrom n t (xs ++ ys) → IsLegalFrom (n + length xs) (table_after t xs) ys
legal-right n t [] ys legal = subst (λ m. IsLegalFrom m t ys) (omega arith) legal
legal-right n t (x ∷ xs) ys legal = subst (λ m. IsLegalFrom m (table_after (after_entry t x) xs) ys) (omega arith) (legal-right (n + 1) (after_entry t x) xs ys legal.2)

pub each-of : (P : Entry → Type 0) (es : List Entry) → ((e : Entry) → Has e es → P e) → Each P es
each-of P [] all = tt
each-of P (e ∷ es) all = (all e (inl refl), each-of P es (λ x has. all x (inr has)))

-- which of two parts an entry of a later place stands in
later-part : (n : ℕ) (t : Table) (before rest : List Entry) (e x : Entry) → IsLegalFrom n t (before ++ e ∷ rest) → Has x (before ++ e ∷ rest) → e.place < x.place → Has x rest
later-part n t [] rest e x legal (inl is) less = absurd (omega (arith, less, ap (λ (y : Entry). y.place) is))
later-part n t [] rest e x legal (inr has) less = has
later-part n t (b ∷ before) rest e x legal (inl is) less =
    let at : e.place ≡ n + 1 + length before = (legal-right (n + 1) (after_entry t b) before (e ∷ rest) legal.2).0 in
    absurd (omega (arith, less, at, legal.0, ap (λ (y : Entry). y.place) is))
later-part n t (b ∷ before) rest e x legal (inr has) less = later-part (n + 1) (after_entry t b) before rest e x legal.2 has less

-- what is posted stands for something
posted-lives : (t : Table) (s i : ℕ) (from : Name) → IsAllowed t s (calls.Post i from) replies.Done → (f : Function) × (t.live s from ≡ Some f)
posted-lives t s i from (o, is, replies) = by (t.live s from) (nat_lt i t.sizes.cells) refl is
  where
    by : (x : Option Function) (b : Bool) → t.live s from ≡ x → when b (with_one x (λ f. is_done)) ≡ Some o → (f : Function) × (t.live s from ≡ Some f)
    by (Some f) b live is = (f, live)
    by None true live is = cc
    by None false live is = cc

-- the front of a legal part up to a place has what stands below it
pub has-front : (n p : ℕ) (t : Table) (log : List Entry) (e : Entry) → IsLegalFrom n t log → Has e log → e.place < n + p → Has e (take p log)
has-front n zero t [] e legal has less = absurd has
has-front n (suc p) t [] e legal has less = absurd has
has-front n zero t (x ∷ log) e legal has less = absurd (let at = places n t (x ∷ log) e legal has in omega (arith, at.0, less))
has-front n (suc p) t (x ∷ log) e legal (inl is) less = inl is
has-front n (suc p) t (x ∷ log) e legal (inr has) less = inr (has-front (n + 1) p (after_entry t x) log e legal.2 has (omega (arith, less)))

-- it is legal, and what it has the part has
pub legal-front : (n p : ℕ) (t : Table) (log : List Entry) → IsLegalFrom n t log → IsLegalFrom n t (take p log)
legal-front n zero t log legal = tt
legal-front n (suc p) t [] legal = tt
legal-front n (suc p) t (x ∷ log) legal = (legal.0, legal.1, legal-front (n + 1) p (after_entry t x) log legal.2)

pub front-has : (p : ℕ) (log : List Entry) (e : Entry) → Has e (take p log) → Has e log
front-has zero log e has = absurd has
front-has (suc p) [] e has = absurd has
front-has (suc p) (x ∷ log) e (inl is) = inl is
front-has (suc p) (x ∷ log) e (inr has) = inr (front-has p log e has)

pub take-front : (p q : ℕ) (log : List Entry) → p ≤ q → take p (take q log) ≡ take p log
take-front zero q log le = refl
take-front (suc p) zero log le = absurd (omega (arith, le))
take-front (suc p) (suc q) [] le = refl
take-front (suc p) (suc q) (x ∷ log) le = ap (λ (es : List Entry). x ∷ es) (take-front p q log (omega (arith, le)))

-- A post and a later fetch of a legal history, with no post to the cell between them.
module _ (sizes : Sizes) (log : List Entry) (legal : IsLegal sizes log) (plain : (e : Entry) → Has e log → is_numbered e.reply ≡ false) (i : ℕ) (post fetch : Entry) (from to : Name)
    (has_post : Has post log) (has_fetch : Has fetch log) (turn : post.place < fetch.place)
    (leaves : (e : Entry) → Has e log → post.place < e.place → e.place < fetch.place → LeavesCell i e)
    (post_call : post.call ≡ calls.Post i from) (post_reply : post.reply ≡ replies.Done)
    (other : Name) (fetch_call : fetch.call ≡ calls.Fetch i other) (fetch_reply : fetch.reply ≡ replies.Fetched to true) (g : Function)
    (stands_to : (table_after (opening sizes) log).live fetch.session to ≡ Some g) where
  one : (before : List Entry) × (rest : List Entry) × (log ≡ before ++ post ∷ rest) × (post.place ≡ 0 + length before)
  one = split 0 (opening sizes) log post legal has_post

  -- what the posted name stood for at the post's place
  law : (before rest between after : List Entry) → log ≡ before ++ post ∷ rest → rest ≡ between ++ fetch ∷ after → post.place ≡ length before → fetch.place ≡ length before + 1 + length between
      → (table_after (opening sizes) before).live post.session from ≡ Some g
  law before rest between after first second at_post at_fetch =
      let cut : log ≡ before ++ post ∷ (between ++ fetch ∷ after) = first ∙ ap (λ r. before ++ post ∷ r) second in
      let whole : IsLegalFrom 0 (opening sizes) (before ++ post ∷ (between ++ fetch ∷ after)) = subst (λ es. IsLegalFrom 0 (opening sizes) es) cut legal in
      let t : Table = table_after (opening sizes) before in
      let from_post : IsLegalFrom (0 + length before) t (post ∷ (between ++ fetch ∷ after)) = legal-right 0 (opening sizes) before (post ∷ (between ++ fetch ∷ after)) whole in
      let u : Table = table_after (after_entry t post) between in
      let at : IsLegalFrom (0 + length before + 1 + length between) u (fetch ∷ after) = legal-right (0 + length before + 1) (after_entry t post) between (fetch ∷ after) from_post.2 in
      let has : (e : Entry) → Has e (before ++ post ∷ (between ++ fetch ∷ after)) → Has e log = λ e h. subst (λ es. Has e es) (sym cut) h in
      let leave : Each (LeavesCell i) between = each-of (LeavesCell i) between
      (λ e h. let p = places (0 + length before + 1) (after_entry t post) between e (legal-left (0 + length before + 1) (after_entry t post) between (fetch ∷ after) from_post.2) h in
      leaves e (has e (has-right e before _ (inr (has-left e between _ h)))) (omega (arith, p.0, at_post)) (omega (arith, p.1, at_fetch))) in
      let handed : (after_entry u fetch).live fetch.session to ≡ t.live post.session from =
      handed_over 0 t i post fetch between from to (record { post_call = post_call; post_reply = post_reply; other = other; fetch_call = fetch_call; fetch_reply = fetch_reply }) leave at.1 in
      let lives = posted-lives t post.session i from (subst (λ (y : Call × Reply). IsAllowed t post.session y.0 y.1) (λ k. (post_call k, post_reply k)) from_post.1) in
      let h : Function = lives.0 in
      let front : List Entry = before ++ post ∷ (between ++ fetch ∷ []) in
      let regroup : before ++ post ∷ (between ++ fetch ∷ after) ≡ front ++ after =
      ap (λ xs. before ++ post ∷ xs) (sym (append_assoc between (fetch ∷ []) after)) ∙ sym (append_assoc before (post ∷ (between ++ fetch ∷ [])) after) in
      let whole_too : IsLegalFrom 0 (opening sizes) (front ++ after) = subst (λ es. IsLegalFrom 0 (opening sizes) es) regroup whole in
      let table_front : table_after (opening sizes) front ≡ after_entry u fetch =
      table_after-append (opening sizes) before (post ∷ (between ++ fetch ∷ [])) ∙ table_after-append (after_entry t post) between (fetch ∷ []) in
      let end_too : table_after (opening sizes) log ≡ table_after (table_after (opening sizes) front) after = ap (table_after (opening sizes)) (cut ∙ regroup) ∙ table_after-append (opening sizes) front after in
      let has_too : (e : Entry) → Has e (front ++ after) → Has e log = λ e x. subst (λ es. Has e es) (sym (cut ∙ regroup)) x in
      let h_is_g : h ≡ g = stood fetch.session to sizes front after h g (legal-left 0 (opening sizes) front after whole_too)
      (each-of (λ (e : Entry). is_numbered e.reply ≡ false) front (λ e x. plain e (has_too e (has-left e front after x)))) (legal-right 0 (opening sizes) front after whole_too)
      (each-of (λ (e : Entry). is_numbered e.reply ≡ false) after (λ e x. plain e (has_too e (has-right e front after x))))
      (ap (λ (w : Table). w.live fetch.session to) table_front ∙ handed ∙ lives.1) (sym (ap (λ (w : Table). w.live fetch.session to) end_too) ∙ stands_to) in
      lives.1 ∙ ap Some h_is_g

  stood-then : (table_after (opening sizes) one.0).live post.session from ≡ Some g
  stood-then =
      let rest = one.1 in
      let cut_legal : IsLegalFrom 0 (opening sizes) (one.0 ++ post ∷ rest) = subst (λ es. IsLegalFrom 0 (opening sizes) es) one.2 legal in
      let later : Has fetch rest = later-part 0 (opening sizes) one.0 rest post fetch cut_legal (subst (λ es. Has fetch es) one.2 has_fetch) turn in
      let tail : IsLegalFrom (0 + length one.0 + 1) (after_entry (table_after (opening sizes) one.0) post) rest = (legal-right 0 (opening sizes) one.0 (post ∷ rest) cut_legal).2 in
      let two = split (0 + length one.0 + 1) (after_entry (table_after (opening sizes) one.0) post) rest fetch tail later in
      law one.0 rest two.0 two.1 one.2 two.2 (omega (arith, one.3)) (omega (arith, two.3))

  -- what the posted name stood for at the post's place is what the fetched one stands for
  pub handed-at : (f : Function) → (table_after (opening sizes) (take post.place log)).live post.session from ≡ Some f → f ≡ g
  handed-at f stands =
      let at : post.place ≡ length one.0 = omega (arith, one.3) in
      let front : take post.place log ≡ one.0 = ap₂ take at one.2 ∙ take-append_seam one.0 (post ∷ one.1) in
      let now : Some f ≡ Some g = sym stands ∙ ap (λ (es : List Entry). (table_after (opening sizes) es).live post.session from) front ∙ stood-then in
      cc

  -- and so is what it stands for at the end
  pub handed-law : (f : Function) → (table_after (opening sizes) log).live post.session from ≡ Some f → f ≡ g
  handed-law f stands_from =
      let before = one.0 in
      let rest : List Entry = post ∷ one.1 in
      let whole : IsLegalFrom 0 (opening sizes) (before ++ rest) = subst (λ es. IsLegalFrom 0 (opening sizes) es) one.2 legal in
      let end : table_after (opening sizes) log ≡ table_after (table_after (opening sizes) before) rest = ap (table_after (opening sizes)) one.2 ∙ table_after-append (opening sizes) before rest in
      let has : (e : Entry) → Has e (before ++ rest) → Has e log = λ e h. subst (λ es. Has e es) (sym one.2) h in
      sym (stood post.session from sizes before rest g f (legal-left 0 (opening sizes) before rest whole)
      (each-of (λ (e : Entry). is_numbered e.reply ≡ false) before (λ e x. plain e (has e (has-left e before rest x)))) (legal-right 0 (opening sizes) before rest whole)
      (each-of (λ (e : Entry). is_numbered e.reply ≡ false) rest (λ e x. plain e (has e (has-right e before rest x))))
      stood-then (sym (ap (λ (w : Table). w.live post.session from) end) ∙ stands_from))
