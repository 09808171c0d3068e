-- Registers by their names.
use Rattle.std.proofs.Common.{◌≡◌, ◌≢◌, ℕ, zero, suc, ◌<◌, ◌≤◌, ◌||◌, ◌&&◌, Bool, true, false, cond, List, [], ◌∷◌, length, Option, Some, None, get_or, set, map, take, drop, ◌++◌, ◌+◌, not, add-one, refl, ap, sym, ◌∙◌, arith}
use Rattle.std.specs.Prelude.{slice_get, find, nat_lt}
use Rattle.std.specs.List.{list_any, All, position_or_len}
use Rattle.std.specs.Str.{bytes_eq}
use Rattle.std.proofs.lemmas.Bool.{false≢true}
use Rattle.std.proofs.lemmas.Bool.Decides.{nat_tests}
use Rattle.std.proofs.lemmas.List.Folds.{find_at}
use Rattle.std.proofs.lemmas.Option.{slice_get_past, slice_get_read}
use Rattle.std.proofs.lemmas.List.{set-get_or}
use Rattle.edge_bits.specs.declared.edges.Kind.{Kind}
use Rattle.edge_bits.specs.declared.edges.Kind.TheVariants.{Bdd, Add, Zdd}
use Rattle.job_text.specs.declared.faults.FaultKind.TheVariants as kinds
use Rattle.job_words.specs.Text.{Word, is_name}
use Rattle.job_text.specs.Places.{Refers, is_called, kind_at, kind_fault, kind_of}
use Rattle.job_text.specs.Grammar.{kind_called, register_called, without}
use Rattle.job_text.specs.Faults.{name_fault}
use Rattle.std.proofs.lemmas.Slice.Eq.{bytes_eq-Decides}
use Rattle.job_text.specs.declared.job.Register.{Register}

or_false : (a b : Bool) → (a || b) ≡ false → (a ≡ false) × (b ≡ false)
or_false true b h = absurd (false≢true (sym h))
or_false false b h = (refl, h)

-- a test that no register passes fails at each
pub none_passes : (p : Register → Bool) (rs : List Register) (k : ℕ) (d : Register) → list_any p rs ≡ false → k < length rs → p (get_or rs k d) ≡ false
none_passes p [] k d h lt = absurd (omega arith)
none_passes p (r ∷ rs) zero d h lt = (or_false (p r) (list_any p rs) h).0
none_passes p (r ∷ rs) (suc k) d h lt = none_passes p rs k d (or_false (p r) (list_any p rs) h).1 (omega arith)

pub fresh_from : (rs : List Register) (w : List ℕ) → list_any (is_called w) rs ≡ false → All (λ register. register.name ≢ w) rs
fresh_from rs w h k d lt = λ same.
    let no : bytes_eq (get_or rs k d).name w ≡ false = none_passes (is_called w) rs k d h lt in
    false≢true (sym no ∙ (bytes_eq-Decides (get_or rs k d).name w).1 same)

-- A word that names a register: what is found by it
pub called_is : (rs : List Register) (w : Word) (a : ℕ) (kind : Kind) → Refers rs w a kind → register_called rs w ≡ Some (record { name = w; live = true; kind = kind })
called_is rs w a kind h = find_at (is_called w) rs ∙ ap (slice_get rs) h.2 ∙ h.1

pub kind_is : (rs : List Register) (w : Word) (a : ℕ) (kind : Kind) → Refers rs w a kind → kind_called rs w ≡ kind_at rs a
kind_is rs w a kind h = ap kind_of (called_is rs w a kind h) ∙ sym (ap kind_of h.1)

-- the kind of the first of a name
pub kind_first : (rs : List Register) (w : Word) → kind_called rs w ≡ kind_at rs (position_or_len (is_called w) rs)
kind_first rs w = ap kind_of (find_at (is_called w) rs)

passes_first : (p : Register → Bool) (x r : Register) (o : Option Register) (b : Bool) → p x ≡ b → cond b (Some x) o ≡ Some r → (o ≡ Some r → p r ≡ true) → p r ≡ true
passes_first p x r o true e h later =
    let same : x ≡ r = cc in
    ap p (sym same) ∙ e
passes_first p x r o false e h later = later h

passes : (p : Register → Bool) (rs : List Register) (r : Register) → find p rs ≡ Some r → p r ≡ true
passes p [] r h = cc
passes p (x ∷ rs) r h = passes_first p x r (find p rs) (p x) refl h (passes p rs r)

pub refers : (rs : List Register) (w : Word) (r : Register) → is_name w ≡ true → register_called rs w ≡ Some r → r.live ≡ true → Refers rs w (position_or_len (is_called w) rs) r.kind
refers rs w r form h live =
    let name : r.name ≡ w = (bytes_eq-Decides r.name w).0 (passes (is_called w) rs r h) in (
      form,
      sym (find_at (is_called w) rs) ∙ h ∙ ap (λ n. Some (record { name = n; live = r.live; kind = r.kind })) name ∙ ap (λ l. Some (record { name = w; live = l; kind = r.kind })) live,
      refl,
    )

-- a register that has a name and is live
pub no_name_fault : (o : Option Register) → name_fault o ≡ None → (r : Register) × (o ≡ Some r) × (r.live ≡ true)
no_name_fault None h = cc
no_name_fault (Some r) h = by_cases r.live refl
  where
    by_cases : (b : Bool) → r.live ≡ b → (q : Register) × (Some r ≡ Some q) × (q.live ≡ true)
    by_cases true e = (r, refl, e)
    by_cases false e =
        let k : Some kinds.Name ≡ None = sym (ap (λ b. cond b None (Some kinds.Name)) e) ∙ h in
        cc

-- what stands at the place of a name
past : (i n : ℕ) → false ≡ nat_lt i n → n ≤ i
past i n h = grind (arith, nat_tests)

within : (i n : ℕ) → true ≡ nat_lt i n → i < n
within i n h = grind (arith, nat_tests)

pub none_called : (rs : List Register) (w : Word) (i : ℕ) → i ≡ position_or_len (is_called w) rs → false ≡ nat_lt i (length rs) → name_fault (register_called rs w) ≡ Some kinds.Name
none_called rs w i e h = ap name_fault (find_at (is_called w) rs ∙ ap (slice_get rs) (sym e) ∙ slice_get_past rs i (past i (length rs) h))

pub one_called : (rs : List Register) (w : Word) (i : ℕ) (r : Register) → i ≡ position_or_len (is_called w) rs → true ≡ nat_lt i (length rs) → r ≡ get_or rs i r → register_called rs w ≡ Some r
one_called rs w i r e h is = find_at (is_called w) rs ∙ ap (slice_get rs) (sym e) ∙ slice_get_read rs (length rs) i r refl (within i (length rs) h) is

pub dropped_fault : (rs : List Register) (w : Word) (r : Register) → register_called rs w ≡ Some r → r.live ≡ false → name_fault (register_called rs w) ≡ Some kinds.Name
dropped_fault rs w r e live = ap name_fault e ∙ ap (λ b. cond b None (Some kinds.Name)) live

pub live_well : (rs : List Register) (w : Word) (r : Register) → register_called rs w ≡ Some r → r.live ≡ true → (name_fault (register_called rs w) ≡ None) × (kind_called rs w ≡ r.kind)
live_well rs w r e live = (ap name_fault e ∙ ap (λ b. cond b None (Some kinds.Name)) live, ap kind_of e)

-- one kind
pub kind_itself : (kind : Kind) → kind_fault kind kind ≡ None
kind_itself Bdd = refl
kind_itself Add = refl
kind_itself Zdd = refl

pub alike : (kind kind' : Kind) → kind ≡ kind' → kind_fault kind kind' ≡ None
alike kind kind' e = ap (kind_fault kind) (sym e) ∙ kind_itself kind

pub alike_are : (kind kind' : Kind) → kind_fault kind kind' ≡ None → kind ≡ kind'
alike_are Bdd Bdd h = refl
alike_are Bdd Add h = cc
alike_are Bdd Zdd h = cc
alike_are Add Bdd h = cc
alike_are Add Add h = refl
alike_are Add Zdd h = cc
alike_are Zdd Bdd h = cc
alike_are Zdd Add h = cc
alike_are Zdd Zdd h = refl

-- the registers up to here are dropped where they have the name
step_set : (f : Register → Register) (rs : List Register) (i : ℕ) (r : Register) → i < length rs → r ≡ get_or (map f (take i rs) ++ drop i rs) i r
    → set (map f (take i rs) ++ drop i rs) i (f r) ≡ map f (take (suc i) rs) ++ drop (suc i) rs
step_set f [] i r h at = absurd (omega arith)
step_set f (x ∷ rs) zero r h at = ap (λ t. f t ∷ rs) at
step_set f (x ∷ rs) (suc i) r h at = ap (λ t. f x ∷ t) (step_set f rs i r (omega arith) at)

pub more_set : (f : Register → Register) (rs xs : List Register) (i : ℕ) (r : Register) → xs ≡ map f (take i rs) ++ drop i rs → i < length rs → r ≡ get_or xs i r
    → set xs i (f r) ≡ map f (take (i + 1) rs) ++ drop (i + 1) rs
more_set f rs xs i r e h at =
    ap (λ t. set t i (f r)) e ∙ step_set f rs i r h (at ∙ ap (λ t. get_or t i r) e) ∙ ap (λ k. map f (take k rs) ++ drop k rs) (sym (add-one i))

-- and where they have another
pub more_same : (f : Register → Register) (rs xs : List Register) (i : ℕ) (r : Register) → xs ≡ map f (take i rs) ++ drop i rs → i < length rs → r ≡ get_or xs i r → f r ≡ r
    → xs ≡ map f (take (i + 1) rs) ++ drop (i + 1) rs
more_same f rs xs i r e h at same =
    sym (set-get_or xs i r) ∙ ap (set xs i) (sym at ∙ sym same) ∙ more_set f rs xs i r e h at

and_true : (b : Bool) → (b && true) ≡ b
and_true true = refl
and_true false = refl

and_false : (b : Bool) → (b && false) ≡ false
and_false true = refl
and_false false = refl

pub dropped_is : (r : Register) (w : List ℕ) → bytes_eq r.name w ≡ true → record { name = r.name; live = false; kind = r.kind } ≡ without w r
dropped_is r w e = ap (λ l. record { name = r.name; live = l; kind = r.kind }) (sym (ap (λ b. r.live && not b) e ∙ and_false r.live))

pub kept_is : (r : Register) (w : List ℕ) → bytes_eq r.name w ≡ false → without w r ≡ r
kept_is r w e = ap (λ l. record { name = r.name; live = l; kind = r.kind }) (ap (λ b. r.live && not b) e ∙ and_true r.live)

pub same_at : (xs : List Register) (i : ℕ) (r q : Register) → i < length xs → r ≡ get_or xs i r → q ≡ get_or xs i q → r ≡ q
same_at [] i r q h at at' = absurd (omega arith)
same_at (x ∷ xs) zero r q h at at' = at ∙ sym at'
same_at (x ∷ xs) (suc i) r q h at at' = same_at xs i r q (omega arith) at at'

pub length_kept : (f : Register → Register) (rs : List Register) (i : ℕ) → length (map f (take i rs) ++ drop i rs) ≡ length rs
length_kept f [] zero = refl
length_kept f [] (suc i) = refl
length_kept f (r ∷ rs) zero = refl
length_kept f (r ∷ rs) (suc i) = ap suc (length_kept f rs i)
