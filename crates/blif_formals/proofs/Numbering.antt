-- What instances join, by number.
use Rattle.std.proofs.Common.{◌≡◌, ℕ, suc, List, [], ◌∷◌, ◌++◌, Some, length, map, refl, ap, sym, subst}
use Rattle.std.specs.Prelude.{slice_get}
use Rattle.std.proofs.lemmas.Option.{get_or_from_slice_get, slice_get_within}
use Rattle.job_words.specs.Text.{Word}
use Rattle.blif_models.specs.declared.numbered.NumberedJoin.{NumberedJoin}
use Rattle.blif_models.specs.Models.{join_of}
use Rattle.blif_models.specs.Numberings.{AreJoinsOf, IsNumberOf, words_at}
use Rattle.blif_formals.specs.Actuals.{AreActuals, JoinsAgree, Keeps}
use Rattle.blif_formals.specs.Parting.{JoinNumbers}
use Rattle.blif_formals.specs.Words.{with_word}
use Rattle.blif_formals.proofs.WordIndex.{numbers_stay}

pub keeps_all : (names : List Word) → Keeps names names
keeps_all names = record { stay = λ i word e. e; one = λ h. h }

pub keeps_more : (names before after : List Word) (word : Word) → Keeps names before → after ≡ with_word before word → Keeps names after
keeps_more names before after word kept e = subst (Keeps names) (sym e) (record {
  stay = λ i w at. numbers_stay.stay before word i w (kept.stay i w at);
  one = λ h. numbers_stay.one before word (kept.one h);
})

pub actuals_kept : (old new words : List Word) (ns : List ℕ) → ((i : ℕ) (word : Word) → slice_get old i ≡ Some word → slice_get new i ≡ Some word) → AreActuals old words ns → AreActuals new words ns
actuals_kept old new [] [] stay a = tt
actuals_kept old new [] (n ∷ ns) stay a = absurd a
actuals_kept old new (w ∷ words) [] stay a = absurd a
actuals_kept old new (w ∷ words) (n ∷ ns) stay a = (stay n (join_of w).actual a.0, actuals_kept old new words ns stay a.1)

pub one_actual : (names words : List Word) (ns : List ℕ) (word : Word) (n : ℕ) → AreActuals names words ns → slice_get names n ≡ Some (join_of word).actual → AreActuals names (words ++ word ∷ []) (ns ++ n ∷ [])
one_actual names [] [] word n a e = (e, tt)
one_actual names [] (k ∷ ns) word n a e = absurd a
one_actual names (w ∷ words) [] word n a e = absurd a
one_actual names (w ∷ words) (k ∷ ns) word n a e = (a.0, one_actual names words ns word n a.1 e)

pub as_many_numbers : (names words : List Word) (ns : List ℕ) → JoinNumbers names words ns → length ns ≡ length words
as_many_numbers names [] [] a = refl
as_many_numbers names [] (n ∷ ns) a = absurd a
as_many_numbers names (w ∷ words) [] a = absurd a
as_many_numbers names (w ∷ words) (n ∷ ns) a = ap suc (as_many_numbers names words ns a.1)

is_number : (all : List (List Word)) (m n : ℕ) (word : Word) → slice_get (words_at all m) n ≡ Some word → IsNumberOf all m n word
is_number all m n word e = (slice_get_within (words_at all m) n word e, get_or_from_slice_get (words_at all m) n word [] e)

are_joins : (all : List (List Word)) (m inner : ℕ) (words : List Word) (joins : List NumberedJoin) → AreActuals (words_at all m) words (map (λ join. join.actual) joins) → JoinNumbers (words_at all inner) words (map (λ join. join.formal) joins)
    → AreJoinsOf all m inner joins (map join_of words)
are_joins all m inner [] [] a b = tt
are_joins all m inner [] (join ∷ joins) a b = absurd a
are_joins all m inner (w ∷ words) [] a b = absurd a
are_joins all m inner (w ∷ words) (join ∷ joins) a b =
    (is_number all inner join.formal (join_of w).formal (b.0).1, is_number all m join.actual (join_of w).actual a.0, are_joins all m inner words joins a.1 b.1)

pub joins_agree : JoinsAgree
joins_agree = record {
  kept = λ old new words actuals keeps a. actuals_kept old new words actuals keeps.stay a;
  joins = λ all m inner instance words actuals joins behind a b.
      subst (λ ws. AreJoinsOf all m inner joins (map join_of ws)) (sym behind) (are_joins all m inner words joins (subst (AreActuals (words_at all m) words) (sym b.1) a) b.0);
}
