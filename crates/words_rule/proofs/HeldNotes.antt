-- What a holder notes of one slot changes no other note.
use Rattle.std.proofs.Common.{◌≡◌, ◌≢◌, ℕ, ◌<◌, ◌≤◌, ◌==◌, ◌&&◌, not, cond, Bool, true, false, true≢false, List, [], ◌∷◌, Some, None, inl, inr, refl, ap, sym, ◌∙◌, arith, eq-eqb, ne_eqb}
use Rattle.std.specs.Prelude as std
use Rattle.std.proofs.lemmas.Bool.{cases_eq}
use Rattle.edge_bits.specs.declared.words.Word.{Word}
use Rattle.edge_bits.specs.Words.{unpack_of}
use Rattle.function_laws.specs.declared.history.Function.{Function}
use Rattle.function_laws.specs.Kinds.{Denoted}
use Rattle.function_laws.specs.SessionEntries.{Each}
use Rattle.node_store.specs.Changes.{put_at}
use Rattle.node_store.proofs.Rewriting.{put_at-same, put_at-other}
use Rattle.words_rule.specs.declared.view.Held.{Held}
use Rattle.words_rule.specs.declared.view.SeenWord.{SeenWord}
use Rattle.words_rule.specs.Known.{denoted_in, is_among, met_in, noted_bits, noted_function, word_in}
use Rattle.words_rule.specs.HeldContents.{or_zero, seen_without, with_seen, with_word, words_without}
use Rattle.words_rule.specs.Tallies.{one_if, times}

word_else : (s t : ℕ) (l : List SeenWord) → t ≢ s → noted_bits (words_without s l) t ≡ noted_bits l t
word_else s t [] ne = refl
word_else s t (note ∷ l) ne = elim (cases_eq note.slot s) [
  | inl e ↦ ap (λ c. noted_bits (cond c (words_without s l) (note ∷ words_without s l)) t) (eq-eqb note.slot s e) ∙ word_else s t l ne
      ∙ sym (ap (λ c. cond c (Some note.bits) (noted_bits l t)) (ne_eqb note.slot t (λ same. ne (sym same ∙ e))))
  | inr off ↦ ap (λ c. noted_bits (cond c (words_without s l) (note ∷ words_without s l)) t) (ne_eqb note.slot s off) ∙ ap (λ x. cond (note.slot == t) (Some note.bits) x) (word_else s t l ne)
]

pub word_here : (s bits : ℕ) (l : List SeenWord) → noted_bits (with_word s bits l) s ≡ Some bits
word_here s bits l = ap (λ c. cond c (Some bits) (noted_bits (words_without s l) s)) (eq-eqb s s refl)

pub word_apart : (s bits t : ℕ) (l : List SeenWord) → t ≢ s → noted_bits (with_word s bits l) t ≡ noted_bits l t
word_apart s bits t l ne = ap (λ c. cond c (Some bits) (noted_bits (words_without s l) t)) (ne_eqb s t (λ e. ne (sym e))) ∙ word_else s t l ne

function_gone : (s : ℕ) (l : List Held) → noted_function (seen_without s l) s ≡ None
function_gone s [] = refl
function_gone s (held ∷ l) = elim (cases_eq held.edge.index s) [
  | inl e ↦ ap (λ c. noted_function (cond c (seen_without s l) (held ∷ seen_without s l)) s) (eq-eqb held.edge.index s e) ∙ function_gone s l
  | inr ne ↦ ap (λ c. noted_function (cond c (seen_without s l) (held ∷ seen_without s l)) s) (ne_eqb held.edge.index s ne)
      ∙ ap (λ c. cond (c && not held.edge.complement) (Some held.function) (noted_function (seen_without s l) s)) (ne_eqb held.edge.index s ne) ∙ function_gone s l
]

function_else : (s t : ℕ) (l : List Held) → t ≢ s → noted_function (seen_without s l) t ≡ noted_function l t
function_else s t [] ne = refl
function_else s t (held ∷ l) ne = elim (cases_eq held.edge.index s) [
  | inl e ↦ ap (λ c. noted_function (cond c (seen_without s l) (held ∷ seen_without s l)) t) (eq-eqb held.edge.index s e) ∙ function_else s t l ne
      ∙ sym (ap (λ c. cond (c && not held.edge.complement) (Some held.function) (noted_function l t)) (ne_eqb held.edge.index t (λ same. ne (sym same ∙ e))))
  | inr off ↦ ap (λ c. noted_function (cond c (seen_without s l) (held ∷ seen_without s l)) t) (ne_eqb held.edge.index s off)
      ∙ ap (λ x. cond ((held.edge.index == t) && not held.edge.complement) (Some held.function) x) (function_else s t l ne)
]

function_here : (s : ℕ) (f : Function) (l : List Held) → noted_function (with_seen s f l) s ≡ Some f
function_here s f l = ap (λ c. cond (c && true) (Some f) (noted_function (seen_without s l) s)) (eq-eqb s s refl)

function_apart : (s : ℕ) (f : Function) (t : ℕ) (l : List Held) → t ≢ s → noted_function (with_seen s f l) t ≡ noted_function l t
function_apart s f t l ne = ap (λ c. cond (c && true) (Some f) (noted_function (seen_without s l) t)) (ne_eqb s t (λ e. ne (sym e))) ∙ function_else s t l ne

-- the notes of other slots stay right
pub each_word_else : (P Q : SeenWord → Type 0) (s : ℕ) → ((note : SeenWord) → note.slot ≢ s → P note → Q note) → (l : List SeenWord) → Each P l → Each Q (words_without s l)
each_word_else P Q s f [] all = tt
each_word_else P Q s f (note ∷ l) all = by (note.slot == s) refl (each_word_else P Q s f l all.1)
  where
    by : (c : Bool) → (note.slot == s) ≡ c → Each Q (words_without s l) → Each Q (cond c (words_without s l) (note ∷ words_without s l))
    by true e rest = rest
    by false e rest = (f note (λ same. true≢false (sym (eq-eqb note.slot s same) ∙ e)) all.0, rest)

pub each_seen_else : (P Q : Held → Type 0) (s : ℕ) → ((held : Held) → held.edge.index ≢ s → P held → Q held) → (l : List Held) → Each P l → Each Q (seen_without s l)
each_seen_else P Q s f [] all = tt
each_seen_else P Q s f (held ∷ l) all = by (held.edge.index == s) refl (each_seen_else P Q s f l all.1)
  where
    by : (c : Bool) → (held.edge.index == s) ≡ c → Each Q (seen_without s l) → Each Q (cond c (seen_without s l) (held ∷ seen_without s l))
    by true e rest = rest
    by false e rest = (f held (λ same. true≢false (sym (eq-eqb held.edge.index s same) ∙ e)) all.0, rest)

-- a map that is as another but for one slot
put_is : {A : Type 0} (f g : ℕ → A) (q : ℕ) (x : A) → g q ≡ x → ((t : ℕ) → t ≢ q → g t ≡ f t) → g ≡ put_at f q x
put_is f g q x here other = λ i t. at t i
  where
    at : (t : ℕ) → g t ≡ put_at f q x t
    at t = elim (cases_eq t q) [
      | inl e ↦ ap g e ∙ here ∙ sym (put_at-same f q x) ∙ ap (put_at f q x) (sym e)
      | inr ne ↦ other t ne ∙ sym (put_at-other f q t x ne)
    ]

-- the bits, the words and the functions of all slots, as they are noted
abbrev bits_in : List SeenWord → ℕ → ℕ
bits_in l s = or_zero (noted_bits l s)

abbrev words_in : List SeenWord → ℕ → std.Option Word
words_in l s = word_in (noted_bits l s)

abbrev functions_in : ℕ → List SeenWord → List Held → ℕ → std.Option Denoted
functions_in n l seen s = met_in n (noted_bits l s) (noted_function seen s)

module _ (q bits : ℕ) (l : List SeenWord) where
  pub bits_put : bits_in (with_word q bits l) ≡ put_at (bits_in l) q bits
  bits_put = put_is (bits_in l) (bits_in (with_word q bits l)) q bits (ap or_zero (word_here q bits l)) (λ t ne. ap or_zero (word_apart q bits t l ne))

  pub words_put : words_in (with_word q bits l) ≡ put_at (words_in l) q (unpack_of bits)
  words_put = put_is (words_in l) (words_in (with_word q bits l)) q (unpack_of bits) (ap word_in (word_here q bits l)) (λ t ne. ap word_in (word_apart q bits t l ne))

  module _ (n : ℕ) (seen : List Held) where
    met : (a b : ℕ) (o : std.Option Function) → met_in n (Some a) o ≡ met_in n (Some b) o
    met a b (Some f) = refl
    met a b None = refl

    -- a word in place of another
    pub functions_stay : (b : ℕ) → noted_bits l q ≡ Some b → functions_in n (with_word q bits l) seen ≡ functions_in n l seen
    functions_stay b noted = λ i t. at t i
      where
        at : (t : ℕ) → functions_in n (with_word q bits l) seen t ≡ functions_in n l seen t
        at t = elim (cases_eq t q) [
          | inl e ↦ ap (λ s. met_in n (noted_bits (with_word q bits l) s) (noted_function seen t)) e ∙ ap (λ x. met_in n x (noted_function seen t)) (word_here q bits l) ∙ met bits b (noted_function seen t)
              ∙ ap (λ x. met_in n x (noted_function seen t)) (sym noted) ∙ ap (λ s. met_in n (noted_bits l s) (noted_function seen t)) (sym e)
          | inr ne ↦ ap (λ x. met_in n x (noted_function seen t)) (word_apart q bits t l ne)
        ]

    -- nothing denoted
    pub functions_less : functions_in n (with_word q bits l) (seen_without q seen) ≡ put_at (functions_in n l seen) q None
    functions_less = put_is (functions_in n l seen) (functions_in n (with_word q bits l) (seen_without q seen)) q None
        (λ i. met_in n (word_here q bits l i) (function_gone q seen i))
        (λ t ne i. met_in n (word_apart q bits t l ne i) (function_else q t seen ne i))

    -- a function
    pub functions_put : (f : Function) → functions_in n (with_word q bits l) (with_seen q f seen) ≡ put_at (functions_in n l seen) q (Some (denoted_in n f))
    functions_put f = put_is (functions_in n l seen) (functions_in n (with_word q bits l) (with_seen q f seen)) q (Some (denoted_in n f))
        (λ i. met_in n (word_here q bits l i) (function_here q f seen i))
        (λ t ne i. met_in n (word_apart q bits t l ne i) (function_apart q f t seen ne i))

  abbrev AllNoted : ℕ → List SeenWord → Type 0
  AllNoted n notes = (s : ℕ) → s < n → (b : ℕ) × (noted_bits notes s ≡ Some b) × (b < 18446744073709551616)

  -- all words are noted still, and no other
  pub noted_with : (n : ℕ) → bits < 18446744073709551616 → AllNoted n l → AllNoted n (with_word q bits l)
  noted_with n small all s lt = elim (cases_eq s q) [
    | inl e ↦ (bits, ap (noted_bits (with_word q bits l)) e ∙ word_here q bits l, small)
    | inr ne ↦ (let a = all s lt in (a.0, word_apart q bits s l ne ∙ a.1, a.2))
  ]

  pub beyond_with : (n : ℕ) → q < n → ((s : ℕ) → n ≤ s → noted_bits l s ≡ None) → (s : ℕ) → n ≤ s → noted_bits (with_word q bits l) s ≡ None
  beyond_with n below none s le = word_apart q bits s l (λ e. omega (arith, e, below, le)) ∙ none s le

-- who pins no slot of this number has it no time among its pins
pub never_among : (l : List ℕ) (s : ℕ) → is_among l s ≡ false → times s l ≡ 0
never_among [] s none = refl
never_among (x ∷ l) s none = elim (cases_eq s x) [
  | inl e ↦ absurd (true≢false (sym (ap (λ c. cond c true (is_among l s)) (eq-eqb s x e)) ∙ none))
  | inr ne ↦ (
      let rest = never_among l s (sym (ap (λ c. cond c true (is_among l s)) (ne_eqb s x ne)) ∙ none) in
      let one : one_if (x == s) ≡ 0 = ap one_if (ne_eqb x s (λ e. ne (sym e))) in
      omega (arith, rest, one))
]
