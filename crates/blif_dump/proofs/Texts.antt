-- Texts that grow by lines.
use Rattle.std.proofs.Common.{◌≡◌, ℕ, zero, suc, ◌+◌, ◌<◌, List, [], ◌∷◌, ◌++◌, codes, length, map, take, get_or, refl, ap, sym, ◌∙◌, arith, append_assoc, append-nil}
use Rattle.std.specs.Borrow.{Bor}
use Rattle.std.specs.Global.{Vec}
use Rattle.std.specs.List.{enumerate_from, flat_map}
use Rattle.std.proofs.lemmas.Grind.{flat_map-append}
use Rattle.std.proofs.lemmas.List.{length-take, map-append, take_more}
use Rattle.job_words.specs.Text.{Word}
use Rattle.blif_dump.specs.Calls.{names_in}
use Rattle.blif_dump.specs.Lines.{line_with, spaced, text_of}
use Rattle.blif_dump.proofs.Places.{names_more}

-- lines behind lines
pub text_behind : (front back : List (List Word)) → text_of (front ++ back) ≡ text_of front ++ text_of back
text_behind front back = flat_map-append (λ words. line_with words ++ 10 ∷ []) front back

-- numbered items and one more
enumerate_behind : {X : Type 0} (n : ℕ) (xs : List X) (x : X) → enumerate_from n (xs ++ x ∷ []) ≡ enumerate_from n xs ++ (n + length xs, x) ∷ []
enumerate_behind n [] x = ap (λ m. (m, x) ∷ []) (omega arith)
enumerate_behind n (y ∷ xs) x =
    let same : n + 1 + length xs ≡ n + suc (length xs) = omega arith in
    ap (λ t. (n, y) ∷ t) (enumerate_behind (n + 1) xs x ∙ ap (λ m. enumerate_from (n + 1) xs ++ (m, x) ∷ []) same)

-- the lines of one numbered item more
pub lines_more : {X : Type 0} (f : ℕ × X → List (List Word)) (n : ℕ) (xs : List X) (i : ℕ) (d : X) (text old new : List ℕ) → i < length xs
    → text ≡ old ++ text_of (flat_map f (enumerate_from n (take i xs))) → new ≡ text ++ text_of (f (n + i, get_or xs i d))
    → new ≡ old ++ text_of (flat_map f (enumerate_from n (take (i + 1) xs)))
lines_more {X} f n xs i d text old new h so next =
    let front = flat_map f (enumerate_from n (take i xs)) in
    let last = f (n + i, get_or xs i d) in
    let count : n + length (take i xs) ≡ n + i = omega (arith, length-take i xs) in
    let numbered : enumerate_from n (take (i + 1) xs) ≡ enumerate_from n (take i xs) ++ (n + i, get_or xs i d) ∷ [] =
    ap (enumerate_from n) (take_more xs i d h) ∙ enumerate_behind n (take i xs) (get_or xs i d) ∙ ap (λ m. enumerate_from n (take i xs) ++ (m, get_or xs i d) ∷ []) count in
    let all : flat_map f (enumerate_from n (take (i + 1) xs)) ≡ front ++ last =
    ap (flat_map f) numbered ∙ flat_map-append f (enumerate_from n (take i xs)) ((n + i, get_or xs i d) ∷ []) ∙ ap (λ t. front ++ t) (append-nil last) in
    next ∙ ap (λ t. t ++ text_of last) so ∙ append_assoc old (text_of front) (text_of last)
    ∙ ap (λ t. old ++ t) (sym (text_behind front last)) ∙ ap (λ t. old ++ text_of t) (sym all)

-- the words of one name more
pub words_more : (f : Word → Word) (names : List (Bor Word)) (i : ℕ) (d : Bor Word) (text old new : List ℕ) → i < length names
    → text ≡ old ++ spaced (map f (names_in (take i names))) → new ≡ text ++ 32 ∷ f (get_or names i d).now
    → new ≡ old ++ spaced (map f (names_in (take (i + 1) names)))
words_more f names i d text old new h so next =
    let front = names_in (take i names) in
    let word = f (get_or names i d).now in
    let all : spaced (map f (names_in (take (i + 1) names))) ≡ spaced (map f front) ++ 32 ∷ word =
    ap (λ t. spaced (map f t)) (names_more names i d h) ∙ ap spaced (map-append f front ((get_or names i d).now ∷ []))
    ∙ flat_map-append (λ word. 32 ∷ word) (map f front) (word ∷ []) ∙ ap (λ t. spaced (map f front) ++ t) (append-nil (32 ∷ word)) in
    next ∙ ap (λ t. t ++ 32 ∷ word) so ∙ append_assoc old (spaced (map f front)) (32 ∷ word) ∙ ap (λ t. old ++ t) (sym all)

-- a node line, part by part
node_parts : (old head blank var signals end rows last : List ℕ)
    → ((((old ++ (head ++ blank)) ++ var) ++ signals) ++ (end ++ rows)) ++ last ≡ old ++ (((head ++ ((blank ++ var) ++ signals)) ++ end) ++ (rows ++ last))
node_parts old head blank var signals end rows last = simp append_assoc

pub node_joined : (old var signals rows last : List ℕ)
    → ((((old ++ codes ".names ") ++ var) ++ signals) ++ 10 ∷ rows) ++ last ≡ old ++ (((codes ".names" ++ ((32 ∷ var) ++ signals)) ++ 10 ∷ []) ++ (rows ++ last))
node_joined old var signals rows last = node_parts old (codes ".names") (32 ∷ []) var signals (10 ∷ []) rows last

-- an output, part by part
output_parts : (old head root name end last : List ℕ) → ((((old ++ head) ++ root) ++ name) ++ end) ++ last ≡ old ++ (((head ++ (root ++ (name ++ []))) ++ end) ++ last)
output_parts old head root name end last = simp (append_assoc, append-nil)

pub output_joined : (old root name last : List ℕ)
    → ((((old ++ codes ".names") ++ 32 ∷ root) ++ 32 ∷ name) ++ 10 ∷ []) ++ last ≡ old ++ (((codes ".names" ++ ((32 ∷ root) ++ ((32 ∷ name) ++ []))) ++ 10 ∷ []) ++ last)
output_joined old root name last = output_parts old (codes ".names") (32 ∷ root) (32 ∷ name) (10 ∷ []) last

-- the whole, part by part
pub whole_joined : (head nodes outs end : List (List Word)) → ((text_of head ++ text_of nodes) ++ text_of outs) ++ text_of end ≡ text_of (head ++ nodes ++ outs ++ end)
whole_joined head nodes outs end =
    ap (λ t. (t ++ text_of outs) ++ text_of end) (sym (text_behind head nodes)) ∙ ap (λ t. t ++ text_of end) (sym (text_behind (head ++ nodes) outs))
    ∙ sym (text_behind (head ++ nodes ++ outs) end)

-- the word of an input, by the input's name
pub word_is : (w : Word → Word) (names : List Word) (words : List (Vec ℕ)) (place : ℕ) (word : Vec ℕ) → map (λ (word : Vec ℕ). word.items) words ≡ map w names → place < length names
    → word ≡ get_or words place word → word.items ≡ w (get_or names place [])
word_is w [] words place word e h is = absurd (omega (arith, h))
word_is w (name ∷ names) [] place word e h is = cc
word_is w (name ∷ names) (first ∷ words) zero word e h is =
    let same : first.items ≡ w name = cc in ap (λ (t : Vec ℕ). t.items) is ∙ same
word_is w (name ∷ names) (first ∷ words) (suc place) word e h is =
    let rest : map (λ (t : Vec ℕ). t.items) words ≡ map w names = cc in word_is w names words place word rest (omega (arith, h)) is

-- the name behind a reference
pub name_read : (names : List (Bor Word)) (place : ℕ) (d : Bor Word) → place < length names → get_or (names_in names) place [] ≡ (get_or names place d).now
name_read [] place d h = absurd (omega (arith, h))
name_read (first ∷ names) zero d h = refl
name_read (first ∷ names) (suc place) d h = name_read names place d (omega (arith, h))
