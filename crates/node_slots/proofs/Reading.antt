-- What the slots denote, as more words come to stand in them.
use Rattle.std.proofs.Common.{◌≡◌, ℕ, zero, suc, ◌<◌, ◌≤◌, inl, inr, List, length, Bool, true, false, Option, Some, None, refl, ap, sym, ◌∙◌, arith}
use Rattle.std.proofs.lemmas.Bool.{cases_lt}
use Rattle.std.proofs.lemmas.List.{get_or_past}
use Rattle.edge_bits.specs.Words.{unpack_of}
use Rattle.edge_bits.specs.Reading.{slots_of}
use Rattle.edge_bits.specs.declared.edges.Kind.{Kind}
use Rattle.edge_bits.specs.declared.edges.Kind.TheVariants.{Bdd, Add, Zdd}
use Rattle.edge_bits.specs.declared.words.Word.{Word}
use Rattle.edge_bits.specs.declared.words.Word.TheVariants.{Inner, Leaf}
use Rattle.function_laws.specs.Kinds.{Denoted, BddFunction, AddFunction, ZddFamily, ValueOf, function_of, joined_at, flipped}
use Rattle.node_slots.specs.Slots.{node_of, word_function, function_at_most}
use Rattle.node_slots.specs.Stores.{refused_function}
use Rattle.node_slots.specs.declared.plain_store.Refused.{Refused}

-- a slot that is not told by its number
pub at_word : (slots : ℕ → Option Word) (m s : ℕ) → 3 ≤ s → function_at_most slots (suc m) s ≡ word_function (function_at_most slots m) (slots s)
unfolding function_at_most
at_word slots m zero h = absurd (omega arith)
at_word slots m (suc zero) h = absurd (omega arith)
at_word slots m (suc (suc zero)) h = absurd (omega arith)
at_word slots m (suc (suc (suc s))) h = refl

pub node_of-functions : (k : Kind) (v : ℕ) (f g : ℕ → ValueOf k) → node_of v (Some (function_of k f)) (Some (function_of k g)) ≡ Some (function_of k (joined_at k v f g))
node_of-functions Bdd v f g = refl
node_of-functions Add v f g = refl
node_of-functions Zdd v f g = refl

-- a node that stands for something has children of one kind
pub record IsNodeOf (v : ℕ) (a b : Option Denoted) (f : Denoted) : Type 0 where
  pub kind : Kind
  pub high : ℕ → ValueOf kind
  pub low : ℕ → ValueOf kind
  pub high_is : a ≡ Some (function_of kind high)
  pub low_is : b ≡ Some (function_of kind low)
  pub is : f ≡ function_of kind (joined_at kind v high low)

pub node_of-some : (v : ℕ) (a b : Option Denoted) (f : Denoted) → node_of v a b ≡ Some f → IsNodeOf v a b f
node_of-some v (Some (BddFunction g)) (Some (BddFunction h)) f e = record { kind = Bdd; high = g; low = h; high_is = refl; low_is = refl; is = cc }
node_of-some v (Some (BddFunction g)) (Some (AddFunction h)) f e = cc
node_of-some v (Some (BddFunction g)) (Some (ZddFamily h)) f e = cc
node_of-some v (Some (BddFunction g)) None f e = cc
node_of-some v (Some (AddFunction g)) (Some (BddFunction h)) f e = cc
node_of-some v (Some (AddFunction g)) (Some (AddFunction h)) f e = record { kind = Add; high = g; low = h; high_is = refl; low_is = refl; is = cc }
node_of-some v (Some (AddFunction g)) (Some (ZddFamily h)) f e = cc
node_of-some v (Some (AddFunction g)) None f e = cc
node_of-some v (Some (ZddFamily g)) (Some (BddFunction h)) f e = cc
node_of-some v (Some (ZddFamily g)) (Some (AddFunction h)) f e = cc
node_of-some v (Some (ZddFamily g)) (Some (ZddFamily h)) f e = record { kind = Zdd; high = g; low = h; high_is = refl; low_is = refl; is = cc }
node_of-some v (Some (ZddFamily g)) None f e = cc
node_of-some v None b f e = cc

pub flipped-more : (c : Bool) (o p : Option Denoted) (f : Denoted) → flipped c o ≡ Some f → ((g : Denoted) → o ≡ Some g → p ≡ Some g) → flipped c p ≡ Some f
flipped-more true None p f h more = cc
flipped-more false None p f h more = cc
flipped-more c (Some g) p f h more = rw (more g refl) h

abbrev pub Extends : (ℕ → Option Word) → (ℕ → Option Word) → Type 0
Extends old new = (s : ℕ) (word : Word) → old s ≡ Some word → new s ≡ Some word

word_function-more : (old new : ℕ → Option Denoted) → ((s : ℕ) (f : Denoted) → old s ≡ Some f → new s ≡ Some f)
    → (word : Word) (f : Denoted) → word_function old (Some word) ≡ Some f → word_function new (Some word) ≡ Some f
word_function-more old new more (Leaf x) f h = h
word_function-more old new more (Inner node) f h =
    let n = node_of-some node.var (old node.hi) (flipped node.lo.complement (old node.lo.index)) f h in
    let hi : new node.hi ≡ Some (function_of n.kind n.high) = more node.hi (function_of n.kind n.high) n.high_is in
    let lo : flipped node.lo.complement (new node.lo.index) ≡ Some (function_of n.kind n.low) =
    flipped-more node.lo.complement (old node.lo.index) (new node.lo.index) (function_of n.kind n.low) n.low_is (λ g. more node.lo.index g) in
    rw (hi, lo) (node_of-functions n.kind node.var n.high n.low ∙ ap Some (sym n.is))

slot-more : (old new : ℕ → Option Word) (m n : ℕ) → ((s : ℕ) (f : Denoted) → function_at_most old m s ≡ Some f → function_at_most new n s ≡ Some f)
    → Extends old new → (s : ℕ) (o : Option Word) → 3 ≤ s → old s ≡ o → (f : Denoted) → function_at_most old (suc m) s ≡ Some f → function_at_most new (suc n) s ≡ Some f
slot-more old new m n more extends s None le is f h =
    let e : function_at_most old (suc m) s ≡ None = at_word old m s le ∙ ap (word_function (function_at_most old m)) is in cc
slot-more old new m n more extends s (Some word) le is f h =
    at_word new n s le ∙ ap (word_function (function_at_most new n)) (extends s word is)
    ∙ word_function-more (function_at_most old m) (function_at_most new n) more word f (ap (word_function (function_at_most old m)) (sym is) ∙ sym (at_word old m s le) ∙ h)

-- neither longer paths nor more words change what a slot denotes
pub function-more : (old new : ℕ → Option Word) → Extends old new → (m n : ℕ) → m ≤ n → (s : ℕ) (f : Denoted) → function_at_most old m s ≡ Some f → function_at_most new n s ≡ Some f
unfolding function_at_most
function-more old new extends zero n le s f h = cc
function-more old new extends (suc m) zero le s f h = absurd (omega arith)
function-more old new extends (suc m) (suc n) le zero f h = h
function-more old new extends (suc m) (suc n) le (suc zero) f h = h
function-more old new extends (suc m) (suc n) le (suc (suc zero)) f h = h
function-more old new extends (suc m) (suc n) le (suc (suc (suc s))) f h =
    slot-more old new m n (λ t g. function-more old new extends m n (omega arith) t g) extends (suc (suc (suc s))) (old (suc (suc (suc s)))) (omega arith) refl f h

-- a slot that denotes something is one of the first three, or has a word
pub used : (slots : ℕ → Option Word) (m s : ℕ) (f : Denoted) → 3 ≤ s → function_at_most slots (suc m) s ≡ Some f → (word : Word) × (slots s ≡ Some word)
used slots m s f le h = by_word (slots s) refl
  where
    by_word : (o : Option Word) → slots s ≡ o → (word : Word) × (slots s ≡ Some word)
    by_word None is = let e : function_at_most slots (suc m) s ≡ None = at_word slots m s le ∙ ap (word_function (function_at_most slots m)) is in cc
    by_word (Some word) is = (word, is)

-- a slot with a word is one of the words
pub in_words : (words : List ℕ) (s : ℕ) (word : Word) → slots_of words s ≡ Some word → s < length words
in_words words s word h = elim (cases_lt s (length words)) [
  | inl lt ↦ lt
  | inr le ↦ (let e : None ≡ Some word = sym (ap unpack_of (get_or_past words s 0 le)) ∙ h in cc)
]

-- where a function is due, a call was refused
pub was_refused : (content : ℕ → Option Denoted) (d : Option Refused) (f : Denoted) → refused_function content d ≡ Some f → (r : Refused) × (d ≡ Some r)
was_refused content None f e = cc
was_refused content (Some r) f e = (r, refl)
