-- What a seat that has an operation share knows of the store, from what it noted.
use Rattle.std.proofs.Common.{◌≡◌, ℕ, zero, suc, ◌+◌, ◌≤◌, ◌==◌, ◌&&◌, not, length, inl, Bool, true, false, cond, List, [], ◌∷◌, Some, None, refl, ap, sym, ◌∙◌, subst, eqb-true}
use Rattle.std.specs.Prelude as std
use mathlib.Core.Option.{Option, some}
use lib.ListN.{get_elem?}
use Rattle.atomic_table.proofs.Lists.{at_map}
use Rattle.edge_bits.specs.declared.edges.Kind.{Kind}
use Rattle.edge_bits.specs.declared.edges.Kind.TheVariants.{Bdd, Add, Zdd}
use Rattle.edge_bits.specs.declared.words.Word.{Word}
use Rattle.edge_bits.specs.declared.words.Word.TheVariants.{Inner, Leaf}
use Rattle.edge_bits.specs.Reading.{plain}
use Rattle.edge_bits.specs.Permanent.{first_element}
use Rattle.edge_bits.specs.Words.{unpack_of}
use Rattle.function_laws.specs.declared.history.Function.{Function}
use Rattle.function_laws.specs.Kinds.{Denoted, BddFunction, AddFunction, ZddFamily, ValueOf, function_of}
use Rattle.function_laws.specs.SessionEntries.{Each}
use Rattle.function_laws.specs.Sizes.{Orders}
use Rattle.node_store.specs.Contents.{Content, level_of, view_of, opened_of, top_of, top_of_word}
use Rattle.node_store.specs.ViewLaws.{Is-from}
use Rattle.node_store.specs.Views as views
use Rattle.node_store.specs.Views.{IsBeyond, Is, IsFunction, Denotes, Opens, values_at}
use Rattle.step_store.specs.Knowing.{Knowledge, Meets}
use Rattle.words_rule.specs.declared.cell.Cell.{Cell}
use Rattle.words_rule.specs.declared.view.Held.{Held}
use Rattle.words_rule.specs.declared.view.SeenWord.{SeenWord}
use Rattle.words_rule.specs.declared.view.Hold.TheVariants.{Holding}
use Rattle.words_rule.specs.declared.view.Share.TheVariants as shares
use Rattle.words_rule.specs.declared.view.View.{View}
use Rattle.words_rule.specs.Views.{orders_of}
use Rattle.words_rule.specs.Layout.{Shape, Words, content_of}
use Rattle.words_rule.specs.Kept.{IsHeldBy, whole_of}
use Rattle.words_rule.specs.Phase.{footing_of}
use Rattle.words_rule.specs.Seen.{StandsSo}
use Rattle.words_rule.specs.Rule.{Parts, footings_in}
use Rattle.words_rule.specs.Known.{Own, denoted_in, noted_bits, noted_function, word_in, met_in, noted_content, known_of}
use Rattle.words_rule.proofs.Phases.{excludes}
use Rattle.words_rule.proofs.Stepping.{shape_is}
use Rattle.words_rule.proofs.Handed.{settled_by}
use Rattle.words_rule.proofs.Decoding.{Beyond, decodes}
use Rattle.words_rule.proofs.Opened.{at_edge, opens_word}
use Rattle.words_rule.proofs.Narrowing.{Narrow, Has, Known, is_up, is_down, values_same, opens_down}
use Rattle.free_list.specs.FreeSlots.{FreeSlots}

some_bits : (a b : ℕ) → Some a ≡ Some b → a ≡ b
some_bits a b e = cc

some_function : (a b : Function) → Some a ≡ Some b → a ≡ b
some_function a b e = cc

pub some_denoted : (a b : Denoted) → Some a ≡ Some b → a ≡ b
some_denoted a b e = cc

no_bits : (b : ℕ) → ◌≡◌ {A = std.Option ℕ} None (Some b) → ⊥
no_bits b e = cc

-- a noted word is one of those that were noted
pub noted_true : (P : SeenWord → Type 0) (l : List SeenWord) → Each P l → (s b : ℕ) → noted_bits l s ≡ Some b → P (record { slot = s; bits = b })
noted_true P [] all s b e = absurd (no_bits b e)
noted_true P (note ∷ l) all s b e = by (note.slot == s) refl (λ k. noted_true P l all.1 s b k)
  where
    by : (c : Bool) → (note.slot == s) ≡ c → (noted_bits l s ≡ Some b → P (record { slot = s; bits = b })) → P (record { slot = s; bits = b })
    by true is later = let same : note.bits ≡ b = some_bits note.bits b (sym (ap (λ x. cond x (Some note.bits) (noted_bits l s)) is) ∙ e) in
        subst P (λ i. record { slot = eqb-true note.slot s is i; bits = same i }) all.0
    by false is later = later (sym (ap (λ x. cond x (Some note.bits) (noted_bits l s)) is) ∙ e)

abbrev plain_at : ℕ → Function → Held
plain_at s f = record { edge = plain s; function = f }

no_function : (b : Function) → ◌≡◌ {A = std.Option Function} None (Some b) → ⊥
no_function b e = cc

is_plain : (c d : Bool) → (c && not d) ≡ true → (c ≡ true) × (d ≡ false)
is_plain true false e = (refl, refl)
is_plain true true e = cc
is_plain false d e = cc

pub seen_true : (P : Held → Type 0) (l : List Held) → Each P l → (s : ℕ) (f : Function) → noted_function l s ≡ Some f → P (plain_at s f)
seen_true P [] all s f e = absurd (no_function f e)
seen_true P (held ∷ l) all s f e = by ((held.edge.index == s) && not held.edge.complement) refl (λ k. seen_true P l all.1 s f k)
  where
    by : (c : Bool) → ((held.edge.index == s) && not held.edge.complement) ≡ c → (noted_function l s ≡ Some f → P (plain_at s f)) → P (plain_at s f)
    by true is later =
        let same : held.function ≡ f = some_function held.function f (sym (ap (λ x. cond x (Some held.function) (noted_function l s)) is) ∙ e) in
        let at = is_plain (held.edge.index == s) held.edge.complement is in
        subst P (λ i. record { edge = record { index = eqb-true held.edge.index s at.0 i; complement = at.1 i }; function = same i }) all.0
    by false is later = later (sym (ap (λ x. cond x (Some held.function) (noted_function l s)) is) ∙ e)

-- each function is one of a kind
pub kind_of : (f : Denoted) → (k : Kind) × (g : ℕ → ValueOf k) × (f ≡ function_of k g)
kind_of (BddFunction g) = (Bdd, g, refl)
kind_of (AddFunction g) = (Add, g, refl)
kind_of (ZddFamily g) = (Zdd, g, refl)

both_noted : (n : ℕ) (a : std.Option ℕ) (b : std.Option Function) (f : Denoted) → met_in n a b ≡ Some f → (x : ℕ) × (g : Function) × (a ≡ Some x) × (b ≡ Some g) × (denoted_in n g ≡ f)
both_noted n (Some x) (Some g) f e = (x, g, refl, refl, some_denoted (denoted_in n g) f e)
both_noted n (Some x) None f e = cc
both_noted n None (Some g) f e = cc
both_noted n None None f e = cc

-- the children of a word are known
abbrev pub AreKnown : views.View → Word → Type 0
AreKnown k (Inner node) = Has k node.hi × Has k node.lo.index
AreKnown k (Leaf x) = Unit {0}

module _ {S : Type 0} (board : S → List (std.Option Cell)) (free_slots : S → FreeSlots) (memo : S → List ℕ) where
  abbrev PartsOf : Shape → Words → (ℕ → Option (Option (std.Option S))) → List View → Type 0
  PartsOf = Parts board free_slots memo

  module _ (z : Shape) (ws : Words) (home : ℕ → Option (Option (std.Option S))) (vs : List View) (r : PartsOf z ws home vs) (id : ℕ) (v : View) (at : get_elem? vs id ≡ some v)
      (live : v.draws.live ≡ true) (share : v.shares.op ≡ shares.Held) (orders_noted : orders_of v.known ≡ r.orders) (o : Own) where
    abbrev w : Content
    w = content_of z ws.node r.orders r.function r.half

    abbrev K : Knowledge
    K = known_of v o

    pub no_hold : v.shares.order ≡ Holding → ⊥
    no_hold holding = excludes ws.phase (footings_in vs) r.phase id id (footing_of v) (footing_of v) (at_map footing_of vs id v at) (at_map footing_of vs id v at) share holding

    pub word_stands : (s b : ℕ) → K.word s ≡ Some b → (ws.node s ≡ b) × (word : Word) × (unpack_of b ≡ Some word)
    word_stands s b is =
        let st = noted_true (StandsSo ws.node v) v.known.words ((r.seen id v at).words (inl share)) s b is in let u = in_use (unpack_of b) refl (λ free. no_hold (st.1 free)) in (st.0, u.0, u.1)
      where
        in_use : (x : std.Option Word) → unpack_of b ≡ x → (unpack_of b ≡ None → ⊥) → (word : Word) × (unpack_of b ≡ Some word)
        in_use (Some word) e used = (word, e)
        in_use None e used = absurd (used e)

    longer : (k : Kind) (u : ℕ) → Beyond z k u → IsBeyond k (view_of w) u
    longer Bdd u h = subst (λ (x : ℕ). x ≤ u) (sym r.positions.variables_long) h
    longer Add u h = subst (λ (x : ℕ). x ≤ u) (sym r.positions.variables_long) h
    longer Zdd u h = subst (λ (x : ℕ). first_element + x ≤ u) (sym r.positions.elements_long) h

    -- what was noted of a slot is had back
    pub decoded : (s : ℕ) (f : Denoted) → r.function s ≡ Some f → denoted_in z.variables (whole_of z f) ≡ f
    decoded s f is =
        let k = kind_of f in
        ap (λ (x : Denoted). denoted_in z.variables (whole_of z x)) k.2 ∙ decodes z k.0 k.1 (λ u h. (r.sound.of_store s k.0 k.1 (is ∙ ap Some k.2)).0 u (longer k.0 u h)) ∙ sym k.2

    pub content_true : (s : ℕ) (f : Denoted) → K.view.content s ≡ Some f → (b : ℕ) × (K.word s ≡ Some b) × (ws.node s ≡ b) × (r.function s ≡ Some f)
    content_true s f is =
        let x = both_noted v.draws.vars (noted_bits v.known.words s) (noted_function v.known.seen s) f is in
        let held = seen_true (IsHeldBy z r.function) v.known.seen ((r.seen id v at).held (inl (inl share))) s x.1 x.3 in
        let shape = shape_is board free_slots memo z ws home vs r id v at live in
        let same : f ≡ held.0 = sym x.4 ∙ ap (λ n. denoted_in n x.1) (ap (λ (y : Shape). y.variables) (sym shape)) ∙ ap (denoted_in z.variables) (sym held.2) ∙ decoded s held.0 held.1 in
        (x.0, x.2, (word_stands s x.0 x.2).0, held.1 ∙ ap Some (sym same))

    -- what the seat knows is so of the store
    pub narrow : Narrow K.view (view_of w)
    narrow =
        let shape = shape_is board free_slots memo z ws home vs r id v at live in record {
          vars = r.positions.variables_long ∙ ap (λ (y : Shape). y.variables) shape;
          elements = r.positions.elements_long ∙ ap (λ (y : Shape). y.elements) shape;
          level = ap level_of (sym orders_noted);
          content = λ s f is. (content_true s f is).3;
          top = λ s f is. (let c = content_true s f is in tops s c.0 c.1 c.2);
        }
      where
        tops : (s b : ℕ) → K.word s ≡ Some b → ws.node s ≡ b → top_of w s ≡ top_of (noted_content v) s
        tops zero b noted is = ap (λ (y : Orders). length y.variables) (sym orders_noted)
        tops (suc zero) b noted is = ap (λ (y : Orders). length y.elements) (sym orders_noted)
        tops (suc (suc zero)) b noted is = ap (λ (y : Orders). length y.elements) (sym orders_noted)
        tops (suc (suc (suc s))) b noted is = ap (λ (x : ℕ). top_of_word r.orders (unpack_of x)) is ∙ ap (λ (x : std.Option ℕ). top_of_word r.orders (word_in x)) (sym noted) ∙ ap (λ (y : Orders). top_of_word y (word_in (noted_bits v.known.words (suc (suc (suc s)))))) (sym orders_noted)

    -- so a slot is met
    pub meets : (q bits : ℕ) (word : Word) → K.word q ≡ Some bits → unpack_of bits ≡ Some word → Has K.view q → AreKnown K.view word → Meets K q bits word
    meets q bits word noted reads has children =
        let stands = word_stands q bits noted in
        let word_is : w.word q ≡ Some word = ap unpack_of stands.0 ∙ reads in
        let settled = settled_by board free_slots memo z ws home vs r id v at share in
        let k = kind_of has.0 in
        let f_is = (content_true q has.0 has.1).3 in record {
          noted = noted;
          is = (k.0, is_down narrow k.0 (plain q) has (denoted k.0 k.1 (f_is ∙ ap Some k.2)));
          opens = λ e at_q j is.
              let up : Is j (view_of w) e = is_up narrow j e is in
              let opens : Opens j (view_of w) e (values_at j (view_of w) e) (opened_of word e.complement) = opens_word w r.sound settled j e word up (ap w.word at_q ∙ word_is) in
              opens_down narrow j e (values_at j K.view e) (opened_of word e.complement) (subst (Has K.view) (sym at_q) has) (known word e.complement children)
              (subst (λ (f : ℕ → ValueOf j). Opens j (view_of w) e f (opened_of word e.complement)) (values_same narrow j e is) opens);
        }
      where
        denoted : (k : Kind) (g : ℕ → ValueOf k) → r.function q ≡ Some (function_of k g) → Is k (view_of w) (plain q)
        denoted k g is = Is-from k (at_edge w r.sound (plain q) k g is)

        known : (word : Word) (c : Bool) → AreKnown K.view word → Known narrow (opened_of word c)
        known (Inner node) c children = children
        known (Leaf x) c children = tt
