use Rattle.std.proofs.Common.{◌≡◌, ◌∙◌, ◌<◌, ℕ, List, [], ◌∷◌, Some, zero, suc, get_or, ap, arith, length, sym}
use Rattle.std.specs.Global.{Vec}
use Rattle.std.specs.Prelude.{slice_get}
use Rattle.std.proofs.lemmas.List.{length-map}
use Rattle.blif_formals.specs.Words.{words_of}
use Rattle.blif_formals.proofs.words.Words.word_at.Goals as goal

word_of_key : (keys : List (Vec ℕ)) (n : ℕ) (key : Vec ℕ) → n < length keys → key ≡ get_or keys n key → slice_get (words_of keys) n ≡ Some key.items
word_of_key [] n key lt e = absurd (omega (arith, lt))
word_of_key (k ∷ keys) zero key lt e = ap (λ (v : Vec ℕ). Some v.items) (sym e)
word_of_key (k ∷ keys) (suc n) key lt e = word_of_key keys n key (omega (arith, lt)) e

pub offset_bounds-as_slice-number : goal.offset_bounds-as_slice-number
offset_bounds-as_slice-number c = omega (arith, c.requires, ap length c.self.view_is, length-map c.self.inside.index.keys (λ (k : Vec ℕ). k.items), c.self.invariant)

pub bounds-as_slice-number : goal.bounds-as_slice-number
bounds-as_slice-number c = omega (arith, c.requires, ap length c.self.view_is, length-map c.self.inside.index.keys (λ (k : Vec ℕ). k.items), ap length c.as_slice.ensures.keys)

pub returns : goal.returns
returns c =
    let keys = c.self.inside.index.keys in
    let key = c.index-as_slice-number.result in
    let within : c.args.number < length keys = omega (arith, c.requires, ap length c.self.view_is, length-map keys (λ (k : Vec ℕ). k.items)) in
    ap (λ (ws : List (List ℕ)). slice_get ws c.args.number) (sym c.self.view_is) ∙ word_of_key keys c.args.number key within (c.index-as_slice-number.is ∙ ap (λ (ks : List (Vec ℕ)). get_or ks c.args.number key) c.as_slice.ensures.keys)
    ∙ ap Some (sym c.as_slice-2.ensures.value)
