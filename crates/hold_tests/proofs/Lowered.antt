-- A count that is met lower than it was noted.
use Rattle.std.proofs.Common.{◌≡◌, inl, inr, ℕ, ◌-◌, refl, ap, sym, ◌∙◌, arith}
use Rattle.std.proofs.lemmas.Bool.{cases_eq}
use Rattle.function_laws.proofs.ValueLemmas.{everywhere}
use Rattle.node_store.specs.Changes.{put_at}
use Rattle.node_store.proofs.Rewriting.{put_at-same, put_at-other}
use Rattle.hold_store.specs.Held.{Knowledge}
use Rattle.held_table.proofs.Counts.{put_back}

abbrev pub counted : Knowledge → ℕ → ℕ → Knowledge
counted k s count = record k { content = record k.content { count = put_at k.content.count s count } }

pub uncounted : (k : Knowledge) (s : ℕ) → k ≡ counted k s (k.content.count s)
uncounted k s = ap (λ (f : ℕ → ℕ). record k { content = record k.content { count = f } }) (sym (put_back k.content.count s))

pub zero_stays : (k new : Knowledge) (s count : ℕ) → new ≡ counted k s count → count ≡ 0 → new.content.count s ≡ 0
zero_stays k new s count is none = ap (λ (n : Knowledge). n.content.count s) is ∙ put_at-same k.content.count s count ∙ none

put_twice : (f : ℕ → ℕ) (s x y : ℕ) → put_at (put_at f s x) s y ≡ put_at f s y
put_twice f s x y = everywhere (put_at (put_at f s x) s y) (put_at f s y) (λ t. elim (cases_eq t s) [
  | inl e ↦ ap (put_at (put_at f s x) s y) e ∙ put_at-same (put_at f s x) s y ∙ sym (ap (put_at f s y) e ∙ put_at-same f s y)
  | inr ne ↦ put_at-other (put_at f s x) s t y ne ∙ put_at-other f s t x ne ∙ sym (put_at-other f s t y ne)
])

pub counted_twice : (k l new : Knowledge) (s x y : ℕ) → l ≡ counted k s x → new ≡ counted l s y → new ≡ counted k s y
counted_twice k l new s x y first second = second ∙ ap (λ (n : Knowledge). counted n s y) first ∙ ap (λ (f : ℕ → ℕ). record k { content = record k.content { count = f } }) (put_twice k.content.count s x y)
