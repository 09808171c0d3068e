-- What a pass carries stays right where what the journal tells it stays.
use Rattle.std.proofs.Common.{◌≡◌, ℕ, ◌<◌, ap, sym, ◌∙◌}
use Rattle.atomic_table.specs.Seated.{TableId}
use Rattle.words_rule.specs.declared.sizes.Sizes.{Sizes}
use Rattle.words_rule.specs.declared.view.Draws.{Draws}
use Rattle.words_rule.specs.Layout.{word_count}
use Rattle.words_rule.specs.Shapes.{shape_by, shape_in}

pub keeps_number : (n : ℕ) (d e : Draws) → e ≡ d → (n ≡ d.session) × (n < 64) → (n ≡ e.session) × (n < 64)
keeps_number n d e same is = (is.0 ∙ sym (ap (λ (x : Draws). x.session) same), is.1)

pub keeps_sizes : (z : Sizes) (d e : Draws) → e ≡ d → shape_by z ≡ shape_in d → shape_by z ≡ shape_in e
keeps_sizes z d e same is = is ∙ sym (ap shape_in same)

pub keeps_words : (i j : TableId) (d e : Draws) → j ≡ i → e ≡ d → i.words ≡ word_count (shape_in d) → j.words ≡ word_count (shape_in e)
keeps_words i j d e id same is = ap (λ (x : TableId). x.words) id ∙ is ∙ sym (ap (λ (x : Draws). word_count (shape_in x)) same)
