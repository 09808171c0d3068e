-- What a seat has learned stays learned.
use Rattle.std.proofs.Common.{◌≡◌, refl, sym, ◌∙◌, subst}
use Rattle.node_store.specs.ViewLaws.{Grown-trans, Kept-refl, Kept-trans}
use Rattle.step_store.specs.Knowing.{Grows, Hand, Knowledge, Learns, handed}

pub learns_refl : (k : Knowledge) → Learns k k
learns_refl k = record { kept = Kept-refl k.view; room = refl; words = λ s b h. h; heads = refl }

pub learns_trans : {a b c : Knowledge} → Learns a b → Learns b c → Learns a c
learns_trans p q = record { kept = Kept-trans p.kept q.kept; room = q.room ∙ p.room; words = λ s b h. q.words s b (p.words s b h); heads = q.heads ∙ p.heads }

-- where only something in hand moved
pub learns_handed : (k : Knowledge) (h : Hand) → Learns k (handed k h)
learns_handed k h = record { kept = Kept-refl k.view; room = refl; words = λ s b w. w; heads = refl }

pub learns_same : (a b : Knowledge) (h : Hand) → b ≡ handed a h → Learns a b
learns_same a b h is = subst (Learns a) (sym is) (learns_handed a h)

pub learns_equal : (a b : Knowledge) → b ≡ a → Learns a b
learns_equal a b is = subst (Learns a) (sym is) (learns_refl a)

pub grows_learns : {a b : Knowledge} → Learns a b → Grows a b
grows_learns l = record { grown = l.kept.grown; room = l.room; words = l.words; heads = l.heads }

pub grows_trans : {a b c : Knowledge} → Grows a b → Grows b c → Grows a c
grows_trans p q = record { grown = Grown-trans p.grown q.grown; room = q.room ∙ p.room; words = λ s b h. q.words s b (p.words s b h); heads = q.heads ∙ p.heads }
