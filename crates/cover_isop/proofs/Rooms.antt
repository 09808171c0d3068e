-- The room of the scratch for a step of Morreale's calls.
use Rattle.std.proofs.Common.{◌≡◌, ◌≤◌, Bool, true, false, refl, ap, ◌∙◌, arith}
use Rattle.edge_bits.specs.declared.edges.Edge.{Edge}
use Rattle.node_store.specs.Stacks.{Scratch}
use Rattle.node_store.specs.Views.{View, Grown}
use Rattle.zdd_ops.specs.Rooms.{KeepsRoom}
use Rattle.cover_isop.specs.Isops.{HasBounds, morreale_extra}
use Rattle.cover_isop.specs.IsopLasts.{morreale_extra-stays}

pub keeps_none : (s : Scratch) → KeepsRoom s s
keeps_none s = record { frames = refl; free = refl; marks = refl }

pub keeps_same : {old new : Scratch} → new ≡ old → KeepsRoom old new
keeps_same {old} {new} same = record { frames = ap (λ (s : Scratch). s.frames) same; free = ap (λ (s : Scratch). s.free) same; marks = ap (λ (s : Scratch). s.marks) same }

pub keeps_both : {a b c : Scratch} → KeepsRoom a b → KeepsRoom b c → KeepsRoom a c
keeps_both p q = record { frames = q.frames ∙ p.frames; free = q.free ∙ p.free; marks = q.marks ∙ p.marks }

vars-room : (family : Bool) (w : View) (l u : Edge) → HasBounds w l u → w.vars ≤ morreale_extra family w
vars-room true w l u d = let e = d.literals in omega (arith, e)
vars-room false w l u d = omega arith

-- for a run on functions within, and for another step
pub room-vars : (family : Bool) (w v : View) (l u : Edge) (old new : Scratch) → Grown w v → HasBounds w l u → morreale_extra family w ≤ old.free → KeepsRoom old new → v.vars ≤ new.free
room-vars family w v l u old new m d room keeps = let a = vars-room family w l u d in let b = m.vars in let f = keeps.free in omega (arith, room, a, b, f)

pub room-extra : (family : Bool) (w v : View) (old new : Scratch) → Grown w v → morreale_extra family w ≤ old.free → KeepsRoom old new → morreale_extra family v ≤ new.free
room-extra family w v old new m room keeps = let b = morreale_extra-stays family w v m in let f = keeps.free in omega (arith, room, b, f)
