-- The answers of a call's own table stay answers.
use Rattle.std.proofs.Common.{◌≡◌, inl, inr, List, Option, Some, None, refl, ap, sym, ◌∙◌, subst}
use Rattle.edge_bits.specs.declared.edges.Edge.{Edge}
use Rattle.function_laws.specs.Kinds.{Denoted}
use Rattle.node_store.specs.Views.{View, Grown}
use Rattle.node_store.specs.Stacks.{Scratch}
use Rattle.node_store.specs.States.{State, state_of}
use Rattle.node_store.specs.Work.{Moves}
use Rattle.node_store.specs.WorkLaws.{Moves-none, Moves-both}
use Rattle.node_store.specs.Remembering.{IsBlank, IsOf, Remembers, Knows, RememberingMoves}
use Rattle.node_store.specs.declared.operator.Task.{Task}
use Rattle.node_store.specs.declared.answers.Answer.{Answer}

-- the answers were some of an earlier table
pub Remembers-of : (first old new : List (Option Answer)) (t : Task) (e : Edge) → IsOf first old → Remembers old new t e → Remembers first new t e
Remembers-of first old new t e of more j a here = elim (more j a here) [
  | inl was ↦ inl (of was.0 a was.1)
  | inr same ↦ inr same
]

module _ (Due : View → Task → Type 0) (Answers : View → Task → Edge → Type 0)
    (due_stays : (v w : View) (t : Task) → Grown v w → Due v t → Due w t)
    (answers_stay : (v w : View) (t : Task) (e : Edge) → Grown v w → Due v t → Answers v t e → Answers w t e) where
  pub Knows-grown : (v w : View) (items : List (Option Answer)) → Grown v w → Knows Due Answers v items → Knows Due Answers w items
  Knows-grown v w items m known j a here = let k = known j a here in (due_stays v w a.task m k.0, answers_stay v w a.task a.edge m k.0 k.1)

  pub Knows-more : (v : View) (old new : List (Option Answer)) (t : Task) (e : Edge) → Remembers old new t e → Due v t → Answers v t e
      → Knows Due Answers v old → Knows Due Answers v new
  Knows-more v old new t e more d is known j a here = elim (more j a here) [
    | inl was ↦ known was.0 a was.1
    | inr same ↦ (rw same d, rw same is)
  ]

pub RememberingMoves-none : (Roots : View → Type 0) (Work : View → Denoted → Type 0) (Due : View → Task → Type 0) (Answers : View → Task → Edge → Type 0) (v : State) → RememberingMoves Roots Work Due Answers v v
RememberingMoves-none Roots Work Due Answers v = record { moves = Moves-none Roots Work v.view; known = λ k. k; marks = refl }

pub RememberingMoves-both : (Roots : View → Type 0) (Work : View → Denoted → Type 0) (Due : View → Task → Type 0) (Answers : View → Task → Edge → Type 0)
    → ((v w : View) → Grown v w → Roots v → Roots w) → ((v w : View) (f : Denoted) → Grown v w → Roots v → Work v f → Work w f)
    → (u v w : State) → RememberingMoves Roots Work Due Answers u v → RememberingMoves Roots Work Due Answers v w → RememberingMoves Roots Work Due Answers u w
RememberingMoves-both Roots Work Due Answers roots work u v w p q = record {
  moves = Moves-both Roots Work roots work u.view v.view w.view p.moves q.moves;
  known = λ k. q.known (p.known k);
  marks = q.marks ∙ p.marks;
}

module _ (Roots : View → Type 0) (Work : View → Denoted → Type 0) (Due : View → Task → Type 0) (Answers : View → Task → Edge → Type 0)
    (due_stays : (v w : View) (t : Task) → Grown v w → Due v t → Due w t)
    (answers_stay : (v w : View) (t : Task) (e : Edge) → Grown v w → Due v t → Answers v t e → Answers w t e) where
  -- the scratch stayed as it was
  pub RememberingMoves-same : (v w : View) (old new : Scratch) → Moves Roots Work v w → new ≡ old
      → RememberingMoves Roots Work Due Answers (state_of v old) (state_of w new)
  RememberingMoves-same v w old new m same = record {
    moves = m;
    known = λ k. subst (λ (s : Scratch). Knows Due Answers w s.answers) (sym same) (Knows-grown Due Answers due_stays answers_stay v w old.answers m.grown k);
    marks = ap (λ (s : Scratch). s.marks) same;
  }

  -- the table has one answer more
  pub RememberingMoves-more : (v w : View) (old mid new : Scratch) (t : Task) (e : Edge) → Moves Roots Work v w → mid ≡ old → Remembers mid.answers new.answers t e → new.marks ≡ mid.marks → Due w t → Answers w t e
      → RememberingMoves Roots Work Due Answers (state_of v old) (state_of w new)
  RememberingMoves-more v w old mid new t e m same more marks d is = record {
    moves = m;
    known = λ k. Knows-more Due Answers due_stays answers_stay w mid.answers new.answers t e more d is
        (subst (λ (s : Scratch). Knows Due Answers w s.answers) (sym same) (Knows-grown Due Answers due_stays answers_stay v w old.answers m.grown k));
    marks = marks ∙ ap (λ (s : Scratch). s.marks) same;
  }

-- a blank table knows nothing
pub Knows-nothing : (Due : View → Task → Type 0) (Answers : View → Task → Edge → Type 0) (w : View) (items : List (Option Answer))
    → IsBlank items → Knows Due Answers w items
Knows-nothing Due Answers w items none j a here = absurd (never (sym (none j) ∙ here))
  where
    never : {a : Answer} → None ≡ Some a → ⊥
    never e = cc
