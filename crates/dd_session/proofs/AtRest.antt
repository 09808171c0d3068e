-- The seat of a session between two calls, and under a share or a hold.
use Rattle.std.proofs.Common.{◌≡◌, [], Option, Some, None, refl, ap, sym, subst, ◌∙◌}
use Rattle.std.specs.Prelude.{Bool, IfSome, IsSome, IsTrue, ◌↔◌}
use Rattle.edge_bits.specs.declared.edges.Kind.{Kind}
use Rattle.function_laws.specs.declared.history.Name.{Name}
use Rattle.function_laws.specs.declared.orders.Order.{Order}
use Rattle.handle_count.specs.RowMaps.{find_row}
use Rattle.seat_guard.specs.declared.seat.Guard.{Guard}
use Rattle.seat_guard.specs.declared.seat.Pass.{Pass}
use Rattle.seat_guard.specs.declared.seat.Rest.{Rest}
use Rattle.seat_guard.specs.declared.view.Draws.{Draws}
use Rattle.seat_guard.specs.declared.view.Leaving.{Leaving}
use Rattle.seat_guard.specs.declared.view.Shares.{Shares}
use Rattle.seat_guard.specs.declared.view.Counts.{Counts}
use Rattle.seat_guard.specs.declared.view.Hold.{Hold}
use Rattle.seat_guard.specs.declared.view.Hold.TheVariants.{Holding}
use Rattle.seat_guard.specs.CountPlays.{counts_without}
use Rattle.seat_guard.specs.Views.{letting_go}
use Rattle.seat_guard.specs.Passes.{IsPassOf, counts_of, in_hand, known, resting, shares}
use Rattle.seat_guard.specs.Phase.{HasNoShare}
use Rattle.seat_guard.specs.Tokens.{Keeps as KeepsPass, KeepsBut}
use Rattle.shared_store.specs.declared.shared.Shared.{Shared}
use Rattle.dd_session.specs.declared.book.Book.{Book}
use Rattle.dd_session.specs.Managing.{Managed, Ready, Seen, seen_in}
use Rattle.dd_session.specs.Reorderings.{levels_of, opened_levels}
use Rattle.dd_session.specs.Sessions.{IsLive, IsLiveAs}
use Rattle.dd_session.specs.Turns.{IsCalm, IsClear, IsReady, IsStill, Keeps, managed_by, seen_by, seen_of}
use Rattle.dd_session.proofs.Calls.{same_table}
use Rattle.dd_session.proofs.ListingLaws.{keeps_uncalled}
use Rattle.dd_session.proofs.Naming.{finds_some, found_live, kind_found}
use Rattle.dd_session.proofs.Soundness.{sizes_of}
use Rattle.dd_session.proofs.Swappings.{levels_open}

pub has_seat : (seat : Option (Pass Shared)) (book : Book) → Ready seat book → IsSome seat
has_seat (Some p) book ready = refl
has_seat None book ready = absurd ready

module _ (seat : Option (Pass Shared)) (p : Pass Shared) (book : Book) (was : seat ≡ Some p) where
  pub ready_at : Ready seat book → IsReady p × Keeps (known p) book
  ready_at r = subst (λ (o : Option (Pass Shared)). Ready o book) was r

  pub seen_at : {s : Seen} → seen_in seat book ≡ s → seen_of p book ≡ s
  seen_at is = ap (λ (o : Option (Pass Shared)). seen_in o book) (sym was) ∙ is

  pub idle_at : {s : Seen} {m : Managed} (g : Guard Shared) (r : Rest Shared) → Ready seat book → seen_in seat book ≡ s → s.manager ≡ m → managed_by g.table.shared.table_id (resting r) ≡ m → IsCalm g p
  idle_at g r ready seen own managed = let is = (ready_at ready).0 in (same_table g r p book (seen_at seen) own managed, is.0, is.1, is.2, is.4)

-- it is at rest again
pub rests : (g : Guard Shared) (p : Pass Shared) → IsCalm g p → HasNoShare (shares p) → IsReady p
rests g p idle unshared = (idle.1, idle.2, idle.3, unshared, idle.4)

pub unshared_still : (x y : Shares) → y ≡ x → HasNoShare x → HasNoShare y
unshared_still x y same unshared = subst HasNoShare (sym same) unshared

-- the seat knows the same, and what it noted of counts under its order hold went
abbrev pub KeptFree : Pass Shared → Pass Shared → Type 0
KeptFree p r = (known r ≡ known p) × (in_hand r ≡ in_hand p) × (counts_of r ≡ record (counts_of p) { zeros = []; above = [] })

-- a pass that only its shares changed
module _ (g : Guard Shared) (p q : Pass Shared) (of_p : IsPassOf g p) (of_q : IsPassOf g q) where
  module _ (same : known q ≡ known p) where
    pub seen_still : (book : Book) → seen_of q book ≡ seen_of p book
    seen_still book = λ i. seen_by ((of_q ∙ sym of_p) i) (same i) book.rows.spare

    pub keeps_still : (book : Book) → Keeps (known p) book → Keeps (known q) book
    keeps_still book keeps = subst (λ (d : Draws). Keeps d book) (sym same) keeps

  pub idle_still : KeepsPass p q → IsCalm g p → IsCalm g q
  idle_still kept idle = (of_q, ap (λ (d : Draws). d.live) kept.0 ∙ idle.1, ap (λ (d : Draws). d.holds) kept.0 ∙ idle.2, kept.1 ∙ idle.3, subst IsClear (sym kept.2) idle.4)

  -- its order hold was given up, and what it noted of counts went
  pub idle_freed : KeptFree p q → IsStill g p → IsCalm g q
  idle_freed kept idle = (
    of_q,
    ap (λ (d : Draws). d.live) kept.0 ∙ idle.1,
    ap (λ (d : Draws). d.holds) kept.0 ∙ idle.2,
    kept.1 ∙ idle.3,
    (
      record { raised = ap (λ (c : Counts). c.raised) kept.2 ∙ idle.4.raised; owed = ap (λ (c : Counts). c.owed) kept.2 ∙ idle.4.owed; pins = ap (λ (c : Counts). c.pins) kept.2 ∙ idle.4.pins },
      ap (λ (c : Counts). c.zeros) kept.2,
    ),
  )

pub kept_then : (p q r : Pass Shared) → KeepsPass p q → KeepsPass q r → KeepsPass p r
kept_then p q r first second = (second.0 ∙ first.0, second.1 ∙ first.1, second.2 ∙ first.2)

pub freed : (q r : Pass Shared) → KeepsBut q r → (shares q).order ≡ Holding → KeptFree q r
freed q r second holding = (second.0, second.1, second.2 ∙ ap (λ (h : Hold). counts_without h (counts_of q)) holding)

pub freed_then : (p q r : Pass Shared) → KeepsPass p q → KeepsBut q r → (shares q).order ≡ Holding → KeptFree p r
freed_then p q r first second holding = let f = freed q r second holding in (f.0 ∙ first.0, f.1 ∙ first.1, f.2 ∙ ap (λ (c : Counts). record c { zeros = []; above = [] }) first.2)

-- a calm pass is still
pub still : (g : Guard Shared) (p : Pass Shared) → IsCalm g p → IsStill g p
still g p idle = (idle.0, idle.1, idle.2, idle.3, idle.4.0)

-- the turn was given back, and nothing was told
pub keeps_left : (d e : Draws) (book : Book) → Keeps d book → (l : Leaving) → e ≡ letting_go d l → Keeps e book
keeps_left d e book keeps l left = keeps_uncalled d e book keeps (ap sizes_of left) (ap (λ (z : Draws). z.rows) left) (ap (λ (z : Draws). z.adds) left) (ap (λ (z : Draws). z.entries) left)

-- what is known of the rows of a session between two calls
pub finds_at : (seat : Option (Pass Shared)) (book : Book) (name : Name) → Ready seat book → IsLive (seen_in seat book) name → IsSome (find_row book.rows.live name)
finds_at (Some p) book name ready live = finds_some (known p) book.rows name ready.1.rows live
finds_at None book name ready live = absurd ready

pub kind_at : (seat : Option (Pass Shared)) (book : Book) (name : Name) (k told : Kind) → Ready seat book → IsLiveAs k (seen_in seat book) name → IfSome (find_row book.rows.live name) (λ held. told ≡ held.kind) → told ≡ k
kind_at (Some p) book name k told ready live is = kind_found (known p) book.rows name ready.1.rows k told live is
kind_at None book name k told ready live is = absurd ready

pub live_at : (seat : Option (Pass Shared)) (book : Book) (name : Name) (b : Bool) → Ready seat book → IsTrue b ↔ IsSome (find_row book.rows.live name) → IsTrue b ↔ IsLive (seen_in seat book) name
live_at (Some p) book name b ready is = found_live (known p) book.rows name b ready.1.rows is
live_at None book name b ready is = absurd ready

pub levels_at : (seat : Option (Pass Shared)) (book : Book) (order : Order) → Ready seat book → levels_of (seen_in seat book) order ≡ opened_levels (seen_in seat book).manager order
levels_at (Some p) book order ready = levels_open p.seat.table_id (known p) book.rows.spare order
levels_at None book order ready = absurd ready
