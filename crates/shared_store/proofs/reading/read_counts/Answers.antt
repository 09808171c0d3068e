use Rattle.std.proofs.Common.{◌≡◌, ◌≢◌, ℕ, Some, None, inl, inr, ap, sym, subst, ◌∙◌, arith, below_more}
use Rattle.std.proofs.lemmas.Bool.{cases_lt}
use Rattle.node_store.specs.Views.{View}
use Rattle.seat_guard.specs.declared.view.Draws.{Draws}
use Rattle.seat_guard.specs.Passes.{counts_of, known}
use Rattle.shared_store.specs.Counted.{IsRead}
use Rattle.shared_store.specs.Sharing.{Serving, view_of}
use Rattle.shared_store.proofs.Found.{read-stays}
use Rattle.shared_store.proofs.Lasting.{serves-more, serves-recounted}
use Rattle.shared_store.proofs.Recounted.{recounted-both}
use Rattle.shared_store.proofs.reading.read_counts.Goals as goal

pub loop-slot-preserved : goal.loop-slot-preserved
loop-slot-preserved c =
    let i = c.loop-slot.invariant in
    let r = c.read_count.ensures in record {
      own = (r.own.0, r.own.1 ∙ i.own.1, r.own.2 ∙ i.own.2, r.own.3 ∙ i.own.3);
      found = record { raised = r.found.found.raised ∙ i.found.raised; owed = r.found.found.owed ∙ i.found.owed; pins = r.found.found.pins ∙ i.found.pins };
      serves = subst (λ (d : Draws). Serving c.read_count.new.shared d (counts_of c.read_count.new.pass)) (sym r.own.1)
          (serves-more c.read_count.new.shared (known c.loop-slot.pass) (counts_of c.loop-slot.pass) (counts_of c.read_count.new.pass) r.found.found r.found.more
          (serves-recounted c.loop-slot.shared c.read_count.new.shared (known c.loop-slot.pass) (counts_of c.loop-slot.pass) r.rest i.serves));
      rest = recounted-both _ _ _ i.rest r.rest;
      within = i.within;
      beyond = i.beyond;
      read = below_more (λ (k : ℕ). IsRead k c.read_count.new.shared (known c.read_count.new.pass) (counts_of c.read_count.new.pass)) c.loop-slot.slot
          (λ k below. let apart : k ≢ c.loop-slot.slot = omega (arith, below) in
          read-stays k c.loop-slot.slot c.loop-slot.shared c.read_count.new.shared (known c.loop-slot.pass) _ (counts_of c.loop-slot.pass) _ r.own.1 (r.others k apart) r.rest r.found (i.read k below))
          r.read;
      fresh = λ k from. let apart : k ≢ c.loop-slot.slot = omega (arith, from) in r.found.others k apart ∙ i.fresh k (omega (arith, from));
    }

pub returns-clause-read : goal.returns-clause-read
returns-clause-read c k f is =
    let i = c.loop-slot.invariant in
    let over = c.loop-slot-test.false in
    let was : (view_of c.args.shared.now).content k ≡ Some f = ap (λ (w : View). w.content k) (sym i.rest.view) ∙ is in
    elim (cases_lt k c.loop-slot.slot) [
      | inl below ↦ i.read k below
      | inr from ↦ absurd (let gone = i.beyond k (omega (arith, from, over)) in let z : None ≡ Some f = sym gone ∙ was in cc)
    ]
