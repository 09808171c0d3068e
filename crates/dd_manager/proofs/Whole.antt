-- What a call leaves that takes the rows, after it was tried where they stand.
use Rattle.std.proofs.Common.{◌≡◌, ℕ, Option, Some, sym, subst, ◌∙◌}
use Rattle.store_rows.specs.RowStores.{RowStoreView}
use Rattle.dd_manager.specs.declared.lists.Lists.{Lists}
use Rattle.dd_manager.specs.declared.requests.Answer.{Answer}
use Rattle.dd_manager.specs.declared.requests.Asked.{Asked}
use Rattle.dd_manager.specs.declared.requests.Asked.TheVariants as asked
use Rattle.dd_manager.specs.declared.requests.Request.{Request}
use Rattle.dd_manager.specs.declared.serving.Manager.{Manager}
use Rattle.dd_manager.specs.Requests.{Codes, is_foreign, names_taken}
use Rattle.dd_manager.specs.Served.{IsServed, Serves, ServesIn, Waits}
use Rattle.dd_manager.proofs.Makings.{makes-then}

module _ (manager : ℕ) (was mid : RowStoreView) (lists : Lists) (r : Request) (now : Option RowStoreView) (after : Lists) (a : Answer) where
  pub serves-then : (what : Asked) → Waits what was mid → Serves what manager mid lists r now after a → Serves what manager was lists r now after a
  serves-then asked.Makes stays serves =
      (serves.0, serves.1, serves.2, makes-then (is_foreign manager (names_taken r.call) r) manager was mid serves.0 lists r a stays.0 serves.3, serves.4 ∙ stays.1)
  serves-then (asked.Level order call) same serves = subst (λ (d : RowStoreView). Serves (asked.Level order call) manager d lists r now after a) same serves
  serves-then asked.Sweep same serves = subst (λ (d : RowStoreView). Serves asked.Sweep manager d lists r now after a) same serves
  serves-then asked.Close same serves = subst (λ (d : RowStoreView). Serves asked.Close manager d lists r now after a) same serves
  serves-then (asked.Row call) none serves = absurd none
  serves-then (asked.Node call) none serves = absurd none
  serves-then (asked.List call) none serves = absurd none
  serves-then asked.Nothing none serves = absurd none

pub served-whole : (was now : Manager) (r : Request) (a : Answer) (what : Asked) (old mid : RowStoreView) (lists : Lists) → was.rows ≡ Some old → Codes what r.call → Waits what old mid → lists ≡ was.lists
    → Serves what was.number mid lists r now.rows now.lists a → now.number ≡ was.number → IsServed was r now a
served-whole was now r a what old mid lists is codes waits same serves number = record {
  served = subst (λ (o : Option RowStoreView). ServesIn o was r now a) (sym is)
      (what, codes, serves-then was.number old mid was.lists r now.rows now.lists a what waits (subst (λ (l : Lists). Serves what was.number mid l r now.rows now.lists a) same serves));
  number = number;
}
