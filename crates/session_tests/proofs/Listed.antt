-- What is known of a listing that a session made.
use Rattle.std.proofs.Common.{◌≡◌, ◌^◌, ◌<◌, List, length, Result, Ok, MatchResult, subst, arith}
use Rattle.diagram_dumps.specs.WellMade.{IsWritable}
use Rattle.diagram_dumps.specs.declared.listings.Listing.{Listing}
use Rattle.diagram_dumps.specs.Listings.{dump_of}
use Rattle.edge_bits.specs.declared.lists.Memory.{Memory}
use Rattle.function_laws.specs.declared.history.Name.{Name}
use Rattle.dd_session.specs.Listings.{IsListed}
use Rattle.dd_session.specs.Managing.{Seen}
use Rattle.dd_session.specs.Sessions.{IsAsBefore}

module _ (old new : Seen) (names : List Name) (r : Result Listing Memory) (listing : Listing) (is : r ≡ Ok listing) (told : MatchResult r (IsListed old new names) (λ _. IsAsBefore old new)) where
  listed : IsListed old new names listing
  listed = subst (λ (z : Result Listing Memory). MatchResult z (IsListed old new names) (λ _. IsAsBefore old new)) is told

  pub writable_of : IsWritable (dump_of listing)
  writable_of = listed.lists.is_listing.writable

  pub few_of : length listing.order < 2 ^ 32
  few_of = let few = listed.lists.is_listing.few_variables in omega (arith, few)
