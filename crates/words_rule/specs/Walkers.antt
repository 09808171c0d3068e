-- A seat with a walk share, as a walk sees it.
use Rattle.std.specs.Prelude.{◌≡◌, ◌<◌, Some}
use Rattle.atomic_table.specs.Seated.{TableId}
use Rattle.edge_bits.specs.Permanent.{base_slot}
use Rattle.function_laws.specs.Families.{base}
use Rattle.function_laws.specs.Kinds.{ZddFamily}
use Rattle.words_rule.specs.declared.view.Besides.{Besides}
use Rattle.words_rule.specs.declared.view.Share.TheVariants.{Held}
use Rattle.words_rule.specs.declared.view.View.{View}
use Rattle.words_rule.specs.declared.walker.Walker.{Walker}
use Rattle.words_rule.specs.Loads.{IsInside, sees_of}
use Rattle.words_rule.specs.Passes.{view, IsLiveOf}

-- which table it is, and what no step on nodes changes
abbrev pub besides_of : TableId → View → Besides
besides_of i v = record {
  words = i.words;
  slots = i.slots;
  views_name = i.views_name;
  atom = i.atom;
  block = i.block;
  offset = i.offset;
  slot_names = i.slot_names;
  draws = v.draws;
  shares = v.shares;
  counts = v.counts;
}

module _ {S : Type 0} where
  pub record IsWalker (w : Walker S) : Type 0 where
    pub own : IsLiveOf w.guard.now w.pass
    pub share : (view w.pass).shares.walk ≡ Held
    pub base : (sees_of (view w.pass)).content base_slot ≡ Some (ZddFamily base)
    pub inside : IsInside (view w.pass)
    pub few : w.loads < 18446744073709551616

  abbrev pub walker_stands : (w : Walker S) → IsWalker w → (sees_of (view w.pass)).content base_slot ≡ Some (ZddFamily base)
  walker_stands w is = is.base
