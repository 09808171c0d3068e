-- A sound store stays sound where no more than counts, generations, marks and pins change.
use Rattle.std.proofs.Common.{◌≡◌, ℕ, ◌<◌, Bool, false, None, refl}
use Rattle.std.specs.Prelude.{◌-◌, ◌^◌}
use Rattle.node_store.specs.Contents.{Content, IsSound}
use Rattle.node_store.proofs.Rewriting.{IsVariable-same, IsBeyond-same, node_same}

pub held_sound : (w : Content) (counted generations : ℕ → ℕ) (marks pins : ℕ → Bool) (on : Bool) → IsSound w
    → ((s : ℕ) → counted s < 2 ^ 32 - 1) → ((s : ℕ) → w.word s ≡ None → counted s ≡ 0) → ((s : ℕ) → w.word s ≡ None → pins s ≡ false)
    → IsSound (record w { count = counted; generation = generations; marked = marks; pinned = pins; sweeping = on })
held_sound w counted generations marks pins on sound few none free = record {
  variables = sound.variables;
  elements = sound.elements;
  few_variables = sound.few_variables;
  few_elements = sound.few_elements;
  within = sound.within;
  few_slots = sound.few_slots;
  denotes = sound.denotes;
  used = sound.used;
  constants = sound.constants;
  logic_one = sound.logic_one;
  empty_family = sound.empty_family;
  base_family = sound.base_family;
  projections = sound.projections;
  nodes = λ s node f word is. node_same w now node f refl refl (sound.nodes s node f word is);
  leaves = sound.leaves;
  apart = sound.apart;
  regular = sound.regular;
  of_store = λ s k f is. let o = sound.of_store s k f is in ((λ v beyond. o.0 v (IsBeyond-same k w now refl v beyond)), o.1);
  ordered = λ s node k f word is u hu lt. sound.ordered s node k f word is u (IsVariable-same k now w refl u hu) lt;
  few_counts = few;
  uncounted = none;
  unpinned = free;
}
  where
    now : Content
    now = record w { count = counted; generation = generations; marked = marks; pinned = pins; sweeping = on }
