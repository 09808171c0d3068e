-- The covers that the covers of a circuit read, by number.
use Rattle.std.specs.Prelude.{◌≡◌, ℕ, ◌<◌, true, List, [], ◌∷◌, ◌++◌, ◌⊎◌, Option, Some, None, All, length, slice_get}
use Rattle.job_words.specs.Text.{Word, is_among}
use Rattle.blif_models.specs.Circuits.{Circuit, Cover}
use Rattle.blif_order.specs.declared.Arranged.{Arranged}
use Rattle.blif_order.specs.Orders.{ArrangedIs, reads_of}
use Rattle.blif_wholes.specs.declared.parting.WholeCover.{WholeCover}
use Rattle.blif_wholes.specs.declared.roles.Role.{Role}
use Rattle.blif_wholes.specs.declared.roles.Role.TheVariants as roles
use Rattle.blif_wholes.specs.Names.{WholeName}

-- each input of a cover is one of the circuit, or names a cover that is read, and each that is read is named
pub record ReadsOf (circuit : Circuit) (reads : List (List ℕ)) : Type 0 where
  pub as_many : length reads ≡ length circuit.covers
  pub onward : (c : ℕ) (cover : Cover) (z : Word) → slice_get circuit.covers c ≡ Some cover → is_among cover.ins z ≡ true
      → (is_among circuit.inputs z ≡ true) ⊎ ((d j : ℕ) × (other : Cover) × (slice_get (reads_of reads c) j ≡ Some d) × (slice_get circuit.covers d ≡ Some other) × (z ≡ other.name))
  pub back : (c d j : ℕ) (cover : Cover) → slice_get circuit.covers c ≡ Some cover → slice_get (reads_of reads c) j ≡ Some d
      → (other : Cover) × (slice_get circuit.covers d ≡ Some other) × (is_among cover.ins other.name ≡ true)

-- the covers of the circuit were arranged: in an order, or one was found that is never led back
abbrev pub IsArranged : Circuit → Arranged → Type 0
IsArranged circuit arranged = (reads : List (List ℕ)) × ReadsOf circuit reads × ArrangedIs reads arranged

-- the cover, where the role is that of one
abbrev pub cover_in : Role → List ℕ
cover_in (roles.Cover c) = c ∷ []
cover_in _ = []

abbrev pub role_or_none : Option WholeName → Role
role_or_none None = roles.Unknown
role_or_none (Some name) = name.role

-- the covers whose outputs have these numbers
abbrev pub reads_in : List WholeName → List ℕ → List ℕ
reads_in all [] = []
reads_in all (number ∷ numbers) = cover_in (role_or_none (slice_get all number)) ++ reads_in all numbers

-- the numbers of what covers read are names'
abbrev pub AreInRange : List WholeName → List WholeCover → Type 0
AreInRange all covers = All (λ one. All (λ n. n < length all) one.cover.ins) covers
