-- The chains of the places whose hashes fall in one bucket.
use Rattle.std.specs.Prelude.{◌≡◌, ℕ, suc, ◌%◌, ◌^◌, ◌<◌, ◌≤◌, ◌==◌, if◌then◌else◌, List, length, slice_index, Option, Some, None, MatchOption}

-- what the chains are seen as: the hashes of the places, and how many more fit without memory
pub record Hashed : Type 0 where
  pub hashes : List ℕ
  pub spare : ℕ

-- the link to a place is one more than it, and to none 0
abbrev pub link_to : Option ℕ → ℕ
link_to None = 0
link_to (Some place) = suc place

-- the link leads to the greatest place below n that is put in bucket b
pub record IsLatest (at : ℕ → ℕ) (b n link : ℕ) : Type 0 where
  pub within : link ≤ n
  pub here : (k : ℕ) → link ≡ suc k → at k ≡ b
  pub none : (k : ℕ) → link ≤ k → k < n → at k ≡ b → ⊥

-- a place's bucket, by its hash
abbrev pub bucket_of : List ℕ → ℕ → ℕ → ℕ
bucket_of hashes buckets k = slice_index hashes k % buckets

-- the same buckets, but for one place
abbrev pub put : (ℕ → ℕ) → ℕ → ℕ → ℕ → ℕ
put at place bucket k = if k == place then bucket else at k

-- each bucket's head and each place's link lead to the next lower place of the bucket. A place may be put in no bucket
pub record IsChained (at : ℕ → ℕ) (heads links : List ℕ) : Type 0 where
  pub heads_are : (b : ℕ) → b < length heads → IsLatest at b (length links) (slice_index heads b)
  pub links_are : (k : ℕ) → k < length links → at k < length heads → IsLatest at (at k) k (slice_index links k)
  pub fall : (k : ℕ) → k < length links → slice_index links k ≤ k

-- every place is in the chain of its hash
pub record AreChains (hashes links heads : List ℕ) : Type 0 where
  pub as_long : length links ≡ length hashes
  pub few : length hashes < 2 ^ 32
  pub bucket : 0 < length heads
  pub chained : IsChained (bucket_of hashes (length heads)) heads links

-- the least place above this one, and below n, that is put in bucket b
abbrev pub IsNextAbove : (ℕ → ℕ) → ℕ → ℕ → ℕ → Option ℕ → Type 0
IsNextAbove at b n place next = MatchOption next
    ((k : ℕ) → place < k → k < n → at k ≡ b → ⊥)
    (λ over. (place < over) × (over < n) × (at over ≡ b) × ((k : ℕ) → place < k → k < over → at k ≡ b → ⊥))
