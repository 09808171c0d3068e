-- Which gates read the signals of a network.
use Rattle.std.specs.Prelude.{◌≡◌, ◌≢◌, ◌⊎◌, ℕ, ◌+◌, ◌<◌, ◌≤◌, ◌^◌, List, All, Contains, Some, length, slice_get, slice_index}
use Rattle.cover_nets.specs.declared.net.Net.{Net}
use Rattle.cover_nets.specs.declared.net.Cover.{Cover}
use Rattle.cover_nets.specs.Bounds.{signal_count}

-- each of the signals is noted as used by the reader or later, what is changed is one of them with the reader, and no other is
pub record Raises (signals : List ℕ) (reader : ℕ) (old new : List ℕ) : Type 0 where
  pub long : length new ≡ length old
  pub raised : (signal : ℕ) → slice_index old signal ≤ slice_index new signal
  pub noted : All (λ signal. reader ≤ slice_index new signal) signals
  pub changed : (signal : ℕ) → (slice_index new signal ≡ slice_index old signal) ⊎ (Contains signals signal × (slice_index new signal ≡ reader))
  pub others : (signal bound : ℕ) → All (λ other. other < bound) signals → bound ≤ signal → slice_index new signal ≡ slice_index old signal

-- of each gate from a place on that is used itself, each signal that it reads is noted as used by it or later
abbrev pub KnowsReads : Net → ℕ → List ℕ → Type 0
KnowsReads net from last = (i : ℕ) (gate : Cover) → from ≤ i → slice_get net.gates i ≡ Some gate → slice_index last (length net.inputs + i) ≢ 0
    → All (λ signal. length net.inputs + i ≤ slice_index last signal) gate.ins

-- a gate that is used itself reads the signal, and has this number as a signal
abbrev pub IsReader : Net → List ℕ → ℕ → ℕ → Type 0
IsReader net last signal reader =
    (i : ℕ) × (gate : Cover) × (slice_get net.gates i ≡ Some gate) × Contains gate.ins signal × (slice_index last (length net.inputs + i) ≢ 0) × (reader ≡ length net.inputs + i)

-- The last uses of a network's signals, where these are used to the end. What a gate reads that is used is used by that gate or
-- later, and any other signal that is used is noted with a gate that is used and reads it: so with the last one.
pub record AreLastUses (net : Net) (own last : List ℕ) : Type 0 where
  pub long : length last ≡ signal_count net
  pub own_noted : All (λ signal. 2 ^ 32 ≤ slice_index last signal + 1) own
  pub reads : KnowsReads net 0 last
  pub told : (signal : ℕ) → slice_index last signal ≢ 0 → Contains own signal ⊎ IsReader net last signal (slice_index last signal)
