-- An edge gives its word back.
use Rattle.std.specs.Prelude.{◌≡◌, ℕ}
use Rattle.std.proofs.Common.{arith}
use Rattle.edge_bits.specs.Words.{edge_of_word, word_of_edge}

pub word_back : (word : ℕ) → word_of_edge (edge_of_word word) ≡ word
word_back word = grind arith
