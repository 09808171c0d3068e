-- Known bytes over several calls.
use Rattle.std.proofs.Common.{ℕ, ◌+◌, ◌-◌, ◌<◌, List, [], ◌++◌, length, refl, ap, sym, ◌∙◌, append_assoc, arith, IfSome, length-append}
use Rattle.std.proofs.lemmas.List.{append-nil, take_rest}
use Rattle.std.proofs.Common.{take, drop}
use Rattle.std.proofs.Math.Seq.{take-add}
use Rattle.std.specs.Prelude.{Option, Some, None}
use Rattle.std.specs.Io.KnownBytes.{Consumes, Appends}

pub consumes_none : (o : Option (List ℕ)) → Consumes o o []
consumes_none None = tt
consumes_none (Some xs) = refl

pub consumes_more : (a b c : Option (List ℕ)) (xs ys : List ℕ) → Consumes a b xs → Consumes b c ys → Consumes a c (xs ++ ys)
consumes_more None b c xs ys h k = tt
consumes_more (Some xa) None c xs ys h k = absurd h
consumes_more (Some xa) (Some bs) None xs ys h k = absurd k
consumes_more (Some xa) (Some bs) (Some cs) xs ys h k = h ∙ ap (λ t. xs ++ t) k ∙ sym (append_assoc xs ys cs)

-- more were left than came
pub consumes_length : (a b : Option (List ℕ)) (xs : List ℕ) (n : ℕ) → Consumes a b xs → n < length xs → IfSome a (λ bytes. n < length bytes)
consumes_length None b xs n h k = tt
consumes_length (Some xa) None xs n h k = absurd h
consumes_length (Some xa) (Some bs) xs n h k = omega (arith, ap length h, length-append xs bs)

pub appends_none : (o : Option (List ℕ)) → Appends o o []
appends_none None = tt
appends_none (Some xa) = sym (append-nil xa)

pub appends_more : (a b c : Option (List ℕ)) (xs ys : List ℕ) → Appends a b xs → Appends b c ys → Appends a c (xs ++ ys)
appends_more None b c xs ys h k = tt
appends_more (Some xa) None c xs ys h k = absurd h
appends_more (Some xa) (Some bs) None xs ys h k = absurd k
appends_more (Some xa) (Some bs) (Some cs) xs ys h k = k ∙ ap (λ t. t ++ ys) h ∙ append_assoc xa xs ys

-- a write of the rest goes on where the ones before it ended
pub appends_part : (a b c : Option (List ℕ)) (bytes : List ℕ) (done count : ℕ) → Appends a b (take done bytes) → Appends b c (take count (take (length bytes - done) (drop done bytes))) → Appends a c (take (done + count) bytes)
appends_part a b c bytes done count h k =
    let rest = rw (take_rest bytes done) at k in
    rw take-add (appends_more a b c (take done bytes) (take count (drop done bytes)) h rest)
