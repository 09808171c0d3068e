use Rattle.std.proofs.Common.{◌≡◌, ℕ, ◌==◌, ◌&&◌, Bool, true, false, List, length, refl, ap, sym, ◌∙◌}
use Rattle.std.specs.Prelude.{count_by}
use Rattle.std.specs.List.{list_all}
use Rattle.std.proofs.lemmas.Result.{IfOk-weaker}
use Rattle.blif_order.proofs.Walks.{own, same_number}
use Rattle.blif_formals.specs.declared.interface.Port.{Port}
use Rattle.blif_formals.specs.Joining.{is_formal, is_input, is_once, joins_well, port_of}
use Rattle.blif_formals.proofs.Joined.{well_by_ports}
use Rattle.blif_formals.proofs.joining.joins_well.Goals as goal
use Rattle.blif_formals.proofs.joining.joins_well.Goals.{then-not-are_formal-via-then-not-are_formal, then-not-are_formal-via-else-not-are_formal+then-count_inputs-len}

right_false : (s : Bool) → (s && false) ≡ false
right_false true = refl
right_false false = refl

other : (a b m n : ℕ) → a ≡ m → b ≡ n → (a ≡ b → ⊥) → (m == n) ≡ false
other a b m n e f h = by_test (m == n) refl
  where
    by_test : (t : Bool) → (m == n) ≡ t → t ≡ false
    by_test true g = absurd (h (e ∙ same_number m n g ∙ sym f))
    by_test false g = refl

pub returns-then-not-are_formal : goal.returns-then-not-are_formal
returns-then-not-are_formal c =
    let i = c.args.interface.now in
    let formals = c.args.formals.now in
    let same = c.as_slice-ports.ensures.value in
    let told = well_by_ports i c.requires.interface formals in
    let once : Bool = is_once formals in
    elim c.then-not-are_formal.branch [
      | then-not-are_formal-via-then-not-are_formal w ↦
          let e : list_all (λ n. is_formal (port_of i.ports.items n)) formals ≡ false =
          sym (ap (λ (xs : List Port). list_all (λ n. is_formal (port_of xs n)) formals) same) ∙ sym c.are_formal.ensures ∙ w.if-not-are_formal.true in
          sym (told ∙ ap (λ b. b && (count_by (λ n. is_input (port_of i.ports.items n)) formals == length i.inputs) && once) e)
      | then-not-are_formal-via-else-not-are_formal+then-count_inputs-len w ↦
          let n = count_by (λ n. is_input (port_of i.ports.items n)) formals in
          let counted : w.count_inputs.result ≡ n = w.count_inputs.ensures ∙ ap (λ (xs : List Port). count_by (λ n. is_input (port_of xs n)) formals) same in
          let differ : (n == length i.inputs) ≡ false = other w.count_inputs.result w.len.result n (length i.inputs) counted w.len.ensures w.if-count_inputs-len.true in
          sym (told ∙ ap (λ b. list_all (λ n. is_formal (port_of i.ports.items n)) formals && b && once) differ ∙ ap (λ b. b && once) (right_false (list_all (λ n. is_formal (port_of i.ports.items n)) formals)))
    ]

pub returns : goal.returns
returns c =
    let i = c.args.interface.now in
    let formals = c.args.formals.now in
    let same = c.as_slice-ports.ensures.value in
    let n = count_by (λ n. is_input (port_of i.ports.items n)) formals in
    let each : list_all (λ n. is_formal (port_of i.ports.items n)) formals ≡ true =
    sym (ap (λ (xs : List Port). list_all (λ n. is_formal (port_of xs n)) formals) same) ∙ sym c.are_formal.ensures ∙ c.if-not-are_formal.false in
    let counted : c.count_inputs.result ≡ n = c.count_inputs.ensures ∙ ap (λ (xs : List Port). count_by (λ n. is_input (port_of xs n)) formals) same in
    let equal : n ≡ length i.inputs = sym counted ∙ c.if-count_inputs-len.false ∙ c.len.ensures in
    let test : (n == length i.inputs) ≡ true = ap (λ k. k == length i.inputs) equal ∙ own (length i.inputs) in
    let told : is_once formals ≡ joins_well i.inputs i.outputs formals = sym (well_by_ports i c.requires.interface formals ∙ (λ j. each j && test j && is_once formals)) in
    IfOk-weaker c.is_once.result (λ once. once ≡ is_once formals) (λ well. well ≡ joins_well i.inputs i.outputs formals) (λ once e. e ∙ told) c.is_once.ensures
