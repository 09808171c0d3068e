use Rattle.std.proofs.Common.{◌≡◌, ◌<◌, ◌==◌, ◌+◌, Bool, true, false, List, Option, None, Some, ℕ, ◌++◌, ◌∷◌, [], get_or, length, set, take, refl, ap, sym, ◌∙◌, subst, if◌then◌else◌}
use Rattle.std.proofs.lemmas.Bool.{false≢true}
use Rattle.std.proofs.lemmas.List.{get_or-set_other, get_or-set_same, get_or_default, length-set, take_more}
use Rattle.blif_order.proofs.Walks.{own, same_number}
use Rattle.blif_models.specs.ModelFaults.{least, lesser}
use Rattle.blif_formals.specs.declared.clashes.Definition.{Definition}
use Rattle.blif_formals.specs.Clashes.{clashes, later}
use Rattle.blif_formals.proofs.Clashing.{clash_none, clash_some, lines_more, lines_of}
use Rattle.blif_formals.proofs.clashes.clash_line.Goals as goal
use Rattle.blif_formals.proofs.clashes.clash_line.Goals.{in-Some, in_default}

-- the line of the last definition was noted
noted : (ones : List Definition) (one : Definition) (lines : List (Option ℕ)) → ((n : ℕ) → get_or lines n None ≡ least (lines_of n ones)) → one.name < length lines
    → (n : ℕ) → get_or (set lines one.name (Some (lesser one.line (least (lines_of one.name ones))))) n None ≡ least (lines_of n (ones ++ one ∷ []))
noted ones one lines h lt n = by_cases (one.name == n) refl ∙ sym (lines_more n ones one)
  where
    by_cases : (t : Bool) → (one.name == n) ≡ t → get_or (set lines one.name (Some (lesser one.line (least (lines_of one.name ones))))) n None ≡ (if t then Some (lesser one.line (least (lines_of n ones))) else least (lines_of n ones))
    by_cases true e =
        let same : one.name ≡ n = same_number one.name n e in
        ap (λ k. get_or (set lines one.name (Some (lesser one.line (least (lines_of one.name ones))))) k None) (sym same)
        ∙ get_or-set_same lines one.name (Some (lesser one.line (least (lines_of one.name ones)))) None lt ∙ ap (λ k. Some (lesser one.line (least (lines_of k ones)))) same
    by_cases false e =
        get_or-set_other lines one.name n (Some (lesser one.line (least (lines_of one.name ones)))) None (λ same. false≢true (sym e ∙ subst (λ k. (one.name == k) ≡ true) (sym same) (own one.name))) ∙ h n

pub loop-one-preserved : goal.loop-one-preserved
loop-one-preserved c =
    let ds = c.args.definitions.now in
    let i = c.loop-one.one-index in
    let one : Definition = get_or ds i (record { name = 0; line = 0 }) in
    let lines = c.loop-one.lines.items in
    let more : take (i + 1) ds ≡ take i ds ++ one ∷ [] = take_more ds i (record { name = 0; line = 0 }) c.loop-one-test.true in
    let low : one.name < length lines = subst (λ k. one.name < k) (sym c.loop-one.invariant.many) (c.requires i (record { name = 0; line = 0 }) c.loop-one-test.true) in
    let read : c.index-before.result.now ≡ least (lines_of one.name (take i ds)) =
    c.index-before.ensures ∙ get_or_default lines one.name c.index-before.result.now None low ∙ c.loop-one.invariant.lines one.name in
    let before : c.match-before.before ≡ least (lines_of one.name (take i ds)) = elim c.match-before.branch [
      | in-Some w ↦ w.before-is ∙ sym w.in-Some.is ∙ read
      | in_default w ↦ w.before-is ∙ read
    ] in
    record {
      many = length-set lines one.name (Some c.lesser-in-loop-one.result) ∙ c.loop-one.invariant.many;
      lines = λ n.
          ap (λ k. get_or (set lines one.name (Some k)) n None) (c.lesser-in-loop-one.ensures ∙ ap (lesser one.line) before)
          ∙ noted (take i ds) one lines c.loop-one.invariant.lines low n ∙ ap (λ xs. least (lines_of n xs)) (sym more);
      clash = elim c.match-before.branch [
        | in-Some w ↦
            w.clash-is ∙ ap Some (w.lesser.ensures ∙ ap (λ k. lesser k c.loop-one.clash) w.later.ensures ∙ ap (lesser (later w.in-Some.first one.line)) c.loop-one.invariant.clash)
            ∙ sym (clash_some (take i ds) one w.in-Some.first (sym read ∙ w.in-Some.is)) ∙ ap (λ xs. least (clashes xs)) (sym more)
        | in_default w ↦
            w.clash-is ∙ c.loop-one.invariant.clash ∙ sym (clash_none (take i ds) one (sym read ∙ w.in_default.is)) ∙ ap (λ xs. least (clashes xs)) (sym more)
      ];
    }
