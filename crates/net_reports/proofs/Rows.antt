-- Worked texts, computed.
use Rattle.std.proofs.Common.{◌≡◌, true, false, [], ◌∷◌, codes, refl}
use Rattle.std.specs.Fmt.{digits}
use Rattle.net_reports.specs.Reports.{report_text, summary_text}

-- an exclusive or
one_output : report_text 2 (codes "f" ∷ []) (record { first = 0; complement = false } ∷ []) [] (0 ∷ 1 ∷ []) 3
    ≡ codes "inputs 2\noutputs 1\nout 0 f 0 +\norder 0 1\nnodes 3\n"
unfolding report_text digits
one_output = refl

-- an equivalence and three constants, at two patterns
four_outputs : report_text 2 (codes "f" ∷ codes "k" ∷ codes "z" ∷ codes "w" ∷ [])
    (record { first = 0; complement = false } ∷ record { first = 1; complement = false } ∷ record { first = 1; complement = true } ∷ record { first = 1; complement = true } ∷ [])
    (record { pattern = true ∷ true ∷ []; values = true ∷ true ∷ false ∷ false ∷ [] } ∷ record { pattern = true ∷ false ∷ []; values = false ∷ true ∷ false ∷ false ∷ [] } ∷ []) (0 ∷ 1 ∷ []) 3
    ≡ codes "inputs 2\noutputs 4\nout 0 f 0 +\nout 1 k 1 +\nout 2 z 1 -\nout 3 w 1 -\neval 11 -> 1100\neval 10 -> 0100\norder 0 1\nnodes 3\n"
unfolding report_text digits
four_outputs = refl

-- no variables and no outputs
nothing : report_text 0 [] [] (record { pattern = true ∷ []; values = [] } ∷ []) [] 0 ≡ codes "inputs 0\noutputs 0\neval 1 -> \norder\nnodes 0\n"
unfolding report_text digits
nothing = refl

summed : summary_text 16 25 9 39 ≡ codes "inputs 16\noutputs 25\nclasses 9\nnodes 39\n"
unfolding summary_text digits
summed = refl
