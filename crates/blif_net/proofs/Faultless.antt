-- In texts of one model: what each line without a fault keeps, lines without a fault keep.
use Rattle.std.proofs.Common.{◌≡◌, ℕ, Bool, true, false, not, cond, List, [], ◌∷◌, Some, None, refl, ap, sym, ◌∙◌}
use Rattle.std.specs.Prelude.{option_map}
use Rattle.std.specs.List.{list_all}
use Rattle.blif_net.specs.declared.faults.FaultKind.TheVariants as kinds
use Rattle.blif_text.specs.Text.{Line, is_allowed}
use Rattle.blif_text.specs.Statements.{Statement, nothing, model, inputs, outputs, names, subckt, latch, ends, passed_over, left_out, unknown, row, said}
use Rattle.blif_net.proofs.NoFaults.{no_map, none_of}
use Rattle.blif_net.specs.PlainTexts.{Context, after_line, after_statement, behind, open_fault, end_fault, line_fault, faulty_line, fault_on}

-- what each line without a fault keeps before `.end`
abbrev pub IsKept : (Context → Type 0) → Type 0
IsKept P = (c : Context) (line : ℕ) (statement : Statement) → open_fault c statement ≡ None → P c → P (after_statement c line statement)

end_step : (P : Context → Type 0) (c : Context) (line : ℕ) (statement : Statement) → end_fault statement ≡ None → P c → P (after_statement c line statement)
end_step P c line nothing h a = a
end_step P c line (model words) h a = cc
end_step P c line (inputs words) h a = cc
end_step P c line (outputs words) h a = cc
end_step P c line (names words) h a = cc
end_step P c line (subckt words) h a = cc
end_step P c line (latch words) h a = cc
end_step P c line (ends words) h a = cc
end_step P c line passed_over h a = cc
end_step P c line left_out h a = cc
end_step P c line unknown h a = cc
end_step P c line (row words) h a = cc

line_step : (P : Context → Type 0) → IsKept P → (c : Context) (line : Line) → line_fault c line ≡ None → P c → P (after_line c line)
unfolding line_fault
line_step P kept c line h a = by_clean (list_all is_allowed line.bytes) refl
  where
    by_end : (b : Bool) → c.ended ≡ b → cond c.ended (end_fault (said line)) (open_fault c (said line)) ≡ None → P (after_line c line)
    by_end true e k = end_step P c line.number (said line) (sym (ap (λ b. cond b (end_fault (said line)) (open_fault c (said line))) e) ∙ k) a
    by_end false e k = kept c line.number (said line) (sym (ap (λ b. cond b (end_fault (said line)) (open_fault c (said line))) e) ∙ k) a

    by_clean : (b : Bool) → list_all is_allowed line.bytes ≡ b → P (after_line c line)
    by_clean true e = by_end c.ended refl (sym (ap (λ b. cond (not b) (Some kinds.Word) (cond c.ended (end_fault (said line)) (open_fault c (said line)))) e) ∙ h)
    by_clean false e =
        let some : Some kinds.Word ≡ None = sym (ap (λ b. cond (not b) (Some kinds.Word) (cond c.ended (end_fault (said line)) (open_fault c (said line)))) e) ∙ h in
        cc

pub kept_behind : (P : Context → Type 0) → IsKept P → (c : Context) (lines : List Line) → faulty_line c lines ≡ None → P c → P (behind c lines)
unfolding faulty_line behind
kept_behind P kept c [] h a = a
kept_behind P kept c (line ∷ lines) h a =
    let both = none_of (option_map (fault_on line) (line_fault c line)) (faulty_line (after_line c line) lines) h in
    kept_behind P kept (after_line c line) lines both.1 (line_step P kept c line (no_map (fault_on line) (line_fault c line) both.0) a)
