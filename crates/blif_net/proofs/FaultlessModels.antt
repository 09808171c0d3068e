-- Where no line is faulty, no model has too many outputs.
use Rattle.std.proofs.Common.{◌≡◌, ℕ, ◌+◌, ◌&&◌, Bool, true, false, not, cond, List, [], ◌∷◌, ◌++◌, length, nat_lt, Option, Some, None, option_map, refl, ap, ◌∙◌, length-append}
use Rattle.std.specs.Prelude.{if◌then◌else◌}
use Rattle.std.specs.List.{list_all}
use Rattle.std.proofs.lemmas.Bool.{and_from}
use Rattle.std.proofs.lemmas.List.Folds.{list_all-append}
use Rattle.edge_bits.specs.declared.limits.TheConstants.{MOST_OUTPUTS}
use Rattle.blif_drafts.specs.Latches.{latch_of}
use Rattle.blif_drafts.specs.OpenDrafts.{named_at}
use Rattle.blif_models.specs.Circuits.{Cover}
use Rattle.blif_models.specs.Models.{Latch, Model, Named, names_of}
use Rattle.blif_net.specs.declared.faults.FaultKind.TheVariants as kinds
use Rattle.blif_text.specs.Text.{Line, Word, is_allowed}
use Rattle.blif_text.specs.Statements.{Statement, nothing, model, inputs, outputs, names, subckt, latch, ends, passed_over, left_out, unknown, row, said}
use Rattle.blif_net.specs.Circuits.{Context, after_line, after_statement, at_start, behind, close, with_cover, with_latch, with_outputs}
use Rattle.blif_net.specs.Faults.{end_fault, fault_at, faulty_line, line_fault, open_fault}
use Rattle.blif_net.proofs.LineWords.{named_more}
use Rattle.blif_net.proofs.NoFaults.{no_map, none_of, not_so}

-- what each line without a fault keeps before `.end`
abbrev IsKept : (Context → Type 0) → Type 0
IsKept P = (c : Context) (line : ℕ) (statement : Statement) → open_fault c line statement ≡ None → P c → P (after_statement c line statement)

end_step : (P : Context → Type 0) → IsKept P → (c : Context) (line : ℕ) (statement : Statement) → end_fault statement ≡ None → P c → P (after_statement c line statement)
end_step P kept c line nothing h a = a
end_step P kept c line (model words) h a = kept c line (model words) refl a
end_step P kept c line (inputs words) h a = cc
end_step P kept c line (outputs words) h a = cc
end_step P kept c line (names words) h a = cc
end_step P kept c line (subckt words) h a = cc
end_step P kept c line (latch words) h a = cc
end_step P kept c line (ends words) h a = cc
end_step P kept c line passed_over h a = cc
end_step P kept c line left_out h a = cc
end_step P kept c line unknown h a = cc
end_step P kept c line (row words) h a = cc

line_step : (P : Context → Type 0) → IsKept P → (c : Context) (line : Line) → line_fault c line ≡ None → P c → P (after_line c line)
unfolding line_fault
line_step P kept c line h a = by_clean (list_all is_allowed line.bytes) h
  where
    by_end : (b : Bool) → cond b (end_fault (said line)) (open_fault c line.number (said line)) ≡ None → P (after_line c line)
    by_end true k = end_step P kept c line.number (said line) k a
    by_end false k = kept c line.number (said line) k a

    by_clean : (b : Bool) → cond (not b) (Some kinds.Word) (cond c.ended (end_fault (said line)) (open_fault c line.number (said line))) ≡ None → P (after_line c line)
    by_clean true k = by_end c.ended k
    by_clean false k = cc

kept_behind : (P : Context → Type 0) → IsKept P → (c : Context) (lines : List Line) → faulty_line c lines ≡ None → P c → P (behind c lines)
unfolding faulty_line behind
kept_behind P kept c [] h a = a
kept_behind P kept c (line ∷ lines) h a =
    let both = none_of (option_map (λ kind. fault_at kind line.number) (line_fault c line)) (faulty_line (after_line c line) lines) h in
    kept_behind P kept (after_line c line) lines both.1 (line_step P kept c line (no_map (λ kind. fault_at kind line.number) (line_fault c line) both.0) a)

-- outputs

abbrev pub has_few : Model → Bool
has_few one = not (nat_lt MOST_OUTPUTS (length (names_of one.outputs)))

pub record HaveFewOutputs (c : Context) : Type 0 where
  pub closed : list_all has_few c.closed ≡ true
  pub current : has_few c.current ≡ true

few_start : HaveFewOutputs at_start
few_start = record { closed = refl; current = refl }

closes : (c : Context) (o : Option Cover) → HaveFewOutputs c → HaveFewOutputs (record (with_cover c o) { cover = None; begun = true })
closes c None f = record { closed = f.closed; current = f.current }
closes c (Some cover) f = record { closed = f.closed; current = f.current }

close_few : (c : Context) → HaveFewOutputs c → HaveFewOutputs (close c)
close_few c f = closes c c.cover f

latch_few : (c : Context) (o : Option Latch) → HaveFewOutputs c → HaveFewOutputs (with_latch c o)
latch_few c None f = f
latch_few c (Some one) f = record { closed = f.closed; current = f.current }

begin_few : (c : Context) (b : Bool) → HaveFewOutputs c → list_all has_few (if b then (close c).closed ++ (close c).current ∷ [] else c.closed) ≡ true
begin_few c false f = f.closed
begin_few c true f =
    let k = close_few c f in
    list_all-append has_few (close c).closed ((close c).current ∷ [])
    ∙ and_from (list_all has_few (close c).closed) (has_few (close c).current && true) k.closed (and_from (has_few (close c).current) true k.current refl)

more_outputs : (before : List Named) (line : ℕ) (words : List Word) → nat_lt MOST_OUTPUTS (length (names_of before) + length words) ≡ false → nat_lt MOST_OUTPUTS (length (names_of (before ++ named_at line words ∷ []))) ≡ false
more_outputs before line words h = ap (λ (all : List Word). nat_lt MOST_OUTPUTS (length all)) (named_more before line words) ∙ ap (nat_lt MOST_OUTPUTS) (length-append (names_of before) words) ∙ h

more_few : (c : Context) (o : Option Cover) (line : ℕ) (words : List Word) → nat_lt MOST_OUTPUTS (length (names_of c.current.outputs) + length words) ≡ false
    → has_few (with_outputs (record (with_cover c o) { cover = None; begun = true }) (named_at line words)).current ≡ true
more_few c None line words h = ap not (more_outputs c.current.outputs line words h)
more_few c (Some cover) line words h = ap not (more_outputs c.current.outputs line words h)

few_step : IsKept HaveFewOutputs
few_step c line nothing h f = f
few_step c line passed_over h f = close_few c f
few_step c line left_out h f = close_few c f
few_step c line unknown h f = close_few c f
few_step c line (model words) h f = record { closed = begin_few c c.begun f; current = refl }
few_step c line (inputs words) h f = let k = close_few c f in record { closed = k.closed; current = k.current }
few_step c line (outputs words) h f = record { closed = (close_few c f).closed; current = more_few c c.cover line words (not_so (nat_lt MOST_OUTPUTS (length (names_of c.current.outputs) + length words)) kinds.TooMany h) }
few_step c line (names words) h f = let k = close_few c f in record { closed = k.closed; current = k.current }
few_step c line (subckt words) h f = let k = close_few c f in record { closed = k.closed; current = k.current }
few_step c line (latch words) h f = latch_few (close c) (latch_of line words) (close_few c f)
few_step c line (ends words) h f = let k = close_few c f in record { closed = k.closed; current = k.current }
few_step c line (row words) h f = record { closed = f.closed; current = f.current }

-- of models that are left behind lines
pub models_few : (lines : List Line) → faulty_line at_start lines ≡ None → HaveFewOutputs (close (behind at_start lines))
models_few lines h = close_few (behind at_start lines) (kept_behind HaveFewOutputs few_step at_start lines h few_start)
