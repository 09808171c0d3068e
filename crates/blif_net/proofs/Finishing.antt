-- All lines were read: what is told of models is their fault, and the whole is that of the main model.
use Rattle.std.proofs.Common.{◌≡◌, ℕ, ◌<◌, Bool, true, List, [], ◌∷◌, ◌++◌, length, map, Option, Some, refl, ap, sym, ◌∙◌, subst, arith}
use Rattle.std.specs.Prelude.{All, slice_get, slice_index_or, vec_len}
use Rattle.std.specs.Global.{Vec}
use Rattle.std.specs.List.{list_all}
use Rattle.std.specs.Option.{option_or}
use Rattle.std.proofs.lemmas.Bool.{and_parts}
use Rattle.job_words.specs.Text.{Word}
use Rattle.cover_nets.specs.declared.net.Net.{Net}
use Rattle.blif_models.specs.declared.expanding.Outcome.TheVariants as outcomes
use Rattle.blif_models.specs.declared.layout.Whole.{Whole}
use Rattle.blif_models.specs.Circuits.{Circuit}
use Rattle.blif_models.specs.Models.{Model, names_of, whole_items}
use Rattle.blif_models.specs.Numberings.{words_at}
use Rattle.blif_formals.specs.declared.interface.Interface.{Interface}
use Rattle.blif_formals.specs.ByNames.{IsInterfaceOf}
use Rattle.blif_formals.specs.Joining.{IsInterface}
use Rattle.blif_formals.specs.Words.{HaveOneNumber}
use Rattle.blif_drafts.specs.declared.verdicts.Judged.{Judged}
use Rattle.blif_drafts.specs.declared.verdicts.Verdict.{Verdict}
use Rattle.blif_drafts.specs.declared.verdicts.Verdict.TheVariants as verdicts
use Rattle.blif_drafts.specs.OpenModels.{AreOpen, AreSomeOpen, IsToldOf, IsToldOfOpen, NamesPass}
use Rattle.blif_drafts.specs.Verdicts.{VerdictIs}
use Rattle.blif_text.specs.Marks.{is_plain}
use Rattle.blif_text.specs.Text.{Line}
use Rattle.blif_wholes.specs.declared.bodies.CoverRows.{CoverRows}
use Rattle.blif_wholes.specs.declared.uses.SpotUse.{SpotUse}
use Rattle.blif_wholes.specs.Networks.{IsNetOf}
use Rattle.blif_wholes.proofs.WholeOnce.{wholes_define_once}
use Rattle.blif_net.specs.declared.faults.BlifError.{BlifError}
use Rattle.blif_net.specs.declared.faults.BlifFault.{BlifFault}
use Rattle.blif_net.specs.declared.reading.Reading.{Reading}
use Rattle.blif_net.specs.Circuits.{Context, at_start, behind, circuit_of, circuit_of_models, close}
use Rattle.blif_net.specs.Ending.{ErrorIs, IsExpanded, IsNetFrom, IsNetOfWhole, whole_of}
use Rattle.blif_net.specs.Faults.{expanded_fault, fault_in, models_fault}
use Rattle.blif_net.specs.ModelVerdicts.{verdict_fault}
use Rattle.blif_net.specs.Reading.{AreAllKept, IsReadWhole, main_of}
use Rattle.blif_net.specs.Sound.{ArePlainLines}
use Rattle.blif_net.proofs.Keeping.{all_kept_last}
use Rattle.blif_net.proofs.ModelTold.{verdicts_are_faults}
use Rattle.blif_net.proofs.LineWords.{current_passes, model_passes, models_pass}
use Rattle.blif_net.proofs.PlainWords.{defined_plain}
use Rattle.blif_net.proofs.Whole.{all_plain, as_many_lines, further_of, main_first, names_there, rows_kept, uses_there}

-- the models of the lines, and the main one
abbrev pub left_by : List Line → Context
left_by lines = close (behind at_start lines)

abbrev pub models_of : List Line → List Model
models_of lines = (left_by lines).closed ++ (left_by lines).current ∷ []

abbrev pub main_in : List Line → Model
main_in lines = main_of (left_by lines).closed (left_by lines).current

pub some_open : (lines : List Line) (one : Reading) → IsReadWhole lines one → (line : ℕ) × AreSomeOpen line one.models
some_open lines one h = (h.number, record { before = (left_by lines).closed; model = (left_by lines).current; are = ((h.reading).models).are })

pub told_of : (lines : List Line) (one : Reading) (judged : Judged) → IsReadWhole lines one → IsToldOfOpen one.models judged → IsToldOf (models_of lines) judged
told_of lines one judged h t = t h.number (left_by lines).closed (left_by lines).current ((h.reading).models).are

-- what is told is their fault
pub told_fault : (lines : List Line) (one : Reading) (judged : Judged) → IsReadWhole lines one → IsToldOfOpen one.models judged → fault_in lines ≡ verdict_fault lines (main_in lines) (whole_items (models_of lines) (main_in lines)) judged.verdict
told_fault lines one judged h t =
    let d = left_by lines in
    let main = main_in lines in
    let split = further_of d.closed d.current in
    let is = (told_of lines one judged h t main (main_first d.closed d.current)).1 in
    ap (λ o. option_or o (models_fault lines (models_of lines))) h.faultless
    ∙ subst (λ (all : List Model). models_fault lines all ≡ verdict_fault lines main (whole_items all main) judged.verdict) (sym split.1)
    (verdicts_are_faults lines main split.0 judged.names.items judged.verdict (subst (λ (all : List Model). VerdictIs all judged.names.items main judged.verdict) split.1 is))

pub circuit_same : (lines : List Line) → circuit_of lines ≡ whole_of (models_of lines) (main_in lines)
circuit_same lines =
    let d = left_by lines in
    let split = further_of d.closed d.current in
    subst (λ (all : List Model). circuit_of_models all ≡ whole_of all (main_in lines)) (sym split.1) refl

-- the main model's interface
pub main_interface : (lines : List Line) (one : Reading) (judged : Judged) → IsReadWhole lines one → IsToldOfOpen one.models judged
    → (interface : Interface) × (slice_get judged.interfaces.items 0 ≡ Some interface) × IsInterface interface × IsInterfaceOf judged.names.items 0 (main_in lines) interface
main_interface lines one judged h t =
    let d = left_by lines in
    (told_of lines one judged h t (main_in lines) (main_first d.closed d.current)).0 0 (main_in lines) refl (main_first d.closed d.current)

pub some_there : {X : Type 0} (xs : Vec X) (x : X) → slice_get xs.items 0 ≡ Some x → 0 < vec_len xs
some_there {X = X} xs x e = let same : length xs.items ≡ vec_len xs = cc in subst (λ n. 0 < n) same (some_items xs.items e)
  where
    some_items : (ys : List X) → slice_get ys 0 ≡ Some x → 0 < length ys
    some_items [] f = cc
    some_items (y ∷ ys) f = omega arith

pub first_is : {X : Type 0} (xs : List X) (x y : X) → slice_get xs 0 ≡ Some x → y ≡ slice_index_or xs 0 y → y ≡ x
first_is [] x y e f = cc
first_is (z ∷ xs) x y e f = cc

main_plain : (lines : List Line) → ArePlainLines lines → model_passes is_plain (main_in lines) ≡ true
main_plain lines h = by_closed (left_by lines).closed (models_pass is_plain lines h).closed
  where
    by_closed : (closed : List Model) → list_all (model_passes is_plain) closed ≡ true → model_passes is_plain (main_of closed (left_by lines).current) ≡ true
    by_closed [] e = current_passes is_plain (left_by lines) (models_pass is_plain lines h)
    by_closed (model ∷ closed) e = (and_parts (model_passes is_plain model) (list_all (model_passes is_plain) closed) e).0

pub lines_as_many : (lines : List Line) (one : Reading) (judged : Judged) (interface : Interface) → IsReadWhole lines one → IsInterfaceOf judged.names.items 0 (main_in lines) interface → length one.outputs.items ≡ length interface.outputs
lines_as_many lines one judged interface h is = ap length ((h.reading).left).outputs ∙ as_many_lines judged.names.items (main_in lines) interface.outputs is.outputs

-- the whole is that of the main model
expanded_is : (lines : List Line) (one : Reading) (judged : Judged) (whole : Whole) (interface : Interface) (uses : List SpotUse) (kept : List (Vec (Option CoverRows))) → ArePlainLines lines → IsReadWhole lines one → IsToldOfOpen one.models judged
    → All (λ (names : List Word). list_all is_plain names ≡ true) judged.names.items → ((m : ℕ) → HaveOneNumber (words_at judged.names.items m)) → judged.verdict ≡ verdicts.Comes (outcomes.Expanded whole)
    → IsInterfaceOf judged.names.items 0 (main_in lines) interface → map (λ (some : SpotUse). some.spot) uses ≡ interface.outputs → map (λ (some : SpotUse). some.line) uses ≡ one.outputs.items → kept ≡ one.closed.items ++ one.rows ∷ []
    → IsExpanded (models_of lines) judged.names.items (main_in lines) whole interface.inputs uses kept
expanded_is lines one judged whole interface uses kept plain h t names once expanded is spots at_lines rows =
    let d = left_by lines in
    let models = models_of lines in
    let main = main_in lines in
    let words = judged.names.items in
    let left = (h.reading).left in
    let v = subst (λ (verdict : Verdict). VerdictIs models words main verdict) expanded (told_of lines one judged h t main (main_first d.closed d.current)).1 in
    let laid = v.4 in
    let inputs = names_there words whole.spots.items interface.inputs (names_of main.inputs) laid.own_names is.inputs in
    let outputs = uses_there words whole.spots.items main interface.outputs uses laid.own_names is.outputs spots (at_lines ∙ left.outputs) in
    record {
      named = record {
        plain = all_plain words names;
        one_number = once;
        laid_out = laid;
        lined = v.5;
        inputs_are = inputs.0;
        outputs_are = outputs.0;
        inputs_within = subst (λ n. All (λ k. k < n) interface.inputs) (many whole.spots) inputs.1;
        outputs_within = subst (λ n. All (λ (some : SpotUse). some.spot < n) uses) (many whole.spots) outputs.1;
      };
      kept = rows_kept models kept (subst (λ (all : List (Vec (Option CoverRows))). AreAllKept models all) (sym rows) (all_kept_last d.closed one.closed.items d.current one.rows left.closed left.rows));
      items = v.3.2;
      once = wholes_define_once models main (defined_plain models main (main_plain lines plain)) v.1 v.2;
    }
  where
    many : {X : Type 0} (xs : Vec X) → length xs.items ≡ vec_len xs
    many xs = cc

pub expanded_from : (lines : List Line) (one : Reading) (judged : Judged) (whole : Whole) (main : Interface) (inputs : List ℕ) (uses : List SpotUse) (kept : List (Vec (Option CoverRows))) → ArePlainLines lines → IsReadWhole lines one
    → IsToldOfOpen one.models judged → ((p : Word → Bool) → NamesPass p one.models → All (λ (names : List Word). list_all p names ≡ true) judged.names.items)
    → ((line : ℕ) (before : List Model) (model : Model) → AreOpen line before model one.models → (m : ℕ) → HaveOneNumber (words_at judged.names.items m)) → judged.verdict ≡ verdicts.Comes (outcomes.Expanded whole)
    → main ≡ slice_index_or judged.interfaces.items 0 main → inputs ≡ main.inputs → map (λ (some : SpotUse). some.spot) uses ≡ main.outputs → map (λ (some : SpotUse). some.line) uses ≡ one.outputs.items → kept ≡ one.closed.items ++ one.rows ∷ []
    → IsExpanded (models_of lines) judged.names.items (main_in lines) whole inputs uses kept
expanded_from lines one judged whole main inputs uses kept plain h t names once expanded at e spots at_lines rows =
    let d = left_by lines in
    let is = main_interface lines one judged h t in
    let same : main ≡ is.0 = first_is judged.interfaces.items is.0 main is.1 at in
    subst (λ (ns : List ℕ). IsExpanded (models_of lines) judged.names.items (main_in lines) whole ns uses kept) (sym (e ∙ ap (λ (some : Interface). some.inputs) same))
    (expanded_is lines one judged whole is.0 uses kept plain h t (names is_plain (h.reading).plain) (once h.number d.closed d.current ((h.reading).models).are) expanded is.3 (spots ∙ ap (λ (some : Interface). some.outputs) same) at_lines rows)

-- the network of the lines
pub net_from : (lines : List Line) (one : Reading) (judged : Judged) (whole : Whole) (net : Net) → IsReadWhole lines one → IsToldOfOpen one.models judged → judged.verdict ≡ verdicts.Comes (outcomes.Expanded whole)
    → IsNetOfWhole lines (models_of lines) (main_in lines) net → IsNetFrom lines net
net_from lines one judged whole net h t expanded n = (
  told_fault lines one judged h t ∙ ap (verdict_fault lines (main_in lines) (whole_items (models_of lines) (main_in lines))) expanded ∙ n.0,
  subst (λ (circuit : Circuit). IsNetOf circuit net) (sym (circuit_same lines)) n.1,
)

pub whole_fault : (lines : List Line) (one : Reading) (judged : Judged) (whole : Whole) (error : BlifError) → IsReadWhole lines one → IsToldOfOpen one.models judged → judged.verdict ≡ verdicts.Comes (outcomes.Expanded whole)
    → ErrorIs (expanded_fault lines (main_in lines) (whole_items (models_of lines) (main_in lines))) error → ErrorIs (fault_in lines) error
whole_fault lines one judged whole error h t expanded e =
    subst (λ (o : Option BlifFault). ErrorIs o error) (sym (told_fault lines one judged h t ∙ ap (verdict_fault lines (main_in lines) (whole_items (models_of lines) (main_in lines))) expanded)) e

pub verdict_error : (lines : List Line) (one : Reading) (judged : Judged) (error : BlifError) → IsReadWhole lines one → IsToldOfOpen one.models judged
    → ErrorIs (verdict_fault lines (main_in lines) (whole_items (models_of lines) (main_in lines)) judged.verdict) error → ErrorIs (fault_in lines) error
verdict_error lines one judged error h t e = subst (λ (o : Option BlifFault). ErrorIs o error) (sym (told_fault lines one judged h t)) e
