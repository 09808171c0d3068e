-- What stands in a model defines the same signals by numbers and by names.
use Rattle.std.proofs.Common.{◌≡◌, ℕ, ◌+◌, ◌&&◌, ◌||◌, Bool, true, false, cond, not, List, [], ◌∷◌, ◌++◌, Option, Some, filter, flat_map, map, refl, ap, sym, ◌∙◌, subst, if◌then◌else◌}
use Rattle.std.specs.Str.{bytes_eq}
use Rattle.std.proofs.lemmas.Bool.{false≢true}
use Rattle.std.proofs.lemmas.Slice.Eq.{bytes_eq-Decides}
use Rattle.job_words.specs.Text.{Word, is_among}
use Rattle.blif_order.specs.Orders.{is_in}
use Rattle.blif_models.specs.declared.numbered.Entry.{Entry}
use Rattle.blif_models.specs.declared.numbered.Entry.TheVariants as entries
use Rattle.blif_models.specs.declared.numbered.NumberedJoin.{NumberedJoin}
use Rattle.blif_models.specs.Agreement.{entry_line}
use Rattle.blif_models.specs.ModelFaults as faults
use Rattle.blif_models.specs.ModelFaults.{actual_outputs, formal_inputs, formal_outputs, line_of}
use Rattle.blif_models.specs.Models.{Item, Join, Model, Use, covered, latched, held, joins_of, names_of}
use Rattle.blif_models.specs.Numberings.{AreEntriesOf, AreJoinsOf, IsNumberOf}
use Rattle.blif_formals.specs.declared.clashes.Definition.{Definition}
use Rattle.blif_formals.specs.declared.interface.Interface.{Interface}
use Rattle.blif_formals.specs.declared.interface.Port.TheVariants as ports
use Rattle.blif_formals.specs.ByNames.{AreDefinitionsOf, IsInterfaceOf}
use Rattle.blif_formals.specs.Definitions.{AreInterfacesOf, DefinitionsAgree, defined, definitions_by, is_output, outputs_joined, ports_in}
use Rattle.blif_formals.specs.Joining.{IsInterface, port_of}
use Rattle.blif_formals.proofs.ByNames.{among, kept_among}

-- an output is formal, and no input
only_output : (i : Interface) → IsInterface i → (n : ℕ) → is_output (port_of i.ports.items n) ≡ (not (is_in i.inputs n) && is_in i.outputs n)
only_output i is n = ap is_output (is.ports_are n) ∙ by_cases (is_in i.inputs n) (is_in i.outputs n)
  where
    by_cases : (s t : Bool) → is_output (if s then ports.Input else if t then ports.Output else ports.Inner) ≡ (not s && t)
    by_cases true t = refl
    by_cases false true = refl
    by_cases false false = refl

none_kept : (w : Word) (ins outs : List Word) → is_among ins w ≡ true → is_among (filter (λ name. not (is_among ins name)) outs) w ≡ false
none_kept w ins [] e = refl
none_kept w ins (v ∷ outs) e = by_cases (is_among ins v) refl (none_kept w ins outs e)
  where
    apart : (t : Bool) → bytes_eq w v ≡ t → is_among ins v ≡ false → t ≡ false
    apart true f g = absurd (false≢true (sym g ∙ ap (is_among ins) (sym ((bytes_eq-Decides w v).0 f)) ∙ e))
    apart false f g = refl

    by_cases : (t : Bool) → is_among ins v ≡ t → is_among (filter (λ name. not (is_among ins name)) outs) w ≡ false
        → is_among (cond (not t) (v ∷ filter (λ name. not (is_among ins name)) outs) (filter (λ name. not (is_among ins name)) outs)) w ≡ false
    by_cases true f more = more
    by_cases false f more = λ j. apart (bytes_eq w v) refl f j || more j

among_outputs : (ins outs : List Word) (w : Word) → is_among (filter (λ name. not (is_among ins name)) outs) w ≡ (not (is_among ins w) && is_among outs w)
among_outputs ins outs w = by_cases (is_among ins w) refl
  where
    by_cases : (t : Bool) → is_among ins w ≡ t → is_among (filter (λ name. not (is_among ins name)) outs) w ≡ (not t && is_among outs w)
    by_cases false e = kept_among w ins outs e
    by_cases true e = none_kept w ins outs e

pub both_defined : (words : List (List Word)) (m : ℕ) (ones others : List Definition) (by_names more : List Use) → AreDefinitionsOf words m ones by_names → AreDefinitionsOf words m others more → AreDefinitionsOf words m (ones ++ others) (by_names ++ more)
both_defined words m [] others [] more a b = b
both_defined words m [] others (u ∷ by_names) more a b = absurd a
both_defined words m (one ∷ ones) others [] more a b = absurd a
both_defined words m (one ∷ ones) others (u ∷ by_names) more a b = (a.0, a.1, both_defined words m ones others by_names more a.2 b)

module _ (words : List (List Word)) (m inner : ℕ) (model : Model) (interface : Interface) (is : IsInterface interface) (of : IsInterfaceOf words inner model interface) (line line' : ℕ) (same : line ≡ line') where
  output_test : (n : ℕ) (w : Word) → IsNumberOf words inner n w → is_among (formal_outputs model) w ≡ is_output (port_of interface.ports.items n)
  output_test n w a =
      among_outputs (formal_inputs model) (names_of model.outputs) w
      ∙ (λ j. not (among words inner of.apart interface.inputs (formal_inputs model) of.inputs n w a j) && among words inner of.apart interface.outputs (names_of model.outputs) of.outputs n w a j)
      ∙ sym (only_output interface is n)

  joined : (numbers : List NumberedJoin) (joins : List Join) → AreJoinsOf words m inner numbers joins
      → AreDefinitionsOf words m (outputs_joined interface.ports.items line numbers) (map (λ word. record { word = word; line = line' }) (actual_outputs (Some model) joins))
  joined [] [] a = tt
  joined [] (join ∷ joins) a = absurd a
  joined (one ∷ numbers) [] a = absurd a
  joined (one ∷ numbers) (join ∷ joins) a =
      subst (λ t. AreDefinitionsOf words m (outputs_joined interface.ports.items line (one ∷ numbers))
      (map (λ word. record { word = word; line = line' }) (map (λ (k : Join). k.actual) (cond t (join ∷ filter (λ k. is_among (formal_outputs model) k.formal) joins) (filter (λ k. is_among (formal_outputs model) k.formal) joins)))))
      (sym (output_test one.formal join.formal a.0)) (by_cases (is_output (port_of interface.ports.items one.formal)) (joined numbers joins a.2))
    where
      by_cases : (t : Bool) → AreDefinitionsOf words m (outputs_joined interface.ports.items line numbers) (map (λ word. record { word = word; line = line' }) (actual_outputs (Some model) joins))
          → AreDefinitionsOf words m (map (λ (k : NumberedJoin). defined line k.actual) (cond t (one ∷ filter (λ k. is_output (port_of interface.ports.items k.formal)) numbers) (filter (λ k. is_output (port_of interface.ports.items k.formal)) numbers)))
          (map (λ word. record { word = word; line = line' }) (map (λ (k : Join). k.actual) (cond t (join ∷ filter (λ k. is_among (formal_outputs model) k.formal) joins) (filter (λ k. is_among (formal_outputs model) k.formal) joins))))
      by_cases true more = (a.1, same, more)
      by_cases false more = more

module _ (models : List Model) (is_one : ℕ → Bool) (words : List (List Word)) (interfaces : List Interface) (have : AreInterfacesOf models is_one words interfaces) where
  defining : (m place : ℕ) (items : List Item) (others : List Entry) → AreEntriesOf models is_one words m place items others → map line_of items ≡ map entry_line others
      → AreDefinitionsOf words m (flat_map (definitions_by interfaces) others) (flat_map (faults.definitions_by models) items)
  defining m place [] [] a e = tt
  defining m place [] (one ∷ others) a e = absurd a
  defining m place (one ∷ items) [] a e = absurd a
  defining m place (covered cover ∷ items) (entries.Latch one ∷ others) a e = absurd a.0
  defining m place (covered cover ∷ items) (entries.Instance one ∷ others) a e = absurd a.0
  defining m place (latched latch ∷ items) (entries.Cover one ∷ others) a e = absurd a.0
  defining m place (latched latch ∷ items) (entries.Instance one ∷ others) a e = absurd a.0
  defining m place (held instance ∷ items) (entries.Cover one ∷ others) a e = absurd a.0
  defining m place (held instance ∷ items) (entries.Latch one ∷ others) a e = absurd a.0
  defining m place (covered cover ∷ items) (entries.Cover one ∷ others) a e =
      let line : cover.line ≡ one.line = cc in
      let rest : map line_of items ≡ map entry_line others = cc in
      (a.0.2, sym line, defining m (place + 1) items others a.1 rest)
  defining m place (latched latch ∷ items) (entries.Latch one ∷ others) a e =
      let rest : map line_of items ≡ map entry_line others = cc in
      (a.0.2, a.0.0, defining m (place + 1) items others a.1 rest)
  defining m place (held instance ∷ items) (entries.Instance one ∷ others) a e =
      let line : instance.line ≡ one.line = cc in
      let rest : map line_of items ≡ map entry_line others = cc in
      let found = a.0.1 in
      let face = have one.model found.0 a.0.0 found.1 in
      both_defined words m (definitions_by interfaces (entries.Instance one)) (flat_map (definitions_by interfaces) others) (faults.definitions_by models (held instance)) (flat_map (faults.definitions_by models) items)
      (subst (λ (o : Option Model). AreDefinitionsOf words m (definitions_by interfaces (entries.Instance one)) (map (λ word. record { word = word; line = instance.line }) (actual_outputs o (joins_of instance)))) (sym found.2)
      (subst (λ all. AreDefinitionsOf words m (outputs_joined all one.line one.joins) (map (λ word. record { word = word; line = instance.line }) (actual_outputs (Some found.0) (joins_of instance)))) (sym (ap ports_in face.1))
      (joined words m one.model found.0 face.0 face.2 face.3 one.line instance.line (sym line) one.joins (joins_of instance) a.0.2)))
      (defining m (place + 1) items others a.1 rest)

pub definitions_agree : DefinitionsAgree
definitions_agree models is_one words interfaces m place items others have a e = defining models is_one words interfaces have m place items others a e
