use Rattle.std.proofs.Common.{◌≡◌, ◌<◌, ◌^◌, ◌∙◌, length, ap, sym, subst, IsTrue, get_or}
use Rattle.std.proofs.lemmas.Result.{IfOk-weaker}
use Rattle.function_laws.specs.Lists.{is_size, truth}
use Rattle.function_laws.specs.Values.{negation}
use Rattle.function_laws.specs.Functions.{not_of, exists_of}
use Rattle.function_laws.proofs.ListLemmas.{length-list_of}
use Rattle.function_laws.proofs.ExistsLemmas.{forall_of-not_of}
use Rattle.function_laws.proofs.plain.forall_of.Goals as goal

-- the complement is as long as f
same_length : (c : goal.After-deref) → length c.deref.result.now ≡ length c.args.f.now
same_length c = ap length (c.deref.ensures.value ∙ c.in_ok-complement.ensures) ∙ length-list_of (length c.args.f.now) (negation (truth c.args.f.now))

pub exists_of-requires-clause-size : goal.exists_of-requires-clause-size
exists_of-requires-clause-size c = subst (λ n. IsTrue (is_size n)) (sym (same_length c)) c.requires.size

pub exists_of-requires-clause-vars : goal.exists_of-requires-clause-vars
exists_of-requires-clause-vars c = λ i d inside. subst (λ n. 2 ^ get_or c.args.vars.now i d < n) (sym (same_length c)) (c.requires.vars i d inside)

pub returns : goal.returns
returns c = IfOk-weaker c.not_of-2.result _ _ (λ v is.
    is ∙ ap not_of (c.deref-2.ensures.value ∙ c.in_ok-exists.ensures ∙ ap (λ xs. exists_of xs c.args.vars.now) (c.deref.ensures.value ∙ c.in_ok-complement.ensures))
    ∙ forall_of-not_of c.args.f.now c.args.vars.now c.requires.size c.requires.vars) c.not_of-2.ensures
