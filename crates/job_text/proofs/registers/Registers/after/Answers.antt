use Rattle.std.proofs.Common.{◌≡◌, false, List, [], ◌∷◌, ◌++◌, refl, ap, ap₂, sym, subst, ◌∙◌, IfOk}
use Rattle.std.specs.List.{list_any}
use Rattle.edge_bits.specs.declared.edges.Kind.{Kind}
use Rattle.job_commands.specs.declared.acts.Act.{Act}
use Rattle.job_words.specs.Text.{Word, split_words}
use Rattle.job_text.specs.declared.job.Counts.{Counts}
use Rattle.job_text.specs.declared.job.Register.{Register}
use Rattle.job_text.specs.Grammar.{Says, register_made, registers_after, target_of}
use Rattle.job_text.specs.Places.{is_called, kind_at}
use Rattle.job_text.proofs.Effects.{IsTarget, Leaves, leaves, stays}
use Rattle.job_text.proofs.registers.Registers.after.Goals as goal

-- what these words leave, by what they say
left : (rs : List Register) (words : List Word) (act own : Act) → act ≡ own → (says : (n : Counts) × Says n rs words act) → Leaves says.0 rs words own
left rs words act own is says = subst (Leaves says.0 rs words) is (leaves says.0 rs words act says.1)

fresh : (n : Counts) (rs : List Register) (words : List Word) (r word : Word) → IsTarget n rs words r → word ≡ target_of words → list_any (is_called word) rs ≡ false
fresh n rs words r word target is = ap (λ (w : Word). list_any (is_called w) rs) (is ∙ target.0) ∙ target.1

one_more : (n : Counts) (rs : List Register) (words : List Word) (r word : Word) (k kind : Kind) → registers_after rs words ≡ rs ++ register_made r k ∷ [] → IsTarget n rs words r → word ≡ target_of words → kind ≡ k
    → rs ++ register_made word kind ∷ [] ≡ registers_after rs words
one_more n rs words r word k kind after target is same = ap₂ (λ (w : Word) (j : Kind). rs ++ register_made w j ∷ []) (is ∙ target.0) same ∙ sym after

pub with_made-requires : goal.with_made-requires
with_made-requires c =
    let leave = left c.args.self (split_words c.args.words.now) c.args.act.now _ c.in-Makes.is c.requires in
    fresh c.requires.0 c.args.self (split_words c.args.words.now) leave.0 c.first_of.result.now leave.2 c.first_of.ensures

pub with_handed-requires : goal.with_handed-requires
with_handed-requires c =
    let leave = left c.args.self (split_words c.args.words.now) c.args.act.now _ c.in-Copy.is c.requires in
    fresh c.requires.0 c.args.self (split_words c.args.words.now) leave.0 c.first_of-in-Copy.result.now leave.2 c.first_of-in-Copy.ensures

pub with_handed-requires-in-Fetch : goal.with_handed-requires-in-Fetch
with_handed-requires-in-Fetch c =
    let leave = left c.args.self (split_words c.args.words.now) c.args.act.now _ c.in-Fetch.is c.requires in
    fresh c.requires.0 c.args.self (split_words c.args.words.now) leave.0 c.first_of-in-Fetch.result.now leave.2 c.first_of-in-Fetch.ensures

pub without-requires : goal.without-requires
without-requires c =
    let leave = left c.args.self (split_words c.args.words.now) c.args.act.now _ c.in-Drop.is c.requires in
    (leave.0, leave.1, leave.2)

pub returns-in-Makes-clause-ok : goal.returns-in-Makes-clause-ok
returns-in-Makes-clause-ok c =
    let leave = left c.args.self (split_words c.args.words.now) c.args.act.now _ c.in-Makes.is c.requires in
    subst (λ (rs : List Register). IfOk c.with_made.result (λ after. after ≡ rs)) (one_more c.requires.0 c.args.self (split_words c.args.words.now) leave.0 c.first_of.result.now _ c.kind_made.result leave.1 leave.2 c.first_of.ensures c.kind_made.ensures) c.with_made.ensures.ok

pub returns-in-Copy-clause-ok : goal.returns-in-Copy-clause-ok
returns-in-Copy-clause-ok c =
    let leave = left c.args.self (split_words c.args.words.now) c.args.act.now _ c.in-Copy.is c.requires in
    subst (λ (rs : List Register). IfOk c.with_handed.result (λ after. after ≡ rs)) (one_more c.requires.0 c.args.self (split_words c.args.words.now) leave.0 c.first_of-in-Copy.result.now (kind_at c.args.self c.in-Copy.a) _ leave.1 leave.2 c.first_of-in-Copy.ensures refl) c.with_handed.ensures.ok

pub returns-in-Fetch-clause-ok : goal.returns-in-Fetch-clause-ok
returns-in-Fetch-clause-ok c =
    let leave = left c.args.self (split_words c.args.words.now) c.args.act.now _ c.in-Fetch.is c.requires in
    subst (λ (rs : List Register). IfOk c.with_handed-in-Fetch.result (λ after. after ≡ rs)) (one_more c.requires.0 c.args.self (split_words c.args.words.now) leave.0 c.first_of-in-Fetch.result.now _ _ leave.1 leave.2 c.first_of-in-Fetch.ensures refl) c.with_handed-in-Fetch.ensures.ok

pub returns-in-Drop-clause-ok : goal.returns-in-Drop-clause-ok
returns-in-Drop-clause-ok c =
    let leave = left c.args.self (split_words c.args.words.now) c.args.act.now _ c.in-Drop.is c.requires in
    c.without.ensures leave.0 leave.1 leave.2 ∙ sym leave.3

pub returns-in_default : goal.returns-in_default
returns-in_default c = record {
  ok = sym (stays c.requires.0 c.args.self (split_words c.args.words.now) c.args.act.now c.in_default.not-Makes c.in_default.not-Copy c.in_default.not-Fetch c.in_default.not-Drop (leaves c.requires.0 c.args.self (split_words c.args.words.now) c.args.act.now c.requires.1));
  stop = tt;
}
