-- `dd_call` meets its contract: what lies at the pointer is lent to the call for a lifetime that is made for it, and comes back once that is over.
use Rattle.std.proofs.Common.{ℕ, List, [], ◌∷◌, ◌++◌, refl}
use Rattle.std.proofs.raw_atomic.Walks.{proved, leaves}
use seplogic.Ra.Ura.{Ura}
use base.Fraction.{full_share}
use base.Logic.{SProp, ent, sep, ex, id⊢}
use base.Fml.{Lft, GName, ftrue, flft, fres, flent, fdead}
use mir.Syntax.{named}
use mir.Val.{Val, vptr}
use prog.Wp.{WpFn}
use types.Logic.{Logic, sem}
use types.SemTy.{Body}
use contract.Monad.{fact}
use contract.Running.{tables}
use types.Kit.{‵, raw, ◌⊛◌, some, later, prop, ◌$◌, ◌∵◌, !, qed, by, move, keep, drop, use1, use2, use3, split, join, fsplit, fjoin, pick, await, regoal, show, done}
use types.Tokens.{lft_new, lft_end}
use types.Run.{of_opd, addr, stop, no_more, and_then, returns, enter}
use types.ByLocal.{alloc_all, pass_all, free_all, look_at, get, through, sets, lands_as}
use denote.Exit.{yes}
use denote.RattleType.{owns}
use denote.Laws.{Is, shows}
use denote.Memory.{part_at, part_of, mem}
use denote.Lend.{lends_ref, ref_back}
use denote.RawPtr.{Ptr, RawPtr, block_ptr, lies_at, in_a_block, rawptr_vals, rawptr_Tells}
use denote.Ref.{MutRef}
use denote.Signature.{plain}
use denote.Steps.{nothing, heard, peeks}
use denote.Struct.Laws as laws
use denote.Struct.Loose.{loose_lawful}
use denote.Triple.Call.{calls_at}
use denote.Triple.Clauses.{lasts}
use denote.Triple.Spec.{triple_of}
use denote.Triple.Table.{framed}
use denote.Triple.Walked.{says, Stays, stay_dropped, Goes-dropped, walk_of}
use Rattle.dd_manager.specs.Served.{IsServed}
use Rattle.dd_manager.specs.declared.serving.Manager.{Manager}
use Rattle.dd_manager.specs.declared.requests.Request.{Request}
use Rattle.dd_manager.specs.declared.requests.Answer.{Answer}
use Rattle.dd_manager.specs.contracts.serving.Manager.{the_row as R}
use Rattle.dd_manager.specs.contracts.requests.Request as Req
use Rattle.dd_manager.specs.contracts.requests.Answer as Ans
use Rattle.dd_manager.proofs.requests.Request.TheLaws as req
use Rattle.dd_manager.proofs.requests.Answer.TheLaws as ans
use Rattle.dd_manager.specs.contracts.serving.serve as g
use Rattle.dd_manager.proofs.serving.serve.Met.{met}
use Rattle.dd.specs.contracts.dd_call as f
use Rattle.dd.proofs.dd_call.Statement.{statement}
use Rattle.dd.proofs.dd_call.Code as code

abbrev stayed : Stays f.ended.signature.params f.ended.kept
stayed = (stay_dropped _ yes, (stay_dropped _ yes, tt))

abbrev vals : Request → List Val
vals = laws.vals Req.the_type req.the_laws

module _ {M : Type 1} {𝓤 : Ura M} (𝓛 : Logic 𝓤) where
  abbrev Lent : ℕ → ℕ → Lft → Manager → GName → SProp 𝓤
  Lent b o κ x γ = sep 𝓤 (sem 𝓛 ((MutRef (named 0) κ R).own_val (record { ref_ptr = (b, o); ghost_name = γ; now = x }) (vptr b o ∷ []))) (sem 𝓛 (flent κ (Body (mem R) b o γ)))

  lends : (κ : Lft) (x : Manager) (b o : ℕ) → ent 𝓤 (sem 𝓛 (part_at R full_share x b o)) (𝓛.H.⇛ (ex 𝓤 (Lent b o κ x)))
  unfolding part_of
  lends κ x b o = lends_ref 𝓛 R (named 0) κ x b o

  back : (κ : Lft) (γ : GName) (x : Manager) (b o : ℕ) → ent 𝓤 (sep 𝓤 (sem 𝓛 (fdead κ)) (sep 𝓤 (sem 𝓛 (flent κ (Body (mem R) b o γ))) (sem 𝓛 (fres γ (R.coded.code x))))) (𝓛.H.⇛ (sem 𝓛 (part_at R full_share x b o)))
  unfolding part_of
  back κ γ x b o = ref_back 𝓛 R κ γ x b o

  abbrev Then : Ptr → Manager → Request → Answer → Manager → SProp 𝓤
  Then p was request r now = sep 𝓤 (sem 𝓛 (lies_at R full_share p now)) (fact 𝓤 (IsServed was request now r))

  there : (b o : ℕ) (was : Manager) (request : Request) (r : Answer) (now : Manager) → IsServed was request now r
      → ent 𝓤 (sem 𝓛 (part_at R full_share now b o)) (ex 𝓤 (Then (block_ptr b o) was request r))
  there b o was request r now e = qed 𝓛 (‵ (part_at R full_share now b o) ∷ []) ∵ show ! (Then (block_ptr b o) was request r) now $ says ! e $ done !

pub dd_call_spec : {M : Type 1} → statement M
dd_call_spec 𝓤 𝓛 𝓜 𝓡 wired =
    let c = f.clauses 𝓛 𝓜.mem 𝓡.returns in let W = walk_of 𝓛 f.ended stayed c in let 𝓣 = tables 𝓤 𝓛.H 𝓜 𝓡 𝓡.env in
    proved 𝓛 f.ended stayed c 𝓜 𝓡 (Goes-dropped 𝓛 0 (plain (λ _. RawPtr)) yes (λ κs x w. refl), (Goes-dropped 𝓛 0 (plain (λ _. Req.the_row)) yes (λ κs x w. refl), tt))
    f.Key.name code.function (code.unfolded 𝓤 𝓛.H 𝓜 𝓡 wired)
    (λ κs. (rawptr_vals, (vals, tt))) (λ κs. (rawptr_Tells, (laws.tells Req.the_type req.the_laws, tt))) (λ κs qs bounds a was are.
    let x = a.1.0 in let typed = ((loose_lawful Req.the_type req.the_loose 𝓛).typed x _ are.1.0).0 in
    let y : Ptr → W.Ghost = λ p. ((κs, qs, bounds, (p, (x, tt)), (rawptr_vals p, (vals x, tt))), was) in
    qed 𝓛 ((‵ ftrue ⊛ ‵ (owns (RawPtr ∷ Req.the_row ∷ []) a (y a.0).0.4)) ∷ ‵ (lies_at R full_share a.0 was) ∷ []) ∵
    split ! $ drop ! $ fsplit ! $ drop ! $ fsplit ! $ move ! (1 ∷ []) $ drop ! $ move ! (1 ∷ []) $
    in_a_block ! a.0 (λ p. lies_at R full_share p was) (id⊢ 𝓤 _) (λ b o e.
    regoal ! (λ p. prop (WpFn 𝓤 𝓛.H 𝓣.C 𝓣.Λ code.function (rawptr_vals p ++ vals x) (W.post (y p)))) e refl $
    enter ! _ _ _ _ _ $ alloc_all ! (λ l. pass_all ! refl ((tt, tt), (typed, tt)) $
    -- [the manager; the request; the locals]
    sets ! (of_opd ! (get ! refl)) refl (tt, tt) $
    sets ! (addr ! (through ! refl (stop !))) refl (tt, tt) $
    lft_new ! tt (λ α. let κ : Lft = α ∷ [] in move ! (1 ∷ []) $
    use1 𝓛 (later (some (λ (γ : GName). ‵ ((MutRef (named 0) κ R).own_val (record { ref_ptr = (b, o); ghost_name = γ; now = was }) (vptr b o ∷ [])) ⊛ ‵ (flent κ (Body (mem R) b o γ))))) (lends 𝓛 κ was b o) $ await ! tt $ pick ! (λ γ. split ! $
    -- [the loan; what the lender keeps; the token; the request; the locals]
    let G = triple_of 𝓛 g.signature (g.spec 𝓛 𝓜.mem 𝓡.returns) in
    let z : G.Ghost = (((κ, tt), (full_share, tt), tt, (record { ref_ptr = (b, o); ghost_name = γ; now = was }, (x, tt)), (vptr b o ∷ [], (vals x, tt))), tt) in
    nothing ! $ move ! (4 ∷ 0 ∷ []) $ fjoin ! $ move ! (1 ∷ 0 ∷ []) $ fjoin ! $ nothing ! $ move ! (3 ∷ 0 ∷ []) $ join ! $ join ! $
    nothing ! $ move ! (1 ∷ 0 ∷ []) $ use2 𝓛 (raw (G.pre z)) (id⊢ 𝓤 _) $
    calls_at ! (framed 𝓤 𝓛.H 𝓜 𝓣) G (met 𝓤 𝓛 𝓜 𝓡 (code.calls-dd_manager::serving::serve 𝓡.env wired)) z
    (and_then ! (get ! refl) (and_then ! (get ! refl) (no_more !))) (λ v.
    use1 𝓛 (later (some (λ (r : Answer). ((‵ (flft κ full_share) ⊛ ‵ ftrue) ⊛ ‵ (Ans.the_row.own_val r (v ∷ []))) ⊛
    some (λ (ws : Manager × (Unit {0} × Unit {0})). ‵ (lasts g.ended z.0.0 z.0.3 ws) ⊛ raw (fact 𝓤 (IsServed was x ws.0 r)))))) (id⊢ 𝓤 _) $
    await ! tt $ pick ! (λ r. split ! $ split ! $ split ! $ lft_end ! tt $ move ! (2 ∷ []) $
    -- [the answer; the lifetime is over; nothing; what the call says; what the lender keeps]
    peeks ! Ans.the_row (Is Ans.the_row) (shows 𝓛 Ans.the_row) r (v ∷ []) (λ is.
    lands_as ! refl refl ((loose_lawful Ans.the_type ans.the_loose 𝓛).typed r _ is).0 $
    move ! (3 ∷ []) $ pick ! (λ ws. split ! $ move ! (1 ∷ []) $ heard ! _ (λ served. fsplit ! $ fsplit ! $
    -- [its last value; its borrow; nothing; the answer; the lifetime is over; nothing; what the lender keeps]
    move ! (4 ∷ 6 ∷ 0 ∷ []) $ use3 𝓛 (later (‵ (part_at R full_share ws.0 b o))) (back 𝓛 κ γ ws.0 b o) $ await ! tt $
    returns ! (look_at ! 0 refl) $ free_all ! refl $ keep ! (0 ∷ 3 ∷ []) $
    use1 𝓛 (raw (ex 𝓤 (Then 𝓛 (block_ptr b o) was x r))) (there 𝓛 b o was x r ws.0 served) $ move ! (1 ∷ []) $
    nothing ! $ nothing ! $ fjoin ! $ nothing ! $ fjoin ! $ nothing ! $
    by ! (leaves 𝓛 f.ended stayed c (y (block_ptr b o)) v r (tt, (tt, tt)) (tt, (tt, tt)))))))))))))
