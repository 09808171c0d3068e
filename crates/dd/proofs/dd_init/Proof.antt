-- `dd_init` meets its contract: what `fresh` makes is written where there is room for it, and is as it says.
use Rattle.std.proofs.Common.{ℕ, [], ◌∷◌, ◌++◌, refl, w32}
use Rattle.std.proofs.raw_atomic.Walks.{proved, leaves}
use seplogic.Ra.Ura.{Ura}
use base.Fraction.{full_share}
use base.Logic.{SProp, ent, sep, ex, id⊢, never}
use base.Fml.{ftrue, fat}
use borrow.Table.OneValue.{part_in}
use mir.Val.{Val, vint, vunit}
use prog.Wp.{WpFn}
use types.Logic.{Logic, sem}
use contract.Monad.{fact}
use contract.Running.{tables}
use types.Kit.{‵, raw, ◌⊛◌, some, later, prop, ◌$◌, ◌∵◌, !, qed, by, move, keep, drop, use1, use2, split, join, fsplit, fjoin, feq_i, pick, await, regoal, show, done}
use types.Run.{of_opd, unit_lit, stop, init, assigns, no_more, and_then, returns, enter}
use types.ByLocal.{alloc_all, pass_all, free_all, look_at, get, through, sets, lands_as}
use denote.Builtin.{u32}
use denote.Exit.{yes}
use denote.RattleType.{owns}
use denote.Laws.{Is, shows}
use denote.Memory.{part_at, lone}
use denote.Plain.{uint_vals, uint_Tells}
use denote.RawPtr.{Ptr, RawPtr, block_ptr, lies_at, room_at, in_a_block, rawptr_vals, rawptr_Tells}
use denote.Signature.{plain}
use denote.Steps.{nothing, heard, peeks}
use denote.Struct.Laws as laws
use denote.Struct.Loose.{loose_lawful}
use denote.Triple.Call.{calls_at}
use denote.Triple.Clauses.{lasts}
use denote.Triple.Spec.{triple_of}
use denote.Triple.Table.{framed}
use denote.Triple.Walked.{says, Stays, stay_dropped, Goes-dropped, walk_of}
use Rattle.std.specs.contracts.alloc.Global as heap
use Rattle.std.proofs.alloc.Global.TheLaws as heap_laws
use Rattle.dd_manager.specs.Served.{IsFresh}
use Rattle.dd_manager.specs.declared.serving.Manager.{Manager}
use Rattle.dd_manager.specs.contracts.serving.Manager.{the_row as R, the_type as R-type}
use Rattle.dd_manager.proofs.serving.Manager.TheLaws as manager
use Rattle.dd_manager.specs.contracts.serving.fresh as g
use Rattle.dd_manager.proofs.serving.fresh.Met.{met}
use Rattle.dd.specs.contracts.dd_init as f
use Rattle.dd.proofs.dd_init.Statement.{statement}
use Rattle.dd.proofs.dd_init.Code as code

abbrev stayed : Stays f.ended.signature.params f.ended.kept
stayed = (stay_dropped _ yes, (stay_dropped _ yes, (stay_dropped _ yes, (stay_dropped _ yes, (stay_dropped _ yes, (stay_dropped _ yes, (stay_dropped _ yes, tt)))))))

module _ {M : Type 1} {𝓤 : Ura M} (𝓛 : Logic 𝓤) where
  abbrev Then : Ptr → (number vars elements limit remembered : ℕ) → Manager → SProp 𝓤
  Then p number vars elements limit remembered now = sep 𝓤 (sem 𝓛 (lies_at R full_share p now)) (fact 𝓤 (IsFresh number vars elements limit remembered now))

  there : (b o : ℕ) (now : Manager) (v : Val) (number vars elements limit remembered : ℕ) → IsFresh number vars elements limit remembered now
      → ent 𝓤 (sep 𝓤 (sem 𝓛 (fat full_share (lone R.mir) b o v)) (sem 𝓛 (R.own_val now (v ∷ [])))) (ex 𝓤 (Then (block_ptr b o) number vars elements limit remembered))
  there b o now v number vars elements limit remembered e =
      qed 𝓛 (‵ (fat full_share (lone R.mir) b o v) ∷ ‵ (R.own_val now (v ∷ [])) ∷ []) ∵
      use2 𝓛 (‵ (part_at R full_share now b o)) (part_in 𝓛 R refl full_share now b o v) $ show ! (Then (block_ptr b o) number vars elements limit remembered) now $ says ! e $ done !

pub dd_init_spec : {M : Type 1} → statement M
dd_init_spec 𝓤 𝓛 𝓜 𝓡 wired =
    let c = f.clauses 𝓛 𝓜.mem 𝓡.returns in let W = walk_of 𝓛 f.ended stayed c in let 𝓣 = tables 𝓤 𝓛.H 𝓜 𝓡 𝓡.env in
    let goes = Goes-dropped 𝓛 0 (plain (λ _. u32)) yes (λ κs x w. refl) in
    proved 𝓛 f.ended stayed c 𝓜 𝓡 (Goes-dropped 𝓛 0 (plain (λ _. heap.the_row)) yes (λ κs x w. refl), (Goes-dropped 𝓛 0 (plain (λ _. RawPtr)) yes (λ κs x w. refl), (goes, (goes, (goes, (goes, (goes, tt)))))))
    f.Key.name code.function (code.unfolded 𝓤 𝓛.H 𝓜 𝓡 wired)
    (λ κs. (laws.vals heap.the_type heap_laws.the_laws, (rawptr_vals, (uint_vals w32, (uint_vals w32, (uint_vals w32, (uint_vals w32, (uint_vals w32, tt))))))))
    (λ κs. (laws.tells heap.the_type heap_laws.the_laws, (rawptr_Tells, (uint_Tells w32, (uint_Tells w32, (uint_Tells w32, (uint_Tells w32, (uint_Tells w32, tt)))))))) (λ κs qs bounds a _ are.
    let h = a.0 in let m = a.1.0 in let x1 = a.1.1.0 in let x2 = a.1.1.1.0 in let x3 = a.1.1.1.1.0 in let x4 = a.1.1.1.1.1.0 in let x5 = a.1.1.1.1.1.1.0 in
    let hv = laws.vals heap.the_type heap_laws.the_laws in
    let typed = ((loose_lawful heap.the_type heap_laws.the_loose 𝓛).typed h _ are.0).0 in
    let t1 = are.1.1.0.1 in let t2 = are.1.1.1.0.1 in let t3 = are.1.1.1.1.0.1 in let t4 = are.1.1.1.1.1.0.1 in let t5 = are.1.1.1.1.1.1.0.1 in
    let y : Ptr → W.Ghost = λ p. ((κs, qs, bounds, (h, (p, (x1, (x2, (x3, (x4, (x5, tt))))))), (hv h, (rawptr_vals p, (uint_vals w32 x1, (uint_vals w32 x2, (uint_vals w32 x3, (uint_vals w32 x4, (uint_vals w32 x5, tt)))))))), tt) in
    qed 𝓛 ((‵ ftrue ⊛ ‵ (owns (heap.the_row ∷ RawPtr ∷ u32 ∷ u32 ∷ u32 ∷ u32 ∷ u32 ∷ []) a (y m).0.4)) ∷ ‵ (room_at R m) ∷ []) ∵
    split ! $ drop ! $ fsplit ! $ move ! (1 ∷ []) $ fsplit ! $ drop ! $ move ! (1 ∷ 0 ∷ []) $ fjoin ! $ move ! (1 ∷ []) $
    in_a_block ! m (λ p. room_at R p) (id⊢ 𝓤 (never 𝓤)) (λ b o e.
    regoal ! (λ p. prop (WpFn 𝓤 𝓛.H 𝓣.C 𝓣.Λ code.function (hv h ++ (rawptr_vals p ++ (vint w32 x1 ∷ vint w32 x2 ∷ vint w32 x3 ∷ vint w32 x4 ∷ vint w32 x5 ∷ []))) (W.post (y p)))) e refl $
    -- [the room; what the parameters own]
    enter ! _ _ _ _ _ $ alloc_all ! (λ l. pass_all ! refl (typed, ((tt, tt), ((tt, record { fits = t1 }), ((tt, record { fits = t2 }), ((tt, record { fits = t3 }), ((tt, record { fits = t4 }), ((tt, record { fits = t5 }), tt))))))) $
    sets ! (of_opd ! (get ! refl)) refl (tt, tt) $
    let G = triple_of 𝓛 g.signature (g.spec 𝓛 𝓜.mem 𝓡.returns) in
    let z : G.Ghost = ((tt, tt, tt, (h, (x1, (x2, (x3, (x4, (x5, tt)))))), (hv h, (uint_vals w32 x1, (uint_vals w32 x2, (uint_vals w32 x3, (uint_vals w32 x4, (uint_vals w32 x5, tt))))))), tt) in
    move ! (1 ∷ []) $ nothing ! $ join ! $ nothing ! $ move ! (1 ∷ 0 ∷ []) $ use2 𝓛 (raw (G.pre z)) (id⊢ 𝓤 _) $
    calls_at ! (framed 𝓤 𝓛.H 𝓜 𝓣) G (met 𝓤 𝓛 𝓜 𝓡 (code.calls-dd_manager::serving::fresh 𝓡.env wired)) z
    (and_then ! (get ! refl) (and_then ! (get ! refl) (and_then ! (get ! refl) (and_then ! (get ! refl) (and_then ! (get ! refl) (and_then ! (get ! refl) (no_more !))))))) (λ v.
    use1 𝓛 (later (some (λ (r : Manager). (‵ ftrue ⊛ ‵ (R.own_val r (v ∷ []))) ⊛
    some (λ (ws : Unit {0} × (Unit {0} × (Unit {0} × (Unit {0} × (Unit {0} × (Unit {0} × Unit {0})))))). ‵ (lasts g.ended z.0.0 z.0.3 ws) ⊛ raw (fact 𝓤 (IsFresh x1 x2 x3 x4 x5 r)))))) (id⊢ 𝓤 _) $
    await ! tt $ pick ! (λ r. split ! $ move ! (1 ∷ []) $ pick ! (λ ws. split ! $ move ! (1 ∷ []) $ heard ! _ (λ fresh. drop ! $ split ! $ drop ! $
    -- [what the manager owns; the room]
    peeks ! R (Is R) (shows 𝓛 R) r (v ∷ []) (λ is.
    let ok = ((loose_lawful R-type manager.the_loose 𝓛).typed r _ is).0 in
    lands_as ! refl refl ok $ move ! (1 ∷ []) $
    assigns ! (of_opd ! (get ! refl)) (through ! refl (stop !)) (init ! 0 refl ok) $
    sets ! (of_opd ! (unit_lit !)) refl (tt, tt) $
    returns ! (look_at ! 0 refl) $ free_all ! refl $ keep ! (0 ∷ 1 ∷ []) $
    use2 𝓛 (raw (ex 𝓤 (Then 𝓛 (block_ptr b o) x1 x2 x3 x4 x5))) (there 𝓛 b o r v x1 x2 x3 x4 x5 fresh) $
    feq_i ! _ (vunit ∷ []) _ refl $
    nothing ! $ nothing ! $ fjoin ! $ nothing ! $ fjoin ! $ nothing ! $ fjoin ! $ nothing ! $ fjoin ! $ nothing ! $ fjoin ! $ nothing ! $ fjoin ! $ nothing ! $ fjoin ! $ nothing ! $
    by ! (leaves 𝓛 f.ended stayed c (y (block_ptr b o)) vunit tt (tt, (tt, (tt, (tt, (tt, (tt, (tt, tt))))))) (tt, (tt, (tt, (tt, (tt, (tt, (tt, tt))))))))))))))))
