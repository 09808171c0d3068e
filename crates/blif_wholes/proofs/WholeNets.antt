-- What comes of a whole whose covers were arranged: the first one on a cycle, or an order in which its network is built.
use Rattle.std.proofs.Common.{◌≡◌, ℕ, suc, ◌<◌, not, Bool, true, false, cond, List, [], ◌∷◌, length, get_or, Option, Some, None, refl, ap, sym, ◌∙◌, subst, arith}
use Rattle.std.specs.Prelude.{find, option_map, slice_get}
use Rattle.std.specs.Global.{Vec}
use Rattle.std.specs.List.{All}
use Rattle.std.proofs.lemmas.Option.{slice_get_within, slice_get-get_or}
use Rattle.cover_nets.specs.declared.net.Net.{Net}
use Rattle.blif_models.specs.Circuits.{Circuit, Cover, is_settled}
use Rattle.blif_models.specs.Models.{Model}
use Rattle.blif_order.specs.declared.Arranged.TheVariants.{Ordering, Cyclic}
use Rattle.blif_order.specs.Orders.{Once, is_in, is_led}
use Rattle.blif_order.proofs.Ends.{led_in_all, led_more}
use Rattle.blif_wholes.specs.declared.bodies.CoverRows.{CoverRows}
use Rattle.blif_wholes.specs.declared.building.Built.TheVariants as built
use Rattle.blif_wholes.specs.declared.drafting.WholeDraft.{WholeDraft}
use Rattle.blif_wholes.specs.declared.parting.WholeCover.{WholeCover}
use Rattle.blif_wholes.specs.Arranged.{IsArranged}
use Rattle.blif_wholes.specs.Bodies.{KeepRows}
use Rattle.blif_wholes.specs.Built.{BuiltIs, IsSound, first_cyclic}
use Rattle.blif_wholes.specs.Drafting.{IsWholeDraft}
use Rattle.blif_wholes.specs.Names.{words_in}
use Rattle.blif_wholes.specs.Placing.{IsBuilt}
use Rattle.blif_wholes.proofs.Alone.{alone}
use Rattle.blif_wholes.proofs.CoverReads.{as_many_covers, cover_by}
use Rattle.blif_wholes.proofs.Cycles.{first_cyclic as first_on_cycle, led_settles}
use Rattle.blif_wholes.proofs.NetBuilding.{built_net}
use Rattle.blif_wholes.proofs.Placing.{got_in}

-- the cover that was found is the first of a cycle
pub root_within : (models : List Model) (circuit : Circuit) (draft : WholeDraft) (root : ℕ) → IsWholeDraft models circuit draft → IsArranged circuit (Cyclic root) → root < length draft.covers.items
root_within models circuit draft root h (reads, r, a) = omega (arith, a.0, r.as_many, as_many_covers models (words_in draft.names) circuit.covers draft.covers.items h.covers)

draft_line : (models : List Model) (circuit : Circuit) (draft : WholeDraft) (root : ℕ) (cover : Cover) (one : WholeCover) → IsWholeDraft models circuit draft → slice_get circuit.covers root ≡ Some cover
    → root < length draft.covers.items
    → one ≡ get_or draft.covers.items root one → one.cover.line ≡ cover.line
draft_line models circuit draft root cover one h at lt e =
    let found = cover_by models (words_in draft.names) circuit.covers draft.covers.items root cover h.covers at in
    let both : Some one ≡ Some found.0 = ap Some e ∙ sym (slice_get-get_or draft.covers.items root one lt) ∙ found.1 in
    let same : one ≡ found.0 = cc in
    ap (λ (t : WholeCover). t.cover.line) same ∙ (found.2).line

pub cycle_told : (models : List Model) (circuit : Circuit) (draft : WholeDraft) (root : ℕ) (one : WholeCover) → IsWholeDraft models circuit draft → IsSound circuit → IsArranged circuit (Cyclic root)
    → one ≡ get_or draft.covers.items root one → BuiltIs circuit (built.Cyclic one.cover.line)
cycle_told models circuit draft root one h sound (reads, r, a) e =
    let blank : Cover = record { line = 0; ins = []; name = []; rows = [] } in
    let cover = get_or circuit.covers root blank in
    let at : slice_get circuit.covers root ≡ Some cover = slice_get-get_or circuit.covers root blank (omega (arith, a.0, r.as_many)) in
    let found : first_cyclic circuit ≡ Some cover =
    first_on_cycle circuit reads root cover r (alone circuit sound) at a.1 (λ i lt. led_more reads (length circuit.covers) i (subst (λ (n : ℕ). is_led reads n i ≡ true) r.as_many (a.2 i lt))) in
    ap (option_map (λ (t : Cover). t.line)) found ∙ ap Some (sym (draft_line models circuit draft root cover one h at (root_within models circuit draft root h (reads, r, a)) e))

-- where the covers stand in an order there is none
find_none : (p : Cover → Bool) (covers : List Cover) → ((i : ℕ) (cover : Cover) → slice_get covers i ≡ Some cover → p cover ≡ false) → find p covers ≡ None
find_none p [] h = refl
find_none p (x ∷ covers) h = ap (λ b. cond b (Some x) (find p covers)) (h 0 x refl) ∙ find_none p covers (λ i cover e. h (suc i) cover e)

pub no_cycle : (circuit : Circuit) (order : Vec ℕ) → IsArranged circuit (Ordering order) → first_cyclic circuit ≡ None
no_cycle circuit order (reads, r, a) =
    find_none (λ (one : Cover). not (is_settled circuit one)) circuit.covers
    (λ i cover at.
    let led : is_led reads (length reads) i ≡ true = led_in_all reads order.items a.0 a.1 a.3 i (a.2 i (omega (arith, slice_get_within circuit.covers i cover at, r.as_many))) in
    ap not (led_settles circuit reads r (length circuit.covers) i cover at (led_more reads (length circuit.covers) i (subst (λ (n : ℕ). is_led reads n i ≡ true) r.as_many led))))

pub net_told : (models : List Model) (kept : List (Vec (Option CoverRows))) (circuit : Circuit) (draft : WholeDraft) (order : Vec ℕ) (net : Net) → IsWholeDraft models circuit draft → IsSound circuit → KeepRows models kept
    → IsArranged circuit (Ordering order) → IsBuilt kept draft order.items net → BuiltIs circuit (built.Network net)
net_told models kept circuit draft order net h sound rows a b =
    (no_cycle circuit order a, built_net models kept circuit draft order.items net a.0 h sound rows a.1 a.2.0 a.2.1 a.2.2 a.2.3 b)

-- what an order holds
pub order_within : (models : List Model) (circuit : Circuit) (draft : WholeDraft) (order : Vec ℕ) → IsWholeDraft models circuit draft → IsArranged circuit (Ordering order) → (c : ℕ) → is_in order.items c ≡ true
    → c < length draft.covers.items
order_within models circuit draft order h (reads, r, a) c e = omega (arith, a.3 c e, r.as_many, as_many_covers models (words_in draft.names) circuit.covers draft.covers.items h.covers)

pub order_once : (circuit : Circuit) (order : Vec ℕ) → IsArranged circuit (Ordering order) → Once order.items
order_once circuit order (reads, r, a) = a.1

pub all_in : (xs : List ℕ) (n : ℕ) → ((c : ℕ) → is_in xs c ≡ true → c < n) → All (λ c. c < n) xs
all_in xs n h = λ k d lt. h (get_or xs k d) (got_in xs k (get_or xs k d) (slice_get-get_or xs k d lt))
