-- Scripts of one session, computed: what the plain table replies to each call. Names are the calls' own numbers.
use Rattle.std.specs.Prelude.{◌≡◌, ℕ, ◌^◌, suc, ◌==◌, Bool, true, false, not, ◌&&◌, if◌then◌else◌, ℤ, pos, negsuc, map, List, [], ◌∷◌, Option, Some, None, refl}
use Rattle.edge_bits.specs.Assignments.{bit, set_bit}
use Rattle.function_laws.specs.declared.history.Name.{Name}
use Rattle.function_laws.specs.declared.history.Function.{Function}
use Rattle.function_laws.specs.declared.history.Function.TheVariants.{Bdd, Add, Zdd}
use Rattle.function_laws.specs.declared.history.Sifting.{Sifting}
use Rattle.function_laws.specs.declared.history.Call.{Call}
use Rattle.function_laws.specs.declared.history.Call.TheVariants.{Makes, Same, Leq, Eval, Sweep, Swap, SwapElements, Sift, AddVar, AddElement}
use Rattle.function_laws.specs.declared.making.Making.TheVariants as makings
use Rattle.function_laws.specs.declared.making.BddMaking.TheVariants as bdds
use Rattle.function_laws.specs.declared.making.AddMaking.TheVariants as adds
use Rattle.function_laws.specs.declared.making.ExactMaking.TheVariants as exacts
use Rattle.function_laws.specs.declared.making.ZddMaking.TheVariants as zdds
use Rattle.function_laws.specs.declared.history.Entry.{Entry}
use Rattle.function_laws.specs.declared.history.Reply.{Reply}
use Rattle.function_laws.specs.declared.history.Reply.TheVariants.{Made, Chose, Fetched, Numbered, Done, Truth, Value, Overflow, Apart, Most, Full}
use Rattle.function_laws.specs.Lists.{any_below, all_below, list_of}
use Rattle.function_laws.specs.Values.{constant, exists_all, forall_all, set_each, differs}
use Rattle.function_laws.specs.Tables.{Table, Sizes, opening}
use Rattle.function_laws.specs.Outcomes.{Outcome, makes, restricts, covers, fetches, counts, overflows, is_apart, is_most, compares, tells, shows, is_done}
use Rattle.function_laws.specs.Steps.{outcome, after}
use Rattle.function_laws.specs.IrredundantCovers.{cover_value}
use Rattle.function_laws.specs.MorrealeCalls.{interval, morreale}
use Rattle.function_laws.specs.EntryOrders.{opening_orders, orders_from}

-- the name of call i
abbrev n : ℕ → Name
n i = record { row = i; generation = 0 }

abbrev same_truths : List Bool → List Bool → Bool
same_truths [] [] = true
same_truths (a ∷ as') (b ∷ bs) = not (differs a b) && same_truths as' bs
same_truths _ _ = false

abbrev same_numbers : ℤ → ℤ → Bool
same_numbers (pos a) (pos b) = a == b
same_numbers (negsuc a) (negsuc b) = a == b
same_numbers _ _ = false

abbrev same_wholes : List ℤ → List ℤ → Bool
same_wholes [] [] = true
same_wholes (a ∷ as') (b ∷ bs) = same_numbers a b && same_wholes as' bs
same_wholes _ _ = false

abbrev same_functions : Function → Function → Bool
same_functions (Bdd f) (Bdd g) = same_truths f g
same_functions (Add f) (Add g) = same_wholes f g
same_functions (Zdd f) (Zdd g) = same_truths f g
same_functions _ _ = false

-- the reply that tells the outcome, with this new name
abbrev reply_for : Name → Option Outcome → Reply
reply_for r (Some (makes f)) = Made r
reply_for r (Some (restricts f c)) = Chose r (Bdd f)
reply_for r (Some (covers lower upper)) = Chose r (Zdd [])
reply_for r (Some (fetches f posted)) = Fetched r posted
reply_for r (Some (counts f m)) = Numbered r m
reply_for r (Some overflows) = Overflow
reply_for r (Some is_apart) = Apart
reply_for r (Some is_most) = Most
reply_for r (Some (compares f g)) = Truth (same_functions f g)
reply_for r (Some (tells b)) = Truth b
reply_for r (Some (shows z)) = Value z
reply_for r (Some is_done) = Done
reply_for r None = Full 0 0

-- a reply without its name
abbrev shown : Reply → Reply
shown (Made r) = Done
shown (Chose r g) = Done
shown (Numbered r m) = Value (pos m)
shown reply = reply

-- the replies to the calls, the name of the first of them being n i
abbrev play : ℕ → Table → List Call → List Reply
play i t [] = []
play i t (c ∷ cs) = let reply = reply_for (n i) (outcome t 0 c) in shown reply ∷ play (suc i) (after t 0 c reply) cs

abbrev sizes : ℕ → ℕ → Sizes
sizes v e = record { variables = v; elements = e; most_variables = 3; most_elements = 3; cells = 256 }

abbrev run : ℕ → ℕ → List Call → List Reply
run v e calls = play 0 (opening (sizes v e)) calls

abbrev sifting : Sifting
sifting = record { variables = []; elements = []; functions = []; order = [] }

abbrev same : Reply
same = Truth true

-- true and false with no variables
constants : run 0 0 ((Makes (makings.Bdd bdds.One)) ∷ (Makes (makings.Bdd bdds.Zero)) ∷ Same (n 0) (n 1) ∷ Eval (n 0) [] ∷ []) ≡ Done ∷ Done ∷ Truth false ∷ Value (pos 1) ∷ []
unfolding list_of
constants = refl

-- a sum and a difference out of range, and the operand afterwards
sum_overflows : run 1 0 (Makes (makings.Bdd (bdds.Var 0)) ∷ Makes (makings.Add (adds.Constant (pos 70368744177663))) ∷ Makes (makings.Add (adds.FromBdd (n 0))) ∷ Makes (makings.Exact (exacts.Plus (n 1) (n 2))) ∷ Eval (n 1) (false ∷ []) ∷ [])
    ≡ Done ∷ Done ∷ Done ∷ Overflow ∷ Value (pos 70368744177663) ∷ []
unfolding list_of set_bit
sum_overflows = refl

difference_overflows : run 1 0 (Makes (makings.Bdd (bdds.Var 0)) ∷ Makes (makings.Add (adds.FromBdd (n 0))) ∷ Makes (makings.Add (adds.Constant (negsuc 70368744177663))) ∷ Makes (makings.Exact (exacts.Minus (n 2) (n 1))) ∷ []) ≡ Done ∷ Done ∷ Done ∷ Overflow ∷ []
unfolding list_of
difference_overflows = refl

-- families: a quotient by the empty family among them
families : run 0 2 ((Makes (makings.Zdd zdds.Base)) ∷ Makes (makings.Zdd (zdds.Single 0)) ∷ Makes (makings.Zdd (zdds.Change (n 1) 1)) ∷ Makes (makings.Zdd (zdds.Change (n 0) 1)) ∷ Makes (makings.Zdd (zdds.Union (n 2) (n 3))) ∷ (Makes (makings.Zdd zdds.Empty)) ∷ Makes (makings.Zdd (zdds.Subset1 (n 4) 1)) ∷ Makes (makings.Zdd (zdds.Subset0 (n 4) 1)) ∷ Makes (makings.Zdd (zdds.Change (n 4) 1))
    ∷ Same (n 6) (n 8) ∷ Same (n 7) (n 5) ∷ Makes (makings.Zdd (zdds.Quotient (n 4) (n 5))) ∷ Same (n 11) (n 5) ∷ Makes (makings.Zdd (zdds.Quotient (n 4) (n 3))) ∷ Same (n 13) (n 6)
    ∷ Makes (makings.Zdd (zdds.Product (n 1) (n 2))) ∷ Same (n 15) (n 2) ∷ Makes (makings.Zdd (zdds.Meet (n 4) (n 2))) ∷ Same (n 17) (n 2) ∷ Makes (makings.Zdd (zdds.Diff (n 4) (n 2))) ∷ Same (n 19) (n 3)
    ∷ Eval (n 4) (true ∷ true ∷ []) ∷ Eval (n 4) (true ∷ false ∷ []) ∷ [])
    ≡ Done ∷ Done ∷ Done ∷ Done ∷ Done ∷ Done ∷ Done ∷ Done ∷ Done ∷ same ∷ same ∷ Done ∷ same ∷ Done ∷ same ∷ Done ∷ same ∷ Done ∷ same ∷ Done ∷ same
    ∷ Value (pos 1) ∷ Value (pos 0) ∷ []
unfolding list_of set_bit any_below all_below
families = refl

-- the operators on three variables, with a swap, a sift and a sweep between two evaluations
operators : run 3 0 (Makes (makings.Bdd (bdds.Var 0)) ∷ Makes (makings.Bdd (bdds.Var 1)) ∷ Makes (makings.Bdd (bdds.Var 2)) ∷ Makes (makings.Bdd (bdds.And (n 0) (n 1))) ∷ Makes (makings.Bdd (bdds.Exists (n 3) (0 ∷ []))) ∷ Same (n 4) (n 1) ∷ (Makes (makings.Bdd bdds.Zero)) ∷ Makes (makings.Bdd (bdds.Forall (n 3) (0 ∷ []))) ∷ Same (n 7) (n 6)
    ∷ Makes (makings.Bdd (bdds.AndExists (n 0) (n 1) (0 ∷ []))) ∷ Same (n 9) (n 1) ∷ Makes (makings.Bdd (bdds.Compose (n 3) 0 (n 2))) ∷ Makes (makings.Bdd (bdds.Support (n 3))) ∷ Same (n 12) (n 3)
    ∷ Makes (makings.Bdd (bdds.VectorCompose (n 3) ((0, n 1) ∷ (1, n 0) ∷ []))) ∷ Same (n 14) (n 3) ∷ Makes (makings.Bdd (bdds.Cofactor (n 3) 0 true)) ∷ Same (n 16) (n 1) ∷ Makes (makings.Bdd (bdds.Or (n 0) (n 1)))
    ∷ Leq (n 3) (n 18) ∷ Leq (n 18) (n 3) ∷ Swap 0 ∷ Eval (n 11) (false ∷ true ∷ true ∷ []) ∷ Sift sifting ∷ Sweep ∷ Eval (n 11) (false ∷ true ∷ true ∷ []) ∷ [])
    ≡ Done ∷ Done ∷ Done ∷ Done ∷ Done ∷ same ∷ Done ∷ Done ∷ same ∷ Done ∷ same ∷ Done ∷ Done ∷ same ∷ Done ∷ same ∷ Done ∷ same ∷ Done
    ∷ same ∷ Truth false ∷ Done ∷ Value (pos 1) ∷ Done ∷ Done ∷ Value (pos 1) ∷ []
unfolding list_of set_bit any_below all_below exists_all forall_all set_each
operators = refl

-- a variable added while it runs, an element, and one too many
grown : run 1 0 (Makes (makings.Bdd (bdds.Var 0)) ∷ AddVar ∷ Makes (makings.Bdd (bdds.And (n 0) (n 1))) ∷ Eval (n 2) (true ∷ true ∷ []) ∷ Eval (n 2) (true ∷ []) ∷ Makes (makings.Bdd (bdds.Exists (n 2) (1 ∷ []))) ∷ Same (n 5) (n 0) ∷ [])
    ≡ Done ∷ Value (pos 1) ∷ Done ∷ Value (pos 1) ∷ Value (pos 0) ∷ Done ∷ same ∷ []
unfolding list_of set_bit exists_all
grown = refl

grown_element : run 0 1 ((Makes (makings.Zdd zdds.Base)) ∷ Makes (makings.Zdd (zdds.Single 0)) ∷ Makes (makings.Zdd (zdds.Union (n 0) (n 1))) ∷ Eval (n 2) (true ∷ []) ∷ AddElement ∷ Eval (n 2) (true ∷ true ∷ []) ∷ Eval (n 2) (true ∷ false ∷ []) ∷ [])
    ≡ Done ∷ Done ∷ Done ∷ Value (pos 1) ∷ Value (pos 1) ∷ Value (pos 0) ∷ Value (pos 1) ∷ []
unfolding list_of
grown_element = refl

most : run 3 0 (AddVar ∷ []) ≡ Most ∷ []
most = refl

-- with 16,384 variables no list is computed
wide : outcome (opening (record { variables = 16384; elements = 16384; most_variables = 16384; most_elements = 16384; cells = 256 })) 0 (Makes (makings.Bdd bdds.One))
    ≡ Some (makes (Bdd (list_of (2 ^ 16384) (constant true))))
wide = refl

-- an order is that of the opening with each swap's two levels exchanged, and what a sift left; what was refused changes nothing
an_entry : Call → Reply → Entry
an_entry call reply = record { place = 0; session = 0; call = call; reply = reply }

orders_left : orders_from (opening_orders (sizes 3 2)) (an_entry (Swap 0) Done ∷ an_entry (Swap 1) (Full 8 3) ∷ an_entry (SwapElements 0) Done ∷ an_entry (Swap 1) Done ∷ [])
    ≡ record { variables = 1 ∷ 2 ∷ 0 ∷ []; elements = 1 ∷ 0 ∷ [] }
unfolding an_entry
orders_left = refl

order_of_sift : orders_from (opening_orders (sizes 3 0)) (an_entry (Sift (record sifting { order = 2 ∷ 0 ∷ 1 ∷ [] })) Done ∷ an_entry (Swap 0) Done ∷ [])
    ≡ record { variables = 0 ∷ 2 ∷ 1 ∷ []; elements = [] }
unfolding an_entry
order_of_sift = refl

-- the choice of b where a is 1 and of c where it is 0: Morreale's answer has the combinations a b and a' c, and not b c
choice : ℕ → Bool
choice k = if bit k 0 then bit k 1 else bit k 2

cover_of_choice : map (morreale 3 6 (0 ∷ 1 ∷ 2 ∷ []) (interval choice choice)) (5 ∷ 18 ∷ 20 ∷ []) ≡ true ∷ true ∷ false ∷ []
unfolding morreale choice any_below all_below cover_value set_bit
cover_of_choice = refl

-- the function of these two combinations is the choice; a cover lies between true and true, and none between true and false
covers_of_choice : run 3 6 (Makes (makings.Bdd (bdds.Var 0)) ∷ Makes (makings.Bdd (bdds.Var 1)) ∷ Makes (makings.Bdd (bdds.Var 2)) ∷ Makes (makings.Bdd (bdds.Ite (n 0) (n 1) (n 2)))
    ∷ (Makes (makings.Zdd zdds.Base)) ∷ Makes (makings.Zdd (zdds.Change (n 4) 0)) ∷ Makes (makings.Zdd (zdds.Change (n 5) 2)) ∷ Makes (makings.Zdd (zdds.Change (n 4) 1)) ∷ Makes (makings.Zdd (zdds.Change (n 7) 4))
    ∷ Makes (makings.Zdd (zdds.Union (n 6) (n 8))) ∷ Makes (makings.Bdd (bdds.CoverOf (n 9))) ∷ Same (n 10) (n 3) ∷ (Makes (makings.Bdd bdds.One)) ∷ (Makes (makings.Bdd bdds.Zero))
    ∷ Makes (makings.Zdd (zdds.Isop (n 12) (n 12))) ∷ Makes (makings.Zdd (zdds.Isop (n 12) (n 13))) ∷ [])
    ≡ Done ∷ Done ∷ Done ∷ Done ∷ Done ∷ Done ∷ Done ∷ Done ∷ Done ∷ Done ∷ Done ∷ same ∷ Done ∷ Done ∷ Done ∷ Apart ∷ []
unfolding list_of set_bit any_below all_below cover_value
covers_of_choice = refl

-- five elements are too few for the literals of three variables
few_literals : run 3 5 ((Makes (makings.Bdd bdds.One)) ∷ Makes (makings.Zdd (zdds.Isop (n 0) (n 0))) ∷ []) ≡ Done ∷ Full 0 0 ∷ []
unfolding list_of all_below
few_literals = refl
