-- What a call of a program asks for, by its code and the names and numbers that it has.
use Rattle.std.specs.Prelude.{◌≡◌, ◌<◌, ◌≤◌, ◌⊎◌, ◌==◌, ◌&&◌, ◌||◌, ℕ, nat_lt, Bool, not, if◌then◌else◌, List}
use Rattle.function_laws.specs.declared.history.Name.{Name}
use Rattle.function_laws.specs.declared.making.Making.{Making}
use Rattle.function_laws.specs.declared.making.Making.TheVariants as makings
use Rattle.function_laws.specs.declared.making.BddMaking.TheVariants as bdds
use Rattle.function_laws.specs.declared.making.AddMaking.TheVariants as adds
use Rattle.function_laws.specs.declared.making.ExactMaking.TheVariants as exacts
use Rattle.function_laws.specs.declared.making.ZddMaking.TheVariants as zdds
use Rattle.function_laws.specs.Numbers.{is_zero}
use Rattle.function_laws.specs.declared.orders.Order.{Order}
use Rattle.function_laws.specs.declared.orders.Order.TheVariants as orders
use Rattle.dd_manager.specs.declared.lists.Lists.{Lists}
use Rattle.dd_manager.specs.declared.requests.Asked.{Asked}
use Rattle.dd_manager.specs.declared.requests.Asked.TheVariants as asked
use Rattle.dd_manager.specs.declared.requests.LevelCall.{LevelCall}
use Rattle.dd_manager.specs.declared.requests.LevelCall.TheVariants as levels
use Rattle.dd_manager.specs.declared.requests.ListCall.{ListCall}
use Rattle.dd_manager.specs.declared.requests.ListCall.TheVariants as lists
use Rattle.dd_manager.specs.declared.requests.NodeCall.{NodeCall}
use Rattle.dd_manager.specs.declared.requests.NodeCall.TheVariants as nodes
use Rattle.dd_manager.specs.declared.requests.Request.{Request}
use Rattle.dd_manager.specs.declared.requests.RowCall.{RowCall}
use Rattle.dd_manager.specs.declared.requests.RowCall.TheVariants as rows

-- the names in a request
abbrev pub first : Request → Name
first r = record { row = r.f_row; generation = r.f_generation }

abbrev pub second : Request → Name
second r = record { row = r.g_row; generation = r.g_generation }

abbrev pub third : Request → Name
third r = record { row = r.h_row; generation = r.h_generation }

-- how many names a call that makes a function takes
abbrev pub names_taken : ℕ → ℕ
names_taken call = if nat_lt call 8 then 0 else if nat_lt call 22 then 1 else if nat_lt call 40 then 2 else 3

-- some name that a call takes is of another manager
abbrev pub is_foreign : ℕ → ℕ → Request → Bool
is_foreign manager names r =
    (nat_lt 0 names && not (r.f_manager == manager)) || (nat_lt 1 names && not (r.g_manager == manager)) || (nat_lt 2 names && not (r.h_manager == manager))

-- What is to be made, by the code of the call, and the lists that were told before.
abbrev pub Asks : Making Name (List ℕ) (List (ℕ × Name)) → Request → Lists → Type 0
Asks (makings.Bdd bdds.One) r told = (r.call ≡ 1)
Asks (makings.Bdd bdds.Zero) r told = (r.call ≡ 2)
Asks (makings.Bdd (bdds.Var n)) r told = (r.call ≡ 3) × (n ≡ r.number)
Asks (makings.Add (adds.Constant z)) r told = (r.call ≡ 4) × (z ≡ r.value)
Asks (makings.Zdd zdds.Empty) r told = (r.call ≡ 5)
Asks (makings.Zdd zdds.Base) r told = (r.call ≡ 6)
Asks (makings.Zdd (zdds.Single n)) r told = (r.call ≡ 7) × (n ≡ r.number)
Asks (makings.Bdd (bdds.Not a)) r told = (r.call ≡ 8) × (a ≡ first r)
Asks (makings.Bdd (bdds.Cofactor a n bit)) r told = (r.call ≡ 9) × (a ≡ first r) × (n ≡ r.number) × (bit ≡ not (is_zero r.value))
Asks (makings.Bdd (bdds.Exists a vs)) r told = (r.call ≡ 10) × (a ≡ first r) × (vs ≡ told.marks.items)
Asks (makings.Bdd (bdds.Forall a vs)) r told = (r.call ≡ 11) × (a ≡ first r) × (vs ≡ told.marks.items)
Asks (makings.Bdd (bdds.VectorCompose a ps)) r told = (r.call ≡ 12) × (a ≡ first r) × (ps ≡ told.pairs.items)
Asks (makings.Bdd (bdds.Support a)) r told = (r.call ≡ 13) × (a ≡ first r)
Asks (makings.Bdd (bdds.AtLeast a z)) r told = (r.call ≡ 14) × (a ≡ first r) × (z ≡ r.value)
Asks (makings.Bdd (bdds.Pattern a)) r told = (r.call ≡ 15) × (a ≡ first r)
Asks (makings.Bdd (bdds.CoverOf a)) r told = (r.call ≡ 16) × (a ≡ first r)
Asks (makings.Add (adds.FromBdd a)) r told = (r.call ≡ 17) × (a ≡ first r)
Asks (makings.Exact (exacts.SumOver a n)) r told = (r.call ≡ 18) × (a ≡ first r) × (n ≡ r.number)
Asks (makings.Zdd (zdds.Subset1 a n)) r told = (r.call ≡ 19) × (a ≡ first r) × (n ≡ r.number)
Asks (makings.Zdd (zdds.Subset0 a n)) r told = (r.call ≡ 20) × (a ≡ first r) × (n ≡ r.number)
Asks (makings.Zdd (zdds.Change a n)) r told = (r.call ≡ 21) × (a ≡ first r) × (n ≡ r.number)
Asks (makings.Bdd (bdds.And a b)) r told = (r.call ≡ 22) × (a ≡ first r) × (b ≡ second r)
Asks (makings.Bdd (bdds.Or a b)) r told = (r.call ≡ 23) × (a ≡ first r) × (b ≡ second r)
Asks (makings.Bdd (bdds.Xor a b)) r told = (r.call ≡ 24) × (a ≡ first r) × (b ≡ second r)
Asks (makings.Bdd (bdds.AndExists a b vs)) r told = (r.call ≡ 25) × (a ≡ first r) × (b ≡ second r) × (vs ≡ told.marks.items)
Asks (makings.Bdd (bdds.Compose a n b)) r told = (r.call ≡ 26) × (a ≡ first r) × (n ≡ r.number) × (b ≡ second r)
Asks (makings.Bdd (bdds.Restrict a b)) r told = (r.call ≡ 27) × (a ≡ first r) × (b ≡ second r)
Asks (makings.Add (adds.Min a b)) r told = (r.call ≡ 28) × (a ≡ first r) × (b ≡ second r)
Asks (makings.Add (adds.Max a b)) r told = (r.call ≡ 29) × (a ≡ first r) × (b ≡ second r)
Asks (makings.Add (adds.Threshold a b)) r told = (r.call ≡ 30) × (a ≡ first r) × (b ≡ second r)
Asks (makings.Exact (exacts.Plus a b)) r told = (r.call ≡ 31) × (a ≡ first r) × (b ≡ second r)
Asks (makings.Exact (exacts.Minus a b)) r told = (r.call ≡ 32) × (a ≡ first r) × (b ≡ second r)
Asks (makings.Exact (exacts.Times a b)) r told = (r.call ≡ 33) × (a ≡ first r) × (b ≡ second r)
Asks (makings.Zdd (zdds.Union a b)) r told = (r.call ≡ 34) × (a ≡ first r) × (b ≡ second r)
Asks (makings.Zdd (zdds.Meet a b)) r told = (r.call ≡ 35) × (a ≡ first r) × (b ≡ second r)
Asks (makings.Zdd (zdds.Diff a b)) r told = (r.call ≡ 36) × (a ≡ first r) × (b ≡ second r)
Asks (makings.Zdd (zdds.Product a b)) r told = (r.call ≡ 37) × (a ≡ first r) × (b ≡ second r)
Asks (makings.Zdd (zdds.Quotient a b)) r told = (r.call ≡ 38) × (a ≡ first r) × (b ≡ second r)
Asks (makings.Zdd (zdds.Isop a b)) r told = (r.call ≡ 39) × (a ≡ first r) × (b ≡ second r)
Asks (makings.Bdd (bdds.Ite a b c)) r told = (r.call ≡ 40) × (a ≡ first r) × (b ≡ second r) × (c ≡ third r)
Asks (makings.Add (adds.AddIte a b c)) r told = (r.call ≡ 41) × (a ≡ first r) × (b ≡ second r) × (c ≡ third r)

-- the codes of calls on rows, on nodes, on levels and on lists
abbrev pub row_code : RowCall → ℕ
row_code rows.Copy = 50
row_code rows.DropRow = 51
row_code rows.Same = 52
row_code rows.Value = 53
row_code rows.Implies = 54

abbrev pub node_code : NodeCall → ℕ
node_code nodes.Kind = 61
node_code nodes.Top = 62
node_code nodes.Then = 63
node_code nodes.Else = 64

abbrev pub level_code : Order → LevelCall → ℕ
level_code orders.Variables levels.LevelOf = 42
level_code orders.Elements levels.LevelOf = 43
level_code orders.Variables levels.At = 44
level_code orders.Elements levels.At = 45
level_code orders.Variables levels.Swap = 46
level_code orders.Elements levels.Swap = 47
level_code orders.Variables levels.Sift = 48
level_code orders.Elements levels.Sift = 49

abbrev pub list_code : ListCall → ℕ
list_code lists.Mark = 56
list_code lists.Clear = 57
list_code lists.Bit = 58
list_code lists.Put = 59

-- the codes of what a call asks for
abbrev pub Codes : Asked → ℕ → Type 0
Codes asked.Makes call = (1 ≤ call) × (call ≤ 41)
Codes (asked.Row what) call = call ≡ row_code what
Codes (asked.Node what) call = call ≡ node_code what
Codes (asked.Level order what) call = call ≡ level_code order what
Codes (asked.List what) call = call ≡ list_code what
Codes asked.Sweep call = call ≡ 55
Codes asked.Close call = call ≡ 60
Codes asked.Nothing call = (call ≡ 0) ⊎ (64 < call)
