-- What is said of each entry of a history, and the orders that its entries leave, over two lists one after the other.
use Rattle.std.proofs.Common.{◌≡◌, ℕ, ◌+◌, List, [], ◌∷◌, ◌++◌, refl}
use Rattle.function_laws.specs.declared.history.Entry.{Entry}
use Rattle.function_laws.specs.Sizes.{Orders}
use Rattle.function_laws.specs.Tables.{Table}
use Rattle.function_laws.specs.Steps.{IsAllowed}
use Rattle.function_laws.specs.Histories.{after_entry, table_after, EachFrom, IsLegalFrom}
use Rattle.function_laws.specs.EntryOrders.{EachWith, orders_after, orders_from}

pub EachFrom-append : (P : Table → Entry → Type 0) (t : Table) (es fs : List Entry) → EachFrom P t es → EachFrom P (table_after t es) fs → EachFrom P t (es ++ fs)
EachFrom-append P t [] fs here more = more
EachFrom-append P t (e ∷ es) fs here more = (here.0, EachFrom-append P (after_entry t e) es fs here.1 more)

pub EachFrom-parts : (P : Table → Entry → Type 0) (t : Table) (es fs : List Entry) → EachFrom P t (es ++ fs) → EachFrom P t es × EachFrom P (table_after t es) fs
EachFrom-parts P t [] fs all = (tt, all)
EachFrom-parts P t (e ∷ es) fs all = let rest = EachFrom-parts P (after_entry t e) es fs all.1 in ((all.0, rest.0), rest.1)

-- what follows of each allowed entry holds of each of a legal history
pub EachFrom-legal : (P : Table → Entry → Type 0) → ((t : Table) (e : Entry) → IsAllowed t e.session e.call e.reply → P t e)
    → (place : ℕ) (t : Table) (es : List Entry) → IsLegalFrom place t es → EachFrom P t es
EachFrom-legal P follows place t [] legal = tt
EachFrom-legal P follows place t (e ∷ es) legal = (follows t e legal.1, EachFrom-legal P follows (place + 1) (after_entry t e) es legal.2)

pub orders_from-append : (orders : Orders) (es fs : List Entry) → orders_from orders (es ++ fs) ≡ orders_from (orders_from orders es) fs
orders_from-append orders [] fs = refl
orders_from-append orders (e ∷ es) fs = orders_from-append (orders_after orders e.call e.reply) es fs

pub EachWith-append : (P : Table → Orders → Entry → Type 0) (t : Table) (orders : Orders) (es fs : List Entry)
    → EachWith P t orders es → EachWith P (table_after t es) (orders_from orders es) fs → EachWith P t orders (es ++ fs)
EachWith-append P t orders [] fs here more = more
EachWith-append P t orders (e ∷ es) fs here more = (here.0, EachWith-append P (after_entry t e) (orders_after orders e.call e.reply) es fs here.1 more)

pub EachWith-parts : (P : Table → Orders → Entry → Type 0) (t : Table) (orders : Orders) (es fs : List Entry)
    → EachWith P t orders (es ++ fs) → EachWith P t orders es × EachWith P (table_after t es) (orders_from orders es) fs
EachWith-parts P t orders [] fs all = (tt, all)
EachWith-parts P t orders (e ∷ es) fs all =
    let rest = EachWith-parts P (after_entry t e) (orders_after orders e.call e.reply) es fs all.1 in ((all.0, rest.0), rest.1)
