-- What is handed over by a cell of the board, and which entries leave a cell or a name as it is.
use Rattle.std.specs.Prelude.{◌≡◌, ℕ, ◌==◌, Bool, true, false, List}
use Rattle.function_laws.specs.declared.history.Name.{Name}
use Rattle.function_laws.specs.declared.history.Call.{Call}
use Rattle.function_laws.specs.declared.history.Call.TheVariants as calls
use Rattle.function_laws.specs.declared.history.Reply.TheVariants as replies
use Rattle.function_laws.specs.declared.history.Entry.{Entry}
use Rattle.function_laws.specs.Tables.{same_name}
use Rattle.function_laws.specs.declared.history.Reply.{Reply}

-- the reply of a call that added a variable or an element
abbrev pub is_numbered : Reply → Bool
is_numbered (replies.Numbered name n) = true
is_numbered _ = false

-- the call posts to the cell
abbrev pub posts_to : ℕ → Call → Bool
posts_to i (calls.Post j a) = i == j
posts_to i call = false

-- the entry leaves the cell as it is
abbrev pub LeavesCell : ℕ → Entry → Type 0
LeavesCell i e = (is_numbered e.reply ≡ false) × (posts_to i e.call ≡ false)

-- a post to the cell, then entries that leave it, then a fetch from it that found it posted
pub record IsHandedOver (i : ℕ) (post : Entry) (between : List Entry) (fetch : Entry) (from to : Name) : Type 0 where
  pub post_call : post.call ≡ calls.Post i from
  pub post_reply : post.reply ≡ replies.Done
  pub other : Name
  pub fetch_call : fetch.call ≡ calls.Fetch i other
  pub fetch_reply : fetch.reply ≡ replies.Fetched to true

-- the entry does not take away this name of the session
abbrev pub drops_it : Name → Call → Bool
drops_it name (calls.DropRow a) = same_name name a
drops_it name call = false

abbrev pub LeavesName : ℕ → Name → Entry → Type 0
LeavesName s name e = (is_numbered e.reply ≡ false) × (e.session ≡ s → drops_it name e.call ≡ false)
