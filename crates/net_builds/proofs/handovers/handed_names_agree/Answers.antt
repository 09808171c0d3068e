use Rattle.std.proofs.Common.{◌≡◌, ◌<◌, true, false, refl}
use Rattle.function_laws.specs.declared.history.Call.TheVariants as calls
use Rattle.function_laws.specs.declared.history.Entry.{Entry}
use Rattle.function_laws.specs.declared.history.Reply.TheVariants as replies
use Rattle.function_laws.specs.Handovers.{is_numbered, posts_to}
use Rattle.function_laws.specs.SessionEntries.{entry}
use Rattle.net_builds.proofs.Contained.{all-has, has-contained}
use Rattle.net_builds.proofs.HandedLaw.{handed-law}
use Rattle.net_builds.proofs.handovers.handed_names_agree.Goals as goal

pub returns : goal.returns
returns c = λ sizes log legal plain cell session other from to handed f g stands_from stands_to.
    let plain_of = all-has (λ (x : Entry). is_numbered x.reply ≡ false) log plain in
    handed-law sizes log legal plain_of cell
    (entry handed.post session (calls.Post cell from) replies.Done) (entry handed.fetch other (calls.Fetch cell handed.kind) (replies.Fetched to true)) from to
    (has-contained log _ handed.posted) (has-contained log _ handed.fetched) handed.in_turn
    (λ e has after before. (plain_of e has, all-has (λ (x : Entry). handed.post < x.place → x.place < handed.fetch → posts_to cell x.call ≡ false) log handed.alone e has after before))
    refl refl handed.kind refl refl g stands_to f stands_from
