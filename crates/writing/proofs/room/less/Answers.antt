-- `writing::room::less` meets its contract. Assumes nothing.
use borrow.Author.Rules.{rules}
use Rattle.writing.proofs.RoomLaws.{checked, short_still}
use Rattle.writing.proofs.room.less.Goals as goal

pub returns-in_err-room : goal.returns-in_err-room
returns-in_err-room c = search (rules, short_still)

pub returns : goal.returns
returns c = checked _ _ _ _ c.checked_sub.ensures c.in_ok-room.was
