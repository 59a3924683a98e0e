-- `parts::Marks::unread` meets its contract: eight places that are not read.
use Rattle.parts.proofs.Backward.{marks-begun}
use Rattle.parts.proofs.Marks.unread.Goals as goal

pub returns : goal.returns
returns c = marks-begun c.args.page c.requires
