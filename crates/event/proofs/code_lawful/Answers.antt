-- `event::code_lawful` meets its contract, by what the load ensures.
use Rattle.event.specs.Event.{code_lawful}
use Rattle.event.proofs.code_lawful.Goals as goal

pub returns : goal.returns
unfolding code_lawful
returns c = rw c.load-code.ensures
