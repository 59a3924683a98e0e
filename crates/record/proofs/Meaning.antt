-- What a letter says, once its message is known.
use mathlib.Core.Path.{ap, ◌≡◌}
use Rattle.record.specs.Meaning.{message_of, as_message}
use Rattle.record.specs.declared.Message.{Message}
use Rattle.record.specs.declared.Letter.{Letter}

-- what a letter says, once its message is known
pub message_told : (x : Letter) (w : Message) → x.message ≡ w → as_message x ≡ message_of w x.carried
message_told x w e = ap (λ y. message_of y x.carried) e
