-- What the code's reasons mean: the number of each (R60), and the refusal that an answer tells.
use Rattle.std.specs.Prelude.{ℕ}
use Rattle.protocol.specs.Event.{Refusal, plain, wait_for}
use Rattle.protocol.specs.declared.reasons.Reason.{Reason}

abbrev pub number_for : Reason → ℕ
number_for (Reason.Wait site stamp) = 3
number_for Reason.UnknownCode = 10
number_for Reason.UnlawfulField = 11
number_for Reason.SessionNotOpen = 12
number_for Reason.SessionOpen = 13
number_for Reason.PageOpen = 14
number_for Reason.NoPageOpen = 15
number_for Reason.KeyNotAwaited = 16
number_for Reason.KeyTwice = 17
number_for Reason.KeyUnread = 18
number_for Reason.TimeBeforeClock = 19
number_for Reason.ChannelEmpty = 20
number_for Reason.ChannelFull = 21
number_for Reason.NodeFull = 22
number_for Reason.WrongLength = 23
number_for Reason.IllFormed = 24

-- zeros after the number, but for a wait (R34, R51)
abbrev pub refusal_for : Reason → Refusal
refusal_for (Reason.Wait site stamp) = wait_for site stamp
refusal_for w = plain (number_for w)
