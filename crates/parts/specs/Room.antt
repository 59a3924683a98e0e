-- When a node has room for a message: an update takes one of its 32 places for records, a heartbeat none.
use Rattle.std.specs.Prelude.{ℕ, ◌<◌, List}
use Rattle.protocol.specs.Record.{Msg, Update, Heartbeat}
use Rattle.parts.specs.Node.{held_in}

abbrev pub Room : Msg → List ℕ → Type 0
Room (Update r) n = held_in n < 32
Room (Heartbeat t) n = Unit {0}
