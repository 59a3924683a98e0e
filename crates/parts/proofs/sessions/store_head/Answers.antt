-- `parts::sessions::store_head` meets its contract: four stores, the last first.
use mathlib.Core.Path.{◌∙◌}
use Rattle.codec.proofs.Tabulate.{tab_length}
use Rattle.parts.proofs.MarkBytes.{flag_is}
use Rattle.parts.proofs.sessions.store_head.Goals as goal

pub returns : goal.returns
returns c =
    c.store-4.ensures ∙ rw (c.store-3.ensures, c.from-2.ensures, flag_is, c.store-2.ensures, c.store.ensures, c.from.ensures, flag_is, tab_length)
