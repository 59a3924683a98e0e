-- `parts::sessions::store_mark` meets its contract, by its two stores.
use mathlib.Core.Path.{◌∙◌}
use Rattle.parts.proofs.MarkBytes.{flag_is}
use Rattle.parts.proofs.sessions.store_mark.Goals as goal

pub returns : goal.returns
returns c =
    c.store-2.ensures ∙ rw (c.from.ensures, flag_is, c.store.ensures)
