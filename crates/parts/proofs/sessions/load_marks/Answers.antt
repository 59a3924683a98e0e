-- `parts::sessions::load_marks` meets its contract: all eight keys and marks are loaded, and those in use count.
use mathlib.Core.Path.{ap, ◌∙◌}
use native.Mathlib.Omega.{arith}
use lib.ListN.{get_or}
use Rattle.codec.proofs.Tabulate.{tab_at}
use Rattle.parts.proofs.MarkBytes.{marks_on_loaded}
use Rattle.parts.proofs.sessions.load_marks.Goals as goal

pub returns : goal.returns
returns c =
    marks_on_loaded c.args.b.now (record { page = record { keys = c.load_eight-keys.result; count = c.load-count.result }; read = c.load_read.result }) (λ i h. ap (λ l. get_or l i 0) c.load_eight-keys.ensures ∙ tab_at 8 _ 0 i h) c.load_read.ensures (omega arith) c.load-count.ensures
