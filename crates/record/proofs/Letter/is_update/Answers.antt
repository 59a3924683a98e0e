-- `record::Letter::is_update` meets its contract, variant by variant.
use mathlib.Core.Path.{sym, ap}
use mathlib.Core.List.{[], ◌∷◌}
use Rattle.protocol.specs.Record.{Msg}
use Rattle.protocol.specs.Needs.{front_updates}
use Rattle.record.proofs.Meaning.{message_told}
use Rattle.record.proofs.Letter.is_update.Goals as goal

pub returns-in-Update : goal.returns-in-Update
unfolding front_updates
returns-in-Update c = sym (ap (λ (m : Msg). front_updates (m ∷ [])) (message_told c.args.self _ c.in-Update.is))

pub returns-in-Heartbeat : goal.returns-in-Heartbeat
unfolding front_updates
returns-in-Heartbeat c = sym (ap (λ (m : Msg). front_updates (m ∷ [])) (message_told c.args.self _ c.in-Heartbeat.is))
