-- The constants that setup fixes, as the code holds them, and the model's.
use Rattle.protocol.specs.declared.limits.Setting.{Setting}
use Rattle.protocol.specs.Record as Record

abbrev pub setting_of : Setting → Record.Setting
setting_of c = record { sites = c.sites; partitions = c.partitions }
