-- `lawful::setting_lawful` meets its contract: both numbers are lawful.
use Rattle.lawful.proofs.Facts.{setting_tests}
use Rattle.lawful.proofs.setting_lawful.Goals as goal

pub returns : goal.returns
returns c = rw (c.number_lawful.ensures, c.number_lawful-2.ensures) (setting_tests _ _)
