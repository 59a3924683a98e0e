-- What fits a page; what a search gives, as the protocol's; and that its source is a site.
use Rattle.std.specs.Prelude.{Bool, ◌<◌, IfSome}
use Rattle.std.specs.declared.option.Option as Code
use Rattle.std.proofs.Math.Option.{Option, some, none}
use Rattle.vector.specs.Meaning.{as_vec}
use Rattle.protocol.specs.Record.{Rec, fits_page}
use Rattle.record.specs.Meaning.{as_record}
use Rattle.record.specs.declared.Record.{Record}
use Rattle.search.specs.declared.Wanted.{Wanted}

abbrev pub fits : Wanted → Rec → Bool
fits w = fits_page w.key (as_vec w.snapshot)

abbrev pub found_of : Code.Option Record → Option Rec
found_of Code.Option.None = none
found_of (Code.Option.Some r) = some (as_record r)

-- the record that was found, if any, is of one of four sites
abbrev pub Sited : Code.Option Record → Type 0
Sited x = IfSome x (λ (r : Record). r.numbers.source < 4)
