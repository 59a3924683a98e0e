-- How a node stores records, behind those that it has, and which it finds for a read, the newest that fits. The laws are in proofs/Shelf.
use Rattle.std.specs.Prelude.{Bool, List, ◌++◌}
use Rattle.std.proofs.Math.Option.{Option}
use Rattle.protocol.specs.Record.{Setting, Rec, newest}

-- l with rs stored
unfoldable pub shelve : Setting → (l rs : List Rec) → List Rec
shelve c l rs = l ++ rs

-- what a read finds in l
unfoldable pub found : Setting → (Rec → Bool) → (l : List Rec) → Option Rec
found c fit l = newest c fit l
