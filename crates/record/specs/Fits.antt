-- When a vector, a record and a message fit their bytes.
use Rattle.std.specs.Prelude.{ℕ, ◌≤◌, ◌<◌, ◌≡◌}
use Rattle.codec.specs.Le.{span}
use Rattle.codec.specs.Level.{FitsLevel}
use Rattle.vector.specs.Vec.{Vec, width}
use Rattle.protocol.specs.Record.{Rec, Msg, Update, Heartbeat}

pub record FitsVec (v : Vec) : Type 0 where
  pub below : (i : ℕ) → v i < span 8
  pub beyond : (i : ℕ) → width ≤ i → v i ≡ 0

pub record FitsRec (r : Rec) : Type 0 where
  pub key : r.id.key < 256
  pub source : r.id.source < 256
  pub stamp : r.id.stamp < span 8
  pub quality : r.quality < 256
  pub level : FitsLevel r.level
  pub carried : FitsVec r.carried

abbrev pub FitsMsg : Msg → Type 0
FitsMsg (Update r) = FitsRec r
FitsMsg (Heartbeat t) = t < span 8
