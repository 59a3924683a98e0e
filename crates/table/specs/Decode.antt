-- The state that a table's bytes say, for any bytes: each thing read at its place, and none beyond the places there are.
use Rattle.std.specs.Prelude.{ℕ, cond, not, ◌&&◌, List, [], ltb, eqb}
use Rattle.codec.specs.Le.{load}
use Rattle.protocol.specs.Record.{Setting}
use Rattle.protocol.specs.State.{State}
use Rattle.parts.specs.Node.{clock_in, heard_in, store_in}
use Rattle.parts.specs.Channel.{queue_in}
use Rattle.parts.specs.Session.{session_in}
use Rattle.table.specs.Parts.{place_of, session_of, site_of, node_of, channel_of}

-- byte 0 the number of sites, byte 1 the number of partitions
abbrev pub setting_in : List ℕ → Setting
setting_in t = record { sites = load 1 t 0; partitions = load 1 t 1 }

unfoldable pub decode : List ℕ → State
decode t = record {
  net = record {
    setting = setting_in t;
    clock = λ m p. clock_in (node_of (site_of t m) p);
    heard = λ m p. heard_in (node_of (site_of t m) p);
    store = λ m p. store_in (node_of (site_of t m) p);
    chan = λ i m p. cond (ltb m 4 && not (eqb i m)) (queue_in (channel_of (site_of t i) p (place_of i m))) [];
  };
  session = λ s. session_in (session_of t s);
}
