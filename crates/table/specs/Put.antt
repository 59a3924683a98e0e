-- Each of the protocol's four changes in bytes, many of them, and a fresh setup. A change that stores a record sets its node's kept places anew.
use Rattle.std.specs.Prelude.{ℕ, zero, suc, ◌-◌, List, [], ◌∷◌, replicate}
use Rattle.codec.specs.Le.{load, put}
use Rattle.protocol.specs.Record.{Setting, Msg}
use Rattle.protocol.specs.Change.{Change, SetSession, SetClock, Publish, Receive}
use Rattle.parts.specs.Node.{clock_set, published, received}
use Rattle.parts.specs.Channel.{pushed, popped}
use Rattle.parts.specs.Session.{put_session}
use Rattle.search.specs.Kept.{places_in}
use Rattle.table.specs.Parts.{table_length, place_of, site_of, node_of, on_session, on_site, on_node, on_channel, on_kept}
use Rattle.table.specs.Decode.{setting_in}

-- the message of node (m, p) goes into the first n of its site's channels
unfoldable pub sent_to : (n m p : ℕ) → Msg → List ℕ → List ℕ
sent_to zero m p x site = site
sent_to (suc n) m p x site = on_channel p n (pushed m x) (sent_to n m p x site)

-- and where there are n + 1 sites, to each other one
unfoldable pub published_on : (n m p : ℕ) → Msg → List ℕ → List ℕ
published_on n m p x site = sent_to n m p x (on_node p (published m x) site)

-- a change but for the kept places
unfoldable pub put_core : Change → List ℕ → List ℕ
put_core (SetSession s x) t = on_session s (put_session x) t
put_core (SetClock m p c) t = on_site m (on_node p (clock_set c)) t
put_core (Publish m p x) t = on_site m (published_on (load 1 t 0 - 1) m p x) t
put_core (Receive i m p x) t = on_site i (on_channel p (place_of i m) popped) (on_site m (on_node p (received i x)) t)

-- R19: the kept places of node (m, p) as the search finds them
unfoldable pub kept_anew : (m p : ℕ) → List ℕ → List ℕ
kept_anew m p t = on_kept m p (λ s. places_in (setting_in t) (node_of (site_of t m) p)) t

-- and of the node that a change may have stored a record at
unfoldable pub kept_after : Change → List ℕ → List ℕ
kept_after (SetSession s x) t = t
kept_after (SetClock m p c) t = t
kept_after (Publish m p x) t = kept_anew m p t
kept_after (Receive i m p x) t = kept_anew m p t

unfoldable pub put_change : Change → List ℕ → List ℕ
put_change c t = kept_after c (put_core c t)

unfoldable pub put_changes : List Change → List ℕ → List ℕ
put_changes [] t = t
put_changes (c ∷ cs) t = put_changes cs (put_change c t)

-- R18
unfoldable pub fresh : Setting → List ℕ
fresh c = put 1 (put 1 (replicate table_length 0) 0 c.sites) 1 c.partitions
