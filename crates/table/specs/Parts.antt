-- Where each thing stands (docs/LAYOUT.md): a table has a head with 16 sessions, a part for each of 4 sites, which has 4 nodes and, for each partition, 3
-- outgoing channels, and at the end 64 kept places for each node. `..Of` is a thing's bytes, none where there is no such thing; `on..` is the whole with f done to them.
-- That two things never overlap is proved once, in proofs/Parts.
use Rattle.std.specs.Prelude.{ℕ, ◌+◌, ◌*◌, ◌-◌, ◌≤◌, cond, ◌&&◌, List, [], ltb, length}
use Rattle.codec.specs.Part.{part_of, on_part}

-- R10: exactly 57,344 bytes
abbrev pub table_length : ℕ
table_length = 57344

-- everything but the kept places lies below 56,320
abbrev pub Long : List ℕ → Type 0
Long t = 56320 ≤ length t

-- and those below 57,344
abbrev pub Whole : List ℕ → Type 0
Whole t = table_length ≤ length t

abbrev pub session_at : ℕ → ℕ
session_at s = 128 + 128 * s

abbrev pub site_at : ℕ → ℕ
site_at m = 4096 + 13056 * m

-- within a site's part
abbrev pub node_at : ℕ → ℕ
node_at p = 1856 * p

abbrev pub channel_at : (p d : ℕ) → ℕ
channel_at p d = 7424 + 464 * (3 * p + d)

-- the kept places of node p of site m, one for each key
abbrev pub kept_at : (m p : ℕ) → ℕ
kept_at m p = 56320 + 64 * (4 * m + p)

-- the place of site m among the sites other than i
unfoldable pub place_of : (i m : ℕ) → ℕ
place_of i m = cond (ltb m i) m (m - 1)

-- ---- a thing's bytes

unfoldable pub session_of : List ℕ → ℕ → List ℕ
session_of t s = cond (ltb s 16) (part_of (session_at s) 128 t) []

unfoldable pub site_of : List ℕ → ℕ → List ℕ
site_of t m = cond (ltb m 4) (part_of (site_at m) 13056 t) []

unfoldable pub node_of : List ℕ → ℕ → List ℕ
node_of site p = cond (ltb p 4) (part_of (node_at p) 1856 site) []

unfoldable pub channel_of : List ℕ → (p d : ℕ) → List ℕ
channel_of site p d = cond (ltb p 4 && ltb d 3) (part_of (channel_at p d) 464 site) []

unfoldable pub kept_of : List ℕ → (m p : ℕ) → List ℕ
kept_of t m p = cond (ltb m 4 && ltb p 4) (part_of (kept_at m p) 64 t) []

-- ---- the whole with f done to a thing's bytes

unfoldable pub on_session : ℕ → (List ℕ → List ℕ) → List ℕ → List ℕ
on_session s f t = on_part (session_at s) 128 f t

unfoldable pub on_site : ℕ → (List ℕ → List ℕ) → List ℕ → List ℕ
on_site m f t = on_part (site_at m) 13056 f t

unfoldable pub on_node : ℕ → (List ℕ → List ℕ) → List ℕ → List ℕ
on_node p f site = on_part (node_at p) 1856 f site

unfoldable pub on_channel : (p d : ℕ) → (List ℕ → List ℕ) → List ℕ → List ℕ
on_channel p d f site = on_part (channel_at p d) 464 f site

unfoldable pub on_kept : (m p : ℕ) → (List ℕ → List ℕ) → List ℕ → List ℕ
on_kept m p f t = on_part (kept_at m p) 64 f t
