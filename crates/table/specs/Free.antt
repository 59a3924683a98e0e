-- When a site's channels have room for a message.
use Rattle.std.specs.Prelude.{ℕ, ◌<◌, List}
use Rattle.parts.specs.Channel.{wait_in}
use Rattle.table.specs.Parts.{channel_of}

-- each of the first n channels of partition p has a free one of its 8 places
abbrev pub Free : (n p : ℕ) → List ℕ → Type 0
Free n p site = (d : ℕ) → d < n → wait_in (channel_of site p d) < 8
