-- What a change of one thing's bytes leaves as it was beside them. In order: a node that makes a message and the channels that it is to go to; a
-- node that takes one in and the site that it is from.
use Prim.Native.Nat.{ℕ, ◌≤◌, ◌<◌}
use mathlib.Core.Path.{◌≡◌, ◌∙◌}
use mathlib.Core.List.{List}
use borrow.Author.Tests.{ne_eqb}
use lib.ListN.{length}
use Rattle.codec.specs.Part.{Keeps}
use Rattle.protocol.specs.Record.{Msg}
use Rattle.parts.specs.Node.{published, received}
use Rattle.parts.proofs.Lengths.{published_keeps, received_keeps}
use Rattle.table.specs.Parts.{Long, site_of, on_site, on_node}
use Rattle.table.specs.Free.{Free}
use Rattle.table.proofs.Parts.{length-on_node, channel_on_node, site-on_site}

pub free_published : (m : ℕ) (x : Msg) (site : List ℕ) (p n : ℕ) → length site ≡ 13056 → p < 4 → n ≤ 3 → Free n p site → Free n p (on_node p (published m x) site)
free_published m x site p n l h g free d b =
    rw (channel_on_node site p (published m x) l h (published_keeps m x) p d) (free d b)

pub site-received : (i : ℕ) (x : Msg) (t : List ℕ) (m p : ℕ) → Long t → m < 4 → p < 4 → (i ≡ m → ⊥) → site_of (on_site m (on_node p (received i x)) t) i ≡ site_of t i
site-received i x t m p l h q o =
    let keeps : Keeps 13056 (on_node p (received i x)) = λ s e. length-on_node s p (received i x) e q (received_keeps i x) ∙ e in
    site-on_site t m (on_node p (received i x)) l h keeps i ∙ rw (ne_eqb i m o)
