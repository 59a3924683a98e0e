-- `decision::lookup::at_hand` meets its contract: a well-formed table's kept place is the search's.
use Prim.Native.Nat.{ℕ, ◌-◌, ◌≤◌, ◌<◌}
use native.Mathlib.Omega.{arith}
use mathlib.Core.Path.{sym, ap, subst, ◌∙◌}
use mathlib.Core.List.{List}
use lib.ListN.{get_or}
use borrow.Author.Rules.{rules}
use Rattle.codec.proofs.Le.{load_byte}
use Rattle.protocol.specs.Record.{Rec, of_key}
use Rattle.protocol.specs.Search.{placed}
use Rattle.protocol.proofs.Shelf.{found-newest}
use Rattle.protocol.proofs.Places.{newest_is_placed}
use Rattle.record.specs.RecordBytes.{record_at}
use Rattle.parts.specs.Node.{slot_at, held_in, store_in}
use Rattle.search.specs.Kept.{place_in}
use Rattle.search.proofs.Kept.{place_held, places_at}
use Rattle.table.specs.Parts.{site_of, node_of}
use Rattle.table.specs.Decode.{setting_in}
use Rattle.lawful.proofs.Facts.{kept}
use Rattle.decision.proofs.Formed.{node_held, node_source}
use Rattle.decision.proofs.lookup.at_hand.Goals as goal

pub found_at-requires : goal.found_at-requires
found_at-requires c =
    let a = c.args in
    let place_small : c.place-place.result ≤ held_in (node_of (site_of a.table.bytes.now a.node.site) a.node.partition) =
    rw (c.place-place.ensures ∙ load_byte _ a.key ∙ ap (λ (b : List ℕ). get_or b a.key 0) (kept a.table.bytes.now c.requires.0 c.args.table.formed a.node.site a.node.partition c.args.node.four_sites c.args.node.four_partitions) ∙ places_at (setting_in a.table.bytes.now) (node_of (site_of a.table.bytes.now a.node.site) a.node.partition) a.key c.requires.1) (place_held (setting_in a.table.bytes.now) (node_of (site_of a.table.bytes.now a.node.site) a.node.partition) a.key) in
    let t = a.table.bytes.now in
    let here = sym c.node.ensures.0 in
    let most = node_held t c.args.table.formed a.node.site a.node.partition c.args.node.four_sites c.args.node.four_partitions in (
      search rules,
      omega (
        arith,
        place_small,
        most,
      ),
      λ h. subst (λ n. (record_at n (slot_at (c.place-place.result - 1))).id.source < 4) here (node_source t c.args.table.formed a.node.site a.node.partition c.args.node.four_sites c.args.node.four_partitions (c.place-place.result - 1) (omega (
        arith,
        place_small,
      ))),
    )

pub returns : goal.returns
unfolding store_in place_in
returns c =
    let a = c.args in
    let t = a.table.bytes.now in
    let n = node_of (site_of t a.node.site) a.node.partition in
    let f : ℕ → Rec = λ i. record_at n (slot_at i) in (
      c.found_at.ensures.0
          ∙ ap (λ (b : List ℕ). placed (λ i. record_at b (slot_at i)) c.place-place.result) c.node.ensures.0
          ∙ ap (placed f) (c.place-place.ensures
          ∙ load_byte _ c.args.key
          ∙ ap (λ (b : List ℕ). get_or b c.args.key 0) (kept c.args.table.bytes.now c.requires.0 c.args.table.formed c.args.node.site c.args.node.partition c.args.node.four_sites c.args.node.four_partitions)
          ∙ places_at (setting_in c.args.table.bytes.now) (node_of (site_of c.args.table.bytes.now c.args.node.site) c.args.node.partition) c.args.key c.requires.1)
          ∙ sym (found-newest (setting_in t) (of_key a.key) (store_in n) ∙ newest_is_placed (setting_in t) (of_key a.key) f (held_in n)),
      c.found_at.ensures.1,
    )
