-- Room, as the bytes show it. In order: a node's records, and all channels of a node: by the sites that they lead to, and by their places.
use Prim.Native.Nat.{ℕ, ◌-◌, ◌≤◌, ◌<◌}
use native.Mathlib.Decide.{ℕ_discrete}
use native.Mathlib.Omega.{arith}
use mathlib.Core.Path.{◌≡◌, sym, ap, subst}
use mathlib.Core.Bool.{Bool, ◌||◌}
use mathlib.Core.Logic.{⊎_elim}
use mathlib.Core.List.{List}
use lib.Dec.{T, ltb, eqb}
use lib.ListN.{length}
use mir.Facts.{or_yes, eqb_yes, yes_eqb}
use Rattle.codec.specs.Le.{load}
use Rattle.codec.specs.Below.{all_below}
use Rattle.codec.proofs.Tests.{yes_or_l, yes_or_r, same_test}
use Rattle.codec.proofs.Below.{all_below-at, all_below_lem}
use Rattle.protocol.specs.Record.{Msg}
use Rattle.protocol.specs.State.{Session}
use Rattle.protocol.specs.Needs.{store_room, send_room}
use Rattle.parts.specs.Node.{held_in, store_in}
use Rattle.parts.specs.Channel.{wait_in}
use Rattle.table.specs.Parts.{place_of, site_of, node_of, channel_of}
use Rattle.table.specs.Decode.{decode}
use Rattle.table.proofs.Changes.{place-lt}
use Rattle.lawful.proofs.Facts.{store_length}
use Rattle.lawful.proofs.Fits.{Other, other_at, chan-length}
use Rattle.decision.proofs.Ladders.{sight}

pub store-room : (t : List ℕ) (m p : ℕ) → store_room (store_in (node_of (site_of t m) p)) ≡ ltb (held_in (node_of (site_of t m) p)) 32
unfolding store_room decode
store-room t m p = ap (λ k. ltb k 32) (store_length t m p)

-- each outgoing channel of node (m, p) has a free place
unfoldable pub roomy : List ℕ → (m p : ℕ) → Bool
roomy t m p = all_below (load 1 t 0 - 1) (λ d. ltb (wait_in (channel_of (site_of t m) p d)) 8)

module _ (t : List ℕ) (m p : ℕ) (h : m < load 1 t 0) (few : load 1 t 0 ≤ 4) where
  abbrev by_place : ℕ → Bool
  by_place d = ltb (wait_in (channel_of (site_of t m) p d)) 8

  abbrev by_site : ℕ → Bool
  by_site j = eqb j m || ltb (length ((decode t).net.chan m j p)) 8

  site-place : (j : ℕ) → j < 4 → (m ≡ j → ⊥) → ltb (length ((decode t).net.chan m j p)) 8 ≡ by_place (place_of m j)
  site-place j g d = ap (λ k. ltb k 8) (chan-length t m j p g d)

  places_sites : T (all_below (load 1 t 0 - 1) by_place) → T (all_below (load 1 t 0) by_site)
  places_sites b = all_below_lem (load 1 t 0) by_site (λ j g. go j g (ℕ_discrete j m))
    where
      go : (j : ℕ) → j < load 1 t 0 → Dec (j ≡ m) → T (by_site j)
      go j g (yes e) = yes_or_l (eqb j m) (ltb (length ((decode t).net.chan m j p)) 8) (yes_eqb e)
      go j g (no e) =
          let d : m ≡ j → ⊥ = λ q. e (sym q) in
          let free = all_below-at (load 1 t 0 - 1) by_place b (place_of m j) (place-lt (load 1 t 0) m j h g d) in
          yes_or_r (eqb j m) (ltb (length ((decode t).net.chan m j p)) 8) (subst T (sym (site-place j (omega arith) d)) free)

  sites_places : T (all_below (load 1 t 0) by_site) → T (all_below (load 1 t 0 - 1) by_place)
  sites_places b = all_below_lem (load 1 t 0 - 1) by_place (λ d g. go d (other_at (load 1 t 0) m d h g))
    where
      go : (d : ℕ) → Other (load 1 t 0) m d → T (by_place d)
      go d o =
          let j = o.site in
          let there = o.there in
          let both = or_yes (eqb j m) (ltb (length ((decode t).net.chan m j p)) 8) (all_below-at (load 1 t 0) by_site b j there) in
          let free = ⊎_elim (λ e. absurd (o.other (eqb_yes e))) (λ r. r) both in
          subst (λ k. T (by_place k)) o.place (subst T (site-place j (omega arith) (λ e. o.other (sym e))) free)

  pub send_room_lem : (x : Session) (l : List Msg) → send_room (sight t x m l) m p ≡ roomy t m p
  unfolding send_room roomy
  send_room_lem x l = same_test (all_below (load 1 t 0) by_site) (all_below (load 1 t 0 - 1) by_place) sites_places places_sites
