-- What is lent as `&whole[off..off + k]`, where `off` is a thing's place, is that thing's bytes (`-lent`), and where a callee did f to them the whole that
-- comes back has f done to the thing (`-back`). In order: any part, a node, a channel, a site's part, a session, a
-- node's kept places.
use Prim.Native.Nat.{ℕ, ◌+◌, ◌-◌, ◌<◌}
use mathlib.Core.Path.{◌≡◌, ◌∙◌}
use mathlib.Core.List.{List}
use native.Mathlib.Omega.{arith}
use borrow.Author.Tests.{lt-ltb}
use borrow.Rule.Slice.PartMut.{put_mid}
use Rattle.codec.specs.Part.{part_of}
use Rattle.codec.proofs.Part.{lent_back}
use Rattle.table.specs.Parts.{session_at, site_at, node_at, channel_at, kept_at, session_of, site_of, node_of, channel_of, kept_of, on_session, on_site, on_node, on_channel, on_kept}

-- the k bytes from `off`, as a caller lends them, and the whole with ys in their stead
abbrev lent : ℕ → ℕ → List ℕ → List ℕ
lent off k t = part_of off (off + k - off) t

abbrev back : ℕ → ℕ → List ℕ → List ℕ → List ℕ
back off k t ys = put_mid off (off + k - off) t ys

part_lent : (off k : ℕ) (t : List ℕ) → part_of off k t ≡ lent off k t
part_lent off k t =
    let e : off + k - off ≡ k = omega arith in
    rw e

module _ (site : List ℕ) (p off : ℕ) (e : off ≡ node_at p) where
  pub node_lent : p < 4 → node_of site p ≡ lent off 1856 site
  unfolding node_of
  node_lent h = rw (lt-ltb p 4 h, e) (part_lent (node_at p) 1856 site)

  pub node_back : (ys : List ℕ) (f : List ℕ → List ℕ) → ys ≡ f (lent off 1856 site) → back off 1856 site ys ≡ on_node p f site
  unfolding on_node
  node_back ys f g = lent_back off 1856 site ys f g ∙ rw e

module _ (site : List ℕ) (p d off : ℕ) (e : off ≡ channel_at p d) where
  pub channel_lent : p < 4 → d < 3 → channel_of site p d ≡ lent off 464 site
  unfolding channel_of
  channel_lent h g = rw (lt-ltb p 4 h, lt-ltb d 3 g, e) (part_lent (channel_at p d) 464 site)

  pub channel_back : (ys : List ℕ) (f : List ℕ → List ℕ) → ys ≡ f (lent off 464 site) → back off 464 site ys ≡ on_channel p d f site
  unfolding on_channel
  channel_back ys f g = lent_back off 464 site ys f g ∙ rw e

module _ (t : List ℕ) (m off : ℕ) (e : off ≡ site_at m) where
  pub site_lent : m < 4 → site_of t m ≡ lent off 13056 t
  unfolding site_of
  site_lent h = rw (lt-ltb m 4 h, e) (part_lent (site_at m) 13056 t)

  pub site_back : (ys : List ℕ) (f : List ℕ → List ℕ) → ys ≡ f (lent off 13056 t) → back off 13056 t ys ≡ on_site m f t
  unfolding on_site
  site_back ys f g = lent_back off 13056 t ys f g ∙ rw e

module _ (t : List ℕ) (s off : ℕ) (e : off ≡ session_at s) where
  pub session_lent : s < 16 → session_of t s ≡ lent off 128 t
  unfolding session_of
  session_lent h = rw (lt-ltb s 16 h, e) (part_lent (session_at s) 128 t)

  pub session_back : (ys : List ℕ) (f : List ℕ → List ℕ) → ys ≡ f (lent off 128 t) → back off 128 t ys ≡ on_session s f t
  unfolding on_session
  session_back ys f g = lent_back off 128 t ys f g ∙ rw e

module _ (t : List ℕ) (m p off : ℕ) (e : off ≡ kept_at m p) where
  pub kept_lent : m < 4 → p < 4 → kept_of t m p ≡ lent off 64 t
  unfolding kept_of
  kept_lent h g = rw (lt-ltb m 4 h, lt-ltb p 4 g, e) (part_lent (kept_at m p) 64 t)

  pub kept_back : (ys : List ℕ) (f : List ℕ → List ℕ) → ys ≡ f (lent off 64 t) → back off 64 t ys ≡ on_kept m p f t
  unfolding on_kept
  kept_back ys f g = lent_back off 64 t ys f g ∙ rw e
