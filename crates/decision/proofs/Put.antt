-- What PUT is answered, in the words of the bytes, by what the session says.
use Prim.Native.Nat.{ℕ, ◌≤◌, ◌<◌}
use mathlib.Core.Path.{◌≡◌, refl, ◌∙◌}
use mathlib.Core.Bool.{true, false}
use mathlib.Core.List.{List, []}
use lib.Dec.{ltb}
use lib.IntN.{ℤ}
use Rattle.codec.specs.Le.{load}
use Rattle.protocol.specs.Record.{partition_of}
use Rattle.protocol.specs.State.{Session}
use Rattle.protocol.specs.Event.{PUT}
use Rattle.protocol.specs.View.{View}
use Rattle.protocol.specs.Needs.{store_room, send_room}
use Rattle.protocol.proofs.Ladders.{refuse, if_no_page, put_at, put-judged}
use Rattle.parts.specs.Node.{held_in}
use Rattle.parts.specs.Session.{session_in}
use Rattle.table.specs.Parts.{session_of, site_of, node_of}
use Rattle.table.specs.Decode.{setting_in, decode}
use Rattle.decision.specs.Answered.{answered}
use Rattle.decision.proofs.Room.{roomy, store-room, send_room_lem}
use Rattle.decision.proofs.Ladders.{seen_by, session-says}

-- session s is x, and p is the key's partition
module _ (t : List ℕ) (s k q : ℕ) (l : ℤ) (x : Session) (e : x ≡ session_in (session_of t s)) (p : ℕ) (e' : p ≡ partition_of (setting_in t) k) where
  abbrev v : View
  v = seen_by t x

  put-answered : answered (decode t) (PUT s k q l) ≡ if_no_page x (put_at v s k q l p (store_room (v.store p)) (send_room v x.site p))
  put-answered = session-says t s x e (PUT s k q l) refl ∙ rw e' (put-judged v s k q l)

  pub put-closed : x.is_open ≡ false → answered (decode t) (PUT s k q l) ≡ refuse 12
  put-closed o = put-answered ∙ rw o

  pub put_paged : x.is_open ≡ true → x.page.is_open ≡ true → answered (decode t) (PUT s k q l) ≡ refuse 14
  put_paged o g = put-answered ∙ rw (o, g)

  pub put_there : x.is_open ≡ true → x.page.is_open ≡ false → x.site < load 1 t 0 → load 1 t 0 ≤ 4 →
      answered (decode t) (PUT s k q l) ≡ put_at v s k q l p (ltb (held_in (node_of (site_of t x.site) p)) 32) (roomy t x.site p)
  put_there o g h few = put-answered ∙ rw (store-room t x.site p, send_room_lem t x.site p h few x [], o, g)
