-- Records and messages in well-formed bytes. In order: equal bytes are formed alike, and what is put is formed where the value is lawful: a record, a
-- heartbeat's zeros, a message.
use Prim.Native.Nat.{ℕ, ◌+◌, ◌*◌, ◌≤◌, ◌<◌}
use native.Mathlib.Decide.{dec_lt}
use native.Mathlib.Omega.{arith}
use mathlib.Core.Path.{◌≡◌, sym, ap, subst}
use mathlib.Core.Bool.{Bool, ◌&&◌, ◌||◌}
use mathlib.Core.List.{List, [], ◌∷◌}
use lib.Dec.{T, eqb}
use lib.IntN.{pos}
use lib.ListN.{length}
use mir.Facts.{yes_and, yes_eqb, and_yes}
use Rattle.codec.specs.Tests.{every}
use Rattle.codec.specs.Le.{load}
use Rattle.codec.specs.Level.{level_from}
use Rattle.codec.specs.Below.{all_below}
use Rattle.codec.proofs.Tests.{yes_every, yes_or_l, yes_or_r, cond_elim}
use Rattle.codec.proofs.Level.{level_from_low, level_from_high}
use Rattle.codec.proofs.Below.{all_below_lem}
use Rattle.vector.specs.Vec.{width}
use Rattle.vector.specs.Entries.{load_vec}
use Rattle.vector.proofs.Entries.{load_vec-beyond}
use Rattle.protocol.specs.Record.{Setting, Rec, Msg, Update, Heartbeat}
use Rattle.protocol.proofs.Times.{stamp-fits}
use Rattle.record.specs.RecordBytes.{record_at, message_at, put_record, beat, put_message}
use Rattle.record.specs.Ranges.{record_lawful, message_lawful}
use Rattle.record.specs.RecordFormed.{record_formed, heartbeat_formed, message_formed}
use Rattle.record.proofs.RecordBytes.{Same, load_vec_ext, record_ext, message_ext, kind_put, record_put_record, beat-fits, message_put_message}
use Rattle.record.proofs.Ranges.{LawfulRec, record_lawful_lem, record_fits, LawfulMsg, message_lawful_lem, message_fits, NarrowMsg, record_facts, message_facts}

-- ---- equal bytes are formed alike

pub record_formed_ext : (c : Setting) (p : ℕ) (s t : List ℕ) (at : ℕ) → Same s t at → record_formed c p s at ≡ record_formed c p t at
unfolding record_formed
record_formed_ext c p s t at e =
    let kind = e 1 (at + 3) (omega arith) (omega arith) in
    let rec = record_ext s t at e in
    λ z. eqb (kind z) 1 && record_lawful c p (rec z)

heartbeat_formed_ext : (i : ℕ) (s t : List ℕ) (at : ℕ) → Same s t at → heartbeat_formed i s at ≡ heartbeat_formed i t at
unfolding heartbeat_formed
heartbeat_formed_ext i s t at e =
    let key = e 1 at (omega arith) (omega arith) in
    let source = e 1 (at + 1) (omega arith) (omega arith) in
    let quality = e 1 (at + 2) (omega arith) (omega arith) in
    let level = e 4 (at + 4) (omega arith) (omega arith) in
    let vec = load_vec_ext s t (at + 16) (λ k b. e 8 (at + 16 + 8 * k) (omega arith) (omega arith)) in
    λ z. every (eqb (key z) 0 ∷ eqb (source z) i ∷ eqb (quality z) 0 ∷ eqb (level z) 0 ∷ all_below width (λ k. eqb (vec z k) 0) ∷ [])

pub message_formed_ext : (c : Setting) (i p : ℕ) (s t : List ℕ) (at : ℕ) → Same s t at → message_formed c i p s at ≡ message_formed c i p t at
unfolding message_formed
message_formed_ext c i p s t at e =
    let kind = e 1 (at + 3) (omega arith) (omega arith) in
    let beat = heartbeat_formed_ext i s t at e in
    let msg = message_ext s t at e in
    λ z. (eqb (kind z) 1 || (eqb (kind z) 2 && beat z)) && message_lawful c i p (msg z)

-- ---- what is put is formed

module _ (c : Setting) (few : c.sites ≤ 4) (p : ℕ) (b : List ℕ) (at : ℕ) (fit : at + 48 ≤ length b) where
  pub record_formed_put : (r : Rec) → LawfulRec c p r → T (record_formed c p (put_record b at 1 r) at)
  unfolding record_formed
  record_formed_put r ok =
      let small = record_fits c p r few ok in
      yes_and (eqb (load 1 (put_record b at 1 r) (at + 3)) 1) (record_lawful c p (record_at (put_record b at 1 r) at)) (yes_eqb (kind_put b at 1 r fit small (omega arith)))
      (subst (λ x. T (record_lawful c p x)) (sym (record_put_record b at 1 r fit small (omega arith))) (record_lawful_lem c p r ok))

level-zero : (x : ℕ) → level_from x ≡ pos 0 → x ≡ 0
level-zero x e = go (dec_lt x 2147483648)
  where
    go : Dec (x < 2147483648) → x ≡ 0
    go (yes l) = let q = level_from_low x l in cc
    go (no l) = let q = level_from_high x l in cc

-- the bytes that say the fields of a heartbeat are formed as one
heartbeat_formed_lem : (i t : ℕ) (b : List ℕ) (at : ℕ) → record_at b at ≡ beat i t → T (heartbeat_formed i b at)
unfolding heartbeat_formed record_at
heartbeat_formed_lem i t b at e =
    yes_every
    (eqb (load 1 b at) 0 ∷ eqb (load 1 b (at + 1)) i ∷ eqb (load 1 b (at + 2)) 0 ∷ eqb (load 4 b (at + 4)) 0 ∷ all_below width (λ k. eqb (load_vec b (at + 16) k) 0) ∷ []) (
      yes_eqb (ap (λ r. r.id.key) e),
      (
        yes_eqb (ap (λ r. r.id.source) e),
        (
          yes_eqb (ap (λ r. r.quality) e),
          (yes_eqb (level-zero (load 4 b (at + 4)) (ap (λ r. r.level) e)), (all_below_lem width (λ k. eqb (load_vec b (at + 16) k) 0) (λ k h. yes_eqb (ap (λ r. r.carried k) e)), tt)),
        ),
      ),
    )

module _ (c : Setting) (few : c.sites ≤ 4) (i p : ℕ) (h : i < 4) (b : List ℕ) (at : ℕ) (fit : at + 48 ≤ length b) where
  abbrev kind_formed : Msg → Bool
  kind_formed x = let u = put_message b at i x in eqb (load 1 u (at + 3)) 1 || (eqb (load 1 u (at + 3)) 2 && heartbeat_formed i u at)

  kind_formed_lem : (x : Msg) → LawfulMsg c i p x → T (kind_formed x)
  unfolding put_message
  kind_formed_lem (Update r) ok =
      let u = put_record b at 1 r in
      yes_or_l (eqb (load 1 u (at + 3)) 1) (eqb (load 1 u (at + 3)) 2 && heartbeat_formed i u at) (yes_eqb (kind_put b at 1 r fit (record_fits c p r few ok.1) (omega arith)))
  kind_formed_lem (Heartbeat t) ok =
      let u = put_record b at 2 (beat i t) in
      let small = beat-fits i t (omega arith) (stamp-fits c t ok) in
      yes_or_r (eqb (load 1 u (at + 3)) 1) (eqb (load 1 u (at + 3)) 2 && heartbeat_formed i u at)
      (yes_and (eqb (load 1 u (at + 3)) 2) (heartbeat_formed i u at) (yes_eqb (kind_put b at 2 (beat i t) fit small (omega arith)))
      (heartbeat_formed_lem i t u at (record_put_record b at 2 (beat i t) fit small (omega arith))))

  pub message_formed_put : (x : Msg) → LawfulMsg c i p x → T (message_formed c i p (put_message b at i x) at)
  unfolding message_formed
  message_formed_put x ok =
      yes_and (kind_formed x) (message_lawful c i p (message_at (put_message b at i x) at)) (kind_formed_lem x ok)
      (subst (λ y. T (message_lawful c i p y)) (sym (message_put_message b at i x fit (omega arith) (message_fits c i p x few ok))) (message_lawful_lem c i p x ok))

-- ---- what well-formed bytes say is lawful

pub record_read : (c : Setting) (p : ℕ) (n : List ℕ) (at : ℕ) → T (record_formed c p n at) → LawfulRec c p (record_at n at)
unfolding record_formed record_at
record_read c p n at t =
    record_facts c p (record_at n at) (and_yes (eqb (load 1 n (at + 3)) 1) (record_lawful c p (record_at n at)) t).1 (load_vec-beyond n (at + 16))

short-read : (b : List ℕ) (at : ℕ) → NarrowMsg (message_at b at)
unfolding message_at record_at
short-read b at = cond_elim NarrowMsg (eqb (load 1 b (at + 3)) 1) (λ e. load_vec-beyond b (at + 16)) (λ e. tt)

pub message_read : (c : Setting) (i p : ℕ) (b : List ℕ) (at : ℕ) → T (message_formed c i p b at) → LawfulMsg c i p (message_at b at)
unfolding message_formed
message_read c i p b at t =
    message_facts c i p (message_at b at)
    (and_yes (eqb (load 1 b (at + 3)) 1 || (eqb (load 1 b (at + 3)) 2 && heartbeat_formed i b at)) (message_lawful c i p (message_at b at)) t).1 (short-read b at)
