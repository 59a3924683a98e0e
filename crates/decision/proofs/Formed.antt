-- What decisions ask of a well-formed table: the number of partitions, of a session the number of its marks and its site, and of a node how many
-- records it holds and whose they are.
use Prim.Native.Nat.{ℕ, ◌+◌, ◌≤◌, ◌<◌}
use native.Mathlib.Omega.{arith}
use mathlib.Core.Path.{◌≡◌}
use mathlib.Core.Bool.{true, ◌&&◌}
use mathlib.Core.List.{List}
use lib.Dec.{T, ltb, eqb}
use mir.Facts.{and_yes}
use Rattle.codec.specs.Le.{load}
use Rattle.codec.proofs.Tests.{cond_elim}
use Rattle.codec.proofs.Tabulate.{tab_length}
use Rattle.vector.proofs.Entries.{load_vec-beyond}
use Rattle.record.specs.RecordBytes.{record_at}
use Rattle.record.specs.Ranges.{record_lawful}
use Rattle.record.specs.RecordFormed.{record_formed}
use Rattle.record.proofs.Ranges.{record_facts}
use Rattle.parts.specs.Node.{slot_at, held_in}
use Rattle.parts.specs.Session.{mark_at, session_in}
use Rattle.table.specs.Parts.{session_of, site_of, node_of}
use Rattle.table.specs.Decode.{setting_in}
use Rattle.lawful.specs.WellFormed.{well_formed}
use Rattle.lawful.proofs.LawfulValues.{lawful_here, lawful_count}
use Rattle.lawful.proofs.Facts.{formed}

module _ (t : List ℕ) (w : T (well_formed t)) where
  pub parts_some : 0 < (setting_in t).partitions
  parts_some = (formed t w).partition

  pub parts_at_most : (setting_in t).partitions ≤ 4
  parts_at_most = (formed t w).partitions

  pub session_here : (s : ℕ) → s < 16 → (session_in (session_of t s)).is_open ≡ true → (session_in (session_of t s)).site < (setting_in t).sites
  session_here s h e = lawful_here (setting_in t) (session_in (session_of t s)) ((formed t w).session s h).lawful e

  pub session-marks : (s : ℕ) → s < 16 → load 1 (session_of t s) 3 ≤ 8
  unfolding session_in
  session-marks s h =
      let b = session_of t s in
      omega (arith, lawful_count (setting_in t) (session_in b) ((formed t w).session s h).lawful, tab_length (load 1 b 3) (mark_at b))

  module _ (m p : ℕ) (hm : m < 4) (hp : p < 4) where
    abbrev n : List ℕ
    n = node_of (site_of t m) p

    pub node_held : held_in n ≤ 32
    node_held =
        let c = setting_in t in
        cond_elim (λ k. held_in n ≤ k → held_in n ≤ 32) (ltb m c.sites && ltb p c.partitions) (λ y l. l) (λ y l. omega arith) ((formed t w).node m p hm hp).held

    pub node_source : (k : ℕ) → k < held_in n → (record_at n (slot_at k)).id.source < 4
    unfolding record_formed record_at
    node_source k h =
        let F = formed t w in
        let r = record_at n (slot_at k) in
        let lawful = (and_yes (eqb (load 1 n (slot_at k + 3)) 1) (record_lawful (setting_in t) p r) ((F.node m p hm hp).slots k h)).1 in
        omega (arith, (record_facts (setting_in t) p r lawful (load_vec-beyond n (slot_at k + 16))).source)
