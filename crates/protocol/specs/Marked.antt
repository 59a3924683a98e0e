-- Eleven small examples, P1 to P11, of the definitions that the steps use, as one statement.
use Rattle.std.specs.Prelude.{ℕ, zero, suc, ◌≡◌, true, false, [], ◌∷◌, pos}
use Rattle.std.proofs.Math.Option.{some}
use Rattle.codec.specs.Tabulate.{tabulate}
use Rattle.vector.specs.Vec.{Vec, width, raised}
use Rattle.protocol.specs.Record.{Setting, partition_of, Rec, newer, newest, fits_page}
use Rattle.protocol.specs.Needs.{get_ready, put_ready, read_ready}
use Rattle.protocol.specs.Serve.{begun}

-- four entries
unfoldable pub vec : (a b c d : ℕ) → Vec
vec a b c d zero = a
vec a b c d (suc zero) = b
vec a b c d (suc (suc zero)) = c
vec a b c d (suc (suc (suc i))) = d

-- a record of key 0
unfoldable pub rec : (stamp site : ℕ) → Vec → Rec
rec t m v = record { id = record { key = 0; source = m; stamp = t }; quality = 0; level = pos 0; carried = v }

-- four sites
unfoldable pub four : (partitions : ℕ) → Setting
four p = record { sites = 4; partitions = p }

pub record Marked : Type 0 where
  pub P1 : newer (four 4) (rec 100 1 (vec 0 0 0 0)).id (rec 100 0 (vec 0 0 0 0)).id ≡ true
  pub P2 : newer (four 4) (rec 101 0 (vec 0 0 0 0)).id (rec 100 3 (vec 0 0 0 0)).id ≡ true
  pub P3 : (get_ready 2 (vec 5 0 7 0) (vec 4 0 8 0) ≡ true) × (get_ready 0 (vec 5 0 7 0) (vec 4 0 8 0) ≡ false)
  pub P4 : read_ready (vec 5 0 7 0) (vec 4 0 8 0) ≡ false
  pub P5 : (put_ready (vec 100 3 0 0) 90 100 ≡ false) × (put_ready (vec 100 3 0 0) 90 101 ≡ true)
  pub P6 : put_ready (vec 100 3 0 0) 101 101 ≡ false
  pub P7 : tabulate width (raised (vec 3 9 0 0) (vec 5 2 0 0) 1 12) ≡ 5 ∷ 12 ∷ 0 ∷ 0 ∷ []
  pub P8 : tabulate width (begun (vec 12 10 0 0) (vec 9 11 0 0) []).vec ≡ 12 ∷ 11 ∷ 0 ∷ 0 ∷ []
  pub P9 : newest (four 4) (fits_page 0 (vec 20 10 0 0)) (rec 20 0 (vec 0 15 0 0) ∷ rec 18 1 (vec 0 0 0 0) ∷ []) ≡ some (rec 18 1 (vec 0 0 0 0))
  pub P10 : fits_page 0 (vec 10 4 0 0) (rec 11 0 (vec 10 4 0 0)) ≡ true
  pub P11 : (partition_of (four 4) 63 ≡ 3) × (partition_of (four 3) 63 ≡ 0)
