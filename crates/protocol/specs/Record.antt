-- The setup's constants; records and messages; the order of records and the search for the newest; what fits a read, and what it raises.
-- Laws of the order, of the search and of fitness are in proofs/Order.
use Rattle.std.specs.Prelude.{ℕ, ◌%◌, Bool, cond, ◌&&◌, ◌||◌, List, [], ◌∷◌, ltb, eqb, ℤ}
use Rattle.std.proofs.Math.Option.{Option, some, none}
use Rattle.vector.specs.Vec.{Vec, at_most, raised}

-- what setup fixes
pub record Setting : Type 0 where
  pub sites : ℕ
  pub partitions : ℕ

-- R2
abbrev pub partition_of : Setting → ℕ → ℕ
partition_of c k = k % c.partitions

-- R80: what names a record. No two PUTs of a run are alike in all three
pub record Id : Type 0 where
  pub key : ℕ
  pub source : ℕ
  pub stamp : ℕ

pub record Rec : Type 0 where
  pub id : Id
  pub quality : ℕ
  pub level : ℤ
  pub carried : Vec

-- R16
pub data Msg : Type 0 where
  Update : (r : Rec) → Msg
  Heartbeat : (stamp : ℕ) → Msg

unfoldable pub stamp_in : Msg → ℕ
stamp_in (Update r) = r.id.stamp
stamp_in (Heartbeat t) = t

unfoldable pub records_in : Msg → List Rec
records_in (Update r) = r ∷ []
records_in (Heartbeat t) = []

-- ---- the order

-- of two records of a key with equal stamps the one of the site with the greater rank is newer
unfoldable pub rank : Setting → (key site : ℕ) → ℕ
rank c k m = m

-- R35: x is newer than y
unfoldable pub newer : Setting → Id → Id → Bool
newer c x y = ltb y.stamp x.stamp || (eqb y.stamp x.stamp && ltb (rank c y.key y.source) (rank c x.key x.source))

-- R36: of two alike the one stored first counts as newer
unfoldable pub newer_of : Setting → Rec → Option Rec → Rec
newer_of c r none = r
newer_of c r (some q) = cond (newer c q.id r.id) q r

-- the newest of the records, in their order of storing, that fit
unfoldable pub newest : Setting → (Rec → Bool) → List Rec → Option Rec
newest c fit [] = none
newest c fit (r ∷ rs) = cond (fit r) (some (newer_of c r (newest c fit rs))) (newest c fit rs)

-- ---- what fits a read of key k: any record of the key for a GET (R44); for a READ a candidate (R38)

unfoldable pub of_key : ℕ → Rec → Bool
of_key k r = eqb r.id.key k

unfoldable pub fits_page : ℕ → Vec → Rec → Bool
fits_page k v r = of_key k r && at_most r.carried v

-- R37, by a record that is shown; nothing found raises nothing
unfoldable pub raised_by : Vec → Option Rec → Vec
raised_by v none = v
raised_by v (some r) = raised v r.carried r.id.source r.id.stamp
