-- The search for the newest record as a loop goes over slots: by its place from 1, and 0 for none. That it is the protocol's `newest` is proved in
-- proofs/Places.
use Rattle.std.specs.Prelude.{ℕ, zero, suc, ◌-◌, Bool, cond, ◌||◌, eqb}
use Rattle.std.proofs.Math.Option.{Option, some, none}
use Rattle.protocol.specs.Record.{Setting, Rec, newer}

-- one more record that fits, at place n, beside what was found before it
unfoldable pub later_place : Setting → (ℕ → Rec) → (n b : ℕ) → ℕ
later_place c f n b = cond (eqb b 0 || newer c (f n).id (f (b - 1)).id) (suc n) b

-- one more record, that fits or not
unfoldable pub better_place : Setting → (Rec → Bool) → (ℕ → Rec) → (n b : ℕ) → ℕ
better_place c fit f n b = cond (fit (f n)) (later_place c f n b) b

unfoldable pub newest_place : Setting → (Rec → Bool) → (ℕ → Rec) → ℕ → ℕ
newest_place c fit f zero = 0
newest_place c fit f (suc n) = better_place c fit f n (newest_place c fit f n)

-- what stands at a place
unfoldable pub placed : (ℕ → Rec) → ℕ → Option Rec
placed f zero = none
placed f (suc i) = some (f i)
