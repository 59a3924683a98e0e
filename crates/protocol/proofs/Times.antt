-- The laws of the limits: times and stamps fit 8 bytes, and a clock's time can be a stamp.
use Prim.Native.Nat.{ℕ, ◌≤◌, ◌<◌}
use native.Mathlib.Omega.{arith}
use Rattle.codec.specs.Le.{span}
use Rattle.protocol.specs.Record.{Setting}
use Rattle.protocol.specs.Times.{time_limit, top_of}

pub time-fits : (t : ℕ) → t < time_limit → t < span 8
unfolding span
time-fits t h = omega arith

module _ (c : Setting) where
  pub top_fits : top_of c ≤ span 8
  unfolding top_of span
  top_fits = omega arith

  pub stamp-fits : (t : ℕ) → t < top_of c → t < span 8
  stamp-fits t h = omega (arith, top_fits)

  pub time-below_top : time_limit ≤ top_of c
  unfolding top_of
  time-below_top = omega arith
