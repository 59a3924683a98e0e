-- P1 to P11 hold: the checker computes each.
use mathlib.Core.Path.{refl}
use Rattle.codec.specs.Tabulate.{tabulate}
use Rattle.protocol.specs.Marked.{vec, rec, four, Marked}
use Rattle.protocol.proofs.Runs.{computing}

pub marked : Marked
unfolding computing vec rec four tabulate
marked = record { P1 = refl; P2 = refl; P3 = (refl, refl); P4 = refl; P5 = (refl, refl); P6 = refl; P7 = refl; P8 = refl; P9 = refl; P10 = refl; P11 = (refl, refl) }
