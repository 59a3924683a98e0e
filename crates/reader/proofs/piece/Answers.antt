-- `reader::piece` meets its contract: none beyond the end, and otherwise what is cut out.
use native.Mathlib.Omega.{arith}
use Rattle.reader.proofs.Pieces.{piece_cut, piece_none}
use Rattle.reader.proofs.piece.Goals as goal

pub returns-then-n-i : goal.returns-then-n-i
returns-then-n-i c = piece_none _ _ (omega arith)

pub returns : goal.returns
returns c = piece_cut _ _ _ (omega arith)
