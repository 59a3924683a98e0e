-- What a read needs to hear: of every site, or of every site but one that is spared. Whether it has heard enough, and what it lacks where it has not.
use Rattle.std.specs.Prelude.{ℕ, Bool}
use Rattle.std.specs.declared.option.Option.{Option}
use Rattle.std.specs.declared.option.Option.TheVariants.{Some, None}
use Rattle.vector.specs.Vec.{Vec, at_most, at_most_but, first_short, first_short_but}
use Rattle.protocol.specs.declared.reasons.Reason.{Reason}

abbrev pub enough : Option ℕ → (needed heard : Vec) → Bool
enough None v w = at_most v w
enough (Some m) v w = at_most_but m v w

-- the lowest site that is short
abbrev pub short : Option ℕ → (needed heard : Vec) → ℕ
short None v w = first_short v w
short (Some m) v w = first_short_but m v w

abbrev pub lacks : Option ℕ → (needed heard : Vec) → Reason
lacks o v w = Reason.Wait (short o v w) (v (short o v w))
