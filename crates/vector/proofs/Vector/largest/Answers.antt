-- `vector::Vector::largest` meets its contract: it is a fold over the four entries.
use mathlib.Core.Path.{◌≡◌, refl, ◌∙◌}
use mathlib.Core.List.{List, [], ◌∷◌}
use native.Mathlib.Omega.{arith}
use Prim.Native.Nat.{ℕ, max}
use lib.ListN.{length}
use Rattle.std.specs.Prelude.{fold}
use borrow.Author.Rules.{rules}
use Rattle.vector.specs.Vec.{width, largest, largest_of}
use Rattle.vector.specs.Entries.{entry}
use Rattle.vector.proofs.Vector.largest.Goals as goal

folded : (e : List ℕ) → length e ≡ width → fold (λ a b. max a b) 0 e ≡ largest (entry e)
unfolding largest largest_of entry
folded (a ∷ b ∷ c ∷ d ∷ []) l = refl
folded [] l = absurd (omega arith)
folded (a ∷ []) l = absurd (omega arith)
folded (a ∷ b ∷ []) l = absurd (omega arith)
folded (a ∷ b ∷ c ∷ []) l = absurd (omega arith)
folded (a ∷ b ∷ c ∷ d ∷ x ∷ e) l = absurd (omega arith)

pub returns : goal.returns
returns c =
    let over : c.fold.result ≡ fold (λ a b. max a b) 0 c.args.self.entries = search rules in
    over ∙ folded _ (search rules)
