-- What is stored: `in_shelve`, `shelve_old` and `shelve_new`; and what is found: the newest that fits (`found_is`), by the search that goes over all (`found-newest`).
use mathlib.Core.Path.{◌≡◌, refl}
use mathlib.Core.Bool.{Bool}
use mathlib.Core.Logic.{◌⊎◌}
use mathlib.Core.List.Memᴰ
use mathlib.Core.List.{List}
use Rattle.protocol.specs.Record.{Setting, Rec, newest}
use Rattle.protocol.specs.Shelf.{shelve, found}
use Rattle.protocol.specs.Past.{◌∈◌}
use Rattle.protocol.proofs.Order.{NewestOf, newest_is}

module _ (c : Setting) where
  pub in_shelve : (l rs : List Rec) (r : Rec) → r ∈ shelve c l rs → (r ∈ l) ⊎ (r ∈ rs)
  unfolding shelve
  in_shelve l rs r m = Memᴰ.append_cases l m

  pub shelve_old : (l rs : List Rec) (r : Rec) → r ∈ l → r ∈ shelve c l rs
  unfolding shelve
  shelve_old l rs r m = Memᴰ.append_left rs m

  pub shelve_new : (l rs : List Rec) (r : Rec) → r ∈ rs → r ∈ shelve c l rs
  unfolding shelve
  shelve_new l rs r m = Memᴰ.append_right l m

  pub found-newest : (fit : Rec → Bool) (l : List Rec) → found c fit l ≡ newest c fit l
  unfolding found
  found-newest fit l = refl

  pub found_is : (fit : Rec → Bool) (l : List Rec) → NewestOf c fit l (found c fit l)
  unfolding found
  found_is fit l = newest_is c fit l
