-- `search::newest` meets its contract: what stands at the place that was found, if any.
use mathlib.Core.Path.{sym, ap, ◌∙◌}
use Rattle.protocol.specs.Search.{newest_place, placed}
use Rattle.protocol.proofs.Places.{newest_is_placed}
use Rattle.parts.specs.Node.{store_in}
use Rattle.search.proofs.newest.Goals as goal

pub returns : goal.returns
unfolding store_in
returns c = (
  λ d. c.found_at.ensures.0 ∙ ap (placed _) (c.newest_place.ensures.1 d ∙ ap (newest_place d _ _) c.held-held.ensures) ∙ sym (newest_is_placed d _ _ _),
  c.found_at.ensures.1,
)
