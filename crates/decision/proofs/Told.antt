-- What is known of a session that was loaded: how many marks it has, and that the site of an open one exists.
use Prim.Native.Nat.{ℕ, ◌<◌}
use mathlib.Core.Path.{◌≡◌, sym, ap, subst, ◌∙◌}
use mathlib.Core.Bool.{true}
use mathlib.Core.List.{List}
use lib.Dec.{T}
use lib.ListN.{length}
use Rattle.codec.specs.Le.{load}
use Rattle.codec.proofs.Tabulate.{tab_length}
use Rattle.protocol.specs.State as State
use Rattle.parts.specs.declared.Session.{Session}
use Rattle.parts.specs.Session.{session_in}
use Rattle.parts.specs.Meaning.{as_session}
use Rattle.table.specs.Parts.{session_of}
use Rattle.table.specs.Decode.{setting_in}
use Rattle.lawful.specs.WellFormed.{well_formed}
use Rattle.decision.proofs.Formed.{session_here}

pub count_told : (x : Session) (b : List ℕ) → as_session x ≡ session_in b → x.marks.page.count ≡ load 1 b 3
unfolding session_in
count_told x b e = sym (tab_length x.marks.page.count _) ∙ ap (λ (y : State.Session). length y.page.marks) e ∙ tab_length (load 1 b 3) _

pub here_told : (x : Session) (t : List ℕ) → T (well_formed t) → (s : ℕ) → s < 16 → as_session x ≡ session_in (session_of t s) → x.open ≡ true → x.site < (setting_in t).sites
here_told x t w s h e o =
    let here = session_here t w s h (sym (ap (λ (y : State.Session). y.is_open) e) ∙ o) in
    subst (λ m. m < (setting_in t).sites) (sym (ap (λ (y : State.Session). y.site) e)) here
