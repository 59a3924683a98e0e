-- No step changes the setup's constants.
use mathlib.Core.Path.{◌≡◌, refl, ◌∙◌}
use mathlib.Core.List.{List, [], ◌∷◌}
use Rattle.protocol.specs.Record.{Setting}
use Rattle.protocol.specs.State.{State, setup}
use Rattle.protocol.specs.Event.{Event}
use Rattle.protocol.specs.Change.{Change, SetSession, SetClock, Publish, Receive, set_clock, publish, receive, apply, apply_all}
use Rattle.protocol.specs.Step.{step, next, after}

apply-setting : (c : Change) (S : State) → (apply c S).net.setting ≡ S.net.setting
unfolding apply set_clock publish receive
apply-setting (SetSession s x) S = refl
apply-setting (SetClock m p t) S = refl
apply-setting (Publish m p x) S = refl
apply-setting (Receive i m p x) S = refl

pub changes-setting : (cs : List Change) (S : State) → (apply_all cs S).net.setting ≡ S.net.setting
unfolding apply_all
changes-setting [] S = refl
changes-setting (c ∷ cs) S = changes-setting cs (apply c S) ∙ apply-setting c S

pub next-setting : (S : State) (e : Event) → (next S e).net.setting ≡ S.net.setting
unfolding next
next-setting S e = changes-setting (step S e).changes S

pub after-setting : (S : State) (es : List Event) → (after S es).net.setting ≡ S.net.setting
unfolding after
after-setting S [] = refl
after-setting S (e ∷ es) = after-setting (next S e) es ∙ next-setting S e

pub run_setting : (c : Setting) (es : List Event) → (after (setup c) es).net.setting ≡ c
unfolding setup
run_setting c es = after-setting (setup c) es
