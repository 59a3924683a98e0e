-- Demand 3, read off the invariant: of a GET, and of a page as far as it has come.
use Prim.Native.Nat.{ℕ}
use mathlib.Core.Path.{◌≡◌, sym, ap, subst, ◌∙◌}
use mathlib.Core.Bool.{Bool, true, false, not}
use mathlib.Core.List.Memᴰ
use mathlib.Core.List.{List, []}
use lib.Dec.{T}
use Rattle.protocol.specs.Record.{Setting, partition_of, Id, Rec, of_key}
use Rattle.protocol.specs.Shelf.{found}
use Rattle.protocol.specs.State.{Session, State, setup}
use Rattle.protocol.specs.Event.{GET, Answer, Refusal, Refused, shown}
use Rattle.protocol.specs.Needs.{needs}
use Rattle.protocol.specs.Serve.{serve}
use Rattle.protocol.specs.Step.{step, after, log}
use Rattle.protocol.specs.Past.{◌∈◌, Write, Entry, History, served, shown_in, writer_past, history}
use Rattle.protocol.specs.Causal.{Covers, CoversAll, Genuine, GetCausal, PageCausal}
use Rattle.protocol.specs.Promises.{CausalGet, CausalPage}
use Rattle.protocol.proofs.Setting.{run_setting}
use Rattle.protocol.proofs.Shelf.{found_is}
use Rattle.protocol.proofs.Judge.{step_elim}
use Rattle.protocol.proofs.Invariant.{Below, AllBelow, Shows, PageInv, Told, Inv}
use Rattle.protocol.proofs.Sessions.{below_up, writer_below, search_shows, get_covers}
use Rattle.protocol.proofs.Steps.{run_inv}

-- ---- from the invariant

genuine_is : (ws : List Write) (W : List Rec) → ((r : Rec) → r ∈ W → Told ws r) → (k : ℕ) (a : Answer) → Shows W k a → Genuine ws k a
unfolding Genuine Shows
genuine_is ws W told k a s y m =
    let r = s y m in
    let K = told r.0 r.1 in
    (K.write, K.mem, K.same ∙ r.2, K.quality ∙ r.3, K.level ∙ r.4)

refused_get : (c : Setting) (h : History) (s k : ℕ) (w : Refusal) → GetCausal c h s k (Refused w)
unfolding Genuine shown_in served
refused_get c h s k w = record { genuine = λ y m. absurd (Memᴰ.not-nil m); covers = λ f. absurd f }

inv_get : (S : State) (h : History) → Inv S h → (s k : ℕ) → GetCausal S.net.setting h s k (step S (GET s k)).says
unfolding serve needs
inv_get S h J s k = step_elim S (GET s k) (λ o. GetCausal S.net.setting h s k o.says) (λ w. refused_get S.net.setting h s k w)
    (λ r t. let N = S.net in
    let x = S.session s in
    let p = partition_of N.setting k in
    let o = found N.setting (of_key k) (N.store x.site p) in
    record {
      genuine = genuine_is h.writes J.all J.told k (shown o) (search_shows N J.all J.net k (of_key k) (λ r u. u) x.site p o (found_is N.setting (of_key k) (N.store x.site p)));
      covers = λ a. get_covers N J.all J.net (h.of s) x (J.sessions s) t.0 k t.1.1.0;
    })

-- on an open page every READ stands against the reader's past and the past of every record on it
open_page : (S : State) (h : History) (s : ℕ) → Inv S h → T (S.session s).page.is_open → PageCausal S.net.setting h s
unfolding CoversAll AllBelow
open_page S h s J t = record {
  genuine = λ e m. genuine_is h.writes W J.told e.key e.says (Q.entries e m).shows;
  covers = λ e m y n k. cover e m y k (below_up W x.vec x.page.vec y Q.under ((J.sessions s).past y n));
  together = λ e d m n y i z j k. let F = (Q.entries d n).fits y i in
      cover e m z k (below_up W F.0.rec.carried x.page.vec z F.1 (writer_below S.net W J.net h.writes J.writes F.0.rec F.0.mem z (subst (λ u. z ∈ writer_past h.writes u) (sym F.0.same) j)));
}
  where
    W : List Rec
    W = J.all

    x : Session
    x = S.session s

    Q : PageInv S.net W (h.of s) x
    Q = (J.sessions s).page t

    cover : (e : Entry) → e ∈ (h.of s).page → (y : Id) → y.key ≡ e.key → Below W x.page.vec y → Covers S.net.setting e.key e.says y
    cover e m y k b = subst (Covers S.net.setting e.key e.says) b.same ((Q.entries e m).covers b.rec b.mem (ap (λ i. i.key) b.same ∙ k) b.heard b.carried)

blank_page : (c : Setting) (h : History) (s : ℕ) → (h.of s).page ≡ [] → PageCausal c h s
blank_page c h s z = record { genuine = λ e m. absurd (off e m); covers = λ e m. absurd (off e m); together = λ e d m. absurd (off e m) }
  where
    off : (e : Entry) → e ∈ (h.of s).page → ⊥
    off e m = Memᴰ.not-nil (rw z at m)

inv_page : (S : State) (h : History) → Inv S h → (s : ℕ) → PageCausal S.net.setting h s
inv_page S h J s = go (S.session s).page.is_open (λ t. t) (λ t. t)
  where
    go : (b : Bool) → (T b → T (S.session s).page.is_open) → (T (not b) → T (not (S.session s).page.is_open)) → PageCausal S.net.setting h s
    go true f g = open_page S h s J (f tt)
    go false f g = blank_page S.net.setting h s ((J.sessions s).blank (g tt))

-- ---- DEMAND 3

pub causal_get : CausalGet
causal_get c l es s k =
    subst (λ d. GetCausal d (history (log (setup c) es)) s k (step (after (setup c) es) (GET s k)).says) (run_setting c es)
    (inv_get (after (setup c) es) (history (log (setup c) es)) (run_inv c l es) s k)

pub causal_page : CausalPage
causal_page c l es s =
    subst (λ d. PageCausal d (history (log (setup c) es)) s) (run_setting c es) (inv_page (after (setup c) es) (history (log (setup c) es)) (run_inv c l es) s)
