-- `lawful::nodes::records_formed` meets its contract: the records below k are lawful, and `best` has the newest of each key among them.
use mathlib.Core.Path.{◌≡◌, sym, ap, subst, ◌∙◌}
use mathlib.Core.Bool.{Bool, true}
use mathlib.Core.List.{List}
use Prim.Native.Nat.{ℕ, ◌<◌}
use native.Mathlib.Omega.{arith}
use lib.Dec.{T, eqb}
use lib.ListN.{replicate, length-set, get_or-replicate}
use Rattle.codec.specs.Le.{load}
use Rattle.codec.specs.Below.{all_below}
use Rattle.codec.proofs.Tests.{no_and, fails, passes}
use Rattle.codec.proofs.Below.{all_below_none, all_below_more, all_below_fails}
use Rattle.protocol.specs.Record.{Setting}
use Rattle.protocol.specs.Meaning.{setting_of}
use Rattle.record.specs.RecordBytes.{record_at}
use Rattle.record.specs.RecordFormed.{record_formed}
use Rattle.record.proofs.RecordFormed.{record_read}
use Rattle.lawful.proofs.Bests.{bests_none, bests_at_most, bests_more, bests_all, kept-bytes}
use borrow.Author.Rules.{rules}
use Rattle.lawful.proofs.nodes.records_formed.Goals as goal

-- the key of a lawful record is in range
key_small : (d : Setting) (p : ℕ) (n : List ℕ) (at key : ℕ) {r : Bool} → r ≡ record_formed d p n at → r ≡ true → key ≡ load 1 n at → key < 64
unfolding record_at
key_small d p n at key e lawful q = omega (arith, (record_read d p n at (subst T (sym (passes e lawful)) tt)).key)

pub loop-k-init : goal.loop-k-init
loop-k-init c = (all_below_none _, search rules, bests_none _ (replicate 64 0) (λ k b. get_or-replicate 64 k 0 0 b))

pub returns-then-not-record_formed : goal.returns-then-not-record_formed
returns-then-not-record_formed c =
    let no = fails c.record_formed.ensures c.if-not-record_formed.true in
    no_and _ (all_below_fails c.args.held _ c.loop-k.k (omega arith) no)

pub bounds-best-key : goal.bounds-best-key
bounds-best-key c = key_small _ _ _ _ _ c.record_formed.ensures c.if-not-record_formed.false c.load-key.ensures

pub overflow_cast-best : goal.overflow_cast-best
overflow_cast-best c =
    let key = key_small _ _ _ _ _ c.record_formed.ensures c.if-not-record_formed.false c.load-key.ensures in
    omega (arith, bests_at_most _ _ _ c.loop-k.invariant.2 _ key)

pub later-requires : goal.later-requires
later-requires c =
    let key = key_small _ _ _ _ _ c.record_formed.ensures c.if-not-record_formed.false c.load-key.ensures in
    (search rules, omega arith, omega (arith, bests_at_most _ _ _ c.loop-k.invariant.2 _ key))

pub bounds-best-key-in-loop-k : goal.bounds-best-key-in-loop-k
bounds-best-key-in-loop-k c = key_small _ _ _ _ _ c.record_formed.ensures c.if-not-record_formed.false c.load-key.ensures

pub loop-k-preserved : goal.loop-k-preserved
unfolding record_at
loop-k-preserved c =
    let key = key_small _ _ _ _ _ c.record_formed.ensures c.if-not-record_formed.false c.load-key.ensures in (
      all_below_more c.loop-k.k _ c.loop-k.invariant.0 (passes c.record_formed.ensures c.if-not-record_formed.false),
      simp length-set c.loop-k.invariant.1,
      bests_more _ _ _ _ _ c.loop-k.invariant.1 key (sym c.load-key.ensures) c.loop-k.invariant.2 c.later.ensures.0,
    )

pub returns : goal.returns
returns c =
    let a = c.args in
    let d = setting_of a.setting in
    let e : c.loop-k.k ≡ a.held = omega arith in
    let best = bests_all a.n.now c.loop-k.best c.loop-k.invariant.1 (rw (← c.requires.3, ← e) c.loop-k.invariant.2) d in
    rw (rw e at c.loop-k.invariant.0) (c.same_places.ensures ∙ ap (λ (b : List ℕ). all_below 64 (λ k. eqb (load 1 a.s.now k) (load 1 b k))) best ∙ kept-bytes d a.n.now a.s.now)
