-- `record::formed::record_in_range` meets its contract: the test that fails, or the last one where all others were passed.
use mathlib.Core.Path.{sym, ap, ◌∙◌}
use mir.Syntax.{w32}
use mir.Facts.{to_z-of_z}
use borrow.Author.Tests.{lt-ltb, le-ltb}
use Rattle.codec.proofs.Tests.{fails, passes, every_fails, every_last}
use Rattle.protocol.specs.Needs.{level_lawful}
use Rattle.record.specs.RecordBytes.{record_at}
use Rattle.record.specs.Ranges.{record_in_range}
use Rattle.record.proofs.formed.record_in_range.Goals as goal

pub returns-then-load-ge64 : goal.returns-then-load-ge64
unfolding record_in_range record_at
returns-then-load-ge64 c = sym (every_fails _ 0 (rw (← c.load.ensures) (le-ltb _ 64 c.if-load-ge64.true)))

pub returns-then-setting-load : goal.returns-then-setting-load
unfolding record_in_range record_at
returns-then-setting-load c = sym (every_fails _ 1 (rw (← c.load-2.ensures) (le-ltb _ _ c.if-setting-load.true)))

pub returns-then-load-ge-QUALITIES : goal.returns-then-load-ge-QUALITIES
unfolding record_in_range record_at
returns-then-load-ge-QUALITIES c = sym (every_fails _ 2 (rw (← c.load-3.ensures) (le-ltb _ 3 c.if-load-ge-QUALITIES.true)))

pub returns-then-not-level_lawful : goal.returns-then-not-level_lawful
unfolding record_in_range record_at
returns-then-not-level_lawful c =
    let got = c.load_level in
    let known = ap level_lawful (to_z-of_z {w = w32} (record { sfits = got.type_inv }) ∙ got.ensures) in
    sym (every_fails _ 3 (sym known ∙ fails c.level_lawful.ensures c.if-not-level_lawful.true))

pub returns-then-not-stamp_lawful : goal.returns-then-not-stamp_lawful
unfolding record_in_range record_at
returns-then-not-stamp_lawful c = sym (every_fails _ 4 (rw (← c.load-4.ensures) (fails c.stamp_lawful.ensures c.if-not-stamp_lawful.true)))

pub returns : goal.returns
unfolding record_in_range record_at
returns c =
    let got = c.load_level in
    let known = ap level_lawful (to_z-of_z {w = w32} (record { sfits = got.type_inv }) ∙ got.ensures) in
    let yes_key = lt-ltb _ 64 (rw c.load.ensures at c.if-load-ge64.false) in
    let yes_source = lt-ltb _ _ (rw c.load-2.ensures at c.if-setting-load.false) in
    let yes_quality = lt-ltb _ 3 (rw c.load-3.ensures at c.if-load-ge-QUALITIES.false) in
    let yes_level = sym known ∙ passes c.level_lawful.ensures c.if-not-level_lawful.false in
    let yes_stamp = rw c.load-4.ensures at (passes c.stamp_lawful.ensures c.if-not-stamp_lawful.false) in
    c.vector_formed.ensures ∙ sym (every_last _ (yes_key, (yes_source, (yes_quality, (yes_level, (yes_stamp, tt))))))
