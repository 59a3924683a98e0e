-- `lawful::sessions::session_formed` meets its contract, whichever test fails first.
use mathlib.Core.Path.{sym, ◌∙◌}
use borrow.Author.Tests.{lt-ltb, le-ltb}
use Rattle.codec.proofs.Tests.{fails, passes, every_fails, every_last}
use Rattle.parts.specs.Session.{session_in}
use Rattle.lawful.specs.LawfulValues.{session_lawful}
use Rattle.lawful.specs.WellFormed.{session_formed}
use Rattle.lawful.proofs.sessions.session_formed.Goals as goal

pub returns-then-load-ge-FLAGS : goal.returns-then-load-ge-FLAGS
unfolding session_formed
returns-then-load-ge-FLAGS c = sym (every_fails _ 0 (le-ltb _ 2 (rw c.load.ensures at c.if-load-ge-FLAGS.true)))

pub returns-then-load-ge-FLAGS-2 : goal.returns-then-load-ge-FLAGS-2
unfolding session_formed
returns-then-load-ge-FLAGS-2 c = sym (every_fails _ 1 (le-ltb _ 2 (rw c.load-2.ensures at c.if-load-ge-FLAGS-2.true)))

pub returns-then-not-site_lawful : goal.returns-then-not-site_lawful
unfolding session_formed session_lawful session_in
returns-then-not-site_lawful c =
    let no = fails c.site_lawful.ensures c.if-not-site_lawful.true in
    sym (every_fails _ 3 (every_fails _ 0 no))

pub returns-then-not-flags_formed : goal.returns-then-not-flags_formed
unfolding session_formed
returns-then-not-flags_formed c =
    let no = fails c.flags_formed.ensures c.if-not-flags_formed.true in
    sym (every_fails _ 2 no)

pub returns-then-not-vector_formed : goal.returns-then-not-vector_formed
unfolding session_formed session_lawful session_in
returns-then-not-vector_formed c =
    let no = fails c.vector_formed.ensures c.if-not-vector_formed.true in
    sym (every_fails _ 3 (every_fails _ 1 no))

pub returns : goal.returns
unfolding session_formed session_lawful session_in
returns c =
    let yes_open = lt-ltb _ 2 (rw c.load.ensures at c.if-load-ge-FLAGS.false) in
    let yes_paged = lt-ltb _ 2 (rw c.load-2.ensures at c.if-load-ge-FLAGS-2.false) in
    let yes_site = passes c.site_lawful.ensures c.if-not-site_lawful.false in
    let yes_marks = passes c.flags_formed.ensures c.if-not-flags_formed.false in
    let yes_vec = passes c.vector_formed.ensures c.if-not-vector_formed.false in
    c.page_lawful.ensures ∙ sym (every_last _ (yes_open, (yes_paged, (yes_marks, tt))) ∙ every_last _ (yes_site, (yes_vec, tt)))
