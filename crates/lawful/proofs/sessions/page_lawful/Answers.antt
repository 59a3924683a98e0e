-- `lawful::sessions::page_lawful` meets its contract, whichever test fails first.
use mathlib.Core.Path.{sym}
use borrow.Author.Tests.{lt-leb, le-leb}
use Rattle.codec.proofs.Tests.{fails, passes, every_fails, every_last}
use Rattle.lawful.proofs.KeyTests.{page_lawful_in}
use Rattle.lawful.proofs.sessions.page_lawful.Goals as goal

pub returns-then-count-gt8 : goal.returns-then-count-gt8
returns-then-count-gt8 c = rw page_lawful_in (sym (every_fails _ 0 (lt-leb _ 8 (rw c.load-count.ensures at c.if-count-gt8.true))))

pub returns-then-not-page_keys : goal.returns-then-not-page_keys
returns-then-not-page_keys c =
    let count = c.load-count.ensures in
    let no = rw count at (fails c.page_keys.ensures c.if-not-page_keys.true) in
    rw page_lawful_in (sym (every_fails _ 1 no))

pub returns-then-not-vector_formed : goal.returns-then-not-vector_formed
returns-then-not-vector_formed c =
    let no = fails c.vector_formed.ensures c.if-not-vector_formed.true in
    rw page_lawful_in (sym (every_fails _ 2 no))

pub returns : goal.returns
returns c =
    let count = c.load-count.ensures in
    let few = rw count at c.if-count-gt8.false in
    let yes_keys = rw count at (passes c.page_keys.ensures c.if-not-page_keys.false) in
    let yes_vec = passes c.vector_formed.ensures c.if-not-vector_formed.false in
    rw (page_lawful_in, c.vector_formed-2.ensures) (sym (every_last _ (le-leb _ 8 few, (yes_keys, (yes_vec, tt)))))
