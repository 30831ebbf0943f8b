-- Bytes 14-15 are among the first 16, so what is read behind these does not change them.
use Rattle.folds.proofs.Ground.{arith}
use Rattle.streams.proofs.Laws.{told_most, told_still, all_plan}
use Rattle.streams.proofs.Known.{head_first, header_first, rest_first}
use Rattle.streams.proofs.read_whole.Goals as goal

pub returns-then-head-lt-HEADER-clause-whole : goal.returns-then-head-lt-HEADER-clause-whole
returns-then-head-lt-HEADER-clause-whole g c = (all_plan _ _ (omega arith) (λ l. omega arith), omega arith)

pub returns-then-end-le-HEADER-clause-whole : goal.returns-then-end-le-HEADER-clause-whole
returns-then-end-le-HEADER-clause-whole g c = (all_plan _ _ (omega arith) (λ l. told_most _ c.plan_length-end.ensures.value (omega arith)), omega arith)

pub returns-clause-whole : goal.returns-clause-whole
returns-clause-whole g c =
    let n = c.in_ok-rest.ensures.within in
    (all_plan _ _ (omega (arith, n)) (λ l. told_still _ _ c.plan_length-end.ensures.value (omega arith) (omega (arith, n))), omega (arith, n))

pub returns-then-head-lt-HEADER-clause-first : goal.returns-then-head-lt-HEADER-clause-first
returns-then-head-lt-HEADER-clause-first g c =
    let read = c.in_ok-head.ensures in
    head_first _ _ _ _ _ (omega arith) read.bytes (read.ended (omega arith)) (returns-then-head-lt-HEADER-clause-whole g c).0

pub returns-then-end-le-HEADER-clause-first : goal.returns-then-end-le-HEADER-clause-first
returns-then-end-le-HEADER-clause-first g c =
    let read = c.in_ok-head.ensures in
    let buf = c.read_full.new.buf in
    header_first _ _ buf _ _ _ (omega arith) (omega (arith, read.within)) (omega arith) read.bytes c.plan_length-end.ensures.value (omega arith)

pub returns-clause-first : goal.returns-clause-first
returns-clause-first g c =
    let head = c.in_ok-head.ensures in
    let rest = c.in_ok-rest.ensures in
    let buf = c.read_full.new.buf in
    rest_first _ _ _ buf _ c.read_full-2.new.buf c.plan_length-end.result _ _ (omega arith) (omega (arith, head.within)) (omega arith) c.type_inv.buf head.bytes rest.bytes (omega arith) c.plan_length-end.ensures.value (omega arith) rest.within rest.ended (returns-clause-whole g c).0
