-- A tag and a place lie in their tables, and each return is the branch of the definition.
use Rattle.std.proofs.Common.{◌≡◌, ◌+◌, ◌*◌, ◌%◌, ◌<◌, ◌&&◌, ap, ap₂, arith}
use Rattle.folds.proofs.Tests.{all_step}
use Rattle.folds.proofs.Arrays.{marked_step, marked_new}
use Rattle.plan_rules.specs.declared.TaskRow.{TaskRow}
use Rattle.plan_layout.specs.Layout.{task_rows_ok}
use Rattle.plan_layout.proofs.Unique.{tag_key, place_key, seen_code}
use Rattle.plan_layout.proofs.check_tasks.Goals as goal

pub loop-i-preserved : goal.loop-i-preserved
unfolding task_rows_ok
loop-i-preserved c =
    let l = c.loop-i in
    let row = c.task_at-row.ensures.read in
    let tag : c.from-tag.result ≡ tag_key c.args.part.now l.i = rw c.from-tag.ensures (ap (λ (r : TaskRow). r.tag) row) in
    let place : c.from.result % 8 * 256 + c.from-in-loop-i.result ≡ place_key c.args.part.now l.i = rw (c.from.ensures, c.from-in-loop-i.ensures, row) in
    let low : tag_key c.args.part.now l.i < 256 = omega (arith, tag, c.task_at-row.ensures.tag) in
    let below : place_key c.args.part.now l.i < 2048 = omega (arith, place) in
    record {
      tags = marked_step _ _ _ l.invariant.tags tag;
      places = marked_step _ _ _ l.invariant.places place;
      ok = all_step _ _ l.invariant.ok (rw (c.task_ok.ensures, c.task_spare.ensures, row));
      fresh = all_step _ _ l.invariant.fresh (rw (l.invariant.tags, l.invariant.places, tag, place) (ap₂ ◌&&◌ (marked_new _ _ _ _ low) (marked_new _ _ _ _ below)));
    }

pub returns-then-not-ok : goal.returns-then-not-ok
returns-then-not-ok c = let e = seen_code c.loop-i.invariant (omega arith) c.requires (λ k. (c.type_inv.part k).fits) in rw c.if-not-ok.true at e

pub returns-then-not-fresh : goal.returns-then-not-fresh
returns-then-not-fresh c =
    let e = seen_code c.loop-i.invariant (omega arith) c.requires (λ k. (c.type_inv.part k).fits) in rw (c.if-not-ok.false, c.if-not-fresh.true) at e

pub returns : goal.returns
returns c =
    let e = seen_code c.loop-i.invariant (omega arith) c.requires (λ k. (c.type_inv.part k).fits) in rw (c.if-not-ok.false, c.if-not-fresh.false) at e
