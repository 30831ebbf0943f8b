-- What holds at each turn is the work of `Going`; at the end it comes to the output of all calls.
use Rattle.std.proofs.Common.{refl, sym, ap, ◌∙◌, not, length-take-le, arith, rules}
use Rattle.folds.proofs.Ground.{true≢false}
use Rattle.mspis.proofs.Steps.{sound_zero}
use Rattle.mspis.proofs.Going.{started, turn_made, done, too_many}
use Rattle.mspis.proofs.serve_all.Goals as goal
use Rattle.mspis.proofs.serve_all.Goals.{else-loop-turn-test, then-loop-turn-test+in_ok-got+in_ok-served+else-not-served+then-got-eq0}

pub loop-turn-init : goal.loop-turn-init
loop-turn-init g c =
    record {
      calls = refl;
      out = refl;
      kept = omega arith;
      going = λ z.
          started _ _ _ _ c.start.ensures.refusal_value.1 (sound_zero _ _ z (c.start.ensures.sound_value z));
    }

pub loop-turn-preserved : goal.loop-turn-preserved
loop-turn-preserved g c =
    let i = c.loop-turn.invariant in
    let read = c.in_ok-got.ensures in
    let made = c.in_ok-served.ensures in
    let kept = c.keep-kept.ensures in
    record {
      calls = search rules;
      out = search rules;
      kept = omega (arith, kept.at_most);
      going = λ z.
          let p = i.going z in
          turn_made _ _ _ _ _ _ _ _ _ _ _ c.keep-kept.new.buf c.loop-turn._turn _ c.in_ok-got.got _ _ _ p
          i.kept i.calls (omega arith) (omega (arith, read.within)) read.front read.bytes made.used made.lines (made.all p.sound (omega arith)).1
          kept.count kept.moved (omega arith);
    }

pub returns-then-not-served : goal.returns-then-not-served
returns-then-not-served g c = λ z.
    let i = c.loop-turn.invariant in
    let all = (c.in_ok-served.ensures.all (i.going z).sound (omega arith)).0 in
    absurd (true≢false (sym c.if-not-served.true ∙ ap not all))

pub returns : goal.returns
returns g c = λ z.
    let i = c.loop-turn.invariant in
    let p = i.going z in
    elim c.loop-turn-test.branch [
      | else-loop-turn-test w ↦ too_many _ _ _ _ _ _ _ _ _ c.print_end.result p (omega (arith, w.loop-turn-test.false))
      | then-loop-turn-test+in_ok-got+in_ok-served+else-not-served+then-got-eq0 w ↦
          let read = w.in_ok-got.ensures in
          let made = w.in_ok-served.ensures in
          let kept = w.keep-kept.ensures in
          let last =
          turn_made _ _ _ _ _ _ _ _ _ _ _ w.keep-kept.new.buf c.loop-turn._turn _ w.in_ok-got.got _ _ c.loop-turn._turn p
          i.kept i.calls (omega arith) (omega (arith, read.within)) read.front read.bytes made.used made.lines (made.all p.sound (omega arith)).1
          kept.count kept.moved (omega arith) in
          let len = length-take-le c.loop-turn.kept c.loop-turn.calls (omega (arith, i.kept, i.calls)) in
          done _ _ _ _ _ _ _ w.keep-kept.new.buf w.keep-kept.result _ c.print_end.result
          (record { none = z; bytes = λ k _. omega (arith, c.type_inv.file k) })
          last (read.ended w.if-got-eq0.true (omega (arith, len, p.few))) (omega (arith, kept.at_most)) (rw (w.output-is, w.kept-is) at c.print_end.ensures)
    ]
