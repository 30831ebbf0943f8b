-- A turn's lines go on where those before ended.
use Rattle.std.proofs.Common.{ap, ◌∙◌, refl, arith, length}
use Rattle.folds.proofs.Parts.{part_rest}
use Rattle.mspis.proofs.Steps.{wrote_none, wrote_turn, lines_given, still_sound}
use Rattle.mspis.proofs.serve.Goals as goal

pub loop-used-init : goal.loop-used-init
loop-used-init g c = record { within = omega arith; long = refl; wrote = wrote_none _ _ _; sound = λ e. e }

pub returns-in_default-clause-all : goal.returns-in_default-clause-all
returns-in_default-clause-all g c = λ e h.
    let i = c.loop-used.invariant in
    absurd (lines_given c.in_default.ensures (i.sound e) (omega (arith, i.long, h)))

pub loop-used-preserved : goal.loop-used-preserved
loop-used-preserved g c =
    let l = c.loop-used in
    let w = c.in-Ok.ensures.made.written in
    let rest = part_rest l.used c.args.calls.now in
    record {
      within = omega (arith, w.within, ap length rest);
      long = w.long ∙ l.invariant.long;
      wrote = wrote_turn _ _ _ _ _ _ _ _ _ _ _ _ _ l.invariant.wrote w c.in_ok-write_all.ensures.bytes;
      sound = λ e. still_sound w.printed (l.invariant.sound e);
    }
