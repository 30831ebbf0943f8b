-- The hold times stand at the front of the table of figures.
use Rattle.analysis.proofs.Told.{front_long, times_given}
use Rattle.analysis.proofs.hold_times.Goals as goal

pub slice_bounds-holds-end : goal.slice_bounds-holds-end
slice_bounds-holds-end c = front_long c.fill_figures.ensures.figures

pub copy_from_slice-requires : goal.copy_from_slice-requires
copy_from_slice-requires c = front_long c.fill_figures.ensures.figures

pub returns : goal.returns
returns c = record { number = c.in_ok-check.ensures; given = times_given _ _ c.fill_figures.ensures.figures c.copy_from_slice.ensures.after }
