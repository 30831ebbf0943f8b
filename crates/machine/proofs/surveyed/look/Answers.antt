use Rattle.machine.proofs.Ground.{sym, accepted_checked}
use Rattle.machine.proofs.surveyed.look.Goals as goal

pub fill_figures-requires : goal.fill_figures-requires
fill_figures-requires c =
    (accepted_checked (record { none = sym c.in_ok-check.ensures; bytes = λ k l. (c.type_inv.file k).fits }), c.requires)
