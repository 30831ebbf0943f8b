-- The slots from c on are empty exactly when what is left of the largest number is below 256 ^ c.
use Rattle.machine_state.proofs.Ground.{rules}
use Rattle.machine_state.proofs.Numbers.{le_bytes, part_tail}
use Rattle.machine_state.proofs.tail_ok.Goals as goal

pub returns : goal.returns
returns c =
    rw (le_bytes c.args.queue c.from_le_bytes-taken.ensures, c.from.ensures)
    (part_tail c.args.queue (λ k l. search rules) _ c.requires.few c.requires.some)
