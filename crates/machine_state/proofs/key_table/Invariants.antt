-- The tasks below `u` have their seats in `keys`, the others none.
use Rattle.machine_state.proofs.Ground.{ℕ, ◌<◌, ◌≤◌, ◌≡◌, length, get_or, most_tasks, plan_of, processor_of, standing, no_seat, key_of}
use Rattle.machine_state.proofs.key_table.Given as goal

abbrev pub invariant-loop-u : goal.invariant-loop-u
invariant-loop-u l = record {
  long : length l.keys ≡ most_tasks;
  at : (v : ℕ) → v < l.u → get_or l.keys v 0 ≡ key_of (standing l.tasks v) (processor_of (plan_of l.file) v);
  rest : (v : ℕ) → v < most_tasks → l.u ≤ v → get_or l.keys v 0 ≡ no_seat;
}
