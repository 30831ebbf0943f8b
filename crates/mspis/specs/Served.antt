-- What the printing program writes for some calls.
use Rattle.std.specs.Prelude.{ℕ, List}
use Rattle.std.specs.declared.option.Option.{Option}
use Rattle.std.specs.Io.KnownBytes.{Appends}
use Rattle.machine_state.specs.declared.State.{State}
use Rattle.print_calls.specs.Buffers.{Printed}

-- the lines of calls, made one after the other from the state s on, were written behind what had been; t is the state after them
pub record Wrote (before now : Option (List ℕ)) (f : List ℕ) (s : State) (calls : List ℕ) (t : State) : Type 0 where
  pub room : ℕ
  pub text : List ℕ
  pub printed : Printed f room s calls t text
  pub wrote : Appends before now text
