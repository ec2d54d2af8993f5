-- A program's run as one that code may follow.
use Rattle.std.proofs.Common.{◌≡◌, zero, suc, refl}
use Rattle.std.specs.Prelude.{◌≢◌}
use Rattle.tg_machine_state.specs.declared.ends.RunEnd.TheVariants.{StackFull}
use Rattle.tg_simulation.specs.Outcomes.{End, ended, out_of_fuel, stuck}
use Rattle.tg_simulation.specs.Changes.{map_end}
use Rattle.tg_semantics.specs.Values.{Ending, normal, by_nil, by_index, by_division, by_chr, by_substring, by_size, by_heap, by_overflow, by_exit}
use Rattle.tg_semantics.specs.MachineEnds.{machine_end}
use Rattle.tg_semantics.specs.MachineRuns.{TurnsAsSource}

pub turns_as_source : TurnsAsSource
turns_as_source rest w zero = refl
turns_as_source rest w (suc n) = refl

pub no_ending_is_full : (e : End Ending) → map_end machine_end e ≢ ended StackFull
no_ending_is_full (ended normal) h = cc
no_ending_is_full (ended by_nil) h = cc
no_ending_is_full (ended by_index) h = cc
no_ending_is_full (ended by_division) h = cc
no_ending_is_full (ended by_chr) h = cc
no_ending_is_full (ended by_substring) h = cc
no_ending_is_full (ended by_size) h = cc
no_ending_is_full (ended by_heap) h = cc
no_ending_is_full (ended by_overflow) h = cc
no_ending_is_full (ended (by_exit i)) h = cc
no_ending_is_full out_of_fuel h = cc
no_ending_is_full stuck h = cc

pub only_stuck_is_stuck : (e : End Ending) → map_end machine_end e ≡ stuck → e ≡ stuck
only_stuck_is_stuck (ended e) h = cc
only_stuck_is_stuck out_of_fuel h = cc
only_stuck_is_stuck stuck h = refl
