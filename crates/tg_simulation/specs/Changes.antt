-- How outcomes change: by what is done before them, and by other words for their endings.
use Rattle.std.specs.Prelude.{ℕ, ◌+◌, max, List, [], ◌++◌, Option, Some, None, Bool, if◌then◌else◌}
use Rattle.tg_simulation.specs.Outcomes.{End, Outcome, ended, out_of_fuel, stuck}

-- What comes of first doing a thing, and then what has this outcome.

abbrev pub first_written : List ℕ → Option (List ℕ) → Option (List ℕ)
first_written bytes None = None
first_written bytes (Some output) = Some (bytes ++ output)

abbrev pub writes_first : {Ending : Type 0} → List ℕ → Outcome Ending → Outcome Ending
writes_first bytes o = record o {
  output = bytes ++ o.output;
  output_past_limit = first_written bytes o.output_past_limit;
}

abbrev pub costs : {Ending : Type 0} → ℕ → Outcome Ending → Outcome Ending
costs k o = record o { cost = k + o.cost }

-- something opens, whose weight with what is open is above the stack or isn't
abbrev pub passes_limit : {Ending : Type 0} → (above : Bool) → Outcome Ending → Outcome Ending
passes_limit above o = record o {
  output_past_limit = if above then Some [] else o.output_past_limit;
}

abbrev pub reaches : {Ending : Type 0} → (depth : ℕ) → Outcome Ending → Outcome Ending
reaches depth o = record o { deepest = max depth o.deepest }

-- The same outcome, with its ending told in other words.

abbrev pub map_end : {A B : Type 0} → (A → B) → End A → End B
map_end f (ended e) = ended (f e)
map_end f out_of_fuel = out_of_fuel
map_end f stuck = stuck

abbrev pub map_ending : {A B : Type 0} → (A → B) → Outcome A → Outcome B
map_ending f o = record {
  end = map_end f o.end;
  output = o.output;
  input = o.input;
  heap = o.heap;
  cost = o.cost;
  output_past_limit = o.output_past_limit;
  deepest = o.deepest;
}
