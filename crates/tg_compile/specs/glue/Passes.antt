-- What the parts of the compilation promise one another.
use Rattle.std.specs.Prelude.{◌<◌, ◌≤◌, ◌^◌, ℕ, nat_lt, Bool, true, List, [], ◌∷◌, IsTrue}
use Rattle.std.specs.List.{Contains, list_all}
use Rattle.tg_machine_state.specs.State.{most_words}
use Rattle.tg_frame.specs.Homes.{slot_bound}
use Rattle.tg_tree.specs.declared.fragments.Fragment.{Fragment}
use Rattle.tg_tree.specs.declared.fragments.Literal.{Literal}
use Rattle.tg_tree.specs.glue.Plain.{plain_fragment}
use Rattle.tg_tree.specs.Tree.{Ts, Linear, Function}
use Rattle.tg_tree.specs.Named.{Named, function, literal, fault, temporary, constant}
use Rattle.tg_tree.specs.Named.{named_flat, HasItsTemps}
use Rattle.tg_tree.specs.Shapes.{IsClosed, IsWellMarked}
use Rattle.tg_translate_laws.specs.laws.Laws.{names}
use Rattle.tg_instr.specs.Codes.{has_slots_below, names_registers}
use Rattle.tg_instr.specs.declared.codes.Allocated.{Allocated}
use Rattle.tg_munch.specs.Naming.{names_allowed}
use Rattle.tg_redundancy.specs.mirror.Known.{known_code}
use Rattle.tg_irc_definition.specs.Policies.{Rule}
use Rattle.tg_regalloc.specs.Conditions.{is_fixed}
use Rattle.tg_regalloc.specs.declared.allocations.Allocation.{Allocation}
use Rattle.tg_emit.specs.Conditions.{has_code}
use Rattle.tg_emit.specs.mirror.Lines.{words, functions_lines, is_long, assembly_of}
use Rattle.tg_emit_laws.specs.Programs.{
  function_labels,
  literal_labels,
  is_among,
  labels_differ,
  calls_those,
}
use Rattle.tg_code_bounds.specs.Allocating.{chosen, IsAllocationOf, has_small_frame}
use Rattle.tg_canon_trace_proof.specs.Flattened.{flattened}
use Rattle.tg_compile.specs.declared.passes.Passes.{Passes}
use Rattle.tg_compile.specs.declared.programs.Placement.{Placement}
use Rattle.tg_compile.specs.Prepared.{prepared_function}

-- a function whose body is closed, whose temporaries its frame has drawn, and whose slots are few
pub record IsWellFormed (f : Function Ts) : Type 0 where
  pub closed : IsClosed f.body
  pub drawn : HasItsTemps names f
  pub few : f.slots < 16777216

-- a function of the code, prepared
abbrev pub prepared_fragment : Passes → Fragment → Function Ts
prepared_fragment passes one = prepared_function passes (plain_fragment one)

-- the law that what passes over trees make of such a function is such a function
abbrev pub PreparedIsWellFormed : Type 0
PreparedIsWellFormed =
    (passes : Passes) (f : Function Ts) →
    IsWellFormed f → IsWellFormed (prepared_function passes f)

-- a function whose flat code is well marked, and whose temporaries its frame has drawn
pub record IsWellMarkedFunction (f : Function (List Linear)) : Type 0 where
  pub marked : IsWellMarked f.body
  pub drawn : HasItsTemps (λ e. named_flat e []) f

-- the law that a function which is well formed has such flat code
abbrev pub FlatCodeIsWellMarked : Type 0
FlatCodeIsWellMarked = (f : Function Ts) → IsWellFormed f → IsWellMarkedFunction (flattened f)

-- a function whose instructions name registers that code names before allocation, and slots of
-- their frame
pub record NamesItsOwn (f : Function Ts) : Type 0 where
  pub registers : IsTrue (list_all (names_registers is_fixed) (known_code (chosen f).code))
  pub slots : IsTrue (list_all (has_slots_below f.slots) (known_code (chosen f).code))

-- the law that the instructions of a function do, where its parameters have slots of its frame
abbrev pub CodeNamesItsOwn : Type 0
CodeNamesItsOwn = (f : Function Ts) → slot_bound f.params ≤ f.slots → NamesItsOwn f

-- what a program may name: functions and literals that are there, faults whose numbers have 20
-- bits, and any temporaries and constants
abbrev pub is_there : (functions literals : List ℕ) → Named → Bool
is_there functions literals (function label) = is_among functions label
is_there functions literals (literal label) = is_among literals label
is_there functions literals (fault n) = nat_lt n (2 ^ 20)
is_there functions literals (temporary i) = true
is_there functions literals (constant n) = true

-- The law that code over registers names no more than its function does: whatever test all names of
-- the body pass, and each temporary and the fault 0, those of the code pass, by every rule.
abbrev pub CodeNamesNoMore : Type 0
CodeNamesNoMore =
    (allowed : Named → Bool) →
    ((i : ℕ) → IsTrue (allowed (temporary i))) → IsTrue (allowed (fault 0)) →
    (f : Function Ts) → ((x : Named) → Contains (names f.body) x → IsTrue (allowed x)) →
    (rule : Rule) (a : Allocation) → IsAllocationOf rule f a →
    IsTrue (list_all (names_allowed allowed) a.done.code.list)

-- code whose faults have 20 bits
abbrev pub have_codes : Allocated → Bool
have_codes f = list_all has_code f.code.list

-- Functions over registers and literals whose labels differ, with a body, and that name one another
-- alone.
pub record AreLinked (codes : List Allocated) (literals : List Literal) : Type 0 where
  pub functions_differ : IsTrue (labels_differ (function_labels codes))
  pub literals_differ : IsTrue (labels_differ (literal_labels literals))
  pub has_body : IsTrue (is_among (function_labels codes) 32)
  pub names :
      IsTrue (list_all (calls_those (function_labels codes) (literal_labels literals)) codes)
  pub faults : IsTrue (list_all have_codes codes)

-- Functions over registers whose frames are below 2 ^ 29 bytes, and whose code fits its segment: as
-- functions, and as an assembly with any literals.
pub record AreSmall (codes : List Allocated) : Type 0 where
  pub frames : IsTrue (list_all has_small_frame codes)
  pub functions : words (functions_lines (is_long codes) codes) < most_words
  pub assembly : (literals : List Literal) → words (assembly_of codes literals) < most_words

-- an allocation of its code and its placement
abbrev pub allocation_of : Allocated × Placement → Allocation
allocation_of (done, p) = record {
  done = done;
  registers = p.registers;
  rounds = p.rounds;
  all_in_frame = p.all_in_frame;
  slots = p.slots;
}

-- each function has its code and its placement, in their order
module _ (rule : Rule) where
  abbrev pub CompileApart : List (Function Ts) → List Allocated → List Placement → Type 0
  CompileApart [] [] [] = Unit {0}
  CompileApart (f ∷ functions) (code ∷ codes) (p ∷ placements) =
      IsAllocationOf rule f (allocation_of (code, p)) × CompileApart functions codes placements
  CompileApart _ _ _ = ⊥

-- the law that functions are compiled to small ones, whatever the policy
abbrev pub CodeIsSmall : List (Function Ts) → Type 0
CodeIsSmall functions =
    (rule : Rule) (codes : List Allocated) (placements : List Placement) →
    CompileApart rule functions codes placements → AreSmall codes
