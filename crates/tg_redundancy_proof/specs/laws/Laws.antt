-- What is known may be left out: known code may stand in the place of the code, in each function
-- alone and in all functions of a program together.
use Rattle.std.specs.Prelude.{List, map}
use Rattle.tg_tree.specs.Tree.{Function, Code}
use Rattle.tg_instr.specs.declared.instr.Instr.{Instr}
use Rattle.tg_instr.specs.Running.{everywhere, code_run}
use Rattle.tg_regalloc_proof.specs.Keeping.{AreHeld, DoesNoMore, Keeps, Surroundings, program}
use Rattle.tg_redundancy.specs.mirror.Known.{blocks_known, known_code}

abbrev pub with_known : Function (List Instr) → Function (List Instr)
with_known f = record f { body = known_code f.body }

-- and all functions of a program
abbrev pub known_program : Code (List Instr) → Code (List Instr)
known_program code = record {
  functions = map with_known code.functions;
  literals = code.literals;
}

-- whatever the function: nothing is asked of its code
abbrev pub KnownCodeKeeps : Type 0
KnownCodeKeeps = (f : Function (List Instr)) → Keeps (blocks_known f.body) f (with_known f)

-- a program with known code in each function does what it did, with as much fuel, and with no more
-- instructions, each of which counts a unit of work
abbrev pub KnownIsCorrect : Type 0
KnownIsCorrect =
    (functions : List (Function (List Instr))) (e : Surroundings) →
    AreHeld e.size functions →
    DoesNoMore
    (code_run (everywhere (λ one. 1)) (program functions e.literals) e.size e.floor e.room e.body
    e.input)
    (code_run (everywhere (λ one. 1)) (known_program (program functions e.literals)) e.size
    e.floor e.room e.body e.input)
