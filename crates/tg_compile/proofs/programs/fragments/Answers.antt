use Rattle.std.proofs.Common.{◌≡◌, sym, ap, subst}
use Rattle.std.specs.Prelude.{List, All}
use Rattle.tg_syntax.specs.glue.Plain.{plain}
use Rattle.tg_tree.specs.Tree.{Ts, Function, Code}
use Rattle.tg_tree.specs.Named.{IsLinked}
use Rattle.tg_translate_laws.specs.laws.Laws.{names}
use Rattle.tg_compile.specs.Compiling.{findings_of, fragments_of}
use Rattle.tg_compile.specs.glue.Passes.{IsWellFormed}
use Rattle.tg_compile.proofs.Chain.{tree_of, translated_whole}
use Rattle.tg_compile.proofs.programs.fragments.Goals as goal

pub returns : goal.returns
returns c =
    let one = c.in_ok-program.program in
    let two = c.in_ok-below.below in
    let checked = c.args.checked.now in
    let tree : tree_of c.append.new.self.items c.append-2.new.self.items ≡ fragments_of checked.notes (plain checked.program.body) =
    translated_whole checked.notes (plain checked.program.body) c.in_ok-escaping.escaping one.functions.items two.functions.items c.append.new.self.items
    one.literals.items two.literals.items c.append-2.new.self.items c.in_ok-escaping.ensures c.in_ok-program.ensures
    c.in_ok-append.ensures.items c.in_ok-append-2.ensures.items c.in_ok-below.ensures in
    let body = plain checked.program.body in
    let Q : Code Ts → Type 0 = λ t. IsLinked names t in
    let P : List (Function Ts) → Type 0 = λ fs. All IsWellFormed fs in
    record {
      fragments = tree;
      formed = subst P (sym (ap (λ (t : Code Ts). t.functions) tree)) c.functions_are_well_formed.ensures;
      linked = subst Q (sym tree) (c.programs_are_linked.ensures.linked (findings_of checked.notes body) body);
    }
