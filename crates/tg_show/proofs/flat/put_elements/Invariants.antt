use Rattle.std.proofs.Common.{◌≡◌, ◌++◌, drop}
use Rattle.tg_tree.specs.glue.Lists.{code_of}
use Rattle.tg_show.specs.Flat.{element_lines}
use Rattle.tg_show.proofs.flat.put_elements.Given as goal

abbrev pub invariant-loop-element : goal.invariant-loop-element
invariant-loop-element l =
    l.initial.text.items ++ element_lines l.names (code_of l.code)
    ≡ l.text.items ++ element_lines l.names (code_of (drop l.element-index l.code))
