use Rattle.std.proofs.Common.{None}
use Rattle.std.specs.Prelude.{option_map}
use Rattle.tg_tree.specs.glue.Lists.{code_of}
use Rattle.tg_tree.specs.glue.Plain.{plain_linear}
use Rattle.tg_munch.specs.mirror.Munching.{elements}
use Rattle.tg_munch.proofs.Walking.{Leads}
use Rattle.tg_munch.proofs.bodies.elements.Given as goal

abbrev pub invariant-loop-one : goal.invariant-loop-one
invariant-loop-one l =
    let before = option_map (λ e. plain_linear e.now) l.before in
    Leads (λ before es. elements l.slots l.keeps before (code_of es)) l.code None before l.one-index l.fn.draft l.draft
