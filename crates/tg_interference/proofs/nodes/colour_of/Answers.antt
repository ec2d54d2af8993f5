use Rattle.std.proofs.Common.{◌≡◌, ◌-◌, Some, ap, ◌∙◌, arith}
use Rattle.tg_instr.specs.declared.operands.Opnd.TheVariants.{Reg}
use Rattle.tg_interference.specs.Nodes.{node_of}
use Rattle.tg_interference.proofs.Colours.{low_colour, saved_colour, high_colour, last_colour, no_colour}
use Rattle.tg_interference.proofs.nodes.colour_of.Goals as goal

pub returns-in-31 : goal.returns-in-31
returns-in-31 c = let e : 31 ≡ c.args.reg = omega arith in last_colour ∙ ap (λ r. node_of (Reg r)) e

pub returns-in-2-to-15 : goal.returns-in-2-to-15
returns-in-2-to-15 c =
    let e : c.from-number.result ≡ c.args.reg = omega arith in
    ap (λ r. Some (r - 2)) e ∙ low_colour c.args.reg (omega arith) (omega arith)

pub returns-in-16-to-23 : goal.returns-in-16-to-23
returns-in-16-to-23 c =
    let e : c.from-number.result ≡ c.args.reg = omega arith in
    ap Some e ∙ saved_colour c.args.reg (omega arith) (omega arith)

pub returns-in-24-to-25 : goal.returns-in-24-to-25
returns-in-24-to-25 c =
    let e : c.from-number.result ≡ c.args.reg = omega arith in
    ap (λ r. Some (r - 10)) e ∙ high_colour c.args.reg (omega arith) (omega arith)

pub returns-in_default : goal.returns-in_default
returns-in_default c = no_colour c.args.reg (λ l m. omega arith) (λ l. omega arith)

pub returns-in_default-2 : goal.returns-in_default-2
returns-in_default-2 c = no_colour c.args.reg (λ l m. omega arith) (λ l. omega arith)
