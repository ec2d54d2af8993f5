use Rattle.std.proofs.Common.{◌<◌, List, length, ap, ◌∙◌, arith}
use Rattle.std.specs.Prelude.{count_by}
use Rattle.std.specs.List.{list_all}
use Rattle.std.proofs.lemmas.Bool.{and_parts}
use Rattle.std.proofs.lemmas.List.Sums.{count_by-le-length}
use Rattle.tg_instr.specs.declared.instr.Instr.{Instr}
use Rattle.tg_instr.specs.declared.operands.Opnd.{Opnd}
use Rattle.tg_instr.specs.Codes.{is_below}
use Rattle.tg_instr.specs.Operands.{is_same}
use Rattle.tg_instr.specs.Shapes.{shape}
use Rattle.tg_instr.specs.Uses.{uses_of, defs_of}
use Rattle.tg_interference.specs.Facts.{temp}
use Rattle.tg_interference.proofs.Occurring.{few_uses, few_defs}
use Rattle.tg_interference.proofs.facts.count_instr.Goals as goal

pub count_operands-requires-clause-temps : goal.count_operands-requires-clause-temps
count_operands-requires-clause-temps c =
    let n = length c.args.counts.now in
    let one : Instr = c.args.one.now in
    let both = and_parts (list_all (is_below n) (uses_of one)) (list_all (is_below n) (defs_of one)) c.requires.temps in
    ap (list_all (is_below n)) (c.as_slice.ensures ∙ c.uses-uses.ensures) ∙ both.0

pub count_operands-requires-clause-room : goal.count_operands-requires-clause-room
count_operands-requires-clause-room c = λ t l.
    let few = few_uses (shape c.args.one.now) in
    let size = ap (λ (list : List Opnd). length list) (c.as_slice.ensures ∙ c.uses-uses.ensures) in
    let room = c.requires.room t l in
    omega (arith, few, size, room)

pub count_operands-requires-2-clause-temps : goal.count_operands-requires-2-clause-temps
count_operands-requires-2-clause-temps c =
    let n = length c.args.counts.now in
    let one : Instr = c.args.one.now in
    let both = and_parts (list_all (is_below n) (uses_of one)) (list_all (is_below n) (defs_of one)) c.requires.temps in
    ap (λ k. list_all (is_below k) c.as_slice-2.result.now) c.count_operands.auto.counts
    ∙ (ap (list_all (is_below n)) (c.as_slice-2.ensures ∙ c.defs-defs.ensures) ∙ both.1)

pub count_operands-requires-2-clause-room : goal.count_operands-requires-2-clause-room
count_operands-requires-2-clause-room c = λ t l.
    let one : Instr = c.args.one.now in
    let few = few_uses (shape one) in
    let few_more = few_defs (shape one) in
    let size = ap (λ (list : List Opnd). length list) (c.as_slice.ensures ∙ c.uses-uses.ensures) in
    let size_more = ap (λ (list : List Opnd). length list) (c.as_slice-2.ensures ∙ c.defs-defs.ensures) in
    let within : t < length c.args.counts.now = omega (arith, l, c.count_operands.auto.counts) in
    let counted = count_by-le-length (is_same (temp t)) c.as_slice.result.now in
    let now = c.count_operands.ensures t within in
    let room = c.requires.room t within in
    omega (arith, few, few_more, size, size_more, counted, now, room)

pub returns : goal.returns
returns c = λ t l.
    let within : t < length c.count_operands.new.counts = omega (arith, l, c.count_operands.auto.counts) in
    let used = ap (λ (list : List Opnd). count_by (is_same (temp t)) list) (c.as_slice.ensures ∙ c.uses-uses.ensures) in
    let defined = ap (λ (list : List Opnd). count_by (is_same (temp t)) list) (c.as_slice-2.ensures ∙ c.defs-defs.ensures) in
    let now = c.count_operands.ensures t l in
    let then = c.count_operands-2.ensures t within in
    omega (arith, used, defined, now, then)
