use Rattle.std.proofs.Common.{◌≡◌, List, [], ◌∷◌, ◌++◌, map, replicate, ap, ◌∙◌, arith}
use Rattle.std.proofs.lemmas.List.{map_push, replicate_more}
use Rattle.smallvec.specs.SmallVec.{SmallVec}
use Rattle.tg_instr.specs.declared.operands.Opnd.{Opnd}
use Rattle.tg_live.proofs.tables.OperandTable.with_rows.Goals as goal

abbrev items_of : SmallVec Opnd → List Opnd
items_of row = row.items

pub loop-init : goal.loop-init
loop-init c = ap (map items_of) c.in_ok-rows.ensures.items

pub loop-preserved : goal.loop-preserved
loop-preserved c =
    ap (map items_of) c.in_ok-push.ensures.items
    ∙ (map_push items_of c.loop.rows.items c.new.result
    ∙ (ap (λ (rows : List (List Opnd)). rows ++ items_of c.new.result ∷ []) c.loop.invariant
    ∙ (ap (λ (row : List Opnd). replicate c.loop.counter [] ++ row ∷ []) c.new.ensures.items
    ∙ replicate_more c.loop.counter [])))

pub returns : goal.returns
returns c =
    let all : c.loop.counter ≡ c.args.count = omega (arith, c.loop-test.false, c.loop.auto.counter-end) in
    c.loop.invariant ∙ ap (λ n. replicate n []) all
