use Rattle.std.proofs.Common.{ℕ, ◌≡◌, ◌^◌, ◌<◌, ap, sym, subst, ◌∙◌}
use Rattle.std.specs.Prelude.{IsTrue}
use Rattle.std.specs.List.{list_all}
use Rattle.tg_tree.specs.glue.Lists.{code_of}
use Rattle.tg_tree.specs.glue.Plain.{plain_function}
use Rattle.tg_instr.specs.Codes.{has_slots_below, names_registers}
use Rattle.tg_redundancy.specs.mirror.Known.{known_code}
use Rattle.tg_regalloc.specs.Conditions.{is_fixed}
use Rattle.tg_regalloc.specs.Rounds.{BetweenRounds, stage_of}
use Rattle.tg_stages.specs.Shown.{first_code, TellsCode}
use Rattle.tg_stages.specs.glue.Allocating.{HasRounds}
use Rattle.tg_stages.specs.glue.Putting.{Puts}
use Rattle.tg_stages.proofs.functions.put_instructions.Goals as goal

pub put_code_with_graphs-requires : goal.put_code_with_graphs-requires
put_code_with_graphs-requires c =
    let chosen = c.in_ok-chosen.ensures in
    let known = c.in_ok-code.ensures in
    let list = known.list ∙ ap known_code chosen.code in
    let temps = known.temps ∙ chosen.temps in
    let slots = chosen.slots in
    let same : stage_of c.in_ok-code.code c.munch.new.frame.slots ≡ first_code (plain_function c.args.frame.now (code_of c.args.flat.now)) =
    λ i. record { list = list i; temps = temps i; slots = slots i } in
    let P : BetweenRounds → Type 0 = λ s. IsTrue (list_all (names_registers is_fixed) s.list) in
    let Q : BetweenRounds → Type 0 = λ s. IsTrue (list_all (has_slots_below s.slots) s.list) in
    let R : BetweenRounds → Type 0 = λ s. HasRounds s.temps s c.args.rounds.now in
    record {
      few = subst (λ (n : ℕ). n < 2 ^ 24) (sym known.temps) chosen.few;
      registers = subst P (sym same) c.requires.registers;
      slots_below = subst Q (sym same) c.requires.slots_below;
      rounds = subst R (sym same) c.requires.rounds;
    }

pub returns : goal.returns
returns c =
    let chosen = c.in_ok-chosen.ensures in
    let known = c.in_ok-code.ensures in
    let list = known.list ∙ ap known_code chosen.code in
    let temps = known.temps ∙ chosen.temps in
    let slots = chosen.slots in
    let same : stage_of c.in_ok-code.code c.munch.new.frame.slots ≡ first_code (plain_function c.args.frame.now (code_of c.args.flat.now)) =
    λ i. record { list = list i; temps = temps i; slots = slots i } in
    let P : BetweenRounds → Type 0 = λ s.
    Puts c.args.text.now.items c.put_code_with_graphs.new.text.items (TellsCode c.args.names.now s c.args.rounds.now) in
    subst P same c.in_ok-put_code_with_graphs.ensures
