use Rattle.std.proofs.Common.{sym, ap, ◌∙◌}
use Rattle.tg_syntax.specs.glue.Plain.{plain}
use Rattle.tg_translate.specs.mirror.States.{state_after}
use Rattle.tg_translate.specs.mirror.Scopes.{findings_of}
use Rattle.tg_translate.specs.mirror.Functions.{beginning, program}
use Rattle.tg_translate.specs.mirror.Translate.{program_body}
use Rattle.tg_translate.proofs.programs.program.Goals as goal

pub returns : goal.returns
returns c =
    let ended =
    sym (ap (program_body (findings_of c.args.findings.now) (plain c.args.e.now)) (sym (c.new-state.ensures ∙ ap (beginning 33) c.in_ok-frame.ensures))
    ∙ c.in_ok-body.ensures) in
    record {
      code = c.in_ok-finish.ensures.code ∙ ap program ended;
      homes = c.in_ok-finish.ensures.homes ∙ ap (λ d. (state_after d).homes) ended;
      callees = c.in_ok-finish.ensures.callees ∙ ap (λ d. (state_after d).callees) ended;
    }
