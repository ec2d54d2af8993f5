use Rattle.std.proofs.Common.{ap, ◌∙◌}
use Rattle.tg_syntax.specs.glue.Plain.{plain}
use Rattle.tg_translate.specs.mirror.Scopes.{found}
use Rattle.tg_translate.specs.mirror.Translate.{translated, last_state}
use Rattle.tg_translate.proofs.programs.translate_with_homes.Goals as goal

pub returns : goal.returns
returns c =
    let notes = c.args.checked.now.notes in
    let body = plain c.args.checked.now.program.body in
    let escapes = c.args.escapes.now in
    let links = c.in_ok-links.links in
    record {
      code =
          c.in_ok-program.ensures.code
          ∙ (ap (λ k. translated (found k.notes escapes links) (plain k.program.body)) c.checked.view_is
          ∙ ap (λ l. translated (found notes escapes l) body) c.in_ok-links.ensures);
      homes =
          c.in_ok-program.ensures.homes
          ∙ (ap (λ k. (last_state (found k.notes escapes links) (plain k.program.body)).homes) c.checked.view_is
          ∙ ap (λ l. (last_state (found notes escapes l) body).homes) c.in_ok-links.ensures);
      callees =
          c.in_ok-program.ensures.callees
          ∙ (ap (λ k. (last_state (found k.notes escapes links) (plain k.program.body)).callees) c.checked.view_is
          ∙ ap (λ l. (last_state (found notes escapes l) body).callees) c.in_ok-links.ensures);
    }
