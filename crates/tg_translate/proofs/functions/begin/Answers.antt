use Rattle.std.proofs.Common.{ap, ◌∙◌, length}
use Rattle.tg_translate.specs.mirror.Scopes.{findings_of}
use Rattle.tg_translate.proofs.Declaring.{length-homes_from, length-asked}
use Rattle.tg_translate.proofs.functions.begin.Goals as goal

pub declare_params-requires : goal.declare_params-requires
declare_params-requires c =
    ap length c.as_slice.ensures
    ∙ (ap (λ f. length f.params) c.in_ok-frame.ensures
    ∙ (length-homes_from 0 0 _ ∙ (ap length (c.deref.ensures.value ∙ c.in_ok-asked.ensures)
    ∙ length-asked (findings_of c.args.findings.now).escapes c.args.link_in_slot c.args.params.now)))
