use Rattle.std.proofs.Common.{◌≡◌, ◌∙◌, refl, ap, ap₂, codes, true}
use Rattle.std.proofs.lemmas.Result.{IfOk-weaker}
use Rattle.clap.specs.Words.{app_of, new_app, with_rule}
use Rattle.clap.specs.Simple.{app_of_fields}
use Rattle.clap.specs.declared.builder.command.Command.{Command}
use Rattle.clap.specs.declared.builder.command.Command.TheViews.{out-Command as fields_of}
use Rattle.clap.specs.declared.builder.command.Command.TheOpen.{Command-F}
use Rattle.tg_command.specs.Simple.{without_flags}
use Rattle.tg_command.proofs.ArgumentLemmas.{required_given}
use Rattle.tg_command.proofs.simple.command.Goals as goal

pub returns-clause-app : goal.returns-clause-app
returns-clause-app c =
    let start : app_of c.disable_version_flag.result ≡ without_flags (new_app (codes "tiger")) =
    ap app_of_fields c.disable_version_flag.ensures
    ∙ (ap (λ (f : Command-F Command). app_of_fields (record f { disable_version_flag = true })) c.disable_help_flag.ensures
    ∙ ap without_flags c.new.ensures.app) in
    let one = c.in_ok-arg.ensures.shape c.positional.ensures.argument.local ∙ ap₂ with_rule start c.positional.ensures.argument.rule_is in
    let two = c.in_ok-arg-2.ensures.shape c.positional-2.ensures.argument.local ∙ ap₂ with_rule one c.positional-2.ensures.argument.rule_is in
    let three = c.in_ok-arg-3.ensures.shape c.option.ensures.local ∙ ap₂ with_rule two c.option.ensures.rule_is in
    let four = c.in_ok-arg-4.ensures.shape c.option-2.ensures.local ∙ ap₂ with_rule three c.option-2.ensures.rule_is in
    let five = c.in_ok-arg-5.ensures.shape c.option-3.ensures.local ∙ ap₂ with_rule four c.option-3.ensures.rule_is in
    let six = c.in_ok-arg-6.ensures.shape c.flag.ensures.local ∙ ap₂ with_rule five c.flag.ensures.rule_is in
    let seven = c.in_ok-arg-7.ensures.shape c.flag-2.ensures.local ∙ ap₂ with_rule six c.flag-2.ensures.rule_is in
    let eight = c.in_ok-arg-8.ensures.shape c.flag-3.ensures.local ∙ ap₂ with_rule seven c.flag-3.ensures.rule_is in
    IfOk-weaker c.arg-9.result _ _ (λ r h. h.shape c.flag-4.ensures.local ∙ ap₂ with_rule eight c.flag-4.ensures.rule_is) c.arg-9.ensures

pub returns-clause-required : goal.returns-clause-required
returns-clause-required c =
    let fields : fields_of c.disable_version_flag.result ≡ record (record (fields_of c.new.result) { disable_help_flag = true }) { disable_version_flag = true } = c.disable_version_flag.ensures ∙ ap (λ (f : Command-F Command). record f { disable_version_flag = true }) c.disable_help_flag.ensures in
    IfOk-weaker c.arg-9.result _ _ (λ r h m parsed. required_given _ _ _ _ _ _ _ _ _ c.positional.ensures.argument c.positional-2.ensures.argument
    c.option.ensures c.option-2.ensures c.option-3.ensures c.flag.ensures c.flag-2.ensures c.flag-3.ensures c.flag-4.ensures
    c.disable_version_flag.result r m (
      c.in_ok-arg.field-0,
      c.in_ok-arg.ensures,
      (
        c.in_ok-arg-2.field-0,
        c.in_ok-arg-2.ensures,
        (
          c.in_ok-arg-3.field-0,
          c.in_ok-arg-3.ensures,
          (
            c.in_ok-arg-4.field-0,
            c.in_ok-arg-4.ensures,
            (
              c.in_ok-arg-5.field-0,
              c.in_ok-arg-5.ensures,
              (
                c.in_ok-arg-6.field-0,
                c.in_ok-arg-6.ensures,
                (c.in_ok-arg-7.field-0, c.in_ok-arg-7.ensures, (c.in_ok-arg-8.field-0, c.in_ok-arg-8.ensures, (r, h, refl))),
              ),
            ),
          ),
        ),
      ),
    )
    (ap (λ (f : Command-F Command). f.args.items) fields ∙ c.new.ensures.empty.0) (ap (λ (f : Command-F Command). f.groups.items) fields
    ∙ c.new.ensures.empty.1)
    (ap (λ (f : Command-F Command). f.has_globals) fields ∙ c.new.ensures.local)
    (ap (λ (f : Command-F Command). f.subcommand_negates_reqs) fields ∙ c.new.ensures.negates) parsed
    c.positional.ensures.values c.positional-2.ensures.values) c.arg-9.ensures
