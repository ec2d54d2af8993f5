use Rattle.std.proofs.Common.{List, sym, ap, subst, ◌∙◌}
use Rattle.std.specs.Prelude.{IsTrue}
use Rattle.std.specs.List.{list_all}
use Rattle.tg_emit.specs.declared.assembly.Line.{Line}
use Rattle.tg_emit.specs.Conditions.{has_labels}
use Rattle.tg_emit.specs.mirror.Text.{text_of}
use Rattle.tg_emit_laws.specs.Programs.{AreTyped}
use Rattle.tg_emit_laws.proofs.HasLabels.{emitted_has_labels}
use Rattle.tg_delay.specs.Filling.{delayed}
use Rattle.tg_compile.proofs.SlotLabels.{delayed_labels}
use Rattle.tg_compile.proofs.Linking.{emittable, whole_program}
use Rattle.tg_compile.proofs.programs.write_delayed.Goals as goal

pub emit-requires : goal.emit-requires
emit-requires c = emittable c.args.codes.now c.requires.small.frames c.requires.linked.faults

pub text-requires : goal.text-requires
text-requires c =
    let written = c.in_ok-plain.ensures in
    let fit = emittable c.args.codes.now c.requires.small.frames c.requires.linked.faults in
    let P : List Line → Type 0 = λ lines. IsTrue (list_all has_labels lines) in
    let plain =
    subst P (sym written.lines)
    (emitted_has_labels c.args.codes.now c.args.literals.now fit (record { functions = written.functions; literals = written.literals })) in
    subst P (sym c.in_ok-slots.ensures) (delayed_labels c.in_ok-plain.plain plain)

pub returns : goal.returns
returns c =
    let written = c.in_ok-plain.ensures in
    let whole = whole_program c.args.codes.now c.args.literals.now c.requires.linked c.requires.small c.requires.fit in
    let typed : AreTyped c.args.codes.now c.args.literals.now = record { functions = written.functions; literals = written.literals } in
    let same = c.in_ok-text.ensures ∙ ap text_of c.in_ok-slots.ensures ∙ ap (λ ls. text_of (delayed ls)) written.lines in
    record {
      text = same;
      program = whole;
      typed = typed;
    }
