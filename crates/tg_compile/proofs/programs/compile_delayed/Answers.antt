use Rattle.std.proofs.Common.{◌≤◌, List, length, sym, ap, subst}
use Rattle.std.specs.List.{sum_by}
use Rattle.tg_machine_state.specs.State.{most_bytes, padded}
use Rattle.tg_syntax.specs.glue.Plain.{plain}
use Rattle.tg_tree.specs.Tree.{Ts, Function, Code, Literal}
use Rattle.tg_emit_laws.specs.Programs.{bytes_of}
use Rattle.tg_compile.specs.glue.Passes.{CompileApart}
use Rattle.tg_compile.specs.Prepared.{prepared}
use Rattle.tg_compile.proofs.Chain.{tree_of, delayed_whole, prepared_fragments}
use Rattle.tg_compile.proofs.Preparing.{literals_stay}
use Rattle.tg_compile.proofs.Linking.{links, bytes_are}
use Rattle.tg_compile.proofs.programs.compile_delayed.Goals as goal

pub returns-clause-compiles : goal.returns-clause-compiles
returns-clause-compiles g c =
    let rule = (goal.SpillPolicy-dyn g c.args.policy.now).rule c.args.policy.now.1 in
    let checked = c.args.checked.now in
    let fragments = c.in_ok-bodies.field-0 in
    let functions = c.in_ok-functions.functions in
    let written = c.in_ok-written.ensures in
    delayed_whole c.args.passes rule checked.notes (plain checked.program.body) fragments.functions.items fragments.literals.items
    functions.codes.items functions.placements.items c.in_ok-join.field-0.items c.in_ok-written.written.items
    c.in_ok-bodies.ensures.fragments c.in_ok-functions.ensures.compile c.in_ok-join.ensures
    (rw c.deref.ensures.value at (rw c.deref-2.ensures.value at written.text))
    (rw c.deref.ensures.value at (rw c.deref-2.ensures.value at written.program))
    (rw c.deref.ensures.value at (rw c.deref-2.ensures.value at written.typed))

pub write_delayed-requires : goal.write_delayed-requires
write_delayed-requires g c =
    let rule = (goal.SpillPolicy-dyn g c.args.policy.now).rule c.args.policy.now.1 in
    let fragments = c.in_ok-bodies.field-0 in
    let functions = c.in_ok-functions.functions in
    let passes = c.args.passes in
    let tree = tree_of fragments.functions.items fragments.literals.items in
    let P : List (Function Ts) → Type 0 = λ fs. CompileApart rule fs functions.codes.items functions.placements.items in
    let apart : P (prepared passes tree).functions =
    subst P (prepared_fragments passes fragments.functions.items fragments.literals.items) c.in_ok-functions.ensures.compile in
    let whole = subst P (ap (λ (t : Code Ts). (prepared passes t).functions) c.in_ok-bodies.ensures.fragments) apart in
    let few : bytes_of fragments.literals.items ≤ most_bytes =
    subst (λ n. n ≤ most_bytes) (bytes_are fragments.literals.items)
    (subst (λ (t : Code Ts). sum_by (λ (l : Literal). length (padded l.text)) t.literals ≤ most_bytes) (sym c.in_ok-bodies.ensures.fragments) c.requires) in
    record {
      fit = rw c.deref-2.ensures.value few;
      linked = rw (c.deref.ensures.value, c.deref-2.ensures.value)
          (links c.code_names_no_more.ensures rule (prepared passes tree) functions.codes.items functions.placements.items
          fragments.literals.items (c.prepared_is_reduced.ensures.linked passes tree c.in_ok-bodies.ensures.linked)
          (sym (literals_stay passes tree)) apart);
      small = rw c.deref.ensures.value (c.compiled_is_small.ensures rule functions.codes.items functions.placements.items whole);
    }
