use Rattle.std.proofs.Common.{List, [], sym, subst}
use Rattle.tg_tree.specs.glue.Lists.{code_of}
use Rattle.tg_tree.specs.Named.{named_flat, HasItsTemps}
use Rattle.tg_tree.specs.Shapes.{IsWellMarked}
use Rattle.tg_tree.specs.Tree.{Function, Linear}
use Rattle.tg_tree.specs.glue.Plain.{plain_function, plain_ts}
use Rattle.tg_compile.proofs.Chain.{chooses}
use Rattle.tg_compile.proofs.bodies.choose.Goals as goal

pub returns : goal.returns
returns c =
    let e = c.in_ok-chosen.ensures in
    let known = c.in_ok-known.ensures in
    let same = c.as_slice-code.ensures.value in
    chooses (plain_function c.args.frame.now (plain_ts c.args.body)) c.flatten.new.frame c.munch.new.frame (code_of c.in_ok-flat.flat.items)
    c.in_ok-chosen.chosen c.in_ok-known.field-0 c.in_ok-flat.ensures e.label e.params e.slots e.frame_temps (rw same at e.out) (rw same at e.code)
    (rw same at e.temps) e.few known.list known.temps

pub munch-requires : goal.munch-requires
munch-requires c =
    let one = plain_function c.args.frame.now (plain_ts c.args.body) in
    let well = c.flat_code_is_well_marked.ensures one c.requires in
    let P : Function (List Linear) → Type 0 = λ f. IsWellMarked f.body in
    let Q : Function (List Linear) → Type 0 = λ f. HasItsTemps (λ e. named_flat e []) f in
    record {
      marked = rw c.as_slice-code.ensures.value (subst P (sym c.in_ok-flat.ensures) well.marked);
      drawn = rw c.as_slice-code.ensures.value (subst Q (sym c.in_ok-flat.ensures) well.drawn);
    }
