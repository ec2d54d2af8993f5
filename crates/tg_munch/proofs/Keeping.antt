-- What the code of a function keeps, where its flat code is well marked and its temporaries are drawn.
use Rattle.std.proofs.Common.{ℕ, ◌≡◌, List, [], sym, subst}
use Rattle.std.specs.Prelude.{IsTrue}
use Rattle.std.specs.List.{list_all}
use Rattle.tg_frame.specs.declared.frames.Frame.{Frame}
use Rattle.tg_tree.specs.Tree.{Linear}
use Rattle.tg_tree.specs.Named.{named_flat, HasItsTemps}
use Rattle.tg_tree.specs.glue.Plain.{plain_function}
use Rattle.tg_tree.specs.Shapes.{IsWellMarked}
use Rattle.tg_instr.specs.declared.instr.Instr.{Instr}
use Rattle.tg_instr.specs.Codes.{marks_differ, leads_to_marks, has_temps_below, ends_well}
use Rattle.tg_munch.specs.mirror.Bodies.{munched}
use Rattle.tg_munch.proofs.Kept.{code_ends}
use Rattle.tg_munch.proofs.MarkingLaws.{marks_are_apart, marks_are_there}
use Rattle.tg_munch.proofs.NamingLaws.{temps_are_below}

pub record Keeps (list : List Instr) (temps : ℕ) : Type 0 where
  pub marks_differ : IsTrue (marks_differ list)
  pub marks_stand : IsTrue (list_all (leads_to_marks list) list)
  pub temps_below : IsTrue (list_all (has_temps_below temps) list)
  pub ends_well : IsTrue (ends_well list)

keeps_munched : (frame : Frame) (code : List Linear) → IsWellMarked code →
    HasItsTemps (λ body. named_flat body []) (plain_function frame code) →
    Keeps (munched (plain_function frame code)).code (munched (plain_function frame code)).drawn.temp
keeps_munched frame code marked drawn =
    let f = plain_function frame code in
    record {
      marks_differ = marks_are_apart f marked;
      marks_stand = marks_are_there f marked;
      temps_below = temps_are_below f frame.temps_below drawn;
      ends_well = code_ends f marked.last;
    }

pub keeps : (frame : Frame) (code : List Linear) (list : List Instr) (temps : ℕ) → IsWellMarked code →
    HasItsTemps (λ body. named_flat body []) (plain_function frame code) →
    list ≡ (munched (plain_function frame code)).code →
    temps ≡ (munched (plain_function frame code)).drawn.temp → Keeps list temps
keeps frame code list temps marked drawn e i =
    let f = plain_function frame code in
    let P : List Instr → Type 0 = λ l. Keeps l (munched f).drawn.temp in
    let Q : ℕ → Type 0 = λ n. Keeps list n in
    subst Q (sym i) (subst P (sym e) (keeps_munched frame code marked drawn))
