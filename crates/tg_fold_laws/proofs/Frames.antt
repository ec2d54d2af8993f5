-- Folded functions of accepted programs are small.
use Rattle.std.proofs.Common.{◌≤◌, arith}
use Rattle.tg_tree.specs.Tree.{Ts, Function}
use Rattle.tg_translate_laws.specs.laws.Laws.{FunctionIsSmall, CheckedFramesAreSmall}
use Rattle.tg_fold.specs.laws.Laws.{FunctionsShrink, folded_function}
use Rattle.tg_fold_laws.specs.laws.Laws.{FoldedFramesAreSmall}
use Rattle.tg_fold_laws.proofs.Accesses.{folded_within}
use Rattle.tg_fold_laws.proofs.Depths.{folded_shallow}

small_stays : FunctionsShrink → (f : Function Ts) → FunctionIsSmall f → FunctionIsSmall (folded_function f)
small_stays shrink f h = record {
  slots = h.slots;
  temps = h.temps;
  accesses = folded_within 33 f.body h.accesses;
  short = let a = (shrink f).length in let b = h.short in omega (arith, a, b);
  small = let a = (shrink f).room in let b = h.small in omega (arith, a, b);
  shallow = let a = folded_shallow 1 f.body in let b = h.shallow in omega (arith, a, b);
}

pub folded_frames_are_small : FunctionsShrink → CheckedFramesAreSmall → FoldedFramesAreSmall
folded_frames_are_small shrink small p escapes links f accepted there = small_stays shrink f (small p escapes links f accepted there)
