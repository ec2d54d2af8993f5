-- Canonical statements are cut into flat blocks.
use Rattle.std.proofs.Common.{ℕ, zero, suc, ◌-◌, Bool, true, false, List, [], ◌∷◌, ◌++◌, length, take, map, sym, subst}
use Rattle.std.specs.Prelude.{Option, Some, None, reverse, if◌then◌else◌}
use Rattle.std.specs.List.{AllByRecursion}
use Rattle.std.proofs.lemmas.List.{reverse-append}
use Rattle.tg_tree.specs.Tree as tree
use Rattle.tg_tree.specs.Tree.{Cond, Compare, Not, Both, Either, Ts, Move, Store, StoreByte, Do, If, Loop, Break, Seq, Stms, no_stms, stm}
use Rattle.tg_tree.specs.Shapes.{IsFlatStatement, IsFlatCond, IsCanonical, AreCanonical}
use Rattle.tg_trace_schedule.specs.Block.{BlockEnd, Jump, Branch, Fault, Return, Block}
use Rattle.tg_trace_schedule.specs.Shapes.{AreFlatStatements, IsFlatEnd, IsFlatBlock, AreFlatBlocks}
use Rattle.tg_trace_schedule.specs.mirror.Cutting.{CutBlocks, open_at, in_front, draw, stand, lay, leads, seal_by, next_mark, seal, branch, head, exit_of}
use Rattle.tg_trace_schedule.specs.mirror.Cutting.{leaves, cut}
use Rattle.tg_trace_schedule.specs.mirror.Cutting.{cut_all, start, entered_by, entered, placed_end, placed, blocks_of}

-- Facts of each element.
module _ {A : Type 0} (P : A → Type 0) where
  pub all_joined : (xs ys : List A) → AllByRecursion P xs → AllByRecursion P ys → AllByRecursion P (xs ++ ys)
  all_joined [] ys h k = k
  all_joined (x ∷ xs) ys h k = (h.0, all_joined xs ys h.1 k)

  pub all_taken : (n : ℕ) (xs : List A) → AllByRecursion P xs → AllByRecursion P (take n xs)
  all_taken zero [] h = tt
  all_taken (suc n) [] h = tt
  all_taken zero (x ∷ xs) h = tt
  all_taken (suc n) (x ∷ xs) h = (h.0, all_taken n xs h.1)

  pub all_reversed : (xs : List A) → AllByRecursion P xs → AllByRecursion P (reverse xs)
  all_reversed [] h = tt
  all_reversed (x ∷ xs) h = subst (AllByRecursion P) (sym (reverse-append (x ∷ []) xs)) (all_joined (reverse xs) (x ∷ []) (all_reversed xs h.1) (h.0, tt))

pub record IsFlatCut (c : CutBlocks) : Type 0 where
  pub laid : AreFlatBlocks c.laid
  pub body : AreFlatStatements c.body
  pub end : IsFlatEnd c.end

open_flat : (e : BlockEnd) (c : CutBlocks) → IsFlatEnd e → IsFlatCut c → IsFlatCut (open_at e c)
open_flat e c h f = record { laid = f.laid; body = tt; end = h }

front_flat : (s : Ts) (c : CutBlocks) → IsFlatStatement s → IsFlatCut c → IsFlatCut (in_front s c)
front_flat s c h f = record { laid = f.laid; body = (h, f.body); end = f.end }

draw_flat : (place : ℕ) (c : CutBlocks) → IsFlatCut c → IsFlatCut (draw place c)
draw_flat place c f = record { laid = f.laid; body = f.body; end = f.end }

stand_flat : (mark place : ℕ) (c : CutBlocks) → IsFlatCut c → IsFlatCut (stand mark place c)
stand_flat mark place c f = record { laid = f.laid; body = f.body; end = f.end }

lay_flat : (mark : ℕ) (c : CutBlocks) → IsFlatCut c → IsFlatCut (lay mark c)
lay_flat mark c f = record {
  laid = all_joined IsFlatBlock c.laid (record { body = c.body; end = c.end } ∷ []) f.laid ((f.body, f.end), tt);
  body = tt;
  end = tt;
}

seal_by_flat : (m : Option ℕ) (c : CutBlocks) → IsFlatCut c → IsFlatCut (seal_by m c)
seal_by_flat (Some mark) c f = f
seal_by_flat None c f = lay_flat (length c.places) (draw (length c.laid) c) (draw_flat (length c.laid) c f)

seal_flat : (c : CutBlocks) → IsFlatCut c → IsFlatCut (seal c)
seal_flat c f = seal_by_flat (leads c.body c.end) c f

branch_flat : (d : Cond) (yes' no' : ℕ) (c : CutBlocks) → IsFlatCond d → IsFlatCut c → IsFlatCut (branch d yes' no' c)
branch_flat (Compare rel x y) yes' no' c h f = open_flat (Branch rel x y yes' no') c h f
branch_flat (Not d) yes' no' c h f = branch_flat d no' yes' c h f
branch_flat (Both d e) yes' no' c h f =
    let second = branch e yes' no' c in
    branch_flat d (next_mark second) no' (seal second) h.0 (seal_flat second (branch_flat e yes' no' c h.1 f))
branch_flat (Either d e) yes' no' c h f =
    let second = branch e yes' no' c in
    branch_flat d yes' (next_mark second) (seal second) h.0 (seal_flat second (branch_flat e yes' no' c h.1 f))

head_flat : (mark : ℕ) (c : CutBlocks) → IsFlatCut c → IsFlatCut (head mark c)
head_flat mark c f = lay_flat mark (stand mark (length c.laid) c) (stand_flat mark (length c.laid) c f)

either_flat : (b : Bool) (c d : CutBlocks) → IsFlatCut c → IsFlatCut d → IsFlatCut (if b then c else d)
either_flat true c d f g = f
either_flat false c d f g = g

mutual
  cut_flat : (exits : List ℕ) (s : Ts) (c : CutBlocks) → IsCanonical s → IsFlatCut c → IsFlatCut (cut exits s c)
  cut_flat exits (Move i x) c h f = front_flat (Move i x) c h f
  cut_flat exits (Store x y) c h f = front_flat (Store x y) c h f
  cut_flat exits (StoreByte x y) c h f = front_flat (StoreByte x y) c h f
  cut_flat exits (Do x) c h f = front_flat (Do x) c h f
  cut_flat exits (If d s t) c h f =
      let join = next_mark c in
      let c1 = open_at (Jump join) (seal c) in
      let c2 = cut exits t c1 in
      let c3 = open_at (Jump join) (seal c2) in
      let c4 = cut exits s c3 in
      branch_flat d (next_mark c4) (next_mark c2) (seal c4) h.0
      (seal_flat c4 (cut_flat exits s c3 h.1
      (open_flat (Jump join) (seal c2) tt (seal_flat c2 (cut_flat exits t c1 h.2 (open_flat (Jump join) (seal c) tt (seal_flat c f)))))))
  cut_flat exits (Loop s) c h f =
      let c1 = seal c in
      let mark = length c1.places in
      let c2 = open_at (Jump mark) (draw 0 c1) in
      let c3 = cut (exits ++ next_mark c ∷ []) s c2 in
      head_flat mark c3
      (cut_flat (exits ++ next_mark c ∷ []) s c2 h (open_flat (Jump mark) (draw 0 c1) tt (draw_flat 0 c1 (seal_flat c f))))
  cut_flat exits (Break k) c h f = open_flat (Jump (exit_of exits k)) c tt f
  cut_flat exits (tree.Fault n) c h f = open_flat (Fault n) c tt f
  cut_flat exits (Seq ss) c h f = all_flat exits ss c h f
  cut_flat exits (tree.Return x) c h f = open_flat (Return x) c h f

  all_flat : (exits : List ℕ) (ss : Stms) (c : CutBlocks) → AreCanonical ss → IsFlatCut c → IsFlatCut (cut_all exits ss c)
  all_flat exits no_stms c h f = f
  all_flat exits (stm s ss) c h f =
      let behind = cut_all exits ss c in
      cut_flat exits s (if leaves s then c else behind) h.0 (either_flat (leaves s) c behind f (all_flat exits ss c h.1 f))

entered_flat : (m : Option ℕ) (c : CutBlocks) → IsFlatCut c → AreFlatBlocks (entered_by m c)
entered_flat (Some mark) c f = all_taken IsFlatBlock _ c.laid f.laid
entered_flat None c f = all_joined IsFlatBlock c.laid (record { body = c.body; end = c.end } ∷ []) f.laid ((f.body, f.end), tt)

end_flat : (places : List ℕ) (last : ℕ) (e : BlockEnd) → IsFlatEnd e → IsFlatEnd (placed_end places last e)
end_flat places last (Jump m) h = tt
end_flat places last (Branch rel x y m n) h = h
end_flat places last (Fault n) h = tt
end_flat places last (Return x) h = h

placed_flat : (places : List ℕ) (last : ℕ) (bs : List Block) → AreFlatBlocks bs → AreFlatBlocks (map (placed places last) bs)
placed_flat places last [] h = tt
placed_flat places last (b ∷ bs) h = ((h.0.0, end_flat places last b.end h.0.1), placed_flat places last bs h.1)

pub blocks_are_flat : (ss : Stms) → AreCanonical ss → AreFlatBlocks (blocks_of ss)
blocks_are_flat ss h =
    let c = cut_all [] ss start in
    let f : IsFlatCut c = all_flat [] ss start h (record { laid = tt; body = tt; end = tt }) in
    let all = entered c in
    placed_flat c.places (length all - 1) (reverse all) (all_reversed IsFlatBlock all (entered_flat (leads c.body c.end) c f))
