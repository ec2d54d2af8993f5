-- The blocks of a closed body lead to one another, and there is a first one.
use Rattle.std.proofs.Common.{◌≡◌, ◌≤◌, ◌<◌, ℕ, ◌+◌, ◌-◌, Bool, true, false, List, [], ◌∷◌, ◌++◌, length, map, refl, sym, ◌∙◌, subst, arith, length-append}
use Rattle.std.specs.Prelude.{Option, Some, None, reverse, slice_index, if◌then◌else◌}
use Rattle.std.specs.List.{AllByRecursion}
use Rattle.std.proofs.lemmas.List.{length-take, length-map, length-reverse}
use Rattle.tg_tree.specs.Tree as tree
use Rattle.tg_tree.specs.Tree.{Cond, Compare, Not, Both, Either, Ts, Move, Store, StoreByte, Do, If, Loop, Break, Seq, Stms, no_stms, stm}
use Rattle.tg_tree.specs.Shapes.{BreaksWithin, BreaksWithinStms, AreClosed}
use Rattle.tg_trace_schedule.specs.Block.{BlockEnd, Jump, Branch, Fault, Return, Block}
use Rattle.tg_trace_schedule.specs.Shapes.{EndsBelow, LeadsBelow, AreWhole}
use Rattle.tg_trace_schedule.specs.mirror.Cutting.{CutBlocks, open_at, draw, stand, lay, leads, seal_by, next_mark, seal, branch, head, leaves, cut, cut_all}
use Rattle.tg_trace_schedule.specs.mirror.Cutting.{start}
use Rattle.tg_trace_schedule.specs.mirror.Cutting.{entered_by, entered, placed_end, placed, placed_all, blocks_of}

-- No block that is laid is lost.
abbrev Grows : CutBlocks → CutBlocks → Type 0
Grows c d = length c.laid ≤ length d.laid

lay_grows : (mark : ℕ) (c : CutBlocks) → length c.laid < length (lay mark c).laid
lay_grows mark c = omega (arith, length-append c.laid (record { body = c.body; end = c.end } ∷ []))

seal_by_grows : (m : Option ℕ) (c : CutBlocks) → Grows c (seal_by m c)
seal_by_grows (Some mark) c = omega arith
seal_by_grows None c = let h = lay_grows (length c.places) (draw (length c.laid) c) in omega (arith, h)

seal_grows : (c : CutBlocks) → Grows c (seal c)
seal_grows c = seal_by_grows (leads c.body c.end) c

branch_grows : (d : Cond) (yes' no' : ℕ) (c : CutBlocks) → Grows c (branch d yes' no' c)
branch_grows (Compare rel x y) yes' no' c = omega arith
branch_grows (Not d) yes' no' c = branch_grows d no' yes' c
branch_grows (Both d e) yes' no' c =
    let second = branch e yes' no' c in
    let h : Grows c second = branch_grows e yes' no' c in
    let k : Grows second (seal second) = seal_grows second in
    let l : Grows (seal second) (branch d (next_mark second) no' (seal second)) = branch_grows d (next_mark second) no' (seal second) in
    omega (arith, h, k, l)
branch_grows (Either d e) yes' no' c =
    let second = branch e yes' no' c in
    let h : Grows c second = branch_grows e yes' no' c in
    let k : Grows second (seal second) = seal_grows second in
    let l : Grows (seal second) (branch d yes' (next_mark second) (seal second)) = branch_grows d yes' (next_mark second) (seal second) in
    omega (arith, h, k, l)

head_grows : (mark : ℕ) (c : CutBlocks) → Grows c (head mark c)
head_grows mark c = let h = lay_grows mark (stand mark (length c.laid) c) in omega (arith, h)

either_grows : (b : Bool) (c d : CutBlocks) → Grows c d → Grows c (if b then c else d)
either_grows true c d h = omega arith
either_grows false c d h = h

onto : (a b c : CutBlocks) → Grows a b → Grows b c → Grows a c
onto a b c h k = omega arith

-- a choice, and a loop, after what is laid of what comes next
sides_grow :
    (exits : List ℕ) (d : Cond) (s t : Ts) (c : CutBlocks) →
    ((b : CutBlocks) → Grows b (cut exits t b)) → ((b : CutBlocks) → Grows b (cut exits s b)) → Grows (seal c) (cut exits (If d s t) c)
sides_grow exits d s t c grow_t grow_s =
    let join = next_mark c in
    let c1 = open_at (Jump join) (seal c) in
    let c2 = cut exits t c1 in
    let c3 = open_at (Jump join) (seal c2) in
    let c4 = cut exits s c3 in
    onto (seal c) c2 (cut exits (If d s t) c) (grow_t c1)
    (onto c2 c3 (cut exits (If d s t) c) (seal_grows c2)
    (onto c3 c4 (cut exits (If d s t) c) (grow_s c3)
    (onto c4 (seal c4) (cut exits (If d s t) c) (seal_grows c4) (branch_grows d (next_mark c4) (next_mark c2) (seal c4)))))

turn_grows : (exits : List ℕ) (s : Ts) (c : CutBlocks) → ((b : CutBlocks) → Grows b (cut (exits ++ next_mark c ∷ []) s b)) → Grows (seal c) (cut exits (Loop s) c)
turn_grows exits s c grow_s =
    let c1 = seal c in
    let mark = length c1.places in
    let c2 = open_at (Jump mark) (draw 0 c1) in
    let c3 = cut (exits ++ next_mark c ∷ []) s c2 in
    onto c1 c3 (cut exits (Loop s) c) (grow_s c2) (head_grows mark c3)

mutual
  cut_grows : (exits : List ℕ) (s : Ts) (c : CutBlocks) → Grows c (cut exits s c)
  cut_grows exits (Move i x) c = omega arith
  cut_grows exits (Store x y) c = omega arith
  cut_grows exits (StoreByte x y) c = omega arith
  cut_grows exits (Do x) c = omega arith
  cut_grows exits (If d s t) c = onto c (seal c) (cut exits (If d s t) c) (seal_grows c) (sides_grow exits d s t c (cut_grows exits t) (cut_grows exits s))
  cut_grows exits (Loop s) c = onto c (seal c) (cut exits (Loop s) c) (seal_grows c) (turn_grows exits s c (cut_grows (exits ++ next_mark c ∷ []) s))
  cut_grows exits (Break k) c = omega arith
  cut_grows exits (tree.Fault n) c = omega arith
  cut_grows exits (Seq ss) c = all_grow exits ss c
  cut_grows exits (tree.Return x) c = omega arith

  all_grow : (exits : List ℕ) (ss : Stms) (c : CutBlocks) → Grows c (cut_all exits ss c)
  all_grow exits no_stms c = omega arith
  all_grow exits (stm s ss) c =
      let behind = cut_all exits ss c in
      onto c (if leaves s then c else behind) (cut_all exits (stm s ss) c) (either_grows (leaves s) c behind (all_grow exits ss c))
      (cut_grows exits s (if leaves s then c else behind))

-- What is open leads to a block that is laid.
abbrev IsGrounded : CutBlocks → Type 0
IsGrounded c = (m : ℕ) → leads c.body c.end ≡ Some m → 0 < length c.laid

seal_by_full : (m : Option ℕ) (c : CutBlocks) → leads c.body c.end ≡ m → IsGrounded c → 0 < length (seal_by m c).laid
seal_by_full (Some mark) c e g = g mark e
seal_by_full None c e g = let h = lay_grows (length c.places) (draw (length c.laid) c) in omega (arith, h)

seal_full : (c : CutBlocks) → IsGrounded c → 0 < length (seal c).laid
seal_full c g = seal_by_full (leads c.body c.end) c refl g

full : (c d : CutBlocks) → 0 < length c.laid → Grows c d → IsGrounded d
full c d h k m e = omega arith

either_grounded : (b : Bool) (c d : CutBlocks) → IsGrounded c → IsGrounded d → IsGrounded (if b then c else d)
either_grounded true c d g h = g
either_grounded false c d g h = h

some_none : {A : Type 0} {m : ℕ} → None ≡ Some m → A
some_none e = cc

-- outside of every loop
mutual
  cut_grounded : (s : Ts) (c : CutBlocks) → BreaksWithin 0 s → IsGrounded c → IsGrounded (cut [] s c)
  cut_grounded (Move i x) c h g = λ m e. some_none e
  cut_grounded (Store x y) c h g = λ m e. some_none e
  cut_grounded (StoreByte x y) c h g = λ m e. some_none e
  cut_grounded (Do x) c h g = λ m e. some_none e
  cut_grounded (If d s t) c h g = full (seal c) (cut [] (If d s t) c) (seal_full c g) (sides_grow [] d s t c (cut_grows [] t) (cut_grows [] s))
  cut_grounded (Loop s) c h g = full (seal c) (cut [] (Loop s) c) (seal_full c g) (turn_grows [] s c (cut_grows ([] ++ next_mark c ∷ []) s))
  cut_grounded (Break k) c h g = absurd (omega arith)
  cut_grounded (tree.Fault n) c h g = λ m e. some_none e
  cut_grounded (Seq ss) c h g = all_grounded ss c h g
  cut_grounded (tree.Return x) c h g = λ m e. some_none e

  all_grounded : (ss : Stms) (c : CutBlocks) → BreaksWithinStms 0 ss → IsGrounded c → IsGrounded (cut_all [] ss c)
  all_grounded no_stms c h g = g
  all_grounded (stm s ss) c h g =
      let behind = cut_all [] ss c in
      cut_grounded s (if leaves s then c else behind) h.0 (either_grounded (leaves s) c behind g (all_grounded ss c h.1 g))

entered_full : (m : Option ℕ) (c : CutBlocks) → leads c.body c.end ≡ m → IsGrounded c → 0 < length (entered_by m c)
entered_full (Some mark) c e g = let h : 0 < length c.laid = g mark e in omega (arith, length-take (slice_index c.places mark + 1) c.laid)
entered_full None c e g = omega (arith, length-append c.laid (record { body = c.body; end = c.end } ∷ []))

-- the places to which ends lead
end_below : (places : List ℕ) (n : ℕ) (e : BlockEnd) → 0 < n → EndsBelow n (placed_end places (n - 1) e)
end_below places n (Jump m) h = omega arith
end_below places n (Branch rel x y m k) h = (omega arith, omega arith)
end_below places n (Fault _) h = tt
end_below places n (Return _) h = tt

all_below : (places : List ℕ) (n : ℕ) (bs : List Block) → 0 < n → AllByRecursion (LeadsBelow n) (map (placed places (n - 1)) bs)
all_below places n [] h = tt
all_below places n (b ∷ bs) h = (end_below places n b.end h, all_below places n bs h)

placed_whole : (places : List ℕ) (all : List Block) → 0 < length all → AreWhole (placed_all places all)
placed_whole places all h =
    let n = length all in
    let e : length (placed_all places all) ≡ n = length-map (reverse all) (placed places (n - 1)) ∙ length-reverse all in
    record {
      entry = subst (λ k. 0 < k) (sym e) h;
      within = subst (λ k. AllByRecursion (LeadsBelow k) (placed_all places all)) (sym e) (all_below places n (reverse all) h);
    }

pub blocks_are_whole : (ss : Stms) → AreClosed ss → AreWhole (blocks_of ss)
blocks_are_whole ss closed =
    let c = cut_all [] ss start in
    let g : IsGrounded c = all_grounded ss start closed.breaks (λ m e. some_none e) in
    placed_whole c.places (entered c) (entered_full (leads c.body c.end) c refl g)
