-- Canonical statements are cut into basic blocks (Appel, chapter 8), from the end of a body to its
-- front, so that it is known where each statement goes on. A block is laid when something in front
-- of it has to lead to it; one that only jumps isn't: what leads there leads on at once.
use Rattle.std.specs.Prelude.{ℕ, ◌+◌, ◌-◌, Bool, true, false, if◌then◌else◌}
use Rattle.std.specs.Prelude.{List, [], ◌∷◌, ◌++◌, length, map, reverse, take, slice_index}
use Rattle.std.specs.Prelude.{slice_set, Option, Some, None}
use Rattle.tg_tree.specs.Tree as tree
use Rattle.tg_tree.specs.Tree.{Cond, Compare, Not, Both, Either}
use Rattle.tg_tree.specs.Tree.{Ts, Move, Store, StoreByte, Do, If, Loop, Break, Seq}
use Rattle.tg_tree.specs.Tree.{Stms, no_stms, stm}
use Rattle.tg_trace_schedule.specs.Block.{BlockEnd, Jump, Branch, Fault, Return, Block}

-- The blocks that are laid, the last of the body first, and the block that is open: more may come
-- in front of it. Ends lead to marks, which are numbered as they are drawn; each has the place of
-- its block among those that are laid.
pub record CutBlocks : Type 0 where
  pub laid : List Block
  pub places : List ℕ
  pub body : Stms
  pub end : BlockEnd

abbrev pub open_at : BlockEnd → CutBlocks → CutBlocks
open_at e c = record { laid = c.laid; places = c.places; body = no_stms; end = e }

abbrev pub in_front : Ts → CutBlocks → CutBlocks
in_front s c = record { laid = c.laid; places = c.places; body = stm s c.body; end = c.end }

-- a mark for the block at a place
abbrev pub draw : (place : ℕ) → CutBlocks → CutBlocks
draw place c = record {
  laid = c.laid;
  places = c.places ++ place ∷ [];
  body = c.body;
  end = c.end;
}

abbrev pub stand : (mark place : ℕ) → CutBlocks → CutBlocks
stand mark place c = record {
  laid = c.laid;
  places = slice_set c.places mark place;
  body = c.body;
  end = c.end;
}

-- the open block is laid, and what is in front of it leads to a mark
abbrev pub lay : (mark : ℕ) → CutBlocks → CutBlocks
lay mark c = record {
  laid = c.laid ++ record { body = c.body; end = c.end } ∷ [];
  places = c.places;
  body = no_stms;
  end = Jump mark;
}

-- where a block leads that only jumps
abbrev pub leads : Stms → BlockEnd → Option ℕ
leads no_stms (Jump mark) = Some mark
leads _ _ = None

-- the mark of what comes next, which is laid unless it only jumps
abbrev pub mark_by : Option ℕ → CutBlocks → ℕ
mark_by (Some mark) c = mark
mark_by None c = length c.places

abbrev pub seal_by : Option ℕ → CutBlocks → CutBlocks
seal_by (Some mark) c = c
seal_by None c = lay (length c.places) (draw (length c.laid) c)

abbrev pub next_mark : CutBlocks → ℕ
next_mark c = mark_by (leads c.body c.end) c

abbrev pub seal : CutBlocks → CutBlocks
seal c = seal_by (leads c.body c.end) c

-- what is in front of it is cut with the mark of what comes next
abbrev pub sealed : CutBlocks → (ℕ → CutBlocks → CutBlocks) → CutBlocks
sealed c front = front (next_mark c) (seal c)

-- a condition, by where it leads where it holds and where it doesn't
abbrev pub branch : Cond → (yes' no' : ℕ) → CutBlocks → CutBlocks
branch (Compare rel x y) yes' no' c = open_at (Branch rel x y yes' no') c
branch (Not d) yes' no' c = branch d no' yes' c
branch (Both d e) yes' no' c = sealed (branch e yes' no' c) (λ m c1. branch d m no' c1)
branch (Either d e) yes' no' c = sealed (branch e yes' no' c) (λ m c1. branch d yes' m c1)

-- A loop's head stands at the open block, which is laid even where it only jumps: the way back to
-- it is the one that takes fuel.
abbrev pub head : (mark : ℕ) → CutBlocks → CutBlocks
head mark c = lay mark (stand mark (length c.laid) c)

-- where a break leads, of the marks after the loops that are around it, the outermost first
abbrev pub exit_of : (exits : List ℕ) → (loops : ℕ) → ℕ
exit_of exits k = slice_index exits (length exits - (k + 1))

-- what follows such a statement is never come to
abbrev pub leaves : Ts → Bool
leaves (Break _) = true
leaves (tree.Fault _) = true
leaves (tree.Return _) = true
leaves _ = false

-- what is in front of a side of a choice, after which both join
abbrev pub before_join : (join : ℕ) → (CutBlocks → CutBlocks) → CutBlocks → CutBlocks
before_join join side c = side (open_at (Jump join) c)

-- A loop by its turn, which has the mark after the loop and goes on at its head.
abbrev pub turned : (ℕ → CutBlocks → CutBlocks) → CutBlocks → CutBlocks
turned turn c =
    sealed c (λ exit c1.
    head (length c1.places) (turn exit (open_at (Jump (length c1.places)) (draw 0 c1))))

abbrev mutual
  pub cut : (exits : List ℕ) → Ts → CutBlocks → CutBlocks
  cut exits (Move i x) c = in_front (Move i x) c
  cut exits (Store x y) c = in_front (Store x y) c
  cut exits (StoreByte x y) c = in_front (StoreByte x y) c
  cut exits (Do x) c = in_front (Do x) c
  cut exits (If d s t) c =
      sealed c (λ join c1.
      sealed (before_join join (cut exits t) c1) (λ no' c2.
      sealed (before_join join (cut exits s) c2) (λ yes' c3. branch d yes' no' c3)))
  cut exits (Loop s) c = turned (λ exit c1. cut (exits ++ exit ∷ []) s c1) c
  cut exits (Break k) c = open_at (Jump (exit_of exits k)) c
  cut exits (tree.Fault n) c = open_at (Fault n) c
  cut exits (Seq ss) c = cut_all exits ss c
  cut exits (tree.Return x) c = open_at (Return x) c

  pub cut_all : (exits : List ℕ) → Stms → CutBlocks → CutBlocks
  cut_all exits no_stms c = c
  cut_all exits (stm s ss) c = cut exits s (if leaves s then c else cut_all exits ss c)

-- after a closed body nothing is come to
abbrev pub start : CutBlocks
start = record { laid = []; places = []; body = no_stms; end = Fault 0 }

-- the first block is the one that is open in the end, or where that leads
abbrev pub entered_by : Option ℕ → CutBlocks → List Block
entered_by (Some mark) c = take (slice_index c.places mark + 1) c.laid
entered_by None c = c.laid ++ record { body = c.body; end = c.end } ∷ []

abbrev pub entered : CutBlocks → List Block
entered c = entered_by (leads c.body c.end) c

-- Marks become places from the first block on.
module _ (places : List ℕ) (last : ℕ) where
  abbrev pub place_of : (mark : ℕ) → ℕ
  place_of mark = last - slice_index places mark

  abbrev pub placed_end : BlockEnd → BlockEnd
  placed_end (Jump m) = Jump (place_of m)
  placed_end (Branch rel x y m n) = Branch rel x y (place_of m) (place_of n)
  placed_end (Fault n) = Fault n
  placed_end (Return x) = Return x

  abbrev pub placed : Block → Block
  placed b = record { body = b.body; end = placed_end b.end }

abbrev pub placed_all : (places : List ℕ) → (laid : List Block) → List Block
placed_all places laid = map (placed places (length laid - 1)) (reverse laid)

abbrev pub blocks_by : CutBlocks → List Block
blocks_by c = placed_all c.places (entered c)

-- the blocks of a body
abbrev pub blocks_of : Stms → List Block
blocks_of ss = blocks_by (cut_all [] ss start)
