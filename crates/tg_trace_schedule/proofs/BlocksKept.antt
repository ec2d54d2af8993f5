-- As statements are cut no block and no mark is lost, and what was laid and drawn for them stands in the final blocks.
use Rattle.std.proofs.Common.{◌≡◌, ◌≢◌, ◌<◌, ◌≤◌, ℕ, zero, suc, Bool, true, false, List, [], ◌∷◌, ◌++◌, length, refl, ap, ◌∙◌, arith, length-append}
use Rattle.std.specs.Prelude.{Option, Some, None, slice_get, slice_set, slice_index, if◌then◌else◌}
use Rattle.std.proofs.Math.ListN.{length-set}
use Rattle.std.proofs.lemmas.Option.{get_or_from_slice_get}
use Rattle.tg_tree.specs.Tree as tree
use Rattle.tg_tree.specs.Tree.{Cond, Compare, Not, Both, Either, Ts, Move, Store, StoreByte, Do, If, Loop, Break, Seq, Stms, no_stms, stm}
use Rattle.tg_trace_schedule.specs.Block.{BlockEnd, Jump, Branch, Fault, Return, Block}
use Rattle.tg_trace_schedule.specs.mirror.Cutting.{CutBlocks, open_at, in_front, draw, stand, lay, leads, seal_by, next_mark, seal, branch, head, exit_of}
use Rattle.tg_trace_schedule.specs.mirror.Cutting.{leaves, cut}
use Rattle.tg_trace_schedule.specs.mirror.Cutting.{cut_all}

pub get_front : {A : Type 0} (xs ys : List A) (i : ℕ) → i < length xs → slice_get (xs ++ ys) i ≡ slice_get xs i
get_front [] ys i h = absurd (omega arith)
get_front (x ∷ xs) ys zero h = refl
get_front (x ∷ xs) ys (suc i) h = get_front xs ys i (omega arith)

pub get_seam : {A : Type 0} (xs : List A) (y : A) → slice_get (xs ++ y ∷ []) (length xs) ≡ Some y
get_seam [] y = refl
get_seam (x ∷ xs) y = get_seam xs y

pub set_own : {A : Type 0} (xs : List A) (i : ℕ) (y : A) → i < length xs → slice_get (slice_set xs i y) i ≡ Some y
set_own [] i y h = absurd (omega arith)
set_own (x ∷ xs) zero y h = refl
set_own (x ∷ xs) (suc i) y h = set_own xs i y (omega arith)

pub set_other : {A : Type 0} (xs : List A) (i k : ℕ) (y : A) → i ≢ k → slice_get (slice_set xs i y) k ≡ slice_get xs k
set_other [] i k y n = refl
set_other (x ∷ xs) zero zero y n = absurd (n refl)
set_other (x ∷ xs) zero (suc k) y n = refl
set_other (x ∷ xs) (suc i) zero y n = refl
set_other (x ∷ xs) (suc i) (suc k) y n = set_other xs i k y (λ e. n (ap suc e))

pub record Keeps (c d : CutBlocks) : Type 0 where
  pub laid : length c.laid ≤ length d.laid
  pub drawn : length c.places ≤ length d.places
  pub blocks : (i : ℕ) → i < length c.laid → slice_get d.laid i ≡ slice_get c.laid i
  pub marks : (m : ℕ) → m < length c.places → slice_get d.places m ≡ slice_get c.places m

pub keeps_itself : (c : CutBlocks) → Keeps c c
keeps_itself c = record { laid = omega arith; drawn = omega arith; blocks = λ i h. refl; marks = λ m h. refl }

pub keeps_on : (a b c : CutBlocks) → Keeps a b → Keeps b c → Keeps a c
keeps_on a b c h k = record {
  laid = omega (arith, h.laid, k.laid);
  drawn = omega (arith, h.drawn, k.drawn);
  blocks = λ i l. k.blocks i (omega (arith, h.laid, l)) ∙ h.blocks i l;
  marks = λ m l. k.marks m (omega (arith, h.drawn, l)) ∙ h.marks m l;
}

-- what is open doesn't matter
pub opened_keeps : (z : BlockEnd) (c d : CutBlocks) → Keeps c d → Keeps c (open_at z d)
opened_keeps z c d h = record { laid = h.laid; drawn = h.drawn; blocks = h.blocks; marks = h.marks }

pub front_keeps : (s : Ts) (c : CutBlocks) → Keeps c (in_front s c)
front_keeps s c = record { laid = omega arith; drawn = omega arith; blocks = λ i h. refl; marks = λ m h. refl }

pub draw_keeps : (place : ℕ) (c : CutBlocks) → Keeps c (draw place c)
draw_keeps place c = record {
  laid = omega arith;
  drawn = omega (arith, length-append c.places (place ∷ []));
  blocks = λ i h. refl;
  marks = λ m h. get_front c.places (place ∷ []) m h;
}

lay_keeps : (mark : ℕ) (c : CutBlocks) → Keeps c (lay mark c)
lay_keeps mark c =
    let b : Block = record { body = c.body; end = c.end } in
    record {
      laid = omega (arith, length-append c.laid (b ∷ []));
      drawn = omega arith;
      blocks = λ i h. get_front c.laid (b ∷ []) i h;
      marks = λ m h. refl;
    }

pub seal_by_keeps : (o : Option ℕ) (c : CutBlocks) → Keeps c (seal_by o c)
seal_by_keeps (Some mark) c = keeps_itself c
seal_by_keeps None c =
    let d = draw (length c.laid) c in
    keeps_on c d (lay (length c.places) d) (draw_keeps (length c.laid) c) (lay_keeps (length c.places) d)

pub seal_keeps : (c : CutBlocks) → Keeps c (seal c)
seal_keeps c = seal_by_keeps (leads c.body c.end) c

pub branch_keeps : (d : Cond) (yes' no' : ℕ) (c : CutBlocks) → Keeps c (branch d yes' no' c)
branch_keeps (Compare rel x y) yes' no' c = opened_keeps (Branch rel x y yes' no') c c (keeps_itself c)
branch_keeps (Not d) yes' no' c = branch_keeps d no' yes' c
branch_keeps (Both d e) yes' no' c =
    let second = branch e yes' no' c in
    keeps_on c second _ (branch_keeps e yes' no' c) (keeps_on second (seal second) _ (seal_keeps second) (branch_keeps d (next_mark second) no' (seal second)))
branch_keeps (Either d e) yes' no' c =
    let second = branch e yes' no' c in
    keeps_on c second _ (branch_keeps e yes' no' c) (keeps_on second (seal second) _ (seal_keeps second) (branch_keeps d yes' (next_mark second) (seal second)))

-- a head that stands at a mark which is drawn later
pub head_keeps : (mark : ℕ) (c d : CutBlocks) → length c.places ≤ mark → Keeps c d → Keeps c (head mark d)
head_keeps mark c d h k =
    let e = stand mark (length d.laid) d in
    let stands : Keeps c e =
    record {
      laid = k.laid;
      drawn = omega (arith, k.drawn, length-set d.places mark (length d.laid));
      blocks = k.blocks;
      marks = λ m l. set_other d.places mark m (length d.laid) (λ same. omega (arith, same, l, h)) ∙ k.marks m l;
    } in
    keeps_on c e (lay mark e) stands (lay_keeps mark e)

-- a side of a choice in front of a join, and its seal
abbrev pub side : (exits : List ℕ) → (join : ℕ) → Ts → CutBlocks → CutBlocks
side exits join s c = cut exits s (open_at (Jump join) c)

-- a loop's turn, after what is laid of what comes next
abbrev pub turn : (exits : List ℕ) → Ts → CutBlocks → CutBlocks
turn exits s c = cut (exits ++ next_mark c ∷ []) s (open_at (Jump (length (seal c).places)) (draw 0 (seal c)))

abbrev CutKeeps : Ts → Type 0
CutKeeps s = (exits : List ℕ) (c : CutBlocks) → Keeps c (cut exits s c)

pub side_keeps : (exits : List ℕ) (join : ℕ) (s : Ts) (c : CutBlocks) → CutKeeps s → Keeps c (seal (side exits join s c))
side_keeps exits join s c h =
    keeps_on c (open_at (Jump join) c) _ (opened_keeps (Jump join) c c (keeps_itself c))
    (keeps_on (open_at (Jump join) c) (side exits join s c) _ (h exits (open_at (Jump join) c)) (seal_keeps (side exits join s c)))

pub turn_keeps : (exits : List ℕ) (s : Ts) (c : CutBlocks) → CutKeeps s → Keeps (draw 0 (seal c)) (turn exits s c)
turn_keeps exits s c h =
    let d = draw 0 (seal c) in
    let o = open_at (Jump (length (seal c).places)) d in
    keeps_on d o _ (opened_keeps (Jump (length (seal c).places)) d d (keeps_itself d)) (h (exits ++ next_mark c ∷ []) o)

either_keeps : (b : Bool) (c d : CutBlocks) → Keeps c d → Keeps c (if b then c else d)
either_keeps true c d h = keeps_itself c
either_keeps false c d h = h

mutual
  pub cut_keeps : (s : Ts) (exits : List ℕ) (c : CutBlocks) → Keeps c (cut exits s c)
  cut_keeps (Move i x) exits c = front_keeps (Move i x) c
  cut_keeps (Store x y) exits c = front_keeps (Store x y) c
  cut_keeps (StoreByte x y) exits c = front_keeps (StoreByte x y) c
  cut_keeps (Do x) exits c = front_keeps (Do x) c
  cut_keeps (If d s t) exits c =
      let join = next_mark c in
      let c1 = seal c in
      let c2 = seal (side exits join t c1) in
      let c3 = seal (side exits join s c2) in
      keeps_on c c1 _ (seal_keeps c)
      (keeps_on c1 c2 _ (side_keeps exits join t c1 (cut_keeps t))
      (keeps_on c2 c3 _ (side_keeps exits join s c2 (cut_keeps s))
      (branch_keeps d (next_mark (side exits join s c2)) (next_mark (side exits join t c1)) c3)))
  cut_keeps (Loop s) exits c =
      let c1 = seal c in
      let k = seal_keeps c in
      head_keeps (length c1.places) c (turn exits s c) k.drawn
      (keeps_on c c1 _ k (keeps_on c1 (draw 0 c1) _ (draw_keeps 0 c1) (turn_keeps exits s c (cut_keeps s))))
  cut_keeps (Break k) exits c = opened_keeps (Jump (exit_of exits k)) c c (keeps_itself c)
  cut_keeps (tree.Fault n) exits c = opened_keeps (Fault n) c c (keeps_itself c)
  cut_keeps (Seq ss) exits c = all_keeps ss exits c
  cut_keeps (tree.Return x) exits c = opened_keeps (Return x) c c (keeps_itself c)

  pub all_keeps : (ss : Stms) (exits : List ℕ) (c : CutBlocks) → Keeps c (cut_all exits ss c)
  all_keeps no_stms exits c = keeps_itself c
  all_keeps (stm s ss) exits c =
      let d = if leaves s then c else cut_all exits ss c in
      keeps_on c d _ (either_keeps (leaves s) c (cut_all exits ss c) (all_keeps ss exits c)) (cut_keeps s exits d)

-- The final blocks, and the place of each mark among them as they were laid, have what was laid and drawn from one cut to another.
module _ (places : List ℕ) (laid : List Block) where
  pub record Fits (c d : CutBlocks) : Type 0 where
    pub blocks : (i : ℕ) → length c.laid ≤ i → i < length d.laid → slice_get laid i ≡ slice_get d.laid i
    pub marks : (m : ℕ) → length c.places ≤ m → m < length d.places → slice_get places m ≡ slice_get d.places m

  pub fits_first : (c d e : CutBlocks) → Keeps d e → Fits c e → Fits c d
  fits_first c d e k f = record {
    blocks = λ i h l. f.blocks i h (omega (arith, k.laid, l)) ∙ k.blocks i l;
    marks = λ m h l. f.marks m h (omega (arith, k.drawn, l)) ∙ k.marks m l;
  }

  pub fits_rest : (c d e : CutBlocks) → Keeps c d → Fits c e → Fits d e
  fits_rest c d e k f = record { blocks = λ i h l. f.blocks i (omega (arith, k.laid, h)) l; marks = λ m h l. f.marks m (omega (arith, k.drawn, h)) l }

  -- a mark stands at a block
  pub record Stands (mark place : ℕ) (body : Stms) (end' : BlockEnd) : Type 0 where
    pub at : slice_index places mark ≡ place
    pub block : slice_get laid place ≡ Some (record { body = body; end = end' })

  pub sealed_stands : (c : CutBlocks) → Fits c (seal_by None c) → Stands (length c.places) (length c.laid) c.body c.end
  sealed_stands c f =
      let b : Block = record { body = c.body; end = c.end } in
      record {
        at =
            get_or_from_slice_get places (length c.places) (length c.laid) 0
            (f.marks (length c.places) (omega arith) (omega (arith, length-append c.places (length c.laid ∷ []))) ∙ get_seam c.places (length c.laid));
        block = f.blocks (length c.laid) (omega arith) (omega (arith, length-append c.laid (b ∷ []))) ∙ get_seam c.laid b;
      }

  pub head_stands :
      (mark : ℕ) (c d : CutBlocks) → length c.places ≤ mark → mark < length d.places → length c.laid ≤ length d.laid → Fits c (head mark d) →
      Stands mark (length d.laid) d.body d.end
  head_stands mark c d h l g f =
      let b : Block = record { body = d.body; end = d.end } in
      record {
        at =
            get_or_from_slice_get places mark (length d.laid) 0
            (f.marks mark h (omega (arith, l, length-set d.places mark (length d.laid))) ∙ set_own d.places mark (length d.laid) l);
        block = f.blocks (length d.laid) g (omega (arith, length-append d.laid (b ∷ []))) ∙ get_seam d.laid b;
      }

  -- after a head that stands at a mark which was drawn before
  pub fits_turn : (mark : ℕ) (c b d : CutBlocks) → Keeps c b → mark < length b.places → Fits c (head mark d) → Fits b d
  fits_turn mark c b d k l f =
      let e : Block = record { body = d.body; end = d.end } in
      record {
        blocks = λ i h g. f.blocks i (omega (arith, k.laid, h)) (omega (arith, g, length-append d.laid (e ∷ []))) ∙ get_front d.laid (e ∷ []) i g;
        marks =
            λ m h g. f.marks m (omega (arith, k.drawn, h)) (omega (arith, g, length-set d.places mark (length d.laid))) ∙ set_other d.places mark m
            (length d.laid) (λ same. omega (arith, same, h, l));
      }
