-- The block in the place of one instruction: loads, the instruction with other operands, a store; a move's load or
-- store, or nothing.
use Rattle.std.proofs.Common.{ℕ, ◌≡◌, ◌≢◌, ◌+◌, ◌*◌, ◌≤◌, ◌&&◌, ◌||◌, Bool, true, false, List, [], ◌∷◌, ◌++◌}
use Rattle.std.proofs.Common.{nat_lt, refl, sym, ap, ◌∙◌, subst}
use Rattle.std.proofs.Common.{◌⊎◌, inl, inr, ⊎_elim, Option, Some, None}
use Rattle.std.specs.Prelude.{if◌then◌else◌}
use Rattle.std.specs.List.{list_any}
use Rattle.tg_simulation.specs.Runs.{Run}
use Rattle.tg_simulation.specs.Ran.{Ran, Wrong}
use Rattle.tg_simulation.specs.Preserving.{DoesTheSame}
use Rattle.tg_tree.specs.Actions.{World, Activation, wrong}
use Rattle.tg_tree.specs.Memory.{Cell, slot, put, set_cell}
use Rattle.tg_instr.specs.declared.operands.Opnd.{Opnd}
use Rattle.tg_instr.specs.declared.operands.Opnd.TheVariants.{Temp, Reg}
use Rattle.tg_instr.specs.declared.instr.Instr.{Instr}
use Rattle.tg_instr.specs.declared.instr.Instr.TheVariants.{FrameLoad, FrameStore}
use Rattle.tg_instr.specs.Operands.{is_same}
use Rattle.tg_instr.specs.Shapes.{Operand, Hi, Lo, InstructionShape, From0, From1, From2, Halves, Copy, Loads, Stores}
use Rattle.tg_instr.specs.Shapes.{FromSlot, ToSlot, Base, AddressOf}
use Rattle.tg_instr.specs.Shapes.{Here, Goes, Tests, Calls, Asks, Fails, Returns, shape}
use Rattle.tg_instr.specs.Uses.{uses, defs}
use Rattle.tg_instr.specs.Contents.{Content, Nothing, Word, Found, Contents, set, held, cell_of, content_of}
use Rattle.tg_instr.specs.Meaning.{Next, act, with_content, put_in, put_slot}
use Rattle.tg_live.specs.Interference.{moves}
use Rattle.tg_regalloc_proof.specs.Named.{to_of, first_of, second_of, passes, reshaped}
use Rattle.tg_regalloc_proof.specs.Places.{IsPlain, Place, In, At, Places, are_one, IsPlainPlace, IsClear, fetched, kept, through}
use Rattle.tg_regalloc_proof.specs.Places.{fetched_for, kept_for, through_for, AllClear, Needs, NeedsFor, Scratch, IsBlock, around, falls_away}
use Rattle.tg_regalloc_proof.specs.Places.{load, store, both}
use Rattle.tg_regalloc_proof.proofs.Simulating.{Simulates, simulates_between, between}
use Rattle.tg_regalloc_proof.proofs.Contents.{leads, set_other, set_plain, plain_not_sp, false_if, or_false, and_false}
use Rattle.tg_regalloc_proof.proofs.Unset.{unset_first, unset_second}
use Rattle.tg_regalloc_proof.proofs.Apart.{Sides, first_side, second_side, Asked, Onward, step}
use Rattle.tg_regalloc_proof.proofs.Dearer.{IsNoCall, CallsLast, runs_free}
use Rattle.tg_regalloc_proof.proofs.Scenes.{content, Agrees, Scene, Flows, told, narrowed, reg_is, scratched, in_is}
use Rattle.tg_regalloc_proof.proofs.Scenes.{defined_in, defined_at, defined_already, divided, came_back}
use Rattle.tg_regalloc_proof.proofs.Worlds.{put_added}
use Rattle.tg_regalloc_proof.proofs.Serving.{Worlds}
use Rattle.tg_instr.proofs.Same.{same_itself, same_is}

-- an added slot of the running frame
pub record IsOwned (a : Activation) (slots : ℕ) (added : ℕ → Bool) (k : ℕ) : Type 0 where
  pub below : nat_lt k slots ≡ true
  pub fits : 4 * (k + 1) ≤ a.base
  pub is_added : added (slot a.base k) ≡ true

-- the one as it was, or with the scratch operand set, which then is clear
pub data Fetched (Clear : Type 0) (z : Opnd) (t : Contents) : Contents → Type 0 where
  as_it_was : Fetched Clear z t t
  with_slot : Clear → (d : Content) → Fetched Clear z t (set (Operand z) d t)

-- a named operand is used
first_used : (q : InstructionShape) (o : Opnd) → first_of q ≡ Some o → list_any (is_same o) (uses q) ≡ true
first_used q o e = by q e
  where
    head : (x : Opnd) (xs : List Opnd) → Some x ≡ Some o → list_any (is_same o) (x ∷ xs) ≡ true
    head x xs h = let same : x ≡ o = cc in subst (λ y. list_any (is_same o) (y ∷ xs) ≡ true) (sym same) (ap (λ b.
        b || list_any (is_same o) xs) (same_itself o))

    by : (q : InstructionShape) → first_of q ≡ Some o → list_any (is_same o) (uses q) ≡ true
    by (From0 to k) h = cc
    by (From1 to (Operand x) f) h = head x [] h
    by (From1 to Hi f) h = cc
    by (From1 to Lo f) h = cc
    by (From2 to x y f) h = head x (y ∷ []) h
    by (Halves x y low high) h = head x (y ∷ []) h
    by (Copy to x) h = head x [] h
    by (Loads to x k f) h = head x [] h
    by (Stores x y k f) h = head x (y ∷ []) h
    by (FromSlot to k) h = cc
    by (ToSlot x k) h = head x [] h
    by (Base to) h = cc
    by (AddressOf to label) h = cc
    by (Here m) h = cc
    by (Goes m) h = cc
    by (Tests rel x y m) h = head x (y ∷ []) h
    by (Calls label) h = cc
    by Asks h = cc
    by (Fails k) h = cc
    by Returns h = cc

second_used : (q : InstructionShape) (o : Opnd) → second_of q ≡ Some o → list_any (is_same o) (uses q) ≡ true
second_used q o e = by q e
  where
    or_right : (b c : Bool) → c ≡ true → (b || c) ≡ true
    or_right true c h = refl
    or_right false c h = h

    behind : (x y : Opnd) → Some y ≡ Some o → list_any (is_same o) (x ∷ y ∷ []) ≡ true
    behind x y h =
        let same : y ≡ o = cc in
        or_right (is_same o x) (is_same o y || false) (ap (λ b. b || false) (ap (λ z. is_same o z) same
        ∙ same_itself o))

    by : (q : InstructionShape) → second_of q ≡ Some o → list_any (is_same o) (uses q) ≡ true
    by (From0 to k) h = cc
    by (From1 to x f) h = cc
    by (From2 to x y f) h = behind x y h
    by (Halves x y low high) h = behind x y h
    by (Copy to x) h = cc
    by (Loads to x k f) h = cc
    by (Stores x y k f) h = behind x y h
    by (FromSlot to k) h = cc
    by (ToSlot x k) h = cc
    by (Base to) h = cc
    by (AddressOf to label) h = cc
    by (Here m) h = cc
    by (Goes m) h = cc
    by (Tests rel x y m) h = behind x y h
    by (Calls label) h = cc
    by Asks h = cc
    by (Fails k) h = cc
    by Returns h = cc

module _ (place : Opnd → Place) where
  fetched_last : (z : Opnd) (p : Place) (rest : List Instr) → CallsLast rest → CallsLast (fetched z p ++ rest)
  fetched_last z (In y) rest h = h
  fetched_last z (At k) rest h = (inr tt, h)

  fetched_for_last : (z : Opnd) (op : Option Opnd) (rest : List Instr) → CallsLast rest → CallsLast (fetched_for place z op ++ rest)
  fetched_for_last z None rest h = h
  fetched_for_last z (Some o) rest h = fetched_last z (place o) rest h

  kept_calls : (z : Opnd) (p : Place) → CallsLast (kept z p)
  kept_calls z (In y) = tt
  kept_calls z (At k) = (inl refl, tt)

  no_call : (q : InstructionShape) (z x y d : Opnd) → to_of q ≡ Some d → IsNoCall (reshaped q z x y)
  no_call (Calls label) z x y d e = absurd (never e)
    where
      never : None ≡ Some d → ⊥
      never h = cc
  no_call (From0 to n) z x y d e = tt
  no_call _ z x y d e = tt

  -- in a block a call is alone
  pub calls_are_last : (B : Opnd → Type 0) (one : Instr) (block : List Instr) → IsBlock place B one block → CallsLast block
  calls_are_last B one _ (around z0 z1 z2 C y e) =
      fetched_for_last z1 (first_of (shape one)) _ (fetched_for_last z2 (second_of (shape one)) _
      (core_of (to_of (shape one)) refl))
    where
      core_of : (op : Option Opnd) → to_of (shape one) ≡ op → CallsLast (y ∷ kept_for place z0 op)
      core_of None h = (inl refl, tt)
      core_of (Some d) h = (inr (subst IsNoCall (sym e) (no_call (shape one) _ _ _ d h)), kept_calls z0 (place d))
  calls_are_last B one _ (falls_away d o e h) = tt
  calls_are_last B one _ (load d o y k e h g) = (inl refl, tt)
  calls_are_last B one _ (store d o y k e h g) = (inl refl, tt)
  calls_are_last B one _ (both d o z j k e p c h g) = (inr tt, (inl refl, tt))

-- The activation and the places; which words are added, and what is asked of their cells; what is around the two.
module _
    (a : Activation) (P : Places) (added : ℕ → Bool) (Kept : (ℕ → Cell) → Type 0) (E : Sides)
    (owned : (x : Opnd) (k : ℕ) → P.place x ≡ At k → IsOwned a E.slots' added k)
    (keeps : (x : Opnd) (k : ℕ) (c : Cell) (cells : ℕ → Cell) → P.place x ≡ At k → Kept cells →
    Kept (set_cell (slot a.base k) c cells)) where
  abbrev Scenes : (Opnd → Type 0) → (ℕ → Cell) → Contents → Contents → Type 0
  Scenes L cells s t = Scene a P L cells s t

  -- instructions of the second, and what comes next
  abbrev pub runs : List Instr → Next → Next
  runs = runs_free E.room E.literals E.enter' (second_side a E)

  abbrev Same1 : Contents → Contents → (o x : Opnd) → Type 0
  Same1 s t o x = (held a t (Operand x) ≡ held a s (Operand o)) ⊎ (held a s (Operand o) ≡ Nothing)

  fetched_scene : (L : Opnd → Type 0) (cells : ℕ → Cell) (s : Contents) (z : Opnd) (t t1 : Contents) → Fetched
      (AllClear P.place L z) z t t1 →
      Scenes L cells s t → Scenes L cells s t1
  fetched_scene L cells s z t _ as_it_was S = S
  fetched_scene L cells s z t _ (with_slot clear d) S = scratched a P L cells s t z d clear S

  fetched_held : (Clear : Type 0) (z y : Opnd) (t t1 : Contents) → (Clear → is_same y z ≡ false) →
      Fetched Clear z t t1 →
      held a t1 (Operand y) ≡ held a t (Operand y)
  fetched_held Clear z y t _ h as_it_was = refl
  fetched_held Clear z y t _ h (with_slot c d) = set_other a z y d t (h c)

  -- a load of an added slot into an operand
  loads_it : (c : Run Ran) (z : Opnd) (k : ℕ) (d : Content) (next' : Next) (cells : ℕ → Cell) (w v : World)
      (t : Contents) → Worlds added cells w v →
      IsOwned a E.slots' added k → is_same z (Reg 29) ≡ false → content_of (cells (slot a.base k)) ≡ d → (d
      ≡ Nothing → (n : ℕ) → (c n).stop ≡ Wrong) →
      (d ≢ Nothing → Simulates c (next' v (set (Operand z) d t))) → Simulates c (act E.room E.literals E.enter'
      (FromSlot z k) (second_side a E) next' v t)
  loads_it c z k d next' cells w v t r o sp h never f =
      λ n ok.
      between 0 (c n) (c n) _ _ refl
      (ap (λ b. (if b then with_content (content_of (v.memory.stack (slot a.base k))) v go else wrong v) n) o.below
      ∙ ap (λ q. with_content q v go n) (ap content_of (r.memory.kept (slot a.base k) o.is_added) ∙ h))
      (by d never f n ok)
    where
      go : Content → Run Ran
      go q = put_in z q (second_side a E) next' v t

      gone : (q : Content) (n : ℕ) → go q n ≡ next' v (set (Operand z) q t) n
      gone q n = ap (λ b. (if b then wrong v else next' v (set (Operand z) q t)) n) sp

      by : (d : Content) → (d ≡ Nothing → (n : ℕ) → (c n).stop ≡ Wrong) → (d ≢ Nothing → Simulates c (next' v (set
          (Operand z) d t))) → (n : ℕ) → (c n).stop ≢ Wrong → DoesTheSame 1 0 (c n) (with_content d v go n)
      by Nothing never f n ok = absurd (ok (never refl n))
      by (Word u) never f n ok = between 0 (c n) (c n) _ _ refl (gone (Word u) n) (f (λ z. cc) n ok)
      by (Found u) never f n ok = between 0 (c n) (c n) _ _ refl (gone (Found u) n) (f (λ z. cc) n ok)

  -- a store of an operand to an added slot
  stores_it : (c : Run Ran) (z : Opnd) (k : ℕ) (d : Content) (next' : Next) (v : World) (t : Contents) →
      IsOwned a E.slots' added k → held a t (Operand z) ≡ d → d ≢ Nothing →
      Simulates c (next' (record v { memory = put (slot a.base k) (cell_of d) v.memory }) t) → Simulates c
      (act E.room E.literals E.enter' (ToSlot z k) (second_side a E) next' v t)
  stores_it c z k d next' v t o h filled f =
      λ n ok.
      between 0 (c n) (c n) _ _ refl
      (ap (λ q. with_content q v go n) h ∙ (by d filled n
      ∙ ap (λ b. (if b then next' (record v {
        memory = put (slot a.base k)
            (cell_of d) v.memory;
      }) t else wrong v) n) o.below))
      (f n ok)
    where
      go : Content → Run Ran
      go q = put_slot k q (second_side a E) next' v t

      by : (d : Content) → d ≢ Nothing → (n : ℕ) → with_content d v go n ≡ go d n
      by Nothing filled n = absurd (filled refl)
      by (Word u) filled n = refl
      by (Found u) filled n = refl

  put_world : (cells : ℕ → Cell) (w v : World) (k : ℕ) (c : Cell) → Worlds added cells w v →
      IsOwned a E.slots' added k →
      Worlds added (set_cell (slot a.base k) c cells) w (record v { memory = put (slot a.base k) c v.memory })
  put_world cells w v k c r o = record {
    input = r.input;
    memory =
        put_added added cells w.memory v.memory r.memory (slot a.base k) c o.is_added;
  }

  -- An instruction in both runs: what is live before it, after it and after each mark; what comes next; and where both are.
  pub record Moment : Type 1 where
    pub one : Instr
    pub before : Opnd → Type 0
    pub behind : Opnd → Type 0
    pub at_mark : ℕ → Opnd → Type 0
    pub flows : Flows a P (shape one) before behind at_mark
    pub next : Next
    pub next' : Next
    -- what comes next is simulated, and so are jumps
    pub onward : (cells : ℕ → Cell) → Kept cells → (w v : World) (s t : Contents) → Worlds added cells w v → Scenes behind cells s t →
        Simulates (next w s) (next' v t)
    pub led : (m : ℕ) → leads (shape one) m → (cells : ℕ → Cell) → Kept cells → (w v : World) (s t : Contents) →
        Worlds added cells w v → Scenes (at_mark m) cells s t → Simulates (E.jumps m w s) (E.jumps' m v t)
    -- the cells of the added words, the worlds and the contents
    pub cells : ℕ → Cell
    pub still : Kept cells
    pub first_world : World
    pub second_world : World
    pub first_contents : Contents
    pub second_contents : Contents
    pub worlds : Worlds added cells first_world second_world

  module _ (it : Moment) where
    -- short names for its parts
    abbrev q : InstructionShape
    q = shape it.one

    abbrev B : Opnd → Type 0
    B = it.before

    abbrev A : Opnd → Type 0
    A = it.behind

    abbrev J : ℕ → Opnd → Type 0
    J = it.at_mark

    abbrev F : Flows a P (shape it.one) it.before it.behind it.at_mark
    F = it.flows

    abbrev next : Next
    next = it.next

    abbrev next' : Next
    next' = it.next'

    abbrev cells : ℕ → Cell
    cells = it.cells

    abbrev still : Kept it.cells
    still = it.still

    abbrev w : World
    w = it.first_world

    abbrev v : World
    v = it.second_world

    abbrev s : Contents
    s = it.first_contents

    abbrev t : Contents
    t = it.second_contents

    abbrev r : Worlds added it.cells it.first_world it.second_world
    r = it.worlds

    abbrev first_run : Run Ran
    first_run = act E.room E.literals E.enter q (first_side a E) next w s

    -- an operand is fetched
    fetches : (z o : Opnd) (p : Place) → Needs P.place B z p → P.place o ≡ p → (rest : List Instr) (next2 : Next)
        (t1 : Contents) →
        (held a s (Operand o) ≡ Nothing → (n : ℕ) → (first_run n).stop ≡ Wrong) →
        Agrees a P cells s t1 o →
        ((t2 : Contents) → Fetched (AllClear P.place B z) z t1 t2 → Same1 s t2 o (through z p) → Simulates first_run
        (runs rest next2 v t2)) →
        Simulates first_run (runs (fetched z p ++ rest) next2 v t1)
    fetches z o (In y) needs e rest next2 t1 never g f =
        f t1 as_it_was (⊎_elim (λ h. inl (ap (λ p. content a P cells t1 p) (sym e) ∙ h)) (λ h.
        inr h) (told a P cells s t1 o g))
    fetches z o (At k) needs e rest next2 t1 never g f =
        (loads_it first_run z k (content_of (cells (slot a.base k))) (λ v1 t2.
        runs rest next2 v1 t2) cells w v t1 r (owned o k e) (plain_not_sp z needs.0) refl
        (λ h. never (⊎_elim (λ i. sym i ∙ (ap (λ p. content a P cells t1 p) e ∙ h)) (λ i. i) was))
        (λ filled. f _ (with_slot needs.1 (content_of (cells (slot a.base k))))
        (⊎_elim (λ i. inl (set_plain a z (content_of (cells
        (slot a.base k))) t1 needs.0
        ∙ (ap (λ p. content a P cells t1 p) (sym e) ∙ i))) (λ i. inr i) was)))
      where
        was : (content a P cells t1 (P.place o) ≡ held a s (Operand o)) ⊎ (held a s (Operand o)
            ≡ Nothing)
        was = told a P cells s t1 o g

    fetches_for : (z : Opnd) (op : Option Opnd) → NeedsFor P.place B z op → (rest : List Instr) (next2 : Next)
        (t1 : Contents) →
        ((o : Opnd) → op ≡ Some o → held a s (Operand o) ≡ Nothing → (n : ℕ) → (first_run n).stop ≡ Wrong) →
        ((o : Opnd) → op ≡ Some o → Agrees a P cells s t1 o) →
        ((t2 : Contents) → Fetched (AllClear P.place B z) z t1 t2 → ((o : Opnd) → op ≡ Some o → Same1 s t2 o
        (through_for P.place z op)) → Simulates first_run (runs rest next2 v t2)) →
        Simulates first_run (runs (fetched_for P.place z op ++ rest) next2 v t1)
    fetches_for z None needs rest next2 t1 never g f = f t1 as_it_was (λ o h. cc)
    fetches_for z (Some o) needs rest next2 t1 never g f =
        fetches z o (P.place o) needs refl rest next2 t1 (never o refl) (g o refl) (λ t2 h m. f t2 h (λ i e.
        let same : o ≡ i = cc in subst (λ j. Same1 s t2 j (through z (P.place o))) same m))

    clash_of : (d : Opnd) (c : Content) → ((x : Opnd) → list_any (is_same x) (defs q) ≡ (is_same x d || false)) →
        ((x : Opnd) → (moves q d x ≡ false) ⊎ (held a s (Operand x) ≡ c)) →
        (x : Opnd) → A x → is_same x d ≡ false → are_one (P.place x) (P.place d) ≡ true → held a s (Operand x) ≡ c
    clash_of d c one but x l n z =
        ⊎_elim (λ m. absurd (false_if (are_one (P.place x) (P.place d)) z (F.proper d x (one d ∙ ap (λ b. b || false)
        (same_itself d)) l n m))) (λ h. h) (but x)

    -- what is defined is kept in its place
    kept_there : (z d : Opnd) (p : Place) → Needs P.place B z p → P.place d ≡ p → (c : Content) → c ≢ Nothing →
        passes q ≡ true →
        ((x : Opnd) → list_any (is_same x) (defs q) ≡ (is_same x d || false)) → ((x : Opnd) → (moves q d x
        ≡ false) ⊎ (held a s (Operand x) ≡ c)) →
        (w1 v1 : World) (t1 : Contents) → Worlds added cells w1 v1 → Scenes B cells s t1 →
        Simulates (next w1 (set (Operand d) c s)) (runs (kept z p) next' v1 (set (Operand (through z p)) c t1))
    kept_there z d (In y) needs e c filled pass one but w1 v1 t1 r1 S =
        it.onward cells still w1 v1 _ _ r1
        (defined_in a P A B d y c cells s t1 e S (λ x l n. F.on pass x l (one x ∙ or_false
        (is_same x d) n)) (clash_of d c one but))
    kept_there z d (At k) needs e c filled pass one but w1 v1 t1 r1 S =
        (stores_it (next w1 (set (Operand d) c s)) z k c next' v1 (set (Operand z) c t1) (owned d k e)
        (set_plain a z c t1 needs.0) filled
        (it.onward (set_cell (slot a.base k) (cell_of c) cells) (keeps d k (cell_of c) cells e still) w1 _ _ _
        (put_world cells w1 v1 k (cell_of c) r1 (owned d k e))
        (defined_at a P A B d k c cells s (set (Operand z) c t1) e
        (scratched a P B cells s t1 z c needs.1 S)
        ((owned d k e).fits) (λ x j l h. (owned x j h).fits) (λ x l n. F.on pass x l (one x ∙ or_false
        (is_same x d) n)) (clash_of d c one but))))

    through_apart : (z1 z2 : Opnd) (p : Place) → IsClear z2 p → ((k : ℕ) → p ≡ At k → is_same z1 z2 ≡ false) →
        is_same (through z1 p) z2 ≡ false
    through_apart z1 z2 (In y) h e = h
    through_apart z1 z2 (At k) h e = e k refl

    not_sp : (z d : Opnd) → is_same d (Reg 29) ≡ false → (p : Place) → Needs P.place B z p → P.place d ≡ p → is_same
        (through z p) (Reg 29) ≡ false
    not_sp z (Temp i) n (In y) needs e = plain_not_sp y (subst IsPlainPlace e (P.plain (Temp i) tt))
    not_sp z (Reg i) n (In y) needs e = subst (λ x. is_same x (Reg 29) ≡ false) (in_is (Reg i) y (sym (P.fixed i)
        ∙ e)) n
    not_sp z d n (At k) needs e = plain_not_sp z needs.0

    -- loads, the instruction with other operands, a store
    pub loaded_and_stored : (z0 z1 z2 : Opnd) → Scratch P.place B q z0 z1 z2 → (y : Instr) →
        shape y ≡ reshaped q (through_for P.place z0 (to_of q)) (through_for P.place z1 (first_of q))
        (through_for P.place z2 (second_of q)) →
        Asked a (Worlds added cells) (λ w v r.
        r.input) E q → Scenes B cells s t →
        Simulates first_run (runs (fetched_for P.place z1 (first_of q) ++ (fetched_for P.place z2 (second_of q) ++ (y
        ∷ kept_for P.place z0 (to_of q)))) next' v t)
    loaded_and_stored z0 z1 z2 C y e asked S =
        fetches_for z1 (first_of q) C.first (fetched_for P.place z2 (second_of q) ++ (y ∷ kept_for P.place z0
        (to_of q))) next' t
        (λ o h u n. unset_first (first_side a E) E.room E.literals E.enter next w s n q o h u) (λ o h. S.live o
        (F.used o (first_used q o h))) (λ t1 f1 m1.
        let S1 : Scenes B cells s t1 = fetched_scene B cells s z1 t t1 f1 S in
        fetches_for z2 (second_of q) C.second (y ∷ kept_for P.place z0 (to_of q)) next' t1
        (λ o h u n. unset_second (first_side a E) E.room E.literals E.enter next w s n q o h u) (λ o h. S1.live o
        (F.used o (second_used q o h))) (λ t2 f2 m2.
        middle t2 (fetched_scene B cells s z2 t1 t2 f2 S1) (λ o h. first_still t1 t2 f2 o h (m1 o h)) m2))
      where
        first_still : (t1 t2 : Contents) → Fetched (AllClear P.place B z2) z2 t1 t2 → (o : Opnd) → first_of q
            ≡ Some o → Same1 s t1 o (through_for P.place z1 (first_of q)) →
            Same1 s t2 o (through_for P.place z1 (first_of q))
        first_still t1 t2 f2 o h m =
            subst (λ op. Same1 s t1 o (through_for P.place z1 op) → Same1 s t2 o (through_for P.place z1 op)) (sym h)
            (λ i. ⊎_elim
            (λ g. inl (fetched_held (AllClear P.place B z2) z2 (through z1 (P.place o)) t1 t2
            (λ c. through_apart z1 z2 (P.place o) (c o (F.used o (first_used q o h))) (λ k e. C.apart o k h e)) f2 ∙ g))
            (λ g. inr g) i) m

        middle : (t2 : Contents) → Scenes B cells s t2 → ((o : Opnd) → first_of q ≡ Some o → Same1 s t2 o
            (through_for P.place z1 (first_of q))) →
            ((o : Opnd) → second_of q ≡ Some o → Same1 s t2 o (through_for P.place z2 (second_of q))) →
            Simulates first_run (runs (y ∷ kept_for P.place z0 (to_of q)) next' v t2)
        middle t2 S2 m1 m2 =
            subst (λ sh. Simulates first_run (act E.room E.literals E.enter' sh (second_side a E) (λ v1 t1. runs
            (kept_for P.place z0 (to_of q)) next' v1 t1) v t2)) (sym e)
            ((step a (Worlds added cells) (λ w v r.
            r.input) E q asked
            (through_for P.place z0 (to_of q)) (through_for P.place z1 (first_of q)) (through_for P.place z2
            (second_of q)) next (λ v1 t1. runs (kept_for P.place z0 (to_of q)) next' v1 t1) s t2
            (record {
              first = m1;
              second = m2;
              hi = S2.hi;
              lo = S2.lo;
              register = λ i h.
                  reg_is a P B cells i s t2 S2 (F.used (Reg i) h);
            })
            ways w v r))
          where
            needs_of : (d : Opnd) → to_of q ≡ Some d → Needs P.place B z0 (P.place d)
            needs_of d h = subst (λ o. NeedsFor P.place B z0 o) h C.to

            nothing_kept : to_of q ≡ None → (c : Run Ran) (v1 : World) (t1 : Contents) → Simulates c (next' v1 t1) →
                Simulates c (runs (kept_for P.place z0 (to_of q)) next' v1 t1)
            nothing_kept h c v1 t1 f = subst (λ o. Simulates c (runs (kept_for P.place z0 o) next' v1 t1)) (sym h) f

            ways : Onward a (Worlds added cells) (λ w v r.
                r.input) E q
                (through_for P.place z0 (to_of q)) next (λ v1 t1. runs (kept_for P.place z0 (to_of q)) next' v1 t1) s t2
            ways =
                record {
                  not_sp = λ d h n. subst (λ o. is_same (through_for P.place z0 o) (Reg 29) ≡ false) (sym h)
                      (not_sp z0 d n (P.place d) (needs_of d h) refl);
                  defines = λ d h pass one c filled but w1 v1 r1.
                      subst (λ o. Simulates (next w1 (set (Operand d) c s)) (runs (kept_for P.place z0 o) next' v1 (set
                      (Operand (through_for P.place z0 o)) c t2))) (sym h)
                      (kept_there z0 d (P.place d) (needs_of d h) refl c filled pass one but w1 v1 t2 r1 S2);
                  goes = λ h pass none w1 v1 r1. nothing_kept h _ v1 t2
                      (it.onward cells still w1 v1 s t2 r1 (narrowed a P B A cells s t2 S2 (λ x l.
                      F.on pass x l (ap (λ d. list_any (is_same x) d) none))));
                  divides = λ h pass none i j w1 v1 r1. nothing_kept h _ v1 _
                      (it.onward cells still w1 v1 _ _ r1
                      (divided a P B A cells (Word i) (Word j) s t2 S2 (λ x l. F.on pass x l (ap
                      (λ d. list_any (is_same x) d) none))));
                  onto = λ m l none w1 v1 r1. it.led m l cells still w1 v1 s t2 r1 (narrowed a P B
                      (J m) cells s t2 S2 (λ x j. F.across m l x j));
                  returns = λ label h c w1 v1 r1. nothing_kept (ap to_of h) _ v1 _
                      (it.onward cells still w1 v1 _ _ r1
                      (came_back a P B A J cells label c s t2 (subst (λ z.
                      Flows a P z B A J) h F) S2));
                  answers = λ h i w1 v1 r1. nothing_kept (ap to_of h) _ v1 _
                      (it.onward cells still w1 v1 _ _ r1 (answered i (subst (λ z.
                      Flows a P z B A J) h F)));
                }
              where
                answered : (i : ℕ) → Flows a P Asks B A J → Scenes A cells (set (Operand (Reg 2))
                    (Word i) s) (set (Operand (Reg 2)) (Word i) t2)
                answered i G =
                    defined_in a P A B (Reg 2) (Reg 2) (Word i) cells s t2 (P.fixed 2) S2 (λ y l n.
                    G.on refl y l (or_false (is_same y (Reg 2)) n))
                    (λ y l n z. absurd (false_if (are_one (P.place y) (P.place (Reg 2))) z (G.proper
                    (Reg 2) y refl l n refl)))

    moved_alone : (d o x : Opnd) → (moves (Copy d o) d x ≡ false) ⊎ (held a s (Operand x) ≡ held a s (Operand o))
    moved_alone d o x = by (is_same x o) refl
      where
        by : (b : Bool) → is_same x o ≡ b → (moves (Copy d o) d x ≡ false) ⊎ (held a s (Operand x) ≡ held a s
            (Operand o))
        by true h = inr (ap (λ z. held a s (Operand z)) (same_is x o h))
        by false h = inl (ap (λ b. is_same d d && b) h ∙ and_false (is_same d d))

    -- what the first does of a move, whatever the second does for it
    copying : (d o : Opnd) → q ≡ Copy d o → (D : Run Ran) → Scenes B cells s t →
        ((c : Content) → content a P cells t (P.place o) ≡ c → c ≢ Nothing → is_same d (Reg 29)
        ≡ false →
        ((x : Opnd) → A x → is_same x d ≡ false → B x) →
        ((x : Opnd) → A x → is_same x d ≡ false → are_one (P.place x) (P.place d) ≡ true → held a s (Operand x) ≡ c) →
        Simulates (next w (set (Operand d) c s)) D) →
        Simulates first_run D
    copying d o is D S f = subst (λ z. Simulates (act E.room E.literals E.enter z (first_side a E) next w s) D) (sym is) (by (held a s
        (Operand o)) refl)
      where
        go : Content → Run Ran
        go c = put_in d c (first_side a E) next w s

        one : (x : Opnd) → list_any (is_same x) (defs q) ≡ (is_same x d || false)
        one x = ap (λ z. list_any (is_same x) (defs z)) is

        alone : (x : Opnd) → (moves q d x ≡ false) ⊎ (held a s (Operand x) ≡ held a s (Operand o))
        alone x = subst (λ z. (moves z d x ≡ false) ⊎ (held a s (Operand x) ≡ held a s (Operand o))) (sym is)
            (moved_alone d o x)

        reads_o : list_any (is_same o) (uses q) ≡ true
        reads_o = ap (λ z. list_any (is_same o) (uses z)) is ∙ ap (λ b. b || false) (same_itself o)

        put_there : (c : Content) → held a s (Operand o) ≡ c → c ≢ Nothing → Simulates (go c) D
        put_there c h filled = at (is_same d (Reg 29)) refl
          where
            has : content a P cells t (P.place o) ≡ c
            has = ⊎_elim (λ e. e ∙ h) (λ u. absurd (filled (sym h ∙ u))) (told a P cells s t o
                (S.live o (F.used o reads_o)))

            at : (b : Bool) → is_same d (Reg 29) ≡ b → Simulates (go c) D
            at true e = λ n k. absurd (k (ap (λ b. ((if b then wrong w else next w (set (Operand d) c s)) n).stop) e))
            at false e =
                simulates_between (next w (set (Operand d) c s)) _ D _ (λ n. ap (λ b. (if b then wrong w else next w (set
                (Operand d) c s)) n) e) (λ n. refl)
                (f c has filled e (λ x l n. F.on (ap passes is) x l (one x ∙ or_false (is_same x d) n))
                (clash_of d c one (λ x. ⊎_elim (λ m. inl m) (λ z. inr (z ∙ h)) (alone x))))

        by : (c : Content) → held a s (Operand o) ≡ c → Simulates (with_content c w go) D
        by Nothing h = λ n k. absurd (k refl)
        by (Word u) h = put_there (Word u) h (λ z. cc)
        by (Found u) h = put_there (Found u) h (λ z. cc)

    stored_scene : (d : Opnd) (k : ℕ) → P.place d ≡ At k → (c : Content) (t1 : Contents) → Scenes B cells s t1 →
        ((x : Opnd) → A x → is_same x d ≡ false → B x) →
        ((x : Opnd) → A x → is_same x d ≡ false → are_one (P.place x) (P.place d) ≡ true → held a s (Operand x) ≡ c) →
        Simulates (next w (set (Operand d) c s)) (next' (record v { memory = put (slot a.base k) (cell_of c) v.memory }) t1)
    stored_scene d k e c t1 S on clash =
        it.onward (set_cell (slot a.base k) (cell_of c) cells) (keeps d k (cell_of c) cells e still) w _ _ _
        (put_world cells w v k (cell_of c) r (owned d k e))
        (defined_at a P A B d k c cells s t1 e S ((owned d k e).fits) (λ x j l h.
        (owned x j h).fits) on clash)

    pub left_out : (d o : Opnd) → q ≡ Copy d o → P.place d ≡ P.place o → Scenes B cells s t → Simulates first_run (next' v t)
    left_out d o is e S =
        copying d o is (next' v t) S (λ c has filled sp on clash.
        it.onward cells still w v _ _ r
        (defined_already a P A B d c cells s t (ap (λ p. content a P cells t p) e
        ∙ has) S on clash))

    pub move_loads : (d o y : Opnd) (k : ℕ) → q ≡ Copy d o → P.place d ≡ In y → P.place o ≡ At k → Scenes B cells s t →
        Simulates first_run (runs (FrameLoad y k ∷ []) next' v t)
    move_loads d o y k is ed eo S =
        copying d o is _ S (λ c has filled sp on clash.
        (loads_it (next w (set (Operand d) c s)) y k c next' cells w v t r (owned o k eo)
        (not_sp (Temp (record { 0 = 0 })) d sp (In y) tt ed)
        (ap (λ p. content a P cells t p) (sym eo) ∙ has) (λ h. absurd (filled h)) (λ z.
        it.onward cells still w v _ _ r (defined_in a P A B d y c cells s t ed S on clash))))

    pub move_stores : (d o y : Opnd) (k : ℕ) → q ≡ Copy d o → P.place d ≡ At k → P.place o ≡ In y → Scenes B cells s t →
        Simulates first_run (runs (FrameStore y k ∷ []) next' v t)
    move_stores d o y k is ed eo S =
        copying d o is _ S (λ c has filled sp on clash.
        (stores_it (next w (set (Operand d) c s)) y k c next' v t (owned d k ed)
        (ap (λ p. content a P cells t p) (sym eo) ∙ has) filled (stored_scene d k ed c t S on clash)))

    pub move_through : (d o z : Opnd) (j k : ℕ) → q ≡ Copy d o → IsPlain z → ((x : Opnd) → B x → IsClear z
        (P.place x)) → P.place d ≡ At k → P.place o ≡ At j →
        Scenes B cells s t → Simulates first_run (runs (FrameLoad z j ∷ FrameStore z k ∷ []) next' v t)
    move_through d o z j k is pz clear ed eo S =
        copying d o is _ S (λ c has filled sp on clash.
        (loads_it (next w (set (Operand d) c s)) z j c (λ v1 t1. runs (FrameStore z k
        ∷ []) next' v1 t1) cells w v t r (owned o j eo)
        (plain_not_sp z pz)
        (ap (λ p. content a P cells t p) (sym eo) ∙ has) (λ h. absurd (filled h)) (λ i.
        (stores_it (next w (set (Operand d) c s)) z k c next' v (set (Operand z) c t) (owned d k ed)
        (set_plain a z c t pz) filled
        (stored_scene d k ed c (set (Operand z) c t)
        (scratched a P B cells s t z c clear S) on clash)))))

  -- the block of an instruction does what the instruction does
  pub block_does : (it : Moment) (block : List Instr) → IsBlock P.place it.before it.one block →
      Asked a (Worlds added it.cells) (λ w v r. r.input) E (shape it.one) →
      Scenes it.before it.cells it.first_contents it.second_contents →
      Simulates (act E.room E.literals E.enter (shape it.one) (first_side a E) it.next it.first_world it.first_contents)
      (runs block it.next' it.second_world it.second_contents)
  block_does it _ (around z0 z1 z2 C y e) asked S = loaded_and_stored it z0 z1 z2 C y e asked S
  block_does it _ (falls_away d o is e) asked S = left_out it d o is e S
  block_does it _ (load d o y k is ed eo) asked S = move_loads it d o y k is ed eo S
  block_does it _ (store d o y k is ed eo) asked S = move_stores it d o y k is ed eo S
  block_does it _ (both d o z j k is pz clear ed eo) asked S = move_through it d o z j k is pz clear ed eo S
