-- Loops of blocks that statements are cut into are entered at their heads alone.
use Rattle.std.proofs.Common.{◌≡◌, ◌<◌, ℕ, suc, ◌+◌, ◌-◌, inl, inr, Bool, true, false, List, [], ◌∷◌, ◌++◌, length, refl, ap, sym, ◌∙◌, subst, arith}
use Rattle.std.proofs.Common.{length-append}
use Rattle.std.specs.Prelude.{slice_get, slice_index, if◌then◌else◌}
use Rattle.std.proofs.lemmas.Bool.{cases_lt}
use Rattle.std.proofs.lemmas.Option.{get_or_from_slice_get}
use Rattle.tg_tree.specs.Tree as tree
use Rattle.tg_tree.specs.Tree.{Cond, Compare, Not, Both, Either, Ts, Move, Store, StoreByte, Do, If, Loop, Break, Seq, Stms, no_stms, stm}
use Rattle.tg_tree.specs.Shapes.{BreaksWithin, BreaksWithinStms}
use Rattle.tg_trace_schedule.specs.Block.{Jump, Branch, Fault, Return}
use Rattle.tg_trace_schedule.specs.laws.Heads.{LeadsTo}
use Rattle.tg_trace_schedule.specs.mirror.Cutting.{CutBlocks, open_at, leads, next_mark, seal, branch, exit_of, leaves, cut, cut_all}
use Rattle.tg_trace_schedule.proofs.BlocksKept.{get_front, get_seam, side, turn}
use Rattle.tg_trace_schedule.proofs.TracesLoops.{same_index, UsableIn, CutState, Step, step_usable, step_on, stays, opens, fronts, Sealed, seals, begun}
use Rattle.tg_trace_schedule.proofs.TracesLoops.{begun_starts, FromOutside, begun_state, from_outside, turns}

-- the marks after the loops around
abbrev Exits : (L P : ℕ) (Out : ℕ → Type 0) (starts : List ℕ) (c : CutBlocks) (exits : List ℕ) → Type 0
Exits L P Out starts c exits = (k : ℕ) → k < length exits → UsableIn L P Out starts c (slice_index exits k)

module _ (L P : ℕ) (Out : ℕ → Type 0) where
  abbrev Here : List ℕ → CutBlocks → Type 0
  Here starts c = CutState L P Out starts c

  abbrev Goes : List ℕ → CutBlocks → CutBlocks → Type 0
  Goes starts c d = Step L P Out starts c d

  abbrev Ready : List ℕ → CutBlocks → CutBlocks → ℕ → Type 0
  Ready starts c d mark = Sealed L P Out starts c d mark

  -- and then the seal
  then_seal : (starts : List ℕ) (c d : CutBlocks) → Goes starts c d → Ready starts c (seal d) (next_mark d)
  then_seal starts c d s =
      let t = seals L P Out s.starts' d s.state (leads d.body d.end) refl in
      record { step = step_on L P Out starts c d (seal d) s t.step; usable = t.usable }

  jump_to : (starts : List ℕ) (c : CutBlocks) (p : ℕ) → UsableIn L P Out starts c p → (m : ℕ) → LeadsTo (Jump p) m → UsableIn L P Out starts c m
  jump_to starts c p u m e = subst (UsableIn L P Out starts c) e u

  branch_step : (d : Cond) (yes' no' : ℕ) (starts : List ℕ) (c : CutBlocks) → Here starts c → UsableIn L P Out starts c yes' → UsableIn L P Out starts c no' →
      Goes starts c (branch d yes' no' c)
  branch_step (Compare rel x y) yes' no' starts c h u v =
      opens L P Out starts (Branch rel x y yes' no') c h (λ m l. elim l [
        | inl e ↦ subst (UsableIn L P Out starts c) e u
        | inr e ↦ subst
            (UsableIn L P Out starts c) e v
      ])
  branch_step (Not d) yes' no' starts c h u v = branch_step d no' yes' starts c h v u
  branch_step (Both d e) yes' no' starts c h u v =
      let second = branch e yes' no' c in
      let s = then_seal starts c second (branch_step e yes' no' starts c h u v) in
      step_on L P Out starts c (seal second) _ s.step
      (branch_step d (next_mark second) no' s.step.starts' (seal second) s.step.state s.usable (step_usable L P Out starts c (seal second) h s.step no' v))
  branch_step (Either d e) yes' no' starts c h u v =
      let second = branch e yes' no' c in
      let s = then_seal starts c second (branch_step e yes' no' starts c h u v) in
      step_on L P Out starts c (seal second) _ s.step
      (branch_step d yes' (next_mark second) s.step.starts' (seal second) s.step.state (step_usable L P Out starts c (seal second) h s.step yes' u) s.usable)

  either_step : (b : Bool) (starts : List ℕ) (c d : CutBlocks) → Here starts c → Goes starts c d → Goes starts c (if b then c else d)
  either_step true starts c d h s = stays L P Out starts c h
  either_step false starts c d h s = s

  exits_on : (starts : List ℕ) (c d : CutBlocks) (exits : List ℕ) → Here starts c → (s : Goes starts c d) → Exits L P Out starts c exits →
      Exits L P Out s.starts' d exits
  exits_on starts c d exits h s x k l = step_usable L P Out starts c d h s (slice_index exits k) (x k l)

  -- a side of a choice in front of a join
  side_step :
      (exits : List ℕ) (join : ℕ) (s : Ts) (starts : List ℕ) (c : CutBlocks) → Here starts c → UsableIn L P Out starts c join →
      ((b : CutBlocks) → Here starts b → Exits L P Out starts b exits → Goes starts b (cut exits s b)) → Exits L P Out starts c exits →
      Ready starts c (seal (side exits join s c)) (next_mark (side exits join s c))
  side_step exits join s starts c h u cuts x =
      let o = opens L P Out starts (Jump join) c h (jump_to starts c join u) in
      then_seal starts c (side exits join s c) (step_on L P Out starts c (open_at (Jump join) c) (side exits join s c) o
      (cuts (open_at (Jump join) c) o.state x))

-- the exits around a loop's turn, and its own
turn_exits :
    (L P : ℕ) (Out : ℕ → Type 0) (starts : List ℕ) (c : CutBlocks) (exits : List ℕ) (exit : ℕ) →
    ((k : ℕ) → k < length exits → UsableIn L P Out starts c (slice_index exits k)) → UsableIn L P Out starts c exit →
    (k : ℕ) → k < length (exits ++ exit ∷ []) → UsableIn L P Out starts c (slice_index (exits ++ exit ∷ []) k)
turn_exits L P Out starts c exits exit x u k h =
    let all = exits ++ exit ∷ [] in
    elim (cases_lt k (length exits)) [
      | inl lt ↦ subst (UsableIn L P Out starts c) (sym (same_index all exits k 0 (get_front exits (exit ∷ []) k lt))) (x k lt)
      | inr ge ↦
          let e : k ≡ length exits = omega (arith, ge, h, length-append exits (exit ∷ [])) in
          subst (UsableIn L P Out starts c) (sym (get_or_from_slice_get all k exit 0 (ap (slice_get all) e ∙ get_seam exits exit))) u
    ]

mutual
  pub cut_step :
      (s : Ts) (L P : ℕ) (Out : ℕ → Type 0) (exits starts : List ℕ) (c : CutBlocks) → CutState L P Out starts c → Exits L P Out starts c exits → BreaksWithin
      (length exits) s →
      Step L P Out starts c (cut exits s c)
  cut_step (Move i x) L P Out exits starts c h xs b = fronts L P Out starts (Move i x) c h
  cut_step (Store x y) L P Out exits starts c h xs b = fronts L P Out starts (Store x y) c h
  cut_step (StoreByte x y) L P Out exits starts c h xs b = fronts L P Out starts (StoreByte x y) c h
  cut_step (Do x) L P Out exits starts c h xs b = fronts L P Out starts (Do x) c h
  cut_step (If d s t) L P Out exits starts c h xs b =
      let join = next_mark c in
      let c1 = seal c in
      let other = side exits join t c1 in
      let c2 = seal other in
      let this = side exits join s c2 in
      let c3 = seal this in
      let s1 = seals L P Out starts c h (leads c.body c.end) refl in
      let x1 = exits_on L P Out starts c c1 exits h s1.step xs in
      let s2 = side_step L P Out exits join t s1.step.starts' c1 s1.step.state s1.usable (λ a ha xa. cut_step t L P Out exits s1.step.starts' a ha xa b.2) x1 in
      let x2 = exits_on L P Out s1.step.starts' c1 c2 exits s1.step.state s2.step x1 in
      let u2 = step_usable L P Out s1.step.starts' c1 c2 s1.step.state s2.step join s1.usable in
      let s3 = side_step L P Out exits join s s2.step.starts' c2 s2.step.state u2 (λ a ha xa. cut_step s L P Out exits s2.step.starts' a ha xa b.1) x2 in
      let u3 = step_usable L P Out s2.step.starts' c2 c3 s2.step.state s3.step (next_mark other) s2.usable in
      step_on L P Out starts c c1 _ s1.step
      (step_on L P Out s1.step.starts' c1 c2 _ s2.step
      (step_on L P Out s2.step.starts' c2 c3 _ s3.step (branch_step L P Out d (next_mark this)
      (next_mark other) s3.step.starts' c3 s3.step.state s3.usable u3)))
  cut_step (Loop s) L P Out exits starts c h xs b =
      let exit = next_mark c in
      let c1 = seal c in
      let s1 = seals L P Out starts c h (leads c.body c.end) refl in
      let starts1 = s1.step.starts' in
      let x1 = turn_exits L P Out starts1 c1 exits exit (exits_on L P Out starts c c1 exits h s1.step xs) s1.usable in
      let deeper : length exits + 1 ≡ length (exits ++ exit ∷ []) = omega (arith, length-append exits (exit ∷ [])) in
      step_on L P Out starts c c1 _ s1.step
      (turns L P Out starts1 c1 s1.step.state (turn exits s c)
      (cut_step s (length c1.laid) (suc (length c1.places)) (FromOutside L P Out starts1 c1 s1.step.state) (exits ++ exit ∷ [])
      (begun_starts L P Out starts1 c1 s1.step.state)
      (begun L P Out starts1 c1 s1.step.state) (begun_state L P Out starts1 c1 s1.step.state)
      (λ k l. from_outside L P Out starts1 c1 s1.step.state (slice_index (exits ++ exit ∷ []) k) (x1 k l)) (subst (λ n. BreaksWithin n s) deeper b)))
  cut_step (Break k) L P Out exits starts c h xs b =
      let e = exit_of exits k in
      opens L P Out starts (Jump e) c h (jump_to L P Out starts c e (xs (length exits - (k + 1)) (omega (arith, b))))
  cut_step (tree.Fault n) L P Out exits starts c h xs b = opens L P Out starts (Fault n) c h (λ m l. absurd l)
  cut_step (Seq ss) L P Out exits starts c h xs b = all_step ss L P Out exits starts c h xs b
  cut_step (tree.Return x) L P Out exits starts c h xs b = opens L P Out starts (Return x) c h (λ m l. absurd l)

  pub all_step :
      (ss : Stms) (L P : ℕ) (Out : ℕ → Type 0) (exits starts : List ℕ) (c : CutBlocks) → CutState L P Out starts c → Exits L P Out starts c exits → BreaksWithinStms
      (length exits) ss →
      Step L P Out starts c (cut_all exits ss c)
  all_step no_stms L P Out exits starts c h xs b = stays L P Out starts c h
  all_step (stm s ss) L P Out exits starts c h xs b =
      let d = if leaves s then c else cut_all exits ss c in
      let t = either_step L P Out (leaves s) starts c (cut_all exits ss c) h (all_step ss L P Out exits starts c h xs b.1) in
      step_on L P Out starts c d _ t (cut_step s L P Out exits t.starts' d t.state (exits_on L P Out starts c d exits h t xs) b.0)
