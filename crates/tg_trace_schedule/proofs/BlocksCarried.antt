-- Statements that are cut do what they did: what is open in front of them does so, if what was open after them does what comes next.
use Rattle.std.proofs.Common.{◌≡◌, ℕ, zero, suc, ◌+◌, ◌-◌, ◌*◌, ◌<◌, ◌≤◌, List, [], ◌∷◌, ◌++◌, length, Bool, true, false, refl, sym, ap, ◌∙◌, subst}
use Rattle.std.proofs.Common.{arith, length-append}
use Rattle.std.specs.Prelude.{Option, Some, None, not, slice_index, if◌then◌else◌}
use Rattle.std.proofs.Math.ListN.{get_or-append}
use Rattle.std.proofs.Math.Seq.{get_or-append_seam}
use Rattle.std.proofs.lemmas.Option.{slice_get_within}
use Rattle.tg_machine_state.specs.declared.ends.RunEnd.TheVariants.{Break as Broken}
use Rattle.tg_simulation.specs.Runs.{Run}
use Rattle.tg_simulation.specs.Ran.{Ran, Ended}
use Rattle.tg_simulation.specs.laws.Simulating.{Simulates}
use Rattle.tg_simulation.proofs.Simulations.{simulates_stopping, simulates_paying, simulates_working, simulates_with_credit, simulates_turn, simulates_less}
use Rattle.tg_tree.specs.Tree as tree
use Rattle.tg_tree.specs.Tree.{Tx, Cond, Compare, Not, Both, Either, Ts, Move, Store, StoreByte, Do, If, Loop, Break, Seq, Stms, no_stms, stm}
use Rattle.tg_tree.specs.Tree.{Function, Literal, Code}
use Rattle.tg_tree.specs.Operators.{holds}
use Rattle.tg_tree.specs.Shapes.{BreaksWithin, BreaksWithinStms, IsFlat, IsFlatStatement, IsFlatCond, IsCanonical, AreCanonical}
use Rattle.tg_tree.specs.Units.{Canonical}
use Rattle.tg_tree.specs.Actions.{World, Temps, Activation, Around, Acts, Go, Next, Out, Back, leaving, charged}
use Rattle.tg_tree.specs.Meaning.{Enter, Point, value, test, run, run_all}
use Rattle.tg_tree.specs.Running.{with_fuel, outermost, enter, going}
use Rattle.tg_tree.specs.Flat.{Last}
use Rattle.tg_tree.specs.Carrying.{BacksSimulate, EntersSimulate}
use Rattle.tg_tree.proofs.TreeRuns.{trees_step}
use Rattle.tg_trace_schedule.specs.Block.{BlockEnd, Jump, Branch, Fault, Return, Block}
use Rattle.tg_trace_schedule.specs.Meaning.{enter_blocks, block_going}
use Rattle.tg_trace_schedule.specs.mirror.Cutting.{CutBlocks, open_at, in_front, draw, leads, mark_by, seal_by, next_mark, seal, branch, head, exit_of, leaves}
use Rattle.tg_trace_schedule.specs.mirror.Cutting.{cut}
use Rattle.tg_trace_schedule.specs.mirror.Cutting.{cut_all, place_of}
use Rattle.tg_trace_schedule.proofs.BlocksFlat.{pays_less, no_later, word_simulates, statement_simulates}
use Rattle.tg_trace_schedule.proofs.BlocksPlaces.{at, leads_to, opens, first, first_is, ahead, back as back_at}
use Rattle.tg_trace_schedule.proofs.BlocksKept.{Keeps, keeps_itself, keeps_on, opened_keeps, draw_keeps, seal_keeps, branch_keeps, head_keeps, side, turn}
use Rattle.tg_trace_schedule.proofs.BlocksKept.{side_keeps, cut_keeps, all_keeps, Fits, fits_first, fits_rest, Stands, sealed_stands, head_stands, fits_turn}

-- less work after the pass, and work that is paid before it
pub lighter : (a r n k : ℕ) (c d : Run Ran) → Simulates a r n c (charged k d) → Simulates a r n c d
lighter a r n k c d h i le s =
    let x = h i le s in
    let w = x.2.work in
    (x.0, x.1, record { output = x.2.output; input = x.2.input; stop = x.2.stop; work = omega (arith, w) })

pub paying : (k r s n : ℕ) (c d : Run Ran) → s ≤ r + k → Simulates 1 s n c d → Simulates 1 r n (charged k c) d
paying k r s n c d le h = simulates_paying 1 r n k c d (simulates_with_credit 1 s (r + 1 * k) n c d (omega (arith, le)) h)

pub working : (k r s n : ℕ) (c d : Run Ran) → r + k ≤ s → Simulates 1 r n c d → Simulates 1 s n c (charged k d)
working k r s n c d le h = simulates_with_credit 1 (r + k) s n c (charged k d) le (simulates_working 1 r n k c d h)

false_true : {A : Type 0} → false ≡ true → A
false_true e = cc

-- only a jump without statements leads on
pub leads_only : (body : Stms) (z : BlockEnd) (m : ℕ) → leads body z ≡ Some m → (body ≡ no_stms) × (z ≡ Jump m)
leads_only no_stms (Jump k) m e = (refl, ap Jump (some_is e))
  where
    some_is : {k m : ℕ} → Some k ≡ Some m → k ≡ m
    some_is e = cc
leads_only no_stms (Branch rel x y p q) m e = cc
leads_only no_stms (Fault n) m e = cc
leads_only no_stms (Return x) m e = cc
leads_only (stm s ss) z m e = cc

-- the exit of the innermost loop, and those of the loops around it
exit_own : (es : List ℕ) (x : ℕ) → exit_of (es ++ x ∷ []) 0 ≡ x
exit_own es x =
    let k : length (es ++ x ∷ []) - (0 + 1) ≡ length es = omega (arith, length-append es (x ∷ [])) in
    ap (slice_index (es ++ x ∷ [])) k ∙ get_or-append_seam es x [] 0

exit_outer : (es : List ℕ) (x k : ℕ) → k < length es → exit_of (es ++ x ∷ []) (suc k) ≡ exit_of es k
exit_outer es x k h =
    let same : length (es ++ x ∷ []) - (suc k + 1) ≡ length es - (k + 1) = omega (arith, length-append es (x ∷ [])) in
    ap (slice_index (es ++ x ∷ [])) same ∙ get_or-append es (x ∷ []) 0 (length es - (k + 1)) (omega (arith, h))

-- For functions and literals on both sides, the final blocks, and an activation with what comes after its returns.
module _
    (functions : List (Function Ts)) (functions' : List (Function (List Block))) (ls : List Literal) (size : ℕ → ℕ) (floor room : ℕ)
    (places : List ℕ) (laid : List Block) (activation : Activation) (back back' : Back) where
  abbrev code : Code Ts
  code = record { functions = functions; literals = ls }

  abbrev code' : Code (List Block)
  code' = record { functions = functions'; literals = ls }

  abbrev goes : Point → Run Ran
  goes = going Canonical code size floor room

  abbrev enters : Enter
  enters = enter Canonical code size floor room goes

  abbrev enters' : Enter
  enters' = enter_blocks code' size floor room (block_going code' size floor room)

  abbrev later : Point → Run Ran
  later q = with_fuel q.world (goes q)

  abbrev around_with : Out → Around
  around_with out = record { activation = activation; out = out; back = back }

  abbrev behind : Around
  behind = outermost activation back'

  abbrev runs : Ts → Out → Next → Next
  runs s out next w t = run Canonical room ls enters later s (around_with out) next w t

  abbrev runs_all : Stms → Out → Next → Next
  runs_all ss out next w t = run_all Canonical room ls enters later ss (around_with out) next w t

  abbrev tests : Cond → Out → Go Bool → Next
  tests d out go w t = test Canonical room ls enters later d (around_with out) go w t

  abbrev lead : ℕ → (mark : ℕ) → Next
  lead j m = leads_to code' size floor room places laid behind j m

  abbrev opening : ℕ → Stms → BlockEnd → Next
  opening j body z = opens code' size floor room places laid behind j body z

  abbrev block_from : ℕ → Next
  block_from i = first code' size floor room places laid behind i

  abbrev Does : (n r : ℕ) → Next → Next → Type 0
  Does n r c d = (w : World) (t : Temps) → Simulates 1 r n (c w t) (d w t)

  -- A mark that leads to what comes next, from each block in front of at least and at most so many.
  abbrev Leads : (n r least most mark : ℕ) → Next → Type 0
  Leads n r least most m next = (j : ℕ) → least ≤ j → j ≤ most → Does n r next (lead j m)

  -- What is open does what comes next, wherever it is laid there.
  abbrev Opens : (n r most : ℕ) → CutBlocks → Next → Type 0
  Opens n r most c next = (j : ℕ) → length c.laid ≤ j → j ≤ most → Does n r next (opening j c.body c.end)

  abbrev Exits : (n r least most : ℕ) → List ℕ → Out → Type 0
  Exits n r least most exits out = (k : ℕ) → k < length exits → Leads n (r + 2) least most (exit_of exits k) (out k)

  leads_on :
      (n k r s least least' most most' m : ℕ) (next : Next) → k ≤ n → r ≤ s → least ≤ least' → most' ≤ most → Leads n r least most m next →
      Leads k s least' most' m next
  leads_on n k r s least least' most most' m next le lr ll lm h j a b w t =
      simulates_less 1 s k n _ _ le (simulates_with_credit 1 r s n _ _ lr (h j (omega (arith, ll, a)) (omega (arith, b, lm)) w t))

  opens_on : (n k r s most most' : ℕ) (c : CutBlocks) (next : Next) → k ≤ n → r ≤ s → most' ≤ most → Opens n r most c next → Opens k s most' c next
  opens_on n k r s most most' c next le lr lm h j a b w t =
      simulates_less 1 s k n _ _ le (simulates_with_credit 1 r s n _ _ lr (h j a (omega (arith, b, lm)) w t))

  exits_on :
      (n k r s least least' most most' : ℕ) (exits : List ℕ) (out : Out) → k ≤ n → r ≤ s → least ≤ least' → most' ≤ most → Exits n r least most exits out →
      Exits k s least' most' exits out
  exits_on n k r s least least' most most' exits out le lr ll lm h i lt =
      leads_on n k (r + 2) (s + 2) least least' most most' (exit_of exits i) (out i) le (omega (arith, lr)) ll lm (h i lt)

  jump_opens : (n r s most m : ℕ) (c : CutBlocks) (next : Next) → r + 1 ≤ s → Leads n r (length c.laid) most m next → Opens n s most (open_at (Jump m) c) next
  jump_opens n r s most m c next le h j a b w t = working 1 r s n _ _ le (h j a b w t)

  -- what is sealed, where its mark leads
  laid_leads :
      (n r most i m : ℕ) (body : Stms) (z : BlockEnd) (next : Next) → most ≤ length laid → Stands places laid m i body z → Does n r next (opening i body z) →
      Leads n (r + 1) (i + 1) most m next
  laid_leads n r most i m body z next within st h j a b w t =
      let lt : i < length laid = slice_get_within laid i (record { body = body; end = z }) st.block in
      let one = working 1 r (r + 1) n _ _ (omega arith) (h w t) in
      subst (λ g. Simulates 1 (r + 1) n (next w t) (g w t))
      (sym (ahead code' size floor room places laid behind j i m st.at (omega (arith, a)) (omega (arith, b, within))))
      (subst (λ d. Simulates 1 (r + 1) n (next w t) d)
      (sym (first_is code' size floor room places laid behind i (record { body = body; end = z }) lt st.block w t)) one)

  seal_by_leads :
      (o : Option ℕ) (n r most : ℕ) (c : CutBlocks) (next : Next) → leads c.body c.end ≡ o → most ≤ length laid → Opens n r most c next → Fits places laid c
      (seal_by o c) →
      Leads n (r + 1) (length (seal_by o c).laid) most (mark_by o c) next
  seal_by_leads (Some m) n r most c next e within h f j a b w t =
      let only = leads_only c.body c.end m e in
      simulates_with_credit 1 r (r + 1) n _ _ (omega arith)
      (lighter 1 r n 1 _ _ (subst (λ x. Simulates 1 r n (next w t) (opening j no_stms x w t)) only.1
      (subst (λ x. Simulates 1 r n (next w t) (opening j x c.end w t)) only.0 (h j a b w t))))
  seal_by_leads None n r most c next e within h f j a b w t =
      let i = length c.laid in
      let b' : Block = record { body = c.body; end = c.end } in
      let more = length-append c.laid (b' ∷ []) in
      laid_leads n r most i (length c.places) c.body c.end next within (sealed_stands places laid c f)
      (λ w1 t1. h i (omega arith) (omega (arith, more, a, b)) w1 t1) j (omega (arith, more, a)) b w t

  seal_leads :
      (n r most : ℕ) (c : CutBlocks) (next : Next) → most ≤ length laid → Opens n r most c next → Fits places laid c (seal c) →
      Leads n (r + 1) (length (seal c).laid) most (next_mark c) next
  seal_leads n r most c next within h f = seal_by_leads (leads c.body c.end) n r most c next refl within h f

  -- Where calls do what they did, and what comes after returns does.
  module _ (limit debt : ℕ) (calls : (m : ℕ) → m ≤ limit → EntersSimulate 1 0 m enters enters') (returns : BacksSimulate 1 debt limit back back') where
    returns_at : (n r : ℕ) → n ≤ limit → debt ≤ r → BacksSimulate 1 r n back back'
    returns_at n r le lo v w = simulates_with_credit 1 debt r n _ _ lo (simulates_less 1 debt n limit _ _ le (returns v w))

    words :
        (n r : ℕ) → n ≤ limit → debt ≤ r → (x : Tx) → IsFlat x → (out : Out) (go go' : Go ℕ) → ((v : ℕ) → Does n r (go v) (go' v)) →
        Does n r (λ w t. value Canonical room ls enters later x (around_with out) go w t) (λ w t. value Canonical room ls enters' no_later x behind go' w t)
    words n r le lo x f out go go' h w t =
        word_simulates room ls enters enters' n r (calls n le) activation back back' (returns_at n r le lo) later out x f go go' (λ v w1 t1. h v w1 t1) w t

    -- what is around statements that are cut: how much fuel and credit there is, and where breaks lead
    pub record Scene (n r least most : ℕ) (exits : List ℕ) (out : Out) : Type 0 where
      pub fuel : n ≤ limit
      pub owed : debt ≤ r
      pub within : most ≤ length laid
      pub ways : Exits n r least most exits out

    scene_on :
        (n r s least least' most : ℕ) (exits : List ℕ) (out : Out) → r ≤ s → least ≤ least' → Scene n r least most exits out → Scene n s least' most exits out
    scene_on n r s least least' most exits out lr ll sc = record {
      fuel = sc.fuel;
      owed = omega (arith, sc.owed, lr);
      within = sc.within;
      ways = exits_on n n r s least least' most most exits out (omega arith) lr ll (omega arith) sc.ways;
    }

    -- one of two sides
    abbrev at_mark : ℕ → (mark : ℕ) → Acts Last
    at_mark j m = at code' size floor room places laid behind j (place_of places (length laid - 1) m)

    either_leads :
        (b : Bool) (n s j yes' no' : ℕ) (go : Go Bool) → Does n s (go true) (lead j yes') → Does n s (go false) (lead j no') → (w : World) (t : Temps) →
        Simulates 1 s n (go b w t) ((if b then at_mark j yes' else at_mark j no') behind tt w t)
    either_leads true n s j yes' no' go h k w t = h w t
    either_leads false n s j yes' no' go h k w t = k w t

    -- the second test of two that are joined, sealed in front of the first
    second_kept : (d : Cond) (yes' no' : ℕ) (c : CutBlocks) → Keeps c (seal (branch d yes' no' c))
    second_kept d yes' no' c =
        keeps_on c (branch d yes' no' c) (seal (branch d yes' no' c)) (branch_keeps d yes' no' c) (seal_keeps (branch d yes' no' c))

    second_leads :
        (d : Cond) (n r most : ℕ) → most ≤ length laid → (yes' no' : ℕ) (c all : CutBlocks) (next : Next) → Keeps (seal (branch d yes' no' c)) all →
        Fits places laid c all → (Fits places laid c (branch d yes' no' c) → Opens n r most (branch d yes' no' c) next) →
        Leads n (r + 1) (length (seal (branch d yes' no' c)).laid) most (next_mark (branch d yes' no' c)) next
    second_leads d n r most lw yes' no' c all next keeps f opened =
        let second = branch d yes' no' c in
        seal_leads n r most second next lw
        (opened (fits_first places laid c second all (keeps_on second (seal second) all (seal_keeps second) keeps) f))
        (fits_first places laid second (seal second) all keeps (fits_rest places laid c second all (branch_keeps d yes' no' c) f))

    branch_opens :
        (d : Cond) → IsFlatCond d → (n r most : ℕ) → n ≤ limit → debt ≤ r → most ≤ length laid → (yes' no' : ℕ) (c : CutBlocks) (out : Out) (go : Go Bool) →
        Leads n (r + 1) (length c.laid) most yes' (go true) → Leads n (r + 1) (length c.laid) most no' (go false) → Fits places laid c (branch d yes' no' c) →
        Opens n r most (branch d yes' no' c) (tests d out go)
    branch_opens (Compare rel x y) flat n r most le lo lw yes' no' c out go h k f j a b w t =
        paying 4 r (r + 1 + 3) n _ _ (omega arith)
        (simulates_working 1 (r + 1) n 3 _ _ (words n (r + 1) le (omega (arith, lo)) x flat.0 out _ _
        (λ u w1 t1. words n (r + 1) le (omega (arith, lo)) y flat.1 out _ _
        (λ v w2 t2. either_leads (holds rel u v) n (r + 1) j yes' no' go (h j a b) (k j a b) w2 t2) w1 t1) w t))
    branch_opens (Not d) flat n r most le lo lw yes' no' c out go h k f j a b w t =
        paying 0 r r n _ _ (omega arith) (branch_opens d flat n r most le lo lw no' yes' c out (λ v. go (not v)) k h f j a b w t)
    branch_opens (Both d e) flat n r most le lo lw yes' no' c out go h k f j a b w t =
        let m = next_mark (branch e yes' no' c) in
        let sealed = seal (branch e yes' no' c) in
        let all = branch d m no' sealed in
        let kept : Keeps c sealed = second_kept e yes' no' c in
        let on = second_leads e n r most lw yes' no' c all (tests e out go) (branch_keeps d m no' sealed) f
        (λ g. branch_opens e flat.1 n r most le lo lw yes' no' c out go h k g) in
        paying 0 r r n _ _ (omega arith)
        (branch_opens d flat.0 n r most le lo lw m no' sealed out _ on
        (leads_on n n (r + 1) (r + 1) (length c.laid) (length sealed.laid) most most no' (go false) (omega arith) (omega arith) kept.laid (omega arith) k)
        (fits_rest places laid c sealed all kept f) j a b w t)
    branch_opens (Either d e) flat n r most le lo lw yes' no' c out go h k f j a b w t =
        let m = next_mark (branch e yes' no' c) in
        let sealed = seal (branch e yes' no' c) in
        let all = branch d yes' m sealed in
        let kept : Keeps c sealed = second_kept e yes' no' c in
        let on = second_leads e n r most lw yes' no' c all (tests e out go) (branch_keeps d yes' m sealed) f
        (λ g. branch_opens e flat.1 n r most le lo lw yes' no' c out go h k g) in
        paying 0 r r n _ _ (omega arith)
        (branch_opens d flat.0 n r most le lo lw yes' m sealed out _
        (leads_on n n (r + 1) (r + 1) (length c.laid) (length sealed.laid) most most yes' (go true) (omega arith) (omega arith) kept.laid (omega arith) h) on
        (fits_rest places laid c sealed all kept f) j a b w t)

    -- statements that leave don't come to what is open after them
    break_opens :
        (n r least most k : ℕ) (exits : List ℕ) (out : Out) (next : Next) (c : CutBlocks) → k < length exits → Scene n r (length c.laid) most exits out →
        Opens n r most (open_at (Jump (exit_of exits k)) c) (runs (Break k) out next)
    break_opens n r least most k exits out next c lt sc j a b w t =
        paying 3 r (r + 3) n _ _ (omega arith) (jump_opens n (r + 2) (r + 3) most (exit_of exits k) c (out k) (omega arith) (sc.ways k lt) j a b w t)

    return_opens :
        (n r least most : ℕ) (x : Tx) (exits : List ℕ) (out : Out) (next : Next) (c : CutBlocks) → IsFlat x → Scene n r least most exits out →
        Opens n r most (open_at (Return x) c) (runs (tree.Return x) out next)
    return_opens n r least most x exits out next c flat sc j a b w t =
        pays_less r n 16 14 _ _ (omega arith) (words n r sc.fuel sc.owed x flat out _ _ (λ v w1 t1. returns_at n r sc.fuel sc.owed v w1) w t)

    leaving_opens :
        (s : Ts) → leaves s ≡ true → IsCanonical s → (n r most : ℕ) (exits : List ℕ) (out : Out) (next : Next) (c : CutBlocks) → BreaksWithin (length exits) s →
        Scene n r (length c.laid) most exits out → Opens n r most (cut exits s c) (runs s out next)
    leaving_opens (Break k) e can n r most exits out next c b sc = break_opens n r (length c.laid) most k exits out next c b sc
    leaving_opens (tree.Fault k) e can n r most exits out next c b sc =
        λ j a l w t. pays_less r n 3 1 _ _ (omega arith) (simulates_stopping 1 r n w.input (Ended (Broken k)))
    leaving_opens (tree.Return x) e can n r most exits out next c b sc = return_opens n r (length c.laid) most x exits out next c can sc
    leaving_opens (Move k x) e can n r most exits out next c b sc = false_true e
    leaving_opens (Store x y) e can n r most exits out next c b sc = false_true e
    leaving_opens (StoreByte x y) e can n r most exits out next c b sc = false_true e
    leaving_opens (Do x) e can n r most exits out next c b sc = false_true e
    leaving_opens (If d s t) e can n r most exits out next c b sc = false_true e
    leaving_opens (Loop s) e can n r most exits out next c b sc = false_true e
    leaving_opens (Seq ss) e can n r most exits out next c b sc = false_true e

    -- A statement is carried: where what is open does what comes next, so it does with the statement in front of it.
    abbrev Carried : Ts → Type 0
    Carried s =
        (n r most : ℕ) (exits : List ℕ) (out : Out) (next : Next) (c : CutBlocks) → BreaksWithin (length exits) s → Scene n r (length c.laid) most exits out →
        Opens n r most c next → Fits places laid c (cut exits s c) → Opens n r most (cut exits s c) (runs s out next)

    abbrev AllCarried : Stms → Type 0
    AllCarried ss =
        (n r most : ℕ) (exits : List ℕ) (out : Out) (next : Next) (c : CutBlocks) → BreaksWithinStms (length exits) ss → Scene n r (length c.laid) most exits out →
        Opens n r most c next → Fits places laid c (cut_all exits ss c) → Opens n r most (cut_all exits ss c) (runs_all ss out next)

    front_opens :
        (s : Ts) → IsFlatStatement s → (n r most : ℕ) (exits : List ℕ) (out : Out) (next : Next) (c : CutBlocks) → Scene n r (length c.laid) most exits out →
        Opens n r most c next → Opens n r most (in_front s c) (runs s out next)
    front_opens s flat n r most exits out next c sc h j a b w t =
        statement_simulates room ls enters enters' n r (calls n sc.fuel) activation back back' (returns_at n r sc.fuel sc.owed) later out s flat next
        (opening j c.body c.end) (λ w1 t1. h j a b w1 t1) w t

    -- a side of a choice, in front of a join
    side_leads :
        (s : Ts) → Carried s → (n r most join : ℕ) (exits : List ℕ) (out : Out) (next : Next) (c : CutBlocks) → BreaksWithin (length exits) s → Scene n (r + 2)
        (length c.laid) most exits out →
        Leads n (r + 1) (length c.laid) most join next → Fits places laid c (seal (side exits join s c)) →
        Leads n (r + 3) (length (seal (side exits join s c)).laid) most (next_mark (side exits join s c)) (runs s out next)
    side_leads s carried n r most join exits out next c b sc h f =
        let o = open_at (Jump join) c in
        let d = side exits join s c in
        let ko : Keeps c o = opened_keeps (Jump join) c c (keeps_itself c) in
        let kd : Keeps o d = cut_keeps s exits o in
        let fo : Fits places laid o (seal d) = fits_rest places laid c o (seal d) ko f in
        let opened : Opens n (r + 2) most d (runs s out next) =
        carried n (r + 2) most exits out next o b sc (jump_opens n (r + 1) (r + 2) most join c next (omega arith) h)
        (fits_first places laid o d (seal d) (seal_keeps d) fo) in
        leads_on n n (r + 2 + 1) (r + 3) (length (seal d).laid) (length (seal d).laid) most most (next_mark d) (runs s out next) (omega arith) (omega arith)
        (omega arith) (omega arith)
        (seal_leads n (r + 2) most d (runs s out next) sc.within opened (fits_rest places laid o d (seal d) kd fo))

    if_carried : (d : Cond) (s t : Ts) → IsFlatCond d → Carried s → Carried t → Carried (If d s t)
    if_carried d s t flat carried_s carried_t n r most exits out next c b sc h f j a l w u =
        let join = next_mark c in
        let c1 = seal c in
        let d2 = side exits join t c1 in
        let c2 = seal d2 in
        let d3 = side exits join s c2 in
        let c3 = seal d3 in
        let all = branch d (next_mark d3) (next_mark d2) c3 in
        let k1 : Keeps c c1 = seal_keeps c in
        let k2 : Keeps c1 c2 = side_keeps exits join t c1 (λ es x. cut_keeps t es x) in
        let k3 : Keeps c2 c3 = side_keeps exits join s c2 (λ es x. cut_keeps s es x) in
        let k4 : Keeps c3 all = branch_keeps d (next_mark d3) (next_mark d2) c3 in
        let f1 : Fits places laid c1 all = fits_rest places laid c c1 all k1 f in
        let f2 : Fits places laid c2 all = fits_rest places laid c1 c2 all k2 f1 in
        let join_leads : Leads n (r + 1) (length c1.laid) most join next =
        seal_leads n r most c next sc.within h (fits_first places laid c c1 all (keeps_on c1 c2 all k2 (keeps_on c2 c3 all k3 k4)) f) in
        let sc1 : Scene n (r + 2) (length c1.laid) most exits out = scene_on n r (r + 2) (length c.laid) (length c1.laid) most exits out
        (omega arith) k1.laid sc in
        let sc2 : Scene n (r + 2) (length c2.laid) most exits out = scene_on n (r + 2) (r + 2) (length c1.laid) (length c2.laid) most exits out
        (omega arith) k2.laid sc1 in
        let no_leads : Leads n (r + 3) (length c2.laid) most (next_mark d2) (runs t out next) =
        side_leads t carried_t n r most join exits out next c1 b.2 sc1 join_leads (fits_first places laid c1 c2 all (keeps_on c2 c3 all k3 k4) f1) in
        let yes_leads : Leads n (r + 3) (length c3.laid) most (next_mark d3) (runs s out next) =
        side_leads s carried_s n r most join exits out next c2 b.1 sc2
        (leads_on n n (r + 1) (r + 1) (length c1.laid) (length c2.laid) most most join next (omega arith) (omega arith) k2.laid (omega arith) join_leads)
        (fits_first places laid c2 c3 all k4 f2) in
        paying 4 r (r + 2) n _ _ (omega arith)
        (branch_opens d flat n (r + 2) most sc.fuel (omega (arith, sc.owed)) sc.within (next_mark d3) (next_mark d2) c3 out _
        (leads_on n n (r + 3) (r + 2 + 1) (length c3.laid) (length c3.laid) most most (next_mark d3) (runs s out next) (omega arith) (omega arith)
        (omega arith) (omega arith) yes_leads)
        (leads_on n n (r + 3) (r + 2 + 1) (length c2.laid) (length c3.laid) most most (next_mark d2) (runs t out next) (omega arith) (omega arith) k3.laid
        (omega arith) no_leads)
        (fits_rest places laid c2 c3 all k3 f2) j a l w u)

    -- one statement in front of others
    stm_carried :
        (s : Ts) (ss : Stms) (v : Bool) → leaves s ≡ v → IsCanonical s → Carried s → AllCarried ss →
        (n r most : ℕ) (exits : List ℕ) (out : Out) (next : Next) (c : CutBlocks) → BreaksWithin (length exits) s → BreaksWithinStms (length exits) ss →
        Scene n r (length c.laid) most exits out →
        Opens n r most c next → Fits places laid c (cut exits s (if v then c else cut_all exits ss c)) → Opens n r most
        (cut exits s (if v then c else cut_all exits ss c)) (runs s out (runs_all ss out next))
    stm_carried s ss true e can carried all n r most exits out next c b bs sc h f = leaving_opens s e can n r most exits out (runs_all ss out next) c b sc
    stm_carried s ss false e can carried all n r most exits out next c b bs sc h f =
        let d = cut_all exits ss c in
        let k : Keeps c d = all_keeps ss exits c in
        carried n r most exits out (runs_all ss out next) d b (scene_on n r r (length c.laid) (length d.laid) most exits out (omega arith) k.laid sc)
        (all n r most exits out next c bs sc h (fits_first places laid c d (cut exits s d) (cut_keeps s exits d) f))
        (fits_rest places laid c d (cut exits s d) k f)

    -- A loop, by its turn. The way back to its head takes fuel on both sides.
    module _
        (s : Ts) (carried : Carried s) (n r most : ℕ) (exits : List ℕ) (out : Out) (next : Next) (c : CutBlocks) (b : BreaksWithin (length exits) (Loop s))
        (sc : Scene n r (length c.laid) most exits out)
        (h : Opens n r most c next) (f : Fits places laid c (cut exits (Loop s) c)) where
      abbrev c1 : CutBlocks
      c1 = seal c

      abbrev mark : ℕ
      mark = length c1.places

      abbrev c2 : CutBlocks
      c2 = open_at (Jump mark) (draw 0 c1)

      abbrev c3 : CutBlocks
      c3 = turn exits s c

      abbrev here : ℕ
      here = length c3.laid

      k1 : Keeps c c1
      k1 = seal_keeps c

      k2 : Keeps c1 c2
      k2 = opened_keeps (Jump mark) c1 (draw 0 c1) (draw_keeps 0 c1)

      k3 : Keeps c2 c3
      k3 = cut_keeps s (exits ++ next_mark c ∷ []) c2

      drawn : length c2.places ≡ mark + 1
      drawn = length-append c1.places (0 ∷ [])

      k13 : Keeps c1 c3
      k13 = keeps_on c1 c2 c3 k2 k3

      k03 : Keeps c c3
      k03 = keeps_on c c1 c3 k1 k13

      stands : Stands places laid mark here c3.body c3.end
      stands = head_stands places laid mark c c3 k1.drawn (omega (arith, drawn, k3.drawn)) k03.laid f

      below : here < length laid
      below = slice_get_within laid here (record { body = c3.body; end = c3.end }) stands.block

      exit_leads : Leads n (r + 1) (length c1.laid) most (next_mark c) next
      exit_leads =
          seal_leads n r most c next sc.within h
          (fits_first places laid c c1 (head mark c3) (head_keeps mark c1 c3 (omega arith) k13) f)

      -- what comes after a turn: the loop again, after a unit of fuel
      abbrev again : Next
      again w t = later (record { statement = Loop s; around = around_with out; next = next; world = w; temps = t })

      abbrev round : Next
      round = runs s (leaving next out) again

      own :
          (w : World) (t : Temps) →
          goes (record { statement = Loop s; around = around_with out; next = next; world = w; temps = t }) ≡ runs (Loop s) out next w t
      own w t =
          λ i k. trees_step Canonical code size floor room (record { statement = Loop s; around = around_with out; next = next; world = w; temps = t }) k i

      round_ways : (m : ℕ) → m ≤ n → here ≤ most → Exits m (r + 2) (length c2.laid) here (exits ++ next_mark c ∷ []) (leaving next out)
      round_ways m le lm zero lt =
          subst (λ x. Leads m (r + 2 + 2) (length c2.laid) here x next) (sym (exit_own exits (next_mark c)))
          (leads_on n m (r + 1) (r + 2 + 2) (length c1.laid) (length c2.laid) most here (next_mark c) next le (omega arith) k2.laid lm exit_leads)
      round_ways m le lm (suc k) lt =
          let within : k < length exits = omega (arith, lt, length-append exits (next_mark c ∷ [])) in
          let on : length c.laid ≤ length c2.laid = omega (arith, k1.laid, k2.laid) in
          subst (λ x. Leads m (r + 2 + 2) (length c2.laid) here x (out k)) (sym (exit_outer exits (next_mark c) k within))
          (leads_on n m (r + 2) (r + 2 + 2) (length c.laid) (length c2.laid) most here (exit_of exits k) (out k) le (omega arith) on lm (sc.ways k within))

      abbrev Rounds : ℕ → Type 0
      Rounds m = Does m (r + 3) round (block_from here)

      again_does : (m : ℕ) → ((k : ℕ) → k < m → Rounds k) → Does m r again (λ w t. with_fuel w (block_from here w t))
      again_does m less w t =
          simulates_turn 1 r m w.input _ _ (λ k lt.
          subst (λ g. Simulates 1 r k g (block_from here w t)) (sym (own w t)) (paying 4 r (r + 3) k _ _ (omega arith) (less k lt w t)))

      again_opens : (m : ℕ) → ((k : ℕ) → k < m → Rounds k) → Opens m (r + 2) here c2 again
      again_opens m less j a l w t =
          working 1 r (r + 2) m _ _ (omega arith)
          (subst (λ g. Simulates 1 r m (again w t) g) (sym (back_at code' size floor room places laid behind j here mark stands.at l below w t))
          (again_does m less w t))

      within_one : BreaksWithin (length (exits ++ next_mark c ∷ [])) s
      within_one = subst (λ k. BreaksWithin k s) (sym (length-append exits (next_mark c ∷ []))) b

      round_next : (m : ℕ) → m ≤ n → here ≤ most → ((k : ℕ) → k < m → Rounds k) → Rounds m
      round_next m le lm less w t =
          let scene : Scene m (r + 2) (length c2.laid) here (exits ++ next_mark c ∷ []) (leaving next out) =
          record { fuel = omega (arith, le, sc.fuel); owed = omega (arith, sc.owed); within = omega (arith, below); ways = round_ways m le lm } in
          let opened : Opens m (r + 2) here c3 round =
          carried m (r + 2) here (exits ++ next_mark c ∷ []) (leaving next out) again c2 within_one scene (again_opens m less)
          (fits_turn places laid mark c c2 c3 (keeps_on c c1 c2 k1 k2) (omega (arith, drawn)) f) in
          subst (λ d. Simulates 1 (r + 3) m (round w t) d)
          (sym (first_is code' size floor room places laid behind here (record { body = c3.body; end = c3.end }) below stands.block w t))
          (working 1 (r + 2) (r + 3) m _ _ (omega arith) (opened here (omega arith) (omega arith) w t))

      rounds_below : here ≤ most → (m k : ℕ) → m ≤ n → k < m → Rounds k
      rounds_below lm zero k le lt = absurd (omega arith)
      rounds_below lm (suc m) k le lt = round_next k (omega (arith, le, lt)) lm (λ i li. rounds_below lm m i (omega (arith, le)) (omega (arith, li, lt)))

      rounds : here ≤ most → Rounds n
      rounds lm = round_next n (omega arith) lm (λ k lt. rounds_below lm n k (omega arith) lt)

      loop_opens : Opens n r most (cut exits (Loop s) c) (runs (Loop s) out next)
      loop_opens j a l w t =
          let lt : here < j = omega (arith, a, length-append c3.laid (record { body = c3.body; end = c3.end } ∷ [])) in
          paying 4 r (r + 3 + 1) n _ _ (omega arith)
          (simulates_working 1 (r + 3) n 1 _ _
          (subst (λ g. Simulates 1 (r + 3) n (round w t) (g w t))
          (sym (ahead code' size floor room places laid behind j here mark stands.at lt (omega (arith, l, sc.within)))) (rounds (omega (arith, lt, l)) w t)))

    mutual
      pub carries : (s : Ts) → IsCanonical s → Carried s
      carries (Move k x) can = λ n r most exits out next c b sc h f. front_opens (Move k x) can n r most exits out next c sc h
      carries (Store x y) can = λ n r most exits out next c b sc h f. front_opens (Store x y) can n r most exits out next c sc h
      carries (StoreByte x y) can = λ n r most exits out next c b sc h f. front_opens (StoreByte x y) can n r most exits out next c sc h
      carries (Do x) can = λ n r most exits out next c b sc h f. front_opens (Do x) can n r most exits out next c sc h
      carries (If d s t) can = if_carried d s t can.0 (carries s can.1) (carries t can.2)
      carries (Loop s) can = λ n r most exits out next c b sc h f. loop_opens s (carries s can) n r most exits out next c b sc h f
      carries (Break k) can = λ n r most exits out next c b sc h f. leaving_opens (Break k) refl can n r most exits out next c b sc
      carries (tree.Fault k) can = λ n r most exits out next c b sc h f. leaving_opens (tree.Fault k) refl can n r most exits out next c b sc
      carries (Seq ss) can =
          λ n r most exits out next c b sc h f j a l w t. paying 0 r r n _ _ (omega arith) (all_carry ss can n r most exits out next c b sc h f j a l w t)
      carries (tree.Return x) can = λ n r most exits out next c b sc h f. leaving_opens (tree.Return x) refl can n r most exits out next c b sc

      pub all_carry : (ss : Stms) → AreCanonical ss → AllCarried ss
      all_carry no_stms can = λ n r most exits out next c b sc h f. h
      all_carry (stm s ss) can =
          λ n r most exits out next c b sc h f. stm_carried s ss (leaves s) refl can.0 (carries s can.0)
          (all_carry ss can.1) n r most exits out next c b.0 b.1 sc h f
