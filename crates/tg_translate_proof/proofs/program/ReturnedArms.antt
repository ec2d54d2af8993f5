-- What is returned from the arms of a value runs as a return of the value, with at most as many units.
use Rattle.std.proofs.Common.{[], ◌≡◌, ℕ, zero, suc, ◌+◌, ◌<◌, ◌≤◌, ◌==◌, List, ◌∷◌, Bool, true, false, Option, Some, None, refl, sym, ap}
use Rattle.std.proofs.Common.{◌∙◌, arith, subst}
use Rattle.std.specs.Prelude.{if◌then◌else◌, nat_lt, ◌++◌}
use Rattle.tg_simulation.specs.Runs.{Run}
use Rattle.tg_simulation.specs.Ran.{Ran, Wrong, WantsFuel, stops}
use Rattle.tg_simulation.specs.Agreement.{Source, Fits, Matches, same, cut, unsaid, Follows}
use Rattle.tg_simulation.specs.Bytes.{IsPrefix}
use Rattle.tg_simulation.proofs.Fixpoint.{runs_relate}
use Rattle.tg_tree.specs.Tree as tree
use Rattle.tg_tree.specs.Tree.{Tx, Const, Address, Temp, FrameAddress, Binary, Load, LoadByte, Call, Service, After, Ts, Move, Store}
use Rattle.tg_tree.specs.Tree.{StoreByte, Do, If, Loop, Break, Fault}
use Rattle.tg_tree.specs.Tree.{Seq, Return, Stms, no_stms, stm}
use Rattle.tg_tree.specs.Units.{Trees, marked_entry_units}
use Rattle.tg_tree.specs.Actions.{World, Temps, set_temp, Around, Go, Next, Back, over, wrong, charged, with_word}
use Rattle.tg_tree.specs.Meaning as meaning
use Rattle.tg_tree.specs.Meaning.{Point}
use Rattle.tg_tree.specs.Running.{with_fuel, body_point}
use Rattle.tg_tree.specs.Links.{LinkedPoint, first_is, frames_around, run_linked_body, linked_step}
use Rattle.tg_tree.proofs.Relating.{Related, Keeps, around, Alike, alike, alike_down, AlikeAround, AlikeBack, AlikeNext, AlikeGo}
use Rattle.tg_tree.proofs.Relating.{keep_value, keep_test, keep_run}
use Rattle.tg_tree.proofs.Going.{one, OneWorld, OneTemps, KeepsRuns, keeps_one}
use Rattle.tg_tree.proofs.Entering.{BodiesKeep, keep_call_in}
use Rattle.tg_tree.proofs.Linked.{Like, like, keep_linked_step, linked_own}
use Rattle.tg_translate.specs.mirror.Returning.{returned, returned_behind, returned_from, returned_last, all_returned_from, in_turn}
use Rattle.tg_translate.specs.mirror.Returning.{given_back, value_has_loop}
use Rattle.tg_translate_proof.specs.glue.Situations.{Program, Part, floor, calling, going, heads, frames_at, value_runs, statement_runs}

-- Runs over calls and loops of a program, within frames, keep a relation that the steps keep.
module _ (P : Program) (R : Related) (keeps : Keeps R OneWorld OneTemps) where
  goings : (n : ℕ) (x y : LinkedPoint) → Like Trees P.code P.size (floor P) P.heap P.level R keeps n x y → R n x.point.world (going P x) (going P y)
  goings n x y h =
      let own = linked_own Trees P.code P.size (floor P) P.heap P.level in
      runs_relate (Like Trees P.code P.size (floor P) P.heap P.level R keeps) (λ m v z c d. R m v.point.world c d)
      (linked_step Trees P.code P.size (floor P) P.heap P.level) (linked_step Trees P.code P.size (floor P) P.heap P.level)
      (λ k c d later v z q. keep_linked_step Trees P.code P.size (floor P) P.heap P.level R keeps k c d later v z q)
      (going P) (going P) own own n x y h

  bodies : (n : ℕ) (frames : List ℕ) →
      BodiesKeep R OneWorld OneTemps n (run_linked_body Trees P.code P.size (floor P) P.heap P.level (going P) frames)
      (run_linked_body Trees P.code P.size (floor P) P.heap P.level (going P) frames)
  bodies n frames s _ _ w x t u (around a out out' back back' h k) r q =
      let e : Around = record { activation = a; out = out; back = back } in
      let e' : Around = record { activation = a; out = out'; back = back' } in
      goings n (record { point = body_point s e w t; frames = a.base ∷ frames }) (record { point = body_point s e' x u; frames = a.base ∷ frames })
      (like (a.base ∷ frames) (body_point s e w t) (body_point s e' x u)
      (alike s e e' _ _ w x t u (around a out out' back back' h k) (λ w2 x2 t2 u2 r2 s2. keeps.stop n Wrong w2 x2 r2) r q))

  one_of_three : (n : ℕ) (b d : Bool) (w x : World) (p q p' q' : Run Ran) → OneWorld w x → R n w p p' → R n w q q' →
      R n w (if b then p else if d then q else wrong w) (if b then p' else if d then q' else wrong x)
  one_of_three n true d w x p q p' q' r h k = h
  one_of_three n false true w x p q p' q' r h k = k
  one_of_three n false false w x p q p' q' r h k = keeps.stop n Wrong w x r

  pub calls_relate : (n : ℕ) (frames : List ℕ) (label : ℕ) (vs : List ℕ) (top : ℕ) (back back' : Back) (w w' : World) → OneWorld w w' →
      AlikeBack R OneWorld OneTemps n back back' → R n w (calling P frames label vs top back w) (calling P frames label vs top back' w')
  calls_relate n frames label vs top back back' w x r h =
      one_of_three n (nat_lt label 32) (first_is vs (frames_around Trees P.code P.size (floor P) P.heap P.level label frames)) w x _ _ _ _ r
      (keep_call_in R OneWorld OneTemps keeps P.size (floor P) n marked_entry_units _ _ P.code.functions
      (λ m lt. bodies m []) label vs top back back' w x r h)
      (keep_call_in R OneWorld OneTemps keeps P.size (floor P) n marked_entry_units _ _ P.code.functions
      (λ m lt. bodies m (frames_around Trees P.code P.size (floor P) P.heap P.level label frames)) label vs top back back' w x r h)

  pub heads_relate : (n : ℕ) (frames : List ℕ) (x y : Point) → Alike R OneWorld OneTemps n x y → R n x.world (heads P frames x) (heads P frames y)
  heads_relate n frames _ _ (alike s e e' g g' w v t u h l r q) =
      keeps.fuel n w v _ _ r
      (λ m lt. goings m _ _ (like frames _ _ (alike_down R OneWorld OneTemps keeps m n _ _ (omega (arith, lt))
      (alike s e e' g g' w v t u h l r q))))

-- The same is done, with at most so many units more.
pub record IsLess (k : ℕ) (p q : Ran) : Type 0 where
  pub output : q.output ≡ p.output
  pub input : q.input ≡ p.input
  pub stop : q.stop ≡ p.stop
  pub work : q.work ≤ p.work + k

abbrev pub Less : (k : ℕ) → Related
Less k n w c d = (i : ℕ) → i ≤ n → IsLess k (c i) (d i)

less_itself : (k : ℕ) (p : Ran) → IsLess k p p
less_itself k p = record { output = refl; input = refl; stop = refl; work = omega arith }

less_fuel : (k n : ℕ) (w : World) (c d : Run Ran) → ((m : ℕ) → m < n → Less k m w c d) → Less k n w (with_fuel w c) (with_fuel w d)
less_fuel k n w c d h zero le = less_itself k (stops w.input WantsFuel)
less_fuel k n w c d h (suc i) le = h i (omega (arith, le)) i (omega arith)

less_runs : (k : ℕ) → KeepsRuns (Less k)
less_runs k =
    record {
      stop = λ n s w i le. less_itself k (stops w.input s);
      write = λ n bytes w c d h i le.
          let x = h i le in record { output = ap (λ l. bytes ++ l) x.output; input = x.input; stop = x.stop; work = x.work };
      work = λ n j w c d h i le. let x = h i le in record { output = x.output; input = x.input; stop = x.stop; work = omega (arith, x.work) };
      fuel = λ n w c d h. less_fuel k n w c d h;
      down = λ m n w c d le h i li. h i (omega (arith, le, li));
      later = λ n w v c d l h i le. h i le;
    }

less_keeps : (k : ℕ) → Keeps (Less k) OneWorld OneTemps
less_keeps k = keeps_one (Less k) (less_runs k)

-- units that the first pays besides, or the second
less_first : (k j n : ℕ) (w : World) (c d : Run Ran) → Less k n w c d → Less k n w (charged j c) d
less_first k j n w c d h i le = let x = h i le in record { output = x.output; input = x.input; stop = x.stop; work = omega (arith, x.work) }

less_second : (k j m n : ℕ) (w : World) (c d : Run Ran) → k + j ≤ m → Less k n w c d → Less m n w c (charged j d)
less_second k j m n w c d few h i le = let x =
    h i le in record { output = x.output; input = x.input; stop = x.stop; work = omega (arith, x.work, few) }

less_more : (k m n : ℕ) (w : World) (c d : Run Ran) → k ≤ m → Less k n w c d → Less m n w c d
less_more k m n w c d few h i le = let x = h i le in record { output = x.output; input = x.input; stop = x.stop; work = omega (arith, x.work, few) }

module _ (P : Program) (frames : List ℕ) (e : Around) (n : ℕ) where
  abbrev vals : Tx → Around → Go ℕ → World → Temps → Run Ran
  vals = meaning.value Trees P.heap P.code.literals (calling P frames) (heads P frames)

  abbrev tests : tree.Cond → Around → Go Bool → World → Temps → Run Ran
  tests = meaning.test Trees P.heap P.code.literals (calling P frames) (heads P frames)

  abbrev does : Ts → Around → Next → World → Temps → Run Ran
  does = meaning.run Trees P.heap P.code.literals (calling P frames) (heads P frames)

  abbrev all : Stms → Around → Next → World → Temps → Run Ran
  all = meaning.run_all Trees P.heap P.code.literals (calling P frames) (heads P frames)

  itself : (k : ℕ) (e1 : Around) → AlikeAround (Less k) OneWorld OneTemps n e1 e1
  itself k e1 =
      around e1.activation e1.out e1.out e1.back e1.back (λ v w x t u r s. alone_go k v e1 w x t u r s) (λ v w x r. alone_back k v e1 w x r)
    where
      alone_go : (k v : ℕ) (e1 : Around) (w x : World) (t u : Temps) → OneWorld w x → OneTemps t u → Less k n w (e1.out v w t) (e1.out v x u)
      alone_go k v e1 w x t u (one y) (one z) i le = less_itself k (e1.out v y z i)

      alone_back : (k v : ℕ) (e1 : Around) (w x : World) → OneWorld w x → Less k n w (e1.back v w) (e1.back v x)
      alone_back k v e1 w x (one y) i le = less_itself k (e1.back v y i)

  one_next : (k : ℕ) (c d : Next) → ((w : World) (t : Temps) → Less k n w (c w t) (d w t)) → AlikeNext (Less k) OneWorld OneTemps n c d
  one_next k c d h w x t u (one y) (one z) = h y z

  one_go : {A : Type 0} (k : ℕ) (c d : Go A) → ((a : A) (w : World) (t : Temps) → Less k n w (c a w t) (d a w t)) →
      AlikeGo (Less k) OneWorld OneTemps n c d
  one_go k c d h a w x t u (one y) (one z) = h a y z

  -- what comes next does at most so much more
  value_less : (k : ℕ) (x : Tx) (g g' : Go ℕ) (w : World) (t : Temps) → ((v : ℕ) (w : World) (t : Temps) → Less k n w (g v w t) (g' v w t)) →
      Less k n w (vals x e g w t) (vals x e g' w t)
  value_less k x g g' w t h =
      keep_value (Less k) OneWorld OneTemps (less_keeps k) n Trees P.heap P.code.literals (calling P frames) (calling P frames) (heads P frames)
      (heads P frames)
      (calls_relate P (Less k) (less_keeps k) n frames) (heads_relate P (Less k) (less_keeps k) n frames) x e e g g' (itself k e)
      (one_go k g g' h) w w t t (one w) (one t)

  test_less : (k : ℕ) (c : tree.Cond) (g g' : Go Bool) (w : World) (t : Temps) →
      ((v : Bool) (w : World) (t : Temps) → Less k n w (g v w t) (g' v w t)) →
      Less k n w (tests c e g w t) (tests c e g' w t)
  test_less k c g g' w t h =
      keep_test (Less k) OneWorld OneTemps (less_keeps k) n Trees P.heap P.code.literals (calling P frames) (calling P frames) (heads P frames)
      (heads P frames)
      (calls_relate P (Less k) (less_keeps k) n frames) (heads_relate P (Less k) (less_keeps k) n frames) c e e g g' (itself k e)
      (one_go k g g' h) w w t t (one w) (one t)

  run_less : (k : ℕ) (s : Ts) (g g' : Next) (w : World) (t : Temps) → ((w : World) (t : Temps) → Less k n w (g w t) (g' w t)) →
      Less k n w (does s e g w t) (does s e g' w t)
  run_less k s g g' w t h =
      keep_run (Less k) OneWorld OneTemps (less_keeps k) n Trees P.heap P.code.literals (calling P frames) (calling P frames) (heads P frames)
      (heads P frames)
      (calls_relate P (Less k) (less_keeps k) n frames) (heads_relate P (Less k) (less_keeps k) n frames) s e e g g' (itself k e)
      (one_next k g g' h) w w t t (one w) (one t)

  -- what comes of a value does at least what a return of it does; what comes after a statement, of a temporary
  abbrev GoesBack : Go ℕ → Type 0
  GoesBack go = (v : ℕ) (w : World) (t : Temps) → Less 0 n w (go v w t) (e.back v w)

  abbrev ReadsBack : ℕ → Next → Type 0
  ReadsBack i k = (w : World) (t : Temps) → Less 0 n w (k w t) (with_word (t i) w (λ v. e.back v w))

  -- a value that is returned at its end
  at_end : (x : Tx) (go : Go ℕ) (next : Next) (w : World) (t : Temps) → GoesBack go → Less 16 n w (vals x e go w t) (does (Return x) e next w t)
  at_end x go next w t h =
      let back : Go ℕ = λ v w1 t1. e.back v w1 in
      less_second 0 16 16 n w (vals x e go w t) (vals x e back w t) (omega arith) (value_less 0 x go back w t h)

  -- a temporary that is returned after a statement
  at_last : (i : ℕ) (k : Next) (next : Next) (w : World) (t : Temps) → ReadsBack i k → Less 16 n w (k w t) (does (Return (Temp i)) e next w t)
  at_last i k next w t h =
      let back : Run Ran = with_word (t i) w (λ v. e.back v w) in
      less_second 0 16 16 n w (k w t) (charged 0 back) (omega arith) (less_second 0 0 0 n w (k w t) back (omega arith) (h w t))

  -- two statements in turn, where the second does what came next
  turn_less : (s r : Ts) (k next : Next) (w : World) (t : Temps) → ((w : World) (t : Temps) → Less 16 n w (k w t) (does r e next w t)) →
      Less 16 n w (does s e k w t) (does (in_turn s r) e next w t)
  turn_less s r k next w t h =
      let follow : Next = λ w1 t1. does r e next w1 t1 in
      less_second 16 0 16 n w (does s e k w t) (does s e follow w t) (omega arith) (run_less 16 s k follow w t h)

  behind_one : (Q : Ts → Type 0) (s : Ts) (x : Tx) (from : ℕ → Ts) (last : Ts) → ((i : ℕ) → x ≡ Temp i → Q (from i)) → Q (in_turn s last) →
      Q (returned_behind s x from last)
  behind_one Q s (Temp i) from last h k = h i refl
  behind_one Q s (Const v) from last h k = k
  behind_one Q s (Address l) from last h k = k
  behind_one Q s FrameAddress from last h k = k
  behind_one Q s (Binary op x y) from last h k = k
  behind_one Q s (Load x) from last h k = k
  behind_one Q s (LoadByte x) from last h k = k
  behind_one Q s (Call l xs) from last h k = k
  behind_one Q s (Service j x) from last h k = k
  behind_one Q s (After r x) from last h k = k

  last_one : (Q : Stms → Type 0) (s : Ts) (ss : Stms) (last : Ts) (rest : Stms) → (ss ≡ no_stms → Q (stm last no_stms)) → Q (stm s rest) →
      Q (returned_last s ss last rest)
  last_one Q s no_stms last rest h k = h refl
  last_one Q s (stm r ss) last rest h k = k

  by_test : (Q : Ts → Type 0) (b : Bool) (x y : Ts) → (b ≡ true → Q x) → Q y → Q (if b then x else y)
  by_test Q true x y h k = h refl
  by_test Q false x y h k = k

  -- a temporary that is read after its own move has what was moved
  set_reads : (i j : ℕ) (k : Next) → (i == j) ≡ true → ReadsBack i k → GoesBack (λ v w1 t1. k w1 (set_temp j v t1))
  set_reads i j k e1 h v w1 t1 =
      subst (λ o. Less 0 n w1 (k w1 (set_temp j v t1)) (with_word o w1 (λ u. e.back u w1))) (ap (λ b. if b then Some v else t1 i) e1)
      (h w1 (set_temp j v t1))

  plain_less : (i : ℕ) (s : Ts) (k next : Next) (w : World) (t : Temps) → ReadsBack i k →
      Less 16 n w (does s e k w t) (does (in_turn s (Return (Temp i))) e next w t)
  plain_less i s k next w t h = turn_less s (Return (Temp i)) k next w t (λ w1 t1. at_last i k next w1 t1 h)

  word_less : (o : Option ℕ) (go : Go ℕ) (w : World) (t : Temps) → GoesBack go →
      Less 0 n w (with_word o w (λ v. go v w t)) (with_word o w (λ v. e.back v w))
  word_less None go w t h = λ i le. less_itself 0 (stops w.input Wrong)
  word_less (Some v) go w t h = h v w t

  temp_less : (i : ℕ) (go : Go ℕ) (w : World) (t : Temps) → GoesBack go → Less 0 n w (vals (Temp i) e go w t) (with_word (t i) w (λ v. e.back v w))
  temp_less i go w t h = less_first 0 0 n w (with_word (t i) w (λ v. go v w t)) _ (word_less (t i) go w t h)

  arms : (v : Bool) (a b a' : Ts) (k follow next : Next) (w : World) (t : Temps) → Less 16 n w (does a e k w t) (does a' e follow w t) →
      Less 16 n w (does b e k w t) (follow w t) →
      Less 16 n w ((if v then does a else does b) e k w t) ((if v then does a' else does (Seq no_stms)) e follow w t)
  arms true a b a' k follow next w t h l = h
  arms false a b a' k follow next w t h l = less_second 16 0 16 n w (does b e k w t) (follow w t) (omega arith) l

  mutual
    pub returned_less : (x : Tx) (go : Go ℕ) (next : Next) (w : World) (t : Temps) → GoesBack go →
        Less 16 n w (vals x e go w t) (does (returned x) e next w t)
    returned_less (Const v) go next w t h = at_end (Const v) go next w t h
    returned_less (Address l) go next w t h = at_end (Address l) go next w t h
    returned_less (Temp i) go next w t h = at_end (Temp i) go next w t h
    returned_less FrameAddress go next w t h = at_end FrameAddress go next w t h
    returned_less (Binary op x y) go next w t h = at_end (Binary op x y) go next w t h
    returned_less (Load x) go next w t h = at_end (Load x) go next w t h
    returned_less (LoadByte x) go next w t h = at_end (LoadByte x) go next w t h
    returned_less (Call l xs) go next w t h = at_end (Call l xs) go next w t h
    returned_less (Service j x) go next w t h = at_end (Service j x) go next w t h
    returned_less (After s x) go next w t h =
        behind_one (λ o. Less 16 n w (vals (After s x) e go w t) (does o e next w t)) s x (λ i. returned_from i s) (returned x)
        (λ i is. less_first 16 0 n w (does s e (λ w1 t1. vals x e go w1 t1) w t) _
        (from_less i s (λ w1 t1. vals x e go w1 t1) next w t
        (λ w1 t1. subst (λ o. Less 0 n w1 (vals o e go w1 t1) (with_word (t1 i) w1 (λ v. e.back v w1))) (sym is) (temp_less i go w1 t1 h))))
        (less_first 16 0 n w (does s e (λ w1 t1. vals x e go w1 t1) w t) _
        (turn_less s (returned x) (λ w1 t1. vals x e go w1 t1) next w t (λ w1 t1. returned_less x go next w1 t1 h)))

    from_less : (i : ℕ) (s : Ts) (k next : Next) (w : World) (t : Temps) → ReadsBack i k →
        Less 16 n w (does s e k w t) (does (returned_from i s) e next w t)
    from_less i (Move j x) k next w t h =
        by_test (λ o. Less 16 n w (does (Move j x) e k w t) (does o e next w t)) (i == j) (returned x) (in_turn (Move j x) (Return (Temp i)))
        (λ is. less_first 16 2 n w (vals x e (λ v w1 t1. k w1 (set_temp j v t1)) w t) _
        (returned_less x (λ v w1 t1. k w1 (set_temp j v t1)) next w t (set_reads i j k is h)))
        (plain_less i (Move j x) k next w t h)
    from_less i (If c a b) k next w t h =
        let later : Next = λ w1 t1. does (returned_from i b) e next w1 t1 in
        less_second 16 0 16 n w (does (If c a b) e k w t) _ (omega arith)
        ((less_keeps 16).work n 4 w _ _
        (test_less 16 c (λ v. (if v then does a else does b) e k) (λ v. (if v then does (returned_from i a) else does (Seq no_stms)) e later) w t
        (λ v w1 t1. arms v a b (returned_from i a) k later next w1 t1 (from_less i a k later w1 t1 h) (from_less i b k next w1 t1 h))))
    from_less i (Seq ss) k next w t h = (less_keeps 16).work n 0 w _ _ (all_less i ss k next w t h)
    from_less i (Store x y) k next w t h = plain_less i (Store x y) k next w t h
    from_less i (StoreByte x y) k next w t h = plain_less i (StoreByte x y) k next w t h
    from_less i (Do x) k next w t h = plain_less i (Do x) k next w t h
    from_less i (Loop s) k next w t h = plain_less i (Loop s) k next w t h
    from_less i (Break j) k next w t h = plain_less i (Break j) k next w t h
    from_less i (Fault j) k next w t h = plain_less i (Fault j) k next w t h
    from_less i (Return x) k next w t h = plain_less i (Return x) k next w t h

    all_less : (i : ℕ) (ss : Stms) (k next : Next) (w : World) (t : Temps) → ReadsBack i k →
        Less 16 n w (all ss e k w t) (all (all_returned_from i ss) e next w t)
    all_less i no_stms k next w t h = at_last i k next w t h
    all_less i (stm s ss) k next w t h =
        last_one (λ o. Less 16 n w (all (stm s ss) e k w t) (all o e next w t)) s ss (returned_from i s) (all_returned_from i ss)
        (λ is. subst (λ o. Less 16 n w (all (stm s o) e k w t) (does (returned_from i s) e next w t)) (sym is) (from_less i s k next w t h))
        (run_less 16 s (λ w1 t1. all ss e k w1 t1) (λ w1 t1. all (all_returned_from i ss) e next w1 t1) w t (λ w1 t1. all_less i ss k next w1 t1 h))

match_less : (stack a r k : ℕ) (o : Source) (p q : Ran) → IsLess k p q → Matches stack a r o p → Matches stack a (r + k) o q
match_less stack a r k o p q h (same e i f d w) =
    same (h.output ∙ e) (h.input ∙ i) (subst (λ s. Fits o.end s) (sym h.stop) f) d (omega (arith, h.work, w))
match_less stack a r k o p q h (cut past e f g s w) =
    cut past e (subst (λ l. IsPrefix past l) (sym h.output) f) (subst (λ l. IsPrefix l o.output) (sym h.output) g) (h.stop ∙
    s) (omega (arith, h.work, w))
match_less stack a r k o p q h (unsaid e) = unsaid e

follows_less_work : (stack a r k n : ℕ) (c : Run Source) (d d' : Run Ran) → ((i : ℕ) → IsLess k (d i) (d' i)) → Follows stack a r n c d →
    Follows stack a (r + k) n c d'
follows_less_work stack a r k n c d d' h f i le = let x = f i le in (x.0, x.1, match_less stack a r k (c i) (d x.0) (d' x.0) (h x.0) x.2)

-- Where a value that goes back is followed, so is what gives it back, with the units of a return.
pub given_back_follows : (P : Program) (p : Part) (stack a r n : ℕ) (c : Run Source) (x : Tx) (e : Around) (next : Next) (w : World) (t : Temps) →
    Follows stack a r n c (value_runs P p x e (λ v w1 t1. e.back v w1) w t) →
    Follows stack a (r + 16) n c (statement_runs P p (given_back x) e next w t)
given_back_follows P p stack a r n c x e next w t f =
    follows_less_work stack a r 16 n c (value_runs P p x e (λ v w1 t1. e.back v w1) w t) (statement_runs P p (given_back x) e next w t)
    (λ i. by_loop i (value_has_loop x)) f
  where
    by_loop : (i : ℕ) (b : Bool) → IsLess 16 (value_runs P p x e (λ v w1 t1. e.back v w1) w t i)
        (statement_runs P p (if b then Return x else returned x) e next w t i)
    by_loop i true = at_end P (frames_at P p) e i x (λ v w1 t1. e.back v w1) next w t (λ v w1 t1 j le. less_itself 0 (e.back v w1 j)) i
        (omega arith)
    by_loop i false = returned_less P (frames_at P p) e i x (λ v w1 t1. e.back v w1) next w t (λ v w1 t1 j le. less_itself 0 (e.back v w1 j)) i
        (omega arith)
