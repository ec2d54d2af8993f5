-- What is given back from the arms of choices runs as a return of the value does, with no more work.
use Rattle.std.proofs.Common.{◌≡◌, ℕ, zero, suc, ◌+◌, ◌<◌, ◌≤◌, List, [], ◌∷◌, ◌++◌, Bool, true, false, Some, refl, sym, ap, ◌∙◌, arith, subst}
use Rattle.std.specs.Prelude.{◌==◌, nat_lt, if◌then◌else◌}
use Rattle.tg_simulation.specs.Runs.{Run}
use Rattle.tg_simulation.specs.Ran.{Ran, Wrong}
use Rattle.tg_simulation.specs.Preserving.{DoesTheSame}
use Rattle.tg_tree.specs.Tree.{Tx, Temp, After, Ts, Move}
use Rattle.tg_tree.specs.Tree.{Cond, If, Seq, Return, Stms, no_stms, stm, Literal, Code}
use Rattle.tg_tree.specs.Forms.{nothing}
use Rattle.tg_tree.specs.Units.{Stage, marked_entry_units}
use Rattle.tg_tree.specs.Actions.{World, Temps, Around, Acts, Go, Next, Back, wrong, charged, with_word}
use Rattle.tg_tree.specs.Meaning.{Enter, Point, value, test, run, run_all}
use Rattle.tg_tree.specs.Running.{with_fuel, going}
use Rattle.tg_tree.specs.Running as Running
use Rattle.tg_tree.specs.Links.{LinkedPoint, first_is, frames_around, run_linked_body, call_within, enter_linked, linked_step, linked_going}
use Rattle.tg_tree.proofs.Linked.{Like, like, keep_linked_step, linked_own}
use Rattle.tg_tree.proofs.Entering.{BodiesKeep, keep_call_in}
use Rattle.tg_simulation.proofs.Fixpoint.{runs_relate}
use Rattle.tg_tree.proofs.TreeRuns.{trees_relate, keep_enter, keep_head}
use Rattle.tg_tree.proofs.Relating.{Related, Keeps, AlikeBack, AlikeAround, around, Alike, alike, alike_down, AlikeGo, AlikeNext, keep_test, keep_run}
use Rattle.tg_tree.proofs.Going.{one, OneWorld, OneTemps, KeepsRuns, keeps_one}
use Rattle.tg_translate.specs.mirror.Returning.{in_turn, returned, returned_behind, returned_from, all_returned_from, value_has_loop, given_back}

-- the second does what the first does, with at most so many units more
abbrev pub DoesSoMuchMore : ℕ → Related
DoesSoMuchMore k n w c d = (i : ℕ) → i ≤ n → DoesTheSame 1 k (c i) (d i)

does_fuel : (k n : ℕ) (w : World) (c d : Run Ran) → ((m : ℕ) → m < n → DoesSoMuchMore k m w c d) → DoesSoMuchMore k n w (with_fuel w c) (with_fuel w d)
does_fuel k n w c d h zero le = record { output = refl; input = refl; stop = refl; work = omega arith }
does_fuel k n w c d h (suc i) le = h i (omega (arith, le)) i (omega arith)

does_runs : (k : ℕ) → KeepsRuns (DoesSoMuchMore k)
does_runs k =
    record {
      stop = λ n s w i le. record { output = refl; input = refl; stop = refl; work = omega arith };
      write = λ n bytes w c d h i le.
          let x = h i le in record { output = ap (λ l. bytes ++ l) x.output; input = x.input; stop = x.stop; work = x.work };
      work = λ n j w c d h i le. let x = h i le in let y = x.work in record { output = x.output; input = x.input; stop = x.stop; work = omega (arith, y) };
      fuel = λ n w c d h. does_fuel k n w c d h;
      down = λ m n w c d le h i li. h i (omega (arith, le, li));
      later = λ n w v c d l h i le. h i le;
    }

does_keeps : (k : ℕ) → Keeps (DoesSoMuchMore k) OneWorld OneTemps
does_keeps k = keeps_one (DoesSoMuchMore k) (does_runs k)

-- as far as so much fuel, of runs whose calls and heads do as much more as what comes after them
module _ (n : ℕ) (stage : Stage) (room : ℕ) (literals : List Literal) (enter : Enter) (later : Point → Run Ran)
    (enters : (k label : ℕ) (vs : List ℕ) (top : ℕ) (back back' : Back) (w w' : World) → OneWorld w w' →
    AlikeBack (DoesSoMuchMore k) OneWorld OneTemps n back back' → DoesSoMuchMore k n w (enter label vs top back w) (enter label vs top back' w'))
    (goes_on : (k : ℕ) (x y : Point) → Alike (DoesSoMuchMore k) OneWorld OneTemps n x y → DoesSoMuchMore k n x.world (later x) (later y)) where
  abbrev runs : Ts → Acts Next
  runs = run stage room literals enter later

  abbrev runs_all : Stms → Acts Next
  runs_all = run_all stage room literals enter later

  abbrev gives : Tx → Acts (Go ℕ)
  gives = value stage room literals enter later

  -- what comes of a value that is given back, and of what stands in a temporary
  abbrev back_with : Around → Go ℕ
  back_with e v w t = e.back v w

  abbrev back_from : ℕ → Around → Next
  back_from i e w t = with_word (t i) w (λ v. e.back v w)

  abbrev More : ℕ → Run Ran → Run Ran → Type 0
  More k c d = (i : ℕ) → i ≤ n → DoesTheSame 1 k (c i) (d i)

  itself : (k : ℕ) (c : Run Ran) → More k c c
  itself k c i le = record { output = refl; input = refl; stop = refl; work = omega arith }

  -- work that the first does as well, and work that is paid for
  both_work : (k j : ℕ) (c d : Run Ran) → More k c d → More k (charged j c) (charged j d)
  both_work k j c d h i le = let x = h i le in let y = x.work in record { output = x.output; input = x.input; stop = x.stop; work = omega (arith, y) }

  first_works : (k j : ℕ) (c d : Run Ran) → More k c d → More k (charged j c) d
  first_works k j c d h i le = let x = h i le in let y = x.work in record { output = x.output; input = x.input; stop = x.stop; work = omega (arith, y) }

  second_works : (k j : ℕ) (c d : Run Ran) → More k c d → More (j + k) c (charged j d)
  second_works k j c d h i le = let x = h i le in let y = x.work in record { output = x.output; input = x.input; stop = x.stop; work = omega (arith, y) }

  same_out : (k : ℕ) (out : ℕ → Next) → AlikeGo (DoesSoMuchMore k) OneWorld OneTemps n out out
  same_out k out v w _ t _ (one _) (one _) = itself k (out v w t)

  same_back : (k : ℕ) (back : Back) → AlikeBack (DoesSoMuchMore k) OneWorld OneTemps n back back
  same_back k back v w _ (one _) = itself k (back v w)

  same_around : (k : ℕ) (e : Around) → AlikeAround (DoesSoMuchMore k) OneWorld OneTemps n e e
  same_around k e = around e.activation e.out e.out e.back e.back (same_out k e.out) (same_back k e.back)

  -- what comes after a statement and after a condition does as much more
  behind_run : (k : ℕ) (s : Ts) (e : Around) (g g' : Next) (w : World) (t : Temps) → ((w1 : World) (t1 : Temps) → More k (g w1 t1) (g' w1 t1)) →
      More k (runs s e g w t) (runs s e g' w t)
  behind_run k s e g g' w t h =
      keep_run (DoesSoMuchMore k) OneWorld OneTemps (does_keeps k) n stage room literals enter enter later later (enters k) (goes_on k) s e e g g'
      (same_around k e) alike_next w w t t (one w) (one t)
    where
      alike_next : AlikeNext (DoesSoMuchMore k) OneWorld OneTemps n g g'
      alike_next w1 _ t1 _ (one _) (one _) = h w1 t1

  behind_test : (k : ℕ) (c : Cond) (e : Around) (g g' : Go Bool) (w : World) (t : Temps) →
      ((b : Bool) (w1 : World) (t1 : Temps) → More k (g b w1 t1) (g' b w1 t1)) →
      More k (test stage room literals enter later c e g w t) (test stage room literals enter later c e g' w t)
  behind_test k c e g g' w t h =
      keep_test (DoesSoMuchMore k) OneWorld OneTemps (does_keeps k) n stage room literals enter enter later later (enters k) (goes_on k) c e e g g'
      (same_around k e) alike_go w w t t (one w) (one t)
    where
      alike_go : AlikeGo (DoesSoMuchMore k) OneWorld OneTemps n g g'
      alike_go b w1 _ t1 _ (one _) (one _) = h b w1 t1

  -- a return does so much more than the value alone
  plain_return : (x : Tx) (e : Around) (next : Next) (w : World) (t : Temps) → More 16 (gives x e (back_with e) w t) (runs (Return x) e next w t)
  plain_return x e next w t = second_works 0 16 _ _ (itself 0 (gives x e (back_with e) w t))

  temp_return : (i : ℕ) (e : Around) (next : Next) (w : World) (t : Temps) → More 16 (back_from i e w t) (runs (Return (Temp i)) e next w t)
  temp_return i e next w t = second_works 0 16 _ _ (second_works 0 0 _ _ (itself 0 (back_from i e w t)))

  -- one statement, and then what returns
  in_turn_behind : (s u : Ts) (g : Next) (e : Around) (next : Next) (w : World) (t : Temps) →
      ((next' : Next) (w1 : World) (t1 : Temps) → More 16 (g w1 t1) (runs u e next' w1 t1)) → More 16 (runs s e g w t) (runs (in_turn s u) e next w t)
  in_turn_behind s u g e next w t h = second_works 16 0 _ _ (behind_run 16 s e g _ w t (λ w1 t1. h next w1 t1))

  -- a value that is put into the temporary is given back itself
  moved : (i j : ℕ) (x : Tx) (e : Around) (next : Next) (w : World) (t : Temps) → More 16 (gives x e (back_with e) w t) (runs (returned x) e next w t) →
      (b : Bool) → (i == j) ≡ b →
      More 16 (runs (Move j x) e (back_from i e) w t) (runs (if b then returned x else in_turn (Move j x) (Return (Temp i))) e next w t)
  moved i j x e next w t h true is =
      subst (λ b. More 16 (charged 2 (gives x e (λ v w1 t1. with_word (if b then Some v else t1 i) w1 (λ u. e.back u w1)) w t)) (runs (returned x) e next w t))
      (sym is) (first_works 16 2 _ _ h)
  moved i j x e next w t h false is = in_turn_behind (Move j x) (Return (Temp i)) _ e next w t (λ next' w1 t1. temp_return i e next' w1 t1)

  arm : (i : ℕ) (s u : Ts) (e : Around) (next : Next) →
      ((next' : Next) (w : World) (t : Temps) → More 16 (runs s e (back_from i e) w t) (runs (returned_from i s) e next' w t)) →
      ((w : World) (t : Temps) → More 16 (runs u e (back_from i e) w t) (runs (returned_from i u) e next w t)) → (b : Bool) (w : World) (t : Temps) →
      More 16 ((if b then runs s else runs u) e (back_from i e) w t)
      ((if b then runs (returned_from i s) else runs nothing) e (λ w2 t2. runs (returned_from i u) e next w2 t2) w t)
  arm i s u e next h k true w t = h _ w t
  arm i s u e next h k false w t = second_works 16 0 _ _ (k w t)

  onto : (j k : ℕ) (c d u : Run Ran) → More j c d → More k d u → More (j + k) c u
  onto j k c d u h l i le =
      let x = h i le in
      let y = l i le in
      let v = x.work in
      let w = y.work in
      record { output = y.output ∙ x.output; input = y.input ∙ x.input; stop = y.stop ∙ x.stop; work = omega (arith, v, w) }

  -- a value after a statement
  behind : (s : Ts) (x : Tx) (e : Around) (next : Next) (w : World) (t : Temps) →
      ((i : ℕ) → More 16 (runs s e (back_from i e) w t) (runs (returned_from i s) e next w t)) →
      ((next' : Next) (w1 : World) (t1 : Temps) → More 16 (gives x e (back_with e) w1 t1) (runs (returned x) e next' w1 t1)) →
      More 16 (gives (After s x) e (back_with e) w t) (runs (returned_behind s x (λ i. returned_from i s) (returned x)) e next w t)
  behind s (Temp i) e next w t h k =
      first_works 16 0 _ _ (onto 0 16 _ (runs s e (back_from i e) w t) _
      (behind_run 0 s e _ _ w t (λ w1 t1. first_works 0 0 _ _ (itself 0 (back_from i e w1 t1)))) (h i))
  behind s x e next w t h k = first_works 16 0 _ _ (in_turn_behind s (returned x) _ e next w t k)

  -- statements from one on
  last : (i : ℕ) (s : Ts) (ss : Stms) (e : Around) (next : Next) (w : World) (t : Temps) →
      ((next' : Next) → More 16 (runs s e (back_from i e) w t) (runs (returned_from i s) e next' w t)) →
      ((w1 : World) (t1 : Temps) → More 16 (runs_all ss e (back_from i e) w1 t1) (runs_all (all_returned_from i ss) e next w1 t1)) →
      More 16 (runs_all (stm s ss) e (back_from i e) w t) (runs_all (all_returned_from i (stm s ss)) e next w t)
  last i s no_stms e next w t h k = h _
  last i s (stm u ss) e next w t h k = behind_run 16 s e _ _ w t k

  mutual
    gives_back : (x : Tx) (e : Around) (next : Next) (w : World) (t : Temps) → More 16 (gives x e (back_with e) w t) (runs (returned x) e next w t)
    gives_back (After s x) e next w t =
        behind s x e next w t (λ i. from_arms i s e next w t) (λ next' w1 t1. gives_back x e next' w1 t1)
    gives_back x e next w t = plain_return x e next w t

    from_arms : (i : ℕ) (s : Ts) (e : Around) (next : Next) (w : World) (t : Temps) →
        More 16 (runs s e (back_from i e) w t) (runs (returned_from i s) e next w t)
    from_arms i (Move j x) e next w t = moved i j x e next w t (gives_back x e next w t) (i == j) refl
    from_arms i (If c s u) e next w t =
        second_works 16 0 _ _ (both_work 16 4 _ _ (behind_test 16 c e _ _ w t
        (arm i s u e next (λ next' w1 t1. from_arms i s e next' w1 t1) (λ w1 t1. from_arms i u e next w1 t1))))
    from_arms i (Seq ss) e next w t = both_work 16 0 _ _ (from_last i ss e next w t)
    from_arms i s e next w t = in_turn_behind s (Return (Temp i)) _ e next w t (λ next' w1 t1. temp_return i e next' w1 t1)

    from_last : (i : ℕ) (ss : Stms) (e : Around) (next : Next) (w : World) (t : Temps) →
        More 16 (runs_all ss e (back_from i e) w t) (runs_all (all_returned_from i ss) e next w t)
    from_last i no_stms e next w t = temp_return i e next w t
    from_last i (stm s ss) e next w t =
        last i s ss e next w t (λ next'. from_arms i s e next' w t) (λ w1 t1. from_last i ss e next w1 t1)

-- So a return of the value, and what gives it back, which does no more work.
module _ (n : ℕ) (stage : Stage) (room : ℕ) (literals : List Literal) (enter : Enter) (later : Point → Run Ran)
    (enters : (k label : ℕ) (vs : List ℕ) (top : ℕ) (back back' : Back) (w w' : World) → OneWorld w w' →
    AlikeBack (DoesSoMuchMore k) OneWorld OneTemps n back back' → DoesSoMuchMore k n w (enter label vs top back w) (enter label vs top back' w'))
    (goes_on : (k : ℕ) (x y : Point) → Alike (DoesSoMuchMore k) OneWorld OneTemps n x y → DoesSoMuchMore k n x.world (later x) (later y)) where
  either : (b : Bool) (x : Tx) (e : Around) (next next' : Next) (w : World) (t : Temps) → (i : ℕ) → i ≤ n →
      DoesTheSame 1 0 (run stage room literals enter later (Return x) e next w t i)
      (run stage room literals enter later (if b then Return x else returned x) e next' w t i)
  either true x e next next' w t i le = record { output = refl; input = refl; stop = refl; work = omega arith }
  either false x e next next' w t i le =
      let h = gives_back n stage room literals enter later enters goes_on x e next' w t i le in
      let k = h.work in
      record { output = h.output; input = h.input; stop = h.stop; work = omega (arith, k) }

  pub given_back_does : (x : Tx) (e : Around) (next next' : Next) (w : World) (t : Temps) → (i : ℕ) → i ≤ n →
      DoesTheSame 1 0 (run stage room literals enter later (Return x) e next w t i) (run stage room literals enter later (given_back x) e next' w t i)
  given_back_does x = either (value_has_loop x) x

-- In runs of trees, calls and heads do as much more as what comes after them.
module _ (stage : Stage) (code : Code Ts) (size : ℕ → ℕ) (floor room : ℕ) where
  abbrev goes : Point → Run Ran
  goes = going stage code size floor room

  trees_later : (k m : ℕ) (x y : Point) → Alike (DoesSoMuchMore k) OneWorld OneTemps m x y → DoesSoMuchMore k m x.world (goes x) (goes y)
  trees_later k m x y h = trees_relate stage code size floor room (DoesSoMuchMore k) OneWorld OneTemps (does_keeps k) m x y h

  pub trees_give_back : (x : Tx) (e : Around) (next next' : Next) (w : World) (t : Temps) (n : ℕ) →
      DoesTheSame 1 0 (run stage room code.literals (Running.enter stage code size floor room goes) (λ q. with_fuel q.world (goes q)) (Return x) e next w t n)
      (run stage room code.literals (Running.enter stage code size floor room goes) (λ q. with_fuel q.world (goes q)) (given_back x) e next' w t n)
  trees_give_back x e next next' w t n =
      given_back_does n stage room code.literals _ _
      (λ k. keep_enter (DoesSoMuchMore k) OneWorld OneTemps (does_keeps k) stage code size floor room n goes goes (λ m lt y z h. trees_later k m y z h))
      (λ k. keep_head (DoesSoMuchMore k) OneWorld OneTemps (does_keeps k) stage code size floor room n goes goes (λ m lt y z h. trees_later k m y z h))
      x e next next' w t n (omega arith)

-- And so they do in runs with static links.
module _ (stage : Stage) (code : Code Ts) (size : ℕ → ℕ) (floor room : ℕ) (level : ℕ → ℕ) where
  abbrev goes_linked : LinkedPoint → Run Ran
  goes_linked = linked_going stage code size floor room level

  module _ (k : ℕ) where
    abbrev linked_alike : ℕ → LinkedPoint → LinkedPoint → Type 0
    linked_alike = Like stage code size floor room level (DoesSoMuchMore k) (does_keeps k)

    linked_later : (m : ℕ) (x y : LinkedPoint) → linked_alike m x y → DoesSoMuchMore k m x.point.world (goes_linked x) (goes_linked y)
    linked_later m x y h =
        runs_relate linked_alike (λ j v z c d. DoesSoMuchMore k j v.point.world c d) (linked_step stage code size floor room level)
        (linked_step stage code size floor room level)
        (λ j c d later v z q. keep_linked_step stage code size floor room level (DoesSoMuchMore k) (does_keeps k) j c d later v z q) goes_linked goes_linked
        (linked_own stage code size floor room level) (linked_own stage code size floor room level) m x y h

    linked_bodies : (m : ℕ) (frames : List ℕ) → BodiesKeep (DoesSoMuchMore k) OneWorld OneTemps m
        (run_linked_body stage code size floor room level goes_linked frames) (run_linked_body stage code size floor room level goes_linked frames)
    linked_bodies m frames s _ _ w x t u (around a out out' back back' h l) r q =
        linked_later m _ _ (like (a.base ∷ frames) _ _ (alike s _ _ _ _ w x t u (around a out out' back back' h l)
        (λ w2 x2 t2 u2 r2 s2. (does_keeps k).stop m Wrong w2 x2 r2) r q))

    linked_calls : (n : ℕ) (frames : List ℕ) (label : ℕ) (vs : List ℕ) (top : ℕ) (back back' : Back) (w x : World) → OneWorld w x →
        AlikeBack (DoesSoMuchMore k) OneWorld OneTemps n back back' →
        DoesSoMuchMore k n w (call_within stage code size floor room level goes_linked frames label vs top back w)
        (call_within stage code size floor room level goes_linked frames label vs top back' x)
    linked_calls n frames label vs top back back' w x r h =
        keep_call_in (DoesSoMuchMore k) OneWorld OneTemps (does_keeps k) size floor n marked_entry_units _ _ code.functions (λ m lt. linked_bodies m frames)
        label vs top back back' w x r h

    one_of : (n : ℕ) (b d : Bool) (w x : World) (p q p' q' : Run Ran) → OneWorld w x → DoesSoMuchMore k n w p p' → DoesSoMuchMore k n w q q' →
        DoesSoMuchMore k n w (if b then p else if d then q else wrong w) (if b then p' else if d then q' else wrong x)
    one_of n true d w x p q p' q' r h l = h
    one_of n false true w x p q p' q' r h l = l
    one_of n false false w x p q p' q' r h l = (does_keeps k).stop n Wrong w x r

    linked_head : (n : ℕ) (frames : List ℕ) (x y : Point) → Alike (DoesSoMuchMore k) OneWorld OneTemps n x y → DoesSoMuchMore k n x.world
        (with_fuel x.world (goes_linked (record { point = x; frames = frames }))) (with_fuel y.world (goes_linked (record { point = y; frames = frames })))
    linked_head n frames _ _ (alike s e e' g g' w v t u h l r q) =
        (does_keeps k).fuel n w v _ _ r (λ m lt. linked_later m _ _ (like frames _ _
        (alike_down (DoesSoMuchMore k) OneWorld OneTemps (does_keeps k) m n _ _ (omega (arith, lt)) (alike s e e' g g' w v t u h l r q))))

  pub linked_trees_give_back : (frames : List ℕ) (x : Tx) (e : Around) (next next' : Next) (w : World) (t : Temps) (n : ℕ) →
      DoesTheSame 1 0
      (run stage room code.literals (enter_linked stage code size floor room level goes_linked frames)
      (λ q. with_fuel q.world (goes_linked (record { point = q; frames = frames }))) (Return x) e next w t n)
      (run stage room code.literals (enter_linked stage code size floor room level goes_linked frames)
      (λ q. with_fuel q.world (goes_linked (record { point = q; frames = frames }))) (given_back x) e next' w t n)
  linked_trees_give_back frames x e next next' w t n =
      given_back_does n stage room code.literals _ _
      (λ k label vs top back back' w1 x1 r h. one_of k n (nat_lt label 32) (first_is vs (frames_around stage code size floor room level label frames)) w1 x1 _ _ _ _ r
      (linked_calls k n [] label vs top back back' w1 x1 r h)
      (linked_calls k n (frames_around stage code size floor room level label frames) label vs top back back' w1 x1 r h))
      (λ k. linked_head k n frames) x e next next' w t n (omega arith)
