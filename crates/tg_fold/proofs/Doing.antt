-- What is folded does what it did, with no more work, as far as so much fuel.
use Rattle.std.proofs.Common.{◌≡◌, ℕ, zero, suc, ◌+◌, ◌-◌, ◌^◌, ◌%◌, ◌≤◌}
use Rattle.std.proofs.Common.{List, [], ◌∷◌, Bool, true, false, not, Option, Some, None, refl, sym, ap, ◌∙◌, subst, arith}
use Rattle.std.specs.Prelude.{◌==◌, nat_lt, pos, if◌then◌else◌}
use Rattle.std.specs.Fmt.{signed_decimal}
use Rattle.tg_machine_state.specs.declared.ends.RunEnd.TheVariants.{Exit, Break as Broken, HeapFull, BadService}
use Rattle.tg_base.specs.Words.{signed}
use Rattle.tg_simulation.specs.Runs.{Run}
use Rattle.tg_simulation.specs.Ran.{Ran, Ended, Wrong}
use Rattle.tg_simulation.proofs.Simulations.{simulates_stopping, simulates_writing}
use Rattle.tg_tree.specs.declared.operators.Bin.{Bin}
use Rattle.tg_tree.specs.declared.operators.Rel.{Rel}
use Rattle.tg_tree.specs.declared.operators.Rel.TheVariants.{Equal, NotEqual}
use Rattle.tg_tree.specs.Tree.{Tx, Const, Address, Temp, FrameAddress, Binary, Load, LoadByte, Call, Service, After, Txs, no_txs, tx, Cond, Compare}
use Rattle.tg_tree.specs.Tree.{Not, Both, Either, Ts, Move, Store, StoreByte, Do, If, Loop, Break, Fault, Seq, Return, Stms, no_stms, stm, Literal}
use Rattle.tg_tree.specs.Operators.{Given, word, stops_by, operate, holds}
use Rattle.tg_tree.specs.Memory.{Memory, load, load_byte, store, store_byte, literal_address}
use Rattle.tg_tree.specs.Shapes.{is_flat, are_flat, is_flat_condition}
use Rattle.tg_tree.specs.Units.{Trees, hoisted_units, joined_units, operator_units}
use Rattle.tg_tree.specs.Actions.{World, Temps, set_temp, Activation, Around, Acts, Go, Next, Out, Back, charged, with_word, with_given, with_memory, leaving}
use Rattle.tg_tree.specs.Actions.{give, service, with_text, text_from, read_byte}
use Rattle.tg_tree.specs.Meaning.{Enter, Point, value, values, test, run, run_all}
use Rattle.tg_tree.specs.Carrying.{EntersSimulate}
use Rattle.tg_fold.specs.mirror.Folding.{given_word, word_of, constant_or, operated, Tested, Known, Open, compared_by, compared, negated, never, always}
use Rattle.tg_fold.specs.mirror.Folding.{both_of, either_of, chosen, passed_on, folded_tx, folded_txs, tested, folded, each_folded}
use Rattle.tg_fold.proofs.Sides.{AreSides, two, others, sides}
use Rattle.tg_fold.proofs.Paying.{Sim, pays, pays_more, pays_all, works_less, works_none_more, pays_alone, charged_add}
use Rattle.tg_fold.proofs.Shrinking.{TestShrinks, hoisted_less, joined_less, operator_less, folded_tx_shrinks, folded_txs_shrink, tested_shrinks}
use Rattle.tg_fold.proofs.Copying.{around, loop_at}

-- Where both sides run: as far as so much fuel, with a heap's room, literals, what calls do and what comes of going on with loops on each
-- side. Calls do what they did, and after the pass copies may be passed on.
pub record Scene : Type 0 where
  pub fuel : ℕ
  pub room : ℕ
  pub literals : List Literal
  pub enter : Enter
  pub enter' : Enter
  pub later : Point → Run Ran
  pub later' : Point → Run Ran
  pub calls : EntersSimulate 1 0 fuel enter enter'
  pub passes :
      (ss : Stms) (e : Around) (next : Next) (w : World) (t : Temps) →
      run_all Trees room literals enter' later' ss e next w t ≡ run_all Trees room literals enter' later' (passed_on None ss) e next w t

-- what comes next does what it did
abbrev pub GoSim : {A : Type 0} → (r n : ℕ) → Go A → Go A → Type 0
GoSim {A} r n go go' = (v : A) (w : World) (t : Temps) → Sim r n (go v w t) (go' v w t)

abbrev pub NextSim : (r n : ℕ) → Next → Next → Type 0
NextSim r n next next' = (w : World) (t : Temps) → Sim r n (next w t) (next' w t)

abbrev pub BackSim : (r n : ℕ) → Back → Back → Type 0
BackSim r n back back' = (v : ℕ) (w : World) → Sim r n (back v w) (back' v w)

module _ (r n : ℕ) where
  word_sim : (o : Option ℕ) (w : World) (p q : ℕ → Run Ran) → ((v : ℕ) → Sim r n (p v) (q v)) → Sim r n (with_word o w p) (with_word o w q)
  word_sim None w p q h = simulates_stopping 1 r n w.input Wrong
  word_sim (Some v) w p q h = h v

  given_sim : (g : Given) (w : World) (p q : ℕ → Run Ran) → ((v : ℕ) → Sim r n (p v) (q v)) → Sim r n (with_given g w p) (with_given g w q)
  given_sim (word v) w p q h = h v
  given_sim (stops_by s) w p q h = simulates_stopping 1 r n w.input s

  memory_sim : (m : Option Memory) (w : World) (p q : World → Run Ran) → ((w1 : World) → Sim r n (p w1) (q w1)) →
      Sim r n (with_memory m w p) (with_memory m w q)
  memory_sim None w p q h = simulates_stopping 1 r n w.input Wrong
  memory_sim (Some m) w p q h = h (record w { memory = m })

  if_sim : (z : Bool) (p q p' q' : Run Ran) → Sim r n p p' → Sim r n q q' → Sim r n (if z then p else q) (if z then p' else q')
  if_sim true p q p' q' h k = h
  if_sim false p q p' q' h k = k

  ways_sim : {K : Type 0} (z : Bool) (m l m' l' : Acts K) (e e' : Around) (k k' : K) (w : World) (t : Temps) →
      Sim r n (m e k w t) (m' e' k' w t) → Sim r n (l e k w t) (l' e' k' w t) →
      Sim r n ((if z then m else l) e k w t) ((if z then m' else l') e' k' w t)
  ways_sim true m l m' l' e e' k k' w t h i = h
  ways_sim false m l m' l' e e' k k' w t h i = i

  text_sim : (o : Option (List ℕ)) (w : World) (c d : Run Ran) → Sim r n c d → Sim r n (with_text o w c) (with_text o w d)
  text_sim None w c d h = simulates_stopping 1 r n w.input Wrong
  text_sim (Some bytes) w c d h = simulates_writing 1 r n bytes c d h

  read_sim : (input : List ℕ) (w : World) (p q : ℕ → World → Run Ran) → BackSim r n p q → Sim r n (read_byte input w p) (read_byte input w q)
  read_sim [] w p q h = h 4294967295 w
  read_sim (byte ∷ rest) w p q h = h byte (record w { input = rest })

  service_sim : (room asked u : ℕ) (w : World) (p q : Back) → BackSim r n p q → Sim r n (service room asked u w p) (service room asked u w q)
  service_sim room asked u w p q h =
      if_sim (asked == 1) _ _ _ _ (simulates_writing 1 r n (signed_decimal (signed u)) (p asked w) (q asked w) (h asked w))
      (if_sim (asked == 4) _ _ _ _ (text_sim (text_from (2 ^ 32) w.memory u) w (p asked w) (q asked w) (h asked w))
      (if_sim (asked == 9) _ _ _ _ (if_sim (nat_lt room _) _ _ _ _ (simulates_stopping 1 r n w.input (Ended HeapFull)) (h _ _))
      (if_sim (asked == 10) _ _ _ _ (simulates_stopping 1 r n w.input (Ended (Exit (pos 0))))
      (if_sim (asked == 11) _ _ _ _ (simulates_writing 1 r n (u % 256 ∷ []) (p asked w) (q asked w) (h asked w))
      (if_sim (asked == 12) _ _ _ _ (read_sim w.input w p q h)
      (if_sim (asked == 17) _ _ _ _ (simulates_stopping 1 r n w.input (Ended (Exit (signed u))))
      (simulates_stopping 1 r n w.input (Ended (BadService asked)))))))))

  leaving_sim : (next next' : Next) (o o' : Out) → NextSim r n next next' → GoSim r n o o' → GoSim r n (leaving next o) (leaving next' o')
  leaving_sim next next' o o' h k zero w t = h w t
  leaving_sim next next' o o' h k (suc i) w t = k i w t

module _ (z : Scene) where
  abbrev n : ℕ
  n = z.fuel

  abbrev val : Tx → Acts (Go ℕ)
  val x = value Trees z.room z.literals z.enter z.later x

  abbrev vals : Txs → Acts (Go (List ℕ))
  vals xs = values Trees z.room z.literals z.enter z.later xs

  abbrev tests : Cond → Acts (Go Bool)
  tests c = test Trees z.room z.literals z.enter z.later c

  abbrev pub does : Ts → Acts Next
  does s = run Trees z.room z.literals z.enter z.later s

  abbrev does_all : Stms → Acts Next
  does_all ss = run_all Trees z.room z.literals z.enter z.later ss

  abbrev val' : Tx → Acts (Go ℕ)
  val' x = value Trees z.room z.literals z.enter' z.later' x

  abbrev vals' : Txs → Acts (Go (List ℕ))
  vals' xs = values Trees z.room z.literals z.enter' z.later' xs

  abbrev tests' : Cond → Acts (Go Bool)
  tests' c = test Trees z.room z.literals z.enter' z.later' c

  abbrev pub does' : Ts → Acts Next
  does' s = run Trees z.room z.literals z.enter' z.later' s

  abbrev does_all' : Stms → Acts Next
  does_all' ss = run_all Trees z.room z.literals z.enter' z.later' ss

  -- a condition that is known comes after the work of a comparison at least
  abbrev tested_runs : Tested → Acts (Go Bool)
  tested_runs (Known q) e go w t = charged 8 (go q w t)
  tested_runs (Open c) e go w t = tests' c e go w t

  zeros_run : (rel : Rel) (e : Around) (go : Go Bool) (w : World) (t : Temps) →
      tests' (Compare rel (Const 0) (Const 0)) e go w t ≡ charged 8 (go (holds rel 0 0) w t)
  zeros_run rel e go w t = ap (charged 4) (charged_add 2 2 (go (holds rel 0 0) w t)) ∙ charged_add 4 4 (go (holds rel 0 0) w t)

  constants_run : (rel : Rel) (u v : ℕ) (e : Around) (go : Go Bool) (w : World) (t : Temps) →
      tests' (Compare rel (Const u) (Const v)) e go w t ≡ charged 8 (go (holds rel u v) w t)
  constants_run rel u v e go w t = ap (charged 4) (charged_add 2 2 (go (holds rel u v) w t)) ∙ charged_add 4 4 (go (holds rel u v) w t)

  -- an operator on constants
  operated_sim : (r : ℕ) (op : Bin) (x y : Tx) (c : Run Ran) (e : Around) (go : Go ℕ) (w : World) (t : Temps) →
      Sim r n c (val' (Binary op x y) e go w t) → Sim r n c (val' (operated op x y) e go w t)
  operated_sim r op x y c e go w t h = by x y (sides x y) h
    where
      by : (x y : Tx) → AreSides x y → Sim r n c (val' (Binary op x y) e go w t) → Sim r n c (val' (operated op x y) e go w t)
      by _ _ (others x y f) h = subst (λ o. Sim r n c (val' (constant_or (word_of op o) (Binary op x y)) e go w t)) (sym f) h
      by _ _ (two u v) h = on (operate op u v) refl
        where
          on : (g : Given) → operate op u v ≡ g →
              Sim r n c (val' (constant_or (given_word g) (Binary op (Const u) (Const v))) e go w t)
          on (word m) f =
              let h1 : Sim r n c (charged (operator_units op (Const v) + hoisted_units Trees true) (charged 2 (charged 2 (go m w t)))) =
              subst (λ g. Sim r n c (charged (operator_units op (Const v) + hoisted_units Trees true)
              (charged 2 (charged 2 (with_given g w (λ q. go q w t))))))
              f h in
              works_none_more r n (operator_units op (Const v) + hoisted_units Trees true) c (charged 2 (go m w t))
              (works_less_inner r (operator_units op (Const v) + hoisted_units Trees true) c (go m w t) h1)
            where
              works_less_inner : (r j : ℕ) (c d : Run Ran) → Sim r n c (charged j (charged 2 (charged 2 d))) → Sim r n c (charged j (charged 2 d))
              works_less_inner r j c d h =
                  let h2 : Sim r n c (charged (j + 4) d) =
                  subst (λ x. Sim r n c x) (ap (charged j) (charged_add 2 2 d) ∙ charged_add j 4 d) h in
                  subst (λ x. Sim r n c x) (sym (charged_add j 2 d)) (works_less r n (j + 4) (j + 2) c d (omega arith) h2)
          on (stops_by s) f = h

  module _ (r : ℕ) (a : Activation) (b b' : Back) (backs : BackSim r n b b')
      (again : (s : Ts) (o o' : Out) (next next' : Next) → GoSim r n o o' → NextSim r n next next' → (w : World) (t : Temps) →
      Sim r n (z.later (loop_at s a o b next w t)) (z.later' (loop_at (folded s) a o' b' next' w t))) where
    abbrev ValueSim : {A : Type 0} → Acts (Go A) → Acts (Go A) → Type 0
    ValueSim {A} m m' =
        (o o' : Out) → GoSim r n o o' → (go go' : Go A) → GoSim r n go go' → (w : World) (t : Temps) →
        Sim r n (m (around a o b) go w t) (m' (around a o' b') go' w t)

    abbrev RunSim : Acts Next → Acts Next → Type 0
    RunSim m m' =
        (o o' : Out) → GoSim r n o o' → (next next' : Next) → NextSim r n next next' → (w : World) (t : Temps) →
        Sim r n (m (around a o b) next w t) (m' (around a o' b') next' w t)

    -- Conditions.
    compared_sim : (rel : Rel) (x y : Tx) (m : Acts (Go Bool)) → ValueSim m (tests' (Compare rel x y)) → ValueSim m (tested_runs (compared rel x y))
    compared_sim rel x y m h o o' ho go go' hg w t = by x y (sides x y) (h o o' ho go go' hg w t)
      where
        c : Run Ran
        c = m (around a o b) go w t

        by : (x y : Tx) → AreSides x y → Sim r n (m (around a o b) go w t) (tests' (Compare rel x y) (around a o' b') go' w t) →
            Sim r n (m (around a o b) go w t) (tested_runs (compared rel x y) (around a o' b') go' w t)
        by _ _ (others x y f) h =
            subst (λ o1. Sim r n (m (around a o b) go w t) (tested_runs (compared_by rel o1 (Compare rel x y)) (around a o' b') go' w t)) (sym f) h
        by _ _ (two u v) h = subst (λ d. Sim r n (m (around a o b) go w t) d) (constants_run rel u v (around a o' b') go' w t) h

    negated_sim : (c : Cond) (u : Tested) → ValueSim (tests c) (tested_runs u) → ValueSim (tests (Not c)) (tested_runs (negated u))
    negated_sim c (Known q) h o o' ho go go' hg w t =
        pays_more r n 0 8 8 _ _ (omega arith) (h o o' ho (λ q w1 t1. go (not q) w1 t1) (λ q w1 t1. go' (not q) w1 t1) (λ q w1 t1. hg (not q) w1 t1) w t)
    negated_sim c (Open d) h o o' ho go go' hg w t =
        pays r n 0 0 _ _ (omega arith) (h o o' ho (λ q w1 t1. go (not q) w1 t1) (λ q w1 t1. go' (not q) w1 t1) (λ q w1 t1. hg (not q) w1 t1) w t)

    both_sim : (c d : Cond) (u v : Tested) → TestShrinks d v → ValueSim (tests c) (tested_runs u) → ValueSim (tests d) (tested_runs v) →
        ValueSim (tests (Both c d)) (tested_runs (both_of u v))
    both_sim c d (Known true) v k hc hd o o' ho go go' hg w t =
        pays_all r n (joined_units Trees (is_flat_condition d)) 8 _ _
        (hc o o' ho (λ q w1 t1. (if q then tests d else give false) (around a o b) go w1 t1)
        (λ q w1 t1. (if q then tested_runs v else give false) (around a o' b') go' w1 t1)
        (λ q w1 t1. ways_sim r n q (tests d) (give false) (tested_runs v) (give false) (around a o b) (around a o' b') go go' w1 t1
        (hd o o' ho go go' hg w1 t1) (hg false w1 t1)) w t)
    both_sim c d (Known false) v k hc hd o o' ho go go' hg w t =
        pays_more r n (joined_units Trees (is_flat_condition d)) 8 8 _ _ (omega arith)
        (hc o o' ho (λ q w1 t1. (if q then tests d else give false) (around a o b) go w1 t1)
        (λ q w1 t1. (if q then tested_runs v else give false) (around a o' b') go' w1 t1)
        (λ q w1 t1. ways_sim r n q (tests d) (give false) (tested_runs v) (give false) (around a o b) (around a o' b') go go' w1 t1
        (hd o o' ho go go' hg w1 t1) (hg false w1 t1)) w t)
    both_sim c d (Open e) (Known true) k hc hd o o' ho go go' hg w t =
        pays_alone r n (joined_units Trees (is_flat_condition d)) _ _
        (hc o o' ho (λ q w1 t1. (if q then tests d else give false) (around a o b) go w1 t1) go' (λ q w1 t1. by q w1 t1) w t)
      where
        by : (q : Bool) (w1 : World) (t1 : Temps) →
            Sim r n ((if q then tests d else give false) (around a o b) go w1 t1) (go' q w1 t1)
        by true w1 t1 = works_none_more r n 8 _ _ (hd o o' ho go go' hg w1 t1)
        by false w1 t1 = hg false w1 t1
    both_sim c d (Open e) (Known false) k hc hd o o' ho go go' hg w t =
        pays r n (joined_units Trees (is_flat_condition d)) 14 _ _ (least (is_flat_condition d))
        (hc o o' ho (λ q w1 t1. (if q then tests d else give false) (around a o b) go w1 t1)
        (λ q w1 t1. (if q then tests' never else give false) (around a o' b') go' w1 t1)
        (λ q w1 t1. ways_sim r n q (tests d) (give false) (tests' never) (give false) (around a o b) (around a o' b') go go' w1 t1
        (subst (λ x. Sim r n (tests d (around a o b) go w1 t1) x) (sym (zeros_run NotEqual (around a o' b') go' w1 t1)) (hd o o' ho go go' hg w1 t1))
        (hg false w1 t1)) w t)
      where
        least : (f : Bool) → 14 ≤ joined_units Trees f
        least true = omega arith
        least false = omega arith
    both_sim c d (Open e) (Open f) k hc hd o o' ho go go' hg w t =
        pays r n (joined_units Trees (is_flat_condition d)) (joined_units Trees (is_flat_condition f)) _ _
        (joined_less (is_flat_condition d) (is_flat_condition f) k.flat)
        (hc o o' ho (λ q w1 t1. (if q then tests d else give false) (around a o b) go w1 t1)
        (λ q w1 t1. (if q then tests' f else give false) (around a o' b') go' w1 t1)
        (λ q w1 t1. ways_sim r n q (tests d) (give false) (tests' f) (give false) (around a o b) (around a o' b') go go' w1 t1
        (hd o o' ho go go' hg w1 t1) (hg false w1 t1)) w t)

    either_sim : (c d : Cond) (u v : Tested) → TestShrinks d v → ValueSim (tests c) (tested_runs u) → ValueSim (tests d) (tested_runs v) →
        ValueSim (tests (Either c d)) (tested_runs (either_of u v))
    either_sim c d (Known true) v k hc hd o o' ho go go' hg w t =
        pays_more r n (joined_units Trees (is_flat_condition d)) 8 8 _ _ (omega arith)
        (hc o o' ho (λ q w1 t1. (if q then give true else tests d) (around a o b) go w1 t1)
        (λ q w1 t1. (if q then give true else tested_runs v) (around a o' b') go' w1 t1)
        (λ q w1 t1. ways_sim r n q (give true) (tests d) (give true) (tested_runs v) (around a o b) (around a o' b') go go' w1 t1
        (hg true w1 t1) (hd o o' ho go go' hg w1 t1)) w t)
    either_sim c d (Known false) v k hc hd o o' ho go go' hg w t =
        pays_all r n (joined_units Trees (is_flat_condition d)) 8 _ _
        (hc o o' ho (λ q w1 t1. (if q then give true else tests d) (around a o b) go w1 t1)
        (λ q w1 t1. (if q then give true else tested_runs v) (around a o' b') go' w1 t1)
        (λ q w1 t1. ways_sim r n q (give true) (tests d) (give true) (tested_runs v) (around a o b) (around a o' b') go go' w1 t1
        (hg true w1 t1) (hd o o' ho go go' hg w1 t1)) w t)
    either_sim c d (Open e) (Known true) k hc hd o o' ho go go' hg w t =
        pays r n (joined_units Trees (is_flat_condition d)) 14 _ _ (least (is_flat_condition d))
        (hc o o' ho (λ q w1 t1. (if q then give true else tests d) (around a o b) go w1 t1)
        (λ q w1 t1. (if q then give true else tests' always) (around a o' b') go' w1 t1)
        (λ q w1 t1. ways_sim r n q (give true) (tests d) (give true) (tests' always) (around a o b) (around a o' b') go go' w1 t1 (hg true w1 t1)
        (subst (λ x. Sim r n (tests d (around a o b) go w1 t1) x) (sym (zeros_run Equal (around a o' b') go' w1 t1)) (hd o o' ho go go' hg w1 t1))) w t)
      where
        least : (f : Bool) → 14 ≤ joined_units Trees f
        least true = omega arith
        least false = omega arith
    either_sim c d (Open e) (Known false) k hc hd o o' ho go go' hg w t =
        pays_alone r n (joined_units Trees (is_flat_condition d)) _ _
        (hc o o' ho (λ q w1 t1. (if q then give true else tests d) (around a o b) go w1 t1) go' (λ q w1 t1. by q w1 t1) w t)
      where
        by : (q : Bool) (w1 : World) (t1 : Temps) →
            Sim r n ((if q then give true else tests d) (around a o b) go w1 t1) (go' q w1 t1)
        by true w1 t1 = hg true w1 t1
        by false w1 t1 = works_none_more r n 8 _ _ (hd o o' ho go go' hg w1 t1)
    either_sim c d (Open e) (Open f) k hc hd o o' ho go go' hg w t =
        pays r n (joined_units Trees (is_flat_condition d)) (joined_units Trees (is_flat_condition f)) _ _
        (joined_less (is_flat_condition d) (is_flat_condition f) k.flat)
        (hc o o' ho (λ q w1 t1. (if q then give true else tests d) (around a o b) go w1 t1)
        (λ q w1 t1. (if q then give true else tests' f) (around a o' b') go' w1 t1)
        (λ q w1 t1. ways_sim r n q (give true) (tests d) (give true) (tests' f) (around a o b) (around a o' b') go go' w1 t1
        (hg true w1 t1) (hd o o' ho go go' hg w1 t1)) w t)

    chosen_sim : (c : Cond) (u : Tested) (s s' l l' : Ts) → ValueSim (tests c) (tested_runs u) → RunSim (does s) (does' s') → RunSim (does l) (does' l') →
        RunSim (does (If c s l)) (does' (chosen u s' l'))
    chosen_sim c (Known true) s s' l l' hc hs hl o o' ho next next' hn w t =
        pays_all r n 4 8 _ _
        (hc o o' ho (λ q w1 t1. (if q then does s else does l) (around a o b) next w1 t1)
        (λ q w1 t1. (if q then does' s' else does' l') (around a o' b') next' w1 t1)
        (λ q w1 t1. ways_sim r n q (does s) (does l) (does' s') (does' l') (around a o b) (around a o' b') next next' w1 t1
        (hs o o' ho next next' hn w1 t1) (hl o o' ho next next' hn w1 t1)) w t)
    chosen_sim c (Known false) s s' l l' hc hs hl o o' ho next next' hn w t =
        pays_all r n 4 8 _ _
        (hc o o' ho (λ q w1 t1. (if q then does s else does l) (around a o b) next w1 t1)
        (λ q w1 t1. (if q then does' s' else does' l') (around a o' b') next' w1 t1)
        (λ q w1 t1. ways_sim r n q (does s) (does l) (does' s') (does' l') (around a o b) (around a o' b') next next' w1 t1
        (hs o o' ho next next' hn w1 t1) (hl o o' ho next next' hn w1 t1)) w t)
    chosen_sim c (Open d) s s' l l' hc hs hl o o' ho next next' hn w t =
        pays r n 4 4 _ _ (omega arith)
        (hc o o' ho (λ q w1 t1. (if q then does s else does l) (around a o b) next w1 t1)
        (λ q w1 t1. (if q then does' s' else does' l') (around a o' b') next' w1 t1)
        (λ q w1 t1. ways_sim r n q (does s) (does l) (does' s') (does' l') (around a o b) (around a o' b') next next' w1 t1
        (hs o o' ho next next' hn w1 t1) (hl o o' ho next next' hn w1 t1)) w t)

    -- units of a node
    binary_pays : (op : Bin) (y : Tx) →
        operator_units op (folded_tx y) + hoisted_units Trees (is_flat (folded_tx y)) ≤ operator_units op y + hoisted_units Trees (is_flat y)
    binary_pays op y =
        let h = folded_tx_shrinks y in
        let k = operator_less op y (folded_tx y) h.shift in
        let l = hoisted_less (is_flat y) (is_flat (folded_tx y)) h.flat in
        omega arith

    side_pays : (k : ℕ) (y : Tx) → k + hoisted_units Trees (is_flat (folded_tx y)) ≤ k + hoisted_units Trees (is_flat y)
    side_pays k y = let l = hoisted_less (is_flat y) (is_flat (folded_tx y)) (folded_tx_shrinks y).flat in omega arith

    argument_pays : (xs : Txs) → 4 + hoisted_units Trees (are_flat (folded_txs xs)) ≤ 4 + hoisted_units Trees (are_flat xs)
    argument_pays xs = let l = hoisted_less (are_flat xs) (are_flat (folded_txs xs)) (folded_txs_shrink xs).flat in omega arith

    less_credit : (c d : Run Ran) → Sim (r + 0) n c d → Sim r n c d
    less_credit c d h = let e : r + 0 ≡ r = omega arith in subst (λ k. Sim k n c d) e h

    -- two words, one after the other
    sides_sim : (m l m' l' : Acts (Go ℕ)) → ValueSim m m' → ValueSim l l' → (o o' : Out) → GoSim r n o o' → (go go' : ℕ → Go ℕ) →
        ((u : ℕ) → GoSim r n (go u) (go' u)) → (w : World) (t : Temps) →
        Sim r n (m (around a o b) (λ u w1 t1. l (around a o b) (λ v w2 t2. go u v w2 t2) w1 t1) w t)
        (m' (around a o' b') (λ u w1 t1. l' (around a o' b') (λ v w2 t2. go' u v w2 t2) w1 t1) w t)
    sides_sim m l m' l' hm hl o o' ho go go' hg w t =
        hm o o' ho (λ u w1 t1. l (around a o b) (λ v w2 t2. go u v w2 t2) w1 t1) (λ u w1 t1. l' (around a o' b') (λ v w2 t2. go' u v w2 t2) w1 t1)
        (λ u w1 t1. hl o o' ho (go u) (go' u) (hg u) w1 t1) w t

    mutual
      value_sim : (x : Tx) → ValueSim (val x) (val' (folded_tx x))
      value_sim (Const k) o o' ho go go' hg w t = pays r n 2 2 _ _ (omega arith) (hg k w t)
      value_sim (Address label) o o' ho go go' hg w t =
          pays r n 1 1 _ _ (omega arith) (word_sim r n (literal_address z.literals label) w _ _ (λ v. hg v w t))
      value_sim (Temp i) o o' ho go go' hg w t = pays r n 0 0 _ _ (omega arith) (word_sim r n (t i) w _ _ (λ v. hg v w t))
      value_sim FrameAddress o o' ho go go' hg w t = pays r n 1 1 _ _ (omega arith) (hg a.base w t)
      value_sim (Binary op x y) o o' ho go go' hg w t =
          operated_sim r op (folded_tx x) (folded_tx y) (val (Binary op x y) (around a o b) go w t) (around a o' b') go' w t
          (pays r n (operator_units op y + hoisted_units Trees (is_flat y)) (operator_units op (folded_tx y) + hoisted_units Trees (is_flat (folded_tx y)))
          _ _ (binary_pays op y)
          (sides_sim (val x) (val y) (val' (folded_tx x)) (val' (folded_tx y)) (value_sim x) (value_sim y) o o' ho
          (λ u v w1 t1. with_given (operate op u v) w1 (λ q. go q w1 t1)) (λ u v w1 t1. with_given (operate op u v) w1 (λ q. go' q w1 t1))
          (λ u v w1 t1. given_sim r n (operate op u v) w1 _ _ (λ q. hg q w1 t1)) w t))
      value_sim (Load x) o o' ho go go' hg w t =
          pays r n 1 1 _ _ (omega arith)
          (value_sim x o o' ho (λ u w1 t1. with_word (load w1.memory u) w1 (λ v. go v w1 t1)) (λ u w1 t1. with_word (load w1.memory u) w1 (λ v. go' v w1 t1))
          (λ u w1 t1. word_sim r n (load w1.memory u) w1 _ _ (λ v. hg v w1 t1)) w t)
      value_sim (LoadByte x) o o' ho go go' hg w t =
          pays r n 1 1 _ _ (omega arith)
          (value_sim x o o' ho (λ u w1 t1. with_word (load_byte w1.memory u) w1 (λ v. go v w1 t1))
          (λ u w1 t1. with_word (load_byte w1.memory u) w1 (λ v. go' v w1 t1))
          (λ u w1 t1. word_sim r n (load_byte w1.memory u) w1 _ _ (λ v. hg v w1 t1)) w t)
      value_sim (Call label xs) o o' ho go go' hg w t =
          pays r n 4 4 _ _ (omega arith)
          (values_sim xs o o' ho (λ vs w1 t1. z.enter label vs (a.base - a.size) (λ v w2. go v w2 t1) w1)
          (λ vs w1 t1. z.enter' label vs (a.base - a.size) (λ v w2. go' v w2 t1) w1)
          (λ vs w1 t1. less_credit _ _ (z.calls label vs (a.base - a.size) (λ v w2. go v w2 t1) (λ v w2. go' v w2 t1) w1 r (λ v w2. hg v w2 t1))) w t)
      value_sim (Service k x) o o' ho go go' hg w t =
          pays r n 7 7 _ _ (omega arith)
          (value_sim x o o' ho (λ u w1 t1. service z.room k u w1 (λ v w2. go v w2 t1)) (λ u w1 t1. service z.room k u w1 (λ v w2. go' v w2 t1))
          (λ u w1 t1. service_sim r n z.room k u w1 _ _ (λ v w2. hg v w2 t1)) w t)
      value_sim (After s x) o o' ho go go' hg w t =
          pays r n 0 0 _ _ (omega arith)
          (run_sim s o o' ho (λ w1 t1. val x (around a o b) go w1 t1) (λ w1 t1. val' (folded_tx x) (around a o' b') go' w1 t1)
          (λ w1 t1. value_sim x o o' ho go go' hg w1 t1) w t)

      values_sim : (xs : Txs) → ValueSim (vals xs) (vals' (folded_txs xs))
      values_sim no_txs o o' ho go go' hg w t = hg [] w t
      values_sim (tx x xs) o o' ho go go' hg w t =
          pays r n (4 + hoisted_units Trees (are_flat xs)) (4 + hoisted_units Trees (are_flat (folded_txs xs))) _ _ (argument_pays xs)
          (value_sim x o o' ho (λ v w1 t1. vals xs (around a o b) (λ vs w2 t2. go (v ∷ vs) w2 t2) w1 t1)
          (λ v w1 t1. vals' (folded_txs xs) (around a o' b') (λ vs w2 t2. go' (v ∷ vs) w2 t2) w1 t1)
          (λ v w1 t1. values_sim xs o o' ho (λ vs w2 t2. go (v ∷ vs) w2 t2) (λ vs w2 t2. go' (v ∷ vs) w2 t2) (λ vs w2 t2. hg (v ∷ vs) w2 t2) w1 t1) w t)

      test_sim : (c : Cond) → ValueSim (tests c) (tested_runs (tested c))
      test_sim (Compare rel x y) = compared_sim rel (folded_tx x) (folded_tx y) (tests (Compare rel x y)) (λ o o' ho go go' hg w t.
          pays r n (4 + hoisted_units Trees (is_flat y)) (4 + hoisted_units Trees (is_flat (folded_tx y))) _ _ (side_pays 4 y)
          (sides_sim (val x) (val y) (val' (folded_tx x)) (val' (folded_tx y)) (value_sim x) (value_sim y) o o' ho
          (λ u v w1 t1. go (holds rel u v) w1 t1) (λ u v w1 t1. go' (holds rel u v) w1 t1)
          (λ u v w1 t1. hg (holds rel u v) w1 t1) w t))
      test_sim (Not c) = negated_sim c (tested c) (test_sim c)
      test_sim (Both c d) = both_sim c d (tested c) (tested d) (tested_shrinks d) (test_sim c) (test_sim d)
      test_sim (Either c d) = either_sim c d (tested c) (tested d) (tested_shrinks d) (test_sim c) (test_sim d)

      pub run_sim : (s : Ts) → RunSim (does s) (does' (folded s))
      run_sim (Move i x) o o' ho next next' hn w t =
          pays r n 2 2 _ _ (omega arith)
          (value_sim x o o' ho (λ v w1 t1. next w1 (set_temp i v t1)) (λ v w1 t1. next' w1 (set_temp i v t1)) (λ v w1 t1. hn w1 (set_temp i v t1)) w t)
      run_sim (Store x y) o o' ho next next' hn w t =
          pays r n (1 + hoisted_units Trees (is_flat y)) (1 + hoisted_units Trees (is_flat (folded_tx y))) _ _ (side_pays 1 y)
          (sides_sim (val x) (val y) (val' (folded_tx x)) (val' (folded_tx y)) (value_sim x) (value_sim y) o o' ho
          (λ u v w1 t1. with_memory (store w1.memory u v) w1 (λ w2. next w2 t1))
          (λ u v w1 t1. with_memory (store w1.memory u v) w1 (λ w2. next' w2 t1))
          (λ u v w1 t1. memory_sim r n (store w1.memory u v) w1 _ _ (λ w2. hn w2 t1)) w t)
      run_sim (StoreByte x y) o o' ho next next' hn w t =
          pays r n (1 + hoisted_units Trees (is_flat y)) (1 + hoisted_units Trees (is_flat (folded_tx y))) _ _ (side_pays 1 y)
          (sides_sim (val x) (val y) (val' (folded_tx x)) (val' (folded_tx y)) (value_sim x) (value_sim y) o o' ho
          (λ u v w1 t1. with_memory (store_byte w1.memory u v) w1 (λ w2. next w2 t1))
          (λ u v w1 t1. with_memory (store_byte w1.memory u v) w1 (λ w2. next' w2 t1))
          (λ u v w1 t1. memory_sim r n (store_byte w1.memory u v) w1 _ _ (λ w2. hn w2 t1)) w t)
      run_sim (Do x) o o' ho next next' hn w t =
          pays r n 0 0 _ _ (omega arith) (value_sim x o o' ho (λ v w1 t1. next w1 t1) (λ v w1 t1. next' w1 t1) (λ v w1 t1. hn w1 t1) w t)
      run_sim (If c s l) o o' ho next next' hn w t =
          chosen_sim c (tested c) s (folded s) l (folded l) (test_sim c) (run_sim s) (run_sim l) o o' ho next next' hn w t
      run_sim (Loop s) o o' ho next next' hn w t =
          pays r n 4 4 _ _ (omega arith)
          (run_sim s (leaving next o) (leaving next' o') (leaving_sim r n next next' o o' hn ho) (λ w1 t1. z.later (loop_at s a o b next w1 t1))
          (λ w1 t1. z.later' (loop_at (folded s) a o' b' next' w1 t1)) (λ w1 t1. again s o o' next next' ho hn w1 t1) w t)
      run_sim (Break k) o o' ho next next' hn w t = pays r n 3 3 _ _ (omega arith) (ho k w t)
      run_sim (Fault k) o o' ho next next' hn w t = pays r n 3 3 _ _ (omega arith) (simulates_stopping 1 r n w.input (Ended (Broken k)))
      run_sim (Seq ss) o o' ho next next' hn w t =
          pays r n 0 0 _ _ (omega arith)
          (subst (λ d. Sim r n (does_all ss (around a o b) next w t) d) (z.passes (each_folded ss) (around a o' b') next' w t)
          (each_sim ss o o' ho next next' hn w t))
      run_sim (Return x) o o' ho next next' hn w t =
          pays r n 16 16 _ _ (omega arith) (value_sim x o o' ho (λ v w1 t1. b v w1) (λ v w1 t1. b' v w1) (λ v w1 t1. backs v w1) w t)

      each_sim : (ss : Stms) → RunSim (does_all ss) (does_all' (each_folded ss))
      each_sim no_stms o o' ho next next' hn w t = hn w t
      each_sim (stm s ss) o o' ho next next' hn w t =
          run_sim s o o' ho (λ w1 t1. does_all ss (around a o b) next w1 t1) (λ w1 t1. does_all' (each_folded ss) (around a o' b') next' w1 t1)
          (λ w1 t1. each_sim ss o o' ho next next' hn w1 t1) w t
