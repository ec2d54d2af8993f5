-- A walk from an address up to an end, whatever a turn does: by what holds after so many turns. All five loops of the
-- runtime are walks.
use Rattle.std.proofs.Common.{◌≡◌, ◌≢◌, ℕ, zero, suc, ◌+◌, ◌*◌, ◌<◌, ◌≤◌, List, [], ◌∷◌, ◌++◌, Some, refl, sym, ap}
use Rattle.std.proofs.Common.{arith, subst, eq-eqb, ne_eqb}
use Rattle.std.specs.Prelude.{not}
use Rattle.tg_simulation.specs.Runs.{Run}
use Rattle.tg_simulation.specs.Ran.{Ran, stops, WantsFuel}
use Rattle.tg_simulation.specs.laws.Simulating.{Comes}
use Rattle.tg_simulation.proofs.Simulations.{comes_working, comes_turn}
use Rattle.tg_tree.specs.declared.operators.Rel.TheVariants.{Equal, NotEqual}
use Rattle.tg_tree.specs.Tree.{Temp, Ts, Break, Compare}
use Rattle.tg_tree.specs.Forms.{stms, sequence, when, repeat_until, nothing}
use Rattle.tg_tree.specs.FlatValue.{or_wrong}
use Rattle.tg_tree.specs.Actions.{World, Temps, Around, Next, leaving}
use Rattle.tg_tree.specs.Running.{with_fuel}
use Rattle.tg_runtime.specs.mirror.Routines.{walk}
use Rattle.tg_runtime_proof.specs.Settings.{Setting, does, Steps}
use Rattle.tg_runtime_proof.proofs.Coming.{turn_comes, comes_along, comes_within}
use Rattle.tg_runtime_proof.proofs.Acting.{after, after_last, sequence_comes, chosen_comes, passed_comes}

-- R holds after so many turns, each of which spends so much, or goes elsewhere for that and what the rest spends.
pub record Walk (setting : Setting) (z : Around) (next : Next) (R : ℕ → World → Temps → Type 0) : Type 0 where
  pub at : ℕ  -- the temporary that has the address
  pub end : ℕ  -- and the one that has its end
  pub turn : List Ts
  pub turns : ℕ  -- so many of them
  pub spent : ℕ  -- units of a turn
  pub left : ℕ  -- units of what comes after the walk
  pub address : ℕ → ℕ  -- after so many turns
  pub gives : ℕ → Run Ran  -- what is still to come, after so many turns
  pub apart : (i : ℕ) → i < turns → address i ≢ address turns
  pub at_is : (i : ℕ) (w : World) (t : Temps) → R i w t → t at ≡ Some (address i)
  pub end_is : (i : ℕ) (w : World) (t : Temps) → R i w t → t end ≡ Some (address turns)
  pub turned :
      (i : ℕ) → i < turns → (w : World) (t : Temps) → R i w t → (go : Next) (k : ℕ) → left ≤ k →
      ((w1 : World) (t1 : Temps) → R (i + 1) w1 t1 → Comes k (go w1 t1) (gives (i + 1))) →
      Comes (spent + k) (after setting (stms turn) (record z { out = leaving next z.out }) go w t) (gives i)
  pub rest : (w : World) (t : Temps) → R turns w t → Comes left (next w t) (gives turns)

module _ (setting : Setting) (steps : Steps setting) (z : Around) (next : Next) (R : ℕ → World → Temps → Type 0)
    (this : Walk setting z next R) where
  abbrev at : ℕ
  at = this.at

  abbrev end : ℕ
  end = this.end

  abbrev n : ℕ
  n = this.turns

  abbrev spent : ℕ
  spent = this.spent

  abbrev l : ℕ
  l = this.left

  abbrev address : ℕ → ℕ
  address = this.address

  abbrev e : ℕ → Run Ran
  e = this.gives

  abbrev inside : Around
  inside = record z { out = leaving next z.out }

  abbrev loop : Ts
  loop = repeat_until (Compare Equal (Temp at) (Temp end)) this.turn

  abbrev again : Next
  again w1 t1 = with_fuel w1 (does setting loop z next w1 t1)

  abbrev last : Ts
  last = when (Compare Equal (Temp at) (Temp end)) (Break 0)

  -- one turn and its test
  turn_and_test : (i k : ℕ) (w : World) (t : Temps) → l ≤ k → i < n → R i w t →
      ((w1 : World) (t1 : Temps) → R (i + 1) w1 t1 → Comes k (does setting last inside again w1 t1) (e (i + 1))) →
      Comes (4 + (spent + k)) (does setting loop z next w t) (e i)
  turn_and_test i k w t le lt h c =
      turn_comes setting steps (spent + k) (sequence (this.turn ++ last ∷ [])) z next w t (e i)
      (sequence_comes setting (spent + k) (stms (this.turn ++ last ∷ [])) inside again w t (e i)
      (comes_along (spent + k) _ (after setting (stms this.turn) inside (does setting last inside again) w t) (e i)
      (λ m. after_last setting this.turn last inside again w t m)
      (this.turned i lt w t h (does setting last inside again) k le c)))

  pub repeat_comes : (k i : ℕ) (w : World) (t : Temps) → i + suc k ≡ n → R i w t →
      Comes ((12 + spent) * suc k + 3 + l) (does setting loop z next w t) (e i)
  repeat_comes zero i w t all h =
      let whole : i + 1 ≡ n = omega (arith, all) in
      comes_within (4 + (spent + (8 + (0 + (0 + (3 + l)))))) ((12 + spent) * 1 + 3 + l) _ (e i) (omega arith)
      (turn_and_test i (8 + (0 + (0 + (3 + l)))) w t (omega arith) (omega (arith, all)) h (λ w1 t1 h1.
      let h2 : R n w1 t1 = subst (λ j. R j w1 t1) whole h1 in
      chosen_comes setting (3 + l) (address n) (address n) Equal (Temp at) (Temp end)
      (Break 0) nothing inside again w1 t1 (e (i + 1)) tt tt
      (ap or_wrong (this.at_is n w1 t1 h2)) (ap or_wrong (this.end_is n w1 t1 h2)) (eq-eqb (address n) (address n) refl)
      (comes_working l 3 (next w1 t1) (e (i + 1))
      (subst (λ j. Comes l (next w1 t1) (e j)) (sym whole) (this.rest w1 t1 h2)))))
  repeat_comes (suc k) i w t all h =
      let r = (12 + spent) * suc k + 3 + l in
      let more : 12 + spent + r ≡ (12 + spent) * suc (suc k) + 3 + l = grind arith in
      comes_within (4 + (spent + (8 + (0 + (0 + r))))) ((12 + spent) * suc (suc k) + 3 + l) _ (e i)
      (omega (arith, more))
      (turn_and_test i (8 + (0 + (0 + r))) w t (omega arith) (omega (arith, all)) h (λ w1 t1 h1.
      passed_comes setting r (address (i + 1)) (address n) Equal (Temp at) (Temp end) (Break 0) inside again w1 t1
      (e (i + 1)) tt tt
      (ap or_wrong (this.at_is (i + 1) w1 t1 h1)) (ap or_wrong (this.end_is (i + 1) w1 t1 h1))
      (ne_eqb (address (i + 1)) (address n) (this.apart (i + 1) (omega (arith, all))))
      (comes_turn r (stops w1.input WantsFuel) _ (e (i + 1)) (repeat_comes k (i + 1) w1 t1 (omega (arith, all)) h1))))

  pub walk_comes : (w : World) (t : Temps) → R 0 w t →
      Comes ((12 + spent) * n + 11 + l) (does setting (walk at end this.turn) z next w t) (e 0)
  walk_comes w t h =
      elim n as (λ m. m ≡ n → Comes ((12 + spent) * m + 11 + l) (does setting (walk at end this.turn) z next w t) (e 0)) [
        | zero ↦ λ is.
            let h2 : R n w t = subst (λ j. R j w t) is h in
            comes_within (8 + (0 + (0 + l))) ((12 + spent) * 0 + 11 + l) _ (e 0) (omega arith)
            (passed_comes setting l (address n) (address n) NotEqual (Temp at) (Temp end) loop z next w t (e 0) tt tt
            (ap or_wrong (this.at_is n w t h2)) (ap or_wrong (this.end_is n w t h2))
            (ap not (eq-eqb (address n) (address n) refl))
            (subst (λ j. Comes l (next w t) (e j)) (sym is) (this.rest w t h2)))
        | suc m ↦ λ is.
            comes_within (8 + (0 + (0 + ((12 + spent) * suc m + 3 + l)))) ((12 + spent) * suc m + 11 + l) _ (e 0)
            (omega arith)
            (chosen_comes setting ((12 + spent) * suc m + 3 + l) (address 0) (address n) NotEqual (Temp at)
            (Temp end) loop nothing z next w t (e 0) tt tt
            (ap or_wrong (this.at_is 0 w t h)) (ap or_wrong (this.end_is 0 w t h))
            (ap not (ne_eqb (address 0) (address n) (this.apart 0 (omega (arith, is)))))
            (repeat_comes m 0 w t (omega (arith, is)) h))
      ] refl
