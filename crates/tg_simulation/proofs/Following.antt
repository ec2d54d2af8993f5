-- Code that follows a program, step by step.
use Rattle.std.proofs.Common.{◌≡◌, ℕ, zero, suc, ◌+◌, ◌*◌, ◌<◌, ◌≤◌, List, [], ◌++◌, Bool, true, false, max, refl, sym, ap, ◌∙◌, arith, subst, append_assoc}
use Rattle.std.proofs.Math.Nat.{mul-add}
use Rattle.tg_machine_state.specs.declared.ends.RunEnd.TheVariants.{StackFull}
use Rattle.tg_simulation.specs.Runs.{Run, turn}
use Rattle.tg_simulation.specs.Ran.{Ran, Ended, WantsFuel, stops, writes, works}
use Rattle.tg_simulation.specs.Changes as change
use Rattle.tg_simulation.specs.Outcomes.{out_of_fuel, stuck}
use Rattle.tg_simulation.specs.Changes.{first_written, costs, passes_limit, reaches}
use Rattle.tg_simulation.specs.Bytes.{IsPrefix, least_frame}
use Rattle.tg_simulation.specs.Agreement.{Source, Fits, Matches, same, cut, unsaid, Follows}

module _ (stack a : ℕ) where
  longer_front : (bytes xs ys : List ℕ) → IsPrefix xs ys → IsPrefix (bytes ++ xs) (bytes ++ ys)
  longer_front bytes xs ys h = record { more = h.more; whole = ap (λ l. bytes ++ l) h.whole ∙ sym (append_assoc bytes xs h.more) }

  empty_front : (ys : List ℕ) → IsPrefix [] ys
  empty_front ys = record { more = ys; whole = refl }

  match_writes : (r : ℕ) (bytes : List ℕ) (o : Source) (p : Ran) → Matches stack a r o p → Matches stack a r (change.writes_first bytes o) (writes bytes p)
  match_writes r bytes o p (same e i f q w) = same (ap (λ l. bytes ++ l) e) i f q w
  match_writes r bytes o p (cut past e f g h w) =
      cut (bytes ++ past) (ap (first_written bytes) e) (longer_front bytes past p.output f) (longer_front bytes p.output o.output g) h w
  match_writes r bytes o p (unsaid e) = unsaid e

  paid : (k c r w : ℕ) → w ≤ a * c + (r + a * k) → w ≤ a * (k + c) + r
  paid k c r w le = let e = mul-add a k c in omega arith

  match_costs : (r k : ℕ) (o : Source) (p : Ran) → Matches stack a (r + a * k) o p → Matches stack a r (costs k o) p
  match_costs r k o p (same e i f q w) = same e i f q (paid k o.cost r p.work w)
  match_costs r k o p (cut past e f g h w) = cut past e f g h (paid k o.cost r p.work w)
  match_costs r k o p (unsaid e) = unsaid e

  pub match_works : (r k : ℕ) (o : Source) (p : Ran) → Matches stack a r o p → Matches stack a (r + k) o (works k p)
  match_works r k o p (same e i f q w) = same e i f q (omega arith)
  match_works r k o p (cut past e f g h w) = cut past e f g h (omega arith)
  match_works r k o p (unsaid e) = unsaid e

  match_passes : (r : ℕ) (o : Source) (p : Ran) → Matches stack a r o p → Matches stack a r (passes_limit true o) p
  match_passes r o p (same e i f q w) = same e i f q w
  match_passes r o p (cut past e f g h w) = cut [] refl (empty_front p.output) g h w
  match_passes r o p (unsaid e) = unsaid e

  both : (x y : ℕ) → least_frame * x ≤ stack → least_frame * y ≤ stack → least_frame * max x y ≤ stack
  both x y hx hy = omega arith

  match_reaches : (r depth : ℕ) (o : Source) (p : Ran) → least_frame * depth ≤ stack → Matches stack a r o p → Matches stack a r (reaches depth o) p
  match_reaches r depth o p le (same e i f q w) = same e i f (both depth o.deepest le q) w
  match_reaches r depth o p le (cut past e f g h w) = cut past e f g h w
  match_reaches r depth o p le (unsaid e) = unsaid e

  pub match_credit : (r s : ℕ) (o : Source) (p : Ran) → r ≤ s → Matches stack a r o p → Matches stack a s o p
  match_credit r s o p le (same e i f q w) = same e i f q (omega arith)
  match_credit r s o p le (cut past e f g h w) = cut past e f g h (omega arith)
  match_credit r s o p le (unsaid e) = unsaid e

  pub follows_writing : (r n : ℕ) (bytes : List ℕ) (c : Run Source) (d : Run Ran) →
      Follows stack a r n c d → Follows stack a r n (λ i. change.writes_first bytes (c i)) (λ j. writes bytes (d j))
  follows_writing r n bytes c d h i le = let x = h i le in (x.0, x.1, match_writes r bytes (c i) (d x.0) x.2)

  pub follows_paying : (r n k : ℕ) (c : Run Source) (d : Run Ran) → Follows stack a (r + a * k) n c d → Follows stack a r n (λ i. costs k (c i)) d
  follows_paying r n k c d h i le = let x = h i le in (x.0, x.1, match_costs r k (c i) (d x.0) x.2)

  pub follows_working : (r n k : ℕ) (c : Run Source) (d : Run Ran) → Follows stack a r n c d → Follows stack a (r + k) n c (λ j. works k (d j))
  follows_working r n k c d h i le = let x = h i le in (x.0, x.1, match_works r k (c i) (d x.0) x.2)

  pub follows_passing : (r n : ℕ) (above : Bool) (c : Run Source) (d : Run Ran) →
      Follows stack a r n c d → Follows stack a r n (λ i. passes_limit above (c i)) d
  follows_passing r n true c d h i le = let x = h i le in (x.0, x.1, match_passes r (c i) (d x.0) x.2)
  follows_passing r n false c d h i le = h i le

  pub follows_reaching : (r n depth : ℕ) (c : Run Source) (d : Run Ran) → least_frame * depth ≤ stack →
      Follows stack a r n c d → Follows stack a r n (λ i. reaches depth (c i)) d
  follows_reaching r n depth c d deep h i le = let x = h i le in (x.0, x.1, match_reaches r depth (c i) (d x.0) deep x.2)

  pub follows_full : (r n : ℕ) (input : List ℕ) (c : Run Source) → Follows stack a r n (λ i. passes_limit true (c i)) (λ j. stops input (Ended StackFull))
  follows_full r n input c i le = (i, omega arith, cut [] refl (empty_front []) (empty_front (c i).output) refl (omega arith))

  pub follows_turn : (r n : ℕ) (none : Source) (input : List ℕ) (c : Run Source) (d : Run Ran) →
      none.end ≡ out_of_fuel → none.output ≡ [] → none.input ≡ input → none.deepest ≡ 0 →
      ((m : ℕ) → m < n → Follows stack a r m c d) → Follows stack a r n (turn none c) (turn (stops input WantsFuel) d)
  follows_turn r n none input c d out empty left shallow h zero le =
      (zero, omega arith, same (sym empty) (sym left) (subst (λ m. Fits m WantsFuel) (sym out) tt) (omega arith) (omega arith))
  follows_turn r n none input c d out empty left shallow h (suc i) le = let x = h i (omega arith) i (omega arith) in (suc x.0, omega (arith, x.1), x.2)

  pub follows_turn_of_code : (r n : ℕ) (none : Ran) (c : Run Source) (d : Run Ran) → Follows stack a r n c d → Follows stack a r n c (turn none d)
  follows_turn_of_code r n none c d h i le = let x = h i le in (suc x.0, omega (arith, x.1), x.2)

  pub follows_stuck : (r n : ℕ) (c : Run Source) (d : Run Ran) → ((i : ℕ) → (c i).end ≡ stuck) → Follows stack a r n c d
  follows_stuck r n c d h i le = (i, omega arith, unsaid (h i))

  pub follows_less : (r m n : ℕ) (c : Run Source) (d : Run Ran) → m ≤ n → Follows stack a r n c d → Follows stack a r m c d
  follows_less r m n c d le h i li = h i (omega arith)

  pub follows_with_credit : (r s n : ℕ) (c : Run Source) (d : Run Ran) → r ≤ s → Follows stack a r n c d → Follows stack a s n c d
  follows_with_credit r s n c d le h i li = let x = h i li in (x.0, x.1, match_credit r s (c i) (d x.0) le x.2)

  pub follows_along : (r n : ℕ) (c c' : Run Source) (d d' : Run Ran) → ((i : ℕ) → c' i ≡ c i) → ((i : ℕ) → d' i ≡ d i) →
      Follows stack a r n c d → Follows stack a r n c' d'
  follows_along r n c c' d d' e f h i le =
      let x = h i le in
      (x.0, x.1, subst (λ o. Matches stack a r o (d' x.0)) (sym (e i)) (subst (λ p. Matches stack a r (c i) p) (sym (f x.0)) x.2))
