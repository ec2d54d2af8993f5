-- Runs that are their own step: a run that calls itself is one, and one induction on fuel by which two such runs are related as their steps
-- are. A form of code gives its points, its step, and which points are alike: each pass and each law of a form's runs is an instance.
use Rattle.std.proofs.Common.{◌≡◌, ℕ, zero, suc, ◌<◌, ◌≤◌, refl, sym, subst, arith}
use Rattle.tg_simulation.specs.Runs.{Run, turn, nested, again, IsSameTo}

-- what comes from each point on is what the step gives, where a unit of fuel goes on with the same
abbrev pub IsOwnStep : {X O : Type 0} → ((X → Run O) → X → Run O) → (X → Run O) → Type 0
IsOwnStep {X} {O} step runs = (x : X) (n : ℕ) → runs x n ≡ step runs x n

-- Which points are alike as far as so much fuel: each is like itself, and likeness holds for less fuel too.
pub record IsLikeness {X : Type 0} (Like : ℕ → X → X → Type 0) : Type 0 where
  pub alike : (n : ℕ) (x : X) → Like n x x
  pub down : (m n : ℕ) (x y : X) → m ≤ n → Like n x y → Like m x y

-- two steps relate their runs from points that are alike, where what goes on after a unit of fuel is so related
abbrev pub StepsRelate : {X Y O P : Type 0} (Like : ℕ → X → Y → Type 0) (Related : ℕ → X → Y → Run O → Run P → Type 0) →
    ((X → Run O) → X → Run O) → ((Y → Run P) → Y → Run P) → Type 0
StepsRelate {X} {Y} {O} {P} Like Related step step' =
    (n : ℕ) (c : X → Run O) (d : Y → Run P) →
    ((m : ℕ) → m < n → (x : X) (y : Y) → Like m x y → Related m x y (c x) (d y)) →
    (x : X) (y : Y) → Like n x y → Related n x y (step c x) (step' d y)

-- one step uses fuel before each call of itself: with runs that are the same as far as less fuel it is the same
abbrev pub IsGuarded : {X O : Type 0} (Like : ℕ → X → X → Type 0) → ((X → Run O) → X → Run O) → Type 0
IsGuarded Like step = StepsRelate Like (λ n x y c d. IsSameTo n c d) step step

pub turn_same : {O : Type 0} (none : O) (n : ℕ) (c d : Run O) → ((m : ℕ) → m < n → IsSameTo m c d) → IsSameTo n (turn none c) (turn none d)
turn_same none n c d h zero le = refl
turn_same none n c d h (suc i) le = h i (omega arith) i (omega arith)

module _ {X O : Type 0} (none : O) (step : (X → Run O) → X → Run O) (Like : ℕ → X → X → Type 0) (like : IsLikeness Like) (guarded : IsGuarded Like step) where
  -- enough calls are as good as more
  enough : (d e n : ℕ) → n < d → n < e → (x y : X) → Like n x y → IsSameTo n (nested none step d x) (nested none step e y)
  enough zero e n hd he x y r i le = absurd (omega arith)
  enough (suc d) zero n hd he x y r i le = absurd (omega arith)
  enough (suc d) (suc e) n hd he x y r i le =
      guarded n (nested none step d) (nested none step e) (λ m lt v w q. enough d e m (omega arith) (omega arith) v w q) x y r i le

  -- the run that calls itself is its own step
  pub again_is : IsOwnStep step (again none step)
  again_is x n =
      guarded n (nested none step n) (again none step)
      (λ m lt v w r i le. enough n (suc i) i (omega arith) (omega arith) v w (like.down i m v w le r) i (omega arith))
      x x (like.alike n x) n (omega arith)

same_runs : {O : Type 0} (c d : Run O) → ((n : ℕ) → c n ≡ d n) → c ≡ d
same_runs c d h = λ i n. h n i

module _
    {X Y O P : Type 0} (Like : ℕ → X → Y → Type 0) (Related : ℕ → X → Y → Run O → Run P → Type 0)
    (step : (X → Run O) → X → Run O) (step' : (Y → Run P) → Y → Run P) (relate : StepsRelate Like Related step step')
    (c : X → Run O) (d : Y → Run P) (own : IsOwnStep step c) (own' : IsOwnStep step' d) where
  below : (n m : ℕ) → m < n → (x : X) (y : Y) → Like m x y → Related m x y (c x) (d y)
  below zero m lt x y r = absurd (omega arith)
  below (suc n) m lt x y r =
      let h = relate m c d (λ k km. below n k (omega arith)) x y r in
      subst (λ p. Related m x y p (d y)) (sym (same_runs (c x) (step c x) (own x)))
      (subst (λ q. Related m x y (step c x) q) (sym (same_runs (d y) (step' d y) (own' y))) h)

  -- and runs that are their own steps are so related from points that are alike, if their steps relate them
  pub runs_relate : (n : ℕ) (x : X) (y : Y) → Like n x y → Related n x y (c x) (d y)
  runs_relate n x y r = below (suc n) n (omega arith) x y r
