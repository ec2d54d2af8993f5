-- What calls join, where only what crosses a call for the first time is joined.
use Rattle.std.proofs.Common.{◌≡◌, ◌<◌, ◌==◌, ℕ, zero, suc, Bool, true, false, not, ◌||◌, List, [], ◌∷◌, ◌++◌, None, length, replicate, slice_set}
use Rattle.std.proofs.Common.{refl, sym, ap, ◌∙◌, ⊎_elim}
use Rattle.std.specs.List.{list_all}
use Rattle.std.proofs.lemmas.Bool.{and_parts, and_from, or_cases, or_left, or_right, eq-eqb, ne_eqb, cases_eq, false≢true}
use Rattle.std.proofs.lemmas.List.{get_or-set_same, get_or-set_other}
use Rattle.tg_instr.specs.declared.operands.Opnd.{Opnd}
use Rattle.tg_instr.specs.Operands.{is_same, registers}
use Rattle.tg_instr.specs.declared.instr.Instr.{Instr}
use Rattle.tg_instr.specs.Shapes.{Calls, shape}
use Rattle.tg_instr.specs.Uses.{clobbered, defs, defs_of}
use Rattle.tg_graph.specs.Interference.{Interference, interferes}
use Rattle.tg_interference.specs.Nodes.{operand_at}
use Rattle.tg_interference.specs.Moves.{move_of}
use Rattle.tg_interference.specs.Pairs.{has, joins_both}
use Rattle.tg_interference.specs.glue.Crossing.{is_marked, HaveCrossed}
use Rattle.tg_interference.proofs.Joining.{live_more, none_live}

or_true : (b : Bool) → (b || true) ≡ true
or_true true = refl
or_true false = refl

pub or_false : (b : Bool) → (b || false) ≡ b
or_false true = refl
or_false false = refl

-- Marks.

pub marked_more : (marks : List Bool) (m : ℕ) → m < length marks → (n : ℕ) →
    is_marked (slice_set marks m true) n ≡ (is_marked marks n || (n == m))
marked_more marks m l n =
    ⊎_elim
    (λ e. ap (is_marked (slice_set marks m true)) e
    ∙ (get_or-set_same marks m true false l ∙ sym (ap (λ b. is_marked marks n || b) (eq-eqb n m e) ∙ or_true _)))
    (λ ne. get_or-set_other marks m n true false ne
    ∙ sym (ap (λ b. is_marked marks n || b) (ne_eqb n m ne) ∙ or_false _)) (cases_eq n m)

none_marked : (k n : ℕ) → is_marked (replicate k false) n ≡ false
none_marked zero n = refl
none_marked (suc k) zero = refl
none_marked (suc k) (suc n) = none_marked k n

-- what is marked with one more, and without one that was
pub more_marked : (new k old taken same : Bool) → new ≡ (k || same) → k ≡ (old || taken) →
    new ≡ (old || (taken || same))
more_marked new k old taken same n e = n ∙ (ap (λ b. b || same) e ∙ turn old taken same)
  where
    turn : (a b c : Bool) → ((a || b) || c) ≡ (a || (b || c))
    turn true b c = refl
    turn false b c = refl

pub as_marked : (new k old taken same : Bool) → new ≡ (k || same) → k ≡ (old || taken) →
    (same ≡ true → false ≡ not k) → new ≡ (old || taken)
as_marked new k old taken same n e h = n ∙ (none k same h ∙ e)
  where
    none : (a b : Bool) → (b ≡ true → false ≡ not a) → (a || b) ≡ a
    none true b h = refl
    none false false h = refl
    none false true h = absurd (false≢true (h refl))

pub has_put : (list : List Opnd) (x : Opnd) (n : ℕ) → has (list ++ x ∷ []) n ≡ (has list n || is_same (operand_at n) x)
has_put [] x n = or_false _
has_put (y ∷ list) x n = ap (λ b. is_same (operand_at n) y || b) (has_put list x n) ∙ turn _ (has list n) _
  where
    turn : (a b c : Bool) → (a || (b || c)) ≡ ((a || b) || c)
    turn true b c = refl
    turn false b c = refl

pub all_put : (p : Opnd → Bool) (list : List Opnd) (x : Opnd) → list_all p list ≡ true → p x ≡ true →
    list_all p (list ++ x ∷ []) ≡ true
all_put p [] x h k = and_from _ _ k refl
all_put p (y ∷ list) x h k =
    let parts = and_parts (p y) (list_all p list) h in
    and_from _ _ parts.0 (all_put p list x parts.1 k)

-- Calls.

abbrev pub calls_join : (ℕ → Bool) → ℕ → ℕ → Bool
calls_join lives x y = joins_both None (has (registers clobbered)) lives x y

pub call_joins : (one : Instr) (label : ℕ) → shape one ≡ Calls label → (lives : ℕ → Bool) (x y : ℕ) →
    joins_both (move_of (shape one)) (has (defs_of one)) lives x y ≡ calls_join lives x y
call_joins one label e lives x y = ap (λ s. joins_both (move_of s) (has (defs s)) lives x y) e

pub none_crossed : (k : ℕ) (graph : Interference) → HaveCrossed (replicate k false) graph
none_crossed k graph x y h =
    absurd (false≢true (sym (none_live None (has (registers clobbered)) (is_marked (replicate k false)) (none_marked k)
    x y) ∙ h))

pub still_crossed : (marks : List Bool) (old new : Interference) (joined : ℕ → ℕ → Bool) → HaveCrossed marks old →
    ((x y : ℕ) → interferes new x y ≡ (joined x y || interferes old x y)) → HaveCrossed marks new
still_crossed marks old new joined h p x y j = p x y ∙ or_right (joined x y) (interferes old x y) (h x y j)

absorbed : (m l f i : Bool) → (m || l) ≡ (m || f) → (m ≡ true → i ≡ true) → (f || i) ≡ (l || i)
absorbed true l f i e h = ap (λ b. f || b) (h refl) ∙ (or_true f ∙ sym (ap (λ b. l || b) (h refl) ∙ or_true l))
absorbed false l f i e h = ap (λ b. b || i) (sym e)

module _ (old new : List Bool) (live first : List Opnd) (graph : Interference) (crossed : HaveCrossed old graph) (marked
    : (n : ℕ) → is_marked new n ≡ (is_marked old n || has live n)) where
  lives : (x y : ℕ) → calls_join (is_marked new) x y
      ≡ (calls_join (is_marked old) x y || calls_join (has live) x y)
  lives = live_more None (has (registers clobbered)) (is_marked new) (is_marked old) (has live) marked

  -- the first crossings join all that is live, beside what is joined already
  pub first_joins : ((n : ℕ) → is_marked new n ≡ (is_marked old n || has first n)) → (x y : ℕ) →
      (calls_join (has first) x y || interferes graph x y) ≡ (calls_join (has live) x y || interferes graph x y)
  first_joins f x y =
      absorbed (calls_join (is_marked old) x y) (calls_join (has live) x y) (calls_join (has first) x y)
      (interferes graph x y)
      (sym (lives x y)
      ∙ live_more None (has (registers clobbered)) (is_marked new) (is_marked old) (has first) f x y)
      (crossed x y)

  pub now_crossed : (after : Interference) →
      ((x y : ℕ) → interferes after x y ≡ (calls_join (has live) x y || interferes graph x y)) → HaveCrossed new after
  now_crossed after p x y j =
      p x y
      ∙ ⊎_elim (λ o. or_right (calls_join (has live) x y) (interferes graph x y) (crossed x y o))
      (λ l. or_left (calls_join (has live) x y) (interferes graph x y) l)
      (or_cases (calls_join (is_marked old) x y) (calls_join (has live) x y) (sym (lives x y) ∙ j))
