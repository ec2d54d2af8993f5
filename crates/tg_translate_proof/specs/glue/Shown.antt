-- The main lemma of the translation: what is shown of each expression, wherever it stands, by the
-- fuel that is left. Each expression leaves 64 of the units that its cost pays for.
use Rattle.std.specs.Prelude.{ℕ, ◌+◌, ◌==◌, ◌≡◌, ◌≢◌, List, Some, Bool, true, not, slice_get}
use Rattle.tg_syntax.specs.OfWords.{OfWords}
use Rattle.tg_syntax.specs.Tree.{Exp}
use Rattle.tg_simulation.specs.Runs.{Run}
use Rattle.tg_simulation.specs.Ran.{Ran}
use Rattle.tg_simulation.specs.Agreement.{Source, Follows}
use Rattle.tg_semantics.specs.Values.{Value, int, Env, SourceWorld}
use Rattle.tg_semantics.specs.Operators.{truth}
use Rattle.tg_semantics.specs.Evaluation.{eval}
use Rattle.tg_semantics.specs.Passing.{Rest, Passing, passing}
use Rattle.tg_semantics.specs.MachineRuns.{rest_run}
use Rattle.tg_semantics.specs.laws.Laws.{behind}
use Rattle.tg_typecheck.specs.Types.{Ty, none_type, int_type}
use Rattle.tg_typecheck.specs.Has.{Has}
use Rattle.tg_tree.specs.Tree.{Temp}
use Rattle.tg_tree.specs.Actions.{World, Temps, set_temp, Go, Next}
use Rattle.tg_translate.specs.declared.wants.Want.{Want}
use Rattle.tg_translate.specs.declared.wants.Want.TheVariants as want
use Rattle.tg_translate.specs.declared.homes.Within.{Within}
use Rattle.tg_translate.specs.mirror.States.{TranslationState, Translates, drawn}
use Rattle.tg_translate.specs.mirror.Wants.{Made, value, done, test}
use Rattle.tg_translate.specs.mirror.Translate.{expression}
use Rattle.tg_correctness.specs.laws.Laws.{tree_work}
use Rattle.tg_translate_proof.specs.glue.Worlds.{Holdings, Stands, temporary, IsOf, GrowsTo}
use Rattle.tg_translate_proof.specs.glue.Situations.{Program, Part, Holds, IsReady, MayAssign}
use Rattle.tg_translate_proof.specs.glue.Situations.{IsCovered, Extends, Setting, value_runs}
use Rattle.tg_translate_proof.specs.glue.Situations.{test_runs, statement_runs}

-- what an expression leaves of its units
abbrev pub left_over : ℕ
left_over = 64

-- an int is true
abbrev pub is_set : ℕ → Bool
is_set n = not (n == 0)

-- the word that stands for a value where this is wanted of it: under a test, its truth alone
abbrev pub IsWanted : Holdings → Want → Value → Ty → ℕ → Type 0
IsWanted h want.Test (int n) t u = is_set u ≡ is_set n
IsWanted h want.Dropped v t u = Unit {0}
IsWanted h _ v t u = Stands h v t u

-- where a value is wanted there is one, and where a condition is, an int
abbrev pub IsWantable : Want → Ty → Type 0
IsWantable want.Dropped t = Unit {0}
IsWantable want.Test t = t ≡ int_type
IsWantable _ t = t ≢ none_type

-- a statement leaves a value only where it has put it; else it stands for 0
abbrev pub IsLeft : Holdings → Want → Value → Ty → ℕ → Type 0
IsLeft h want.Value v t u = Stands h v t u × (u ≡ 0)
IsLeft h want.Test v t u = IsWanted h want.Test v t u × (u ≡ 0)
IsLeft h wanted v t u = IsWanted h wanted v t u

-- the temporaries, where a statement has put a value
abbrev pub put_where : Want → ℕ → Temps → Temps
put_where (want.Into i) u t = set_temp i.0 u t
put_where _ u t = t

-- What a condition tells of a value: under a test its truth, and else the value is 1 or 0. So a
-- condition may be made a value, and a value that a test wants may be any with its truth.
abbrev pub IsTold : Want → Value → Ty → Bool → Type 0
IsTold want.Test (int n) t b = b ≡ is_set n
IsTold _ v t b = (v ≡ truth b) × (t ≡ int_type)

module _ (P : Program) where
  -- evaluation of an expression, with what comes next
  abbrev pub evaluates : Exp → Env → (Value → Rest) → (out : Rest) → Rest
  evaluates e env go out =
      eval Passing (passing P.heap P.stack) (behind P.heap P.stack) e env go out

  abbrev pub FollowsHere : (r n : ℕ) → Run Source → Run Ran → Type 0
  FollowsHere r n c d = Follows P.stack tree_work r n c d

  -- What comes next on both sides, at every grown heap: after a value and what stands for it, and
  -- after a break.
  abbrev pub Onward : {A : Type 0} → (n r : ℕ) → Part → Holdings → List Ty →
      (Holdings → Value → A → Type 0) → (Value → Rest) → Go A → Type 0
  Onward n r p h types stands go go' =
      (g : Holdings) (more : List Ty) (v : Value) (u : _) (s : SourceWorld) (w : World)
      (t : Temps) →
      GrowsTo h g →
      Extends types more →
      Holds P p g more s w t →
      stands g v u →
      FollowsHere r n (rest_run (go v) s) (go' u w t)

  abbrev pub Outward : (n r : ℕ) → Part → Holdings → List Ty → Rest → Type 0
  Outward n r p h types out =
      (g : Holdings) (more : List Ty) (s : SourceWorld) (w : World) (t : Temps) →
      p.scope.in_loop ≡ true →
      GrowsTo h g →
      Extends types more →
      Holds P p g more s w t →
      FollowsHere r n (rest_run out s) (p.around.out p.within.leave w t)

  -- the three kinds of what an expression is made: a value, a statement that has put it where it is
  -- wanted, a condition
  abbrev pub MadeFollows : (n r : ℕ) → Part → Holdings → List Ty → Want → Ty → (Value → Rest) →
      Run Source → World → Temps → Made → Type 0
  MadeFollows n r p h types wanted ty go source w t (value x) =
      (go' : Go ℕ) →
      Onward n (r + left_over) p h types (λ g v u. IsWanted g wanted v ty u) go go' →
      FollowsHere r n source (value_runs P p x p.around go' w t)
  MadeFollows n r p h types wanted ty go source w t (done x) =
      (next : Next) →
      Onward n (r + left_over) p h types (λ g v u. IsLeft g wanted v ty u) go
      (λ u w1 t1. next w1 (put_where wanted u t1)) →
      FollowsHere r n source (statement_runs P p x p.around next w t)
  MadeFollows n r p h types wanted ty go source w t (test c) =
      (go' : Go Bool) →
      Onward n (r + left_over) p h types (λ g v b. IsTold wanted v ty b) go go' →
      FollowsHere r n source (test_runs P p c p.around go' w t)

  -- an expression where it stands, for so much fuel, and what translates it there
  pub record SituationBy (n : ℕ) (e : Exp) (made_by : Want → Within → Translates Made) :
      Type 0 where
    pub ty : Ty
    pub wanted : Want
    pub p : Part
    pub σ : TranslationState  -- before its translation
    pub τ : TranslationState  -- after it
    pub m : Made  -- what it is made
    pub h : Holdings  -- what the heap has when it begins
    pub types : List Ty  -- the types of the variables then
    pub r : ℕ  -- units that are left from before
    pub go : Value → Rest  -- what comes next in the source
    pub out : Rest  -- what comes after a break
    pub s : SourceWorld
    pub w : World
    pub t : Temps
    pub typed : Has P.shapes P.notes e p.scope ty
    pub words : OfWords e
    pub covers : IsCovered P p e
    pub wantable : IsWantable wanted ty
    pub may_assign : MayAssign P p e
    pub ready : IsReady P p types σ τ
    pub is_made : made_by wanted p.within σ ≡ drawn m τ
    pub outward : Outward n (r + left_over) p h types out
    pub holds : Holds P p h types s w t

  -- translated as it is
  abbrev pub Situation : (n : ℕ) → Exp → Type 0
  Situation n e = SituationBy n e (λ w v. expression P.findings e w v)

  -- A temporary that an expression is made is a variable's of this activation, and evaluation does
  -- nothing but read it. So it may be used later, where it is kept.
  pub record IsVariables (n r : ℕ) (p : Part) (s : SourceWorld) (go : Value → Rest)
      (source : Run Source) (i : ℕ) : Type 0 where
    pub place : ℕ
    pub is_of : IsOf place (p.places (temporary p.scene.depth i))
    pub v : Value
    pub has : slice_get s.variables place ≡ Some v
    pub pays :
        (d : Run Ran) →
        FollowsHere (r + 256) n (rest_run (go v) s) d →
        FollowsHere r n source d

  abbrev pub IsNamed : (n r : ℕ) → Part → SourceWorld → (Value → Rest) → Run Source → Made → Type 0
  IsNamed n r p s go source (value (Temp i)) = IsVariables n r p s go source i
  IsNamed n r p s go source _ = Unit {0}

  -- what is shown of it
  abbrev pub IsShown : {made_by : Want → Within → Translates Made} → (n : ℕ) (e : Exp) →
      SituationBy n e made_by → Type 0
  IsShown n e x =
      IsNamed n x.r x.p x.s x.go (rest_run (evaluates e x.p.env x.go x.out) x.s) x.m ×
      MadeFollows n x.r x.p x.h x.types x.wanted x.ty x.go
      (rest_run (evaluates e x.p.env x.go x.out) x.s) x.w x.t x.m

  abbrev pub Shown : (n : ℕ) → Exp → Type 0
  Shown n e = (x : Situation n e) → IsShown n e x

  abbrev pub ExpressionFollows : (n : ℕ) → Type 0
  ExpressionFollows n = Setting P → (e : Exp) → Shown n e
