-- The arguments of a call, one after another: what they are made, and what follows of them. Each leaves 46 units.
use Rattle.std.proofs.Common.{◌≡◌, ℕ, suc, ◌+◌, ◌*◌, ◌≤◌, List, [], ◌∷◌, Bool, true, false, refl, sym, ap, ◌∙◌, arith, subst}
use Rattle.std.specs.Prelude.{if◌then◌else◌}
use Rattle.tg_syntax.specs.Tree.{Exp, Exps, no_exps, exp}
use Rattle.tg_simulation.specs.Runs.{Run}
use Rattle.tg_simulation.specs.Ran.{Ran}
use Rattle.tg_simulation.specs.Agreement.{Source}
use Rattle.tg_simulation.proofs.Following.{follows_working}
use Rattle.tg_semantics.specs.Values.{Value}
use Rattle.tg_semantics.specs.Evaluation.{eval_all}
use Rattle.tg_semantics.specs.Passing.{Rest, Passing, passing}
use Rattle.tg_semantics.specs.MachineRuns.{rest_run}
use Rattle.tg_semantics.specs.laws.Laws.{behind}
use Rattle.tg_typecheck.specs.Types.{Ty}
use Rattle.tg_typecheck.specs.Has.{Fits, HasValues}
use Rattle.tg_tree.specs.Tree.{Tx, Txs, no_txs, tx}
use Rattle.tg_tree.specs.Units.{Trees, argument_units, hoisted_units}
use Rattle.tg_tree.specs.Shapes.{are_flat}
use Rattle.tg_tree.specs.glue.Lists.{join_txs}
use Rattle.tg_tree.specs.Actions.{World, Temps, Go}
use Rattle.tg_tree.proofs.ListLaws.{join_txs-none, join_txs-assoc}
use Rattle.tg_translate.specs.declared.homes.Within.{Within}
use Rattle.tg_translate.specs.declared.wants.Want.TheVariants as want
use Rattle.tg_translate.specs.mirror.Scopes.{Findings}
use Rattle.tg_translate.specs.mirror.States.{TranslationState, drawn, after}
use Rattle.tg_translate.specs.mirror.Translate.{expression, values as made_values}
use Rattle.tg_translate.specs.mirror.Wants.{value_from}
use Rattle.tg_correctness.specs.laws.Laws.{tree_work}
use Rattle.tg_translate_proof.specs.glue.Tables.{Later}
use Rattle.tg_translate_proof.specs.glue.Worlds.{Holdings, Stands}
use Rattle.tg_translate_proof.specs.glue.Situations.{Program, Setting, value_runs, values_run}
use Rattle.tg_translate_proof.specs.glue.Shown.{Situation, FollowsHere}
use Rattle.tg_translate_proof.proofs.state.TranslationStates.{after_inv, made_in, state_in, later_none, later_on, later_value}
use Rattle.tg_translate_proof.proofs.invariant.Parts.{StatesGrow, Piece, Moment, Behind, at_then, sub_value, more, extends_none, extends_on}
use Rattle.tg_translate_proof.proofs.invariant.Cases.{grows_none, grows_on}
use Rattle.tg_translate_proof.proofs.state.ValueWords.{stands_grows, stands_fit, fits_has_values}

-- What arguments are made, each as a value.
pub data AreMade (findings : Findings) (within : Within) : Exps → TranslationState → Txs → TranslationState → Type 0 where
  made_none : (s : TranslationState) → AreMade findings within no_exps s no_txs s
  made_more :
      (e : Exp) (rest : Exps) (s t u : TranslationState) (x : Tx) (xs : Txs) →
      value_from (λ σ. expression findings e want.Value within σ) s ≡ drawn x t →
      AreMade findings within rest t xs u →
      AreMade findings within (exp e rest) s (tx x xs) u

-- they stand after those that were made before them
pub record Joined (findings : Findings) (within : Within) (es : Exps) (before : Txs) (s : TranslationState) (xs : Txs)
    (t : TranslationState) : Type 0 where
  pub own : Txs
  pub is : xs ≡ join_txs before own
  pub made : AreMade findings within es s own t

pub arguments_made : (findings : Findings) (within : Within) (es : Exps) (before : Txs) (s : TranslationState) (xs : Txs)
    (t : TranslationState) → made_values findings es before within s ≡ drawn xs t → Joined findings within es before s xs t
arguments_made findings within no_exps before s xs t e = record {
  own = no_txs;
  is = sym (ap made_in e) ∙ sym (join_txs-none before);
  made = subst (λ o. AreMade findings within no_exps s no_txs o) (ap state_in e) (made_none s);
}
arguments_made findings within (exp e rest) before s xs t made =
    let i = after_inv (value_from (λ σ. expression findings e want.Value within σ) s)
    (λ x. made_values findings rest (join_txs before (tx x no_txs)) within) xs t made in
    let r = arguments_made findings within rest (join_txs before (tx i.0 no_txs)) i.1 xs t i.3 in
    record {
      own = tx i.0 r.own;
      is = r.is ∙ join_txs-assoc before (tx i.0 no_txs) r.own;
      made = made_more e rest s i.1 t i.0 r.own i.2 r.made;
    }

pub arguments_grow : (findings : Findings) (within : Within) →
    ((e : Exp) (s t : TranslationState) (x : Tx) → value_from (λ σ. expression findings e want.Value within σ) s ≡ drawn x t →
    Later s t) →
    (es : Exps) (s t : TranslationState) (xs : Txs) → AreMade findings within es s xs t → Later s t
arguments_grow findings within grow _ _ _ _ (made_none s) = later_none s
arguments_grow findings within grow _ _ _ _ (made_more e rest s t u x xs is made) =
    later_on s t u (grow e s t x is) (arguments_grow findings within grow rest t u xs made)

-- Values and words of these types.
abbrev pub StandAll : Holdings → List Value → List Ty → List ℕ → Type 0
StandAll h [] [] [] = Unit {0}
StandAll h (v ∷ vs) (t ∷ ts) (u ∷ us) = Stands h v t u × StandAll h vs ts us
StandAll h _ _ _ = ⊥

abbrev pub count_of : Exps → ℕ
count_of no_exps = 0
count_of (exp e rest) = suc (count_of rest)

argument_small : (xs : Txs) → argument_units Trees xs ≤ 6
argument_small xs = by (are_flat xs)
  where
    by : (b : Bool) → 4 + hoisted_units Trees b ≤ 6
    by true = omega arith
    by false = omega arith

module _ (P : Program) (set : Setting P) (grow : StatesGrow P) (n : ℕ) (E : Exp) (x : Situation P n E) where
  -- what is known of each argument: its type fits that of its parameter
  pub record Argument (e : Exp) (r : Ty) : Type 0 where
    pub ty : Ty
    pub piece : Piece P set grow n E x e ty
    pub fits : Fits ty r
    pub value : HasValues r

  abbrev pub Arguments : Exps → List Ty → Type 0
  Arguments no_exps [] = Unit {0}
  Arguments (exp e rest) (r ∷ rs) = Argument e r × Arguments rest rs
  Arguments _ _ = ⊥

  abbrev pub evaluates_all : Exps → (List Value → Rest) → Rest
  evaluates_all es go =
      eval_all Passing (passing P.heap P.stack) (behind P.heap P.stack) es x.p.env go x.out

  value_grows : (e : Exp) (s t : TranslationState) (y : Tx) →
      value_from (λ σ. expression P.findings e want.Value x.p.within σ) s ≡ drawn y t → Later s t
  value_grows e s t y made =
      let i = after_inv (expression P.findings e want.Value x.p.within s) _ y t made in
      later_on s i.1 t (grow e want.Value x.p.within i.0 s i.1 i.2) (later_value i.0 i.1 t y i.3)

  pub arguments_later : (es : Exps) (s t : TranslationState) (xs : Txs) → AreMade P.findings x.p.within es s xs t → Later s t
  arguments_later = arguments_grow P.findings x.p.within value_grows

  -- what was so far, and one argument more
  abbrev pub behind_more : (k : Moment P set grow n E x) (b : Behind P set grow n E x k) (τ : TranslationState) (l : Later k.σ τ) (r : ℕ)
      (le : x.r ≤ r) → Behind P set grow n E x (at_then P set grow n E x k b τ l r le) → Behind P set grow n E x k
  behind_more k b τ l r le c = record {
    h = c.h;
    types = c.types;
    s = c.s;
    w = c.w;
    t = c.t;
    grows = grows_on k.h b.h c.h b.grows c.grows;
    extends = extends_on k.types b.types c.types b.extends c.extends;
    holds = c.holds;
  }

  -- From a moment on the arguments are evaluated on both sides, with 10 units in hand.
  pub arguments_follow : (k : Moment P set grow n E x) (es : Exps) (rs : List Ty) → Arguments es rs → (xs : Txs) (τ : TranslationState) →
      AreMade P.findings x.p.within es k.σ xs τ → Later τ x.τ → (go : List Value → Rest) (go' : Go (List ℕ)) →
      ((b : Behind P set grow n E x k) (vs : List Value) (us : List ℕ) → Later k.σ τ → StandAll b.h vs rs us →
      FollowsHere P (k.r + 10 + 46 * count_of es) n (rest_run (go vs) b.s) (go' us b.w b.t)) →
      FollowsHere P (k.r + 10) n (rest_run (evaluates_all es go) k.s) (values_run P x.p xs x.p.around go' k.w k.t)
  arguments_follow k _ [] known _ _ (made_none s) last go go' onward =
      more P (k.r + 10 + 46 * 0) (k.r + 10) n (rest_run (go []) k.s) (go' [] k.w k.t) (omega arith)
      (onward (record {
        h = k.h;
        types = k.types;
        s = k.s;
        w = k.w;
        t = k.t;
        grows = grows_none k.h;
        extends = extends_none k.types;
        holds = k.holds;
      }) [] [] (later_none k.σ) tt)
  arguments_follow k _ (r ∷ rs) known _ _ (made_none s) last go go' onward = absurd known
  arguments_follow k _ [] known _ _ (made_more e rest s t u y ys is made) last go go' onward = absurd known
  arguments_follow k _ (r ∷ rs) known _ _ (made_more e rest s t u y ys is made) last go go' onward =
      let small = argument_small ys in
      let units = argument_units Trees ys in
      let own = k.enough in
      let rest_later : Later t u = arguments_later rest t u ys made in
      let go_e : Value → Rest = λ v. evaluates_all rest (λ vs. go (v ∷ vs)) in
      let go_e' : Go ℕ = λ v w1 t1. values_run P x.p ys x.p.around (λ vs w2 t2. go' (v ∷ vs) w2 t2) w1 t1 in
      more P (k.r + 4 + units) (k.r + 10) n (rest_run (evaluates_all (exp e rest) go) k.s)
      (values_run P x.p (tx y ys) x.p.around go' k.w k.t) (omega (arith, small))
      (follows_working P.stack tree_work (k.r + 4) n units (rest_run (evaluates_all (exp e rest) go) k.s)
      (value_runs P x.p y x.p.around go_e' k.w k.t)
      (sub_value P set grow n E x k e known.0.ty known.0.piece (k.r + 4) (omega arith)
      (fits_has_values known.0.ty r known.0.fits known.0.value) y t is (later_on t u x.τ rest_later last) go_e go_e'
      (λ b v z l st.
      let next : Moment P set grow n E x = at_then P set grow n E x k b t l (k.r + 46) (omega (arith, own)) in
      more P (k.r + 46 + 10) (k.r + 56) n (rest_run (go_e v) b.s) (go_e' z b.w b.t) (omega arith)
      (arguments_follow next rest rs known.1 ys u made last (λ vs. go (v ∷ vs)) (λ vs w2 t2. go' (z ∷ vs) w2 t2)
      (λ c vs us l2 all.
      more P (k.r + 10 + 46 * suc (count_of rest)) (k.r + 46 + 10 + 46 * count_of rest) n (rest_run (go (v ∷ vs)) c.s)
      (go' (z ∷ us) c.w c.t) (omega arith)
      (onward (behind_more k b t l (k.r + 46) (omega (arith, own)) c) (v ∷ vs) (z ∷ us) (later_on s t u l l2)
      (stands_grows b.h c.h v r z c.grows (stands_fit b.h v known.0.ty r z known.0.fits st), all)))))))
