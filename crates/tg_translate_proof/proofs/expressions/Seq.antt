-- What is made after statements, as a place wants it; and sequences of expressions.
use Rattle.std.proofs.Common.{◌≡◌, ◌≢◌, ℕ, ◌+◌, ◌<◌, ◌≤◌, List, Option, Some, Bool, true, false, refl, sym, ap, ◌∙◌, arith, subst, inl, inr}
use Rattle.std.specs.Prelude.{◌⊎◌}
use Rattle.tg_base.specs.declared.ids.Span.{Span}
use Rattle.tg_syntax.specs.Tree.{Exp, Seq, Exps, no_exps, exp}
use Rattle.tg_simulation.specs.Runs.{Run}
use Rattle.tg_simulation.specs.Ran.{Ran}
use Rattle.tg_simulation.specs.Changes.{costs}
use Rattle.tg_simulation.specs.Agreement.{Source}
use Rattle.tg_semantics.specs.Values.{Value, nothing, SourceWorld}
use Rattle.tg_semantics.specs.Passing.{Rest}
use Rattle.tg_semantics.specs.MachineRuns.{rest_run}
use Rattle.tg_typecheck.specs.Types.{Ty, none_type}
use Rattle.tg_typecheck.specs.Has as has
use Rattle.tg_typecheck.specs.Has.{Has, HasLast}
use Rattle.tg_tree.specs.Tree as tree
use Rattle.tg_tree.specs.Tree.{Tx, Const, Address, Temp, FrameAddress, Binary, Load, LoadByte, Call, Service, After, Ts, Stms, no_stms, stm}
use Rattle.tg_tree.specs.Actions.{World, Temps, set_temp, Go, Next}
use Rattle.tg_translate.specs.declared.wants.Want.{Want}
use Rattle.tg_translate.specs.declared.wants.Want.TheVariants as want
use Rattle.tg_translate.specs.mirror.States.{TranslationState, drawn}
use Rattle.tg_translate.specs.mirror.Wants.{Made, value, done, test, value_of, put_in, dropped, behind, behind_some}
use Rattle.tg_translate.specs.mirror.Translate.{sequence}
use Rattle.tg_correctness.specs.laws.Laws.{tree_work}
use Rattle.tg_translate_proof.specs.glue.Tables.{Later}
use Rattle.tg_translate_proof.specs.glue.Worlds.{Holdings, Stands}
use Rattle.tg_translate_proof.specs.glue.Situations.{Program, Part, Setting, MayAssign, value_runs, statement_runs, statements_run}
use Rattle.tg_translate_proof.specs.glue.Shown.{IsShown, Situation, IsWantable, IsWanted, IsNamed, FollowsHere, Onward, MadeFollows, left_over, put_where}
use Rattle.tg_translate_proof.proofs.state.TranslationStates.{made_in, state_in, after_inv, later_none, later_value}
use Rattle.tg_translate_proof.proofs.invariant.Cases.{by_made, source_of, worked}
use Rattle.tg_translate_proof.proofs.invariant.Parts.{StatesGrow, more, paid}
use Rattle.tg_translate_proof.proofs.expressions.AssignPlain.{followed_runs}
use Rattle.tg_translate_proof.proofs.invariant.Asked.{Standing}
use Rattle.tg_translate_proof.proofs.expressions.SeqInTurn.{AllShown, AllMayAssign, SequenceFollows, MadeWithin, AskedAll, MadeInTurn, made_in_turn, sequence_follows, onward_here, evaluates_all}

-- states grow where something is put after statements
pub behind_some_later : (w : Want) (ss : Stms) (m : Made) (s t : TranslationState) (o : Made) → behind_some w ss m s ≡ drawn o t → Later s t
behind_some_later (want.Into j) ss m s t o e = subst (λ u. Later s u) (ap state_in e) (later_none s)
behind_some_later want.Dropped ss m s t o e = subst (λ u. Later s u) (ap state_in e) (later_none s)
behind_some_later want.Value ss m s t o e =
    let k = after_inv (value_of m s) _ o t e in subst (λ u. Later s u) (ap state_in k.3) (later_value m s k.1 k.0 k.2)
behind_some_later want.Test ss m s t o e =
    let k = after_inv (value_of m s) _ o t e in subst (λ u. Later s u) (ap state_in k.3) (later_value m s k.1 k.0 k.2)

pub behind_later : (w : Want) (ss : Stms) (m : Made) (s t : TranslationState) (o : Made) → behind w ss m s ≡ drawn o t → Later s t
behind_later w no_stms m s t o e = subst (λ u. Later s u) (ap state_in e) (later_none s)
behind_later w (stm y ys) m s t o e = behind_some_later w (stm y ys) m s t o e

module _ (P : Program) where
  -- a unit of cost that comes first pays
  named_paid : (n r q : ℕ) → r ≤ q → q ≤ r + 256 → (p : Part) (s : SourceWorld) (go : Value → Rest) (source : Run Source) (m : Made) → IsNamed P n q p s go source m →
      IsNamed P n r p s go (λ i. costs 1 (source i)) m
  named_paid n r q up le p s go source (value (Temp i)) x = record {
    place = x.place;
    is_of = x.is_of;
    v = x.v;
    has = x.has;
    pays = λ d f.
        paid P r n source d (more P q (r + 256) n source d le (x.pays d (more P (r + 256) (q + 256) n (rest_run (go x.v) s) d (omega (arith, up)) f)));
  }
  named_paid n r q up le p s go source (value (Const k)) x = tt
  named_paid n r q up le p s go source (value (Address k)) x = tt
  named_paid n r q up le p s go source (value FrameAddress) x = tt
  named_paid n r q up le p s go source (value (Binary o a b)) x = tt
  named_paid n r q up le p s go source (value (Load a)) x = tt
  named_paid n r q up le p s go source (value (LoadByte a)) x = tt
  named_paid n r q up le p s go source (value (Call l a)) x = tt
  named_paid n r q up le p s go source (value (Service k a)) x = tt
  named_paid n r q up le p s go source (value (After k a)) x = tt
  named_paid n r q up le p s go source (done y) x = tt
  named_paid n r q up le p s go source (test c) x = tt

  made_paid : (n r low high : ℕ) → r + left_over ≤ low → high ≤ r + 256 → (p : Part) (h : Holdings) (types : List Ty) (wanted : Want) (ty : Ty) (go : Value → Rest) (source : Run Source) (w : World) (t : Temps) (m : Made) →
      ((A : Type 0) (stands : Holdings → Value → A → Type 0) (go' : Go A) → Onward P n (r + left_over) p h types stands go go' → Onward P n low p h types stands go go') →
      MadeWithin P n low high p h types wanted ty go source w t m → MadeFollows P n r p h types wanted ty go (λ i. costs 1 (source i)) w t m
  made_paid n r low high a b p h types wanted ty go source w t (value x) on f = λ go' onward.
      paid P r n source _ (more P high (r + 256) n source _ b (f go' (on _ _ go' onward)))
  made_paid n r low high a b p h types wanted ty go source w t (done x) on f = λ next onward.
      paid P r n source _ (more P high (r + 256) n source _ b (f next (on _ _ _ onward)))
  made_paid n r low high a b p h types wanted ty go source w t (test c) on f = λ go' onward.
      paid P r n source _ (more P high (r + 256) n source _ b (f go' (on _ _ go' onward)))

module _ (P : Program) (set : Setting P) (grow : StatesGrow P) where
  -- what is delivered, with a unit of cost before it
  pub record Delivered (n r : ℕ) (k : Standing P set grow n) (wanted : Want) (ty : Ty) (go : Value → Rest) (source : Run Source) (m : Made) : Type 0 where
    pub named : IsNamed P n r k.p k.s go (λ i. costs 1 (source i)) m
    pub follows : MadeFollows P n r k.p k.h k.types wanted ty go (λ i. costs 1 (source i)) k.w k.t m

  module _ (n r : ℕ) (k : Standing P set grow n) (low : r + left_over ≤ k.r) (high : k.r + 4 ≤ r + 256) (wanted : Want) (ty : Ty) (go : Value → Rest) (source : Run Source) (m : Made) (τ u : TranslationState) (o : Made)
      (able : IsWantable wanted ty) (last : Later u k.τ) where
    on : (A : Type 0) (stands : Holdings → Value → A → Type 0) (go' : Go A) → Onward P n (r + left_over) k.p k.h k.types stands go go' → Onward P n k.r k.p k.h k.types stands go go'
    on A stands go' onward = onward_here P set grow {A = A} n (r + left_over) k.r k stands go go' low onward

    paid_at : (d : Run Ran) → FollowsHere P (k.r + 4) n source d → FollowsHere P r n (λ i. costs 1 (source i)) d
    paid_at d f = paid P r n source d (more P (k.r + 4) (r + 256) n source d high f)

    bare : SequenceFollows P set grow n k wanted ty go source no_stms m τ → drawn m τ ≡ drawn o u → Delivered n r k wanted ty go source o
    bare x e =
        subst (λ z. Delivered n r k wanted ty go source z) (ap made_in e)
        (record {
          named = named_paid P n r k.r (omega (arith, low)) (omega (arith, high)) k.p k.s go source m (x.named refl able);
          follows = made_paid P n r k.r (k.r + 4) low high k.p k.h k.types wanted ty go source k.w k.t m on (x.by_itself refl able);
        })

    behind_statements : (w : Want) → wanted ≡ w → (ss : Stms) → SequenceFollows P set grow n k wanted ty go source ss m τ → behind_some w ss m τ ≡ drawn o u → Delivered n r k w ty go source o
    behind_statements want.Value is ss x e =
        let i = after_inv (value_of m τ) _ o u e in
        let same : value (After (tree.Seq ss) i.0) ≡ o = ap made_in i.3 in
        let l : Later i.1 k.τ = subst (λ z. Later z k.τ) (sym (ap state_in i.3)) last in
        subst (λ z. Delivered n r k want.Value ty go source z) same
        (record {
          named = tt;
          follows = λ go' onward.
              paid_at _ (worked P (k.r + 4) (k.r + 4) 0 n source _ (omega arith) (worked P (k.r + 4) (k.r + 4) 0 n source _ (omega arith)
              ((subst (λ z. SequenceFollows P set grow n k z ty go source ss m τ) is x).by_value tt (subst (λ z. IsWantable z ty) is able) i.0 i.1 i.2 l go' (on _ _ go' onward))));
        })
    behind_statements want.Test is ss x e =
        let i = after_inv (value_of m τ) _ o u e in
        let same : value (After (tree.Seq ss) i.0) ≡ o = ap made_in i.3 in
        let l : Later i.1 k.τ = subst (λ z. Later z k.τ) (sym (ap state_in i.3)) last in
        subst (λ z. Delivered n r k want.Test ty go source z) same
        (record {
          named = tt;
          follows = λ go' onward.
              paid_at _ (worked P (k.r + 4) (k.r + 4) 0 n source _ (omega arith) (worked P (k.r + 4) (k.r + 4) 0 n source _ (omega arith)
              ((subst (λ z. SequenceFollows P set grow n k z ty go source ss m τ) is x).by_value tt (subst (λ z. IsWantable z ty) is able) i.0 i.1 i.2 l go' (on _ _ go' onward))));
        })
    behind_statements (want.Into j) is ss x e =
        subst (λ z. Delivered n r k (want.Into j) ty go source z) (ap made_in e)
        (record {
          named = tt;
          follows = λ next onward.
              paid_at _ (worked P (k.r + 4) (k.r + 4) 0 n source _ (omega arith)
              (subst (λ z. FollowsHere P (k.r + 4) n source z) (sym (followed_runs P k.p ss (put_in j.0 m) next k.w k.t))
              ((subst (λ z. SequenceFollows P set grow n k z ty go source ss m τ) is x).by_arm j.0 refl (subst (λ z. IsWantable z ty) is able) next (on _ _ _ onward))));
        })
    behind_statements want.Dropped is ss x e =
        subst (λ z. Delivered n r k want.Dropped ty go source z) (ap made_in e)
        (record {
          named = tt;
          follows = λ next onward.
              paid_at _ (worked P (k.r + 4) (k.r + 4) 0 n source _ (omega arith)
              (subst (λ z. FollowsHere P (k.r + 4) n source z) (sym (followed_runs P k.p ss (dropped m) next k.w k.t))
              ((subst (λ z. SequenceFollows P set grow n k z ty go source ss m τ) is x).by_drop refl next (on _ _ _ onward))));
        })

    pub delivered : (ss : Stms) → SequenceFollows P set grow n k wanted ty go source ss m τ → behind wanted ss m τ ≡ drawn o u → Delivered n r k wanted ty go source o
    delivered no_stms x e = bare x e
    delivered (stm y ys) x e = behind_statements wanted refl (stm y ys) x e

  -- Where an expression begins, with so many units.
  abbrev pub begins_at : (n : ℕ) (E : Exp) (x : Situation P n E) (r : ℕ) → x.r ≤ r → Standing P set grow n
  begins_at n E x r le = record {
    p = x.p;
    σ = x.σ;
    τ = x.τ;
    h = x.h;
    types = x.types;
    r = r;
    out = x.out;
    s = x.s;
    w = x.w;
    t = x.t;
    ready = x.ready;
    outward = λ g ms s2 w2 t2 l g2 e2 h2.
        more P (x.r + left_over) (r + left_over) n (rest_run x.out s2) (x.p.around.out x.p.within.leave w2 t2) (omega (arith, le)) (x.outward g ms s2 w2 t2 l g2 e2 h2);
    holds = x.holds;
  }

  -- A sequence.
  module _ (n : ℕ) (sp : Span) (es : Exps) (shown : AllShown P n es) (x : Situation P n (Seq sp es)) where
    abbrev E : Exp
    E = Seq sp es

    seq_typed : HasLast P.shapes P.notes none_type es x.p.scope x.ty
    seq_typed = by x.typed
      where
        by : {t : Ty} → Has P.shapes P.notes (Seq sp es) x.p.scope t → HasLast P.shapes P.notes none_type es x.p.scope t
        by (has.seq h) = h

    may : MayAssign P x.p (Seq sp es) → AllMayAssign x.p es
    may (inl e) = inl e
    may (inr f) = inr f

    pub seq_shown : IsShown P n E x
    seq_shown =
        let k = begins_at n E x (x.r + 190) (omega arith) in
        let i = after_inv (sequence P.findings es x.wanted no_stms x.p.within x.σ) _ x.m x.τ x.is_made in
        let turn = made_in_turn P x.p.within x.wanted es no_stms x.σ i.0 i.1 i.2 in
        let whole : behind x.wanted turn.0 i.0.last i.1 ≡ drawn x.m x.τ = ap (λ o. behind x.wanted o i.0.last i.1) (sym turn.1) ∙ i.3 in
        let last : Later i.1 x.τ = behind_later x.wanted turn.0 i.0.last i.1 x.τ x.m whole in
        let follows = sequence_follows P set grow n x.wanted k es none_type x.ty nothing turn.0 i.0.last i.1 x.go (λ e. (refl, refl))
        (record { shown = shown; typed = seq_typed; words = x.words; covers = x.covers; may_assign = may x.may_assign }) turn.2 last in
        let d = delivered n x.r k (omega arith) (omega arith) x.wanted x.ty x.go (rest_run (evaluates_all P set grow nothing es x.p.env x.go x.out) x.s) i.0.last i.1 x.τ x.m x.wantable (later_none x.τ) turn.0 follows whole in
        by_made P n E x x.m x.τ refl d.named d.follows
