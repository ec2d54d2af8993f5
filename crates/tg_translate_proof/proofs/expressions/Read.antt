-- What an l-value's storage is read as, and expressions that are reads.
use Rattle.std.proofs.Common.{◌≡◌, ◌≢◌, ℕ, ◌+◌, ◌-◌, ◌*◌, ◌<◌, ◌≤◌, List, Option, Some, None, Bool, true, false, refl, sym, ap, ◌∙◌, arith, subst, inl, inr}
use Rattle.std.specs.Prelude.{slice_get, ◌⊎◌}
use Rattle.tg_base.specs.declared.ids.Span.{Span}
use Rattle.tg_syntax.specs.Tree.{Exp, LValue, Read}
use Rattle.tg_simulation.specs.Runs.{Run}
use Rattle.tg_simulation.specs.Ran.{Ran, works}
use Rattle.tg_simulation.specs.Agreement.{Source}
use Rattle.tg_simulation.proofs.Following.{follows_along}
use Rattle.tg_semantics.specs.Values.{Value, SourceWorld}
use Rattle.tg_semantics.specs.Evaluation.{Location, in_variable}
use Rattle.tg_semantics.specs.Passing.{Rest, with_found}
use Rattle.tg_semantics.specs.MachineRuns.{rest_run}
use Rattle.tg_typecheck.specs.Types.{Ty}
use Rattle.tg_typecheck.specs.Has as has
use Rattle.tg_typecheck.specs.Has.{Has, HasPlace}
use Rattle.tg_tree.specs.Tree.{Tx, Temp, Load, Stms, no_stms, stm}
use Rattle.tg_tree.specs.Memory.{load}
use Rattle.tg_tree.specs.Actions.{World, Temps, Go, charged, with_word}
use Rattle.tg_translate.specs.declared.wants.Want.{Want}
use Rattle.tg_translate.specs.mirror.States.{TranslationState, drawn}
use Rattle.tg_translate.specs.mirror.Wants.{Made, value}
use Rattle.tg_translate.specs.mirror.Constructs.{Storage, in_temp, at_address, read, after_all}
use Rattle.tg_translate.specs.mirror.Purity.{place_assigns_nothing}
use Rattle.tg_translate.specs.mirror.Translate.{locate}
use Rattle.tg_correctness.specs.laws.Laws.{tree_work}
use Rattle.tg_translate_proof.specs.glue.Tables.{Later}
use Rattle.tg_translate_proof.specs.glue.Worlds.{Holdings, Stands, GrowsTo, temporary, IsOf, word_of, HoldsVariable}
use Rattle.tg_translate_proof.specs.glue.Situations.{Program, Part, Setting, Holds, IsReady, MayAssign, Extends, with_temps, value_runs, statements_run}
use Rattle.tg_translate_proof.specs.glue.Shown.{Shown, IsShown, Situation, FollowsHere, Onward, IsWanted, IsVariables, IsNamed, left_over}
use Rattle.tg_translate_proof.proofs.state.TranslationStates.{state_in, after_inv}
use Rattle.tg_translate_proof.proofs.invariant.Cases.{by_made, source_of, wanted_of, worked, grows_none}
use Rattle.tg_translate_proof.proofs.invariant.Parts.{more, paid, extends_none}
use Rattle.tg_translate_proof.proofs.state.Keys.{held_word, own_temps, some_same}
use Rattle.tg_translate_proof.proofs.expressions.LValueAddress.{IsAt, Premises, PlaceSituation, PlaceShown, PlaceMayAssign, PlaceOnward, StorageFollows, IsOwn}
use Rattle.tg_translate_proof.proofs.expressions.LValueAddress.{reads, locates}
use Rattle.tg_translate_proof.proofs.expressions.LValueAccess.{ReadAt, read_at}

module _ (P : Program) (set : Setting P) (premises : Premises P) where
  -- what a variable in a temporary of this activation has
  pub record OwnValue (p : Part) (h : Holdings) (s : SourceWorld) (t : Temps) (ty : Ty) (place i : ℕ) : Type 0 where
    pub v : Value
    pub word : ℕ
    pub there : t i ≡ Some word
    pub has : slice_get s.variables place ≡ Some v
    pub stands : Stands h v ty word

  pub own_value : (p : Part) (h : Holdings) (types : List Ty) (s : SourceWorld) (w : World) (t : Temps) (ty : Ty) (place i : ℕ) → Holds P p h types s w t →
      IsOf place (p.places (temporary p.scene.depth i)) → slice_get types place ≡ Some ty → OwnValue p h s t ty place i
  own_value p h types s w t ty place i hh is_of type_is =
      let ts = with_temps p.scene.depth t p.others in
      let key = temporary p.scene.depth i in
      let y = held_word h types s w.memory ts key place (p.places key) is_of (hh.invariant.holds key) in
      record {
        v = y.2.0;
        word = y.0;
        there = sym (ap (λ (o : Temps). o i) (own_temps p.scene.depth t p.others)) ∙ y.1;
        has = y.2.2;
        stands = subst (λ o. Stands h y.2.0 o y.0) (some_same y.2.1 ty (sym y.2.3 ∙ type_is)) y.2.4;
      }

  -- what comes next after a value, on both sides
  abbrev pub ValueOnward : (n r : ℕ) → Part → Holdings → List Ty → Ty → (Value → Rest) → Go ℕ → Type 0
  ValueOnward n r p h types ty go go' = Onward P {A = ℕ} n r p h types (λ g v u. Stands g v ty u) go go'

  -- A storage is read: in a unit more, a value comes.
  pub read_follows : (n r : ℕ) (p : Part) (h : Holdings) (types : List Ty) (ty : Ty) (go : Value → Rest) (out : Rest) (source : Run Source) (s : SourceWorld) (w : World) (t : Temps)
      (storage : Storage) → Holds P p h types s w t → StorageFollows P n r p h types ty (λ l. reads P l go out) source s w t storage → (go' : Go ℕ) →
      ValueOnward n (r + left_over) p h types ty go go' → FollowsHere P (r + 1) n source (value_runs P p (read storage) p.around go' w t)
  read_follows n r p h types ty go out source s w t (in_temp i) hh own go' onward =
      let y = own_value p h types s w t ty own.place i hh own.is_of own.type_is in
      more P r (r + 1) n source _ (omega arith)
      (own.pays (value_runs P p (Temp i) p.around go' w t)
      (worked P (r + 256) (r + 256) 0 n _ _ (omega arith)
      (subst (λ o. FollowsHere P (r + 256) n (rest_run (reads P (in_variable own.place) go out) s) (with_word o w (λ u. go' u w t))) (sym y.there)
      (follows_along P.stack tree_work (r + 256) n (rest_run (go y.v) s) (rest_run (reads P (in_variable own.place) go out) s) (go' y.word w t) (go' y.word w t)
      (λ k. ap (λ o. rest_run (with_found o go) s k) y.has) (λ k. refl)
      (more P (r + left_over) (r + 256) n (rest_run (go y.v) s) (go' y.word w t) (omega arith)
      (onward h types y.v y.word s w t (grows_none h) (extends_none types) hh y.stands))))))
  read_follows n r p h types ty go out source s w t (at_address before a) hh follows go' onward =
      let go2 : Go ℕ = λ u w1 t1. with_word (load w1.memory u) w1 (λ v. go' v w1 t1) in
      by before
      (follows 1 go2
      (λ g ms l u s1 w1 t1 gg ee hh1 at.
      let x = read_at P set premises p g ms s1 w1 t1 hh1 l ty u at in
      follows_along P.stack tree_work (r + left_over) n (rest_run (go x.v) s1) (rest_run (reads P l go out) s1) (go2 u w1 t1) (go2 u w1 t1) (λ k. x.gives go out k) (λ k. refl)
      (subst (λ o. FollowsHere P (r + left_over) n (rest_run (go x.v) s1) (with_word o w1 (λ v. go' v w1 t1))) (sym x.there)
      (onward g ms x.v x.word s1 w1 t1 gg ee hh1 x.stands))))
    where
      by : (b : Stms) → FollowsHere P (r + 1) n source (statements_run P p b p.around (λ w1 t1. charged 1 (value_runs P p a p.around (λ u w2 t2. with_word (load w2.memory u) w2 (λ v. go' v w2 t2)) w1 t1)) w t) →
          FollowsHere P (r + 1) n source (value_runs P p (after_all b (Load a)) p.around go' w t)
      by no_stms f = f
      by (stm x xs) f = worked P (r + 1) (r + 1) 0 n source _ (omega arith) (worked P (r + 1) (r + 1) 0 n source _ (omega arith) f)

  -- An expression that reads an l-value.
  module _ (n : ℕ) (sp : Span) (v : LValue) (shown : PlaceShown P n v) (x : Situation P n (Read sp v)) where
    abbrev E : Exp
    E = Read sp v

    typed_ : HasPlace P.shapes P.notes v x.p.scope x.ty
    typed_ = by x.typed
      where
        by : {t : Ty} → Has P.shapes P.notes (Read sp v) x.p.scope t → HasPlace P.shapes P.notes v x.p.scope t
        by (has.read h) = h

    may : MayAssign P x.p (Read sp v) → PlaceMayAssign x.p v
    may (inl e) = inl e
    may (inr f) = inr f

    abbrev place_at : (storage : Storage) (s : TranslationState) → locate P.findings v x.p.within x.σ ≡ drawn storage s → s ≡ x.τ → PlaceSituation P n v
    place_at storage s e same = record {
      ty = x.ty;
      p = x.p;
      σ = x.σ;
      τ = x.τ;
      storage = storage;
      h = x.h;
      types = x.types;
      r = x.r + 190;
      go = λ l. reads P l x.go x.out;
      out = x.out;
      s = x.s;
      w = x.w;
      t = x.t;
      typed = typed_;
      words = x.words;
      covers = x.covers;
      may_assign = may x.may_assign;
      ready = x.ready;
      is_made = e ∙ ap (λ o. drawn storage o) same;
      outward = λ g ms s2 w2 t2 l g2 e2 h2.
          more P (x.r + left_over) (x.r + 190 + left_over) n (rest_run x.out s2) (x.p.around.out x.p.within.leave w2 t2) (omega arith) (x.outward g ms s2 w2 t2 l g2 e2 h2);
      holds = x.holds;
    }

    -- it is made the value that is read there
    is_read : (storage : Storage) → drawn (value (read storage)) x.τ ≡ drawn x.m x.τ →
        StorageFollows P n (x.r + 190) x.p x.h x.types x.ty (λ l. reads P l x.go x.out) (rest_run (locates P v x.p.env (λ l. reads P l x.go x.out) x.out) x.s) x.s x.w x.t storage →
        IsShown P n E x
    is_read storage e follows =
        by_made P n E x (value (read storage)) x.τ e (named storage follows)
        (λ go' onward.
        paid P x.r n (rest_run (locates P v x.p.env (λ l. reads P l x.go x.out) x.out) x.s) (value_runs P x.p (read storage) x.p.around go' x.w x.t)
        (more P (x.r + 190 + 1) (x.r + 256) n _ (value_runs P x.p (read storage) x.p.around go' x.w x.t) (omega arith)
        (read_follows n (x.r + 190) x.p x.h x.types x.ty x.go x.out _ x.s x.w x.t storage x.holds follows go'
        (λ g ms val u s1 w1 t1 gg ee hh st.
        more P (x.r + left_over) (x.r + 190 + left_over) n (rest_run (x.go val) s1) (go' u w1 t1) (omega arith)
        (onward g ms val u s1 w1 t1 gg ee hh (wanted_of g x.wanted val x.ty u st))))))
      where
        named : (storage : Storage) →
            StorageFollows P n (x.r + 190) x.p x.h x.types x.ty (λ l. reads P l x.go x.out) (rest_run (locates P v x.p.env (λ l. reads P l x.go x.out) x.out) x.s) x.s x.w x.t storage →
            IsNamed P n x.r x.p x.s x.go (source_of P n E x) (value (read storage))
        named (in_temp i) own =
            let y = own_value x.p x.h x.types x.s x.w x.t x.ty own.place i x.holds own.is_of own.type_is in
            record {
              place = own.place;
              is_of = own.is_of;
              v = y.v;
              has = y.has;
              pays = λ d f.
                  paid P x.r n (rest_run (locates P v x.p.env (λ l. reads P l x.go x.out) x.out) x.s) d
                  (more P (x.r + 190) (x.r + 256) n _ d (omega arith)
                  (own.pays d
                  (follows_along P.stack tree_work (x.r + 190 + 256) n (rest_run (x.go y.v) x.s) (rest_run (reads P (in_variable own.place) x.go x.out) x.s) d d
                  (λ k. ap (λ o. rest_run (with_found o x.go) x.s k) y.has) (λ k. refl)
                  (more P (x.r + 256) (x.r + 190 + 256) n (rest_run (x.go y.v) x.s) d (omega arith) f))));
            }
        named (at_address no_stms a) f = tt
        named (at_address (stm y ys) a) f = tt

    pub read_shown : IsShown P n E x
    read_shown =
        let i = after_inv (locate P.findings v x.p.within x.σ) _ x.m x.τ x.is_made in
        let same : i.1 ≡ x.τ = ap state_in i.3 in
        is_read i.0 (subst (λ o. drawn (value (read i.0)) o ≡ drawn x.m x.τ) same i.3) (shown (place_at i.0 i.1 i.2 same))
