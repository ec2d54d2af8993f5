-- A call of a standard function: its arguments, and then what the function does.
use Rattle.std.proofs.Common.{◌≡◌, ℕ, suc, ◌+◌, ◌*◌, ◌^◌, ◌<◌, ◌≤◌, List, [], ◌∷◌, length, Option, Some, Bool, true, false, refl, sym, ap, ◌∙◌, arith, subst}
use Rattle.std.specs.Prelude.{if◌then◌else◌}
use Rattle.tg_base.specs.declared.ids.Span.{Span}
use Rattle.tg_syntax.specs.declared.tokens.Ident.{Ident}
use Rattle.tg_syntax.specs.Tree.{Exp, Exps, Call}
use Rattle.tg_simulation.specs.Runs.{Run}
use Rattle.tg_simulation.specs.Ran.{Ran}
use Rattle.tg_simulation.specs.Changes.{costs}
use Rattle.tg_simulation.specs.Agreement.{Source}
use Rattle.tg_simulation.proofs.Following.{follows_working, follows_paying, follows_along}
use Rattle.tg_semantics.specs.declared.standards.Standard.{Standard}
use Rattle.tg_semantics.specs.declared.standards.Standard.TheVariants as standard
use Rattle.tg_semantics.specs.Values.{Value, int, string, SourceWorld}
use Rattle.tg_semantics.specs.Environments.{find, name_of, to_standard, levels_out}
use Rattle.tg_semantics.specs.Evaluation as E
use Rattle.tg_semantics.specs.laws.Laws.{behind}
use Rattle.tg_semantics.specs.Operators.{is_below}
use Rattle.tg_semantics.specs.MachineRuns.{rest_run}
use Rattle.tg_semantics.specs.Passing.{Rest, Passing, passing, with_found}
use Rattle.tg_typecheck.specs.declared.notes.Means.TheVariants as means
use Rattle.tg_typecheck.specs.Types.{Ty, int_type, string_type}
use Rattle.tg_typecheck.specs.Scopes.{signature, at_of}
use Rattle.tg_typecheck.specs.Has.{Says}
use Rattle.tg_tree.specs.Tree as tree
use Rattle.tg_tree.specs.Tree.{Tx, Txs, no_txs}
use Rattle.tg_tree.specs.Units.{Trees}
use Rattle.tg_tree.specs.Actions.{World, Temps, Go}
use Rattle.tg_runtime.specs.mirror.Labels.{label_of}
use Rattle.tg_runtime_proof.specs.laws.Serving.{is_outside}
use Rattle.tg_translate.specs.mirror.Constructs.{call_routine}
use Rattle.tg_translate.specs.mirror.Scopes.{call, routine_of}
use Rattle.tg_translate.specs.mirror.States.{TranslationState, drawn, after, give}
use Rattle.tg_translate.specs.mirror.Translate.{values}
use Rattle.tg_translate.specs.mirror.Wants.{value}
use Rattle.tg_correctness.specs.laws.Laws.{tree_work}
use Rattle.tg_translate_proof.specs.glue.Tables.{Later}
use Rattle.tg_translate_proof.specs.glue.Worlds.{Holdings, Stands, IsText, IsScene}
use Rattle.tg_translate_proof.specs.glue.Situations.{Program, Part, Setting, Holds, floor, value_runs, values_run, calling, frames_at}
use Rattle.tg_translate_proof.specs.glue.Shown.{Situation, IsShown, evaluates}
use Rattle.tg_translate_proof.proofs.state.TranslationStates.{after_inv, state_in, later_none}
use Rattle.tg_translate_proof.proofs.invariant.Cases.{by_made, wanted_of, grows_on}
use Rattle.tg_translate_proof.proofs.invariant.Parts.{StatesGrow, Moment, at_begin, more, paid}
use Rattle.tg_translate_proof.proofs.state.ValueWords.{stands_int, stands_string}
use Rattle.tg_translate_proof.proofs.expressions.CallArguments as arguments
use Rattle.tg_translate_proof.proofs.expressions.CallArguments.{AreMade, arguments_made, arguments_follow, StandAll, evaluates_all, count_of}
use Rattle.tg_translate_proof.proofs.state.HeapBlocks.{AreOwned}
use Rattle.tg_translate_proof.proofs.expressions.RuntimeCalls.{top_of}
use Rattle.tg_translate_proof.proofs.expressions.StandardFunctions as standards
use Rattle.tg_translate_proof.proofs.expressions.StandardFunctions.{Owns, Onwards, CallFollows, go_on}

-- As many values and words as there are parameters.

pub none_of : (h : Holdings) (vs : List Value) (us : List ℕ) → StandAll h vs [] us → (vs ≡ []) × (us ≡ [])
none_of h [] [] all = (refl, refl)
none_of h [] (u ∷ us) all = absurd all
none_of h (v ∷ vs) us all = absurd all

pub record First (h : Holdings) (vs : List Value) (t : Ty) (ts : List Ty) (us : List ℕ) : Type 0 where
  pub v : Value
  pub u : ℕ
  pub later_values : List Value
  pub later_words : List ℕ
  pub values_are : vs ≡ v ∷ later_values
  pub words_are : us ≡ u ∷ later_words
  pub stands : Stands h v t u
  pub rest : StandAll h later_values ts later_words

pub first_of : (h : Holdings) (vs : List Value) (t : Ty) (ts : List Ty) (us : List ℕ) → StandAll h vs (t ∷ ts) us → First h vs t ts us
first_of h [] t ts us all = absurd all
first_of h (v ∷ vs) t ts [] all = absurd all
first_of h (v ∷ vs) t ts (u ∷ us) all = record {
  v = v;
  u = u;
  later_values = vs;
  later_words = us;
  values_are = refl;
  words_are = refl;
  stands = all.0;
  rest = all.1;
}

pub by_test : (Q : Type 0) (b : Bool) → (b ≡ true → Q) → (b ≡ false → Q) → Q
by_test Q true h k = h refl
by_test Q false h k = k refl

-- Each standard function, by its parameters.
module _ (P : Program) (set : Setting P) (p : Part) (scene : IsScene (floor P) P.stack p.places p.scene)
    (same : p.around.activation ≡ p.scene.activation) (r n : ℕ) (go : Value → Rest) (out : Rest) (go' : Go ℕ)
    (h : Holdings) (types : List Ty) (s : SourceWorld) (w : World) (t : Temps) (x : Holds P p h types s w t)
    (own : AreOwned h (length w.memory.heap)) where
  abbrev Calls : Standard → List Value → List ℕ → Type 0
  Calls one vs us =
      CallFollows P set p scene same r n go out go' h types s w t x own (routine_of one) us
      (E.call_standard Passing (passing P.heap P.stack) one vs (go_on P set p scene same r n go out go' h types s w t x own) out)

  abbrev Goes : Ty → Type 0
  Goes result = Onwards P set p scene same r n go out go' h types s w t x own result

  -- of a string alone, of an int alone
  of_string : (one : Standard) (vs : List Value) (us : List ℕ) → StandAll h vs (string_type ∷ []) us →
      ((a : ℕ) (bytes : List ℕ) → IsText h a bytes → Calls one (string bytes ∷ []) (a ∷ [])) → Calls one vs us
  of_string one vs us all acts =
      let f = first_of h vs string_type [] us all in
      let none = none_of h f.later_values f.later_words f.rest in
      let st = stands_string h f.v f.u f.stands in
      subst (λ l. Calls one l us) (sym (f.values_are ∙ ap (λ l. f.v ∷ l) none.0 ∙ ap (λ v. v ∷ []) st.1))
      (subst (λ l. Calls one (string st.0 ∷ []) l) (sym (f.words_are ∙ ap (λ l. f.u ∷ l) none.1)) (acts f.u st.0 st.2))

  of_int : (one : Standard) (vs : List Value) (us : List ℕ) → StandAll h vs (int_type ∷ []) us →
      ((u : ℕ) → u < 2 ^ 32 → Calls one (int u ∷ []) (u ∷ [])) → Calls one vs us
  of_int one vs us all acts =
      let f = first_of h vs int_type [] us all in
      let none = none_of h f.later_values f.later_words f.rest in
      let st = stands_int h f.v f.u f.stands in
      subst (λ l. Calls one l us) (sym (f.values_are ∙ ap (λ l. f.v ∷ l) none.0 ∙ ap (λ v. v ∷ []) st.0))
      (subst (λ l. Calls one (int f.u ∷ []) l) (sym (f.words_are ∙ ap (λ l. f.u ∷ l) none.1)) (acts f.u st.1))

  of_none : (one : Standard) (vs : List Value) (us : List ℕ) → StandAll h vs [] us → Calls one [] [] → Calls one vs us
  of_none one vs us all acts =
      let none = none_of h vs us all in
      subst (λ l. Calls one l us) (sym none.0) (subst (λ l. Calls one [] l) (sym none.1) acts)

  -- of two strings
  of_strings : (vs : List Value) (us : List ℕ) → StandAll h vs (string_type ∷ string_type ∷ []) us →
      ((a b : ℕ) (y z : List ℕ) → IsText h a y → IsText h b z → Calls standard.Concat (string y ∷ string z ∷ []) (a ∷ b ∷ [])) →
      Calls standard.Concat vs us
  of_strings vs us all acts =
      let f = first_of h vs string_type (string_type ∷ []) us all in
      let g = first_of h f.later_values string_type [] f.later_words f.rest in
      let none = none_of h g.later_values g.later_words g.rest in
      let st = stands_string h f.v f.u f.stands in
      let st2 = stands_string h g.v g.u g.stands in
      subst (λ l. Calls standard.Concat l us)
      (sym (f.values_are ∙ ap (λ l. f.v ∷ l) (g.values_are ∙ ap (λ l. g.v ∷ l) none.0) ∙
      (ap (λ v. v ∷ g.v ∷ []) st.1 ∙ ap (λ v. string st.0 ∷ v ∷ []) st2.1)))
      (subst (λ l. Calls standard.Concat (string st.0 ∷ string st2.0 ∷ []) l)
      (sym (f.words_are ∙ ap (λ l. f.u ∷ l) (g.words_are ∙ ap (λ l. g.u ∷ l) none.1)))
      (acts f.u g.u st.0 st2.0 st.2 st2.2))

  of_part : (vs : List Value) (us : List ℕ) → StandAll h vs (string_type ∷ int_type ∷ int_type ∷ []) us →
      ((a first k : ℕ) (y : List ℕ) → IsText h a y → first < 2 ^ 32 → k < 2 ^ 32 →
      Calls standard.Substring (string y ∷ int first ∷ int k ∷ []) (a ∷ first ∷ k ∷ [])) → Calls standard.Substring vs us
  of_part vs us all acts =
      let f = first_of h vs string_type (int_type ∷ int_type ∷ []) us all in
      let g = first_of h f.later_values int_type (int_type ∷ []) f.later_words f.rest in
      let k = first_of h g.later_values int_type [] g.later_words g.rest in
      let none = none_of h k.later_values k.later_words k.rest in
      let st = stands_string h f.v f.u f.stands in
      let st2 = stands_int h g.v g.u g.stands in
      let st3 = stands_int h k.v k.u k.stands in
      subst (λ l. Calls standard.Substring l us)
      (sym (f.values_are ∙ ap (λ l. f.v ∷ l) (g.values_are ∙ ap (λ l. g.v ∷ l) (k.values_are ∙ ap (λ l. k.v ∷ l) none.0)) ∙
      (ap (λ v. v ∷ g.v ∷ k.v ∷ []) st.1 ∙ (ap (λ v. string st.0 ∷ v ∷ k.v ∷ []) st2.0 ∙
      ap (λ v. string st.0 ∷ int g.u ∷ v ∷ []) st3.0))))
      (subst (λ l. Calls standard.Substring (string st.0 ∷ int g.u ∷ int k.u ∷ []) l)
      (sym (f.words_are ∙ ap (λ l. f.u ∷ l) (g.words_are ∙ ap (λ l. g.u ∷ l) (k.words_are ∙ ap (λ l. k.u ∷ l) none.1))))
      (acts f.u g.u k.u st.0 st.2 st2.1 st3.1))

  pub standard_follows : (one : Standard) (vs : List Value) (us : List ℕ) → StandAll h vs (signature one).params us →
      Goes (signature one).result → Calls one vs us
  standard_follows standard.Print vs us all goes =
      of_string standard.Print vs us all (λ a bytes text.
      standards.print_acts P set p scene same r n go out go' h types s w t x own a bytes text goes)
  standard_follows standard.Flush vs us all goes =
      of_none standard.Flush vs us all (standards.flush_acts P set p scene same r n go out go' h types s w t x own goes)
  standard_follows standard.Getchar vs us all goes =
      of_none standard.Getchar vs us all (standards.getchar_acts P set p scene same r n go out go' h types s w t x own goes)
  standard_follows standard.Ord vs us all goes =
      of_string standard.Ord vs us all (λ a bytes text.
      standards.ord_acts P set p scene same r n go out go' h types s w t x own a bytes text goes)
  standard_follows standard.Chr vs us all goes =
      of_int standard.Chr vs us all (λ u small.
      by_test (Calls standard.Chr (int u ∷ []) (u ∷ [])) (is_below u 256)
      (λ low. standards.chr_acts P set p scene same r n go out go' h types s w t x own u low goes)
      (λ high. standards.chr_refuses P set p scene same r n go out go' h types s w t x own u high small))
  standard_follows standard.Size vs us all goes =
      of_string standard.Size vs us all (λ a bytes text.
      standards.size_acts P set p scene same r n go out go' h types s w t x own a bytes text goes)
  standard_follows standard.Substring vs us all goes =
      of_part vs us all (λ a first k y text first_small k_small.
      by_test (Calls standard.Substring (string y ∷ int first ∷ int k ∷ []) (a ∷ first ∷ k ∷ [])) (is_outside y first k)
      (λ out_. standards.substring_refuses P set p scene same r n go out go' h types s w t x own a first k y text out_ first_small
      k_small)
      (λ in_. standards.substring_acts P set p scene same r n go out go' h types s w t x own a first k y text in_ goes))
  standard_follows standard.Concat vs us all goes =
      of_strings vs us all (λ a b y z text_y text_z.
      standards.concat_acts P set p scene same r n go out go' h types s w t x own a b y z text_y text_z goes)
  standard_follows standard.Not vs us all goes =
      of_int standard.Not vs us all (λ u small. standards.not_acts P set p scene same r n go out go' h types s w t x own u goes)
  standard_follows standard.Exit vs us all goes =
      of_int standard.Exit vs us all (λ u small. standards.exit_acts P set p scene same r n go out go' h types s w t x own u)

-- The call of one by its name.
module _ (P : Program) (set : Setting P) (grow : StatesGrow P) (owns : Owns P) (n : ℕ) (sp : Span) (f : Ident) (args : Exps)
    (x : Situation P n (Call sp f args)) (one : Standard)
    (found : find (name_of f) x.p.env.entries ≡ Some (to_standard one))
    (says : Says P.notes (at_of f) (means.Standard one))
    (known : arguments.Arguments P set grow n (Call sp f args) x args (signature one).params)
    (result : x.ty ≡ (signature one).result) where
  abbrev E_ : Exp
  E_ = Call sp f args

  -- what the call is made
  record CallMade : Type 0 where
    pub xs : Txs
    pub s : TranslationState
    pub made : AreMade P.findings x.p.within args x.σ xs s
    pub whole : drawn (value (call_routine (routine_of one) xs)) s ≡ drawn x.m x.τ

  call_made : CallMade
  call_made =
      let i = after_inv (values P.findings args no_txs x.p.within x.σ)
      (λ xs s. after (call x.p.within (P.findings.meaning (at_of f)) xs s) (λ y. give (value y))) x.m x.τ x.is_made in
      let j = arguments_made P.findings x.p.within args no_txs x.σ i.0 i.1 i.2 in
      record {
        xs = i.0;
        s = i.1;
        made = subst (λ o. AreMade P.findings x.p.within args x.σ o i.1) (sym j.is) j.made;
        whole =
            sym (ap (λ o. after (call x.p.within o i.0 i.1) (λ y. give (value y))) (set.found (at_of f) (means.Standard one) says)) ∙ i.3;
      }

  -- what the source does after its arguments
  abbrev calls_it : List Value → Rest
  calls_it vs = E.runtime Passing (passing P.heap P.stack) (E.call_standard Passing (passing P.heap P.stack) one vs) x.go x.out

  source_is : (i : ℕ) → rest_run (evaluates P E_ x.p.env x.go x.out) x.s i ≡
      costs 1 (costs 0 (rest_run (evaluates_all P set grow n E_ x args calls_it) x.s i))
  source_is i =
      ap (λ o. costs 1 (rest_run (with_found o
      (λ b s1 k. costs (levels_out x.p.env.level b) (evaluates_all P set grow n E_ x args
      (λ vs. E.call Passing (passing P.heap P.stack) (behind P.heap P.stack) b vs x.go x.out) s1 k))) x.s i)) found

  pub standard_call_shown : IsShown P n E_ x
  standard_call_shown =
      let q = call_made in
      let label = label_of (routine_of one) in
      let last : Later q.s x.τ = subst (λ o. Later q.s o) (ap state_in q.whole) (later_none q.s) in
      by_made P n E_ x (value (call_routine (routine_of one) q.xs)) q.s q.whole tt
      (λ go' onward.
      let k0 : Moment P set grow n E_ x = at_begin P set grow n E_ x (x.r + 242) (omega arith) in
      let enter : Go (List ℕ) = λ us w1 t1. calling P (frames_at P x.p) label us (top_of P set x.p) (λ v w2. go' v w2 t1) w1 in
      let c : Run Source = rest_run (evaluates_all P set grow n E_ x args calls_it) x.s in
      let d : Run Ran = values_run P x.p q.xs x.p.around enter x.w x.t in
      let whole : Run Ran = value_runs P x.p (call_routine (routine_of one) q.xs) x.p.around go' x.w x.t in
      follows_along P.stack tree_work x.r n (λ i. costs 1 (costs 0 (c i))) (rest_run (evaluates P E_ x.p.env x.go x.out) x.s)
      whole whole source_is (λ i. refl)
      (paid P x.r n (λ i. costs 0 (c i)) whole
      (follows_paying P.stack tree_work (x.r + 256) n 0 c whole
      (more P (x.r + 252 + 4) (x.r + 256 + tree_work * 0) n c whole (omega arith)
      (follows_working P.stack tree_work (x.r + 252) n 4 c d
      (more P (x.r + 242 + 10) (x.r + 252) n c d (omega arith)
      (arguments_follow P set grow n E_ x k0 args (signature one).params known q.xs q.s q.made last calls_it enter
      (λ b vs us later all.
      more P (x.r + 252) (x.r + 242 + 10 + 46 * count_of args) n (rest_run (calls_it vs) b.s) (enter us b.w b.t) (omega arith)
      (standard_follows P set x.p x.ready.scene x.ready.activation x.r n x.go x.out go' b.h b.types b.s b.w b.t b.holds
      (owns x.p b.h b.types b.s b.w b.t b.holds) one vs us all
      (λ g s1 w1 grown holds v u st.
      onward g b.types v u s1 w1 b.t (grows_on x.h b.h g b.grows grown) b.extends holds
      (wanted_of g x.wanted v x.ty u (subst (λ o. Stands g v o u) (sym result) st))))))))))))
