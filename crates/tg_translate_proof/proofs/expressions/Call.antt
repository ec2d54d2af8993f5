-- A call of a declared function, whatever is wanted of it: the levels out to where it is declared, its link, its arguments, and then
-- the function.
use Rattle.std.proofs.Common.{[], ◌≡◌, ◌≢◌, ℕ, suc, ◌+◌, ◌*◌, ◌<◌, ◌≤◌, List, ◌∷◌, Some, Bool, true, false, refl, sym}
use Rattle.std.proofs.Common.{ap, ◌∙◌, arith, subst, inl, inr}
use Rattle.std.specs.Prelude.{◌-◌, ◌⊎◌, ◌&&◌, length}
use Rattle.tg_base.specs.declared.ids.Span.{Span}
use Rattle.tg_syntax.specs.declared.tokens.Ident.{Ident}
use Rattle.tg_syntax.specs.OfWords.{ExpsOfWords}
use Rattle.tg_syntax.specs.Tree.{Exp, Call, Exps, no_exps, exp}
use Rattle.tg_symbols.specs.Tables.{looked_up}
use Rattle.tg_simulation.specs.Runs.{Run}
use Rattle.tg_simulation.specs.Ran.{Ran}
use Rattle.tg_simulation.specs.Changes.{costs}
use Rattle.tg_simulation.specs.Agreement.{Source}
use Rattle.tg_simulation.proofs.Following.{follows_working, follows_paying, follows_along}
use Rattle.tg_semantics.specs.Values.{Value, Entry}
use Rattle.tg_semantics.specs.Environments.{to_function, levels_out}
use Rattle.tg_semantics.specs.Evaluation as evaluation
use Rattle.tg_semantics.specs.Levels.{levels_of}
use Rattle.tg_semantics.specs.Passing.{Rest, Passing, passing, with_found}
use Rattle.tg_semantics.specs.MachineRuns.{rest_run}
use Rattle.tg_semantics.specs.laws.Laws.{behind}
use Rattle.tg_typecheck.specs.declared.notes.Means.TheVariants as means
use Rattle.tg_typecheck.specs.Types.{Ty, int_type, none_type}
use Rattle.tg_semantics.specs.Environments.{name_of}
use Rattle.tg_typecheck.specs.Scopes.{Signature, function_at, at_of, bound, Scope, Binding, standard_one, signature}
use Rattle.tg_semantics.specs.declared.standards.Standard.{Standard}
use Rattle.tg_typecheck.specs.Has as has
use Rattle.tg_typecheck.specs.Has.{Has, HasAll, end_args, an_arg, HaveValues, Says}
use Rattle.tg_tree.specs.Tree as tree
use Rattle.tg_tree.specs.Tree.{Tx, Txs, no_txs, tx}
use Rattle.tg_tree.specs.Units.{Trees, argument_units, hoisted_units}
use Rattle.tg_tree.specs.Shapes.{are_flat}
use Rattle.tg_tree.specs.Sizes.{expression_length}
use Rattle.tg_tree.specs.Operators.{word}
use Rattle.tg_tree.specs.FlatValue.{flat_value}
use Rattle.tg_tree.specs.Actions.{Go}
use Rattle.tg_translate.specs.declared.wants.Want.{Want}
use Rattle.tg_translate.specs.declared.wants.Want.TheVariants as want
use Rattle.tg_translate.specs.declared.homes.Callee.{Callee}
use Rattle.tg_translate.specs.mirror.States.{TranslationState, drawn, after}
use Rattle.tg_translate.specs.mirror.Wants.{value}
use Rattle.tg_translate.specs.mirror.Scopes.{frame_at, call_declared}
use Rattle.tg_translate.specs.mirror.Scopes as scopes
use Rattle.tg_translate.specs.mirror.Constructs.{frame_out}
use Rattle.tg_translate.specs.mirror.Purity.{assigns_nothing, all_assign_nothing}
use Rattle.tg_translate.specs.mirror.Translate.{values as made_values}
use Rattle.tg_correctness.specs.laws.Laws.{tree_work}
use Rattle.tg_translate_proof.specs.glue.Covered.{CoversExps, CoversUse, LinksLead}
use Rattle.tg_translate_proof.specs.glue.Tables.{Later, HasFound}
use Rattle.tg_translate_proof.specs.glue.Worlds.{Holdings, Stands, Places, Scene, temporary, kept}
use Rattle.tg_translate_proof.specs.glue.Situations.{Program, Setting, Extends, MayAssign, frames_at, calling}
use Rattle.tg_translate_proof.specs.glue.Situations.{value_runs, values_run}
use Rattle.tg_translate_proof.specs.glue.Shown.{FollowsHere, Shown, Situation, IsShown, IsWanted, IsWantable, Onward, evaluates}
use Rattle.tg_translate_proof.specs.glue.Shown.{left_over}
use Rattle.tg_translate_proof.proofs.state.TranslationStates.{after_inv, state_in, later_none, found_later}
use Rattle.tg_translate_proof.proofs.invariant.Cases.{grows_on, wanted_of, by_made}
use Rattle.tg_translate_proof.proofs.invariant.Parts.{StatesGrow, Moment, Behind, at_begin, more, along_on, extends_on}
use Rattle.tg_translate_proof.proofs.state.StaticLinks.{flat_follows, links_are, frame_is, frame_is_flat, frame_length}
use Rattle.tg_translate_proof.proofs.expressions.CallArguments.{AreMade, arguments_made, StandAll, count_of, Arguments, arguments_follow, arguments_later}
use Rattle.tg_translate_proof.proofs.state.NamesInSight.{IsSeenFunction, is_seen, is_found}
use Rattle.tg_translate_proof.specs.glue.Situations.{GroupsFit}
use Rattle.tg_translate_proof.proofs.expressions.CallFunction.{call_follows}

-- what is known of a function in sight stays where there are more variables
abbrev seen_on : (P : Program) (places : Places) (types more_types : List Ty) (c : Scene) (level : ℕ) (es : List Entry) (name at : ℕ)
    (sig : Signature) →
    Extends types more_types → IsSeenFunction P places types c level es name at sig → IsSeenFunction P places more_types c level es name at sig
seen_on P places types ms c level es name at sig ext K = record {
  l = K.l;
  keeps = K.keeps;
  f = K.f;
  ps = K.ps;
  has_result = K.has_result;
  e = K.e;
  seen = K.seen;
  scope = K.scope;
  found = K.found;
  within = K.within;
  agree = K.agree;
  at_is = K.at_is;
  done = K.done;
  weighs = K.weighs;
  along = along_on P places places types ms c (λ k l e. e) ext K.l K.seen K.scope.bindings K.along;
  fit = K.fit;
}

-- a value that stands, if there is one, is what is wanted
pub returned_wanted : (g : Holdings) (wanted : Want) (v : Value) (ty : Ty) (u : ℕ) → IsWantable wanted ty → (ty ≢ none_type → Stands g v ty u) →
    IsWanted g wanted v ty u
returned_wanted g want.Value v ty u able st = st able
returned_wanted g (want.Into i) v ty u able st = st able
returned_wanted g want.Dropped v ty u able st = tt
returned_wanted g want.Test v ty u able st = wanted_of g want.Test v ty u (st (λ e. int_is_one (sym able ∙ e)))
  where
    int_is_one : int_type ≡ none_type → ⊥
    int_is_one e = cc

words_many : (h : Holdings) (vs : List Value) (ts : List Ty) (us : List ℕ) → StandAll h vs ts us → length us ≡ length ts
words_many h [] [] [] st = refl
words_many h [] [] (u ∷ us) st = absurd st
words_many h [] (t ∷ ts) us st = absurd st
words_many h (v ∷ vs) [] us st = absurd st
words_many h (v ∷ vs) (t ∷ ts) [] st = absurd st
words_many h (v ∷ vs) (t ∷ ts) (u ∷ us) st = ap suc (words_many h vs ts us st.1)

module _ (P : Program) (set : Setting P) (grow : StatesGrow P) (n : ℕ) where
  -- what is shown of each argument
  abbrev pub AllShown : Exps → Type 0
  AllShown no_exps = Unit {0}
  AllShown (exp e rest) = Shown P n e × AllShown rest

  both_hold : (a b : Bool) → (a && b) ≡ true → (a ≡ true) × (b ≡ true)
  both_hold true true e = (refl, refl)
  both_hold true false e = cc
  both_hold false b e = cc

  module _ (sp : Span) (f : Ident) (args : Exps) (x : Situation P n (Call sp f args)) where
    abbrev Keeping_ : Exps → Type 0
    Keeping_ es = (all_assign_nothing es ≡ true) ⊎ ((i place u : ℕ) → x.p.places (temporary x.p.scene.depth i) ≢ kept place u)

    first_assigns : (e : Exp) (rest : Exps) → Keeping_ (exp e rest) → MayAssign P x.p e
    first_assigns e rest (inl is) = inl (both_hold (assigns_nothing e) (all_assign_nothing rest) is).0
    first_assigns e rest (inr ne) = inr ne

    rest_assigns : (e : Exp) (rest : Exps) → Keeping_ (exp e rest) → Keeping_ rest
    rest_assigns e rest (inl is) = inl (both_hold (assigns_nothing e) (all_assign_nothing rest) is).1
    rest_assigns e rest (inr ne) = inr ne

    pub arguments_known : (es : Exps) (rs : List Ty) → AllShown es → HasAll P.shapes P.notes es rs x.p.scope → HaveValues rs → ExpsOfWords es →
        CoversExps P.findings P.table P.weight x.p.scene.level x.p.scene.keeps (levels_of x.p.env.entries) es → Keeping_ es →
        Arguments P set grow n (Call sp f args) x es rs
    arguments_known _ _ shown end_args values_ words covers may = tt
    arguments_known (exp e rest) (r ∷ rs) shown (an_arg u has fits more_) values_ words covers may = (
      record {
        ty = u;
        piece = record { shown = shown.0; typed = has; words = words.0; covers = covers.0; may_assign = first_assigns e rest may };
        fits = fits;
        value = values_.0;
      },
      arguments_known rest rs shown.1 more_ values_.1 words.1 covers.1 (rest_assigns e rest may),
    )

    arguments_many : (es : Exps) (rs : List Ty) → Arguments P set grow n (Call sp f args) x es rs → count_of es ≡ length rs
    arguments_many no_exps [] a = refl
    arguments_many no_exps (r ∷ rs) a = absurd a
    arguments_many (exp e rest) [] a = absurd a
    arguments_many (exp e rest) (r ∷ rs) a = ap suc (arguments_many rest rs a.1)

    module _ (at : ℕ) (sig : Signature) (is_bound : bound f x.p.scope ≡ Some (function_at at sig))
        (says : Says P.notes (at_of f) (means.Function at))
        (has_all : HasAll P.shapes P.notes args sig.params x.p.scope) (result_is : sig.result ≡ x.ty) (fits : GroupsFit P x.p.env.entries)
        (shown : AllShown args)
        (inner : (m : ℕ) → m < n → (e : Exp) → Shown P m e) where
      pub K : IsSeenFunction P x.p.places x.types x.p.scene x.p.scene.level x.p.env.entries (name_of f) at sig
      K = is_seen P x.p.places x.types x.p.scene (name_of f) (function_at at sig) x.p.scene.level x.p.env.entries x.p.scope.bindings x.ready.along
          fits is_bound

      abbrev callee : Callee
      callee = K.done.callee

      tabled : looked_up at P.table.callees ≡ Some callee
      tabled = ap (λ o. looked_up o P.table.callees) (sym K.at_is) ∙ K.done.tabled

      -- how it is translated
      pub record CallMade : Type 0 where
        pub xs : Txs
        pub arguments : AreMade P.findings x.p.within args x.σ xs x.τ
        pub is : drawn (value (tree.Call callee.label.0 (tx (frame_at x.p.within callee.level) xs))) x.τ ≡ drawn x.m x.τ

      call_made : CallMade
      call_made =
          let i = after_inv (made_values P.findings args no_txs x.p.within x.σ)
          (λ xs s. after (scopes.call x.p.within (P.findings.meaning (at_of f)) xs s) (λ y s1. drawn (value y) s1)) x.m x.τ x.is_made in
          let xs : Txs = i.0 in
          let s1 : TranslationState = i.1 in
          let j = arguments_made P.findings x.p.within args no_txs x.σ xs s1 i.2 in
          let l : Later x.σ s1 = arguments_later P set grow n (Call sp f args) x args x.σ s1 j.own j.made in
          let noted : P.findings.meaning (at_of f) ≡ Some (means.Function at) = set.found (at_of f) (means.Function at) says in
          let step : drawn (value (call_declared x.p.within xs (looked_up at s1.callees))) s1 ≡ drawn x.m x.τ =
          sym (ap (λ o. after (scopes.call x.p.within o xs s1) (λ y s2. drawn (value y) s2)) noted) ∙ i.3 in
          let same_state : s1 ≡ x.τ = ap state_in step in
          let found_here : HasFound P.table x.τ x.p.scope.bindings =
          found_later P set x.σ x.τ x.p.scope.bindings (subst (λ o. Later x.σ o) same_state l) x.ready.moment x.ready.found in
          let callee_is : looked_up at s1.callees ≡ Some callee =
          ap (λ o. looked_up at o.callees) same_state ∙
          (is_found P x.τ (name_of f) (function_at at sig) x.p.scope.bindings found_here is_bound ∙ tabled) in
          let own_is : xs ≡ j.own = j.is in
          record {
            xs = j.own;
            arguments = subst (λ o. AreMade P.findings x.p.within args x.σ j.own o) same_state j.made;
            is = sym (ap (λ o. drawn (value (call_declared x.p.within j.own o)) x.τ) callee_is) ∙
                (ap (λ o. drawn (value (call_declared x.p.within o (looked_up at s1.callees))) x.τ) (sym own_is) ∙
                (ap (λ o. drawn (value (call_declared x.p.within xs (looked_up at s1.callees))) o) (sym same_state) ∙ step));
          }

      abbrev hops : ℕ
      hops = x.p.scene.level - K.l

      -- what the source does after the levels
      abbrev calls : List Value → Rest
      calls vs = evaluation.call Passing (passing P.heap P.stack) (behind P.heap P.stack)
          (to_function K.l (record { params = K.ps; body = K.e }) K.seen) vs x.go x.out

      abbrev evaluates_arguments : Rest
      evaluates_arguments = evaluation.eval_all Passing (passing P.heap P.stack) (behind P.heap P.stack) args x.p.env calls x.out

      source_is : (i : ℕ) → rest_run (evaluates P (Call sp f args) x.p.env x.go x.out) x.s i ≡ costs 1
          (costs hops (rest_run evaluates_arguments x.s i))
      source_is i =
          ap (λ o. costs 1 (rest_run (with_found o
          (λ b w2 k. costs (levels_out x.p.env.level b) (evaluation.eval_all Passing (passing P.heap P.stack) (behind P.heap P.stack) args x.p.env
          (λ vs. evaluation.call Passing (passing P.heap P.stack) (behind P.heap P.stack) b vs x.go x.out) x.out w2 k))) x.s i)) K.found ∙
          ap (λ o. costs 1 (costs (o - K.l) (rest_run evaluates_arguments x.s i))) x.ready.same_level

      link_small : argument_units Trees call_made.xs ≤ 6
      link_small = by (are_flat call_made.xs)
        where
          by : (b : Bool) → 4 + hoisted_units Trees b ≤ 6
          by true = omega arith
          by false = omega arith

      level_same : callee.level ≡ K.l
      level_same = K.done.level_is

      leads : LinksLead x.p.scene.keeps x.p.scene.level callee.level
      leads =
          let noted : P.findings.meaning (at_of f) ≡ Some (means.Function at) = set.found (at_of f) (means.Function at) says in
          subst (λ o. CoversUse P.findings P.table P.weight x.p.scene.level x.p.scene.keeps o) noted x.covers.0 callee tabled

      -- the static link
      abbrev link : Tx
      link = frame_at x.p.within callee.level

      abbrev link_hops : ℕ
      link_hops = x.p.within.level - callee.level

      hops_are : link_hops ≡ hops
      hops_are = let a = x.ready.level in let b = level_same in omega (arith, a, b)

      link_word : flat_value P.code.literals x.p.around.activation.base x.w.memory x.t link ≡ word (x.p.scene.chain K.l)
      link_word =
          let inside = K.within in
          let a = x.ready.level in
          let b = level_same in
          let far : x.p.scene.level - link_hops ≡ K.l = omega (arith, a, b, inside) in
          ap (λ o. flat_value P.code.literals x.p.around.activation.base x.w.memory x.t (frame_out o link_hops)) x.ready.links ∙
          (frame_is P.code.literals x.w.memory x.t x.p.around.activation.base x.p.scene.level callee.level x.p.scene.chain
          (x.p.scene.keeps x.p.scene.level)
          (links_are P x.p x.h x.types x.s x.w x.t callee.level x.ready.scene x.ready.activation x.holds leads) link_hops (omega (arith, a))
          (omega (arith, far, b)) ∙
          ap (λ o. word (x.p.scene.chain o)) far)

      abbrev known : Arguments P set grow n (Call sp f args) x args sig.params
      known = arguments_known args sig.params shown has_all K.done.params_have_values x.words x.covers.1 x.may_assign

      -- what comes after the arguments
      abbrev enters_with : Go ℕ → Go (List ℕ)
      enters_with go' us w2 t2 =
          calling P (frames_at P x.p) callee.label.0 (x.p.scene.chain K.l ∷ us) (x.p.around.activation.base - x.p.around.activation.size)
          (λ v w3. go' v w3 t2) w2

      abbrev start : Moment P set grow n (Call sp f args) x
      start = at_begin P set grow n (Call sp f args) x (x.r + 70) (omega arith)

      called : (go' : Go ℕ) → Onward P n (x.r + left_over) x.p x.h x.types (λ g v u. IsWanted g x.wanted v x.ty u) x.go go' →
          (b : Behind P set grow n (Call sp f args) x start) (vs : List Value) (us : List ℕ) → StandAll b.h vs sig.params us →
          FollowsHere P (x.r + 70 + 10 + 46 * count_of args) n (rest_run (calls vs) b.s) (enters_with go' us b.w b.t)
      called go' onward b vs us st =
          let many : length us ≡ count_of args = words_many b.h vs sig.params us st ∙ sym (arguments_many args sig.params known) in
          subst (λ o. FollowsHere P (x.r + 70 + 10 + 46 * count_of args) n (rest_run (calls vs) b.s)
          (calling P (frames_at P x.p) callee.label.0 (x.p.scene.chain K.l ∷ us) (o.base - o.size) (λ v w3. go' v w3 b.t) b.w))
          (sym x.ready.activation)
          (call_follows P set grow (record {
            p = x.p;
            name = name_of f;
            at = at;
            sig = sig;
            types = b.types;
            h = b.h;
            s = b.s;
            w = b.w;
            t = b.t;
            scene = x.ready.scene;
            holds = b.holds;
            function = seen_on P x.p.places x.types b.types x.p.scene x.p.scene.level x.p.env.entries (name_of f) at sig b.extends K;
          }) us vs
          (λ v w3. go' v w3 b.t) n (x.r + 26) (x.r + 70 + 10 + 46 * count_of args) x.go x.out (λ m lt. inner m lt K.e) K.done.params_have_values
          st (omega (arith, many))
          (λ g types1 v u s2 w2 gg ee hh back. more P (x.r + left_over) (x.r + 26 + 38) n (rest_run (x.go v) s2) (go' u w2 b.t) (omega arith)
          (onward g types1 v u s2 w2 b.t (grows_on x.h b.h g b.grows gg) (extends_on x.types b.types types1 b.extends ee) hh
          (returned_wanted g x.wanted v x.ty u x.wantable (λ ne. subst (λ o. Stands g v o u) result_is (back (λ e. ne (sym result_is ∙ e))))))))

      pub declared_call_shown : IsShown P n (Call sp f args) x
      declared_call_shown =
          by_made P n (Call sp f args) x (value (tree.Call callee.label.0 (tx link call_made.xs))) x.τ call_made.is tt
          (λ go' onward.
          let len : ℕ = expression_length Trees link in
          let small : len ≤ 4 * link_hops + 1 = frame_length x.p.within.link_in_slot link_hops in
          let few = link_small in
          let hops_ = hops_are in
          let units : ℕ = argument_units Trees call_made.xs in
          let evaluated : Run Source = rest_run evaluates_arguments x.s in
          let all : Go (List ℕ) = λ vs w1 t1. calling P (frames_at P x.p) callee.label.0 vs
          (x.p.around.activation.base - x.p.around.activation.size) (λ v w3. go' v w3 t1) w1 in
          let rest : Go ℕ = λ v w1 t1. values_run P x.p call_made.xs x.p.around (λ vs w2 t2. all (v ∷ vs) w2 t2) w1 t1 in
          let run : Run Ran = value_runs P x.p (tree.Call callee.label.0 (tx link call_made.xs)) x.p.around go' x.w x.t in
          follows_along P.stack tree_work x.r n (λ i. costs 1 (costs hops (evaluated i)))
          (rest_run (evaluates P (Call sp f args) x.p.env x.go x.out) x.s) run run source_is (λ i. refl)
          (follows_paying P.stack tree_work x.r n 1 (λ i. costs hops (evaluated i)) run
          (follows_paying P.stack tree_work (x.r + tree_work * 1) n hops evaluated run
          (more P (x.r + 80 + len + units + 4) (x.r + tree_work * 1 + tree_work * hops) n evaluated run (omega (arith, small, few, hops_))
          (follows_working P.stack tree_work (x.r + 80 + len + units) n 4 evaluated
          (values_run P x.p (tx link call_made.xs) x.p.around all x.w x.t)
          (follows_working P.stack tree_work (x.r + 80 + len) n units evaluated (value_runs P x.p link x.p.around rest x.w x.t)
          (flat_follows P x.p link (x.p.scene.chain K.l) (x.r + 80) (x.r + 80 + len) n rest x.w x.t evaluated
          (frame_is_flat x.p.within.link_in_slot link_hops) link_word (omega arith)
          (more P (x.r + 70 + 10) (x.r + 80) n evaluated (rest (x.p.scene.chain K.l) x.w x.t) (omega arith)
          (arguments_follow P set grow n (Call sp f args) x start args sig.params known call_made.xs x.τ call_made.arguments (later_none x.τ) calls
          (enters_with go')
          (λ b vs us l st. called go' onward b vs us st))))))))))

-- A call, by what its name is bound to.
module _ (P : Program) (set : Setting P) (grow : StatesGrow P) (n : ℕ) (sp : Span) (f : Ident) (args : Exps) where
  pub record IsCallOf (scope : Scope) (ty : Ty) : Type 0 where
    pub b : Binding
    pub sig : Signature
    pub is_bound : bound f scope ≡ Some b
    pub callee : has.Callee b sig
    pub says : Says P.notes (at_of f) (has.use_of b)
    pub has_all : HasAll P.shapes P.notes args sig.params scope
    pub result_is : sig.result ≡ ty

  call_typed : (scope : Scope) (ty : Ty) → Has P.shapes P.notes (Call sp f args) scope ty → IsCallOf scope ty
  call_typed scope _ (has.call {sig = sig} b e callee says all) =
      record { b = b; sig = sig; is_bound = e; callee = callee; says = says; has_all = all; result_is = refl }

  -- of a standard function, which is shown elsewhere
  abbrev pub StandardShown : Type 0
  StandardShown =
      (x : Situation P n (Call sp f args)) (one : Standard) → bound f x.p.scope ≡ Some (standard_one one) → Says P.notes (at_of f) (means.Standard one) →
      HasAll P.shapes P.notes args (signature one).params x.p.scope → (signature one).result ≡ x.ty → IsShown P n (Call sp f args) x

  pub call_shown : StandardShown → ((x : Situation P n (Call sp f args)) → GroupsFit P x.p.env.entries) → AllShown P set grow n args →
      ((m : ℕ) → m < n → (e : Exp) → Shown P m e) → Shown P n (Call sp f args)
  call_shown standard fits shown inner x = by (call_typed x.p.scope x.ty x.typed)
    where
      by_callee : (b : Binding) (sig : Signature) → has.Callee b sig → bound f x.p.scope ≡ Some b → Says P.notes (at_of f) (has.use_of b) →
          HasAll P.shapes P.notes args sig.params x.p.scope → sig.result ≡ x.ty → IsShown P n (Call sp f args) x
      by_callee _ sig (has.declared {at = at}) e says all is =
          declared_call_shown P set grow n sp f args x at sig e says all is (fits x) shown inner
      by_callee _ _ (has.standard one) e says all is = standard x one e says all is

      by : IsCallOf x.p.scope x.ty → IsShown P n (Call sp f args) x
      by c = by_callee c.b c.sig c.callee c.is_bound c.says c.has_all c.result_is
