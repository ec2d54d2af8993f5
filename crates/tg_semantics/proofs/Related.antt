-- What holds of two forms of actions, act by act, holds of what each tree does in them.
use Rattle.std.proofs.Common.{ℕ, zero, suc, ◌+◌, List, [], ◌∷◌, length, Option, Some, None, Bool, true, false, nat_lt}
use Rattle.std.specs.Prelude.{if◌then◌else◌, ◌==◌, ◌||◌}
use Rattle.tg_base.specs.Words.{less, is_negative, exact_sum, exact_difference, exact_product}
use Rattle.tg_syntax.specs.declared.tokens.Ident.{Ident}
use Rattle.tg_syntax.specs.declared.trees.Param.{Param}
use Rattle.tg_syntax.specs.declared.trees.Op.{Op}
use Rattle.tg_syntax.specs.declared.trees.Op.TheVariants.{Plus, Minus, Times, Divide, And, Or}
use Rattle.tg_syntax.specs.Tree.{Exp, Nil, Break, Int, Text, Read, Call, Neg, Binary, Make, Fill, Assign, If, When, While, For, Let, Seq, LValue, Simple, Field}
use Rattle.tg_syntax.specs.Tree.{Index, Exps, no_exps, exp, Inits, no_inits, init, Decs, no_decs, types, variable as variable_dec, functions}
use Rattle.tg_simulation.specs.Outcomes.{End, ended, stuck}
use Rattle.tg_semantics.specs.declared.standards.Standard.{Standard}
use Rattle.tg_semantics.specs.declared.standards.Standard.TheVariants.{Print, Flush, Getchar, Ord, Chr, Size, Substring, Concat, Not, Exit}
use Rattle.tg_semantics.specs.Values.{Value, int, string, nil, reference, nothing, Object, fields, elements, Entry, Env, by_chr, SourceWorld, Ending}
use Rattle.tg_semantics.specs.Actions.{Actions}
use Rattle.tg_semantics.specs.Environments.{Bound, to_variable, to_function, to_standard}
use Rattle.tg_semantics.specs.Operators.{exact_quotient, is_below, comparison, identity}
use Rattle.tg_semantics.specs.Evaluation as E
use Rattle.tg_semantics.specs.Evaluation.{Location, in_variable, in_field, in_element, Job, run_function, repeat_while, repeat_for}

module _ (Action Action' : Type 0 → Type 0) (M : Actions Action) (M' : Actions Action') (R : (A : Type 0) → Action A → Action' A → Type 0) where
  -- what a relation of actions has to keep
  pub record Related : Type 1 where
    pub gives : (A : Type 0) (a : A) → R A (M.give a) (M'.give a)
    pub binds : (A B : Type 0) (m : Action A) (m' : Action' A) (f : A → Action B) (f' : A → Action' B) → R A m m' → ((a : A) → R B (f a) (f' a)) →
        R B (M.bind m f) (M'.bind m' f')
    pub breaks : (A : Type 0) → R A M.break M'.break
    pub overs : (A : Type 0) (e : End Ending) → R A (M.over e) (M'.over e)
    pub loops : (m k : Action Value) (m' k' : Action' Value) → R Value m m' → R Value k k' → R Value (M.in_loop m k) (M'.in_loop m' k')
    pub bodies : (m : Action Value) (m' : Action' Value) → R Value m m' → R Value (M.in_function m) (M'.in_function m')
    pub looks : (A : Type 0) (f : SourceWorld → Option A) → R A (M.look f) (M'.look f)
    pub news : (v : Value) → R ℕ (M.new_variable v) (M'.new_variable v)
    pub sets : (place : ℕ) (v : Value) → R (Unit {0}) (M.set_variable place v) (M'.set_variable place v)
    pub makes : (o : Object) → R ℕ (M.new_object o) (M'.new_object o)
    pub puts : (place : ℕ) (o : Object) → R (Unit {0}) (M.set_object place o) (M'.set_object place o)
    pub takes : (bytes : ℕ) → R (Unit {0}) (M.take_heap bytes) (M'.take_heap bytes)
    pub reads : R (List ℕ) M.read_byte M'.read_byte
    pub writes : (bytes : List ℕ) → R (Unit {0}) (M.write bytes) (M'.write bytes)
    pub spends : (k : ℕ) → R (Unit {0}) (M.spend k) (M'.spend k)
    pub weighs : (k : ℕ) → R (Unit {0}) (M.weigh k) (M'.weigh k)
    pub unweighs : (k : ℕ) → R (Unit {0}) (M.unweigh k) (M'.unweigh k)
    pub descends : R (Unit {0}) M.descend M'.descend
    pub ascends : R (Unit {0}) M.ascend M'.ascend

  module _ (L : Related) where
    binds : {A B : Type 0} {m : Action A} {m' : Action' A} {f : A → Action B} {f' : A → Action' B} → R A m m' → ((a : A) → R B (f a) (f' a)) →
        R B (M.bind m f) (M'.bind m' f')
    binds {A} {B} {m} {m'} {f} {f'} g h = L.binds A B m m' f f' g h

    chosen : (A : Type 0) (b : Bool) (m k : Action A) (m' k' : Action' A) → R A m m' → R A k k' → R A (if b then m else k) (if b then m' else k')
    chosen A true m k m' k' g h = g
    chosen A false m k m' k' g h = h

    int_of_same : (v : Value) → R ℕ (E.int_of Action M v) (E.int_of Action' M' v)
    int_of_same (int n) = L.gives ℕ n
    int_of_same _ = L.overs ℕ stuck

    choose_same : (v : Value) (m k : Action Value) (m' k' : Action' Value) → R Value m m' → R Value k k' →
        R Value (E.choose Action M v m k) (E.choose Action' M' v m' k')
    choose_same (int zero) m k m' k' g h = h
    choose_same (int (suc n)) m k m' k' g h = g
    choose_same _ m k m' k' g h = L.overs Value stuck

    read_location_same : (l : Location) → R Value (E.read_location Action M l) (E.read_location Action' M' l)
    read_location_same (in_variable place) = L.looks Value _
    read_location_same (in_field r f) = binds (L.looks Object _) λ o. L.looks Value _
    read_location_same (in_element r i) = binds (L.looks Object _) λ o. L.looks Value _

    replace_same : (l : Location) (v : Value) → R (Unit {0}) (E.replace Action M l v) (E.replace Action' M' l v)
    replace_same (in_variable place) v = L.sets place v
    replace_same (in_field r f) v = binds (L.looks Object _) λ o. L.puts r _
    replace_same (in_element r i) v = binds (L.looks Object _) λ o. L.puts r _

    write_location_same : (l : Location) (v : Value) → R (Unit {0}) (E.write_location Action M l v) (E.write_location Action' M' l v)
    write_location_same l v = binds (read_location_same l) λ _. replace_same l v

    look_up_same : (x : Ident) (env : Env) → R Bound (E.look_up Action M x env) (E.look_up Action' M' x env)
    look_up_same x env = binds (L.looks Bound _) λ b. binds (L.spends _) λ _. L.gives Bound b

    locate_variable_same : (b : Bound) → R Location (E.locate_variable Action M b) (E.locate_variable Action' M' b)
    locate_variable_same (to_variable level place) = L.gives Location _
    locate_variable_same _ = L.overs Location _

    locate_field_same : (v : Value) (f : ℕ) → R Location (E.locate_field Action M v f) (E.locate_field Action' M' v f)
    locate_field_same nil f = L.overs Location _
    locate_field_same (reference r) f = L.gives Location _
    locate_field_same _ f = L.overs Location _

    locate_within_same : (r i : ℕ) (o : Object) → R Location (E.locate_within Action M r i o) (E.locate_within Action' M' r i o)
    locate_within_same r i (elements values) =
        chosen Location (is_below i (length values)) _ _ _ _ (L.gives Location _) (L.overs Location _)
    locate_within_same r i (fields parts) = L.overs Location _

    locate_element_same : (v w : Value) → R Location (E.locate_element Action M v w) (E.locate_element Action' M' v w)
    locate_element_same (reference r) (int i) = binds (L.looks Object _) λ o. locate_within_same r i o
    locate_element_same _ _ = L.overs Location _

    exactly_same : (o : Option ℕ) → R Value (E.exactly Action M o) (E.exactly Action' M' o)
    exactly_same (Some n) = L.gives Value _
    exactly_same None = L.overs Value _

    quotient_same : (a b : ℕ) → R Value (E.quotient Action M a b) (E.quotient Action' M' a b)
    quotient_same a zero = L.overs Value _
    quotient_same a (suc b) = exactly_same (exact_quotient a (suc b))

    held_same : (o : Option Bool) → R Value (E.held Action M o) (E.held Action' M' o)
    held_same o = binds (L.looks Bool _) λ b. L.gives Value _

    operate_ints_same : (op : Op) (a b : ℕ) → R Value (E.operate_ints Action M op a b) (E.operate_ints Action' M' op a b)
    operate_ints_same Plus a b = exactly_same (exact_sum a b)
    operate_ints_same Minus a b = exactly_same (exact_difference a b)
    operate_ints_same Times a b = exactly_same (exact_product a b)
    operate_ints_same Divide a b = quotient_same a b
    operate_ints_same op a b = held_same (comparison op (a == b) (less a b) (less b a))

    runtime_same : (A : Type 0) (m : Action A) (m' : Action' A) → R A m m' → R A (E.runtime Action M m) (E.runtime Action' M' m')
    runtime_same A m m' g = binds (L.weighs _) λ _. binds g λ a. binds (L.unweighs _) λ _. L.gives A a

    operate_same : (op : Op) (x y : Value) → R Value (E.operate Action M op x y) (E.operate Action' M' op x y)
    operate_same op (int a) (int b) = operate_ints_same op a b
    operate_same op (string a) (string b) = runtime_same Value _ _ (binds (L.spends _) λ _. held_same _)
    operate_same op nil nil = held_same (identity op true)
    operate_same op nil (reference b) = held_same (identity op false)
    operate_same op (reference a) nil = held_same (identity op false)
    operate_same op (reference a) (reference b) = held_same (identity op (a == b))
    operate_same op _ _ = L.overs Value _

    with_left_same : (op : Op) (x : Value) (m : Action Value) (m' : Action' Value) → R Value m m' →
        R Value (E.with_left Action M op x m) (E.with_left Action' M' op x m')
    with_left_same And x m m' g = choose_same x _ _ _ _ g (L.gives Value _)
    with_left_same Or x m m' g = choose_same x _ _ _ _ (L.gives Value _) g
    with_left_same op x m m' g = binds g λ y. operate_same op x y

    make_record_same : (parts : List (ℕ × Value)) → R Value (E.make_record Action M parts) (E.make_record Action' M' parts)
    make_record_same parts = runtime_same Value _ _ (binds (L.takes _) λ _. binds (L.makes _) λ r. L.gives Value _)

    make_array_same : (n : ℕ) (v : Value) → R Value (E.make_array Action M n v) (E.make_array Action' M' n v)
    make_array_same n v =
        runtime_same Value _ _ (chosen Value (is_negative n) _ _ _ _ (L.overs Value _)
        (binds (L.takes _) λ _. binds (L.spends _) λ _. binds (L.makes _) λ r. L.gives Value _))

    make_string_same : (bytes : List ℕ) → R Value (E.make_string Action M bytes) (E.make_string Action' M' bytes)
    make_string_same bytes = binds (L.takes _) λ _. binds (L.spends _) λ _. L.gives Value _

    substring_same : (s : List ℕ) (first n : ℕ) → R Value (E.substring Action M s first n) (E.substring Action' M' s first n)
    substring_same s first n =
        chosen Value (is_negative first || is_negative n || nat_lt (length s) (first + n)) _ _ _ _ (L.overs Value _) (make_string_same _)

    call_standard_same : (f : Standard) (args : List Value) → R Value (E.call_standard Action M f args) (E.call_standard Action' M' f args)
    call_standard_same Print (string s ∷ []) = binds (binds (L.spends _) λ _. L.writes _) λ _. L.gives Value _
    call_standard_same Flush [] = L.gives Value _
    call_standard_same Getchar [] = binds L.reads λ s. make_string_same s
    call_standard_same Ord (string s ∷ []) = binds (L.spends _) λ _. L.gives Value _
    call_standard_same Chr (int i ∷ []) = chosen Value (is_below i 256) _ _ _ _ (make_string_same (i ∷ [])) (L.overs Value (ended by_chr))
    call_standard_same Size (string s ∷ []) = binds (L.spends _) λ _. L.gives Value _
    call_standard_same Substring (string s ∷ int first ∷ int n ∷ []) = binds (L.spends _) λ _. substring_same s first n
    call_standard_same Concat (string s ∷ string t ∷ []) = binds (L.spends _) λ _. make_string_same _
    call_standard_same Not (int i ∷ []) = L.gives Value _
    call_standard_same Exit (int i ∷ []) = L.overs Value _
    call_standard_same _ _ = L.overs Value _

    module _ (after : Job → Action Value) (after' : Job → Action' Value) (turned : (job : Job) → R Value (M.turn (after job)) (M'.turn (after' job))) where
      call_same : (b : Bound) (args : List Value) → R Value (E.call Action M after b args) (E.call Action' M' after' b args)
      call_same (to_function level f seen) args = binds (L.weighs _) λ _. binds L.descends λ _. turned _
      call_same (to_standard f) args = runtime_same Value _ _ (call_standard_same f args)
      call_same (to_variable level place) args = L.overs Value _

      while_loop_same : (test body : Action Value) (test' body' : Action' Value) (again : Job) → R Value test test' → R Value body body' →
          R Value (E.while_loop Action M after test body again) (E.while_loop Action' M' after' test' body' again)
      while_loop_same test body test' body' again g h =
          binds g λ v. choose_same v _ _ _ _ (L.loops _ _ _ _ h (turned again)) (L.gives Value _)

      for_loop_same : (place high : ℕ) (body : Action Value) (body' : Action' Value) (again : Job) → R Value body body' →
          R Value (E.for_loop Action M after place high body again) (E.for_loop Action' M' after' place high body' again)
      for_loop_same place high body body' again h =
          L.loops _ _ _ _ h (binds (L.looks Value _) λ v. binds (int_of_same v) λ i. chosen Value (i == high) _ _ _ _ (L.gives Value _)
          (binds (L.sets place _) λ _. turned again))

      mutual
        pub eval_same : (e : Exp) (env : Env) → R Value (E.eval Action M after e env) (E.eval Action' M' after' e env)
        eval_same (Nil _) env = binds (L.spends 1) λ _. L.gives Value _
        eval_same (Break _) env = binds (L.spends 1) λ _. L.breaks Value
        eval_same (Int _ n) env = binds (L.spends 1) λ _. L.gives Value _
        eval_same (Text _ bytes) env = binds (L.spends 1) λ _. L.gives Value _
        eval_same (Read _ v) env = binds (L.spends 1) λ _. binds (locate_same v env) λ l. read_location_same l
        eval_same (Call _ f args) env =
            binds (L.spends 1) λ _. binds (look_up_same f env) λ callee. binds (eval_all_same args env) λ values. call_same callee values
        eval_same (Neg _ a) env = binds (L.spends 1) λ _. binds (eval_same a env) λ x. operate_same Minus (int 0) x
        eval_same (Binary _ op _ a b) env =
            binds (L.spends 1) λ _. binds (eval_same a env) λ x. with_left_same op x _ _ (eval_same b env)
        eval_same (Make _ _ inits) env = binds (L.spends 1) λ _. binds (eval_inits_same inits env) λ parts. make_record_same parts
        eval_same (Fill _ _ size value) env =
            binds (L.spends 1) λ _. binds (eval_same size env) λ n. binds (eval_same value env) λ v. binds (int_of_same n) λ n. make_array_same n v
        eval_same (Assign _ place value) env =
            binds (L.spends 1) λ _. binds (locate_same place env) λ l. binds (eval_same value env) λ v. binds (write_location_same l v) λ _. L.gives Value _
        eval_same (If _ test this other) env =
            binds (L.spends 1) λ _. binds (eval_same test env) λ v. choose_same v _ _ _ _ (eval_same this env) (eval_same other env)
        eval_same (When _ test this) env =
            binds (L.spends 1) λ _. binds (eval_same test env) λ v. choose_same v _ _ _ _ (eval_same this env) (L.gives Value _)
        eval_same (While _ test body) env = binds (L.spends 1) λ _. while_loop_same _ _ _ _ _ (eval_same test env) (eval_same body env)
        eval_same (For _ x low high body) env =
            binds (L.spends 1) λ _. binds (eval_same low env) λ l. binds (eval_same high env) λ h.
            binds (int_of_same l) λ l. binds (int_of_same h) λ h. binds (L.news (int l)) λ place.
            chosen Value (less h l) _ _ _ _ (L.gives Value _) (for_loop_same place h _ _ _ (eval_same body _))
        eval_same (Let _ decs body) env = binds (L.spends 1) λ _. binds (declare_same decs env) λ inner. eval_last_same nothing body inner
        eval_same (Seq _ es) env = binds (L.spends 1) λ _. eval_last_same nothing es env

        pub locate_same : (p : LValue) (env : Env) → R Location (E.locate Action M after p env) (E.locate Action' M' after' p env)
        locate_same (Simple x) env = binds (L.spends 1) λ _. binds (look_up_same x env) λ b. locate_variable_same b
        locate_same (Field p f) env =
            binds (L.spends 1) λ _. binds (locate_same p env) λ l. binds (read_location_same l) λ v. locate_field_same v _
        locate_same (Index p e) env =
            binds (L.spends 1) λ _. binds (locate_same p env) λ l. binds (read_location_same l) λ v. binds (eval_same e env) λ i. locate_element_same v i

        pub eval_all_same : (es : Exps) (env : Env) → R (List Value) (E.eval_all Action M after es env) (E.eval_all Action' M' after' es env)
        eval_all_same no_exps env = L.gives (List Value) _
        eval_all_same (exp e rest) env = binds (eval_same e env) λ v. binds (eval_all_same rest env) λ vs. L.gives (List Value) _

        pub eval_last_same : (v : Value) (es : Exps) (env : Env) → R Value (E.eval_last Action M after v es env) (E.eval_last Action' M' after' v es env)
        eval_last_same v no_exps env = L.gives Value v
        eval_last_same v (exp e rest) env = binds (eval_same e env) λ w. eval_last_same w rest env

        pub eval_inits_same : (is : Inits) (env : Env) → R (List (ℕ × Value)) (E.eval_inits Action M after is env) (E.eval_inits Action' M' after' is env)
        eval_inits_same no_inits env = L.gives (List (ℕ × Value)) _
        eval_inits_same (init f e rest) env = binds (eval_same e env) λ v. binds (eval_inits_same rest env) λ vs. L.gives (List (ℕ × Value)) _

        pub declare_same : (ds : Decs) (env : Env) → R Env (E.declare Action M after ds env) (E.declare Action' M' after' ds env)
        declare_same no_decs env = L.gives Env env
        declare_same (types ts rest) env = binds (L.spends _) λ _. declare_same rest env
        declare_same (variable_dec x _ e rest) env =
            binds (L.spends 1) λ _. binds (eval_same e env) λ v. binds (L.news v) λ place. declare_same rest _
        declare_same (functions fs rest) env = binds (L.spends _) λ _. declare_same rest _

      bind_params_same : (ps : List Param) (vs : List Value) (env : Env) →
          R Env (E.bind_params Action M after ps vs env) (E.bind_params Action' M' after' ps vs env)
      bind_params_same [] [] env = L.gives Env env
      bind_params_same (p ∷ ps) (v ∷ vs) env = binds (L.spends 1) λ _. binds (L.news v) λ place. bind_params_same ps vs _
      bind_params_same _ _ env = L.overs Env _

      pub run_same : (job : Job) → R Value (E.run Action M after job) (E.run Action' M' after' job)
      run_same (run_function level f seen args) =
          binds (bind_params_same _ _ _) λ env. binds (L.bodies _ _ (eval_same f.body env)) λ v. binds L.ascends λ _. binds (L.unweighs _) λ _. L.gives Value v
      run_same (repeat_while test body env) = while_loop_same _ _ _ _ _ (eval_same test env) (eval_same body env)
      run_same (repeat_for place high body env) = for_loop_same place high _ _ _ (eval_same body env)

      pub run_program_same : (body : Exp) (entries : List Entry) →
          R Value (E.run_program Action M after body entries) (E.run_program Action' M' after' body entries)
      run_program_same body entries = binds (L.weighs _) λ _. L.bodies _ _ (eval_same body _)

    -- where a unit of fuel keeps the relation too
    module _ (turns : (m : Action Value) (m' : Action' Value) → R Value m m' → R Value (M.turn m) (M'.turn m')) where
      pub meaning_same : (n : ℕ) (job : Job) → R Value (E.meaning Action M n job) (E.meaning Action' M' n job)
      meaning_same zero job = L.overs Value _
      meaning_same (suc n) job =
          run_same (λ j. E.meaning Action M n j) (λ j. E.meaning Action' M' n j) (λ j. turns _ _ (meaning_same n j)) job

      pub program_same : (body : Exp) (entries : List Entry) (n : ℕ) → R Value (E.program Action M body entries n) (E.program Action' M' body entries n)
      program_same body entries n =
          run_program_same (λ j. E.meaning Action M n j) (λ j. E.meaning Action' M' n j) (λ j. turns _ _ (meaning_same n j)) body entries
