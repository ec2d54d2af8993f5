-- What evaluation does with small values leaves small values, whatever the form of actions, if each action does.
use Rattle.std.proofs.Common.{◌≡◌, ℕ, zero, suc, ◌+◌, ◌^◌, ◌<◌, ◌≤◌, List, [], ◌∷◌, ◌++◌, length, Option, Some, None, Bool, true, false, nat_lt, refl, arith}
use Rattle.std.specs.Prelude.{◌||◌, slice_get, int_div, ◌+ℤ◌, ◌-ℤ◌, ◌*ℤ◌, if◌then◌else◌, take, drop, ◌==◌}
use Rattle.tg_base.specs.Words.{add, less, is_negative, exact_sum, exact_difference, exact_product, signed}
use Rattle.tg_syntax.specs.declared.tokens.Ident.{Ident}
use Rattle.tg_syntax.specs.declared.trees.Param.{Param}
use Rattle.tg_syntax.specs.declared.trees.Op.{Op}
use Rattle.tg_syntax.specs.declared.trees.Op.TheVariants.{Plus, Minus, Times, Divide, And, Or}
use Rattle.tg_syntax.specs.Tree.{Exp, Nil, Break, Int, Text, Read, Call, Neg, Binary, Make, Fill, Assign, If, When, While, For, Let, Seq, LValue, Simple, Field}
use Rattle.tg_syntax.specs.Tree.{Index, Exps, no_exps, exp, Inits, no_inits, init, Decs, no_decs, types, variable as variable_dec, functions}
use Rattle.tg_simulation.specs.Outcomes.{End, ended}
use Rattle.tg_semantics.specs.declared.standards.Standard.{Standard}
use Rattle.tg_semantics.specs.declared.standards.Standard.TheVariants.{Print, Flush, Getchar, Ord, Chr, Size, Substring, Concat, Not, Exit}
use Rattle.tg_semantics.specs.Values.{Value, int, string, nil, reference, nothing, Object, fields, elements, Entry, Env, by_chr, by_exit, Ending}
use Rattle.tg_semantics.specs.Actions.{Actions}
use Rattle.tg_semantics.specs.Environments.{Bound, to_variable, to_function, to_standard, find, name_of}
use Rattle.tg_semantics.specs.Operators.{exact_quotient, is_below, comparison, identity, string_bytes, field_in, element_in, with_field, with_element}
use Rattle.tg_semantics.specs.Evaluation as E
use Rattle.tg_semantics.specs.Evaluation.{Location, in_variable, in_field, in_element, Job, run_function, repeat_while, repeat_for, with_variable}
use Rattle.tg_translate_laws.specs.Strings.{strings, place_strings, exps_strings, inits_strings, decs_strings, bodies_strings}
use Rattle.tg_translate_laws.proofs.Fine.{Each, each_append}
use Rattle.tg_translate_proof.proofs.expressions.BinaryPlusMinus.{within_small}
use Rattle.tg_compile_proof.proofs.SmallValues.{each_of_all, each_front, each_back, each_take, each_drop, each_replicate}
use Rattle.tg_compile_proof.proofs.SmallValues.{IsByte, HasShortLength, IsShortString, IsSmallValue, IsSmallPart, IsSmallObject, truth_small, below_is}
use Rattle.tg_compile_proof.proofs.SmallValues.{field_small, element_small, field_put, element_put, IsFitExp, IsFitPlace, AreFitExps, AreFitInits, AreFitDecs}
use Rattle.tg_compile_proof.proofs.SmallValues.{IsFitEnv, IsFitBound, AreFitEntries, found_fit, IsFitJob}

abbrev pub Known : Type 0 → Type 1
Known A = A → Type 0

abbrev pub whatever : (A : Type 0) → Known A
whatever A a = Unit {0}

-- the code of an exit is a word
abbrev pub ExitIsWord : End Ending → Type 0
ExitIsWord (ended (by_exit code)) = code < 2 ^ 32
ExitIsWord _ = Unit {0}

module _ (heap : ℕ) (small : heap < 2 ^ 32) (Action : Type 0 → Type 0) (M : Actions Action) (S : (A : Type 0) → Known A → Action A → Type 0) where
  -- what actions have to keep
  pub record ActionsKeep : Type 1 where
    pub gives : (A : Type 0) (P : Known A) (a : A) → P a → S A P (M.give a)
    pub binds : (A B : Type 0) (P : Known A) (Q : Known B) (m : Action A) (f : A → Action B) → S A P m → ((a : A) → P a → S B Q (f a)) → S B Q (M.bind m f)
    pub breaks : (A : Type 0) (P : Known A) → S A P M.break
    pub overs : (A : Type 0) (P : Known A) (e : End Ending) → ExitIsWord e → S A P (M.over e)
    pub loops : (m k : Action Value) → S Value IsSmallValue m → S Value IsSmallValue k → S Value IsSmallValue (M.in_loop m k)
    pub bodies : (m : Action Value) → S Value IsSmallValue m → S Value IsSmallValue (M.in_function m)
    pub knowns : (A : Type 0) (P : Known A) (o : Option A) → ((a : A) → o ≡ Some a → P a) → S A P (M.look (λ w. o))
    pub variables : (place : ℕ) → S Value IsSmallValue (M.look (λ w. slice_get w.variables place))
    pub objects : (r : ℕ) → S Object IsSmallObject (M.look (λ w. slice_get w.objects r))
    pub news : (v : Value) → IsSmallValue v → S ℕ (whatever ℕ) (M.new_variable v)
    pub sets : (place : ℕ) (v : Value) → IsSmallValue v → S (Unit {0}) (whatever (Unit {0})) (M.set_variable place v)
    pub makes : (o : Object) → IsSmallObject o → S ℕ (whatever ℕ) (M.new_object o)
    pub puts : (r : ℕ) (o : Object) → IsSmallObject o → S (Unit {0}) (whatever (Unit {0})) (M.set_object r o)
    pub takes : (bytes : ℕ) → S (Unit {0}) (λ a. bytes ≤ heap) (M.take_heap bytes)
    pub reads : S (List ℕ) IsShortString M.read_byte
    pub writes : (bytes : List ℕ) → S (Unit {0}) (whatever (Unit {0})) (M.write bytes)
    pub spends : (k : ℕ) → S (Unit {0}) (whatever (Unit {0})) (M.spend k)
    pub weighs : (k : ℕ) → S (Unit {0}) (whatever (Unit {0})) (M.weigh k)
    pub unweighs : (k : ℕ) → S (Unit {0}) (whatever (Unit {0})) (M.unweigh k)
    pub descends : S (Unit {0}) (whatever (Unit {0})) M.descend
    pub ascends : S (Unit {0}) (whatever (Unit {0})) M.ascend

  module _ (L : ActionsKeep) where
    onward : {A B : Type 0} {P : Known A} {Q : Known B} {m : Action A} {f : A → Action B} → S A P m → ((a : A) → P a → S B Q (f a)) → S B Q (M.bind m f)
    onward {A} {B} {P} {Q} {m} {f} g h = L.binds A B P Q m f g h

    give : {A : Type 0} {P : Known A} {a : A} → P a → S A P (M.give a)
    give {A} {P} {a} p = L.gives A P a p

    over : {A : Type 0} {P : Known A} {e : End Ending} → ExitIsWord e → S A P (M.over e)
    over {A} {P} {e} h = L.overs A P e h

    -- after a cost
    paid : {B : Type 0} {Q : Known B} {k : ℕ} {m : Action B} → S B Q m → S B Q (M.bind (M.spend k) (λ _. m))
    paid {B} {Q} {k} {m} h = L.binds (Unit {0}) B (whatever (Unit {0})) Q (M.spend k) (λ _. m) (L.spends k) (λ a p. h)

    chosen : (A : Type 0) (P : Known A) (b : Bool) (m k : Action A) → (b ≡ true → S A P m) → S A P k → S A P (if b then m else k)
    chosen A P true m k g h = g refl
    chosen A P false m k g h = h

    int_kept : (v : Value) → IsSmallValue v → S ℕ (λ n. n < 2 ^ 32) (E.int_of Action M v)
    int_kept (int n) p = give p
    int_kept _ p = over tt

    choose_kept : (v : Value) (m k : Action Value) → S Value IsSmallValue m → S Value IsSmallValue k → S Value IsSmallValue (E.choose Action M v m k)
    choose_kept (int zero) m k g h = h
    choose_kept (int (suc n)) m k g h = g
    choose_kept _ m k g h = over tt

    -- locations
    read_kept : (l : Location) → S Value IsSmallValue (E.read_location Action M l)
    read_kept (in_variable place) = L.variables place
    read_kept (in_field r f) = onward (L.objects r) λ o q. L.knowns Value IsSmallValue (field_in f o) (λ v e. field_small f o v q e)
    read_kept (in_element r i) = onward (L.objects r) λ o q. L.knowns Value IsSmallValue (element_in i o) (λ v e. element_small i o v q e)

    replace_kept : (l : Location) (v : Value) → IsSmallValue v → S (Unit {0}) (whatever (Unit {0})) (E.replace Action M l v)
    replace_kept (in_variable place) v p = L.sets place v p
    replace_kept (in_field r f) v p = onward (L.objects r) λ o q. L.puts r (with_field f v o) (field_put f v o q p)
    replace_kept (in_element r i) v p = onward (L.objects r) λ o q. L.puts r (with_element i v o) (element_put i v o q p)

    write_kept : (l : Location) (v : Value) → IsSmallValue v → S (Unit {0}) (whatever (Unit {0})) (E.write_location Action M l v)
    write_kept l v p = onward (read_kept l) λ _ _. replace_kept l v p

    look_up_kept : (x : Ident) (env : Env) → IsFitEnv env → S Bound IsFitBound (E.look_up Action M x env)
    look_up_kept x env h =
        onward (L.knowns Bound IsFitBound (find (name_of x) env.entries) (λ d e. found_fit (name_of x) env.entries d h e)) λ d q. paid (give q)

    locate_variable_kept : (d : Bound) → S Location (whatever Location) (E.locate_variable Action M d)
    locate_variable_kept (to_variable level place) = give tt
    locate_variable_kept _ = over tt

    locate_field_kept : (v : Value) (f : ℕ) → S Location (whatever Location) (E.locate_field Action M v f)
    locate_field_kept nil f = over tt
    locate_field_kept (reference r) f = give tt
    locate_field_kept _ f = over tt

    locate_within_kept : (r i : ℕ) (o : Object) → S Location (whatever Location) (E.locate_within Action M r i o)
    locate_within_kept r i (elements values) = chosen Location (whatever Location) (is_below i (length values)) _ _ (λ e. give tt) (over tt)
    locate_within_kept r i (fields parts) = over tt

    locate_element_kept : (v w : Value) → S Location (whatever Location) (E.locate_element Action M v w)
    locate_element_kept (reference r) (int i) = onward (L.objects r) λ o _. locate_within_kept r i o
    locate_element_kept _ _ = over tt

    -- operators
    exactly_kept : (o : Option ℕ) → ((n : ℕ) → o ≡ Some n → n < 2 ^ 32) → S Value IsSmallValue (E.exactly Action M o)
    exactly_kept (Some n) h = give (h n refl)
    exactly_kept None h = over tt

    quotient_kept : (a b : ℕ) → S Value IsSmallValue (E.quotient Action M a b)
    quotient_kept a zero = over tt
    quotient_kept a (suc b) = exactly_kept (exact_quotient a (suc b)) (λ n e. within_small (int_div (signed a) (signed (suc b))) n e)

    held_kept : (o : Option Bool) → S Value IsSmallValue (E.held Action M o)
    held_kept o = onward (L.knowns Bool (whatever Bool) o (λ a e. tt)) λ b _. give (truth_small b)

    operate_ints_kept : (op : Op) (a b : ℕ) → S Value IsSmallValue (E.operate_ints Action M op a b)
    operate_ints_kept Plus a b = exactly_kept (exact_sum a b) (λ n e. within_small (signed a +ℤ signed b) n e)
    operate_ints_kept Minus a b = exactly_kept (exact_difference a b) (λ n e. within_small (signed a -ℤ signed b) n e)
    operate_ints_kept Times a b = exactly_kept (exact_product a b) (λ n e. within_small (signed a *ℤ signed b) n e)
    operate_ints_kept Divide a b = quotient_kept a b
    operate_ints_kept op a b = held_kept (comparison op (a == b) (less a b) (less b a))

    runtime_kept : (m : Action Value) → S Value IsSmallValue m → S Value IsSmallValue (E.runtime Action M m)
    runtime_kept m g = onward (L.weighs _) λ _ _. onward g λ v p. onward (L.unweighs _) λ _ _. give p

    operate_kept : (op : Op) (x y : Value) → S Value IsSmallValue (E.operate Action M op x y)
    operate_kept op (int a) (int b) = operate_ints_kept op a b
    operate_kept op (string a) (string b) = runtime_kept _ (paid (held_kept _))
    operate_kept op nil nil = held_kept (identity op true)
    operate_kept op nil (reference b) = held_kept (identity op false)
    operate_kept op (reference a) nil = held_kept (identity op false)
    operate_kept op (reference a) (reference b) = held_kept (identity op (a == b))
    operate_kept op _ _ = over tt

    with_left_kept : (op : Op) (x : Value) (m : Action Value) → S Value IsSmallValue m → S Value IsSmallValue (E.with_left Action M op x m)
    with_left_kept And x m g = choose_kept x _ _ g (give (omega arith))
    with_left_kept Or x m g = choose_kept x _ _ (give (omega arith)) g
    with_left_kept op x m g = onward g λ y _. operate_kept op x y

    -- creation
    record_kept : (parts : List (ℕ × Value)) → Each IsSmallPart parts → S Value IsSmallValue (E.make_record Action M parts)
    record_kept parts h = runtime_kept _ (onward (L.takes _) λ _ _. onward (L.makes (fields parts) h) λ r _. give tt)

    array_kept : (n : ℕ) (v : Value) → IsSmallValue v → S Value IsSmallValue (E.make_array Action M n v)
    array_kept n v p =
        runtime_kept _ (chosen Value IsSmallValue (is_negative n) _ _ (λ e. over tt)
        (onward (L.takes _) λ _ _. paid (onward (L.makes (elements _) (each_replicate IsSmallValue n v p)) λ r _. give tt)))

    short_taken : (n : ℕ) → string_bytes n ≤ heap → n < 2 ^ 32
    short_taken n le = omega (arith, le, small)

    string_kept : (bytes : List ℕ) → Each IsByte bytes → S Value IsSmallValue (E.make_string Action M bytes)
    string_kept bytes h = onward (L.takes (string_bytes (length bytes))) λ _ le. paid (give (h, short_taken (length bytes) le))

    first_small : (bytes : List ℕ) → Each IsByte bytes → E.first_byte Action M bytes < 2 ^ 32
    first_small [] h = omega arith
    first_small (b ∷ bytes) h = let lt = h.0 in omega (arith, lt)

    substring_kept : (s : List ℕ) (first n : ℕ) → Each IsByte s → S Value IsSmallValue (E.substring Action M s first n)
    substring_kept s first n h =
        chosen Value IsSmallValue (is_negative first || is_negative n || nat_lt (length s) (first + n)) _ _ (λ e. over tt)
        (string_kept (take n (drop first s)) (each_take IsByte n (drop first s) (each_drop IsByte first s h)))

    standard_kept : (f : Standard) (args : List Value) → Each IsSmallValue args → S Value IsSmallValue (E.call_standard Action M f args)
    standard_kept Print (string s ∷ []) h = onward (paid (L.writes s)) λ _ _. give tt
    standard_kept Flush [] h = give tt
    standard_kept Getchar [] h = onward L.reads λ s q. string_kept s q.0
    standard_kept Ord (string s ∷ []) h = paid (give (first_small s h.0.0))
    standard_kept Chr (int i ∷ []) h =
        chosen Value IsSmallValue (is_below i 256) _ _ (λ e. string_kept (i ∷ []) (below_is i 256 e, tt)) (L.overs Value IsSmallValue (ended by_chr) tt)
    standard_kept Size (string s ∷ []) h = paid (give h.0.1)
    standard_kept Substring (string s ∷ int first ∷ int n ∷ []) h = paid (substring_kept s first n h.0.0)
    standard_kept Concat (string s ∷ string t ∷ []) h = paid (string_kept (s ++ t) (each_append IsByte s t h.0.0 h.1.0.0))
    standard_kept Not (int i ∷ []) h = give (truth_small (i == 0))
    standard_kept Exit (int i ∷ []) h = L.overs Value IsSmallValue (ended (by_exit i)) h.0
    standard_kept _ _ h = over tt

    module _ (after : Job → Action Value) (turned : (job : Job) → IsFitJob job → S Value IsSmallValue (M.turn (after job))) where
      call_kept : (d : Bound) (args : List Value) → IsFitBound d → Each IsSmallValue args → S Value IsSmallValue (E.call Action M after d args)
      call_kept (to_function level f seen) args d h =
          onward (L.weighs _) λ _ _. onward L.descends λ _ _. turned (run_function level f seen args) (d.0, d.1, h)
      call_kept (to_standard f) args d h = runtime_kept _ (standard_kept f args h)
      call_kept (to_variable level place) args d h = over tt

      while_kept : (test body : Action Value) (again : Job) → S Value IsSmallValue test → S Value IsSmallValue body → IsFitJob again →
          S Value IsSmallValue (E.while_loop Action M after test body again)
      while_kept test body again g h j = onward g λ v _. choose_kept v _ _ (L.loops body _ h (turned again j)) (give tt)

      for_kept : (place high : ℕ) (body : Action Value) (again : Job) → S Value IsSmallValue body → IsFitJob again →
          S Value IsSmallValue (E.for_loop Action M after place high body again)
      for_kept place high body again h j =
          L.loops body _ h (onward (L.variables place) λ v p. onward (int_kept v p) λ i _. chosen Value IsSmallValue (i == high) _ _ (λ e. give tt)
          (onward (L.sets place (int (add i 1)) (omega arith)) λ _ _. turned again j))

      mutual
        pub eval_kept : (e : Exp) (env : Env) → IsFitExp e → IsFitEnv env → S Value IsSmallValue (E.eval Action M after e env)
        eval_kept (Nil _) env f v = paid (give tt)
        eval_kept (Break _) env f v = paid (L.breaks Value IsSmallValue)
        eval_kept (Int _ n) env f v = let lt = f.0 in paid (give (omega (arith, lt)))
        eval_kept (Text _ bytes) env f v = paid (give (each_of_all IsByte bytes f.0, f.1.0))
        eval_kept (Read _ p) env f v = paid (onward (locate_kept p env f v) λ l _. read_kept l)
        eval_kept (Call _ g args) env f v =
            paid (onward (look_up_kept g env v) λ d q. onward (eval_all_kept args env f v) λ values h. call_kept d values q h)
        eval_kept (Neg _ a) env f v = paid (onward (eval_kept a env f v) λ x _. operate_kept Minus (int 0) x)
        eval_kept (Binary _ op _ a b) env f v =
            paid (onward (eval_kept a env (f.0.0, each_front HasShortLength (strings a) (strings b) f.1) v) λ x _.
            with_left_kept op x _ (eval_kept b env (f.0.1, each_back HasShortLength (strings a) (strings b) f.1) v))
        eval_kept (Make _ _ inits) env f v = paid (onward (eval_inits_kept inits env f v) λ parts h. record_kept parts h)
        eval_kept (Fill _ _ size value) env f v =
            paid (onward (eval_kept size env (f.0.0, each_front HasShortLength (strings size) (strings value) f.1) v) λ n p.
            onward (eval_kept value env (f.0.1, each_back HasShortLength (strings size) (strings value) f.1) v) λ x q.
            onward (int_kept n p) λ k _. array_kept k x q)
        eval_kept (Assign _ place value) env f v =
            paid (onward (locate_kept place env (f.0.0, each_front HasShortLength (place_strings place) (strings value) f.1) v) λ l _.
            onward (eval_kept value env (f.0.1, each_back HasShortLength (place_strings place) (strings value) f.1) v) λ x p.
            onward (write_kept l x p) λ _ _. give tt)
        eval_kept (If _ test this other) env f v =
            let rest = each_back HasShortLength (strings test) (strings this ++ strings other) f.1 in
            paid (onward (eval_kept test env (f.0.0, each_front HasShortLength (strings test) (strings this ++ strings other) f.1) v) λ x _.
            choose_kept x _ _ (eval_kept this env (f.0.1, each_front HasShortLength (strings this) (strings other) rest) v)
            (eval_kept other env (f.0.2, each_back HasShortLength (strings this) (strings other) rest) v))
        eval_kept (When _ test this) env f v =
            paid (onward (eval_kept test env (f.0.0, each_front HasShortLength (strings test) (strings this) f.1) v) λ x _.
            choose_kept x _ _ (eval_kept this env (f.0.1, each_back HasShortLength (strings test) (strings this) f.1) v) (give tt))
        eval_kept (While _ test body) env f v =
            let t : IsFitExp test = (f.0.0, each_front HasShortLength (strings test) (strings body) f.1) in
            let b : IsFitExp body = (f.0.1, each_back HasShortLength (strings test) (strings body) f.1) in
            paid (while_kept _ _ (repeat_while test body env) (eval_kept test env t v) (eval_kept body env b v) (t, b, v))
        eval_kept (For _ x low high body) env f v =
            let rest = each_back HasShortLength (strings low) (strings high ++ strings body) f.1 in
            let b : IsFitExp body = (f.0.2, each_back HasShortLength (strings high) (strings body) rest) in
            paid (onward (eval_kept low env (f.0.0, each_front HasShortLength (strings low) (strings high ++ strings body) f.1) v) λ l p.
            onward (eval_kept high env (f.0.1, each_front HasShortLength (strings high) (strings body) rest) v) λ h q.
            onward (int_kept l p) λ i r. onward (int_kept h q) λ j _. onward (L.news (int i) r) λ place _.
            chosen Value IsSmallValue (less j i) _ _ (λ e. give tt)
            (for_kept place j _ (repeat_for place j body (with_variable (name_of x) place env))
            (eval_kept body (with_variable (name_of x) place env) b v) (b, v)))
        eval_kept (Let _ decs body) env f v =
            paid (onward (declare_kept decs env (f.0.0, each_front HasShortLength (decs_strings decs) (exps_strings body) f.1) v) λ inner w.
            eval_last_kept nothing body inner tt (f.0.1, each_back HasShortLength (decs_strings decs) (exps_strings body) f.1) w)
        eval_kept (Seq _ es) env f v = paid (eval_last_kept nothing es env tt f v)

        pub locate_kept : (p : LValue) (env : Env) → IsFitPlace p → IsFitEnv env → S Location (whatever Location) (E.locate Action M after p env)
        locate_kept (Simple x) env f v = paid (onward (look_up_kept x env v) λ d _. locate_variable_kept d)
        locate_kept (Field p g) env f v = paid (onward (locate_kept p env f v) λ l _. onward (read_kept l) λ x _. locate_field_kept x _)
        locate_kept (Index p e) env f v =
            paid (onward (locate_kept p env (f.0.0, each_front HasShortLength (place_strings p) (strings e) f.1) v) λ l _. onward (read_kept l) λ x _.
            onward (eval_kept e env (f.0.1, each_back HasShortLength (place_strings p) (strings e) f.1) v) λ i _. locate_element_kept x i)

        pub eval_all_kept : (es : Exps) (env : Env) → AreFitExps es → IsFitEnv env →
            S (List Value) (λ vs. Each IsSmallValue vs) (E.eval_all Action M after es env)
        eval_all_kept no_exps env f v = give tt
        eval_all_kept (exp e rest) env f v =
            onward (eval_kept e env (f.0.0, each_front HasShortLength (strings e) (exps_strings rest) f.1) v) λ x p.
            onward (eval_all_kept rest env (f.0.1, each_back HasShortLength (strings e) (exps_strings rest) f.1) v) λ xs ps. give (p, ps)

        pub eval_last_kept : (x : Value) (es : Exps) (env : Env) → IsSmallValue x → AreFitExps es → IsFitEnv env →
            S Value IsSmallValue (E.eval_last Action M after x es env)
        eval_last_kept x no_exps env p f v = give p
        eval_last_kept x (exp e rest) env p f v =
            onward (eval_kept e env (f.0.0, each_front HasShortLength (strings e) (exps_strings rest) f.1) v) λ y q.
            eval_last_kept y rest env q (f.0.1, each_back HasShortLength (strings e) (exps_strings rest) f.1) v

        pub eval_inits_kept : (is : Inits) (env : Env) → AreFitInits is → IsFitEnv env →
            S (List (ℕ × Value)) (λ parts. Each IsSmallPart parts) (E.eval_inits Action M after is env)
        eval_inits_kept no_inits env f v = give tt
        eval_inits_kept (init g e rest) env f v =
            onward (eval_kept e env (f.0.0, each_front HasShortLength (strings e) (inits_strings rest) f.1) v) λ x p.
            onward (eval_inits_kept rest env (f.0.1, each_back HasShortLength (strings e) (inits_strings rest) f.1) v) λ xs ps. give (p, ps)

        pub declare_kept : (ds : Decs) (env : Env) → AreFitDecs ds → IsFitEnv env → S Env IsFitEnv (E.declare Action M after ds env)
        declare_kept no_decs env f v = give v
        declare_kept (types ts rest) env f v = paid (declare_kept rest env f v)
        declare_kept (variable_dec x _ e rest) env f v =
            paid (onward (eval_kept e env (f.0.0, each_front HasShortLength (strings e) (decs_strings rest) f.1) v) λ y p. onward (L.news y p) λ place _.
            declare_kept rest _ (f.0.1, each_back HasShortLength (strings e) (decs_strings rest) f.1) v)
        declare_kept (functions fs rest) env f v =
            paid (declare_kept rest _ (f.0.1, each_back HasShortLength (bodies_strings fs) (decs_strings rest) f.1)
            ((f.0.0, each_front HasShortLength (bodies_strings fs) (decs_strings rest) f.1), v))

      params_kept : (ps : List Param) (vs : List Value) (env : Env) → Each IsSmallValue vs → IsFitEnv env →
          S Env IsFitEnv (E.bind_params Action M after ps vs env)
      params_kept [] [] env h v = give v
      params_kept (p ∷ ps) (x ∷ xs) env h v = paid (onward (L.news x h.0) λ place _. params_kept ps xs _ h.1 v)
      params_kept _ _ env h v = over tt

      pub run_kept : (job : Job) → IsFitJob job → S Value IsSmallValue (E.run Action M after job)
      run_kept (run_function level f seen args) j =
          onward (params_kept _ _ _ j.2 j.1) λ env v. onward (L.bodies _ (eval_kept f.body env j.0 v)) λ x p. onward L.ascends λ _ _.
          onward (L.unweighs _) λ _ _. give p
      run_kept (repeat_while test body env) j = while_kept _ _ (repeat_while test body env) (eval_kept test env j.0 j.2) (eval_kept body env j.1 j.2) j
      run_kept (repeat_for place high body env) j = for_kept place high _ (repeat_for place high body env) (eval_kept body env j.0 j.1) j

      pub program_kept : (body : Exp) (entries : List Entry) → IsFitExp body → AreFitEntries entries →
          S Value IsSmallValue (E.run_program Action M after body entries)
      program_kept body entries f v = onward (L.weighs _) λ _ _. L.bodies _ (eval_kept body _ f v)
