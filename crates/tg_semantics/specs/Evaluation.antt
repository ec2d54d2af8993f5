-- Evaluation: what each expression does (Appel, appendix A), whatever the form of actions. Each
-- node that is evaluated costs 1, and so does each level that a name crosses, each byte that a
-- standard function or a comparison goes over, each element that is made, and each declaration and
-- parameter.
use Rattle.std.specs.Prelude.{ℕ, zero, suc, ◌+◌, ◌-◌, ◌^◌, ◌==◌, List, [], ◌∷◌, ◌++◌, length, take}
use Rattle.std.specs.Prelude.{drop, replicate, Option, Some, None, Bool, true, false, ◌||◌, nat_lt}
use Rattle.std.specs.Prelude.{if◌then◌else◌, slice_get}
use Rattle.std.specs.Str.{bytes_eq}
use Rattle.tg_base.specs.Words.{add, less, is_negative, exact_sum, exact_difference, exact_product}
use Rattle.tg_syntax.specs.declared.tokens.Ident.{Ident}
use Rattle.tg_syntax.specs.declared.trees.Param.{Param}
use Rattle.tg_syntax.specs.declared.trees.Op.{Op}
use Rattle.tg_syntax.specs.declared.trees.Op.TheVariants.{Plus, Minus, Times, Divide, And, Or}
use Rattle.tg_syntax.specs.Tree.{Exp, Nil, Break, Int, Text, Read, Call, Neg, Binary, Make, Fill}
use Rattle.tg_syntax.specs.Tree.{Assign, If, When, While, For, Let, Seq, LValue, Simple, Field}
use Rattle.tg_syntax.specs.Tree.{Index, Exps, no_exps, exp, Inits, no_inits, init, Decs, no_decs}
use Rattle.tg_syntax.specs.Tree.{types, variable as variable_dec, functions, FunDecs, no_functions}
use Rattle.tg_syntax.specs.Tree.{function}
use Rattle.tg_simulation.specs.Outcomes.{ended, out_of_fuel, stuck}
use Rattle.tg_semantics.specs.declared.standards.Standard.{Standard}
use Rattle.tg_semantics.specs.declared.standards.Standard.TheVariants.{Print, Flush, Getchar, Ord}
use Rattle.tg_semantics.specs.declared.standards.Standard.TheVariants.{Chr, Size, Substring, Concat}
use Rattle.tg_semantics.specs.declared.standards.Standard.TheVariants.{Not, Exit}
use Rattle.tg_semantics.specs.Values.{Value, int, string, nil, reference, nothing, Object, fields}
use Rattle.tg_semantics.specs.Values.{elements, Entry, variable, group, Env, Ending, by_nil}
use Rattle.tg_semantics.specs.Values.{by_index, by_division, by_chr, by_substring, by_size}
use Rattle.tg_semantics.specs.Values.{by_overflow, by_exit}
use Rattle.tg_semantics.specs.Actions.{Actions}
use Rattle.tg_semantics.specs.Environments.{name_of, SourceFunction, Bound, to_variable}
use Rattle.tg_semantics.specs.Environments.{to_function, to_standard, find, levels_out}
use Rattle.tg_semantics.specs.Levels.{program_weight, function_weight, runtime_weight}
use Rattle.tg_semantics.specs.Operators.{exact_quotient, is_below, string_less, comparison}
use Rattle.tg_semantics.specs.Operators.{identity, truth, field_in, element_in, with_field}
use Rattle.tg_semantics.specs.Operators.{with_element, record_bytes, array_bytes, string_bytes}

-- an l-value (appendix A.3) whose checks are made
pub data Location : Type 0 where
  in_variable : (place : ℕ) → Location
  in_field : (object name : ℕ) → Location
  in_element : (object index : ℕ) → Location

-- what stands after a unit of fuel: a function's run on its arguments, or a loop from its head on
pub data Job : Type 0 where
  run_function : (level : ℕ) → SourceFunction → List Entry → List Value → Job
  repeat_while : (test body : Exp) → Env → Job
  repeat_for : (place high : ℕ) → (body : Exp) → Env → Job

-- the functions of a group
abbrev pub function_count : FunDecs → ℕ
function_count no_functions = 0
function_count (function _ _ _ _ rest) = suc (function_count rest)

-- with a variable in front
abbrev pub with_variable : (name place : ℕ) → Env → Env
with_variable name place env = record env { entries = variable name env.level place ∷ env.entries }

module _ (Action : Type 0 → Type 0) (M : Actions Action) where
  open M use {give, bind, break, over, in_loop, in_function, turn, look, new_variable, set_variable}
  open M use {new_object, set_object, take_heap, read_byte, write, spend, weigh, unweigh, descend}
  open M use {ascend}

  infixl 10 ◌>>=◌
  infixl 10 ◌>>◌
  abbrev pub ◌>>=◌ : {A B : Type 0} → Action A → (A → Action B) → Action B
  ◌>>=◌ m next = bind m next

  abbrev pub ◌>>◌ : {A B : Type 0} → Action A → Action B → Action B
  ◌>>◌ m next = bind m (λ _. next)

  abbrev pub end_program : {A : Type 0} → Ending → Action A
  end_program e = over (ended e)

  -- a thing that has to be there
  abbrev pub known : {A : Type 0} → Option A → Action A
  known thing = look (λ w. thing)

  -- an int, where no other value may stand
  abbrev pub int_of : Value → Action ℕ
  int_of (int n) = give n
  int_of _ = over stuck

  -- 0 is false, and each other int is true (appendix A.3, "boolean operators")
  abbrev pub choose : Value → (this other : Action Value) → Action Value
  choose (int zero) this other = other
  choose (int (suc n)) this other = this
  choose _ this other = over stuck

  -- Locations (appendix A.3, "L-values"). A field of nil and an index outside its array, which the
  -- book leaves open, end the program.

  abbrev pub read_location : Location → Action Value
  read_location (in_variable place) = look (λ w. slice_get w.variables place)
  read_location (in_field r f) = do
    object ← look (λ w. slice_get w.objects r)
    known (field_in f object)
  read_location (in_element r i) = do
    object ← look (λ w. slice_get w.objects r)
    known (element_in i object)

  -- what stands there is replaced
  abbrev pub replace : Location → Value → Action (Unit {0})
  replace (in_variable place) v = set_variable place v
  replace (in_field r f) v = do
    object ← look (λ w. slice_get w.objects r)
    set_object r (with_field f v object)
  replace (in_element r i) v = do
    object ← look (λ w. slice_get w.objects r)
    set_object r (with_element i v object)

  -- a store to what isn't there is stuck, as a read is
  abbrev pub write_location : Location → Value → Action (Unit {0})
  write_location location v = read_location location >> replace location v

  -- What a name is bound to. The levels out to its declaration are paid here, since code goes out
  -- to it before it does anything else with it: for a call, before the arguments are evaluated.
  abbrev pub look_up : Ident → Env → Action Bound
  look_up x env = do
    bound ← known (find (name_of x) env.entries)
    spend (levels_out env.level bound)
    give bound

  abbrev pub locate_variable : Bound → Action Location
  locate_variable (to_variable level place) = give (in_variable place)
  locate_variable _ = over stuck

  abbrev pub locate_field : Value → (name : ℕ) → Action Location
  locate_field nil f = end_program by_nil
  locate_field (reference r) f = give (in_field r f)
  locate_field _ f = over stuck

  abbrev pub locate_within : (object index : ℕ) → Object → Action Location
  locate_within r i (elements values) =
      if is_below i (length values) then give (in_element r i) else end_program by_index
  locate_within r i (fields parts) = over stuck

  abbrev pub locate_element : Value → Value → Action Location
  locate_element (reference r) (int i) = do
    object ← look (λ w. slice_get w.objects r)
    locate_within r i object
  locate_element _ _ = over stuck

  -- Operators (appendix A.3, "arithmetic", "comparison", "string comparison", "boolean operators").

  -- an int that is exact, or overflow
  abbrev pub exactly : Option ℕ → Action Value
  exactly (Some n) = give (int n)
  exactly None = end_program by_overflow

  -- a quotient, or division by zero
  abbrev pub quotient : ℕ → ℕ → Action Value
  quotient a zero = end_program by_division
  quotient a (suc b) = exactly (exact_quotient a (suc b))

  -- 1 where a comparison holds, and else 0
  abbrev pub held : Option Bool → Action Value
  held test = do
    b ← known test
    give (truth b)

  abbrev pub operate_ints : Op → ℕ → ℕ → Action Value
  operate_ints Plus a b = exactly (exact_sum a b)
  operate_ints Minus a b = exactly (exact_difference a b)
  operate_ints Times a b = exactly (exact_product a b)
  operate_ints Divide a b = quotient a b
  operate_ints op a b = held (comparison op (a == b) (less a b) (less b a))

  -- a call of the runtime, which is open while it acts
  abbrev pub runtime : {A : Type 0} → Action A → Action A
  runtime m = do
    weigh runtime_weight
    a ← m
    unweigh runtime_weight
    give a

  -- strings are compared by the runtime, records and arrays by identity
  abbrev pub operate : Op → Value → Value → Action Value
  operate op (int a) (int b) = operate_ints op a b
  operate op (string a) (string b) = runtime (do
    spend (length a + length b)
    held (comparison op (bytes_eq a b) (string_less a b) (string_less b a)))
  operate op nil nil = held (identity op true)
  operate op nil (reference b) = held (identity op false)
  operate op (reference a) nil = held (identity op false)
  operate op (reference a) (reference b) = held (identity op (a == b))
  operate op _ _ = over stuck

  -- an operator whose left side is evaluated: `&` and `|` may pass by the right one
  abbrev pub with_left : Op → Value → (right : Action Value) → Action Value
  with_left And x right = choose x right (give (int 0))
  with_left Or x right = choose x (give (int 1)) right
  with_left op x right = do
    y ← right
    operate op x y

  -- Creation (appendix A.3, "record creation", "array creation"): calls of the runtime.

  abbrev pub make_record : List (ℕ × Value) → Action Value
  make_record parts = runtime (do
    take_heap (record_bytes (length parts))
    r ← new_object (fields parts)
    give (reference r))

  abbrev pub make_array : ℕ → Value → Action Value
  make_array n v = runtime (if is_negative n then end_program by_size else (do
    take_heap (array_bytes n)
    spend n
    r ← new_object (elements (replicate n v))
    give (reference r)))

  abbrev pub make_string : List ℕ → Action Value
  make_string bytes = do
    take_heap (string_bytes (length bytes))
    spend (length bytes)
    give (string bytes)

  -- Standard functions (appendix A.4), which are calls of the runtime.

  -- -1 for the empty string
  abbrev pub first_byte : List ℕ → ℕ
  first_byte [] = 2 ^ 32 - 1
  first_byte (b ∷ bytes) = b

  abbrev pub substring : List ℕ → (first n : ℕ) → Action Value
  substring s first n =
      if is_negative first || is_negative n || nat_lt (length s) (first + n)
      then end_program by_substring
      else make_string (take n (drop first s))

  abbrev pub call_standard : Standard → List Value → Action Value
  call_standard Print (string s ∷ []) = spend (length s) >> write s >> give nothing
  call_standard Flush [] = give nothing
  call_standard Getchar [] = read_byte >>= λ s. make_string s
  call_standard Ord (string s ∷ []) = spend (length s) >> give (int (first_byte s))
  call_standard Chr (int i ∷ []) =
      if is_below i 256 then make_string (i ∷ []) else end_program by_chr
  call_standard Size (string s ∷ []) = spend (length s) >> give (int (length s))
  call_standard Substring (string s ∷ int first ∷ int n ∷ []) =
      spend (length s) >> substring s first n
  call_standard Concat (string s ∷ string t ∷ []) =
      spend (length s + length t) >> make_string (s ++ t)
  call_standard Not (int i ∷ []) = give (truth (i == 0))
  call_standard Exit (int i ∷ []) = end_program (by_exit i)
  call_standard _ _ = over stuck

  -- Expressions (appendix A.3), where `after_turn` is what stands after a unit of fuel.

  module _ (after_turn : Job → Action Value) where
    -- a call whose arguments are evaluated: the activation opens, and then the unit of fuel is used
    abbrev pub call : Bound → List Value → Action Value
    call (to_function level f seen) args = do
      weigh (function_weight level f seen)
      descend
      turn (after_turn (run_function level f seen args))
    call (to_standard f) args = runtime (call_standard f args)
    call (to_variable level place) args = over stuck

    -- A loop from its head on (appendix A.3, "while", "for"); its `for` variable has a value
    -- already. The upper bound is compared before 1 is added, so it may be the greatest int.
    abbrev pub while_loop : (test body : Action Value) → (again : Job) → Action Value
    while_loop test body again = do
      v ← test
      choose v (in_loop body (turn (after_turn again))) (give nothing)

    abbrev pub for_loop : (place high : ℕ) → (body : Action Value) → (again : Job) → Action Value
    for_loop place high body again = in_loop body (do
      v ← look (λ w. slice_get w.variables place)
      i ← int_of v
      if i == high then give nothing else (do
        set_variable place (int (add i 1))
        turn (after_turn again)))

    abbrev mutual
      pub eval : Exp → Env → Action Value
      eval (Nil _) env = spend 1 >> give nil
      eval (Break _) env = spend 1 >> break
      eval (Int _ n) env = spend 1 >> give (int n)
      eval (Text _ bytes) env = spend 1 >> give (string bytes)
      eval (Read _ v) env = do
        spend 1
        location ← locate v env
        read_location location
      eval (Call _ f args) env = do
        spend 1
        callee ← look_up f env
        values ← eval_all args env
        call callee values
      eval (Neg _ a) env = do
        spend 1
        x ← eval a env
        operate Minus (int 0) x
      eval (Binary _ op _ a b) env = do
        spend 1
        x ← eval a env
        with_left op x (eval b env)
      eval (Make _ _ inits) env = do
        spend 1
        parts ← eval_inits inits env
        make_record parts
      eval (Fill _ _ size value) env = do
        spend 1
        n ← eval size env
        v ← eval value env
        n ← int_of n
        make_array n v
      eval (Assign _ place value) env = do
        spend 1
        location ← locate place env
        v ← eval value env
        write_location location v
        give nothing
      eval (If _ test this other) env = do
        spend 1
        v ← eval test env
        choose v (eval this env) (eval other env)
      eval (When _ test this) env = do
        spend 1
        v ← eval test env
        choose v (eval this env) (give nothing)
      eval (While _ test body) env = do
        spend 1
        while_loop (eval test env) (eval body env) (repeat_while test body env)
      eval (For _ x low high body) env = do
        spend 1
        l ← eval low env
        h ← eval high env
        l ← int_of l
        h ← int_of h
        place ← new_variable (int l)
        let inner = with_variable (name_of x) place env
        if less h l then give nothing
            else for_loop place h (eval body inner) (repeat_for place h body inner)
      eval (Let _ decs body) env = do
        spend 1
        inner ← declare decs env
        eval_last nothing body inner
      eval (Seq _ es) env = spend 1 >> eval_last nothing es env

      -- an l-value, its parts from the left
      pub locate : LValue → Env → Action Location
      locate (Simple x) env = do
        spend 1
        bound ← look_up x env
        locate_variable bound
      locate (Field place f) env = do
        spend 1
        location ← locate place env
        v ← read_location location
        locate_field v (name_of f)
      locate (Index place e) env = do
        spend 1
        location ← locate place env
        v ← read_location location
        i ← eval e env
        locate_element v i

      -- arguments, from the left
      pub eval_all : Exps → Env → Action (List Value)
      eval_all no_exps env = give []
      eval_all (exp e rest) env = do
        v ← eval e env
        values ← eval_all rest env
        give (v ∷ values)

      -- the value of the last, or this one where there is none
      pub eval_last : Value → Exps → Env → Action Value
      eval_last v no_exps env = give v
      eval_last v (exp e rest) env = do
        w ← eval e env
        eval_last w rest env

      -- fields of a creation, from the left
      pub eval_inits : Inits → Env → Action (List (ℕ × Value))
      eval_inits no_inits env = give []
      eval_inits (init f e rest) env = do
        v ← eval e env
        parts ← eval_inits rest env
        give ((name_of f, v) ∷ parts)

      -- declarations (appendix A.2); a variable is seen after its own value
      pub declare : Decs → Env → Action Env
      declare no_decs env = give env
      declare (types ts rest) env = spend (length ts) >> declare rest env
      declare (variable_dec x _ e rest) env = do
        spend 1
        v ← eval e env
        place ← new_variable v
        declare rest (with_variable (name_of x) place env)
      declare (functions fs rest) env =
          spend (function_count fs) >>
          declare rest (record env { entries = group env.level fs ∷ env.entries })

    -- parameters are variables of the call
    abbrev pub bind_params : List Param → List Value → Env → Action Env
    bind_params [] [] env = give env
    bind_params (p ∷ params) (v ∷ values) env = do
      spend 1
      place ← new_variable v
      bind_params params values (with_variable (name_of p.name) place env)
    bind_params _ _ env = over stuck

    -- what stands after a unit of fuel is done
    abbrev pub run : Job → Action Value
    run (run_function level f seen args) = do
      env ← bind_params f.params args (record { level = suc level; entries = seen })
      v ← in_function (eval f.body env)
      ascend
      unweigh (function_weight level f seen)
      give v
    run (repeat_while test body env) =
        while_loop (eval test env) (eval body env) (repeat_while test body env)
    run (repeat_for place high body env) =
        for_loop place high (eval body env) (repeat_for place high body env)

    -- the program's body, in the outermost scope
    abbrev pub run_program : Exp → List Entry → Action Value
    run_program body entries = do
      weigh (program_weight body)
      in_function (eval body (record { level = 0; entries = entries }))

  -- what stands after a unit of fuel, where at most n units are used after it
  abbrev pub meaning : ℕ → Job → Action Value
  meaning zero job = over out_of_fuel
  meaning (suc n) job = run (λ next. meaning n next) job

  -- a program's run, with at most n units of fuel
  abbrev pub program : Exp → List Entry → ℕ → Action Value
  program body entries n = run_program (λ job. meaning n job) body entries
