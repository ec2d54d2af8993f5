-- Small programs, their first faults by the definition of typing, and the lines that explain them. Above each stands the program's text.
use Rattle.std.proofs.Common.{◌≡◌, ℕ, List, [], ◌∷◌, Option, Some, None, refl}
use Rattle.std.specs.Prelude.{codes, map}
use Prim.Native.String.{String}
use Rattle.std.specs.Fmt.{digits}
use Rattle.tg_base.specs.declared.ids.Span.{Span}
use Rattle.tg_syntax.specs.declared.tokens.Ident.{Ident}
use Rattle.tg_syntax.specs.declared.trees.Param.{Param}
use Rattle.tg_syntax.specs.declared.trees.Op.TheVariants as op
use Rattle.tg_syntax.specs.Tree.{Form, Alias, Fields, Array, TypeDec, Exp, Nil, Break, Int, Text, Read, Call, Binary, Make, Assign, If, When, While, Let, Seq}
use Rattle.tg_syntax.specs.Tree.{Simple, Field, Index, Exps, no_exps, exp, no_inits, init, no_decs, types, variable, functions, no_functions, function}
use Rattle.tg_typecheck.specs.declared.faults.TypeRule.{TypeRule}
use Rattle.tg_typecheck.specs.declared.faults.TypeRule.TheVariants.{T6, T7, T8, T9, T11, T12, T13, T14, T16, T17, T18}
use Rattle.tg_typecheck.specs.Checks.{◌>>=◌, give, refuse, note, shape_at, add_shape}
use Rattle.tg_typecheck.specs.Accepted.{Finding, accepted, at_fault, finding}
use Rattle.tg_explain_typing.specs.Facts.{weighed, compared, made, filled, repeated, assigned, chosen, selected, indexed, passed, given, outcome, ended}
use Rattle.tg_explain_typing.specs.Facts.{declared, type_facts, header_facts, opened_facts}
use Rattle.tg_explain_types.specs.Details.{explained}
use Rattle.tg_explain_types.specs.Lines.{type_lines}

-- a span, an identifier by its number and its span, a parameter, a type's declaration
abbrev s : (from to : ℕ) → Span
s from to = record { from = from; to = to }

abbrev i : (name from to : ℕ) → Ident
i name from to = record { name = record { 0 = name }; span = s from to }

abbrev p : Ident → Ident → Param
p x k = record { name = x; kind = k }

abbrev t : Ident → Form → TypeDec
t x f = record { name = x; form = f }

abbrev exps : List Exp → Exps
exps [] = no_exps
exps (e ∷ es) = exp e (exps es)

abbrev fault_of : Finding → Option (TypeRule × ℕ)
fault_of (accepted notes) = None
fault_of (at_fault rule at) = Some (rule, at)

-- the first fault of a program, whose identifiers are numbered by these names
abbrev verdict : List String → Exp → Option (TypeRule × ℕ)
verdict names e = fault_of (finding (map codes names) e)

-- the lines that explain a fault
abbrev told : String → Exp → TypeRule → (at : ℕ) → List ℕ
told text program rule at = type_lines (codes text) at (explained (codes text) program rule at)

-- 1 + "a"
abbrev adds_a_text_tree : Exp
adds_a_text_tree = (Binary (s 0 7) op.Plus 2 (Int (s 0 1) 1) (Text (s 4 7) (codes "a")))

adds_a_text_fault : verdict [] adds_a_text_tree ≡ Some (T6, 4)
unfolding ◌>>=◌ give refuse note shape_at add_shape
adds_a_text_fault = refl

adds_a_text :
    told "1 + \"a\"" adds_a_text_tree T6 4
    ≡ codes "tiger:   expected int, found string\n"
unfolding weighed compared made filled repeated assigned chosen selected indexed passed given outcome ended declared type_facts header_facts opened_facts
adds_a_text = refl

-- let type list = {first: int} var a := list {first = 1} in a.first := "x" end
abbrev assigns_a_text_tree : Exp
assigns_a_text_tree = (Let (s 0 76) (types (t (i 0 9 13) (Fields (p (i 1 17 22) (i 2 24 27) ∷ [])) ∷ []) (variable (i 3 33 34) None (Make (s 38 54) (i
    0 38 42) (init (i 1 44 49) (Int (s 52 53) 1) no_inits)) no_decs)) (exps ((Assign (s 58 72) (Field (Simple (i 3 58 59)) (i 1 60 65)) (Text (s 69 72)
    (codes "x"))) ∷ [])))

assigns_a_text_fault : verdict ("list" ∷ "first" ∷ "int" ∷ "a" ∷ []) assigns_a_text_tree ≡ Some (T6, 69)
unfolding ◌>>=◌ give refuse note shape_at add_shape
assigns_a_text_fault = refl

assigns_a_text :
    told "let type list = {first: int} var a := list {first = 1} in a.first := \"x\" end" assigns_a_text_tree T6 69
    ≡ codes "tiger:   expected int, found string\n"
unfolding weighed compared made filled repeated assigned chosen selected indexed passed given outcome ended declared type_facts header_facts opened_facts
assigns_a_text = refl

-- let type list = {n: int} function f(l: list) = () in f(3) end
abbrev passes_a_list_tree : Exp
passes_a_list_tree = (Let (s 0 61) (types (t (i 0 9 13) (Fields (p (i 1 17 18) (i 2 20 23) ∷ [])) ∷ []) (functions (function (i 3 34 35) (p (i 4 36
    37) (i 0 39 43) ∷ []) None (Seq (s 47 49) (exps ([]))) no_functions) no_decs)) (exps ((Call (s 53 57) (i 3 53 54) (exps ((Int (s 55 56) 3) ∷ []))) ∷
    [])))

passes_a_list_fault : verdict ("list" ∷ "n" ∷ "int" ∷ "f" ∷ "l" ∷ []) passes_a_list_tree ≡ Some (T6, 55)
unfolding ◌>>=◌ give refuse note shape_at add_shape
passes_a_list_fault = refl

passes_a_list :
    told "let type list = {n: int} function f(l: list) = () in f(3) end" passes_a_list_tree T6 55
    ≡ codes "tiger:   expected list of 1:10, found int\n"
unfolding weighed compared made filled repeated assigned chosen selected indexed passed given outcome ended declared type_facts header_facts opened_facts digits
passes_a_list = refl

-- let type a = array of int function f(): a = 1 in end
abbrev gives_an_int_tree : Exp
gives_an_int_tree = (Let (s 0 52) (types (t (i 0 9 10) (Array (i 1 22 25)) ∷ []) (functions (function (i 2 35 36) ([]) (Some (i 0 40 41)) (Int (s 44
    45) 1) no_functions) no_decs)) (exps ([])))

gives_an_int_fault : verdict ("a" ∷ "int" ∷ "f" ∷ []) gives_an_int_tree ≡ Some (T6, 44)
unfolding ◌>>=◌ give refuse note shape_at add_shape
gives_an_int_fault = refl

gives_an_int :
    told "let type a = array of int function f(): a = 1 in end" gives_an_int_tree T6 44
    ≡ codes "tiger:   expected a of 1:10, found int\n"
unfolding weighed compared made filled repeated assigned chosen selected indexed passed given outcome ended declared type_facts header_facts opened_facts digits
gives_an_int = refl

-- if 1 then 2 else "a"
abbrev joins_two_tree : Exp
joins_two_tree = (If (s 0 20) (Int (s 3 4) 1) (Int (s 10 11) 2) (Text (s 17 20) (codes "a")))

joins_two_fault : verdict [] joins_two_tree ≡ Some (T6, 17)
unfolding ◌>>=◌ give refuse note shape_at add_shape
joins_two_fault = refl

joins_two :
    told "if 1 then 2 else \"a\"" joins_two_tree T6 17
    ≡ codes "tiger:   expected int, found string\n"
unfolding weighed compared made filled repeated assigned chosen selected indexed passed given outcome ended declared type_facts header_facts opened_facts
joins_two = refl

-- nil < 1
abbrev orders_nil_tree : Exp
orders_nil_tree = (Binary (s 0 7) op.Less 4 (Nil (s 0 3)) (Int (s 6 7) 1))

orders_nil_fault : verdict [] orders_nil_tree ≡ Some (T6, 0)
unfolding ◌>>=◌ give refuse note shape_at add_shape
orders_nil_fault = refl

orders_nil :
    told "nil < 1" orders_nil_tree T6 0
    ≡ codes "tiger:   expected int or string, found nil\n"
unfolding weighed compared made filled repeated assigned chosen selected indexed passed given outcome ended declared type_facts header_facts opened_facts
orders_nil = refl

-- if 1 then 2
abbrev gives_a_value_tree : Exp
gives_a_value_tree = (When (s 0 11) (Int (s 3 4) 1) (Int (s 10 11) 2))

gives_a_value_fault : verdict [] gives_a_value_tree ≡ Some (T6, 10)
unfolding ◌>>=◌ give refuse note shape_at add_shape
gives_a_value_fault = refl

gives_a_value :
    told "if 1 then 2" gives_a_value_tree T6 10
    ≡ codes "tiger:   expected no value, found int\n"
unfolding weighed compared made filled repeated assigned chosen selected indexed passed given outcome ended declared type_facts header_facts opened_facts
gives_a_value = refl

-- let var x := 1 in x.a end
abbrev reads_a_field_of_an_int_tree : Exp
reads_a_field_of_an_int_tree = (Let (s 0 25) (variable (i 0 8 9) None (Int (s 13 14) 1) no_decs) (exps ((Read (s 18 21) (Field (Simple (i 0 18 19)) (i
    1 20 21))) ∷ [])))

reads_a_field_of_an_int_fault : verdict ("x" ∷ "a" ∷ []) reads_a_field_of_an_int_tree ≡ Some (T7, 18)
unfolding ◌>>=◌ give refuse note shape_at add_shape
reads_a_field_of_an_int_fault = refl

reads_a_field_of_an_int :
    told "let var x := 1 in x.a end" reads_a_field_of_an_int_tree T7 18
    ≡ codes "tiger:   expected a record, found int\n"
unfolding weighed compared made filled repeated assigned chosen selected indexed passed given outcome ended declared type_facts header_facts opened_facts
reads_a_field_of_an_int = refl

-- let type r = {a: int, b: int} var x := r {a = 1, b = 2} in x.c end
abbrev lacks_a_field_tree : Exp
lacks_a_field_tree = (Let (s 0 66) (types (t (i 0 9 10) (Fields (p (i 1 14 15) (i 2 17 20) ∷ p (i 3 22 23) (i 2 25 28) ∷ [])) ∷ []) (variable (i 4 34
    35) None (Make (s 39 55) (i 0 39 40) (init (i 1 42 43) (Int (s 46 47) 1) (init (i 3 49 50) (Int (s 53 54) 2) no_inits))) no_decs)) (exps ((Read (s 59
    62) (Field (Simple (i 4 59 60)) (i 5 61 62))) ∷ [])))

lacks_a_field_fault : verdict ("r" ∷ "a" ∷ "int" ∷ "b" ∷ "x" ∷ "c" ∷ []) lacks_a_field_tree ≡ Some (T8, 61)
unfolding ◌>>=◌ give refuse note shape_at add_shape
lacks_a_field_fault = refl

lacks_a_field :
    told "let type r = {a: int, b: int} var x := r {a = 1, b = 2} in x.c end" lacks_a_field_tree T8 61
    ≡ codes "tiger:   fields of r of 1:10: 'a', 'b'\n"
unfolding weighed compared made filled repeated assigned chosen selected indexed passed given outcome ended declared type_facts header_facts opened_facts digits
lacks_a_field = refl

-- let var x := 1 in x[0] end
abbrev indexes_an_int_tree : Exp
indexes_an_int_tree = (Let (s 0 26) (variable (i 0 8 9) None (Int (s 13 14) 1) no_decs) (exps ((Read (s 18 22) (Index (Simple (i 0 18 19)) (Int (s 20
    21) 0))) ∷ [])))

indexes_an_int_fault : verdict ("x" ∷ []) indexes_an_int_tree ≡ Some (T9, 18)
unfolding ◌>>=◌ give refuse note shape_at add_shape
indexes_an_int_fault = refl

indexes_an_int :
    told "let var x := 1 in x[0] end" indexes_an_int_tree T9 18
    ≡ codes "tiger:   expected an array, found int\n"
unfolding weighed compared made filled repeated assigned chosen selected indexed passed given outcome ended declared type_facts header_facts opened_facts
indexes_an_int = refl

-- let type r = {a: int, b: int} in r {b = 1} end
abbrev leaves_a_field_out_tree : Exp
leaves_a_field_out_tree = (Let (s 0 46) (types (t (i 0 9 10) (Fields (p (i 1 14 15) (i 2 17 20) ∷ p (i 3 22 23) (i 2 25 28) ∷ [])) ∷ []) no_decs)
    (exps ((Make (s 33 42) (i 0 33 34) (init (i 3 36 37) (Int (s 40 41) 1) no_inits)) ∷ [])))

leaves_a_field_out_fault : verdict ("r" ∷ "a" ∷ "int" ∷ "b" ∷ []) leaves_a_field_out_tree ≡ Some (T11, 33)
unfolding ◌>>=◌ give refuse note shape_at add_shape
leaves_a_field_out_fault = refl

leaves_a_field_out :
    told "let type r = {a: int, b: int} in r {b = 1} end" leaves_a_field_out_tree T11 33
    ≡ codes "tiger:   expected field 'a', found field 'b'\n"
unfolding weighed compared made filled repeated assigned chosen selected indexed passed given outcome ended declared type_facts header_facts opened_facts
leaves_a_field_out = refl

-- 1 + ()
abbrev adds_no_value_tree : Exp
adds_no_value_tree = (Binary (s 0 6) op.Plus 2 (Int (s 0 1) 1) (Seq (s 4 6) (exps ([]))))

adds_no_value_fault : verdict [] adds_no_value_tree ≡ Some (T12, 4)
unfolding ◌>>=◌ give refuse note shape_at add_shape
adds_no_value_fault = refl

adds_no_value :
    told "1 + ()" adds_no_value_tree T12 4
    ≡ codes "tiger:   expected int, found no value\n"
unfolding weighed compared made filled repeated assigned chosen selected indexed passed given outcome ended declared type_facts header_facts opened_facts
adds_no_value = refl

-- let var x := nil in end
abbrev has_no_type_tree : Exp
has_no_type_tree = (Let (s 0 23) (variable (i 0 8 9) None (Nil (s 13 16)) no_decs) (exps ([])))

has_no_type_fault : verdict ("x" ∷ []) has_no_type_tree ≡ Some (T13, 13)
unfolding ◌>>=◌ give refuse note shape_at add_shape
has_no_type_fault = refl

has_no_type :
    told "let var x := nil in end" has_no_type_tree T13 13
    ≡ codes "tiger:   expected a type for 'x' of 1:9, found nil\n"
unfolding weighed compared made filled repeated assigned chosen selected indexed passed given outcome ended declared type_facts header_facts opened_facts digits
has_no_type = refl

-- while 1 do let function f() = break in f() end
abbrev breaks_out_tree : Exp
breaks_out_tree = (While (s 0 46) (Int (s 6 7) 1) (Let (s 11 46) (functions (function (i 0 24 25) ([]) None (Break (s 30 35)) no_functions) no_decs)
    (exps ((Call (s 39 42) (i 0 39 40) (exps ([]))) ∷ []))))

breaks_out_fault : verdict ("f" ∷ []) breaks_out_tree ≡ Some (T14, 30)
unfolding ◌>>=◌ give refuse note shape_at add_shape
breaks_out_fault = refl

breaks_out :
    told "while 1 do let function f() = break in f() end" breaks_out_tree T14 30
    ≡ codes "tiger:   the loop of 1:1 is not open in 'f' of 1:25\n"
unfolding weighed compared made filled repeated assigned chosen selected indexed passed given outcome ended declared type_facts header_facts opened_facts digits
breaks_out = refl

-- break
abbrev breaks_alone_tree : Exp
breaks_alone_tree = (Break (s 0 5))

breaks_alone_fault : verdict [] breaks_alone_tree ≡ Some (T14, 0)
unfolding ◌>>=◌ give refuse note shape_at add_shape
breaks_alone_fault = refl

breaks_alone :
    told "break" breaks_alone_tree T14 0
    ≡ codes "tiger:   no loop is open\n"
unfolding weighed compared made filled repeated assigned chosen selected indexed passed given outcome ended declared type_facts header_facts opened_facts
breaks_alone = refl

-- let type a = int type a = string in end
abbrev declares_a_type_twice_tree : Exp
declares_a_type_twice_tree = (Let (s 0 39) (types (t (i 0 9 10) (Alias (i 1 13 16)) ∷ t (i 0 22 23) (Alias (i 2 26 32)) ∷ []) no_decs) (exps ([])))

declares_a_type_twice_fault : verdict ("a" ∷ "int" ∷ "string" ∷ []) declares_a_type_twice_tree ≡ Some (T16, 22)
unfolding ◌>>=◌ give refuse note shape_at add_shape
declares_a_type_twice_fault = refl

declares_a_type_twice :
    told "let type a = int type a = string in end" declares_a_type_twice_tree T16 22
    ≡ codes "tiger:   'a' of 1:10 is declared before\n"
unfolding weighed compared made filled repeated assigned chosen selected indexed passed given outcome ended declared type_facts header_facts opened_facts digits
declares_a_type_twice = refl

-- let function f() = () function f() = () in end
abbrev declares_a_function_twice_tree : Exp
declares_a_function_twice_tree = (Let (s 0 46) (functions (function (i 0 13 14) ([]) None (Seq (s 19 21) (exps ([]))) (function (i 0 31 32) ([]) None
    (Seq (s 37 39) (exps ([]))) no_functions)) no_decs) (exps ([])))

declares_a_function_twice_fault : verdict ("f" ∷ []) declares_a_function_twice_tree ≡ Some (T17, 31)
unfolding ◌>>=◌ give refuse note shape_at add_shape
declares_a_function_twice_fault = refl

declares_a_function_twice :
    told "let function f() = () function f() = () in end" declares_a_function_twice_tree T17 31
    ≡ codes "tiger:   'f' of 1:14 is declared before\n"
unfolding weighed compared made filled repeated assigned chosen selected indexed passed given outcome ended declared type_facts header_facts opened_facts digits
declares_a_function_twice = refl

-- let function f(x: int, x: int) = () in end
abbrev takes_x_twice_tree : Exp
takes_x_twice_tree = (Let (s 0 42) (functions (function (i 0 13 14) (p (i 1 15 16) (i 2 18 21) ∷ p (i 1 23 24) (i 2 26 29) ∷ []) None (Seq (s 33 35)
    (exps ([]))) no_functions) no_decs) (exps ([])))

takes_x_twice_fault : verdict ("f" ∷ "x" ∷ "int" ∷ []) takes_x_twice_tree ≡ Some (T18, 23)
unfolding ◌>>=◌ give refuse note shape_at add_shape
takes_x_twice_fault = refl

takes_x_twice :
    told "let function f(x: int, x: int) = () in end" takes_x_twice_tree T18 23
    ≡ codes "tiger:   'x' of 1:16 is declared before\n"
unfolding weighed compared made filled repeated assigned chosen selected indexed passed given outcome ended declared type_facts header_facts opened_facts digits
takes_x_twice = refl

-- let type r = {a: int, a: int} in end
abbrev has_a_field_twice_tree : Exp
has_a_field_twice_tree = (Let (s 0 36) (types (t (i 0 9 10) (Fields (p (i 1 14 15) (i 2 17 20) ∷ p (i 1 22 23) (i 2 25 28) ∷ [])) ∷ []) no_decs) (exps
    ([])))

has_a_field_twice_fault : verdict ("r" ∷ "a" ∷ "int" ∷ []) has_a_field_twice_tree ≡ Some (T18, 22)
unfolding ◌>>=◌ give refuse note shape_at add_shape
has_a_field_twice_fault = refl

has_a_field_twice :
    told "let type r = {a: int, a: int} in end" has_a_field_twice_tree T18 22
    ≡ codes "tiger:   'a' of 1:15 is declared before\n"
unfolding weighed compared made filled repeated assigned chosen selected indexed passed given outcome ended declared type_facts header_facts opened_facts digits
has_a_field_twice = refl
