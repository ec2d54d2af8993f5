-- Labels, strings and what the laws ask for, computed of small programs. Above each stands its text.
use Rattle.std.proofs.Common.{◌≡◌, ℕ, List, [], ◌∷◌, map, None, true, false, refl, inl, inr, arith}
use Rattle.std.specs.Prelude.{zero, suc, ◌+◌, ◌*◌, Some, codes, nat_eq}
use Rattle.std.specs.List.{list_any}
use Rattle.tg_base.specs.declared.ids.Span.{Span}
use Rattle.tg_symbols.specs.Tables.{looked_up}
use Rattle.tg_syntax.specs.declared.tokens.Ident.{Ident}
use Rattle.tg_syntax.specs.declared.trees.Op.TheVariants as op
use Rattle.tg_syntax.specs.Functions.{program_functions}
use Rattle.tg_syntax.specs.Tree.{Exp, Break, Int, Text, Read, Call, Binary, Assign, If, When, While, For, Let, Seq, Simple, no_exps, exp, no_decs}
use Rattle.tg_syntax.specs.Tree.{variable, functions, no_functions, function}
use Rattle.tg_semantics.specs.declared.standards.Standard.TheVariants as standard
use Rattle.tg_typecheck.specs.declared.notes.Means.{Means}
use Rattle.tg_typecheck.specs.declared.notes.Means.TheVariants as means
use Rattle.tg_tree.specs.Tree.{Tx, Load}
use Rattle.tg_tree.specs.Sizes.{tree_length}
use Rattle.tg_tree.specs.Named.{function_labels, literal_labels}
use Rattle.tg_translate.specs.mirror.Constructs.{slot_address, frame_out}
use Rattle.tg_translate.specs.mirror.Scopes.{Findings}
use Rattle.tg_translate.specs.mirror.Translate.{translated}
use Rattle.tg_translate_laws.specs.Accesses.{AccessesWithinTx}
use Rattle.tg_translate_laws.specs.Depths.{ts_depth}
use Rattle.tg_translate_laws.specs.Escaped.{program_escaping}
use Rattle.tg_translate_laws.specs.Standing.{BreaksStand, Reaches}
use Rattle.tg_translate_laws.specs.Strings.{strings}
use Rattle.tg_translate_laws.specs.laws.Laws.{names, paid, node_length, parameter_length, function_length}

abbrev sp : Span
sp = record { from = 0; to = 0 }

abbrev id : ℕ → Ident
id n = record { name = record { 0 = n }; span = record { from = n; to = n } }

abbrev meanings : List (ℕ × Means)
meanings = (1, means.Variable 1) ∷ (11, means.Function 11) ∷ (30, means.Standard standard.Print) ∷ []

abbrev findings : (escaping : List ℕ) → Findings
findings escaping = record {
  meaning = λ at. looked_up at meanings;
  escapes = λ at. list_any (nat_eq at) escaping;
  keeps_link = λ at. false;
}

-- let var x := 0 function f(k: int) = let function g() = x := x + k in g() end in f(1) end, where x and k escape and f
-- keeps its static link
abbrev nested_findings : Findings
nested_findings = record {
  meaning = λ at. looked_up at ((2, means.Variable 2) ∷ (12, means.Function 12) ∷ meanings);
  escapes = λ at. list_any (nat_eq at) (1 ∷ 2 ∷ []);
  keeps_link = λ at. list_any (nat_eq at) (11 ∷ []);
}

abbrev nested : Exp
nested =
    Let sp
    (variable (id 1) None (Int sp 0)
    (functions
    (function (id 11) (record { name = id 2; kind = id 0 } ∷ []) None
    (Let sp
    (functions
    (function (id 12) [] None
    (Assign sp (Simple (id 1)) (Binary sp op.Plus 0 (Read sp (Simple (id 1))) (Read sp (Simple (id 2))))) no_functions)
    no_decs)
    (exp (Call sp (id 12) no_exps) no_exps)) no_functions)
    no_decs))
    (exp (Call sp (id 11) (exp (Int sp 1) no_exps)) no_exps)

nested_levels : map (λ m. m.level) (program_functions nested) ≡ 0 ∷ 1 ∷ 2 ∷ []
nested_levels = refl

nested_escaping : program_escaping nested_findings.escapes nested ≡ 1 ∷ 1 ∷ 0 ∷ []
nested_escaping = refl

nested_slots : map (λ f. f.slots) (translated nested_findings nested).functions ≡ 1 ∷ 2 ∷ 0 ∷ []
nested_slots = refl

-- x is read and assigned two functions outwards: the frame that it stands in is found once, and kept after g's own link
nested_temps : map (λ f. f.temps) (translated nested_findings nested).functions ≡ 0 ∷ 0 ∷ 2 ∷ []
nested_temps = refl

-- the variable of a slot two functions outwards: two links, and the variable
abbrev two_outwards : Tx
two_outwards = Load (slot_address (frame_out true 2) 0)

three_accesses : AccessesWithinTx 3 two_outwards
three_accesses = (((tt, tt), tt), tt)

no_two_accesses : AccessesWithinTx 2 two_outwards → ⊥
no_two_accesses h = h.0.0

-- let function f() = (print("a"); print("b")) in f(); print("c") end
abbrev said : Exp
said =
    Let sp
    (functions
    (function (id 11) [] None
    (Seq sp (exp (Call sp (id 30) (exp (Text sp (codes "a")) no_exps))
    (exp (Call sp (id 30) (exp (Text sp (codes "b")) no_exps)) no_exps))) no_functions)
    no_decs)
    (exp (Call sp (id 11) no_exps) (exp (Call sp (id 30) (exp (Text sp (codes "c")) no_exps)) no_exps))

said_functions : function_labels names (translated (findings []) said) ≡ 32 ∷ 33 ∷ []
said_functions = refl

said_literals : literal_labels names (translated (findings []) said) ≡ 34 ∷ 35 ∷ 36 ∷ []
said_literals = refl

said_strings : strings said ≡ codes "a" ∷ codes "b" ∷ codes "c" ∷ []
said_strings = refl

-- while 1 do break, and a break alone
break_stands : BreaksStand false (While sp (Int sp 1) (Break sp))
break_stands = (tt, refl)

break_alone : BreaksStand false (Break sp) → ⊥
break_alone e = cc

-- let var x := 0 function f() = (x; ()) in f() end
abbrev used : Exp
used =
    Let sp
    (variable (id 1) None (Int sp 0)
    (functions (function (id 11) [] None (Seq sp (exp (Read sp (Simple (id 1))) (exp (Seq sp no_exps) no_exps)))
    no_functions) no_decs))
    (exp (Call sp (id 11) no_exps) no_exps)

used_inside : Reaches (findings []) [] [] used → ⊥
used_inside h = elim h.0.2.0.1.0 [ inl c ↦ omega (arith, c.1) | inr e ↦ cc ]

-- Lengths and depths, by adding up what each node has.

abbrev lengths : Findings → Exp → List ℕ
lengths findings e = map (λ f. tree_length f) (translated findings e).functions

-- 1 + 2: the sum is dropped, and 0 returned
sum_length : lengths (findings []) (Binary sp op.Plus 0 (Int sp 1) (Int sp 2)) ≡ ((1 + (2 + 2)) + (16 + 2)) ∷ []
sum_length = refl

-- 1 & 2: a choice between the second value and 0, which goes nowhere
choice_length : lengths (findings []) (Binary sp op.And 0 (Int sp 1) (Int sp 2)) ≡ ((4 + ((4 + (2 + 2)) + (2 + 2))) + (16 + 2)) ∷ []
choice_length = refl

-- if (if 1 then 2 else 0) then (): both of two tests, as in 1 & 2
both_length : lengths (findings []) (When sp (If sp (Int sp 1) (Int sp 2) (Int sp 0)) (Seq sp no_exps)) ≡
    ((4 + ((14 + ((4 + (2 + 2)) + (4 + (2 + 2)))) + 2)) + (16 + 2)) ∷ []
both_length = refl

-- for i := 1 to 2 do (), with i in a temporary: the bound that is kept, the test, the first value, the loop's addition, its body, and the
-- test for its end
turns_length : lengths (findings []) (For sp (id 1) (Int sp 1) (Int sp 2) (Seq sp no_exps)) ≡
    ((2 + 2) + (4 + (4 + 2)) + (2 + 2) + 4 + (2 + (1 + 2)) + 2 + (4 + 4 + 3) + (16 + 2)) ∷ []
turns_length = refl

-- let function f() = () in .. end, where so many functions are nested in one another, and the innermost calls f

abbrev calling_outermost : ℕ → Exp
calling_outermost zero = Call sp (id 11) no_exps
calling_outermost (suc n) =
    Let sp (functions (function (id (100 + n)) [] None (calling_outermost n) no_functions) no_decs) (exp (Call sp (id (100 + n)) no_exps) no_exps)

abbrev far : ℕ → Exp
far n = Let sp (functions (function (id 11) [] None (Seq sp no_exps) no_functions) no_decs) (exp (calling_outermost n) no_exps)

-- each name is a function's, and each function keeps its link in a slot
abbrev far_findings : Findings
far_findings = record { meaning = λ at. Some (means.Function at); escapes = λ at. false; keeps_link = λ at. true }

abbrev last_of : {A : Type 0} → A → List A → A
last_of x [] = x
last_of x (y ∷ ys) = last_of y ys

-- x := x + k in g above: the link to x's frame is kept, and x and k stand in slots
nested_length : last_of 0 (lengths nested_findings nested) ≡ 6 + (2 + (1 + (1 + 2))) + (1 + (1 + 2) + (1 + (1 + (1 + 2)) + (1 + (1 + 2)))) + (16 + 2)
nested_length = refl

-- The dearest node, a call over 32 levels: itself, its link, which is stored, and 4 for each level. It pays for 2 more, which the
-- link would have where something of the arguments is hoisted.
far_length : last_of 0 (lengths far_findings (far 32)) ≡ 6 + (4 + 4 + (1 + 4 * 32)) + (16 + 2)
far_length = refl

far_paid : last_of 0 (map (paid node_length parameter_length function_length) (program_functions (far 32))) ≡ 145 + 18
far_paid = refl

far_depth : last_of 0 (map (λ f. ts_depth f.body) (translated far_findings (far 32)).functions) ≡ 3 + (1 + 2 * 32)
far_depth = refl
