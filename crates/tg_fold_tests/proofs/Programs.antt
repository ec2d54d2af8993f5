-- Programs that are translated and then folded. Each is run with the runtime, before and after the pass, by the meaning of
-- trees itself. Above each stands its text, but for those of ExampleTrees. An identifier is its byte, and each use has the
-- byte of what it means.
use Rattle.std.proofs.Common.{◌≡◌, ℕ, ◌-◌, ◌++◌, List, [], ◌∷◌, Bool, true, refl}
use Rattle.std.specs.Prelude.{codes, pos, nat_le, nat_lt, ◌&&◌}
use Rattle.std.specs.List.{list_all}
use Rattle.tg_machine_state.specs.declared.ends.RunEnd.TheVariants.{Exit, Break as Broken}
use Rattle.tg_machine_state.specs.State.{stack_top}
use Rattle.tg_simulation.specs.Ran.{Ran, Stop, Ended}
use Rattle.tg_syntax.specs.declared.trees.Op.TheVariants as op
use Rattle.tg_syntax.specs.Tree.{Exp, Binary, If, When, While, For, no_decs}
use Rattle.tg_tree.specs.Tree.{Ts, Function, Code}
use Rattle.tg_tree.specs.Units.{Trees}
use Rattle.tg_tree.specs.Sizes.{tree_length, tree_needs}
use Rattle.tg_tree.specs.Running.{tree_run}
use Rattle.tg_runtime.specs.mirror.Routines.{runtime}
use Rattle.tg_translate.specs.mirror.Translate.{translated}
use Rattle.tg_translate.proofs.ExampleTrees.{sp, id, x, i, k, g, findings, num, get, set, call, seq, text, exit, binary, plus, let_var, block}
use Rattle.tg_translate.proofs.ExampleTrees.{counts_to_three, fields_added, elements_added, element_after_the_last, factorial_of_four, sum_by_links}
use Rattle.tg_fold.specs.laws.Laws.{folded_function}
use Rattle.tg_fold.specs.laws.Meaning.{folded_code}

abbrev say : Exp → Exp
say e = call 30 (e ∷ [])

-- a function that is no larger after the pass, in length and needs
abbrev is_no_larger : Function Ts → Bool
is_no_larger one =
    nat_le (tree_length (folded_function one)) (tree_length one) && nat_le (tree_needs (folded_function one)) (tree_needs one)

-- what a program writes, and how it stops
abbrev Seen : Type 0
Seen = List ℕ × Stop

abbrev ran : Code Ts → (fuel : ℕ) → Ran
ran code fuel = tree_run Trees code (λ label. 64) (stack_top - 1024) 64 32 [] fuel

-- what a program does before the pass and after it, and whether it does no more work and is no larger
abbrev compared : Code Ts → (fuel : ℕ) → Seen × Seen × Bool × Bool
compared code fuel =
    let before = ran code fuel in
    let behind = ran (folded_code code) fuel in
    ((before.output, before.stop), (behind.output, behind.stop), nat_le behind.work before.work, list_all is_no_larger code.functions)

abbrev does_with : (escaping links : List ℕ) → Exp → (fuel : ℕ) → Seen × Seen × Bool × Bool
does_with escaping links e fuel =
    let code = translated (findings escaping links) e in
    compared (record { functions = code.functions ++ runtime.functions; literals = code.literals }) fuel

abbrev does : Exp → (fuel : ℕ) → Seen × Seen × Bool × Bool
does e fuel = does_with [] [] e fuel

-- the same before and after, by no more work of functions that are no larger
abbrev alike : Seen → Seen × Seen × Bool × Bool
alike seen = (seen, seen, true, true)

abbrev ends : ℕ → Seen
ends n = ([], Ended (Exit (pos n)))

-- let var x:=3 in exit(x+(x:=5; x)) end
left_side_first :
    does (block (let_var x (num 3) no_decs) (exit (plus (get x) (seq (set x (num 5) ∷ get x ∷ []))) ∷ [])) 2 ≡ alike (ends 8)
left_side_first = refl

-- exit((1<2)+(if 0 then 3 else 4))
choices : does (exit (plus (binary op.Less (num 1) (num 2)) (If sp (num 0) (num 3) (num 4)))) 2 ≡ alike (ends 5)
choices = refl

-- exit((1&0)+(0|5))
connectives : does (exit (plus (binary op.And (num 1) (num 0)) (binary op.Or (num 0) (num 5)))) 2 ≡ alike (ends 5)
connectives = refl

-- 1/0
zero_divisor : does (binary op.Divide (num 1) (num 0)) 1 ≡ alike ([], Ended (Broken 7))
zero_divisor = refl

broken_loop : does counts_to_three 9 ≡ alike (ends 3)
broken_loop = refl

-- for i:=2147483646 to 2147483647 do print(".")
greatest_bound : does (For sp (id i) (num 2147483646) (num 2147483647) (say (text "."))) 9 ≡ alike (codes "..", Ended (Exit (pos 0)))
greatest_bound = refl

record_of_two : does fields_added 9 ≡ alike (ends 7)
record_of_two = refl

elements : does elements_added 9 ≡ alike (ends 8)
elements = refl

index_of_the_size : does element_after_the_last 9 ≡ alike ([], Ended (Broken 3))
index_of_the_size = refl

-- if "ab"<"b" then print(concat("a","b"))
strings_in_order :
    does (When sp (Binary sp op.Less 40 (text "ab") (text "b")) (say (call 32 (text "a" ∷ text "b" ∷ [])))) 20 ≡
    alike (codes "ab", Ended (Exit (pos 0)))
strings_in_order = refl

recursion : does factorial_of_four 9 ≡ alike (ends 24)
recursion = refl

links_three_deep : does_with (x ∷ k ∷ []) (g ∷ []) sum_by_links 20 ≡ alike (ends 16)
links_three_deep = refl

-- The functions of the runtime alone.
runtime_shrinks : list_all is_no_larger runtime.functions ≡ true
runtime_shrinks = refl

-- let var x:=0 in while x<3 & 1<2 do x:=x+1; exit(x) end: what is known of a condition takes work away
abbrev counted : Exp
counted =
    block (let_var x (num 0) no_decs)
    (While sp (binary op.And (binary op.Less (get x) (num 3)) (binary op.Less (num 1) (num 2))) (set x (plus (get x) (num 1))) ∷ exit (get x) ∷ [])

known_conditions : does counted 9 ≡ alike (ends 3)
known_conditions = refl

less_work :
    let code = translated (findings [] []) counted in
    nat_lt (ran (folded_code (record code { functions = code.functions ++ runtime.functions })) 9).work
    (ran (record code { functions = code.functions ++ runtime.functions }) 9).work ≡ true
less_work = refl
