-- Connectives (Appel, chapter 7): conditions where they are tests, and else choices.
use Rattle.tg_syntax.specs.declared.trees.Op.{Op}
use Rattle.tg_syntax.specs.declared.trees.Op.TheVariants.{And, Or}
use Rattle.tg_tree.specs.Tree.{Const, Cond, Both, Either, Ts, If}
use Rattle.tg_translate.specs.declared.wants.Want.{Want}
use Rattle.tg_translate.specs.declared.wants.Want.TheVariants as want
use Rattle.tg_translate.specs.mirror.Wants.{Made, value, test, test_of, as_statement}

-- what an operator wants of its left side
abbrev pub left_want : Op → Want
left_want And = want.Test
left_want Or = want.Test
left_want _ = want.Value

-- `a & b` is `if a then b else 0`, and `a | b` is `if a then 1 else b`
abbrev pub connected : Op → (left right : Cond) → Cond
connected And c d = Both c d
connected _ c d = Either c d

-- a choice that is made of a test and one arm, where the arms go
abbrev pub chosen : Op → (arms : Want) → Cond → Made → Ts
chosen And w c m = If c (as_statement w m) (as_statement w (value (Const 0)))
chosen _ w c m = If c (as_statement w (value (Const 1))) (as_statement w m)

abbrev pub tested : Op → (left : Cond) → (right : Made) → Made
tested op c m = test (connected op c (test_of m))
