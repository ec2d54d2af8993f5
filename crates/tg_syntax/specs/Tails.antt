-- The right end of an expression, which is reached through the right operand of an operator, the
-- operand of unary minus and the right side of an assignment.
use Rattle.std.specs.Prelude.{Bool, true, false}
use Rattle.tg_syntax.specs.Tree.{Exp, Neg, Binary, Fill, Assign, If, When, While, For}

-- a tail stands at the right end: an `if`, a loop or an array's creation, which takes all that
-- follows
abbrev pub ends_tail : Exp → Bool
ends_tail (Neg _ a) = ends_tail a
ends_tail (Binary _ _ _ a b) = ends_tail b
ends_tail (Assign _ v a) = ends_tail a
ends_tail (Fill _ _ a b) = true
ends_tail (If _ c a b) = true
ends_tail (When _ c a) = true
ends_tail (While _ c a) = true
ends_tail (For _ _ l h a) = true
ends_tail _ = false

-- the right end is an `if` without `else`, or a tail whose last expression is short
abbrev pub is_short : Exp → Bool
is_short (Neg _ a) = is_short a
is_short (Binary _ _ _ a b) = is_short b
is_short (Assign _ v a) = is_short a
is_short (Fill _ _ a b) = is_short b
is_short (If _ c a b) = is_short b
is_short (When _ c a) = true
is_short (While _ c a) = is_short a
is_short (For _ _ l h a) = is_short a
is_short _ = false
