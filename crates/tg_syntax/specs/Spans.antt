-- The spans of expressions.
use Rattle.tg_base.specs.declared.ids.Span.{Span}
use Rattle.tg_syntax.specs.Tree.{Exp, Nil, Break, Int, Text, Read, Call, Neg, Binary, Make, Fill}
use Rattle.tg_syntax.specs.Tree.{Assign, If, When, While, For, Let, Seq}

abbrev pub span_of : Exp → Span
span_of (Nil s) = s
span_of (Break s) = s
span_of (Int s _) = s
span_of (Text s _) = s
span_of (Read s _) = s
span_of (Call s _ _) = s
span_of (Neg s _) = s
span_of (Binary s _ _ _ _) = s
span_of (Make s _ _) = s
span_of (Fill s _ _ _) = s
span_of (Assign s _ _) = s
span_of (If s _ _ _) = s
span_of (When s _ _) = s
span_of (While s _ _) = s
span_of (For s _ _ _ _) = s
span_of (Let s _ _) = s
span_of (Seq s _) = s

-- from one's first byte to another's last
abbrev pub joined : Span → Span → Span
joined a b = record { from = a.from; to = b.to }
