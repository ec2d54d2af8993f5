-- The programs that go on after what the code found at the front.
use Rattle.std.specs.Prelude.{List, Result, Ok, Err, Option, Some, None}
use Rattle.tg_syntax.specs.declared.tokens.Spanned.{Spanned}
use Rattle.tg_syntax.specs.declared.trees.Exp.{Exp as CodeExp}
use Rattle.tg_syntax.specs.Tree.{Exp, Read, Decs}
use Rattle.tg_syntax.specs.glue.Plain.{plain, plain_lvalue}
use Rattle.tg_syntax.specs.Groups.{Dec, snoc_dec}
use Rattle.tg_parser.specs.declared.faults.Stop.{Stop}
use Rattle.tg_parser.specs.declared.heads.Start.{Start}
use Rattle.tg_parser.specs.declared.heads.Start.TheVariants.{Minus, Parenthesis, If, While, For}
use Rattle.tg_parser.specs.declared.heads.Start.TheVariants.{Let, Name, Nothing}
use Rattle.tg_parser.specs.declared.heads.Target.{Target}
use Rattle.tg_parser.specs.declared.heads.Target.TheVariants.{LValue, Other}
use Rattle.tg_parser.specs.declared.heads.DeclarationKind.{DeclarationKind}
use Rattle.tg_parser.specs.declared.heads.DeclarationKind.TheVariants.{OneType, OneVariable}
use Rattle.tg_parser.specs.declared.heads.DeclarationKind.TheVariants.{OneFunction}
use Rattle.tg_parser.specs.glue.Given.{Refuses}
use Rattle.tg_parser.specs.glue.Opens.{Leads}
use Rattle.tg_syntax_laws.specs.mirror.Steps.{Job, Of, Steps, TypeDec, VarDec, FunDec, MoreDecs}
use Rattle.tg_syntax_laws.specs.mirror.Steps.{give, refuse, name, call}
use Rattle.tg_syntax_laws.specs.mirror.Reading.{assigning, negating, grouping, choosing, looping}
use Rattle.tg_syntax_laws.specs.mirror.Reading.{counting, declaring, naming, more_decs, last}

-- by how an expression begins
abbrev pub unary_of : Start → Steps Exp
unary_of Minus = negating
unary_of Parenthesis = grouping
unary_of If = choosing
unary_of While = looping
unary_of For = counting
unary_of Let = declaring
unary_of Name = name naming
unary_of Nothing = refuse

-- the plain tree, where there is one
abbrev pub plain_of : Option CodeExp → Option Exp
plain_of (Some e) = Some (plain e)
plain_of None = None

-- by what may stand before `:=`
abbrev pub assigning_to : Target → Steps Exp
assigning_to (LValue s v) = assigning (Read s (plain_lvalue v))
assigning_to (Other e) = give (plain e)

-- a declaration, by its first word
abbrev pub one_of : DeclarationKind → (j : Job) → (Dec → Steps (Of j)) → Steps (Of j)
one_of OneType j f = call TypeDec f
one_of OneVariable j f = call VarDec f
one_of OneFunction j f = call FunDec f

-- what a result says of the programs that go on after a declaration's first word, and otherwise
-- have read all
abbrev pub Declares :
    {X : Type 0} →
    (X → DeclarationKind) → (X → List Spanned) → Result (Option X) Stop → List Spanned →
    Type 0
Declares kind rest (Ok (Some x)) ts =
    (ds : Decs) →
    Leads (MoreDecs ds) (more_decs ds) ts
    (one_of (kind x) (MoreDecs ds) (λ d. last (MoreDecs (snoc_dec ds d)))) (rest x)
Declares kind rest (Ok None) ts = (ds : Decs) → Leads (MoreDecs ds) (more_decs ds) ts (give ds) ts
Declares kind rest (Err e) ts = (ds : Decs) → Refuses e (MoreDecs ds) (more_decs ds) ts
