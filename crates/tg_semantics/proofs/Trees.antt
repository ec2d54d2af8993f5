-- Short words for the trees of examples, and for what comes of them.
use Rattle.std.proofs.Common.{ℕ, List, [], ◌∷◌, None}
use Rattle.std.specs.Prelude.{codes, map}
use Rattle.std.specs.Str.{bytes_eq}
use Rattle.std.specs.List.{position_or_len}
use Prim.Native.String.{String}
use Rattle.tg_base.specs.declared.ids.Span.{Span}
use Rattle.tg_syntax.specs.declared.tokens.Ident.{Ident}
use Rattle.tg_syntax.specs.declared.trees.Param.{Param}
use Rattle.tg_syntax.specs.declared.trees.Op.{Op}
use Rattle.tg_syntax.specs.declared.trees.Op.TheVariants as op
use Rattle.tg_syntax.specs.Tree as tree
use Rattle.tg_syntax.specs.Tree.{Exp, LValue, Exps, no_exps, exp, Inits, no_inits, init, Decs, no_functions}
use Rattle.tg_simulation.specs.Outcomes.{End, Outcome}
use Rattle.tg_semantics.specs.Values.{Ending}
use Rattle.tg_semantics.specs.Direct.{evaluate}

abbrev pub here : Span
here = record { from = 0; to = 0 }

-- the names of the examples
abbrev pub names : List (List ℕ)
names =
    map codes ("print" ∷ "flush" ∷ "getchar" ∷ "ord" ∷ "chr" ∷ "size" ∷ "substring" ∷ "concat" ∷ "not" ∷ "exit" ∷
    "int" ∷ "string" ∷ "a" ∷ "b" ∷ "c" ∷ "f" ∷ "g" ∷ "i" ∷ "k" ∷ "m" ∷ "n" ∷ "r" ∷ "s" ∷ "t" ∷ "v" ∷ "x" ∷ "y" ∷ [])

abbrev pub id : String → Ident
id text = record { name = record { 0 = position_or_len (bytes_eq (codes text)) names }; span = here }

-- expressions
abbrev pub exps : List Exp → Exps
exps [] = no_exps
exps (e ∷ es) = exp e (exps es)

abbrev pub nil : Exp
nil = tree.Nil here

abbrev pub break : Exp
break = tree.Break here

abbrev pub num : ℕ → Exp
num k = tree.Int here k

abbrev pub bytes : List ℕ → Exp
bytes those = tree.Text here those

abbrev pub text : String → Exp
text chars = bytes (codes chars)

abbrev pub read : LValue → Exp
read place = tree.Read here place

abbrev pub simple : String → LValue
simple name = tree.Simple (id name)

abbrev pub field : LValue → String → LValue
field place name = tree.Field place (id name)

abbrev pub var : String → Exp
var name = read (simple name)

abbrev pub call : String → List Exp → Exp
call name args = tree.Call here (id name) (exps args)

abbrev pub neg : Exp → Exp
neg e = tree.Neg here e

infixl 160 ◌+'◌
infixl 160 ◌-'◌
infixl 170 ◌*'◌
infixl 170 ◌/'◌
infixl 150 ◌='◌
infixl 150 ◌<>'◌
infixl 150 ◌<'◌
infixl 150 ◌<='◌
infixl 150 ◌>'◌
infixl 150 ◌>='◌
infixl 140 ◌&'◌
infixl 130 ◌or'◌
abbrev binary : Op → Exp → Exp → Exp
binary o e e' = tree.Binary here o 0 e e'

abbrev pub ◌+'◌ : Exp → Exp → Exp
◌+'◌ e e' = binary op.Plus e e'

abbrev pub ◌-'◌ : Exp → Exp → Exp
◌-'◌ e e' = binary op.Minus e e'

abbrev pub ◌*'◌ : Exp → Exp → Exp
◌*'◌ e e' = binary op.Times e e'

abbrev pub ◌/'◌ : Exp → Exp → Exp
◌/'◌ e e' = binary op.Divide e e'

abbrev pub ◌='◌ : Exp → Exp → Exp
◌='◌ e e' = binary op.Equal e e'

abbrev pub ◌<>'◌ : Exp → Exp → Exp
◌<>'◌ e e' = binary op.NotEqual e e'

abbrev pub ◌<'◌ : Exp → Exp → Exp
◌<'◌ e e' = binary op.Less e e'

abbrev pub ◌<='◌ : Exp → Exp → Exp
◌<='◌ e e' = binary op.LessEqual e e'

abbrev pub ◌>'◌ : Exp → Exp → Exp
◌>'◌ e e' = binary op.Greater e e'

abbrev pub ◌>='◌ : Exp → Exp → Exp
◌>='◌ e e' = binary op.GreaterEqual e e'

abbrev pub ◌&'◌ : Exp → Exp → Exp
◌&'◌ e e' = binary op.And e e'

abbrev pub ◌or'◌ : Exp → Exp → Exp
◌or'◌ e e' = binary op.Or e e'

abbrev pub set : LValue → Exp → Exp
set place e = tree.Assign here place e

abbrev pub when : Exp → Exp → Exp
when test this = tree.When here test this

abbrev pub if_else : Exp → Exp → Exp → Exp
if_else test this other = tree.If here test this other

abbrev pub while : Exp → Exp → Exp
while test body = tree.While here test body

abbrev pub for : String → Exp → Exp → Exp → Exp
for name low high body = tree.For here (id name) low high body

abbrev pub seq : List Exp → Exp
seq es = tree.Seq here (exps es)

abbrev pub array : Exp → Exp → Exp
array size value = tree.Fill here (id "t") size value

abbrev pub inits : List (String × Exp) → Inits
inits [] = no_inits
inits (one ∷ rest) = init (id one.0) one.1 (inits rest)

abbrev pub make : List (String × Exp) → Exp
make parts = tree.Make here (id "r") (inits parts)

-- declarations
abbrev pub param : String → Param
param name = record { name = id name; kind = id "int" }

abbrev pub fun : String → List String → Exp → Decs → Decs
fun name params body rest = tree.functions (tree.function (id name) (map param params) None body no_functions) rest

abbrev pub let_var : String → Exp → Decs → Decs
let_var name e rest = tree.variable (id name) None e rest

abbrev pub block : Decs → List Exp → Exp
block decs es = tree.Let here decs (exps es)

-- what comes of a program: with default sizes; the end and the output alone
abbrev pub evaluated : Exp → ℕ → Outcome Ending
evaluated e fuel = evaluate names e [] 16777216 67108864 fuel

abbrev pub seen : Outcome Ending → End Ending × List ℕ
seen o = (o.end, o.output)

abbrev pub does : Exp → ℕ → End Ending × List ℕ
does e fuel = seen (evaluated e fuel)

abbrev pub index : LValue → Exp → LValue
index place e = tree.Index place e

abbrev pub on_heap : ℕ → List ℕ → Exp → ℕ → End Ending × List ℕ
on_heap heap input e fuel = seen (evaluate names e input heap 67108864 fuel)
