-- The functions that a declaration before others declares.
use Rattle.std.proofs.Common.{◌≡◌, ◌++◌, List, refl, sym, ap}
use Rattle.std.proofs.lemmas.List.{append-nil}
use Rattle.tg_syntax.specs.declared.tokens.Ident.{Ident}
use Rattle.tg_syntax.specs.declared.trees.Dec.{Dec, Types, Variable', Functions}
use Rattle.tg_syntax.specs.Tree.{Decs, no_decs}
use Rattle.tg_syntax.specs.glue.Plain.{plain_kind, plain_dec, plain_functions}
use Rattle.tg_stages.specs.DeclaredFunctions.{declared, declared_decs, declared_functions}

pub declared_decs-dec : (d : Dec) (rest : Decs) →
    declared_decs (plain_dec d rest) ≡ declared_decs (plain_dec d no_decs) ++ declared_decs rest
declared_decs-dec (Types ds) rest = refl
declared_decs-dec (Variable' x t s e) rest =
    ap (λ (l : List Ident). l ++ declared_decs rest) (sym (append-nil (declared (plain_kind e s))))
declared_decs-dec (Functions fs) rest =
    ap (λ (l : List Ident). l ++ declared_decs rest) (sym (append-nil (declared_functions (plain_functions fs))))
