-- The uses of a text stand before those that come after it.
use Rattle.std.proofs.Common.{◌≡◌, ℕ, List, [], ◌∷◌, ◌++◌, length, Option, Some, None, refl, sym, ap, ◌∙◌, append_assoc}
use Rattle.tg_symbols.specs.Tables.{looked_up}
use Rattle.tg_syntax.specs.Tree.{Nil, Break, Int, Text, Read, Call, Neg, Binary, Make, Fill, Assign, If, When, While, For, Let, Seq, LValue, Simple}
use Rattle.tg_syntax.specs.Tree.{Field, Index, Exps, no_exps, exp, Inits, no_inits, init, Decs, no_decs, types, variable, functions, FunDecs}
use Rattle.tg_syntax.specs.Tree.{no_functions, function}
use Rattle.tg_escape.specs.Uses.{DeclaredAs, Seen, Use, declare_variable, declare_params, declare_functions, declare_all, used, uses, place_uses}
use Rattle.tg_escape.specs.Uses.{exps_uses, inits_uses, decs_uses, functions_uses}
use Rattle.tg_escape.specs.laws.Laws.{UsesJoin}

-- what stands before a list stands before it alone
abbrev Joins : (List Use → List Use) → Type 0
Joins f = (after : List Use) → f after ≡ f [] ++ after

two : (f g : List Use → List Use) → Joins f → Joins g → Joins (λ after. f (g after))
two f g j k after =
    j (g after) ∙ (ap (λ l. f [] ++ l) (k after) ∙ (sym (append_assoc (f []) (g []) after) ∙ ap (λ l. l ++ after) (sym (j (g [])))))

three : (f g h : List Use → List Use) → Joins f → Joins g → Joins h → Joins (λ after. f (g (h after)))
three f g h j k l = two f (λ after. g (h after)) j (two g h k l)

use_joins : (within : List ℕ) (o : Option DeclaredAs) → Joins (used within o)
use_joins within None after = refl
use_joins within (Some d) after = refl

mutual
  pub uses_join : UsesJoin
  uses_join (Nil _) n s after = refl
  uses_join (Break _) n s after = refl
  uses_join (Int _ _) n s after = refl
  uses_join (Text _ _) n s after = refl
  uses_join (Read _ v) n s after = place_joins v n s after
  uses_join (Call _ f args) n s after =
      two (used n (looked_up f.name.0 s)) (exps_uses args n s) (use_joins n (looked_up f.name.0 s)) (exps_join args n s) after
  uses_join (Neg _ a) n s after = uses_join a n s after
  uses_join (Binary _ _ _ a b) n s after = two (uses a n s) (uses b n s) (uses_join a n s) (uses_join b n s) after
  uses_join (Make _ _ inits) n s after = inits_join inits n s after
  uses_join (Fill _ _ a b) n s after = two (uses a n s) (uses b n s) (uses_join a n s) (uses_join b n s) after
  uses_join (Assign _ v a) n s after = two (place_uses v n s) (uses a n s) (place_joins v n s) (uses_join a n s) after
  uses_join (If _ c a b) n s after =
      three (uses c n s) (uses a n s) (uses b n s) (uses_join c n s) (uses_join a n s) (uses_join b n s) after
  uses_join (When _ c a) n s after = two (uses c n s) (uses a n s) (uses_join c n s) (uses_join a n s) after
  uses_join (While _ c a) n s after = two (uses c n s) (uses a n s) (uses_join c n s) (uses_join a n s) after
  uses_join (For _ x l h a) n s after =
      let inner = declare_variable (length n) x s in
      three (uses l n s) (uses h n s) (uses a n inner) (uses_join l n s) (uses_join h n s) (uses_join a n inner) after
  uses_join (Let _ ds es) n s after =
      let inner = declare_all (length n) ds s in
      two (decs_uses ds n s) (exps_uses es n inner) (decs_join ds n s) (exps_join es n inner) after
  uses_join (Seq _ es) n s after = exps_join es n s after

  place_joins : (v : LValue) (n : List ℕ) (s : Seen) → Joins (place_uses v n s)
  place_joins (Simple x) n s after = use_joins n (looked_up x.name.0 s) after
  place_joins (Field v _) n s after = place_joins v n s after
  place_joins (Index v e) n s after = two (place_uses v n s) (uses e n s) (place_joins v n s) (uses_join e n s) after

  exps_join : (es : Exps) (n : List ℕ) (s : Seen) → Joins (exps_uses es n s)
  exps_join no_exps n s after = refl
  exps_join (exp e rest) n s after = two (uses e n s) (exps_uses rest n s) (uses_join e n s) (exps_join rest n s) after

  inits_join : (is : Inits) (n : List ℕ) (s : Seen) → Joins (inits_uses is n s)
  inits_join no_inits n s after = refl
  inits_join (init _ e rest) n s after = two (uses e n s) (inits_uses rest n s) (uses_join e n s) (inits_join rest n s) after

  decs_join : (ds : Decs) (n : List ℕ) (s : Seen) → Joins (decs_uses ds n s)
  decs_join no_decs n s after = refl
  decs_join (types _ rest) n s after = decs_join rest n s after
  decs_join (variable x _ e rest) n s after =
      let inner = declare_variable (length n) x s in
      two (uses e n s) (decs_uses rest n inner) (uses_join e n s) (decs_join rest n inner) after
  decs_join (functions fs rest) n s after =
      let inner = declare_functions (length n) fs s in
      two (functions_uses fs n inner) (decs_uses rest n inner) (functions_join fs n inner) (decs_join rest n inner) after

  functions_join : (fs : FunDecs) (n : List ℕ) (s : Seen) → Joins (functions_uses fs n s)
  functions_join no_functions n s after = refl
  functions_join (function f params _ body rest) n s after =
      let inner = n ++ f.span.from ∷ [] in
      let seen = declare_params (length inner) params s in
      two (uses body inner seen) (functions_uses rest n s) (uses_join body inner seen) (functions_join rest n s) after
