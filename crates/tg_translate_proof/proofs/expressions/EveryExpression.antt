-- Every expression does what it means: by induction on the tree, and on the fuel that is left.
use Rattle.std.proofs.Common.{◌≡◌, ℕ, zero, suc, ◌<◌, ◌≤◌, Some, refl, sym, arith, subst, inl, inr}
use Rattle.std.proofs.lemmas.Bool.{cases_lt}
use Rattle.tg_base.specs.declared.ids.Span.{Span}
use Rattle.tg_syntax.specs.declared.tokens.Ident.{Ident}
use Rattle.tg_syntax.specs.Tree.{Exp, Nil, Break, Int, Text, Read, Call, Neg, Binary, Make, Fill, Assign, If, When, While, For, Let, Seq}
use Rattle.tg_syntax.specs.Tree.{LValue, Simple, Field, Index, Exps, no_exps, exp, Inits, no_inits, init, Decs, no_decs, types, variable, functions}
use Rattle.tg_symbols.specs.Tables.{looked_up}
use Rattle.tg_semantics.specs.declared.standards.Standard.{Standard}
use Rattle.tg_semantics.specs.declared.standards.Standard.TheVariants as standard
use Rattle.tg_semantics.specs.Environments.{find, to_standard}
use Rattle.tg_typecheck.specs.Types.{Ty, int_type, string_type, array_type, array_shape}
use Rattle.tg_semantics.specs.Environments.{name_of}
use Rattle.tg_typecheck.specs.Scopes.{Scope, standard_one, signature}
use Rattle.tg_typecheck.specs.Has as has
use Rattle.tg_typecheck.specs.Has.{Has, HasValues, HaveValues, Fits}
use Rattle.tg_translate.specs.mirror.Purity.{assigns_nothing}
use Rattle.tg_translate_proof.specs.glue.Situations.{Program, Part, Setting, MayAssign}
use Rattle.tg_translate_proof.specs.glue.Shown.{Shown, ExpressionFollows}
use Rattle.tg_translate_proof.proofs.invariant.Parts.{StatesGrow}
use Rattle.tg_translate_proof.proofs.state.StatesGrow.{states_grow}
use Rattle.tg_translate_proof.proofs.invariant.Needs.{premises}
use Rattle.tg_translate_proof.proofs.expressions.LValue.{IndicesShown, place_shown}
use Rattle.tg_translate_proof.proofs.expressions.StandardFunctions.{Owns, objects_are_owned}
use Rattle.tg_translate_proof.proofs.state.NamesInSight.{is_seen}
use Rattle.tg_translate_proof.proofs.expressions.BinarySides.{both_true}
use Rattle.tg_translate_proof.proofs.expressions.BinaryRights.{RightsShown}
use Rattle.tg_translate_proof.proofs.expressions.Assign.{assign_shown}
use Rattle.tg_translate_proof.proofs.expressions.NilIntBreak.{nil_shown, int_shown, break_shown}
use Rattle.tg_translate_proof.proofs.expressions.Text.{text_shown}
use Rattle.tg_translate_proof.proofs.expressions.Read.{read_shown}
use Rattle.tg_translate_proof.proofs.expressions.Neg.{neg_shown}
use Rattle.tg_translate_proof.proofs.expressions.Binary.{binary_shown}
use Rattle.tg_translate_proof.proofs.expressions.Make.{InitsShown, make_shown, shape_values}
use Rattle.tg_translate_proof.proofs.expressions.Fill.{fill_shown}
use Rattle.tg_translate_proof.proofs.expressions.If.{if_shown, when_shown}
use Rattle.tg_translate_proof.proofs.expressions.While.{while_shown}
use Rattle.tg_translate_proof.proofs.expressions.For.{for_shown}
use Rattle.tg_translate_proof.proofs.program.Declarations.{DecsShown}
use Rattle.tg_translate_proof.proofs.expressions.Let.{let_shown}
use Rattle.tg_translate_proof.proofs.program.FunctionGroups.{groups_are_done}
use Rattle.tg_translate_proof.proofs.expressions.SeqInTurn.{AllShown}
use Rattle.tg_translate_proof.proofs.expressions.Seq.{seq_shown}
use Rattle.tg_translate_proof.proofs.expressions.Call as calls
use Rattle.tg_translate_proof.proofs.expressions.Call.{arguments_known, call_shown, StandardShown}
use Rattle.tg_translate_proof.proofs.expressions.CallStandard.{standard_call_shown}

-- with less fuel, or with this
at_most : (P : Program) (n : ℕ) (inner : (m : ℕ) → m < n → (e : Exp) → Shown P m e) (e : Exp) → Shown P n e → (m : ℕ) → m ≤ n → Shown P m e
at_most P n inner e here m le = elim (cases_lt m n) [
  | inl lt ↦ inner m lt e
  | inr more ↦ let same : n ≡ m = omega (arith, le, more) in subst (λ k. Shown P k e) same here
]

-- the parameters of standard functions have values
int_valued : HasValues int_type
int_valued e = cc

string_valued : HasValues string_type
string_valued e = cc

standard_valued : (one : Standard) → HaveValues (signature one).params
standard_valued standard.Print = (string_valued, tt)
standard_valued standard.Flush = tt
standard_valued standard.Getchar = tt
standard_valued standard.Ord = (string_valued, tt)
standard_valued standard.Chr = (int_valued, tt)
standard_valued standard.Size = (string_valued, tt)
standard_valued standard.Substring = (string_valued, (int_valued, (int_valued, tt)))
standard_valued standard.Concat = (string_valued, (string_valued, tt))
standard_valued standard.Not = (int_valued, tt)
standard_valued standard.Exit = (int_valued, tt)

module _ (P : Program) (set : Setting P) (grow : StatesGrow P) (owns : Owns P) (n : ℕ) where
  -- each argument of a call
  call_args : (es : Exps) → AllShown P n es → calls.AllShown P set grow n es
  call_args no_exps h = tt
  call_args (exp e rest) h = (h.0, call_args rest h.1)

  -- a call of a standard function
  standard_shown : (sp : Span) (f : Ident) (args : Exps) → AllShown P n args → StandardShown P set grow n sp f args
  standard_shown sp f args shown x one is_bound says typed is =
      let found : find (name_of f) x.p.env.entries ≡ Some (to_standard one) =
      is_seen P x.p.places x.types x.p.scene (name_of f) (standard_one one) x.p.scene.level x.p.env.entries x.p.scope.bindings x.ready.along x.ready.fits is_bound in
      standard_call_shown P set grow owns n sp f args x one found says
      (arguments_known P set grow n sp f args x args (signature one).params (call_args args shown) typed (standard_valued one) x.words x.covers.1 x.may_assign) (sym is)

  -- an array
  record FillTyped (size item : Exp) (scope : Scope) (ty : Ty) : Type 0 where
    at : ℕ
    t : Ty
    u : Ty
    shape : looked_up at P.shapes ≡ Some (array_shape t)
    size_typed : Has P.shapes P.notes size scope int_type
    item_typed : Has P.shapes P.notes item scope u
    fits : Fits u t
    result : ty ≡ array_type at

  fill_typed : (sp : Span) (name : Ident) (size item : Exp) (scope : Scope) (ty : Ty) → Has P.shapes P.notes (Fill sp name size item) scope ty → FillTyped size item scope ty
  fill_typed sp name size item scope _ (has.fill {at = at} t u shape ts ti fits) =
      record { at = at; t = t; u = u; shape = shape; size_typed = ts; item_typed = ti; fits = fits; result = refl }

  may_size : (p : Part) (sp : Span) (name : Ident) (size item : Exp) → MayAssign P p (Fill sp name size item) → MayAssign P p size × MayAssign P p item
  may_size p sp name size item (inl e) = let b = both_true (assigns_nothing size) (assigns_nothing item) e in (inl b.0, inl b.1)
  may_size p sp name size item (inr f) = (inr f, inr f)

  array_shown : (sp : Span) (name : Ident) (size item : Exp) → Shown P n size → Shown P n item → Shown P n (Fill sp name size item)
  array_shown sp name size item show_size show_item x =
      let y = fill_typed sp name size item x.p.scope x.ty x.typed in
      let may = may_size x.p sp name size item x.may_assign in
      fill_shown P set grow owns n sp name size item x y.at y.t y.u y.shape y.result y.fits
      (shape_values y.at P.shapes (array_shape y.t) set.shapes_have_values y.shape)
      (record { shown = show_size; typed = y.size_typed; words = x.words.0; covers = x.covers.0; may_assign = may.0 })
      (record { shown = show_item; typed = y.item_typed; words = x.words.1; covers = x.covers.1; may_assign = may.1 })

-- By induction on the tree, with everything shown for less fuel.
module _ (P : Program) (set : Setting P) (n : ℕ) (inner : (m : ℕ) → m < n → (e : Exp) → Shown P m e) where
  abbrev owns : Owns P
  owns = objects_are_owned P

  abbrev grow : StatesGrow P
  grow = states_grow P

  mutual
    pub expression_shown : (e : Exp) → Shown P n e
    expression_shown (Nil sp) = nil_shown P n sp
    expression_shown (Break sp) = break_shown P n sp
    expression_shown (Int sp k) = int_shown P n sp k
    expression_shown (Text sp bytes) = text_shown P n sp bytes
    expression_shown (Read sp v) =
        let places = indices_shown v in
        λ x. read_shown P set (premises P set) n sp v (place_shown P set (premises P set) grow n v places) x
    expression_shown (Call sp f args) =
        let all = all_shown args in
        call_shown P set grow n sp f args (standard_shown P set grow owns n sp f args all) (λ x. x.ready.fits) (call_args P set grow owns n args all) inner
    expression_shown (Neg sp a) =
        let shown_a = expression_shown a in
        λ x. neg_shown P set grow n sp a shown_a x
    expression_shown (Binary sp o at a b) = binary_shown P set grow owns n sp at a b (expression_shown a) (expression_shown b) o
    expression_shown (Make sp name inits) =
        let all = inits_shown inits in
        λ x. make_shown P set grow owns n sp name inits all x
    expression_shown (Fill sp name size item) = array_shown P set grow owns n sp name size item (expression_shown size) (expression_shown item)
    expression_shown (Assign sp v e) =
        let places = indices_shown v in
        let shown_e = expression_shown e in
        let rights = rights_shown e in
        λ x. assign_shown P set (premises P set) grow n sp v e places shown_e rights x
    expression_shown (If sp c a b) = if_shown P set grow n sp c a b (expression_shown c) (expression_shown a) (expression_shown b)
    expression_shown (When sp c a) = when_shown P set grow n sp c a (expression_shown c) (expression_shown a)
    expression_shown (While sp c a) =
        let shown_c = expression_shown c in
        let shown_a = expression_shown a in
        λ x. while_shown P set grow n sp c a (at_most P n inner c shown_c) (at_most P n inner a shown_a) x
    expression_shown (For sp i low high a) =
        let shown_low = expression_shown low in
        let shown_high = expression_shown high in
        let shown_a = expression_shown a in
        λ x. for_shown P set grow n sp i low high a (at_most P n inner a shown_a) x shown_low shown_high
    expression_shown (Let sp ds es) =
        let before = decs_shown ds in
        let all = all_shown es in
        λ x. let_shown P set grow (groups_are_done P set grow) n sp ds es before all x
    expression_shown (Seq sp es) =
        let all = all_shown es in
        λ x. seq_shown P set grow n sp es all x

    -- the expressions of an l-value
    indices_shown : (v : LValue) → IndicesShown P n v
    indices_shown (Simple x) = tt
    indices_shown (Field v f) = indices_shown v
    indices_shown (Index v e) = (indices_shown v, expression_shown e)

    -- the right operands along the left spine
    rights_shown : (e : Exp) → RightsShown P n e
    rights_shown (Binary sp o at a b) = (rights_shown a, expression_shown b)
    rights_shown _ = tt

    all_shown : (es : Exps) → AllShown P n es
    all_shown no_exps = tt
    all_shown (exp e rest) = (expression_shown e, all_shown rest)

    inits_shown : (inits : Inits) → InitsShown P set grow owns n inits
    inits_shown no_inits = tt
    inits_shown (init f e rest) = (expression_shown e, inits_shown rest)

    decs_shown : (ds : Decs) → DecsShown P n ds
    decs_shown no_decs = tt
    decs_shown (types ts rest) = decs_shown rest
    decs_shown (variable x kind e rest) = (expression_shown e, decs_shown rest)
    decs_shown (functions fs rest) = decs_shown rest

-- By induction on the fuel.
module _ (P : Program) (set : Setting P) where
  below_shown : (n m : ℕ) → m < n → (e : Exp) → Shown P m e
  below_shown zero m lt e = absurd (omega (arith, lt))
  below_shown (suc n) m lt e =
      expression_shown P set m (λ k less o. below_shown n k (omega (arith, lt, less)) o) e

  pub all_expressions_shown : (n : ℕ) (e : Exp) → Shown P n e
  all_expressions_shown n e = expression_shown P set n (below_shown n) e

-- each expression does what it means
pub expressions_follow : (P : Program) (n : ℕ) → ExpressionFollows P n
expressions_follow P n set e = all_expressions_shown P set n e
