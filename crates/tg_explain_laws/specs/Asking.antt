-- What typing asks of the types in a program: the types that a fault of types is about. With no
-- fault found before, and with these noted before, it is asked of a part that begins at a byte.
use Rattle.std.specs.Prelude.{ℕ, ◌≡◌, ◌==◌, List, [], ◌∷◌, length, Option, Some, None, true}
use Rattle.std.specs.Prelude.{false}
use Rattle.tg_base.specs.declared.ids.Span.{Span}
use Rattle.tg_syntax.specs.declared.tokens.Ident.{Ident}
use Rattle.tg_syntax.specs.declared.trees.Param.{Param}
use Rattle.tg_syntax.specs.declared.trees.Op.{Op}
use Rattle.tg_syntax.specs.Tree.{TypeDec, Exp, Read, Call, Neg, Binary, Make, Fill, Assign, If}
use Rattle.tg_syntax.specs.Tree.{When, While, For, Let, Seq, LValue, Field, Index, Exps, exp, Inits}
use Rattle.tg_syntax.specs.Tree.{init, Decs, types, variable, functions, FunDecs, function}
use Rattle.tg_typecheck.specs.declared.faults.TypeRule.TheVariants.{T17}
use Rattle.tg_typecheck.specs.Types as typing
use Rattle.tg_typecheck.specs.Types.{int_type, none_type, same}
use Rattle.tg_typecheck.specs.Checks.{Noted, fine, Check, ◌>>=◌}
use Rattle.tg_typecheck.specs.Scopes.{Signature, variable_at, Scope, at_of, bound, binding}
use Rattle.tg_typecheck.specs.Scopes.{in_a_loop, in_no_loop}
use Rattle.tg_typecheck.specs.Groups.{no_repeats, type_named, declare_types, function_names}
use Rattle.tg_typecheck.specs.Groups.{headers, with_functions, with_params}
use Rattle.tg_typecheck.specs.Typing.{start_of, place_start, expect, function_of, assignable}
use Rattle.tg_typecheck.specs.Typing.{fields_of, element_of, are_fields, expression_count}
use Rattle.tg_typecheck.specs.Typing.{left_side, own_type, body_fits, typed, typed_place, declare}
use Rattle.tg_typecheck.specs.Typing.{bodies}
use Rattle.tg_explain_typing.specs.declared.types.Ty.TheVariants.{Int}
use Rattle.tg_explain_typing.specs.declared.facts.Demand.{Demand}
use Rattle.tg_explain_typing.specs.declared.facts.Demand.TheVariants.{Fits, Valueless, Joins, Own}
use Rattle.tg_explain_typing.specs.declared.facts.Demand.TheVariants.{BesideNil}
use Rattle.tg_explain_typing.specs.declared.finding.Judgement.{Judgement}
use Rattle.tg_explain_typing.specs.Facts.{left_demand, right_demand, is_equality}
use Rattle.tg_explain_types.specs.laws.Types.{told_type}

-- an expression that is of a type, or of one that fits it
abbrev pub fitting : Exp → (wanted : typing.Ty) → Scope → Check (Unit {0})
fitting e wanted scope = do
  t ← typed e scope
  expect wanted t (start_of e)

-- what a function's body is asked for
abbrev pub outcome : Option Ident → (result : typing.Ty) → Demand
outcome None result = Valueless
outcome (Some _) result = Fits (told_type result)

module _ (at : ℕ) (j : Judgement) where
  -- this is asked of a type at a byte
  abbrev pub Is : (start : ℕ) → Demand → (got : typing.Ty) → Type 0
  Is start demand got = (at ≡ start) × (j ≡ record { demand = demand; got = told_type got })

  mutual
    pub data Asks : Exp → Scope → Noted → Type 0 where
      read :
          {s : Span} {v : LValue} {scope : Scope} {n : Noted} →
          AsksPlace v scope n →
          Asks (Read s v) scope n
      argument :
          {s : Span} {f : Ident} {args : Exps} {scope : Scope} {n m : Noted} (sig : Signature) →
          function_of f (bound f scope) n ≡ fine sig m →
          (expression_count args == length sig.params) ≡ true →
          AsksAll args sig.params scope m →
          Asks (Call s f args) scope n
      negated :
          {s : Span} {a : Exp} {scope : Scope} {n : Noted} →
          AsksOf a (Fits Int) scope n →
          Asks (Neg s a) scope n
      left :
          {s : Span} {op : Op} {o : ℕ} {a b : Exp} {scope : Scope} {n : Noted} →
          AsksOf a (left_demand op) scope n →
          Asks (Binary s op o a b) scope n
      right :
          {s : Span} {op : Op} {o : ℕ} {a b : Exp} {scope : Scope} {n m k : Noted}
          (t l : typing.Ty) →
          typed a scope n ≡ fine t m →
          left_side op t o (start_of a) m ≡ fine l k →
          AsksOf b (right_demand op (told_type l)) scope k →
          Asks (Binary s op o a b) scope n
      both :
          {s : Span} {op : Op} {o : ℕ} {a b : Exp} {scope : Scope} {n m k i : Noted}
          (t l u : typing.Ty) →
          typed a scope n ≡ fine t m →
          left_side op t o (start_of a) m ≡ fine l k →
          typed b scope k ≡ fine u i →
          same u none_type ≡ false →
          is_equality op ≡ true →
          Is s.from (BesideNil (told_type l)) u →
          Asks (Binary s op o a b) scope n
      given :
          {s : Span} {x : Ident} {inits : Inits} {scope : Scope} {n m k : Noted} (t : typing.Ty)
          (fs : List (ℕ × typing.Ty)) →
          type_named x scope n ≡ fine t m →
          fields_of t (at_of x) m ≡ fine fs k →
          are_fields inits fs ≡ true →
          AsksFields inits fs scope k →
          Asks (Make s x inits) scope n
      size :
          {s : Span} {x : Ident} {size value : Exp} {scope : Scope} {n m k : Noted}
          (t u : typing.Ty) →
          type_named x scope n ≡ fine t m →
          element_of t (at_of x) m ≡ fine u k →
          AsksOf size (Fits Int) scope k →
          Asks (Fill s x size value) scope n
      element :
          {s : Span} {x : Ident} {size value : Exp} {scope : Scope} {n m k i : Noted}
          (t u : typing.Ty) →
          type_named x scope n ≡ fine t m →
          element_of t (at_of x) m ≡ fine u k →
          fitting size int_type scope k ≡ fine tt i →
          AsksOf value (Fits (told_type u)) scope i →
          Asks (Fill s x size value) scope n
      assigned_place :
          {s : Span} {v : LValue} {e : Exp} {scope : Scope} {n : Noted} →
          AsksPlace v scope n →
          Asks (Assign s v e) scope n
      assigned :
          {s : Span} {v : LValue} {e : Exp} {scope : Scope} {n m k : Noted} (t : typing.Ty) →
          typed_place v scope n ≡ fine t m →
          assignable v scope m ≡ fine tt k →
          AsksOf e (Fits (told_type t)) scope k →
          Asks (Assign s v e) scope n
      if_test :
          {s : Span} {c a b : Exp} {scope : Scope} {n : Noted} →
          AsksOf c (Fits Int) scope n →
          Asks (If s c a b) scope n
      if_this :
          {s : Span} {c a b : Exp} {scope : Scope} {n m : Noted} →
          fitting c int_type scope n ≡ fine tt m →
          Asks a scope m →
          Asks (If s c a b) scope n
      if_other :
          {s : Span} {c a b : Exp} {scope : Scope} {n m k : Noted} (t : typing.Ty) →
          fitting c int_type scope n ≡ fine tt m →
          typed a scope m ≡ fine t k →
          AsksOf b (Joins (told_type t)) scope k →
          Asks (If s c a b) scope n
      when_test :
          {s : Span} {c a : Exp} {scope : Scope} {n : Noted} →
          AsksOf c (Fits Int) scope n →
          Asks (When s c a) scope n
      when_this :
          {s : Span} {c a : Exp} {scope : Scope} {n m : Noted} →
          fitting c int_type scope n ≡ fine tt m →
          AsksOf a Valueless scope m →
          Asks (When s c a) scope n
      while_test :
          {s : Span} {c a : Exp} {scope : Scope} {n : Noted} →
          AsksOf c (Fits Int) scope n →
          Asks (While s c a) scope n
      while_body :
          {s : Span} {c a : Exp} {scope : Scope} {n m : Noted} →
          fitting c int_type scope n ≡ fine tt m →
          AsksOf a Valueless (in_a_loop scope) m →
          Asks (While s c a) scope n
      low :
          {s : Span} {x : Ident} {l h a : Exp} {scope : Scope} {n : Noted} →
          AsksOf l (Fits Int) scope n →
          Asks (For s x l h a) scope n
      high :
          {s : Span} {x : Ident} {l h a : Exp} {scope : Scope} {n m : Noted} →
          fitting l int_type scope n ≡ fine tt m →
          AsksOf h (Fits Int) scope m →
          Asks (For s x l h a) scope n
      for_body :
          {s : Span} {x : Ident} {l h a : Exp} {scope : Scope} {n m k : Noted} →
          fitting l int_type scope n ≡ fine tt m →
          fitting h int_type scope m ≡ fine tt k →
          AsksOf a Valueless
          (in_a_loop (binding x (variable_at (at_of x) int_type true) scope)) k →
          Asks (For s x l h a) scope n
      declared :
          {s : Span} {ds : Decs} {es : Exps} {scope : Scope} {n : Noted} →
          AsksDecs ds scope n →
          Asks (Let s ds es) scope n
      block :
          {s : Span} {ds : Decs} {es : Exps} {scope inner : Scope} {n m : Noted} →
          declare ds scope n ≡ fine inner m →
          AsksEach es inner m →
          Asks (Let s ds es) scope n
      sequence :
          {s : Span} {es : Exps} {scope : Scope} {n : Noted} →
          AsksEach es scope n →
          Asks (Seq s es) scope n

    -- within an expression, or of it
    pub data AsksOf : Exp → Demand → Scope → Noted → Type 0 where
      within :
          {e : Exp} {demand : Demand} {scope : Scope} {n : Noted} →
          Asks e scope n →
          AsksOf e demand scope n
      itself :
          {e : Exp} {demand : Demand} {scope : Scope} {n m : Noted} (got : typing.Ty) →
          typed e scope n ≡ fine got m →
          Is (start_of e) demand got →
          AsksOf e demand scope n

    pub data AsksPlace : LValue → Scope → Noted → Type 0 where
      selected :
          {v : LValue} {f : Ident} {scope : Scope} {n : Noted} →
          AsksPlace v scope n →
          AsksPlace (Field v f) scope n
      indexed :
          {v : LValue} {e : Exp} {scope : Scope} {n : Noted} →
          AsksPlace v scope n →
          AsksPlace (Index v e) scope n
      index :
          {v : LValue} {e : Exp} {scope : Scope} {n m k : Noted} (t u : typing.Ty) →
          typed_place v scope n ≡ fine t m →
          element_of t (place_start v) m ≡ fine u k →
          AsksOf e (Fits Int) scope k →
          AsksPlace (Index v e) scope n

    -- of arguments, by the types of the parameters
    pub data AsksAll : Exps → List typing.Ty → Scope → Noted → Type 0 where
      this_one :
          {e : Exp} {rest : Exps} {t : typing.Ty} {ts : List typing.Ty} {scope : Scope}
          {n : Noted} →
          AsksOf e (Fits (told_type t)) scope n →
          AsksAll (exp e rest) (t ∷ ts) scope n
      later_one :
          {e : Exp} {rest : Exps} {t : typing.Ty} {ts : List typing.Ty} {scope : Scope}
          {n m : Noted} →
          fitting e t scope n ≡ fine tt m →
          AsksAll rest ts scope m →
          AsksAll (exp e rest) (t ∷ ts) scope n

    pub data AsksFields : Inits → List (ℕ × typing.Ty) → Scope → Noted → Type 0 where
      this_field :
          {f : Ident} {e : Exp} {rest : Inits} {field : ℕ × typing.Ty}
          {fs : List (ℕ × typing.Ty)} {scope : Scope} {n : Noted} →
          AsksOf e (Fits (told_type field.1)) scope n →
          AsksFields (init f e rest) (field ∷ fs) scope n
      later_field :
          {f : Ident} {e : Exp} {rest : Inits} {field : ℕ × typing.Ty}
          {fs : List (ℕ × typing.Ty)} {scope : Scope} {n m : Noted} →
          fitting e field.1 scope n ≡ fine tt m →
          AsksFields rest fs scope m →
          AsksFields (init f e rest) (field ∷ fs) scope n

    -- one after another
    pub data AsksEach : Exps → Scope → Noted → Type 0 where
      this_step :
          {e : Exp} {rest : Exps} {scope : Scope} {n : Noted} →
          Asks e scope n →
          AsksEach (exp e rest) scope n
      later_step :
          {e : Exp} {rest : Exps} {scope : Scope} {n m : Noted} (t : typing.Ty) →
          typed e scope n ≡ fine t m →
          AsksEach rest scope m →
          AsksEach (exp e rest) scope n

    pub data AsksDecs : Decs → Scope → Noted → Type 0 where
      behind_types :
          {ds : List TypeDec} {rest : Decs} {scope inner : Scope} {n m : Noted} →
          declare_types ds scope n ≡ fine inner m →
          AsksDecs rest inner m →
          AsksDecs (types ds rest) scope n
      own :
          {x : Ident} {e : Exp} {rest : Decs} {scope : Scope} {n : Noted} →
          AsksOf e (Own x) scope n →
          AsksDecs (variable x None e rest) scope n
      behind_own :
          {x : Ident} {e : Exp} {rest : Decs} {scope : Scope} {n m k : Noted}
          (t u : typing.Ty) →
          typed e scope n ≡ fine t m →
          own_type t (start_of e) m ≡ fine u k →
          AsksDecs rest (binding x (variable_at (at_of x) u false) scope) k →
          AsksDecs (variable x None e rest) scope n
      value :
          {x kind : Ident} {e : Exp} {rest : Decs} {scope : Scope} {n m : Noted}
          (t : typing.Ty) →
          type_named kind scope n ≡ fine t m →
          AsksOf e (Fits (told_type t)) scope m →
          AsksDecs (variable x (Some kind) e rest) scope n
      behind_value :
          {x kind : Ident} {e : Exp} {rest : Decs} {scope : Scope} {n m k : Noted}
          (t : typing.Ty) →
          type_named kind scope n ≡ fine t m →
          fitting e t scope m ≡ fine tt k →
          AsksDecs rest (binding x (variable_at (at_of x) t false) scope) k →
          AsksDecs (variable x (Some kind) e rest) scope n
      a_body :
          {fs : FunDecs} {rest : Decs} {scope : Scope} {n m k : Noted} (ss : List Signature) →
          no_repeats T17 [] (function_names fs) n ≡ fine tt m →
          headers fs scope m ≡ fine ss k →
          AsksBodies fs ss (in_no_loop (with_functions fs ss scope)) k →
          AsksDecs (functions fs rest) scope n
      behind_functions :
          {fs : FunDecs} {rest : Decs} {scope : Scope} {n m k i : Noted} (ss : List Signature) →
          no_repeats T17 [] (function_names fs) n ≡ fine tt m →
          headers fs scope m ≡ fine ss k →
          bodies fs ss (in_no_loop (with_functions fs ss scope)) k ≡ fine tt i →
          AsksDecs rest (with_functions fs ss scope) i →
          AsksDecs (functions fs rest) scope n

    pub data AsksBodies : FunDecs → List Signature → Scope → Noted → Type 0 where
      this_body :
          {f : Ident} {ps : List Param} {r : Option Ident} {body : Exp} {rest : FunDecs}
          {s : Signature} {ss : List Signature} {scope : Scope} {n : Noted} →
          AsksOf body (outcome r s.result) (with_params ps s.params scope) n →
          AsksBodies (function f ps r body rest) (s ∷ ss) scope n
      later_body :
          {f : Ident} {ps : List Param} {r : Option Ident} {body : Exp} {rest : FunDecs}
          {s : Signature} {ss : List Signature} {scope : Scope} {n m k : Noted}
          (t : typing.Ty) →
          typed body (with_params ps s.params scope) n ≡ fine t m →
          body_fits r s.result t (start_of body) m ≡ fine tt k →
          AsksBodies rest ss scope k →
          AsksBodies (function f ps r body rest) (s ∷ ss) scope n
