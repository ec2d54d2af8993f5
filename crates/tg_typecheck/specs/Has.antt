-- The types of parts as a relation, with all shapes of the program known and the notes that it
-- carries: what the checks, one after another, come to (Appel, chapter 5 and appendix A).
use Rattle.std.specs.Prelude.{◌≡◌, ◌≢◌, ℕ, List, [], ◌∷◌, length, Option, Some, None, Bool, true}
use Rattle.std.specs.Prelude.{false, is_some}
use Rattle.std.specs.List.{Contains}
use Rattle.tg_base.specs.declared.ids.Span.{Span}
use Rattle.tg_syntax.specs.declared.tokens.Ident.{Ident}
use Rattle.tg_syntax.specs.declared.trees.Op.{Op}
use Rattle.tg_syntax.specs.declared.trees.Op.TheVariants.{Equal, NotEqual, Less, LessEqual, Greater}
use Rattle.tg_syntax.specs.declared.trees.Op.TheVariants.{GreaterEqual}
use Rattle.tg_syntax.specs.declared.trees.Param.{Param}
use Rattle.tg_syntax.specs.Tree.{TypeDec, Exp, Nil, Break, Int, Text, Read, Call, Neg, Binary, Make}
use Rattle.tg_syntax.specs.Tree.{Fill, Assign, If, When, While, For, Let, Seq, LValue, Simple}
use Rattle.tg_syntax.specs.Tree.{Field, Index, Exps, no_exps, exp, Inits, no_inits, init, Decs}
use Rattle.tg_syntax.specs.Tree.{no_decs, types, variable, functions, FunDecs, no_functions}
use Rattle.tg_syntax.specs.Tree.{function}
use Rattle.tg_semantics.specs.Operators.{comparison, identity}
use Rattle.tg_semantics.specs.Environments.{function_named}
use Rattle.tg_typecheck.specs.declared.notes.Note.{Note}
use Rattle.tg_typecheck.specs.declared.notes.Means.{Means}
use Rattle.tg_typecheck.specs.declared.notes.Means.TheVariants as means
use Rattle.tg_typecheck.specs.Types.{Ty, int_type, string_type, nil_type, none_type, record_type}
use Rattle.tg_typecheck.specs.Types.{array_type, Shape, record_shape, array_shape}
use Rattle.tg_symbols.specs.Tables.{looked_up}
use Rattle.tg_typecheck.specs.Scopes.{Signature, Binding, variable_at, function_at, standard_one}
use Rattle.tg_typecheck.specs.Scopes.{Scope}
use Rattle.tg_semantics.specs.Environments.{name_of}
use Rattle.tg_typecheck.specs.Scopes.{at_of, bound, binding, in_a_loop, in_no_loop, signature}
use Rattle.tg_typecheck.specs.Groups.{with_functions, with_params}
use Rattle.tg_typecheck.specs.Typing.{placed}

-- a value of the first may stand where one of the second is expected
pub data Fits : Ty → Ty → Type 0 where
  the_same : {t : Ty} → Fits t t
  nil_for : {at : ℕ} → Fits nil_type (record_type at)

-- two that are compared by identity
pub data Alike : Ty → Ty → Type 0 where
  records : {at : ℕ} → Alike (record_type at) (record_type at)
  arrays : {at : ℕ} → Alike (array_type at) (array_type at)
  nil_and : {at : ℕ} → Alike nil_type (record_type at)
  and_nil : {at : ℕ} → Alike (record_type at) nil_type

-- the operator compares two ints or strings by their order
abbrev pub Compares : Op → Type 0
Compares op = (same less greater : Bool) → (b : Bool) × (comparison op same less greater ≡ Some b)

-- the operator compares two records or arrays by identity
abbrev pub Identifies : Op → Type 0
Identifies op = (same : Bool) → (b : Bool) × (identity op same ≡ Some b)

-- what may be called, with its signature
pub data Callee : Binding → Signature → Type 0 where
  declared : {at : ℕ} {s : Signature} → Callee (function_at at s) s
  standard : (f : _) → Callee (standard_one f) (signature f)

-- this is noted at a byte
abbrev pub Says : List Note → (at : ℕ) → Means → Type 0
Says notes at m = Contains notes (record { at = at; means = m })

-- what the use of a name that is bound so is noted as
abbrev pub use_of : Binding → Means
use_of (variable_at at t loop) = means.Variable at
use_of (function_at at s) = means.Function at
use_of (standard_one f) = means.Standard f

-- this is noted at an operator, if it compares
abbrev pub SaysOf : List Note → Op → (at : ℕ) → Means → Type 0
SaysOf notes Equal at m = Says notes at m
SaysOf notes NotEqual at m = Says notes at m
SaysOf notes Less at m = Says notes at m
SaysOf notes LessEqual at m = Says notes at m
SaysOf notes Greater at m = Says notes at m
SaysOf notes GreaterEqual at m = Says notes at m
SaysOf notes _ at m = Unit {0}

-- no function of a group has the name of an earlier one
abbrev pub Apart : FunDecs → Type 0
Apart no_functions = Unit {0}
Apart (function f _ _ _ rest) = (function_named (name_of f) rest ≡ None) × Apart rest

-- no two shapes stand at one byte
abbrev pub AreApart : List (ℕ × Shape) → Type 0
AreApart [] = Unit {0}
AreApart (one ∷ rest) = (looked_up one.0 rest ≡ None) × AreApart rest

-- there are values of the type: so it is of each variable, parameter, field and element
abbrev pub HasValues : Ty → Type 0
HasValues t = t ≢ none_type

abbrev pub HaveValues : List Ty → Type 0
HaveValues [] = Unit {0}
HaveValues (t ∷ ts) = HasValues t × HaveValues ts

-- a function's result has values where its text says that there is one, and none else
abbrev pub GivesBack : (has_result : Bool) → Ty → Type 0
GivesBack true t = HasValues t
GivesBack false t = t ≡ none_type

abbrev pub FieldsHaveValues : List (ℕ × Ty) → Type 0
FieldsHaveValues [] = Unit {0}
FieldsHaveValues (field ∷ fs) = HasValues field.1 × FieldsHaveValues fs

abbrev pub ShapeHasValues : Shape → Type 0
ShapeHasValues (record_shape fs) = FieldsHaveValues fs
ShapeHasValues (array_shape t) = HasValues t

abbrev pub ShapesHaveValues : List (ℕ × Shape) → Type 0
ShapesHaveValues [] = Unit {0}
ShapesHaveValues (one ∷ rest) = ShapeHasValues one.1 × ShapesHaveValues rest

module _ (shapes : List (ℕ × Shape)) (notes : List Note) where
  mutual
    pub data Has : Exp → Scope → Ty → Type 0 where
      nil : {s : Span} {scope : Scope} → Has (Nil s) scope nil_type
      int : {s : Span} {n : ℕ} {scope : Scope} → Has (Int s n) scope int_type
      text : {s : Span} {bytes : List ℕ} {scope : Scope} → Has (Text s bytes) scope string_type
      break : {s : Span} {scope : Scope} → scope.in_loop ≡ true → Has (Break s) scope none_type
      read :
          {s : Span} {v : LValue} {scope : Scope} {t : Ty} →
          HasPlace v scope t →
          Has (Read s v) scope t
      call :
          {s : Span} {f : Ident} {args : Exps} {scope : Scope} {sig : Signature} (b : Binding) →
          bound f scope ≡ Some b →
          Callee b sig →
          Says notes (at_of f) (use_of b) →
          HasAll args sig.params scope →
          Has (Call s f args) scope sig.result
      neg :
          {s : Span} {a : Exp} {scope : Scope} →
          Has a scope int_type →
          Has (Neg s a) scope int_type
      ints :
          {s : Span} {op : Op} {at : ℕ} {a b : Exp} {scope : Scope} →
          SaysOf notes op at means.Number →
          Has a scope int_type →
          Has b scope int_type →
          Has (Binary s op at a b) scope int_type
      strings :
          {s : Span} {op : Op} {at : ℕ} {a b : Exp} {scope : Scope} →
          Compares op →
          SaysOf notes op at means.Content →
          Has a scope string_type →
          Has b scope string_type →
          Has (Binary s op at a b) scope int_type
      same :
          {s : Span} {op : Op} {at : ℕ} {a b : Exp} {scope : Scope} {t u : Ty} →
          Identifies op →
          Alike t u →
          SaysOf notes op at means.Number →
          Has a scope t →
          Has b scope u →
          Has (Binary s op at a b) scope int_type
      make :
          {s : Span} {x : Ident} {inits : Inits} {scope : Scope} {at : ℕ} (fs : List (ℕ × Ty)) →
          looked_up at shapes ≡ Some (record_shape fs) →
          HasInits inits fs scope →
          Has (Make s x inits) scope (record_type at)
      fill :
          {s : Span} {x : Ident} {size value : Exp} {scope : Scope} {at : ℕ} (t u : Ty) →
          looked_up at shapes ≡ Some (array_shape t) →
          Has size scope int_type →
          Has value scope u →
          Fits u t →
          Has (Fill s x size value) scope (array_type at)
      assign :
          {s : Span} {v : LValue} {e : Exp} {scope : Scope} {t u : Ty} →
          HasPlace v scope t →
          Has e scope u →
          Fits u t →
          Has (Assign s v e) scope none_type
      if_else :
          {s : Span} {c a b : Exp} {scope : Scope} {t u r : Ty} →
          Has c scope int_type →
          Has a scope t →
          Has b scope u →
          Fits t r →
          Fits u r →
          Has (If s c a b) scope r
      when :
          {s : Span} {c a : Exp} {scope : Scope} →
          Has c scope int_type →
          Has a scope none_type →
          Has (When s c a) scope none_type
      while :
          {s : Span} {c a : Exp} {scope : Scope} →
          Has c scope int_type →
          Has a (in_a_loop scope) none_type →
          Has (While s c a) scope none_type
      for :
          {s : Span} {x : Ident} {l h a : Exp} {scope : Scope} →
          Has l scope int_type →
          Has h scope int_type →
          Has a (in_a_loop (binding x (variable_at (at_of x) int_type true) scope)) none_type →
          Has (For s x l h a) scope none_type
      block :
          {s : Span} {ds : Decs} {es : Exps} {scope : Scope} {t : Ty} (inner : Scope) →
          HasDecs ds scope inner →
          HasLast none_type es inner t →
          Has (Let s ds es) scope t
      seq :
          {s : Span} {es : Exps} {scope : Scope} {t : Ty} →
          HasLast none_type es scope t →
          Has (Seq s es) scope t

    pub data HasPlace : LValue → Scope → Ty → Type 0 where
      simple :
          {x : Ident} {scope : Scope} {t : Ty} (at : ℕ) (loop : Bool) →
          bound x scope ≡ Some (variable_at at t loop) →
          Says notes (at_of x) (means.Variable at) →
          HasPlace (Simple x) scope t
      field :
          {v : LValue} {f : Ident} {scope : Scope} {t : Ty} (at : ℕ) (fs : List (ℕ × Ty)) (k : ℕ) →
          HasPlace v scope (record_type at) →
          looked_up at shapes ≡ Some (record_shape fs) →
          looked_up (name_of f) fs ≡ Some t →
          placed (name_of f) 0 fs ≡ Some (k, t) →
          Says notes (at_of f) (means.Field k) →
          HasPlace (Field v f) scope t
      index :
          {v : LValue} {e : Exp} {scope : Scope} {t : Ty} (at : ℕ) →
          HasPlace v scope (array_type at) →
          looked_up at shapes ≡ Some (array_shape t) →
          Has e scope int_type →
          HasPlace (Index v e) scope t

    -- each argument fits its parameter
    pub data HasAll : Exps → List Ty → Scope → Type 0 where
      end_args : {scope : Scope} → HasAll no_exps [] scope
      an_arg :
          {e : Exp} {rest : Exps} {t : Ty} {ts : List Ty} {scope : Scope} (u : Ty) →
          Has e scope u →
          Fits u t →
          HasAll rest ts scope →
          HasAll (exp e rest) (t ∷ ts) scope

    -- each field, in the order of the record's declaration
    pub data HasInits : Inits → List (ℕ × Ty) → Scope → Type 0 where
      end_inits : {scope : Scope} → HasInits no_inits [] scope
      an_init :
          {f : Ident} {e : Exp} {rest : Inits} {field : ℕ × Ty} {fs : List (ℕ × Ty)} {scope : Scope}
          (u : Ty) →
          name_of f ≡ field.0 →
          Has e scope u →
          Fits u field.1 →
          HasInits rest fs scope →
          HasInits (init f e rest) (field ∷ fs) scope

    -- one after another: the type of the last one, or this where there is none
    pub data HasLast : Ty → Exps → Scope → Ty → Type 0 where
      end_lasts : {scope : Scope} {t : Ty} → HasLast t no_exps scope t
      a_last :
          {e : Exp} {rest : Exps} {scope : Scope} {v t : Ty} (u : Ty) →
          Has e scope u →
          HasLast u rest scope t →
          HasLast v (exp e rest) scope t

    -- declarations, from the scope before them to that after them
    pub data HasDecs : Decs → Scope → Scope → Type 0 where
      end_decs : {scope : Scope} → HasDecs no_decs scope scope
      type_names :
          {ds : List TypeDec} {rest : Decs} {scope inner : Scope} (names : List (ℕ × Ty)) →
          HasDecs rest (record scope { types = names }) inner →
          HasDecs (types ds rest) scope inner
      variables :
          {x : Ident} {kind : Option Ident} {e : Exp} {rest : Decs} {scope inner : Scope}
          (t u : Ty) →
          HasValues t →
          Has e scope u →
          Fits u t →
          HasDecs rest (binding x (variable_at (at_of x) t false) scope) inner →
          HasDecs (variable x kind e rest) scope inner
      group :
          {fs : FunDecs} {rest : Decs} {scope inner : Scope} (ss : List Signature) →
          Apart fs →
          HasBodies fs ss (in_no_loop (with_functions fs ss scope)) →
          HasDecs rest (with_functions fs ss scope) inner →
          HasDecs (functions fs rest) scope inner

    -- the bodies of a group, each with its signature
    pub data HasBodies : FunDecs → List Signature → Scope → Type 0 where
      end_bodies : {scope : Scope} → HasBodies no_functions [] scope
      a_body :
          {f : Ident} {ps : List Param} {r : Option Ident} {body : Exp} {rest : FunDecs}
          {s : Signature} {ss : List Signature} {scope : Scope} (u : Ty) →
          length ps ≡ length s.params →
          HaveValues s.params →
          GivesBack (is_some r) s.result →
          Has body (with_params ps s.params scope) u →
          Fits u s.result →
          HasBodies rest ss scope →
          HasBodies (function f ps r body rest) (s ∷ ss) scope
