-- The checks of a part that all came out fine, as a relation: its type, and what is gathered before it and after it. It is the
-- relation of typed parts with what is gathered threaded through, so that what checks come to is shown by cases on it.
use Rattle.std.proofs.Common.{◌≡◌, ℕ, List, [], ◌∷◌, length, Option, Some, Bool, true, false}
use Rattle.std.specs.Prelude.{is_some}
use Rattle.tg_base.specs.declared.ids.Span.{Span}
use Rattle.tg_syntax.specs.declared.tokens.Ident.{Ident}
use Rattle.tg_syntax.specs.declared.trees.Op.{Op}
use Rattle.tg_syntax.specs.declared.trees.Param.{Param}
use Rattle.tg_syntax.specs.Tree.{Form, Alias, Fields, Array, TypeDec, Exp, Nil, Break, Int, Text, Read, Call, Neg, Binary, Make, Fill, Assign, If}
use Rattle.tg_syntax.specs.Tree.{When, While, For, Let, Seq, LValue, Simple, Field, Index, Exps, no_exps, exp, Inits, no_inits, init, Decs, no_decs}
use Rattle.tg_syntax.specs.Tree.{types, variable, functions, FunDecs, no_functions, function}
use Rattle.tg_symbols.specs.Tables.{looked_up}
use Rattle.tg_typecheck.specs.declared.notes.Means.TheVariants as means
use Rattle.tg_typecheck.specs.Types.{Ty, int_type, string_type, nil_type, none_type, record_type, array_type, Shape, record_shape, array_shape}
use Rattle.tg_typecheck.specs.Checks.{Noted}
use Rattle.tg_semantics.specs.Environments.{name_of}
use Rattle.tg_typecheck.specs.Scopes.{Signature, Binding, variable_at, Scope, at_of, bound, binding, in_a_loop, in_no_loop}
use Rattle.tg_typecheck.specs.Groups.{with_functions, with_params}
use Rattle.tg_typecheck.specs.Typing.{placed}
use Rattle.tg_typecheck.specs.Has.{Fits, Callee, use_of, Apart, HasValues, HaveValues, GivesBack, ShapeHasValues}
use Rattle.tg_typecheck.proofs.Inversion.{noting, shaping, Sides, Notes}
use Rattle.tg_typecheck.proofs.NamedValues.{NameValues}

-- the shape of a form that is declared at a byte, and those of a group
pub data AddsForm (at : ℕ) : Form → Noted → Noted → Type 0 where
  alias : {x : Ident} {g : Noted} → AddsForm at (Alias x) g g
  fields : {ps : List Param} {g : Noted} (s : Shape) → ShapeHasValues s → AddsForm at (Fields ps) g (shaping at s g)
  array : {x : Ident} {g : Noted} (s : Shape) → ShapeHasValues s → AddsForm at (Array x) g (shaping at s g)

pub data AddsForms : List TypeDec → Noted → Noted → Type 0 where
  end_forms : {g : Noted} → AddsForms [] g g
  a_form : {d : TypeDec} {ds : List TypeDec} {g k h : Noted} → AddsForm (at_of d.name) d.form g k → AddsForms ds k h → AddsForms (d ∷ ds) g h

mutual
  pub data Checked : Exp → Scope → Ty → (before after : Noted) → Type 0 where
    nil : {s : Span} {scope : Scope} {g : Noted} → Checked (Nil s) scope nil_type g g
    int : {s : Span} {n : ℕ} {scope : Scope} {g : Noted} → Checked (Int s n) scope int_type g g
    text : {s : Span} {bytes : List ℕ} {scope : Scope} {g : Noted} → Checked (Text s bytes) scope string_type g g
    break : {s : Span} {scope : Scope} {g : Noted} → scope.in_loop ≡ true → Checked (Break s) scope none_type g g
    read : {s : Span} {v : LValue} {scope : Scope} {t : Ty} {g h : Noted} → CheckedPlace v scope t g h → Checked (Read s v) scope t g h
    call :
        {s : Span} {f : Ident} {args : Exps} {scope : Scope} {sig : Signature} {g h : Noted} (b : Binding) → bound f scope ≡ Some b → Callee b sig →
        CheckedAll args sig.params scope (noting (at_of f) (use_of b) g) h → Checked (Call s f args) scope sig.result g h
    neg : {s : Span} {a : Exp} {scope : Scope} {g h : Noted} → Checked a scope int_type g h → Checked (Neg s a) scope int_type g h
    binary :
        {s : Span} {op : Op} {at : ℕ} {a b : Exp} {scope : Scope} {t u : Ty} {g k l h : Noted} → Sides op t u → Checked a scope t g k →
        Notes op at t k l → Checked b scope u l h → Checked (Binary s op at a b) scope int_type g h
    make :
        {s : Span} {x : Ident} {inits : Inits} {scope : Scope} {at : ℕ} {g h : Noted} (fs : List (ℕ × Ty)) → looked_up at g.shapes ≡ Some (record_shape fs) →
        CheckedInits inits fs scope g h → Checked (Make s x inits) scope (record_type at) g h
    fill :
        {s : Span} {x : Ident} {size value : Exp} {scope : Scope} {at : ℕ} {g k h : Noted} (t u : Ty) → looked_up at g.shapes ≡ Some (array_shape t) →
        Checked size scope int_type g k → Checked value scope u k h → Fits u t → Checked (Fill s x size value) scope (array_type at) g h
    assign :
        {s : Span} {v : LValue} {e : Exp} {scope : Scope} {t u : Ty} {g k h : Noted} → CheckedPlace v scope t g k → Checked e scope u k h → Fits u t →
        Checked (Assign s v e) scope none_type g h
    if_else :
        {s : Span} {c a b : Exp} {scope : Scope} {t u r : Ty} {g k l h : Noted} → Checked c scope int_type g k → Checked a scope t k l →
        Checked b scope u l h → Fits t r → Fits u r → Checked (If s c a b) scope r g h
    when :
        {s : Span} {c a : Exp} {scope : Scope} {g k h : Noted} → Checked c scope int_type g k → Checked a scope none_type k h →
        Checked (When s c a) scope none_type g h
    while :
        {s : Span} {c a : Exp} {scope : Scope} {g k h : Noted} → Checked c scope int_type g k → Checked a (in_a_loop scope) none_type k h →
        Checked (While s c a) scope none_type g h
    for :
        {s : Span} {x : Ident} {low high a : Exp} {scope : Scope} {g k l h : Noted} → Checked low scope int_type g k → Checked high scope int_type k l →
        Checked a (in_a_loop (binding x (variable_at (at_of x) int_type true) scope)) none_type l h → Checked (For s x low high a) scope none_type g h
    block :
        {s : Span} {ds : Decs} {es : Exps} {scope : Scope} {t : Ty} {g k h : Noted} (inner : Scope) → CheckedDecs ds scope inner g k →
        CheckedLast none_type es inner t k h → Checked (Let s ds es) scope t g h
    seq : {s : Span} {es : Exps} {scope : Scope} {t : Ty} {g h : Noted} → CheckedLast none_type es scope t g h → Checked (Seq s es) scope t g h

  pub data CheckedPlace : LValue → Scope → Ty → (before after : Noted) → Type 0 where
    simple :
        {x : Ident} {scope : Scope} {t : Ty} {g : Noted} (at : ℕ) (loop : Bool) → bound x scope ≡ Some (variable_at at t loop) →
        CheckedPlace (Simple x) scope t g (noting (at_of x) (means.Variable at) g)
    field :
        {v : LValue} {f : Ident} {scope : Scope} {t : Ty} {g h : Noted} (at : ℕ) (fs : List (ℕ × Ty)) (k : ℕ) → CheckedPlace v scope (record_type at) g h →
        looked_up at h.shapes ≡ Some (record_shape fs) → looked_up (name_of f) fs ≡ Some t → placed (name_of f) 0 fs ≡ Some (k, t) →
        CheckedPlace (Field v f) scope t g (noting (at_of f) (means.Field k) h)
    index :
        {v : LValue} {e : Exp} {scope : Scope} {t : Ty} {g k h : Noted} (at : ℕ) → CheckedPlace v scope (array_type at) g k →
        looked_up at k.shapes ≡ Some (array_shape t) → Checked e scope int_type k h → CheckedPlace (Index v e) scope t g h

  pub data CheckedAll : Exps → List Ty → Scope → (before after : Noted) → Type 0 where
    end_args : {scope : Scope} {g : Noted} → CheckedAll no_exps [] scope g g
    an_arg :
        {e : Exp} {rest : Exps} {t : Ty} {ts : List Ty} {scope : Scope} {g k h : Noted} (u : Ty) → Checked e scope u g k → Fits u t →
        CheckedAll rest ts scope k h → CheckedAll (exp e rest) (t ∷ ts) scope g h

  pub data CheckedInits : Inits → List (ℕ × Ty) → Scope → (before after : Noted) → Type 0 where
    end_inits : {scope : Scope} {g : Noted} → CheckedInits no_inits [] scope g g
    an_init :
        {f : Ident} {e : Exp} {rest : Inits} {field : ℕ × Ty} {fs : List (ℕ × Ty)} {scope : Scope} {g k h : Noted} (u : Ty) → name_of f ≡ field.0 →
        Checked e scope u g k → Fits u field.1 → CheckedInits rest fs scope k h → CheckedInits (init f e rest) (field ∷ fs) scope g h

  pub data CheckedLast : Ty → Exps → Scope → Ty → (before after : Noted) → Type 0 where
    end_lasts : {scope : Scope} {t : Ty} {g : Noted} → CheckedLast t no_exps scope t g g
    a_last :
        {e : Exp} {rest : Exps} {scope : Scope} {v t : Ty} {g k h : Noted} (u : Ty) → Checked e scope u g k → CheckedLast u rest scope t k h →
        CheckedLast v (exp e rest) scope t g h

  pub data CheckedDecs : Decs → Scope → Scope → (before after : Noted) → Type 0 where
    end_decs : {scope : Scope} {g : Noted} → CheckedDecs no_decs scope scope g g
    type_names :
        {ds : List TypeDec} {rest : Decs} {scope inner : Scope} {g k h : Noted} (names : List (ℕ × Ty)) → NameValues names →
        AddsForms ds g k → CheckedDecs rest (record scope { types = names }) inner k h → CheckedDecs (types ds rest) scope inner g h
    variables :
        {x : Ident} {kind : Option Ident} {e : Exp} {rest : Decs} {scope inner : Scope} {g k h : Noted} (t u : Ty) → HasValues t → Checked e scope u g k →
        Fits u t → CheckedDecs rest (binding x (variable_at (at_of x) t false) scope) inner k h → CheckedDecs (variable x kind e rest) scope inner g h
    group :
        {fs : FunDecs} {rest : Decs} {scope inner : Scope} {g k h : Noted} (ss : List Signature) → Apart fs →
        CheckedBodies fs ss (in_no_loop (with_functions fs ss scope)) g k → CheckedDecs rest (with_functions fs ss scope) inner k h →
        CheckedDecs (functions fs rest) scope inner g h

  pub data CheckedBodies : FunDecs → List Signature → Scope → (before after : Noted) → Type 0 where
    end_bodies : {scope : Scope} {g : Noted} → CheckedBodies no_functions [] scope g g
    a_body :
        {f : Ident} {ps : List Param} {r : Option Ident} {body : Exp} {rest : FunDecs} {s : Signature} {ss : List Signature} {scope : Scope} {g k h : Noted}
        (u : Ty) → length ps ≡ length s.params → HaveValues s.params → GivesBack (is_some r) s.result → Checked body (with_params ps s.params scope) u g k → Fits u s.result →
        CheckedBodies rest ss scope k h → CheckedBodies (function f ps r body rest) (s ∷ ss) scope g h
