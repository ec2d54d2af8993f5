-- Evaluation that passes along what comes next, clause by clause: each holds by computing, as a proof about a translation
-- uses it.
use Rattle.std.proofs.Common.{◌≡◌, ℕ, refl}
use Rattle.tg_base.specs.declared.ids.Span.{Span}
use Rattle.tg_syntax.specs.declared.tokens.Ident.{Ident}
use Rattle.tg_syntax.specs.declared.trees.Op.{Op}
use Rattle.tg_syntax.specs.Tree.{Exp, Break, Int, Call, Neg, Binary, If, While, Let, LValue, Exps, Decs, Assign}
use Rattle.tg_syntax.specs.declared.trees.Op.TheVariants.{Minus}
use Rattle.tg_simulation.specs.Changes.{costs}
use Rattle.tg_semantics.specs.Values.{Value, int, nothing, Env, SourceWorld}
use Rattle.tg_semantics.specs.Environments.{name_of, find, levels_out}
use Rattle.tg_semantics.specs.Passing.{Rest, Passing, with_turn, with_found, passing}
use Rattle.tg_semantics.specs.Evaluation as E
use Rattle.tg_semantics.specs.Evaluation.{Job, repeat_while}

module _ (heap stack : ℕ) (after : Job → Passing Value) (go : Value → Rest) (out : Rest) (w : SourceWorld) (n : ℕ) where
  abbrev eval : Exp → Env → Passing Value
  eval e env = E.eval Passing (passing heap stack) after e env

  abbrev choose : Value → Passing Value → Passing Value → Passing Value
  choose v this other = E.choose Passing (passing heap stack) v this other

  int_is : (s : Span) (k : ℕ) (env : Env) → eval (Int s k) env go out w n ≡ costs 1 (go (int k) w n)
  int_is s k env = refl

  break_is : (s : Span) (env : Env) → eval (Break s) env go out w n ≡ costs 1 (out w n)
  break_is s env = refl

  binary_is : (s : Span) (op : Op) (at : ℕ) (a b : Exp) (env : Env) →
      eval (Binary s op at a b) env go out w n ≡ costs 1 (eval a env (λ x. E.with_left Passing (passing heap stack) op x (eval b env) go out) out w n)
  binary_is s op at a b env = refl

  minus_is : (s : Span) (a : Exp) (env : Env) →
      eval (Neg s a) env go out w n ≡ costs 1 (eval a env (λ x. E.operate Passing (passing heap stack) Minus (int 0) x go out) out w n)
  minus_is s a env = refl

  if_is : (s : Span) (c a b : Exp) (env : Env) →
      eval (If s c a b) env go out w n ≡ costs 1 (eval c env (λ v. choose v (eval a env) (eval b env) go out) out w n)
  if_is s c a b env = refl

  -- a `break` of the body goes on after the loop, and a turn uses a unit of fuel
  while_is : (s : Span) (c a : Exp) (env : Env) → eval (While s c a) env go out w n ≡ costs 1
      (eval c env (λ v. choose v (λ go out. eval a env (λ _. with_turn (after (repeat_while c a env) go out)) (go nothing))
      (λ go out. go nothing) go out) out w n)
  while_is s c a env = refl

  -- the levels that the call crosses are paid before its arguments are evaluated
  call_is : (s : Span) (f : Ident) (args : Exps) (env : Env) → eval (Call s f args) env go out w n ≡ costs 1
      (with_found (find (name_of f) env.entries) (λ callee w n. costs (levels_out env.level callee)
      (E.eval_all Passing (passing heap stack) after args env (λ values. E.call Passing (passing heap stack) after callee values go out) out w n)) w n)
  call_is s f args env = refl

  assign_is : (s : Span) (v : LValue) (e : Exp) (env : Env) → eval (Assign s v e) env go out w n ≡ costs 1
      (E.locate Passing (passing heap stack) after v env (λ l. eval e env
      (λ x. E.write_location Passing (passing heap stack) l x (λ _. go nothing) out) out) out w n)
  assign_is s v e env = refl

  block_is : (s : Span) (ds : Decs) (es : Exps) (env : Env) →
      eval (Let s ds es) env go out w n ≡
      costs 1 (E.declare Passing (passing heap stack) after ds env (λ inner. E.eval_last Passing (passing heap stack) after nothing es inner go out) out w n)
  block_is s ds es env = refl
