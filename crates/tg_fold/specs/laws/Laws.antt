-- What folding promises: nothing is left to fold, and the shape and the size of a body stay.
use Rattle.std.specs.Prelude.{◌≡◌, ◌≤◌, ◌<◌, ◌^◌, ℕ, List, [], true}
use Rattle.std.specs.List.{Contains}
use Rattle.tg_tree.specs.Tree.{Tx, Cond, Ts, Function}
use Rattle.tg_tree.specs.Shapes.{IsClosed, is_flat, is_flat_condition}
use Rattle.tg_tree.specs.Named.{Named, constant, named_ts}
use Rattle.tg_tree.specs.Named.{HasItsTemps}
use Rattle.tg_tree.specs.Units.{Trees}
use Rattle.tg_tree.specs.Sizes.{expression_length, condition_length, statement_length}
use Rattle.tg_tree.specs.Sizes.{expression_needs, condition_needs, statement_needs, in_trees}
use Rattle.tg_tree.specs.Sizes.{tree_length, tree_needs}
use Rattle.tg_fold.specs.mirror.Folding.{Open, folded_tx, tested, folded}
use Rattle.tg_fold.specs.Folded.{IsFolded}

abbrev pub folded_function : Function Ts → Function Ts
folded_function f = record f { body = folded f.body }

abbrev pub FoldingIsFolded : Type 0
FoldingIsFolded = (body : Ts) → IsFolded (folded body)

-- Shapes.

abbrev pub ClosedStays : Type 0
ClosedStays = (body : Ts) → IsClosed body → IsClosed (folded body)

abbrev pub IsNoConstant : Named → Type 0
IsNoConstant (constant _) = ⊥
IsNoConstant _ = Unit {0}

-- but for constants it names nothing that the body didn't: no function, literal, fault or temporary
abbrev pub NamesStay : Type 0
NamesStay =
    (body : Ts) (name : Named) →
    IsNoConstant name →
    Contains (named_ts (folded body) []) name →
    Contains (named_ts body []) name

abbrev pub TempsStay : Type 0
TempsStay =
    (f : Function Ts) →
    HasItsTemps (λ body. named_ts body []) f →
    HasItsTemps (λ body. named_ts body []) (folded_function f)

-- and its constants are words, if those of the body were
abbrev pub AreWords : List Named → Type 0
AreWords names = (n : ℕ) → Contains names (constant n) → n < 2 ^ 32

abbrev pub WordsStay : Type 0
WordsStay = (body : Ts) → AreWords (named_ts body []) → AreWords (named_ts (folded body) [])

-- Sizes: of expressions, of conditions that aren't known, of statements, and of functions.
pub record IsNoLarger (long long' large large' : ℕ) : Type 0 where
  pub length : long' ≤ long
  pub room : large' ≤ large

abbrev pub ExpressionsShrink : Type 0
ExpressionsShrink =
    (x : Tx) →
    IsNoLarger (expression_length Trees x) (expression_length Trees (folded_tx x))
    (expression_needs in_trees x) (expression_needs in_trees (folded_tx x))

abbrev pub ConditionsShrink : Type 0
ConditionsShrink =
    (c d : Cond) →
    tested c ≡ Open d →
    IsNoLarger (condition_length Trees c) (condition_length Trees d)
    (condition_needs in_trees c) (condition_needs in_trees d)

abbrev pub StatementsShrink : Type 0
StatementsShrink =
    (s : Ts) →
    IsNoLarger (statement_length Trees s) (statement_length Trees (folded s))
    (statement_needs in_trees s) (statement_needs in_trees (folded s))

abbrev pub FunctionsShrink : Type 0
FunctionsShrink =
    (f : Function Ts) →
    IsNoLarger (tree_length f) (tree_length (folded_function f))
    (tree_needs f) (tree_needs (folded_function f))

-- what was flat is flat
abbrev pub FlatStays : Type 0
FlatStays = (x : Tx) → is_flat x ≡ true → is_flat (folded_tx x) ≡ true

abbrev pub FlatTestsStay : Type 0
FlatTestsStay =
    (c d : Cond) → tested c ≡ Open d → is_flat_condition c ≡ true → is_flat_condition d ≡ true
