-- The laws of descent: it reads the programs and no other lists, and refuses the first token that
-- can't stand.
use Rattle.std.specs.Prelude.{◌≡◌, List, [], ◌∷◌, ◌++◌}
use Rattle.tg_syntax.specs.declared.tokens.Spanned.{Spanned}
use Rattle.tg_syntax.specs.Tree.{Exp, Decs}
use Rattle.tg_syntax.specs.Groups.{AreLongest}
use Rattle.tg_syntax.specs.Grammar.{AreDecs, IsProgram}
use Rattle.tg_syntax.specs.SyntaxFaults.{BeginsProgram, EndsOnce}
use Rattle.tg_syntax_laws.specs.mirror.Steps.{Got, Bad, Out, Whole_program}
use Rattle.tg_syntax_laws.specs.mirror.Reading.{whole_program, Does}

-- a list of tokens has at most one tree
abbrev pub HasOneTree : Type 0
HasOneTree = (tokens : List Spanned) (a b : Exp) → IsProgram tokens a → IsProgram tokens b → a ≡ b

-- of the declarations of a `let` each group is as long as possible
abbrev pub GroupsLongest : Type 0
GroupsLongest = (tokens : List Spanned) (ds : Decs) → AreDecs tokens ds → AreLongest ds

-- each program is read, to its tree
abbrev pub ReadsEach : Type 0
ReadsEach =
    (tokens : List Spanned) (e : Exp) → IsProgram tokens e →
    Does Whole_program whole_program tokens (Got e [])

-- what is read of a list that ends by its one end is a program
abbrev pub ReadsPrograms : Type 0
ReadsPrograms =
    (tokens : List Spanned) (e : Exp) (rest : List Spanned) →
    EndsOnce tokens → Does Whole_program whole_program tokens (Got e rest) → IsProgram tokens e

-- after the tokens before it some program could go on, and with it none can
pub record IsUnexpected (tokens : List Spanned) (one : Spanned)
    (after : List Spanned) : Type 0 where
  pub front : List Spanned
  pub whole : tokens ≡ front ++ one ∷ after
  pub could : BeginsProgram front
  pub cannot : BeginsProgram (front ++ one ∷ []) → ⊥

-- the token that is refused is the first with which no program can go on
abbrev pub RefusesFirst : Type 0
RefusesFirst =
    (tokens : List Spanned) (one : Spanned) (after : List Spanned) →
    Does Whole_program whole_program tokens (Bad one after) → IsUnexpected tokens one after

-- where more is wanted, some program begins so
abbrev pub WantsMore : Type 0
WantsMore = (tokens : List Spanned) → Does Whole_program whole_program tokens Out →
    BeginsProgram tokens

-- and never after the one end of a list
abbrev pub EndsAlways : Type 0
EndsAlways =
    (tokens : List Spanned) → EndsOnce tokens → Does Whole_program whole_program tokens Out → ⊥
