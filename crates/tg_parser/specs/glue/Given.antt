-- What a function of the parser returns, seen as an answer of a program.
use Rattle.std.specs.Prelude.{List, Result, Ok, Err}
use Rattle.tg_syntax.specs.declared.tokens.Spanned.{Spanned}
use Rattle.tg_parser.specs.declared.faults.Stop.{Stop}
use Rattle.tg_parser.specs.declared.faults.Stop.TheVariants.{Wrong, More, Memory}
use Rattle.tg_syntax_laws.specs.mirror.Steps.{Job, Of, Steps, Got, Bad, Out}
use Rattle.tg_syntax_laws.specs.mirror.Reading.{Does}

-- a program refuses a token, whose first byte is named, or wants more tokens; out of memory says
-- nothing
pub data Refuses : Stop → (j : Job) → Steps (Of j) → List Spanned → Type 0 where
  refuses :
      {j : Job} {s : Steps (Of j)} {ts after : List Spanned} (one : Spanned) →
      Does j s ts (Bad one after) →
      Refuses (Wrong one.span.from) j s ts
  wants : {j : Job} {s : Steps (Of j)} {ts : List Spanned} → Does j s ts Out → Refuses More j s ts
  no_memory : (j : Job) {s : Steps (Of j)} {ts : List Spanned} → Refuses Memory j s ts

-- what a result says that a program does
abbrev pub AnswersJob :
    {X : Type 0} (j : Job) →
    (X → Of j) → (X → List Spanned) → Result X Stop → Steps (Of j) → List Spanned →
    Type 0
AnswersJob j value rest (Ok x) s ts = Does j s ts (Got (value x) (rest x))
AnswersJob j value rest (Err e) s ts = Refuses e j s ts
