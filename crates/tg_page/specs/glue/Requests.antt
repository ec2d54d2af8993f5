-- A request, as the code holds it, and what is told of a text without an image.
use Rattle.std.specs.Prelude.{ℕ, List}
use Rattle.tg_base.specs.declared.faulty.Faulty.{Faulty}
use Rattle.tg_base.specs.declared.faulty.Faulty.TheVariants as fault
use Rattle.tg_asm_text.specs.declared.keywords.AsmRule.{AsmRule}
use Rattle.tg_page.specs.declared.looking.Asked.{Asked}
use Rattle.tg_page.specs.declared.looking.Place.{Place}
use Rattle.tg_page.specs.Looks.{Request, nowhere}

abbrev pub request_of : List ℕ → Asked → Request
request_of text a = record {
  text = text;
  input = a.input.now;
  heap = a.heap;
  stack = a.stack;
  steps = a.stops.steps;
  passing = a.stops.passing;
  breakpoints = a.stops.breakpoints.now;
  addresses = a.addresses.now;
}

-- the line of its fault, or 70 where memory ran out
abbrev pub refusal : Faulty AsmRule ℕ → Place
refusal (fault.Bad rule line) = nowhere 65 line
refusal fault.Memory = nowhere 70 0
