-- Layouts of the code, as the definition has them.
use Rattle.std.specs.Prelude.{ℕ, ◌≤◌, ◌≡◌, ⊤, List, [], ◌∷◌, map, Option, Some, None, Result, Ok}
use Rattle.std.specs.Prelude.{Err}
use Rattle.tg_base.specs.declared.faulty.Faulty.{Faulty}
use Rattle.tg_base.specs.declared.faulty.Faulty.TheVariants as fault
use Rattle.tg_machine_state.specs.State.{most_words, most_bytes}
use Rattle.tg_asm_text.specs.Assembly as assembly
use Rattle.tg_asm_text.specs.declared.keywords.AsmRule.{AsmRule}
use Rattle.tg_asm_text.specs.declared.keywords.AsmRule.TheVariants.{A4}
use Rattle.tg_asm_text.specs.declared.keywords.Segment.TheVariants.{Code}
use Rattle.tg_asm.specs.declared.faults.Refused.{Refused}
use Rattle.tg_asm.specs.declared.faults.Refused.TheVariants as refused
use Rattle.tg_asm.specs.declared.layouts.Draft.{Draft}
use Rattle.tg_asm.specs.declared.layouts.Layout.{Layout}
use Rattle.tg_asm.specs.glue.Entries.{Lined, first_again, label_of, lined_of}

abbrev pub laid_of : Draft → assembly.Layout
laid_of d =
    record {
      segment = d.segment;
      words = d.words;
      starts = d.starts.items;
      size = d.size;
      labels = map label_of d.entries.items;
    }

abbrev pub lined_labels : Draft → List Lined
lined_labels d = map lined_of d.entries.items

abbrev pub layout_of : Layout → assembly.Layout
layout_of l =
    record {
      segment = Code;
      words = l.words;
      starts = l.starts.items;
      size = l.size;
      labels = l.labels;
    }

-- the segments are within their limits
abbrev pub IsSmall : assembly.Layout → Type 0
IsSmall l = (l.words ≤ most_words) × (l.size ≤ most_bytes)

-- A line is laid out with no look at the labels before it.
abbrev pub put_labels : assembly.Layout → List (List ℕ) → assembly.Layout
put_labels l [] = l
put_labels l (name ∷ more) = put_labels (assembly.add_label l name) more

abbrev pub put_reading : assembly.Layout → Result assembly.Reading AsmRule →
    Result assembly.Layout AsmRule
put_reading l (Ok r) = assembly.add_item r.item (put_labels l r.labels)
put_reading l (Err e) = Err e

abbrev pub put_line : assembly.Layout → List ℕ → Result assembly.Layout AsmRule
put_line l line = put_reading l (assembly.reading l.segment line)

-- the labels of a line by its number
abbrev pub lined_at : ℕ → assembly.Layout → List ℕ → Lined
lined_at n l name = ((name, assembly.next_spot l l.segment), n)

abbrev pub lined_of_reading : ℕ → assembly.Layout → Result assembly.Reading AsmRule → List Lined
lined_of_reading n l (Ok r) = map (lined_at n l) r.labels
lined_of_reading n l (Err e) = []

abbrev pub lined_of_line : ℕ → assembly.Layout → List ℕ → List Lined
lined_of_line n l line = lined_of_reading n l (assembly.reading l.segment line)

abbrev pub UnlessMemory : {S : Type 0} → Result S Refused → Type 0 → Type 0
UnlessMemory (Ok x) P = P
UnlessMemory (Err (refused.Rule r)) P = P
UnlessMemory (Err refused.Memory) P = ⊤

-- What lines that were laid out so come to: a layout, or the first fault.
abbrev pub ended : Option (AsmRule × ℕ) → assembly.Layout → Result assembly.Layout assembly.Fault
ended None l = Ok l
ended (Some f) l = Err (record { rule = f.0; line = f.1 })

-- a label that stands again is a fault before it
abbrev pub told : Option ℕ → Result assembly.Layout assembly.Fault →
    Result assembly.Layout assembly.Fault
told None r = r
told (Some n) r = Err (record { rule = A4; line = n })

-- A label that stands again among the first ones is the fault.
abbrev pub TellsAgain : Result assembly.Layout assembly.Fault → List Lined → Type 0
TellsAgain meant es =
    (n : ℕ) → first_again [] es ≡ Some n → meant ≡ Err (record { rule = A4; line = n })

-- Layouts with the same places, in which a search for a label finds the same.
pub record IsAlike (m l : assembly.Layout) : Type 0 where
  pub words : m.words ≡ l.words
  pub starts : m.starts ≡ l.starts
  pub size : m.size ≡ l.size
  pub spots : (name : List ℕ) → assembly.spot_of m name ≡ assembly.spot_of l name

pub record IsLaidOut (meant : Result assembly.Layout assembly.Fault) (l : assembly.Layout) :
    Type 0 where
  pub laid : assembly.Layout
  pub same : meant ≡ Ok laid
  pub alike : IsAlike laid l

-- A call gives a layout alike that of the definition, or its fault; or it is out of memory.
abbrev pub GivesLayout : Result assembly.Layout assembly.Fault →
    Result Layout (Faulty AsmRule ℕ) → Type 0
GivesLayout meant (Ok l) = IsLaidOut meant (layout_of l)
GivesLayout meant (Err (fault.Bad rule line)) = meant ≡ Err (record { rule = rule; line = line })
GivesLayout meant (Err fault.Memory) = ⊤
