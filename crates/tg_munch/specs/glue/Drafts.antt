-- What a choice does to a draft of a code.
use Rattle.std.specs.Prelude.{◌≡◌, ◌++◌}
use Rattle.tg_munch.specs.declared.drafts.Draft.{Draft}
use Rattle.tg_munch.specs.mirror.Choosing.{NumbersDrawn, Choice}

abbrev pub drawn_in : Draft → NumbersDrawn
drawn_in d = record { temp = d.temp; mark = d.mark }

-- the instructions of a choice stand at the end, and what it draws is drawn
pub record Writes {A : Type 0} (choice : Choice A) (before behind : Draft) (value : A) :
    Type 0 where
  pub list : behind.list.items ≡ before.list.items ++ (choice (drawn_in before)).code
  pub drawn : drawn_in behind ≡ (choice (drawn_in before)).drawn
  pub given : value ≡ (choice (drawn_in before)).value
