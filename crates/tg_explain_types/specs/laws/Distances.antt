-- The tests of spelling are exact.
use Rattle.std.specs.Prelude.{ℕ, ◌↔◌, List, IsTrue}
use Rattle.tg_explain_types.specs.Edits.{AreWithin}
use Rattle.tg_explain_types.specs.Spelling.{is_one_edit, is_two_edits}

abbrev pub TestsOneEdit : Type 0
TestsOneEdit = (one other : List ℕ) → IsTrue (is_one_edit one other) ↔ AreWithin 1 one other

abbrev pub TestsTwoEdits : Type 0
TestsTwoEdits = (one other : List ℕ) → IsTrue (is_two_edits one other) ↔ AreWithin 2 one other
