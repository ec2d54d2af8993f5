-- The places of all bytes of a text, and of its end.
use Rattle.std.specs.Prelude.{◌≡◌, ◌≤◌, ◌+◌, ℕ, List, length, slice_index_or}
use Rattle.tg_base.specs.declared.places.Place.{Place}
use Rattle.tg_base.specs.Lines.{place_of}

pub record ArePlaces (text : List ℕ) (places : List Place) : Type 0 where
  pub count : length places ≡ length text + 1
  pub each : (at : ℕ) (d : Place) → at ≤ length text → slice_index_or places at d ≡ place_of text at
