-- What sources, sinks and shelves in memory hold whose calls may fail.
use Rattle.std.specs.Prelude.{ℕ, ◌-◌, ◌==◌, [], length, Some, Bool, if◌then◌else◌, ◌||◌, List}
use Rattle.std.specs.Prelude.{Option, String, Vec, map, string_bytes}
use Rattle.std.specs.BTreeMap.{BTreeMap}
use Rattle.std.specs.Option.{is_none}
use Rattle.std.specs.Map.{lookup}
use Rattle.std.specs.Str.{bytes_eq}
use Rattle.std.specs.declared.alloc.Global.{Global}
use Rattle.tg_base.specs.Counts.{Counts, counted, none_so_far, next_fails}
use Rattle.tg_base.specs.Files.{Files}

-- bytes whose reads may fail
pub record ListedBytes : Type 0 where
  pub left : List ℕ
  pub counts : Counts

-- the bytes that were taken, and for how many there was room at first
pub record RoomBytes : Type 0 where
  pub taken : List ℕ
  pub room : ℕ
  pub counts : Counts

-- files that fail for a missing name alone: their names and bytes, and the calls and the faults so
-- far
pub record PlainFiles : Type 0 where
  pub held : List (List ℕ × List ℕ)
  pub calls : ℕ
  pub faults : ℕ

-- files whose reads may fail
pub record ListedFiles : Type 0 where
  pub held : List (List ℕ × List ℕ)
  pub counts : Counts

-- no byte taken, and no call so far
abbrev pub empty_room : ℕ → List ℕ → RoomBytes
empty_room room fails = record { taken = []; room = room; counts = none_so_far fails }

-- for how many bytes there is room yet
abbrev pub space : RoomBytes → ℕ
space s = s.room - length s.taken

-- whether the next write fails: by its number, or since the room is used up
abbrev pub write_fails : RoomBytes → Bool
write_fails s = next_fails s.counts || space s == 0

-- the names and the bytes of a map
abbrev pub named_files : BTreeMap (String Global) (Vec ℕ Global) → List (List ℕ × List ℕ)
named_files files = map (λ e. (string_bytes e.0, e.1.items)) files.entries

-- the bytes of the file of a name, if it is there
abbrev pub file_of : List (List ℕ × List ℕ) → List ℕ → Option (List ℕ)
file_of held name = lookup (bytes_eq name) held

abbrev pub as_files : List (List ℕ × List ℕ) → Files
as_files held = Some (file_of held)

-- whether a name has no file
abbrev pub is_missing : List (List ℕ × List ℕ) → List ℕ → Bool
is_missing held name = is_none (file_of held name)

-- whether the next read fails: by its number, or for a missing name
abbrev pub read_fails : ListedFiles → List ℕ → Bool
read_fails s name = next_fails s.counts || is_missing s.held name

-- the faults of files that fail for a missing name alone, after one more read
abbrev pub faults_after : PlainFiles → List ℕ → ℕ
faults_after s name = if is_missing s.held name then counted s.faults else s.faults
