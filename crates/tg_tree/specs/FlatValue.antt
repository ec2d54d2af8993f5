-- The value of a flat expression, without what comes next: a word, or how the run stops.
use Rattle.std.specs.Prelude.{ℕ, ◌+◌, ◌≡◌, ◌≤◌, List, Option, Some, None}
use Rattle.tg_simulation.specs.Runs.{Run}
use Rattle.tg_simulation.specs.Ran.{Ran, Wrong}
use Rattle.tg_tree.specs.Tree.{Tx, Const, Address, Temp, FrameAddress, Binary, Load, LoadByte}
use Rattle.tg_tree.specs.Tree.{Literal}
use Rattle.tg_tree.specs.Operators.{Given, word, stops_by, operate}
use Rattle.tg_tree.specs.Memory.{Memory, load, load_byte, literal_address}
use Rattle.tg_tree.specs.Units.{Stage, expression_units}
use Rattle.tg_tree.specs.Sizes.{expression_length}
use Rattle.tg_tree.specs.Actions.{World, Temps, Go, Around, charged, with_given}
use Rattle.tg_tree.specs.Meaning.{Enter, Point, value}
use Rattle.tg_tree.specs.Shapes.{IsFlat}

abbrev pub or_wrong : Option ℕ → Given
or_wrong (Some v) = word v
or_wrong None = stops_by Wrong

abbrev pub onward : Given → (ℕ → Given) → Given
onward (word v) next = next v
onward (stops_by s) next = stops_by s

-- in a frame of this address, with this memory and these temporaries
abbrev pub flat_value : List Literal → (base : ℕ) → Memory → Temps → Tx → Given
flat_value ls base m t (Const n) = word n
flat_value ls base m t (Address label) = or_wrong (literal_address ls label)
flat_value ls base m t (Temp i) = or_wrong (t i)
flat_value ls base m t FrameAddress = word base
flat_value ls base m t (Binary op x y) =
    onward (flat_value ls base m t x) (λ u.
    onward (flat_value ls base m t y) (λ v. operate op u v))
flat_value ls base m t (Load x) = onward (flat_value ls base m t x) (λ u. or_wrong (load m u))
flat_value ls base m t (LoadByte x) =
    onward (flat_value ls base m t x) (λ u. or_wrong (load_byte m u))
flat_value ls base m t _ = stops_by Wrong

-- what comes after a word is spent too
abbrev pub after_word : Given → ℕ → ℕ
after_word (word v) k = k
after_word (stops_by s) k = 0

-- the units of the expressions that are come to
abbrev pub flat_spent : Stage → List Literal → (base : ℕ) → Memory → Temps → Tx → ℕ
flat_spent g ls base m t (Binary op x y) =
    expression_units g (Binary op x y) +
    (flat_spent g ls base m t x +
    after_word (flat_value ls base m t x) (flat_spent g ls base m t y))
flat_spent g ls base m t (Load x) = expression_units g (Load x) + flat_spent g ls base m t x
flat_spent g ls base m t (LoadByte x) = expression_units g (LoadByte x) + flat_spent g ls base m t x
flat_spent g ls base m t x = expression_units g x

-- a run of a flat expression goes on with its value, or stops so, after exactly what it spends
abbrev pub FlatRunsAsValue : Type 0
FlatRunsAsValue =
    (g : Stage) (room : ℕ) (ls : List Literal) (enter : Enter) (later : Point → Run Ran)
    (x : Tx) (e : Around) (go : Go ℕ) (w : World) (t : Temps) (n : ℕ) →
    IsFlat x →
    value g room ls enter later x e go w t n ≡
    charged (flat_spent g ls e.activation.base w.memory t x)
    (with_given (flat_value ls e.activation.base w.memory t x) w (λ v. go v w t)) n

-- and that is its length at most, and all of it where there is a word
abbrev pub FlatSpendsLength : Type 0
FlatSpendsLength =
    (g : Stage) (ls : List Literal) (base : ℕ) (m : Memory) (t : Temps) (x : Tx) →
    IsFlat x → flat_spent g ls base m t x ≤ expression_length g x

abbrev pub FlatWordSpendsAll : Type 0
FlatWordSpendsAll =
    (g : Stage) (ls : List Literal) (base : ℕ) (m : Memory) (t : Temps) (x : Tx) (v : ℕ) →
    IsFlat x → flat_value ls base m t x ≡ word v →
    flat_spent g ls base m t x ≡ expression_length g x
