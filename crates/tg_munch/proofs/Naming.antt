-- What the instructions of expressions and statements name.
use Rattle.std.proofs.Common.{ℕ, ◌≡◌, ◌+◌, ◌-◌, ◌*◌, ◌/◌, Option, Some, None, Bool, true, false, nat_lt, refl, arith}
use Rattle.std.proofs.lemmas.Bool.Decides.{nat_tests}
use Rattle.std.specs.Prelude.{IsTrue, ◌==◌, if◌then◌else◌}
use Rattle.tg_base.specs.declared.ids.Label.{Label}
use Rattle.tg_tree.specs.declared.operators.Bin.TheVariants as bin
use Rattle.tg_tree.specs.Tree as tree
use Rattle.tg_tree.specs.Tree.{Tx, Txs, no_txs, tx, Ts, Linear}
use Rattle.tg_tree.specs.Named.{function, literal, temporary}
use Rattle.tg_instr.proofs.Tests.{both_hold}
use Rattle.tg_instr.specs.declared.operands.Opnd.{Opnd}
use Rattle.tg_instr.specs.declared.operands.Opnd.TheVariants.{Reg}
use Rattle.tg_munch.specs.mirror.Arguments.{is_in_register, is_in_frame, is_anywhere, one_may_end, ordered}
use Rattle.tg_munch.specs.mirror.Choosing.{NumbersDrawn, Choice, ◌>>=◌, ◌>>◌, give}
use Rattle.tg_munch.specs.Naming.{is_written}
use Rattle.tg_munch.specs.mirror.Tiles.{nothing, is_slot, slot, offset, offset_by, tile}
use Rattle.tg_munch.specs.mirror.Munching.{temp, argument, constant_in, address_in, frame_address_in, answer_in, store_far, store_low, asked, expression}
use Rattle.tg_munch.specs.mirror.Munching.{arguments, left_side, based_at, valued, effect, stored, stored_byte, statement}
use Rattle.tg_munch.proofs.Scopes.{Scope, grows_on, is_readable, Readable, Writable, Asked, or_left, readable_on, writable_on, asked_on, readable}
use Rattle.tg_munch.proofs.Drawing.{Fits, anything, fits_then, fits_give, fits_put, fits_define, fits_fresh, fits_choose, fits_if, fits_constant}
use Rattle.tg_munch.proofs.Drawing.{fits_moved, fits_tiled, one_named, two_named, three_named, is_base, fits_based, is_option_slot, fits_loaded}
use Rattle.tg_munch.proofs.Drawing.{fits_loaded_byte, Part}

-- the names of flat code pass the tests
abbrev mutual
  pub Passes : Scope → Tx → Type 0
  Passes w (tree.Address label) = IsTrue (w.is_name (literal label))
  Passes w (tree.Temp i) = IsTrue (w.is_name (temporary i))
  Passes w (tree.Binary op x y) = Passes w x × Passes w y
  Passes w (tree.Load x) = Passes w x
  Passes w (tree.LoadByte x) = Passes w x
  Passes w (tree.Call label xs) = IsTrue (w.is_name (function label)) × AllPass w xs
  Passes w (tree.Service k x) = Passes w x
  Passes w (tree.After s x) = Passes w x
  Passes w _ = Unit {0}

  pub AllPass : Scope → Txs → Type 0
  AllPass w no_txs = Unit {0}
  AllPass w (tx x xs) = Passes w x × AllPass w xs

abbrev pub StatementPasses : Scope → Ts → Type 0
StatementPasses w (tree.Move t x) = IsTrue (w.is_name (temporary t)) × Passes w x
StatementPasses w (tree.Store x y) = Passes w x × Passes w y
StatementPasses w (tree.StoreByte x y) = Passes w x × Passes w y
StatementPasses w (tree.Do x) = Passes w x
StatementPasses w _ = Unit {0}

-- a temporary of the flat code
pub temp_writable : (w : Scope) (d : NumbersDrawn) (t : ℕ) → IsTrue (w.is_name (temporary t)) → Writable w d (temp t)
temp_writable w d t h = or_left (w.is_name (temporary t)) _ h

fits_constant_in : (w : Scope) (n : ℕ) (asked : Option Opnd) (d : NumbersDrawn) → Asked w d asked →
    Fits (is_readable w) w (constant_in n asked) d
fits_constant_in w n (Some to) d h = fits_constant w to n d h
fits_constant_in w n None d h =
    fits_if (n == 0) (fits_give (is_readable w) w nothing d refl)
    (fits_then _ (fits_fresh w d) (λ e to a b. fits_constant w to n e b))

fits_address_in : (w : Scope) (label : Label) (asked : Option Opnd) (d : NumbersDrawn) → IsTrue (w.is_name (literal label.0)) →
    Asked w d asked →
    Fits (is_readable w) w (address_in label asked) d
fits_address_in w label asked d k h =
    fits_then _ (fits_choose w asked d h) (λ e to a b. fits_define w _ to e (both_hold _ _ b k) b)

fits_frame_address_in : (w : Scope) (asked : Option Opnd) (d : NumbersDrawn) → Asked w d asked →
    Fits (is_readable w) w (frame_address_in asked) d
fits_frame_address_in w asked d h =
    fits_then _ (fits_choose w asked d h) (λ e to a b. fits_define w _ to e (one_named _ b) b)

fits_answer_in : (w : Scope) (asked : Option Opnd) (d : NumbersDrawn) → Asked w d asked →
    Fits (is_readable w) w (answer_in asked) d
fits_answer_in w asked d h =
    fits_then _ (fits_choose w asked d h) (λ e to a b. fits_define w _ to e (two_named _ true b refl) b)

-- a slot of the frame is below its number of slots
abbrev is_option_below : ℕ → Option ℕ → Bool
is_option_below slots (Some k) = nat_lt k slots
is_option_below slots None = true

slot_small : (slots n : ℕ) (b : Bool) → is_slot slots n ≡ b →
    IsTrue (is_option_below slots (if b then Some (n / 4 - 1) else None))
slot_small slots n true e = grind (arith, nat_tests)
slot_small slots n false e = refl

slot_named : (slots : ℕ) (x : Tx) → IsTrue (is_option_below slots (slot slots x))
slot_named slots (tree.Binary bin.Sub tree.FrameAddress (tree.Const n)) = slot_small slots n (is_slot slots n) refl
slot_named slots _ = refl

slot_passes : (w : Scope) (k : Option ℕ) → IsTrue (is_option_below w.slots k) → IsTrue (is_option_slot w k)
slot_passes w (Some k) h = w.has_slots k h
slot_passes w None h = refl

slot_fits : (w : Scope) (x : Tx) → IsTrue (is_option_slot w (slot w.slots x))
slot_fits w x = slot_passes w (slot w.slots x) (slot_named w.slots x)

fits_store_far : (w : Scope) (n : ℕ) (x : Opnd) (d : NumbersDrawn) → Readable w d x → Fits anything w (store_far n x) d
fits_store_far w n x d h =
    fits_then _ (fits_fresh w d) (λ e t a b.
    fits_then _ (fits_constant w t n e b) (λ f u a' b'.
    let k = writable_on w a' t b in
    fits_then _ (fits_put w _ f (three_named _ _ true k (readable w f t k) refl)) (λ i v a'' b''.
    fits_put w _ i (two_named _ _ (readable_on w (grows_on a (grows_on a' a'')) x h)
    (readable w i t (writable_on w a'' t k))))))

fits_store_low : (w : Scope) (n : ℕ) (x : Opnd) (d : NumbersDrawn) → Readable w d x → Fits anything w (store_low n x) d
fits_store_low w n x d h = fits_if (nat_lt n 32768) (fits_put w _ d (two_named _ true h refl))
    (fits_store_far w n x d h)

-- an expression in whatever is asked for
abbrev pub Value : Scope → (Option Opnd → Choice Opnd) → Type 0
Value w q = (asked : Option Opnd) (d : NumbersDrawn) → Asked w d asked → Fits (is_readable w) w (q asked) d

argument_written : (i : ℕ) → nat_lt i 4 ≡ true → IsTrue (is_written (4 + i))
argument_written i e = grind (arith, nat_tests)

fits_passed_by : (w : Scope) (i : ℕ) (value : Option Opnd → Choice Opnd) → Value w value → (d : NumbersDrawn) → (b : Bool) →
    nat_lt i 4 ≡ b →
    Fits anything w (if b then (value (Some (argument i)) >> give tt)
    else (value None >>= (λ v. store_low (4 * (i - 4)) v))) d
fits_passed_by w i value part d true e =
    fits_then _ (part (Some (argument i)) d (argument_written i e)) (λ f v a b. fits_give anything w tt f refl)
fits_passed_by w i value part d false e =
    fits_then _ (part None d refl) (λ f v a b. fits_store_low w (4 * (i - 4)) v f b)

fits_asked : (w : Scope) (n : ℕ) (part : Choice Opnd) (d : NumbersDrawn) → Fits (is_readable w) w part d →
    Fits anything w (asked n part) d
fits_asked w n part d h =
    fits_then _ h (λ e v a b. fits_then _ (fits_constant w (Reg 2) n e refl) (λ f u a' b'. fits_put w _ f refl))

-- arguments in their order, or those in the frame first
fits_ordered : (w : Scope) (ends : Bool) (choice : (ℕ → Bool) → Choice (Unit {0})) →
    ((picks : ℕ → Bool) (e : NumbersDrawn) → Fits anything w (choice picks) e) →
    (d : NumbersDrawn) → Fits anything w (ordered ends choice) d
fits_ordered w true choice h d = h is_anywhere d
fits_ordered w false choice h d = fits_then _ (h is_in_frame d) (λ e u a b. h is_in_register e)

mutual
  pub fits_expression : (w : Scope) (x : Tx) → Passes w x → Value w (expression w.slots x)
  fits_expression w (tree.Const n) p asked d h = fits_constant_in w n asked d h
  fits_expression w (tree.Address label) p asked d h = fits_address_in w _ asked d p h
  fits_expression w (tree.Temp i) p asked d h =
      fits_moved w asked (temp i) d h (readable w d (temp i) (temp_writable w d i p))
  fits_expression w tree.FrameAddress p asked d h = fits_frame_address_in w asked d h
  fits_expression w (tree.Binary op x y) p asked d h =
      fits_tiled w op (tile op x y) asked (expression w.slots x None) (expression w.slots y None)
      (λ e. fits_expression w x p.0 None e refl) (λ e. fits_expression w y p.1 None e refl) d h
  fits_expression w (tree.Load (tree.Binary op x y)) p asked d h =
      fits_then _ (fits_choose w asked d h) (λ e to a b.
      fits_loaded w (slot w.slots (tree.Binary op x y)) _ to e (slot_fits w (tree.Binary op x y)) b
      (fits_based w (offset_by op y) (expression w.slots x None) (expression w.slots (tree.Binary op x y) None)
      (λ f. fits_expression w x p.0 None f refl) (λ f. fits_expression w (tree.Binary op x y) p None f refl) e))
  fits_expression w (tree.Load x) p asked d h =
      fits_then _ (fits_choose w asked d h) (λ e to a b.
      fits_loaded w None _ to e refl b
      (fits_based w None (expression w.slots x None) (expression w.slots x None)
      (λ f. fits_expression w x p None f refl) (λ f. fits_expression w x p None f refl) e))
  fits_expression w (tree.LoadByte (tree.Binary op x y)) p asked d h =
      fits_then _ (fits_choose w asked d h) (λ e to a b.
      fits_loaded_byte w _ to e b
      (fits_based w (offset_by op y) (expression w.slots x None) (expression w.slots (tree.Binary op x y) None)
      (λ f. fits_expression w x p.0 None f refl) (λ f. fits_expression w (tree.Binary op x y) p None f refl) e))
  fits_expression w (tree.LoadByte x) p asked d h =
      fits_then _ (fits_choose w asked d h) (λ e to a b.
      fits_loaded_byte w _ to e b
      (fits_based w None (expression w.slots x None) (expression w.slots x None)
      (λ f. fits_expression w x p None f refl) (λ f. fits_expression w x p None f refl) e))
  fits_expression w (tree.Call label xs) p asked d h =
      fits_then _ (fits_then _ (fits_ordered w (one_may_end 0 xs) _ (λ picks e. fits_arguments w picks 0 xs p.1 e) d) (λ e u a b. fits_put w _ e p.0))
      (λ e u a b. fits_answer_in w asked e (asked_on w a asked h))
  fits_expression w (tree.Service n x) p asked d h =
      fits_then _ (fits_asked w n _ d (fits_expression w x p (Some (Reg 4)) d refl))
      (λ e u a b. fits_answer_in w asked e (asked_on w a asked h))
  fits_expression w (tree.After s x) p asked d h = fits_expression w x p asked d h

  pub fits_arguments : (w : Scope) (picks : ℕ → Bool) (i : ℕ) (xs : Txs) → AllPass w xs → (d : NumbersDrawn) →
      Fits anything w (arguments w.slots picks i xs) d
  fits_arguments w picks i no_txs p d = fits_give anything w tt d refl
  fits_arguments w picks i (tx x xs) p d =
      fits_then _
      (fits_if (picks i) (fits_passed_by w i (expression w.slots x) (fits_expression w x p.0) d (nat_lt i 4) refl) (fits_give anything w tt d refl))
      (λ e u a b. fits_arguments w picks (i + 1) xs p.1 e)

-- the left side of an address, and an address
fits_left_side : (w : Scope) (x : Tx) → Passes w x → Part w (left_side w.slots x)
fits_left_side w (tree.Binary op x y) p d = fits_expression w x p.0 None d refl
fits_left_side w x p d = fits_expression w x p None d refl

fits_based_at : (w : Scope) (x : Tx) → Passes w x → (d : NumbersDrawn) → Fits (is_base w) w (based_at w.slots x) d
fits_based_at w x p d =
    fits_based w (offset x) (left_side w.slots x) (expression w.slots x None) (fits_left_side w x p)
    (λ e. fits_expression w x p None e refl) d

fits_valued : (w : Scope) (x : Tx) → Passes w x → (d : NumbersDrawn) → Fits anything w (valued w.slots x) d
fits_valued w x p d = fits_then _ (fits_expression w x p None d refl) (λ e v a b. fits_give anything w tt e refl)

fits_effect : (w : Scope) (x : Tx) → Passes w x → (d : NumbersDrawn) → Fits anything w (effect w.slots x) d
fits_effect w (tree.Call label xs) p d =
    fits_then _ (fits_ordered w (one_may_end 0 xs) _ (λ picks e. fits_arguments w picks 0 xs p.1 e) d) (λ e u a b. fits_put w _ e p.0)
fits_effect w (tree.Service n x) p d = fits_asked w n _ d (fits_expression w x p (Some (Reg 4)) d refl)
fits_effect w x p d = fits_valued w x p d

fits_stored : (w : Scope) (k : Option ℕ) → IsTrue (is_option_slot w k) → (x y : Tx) → Passes w x → Passes w y →
    (d : NumbersDrawn) →
    Fits anything w (stored w.slots k x y) d
fits_stored w (Some k) s x y p q d =
    fits_then _ (fits_expression w y q None d refl) (λ e v a b. fits_put w _ e (both_hold _ _ b s))
fits_stored w None s x y p q d =
    fits_then _ (fits_based_at w x p d) (λ e place a b.
    fits_then _ (fits_expression w y q None e refl) (λ f v a' b'.
    fits_put w _ f (two_named _ _ b' (readable_on w a' place.operand b))))

fits_stored_byte : (w : Scope) (x y : Tx) → Passes w x → Passes w y → (d : NumbersDrawn) →
    Fits anything w (stored_byte w.slots x y) d
fits_stored_byte w x y p q d =
    fits_then _ (fits_based_at w x p d) (λ e place a b.
    fits_then _ (fits_expression w y q None e refl) (λ f v a' b'.
    fits_put w _ f (two_named _ _ b' (readable_on w a' place.operand b))))

pub fits_statement : (w : Scope) (s : Ts) → StatementPasses w s → (d : NumbersDrawn) → Fits anything w (statement w.slots s) d
fits_statement w (tree.Move t x) p d =
    fits_then _ (fits_expression w x p.1 (Some (temp t)) d (temp_writable w d t p.0))
    (λ e v a b. fits_give anything w tt e refl)
fits_statement w (tree.Store x y) p d = fits_stored w (slot w.slots x) (slot_fits w x) x y p.0 p.1 d
fits_statement w (tree.StoreByte x y) p d = fits_stored_byte w x y p.0 p.1 d
fits_statement w (tree.Do x) p d = fits_effect w x p d
fits_statement w _ p d = fits_give anything w tt d refl
