-- What in a translation declares nothing: it draws temporaries and slots alone.
use Rattle.std.proofs.Common.{◌≡◌, ℕ, Bool, true, false, Option, Some, List, refl, ◌∙◌}
use Rattle.std.specs.Prelude.{if◌then◌else◌, ◌==◌, ◌||◌}
use Rattle.tg_syntax.specs.declared.trees.Op.{Op}
use Rattle.tg_syntax.specs.declared.trees.Op.TheVariants as op
use Rattle.tg_syntax.specs.Tree.{functions}
use Rattle.tg_frame.specs.declared.accesses.Access.{Access}
use Rattle.tg_tree.specs.Tree as tree
use Rattle.tg_tree.specs.Tree.{Tx, Const, Temp, FrameAddress, Txs, Ts, Stms, no_stms, stm}
use Rattle.tg_tree.specs.declared.operators.Bin.TheVariants as bin
use Rattle.tg_typecheck.specs.declared.notes.Means.{Means}
use Rattle.tg_typecheck.specs.declared.notes.Means.TheVariants as means
use Rattle.tg_translate.specs.declared.homes.Within.{Within}
use Rattle.tg_translate.specs.declared.operands.Operand.{Operand}
use Rattle.tg_translate.specs.declared.held.HeldAddress.{HeldAddress}
use Rattle.tg_translate.specs.declared.held.HeldAddress.TheVariants.{Beside, At}
use Rattle.tg_translate.specs.declared.wants.Want.{Want}
use Rattle.tg_translate.specs.declared.wants.Want.TheVariants as want
use Rattle.tg_translate.specs.mirror.States.{TranslationState, Translates, Translated, drawn, after, give, with_frame, one_temp, local}
use Rattle.tg_translate.specs.mirror.Wants.{Made, value, done, test, value_of, test_of, dropped, arms, as_statement, behind, behind_some, value_behind}
use Rattle.tg_translate.specs.mirror.Constructs.{Storage, in_temp, at_address, HeldAll, hold, hold_next, assign, hold_base, hold_address, hold_place}
use Rattle.tg_translate.specs.mirror.Constructs.{field_place, element_place, make_record, operation, quotient}
use Rattle.tg_translate.specs.mirror.Constructs.{checked_quotient, count, minus_one, product}
use Rattle.tg_translate.specs.mirror.Scopes.{call, variable_place, literal}
use Rattle.tg_translate.specs.mirror.Functions.{closing}
use Rattle.tg_translate.specs.mirror.Translate.{declarations}
use Rattle.tg_translate_proof.proofs.state.TranslationStates.{state_in}
use Rattle.tg_translate_proof.proofs.state.StatesGrow.{Growing, then_grows, nothing_grows, fresh_grows, home_grows, literal_grows}

-- what is drawn from a state on leaves its homes, callees and functions as they are
pub record Quiet {A : Type 0} (d : Translated A) (s : TranslationState) : Type 0 where
  pub grows : Growing d s
  pub homes : (state_in d).homes ≡ s.homes
  pub callees : (state_in d).callees ≡ s.callees
  pub functions : (state_in d).functions ≡ s.functions

pub stays : {A : Type 0} {a : A} {s : TranslationState} → Quiet (drawn a s) s
stays = record { grows = nothing_grows; homes = refl; callees = refl; functions = refl }

pub then_quiet : {A B : Type 0} {s : TranslationState} {d : Translated A} {next : A → Translates B} → Quiet d s →
    ((a : A) (t : TranslationState) → Quiet (next a t) t) → Quiet (after d next) s
then_quiet {s = s} {d = drawn a t} {next = next} h k =
    let g = k a t in
    record {
      grows = then_grows h.grows (λ b u.
          (k b u).grows);
      homes = g.homes ∙ h.homes;
      callees = g.callees ∙ h.callees;
      functions = g.functions ∙ h.functions;
    }

-- What is made what its place wants.

one_fresh : {A : Type 0} {a : A} {s : TranslationState} → Quiet (drawn a (with_frame (one_temp s.frame) s)) s
one_fresh = record { grows = fresh_grows; homes = refl; callees = refl; functions = refl }

pub value_quiet : (m : Made) (s : TranslationState) → Quiet (value_of m s) s
value_quiet (value x) s = stays
value_quiet (done x) s = stays
value_quiet (test c) s = one_fresh

pub arms_quiet : (w : Want) (s : TranslationState) → Quiet (arms w s) s
arms_quiet want.Value s = one_fresh
arms_quiet (want.Into i) s = stays
arms_quiet want.Dropped s = stays
arms_quiet want.Test s = one_fresh

pub behind_value_quiet : (ss : Stms) (m : Made) (s : TranslationState) → Quiet (after (value_of m s) (λ x. give (value_behind ss x))) s
behind_value_quiet ss m s = then_quiet (value_quiet m s) (λ x t. stays)

pub behind_some_quiet : (w : Want) (ss : Stms) (m : Made) (s : TranslationState) → Quiet (behind_some w ss m s) s
behind_some_quiet want.Value ss m s = behind_value_quiet ss m s
behind_some_quiet (want.Into i) ss m s = stays
behind_some_quiet want.Dropped ss m s = stays
behind_some_quiet want.Test ss m s = behind_value_quiet ss m s

pub behind_quiet : (w : Want) (ss : Stms) (m : Made) (s : TranslationState) → Quiet (behind w ss m s) s
behind_quiet w no_stms m s = stays
behind_quiet w (stm x ss) m s = behind_some_quiet w (stm x ss) m s

module _ {s : TranslationState} {d : Translated Made} (h : Quiet d s) where
  pub value_from_quiet : Quiet (after d value_of) s
  value_from_quiet = then_quiet h (λ m t. value_quiet m t)

  pub condition_from_quiet : Quiet (after d (λ m. give (test_of m))) s
  condition_from_quiet = then_quiet h (λ m t. stays)

  pub statement_from_quiet : Quiet (after d (λ m. give (dropped m))) s
  statement_from_quiet = then_quiet h (λ m t. stays)

  pub arm_from_quiet : (w : Want) → Quiet (after d (λ m. give (as_statement w m))) s
  arm_from_quiet w = then_quiet h (λ m t. stays)

-- Operands and places.

pub hold_quiet : (direct : Bool) (ss : Stms) (x : Tx) (s : TranslationState) → Quiet (hold direct ss x s) s
hold_quiet direct ss (Const n) s = stays
hold_quiet true ss (Temp t) s = stays
hold_quiet false ss (Temp t) s = one_fresh
hold_quiet direct ss x s = one_fresh

pub hold_next_quiet : (direct : Bool) (all : HeldAll) (x : Tx) (s : TranslationState) → Quiet (hold_next direct all x s) s
hold_next_quiet direct all x s = then_quiet (hold_quiet direct all.before x s) (λ h t. stays)

pub assign_quiet : (p : Storage) (m : Made) (s : TranslationState) → Quiet (assign p m s) s
assign_quiet (in_temp i) m s = stays
assign_quiet (at_address ss a) m s = then_quiet (value_quiet m s) (λ x t. stays)

pub base_quiet : (ss : Stms) (x : Tx) (address : Operand → HeldAddress) (s : TranslationState) → Quiet (hold_base ss x address s) s
base_quiet ss x address s = then_quiet (hold_quiet true ss x s) (λ h t. stays)

pub hold_address_quiet : (ss : Stms) (a : Tx) (s : TranslationState) → Quiet (hold_address ss a s) s
hold_address_quiet ss (tree.Binary o FrameAddress (Const k)) s = stays
hold_address_quiet ss (tree.Binary o x (Const k)) s = base_quiet ss x (λ p. Beside p o k) s
hold_address_quiet ss a s = base_quiet ss a (λ p. At p) s

pub hold_place_quiet : (p : Storage) (s : TranslationState) → Quiet (hold_place p s) s
hold_place_quiet (in_temp i) s = stays
hold_place_quiet (at_address ss a) s = then_quiet (hold_address_quiet ss a s) (λ h t. stays)

pub field_quiet : (k : ℕ) (x : Tx) (s : TranslationState) → Quiet (field_place k x s) s
field_quiet k x s = then_quiet (hold_quiet true no_stms x s) (λ h t. stays)

pub element_quiet : (direct : Bool) (x y : Tx) (s : TranslationState) → Quiet (element_place direct x y s) s
element_quiet direct x y s =
    then_quiet (hold_quiet direct no_stms x s) (λ a t. then_quiet (hold_quiet true a.before y t) (λ i u. stays))

pub record_quiet : (all : HeldAll) (s : TranslationState) → Quiet (make_record all s) s
record_quiet all s = one_fresh

pub count_quiet : (home : Access) (x y : Tx) (turn : Ts) (s : TranslationState) → Quiet (count home x y turn s) s
count_quiet home x y turn s =
    then_quiet (hold_quiet false no_stms x s) (λ l t. one_fresh)

-- Operators.

pub product_quiet : (direct : Bool) (x y : Tx) (s : TranslationState) → Quiet (product direct x y s) s
product_quiet direct x y s =
    then_quiet (hold_quiet direct no_stms x s) (λ l t. then_quiet (hold_quiet true l.before y t) (λ r u. one_fresh))

pub checked_quiet : (direct : Bool) (x y : Tx) (s : TranslationState) → Quiet (checked_quotient direct x y s) s
checked_quiet direct x y s =
    then_quiet (hold_quiet direct no_stms x s) (λ l t. then_quiet (hold_quiet true l.before y t) (λ r u. stays))

pub by_number_quiet : (b : Bool) (direct : Bool) (x : Tx) (n : ℕ) (s : TranslationState) →
    Quiet ((if b then checked_quotient direct x (Const n) else give (value (tree.Binary bin.Div x (Const n)))) s) s
by_number_quiet true direct x n s = checked_quiet direct x (Const n) s
by_number_quiet false direct x n s = stays

pub quotient_quiet : (direct : Bool) (x y : Tx) (s : TranslationState) → Quiet (quotient direct x y s) s
quotient_quiet direct x (Const n) s = by_number_quiet (n == 0 || n == minus_one) direct x n s
quotient_quiet direct x y s = checked_quiet direct x y s

pub operation_quiet : (o : Op) (strings direct : Bool) (x y : Tx) (s : TranslationState) → Quiet (operation o strings direct x y s) s
operation_quiet op.Times strings direct x y s = product_quiet direct x y s
operation_quiet op.Divide strings direct x y s = quotient_quiet direct x y s
operation_quiet o strings direct x y s = stays

-- Names and declarations.

pub local_quiet : (escapes : Bool) (s : TranslationState) → Quiet (local escapes s) s
local_quiet true s = record { grows = home_grows true s; homes = refl; callees = refl; functions = refl }
local_quiet false s = record { grows = home_grows false s; homes = refl; callees = refl; functions = refl }

pub variable_quiet : (within : Within) (m : Option Means) (s : TranslationState) → Quiet (variable_place within m s) s
variable_quiet within (Some (means.Variable at)) s = stays
variable_quiet within m s = stays

pub call_quiet : (within : Within) (m : Option Means) (xs : Txs) (s : TranslationState) → Quiet (call within m xs s) s
call_quiet within (Some (means.Function at)) xs s = stays
call_quiet within (Some (means.Standard f)) xs s = stays
call_quiet within m xs s = stays

pub closing_quiet : (has_result : Bool) (m : Made) (s : TranslationState) → Quiet (closing has_result m s) s
closing_quiet true m s = then_quiet (value_quiet m s) (λ x t. stays)
closing_quiet false m s = stays

pub literal_quiet : (bytes : List ℕ) (s : TranslationState) → Quiet (literal bytes s) s
literal_quiet bytes s = record { grows = literal_grows bytes s; homes = refl; callees = refl; functions = refl }
