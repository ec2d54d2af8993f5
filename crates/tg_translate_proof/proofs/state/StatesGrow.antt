-- Whatever is translated, the state of the translation only grows: temporaries and slots, homes and
-- callees, literals, and the functions that are done.
use Rattle.std.proofs.Common.{◌≡◌, ◌≤◌, ◌+◌, ℕ, Bool, true, false, Option, Some, List, [], ◌∷◌, ◌++◌, refl, ◌∙◌, arith, subst}
use Rattle.std.specs.Prelude.{is_some, if◌then◌else◌, ◌==◌, ◌||◌}
use Rattle.tg_simulation.specs.Bytes.{IsPrefix}
use Rattle.tg_syntax.specs.declared.trees.Op.{Op}
use Rattle.tg_syntax.specs.declared.trees.Op.TheVariants as op
use Rattle.tg_syntax.specs.declared.trees.Param.{Param}
use Rattle.tg_syntax.specs.Tree as source
use Rattle.tg_syntax.specs.Tree.{Exp, Nil, Break, Int, Text, Read, Call, Neg, Binary, Make, Fill, Assign, If, When, While, For, Let, Seq, Simple}
use Rattle.tg_syntax.specs.Tree.{Field, Index, Exps, no_exps, exp, Inits, no_inits, init, Decs, no_decs, types, variable, functions, FunDecs}
use Rattle.tg_syntax.specs.Tree.{no_functions, function}
use Rattle.tg_frame.specs.declared.accesses.Access.{Access}
use Rattle.tg_tree.specs.Tree as tree
use Rattle.tg_tree.specs.Tree.{Tx, Const, Temp, FrameAddress, Txs, no_txs, tx, Cond, Ts, Stms, no_stms, stm}
use Rattle.tg_tree.specs.glue.Lists.{join_txs}
use Rattle.tg_tree.specs.declared.operators.Bin.TheVariants as bin
use Rattle.tg_tree.specs.Memory.{string_text}
use Rattle.tg_typecheck.specs.declared.notes.Means.{Means}
use Rattle.tg_typecheck.specs.declared.notes.Means.TheVariants as means
use Rattle.tg_translate.specs.declared.homes.Home.{Home}
use Rattle.tg_translate.specs.declared.homes.Callee.{Callee}
use Rattle.tg_translate.specs.declared.homes.Within.{Within}
use Rattle.tg_translate.specs.declared.operands.Operand.{Operand}
use Rattle.tg_translate.specs.declared.held.HeldAddress.{HeldAddress}
use Rattle.tg_translate.specs.declared.held.HeldAddress.TheVariants.{Beside, At}
use Rattle.tg_translate.specs.declared.wants.Want.{Want}
use Rattle.tg_translate.specs.declared.wants.Want.TheVariants as want
use Rattle.tg_translate.specs.mirror.States.{TranslationState, Translates, Translated, drawn, after, give, Frame, with_frame, one_temp, local}
use Rattle.tg_translate.specs.mirror.Wants.{Made, value, done, test, value_of, test_of, dropped}
use Rattle.tg_translate.specs.mirror.Wants.{arms, as_statement, deliver, behind, behind_some, value_behind, followed}
use Rattle.tg_translate.specs.mirror.Constructs.{Storage, in_temp, at_address, HeldAll, none_held, hold, hold_next, assign, hold_base, hold_address, hold_place}
use Rattle.tg_translate.specs.mirror.Constructs.{own_place, read, want_for, read_held, place_held, field_place, element_place, make_record, operation, quotient}
use Rattle.tg_translate.specs.mirror.Constructs.{checked_quotient, count, minus_one, in_body, in_test, product}
use Rattle.tg_translate.specs.mirror.Choices.{left_want, chosen}
use Rattle.tg_translate.specs.mirror.Scopes.{Findings, field_number, compares_strings, call, variable_place, declare_variable, literal}
use Rattle.tg_translate.specs.mirror.Purity.{assigns_nothing, inits_assign_nothing}
use Rattle.tg_translate.specs.mirror.Updates.{begins_with}
use Rattle.tg_translate.specs.mirror.Functions.{at_of, asked, parameters, own_homes, frame_for, declare_functions, with_body, finish, opened, inside}
use Rattle.tg_translate.specs.mirror.Functions.{result_want, closing, body, body_in}
use Rattle.tg_translate.specs.mirror.Translate.{connective, with_left, chosen_arm, choice, is_conjunction, assignment, assigned, updated, declaration_of}
use Rattle.tg_translate.specs.mirror.Translate.{expression, behind_read, locate, values, fields, sequence, declarations, bodies}
use Rattle.tg_translate_proof.specs.glue.Tables.{IsSuffix, Later}
use Rattle.tg_translate_proof.specs.glue.Situations.{Program}
use Rattle.tg_translate_proof.proofs.state.TranslationStates.{state_in, behind_none, behind_on, front_none, later_none, later_on}
use Rattle.tg_translate_proof.proofs.invariant.Parts.{StatesGrow}

-- the frame of the function at work keeps its label, its parameters and its words for arguments
pub record FrameStays (s t : TranslationState) : Type 0 where
  pub label : t.frame.label ≡ s.frame.label
  pub params : t.frame.params ≡ s.frame.params
  pub out : t.frame.out ≡ s.frame.out

frame_on : {s t u : TranslationState} → FrameStays s t → FrameStays t u → FrameStays s u
frame_on h k = record { label = k.label ∙ h.label; params = k.params ∙ h.params; out = k.out ∙ h.out }

frame_same : {s t : TranslationState} → t.frame.label ≡ s.frame.label → t.frame.params ≡ s.frame.params → t.frame.out ≡ s.frame.out → FrameStays s t
frame_same a b c = record { label = a; params = b; out = c }

-- what is drawn from a state on leaves a later one
pub record Growing {A : Type 0} (d : Translated A) (s : TranslationState) : Type 0 where
  pub on : Later s (state_in d)
  pub frame : FrameStays s (state_in d)

-- nothing is drawn
stays : {A : Type 0} {a : A} {s : TranslationState} → Growing (drawn a s) s
stays {s = s} = record { on = later_none s; frame = frame_same refl refl refl }

pub nothing_grows : {A : Type 0} {a : A} {s : TranslationState} → Growing (drawn a s) s
nothing_grows = stays

-- actions, one after another
pub then_grows : {A B : Type 0} {s : TranslationState} {d : Translated A} {next : A → Translates B} → Growing d s →
    ((a : A) (t : TranslationState) → Growing (next a t) t) →
    Growing (after d next) s
then_grows {s = s} {d = drawn a t} {next = next} h k = record {
  on = later_on s t (state_in (next a t)) h.on (k a t).on;
  frame = frame_on h.frame
      (k a t).frame;
}

-- temporaries, slots, homes, callees and literals may come
grow_by : {A : Type 0} {a : A} {s t : TranslationState} → s.frame.temps ≤ t.frame.temps → s.frame.slots ≤ t.frame.slots → IsSuffix t.homes s.homes →
    IsSuffix t.callees s.callees → IsPrefix s.literals t.literals → t.functions ≡ s.functions → FrameStays s t → Growing (drawn a t) s
grow_by {t = t} temps slots homes callees literals same kept = record {
  on =
      record {
        temps = temps;
        slots = slots;
        homes = homes;
        callees = callees;
        literals = literals;
        functions = subst (λ l. IsPrefix l t.functions) same front_none;
      };
  frame = kept;
}

-- What is made what its place wants.

one_fresh : {A : Type 0} {a : A} {s : TranslationState} → Growing (drawn a (with_frame (one_temp s.frame) s)) s
one_fresh = grow_by (omega arith) (omega arith) behind_none behind_none front_none refl (frame_same refl refl refl)

pub fresh_grows : {A : Type 0} {a : A} {s : TranslationState} → Growing (drawn a (with_frame (one_temp s.frame) s)) s
fresh_grows = one_fresh

value_grows : (m : Made) (s : TranslationState) → Growing (value_of m s) s
value_grows (value x) s = stays
value_grows (done x) s = stays
value_grows (test c) s = one_fresh

arms_grow : (w : Want) (s : TranslationState) → Growing (arms w s) s
arms_grow want.Value s = one_fresh
arms_grow (want.Into i) s = stays
arms_grow want.Dropped s = stays
arms_grow want.Test s = one_fresh

behind_value_grows : (ss : Stms) (m : Made) (s : TranslationState) → Growing (after (value_of m s) (λ x. give (value_behind ss x))) s
behind_value_grows ss m s = then_grows (value_grows m s) (λ x t. stays)

behind_some_grows : (w : Want) (ss : Stms) (m : Made) (s : TranslationState) → Growing (behind_some w ss m s) s
behind_some_grows want.Value ss m s = behind_value_grows ss m s
behind_some_grows (want.Into i) ss m s = stays
behind_some_grows want.Dropped ss m s = stays
behind_some_grows want.Test ss m s = behind_value_grows ss m s

behind_grows : (w : Want) (ss : Stms) (m : Made) (s : TranslationState) → Growing (behind w ss m s) s
behind_grows w no_stms m s = stays
behind_grows w (stm x ss) m s = behind_some_grows w (stm x ss) m s

module _ {s : TranslationState} {d : Translated Made} (h : Growing d s) where
  value_from_grows : Growing (after d value_of) s
  value_from_grows = then_grows h (λ m t. value_grows m t)

  condition_from_grows : Growing (after d (λ m. give (test_of m))) s
  condition_from_grows = then_grows h (λ m t. stays)

  statement_from_grows : Growing (after d (λ m. give (dropped m))) s
  statement_from_grows = then_grows h (λ m t. stays)

  arm_from_grows : (w : Want) → Growing (after d (λ m. give (as_statement w m))) s
  arm_from_grows w = then_grows h (λ m t. stays)

-- Operands and places.

hold_grows : (direct : Bool) (ss : Stms) (x : Tx) (s : TranslationState) → Growing (hold direct ss x s) s
hold_grows direct ss (Const n) s = stays
hold_grows true ss (Temp t) s = stays
hold_grows false ss (Temp t) s = one_fresh
hold_grows direct ss x s = one_fresh

hold_next_grows : (direct : Bool) (all : HeldAll) (x : Tx) (s : TranslationState) → Growing (hold_next direct all x s) s
hold_next_grows direct all x s = then_grows (hold_grows direct all.before x s) (λ h t. stays)

assign_grows : (p : Storage) (m : Made) (s : TranslationState) → Growing (assign p m s) s
assign_grows (in_temp i) m s = stays
assign_grows (at_address ss a) m s = then_grows (value_grows m s) (λ x t. stays)

base_grows : (ss : Stms) (x : Tx) (address : Operand → HeldAddress) (s : TranslationState) → Growing (hold_base ss x address s) s
base_grows ss x address s = then_grows (hold_grows true ss x s) (λ h t. stays)

pub hold_address_grows : (ss : Stms) (a : Tx) (s : TranslationState) → Growing (hold_address ss a s) s
hold_address_grows ss (tree.Binary o FrameAddress (Const k)) s = stays
hold_address_grows ss (tree.Binary o x (Const k)) s = base_grows ss x (λ p. Beside p o k) s
hold_address_grows ss a s = base_grows ss a (λ p. At p) s

hold_place_grows : (p : Storage) (s : TranslationState) → Growing (hold_place p s) s
hold_place_grows (in_temp i) s = stays
hold_place_grows (at_address ss a) s = then_grows (hold_address_grows ss a s) (λ h t. stays)

field_grows : (k : ℕ) (x : Tx) (s : TranslationState) → Growing (field_place k x s) s
field_grows k x s = then_grows (hold_grows true no_stms x s) (λ h t. stays)

element_grows : (direct : Bool) (x y : Tx) (s : TranslationState) → Growing (element_place direct x y s) s
element_grows direct x y s =
    then_grows (hold_grows direct no_stms x s) (λ a t. then_grows (hold_grows true a.before y t) (λ i u. stays))

record_grows : (all : HeldAll) (s : TranslationState) → Growing (make_record all s) s
record_grows all s = one_fresh

count_grows : (home : Access) (x y : Tx) (turn : Ts) (s : TranslationState) → Growing (count home x y turn s) s
count_grows home x y turn s =
    then_grows (hold_grows false no_stms x s) (λ l t. one_fresh)

-- Operators.

product_grows : (direct : Bool) (x y : Tx) (s : TranslationState) → Growing (product direct x y s) s
product_grows direct x y s =
    then_grows (hold_grows direct no_stms x s) (λ l t. then_grows (hold_grows true l.before y t) (λ r u. one_fresh))

checked_grows : (direct : Bool) (x y : Tx) (s : TranslationState) → Growing (checked_quotient direct x y s) s
checked_grows direct x y s =
    then_grows (hold_grows direct no_stms x s) (λ l t. then_grows (hold_grows true l.before y t) (λ r u. stays))

by_number_grows : (b : Bool) (direct : Bool) (x : Tx) (n : ℕ) (s : TranslationState) →
    Growing ((if b then checked_quotient direct x (Const n) else give (value (tree.Binary bin.Div x (Const n)))) s) s
by_number_grows true direct x n s = checked_grows direct x (Const n) s
by_number_grows false direct x n s = stays

quotient_grows : (direct : Bool) (x y : Tx) (s : TranslationState) → Growing (quotient direct x y s) s
quotient_grows direct x (Const n) s = by_number_grows (n == 0 || n == minus_one) direct x n s
quotient_grows direct x y s = checked_grows direct x y s

operation_grows : (o : Op) (strings direct : Bool) (x y : Tx) (s : TranslationState) → Growing (operation o strings direct x y s) s
operation_grows op.Times strings direct x y s = product_grows direct x y s
operation_grows op.Divide strings direct x y s = quotient_grows direct x y s
operation_grows o strings direct x y s = stays

-- Names and declarations.

local_grows : (escapes : Bool) (s : TranslationState) → Growing (local escapes s) s
local_grows true s = grow_by (omega arith) (omega arith) behind_none behind_none front_none refl (frame_same refl refl refl)
local_grows false s = grow_by (omega arith) (omega arith) behind_none behind_none front_none refl (frame_same refl refl refl)

pub home_grows : (escapes : Bool) (s : TranslationState) → Growing (local escapes s) s
home_grows escapes s = local_grows escapes s

-- with these homes before those that there are
pub homes_grow : {A : Type 0} {d : Translated A} (s : TranslationState) (homes : List (ℕ × Home)) → IsSuffix homes s.homes →
    Growing d (record s { homes = homes }) → Growing d s
homes_grow {d = drawn a t} s homes h k = record {
  on =
      later_on s (record s { homes = homes }) t
      (record { temps = omega arith; slots = omega arith; homes = h; callees = behind_none; literals = front_none; functions = front_none }) k.on;
  frame = frame_on (frame_same refl refl refl) k.frame;
}

pub one_behind : {A : Type 0} (x : A) (xs : List A) → IsSuffix (x ∷ xs) xs
one_behind x xs = record { more = x ∷ []; whole_is = refl }

one_front : {A : Type 0} (x : A) (xs : List A) → IsPrefix xs (xs ++ x ∷ [])
one_front x xs = record { more = x ∷ []; whole = refl }

declare_grows : (escapes : Bool) (level at : ℕ) (s : TranslationState) → Growing (declare_variable escapes level at s) s
declare_grows escapes level at s =
    then_grows (local_grows escapes s)
    (λ access t. homes_grow t ((at, record { level = level; access = access }) ∷ t.homes)
    (one_behind (at, record { level = level; access = access }) t.homes) (stays {a = access}))

variable_grows : (within : Within) (m : Option Means) (s : TranslationState) → Growing (variable_place within m s) s
variable_grows within (Some (means.Variable at)) s = stays
variable_grows within m s = stays

call_grows : (within : Within) (m : Option Means) (xs : Txs) (s : TranslationState) → Growing (call within m xs s) s
call_grows within (Some (means.Function at)) xs s = stays
call_grows within (Some (means.Standard f)) xs s = stays
call_grows within m xs s = stays

pub callee_grows : {A : Type 0} {d : Translated A} (s : TranslationState) (at : ℕ) (callee : Callee) →
    Growing d (record s { label = s.label + 1; callees = (at, callee) ∷ s.callees }) → Growing d s
callee_grows {d = drawn a t} s at callee k = record {
  on =
      later_on s (record s { label = s.label + 1; callees = (at, callee) ∷ s.callees }) t
      (record {
        temps = omega arith;
        slots = omega arith;
        homes = behind_none;
        callees = one_behind
            (at, callee) s.callees;
        literals = front_none;
        functions = front_none;
      }) k.on;
  frame = frame_on (frame_same refl refl refl) k.frame;
}

pub functions_declared_grow : (level : ℕ) (fs : FunDecs) (s : TranslationState) → Growing (declare_functions level fs s) s
functions_declared_grow level no_functions s = stays
functions_declared_grow level (function f ps r e rest) s =
    callee_grows s (at_of f) (record { level = level; label = record { 0 = s.label } }) (functions_declared_grow level rest _)

pub parameters_behind : (level : ℕ) (ps : List Param) (homes : List Access) (seen : List (ℕ × Home)) → IsSuffix (parameters level ps homes seen) seen
parameters_behind level [] homes seen = behind_none
parameters_behind level (p ∷ ps) [] seen = behind_none
parameters_behind level (p ∷ ps) (home ∷ homes) seen =
    behind_on (parameters_behind level ps homes ((at_of p.name, record { level = level; access = home }) ∷ seen)) (one_behind _ seen)

-- what is done to a state is done from a given moment of it
closing_grows : (has_result : Bool) (m : Made) (s : TranslationState) → Growing (closing has_result m s) s
closing_grows true m s = then_grows (value_grows m s) (λ x t. stays)
closing_grows false m s = stays

-- a text inside, and the function that is made of it
pub done_grows : (s : TranslationState) (label : ℕ) (asks : List Bool) (d : Translated Ts) → Growing d (opened s (frame_for label asks)) →
    Growing (finish s d) s
done_grows s label asks (drawn x u) h = record {
  on =
      record {
        temps = omega arith;
        slots = omega arith;
        homes = h.on.homes;
        callees = h.on.callees;
        literals = h.on.literals;
        functions = record { more = with_body u.frame x ∷ u.functions; whole = refl };
      };
  frame = frame_same refl refl refl;
}

-- Everything that takes a part's translation grows where the part does.
module _ {right : Want → Translates Made} (grows : (w : Want) (s : TranslationState) → Growing (right w s) s) where
  into_arms_grow : (o : Op) (w : Want) (c : Cond) (s : TranslationState) →
      Growing (after (arms w s) (λ a t. after (right a t) (λ m. give (deliver w a (chosen o a c m))))) s
  into_arms_grow o w c s = then_grows (arms_grow w s) (λ a t. then_grows (grows a t) (λ m u. stays))

  connective_grows : (o : Op) (w : Want) (c : Cond) (s : TranslationState) → Growing (connective o w c right s) s
  connective_grows o want.Test c s = then_grows (grows want.Test s) (λ m t. stays)
  connective_grows o want.Value c s = into_arms_grow o want.Value c s
  connective_grows o (want.Into i) c s = into_arms_grow o (want.Into i) c s
  connective_grows o want.Dropped c s = into_arms_grow o want.Dropped c s

  operator_grows : (o : Op) (strings direct : Bool) (left : Made) (s : TranslationState) →
      Growing (after (value_of left s) (λ x t. after (after (right want.Value t) value_of) (λ y. operation o strings direct x y))) s
  operator_grows o strings direct left s =
      then_grows (value_grows left s) (λ x t. then_grows (value_from_grows (grows want.Value t)) (λ y u. operation_grows o strings direct x y u))

  with_left_grows : (o : Op) (m : Option Means) (direct : Bool) (w : Want) (left : Made) (s : TranslationState) →
      Growing (with_left o m direct w left right s) s
  with_left_grows op.And m direct w left s = connective_grows op.And w (test_of left) s
  with_left_grows op.Or m direct w left s = connective_grows op.Or w (test_of left) s
  with_left_grows o m direct w left s = operator_grows o (compares_strings m) direct left s

  assigned_grows : (p : Storage) (s : TranslationState) → Growing (assigned p right s) s
  assigned_grows p s = then_grows (grows (want_for p) s) (λ m t. assign_grows p m t)

  declaration_grows : (escapes : ℕ → Bool) (level at : ℕ) (s : TranslationState) → Growing (declaration_of escapes level at right s) s
  declaration_grows escapes level at s =
      then_grows (declare_grows (escapes at) level at s) (λ home t. then_grows (grows (want_for (own_place home)) t) (λ m u. assign_grows (own_place home) m u))

module _ {this other : Want → Translates Made} (this_grows : (w : Want) (s : TranslationState) → Growing (this w s) s)
    (other_grows : (w : Want) (s : TranslationState) → Growing (other w s) s) where
  chosen_grows : (w : Want) (c : Cond) (s : TranslationState) → Growing (chosen_arm w c this other s) s
  chosen_grows w c s =
      then_grows (arms_grow w s)
      (λ v t. then_grows (arm_from_grows (this_grows v t) v) (λ x u. then_grows (arm_from_grows (other_grows v u) v) (λ y o. stays)))

  choice_grows : (conjunction : Bool) (w : Want) (c : Cond) (s : TranslationState) → Growing (choice conjunction w c this other s) s
  choice_grows true w c s = connective_grows this_grows op.And w c s
  choice_grows false w c s = chosen_grows w c s

updated_grows : {right : Tx → Want → Translates Made} → ((x : Tx) (w : Want) (s : TranslationState) → Growing (right x w s) s) →
    (p : Storage) (s : TranslationState) →
    Growing (updated p right s) s
updated_grows grows p s =
    then_grows (hold_place_grows p s) (λ held t. then_grows (grows (read_held held) (want_for (place_held held)) t) (λ m u. assign_grows (place_held held) m u))

assignment_grows : {right : Want → Translates Made} {again : Tx → Want → Translates Made} → ((w : Want) (s : TranslationState) → Growing (right w s) s) →
    ((x : Tx) (w : Want) (s : TranslationState) → Growing (again x w s) s) → (first : Bool) (p : Storage) (s : TranslationState) →
    Growing (assignment first p right again s) s
assignment_grows h k true p s = updated_grows k p s
assignment_grows h k false p s = assigned_grows h p s

-- a function's text, from its begin
body_in_grows : {text : Want → Within → Translates Made} → ((w : Want) (within : Within) (s : TranslationState) → Growing (text w within s) s) →
    (f : Frame) (ps : List Param) (kept has_result : Bool) (within : Within) (s : TranslationState) →
    Growing (body_in f ps kept has_result text within s) s
body_in_grows grows f ps kept has_result within s =
    let homes = parameters (within.level + 1) ps (own_homes f.params) s.homes in
    homes_grow s homes (parameters_behind (within.level + 1) ps (own_homes f.params) s.homes)
    (then_grows (grows (result_want has_result) (inside within kept) (record s { homes = homes })) (λ m u. closing_grows has_result m u))

-- and in a frame of its own
body_grows : {text : Want → Within → Translates Made} → ((w : Want) (within : Within) (s : TranslationState) → Growing (text w within s) s) →
    (label : ℕ) (escapes keeps : ℕ → Bool) (at : ℕ) (has_result : Bool) (ps : List Param) (within : Within) (s : TranslationState) →
    Growing (body label escapes keeps at has_result ps text within s) s
body_grows grows label escapes keeps at has_result ps within s =
    let f = frame_for label (asked escapes (keeps at) ps) in
    done_grows s label (asked escapes (keeps at) ps) _ (body_in_grows grows f ps (keeps at) has_result within (opened s f))

pub literal_grows : (bytes : List ℕ) (s : TranslationState) → Growing (literal bytes s) s
literal_grows bytes s =
    grow_by (omega arith) (omega arith) behind_none behind_none (one_front (record { label = s.label; text = string_text bytes }) s.literals) refl
    (frame_same refl refl refl)

-- The walk over the text.
module _ (findings : Findings) where
  mutual
    pub expression_grows : (e : Exp) (w : Want) (within : Within) (s : TranslationState) → Growing (expression findings e w within s) s
    expression_grows (Nil _) w within s = stays
    expression_grows (Int _ n) w within s = stays
    expression_grows (Break _) w within s = stays
    expression_grows (Text _ bytes) w within s =
        grow_by (omega arith) (omega arith) behind_none behind_none (one_front (record { label = s.label; text = string_text bytes }) s.literals) refl
        (frame_same refl refl refl)
    expression_grows (Read _ v) w within s = then_grows (place_grows v within s) (λ p t. stays)
    expression_grows (Call _ f es) w within s =
        then_grows (values_grow es no_txs within s) (λ xs t. then_grows (call_grows within (findings.meaning (at_of f)) xs t) (λ x u. stays))
    expression_grows (Neg _ a) w within s = then_grows (value_from_grows (expression_grows a want.Value within s)) (λ x t. stays)
    expression_grows (Binary _ o at a b) w within s =
        then_grows (expression_grows a (left_want o) within s)
        (λ left t. with_left_grows (λ v u. expression_grows b v within u) o (findings.meaning at) (assigns_nothing b) w left t)
    expression_grows (Make _ _ is) w within s =
        then_grows (fields_grow is (inits_assign_nothing is) none_held within s) (λ all t. record_grows all t)
    expression_grows (Fill _ _ a b) w within s =
        then_grows (value_from_grows (expression_grows a want.Value within s))
        (λ x t. then_grows (value_from_grows (expression_grows b want.Value within t)) (λ y u. stays))
    expression_grows (Assign _ v e) w within s =
        then_grows (place_grows v within s)
        (λ p t. then_grows (assignment_grows (λ w u. expression_grows e w within u) (λ x w u. behind_grows_read e x w within u)
        (begins_with findings.meaning e v) p t)
        (λ x u. stays))
    expression_grows (If _ c a b) w within s =
        then_grows (condition_from_grows (expression_grows c want.Test within s))
        (λ d t. choice_grows (λ v u. expression_grows a v within u) (λ v u. expression_grows b v within u) (is_conjunction w b) w d t)
    expression_grows (When _ c a) w within s =
        then_grows (condition_from_grows (expression_grows c want.Test within s))
        (λ d t. then_grows (statement_from_grows (expression_grows a want.Dropped within t)) (λ x u. stays))
    expression_grows (While _ c a) w within s =
        then_grows (condition_from_grows (expression_grows c want.Test (in_test within) s))
        (λ d t. then_grows (statement_from_grows (expression_grows a want.Dropped (in_body within) t)) (λ x u. stays))
    expression_grows (For _ i low high a) w within s =
        then_grows (value_from_grows (expression_grows low want.Value within s))
        (λ x t. then_grows (value_from_grows (expression_grows high want.Value within t))
        (λ y u. then_grows (declare_grows (findings.escapes (at_of i)) within.level (at_of i) u)
        (λ home v. then_grows (statement_from_grows (expression_grows a want.Dropped (in_body within) v))
        (λ turn o. then_grows (count_grows home x y turn o) (λ z q. stays {a = done z})))))
    expression_grows (Let _ ds es) w within s =
        then_grows (declarations_grow ds no_stms within s)
        (λ before t. then_grows (sequence_grows es w before within t) (λ begun u. behind_grows w begun.before begun.last u))
    expression_grows (Seq _ es) w within s =
        then_grows (sequence_grows es w no_stms within s) (λ begun t. behind_grows w begun.before begun.last t)

    pub behind_grows_read : (e : Exp) (x : Tx) (w : Want) (within : Within) (s : TranslationState) → Growing (behind_read findings e x w within s) s
    behind_grows_read (Binary _ o at a b) x w within s =
        then_grows (behind_grows_read a x (left_want o) within s)
        (λ left t. with_left_grows (λ v u. expression_grows b v within u) o (findings.meaning at) (assigns_nothing b) w left t)
    behind_grows_read e x w within s = stays

    pub place_grows : (v : source.LValue) (within : Within) (s : TranslationState) → Growing (locate findings v within s) s
    place_grows (Simple x) within s = variable_grows within (findings.meaning (at_of x)) s
    place_grows (Field v f) within s =
        then_grows (place_grows v within s) (λ p t. field_grows (field_number (findings.meaning (at_of f))) (read p) t)
    place_grows (Index v e) within s =
        then_grows (place_grows v within s)
        (λ p t. then_grows (value_from_grows (expression_grows e want.Value within t)) (λ y u. element_grows (assigns_nothing e) (read p) y u))

    pub values_grow : (es : Exps) (before : Txs) (within : Within) (s : TranslationState) → Growing (values findings es before within s) s
    values_grow no_exps before within s = stays
    values_grow (exp e rest) before within s =
        then_grows (value_from_grows (expression_grows e want.Value within s)) (λ x t. values_grow rest (join_txs before (tx x no_txs)) within t)

    pub fields_grow : (is : Inits) (direct : Bool) (before : HeldAll) (within : Within) (s : TranslationState) →
        Growing (fields findings is direct before within s) s
    fields_grow no_inits direct before within s = stays
    fields_grow (init _ e rest) direct before within s =
        then_grows (value_from_grows (expression_grows e want.Value within s))
        (λ x t. then_grows (hold_next_grows direct before x t) (λ more u. fields_grow rest direct more within u))

    pub sequence_grows : (es : Exps) (w : Want) (before : Stms) (within : Within) (s : TranslationState) → Growing (sequence findings es w before within s) s
    sequence_grows no_exps w before within s = stays
    sequence_grows (exp e no_exps) w before within s = then_grows (expression_grows e w within s) (λ m t. stays)
    sequence_grows (exp e (exp f rest)) w before within s =
        then_grows (statement_from_grows (expression_grows e want.Dropped within s)) (λ x t. sequence_grows (exp f rest) w (followed before x) within t)

    pub declarations_grow : (ds : Decs) (before : Stms) (within : Within) (s : TranslationState) → Growing (declarations findings ds before within s) s
    declarations_grow no_decs before within s = stays
    declarations_grow (types _ rest) before within s = declarations_grow rest before within s
    declarations_grow (variable x _ e rest) before within s =
        then_grows (declaration_grows (λ w t. expression_grows e w within t) findings.escapes within.level (at_of x) s)
        (λ y t. declarations_grow rest (followed before y) within t)
    declarations_grow (functions fs rest) before within s =
        then_grows (functions_declared_grow within.level fs s)
        (λ _ t. then_grows (bodies_grow fs s.label within t) (λ _ u. declarations_grow rest before within u))

    pub bodies_grow : (fs : FunDecs) (label : ℕ) (within : Within) (s : TranslationState) → Growing (bodies findings fs label within s) s
    bodies_grow no_functions label within s = stays
    bodies_grow (function f ps r e rest) label within s =
        then_grows (body_grows (λ w inner t. expression_grows e w inner t) label findings.escapes findings.keeps_link (at_of f) (is_some r) ps within s)
        (λ _ t. bodies_grow rest (label + 1) within t)

-- from the translation's equation
pub grows_by : {A : Type 0} {s t : TranslationState} {a : A} {d : Translated A} → Growing d s → d ≡ drawn a t → Later s t
grows_by {s = s} h e = subst (λ o. Later s (state_in o)) e h.on

pub frame_by : {A : Type 0} {s t : TranslationState} {a : A} {d : Translated A} → Growing d s → d ≡ drawn a t → FrameStays s t
frame_by {s = s} h e = subst (λ o. FrameStays s (state_in o)) e h.frame

pub states_grow : (P : Program) → StatesGrow P
states_grow P e wanted within m s t made = grows_by (expression_grows P.findings e wanted within s) made

-- of a function's text: its last state has the frame that it began with, but for slots and temporaries
pub text_grows : (findings : Findings) (f : Frame) (ps : List Param) (kept has_result : Bool) (e : Exp) (within : Within) (s : TranslationState) →
    Growing (body_in f ps kept has_result (λ w v. expression findings e w v) within s) s
text_grows findings f ps kept has_result e within s = body_in_grows (λ w v t. expression_grows findings e w v t) f ps kept has_result within s
