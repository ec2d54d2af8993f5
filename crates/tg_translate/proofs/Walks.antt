-- Walks over lists of a tree: each part is translated after those before it.
use Rattle.std.proofs.Common.{◌≡◌, ℕ, ◌+◌, ◌<◌, List, [], ◌∷◌, length, drop, get_or, refl, sym, ap, ◌∙◌, arith, Bool}
use Rattle.std.proofs.Math.Seq.{drop-length}
use Rattle.std.proofs.lemmas.List.{drop_more, get_or_default}
use Rattle.tg_syntax.specs.declared.trees.Exp.{Exp as CodeExp}
use Rattle.tg_syntax.specs.declared.trees.Init.{Init as CodeInit}
use Rattle.tg_syntax.specs.declared.trees.Dec.{Dec as CodeDec, Types, Variable', Functions}
use Rattle.tg_syntax.specs.declared.trees.FunDec.{FunDec as CodeFunDec}
use Rattle.tg_syntax.specs.declared.trees.Exps.{Exps as CodeExps, out-Exps}
use Rattle.tg_syntax.specs.declared.trees.Inits.{Inits as CodeInits, out-Inits}
use Rattle.tg_syntax.specs.declared.trees.FunDecs.{FunDecs as CodeFunDecs, out-FunDecs}
use Rattle.tg_syntax.specs.Tree.{Exps, no_exps, exp, Decs, no_decs}
use Rattle.tg_syntax.specs.glue.Plain.{plain, plain_kind, plain_exps, plain_inits, plain_functions, plain_dec}
use Rattle.tg_syntax.specs.glue.Lists.{exps_of, inits_of, decs_of, functions_of}
use Rattle.tg_syntax.proofs.ListLaws.{plain_exps-items, plain_inits-items, plain_functions-items}
use Rattle.tg_tree.specs.Tree.{Const, Txs, no_txs, tx, Ts, Stms}
use Rattle.tg_tree.specs.glue.Lists.{join_txs}
use Rattle.tg_translate.specs.declared.homes.Within.{Within}
use Rattle.tg_translate.specs.declared.wants.Want.{Want}
use Rattle.tg_translate.specs.mirror.States.{TranslationState, Translates, Translated, drawn, after, ◌>>=◌, ◌>>◌, give}
use Rattle.tg_translate.specs.mirror.Wants.{Made, value, followed}
use Rattle.tg_translate.specs.mirror.Constructs.{HeldAll, hold_next}
use Rattle.tg_translate.specs.mirror.Functions.{at_of, declare_functions}
use Rattle.tg_translate.specs.mirror.Scopes.{Findings}
use Rattle.tg_translate.specs.mirror.Translate.{expression, values, fields, sequence, declarations, declaration_of, bodies, Begun}
use Rattle.tg_translate.specs.glue.Parts.{value_in, statement_in, body_in}
use Rattle.tg_translate.proofs.Steps.{step}

-- one action and then another is the two together
pub together :
    {A B C : Type 0} (f : A → Translates C) (g : A → Translates B) (h : B → Translates C) (d : Translated A) → ((a : A) (s : TranslationState) → f a s ≡ after (g a s) h) →
    after d f ≡ after (after d g) h
together f g h (drawn a s) e = e a s

pub alike : {A B : Type 0} (f g : A → Translates B) (d : Translated A) → ((a : A) (s : TranslationState) → f a s ≡ g a s) → after d f ≡ after d g
alike f g (drawn a s) e = e a s

thrice :
    {A B C D : Type 0} (f : A → Translates D) (g : A → Translates B) (h : B → Translates C) (k : C → Translates D) (d : Translated A) →
    ((a : A) (s : TranslationState) → f a s ≡ after (after (g a s) h) k) → after d f ≡ after (after (after d g) h) k
thrice f g h k (drawn a s) e = e a s

-- an action for each of a list, which hands on what was made so far
abbrev pub in_turn : {X B : Type 0} → (X → B → Translates B) → List X → B → Translates B
in_turn f [] b = give b
in_turn f (x ∷ xs) b = f x b >>= in_turn f xs

-- a walk over a list, up to a part of it
abbrev pub WalkedTo : {X B : Type 0} → (X → B → Translates B) → List X → (k : ℕ) → (first : B) → TranslationState → (now : B) → TranslationState → Type 0
WalkedTo f xs k b s c t = in_turn f xs b s ≡ in_turn f (drop k xs) c t

from_here : {A : Type 0} (xs : List A) (k : ℕ) (x : A) → k < length xs → x ≡ get_or xs k x → drop k xs ≡ x ∷ drop (k + 1) xs
from_here xs k x l i = drop_more xs k x l ∙ ap (λ y. y ∷ drop (k + 1) xs) (sym i)

none_left : {A : Type 0} (xs : List A) (k : ℕ) → k ≡ length xs → drop k xs ≡ []
none_left xs k e = ap (λ j. drop j xs) e ∙ drop-length xs

pub walk_on :
    {X B : Type 0} (f : X → B → Translates B) (xs : List X) (k : ℕ) (b c d : B) (s t u : TranslationState) (x : X) →
    WalkedTo f xs k b s c t → k < length xs → x ≡ get_or xs k x → f x c t ≡ drawn d u → WalkedTo f xs (k + 1) b s d u
walk_on f xs k b c d s t u x w l i m =
    w ∙ (ap (λ ys. in_turn f ys c t) (from_here xs k x l i) ∙ step (in_turn f (drop (k + 1) xs)) m refl)

pub walk_ends :
    {X B : Type 0} (f : X → B → Translates B) (xs : List X) (k : ℕ) (b c : B) (s t : TranslationState) →
    WalkedTo f xs k b s c t → k ≡ length xs → in_turn f xs b s ≡ drawn c t
walk_ends f xs k b c s t w e = w ∙ ap (λ ys. in_turn f ys c t) (none_left xs k e)

module _ (findings : Findings) (within : Within) where
  abbrev pub value_step : CodeExp → Txs → Translates Txs
  value_step e before = value_in findings (plain e) within >>= λ x. give (join_txs before (tx x no_txs))

  abbrev pub field_step : (direct : Bool) → CodeInit → HeldAll → Translates HeldAll
  field_step direct i before = value_in findings (plain i.value) within >>= λ x. hold_next direct before x

  abbrev pub declaration_step : CodeDec → Stms → Translates Stms
  declaration_step d before = declarations findings (plain_dec d no_decs) before within

  abbrev pub body_step : CodeFunDec → ℕ → Translates ℕ
  body_step f label = body_in findings f label within >>= λ _. give (label + 1)

  values_in : (es : List CodeExp) (before : Txs) (s : TranslationState) → values findings (exps_of es) before within s ≡ in_turn value_step es before s
  values_in [] before s = refl
  values_in (e ∷ es) before s =
      together (λ x. values findings (exps_of es) (join_txs before (tx x no_txs)) within) (λ x. give (join_txs before (tx x no_txs))) (in_turn value_step es)
      (value_in findings (plain e) within s) (λ x t. values_in es (join_txs before (tx x no_txs)) t)

  pub values_are : (es : CodeExps) (s : TranslationState) →
      values findings (plain_exps es) no_txs within s ≡ in_turn value_step (out-Exps es).items.items no_txs s
  values_are es s = ap (λ x. values findings x no_txs within s) (plain_exps-items es) ∙ values_in (out-Exps es).items.items no_txs s

  fields_in : (is : List CodeInit) (direct : Bool) (before : HeldAll) (s : TranslationState) →
      fields findings (inits_of is) direct before within s ≡ in_turn (field_step direct) is before s
  fields_in [] direct before s = refl
  fields_in (i ∷ is) direct before s =
      together (λ x. hold_next direct before x >>= λ more. fields findings (inits_of is) direct more within) (hold_next direct before)
      (in_turn (field_step direct) is) (value_in findings (plain i.value) within s)
      (λ x t. alike (λ more. fields findings (inits_of is) direct more within) (in_turn (field_step direct) is) (hold_next direct before x t)
      (λ more u. fields_in is direct more u))

  pub fields_are : (is : CodeInits) (direct : Bool) (before : HeldAll) (s : TranslationState) →
      fields findings (plain_inits is) direct before within s ≡ in_turn (field_step direct) (out-Inits is).items.items before s
  fields_are is direct before s =
      ap (λ x. fields findings x direct before within s) (plain_inits-items is) ∙ fields_in (out-Inits is).items.items direct before s

  dec_then : (d : CodeDec) (rest : Decs) (before : Stms) (s : TranslationState) →
      declarations findings (plain_dec d rest) before within s
      ≡ after (declarations findings (plain_dec d no_decs) before within s) (λ b. declarations findings rest b within)
  dec_then (Types ds) rest before s = refl
  dec_then (Variable' x t sp e) rest before s =
      together (λ one. declarations findings rest (followed before one) within) (λ one. give (followed before one))
      (λ b. declarations findings rest b within)
      (declaration_of findings.escapes within.level (at_of x) (λ v. expression findings (plain_kind e sp) v within) s) (λ _ _. refl)
  dec_then (Functions fs) rest before s =
      together (λ _. bodies findings (plain_functions fs) s.label within >>= λ _. declarations findings rest before within)
      (λ _. bodies findings (plain_functions fs) s.label within >>= λ _. give before) (λ b. declarations findings rest b within)
      (declare_functions within.level (plain_functions fs) s)
      (λ _ t. together (λ _. declarations findings rest before within) (λ _. give before) (λ b. declarations findings rest b within)
      (bodies findings (plain_functions fs) s.label within t) (λ _ _. refl))

  pub declarations_are : (ds : List CodeDec) (before : Stms) (s : TranslationState) →
      declarations findings (decs_of ds) before within s ≡ in_turn declaration_step ds before s
  declarations_are [] before s = refl
  declarations_are (d ∷ ds) before s =
      dec_then d (decs_of ds) before s ∙ alike (λ b. declarations findings (decs_of ds) b within) (in_turn declaration_step ds)
      (declarations findings (plain_dec d no_decs) before within s) (λ b t. declarations_are ds b t)

  bodies_in : (fs : List CodeFunDec) (label : ℕ) (s : TranslationState) →
      bodies findings (functions_of fs) label within s ≡ after (in_turn body_step fs label s) (λ _. give tt)
  bodies_in [] label s = refl
  bodies_in (f ∷ fs) label s =
      thrice (λ _. bodies findings (functions_of fs) (label + 1) within) (λ _. give (label + 1)) (in_turn body_step fs) (λ _. give tt)
      (body_in findings f label within s) (λ _ t. bodies_in fs (label + 1) t)

  pub bodies_are : (fs : CodeFunDecs) (label : ℕ) (s : TranslationState) →
      bodies findings (plain_functions fs) label within s ≡ after (in_turn body_step (out-FunDecs fs).items.items label s) (λ _. give tt)
  bodies_are fs label s = ap (λ x. bodies findings x label within s) (plain_functions-items fs) ∙ bodies_in (out-FunDecs fs).items.items label s

  -- what is left of a sequence, and where nothing is left what its last expression became
  abbrev pub left_of : Exps → Want → Stms → Made → Translates Begun
  left_of no_exps w before last = give (record { before = before; last = last })
  left_of (exp e rest) w before last = sequence findings (exp e rest) w before within

  abbrev pub SequencedTo : List CodeExp → Want → (k : ℕ) → Stms → TranslationState → Stms → Made → TranslationState → Type 0
  SequencedTo es w k b s c last t = sequence findings (exps_of es) w b within s ≡ left_of (exps_of (drop k es)) w c last t

  begins : (es : Exps) (w : Want) (b : Stms) (s : TranslationState) → sequence findings es w b within s ≡ left_of es w b (value (Const 0)) s
  begins no_exps w b s = refl
  begins (exp e rest) w b s = refl

  pub sequence_begins : (es : List CodeExp) (w : Want) (b : Stms) (s : TranslationState) → SequencedTo es w 0 b s b (value (Const 0)) s
  sequence_begins es w b s = begins (exps_of es) w b s

  pub one_dropped :
      (es : List CodeExp) (w : Want) (k : ℕ) (b c : Stms) (s t u : TranslationState) (last : Made) (e : CodeExp) (x : Ts) →
      SequencedTo es w k b s c last t → k + 1 < length es → e ≡ get_or es k e →
      statement_in findings (plain e) within t ≡ drawn x u → SequencedTo es w (k + 1) b s (followed c x) last u
  one_dropped es w k b c s t u last e x h l i m =
      let f = get_or es (k + 1) e in
      let more : drop (k + 1) es ≡ f ∷ drop (k + 1 + 1) es = from_here es (k + 1) f l (get_or_default es (k + 1) e f l) in
      h ∙ (ap (λ ys. left_of (exps_of ys) w c last t) (from_here es k e (omega (arith, l)) i ∙ ap (λ ys. e ∷ ys) more)
      ∙ (step (λ y. sequence findings (exps_of (f ∷ drop (k + 1 + 1) es)) w (followed c y) within) m refl
      ∙ ap (λ ys. left_of (exps_of ys) w (followed c x) last u) (sym more)))

  pub last_done :
      (es : List CodeExp) (w : Want) (k : ℕ) (b c : Stms) (s t u : TranslationState) (last : Made) (e : CodeExp) (made : Made) →
      SequencedTo es w k b s c last t → k + 1 ≡ length es → e ≡ get_or es k e →
      expression findings (plain e) w within t ≡ drawn made u → SequencedTo es w (k + 1) b s c made u
  last_done es w k b c s t u last e made h l i m =
      let none : drop (k + 1) es ≡ [] = none_left es (k + 1) l in
      h ∙ (ap (λ ys. left_of (exps_of ys) w c last t) (from_here es k e (omega (arith, l)) i ∙ ap (λ ys. e ∷ ys) none)
      ∙ (step (λ y. give (record { before = c; last = y })) m refl
      ∙ ap (λ ys. left_of (exps_of ys) w c made u) (sym none)))

  pub sequence_ends :
      (es : List CodeExp) (w : Want) (k : ℕ) (b c : Stms) (s t : TranslationState) (last : Made) →
      SequencedTo es w k b s c last t → k ≡ length es →
      sequence findings (exps_of es) w b within s ≡ drawn (record { before = c; last = last }) t
  sequence_ends es w k b c s t last h e = h ∙ ap (λ ys. left_of (exps_of ys) w c last t) (none_left es k e)

  pub sequence_of : (es : CodeExps) (w : Want) (b : Stms) (s : TranslationState) →
      sequence findings (plain_exps es) w b within s ≡ sequence findings (exps_of (out-Exps es).items.items) w b within s
  sequence_of es w b s = ap (λ x. sequence findings x w b within s) (plain_exps-items es)
