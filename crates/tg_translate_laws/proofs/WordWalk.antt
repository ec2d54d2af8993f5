-- The walk over a program's text for constants: where its ints are words, its fields are few, and its nodes too, each constant of
-- its trees is a word. Each node takes one slot of its frame at most, so slots are few as well.
use Rattle.std.proofs.Common.{◌≡◌, ◌<◌, ◌≤◌, ◌+◌, ◌*◌, ℕ, Bool, true, false, Option, List, [], ◌∷◌, length, arith}
use Rattle.std.proofs.lemmas.List.{length-map}
use Rattle.std.specs.Prelude.{is_some}
use Rattle.tg_frame.specs.declared.accesses.Access.{Access}
use Rattle.tg_frame.specs.Homes.{homes_from, slots_of}
use Rattle.tg_syntax.specs.declared.trees.Op.{Op}
use Rattle.tg_syntax.specs.declared.trees.Op.TheVariants as op
use Rattle.tg_syntax.specs.declared.trees.Param.{Param}
use Rattle.tg_syntax.specs.Measures.{size, place_size, exps_size, inits_size, decs_size, functions_size}
use Rattle.tg_syntax.specs.InnerMeasures.{inner, inner_place, inner_exps, inner_inits}
use Rattle.tg_syntax.specs.InnerMeasures.{inner_decs, inner_functions}
use Rattle.tg_syntax.specs.OfWords.{OfWords, PlaceOfWords, ExpsOfWords, InitsOfWords, DecsOfWords, BodiesOfWords}
use Rattle.tg_syntax.specs.Tree as source
use Rattle.tg_syntax.specs.Tree.{Exp, Nil, Break, Int, Text, Read, Call, Neg, Binary, Make, Fill, Assign, If, When, While, For, Let, Seq, Simple}
use Rattle.tg_syntax.specs.Tree.{Field, Index, Exps, no_exps, exp, Inits, no_inits, init, Decs, no_decs, types, variable, functions, FunDecs}
use Rattle.tg_syntax.specs.Tree.{no_functions, function}
use Rattle.tg_typecheck.specs.declared.notes.Means.{Means}
use Rattle.tg_tree.specs.Tree as tree
use Rattle.tg_tree.specs.Tree.{Tx, Const, Temp, FrameAddress, After, Txs, no_txs, tx, Cond, Ts, Move, Stms, no_stms, stm, Function, Code}
use Rattle.tg_tree.specs.Forms.{nothing}
use Rattle.tg_tree.specs.glue.Lists.{join_txs}
use Rattle.tg_translate.specs.declared.homes.Home.{Home}
use Rattle.tg_translate.specs.declared.homes.Within.{Within}
use Rattle.tg_translate.specs.declared.wants.Want.{Want}
use Rattle.tg_translate.specs.declared.wants.Want.TheVariants as want
use Rattle.tg_translate.specs.mirror.States.{TranslationState, Translated, drawn, Translates, after, give}
use Rattle.tg_translate.specs.mirror.Wants.{Made, value, done, value_of, dropped, test_of, as_statement, arms, deliver, followed}
use Rattle.tg_translate.specs.mirror.Wants.{behind}
use Rattle.tg_translate.specs.mirror.Constructs.{Storage, HeldAll, none_held, own_place, read}
use Rattle.tg_translate.specs.mirror.Constructs.{want_for, assign}
use Rattle.tg_translate.specs.mirror.Constructs.{read_held, place_held}
use Rattle.tg_translate.specs.mirror.Constructs.{operation}
use Rattle.tg_translate.specs.mirror.Constructs.{make_array, negation, repeat_while, in_body, in_test}
use Rattle.tg_translate.specs.mirror.Choices.{left_want, tested, chosen}
use Rattle.tg_translate.specs.mirror.Scopes.{Findings, field_number, compares_strings}
use Rattle.tg_translate.specs.mirror.Purity.{assigns_nothing, inits_assign_nothing}
use Rattle.tg_translate.specs.mirror.Updates.{begins_with}
use Rattle.tg_translate.specs.mirror.Functions.{at_of, asked, parameters, own_homes, result_want, inside, begun, outermost}
use Rattle.tg_translate.specs.mirror.Functions.{beginning, frame_for, program, finish, with_body}
use Rattle.tg_translate.specs.mirror.Translate.{connective, with_left, chosen_arm, choice, is_conjunction, assignment, declaration_of, Begun, expression}
use Rattle.tg_translate.specs.mirror.Translate.{behind_read, locate, values, fields, sequence, declarations, bodies, program_body, translated}
use Rattle.tg_tree.specs.Named.{constant, HasWords}
use Rattle.tg_translate_laws.specs.laws.Laws.{names}
use Rattle.tg_translate_laws.proofs.Fine.{Each, each_append, each_contained, names_ts}
use Rattle.tg_translate_laws.proofs.Words.{IsWord, WordTx, WordTxs, WordCond, WordTs, WordStms, WordMade, WordPlace, WordAccess}
use Rattle.tg_translate_laws.proofs.Words.{joined_words, followed_words, dropped_words, test_words, statement_words, deliver_words}
use Rattle.tg_translate_laws.proofs.Words.{tested_words, chosen_words, own_place_words, read_words, read_held_words}
use Rattle.tg_translate_laws.proofs.Words.{negation_words, while_words}
use Rattle.tg_translate_laws.proofs.WordActions.{BodyOfWords, Standing, Goes, AllNear, bind, given, fits, draws, values_go, behind_go, HeldAllWords}
use Rattle.tg_translate_laws.proofs.WordActions.{hold_next_goes, assign_goes, hold_place_goes, field_goes, element_goes, operation_goes, count_goes}
use Rattle.tg_translate_laws.proofs.WordActions.{record_goes, place_goes, call_goes, literal_goes, closing_goes, declared_goes, declares_functions}

-- what is translated for some want, from a state that has so many slots at most
abbrev Part : (most budget : ℕ) → (Want → Translates Made) → Type 0
Part l k f = (w : Want) (t : TranslationState) → Standing t → t.frame.slots ≤ l → Goes k WordMade t (f w t)

module _ {k : ℕ} {s : TranslationState} {d : Translated Made} (h : Goes k WordMade s d) where
  of_value : Goes k WordTx s (after d value_of)
  of_value = fits (bind h λ m t st _ g. values_go m t st g) (omega arith)

  of_test : Goes k WordCond s (after d (λ m. give (test_of m)))
  of_test = fits (bind h λ m t st _ g. given t (test_of m) st (test_words m g)) (omega arith)

  of_arm : (w : Want) → Goes k WordTs s (after d (λ m. give (as_statement w m)))
  of_arm w = fits (bind h λ m t st _ g. given t (as_statement w m) st (statement_words w m g)) (omega arith)

  of_statement : Goes k WordTs s (after d (λ m. give (dropped m)))
  of_statement = fits (bind h λ m t st _ g. given t (dropped m) st (dropped_words m g)) (omega arith)

arms_go : (w : Want) (s : TranslationState) → Standing s → Goes 0 (λ v. Unit {0}) s (arms w s)
arms_go want.Value s st = bind (draws s st) λ i t st _ _. given t (want.Into (record { 0 = i })) st tt
arms_go (want.Into i) s st = given s (want.Into i) st tt
arms_go want.Dropped s st = given s want.Dropped st tt
arms_go want.Test s st = bind (draws s st) λ i t st _ _. given t (want.Into (record { 0 = i })) st tt

module _ (l k : ℕ) (right : Want → Translates Made) (part : Part l k right) where
  arms_connected : (o : Op) (w : Want) (c : Cond) (s : TranslationState) → Standing s → s.frame.slots ≤ l → WordCond c →
      Goes k WordMade s (after (arms w s) (λ a t. after (right a t) (λ m. give (deliver w a (chosen o a c m)))))
  arms_connected o w c s st e h =
      fits (bind (arms_go w s st) λ a t st i _. bind (part a t st (omega (arith, e, i))) λ m u st _ g.
      given u (deliver w a (chosen o a c m)) st (deliver_words w a (chosen o a c m) (chosen_words o a c m h g))) (omega arith)

  connected_go : (o : Op) (w : Want) (c : Cond) (s : TranslationState) → Standing s → s.frame.slots ≤ l → WordCond c →
      Goes k WordMade s (connective o w c right s)
  connected_go o want.Value c s st e h = arms_connected o want.Value c s st e h
  connected_go o (want.Into i) c s st e h = arms_connected o (want.Into i) c s st e h
  connected_go o want.Dropped c s st e h = arms_connected o want.Dropped c s st e h
  connected_go o want.Test c s st e h =
      fits (bind (part want.Test s st e) λ m t st _ g. given t (tested o c m) st (tested_words o c m h g)) (omega arith)

  operated_go : (o : Op) (meaning : Option Means) (direct : Bool) (made : Made) (s : TranslationState) → Standing s → s.frame.slots ≤ l → WordMade made →
      Goes k WordMade s
      (after (value_of made s) (λ x t. after (after (right want.Value t) value_of) (λ y. operation o (compares_strings meaning) direct x y)))
  operated_go o meaning direct made s st e h =
      fits (bind (values_go made s st h) λ x t st i g. bind (of_value (part want.Value t st (omega (arith, e, i)))) λ y u st _ j.
      operation_goes o (compares_strings meaning) direct x y u st g j) (omega arith)

  left_goes : (o : Op) (meaning : Option Means) (direct : Bool) (w : Want) (made : Made) (s : TranslationState) → Standing s → s.frame.slots ≤ l →
      WordMade made → Goes k WordMade s (with_left o meaning direct w made right s)
  left_goes op.And meaning direct w made s st e h = connected_go op.And w (test_of made) s st e (test_words made h)
  left_goes op.Or meaning direct w made s st e h = connected_go op.Or w (test_of made) s st e (test_words made h)
  left_goes o meaning direct w made s st e h = operated_go o meaning direct made s st e h

  -- an assignment of a value, and of one that begins with a read
  assigned_goes : (p : Storage) (s : TranslationState) → Standing s → s.frame.slots ≤ l → WordPlace p →
      Goes k WordTs s (after (right (want_for p) s) (assign p))
  assigned_goes p s st e h = fits (bind (part (want_for p) s st e) λ m t st _ g. assign_goes p m t st h g) (omega arith)

assignment_goes : (l k : ℕ) (reads_first : Bool) (p : Storage) (e : Want → Translates Made) (behind : Tx → Want → Translates Made) (s : TranslationState) →
    Standing s → s.frame.slots ≤ l → WordPlace p → Part l k e → ((x : Tx) → WordTx x → Part l k (behind x)) →
    Goes k WordTs s (assignment reads_first p e behind s)
assignment_goes l k true p e behind s st i h f g =
    fits (bind (hold_place_goes p s st h) λ q t st m j.
    assigned_goes l k (behind (read_held q)) (g (read_held q) (read_held_words q j)) (place_held q) t st (omega (arith, i, m)) j) (omega arith)
assignment_goes l k false p e behind s st i h f g = assigned_goes l k e f p s st i h

declaration_goes : (l k : ℕ) (escapes : ℕ → Bool) (level at : ℕ) (e : Want → Translates Made) (s : TranslationState) → Standing s →
    s.frame.slots < 1073741823 → s.frame.slots + 1 ≤ l → Part l k e → Goes (1 + k) WordTs s (declaration_of escapes level at e s)
declaration_goes l k escapes level at e s st i j f =
    bind (declared_goes (escapes at) level at s st i) λ home t st m a.
    assigned_goes l k e f (own_place home) t st (omega (arith, j, m)) (own_place_words home a)

module _ (l m a b : ℕ) (this other : Want → Translates Made) (part : Part l a this) (rest : Part m b other) where
  arms_chosen : (w : Want) (c : Cond) (s : TranslationState) → Standing s → s.frame.slots ≤ l → s.frame.slots + a ≤ m → WordCond c →
      Goes (a + b) WordMade s (chosen_arm w c this other s)
  arms_chosen w c s st i j h =
      fits (bind (arms_go w s st) λ v t st e _. bind (of_arm (part v t st (omega (arith, i, e))) v) λ x u st f g.
      bind (of_arm (rest v u st (omega (arith, j, e, f))) v) λ y z st _ k.
      given z (deliver w v (tree.If c x y)) st (deliver_words w v (tree.If c x y) (λ n. (h n, g n, k n)))) (omega arith)

  choice_goes : (conjunction : Bool) (w : Want) (c : Cond) (s : TranslationState) → Standing s → s.frame.slots ≤ l → s.frame.slots + a ≤ m → WordCond c →
      Goes (a + b) WordMade s (choice conjunction w c this other s)
  choice_goes true w c s st i j h = fits (connected_go l a this part op.And w c s st i h) (omega arith)
  choice_goes false w c s st i j h = arms_chosen w c s st i j h

-- Functions: their parameters are homes, and stand in as many slots at most.

homes_near : (slots temps : ℕ) (asked : List Bool) → slots + length asked ≤ 1073741823 → Each WordAccess (homes_from slots temps asked)
homes_near slots temps [] l = tt
homes_near slots temps (true ∷ asked) l = (omega (arith, l), homes_near (slots + 1) temps asked (omega (arith, l)))
homes_near slots temps (false ∷ asked) l = (tt, homes_near slots (temps + 1) asked (omega (arith, l)))

own_near : (homes : List Access) → Each WordAccess homes → Each WordAccess (own_homes homes)
own_near [] h = tt
own_near (link ∷ homes) h = h.1

parameters_near : (level : ℕ) (params : List Param) (homes : List Access) (old : List (ℕ × Home)) → Each WordAccess homes → AllNear old →
    AllNear (parameters level params homes old)
parameters_near level [] homes old h k = k
parameters_near level (p ∷ params) [] old h k = k
parameters_near level (p ∷ params) (home ∷ homes) old h k =
    parameters_near level params homes ((at_of p.name, record { level = level; access = home }) ∷ old) h.1 (h.0, k)

slots_few : (asked : List Bool) → slots_of asked ≤ length asked
slots_few [] = omega arith
slots_few (true ∷ asked) = let h = slots_few asked in omega (arith, h)
slots_few (false ∷ asked) = let h = slots_few asked in omega (arith, h)

asked_length : (escapes : ℕ → Bool) (kept : Bool) (params : List Param) → length (asked escapes kept params) ≡ 1 + length params
asked_length escapes kept params = let h = length-map params (λ p. escapes (at_of p.name)) in omega (arith, h)

finished_goes : {k : ℕ} (s t : TranslationState) {d : Translated Ts} → Standing s → Goes k WordTs t d → Goes 0 (λ x. Unit {0}) s (finish s d)
finished_goes s t {d = drawn x u} st h =
    record {
      value = tt;
      slots = omega arith;
      standing =
          record {
            homes = h.standing.homes;
            functions = each_append BodyOfWords s.functions (with_body u.frame x ∷ u.functions) st.functions (h.value, h.standing.functions);
          };
    }

few_more : {a b c : ℕ} {s : TranslationState} {d : Translated HeldAll} → a ≤ c → Goes b (HeldAllWords a) s d → Goes b (HeldAllWords c) s d
few_more l h =
    let v = h.value in
    let m = v.2 in
    record { value = (v.0, v.1, omega (arith, l, m)); slots = h.slots; standing = h.standing }

abbrev BegunWords : Begun → Type 0
BegunWords b = WordStms b.before × WordMade b.last

module _ (findings : Findings) (fields_fit : (at : ℕ) → 4 * field_number (findings.meaning at) < 4294967296) where
  mutual
    walk : (e : Exp) (w : Want) (c : Within) (s : TranslationState) → Standing s → OfWords e → s.frame.slots + (size e + inner e) ≤ 1073741822 →
        Goes (size e) WordMade s (expression findings e w c s)
    walk (Nil _) w c s st p l = fits (given s (value (Const 0)) st (λ n. omega arith)) (omega arith)
    walk (Int _ k) w c s st p l = fits (given s (value (Const k)) st (λ n. omega (arith, p))) (omega arith)
    walk (Break _) w c s st p l = fits (given s (done (tree.Break c.leave)) st (λ n b. absurd b)) (omega arith)
    walk (Text _ bytes) w c s st p l = fits (literal_goes bytes s st) (omega arith)
    walk (Read _ v) w c s st p l =
        fits (bind (walk_place v c s st p (omega (arith, l))) λ x t st _ h. given t (value (read x)) st (read_words x h)) (omega arith)
    walk (Call _ f args) w c s st p l =
        fits (bind (walk_values args no_txs c s st p (omega (arith, l)) (λ n. tt)) λ xs t st _ h.
        bind (call_goes c (findings.meaning (at_of f)) xs t st h) λ x u st _ k. given u (value x) st k) (omega arith)
    walk (Neg _ x) w c s st p l =
        fits (bind (of_value (walk x want.Value c s st p (omega (arith, l)))) λ y t st _ h. given t (value (negation y)) st (negation_words y h)) (omega arith)
    walk (Binary _ o at x y) w c s st p l =
        fits (bind (walk x (left_want o) c s st p.0 (omega (arith, l))) λ made t st i h.
        left_goes (s.frame.slots + size x) (size y) (λ v. expression findings y v c) (λ v u st j. walk y v c u st p.1 (omega (arith, l, j)))
        o (findings.meaning at) (assigns_nothing y) w made t st i h) (omega arith)
    walk (Make _ _ inits) w c s st p l =
        fits (bind (walk_fields inits (inits_assign_nothing inits) 0 none_held c s st p (omega (arith, l)) (λ n. tt, tt, omega arith)) λ all t st _ h.
        record_goes (0 + inits_size inits) all t st (omega (arith, l)) h) (omega arith)
    walk (Fill _ _ x y) w c s st p l =
        fits (bind (of_value (walk x want.Value c s st p.0 (omega (arith, l)))) λ a t st i h.
        bind (of_value (walk y want.Value c t st p.1 (omega (arith, l, i)))) λ b u st _ k.
        given u (value (make_array a b)) st (λ n. (tt, (h n, (k n, tt))))) (omega arith)
    walk (Assign _ v x) w c s st p l =
        fits (bind (walk_place v c s st p.0 (omega (arith, l))) λ place t st i h.
        bind (assignment_goes (s.frame.slots + place_size v) (size x) (begins_with findings.meaning x v) place (λ v. expression findings x v c)
        (λ r v. behind_read findings x r v c) t st i h (λ v u st j. walk x v c u st p.1 (omega (arith, l, j)))
        (λ r g v u st j. walk_behind x r v c u st p.1 (omega (arith, l, j)) g)) λ y u st _ k.
        given u (done y) st k) (omega arith)
    walk (If _ d x y) w c s st p l =
        fits (bind (of_test (walk d want.Test c s st p.0 (omega (arith, l)))) λ a t st i h.
        choice_goes (s.frame.slots + size d) (s.frame.slots + (size d + size x)) (size x) (size y) (λ v. expression findings x v c)
        (λ v. expression findings y v c) (λ v u st j. walk x v c u st p.1 (omega (arith, l, j))) (λ v u st j. walk y v c u st p.2 (omega (arith, l, j)))
        (is_conjunction w y) w a t st i (omega (arith, i)) h) (omega arith)
    walk (When _ d x) w c s st p l =
        fits (bind (of_test (walk d want.Test c s st p.0 (omega (arith, l)))) λ a t st i h.
        bind (of_statement (walk x want.Dropped c t st p.1 (omega (arith, l, i)))) λ y u st _ k.
        given u (done (tree.If a y nothing)) st (λ n. (h n, k n, tt))) (omega arith)
    walk (While _ d x) w c s st p l =
        fits (bind (of_test (walk d want.Test (in_test c) s st p.0 (omega (arith, l)))) λ a t st i h.
        bind (of_statement (walk x want.Dropped (in_body c) t st p.1 (omega (arith, l, i)))) λ y u st _ k.
        given u (done (repeat_while a y)) st (while_words a y h k)) (omega arith)
    walk (For _ i low high a) w c s st p l =
        fits (bind (of_value (walk low want.Value c s st p.0 (omega (arith, l)))) λ x t st j h.
        bind (of_value (walk high want.Value c t st p.1 (omega (arith, l, j)))) λ y u st k g.
        bind (declared_goes (findings.escapes (at_of i)) c.level (at_of i) u st (omega (arith, l, j, k))) λ home v st m near.
        bind (of_statement (walk a want.Dropped (in_body c) v st p.2 (omega (arith, l, j, k, m)))) λ turn z st _ f.
        bind (count_goes home x y turn z st near h g f) λ r q st _ o. given q (done r) st o) (omega arith)
    walk (Let _ ds es) w c s st p l =
        fits (bind (walk_decs ds no_stms c s st p.0 (omega (arith, l)) (λ n. tt)) λ before t st i h.
        bind (walk_sequence es w before c t st p.1 (omega (arith, l, i)) h) λ b u st _ k. behind_go w b.before b.last u st k.0 k.1) (omega arith)
    walk (Seq _ es) w c s st p l =
        fits (bind (walk_sequence es w no_stms c s st p (omega (arith, l)) (λ n. tt)) λ b u st _ k. behind_go w b.before b.last u st k.0 k.1) (omega arith)

    walk_behind : (e : Exp) (x : Tx) (w : Want) (c : Within) (s : TranslationState) → Standing s → OfWords e →
        s.frame.slots + (size e + inner e) ≤ 1073741822 → WordTx x → Goes (size e) WordMade s (behind_read findings e x w c s)
    walk_behind (Binary _ o at a y) x w c s st p l g =
        fits (bind (walk_behind a x (left_want o) c s st p.0 (omega (arith, l)) g) λ made t st i h.
        left_goes (s.frame.slots + size a) (size y) (λ v. expression findings y v c) (λ v u st j. walk y v c u st p.1 (omega (arith, l, j)))
        o (findings.meaning at) (assigns_nothing y) w made t st i h) (omega arith)
    walk_behind e x w c s st p l g = fits (given s (value x) st g) (omega arith)

    walk_place : (v : source.LValue) (c : Within) (s : TranslationState) → Standing s → PlaceOfWords v →
        s.frame.slots + (place_size v + inner_place v) ≤ 1073741822 → Goes (place_size v) WordPlace s (locate findings v c s)
    walk_place (Simple x) c s st p l = fits (place_goes c (findings.meaning (at_of x)) s st) (omega arith)
    walk_place (Field v f) c s st p l =
        fits (bind (walk_place v c s st p (omega (arith, l))) λ place t st _ h.
        field_goes (field_number (findings.meaning (at_of f))) (read place) t st (fields_fit (at_of f)) (read_words place h)) (omega arith)
    walk_place (Index v e) c s st p l =
        fits (bind (walk_place v c s st p.0 (omega (arith, l))) λ place t st i h.
        bind (of_value (walk e want.Value c t st p.1 (omega (arith, l, i)))) λ y u st _ k.
        element_goes (assigns_nothing e) (read place) y u st (read_words place h) k) (omega arith)

    walk_values : (es : Exps) (before : Txs) (c : Within) (s : TranslationState) → Standing s → ExpsOfWords es →
        s.frame.slots + (exps_size es + inner_exps es) ≤ 1073741822 → WordTxs before → Goes (exps_size es) WordTxs s (values findings es before c s)
    walk_values no_exps before c s st p l h = given s before st h
    walk_values (exp e rest) before c s st p l h =
        fits (bind (of_value (walk e want.Value c s st p.0 (omega (arith, l)))) λ x t st i k.
        walk_values rest (join_txs before (tx x no_txs)) c t st p.1 (omega (arith, l, i)) (joined_words before x h k)) (omega arith)

    walk_fields : (is : Inits) (direct : Bool) (k : ℕ) (all : HeldAll) (c : Within) (s : TranslationState) → Standing s → InitsOfWords is →
        s.frame.slots + (inits_size is + inner_inits is) ≤ 1073741822 → HeldAllWords k all →
        Goes (inits_size is) (HeldAllWords (k + inits_size is)) s (fields findings is direct all c s)
    walk_fields no_inits direct k all c s st p l h = given s all st (h.0, h.1, (let m = h.2 in omega (arith, m)))
    walk_fields (init _ e rest) direct k all c s st p l h =
        few_more (omega arith) (fits (bind (of_value (walk e want.Value c s st p.0 (omega (arith, l)))) λ x t st i g.
        bind (hold_next_goes direct k all x t st h g) λ next u st j o.
        walk_fields rest direct (k + 1) next c u st p.1 (omega (arith, l, i, j)) o) (omega arith))

    walk_sequence : (es : Exps) (w : Want) (before : Stms) (c : Within) (s : TranslationState) → Standing s → ExpsOfWords es →
        s.frame.slots + (exps_size es + inner_exps es) ≤ 1073741822 → WordStms before →
        Goes (exps_size es) BegunWords s (sequence findings es w before c s)
    walk_sequence no_exps w before c s st p l h = given s (record { before = before; last = value (Const 0) }) st (h, λ n. omega arith)
    walk_sequence (exp e no_exps) w before c s st p l h =
        fits (bind (walk e w c s st p.0 (omega (arith, l))) λ m t st _ k. given t (record { before = before; last = m }) st (h, k)) (omega arith)
    walk_sequence (exp e (exp f rest)) w before c s st p l h =
        fits (bind (of_statement (walk e want.Dropped c s st p.0 (omega (arith, l)))) λ x t st i k.
        walk_sequence (exp f rest) w (followed before x) c t st p.1 (omega (arith, l, i)) (followed_words before x h k)) (omega arith)

    walk_decs : (ds : Decs) (before : Stms) (c : Within) (s : TranslationState) → Standing s → DecsOfWords ds →
        s.frame.slots + (decs_size ds + inner_decs ds) ≤ 1073741822 → WordStms before → Goes (decs_size ds) WordStms s (declarations findings ds before c s)
    walk_decs no_decs before c s st p l h = given s before st h
    walk_decs (types _ rest) before c s st p l h = fits (walk_decs rest before c s st p (omega (arith, l)) h) (omega arith)
    walk_decs (variable x _ e rest) before c s st p l h =
        fits (bind (declaration_goes (s.frame.slots + 1) (size e) findings.escapes c.level (at_of x) (λ v. expression findings e v c) s st
        (omega (arith, l)) (omega arith) (λ v t st j. walk e v c t st p.0 (omega (arith, l, j)))) λ y t st i k.
        walk_decs rest (followed before y) c t st p.1 (omega (arith, l, i)) (followed_words before y h k)) (omega arith)
    walk_decs (functions fs rest) before c s st p l h =
        fits (bind (declares_functions fs c.level s st) λ _ t st i _. bind (walk_functions fs s.label c t st p.0 (omega (arith, l))) λ _ u st j _.
        walk_decs rest before c u st p.1 (omega (arith, l, i, j)) h) (omega arith)

    walk_functions : (fs : FunDecs) (label : ℕ) (c : Within) (s : TranslationState) → Standing s → BodiesOfWords fs →
        functions_size fs + inner_functions fs ≤ 1073741822 → Goes 0 (λ x. Unit {0}) s (bodies findings fs label c s)
    walk_functions no_functions label c s st p l = given s tt st tt
    walk_functions (function f params result e rest) label c s st p l =
        let kept = findings.keeps_link (at_of f) in
        let t : TranslationState = begun findings.escapes label kept (c.level + 1) params s in
        let count = asked_length findings.escapes kept params in
        let few = slots_few (asked findings.escapes kept params) in
        let near = homes_near 0 0 (asked findings.escapes kept params) (omega (arith, l, count)) in
        let begins : Standing t = record {
          homes = parameters_near (c.level + 1) params _ s.homes (own_near _ near) st.homes;
          functions = tt;
        } in
        fits (bind (finished_goes s t st
        (bind (walk e (result_want (is_some result)) (inside c kept) t begins p.0 (omega (arith, l, count, few))) λ m u st _ h.
        closing_goes (is_some result) m u st h)) λ _ u st _ _.
        walk_functions rest (label + 1) c u st p.1 (omega (arith, l))) (omega arith)

  -- each body of the program has words
  done_words : {k : ℕ} {s : TranslationState} (d : Translated Ts) → Goes k WordTs s d → Each BodyOfWords (program d).functions
  done_words (drawn x u) h = (h.value, h.standing.functions)

  pub bodies_of_words : (e : Exp) → OfWords e → size e + inner e ≤ 1073741822 → Each BodyOfWords (translated findings e).functions
  bodies_of_words e p l =
      done_words (program_body findings e (beginning 33 (frame_for 32 [])))
      (bind (walk e want.Dropped outermost (beginning 33 (frame_for 32 [])) (record { homes = tt; functions = tt }) p (omega (arith, l))) λ m t st _ h.
      closing_goes false m t st h)

  -- so each constant that a body names is a word
  pub constants_are_words : (e : Exp) → OfWords e → size e + inner e ≤ 1073741822 → HasWords names (translated findings e)
  constants_are_words e p l f k c n =
      let body = each_contained BodyOfWords (translated findings e).functions (bodies_of_words e p l) f c in
      each_contained IsWord (names f.body) (names_ts ⊥ IsWord 0 f.body [] (body 0) tt) (constant k) n
