-- What the definitions say of a load, and walks over lists of choices, one after another.
use Rattle.std.proofs.Common.{ℕ, suc, max, arith, nat_lt, true, false, ◌≡◌, ◌+◌, ◌-◌, ◌*◌, ◌<◌, ◌≤◌, List, [], ◌∷◌, Option, Some, None, length, drop}
use Rattle.std.proofs.Common.{get_or, refl, sym, ap, ◌∙◌, subst}
use Rattle.std.specs.Prelude.{Bool, ◌&&◌, ◌||◌, not, if◌then◌else◌}
use Rattle.std.proofs.lemmas.Bool.Decides.{nat_tests}
use Rattle.std.proofs.lemmas.List.{drop_more}
use Rattle.std.proofs.Math.Seq.{drop-length}
use Rattle.tg_frame.specs.declared.accesses.Access.{Access}
use Rattle.tg_frame.specs.declared.accesses.Access.TheVariants.{InFrame}
use Rattle.tg_tree.specs.declared.operators.Bin.{Bin}
use Rattle.tg_tree.specs.declared.trees.Tx.{Tx as CodeTx}
use Rattle.tg_tree.specs.glue.Lists.{txs_of, code_of}
use Rattle.tg_tree.specs.glue.Plain.{plain_tx, plain_linear}
use Rattle.tg_tree.specs.Tree as tree
use Rattle.tg_tree.specs.Tree.{Tx}
use Rattle.tg_instr.specs.declared.operands.Opnd.{Opnd}
use Rattle.tg_instr.specs.declared.operands.Opnd.TheVariants.{Reg}
use Rattle.tg_instr.specs.declared.instr.Instr.TheVariants.{Move}
use Rattle.tg_munch.specs.declared.drafts.Draft.{Draft}
use Rattle.tg_munch.specs.declared.tiles.Tile.TheVariants.{ByWord, Operands}
use Rattle.tg_munch.specs.mirror.Choosing.{Choice, ◌>>=◌, ◌>>◌, give, put, choose}
use Rattle.tg_munch.specs.mirror.Tiles.{tile, tiled, shifted_into, operated}
use Rattle.tg_munch.specs.mirror.Munching.{temp, argument, store_low, passed, given_back, expression, arguments, loaded_at, byte_at, element, elements}
use Rattle.tg_munch.specs.mirror.Arguments.{may_end, one_may_end, is_in_register, is_in_frame, is_anywhere}
use Rattle.tg_munch.specs.mirror.Bodies.{count, kept, kept_register, from_register, from_word, from_words, by_frame_address, parameters}
use Rattle.tg_munch.specs.glue.Drafts.{Writes}
use Rattle.tg_munch.proofs.Writing.{writes_then, writes_none}

pub load_is : (slots : ℕ) (x : Tx) (dest : Option Opnd) → expression slots (tree.Load x) dest ≡ loaded_at slots x dest
load_is slots (tree.Binary op x y) dest = refl
load_is slots _ dest = refl

pub load_byte_is : (slots : ℕ) (x : Tx) (dest : Option Opnd) → expression slots (tree.LoadByte x) dest ≡ byte_at slots x dest
load_byte_is slots (tree.Binary op x y) dest = refl
load_byte_is slots _ dest = refl

-- choices for the items of a list, each by what the items before it lead to, as by its place
pub record EachChoice {P X : Type 0} (next : P → X → P) (f : P → List X → Choice (Unit {0})) (g : P → X → Choice (Unit {0})) : Type 0 where
  pub none : (p : P) → f p [] ≡ give tt
  pub more : (p : P) (x : X) (xs : List X) → f p (x ∷ xs) ≡ (g p x >> f (next p x) xs)

abbrev next_place : {X : Type 0} → ℕ → X → ℕ
next_place i x = i + 1

-- from a place on, what is left leads from one draft to wherever all leads from another
abbrev pub Leads : {P X : Type 0} → (P → List X → Choice (Unit {0})) → List X → (k p : P) → (i : ℕ) → (a b : Draft) → Type 0
Leads f xs k p i a b = (c : Draft) → Writes (f p (drop i xs)) b c tt → Writes (f k xs) a c tt

-- one item further, by what the choices from it on are
pub leads_by : {P X : Type 0} (f : P → List X → Choice (Unit {0})) (g : Choice (Unit {0})) (xs : List X) (k p q : P) (i : ℕ) {a b c : Draft} {x : X} →
    f p (x ∷ drop (i + 1) xs) ≡ (g >> f q (drop (i + 1) xs)) →
    i < length xs → x ≡ get_or xs i x → Leads f xs k p i a b → Writes g b c tt → Leads f xs k q (i + 1) a c
leads_by f g xs k p q i {b = b} {c = c} {x = x} here less at leads step d rest =
    let left : drop i xs ≡ x ∷ drop (i + 1) xs = drop_more xs i x less ∙ ap (λ y. y ∷ drop (i + 1) xs) (sym at) in
    leads d (subst (λ ys. Writes (f p ys) b d tt) (sym left)
    (subst (λ q. Writes q b d tt) (sym here) (writes_then _ step rest)))

pub leads_on : {P X : Type 0} {next : P → X → P} {f : P → List X → Choice (Unit {0})} {g : P → X → Choice (Unit {0})} → EachChoice next f g →
    (xs : List X) (k p : P) (i : ℕ) {a b c : Draft} {x : X} → i < length xs → x ≡ get_or xs i x → Leads f xs k p i a b → Writes (g p x) b c tt →
    Leads f xs k (next p x) (i + 1) a c
leads_on {next = next} {f = f} {g = g} each xs k p i {x = x} less at leads step =
    leads_by f (g p x) xs k p (next p x) i (each.more p x (drop (i + 1) xs)) less at leads step

-- after the last item
pub leads_over : {P X : Type 0} (f : P → List X → Choice (Unit {0})) (xs : List X) (k p : P) (i : ℕ) {a b : Draft} → f p [] ≡ give tt →
    i ≡ length xs → Leads f xs k p i a b → Writes (f k xs) a b tt
leads_over f xs k p i {b = b} none over leads =
    let left : drop i xs ≡ [] = ap (λ j. drop j xs) over ∙ drop-length xs in
    leads b (subst (λ ys. Writes (f p ys) b b tt) (sym left) (subst (λ q. Writes q b b tt) (sym none) (writes_none b tt)))

pub leads_end : {P X : Type 0} {next : P → X → P} {f : P → List X → Choice (Unit {0})} {g : P → X → Choice (Unit {0})} → EachChoice next f g →
    (xs : List X) (k p : P) (i : ℕ) {a b : Draft} → i ≡ length xs → Leads f xs k p i a b → Writes (f k xs) a b tt
leads_end {f = f} each xs k p i over leads = leads_over f xs k p i (each.none p) over leads

-- the walks of the code
pub kept_each : EachChoice next_place (λ i rs. kept rs) (λ i r. kept_register r)
kept_each = record { none = λ i. refl; more = λ i x xs. refl }

pub given_each : EachChoice next_place given_back (λ t r. put (Move (Reg r) (temp t)))
given_each = record { none = λ i. refl; more = λ i x xs. refl }

pub word_each : (above : Opnd) → EachChoice next_place (from_words above) (from_word above)
word_each above = record { none = λ i. refl; more = λ i x xs. refl }

pub element_each : (slots keeps : ℕ) →
    EachChoice (λ before e. Some (plain_linear e)) (λ before es. elements slots keeps before (code_of es))
    (λ before e. element slots keeps before (plain_linear e))
element_each slots keeps = record { none = λ before. refl; more = λ before e es. refl }

pub argument_each : (slots : ℕ) (picks : ℕ → Bool) → EachChoice next_place (λ i xs. arguments slots picks i (txs_of xs))
    (λ i x. if picks i then passed i (expression slots (plain_tx x)) else give tt)
argument_each slots picks = record { none = λ i. refl; more = λ i x xs. refl }

-- an argument in a register, and one in the frame
pub passed_low : (i : ℕ) (value : Option Opnd → Choice Opnd) → i < 4 → passed i value ≡ (value (Some (argument i)) >> give tt)
passed_low i value h =
    let e : nat_lt i 4 ≡ true = grind (arith, nat_tests) in
    ap (λ b. if b then (value (Some (argument i)) >> give tt) else (value None >>= (λ v. store_low (4 * (i - 4)) v))) e

pub passed_high : (i : ℕ) (value : Option Opnd → Choice Opnd) → 4 ≤ i → passed i value ≡ (value None >>= (λ v. store_low (4 * (i - 4)) v))
passed_high i value h =
    let e : nat_lt i 4 ≡ false = grind (arith, nat_tests) in
    ap (λ b. if b then (value (Some (argument i)) >> give tt) else (value None >>= (λ v. store_low (4 * (i - 4)) v))) e

-- a parameter in a register, and those past the fourth
pub low_first : (i : ℕ) (home : Access) (homes : List Access) → i < 4 →
    parameters i (home ∷ homes) ≡ (from_register i home >> parameters (i + 1) homes)
low_first i home homes h =
    let e : nat_lt i 4 ≡ true = grind (arith, nat_tests) in
    ap (λ b. if b then (from_register i home >> parameters (i + 1) homes) else by_frame_address i (home ∷ homes)) e

past_fourth : (i : ℕ) (home : Access) (homes : List Access) → 4 ≤ i → parameters i (home ∷ homes) ≡ by_frame_address i (home ∷ homes)
past_fourth i home homes h =
    let e : nat_lt i 4 ≡ false = grind (arith, nat_tests) in
    ap (λ b. if b then (from_register i home >> parameters (i + 1) homes) else by_frame_address i (home ∷ homes)) e

pub rest_by_address : (homes : List Access) (i : ℕ) → i < length homes → 4 ≤ i → parameters i (drop i homes) ≡ by_frame_address i (drop i homes)
rest_by_address homes i less far =
    let here : drop i homes ≡ get_or homes i (InFrame 0) ∷ drop (i + 1) homes = drop_more homes i (InFrame 0) less in
    ap (parameters i) here ∙ (past_fourth i (get_or homes i (InFrame 0)) (drop (i + 1) homes) far ∙ sym (ap (by_frame_address i) here))

-- the places that the code picks
abbrev pub picked : (registers frame : Bool) → ℕ → Bool
picked registers frame i = if nat_lt i 4 then registers else frame

pub picks_all : picked true true ≡ is_anywhere
picks_all = λ i n. by (nat_lt n 4) i
  where
    by : (b : Bool) → (if b then true else true) ≡ true
    by true = refl
    by false = refl

pub picks_frame : picked false true ≡ is_in_frame
picks_frame = λ i n. by (nat_lt n 4) i
  where
    by : (b : Bool) → (if b then false else true) ≡ not b
    by true = refl
    by false = refl

pub picks_registers : picked true false ≡ is_in_register
picks_registers = λ i n. by (nat_lt n 4) i
  where
    by : (b : Bool) → (if b then true else false) ≡ b
    by true = refl
    by false = refl

-- how many arguments a call has
pub count_of : (xs : List CodeTx) → count (txs_of xs) ≡ length xs
count_of [] = refl
count_of (x ∷ xs) = ap suc (count_of xs)

-- operators by a word, and on two operands
pub by_word : (slots : ℕ) (op : Bin) (x y : Tx) (dest : Option Opnd) {a b c d : Draft} {v w z : Opnd} → ByWord ≡ tile op x y →
    Writes (expression slots x None) a b v → Writes (expression slots y None) b c w → Writes (shifted_into op dest v w) c d z →
    Writes (expression slots (tree.Binary op x y) dest) a d z
by_word slots op x y dest {a = a} {d = d} {z = z} e h k m =
    subst (λ t. Writes (tiled op t dest (expression slots x None) (expression slots y None)) a d z) e (writes_then _ h (writes_then _ k m))

pub on_operands : (slots : ℕ) (op : Bin) (x y : Tx) (dest : Option Opnd) {a b c d e : Draft} {to v w z : Opnd} → Operands ≡ tile op x y →
    Writes (choose dest) a b to → Writes (expression slots x None) b c v → Writes (expression slots y None) c d w → Writes (operated op to v w) d e z →
    Writes (expression slots (tree.Binary op x y) dest) a e z
on_operands slots op x y dest {a = a} {e = last} {z = z} eq g h k m =
    subst (λ t. Writes (tiled op t dest (expression slots x None) (expression slots y None)) a last z) eq
    (writes_then _ g (writes_then _ h (writes_then _ k m)))

-- the greatest number of a list's items, as far as they are looked at
pub greatest_on : {X : Type 0} (F : List X → ℕ) (g : X → ℕ) → ((x : X) (xs : List X) → F (x ∷ xs) ≡ max (g x) (F xs)) →
    (xs : List X) (i : ℕ) (x : X) (above total : ℕ) → i < length xs → x ≡ get_or xs i x → max above (F (drop i xs)) ≡ total →
    max (max above (g x)) (F (drop (i + 1) xs)) ≡ total
greatest_on F g step xs i x above total less at so =
    let here : drop i xs ≡ x ∷ drop (i + 1) xs = drop_more xs i x less ∙ ap (λ y. y ∷ drop (i + 1) xs) (sym at) in
    let opened : F (drop i xs) ≡ max (g x) (F (drop (i + 1) xs)) = ap F here ∙ step x (drop (i + 1) xs) in
    regroup above (g x) (F (drop (i + 1) xs)) ∙ (sym (ap (max above) opened) ∙ so)
  where
    regroup : (a b c : ℕ) → max (max a b) c ≡ max a (max b c)
    regroup a b c = omega arith

pub greatest_end : {X : Type 0} (F : List X → ℕ) → F [] ≡ 0 → (xs : List X) (i above total : ℕ) → i ≡ length xs → max above (F (drop i xs)) ≡ total →
    above ≡ total
greatest_end F none xs i above total over so =
    let last : F (drop i xs) ≡ 0 = ap F (ap (λ j. drop j xs) over ∙ drop-length xs) ∙ none in
    let least : above ≡ max above 0 = omega arith in
    least ∙ (sym (ap (max above) last) ∙ so)

-- whether one of the first four arguments may end the run: it is one from a place on, where none is before it
pub ends_here : (xs : List CodeTx) (i : ℕ) (x : CodeTx) → i < length xs → x ≡ get_or xs i x → i < 4 → may_end (plain_tx x) ≡ true →
    one_may_end i (txs_of (drop i xs)) ≡ true
ends_here xs i x less at low ends =
    let here : drop i xs ≡ x ∷ drop (i + 1) xs = drop_more xs i x less ∙ ap (λ y. y ∷ drop (i + 1) xs) (sym at) in
    let e : nat_lt i 4 ≡ true = grind (arith, nat_tests) in
    ap (λ ys. one_may_end i (txs_of ys)) here ∙ ap (λ b. b || one_may_end (i + 1) (txs_of (drop (i + 1) xs)))
    (ap (λ b. b && may_end (plain_tx x)) e ∙ ends)

pub ends_later : (xs : List CodeTx) (i : ℕ) (x : CodeTx) → i < length xs → x ≡ get_or xs i x → (nat_lt i 4 && may_end (plain_tx x)) ≡ false →
    one_may_end i (txs_of (drop i xs)) ≡ one_may_end (i + 1) (txs_of (drop (i + 1) xs))
ends_later xs i x less at not_here =
    let here : drop i xs ≡ x ∷ drop (i + 1) xs = drop_more xs i x less ∙ ap (λ y. y ∷ drop (i + 1) xs) (sym at) in
    ap (λ ys. one_may_end i (txs_of ys)) here ∙ ap (λ b. b || one_may_end (i + 1) (txs_of (drop (i + 1) xs))) not_here

pub ends_nowhere : (xs : List CodeTx) (i : ℕ) → i ≡ length xs → one_may_end i (txs_of (drop i xs)) ≡ false
ends_nowhere xs i over = ap (λ ys. one_may_end i (txs_of ys)) (ap (λ j. drop j xs) over ∙ drop-length xs)
