-- What holds of what comes next holds of the run: one induction over trees, for any relation of two runs, of two worlds and of two
-- activations' temporaries that the steps keep.
use Rattle.std.proofs.Common.{◌≡◌, ℕ, zero, suc, ◌+◌, ◌-◌, ◌^◌, ◌%◌, ◌<◌, ◌≤◌, List, [], ◌∷◌, ◌++◌, Bool, true, false, Option, Some, None, refl}
use Rattle.std.specs.Prelude.{◌==◌, not, nat_lt, pos, if◌then◌else◌}
use Rattle.std.specs.Fmt.{signed_decimal}
use Rattle.tg_machine_state.specs.declared.ends.RunEnd.TheVariants.{Exit, Break as Broken, StackFull, BadService}
use Rattle.tg_base.specs.Words.{signed}
use Rattle.tg_machine_state.specs.Services.{whole_words}
use Rattle.tg_frame.specs.declared.accesses.Access.{Access}
use Rattle.tg_frame.specs.declared.accesses.Access.TheVariants.{InTemp, InFrame}
use Rattle.tg_simulation.specs.Runs.{Run}
use Rattle.tg_simulation.specs.Ran.{Ran, Stop, Ended, Wrong}
use Rattle.tg_tree.specs.Tree.{Tx, Const, Address, Temp, FrameAddress, Binary, Load, LoadByte, Call, Service, After, Txs, no_txs, tx, Cond, Compare}
use Rattle.tg_tree.specs.Tree.{Not, Both, Either, Ts, Move, Store, StoreByte, Do, If, Loop, Break, Fault, Seq, Return, Stms, no_stms, stm, Literal}
use Rattle.tg_tree.specs.Tree.{Function}
use Rattle.tg_tree.specs.Operators.{Given, word, stops_by, operate, holds}
use Rattle.tg_tree.specs.Memory.{Cell, Unset, Closed, Has, put, slot, lay, load, load_byte, store, store_byte, literal_address}
use Rattle.tg_tree.specs.Actions.{World, Temps, set_temp, Activation, Around, Acts, Go, Next, Out, Back, over, charged, written, with_word}
use Rattle.tg_tree.specs.Actions.{with_given, with_memory, leaving, with_text, text_from, take_heap, read_byte, service}
use Rattle.tg_tree.specs.Meaning.{Enter, Point, value, values, test, run, run_all}
use Rattle.tg_tree.specs.Units.{Stage, expression_units, argument_units, condition_units, statement_units}
use Rattle.tg_tree.specs.Running.{Runner, with_fuel, placed, entered, with_slots, without_slots, no_temps}

-- two runs, as far as so much fuel, from a world of the first
abbrev pub Related : Type 1
Related = ℕ → World → Run Ran → Run Ran → Type 0

abbrev pub RelatedWorlds : Type 1
RelatedWorlds = World → World → Type 0

abbrev pub RelatedTemps : Type 1
RelatedTemps = Temps → Temps → Type 0

-- a world that has read so much of the input
abbrev pub IsLater : World → World → Type 0
IsLater w v = (bytes : List ℕ) × (w.input ≡ bytes ++ v.input)

abbrev pub with_put : ℕ → Cell → World → World
with_put a c w = record w { memory = put a c w.memory }

module _ (R : Related) (W : RelatedWorlds) (T : RelatedTemps) where
  -- what comes after a word and a world
  abbrev pub AlikeBack : ℕ → Back → Back → Type 0
  AlikeBack n c d = (v : ℕ) (w w' : World) → W w w' → R n w (c v w) (d v w')

  abbrev pub AlikeWorld : ℕ → (World → Run Ran) → (World → Run Ran) → Type 0
  AlikeWorld n c d = (w w' : World) → W w w' → R n w (c w) (d w')

  abbrev pub AlikeWord : ℕ → World → (ℕ → Run Ran) → (ℕ → Run Ran) → Type 0
  AlikeWord n w p q = (v : ℕ) → R n w (p v) (q v)

  -- what the relations have to keep
  pub record Keeps : Type 0 where
    pub stop : (n : ℕ) (s : Stop) (w w' : World) → W w w' → R n w (over s w) (over s w')
    pub write : (n : ℕ) (bytes : List ℕ) (w : World) (c d : Run Ran) → R n w c d → R n w (written bytes c) (written bytes d)
    pub work : (n k : ℕ) (w : World) (c d : Run Ran) → R n w c d → R n w (charged k c) (charged k d)
    pub fuel : (n : ℕ) (w w' : World) (c d : Run Ran) → W w w' → ((m : ℕ) → m < n → R m w c d) → R n w (with_fuel w c) (with_fuel w' d)
    pub down : (m n : ℕ) (w : World) (c d : Run Ran) → m ≤ n → R n w c d → R m w c d
    pub later : (n : ℕ) (w v : World) (c d : Run Ran) → IsLater w v → R n v c d → R n w c d
    pub temp : (n i : ℕ) (w w' : World) (t t' : Temps) (p q : ℕ → Run Ran) → W w w' → T t t' → AlikeWord n w p q →
        R n w (with_word (t i) w p) (with_word (t' i) w' q)
    pub loads : (n u : ℕ) (w w' : World) (p q : ℕ → Run Ran) → W w w' → AlikeWord n w p q →
        R n w (with_word (load w.memory u) w p) (with_word (load w'.memory u) w' q)
    pub load_bytes : (n u : ℕ) (w w' : World) (p q : ℕ → Run Ran) → W w w' → AlikeWord n w p q →
        R n w (with_word (load_byte w.memory u) w p) (with_word (load_byte w'.memory u) w' q)
    pub stores : (n u v : ℕ) (w w' : World) (p q : World → Run Ran) → W w w' → AlikeWorld n p q →
        R n w (with_memory (store w.memory u v) w p) (with_memory (store w'.memory u v) w' q)
    pub store_bytes : (n u v : ℕ) (w w' : World) (p q : World → Run Ran) → W w w' → AlikeWorld n p q →
        R n w (with_memory (store_byte w.memory u v) w p) (with_memory (store_byte w'.memory u v) w' q)
    pub text : (n u : ℕ) (w w' : World) (c d : Run Ran) → W w w' → R n w c d →
        R n w (with_text (text_from (2 ^ 32) w.memory u) w c) (with_text (text_from (2 ^ 32) w'.memory u) w' d)
    pub heap : (n room k : ℕ) (w w' : World) (p q : Back) → W w w' → AlikeBack n p q → R n w (take_heap room k w p) (take_heap room k w' q)
    pub reads : (n : ℕ) (w w' : World) (p q : Back) → W w w' → AlikeBack n p q → R n w (read_byte w.input w p) (read_byte w'.input w' q)
    pub puts : (a : ℕ) (c : Cell) (w w' : World) → W w w' → W (with_put a c w) (with_put a c w')
    pub sets : (i v : ℕ) (t t' : Temps) → T t t' → T (set_temp i v t) (set_temp i v t')
    pub none : T no_temps no_temps

  abbrev pub AlikeGo : {A : Type 0} → ℕ → Go A → Go A → Type 0
  AlikeGo {A} n c d = (a : A) (w w' : World) (t t' : Temps) → W w w' → T t t' → R n w (c a w t) (d a w' t')

  abbrev pub AlikeNext : ℕ → Next → Next → Type 0
  AlikeNext n c d = (w w' : World) (t t' : Temps) → W w w' → T t t' → R n w (c w t) (d w' t')

  -- what is around two parts of an activation differs in what comes after breaks and returns alone
  pub data AlikeAround (n : ℕ) : Around → Around → Type 0 where
    around :
        (a : Activation) (out out' : Out) (back back' : Back) → AlikeGo n out out' → AlikeBack n back back' →
        AlikeAround n (record { activation = a; out = out; back = back }) (record { activation = a; out = out'; back = back' })

  -- two points that differ in what comes next, in worlds and temporaries alone
  pub data Alike (n : ℕ) : Point → Point → Type 0 where
    alike :
        (s : Ts) (e e' : Around) (next next' : Next) (w w' : World) (t t' : Temps) → AlikeAround n e e' → AlikeNext n next next' → W w w' → T t t' →
        Alike n (record { statement = s; around = e; next = next; world = w; temps = t })
        (record { statement = s; around = e'; next = next'; world = w'; temps = t' })

  module _ (keeps : Keeps) where
    pub around_down : (m n : ℕ) (e e' : Around) → m ≤ n → AlikeAround n e e' → AlikeAround m e e'
    around_down m n e e' le (around a out out' back back' h k) =
        around a out out' back back' (λ v w1 v1 t1 u1 r q. keeps.down m n w1 _ _ le (h v w1 v1 t1 u1 r q)) (λ v w1 v1 r. keeps.down m n w1 _ _ le (k v w1 v1 r))

    pub alike_down : (m n : ℕ) (x y : Point) → m ≤ n → Alike n x y → Alike m x y
    alike_down m n x y le (alike s e e' next next' w w' t t' h l hw ht) =
        alike s e e' next next' w w' t t' (around_down m n e e' le h) (λ w1 v1 t1 u1 r q. keeps.down m n w1 _ _ le (l w1 v1 t1 u1 r q)) hw ht

    laid : (base k : ℕ) (c : Cell) (w w' : World) → W w w' → W (record w { memory = lay base k c w.memory }) (record w' { memory = lay base k c w'.memory })
    laid base zero c w w' h = h
    laid base (suc k) c w w' h = keeps.puts (slot base k) c _ _ (laid base k c w w' h)

    module _ (n : ℕ) where
      pub keep_if : (b : Bool) (w : World) (p q p' q' : Run Ran) → R n w p p' → R n w q q' → R n w (if b then p else q) (if b then p' else q')
      keep_if true w p q p' q' h k = h
      keep_if false w p q p' q' h k = k

      keep_word : (o : Option ℕ) (w w' : World) (p q : ℕ → Run Ran) → W w w' → AlikeWord n w p q → R n w (with_word o w p) (with_word o w' q)
      keep_word None w w' p q r h = keeps.stop n Wrong w w' r
      keep_word (Some v) w w' p q r h = h v

      keep_given : (g : Given) (w w' : World) (p q : ℕ → Run Ran) → W w w' → AlikeWord n w p q → R n w (with_given g w p) (with_given g w' q)
      keep_given (word v) w w' p q r h = h v
      keep_given (stops_by s) w w' p q r h = keeps.stop n s w w' r

      -- one of two actions, by a test
      pub keep_choice : {K : Type 0} (b : Bool) (p q p' q' : Acts K) (e e' : Around) (k k' : K) (w w' : World) (t t' : Temps) →
          R n w (p e k w t) (p' e' k' w' t') → R n w (q e k w t) (q' e' k' w' t') → R n w ((if b then p else q) e k w t) ((if b then p' else q') e' k' w' t')
      keep_choice true p q p' q' e e' k k' w w' t t' h l = h
      keep_choice false p q p' q' e e' k k' w w' t t' h l = l

      keep_leaving : (p q : Next) (x y : Out) → AlikeNext n p q → AlikeGo n x y → AlikeGo n (leaving p x) (leaving q y)
      keep_leaving p q x y h k zero w w' t t' r s = h w w' t t' r s
      keep_leaving p q x y h k (suc i) w w' t t' r s = k i w w' t t' r s

      keep_frame : (e e' : Around) (g g' : Go ℕ) → AlikeAround n e e' → AlikeGo n g g' → (w x : World) (t u : Temps) →
          W w x → T t u → R n w (g e.activation.base w t) (g' e'.activation.base x u)
      keep_frame e e' g g' (around a o o' b b' ho hb) hg w x t u r s = hg a.base w x t u r s

      keep_leave : (k : ℕ) (e e' : Around) → AlikeAround n e e' → (w x : World) (t u : Temps) → W w x → T t u → R n w (e.out k w t) (e'.out k x u)
      keep_leave k e e' (around a o o' b b' ho hb) w x t u r s = ho k w x t u r s

      pub keep_back : (v : ℕ) (e e' : Around) → AlikeAround n e e' → (w x : World) → W w x → R n w (e.back v w) (e'.back v x)
      keep_back v e e' (around a o o' b b' ho hb) w x r = hb v w x r

      keep_around : (e e' : Around) (g g' : Next) → AlikeAround n e e' → AlikeNext n g g' →
          AlikeAround n (record e { out = leaving g e.out }) (record e' { out = leaving g' e'.out })
      keep_around e e' g g' (around a o o' b b' ho hb) hg = around a _ _ b b' (keep_leaving g g' o o' hg ho) hb

      pub keep_service : (room asked a : ℕ) (w w' : World) (p q : Back) → W w w' → AlikeBack n p q → R n w (service room asked a w p) (service room asked a w' q)
      keep_service room asked a w w' p q r h =
          keep_if (asked == 1) w _ _ _ _ (keeps.write n (signed_decimal (signed a)) w (p asked w) (q asked w') (h asked w w' r))
          (keep_if (asked == 4) w _ _ _ _ (keeps.text n a w w' _ _ r (h asked w w' r))
          (keep_if (asked == 9) w _ _ _ _ (keeps.heap n room (whole_words a) w w' p q r h)
          (keep_if (asked == 10) w _ _ _ _ (keeps.stop n (Ended (Exit (pos 0))) w w' r)
          (keep_if (asked == 11) w _ _ _ _ (keeps.write n (a % 256 ∷ []) w (p asked w) (q asked w') (h asked w w' r))
          (keep_if (asked == 12) w _ _ _ _ (keeps.reads n w w' p q r h)
          (keep_if (asked == 17) w _ _ _ _ (keeps.stop n (Ended (Exit (signed a))) w w' r)
          (keeps.stop n (Ended (BadService asked)) w w' r)))))))

      pub keep_placed : (base : ℕ) (homes : List Access) (vs : List ℕ) (w w' : World) (t t' : Temps) (p q : Next) →
          W w w' → T t t' → AlikeNext n p q → R n w (placed base homes vs w t p) (placed base homes vs w' t' q)
      keep_placed base [] [] w w' t t' p q r s h = h w w' t t' r s
      keep_placed base [] (v ∷ vs) w w' t t' p q r s h = keeps.stop n Wrong w w' r
      keep_placed base (InTemp i ∷ homes) [] w w' t t' p q r s h = keeps.stop n Wrong w w' r
      keep_placed base (InFrame k ∷ homes) [] w w' t t' p q r s h = keeps.stop n Wrong w w' r
      keep_placed base (InTemp i ∷ homes) (v ∷ vs) w w' t t' p q r s h = keep_placed base homes vs w w' _ _ p q r (keeps.sets i.0 v t t' s) h
      keep_placed base (InFrame k ∷ homes) (v ∷ vs) w w' t t' p q r s h =
          keeps.later n w (with_put (slot base k) (Has v) w) _ _ ([], refl)
          (keep_placed base homes vs _ _ t t' p q (keeps.puts (slot base k) (Has v) w w' r) s h)

      -- a function that is entered, where what runs a body keeps the relation
      pub keep_entered : {Body : Type 0} (size : ℕ → ℕ) (floor : ℕ) (body body' : Runner Body) →
          ((s : Body) (e e' : Around) (w w' : World) (t t' : Temps) → AlikeAround n e e' → W w w' → T t t' → R n w (body s e w t) (body' s e' w' t')) →
          (f : Option (Function Body)) (vs : List ℕ) (top : ℕ) (back back' : Back) (w w' : World) → W w w' →
          AlikeBack n back back' → R n w (entered size floor body f vs top back w) (entered size floor body' f vs top back' w')
      keep_entered size floor body body' runs None vs top back back' w w' r h = keeps.stop n Wrong w w' r
      keep_entered size floor body body' runs (Some f) vs top back back' w w' r h =
          keep_if (nat_lt top (floor + size f.label)) w _ _ _ _ (keeps.stop n (Ended StackFull) w w' r)
          (keeps.later n w (with_slots f top w) _ _ ([], refl)
          (keep_placed top f.params vs (with_slots f top w) (with_slots f top w') no_temps no_temps _ _ (laid top f.slots Unset w w' r) keeps.none
          (λ w1 v1 t1 u1 r1 s1. runs f.body _ _ w1 v1 t1 u1
          (around (record { base = top; size = size f.label }) _ _ _ _ (λ k w2 v2 t2 u2 r2 s2. keeps.stop n Wrong w2 v2 r2)
          (λ v w2 v2 r2. keeps.later n w2 (without_slots f top w2) _ _ ([], refl)
          (h v (without_slots f top w2) (without_slots f top v2) (laid top f.slots Closed w2 v2 r2)))) r1 s1)))

      module _ (stage : Stage) (room : ℕ) (literals : List Literal) (enter enter' : Enter) (later later' : Point → Run Ran)
          (enters : (label : ℕ) (vs : List ℕ) (top : ℕ) (back back' : Back) (w w' : World) → W w w' → AlikeBack n back back' →
          R n w (enter label vs top back w) (enter' label vs top back' w')) (goes_on : (x y : Point) → Alike n x y → R n x.world (later x) (later' y)) where
        keep_call : (label : ℕ) (vs : List ℕ) (e e' : Around) (g g' : Go ℕ) → AlikeAround n e e' → AlikeGo n g g' →
            (w x : World) (t u : Temps) → W w x → T t u → R n w (enter label vs (e.activation.base - e.activation.size) (λ v w1. g v w1 t) w)
            (enter' label vs (e'.activation.base - e'.activation.size) (λ v w1. g' v w1 u) x)
        keep_call label vs e e' g g' (around a o o' b b' ho hb) hg w x t u r s =
            enters label vs (a.base - a.size) _ _ w x r (λ v w2 x2 r2. hg v w2 x2 t u r2 s)

        mutual
          pub keep_value : (p : Tx) (e e' : Around) (g g' : Go ℕ) → AlikeAround n e e' → AlikeGo n g g' →
              (w x : World) (t u : Temps) → W w x → T t u → R n w (value stage room literals enter later p e g w t)
              (value stage room literals enter' later' p e' g' x u)
          keep_value (Const v) e e' g g' he hg w x t u r s = keeps.work n (expression_units stage (Const v)) w _ _ (hg v w x t u r s)
          keep_value (Address label) e e' g g' he hg w x t u r s =
              keeps.work n (expression_units stage (Address label)) w _ _ (keep_word (literal_address literals label) w x _ _ r (λ v. hg v w x t u r s))
          keep_value (Temp i) e e' g g' he hg w x t u r s =
              keeps.work n (expression_units stage (Temp i)) w _ _ (keeps.temp n i w x t u _ _ r s (λ v. hg v w x t u r s))
          keep_value FrameAddress e e' g g' he hg w x t u r s =
              keeps.work n (expression_units stage FrameAddress) w _ _ (keep_frame e e' g g' he hg w x t u r s)
          keep_value (Binary op p q) e e' g g' he hg w x t u r s =
              keeps.work n (expression_units stage (Binary op p q)) w _ _ (keep_value p e e' _ _ he
              (λ a w1 x1 t1 u1 r1 s1. keep_value q e e' _ _ he (λ b w2 x2 t2 u2 r2 s2. keep_given (operate op a b) w2 x2
              _ _ r2 (λ v. hg v w2 x2 t2 u2 r2 s2)) w1 x1 t1 u1 r1 s1) w x t u r s)
          keep_value (Load p) e e' g g' he hg w x t u r s =
              keeps.work n (expression_units stage (Load p)) w _ _
              (keep_value p e e' _ _ he (λ a w1 x1 t1 u1 r1 s1. keeps.loads n a w1 x1 _ _ r1 (λ v. hg v w1 x1 t1 u1 r1 s1)) w x t u r s)
          keep_value (LoadByte p) e e' g g' he hg w x t u r s =
              keeps.work n (expression_units stage (LoadByte p)) w _ _
              (keep_value p e e' _ _ he (λ a w1 x1 t1 u1 r1 s1. keeps.load_bytes n a w1 x1 _ _ r1 (λ v. hg v w1 x1 t1 u1 r1 s1)) w x t u r s)
          keep_value (Call label ps) e e' g g' he hg w x t u r s =
              keeps.work n (expression_units stage (Call label ps)) w _ _ (keep_values ps e e' _ _ he
              (λ vs w1 x1 t1 u1 r1 s1. keep_call label vs e e' g g' he hg w1 x1 t1 u1 r1 s1) w x t u r s)
          keep_value (Service k p) e e' g g' he hg w x t u r s =
              keeps.work n (expression_units stage (Service k p)) w _ _ (keep_value p e e' _ _ he
              (λ a w1 x1 t1 u1 r1 s1. keep_service room k a w1 x1 _ _ r1 (λ v w2 x2 r2. hg v w2 x2 t1 u1 r2 s1)) w x t u r s)
          keep_value (After c p) e e' g g' he hg w x t u r s =
              keeps.work n (expression_units stage (After c p)) w _ _
              (keep_run c e e' _ _ he (λ w1 x1 t1 u1 r1 s1. keep_value p e e' g g' he hg w1 x1 t1 u1 r1 s1) w x t u r s)

          pub keep_values : (ps : Txs) (e e' : Around) (g g' : Go (List ℕ)) → AlikeAround n e e' → AlikeGo n g g' →
              (w x : World) (t u : Temps) → W w x → T t u → R n w (values stage room literals enter later ps e g w t)
              (values stage room literals enter' later' ps e' g' x u)
          keep_values no_txs e e' g g' he hg w x t u r s = hg [] w x t u r s
          keep_values (tx p ps) e e' g g' he hg w x t u r s =
              keeps.work n (argument_units stage ps) w _ _ (keep_value p e e' _ _ he
              (λ v w1 x1 t1 u1 r1 s1. keep_values ps e e' _ _ he (λ vs w2 x2 t2 u2 r2 s2. hg (v ∷ vs) w2 x2 t2 u2 r2 s2) w1 x1 t1 u1 r1 s1) w x t u r s)

          pub keep_test : (c : Cond) (e e' : Around) (g g' : Go Bool) → AlikeAround n e e' → AlikeGo n g g' →
              (w x : World) (t u : Temps) → W w x → T t u → R n w (test stage room literals enter later c e g w t)
              (test stage room literals enter' later' c e' g' x u)
          keep_test (Compare rel p q) e e' g g' he hg w x t u r s =
              keeps.work n (condition_units stage (Compare rel p q)) w _ _ (keep_value p e e' _ _ he
              (λ a w1 x1 t1 u1 r1 s1. keep_value q e e' _ _ he (λ b w2 x2 t2 u2 r2 s2. hg (holds rel a b) w2 x2 t2 u2 r2 s2) w1 x1 t1 u1 r1 s1) w x t u r s)
          keep_test (Not c) e e' g g' he hg w x t u r s =
              keeps.work n (condition_units stage (Not c)) w _ _ (keep_test c e e' _ _ he (λ b w1 x1 t1 u1 r1 s1. hg (not b) w1 x1 t1 u1 r1 s1) w x t u r s)
          keep_test (Both c d) e e' g g' he hg w x t u r s =
              keeps.work n (condition_units stage (Both c d)) w _ _ (keep_test c e e' _ _ he
              (λ b w1 x1 t1 u1 r1 s1. keep_choice b _ _ _ _ e e' g g' w1 x1 t1 u1 (keep_test d e e' g g' he hg w1 x1 t1 u1 r1 s1) (hg false w1 x1 t1 u1 r1 s1))
              w x t u r s)
          keep_test (Either c d) e e' g g' he hg w x t u r s =
              keeps.work n (condition_units stage (Either c d)) w _ _ (keep_test c e e' _ _ he
              (λ b w1 x1 t1 u1 r1 s1. keep_choice b _ _ _ _ e e' g g' w1 x1 t1 u1 (hg true w1 x1 t1 u1 r1 s1)
              (keep_test d e e' g g' he hg w1 x1 t1 u1 r1 s1)) w x t u r s)

          pub keep_run : (c : Ts) (e e' : Around) (g g' : Next) → AlikeAround n e e' → AlikeNext n g g' →
              (w x : World) (t u : Temps) → W w x → T t u → R n w (run stage room literals enter later c e g w t)
              (run stage room literals enter' later' c e' g' x u)
          keep_run (Move i p) e e' g g' he hg w x t u r s =
              keeps.work n (statement_units stage (Move i p)) w _ _
              (keep_value p e e' _ _ he (λ v w1 x1 t1 u1 r1 s1. hg w1 x1 _ _ r1 (keeps.sets i v t1 u1 s1)) w x t u r s)
          keep_run (Store p q) e e' g g' he hg w x t u r s =
              keeps.work n (statement_units stage (Store p q)) w _ _ (keep_value p e e' _ _ he
              (λ a w1 x1 t1 u1 r1 s1. keep_value q e e' _ _ he (λ b w2 x2 t2 u2 r2 s2. keeps.stores n a b w2 x2 _ _ r2
              (λ w3 x3 r3. hg w3 x3 t2 u2 r3 s2)) w1 x1 t1 u1 r1 s1) w x t u r s)
          keep_run (StoreByte p q) e e' g g' he hg w x t u r s =
              keeps.work n (statement_units stage (StoreByte p q)) w _ _ (keep_value p e e' _ _ he
              (λ a w1 x1 t1 u1 r1 s1. keep_value q e e' _ _ he (λ b w2 x2 t2 u2 r2 s2. keeps.store_bytes n a b w2 x2 _ _
              r2 (λ w3 x3 r3. hg w3 x3 t2 u2 r3 s2)) w1 x1 t1 u1 r1 s1) w x t u r s)
          keep_run (Do p) e e' g g' he hg w x t u r s =
              keeps.work n (statement_units stage (Do p)) w _ _ (keep_value p e e' _ _ he (λ v w1 x1 t1 u1 r1 s1. hg w1 x1 t1 u1 r1 s1) w x t u r s)
          keep_run (If c d f) e e' g g' he hg w x t u r s =
              keeps.work n (statement_units stage (If c d f)) w _ _ (keep_test c e e' _ _ he
              (λ b w1 x1 t1 u1 r1 s1. keep_choice b _ _ _ _ e e' g g' w1 x1 t1 u1 (keep_run d e e' g g' he hg w1 x1 t1 u1 r1 s1)
              (keep_run f e e' g g' he hg w1 x1 t1 u1 r1 s1)) w x t u r s)
          keep_run (Loop c) e e' g g' he hg w x t u r s =
              keeps.work n (statement_units stage (Loop c)) w _ _ (keep_run c _ _ _ _ (keep_around e e' g g' he hg)
              (λ w1 x1 t1 u1 r1 s1. goes_on _ _ (alike (Loop c) e e' g g' w1 x1 t1 u1 he hg r1 s1)) w x t u r s)
          keep_run (Break k) e e' g g' he hg w x t u r s = keeps.work n (statement_units stage (Break k)) w _ _ (keep_leave k e e' he w x t u r s)
          keep_run (Fault k) e e' g g' he hg w x t u r s = keeps.work n (statement_units stage (Fault k)) w _ _ (keeps.stop n (Ended (Broken k)) w x r)
          keep_run (Seq cs) e e' g g' he hg w x t u r s = keeps.work n (statement_units stage (Seq cs)) w _ _ (keep_all cs e e' g g' he hg w x t u r s)
          keep_run (Return p) e e' g g' he hg w x t u r s =
              keeps.work n (statement_units stage (Return p)) w _ _ (keep_value p e e' _ _ he (λ v w1 x1 t1 u1 r1 s1. keep_back v e e' he w1 x1 r1) w x t u r s)

          pub keep_all : (cs : Stms) (e e' : Around) (g g' : Next) → AlikeAround n e e' → AlikeNext n g g' →
              (w x : World) (t u : Temps) → W w x → T t u → R n w (run_all stage room literals enter later cs e g w t)
              (run_all stage room literals enter' later' cs e' g' x u)
          keep_all no_stms e e' g g' he hg w x t u r s = hg w x t u r s
          keep_all (stm c cs) e e' g g' he hg w x t u r s =
              keep_run c e e' _ _ he (λ w1 x1 t1 u1 r1 s1. keep_all cs e e' g g' he hg w1 x1 t1 u1 r1 s1) w x t u r s
