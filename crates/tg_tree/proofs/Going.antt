-- Runs of one and the same world: as far as so much fuel, and on with more.
use Rattle.std.proofs.Common.{◌≡◌, ℕ, zero, suc, ◌+◌, ◌^◌, ◌<◌, ◌≤◌, List, [], ◌∷◌, ◌++◌, length, Bool, true, false, Option, Some, None, refl, sym}
use Rattle.std.proofs.Common.{ap, ◌∙◌, arith, append_assoc}
use Rattle.std.specs.Prelude.{nat_lt, if◌then◌else◌}
use Rattle.tg_machine_state.specs.declared.ends.RunEnd.TheVariants.{HeapFull}
use Rattle.tg_machine_state.specs.State.{heap_base}
use Rattle.tg_simulation.specs.Runs.{Run, IsSameTo}
use Rattle.tg_simulation.specs.Ran.{Ran, Stop, Ended, WantsFuel, Wrong, stops, writes, works, IsOver, GoesOn}
use Rattle.tg_simulation.proofs.Fixpoint.{turn_same}
use Rattle.tg_tree.specs.Memory.{Memory, load, load_byte, store, store_byte, Cell}
use Rattle.tg_tree.specs.Actions.{World, Temps, set_temp, Back, over, charged, written, with_word, with_memory, with_text, text_from, take_heap, read_byte}
use Rattle.tg_tree.specs.Running.{with_fuel, no_temps}
use Rattle.tg_tree.proofs.Relating.{Related, IsLater, Keeps, AlikeBack, with_put}

pub data IsOne {A : Type 0} : A → A → Type 0 where
  one : (x : A) → IsOne x x

abbrev pub OneWorld : World → World → Type 0
OneWorld w x = IsOne w x

abbrev pub OneTemps : Temps → Temps → Type 0
OneTemps t u = IsOne t u

-- what a relation of two runs from one world has to keep
pub record KeepsRuns (R : Related) : Type 0 where
  pub stop : (n : ℕ) (s : Stop) (w : World) → R n w (over s w) (over s w)
  pub write : (n : ℕ) (bytes : List ℕ) (w : World) (c d : Run Ran) → R n w c d → R n w (written bytes c) (written bytes d)
  pub work : (n k : ℕ) (w : World) (c d : Run Ran) → R n w c d → R n w (charged k c) (charged k d)
  pub fuel : (n : ℕ) (w : World) (c d : Run Ran) → ((m : ℕ) → m < n → R m w c d) → R n w (with_fuel w c) (with_fuel w d)
  pub down : (m n : ℕ) (w : World) (c d : Run Ran) → m ≤ n → R n w c d → R m w c d
  pub later : (n : ℕ) (w v : World) (c d : Run Ran) → IsLater w v → R n v c d → R n w c d

module _ (R : Related) (k : KeepsRuns R) where
  one_stop : (n : ℕ) (s : Stop) (w x : World) → OneWorld w x → R n w (over s w) (over s x)
  one_stop n s w x (one v) = k.stop n s v

  one_fuel : (n : ℕ) (w x : World) (c d : Run Ran) → OneWorld w x → ((m : ℕ) → m < n → R m w c d) → R n w (with_fuel w c) (with_fuel x d)
  one_fuel n w x c d (one v) h = k.fuel n v c d h

  one_word : (n : ℕ) (o : Option ℕ) (w : World) (p q : ℕ → Run Ran) → ((v : ℕ) → R n w (p v) (q v)) → R n w (with_word o w p) (with_word o w q)
  one_word n None w p q h = k.stop n Wrong w
  one_word n (Some v) w p q h = h v

  one_temp : (n i : ℕ) (w x : World) (t u : Temps) (p q : ℕ → Run Ran) → OneWorld w x → OneTemps t u →
      ((v : ℕ) → R n w (p v) (q v)) → R n w (with_word (t i) w p) (with_word (u i) x q)
  one_temp n i w x t u p q (one v) (one s) h = one_word n (s i) v p q h

  one_load : (n a : ℕ) (w x : World) (p q : ℕ → Run Ran) → OneWorld w x → ((v : ℕ) → R n w (p v) (q v)) →
      R n w (with_word (load w.memory a) w p) (with_word (load x.memory a) x q)
  one_load n a w x p q (one v) h = one_word n (load v.memory a) v p q h

  one_load_byte : (n a : ℕ) (w x : World) (p q : ℕ → Run Ran) → OneWorld w x → ((v : ℕ) → R n w (p v) (q v)) →
      R n w (with_word (load_byte w.memory a) w p) (with_word (load_byte x.memory a) x q)
  one_load_byte n a w x p q (one v) h = one_word n (load_byte v.memory a) v p q h

  one_memory : (n : ℕ) (o : Option Memory) (w : World) (p q : World → Run Ran) → ((y z : World) → OneWorld y z → R n y (p y) (q z)) →
      R n w (with_memory o w p) (with_memory o w q)
  one_memory n None w p q h = k.stop n Wrong w
  one_memory n (Some m) w p q h = k.later n w (record w { memory = m }) _ _ ([], refl) (h _ _ (one (record w { memory = m })))

  one_store : (n a b : ℕ) (w x : World) (p q : World → Run Ran) → OneWorld w x → ((y z : World) → OneWorld y z → R n y (p y) (q z)) →
      R n w (with_memory (store w.memory a b) w p) (with_memory (store x.memory a b) x q)
  one_store n a b w x p q (one v) h = one_memory n (store v.memory a b) v p q h

  one_store_byte : (n a b : ℕ) (w x : World) (p q : World → Run Ran) → OneWorld w x → ((y z : World) → OneWorld y z → R n y (p y) (q z)) →
      R n w (with_memory (store_byte w.memory a b) w p) (with_memory (store_byte x.memory a b) x q)
  one_store_byte n a b w x p q (one v) h = one_memory n (store_byte v.memory a b) v p q h

  texts : (n : ℕ) (o : Option (List ℕ)) (w : World) (c d : Run Ran) → R n w c d → R n w (with_text o w c) (with_text o w d)
  texts n None w c d h = k.stop n Wrong w
  texts n (Some bytes) w c d h = k.write n bytes w c d h

  one_text : (n m a : ℕ) (w x : World) (c d : Run Ran) → OneWorld w x → R n w c d →
      R n w (with_text (text_from m w.memory a) w c) (with_text (text_from m x.memory a) x d)
  one_text n m a w x c d (one v) h = texts n (text_from m v.memory a) v c d h

  either : (n : ℕ) (b : Bool) (w : World) (p q p' q' : Run Ran) → R n w p p' → R n w q q' → R n w (if b then p else q) (if b then p' else q')
  either n true w p q p' q' h i = h
  either n false w p q p' q' h i = i

  one_heap : (n room m : ℕ) (w x : World) (p q : Back) → OneWorld w x → AlikeBack R OneWorld OneTemps n p q →
      R n w (take_heap room m w p) (take_heap room m x q)
  one_heap n room m w x p q (one v) h =
      either n (nat_lt room (length v.memory.heap + m)) v _ _ _ _ (k.stop n (Ended HeapFull) v)
      (k.later n v (record v { memory = _ }) _ _ ([], refl) (h (heap_base + length v.memory.heap) _ _ (one _)))

  one_input : (n : ℕ) (bytes : List ℕ) (w : World) (p q : Back) → w.input ≡ bytes → AlikeBack R OneWorld OneTemps n p q →
      R n w (read_byte bytes w p) (read_byte bytes w q)
  one_input n [] w p q e h = h 4294967295 w w (one w)
  one_input n (b ∷ rest) w p q e h = k.later n w (record w { input = rest }) _ _ (b ∷ [], e) (h b _ _ (one (record w { input = rest })))

  one_read : (n : ℕ) (w x : World) (p q : Back) → OneWorld w x → AlikeBack R OneWorld OneTemps n p q → R n w (read_byte w.input w p) (read_byte x.input x q)
  one_read n w x p q (one v) h = one_input n v.input v p q refl h

  one_put : (a : ℕ) (c : Cell) (w x : World) → OneWorld w x → OneWorld (with_put a c w) (with_put a c x)
  one_put a c w x (one v) = one (with_put a c v)

  one_set : (i v : ℕ) (t u : Temps) → OneTemps t u → OneTemps (set_temp i v t) (set_temp i v u)
  one_set i v t u (one s) = one (set_temp i v s)

  pub keeps_one : Keeps R OneWorld OneTemps
  keeps_one =
      record {
        stop = one_stop;
        write = λ n bytes w c d h. k.write n bytes w c d h;
        work = λ n j w c d h. k.work n j w c d h;
        fuel = one_fuel;
        down = λ m n w c d le h. k.down m n w c d le h;
        later = λ n w v c d l h. k.later n w v c d l h;
        temp = one_temp;
        loads = one_load;
        load_bytes = one_load_byte;
        stores = one_store;
        store_bytes = one_store_byte;
        text = λ n a w x c d r h. one_text n (2 ^ 32) a w x c d r h;
        heap = one_heap;
        reads = one_read;
        puts = one_put;
        sets = one_set;
        none = one no_temps;
      }

-- the same as far as so much fuel
abbrev pub Same : Related
Same n w c d = IsSameTo n c d

same_runs : KeepsRuns Same
same_runs =
    record {
      stop = λ n s w i le. refl;
      write = λ n bytes w c d h i le. ap (writes bytes) (h i le);
      work = λ n k w c d h i le. ap (works k) (h i le);
      fuel = λ n w c d h. turn_same (stops w.input WantsFuel) n c d h;
      down = λ m n w c d le h i li. h i (omega arith);
      later = λ n w v c d l h. h;
    }

pub same_keeps : Keeps Same OneWorld OneTemps
same_keeps = keeps_one Same same_runs

-- from a world on, the second goes on from the first, and is the same where that is over
pub record IsOnward (w : World) (p q : Ran) : Type 0 where
  pub over : IsOver p.stop → q ≡ p
  pub on : GoesOn p q
  pub begun : (read : List ℕ) × (w.input ≡ read ++ q.input)

-- with more fuel
abbrev pub Onward : Related
Onward n w c d = (j i : ℕ) → j ≤ n → i ≤ j → IsOnward w (c i) (d j)

stops_on : (w : World) (s : Stop) → IsOnward w (stops w.input s) (stops w.input s)
stops_on w s = record {
  over = λ o. refl;
  on = record { output = ([], refl); input = ([], refl); work = omega arith };
  begun = ([], refl);
}

write_on : (bytes : List ℕ) (w : World) (p q : Ran) → IsOnward w p q → IsOnward w (writes bytes p) (writes bytes q)
write_on bytes w p q h = record {
  over = λ o. ap (writes bytes) (h.over o);
  on = record {
    output = (h.on.output.0, ap (λ r. bytes ++ r) h.on.output.1 ∙ sym (append_assoc bytes p.output h.on.output.0));
    input = h.on.input;
    work = h.on.work;
  };
  begun = h.begun;
}

work_on : (k : ℕ) (w : World) (p q : Ran) → IsOnward w p q → IsOnward w (works k p) (works k q)
work_on k w p q h = record {
  over = λ o. ap (works k) (h.over o);
  on = record { output = h.on.output; input = h.on.input; work = omega (arith, h.on.work) };
  begun = h.begun;
}

wants_on : (w : World) (q : Ran) → (read : List ℕ) × (w.input ≡ read ++ q.input) → IsOnward w (stops w.input WantsFuel) q
wants_on w q h = record {
  over = λ o. absurd o;
  on = record { output = (q.output, refl); input = h; work = omega arith };
  begun = h;
}

later_on : (w v : World) (p q : Ran) → IsLater w v → IsOnward v p q → IsOnward w p q
later_on w v p q l h = record {
  over = λ o. h.over o;
  on = h.on;
  begun = (l.0 ++ h.begun.0, l.1 ∙ ap (λ r. l.0 ++ r) h.begun.1 ∙ sym (append_assoc l.0 h.begun.0 q.input));
}

fuel_on : (n : ℕ) (w : World) (c d : Run Ran) → ((m : ℕ) → m < n → Onward m w c d) → Onward n w (with_fuel w c) (with_fuel w d)
fuel_on n w c d h zero zero lj li = stops_on w WantsFuel
fuel_on n w c d h zero (suc i) lj li = absurd (omega arith)
fuel_on n w c d h (suc j) zero lj li = wants_on w (d j) (h j (omega arith) j zero (omega arith) (omega arith)).begun
fuel_on n w c d h (suc j) (suc i) lj li = h j (omega arith) j i (omega arith) (omega arith)

onward_runs : KeepsRuns Onward
onward_runs =
    record {
      stop = λ n s w j i lj li. stops_on w s;
      write = λ n bytes w c d h j i lj li. write_on bytes w (c i) (d j) (h j i lj li);
      work = λ n k w c d h j i lj li. work_on k w (c i) (d j) (h j i lj li);
      fuel = fuel_on;
      down = λ m n w c d le h j i lj li. h j i (omega arith) li;
      later = λ n w v c d l h j i lj li. later_on w v (c i) (d j) l (h j i lj li);
    }

pub onward_keeps : Keeps Onward OneWorld OneTemps
onward_keeps = keeps_one Onward onward_runs
