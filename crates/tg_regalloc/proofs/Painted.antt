-- What the code over registers keeps of the code with colours.
use Rattle.std.proofs.Common.{ℕ, ◌≡◌, ◌<◌, List, [], ◌∷◌, ◌++◌, Bool, true, false, refl, ap, ◌∙◌, sym, subst, arith}
use Rattle.std.specs.Prelude.{IsTrue, cond, not, filter, map}
use Rattle.std.proofs.lemmas.List.{map-append, get_or_past}
use Rattle.std.proofs.lemmas.List.Elements.{filter-append}
use Rattle.tg_instr.specs.declared.operands.Opnd.{Opnd}
use Rattle.tg_instr.specs.declared.instr.Instr.{Instr}
use Rattle.tg_instr.specs.declared.instr.Instr.TheVariants.{Jump, Fault, Return, Move}
use Rattle.tg_instr.specs.Codes.{is_end}
use Rattle.tg_instr.specs.Renaming.{named, renamed}
use Rattle.tg_live.specs.Interference.{colours}
use Rattle.tg_regalloc.specs.Painting.{register_of, is_idle, painted_named, instruction_painted, code_painted}
use Rattle.tg_regalloc.proofs.Replacing.{Replaces, AreReplaced, around}
use Rattle.tg_regalloc.proofs.Replacing.AreReplaced.{none, also}

pub past_colours : (c : ℕ) → 24 < c → 0 ≡ register_of c
past_colours c h = sym (get_or_past colours c 0 (omega arith))

abbrev is_busy : Instr → Bool
is_busy one = not (is_idle one)

-- what stands for an instruction
abbrev pub unless_idle : (ℕ → ℕ) → Instr → List Instr
unless_idle colour x = cond (is_idle (instruction_painted colour x)) [] (instruction_painted colour x ∷ [])

join : (b : Bool) (y : Instr) (ys : List Instr) → cond b [] (y ∷ []) ++ ys ≡ cond (not b) (y ∷ ys) ys
join true y ys = refl
join false y ys = refl

alone : (b : Bool) (y : Instr) → cond (not b) (y ∷ []) [] ≡ cond b [] (y ∷ [])
alone true y = refl
alone false y = refl

pub painted_more : (colour : ℕ → ℕ) (xs : List Instr) (x : Instr) → code_painted colour (xs ++ x ∷ []) ≡ code_painted colour xs ++ unless_idle colour x
painted_more colour xs x =
    ap (filter is_busy) (map-append (instruction_painted colour) xs (x ∷ []))
    ∙ (filter-append is_busy (map (instruction_painted colour) xs) (instruction_painted colour x ∷ [])
    ∙ ap (λ l. code_painted colour xs ++ l) (alone (is_idle (instruction_painted colour x)) (instruction_painted colour x)))

end_stays : (x : Instr) (a b c : Opnd) → IsTrue (is_end x) → renamed x a b c ∷ [] ≡ x ∷ []
end_stays (Jump m) a b c h = refl
end_stays (Fault n) a b c h = refl
end_stays Return a b c h = refl
end_stays _ a b c h = cc

-- a move may fall away
falls_away : (x : Instr) (a b c : Opnd) → IsTrue (is_idle (renamed x a b c)) → Replaces x []
falls_away (Move to from) a b c h = record { marks = λ m. refl; differ = λ rest. refl; leads = λ all into same l. refl; end = λ e. cc }
falls_away _ a b c h = cc

replaced_by : (x : Instr) (a b c : Opnd) (idle : Bool) → is_idle (renamed x a b c) ≡ idle → Replaces x (cond idle [] (renamed x a b c ∷ []))
replaced_by x a b c true e = falls_away x a b c e
replaced_by x a b c false e = around x a b c [] [] refl refl (end_stays x a b c)

pub are_painted : (colour : ℕ → ℕ) (list : List Instr) → AreReplaced list (code_painted colour list)
are_painted colour [] = none
are_painted colour (x ∷ rest) =
    let n = named x in
    let y = instruction_painted colour x in
    subst (AreReplaced (x ∷ rest)) (join (is_idle y) y (code_painted colour rest))
    (also x (unless_idle colour x) rest (code_painted colour rest)
    (replaced_by x (painted_named colour n.to) (painted_named colour n.first) (painted_named colour n.second) (is_idle y) refl) (are_painted colour rest))
