-- The laws at small texts and codes, computed. Above each text stands what it is.
use Rattle.std.proofs.Common.{ℕ, ◌+◌, ◌*◌, ◌≡◌, List, [], ◌∷◌, ◌++◌, None, true, false, sum_by, length, map, refl}
use Rattle.tg_base.specs.declared.ids.Span.{Span}
use Rattle.tg_syntax.specs.declared.tokens.Ident.{Ident}
use Rattle.tg_syntax.specs.declared.trees.Op.TheVariants as op
use Rattle.tg_syntax.specs.Tree.{Exp, Int, Read, Call, Binary, Let, Seq, Simple, no_exps, exp, no_decs, functions, no_functions, function}
use Rattle.tg_syntax.specs.Functions.{program_functions, program_size}
use Rattle.tg_tree.specs.declared.operators.Rel.TheVariants.{LessEqual}
use Rattle.tg_tree.specs.Tree.{Ts, Function}
use Rattle.tg_tree.specs.Sizes.{tree_length}
use Rattle.tg_translate.specs.mirror.Scopes.{Findings}
use Rattle.tg_translate.specs.mirror.Translate.{translated}
use Rattle.tg_canon_trace_proof.specs.Flattened.{flattened}
use Rattle.tg_instr.specs.declared.operands.Opnd.TheVariants.{Reg}
use Rattle.tg_instr.specs.declared.instr.Instr.{Instr}
use Rattle.tg_instr.specs.declared.instr.Instr.TheVariants.{FrameLoad, FrameStore, FrameAddress, Address, Mark, Branch, Return}
use Rattle.tg_instr.specs.Lengths as instr
use Rattle.tg_munch.specs.mirror.Choosing.{◌>>=◌}
use Rattle.tg_munch.specs.mirror.Bodies.{munched}
use Rattle.tg_redundancy.specs.mirror.Known.{known_code}
use Rattle.tg_regalloc.specs.mirror.InFrame.{code_in_frame}
use Rattle.tg_emit.specs.mirror.Lines.{entry, code_lines, words}
use Rattle.tg_code_bounds.specs.laws.Laws.{param_count, entry_words, length_words, besides_words, node_words, parameter_words, function_words, node_bytes}
use Rattle.tg_code_bounds.specs.laws.Laws.{parameter_bytes, function_bytes}

abbrev sp : Span
sp = record { from = 0; to = 0 }

abbrev id : ℕ → Ident
id n = record { name = record { 0 = n }; span = record { from = n; to = n } }

abbrev charged : Exp → ℕ
charged e = 2 * length (program_functions e) + sum_by param_count (program_functions e)

-- let function f() = () in end: as many functions for its nodes as there can be
abbrev least : Exp
least = Let sp (functions (function (id 11) [] None (Seq sp no_exps) no_functions) no_decs) no_exps

least_charged : charged least ≡ program_size least + 1
least_charged = refl

-- let function f(k: int) = k in f(1) end
abbrev applied : Exp
applied =
    Let sp (functions (function (id 11) (record { name = id 2; kind = id 0 } ∷ []) None (Read sp (Simple (id 2))) no_functions) no_decs)
    (exp (Call sp (id 11) (exp (Int sp 1) no_exps)) no_exps)

applied_charged : charged applied ≡ 2 * 2 + 1
applied_charged = refl

applied_size : program_size applied ≡ (1 + (1 + 1) + 2) + 2
applied_size = refl

-- in a large frame, with its branches turned round, code is as long as it is counted
abbrev far : List Instr
far =
    FrameLoad (Reg 8) 0 ∷ FrameStore (Reg 8) 1 ∷ FrameAddress (Reg 9) ∷ Address (Reg 4) (record { 0 = 40 })
    ∷ Branch (record { rel = LessEqual; left = Reg 8; right = Reg 0; is_one_row = refl }) 7 ∷ Mark 7 ∷ Return ∷ []

far_words : words (entry 32 40000 ++ code_lines true 32 40000 0 far) ≡ instr.words far + entry_words
far_words = refl

near_words : words (entry 32 8 ++ code_lines false 32 8 0 far) ≡ 2 + (1 + 1 + 1 + 2 + 1 + 0 + 2)
near_words = refl

-- 1 + 2, with each temporary in the frame
abbrev findings : Findings
findings = record { meaning = λ at. None; escapes = λ at. false; keeps_link = λ at. false }

abbrev sums : List (Function Ts)
sums = (translated findings (Binary sp op.Plus 0 (Int sp 1) (Int sp 2))).functions

abbrev code_words : Function Ts → ℕ
code_words f = instr.words (code_in_frame f.slots (known_code (munched (flattened f)).code)) + entry_words

sum_code : map code_words sums ≡ 74 ∷ []
unfolding ◌>>=◌
sum_code = refl

sum_bound : map (λ f. length_words * tree_length f + besides_words) sums ≡ (12 * 23 + 295) ∷ []
sum_bound = refl

constants : node_words ∷ parameter_words ∷ function_words ∷ node_bytes ∷ parameter_bytes ∷ function_bytes ∷ [] ≡ 1740 ∷ 72 ∷ 511 ∷ 1992 ∷ 84 ∷ 212 ∷ []
constants = refl
