-- The names of the registers (MIPS I manual, register usage).
use Rattle.std.specs.Prelude.{ℕ, List, [], ◌∷◌, codes, slice_index_or}

abbrev pub names : List (List ℕ)
names =
    codes "$zero" ∷ codes "$at" ∷ codes "$v0" ∷ codes "$v1" ∷ codes "$a0" ∷ codes "$a1"
    ∷ codes "$a2" ∷ codes "$a3"
    ∷ codes "$t0" ∷ codes "$t1" ∷ codes "$t2" ∷ codes "$t3" ∷ codes "$t4" ∷ codes "$t5"
    ∷ codes "$t6" ∷ codes "$t7"
    ∷ codes "$s0" ∷ codes "$s1" ∷ codes "$s2" ∷ codes "$s3" ∷ codes "$s4" ∷ codes "$s5"
    ∷ codes "$s6" ∷ codes "$s7"
    ∷ codes "$t8" ∷ codes "$t9" ∷ codes "$k0" ∷ codes "$k1" ∷ codes "$gp" ∷ codes "$sp"
    ∷ codes "$fp" ∷ codes "$ra" ∷ []

abbrev pub register_name : ℕ → List ℕ
register_name r = slice_index_or names r []
