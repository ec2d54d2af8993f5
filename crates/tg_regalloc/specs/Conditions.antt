-- What `in_frame` asks of a code: the registers that are named before allocation.
use Rattle.std.specs.Prelude.{ℕ, ◌&&◌, ◌||◌, ◌==◌, nat_lt, nat_le, Bool}

-- $zero, $sp, $v0, $a0 to $a3, $s0 to $s7 and $ra: the registers that code names before allocation
abbrev pub is_fixed : ℕ → Bool
is_fixed r =
    r == 0 || (r == 29 || (r == 2 || (r == 31
    || ((nat_le 4 r && nat_lt r 8) || (nat_le 16 r && nat_lt r 24)))))
