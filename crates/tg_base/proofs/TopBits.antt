-- A flag as the top bit of a word: its double has a word where the flag is 0 alone.
use Rattle.std.proofs.Common.{◌≡◌, true, false, Some, None, refl}
use Rattle.tg_base.specs.Words.{exact_sum, flag, shift_left}

pub shift_left-one : shift_left 1 31 ≡ 2147483648
shift_left-one = refl

pub shift_left-zero : shift_left 0 31 ≡ 0
shift_left-zero = refl

pub exact_sum-top : exact_sum 2147483648 2147483648 ≡ None
exact_sum-top = refl

pub exact_sum-zero : exact_sum 0 0 ≡ Some 0
exact_sum-zero = refl

pub exact_sum-flag_true : exact_sum (shift_left (flag true) 31) (shift_left (flag true) 31) ≡ None
exact_sum-flag_true = refl

pub exact_sum-flag_false : exact_sum (shift_left (flag false) 31) (shift_left (flag false) 31) ≡ Some 0
exact_sum-flag_false = refl
