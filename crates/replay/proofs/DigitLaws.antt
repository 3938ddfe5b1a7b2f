-- A number of 64 bits has at most 20 decimal digits, so that one with two digits left has room for both. Assumes nothing.
use Rattle.std.proofs.Common.{List, ℕ, arith, drop, length, length-append, length-drop, ◌+◌, ◌++◌, ◌<◌, ◌≡◌, ◌≤◌, ◌^◌, ap, ◌/◌}
use Rattle.std.proofs.lemmas.Fmt.{decimal_nonempty, decimal_step, length-decimal-le}
use Rattle.std.specs.Fmt.{decimal}
use Rattle.replay.specs.Limits.{line_bytes, max_digits}

pub few_digits : (x : ℕ) → x < 2 ^ 64 → length (decimal x) ≤ max_digits
few_digits x h = length-decimal-le 20 x (omega arith) (omega arith) h

two_digits : (x : ℕ) → 10 ≤ x → x < 2 ^ 64 → 2 ≤ length (decimal x)
two_digits x l h =
    let front : 0 < length (decimal (x / 10)) = decimal_nonempty (x / 10) (omega arith) in
    rw decimal_step (omega (arith, length-append {A = ℕ}))

-- the digits that are left and those from a position on are as many as the number has
pub digits_left : (x rest at end : ℕ) (given line : List ℕ) → length given ≡ line_bytes → length line ≡ line_bytes → at < end → end ≤ line_bytes
    → decimal x ++ drop end given ≡ decimal rest ++ drop (at + 1) line → length (decimal x) + at + 1 ≡ length (decimal rest) + end
digits_left x rest at end given line g l before inside e =
    let all : length (decimal x ++ drop end given) ≡ length (decimal rest ++ drop (at + 1) line) = ap length e in
    omega (arith, all, length-append {A = ℕ}, length-drop {A = ℕ})

-- where two are left or more there is a position before it
pub digits_room : (x rest at end : ℕ) → x < 2 ^ 64 → rest < 2 ^ 64 → 10 ≤ rest → max_digits ≤ end → length (decimal x) + at + 1 ≡ length (decimal rest) + end
    → 0 < at
digits_room x rest at end hx hr l room e = omega (arith, few_digits x hx, two_digits rest l hr)
