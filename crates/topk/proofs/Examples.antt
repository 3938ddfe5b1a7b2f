-- The definition at work, on honest figures and on false ones. Assumes nothing.
use mathlib.Core.List.{[], ◌∷◌}
use mathlib.Core.Path.{refl, ◌≡◌}
use lib.ListN.{get_or}
use Rattle.arith.specs.Digits.{bit_of, digit, with_digit}
use Rattle.arith.specs.Rank.{before}
use Rattle.packed.specs.Bits.{bit_at, with_bit}
use Rattle.state.specs.Marks.{stale, with_mark}
use Rattle.topk.specs.Entries.{entry, ranks_before, insert, keep, stops}
use Rattle.topk.specs.Steps.{best_below, better, all_steps, step, step_at, steps, took, worth}

-- nodes 0 and 2 are worked out; node 4 says 6, less than the last kept 7
honest : all_steps (λ p. get_or (5 ∷ 9 ∷ 7 ∷ 1 ∷ 6 ∷ []) p 0) 2 (10 ∷ 9 ∷ 8 ∷ 1 ∷ 6 ∷ []) (168 ∷ [])
    ≡ record { figures = 5 ∷ 9 ∷ 7 ∷ 1 ∷ 6 ∷ []; marks = 8 ∷ []; taken = 1 ∷ 1 ∷ 1 ∷ 0 ∷ 0 ∷ []; kept = entry 1 9 ∷ entry 2 7 ∷ []; recomputed = 2 }
unfolding before ranks_before better best_below insert keep stops worth took step_at step steps all_steps stale bit_at bit_of digit with_mark with_bit with_digit
honest = refl

-- node 2 is worth 20 and says 3: it is not reached
false_figures : all_steps (λ p. get_or (5 ∷ 9 ∷ 20 ∷ []) p 0) 1 (6 ∷ 4 ∷ 3 ∷ []) (224 ∷ [])
    ≡ record { figures = 5 ∷ 4 ∷ 3 ∷ []; marks = 96 ∷ []; taken = 1 ∷ 0 ∷ 0 ∷ []; kept = entry 0 5 ∷ []; recomputed = 1 }
unfolding before ranks_before better best_below insert keep stops worth took step_at step steps all_steps stale bit_at bit_of digit with_mark with_bit with_digit
false_figures = refl

-- node 2 comes first and is worth 5; node 1 says no more than that, but its number is lower: it is worked out and listed
tie_lower : all_steps (λ p. get_or (0 ∷ 5 ∷ 5 ∷ []) p 0) 1 (0 ∷ 5 ∷ 9 ∷ []) (224 ∷ [])
    ≡ record { figures = 0 ∷ 5 ∷ 5 ∷ []; marks = 128 ∷ []; taken = 0 ∷ 1 ∷ 1 ∷ []; kept = entry 1 5 ∷ []; recomputed = 2 }
unfolding before ranks_before better best_below insert keep stops worth took step_at step steps all_steps stale bit_at bit_of digit with_mark with_bit with_digit
tie_lower = refl

-- the same with a node 3 that says 5 too: it ranks after node 1 and is not worked out
tie_higher : all_steps (λ p. get_or (0 ∷ 5 ∷ 5 ∷ 4 ∷ []) p 0) 1 (0 ∷ 5 ∷ 9 ∷ 5 ∷ []) (240 ∷ [])
    ≡ record { figures = 0 ∷ 5 ∷ 5 ∷ 5 ∷ []; marks = 144 ∷ []; taken = 0 ∷ 1 ∷ 1 ∷ 0 ∷ []; kept = entry 1 5 ∷ []; recomputed = 2 }
unfolding before ranks_before better best_below insert keep stops worth took step_at step steps all_steps stale bit_at bit_of digit with_mark with_bit with_digit
tie_higher = refl
