-- A small survey, worked out by the definitions. Assumes nothing.
use mathlib.Core.Bool.{Bool, false, true}
use mathlib.Core.List.{List, [], ◌∷◌}
use mathlib.Core.Path.{refl, ◌≡◌}
use Prim.Native.Nat.{ℕ}
use Rattle.arith.specs.Digits.{bit_of, digit}
use Rattle.arith.specs.Sums.{any_to, tabulate}
use Rattle.packed.specs.Bits.{bit_at, word_of}
use Rattle.packed.specs.Pairs.{same_pair}
use Rattle.state.specs.Answers.{At, Found, Nowhere, Refused}
use Rattle.state.specs.Refusal.{node_count, node_number, pair_conditions, part_record, refusal, same_nodes}
use Rattle.survey.specs.Position.{position_call, position_of}
use Rattle.survey.specs.Survey.{counts, is_for, linked_from, measurement_at, pairs_to, supersedes}

-- survey 2 of posts 0 and 1 at 100, and once more, as 1 and 0, at 50; survey 1 of the same at 200; survey 300 of 2 and 3 at 7, then survey 44 at 90
abbrev small : List ℕ
small = 0 ∷ 1 ∷ 0 ∷ 2 ∷ 100 ∷ 1 ∷ 0 ∷ 0 ∷ 2 ∷ 50 ∷ 0 ∷ 1 ∷ 0 ∷ 1 ∷ 200 ∷ 2 ∷ 3 ∷ 1 ∷ 44 ∷ 7 ∷ 3 ∷ 2 ∷ 0 ∷ 44 ∷ 90 ∷ []

-- the later of equal numbers, and the highest number though its low byte is no higher; none; 5 of the pair asked about, 4 of it and of a record; 14 of a part
abbrev asked : List (Found ℕ)
asked =
    position_call small 4 0 1 ∷ position_call small 4 1 0 ∷ position_call small 4 2 3 ∷ position_call small 4 0 2 ∷ position_call small 4 2 2
    ∷ position_call small 4 4 4 ∷ position_call small 3 1 1 ∷ position_call (9 ∷ small) 4 0 1 ∷ position_call [] 4 0 1 ∷ []

pub small_asked : asked ≡ (At 1 ∷ At 1 ∷ At 3 ∷ Nowhere ∷ Refused 5 ∷ Refused 4 ∷ Refused 4 ∷ Refused 14 ∷ Nowhere ∷ [])
unfolding any_to bit_at bit_of counts digit is_for measurement_at node_count node_number pair_conditions pairs_to part_record position_call position_of refusal same_nodes same_pair supersedes tabulate word_of
small_asked = refl

-- the strength that counts is reached, and no more; a pair with no record is unlinked at 0
abbrev linked : List Bool
linked =
    linked_from small 50 0 1 ∷ linked_from small 51 0 1 ∷ linked_from small 7 3 2 ∷ linked_from small 8 3 2 ∷ linked_from small 0 0 1 ∷ linked_from small 0 0 2
    ∷ linked_from small 256 0 1 ∷ []

pub small_linked : linked ≡ (true ∷ false ∷ true ∷ false ∷ true ∷ false ∷ false ∷ [])
unfolding any_to bit_at bit_of counts digit is_for linked_from measurement_at same_pair supersedes word_of
small_linked = refl
