-- The first k words are those of the first k nodes.
use Rattle.std.proofs.Common.{cond, get_or, replicate, take}
use Rattle.arith.proofs.Sums.{Filling}
use Rattle.arith.specs.Digits.{bit_of}
use Rattle.arith.specs.Sums.{pack_to}
use Rattle.ego.specs.Inside.Words.{word_count}
use Rattle.packed.specs.Edges.{edge}
use Rattle.preview.proofs.ends.across.Given as goal

abbrev pub invariant-loop-k : goal.invariant-loop-k
invariant-loop-k l =
    Filling (λ m. cond (bit_of l.linked m) 0 (pack_to (λ j. edge l.edges (get_or l.from.near.nodes m 0) (get_or l.to.near.nodes j 0)) l.to.near.count))
    (take l.from.near.count (replicate word_count 0)) l.from.near.count l.word-items l.k
