-- The last level has no listed node, the levels are those of the hops before, and each reached a new node.
use Rattle.std.proofs.Common.{List, ℕ, ◌&&◌, ◌-◌, ◌≤◌}
use Rattle.arith.specs.Sums.{count_to}
use Rattle.ego.specs.Graph.{Graph}
use Rattle.packed.specs.Inside.Search.{FirstFrom}
use Rattle.nearest.proofs.SearchLaws.{Level}
use Rattle.nearest.specs.Inside.Search.{Searchable}
use Rattle.nearest.specs.Inside.Strips.{in_strips, places}
use Rattle.nearest.proofs.search.search.Given as goal

abbrev pub invariant-loop-hops : goal.invariant-loop-hops
invariant-loop-hops l =
    (l.hops - 1 ≤ l.limit)
    × FirstFrom (λ q. in_strips l.level q && in_strips l.listed q) 0 places places
    × ((g : Graph) (n : ℕ) (ls : List ℕ) (s : Searchable l.rows l.listed l.p g n ls) → Level s l.level l.reached (l.hops - 1))
    × (l.hops - 1 ≤ count_to (in_strips l.reached) places)
