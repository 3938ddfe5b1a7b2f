-- `state::crowded::strip_over` meets its contract. Assumes nothing.
use Rattle.std.proofs.Common.{◌≡◌, ◌*◌, ◌+◌, ◌-◌, min, ltb, ap, ◌∙◌, arith}
use Rattle.arith.specs.Sums.{any_to}
use Rattle.ego.specs.Graph.{degree}
use Rattle.ego.specs.Limits.{limit}
use Rattle.packed.specs.Edges.{edge}
use Rattle.packed.specs.Inside.Runs.{max_run}
use Rattle.state.proofs.DegreeLaws.{strip_by}
use Rattle.state.proofs.crowded.strip_over.Goals as goal

pub returns : goal.returns
returns c =
    let a = c.args in
    let m : c.min.result ≡ min (a.n - max_run * a.k) max_run = omega (arith, c.min.ensures) in
    strip_by a.edges.now (max_run * a.k) max_run a.n c.strip_of-degrees.ensures c.min.result (omega (arith, m)) (omega (arith, m, c.requires.1)) c.any_among.ensures
    ∙ ap (any_to (λ j. ltb limit (degree (edge a.edges.now) a.n (max_run * a.k + j)))) m
