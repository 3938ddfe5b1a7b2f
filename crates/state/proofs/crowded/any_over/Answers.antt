-- `state::crowded::any_over` meets its contract. Assumes nothing.
use Rattle.state.proofs.DegreeLaws.{over_by}
use Rattle.state.proofs.crowded.any_over.Goals as goal

pub returns : goal.returns
returns c = over_by c.args.edges.now c.args.n c.requires.few c.degrees_of-degrees.ensures c.any_among.ensures
