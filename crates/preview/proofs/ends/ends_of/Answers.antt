-- `preview::ends::ends_of` meets its contract. Assumes nothing.
use Rattle.preview.proofs.EndLaws.{crossable, end_turned}
use Rattle.preview.proofs.ends.ends_of.Goals as goal

pub across-requires : goal.across-requires
across-requires c = crossable c.args.edges.now c.requires.0 c.end_of-first.ensures (end_turned c.args.edges.now c.end_of-second.ensures)

pub across-requires-2 : goal.across-requires-2
across-requires-2 c = crossable c.args.edges.now c.requires.0 (end_turned c.args.edges.now c.end_of-second.ensures) c.end_of-first.ensures

pub returns : goal.returns
returns c = record {
  first = c.end_of-first.ensures;
  second = end_turned c.args.edges.now c.end_of-second.ensures;
  forth = c.across.ensures;
  back = c.across-2.ensures;
}
