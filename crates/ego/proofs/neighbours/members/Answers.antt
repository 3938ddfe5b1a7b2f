-- `ego::neighbours::members` meets its contract: the row's nodes, as far as there are places. Assumes nothing.
use Rattle.ego.proofs.FoundLaws.{members_are}
use Rattle.ego.proofs.neighbours.members.Goals as goal

pub returns : goal.returns
returns c =
    members_are c.args.row c.args.n c.words_for.ensures (c.append-count.ensures.nodes_after, c.append-count.ensures.value)
