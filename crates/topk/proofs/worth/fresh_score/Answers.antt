-- `topk::worth::fresh_score` meets its contract. Assumes nothing.
use Rattle.std.proofs.Common.{◌∙◌, arith}
use Rattle.ego.proofs.FoundLaws.{found_ascending, found_degree, found_of, found_score}
use Rattle.topk.proofs.worth.fresh_score.Goals as goal

pub score_of-requires : goal.score_of-requires
score_of-requires c =
    let a = c.args in
    let found = found_of c.neighbours_of-near.ensures in
    found_ascending found (omega (arith, found_degree found, c.requires.1.few a.p c.requires.0)) c.requires.1.room

pub returns : goal.returns
returns c =
    let a = c.args in
    let found = found_of c.neighbours_of-near.ensures in
    c.score_of.ensures ∙ found_score found (omega (arith, found_degree found, c.requires.1.few a.p c.requires.0))
