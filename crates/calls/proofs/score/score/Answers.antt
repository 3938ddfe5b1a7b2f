-- `calls::score::score` meets its contract. Assumes nothing.
use Rattle.std.proofs.Common.{refl, ap₂, ◌∙◌, arith}
use Rattle.ego.proofs.FoundLaws.{found_ascending, found_degree, found_of, found_score}
use Rattle.state.proofs.AnswerLaws.{number_some, passed_on, value_refused}
use Rattle.state.proofs.RefusalLaws.{sized_by, sized_room}
use Rattle.calls.proofs.ScoreLaws.{score_accepted, score_crowded, score_node, score_sizes}
use Rattle.calls.specs.Score.{scored}
use Rattle.calls.proofs.score.score.Goals as goal

pub returns-in_err-check_edges : goal.returns-in_err-check_edges
returns-in_err-check_edges c =
    let handed = c.from_residual.ensures.1 in
    ap₂ scored (passed_on _ _ handed) (value_refused _ _ handed)
    ∙ score_sizes c.args.edges.now c.args.n c.args.p c.in_err-check_edges.ensures (number_some _)

pub returns-then-n-p : goal.returns-then-n-p
returns-then-n-p c = score_node c.args.edges.now c.args.n c.args.p (sized_by c.in_ok-check_edges.ensures refl) c.if-n-p.true

pub neighbours_of-near-requires : goal.neighbours_of-near-requires
neighbours_of-near-requires c = (c.if-n-p.false, sized_room (sized_by c.in_ok-check_edges.ensures refl))

pub returns-then-near-gt-LIMIT : goal.returns-then-near-gt-LIMIT
returns-then-near-gt-LIMIT c =
    score_crowded c.args.edges.now c.args.n c.args.p (sized_by c.in_ok-check_edges.ensures refl) c.if-n-p.false
    (omega (arith, found_degree (found_of c.neighbours_of-near.ensures)))

pub score_of-requires : goal.score_of-requires
score_of-requires c =
    found_ascending (found_of c.neighbours_of-near.ensures) c.if-near-gt-LIMIT.false (sized_room (sized_by c.in_ok-check_edges.ensures refl))

pub returns : goal.returns
returns c =
    let found = found_of c.neighbours_of-near.ensures in
    score_accepted c.args.edges.now c.args.n c.args.p (sized_by c.in_ok-check_edges.ensures refl) c.if-n-p.false (omega (arith, found_degree found))
    (c.score_of.ensures ∙ found_score found c.if-near-gt-LIMIT.false)
