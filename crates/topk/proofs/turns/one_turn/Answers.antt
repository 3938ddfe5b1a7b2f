-- `topk::turns::one_turn` meets its contract. Assumes nothing.
use Rattle.std.proofs.Common.{refl}
use Rattle.topk.proofs.HoldsLaws.{renewable, turn_none, turn_stop, turn-take}
use Rattle.topk.proofs.turns.one_turn.Goals as goal

pub returns-in_err-p : goal.returns-in_err-p
returns-in_err-p c = rw c.from_residual.ensures (turn_none c.requires c.in_err-p.ensures)

pub returns-then-stops_at : goal.returns-then-stops_at
returns-then-stops_at c = turn_stop c.requires c.in_ok-p.ensures c.stored.ensures c.stops_at.ensures c.if-stops_at.true

pub renewed-requires : goal.renewed-requires
renewed-requires c = renewable c.requires c.in_ok-p.ensures c.stored.ensures c.stops_at.ensures c.worth_of-w.result.figure c.put.ensures

pub returns : goal.returns
returns c =
    turn-take c.requires c.in_ok-p.ensures c.stored.ensures c.stops_at.ensures c.if-stops_at.false c.worth_of-w.ensures refl c.set_mark.ensures
    c.put.ensures c.insert.ensures c.renewed.ensures
