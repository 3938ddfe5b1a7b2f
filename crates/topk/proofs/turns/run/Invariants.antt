-- The loop of `topk::turns::run`: after i turns the buffers and the heads hold the list after i steps.
use Rattle.state.specs.State.{state}
use Rattle.topk.proofs.RunLaws.{after_steps}
use Rattle.topk.specs.Inside.Turns.{Holds}
use Rattle.topk.proofs.turns.run.Given as goal

abbrev pub invariant-loop-i : goal.invariant-loop-i
invariant-loop-i l =
    Holds (after_steps (state l.edges l.initial.figures l.initial.marks) l.k l._i) l.figures l.marks l.taken l.initial.entries l.entries l.turn
