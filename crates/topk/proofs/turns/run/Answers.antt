-- `topk::turns::run` meets its contract. Assumes nothing.
use Rattle.std.proofs.Common.{◌≡◌, ℕ, length, ap, subst, sym, arith, ◌∙◌}
use lib.ListN.{length-replicate}
use Rattle.ego.specs.Score.{score}
use Rattle.state.specs.Sizes.{scratch_bytes}
use Rattle.state.specs.State.{graph, size, state}
use Rattle.topk.proofs.RunLaws.{run_ends, run_goes, run_ordered, run_starts, run_stops}
use Rattle.topk.proofs.TurnLaws.{counts}
use Rattle.topk.specs.Inside.Turns.{Scorable}
use Rattle.topk.proofs.turns.run.Goals as goal

pub loop-i-init : goal.loop-i-init
loop-i-init c =
    let a = c.args in
    run_starts (state a.edges.now a.figures.now a.marks.now) a.k c.requires.1 c.heads_of.ensures

pub one_turn-requires : goal.one_turn-requires
one_turn-requires c =
    let a = c.args in
    let s = state a.edges.now a.figures.now a.marks.now in
    let l = c.loop-i in
    let long : length a.taken.now ≡ scratch_bytes (size s) = ap length c.requires.1 ∙ length-replicate (scratch_bytes (size s)) 0 in
    let n = counts (score (graph s) (size s)) a.k a.figures.now a.marks.now l._i in
    record {
      list = record {
        workable = record {
          scorable = subst (λ (m : ℕ). Scorable m a.edges.now) (sym l.auto.figures) c.requires.0.workable.scorable;
          marks_fit = omega (arith, c.requires.0.workable.marks_fit);
        };
        entries_fit = omega (arith, c.requires.0.entries_fit);
        some = c.requires.0.some;
      };
      lookable = record { few = omega (arith, c.requires.0.workable.scorable.room.few); bits = omega (arith, long) };
      heads_are = l.invariant.heads_are;
      fit = omega (arith, n.0, l.invariant.kept_is);
      less = omega (arith, n.1, l.invariant.recomputed_is);
      ordered = run_ordered s a.k (omega arith) l.invariant;
    }

pub returns-in_default : goal.returns-in_default
returns-in_default c =
    let a = c.args in
    run_stops (state a.edges.now a.figures.now a.marks.now) a.k (omega arith) c.loop-i.invariant c.loop-i.auto.figures c.in_default.ensures

pub loop-i-preserved : goal.loop-i-preserved
loop-i-preserved c =
    let a = c.args in
    run_goes (state a.edges.now a.figures.now a.marks.now) a.k (omega arith) c.loop-i.invariant c.loop-i.auto.figures c.in-Some.ensures

pub returns : goal.returns
returns c =
    let a = c.args in
    run_ends (state a.edges.now a.figures.now a.marks.now) a.k (omega arith) c.loop-i.invariant (omega arith)
