-- `packed::runs::last_at` meets its contract. Assumes nothing.
use mathlib.Core.Path.{ap, sym, ◌∙◌, ◌≡◌}
use Prim.Native.Nat.{◌*◌}
use native.Mathlib.Omega.{arith}
use Rattle.packed.proofs.RunLaws.{run_none, run-or}
use Rattle.packed.specs.Bits.{run_of}
use Rattle.packed.proofs.runs.last_at.Goals as goal

pub loop-m-init : goal.loop-m-init
loop-m-init c = sym (run_none _ _)

pub loop-m-preserved : goal.loop-m-preserved
loop-m-preserved c =
    run-or c.args.bits.now c.args.k c.loop-m.m 1 (omega arith) c.loop-m.invariant c.byte_at.ensures

pub returns : goal.returns
returns c =
    let e : c.loop-m.m ≡ 8 = omega arith in
    c.loop-m.invariant ∙ ap (λ m. run_of c.args.bits.now (8 * c.args.k) (8 * m)) e
