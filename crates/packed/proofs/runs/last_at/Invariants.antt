-- `packed::runs::last_at` meets its contract: after m turns the word is the run of m bytes. Assumes nothing.
use mathlib.Core.Path.{◌≡◌}
use Prim.Native.Nat.{◌*◌}
use Rattle.packed.specs.Bits.{run_of}
use Rattle.packed.proofs.runs.last_at.Given as goal

abbrev pub invariant-loop-m : goal.invariant-loop-m
invariant-loop-m l = l.word ≡ run_of l.bits (8 * l.k) (8 * l.m)
