-- `script::step::ends_script` meets its contract. Assumes nothing.
use mathlib.Core.Path.{◌∙◌}
use Prim.Native.Nat.{◌-◌}
use native.Mathlib.Omega.{arith}
use borrow.Author.Tests.{le-ltb}
use Rattle.script.proofs.RecordLaws.{ends_more, ends_run, left_room}
use Rattle.script.specs.Limits.{record_bits}
use Rattle.script.proofs.step.ends_script.Goals as goal

pub overflow_add-at : goal.overflow_add-at
overflow_add-at c = omega (arith, left_room c.args.script.now c.args.at c.args.left c.requires.0 c.requires.1)

pub run_of-requires : goal.run_of-requires
run_of-requires c = (omega arith, omega arith, omega (arith, (left_room c.args.script.now c.args.at c.args.left c.requires.0 c.requires.1).1))

pub returns-else-left-lt8 : goal.returns-else-left-lt8
returns-else-left-lt8 c = le-ltb (c.args.left - record_bits) 8 c.if-left-lt8.false ∙ ends_more _ _ c.requires.0 c.if-left-lt8.false

pub returns-then-left-lt8 : goal.returns-then-left-lt8
returns-then-left-lt8 c = ends_run _ _ c.run_of.result c.requires.0 c.requires.1 c.if-left-lt8.true c.run_of.ensures
