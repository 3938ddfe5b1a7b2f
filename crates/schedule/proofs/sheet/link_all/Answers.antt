-- `schedule::sheet::link_all` meets its contract. The edges have the bits of the records before i. Assumes nothing.
use Rattle.std.proofs.Common.{ap₂, arith, cond, refl, true, ◌∙◌}
use Rattle.packed.specs.Edges.{with_edge}
use Rattle.schedule.proofs.RecordLaws.{sound_at}
use Rattle.schedule.proofs.SheetLaws.{bits_more, bits_none, bits_room}
use Rattle.schedule.specs.Schedule.{open_at}
use Rattle.schedule.proofs.sheet.link_all.Goals as goal

pub loop-i-init : goal.loop-i-init
loop-i-init c = c.requires.1 ∙ bits_none _ _

pub loop-i-preserved : goal.loop-i-preserved
loop-i-preserved c =
    c.link_open.ensures
    ∙ ap₂ (λ r edges. cond (open_at r c.args.minute) (with_edge edges r.a r.b true) edges) c.opening_at.ensures c.loop-i.invariant
    ∙ bits_more _ _ c.loop-i.i (sound_at c.requires.0 (omega (arith, c.count-i-end.ensures)) refl)

pub link_open-requires : goal.link_open-requires
link_open-requires c = (
  sound_at c.requires.0 (omega (arith, c.count-i-end.ensures)) c.opening_at.ensures,
  rw c.loop-i.invariant (bits_room _ _ c.loop-i.i),
)
