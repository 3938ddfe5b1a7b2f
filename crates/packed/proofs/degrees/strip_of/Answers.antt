-- `packed::degrees::strip_of` meets its contract. Assumes nothing.
use mathlib.Core.Path.{refl}
use native.Mathlib.Omega.{arith}
use Rattle.packed.proofs.PairLaws.{room_mono}
use Rattle.packed.proofs.degrees.strip_of.Goals as goal

pub count_rows-requires : goal.count_rows-requires
count_rows-requires c =
    (room_mono (omega (arith, c.min.ensures)) c.requires.0, omega (arith, c.min.ensures, c.requires.1), omega (arith, c.min.ensures), refl)
