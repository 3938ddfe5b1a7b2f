-- `topk::entries::insert` meets its contract. Assumes nothing.
use Rattle.std.proofs.Common.{◌≤◌, arith}
use Rattle.topk.proofs.LayoutLaws.{length-entries_of}
use Rattle.topk.proofs.PlaceLaws.{place_le}
use Rattle.topk.proofs.SpliceLaws.{kept_law}
use Rattle.topk.specs.Entries.{entries_of}
use Rattle.topk.specs.Inside.Layout.{place}
use Rattle.topk.proofs.entries.insert.Goals as goal

pub shift_in-requires : goal.shift_in-requires
shift_in-requires c =
    let a = c.args in
    let xs = entries_of a.kept a.entries.now in
    let l : place a.e xs ≤ a.kept = omega (arith, place_le a.e xs, length-entries_of a.kept a.entries.now) in
    (omega arith, omega arith, omega arith)

pub returns : goal.returns
returns c =
    let a = c.args in
    kept_law a.kept a.entries.now a.e (omega arith) a.k c.shift_in.result c.shift_in.new.entries c.shift_in.ensures.0 (cc)
