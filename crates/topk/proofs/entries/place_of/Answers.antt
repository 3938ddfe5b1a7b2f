-- `topk::entries::place_of` meets its contract. Assumes nothing.
use Rattle.std.proofs.Common.{rules, ap, take}
use Rattle.std.proofs.lemmas.List.Sorted.{IsPartitionPoint-from_clause}
use Rattle.topk.proofs.PlaceLaws.{passes, rows_parted, rows_place}
use Rattle.topk.proofs.entries.place_of.Goals as goal

pub returns : goal.returns
returns c =
    let a = c.args in
    let p = c.partition_point.ensures in
    let is = ap (take a.kept) c.as_chunks.ensures.front in
    let parted = rows_parted a.e a.kept a.entries.now c.requires.0 c.requires.1 is in
    rows_place a.e a.kept a.entries.now c.requires.0 c.requires.1 is p.bound
    (IsPartitionPoint-from_clause (passes a.e) _ _ p.partitioned parted (λ x r q k. search rules))
