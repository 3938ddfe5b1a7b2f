-- `packed::runs::whole_at` meets its contract. Assumes nothing.
use mathlib.Core.Path.{◌∙◌}
use Rattle.packed.proofs.RunLaws.{chunk_at, run_eight}
use Rattle.packed.proofs.runs.whole_at.Goals as goal

pub returns : goal.returns
returns c =
    let chunk = rw c.unwrap.ensures at c.try_into.ensures.1 in
    c.from_be_bytes.ensures ∙ run_eight c.args.bits.now c.unwrap.result c.args.k (λ i. (c.type_inv.bits i).fits) (chunk_at c.args.bits.now c.args.k 8 chunk.same)
