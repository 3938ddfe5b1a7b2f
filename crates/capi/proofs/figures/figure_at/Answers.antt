-- `capi::figures::figure_at` meets its contract. Assumes nothing.
use mathlib.Core.List.{[]}
use mathlib.Core.Path.{ap, ◌∙◌}
use Prim.Native.Nat.{◌/◌}
use native.Mathlib.Omega.{arith}
use lib.ListN.{get_or, length}
use Rattle.std.specs.Int.{from_le_bytes, w64}
use Rattle.capi.proofs.FigureLaws.{figure_read}
use Rattle.capi.proofs.figures.figure_at.Goals as goal

pub returns : goal.returns
returns c =
    let s = c.args in
    c.from_le_bytes.ensures ∙ ap (λ l. from_le_bytes w64 (get_or l s.p [])) c.as_chunks.ensures.front
    ∙ figure_read s.bytes.now s.p (length s.bytes.now / 8) [] (omega arith)
