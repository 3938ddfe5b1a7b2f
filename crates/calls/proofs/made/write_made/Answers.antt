-- `calls::made::write_made` meets its contract. Assumes nothing.
use mathlib.Core.Bool.{Bool}
use mathlib.Core.List.{List}
use mathlib.Core.Path.{ap, sym, ◌∙◌, ◌≡◌}
use Prim.Native.Nat.{◌-◌, ℕ}
use lib.ListN.{drop, length, take}
use Rattle.packed.specs.Edges.{edge}
use Rattle.state.specs.Refusal.{everyone, snapshot_edges, too_many}
use Rattle.calls.proofs.MadeLaws.{made_crowded, made_written}
use Rattle.calls.proofs.SnapshotLaws.{part_is}
use Rattle.calls.specs.Snapshot.{written}
use Rattle.calls.proofs.made.write_made.Goals as goal

-- the edges are the part after the first byte
over : (made : List ℕ) (n : ℕ) {r : Bool} → r ≡ too_many (edge (take (length made - 1) (drop 1 made))) n everyone
    → r ≡ too_many (edge (snapshot_edges made)) n everyone
over made n e = e ∙ ap (λ l. too_many (edge l) n everyone) (part_is made)

pub returns-then-any_over : goal.returns-then-any_over
returns-then-any_over c = made_crowded _ _ _ (sym (over c.args.made.now c.args.n c.any_over.ensures) ∙ c.if-any_over.true)

pub returns : goal.returns
returns c =
    ap (λ l. written 0 l) c.copy_from_slice.ensures.after ∙ made_written _ _ _ (sym (over c.args.made.now c.args.n c.any_over.ensures) ∙ c.if-any_over.false)
