-- The loop of `topk::next::heads_of`: after b turns the first b heads stand in their places.
use Rattle.std.proofs.Common.{◌≡◌, ◌<◌, ℕ, length}
use Rattle.topk.specs.Inside.Next.{HeadAt, looking_in, max_blocks}
use Rattle.topk.proofs.next.heads_of.Given as goal

abbrev pub invariant-loop-b : goal.invariant-loop-b
invariant-loop-b l = (length l.heads ≡ max_blocks) × ((c : ℕ) → c < l.b → HeadAt (looking_in l.figures l.taken) l.heads c)
