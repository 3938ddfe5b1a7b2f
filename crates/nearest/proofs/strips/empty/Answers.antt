-- `nearest::strips::empty` meets its contract: no word has a bit. Assumes nothing.
use mathlib.Core.Bool.{false}
use lib.Dec.{lit<}
use Rattle.arith.specs.Sums.{tabulate}
use Rattle.nearest.proofs.SetLaws.{set_made}
use Rattle.nearest.proofs.StripLaws.{word_none}
use Rattle.nearest.proofs.strips.empty.Goals as goal

pub returns : goal.returns
unfolding tabulate
returns c = set_made (λ k. 0) (λ q. false) (λ k. lit< tt) (λ q h. word_none q)
