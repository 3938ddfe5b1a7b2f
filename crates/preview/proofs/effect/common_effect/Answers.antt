-- `preview::effect::common_effect` meets its contract. Assumes nothing.
use Rattle.std.proofs.Common.{ap, arith, ◌∙◌}
use Rattle.preview.proofs.EndLaws.{crossed, falls_are, falls_fit, first_there, second_there}
use Rattle.preview.proofs.PresentLaws.{place_found}
use Rattle.preview.specs.Inside.Effect.{common_effect}
use Rattle.preview.specs.declared.effect.Effect.{Effect}
use Rattle.preview.proofs.effect.common_effect.Goals as goal

-- it is a neighbour of both ends
pub unwrap-i-requires : goal.unwrap-i-requires
unwrap-i-requires c = first_there c.requires.4 _ c.place_of.ensures

pub unwrap-j-requires : goal.unwrap-j-requires
unwrap-j-requires c = second_there c.requires.4 _ c.place_of-2.ensures

-- the tables have what is asked for
pub common_falls-requires : goal.common_falls-requires
common_falls-requires c =
    crossed c.requires.4 (place_found c.args.ends.now.first.near.nodes c.place_of.ensures c.unwrap-i.ensures)
    (place_found c.args.ends.now.second.near.nodes c.place_of-2.ensures c.unwrap-j.ensures)

pub returns : goal.returns
unfolding common_effect
returns c =
    let at = place_found c.args.ends.now.first.near.nodes c.place_of.ensures c.unwrap-i.ensures in
    let at' = place_found c.args.ends.now.second.near.nodes c.place_of-2.ensures c.unwrap-j.ensures in (
      λ es n a b m. ap {B = Effect} (λ x. record { brings = 0; costs = x }) (c.common_falls.ensures ∙ falls_are m at at'),
      (omega arith, rw c.common_falls.ensures (falls_fit c.args.ends.now (crossed c.requires.4 at at'))),
    )
