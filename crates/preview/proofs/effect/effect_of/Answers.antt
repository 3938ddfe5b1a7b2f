-- `preview::effect::effect_of` meets its contract. Assumes nothing.
use borrow.Author.Tests.{eq-eqb, ne_eqb}
use Rattle.preview.proofs.EndLaws.{end_fits, end_is, end_worded}
use Rattle.preview.specs.Inside.Effect.{effect_of}
use Rattle.preview.proofs.effect.effect_of.Goals as goal

-- where the node is the first end
pub end_effect-requires : goal.end_effect-requires
end_effect-requires c = let h = c.requires.2.both.first in (h.inside, end_worded h)

pub returns-then-p-a : goal.returns-then-p-a
unfolding effect_of
returns-then-p-a c = (
  λ es n r. rw (eq-eqb c.args.p c.args.a c.if-p-a.true) (end_is r.both.first c.end_effect.ensures),
  end_fits c.requires.2.both.first c.end_effect.ensures,
)

-- the second
pub end_effect-requires-then-p-b : goal.end_effect-requires-then-p-b
end_effect-requires-then-p-b c = let h = c.requires.2.both.second in (h.inside, end_worded h)

pub returns-then-p-b : goal.returns-then-p-b
unfolding effect_of
returns-then-p-b c = (
  λ es n r. rw (ne_eqb c.args.p c.args.a c.if-p-a.false, eq-eqb c.args.p c.args.b c.if-p-b.true) (end_is r.both.second c.end_effect-then-p-b.ensures),
  end_fits c.requires.2.both.second c.end_effect-then-p-b.ensures,
)

-- neither
pub returns : goal.returns
unfolding effect_of
returns c = (
  λ es n r. rw (ne_eqb c.args.p c.args.a c.if-p-a.false, ne_eqb c.args.p c.args.b c.if-p-b.false)
      (c.common_effect.ensures.0 es n c.args.a c.args.b (record { both = r.both; affected = r.affected; shared = r.shared c.if-p-a.false c.if-p-b.false })),
  c.common_effect.ensures.1,
)
