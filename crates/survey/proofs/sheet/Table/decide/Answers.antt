-- `survey::sheet::Table::decide` meets its contract. Assumes nothing.
use Rattle.std.proofs.Common.{ap, arith, leb, refl, ◌∙◌}
use Rattle.calls.proofs.MadeLaws.{most_pairs}
use Rattle.packed.proofs.PairLaws.{pair_lt}
use Rattle.packed.proofs.WindowLaws.{placed_some}
use Rattle.packed.specs.Bits.{with_bit}
use Rattle.packed.specs.Pairs.{max_nodes}
use Rattle.survey.proofs.PassLaws.{decided, decided_lower, decided_outside}
use Rattle.survey.proofs.sheet.Table.decide.Goals as goal

pub returns-in_default : goal.returns-in_default
returns-in_default c =
    let both = decided_outside _ c.args.self.now.latest c.args.edges.now c.args.r (leb c.args.threshold c.args.r.strength) c.number-p.ensures c.place.ensures c.in_default.is in
    record { links = both.0; numbers = both.1; pairs = refl }

pub returns-then-r-self : goal.returns-then-r-self
returns-then-r-self c =
    let both = decided_lower _ _ c.args.edges.now c.args.r (leb c.args.threshold c.args.r.strength) c.number-p.ensures c.place.ensures c.in-Some.is c.if-r-self.true in
    record { links = both.0; numbers = both.1; pairs = refl }

pub returns : goal.returns
returns c =
    let both = decided _ _ c.args.edges.now c.args.r (leb c.args.threshold c.args.r.strength) c.number-p.ensures c.place.ensures c.in-Some.is c.if-r-self.false in
    let put = c.put.ensures ∙ ap (λ s. with_bit c.args.edges.now c.number-p.result (leb c.args.threshold s)) c.from.ensures in
    record { links = put ∙ both.0; numbers = both.1; pairs = refl }

-- ---- what the steps ask: the place is within the table, and the pair's bit within the edges

pub offset_bounds-self-k : goal.offset_bounds-self-k
offset_bounds-self-k c = omega (arith, (placed_some _ _ c.place.ensures c.in-Some.is).2)

pub bounds-self-k : goal.bounds-self-k
bounds-self-k c = omega (arith, (placed_some _ _ c.place.ensures c.in-Some.is).2)

pub offset_bounds-self-k-2 : goal.offset_bounds-self-k-2
offset_bounds-self-k-2 c = omega (arith, (placed_some _ _ c.place.ensures c.in-Some.is).2)

pub bounds-self-k-2 : goal.bounds-self-k-2
bounds-self-k-2 c = omega (arith, (placed_some _ _ c.place.ensures c.in-Some.is).2)

pub put-requires : goal.put-requires
put-requires c =
    let two = c.requires.0 in
    omega (arith, c.requires.1, c.number-p.ensures, pair_lt _ _ max_nodes two.apart two.first two.second, most_pairs)
