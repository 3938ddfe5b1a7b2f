-- `nearest::search::search` meets its contract. Each level has the nodes that are new after so many hops. Assumes nothing.
use Rattle.std.proofs.Common.{ap, arith, nat_eq, ◌||◌, ◌∙◌, ◌+◌, ◌≡◌, ◌-◌}
use Prim.Native.Nat.{zero-le}
use Rattle.nearest.proofs.SearchLaws.{first_common, first_level, found_at, level_inside, level_new, next_fresh, next_level, none_further, none_within}
use Rattle.nearest.proofs.SetLaws.{set_ext}
use Rattle.nearest.specs.Nearest.{nearest_of}
use Rattle.nearest.proofs.search.search.Goals as goal

pub returns-in-Some : goal.returns-in-Some
returns-in-Some c g n l s =
    let first = first_level s (set_ext c.insert.ensures (λ q b. ap (λ x. x || nat_eq q c.args.p) (c.empty-level.ensures.has q b))) in
    found_at s first.fresh c.args.limit zero-le (first_common c.both.ensures c.in-Some.ensures.0) c.in-Some.ensures.1

pub loop-hops-init : goal.loop-hops-init
loop-hops-init c = (
  zero-le,
  first_common c.both.ensures c.in_default.ensures,
  λ g n l s. first_level s (set_ext c.insert.ensures (λ q b. ap (λ x. x || nat_eq q c.args.p) (c.empty-level.ensures.has q b))),
  zero-le,
)

pub linked_to-requires : goal.linked_to-requires
linked_to-requires c =
    let s = c.requires.3 in
    let level = (c.loop-hops.invariant.2 _ _ _ s).fresh in
    (s.rows_are.table, level.new.narrow, level_inside s level)

pub returns-in-Some-first_of : goal.returns-in-Some-first_of
returns-in-Some-first_of c g n l s =
    let next = next_fresh s (c.loop-hops.invariant.2 g n l s) c.loop-hops.invariant.1 c.linked_to.ensures c.without-next.ensures in
    let hops : c.loop-hops.hops - 1 + 1 ≡ c.loop-hops.hops = omega arith in
    rw hops at
    (found_at s next c.args.limit (omega arith) (first_common c.both-in-loop-hops.ensures c.in-Some-first_of.ensures.0) c.in-Some-first_of.ensures.1)

pub returns-in_err-first_of : goal.returns-in_err-first_of
returns-in_err-first_of c g n l s =
    c.from_residual.ensures
    ∙ none_further s (c.loop-hops.invariant.2 g n l s) c.loop-hops.invariant.1 c.linked_to.ensures c.without-next.ensures c.args.limit c.in_err-first_of.ensures

pub without-next-requires : goal.without-next-requires
without-next-requires c = (c.linked_to.ensures.narrow, (c.loop-hops.invariant.2 _ _ _ c.requires.3).all.narrow)

pub unite-requires : goal.unite-requires
unite-requires c = ((c.loop-hops.invariant.2 _ _ _ c.requires.3).all.narrow, c.without-next.ensures.narrow)

pub loop-hops-preserved : goal.loop-hops-preserved
loop-hops-preserved c = (
  omega arith,
  first_common c.both-in-loop-hops.ensures c.in_default-first_of.ensures,
  λ g n l s.
      let hops : c.loop-hops.hops + 1 - 1 ≡ c.loop-hops.hops - 1 + 1 = omega arith in
      rw hops (next_level s (c.loop-hops.invariant.2 g n l s) c.loop-hops.invariant.1 c.linked_to.ensures c.without-next.ensures c.unite.ensures),
  omega (
    arith,
    c.loop-hops.invariant.3,
    level_new c.loop-hops.reached c.linked_to.result c.without-next.ensures c.unite.ensures c.in_ok-first_of.ensures.0 (λ e. omega (arith, e, c.in_ok-first_of.ensures.1)),
  ),
)

-- no hop is allowed
pub returns-in_default : goal.returns-in_default
returns-in_default c g n l s =
    none_within s (c.loop-hops.invariant.2 g n l s).fresh c.loop-hops.invariant.1 ∙ ap (nearest_of g n c.args.p l) (omega arith)

pub returns-in_ok-first_of : goal.returns-in_ok-first_of
returns-in_ok-first_of c g n l s =
    let next = next_fresh s (c.loop-hops.invariant.2 g n l s) c.loop-hops.invariant.1 c.linked_to.ensures c.without-next.ensures in
    none_within s next (first_common c.both-in-loop-hops.ensures c.in_default-first_of.ensures) ∙ ap (nearest_of g n c.args.p l) (omega arith)
