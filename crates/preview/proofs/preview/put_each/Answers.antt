-- `preview::preview::put_each` meets its contract. Assumes nothing.
use Rattle.std.proofs.Common.{ap, arith, get_or-take, length-take, sym, true, ◌<◌, ◌∙◌, ◌≡◌}
use mir.Facts.{to_z-of_z}
use Rattle.edits.proofs.ListedLaws.{node_below}
use Rattle.packed.specs.Edges.{edge, with_edge}
use Rattle.preview.proofs.EachLaws.{each_more, each_none, ends_affected, reached}
use Rattle.preview.specs.Inside.Effect.{change_by, change_each, effect_of}
use Rattle.preview.proofs.preview.put_each.Goals as goal

pub ends_of-ends-requires : goal.ends_of-ends-requires
ends_of-ends-requires c = ends_affected c.requires.0

pub loop-node-init : goal.loop-node-init
loop-node-init c = sym (each_none _ _ _ _ _ _ _)

-- the node of a turn
pub effect_of-requires : goal.effect_of-requires
effect_of-requires c =
    let t = c.args.touching.now in
    let i = c.loop-node.node-index in
    let h : i < t.count = omega (arith, c.loop-node-test.true, length-take t.count t.nodes) in
    (c.args.edges.now, c.args.n, rw (get_or-take t.count t.nodes i 0 h) (reached c.requires.0 c.ends_of-ends.ensures i h))

-- as many changes as nodes
pub bounds-changes-p : goal.bounds-changes-p
bounds-changes-p c =
    let e = c.requires.0 in
    let t = c.args.touching.now in
    let i = c.loop-node.node-index in
    let h : i < t.count = omega (arith, c.loop-node-test.true, length-take t.count t.nodes) in
    omega (arith, get_or-take t.count t.nodes i 0 h, node_below e.listed e.pair.first_below e.pair.second_below i h)

pub loop-node-preserved : goal.loop-node-preserved
loop-node-preserved c =
    let s = c.args in
    let t = s.touching.now in
    let i = c.loop-node.node-index in
    let g = edge (with_edge s.edges.now s.a s.b true) in
    let h : i < t.count = omega (arith, c.loop-node-test.true, length-take t.count t.nodes) in
    let at = get_or-take t.count t.nodes i 0 h in
    rw (to_z-of_z (record { sfits = c.change_by.type_inv }), at)
    (each_more g s.n s.a s.b s.on t.nodes s.changes.now i c.loop-node.invariant
    (c.change_by.ensures ∙ ap (change_by s.on)
    (c.effect_of.ensures.0 s.edges.now s.n (rw at (reached c.requires.0 c.ends_of-ends.ensures i h)) ∙ ap (effect_of g s.n s.a s.b) at)))

pub returns : goal.returns
returns c =
    let s = c.args in
    let t = s.touching.now in
    let all : c.loop-node.node-index ≡ t.count = omega (arith, length-take t.count t.nodes, c.requires.0.listed.few) in
    c.loop-node.invariant ∙ ap (change_each (edge (with_edge s.edges.now s.a s.b true)) s.n s.a s.b s.on t.nodes s.changes.now) all
