-- `preview::ends::end_of` meets its contract. Assumes nothing.
use mathlib.Core.Bool.{true}
use mathlib.Core.List.{List}
use mathlib.Core.Path.{ap, ◌∙◌, ◌≡◌}
use Prim.Native.Nat.{◌≤◌, ℕ}
use native.Mathlib.Omega.{arith}
use Rattle.edits.proofs.EditLaws.{edge_written}
use Rattle.ego.proofs.FoundLaws.{Found, found_degree, node_place}
use Rattle.ego.specs.Inside.Words.{first_members}
use Rattle.ego.specs.Limits.{limit}
use Rattle.ego.specs.declared.neighbours.Neighbours.{Neighbours}
use Rattle.packed.specs.Edges.{with_edge}
use Rattle.packed.specs.Inside.Rows.{row_of, with_node}
use Rattle.preview.proofs.PresentLaws.{end_found, end_words, linked_ascending, place_found, place_there}
use Rattle.preview.specs.Inside.Ends.{Affected}
use Rattle.preview.proofs.ends.end_of.Goals as goal

-- the neighbours with the edge, and that they are few
found : {es : List ℕ} {n u v : ℕ} → Affected es n u v u → {row with_other : List ℕ} {near : Neighbours}
    → row ≡ row_of es n u → with_other ≡ with_node row v → near ≡ first_members with_other n
    → Found (with_edge es u v true) n u near.nodes near.count
found {es} {n} {u} {v} h e f g = end_found es n u v h.room h.first_below h.second_below h.apart (f ∙ ap (λ row. with_node row v) e) g

few : {es : List ℕ} {n u v : ℕ} → Affected es n u v u → {nodes : List ℕ} {d : ℕ} → Found (with_edge es u v true) n u nodes d → d ≤ limit
few h f = omega (arith, found_degree f, h.few)

pub words_of-requires : goal.words_of-requires
words_of-requires c =
    let s = c.args in
    let h = c.requires in
    let f = found h c.row_of-row.ensures c.insert.ensures c.members-near.ensures in
    linked_ascending s.edges.now s.n s.u s.v h.room h.first_below h.second_below h.apart f (few h f)

pub place_of-requires : goal.place_of-requires
place_of-requires c = few c.requires (found c.requires c.row_of-row.ensures c.insert.ensures c.members-near.ensures)

pub unwrap-requires : goal.unwrap-requires
unwrap-requires c =
    let s = c.args in
    let h = c.requires in
    let f = found h c.row_of-row.ensures c.insert.ensures c.members-near.ensures in
    let written = edge_written s.edges.now s.n s.u s.v h.room h.first_below h.second_below h.apart true in
    place_there c.members-near.result.nodes _ c.place_of.ensures (node_place f (few h f) s.v h.second_below written)

pub returns : goal.returns
returns c =
    let s = c.args in
    let h = c.requires in
    let f = found h c.row_of-row.ensures c.insert.ensures c.members-near.ensures in
    let at = place_found c.members-near.result.nodes c.place_of.ensures c.unwrap.ensures in
    record {
      first = f.first;
      all = f.all;
      few = few h f;
      words = end_words s.edges.now s.n s.u s.v h.room h.first_below h.second_below h.apart f (few h f) c.words_of.ensures;
      inside = at.0;
      other = at.1;
    }
