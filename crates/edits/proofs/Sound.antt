-- The invariant of a history, kept by clear, load, add and remove. Assumes nothing.
use mathlib.Core.Bool.{Bool, false, true}
use mathlib.Core.List.{List}
use mathlib.Core.Path.{refl, subst, sym, ◌∙◌, ◌≡◌}
use Prim.Native.Nat.{◌*◌, ◌<◌, ℕ, ◌≤◌}
use native.Mathlib.Omega.{arith}
use lib.ListN.{length, length-replicate}
use Rattle.arith.proofs.Sums.{length_tabulate}
use Rattle.ego.proofs.Agreement.{Agree, agree_trans, score_agree}
use Rattle.ego.proofs.WithPair.{pair_agree}
use Rattle.ego.specs.Bound.{bound}
use Rattle.ego.specs.Change.{with_pair}
use Rattle.ego.specs.Graph.{Graph}
use Rattle.ego.specs.Score.{score}
use Rattle.packed.proofs.EdgeLaws.{edge_comm}
use Rattle.packed.specs.Edges.{edge}
use Rattle.packed.specs.Pairs.{max_nodes}
use Rattle.edits.proofs.NamedLaws.{Named}
use Rattle.edits.proofs.EditLaws.{edit_pair, edited_edges, edited_graph, edited_marks, edited_size}
use Rattle.edits.proofs.HonestLaws.{added_honest, cleared_graph, cleared_honest, honest_agree, loaded_honest, removed_honest}
use Rattle.state.proofs.MarkLaws.{length-all_exact, length-all_stale}
use Rattle.state.proofs.RefusalLaws.{Fitted, sized_room}
use Rattle.calls.specs.Clear.{cleared}
use Rattle.edits.specs.Edit.{added, edited, removed}
use Rattle.state.specs.Inside.Honest.{Honest}
use Rattle.state.specs.Refusal.{ends, touched}
use Rattle.state.specs.Sizes.{edge_bytes}
use Rattle.calls.specs.Snapshot.{loaded}
use Rattle.state.specs.State.{figure, graph, is_stale, size, State}

-- The state s shows the graph g on n nodes: its lengths fit, and its edges are g's.
pub record Shows (n : ℕ) (g : Graph) (s : State) : Type 0 where
  pub nodes : size s ≡ n
  pub fits : Fitted n (length s.edges) (length s.marks)
  pub links : Agree n (graph s) g

-- It is sound for g if its figures are honest besides.
pub record Sound (n : ℕ) (g : Graph) (s : State) : Type 0 where
  pub shows : Shows n g s
  pub honest : Honest (score (graph s) n) s.figures s.marks

pub shows_agree : {n : ℕ} {g g' : Graph} {s : State} → Agree n g g' → Shows n g s → Shows n g' s
shows_agree e h = record { nodes = h.nodes; fits = h.fits; links = agree_trans h.links e }

pub sound_agree : {n : ℕ} {g g' : Graph} {s : State} → Agree n g g' → Sound n g s → Sound n g' s
sound_agree e h = record { shows = shows_agree e h.shows; honest = h.honest }

-- a graph that a state shows is symmetric below n
pub shows_symmetric : {n : ℕ} {g : Graph} {s : State} → Shows n g s → (a b : ℕ) → a < n → b < n → g a b ≡ g b a
shows_symmetric {s = s} h a b ha hb = sym (h.links a b ha hb) ∙ edge_comm s.edges a b ∙ h.links b a hb ha

module _ {n : ℕ} {g : Graph} {s : State} (h : Sound n g s) (p : ℕ) (hp : p < n) where
  pub sound_score : score (graph s) n p ≡ score g n p
  sound_score = score_agree n p hp h.shows.links

  honest_here : Honest (score g n) s.figures s.marks
  honest_here = honest_agree n (graph s) g s.figures s.marks h.shows.nodes h.shows.links h.honest

  pub sound_settled : is_stale s p ≡ false → figure s p ≡ score g n p
  sound_settled e = honest_here.settled p (omega (arith, h.shows.nodes)) e

  pub sound_above : score g n p ≤ figure s p
  sound_above = honest_here.above p (omega (arith, h.shows.nodes))

-- ---- clear and load

module _ (n : ℕ) (some : 0 < n) (few : n ≤ max_nodes) where
  pub cleared_sound : Sound n (λ a b. false) (cleared n)
  unfolding cleared
  cleared_sound = record {
    shows = record {
      nodes = length-replicate {A = ℕ} n 0;
      fits = record { sizes = record { some = some; few = few; edges_fit = length-replicate {A = ℕ} (edge_bytes n) 0 }; marks_fit = length-all_exact n };
      links = λ a b ha hb. cleared_graph n a b;
    };
    honest = cleared_honest n;
  }

  pub loaded_sound : (edges : List ℕ) → length edges ≡ edge_bytes n → Sound n (edge edges) (loaded n edges)
  unfolding loaded
  loaded_sound edges e = record {
    shows = record {
      nodes = length_tabulate (bound (edge edges) n) n;
      fits = record { sizes = record { some = some; few = few; edges_fit = e }; marks_fit = length-all_stale n };
      links = λ a b ha hb. refl;
    };
    honest = loaded_honest n edges;
  }

-- ---- edits

pub marks_room : {n edges marks : ℕ} → Fitted n edges marks → n ≤ 8 * marks
marks_room f = omega (arith, f.marks_fit)

module _ {g : Graph} {s : State} (a b : ℕ) (h : Shows (size s) g s) (on : Bool) (d : Named (size s) g a b on) where
  edited_shows : (set : Bool) (renewed : ℕ → Bool) → Shows (size s) (with_pair g a b set) (edited s a b set renewed)
  edited_shows set renewed = record {
    nodes = edited_size s a b set renewed;
    fits = rw (edited_edges s a b set renewed, edited_marks s a b set renewed) h.fits;
    links = rw (edited_graph s a b set renewed) (agree_trans {g = with_pair (graph s) a b set}
        (λ x y hx hy. edit_pair s.edges (size s) a b (sized_room h.fits.sizes) d.first d.second d.two set x y) (pair_agree a b set h.links));
  }

  was_here : edge s.edges a b ≡ on
  was_here = h.links a b d.first d.second ∙ d.was

module _ {n : ℕ} {g : Graph} {s : State} (a b : ℕ) where
  pub added_shows : Named n g a b false → Shows n g s → Shows n (with_pair g a b true) (added s a b)
  unfolding added
  added_shows e h =
      subst (λ m. Shows m g s → Named m g a b false → Shows m (with_pair g a b true) (added s a b)) h.nodes
      (λ k d. edited_shows a b k false d true (ends a b)) h e

  pub removed_shows : Named n g a b true → Shows n g s → Shows n (with_pair g a b false) (removed s a b)
  unfolding removed
  removed_shows e h =
      subst (λ m. Shows m g s → Named m g a b true → Shows m (with_pair g a b false) (removed s a b)) h.nodes
      (λ k d. edited_shows a b k true d false (touched (graph s) a b)) h e

  pub added_sound : Named n g a b false → Sound n g s → Sound n (with_pair g a b true) (added s a b)
  added_sound e h = record {
    shows = added_shows e h.shows;
    honest = subst (λ m. Sound m g s → Named m g a b false → Honest (score (graph (added s a b)) m) (added s a b).figures (added s a b).marks)
        h.shows.nodes
        (λ k d. added_honest s a b (sized_room k.shows.fits.sizes) (marks_room k.shows.fits) d.first d.second d.two
        (was_here a b k.shows false d) k.honest) h e;
  }

  pub removed_sound : Named n g a b true → Sound n g s → Sound n (with_pair g a b false) (removed s a b)
  removed_sound e h = record {
    shows = removed_shows e h.shows;
    honest = subst (λ m. Sound m g s → Named m g a b true → Honest (score (graph (removed s a b)) m) (removed s a b).figures (removed s a b).marks)
        h.shows.nodes
        (λ k d. removed_honest s a b (sized_room k.shows.fits.sizes) (marks_room k.shows.fits) d.first d.second d.two
        (was_here a b k.shows true d) k.honest) h e;
  }
