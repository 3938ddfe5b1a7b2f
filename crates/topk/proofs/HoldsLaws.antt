-- Buffers that hold a list: the list is what lies in them, and one turn more. Assumes nothing.
use mathlib.Core.Bool.{Bool, false, true}
use mathlib.Core.List.{◌++◌, List}
use mathlib.Core.Path.{ap, ap₂, refl, subst, sym, ◌∙◌, ◌≡◌}
use Prim.Native.Nat.{◌+◌, ◌-◌, ◌/◌, ◌<◌, ℕ, ◌≤◌}
use native.Mathlib.Omega.{arith}
use Rattle.std.specs.Prelude.{None, Option, Some}
use lib.ListN.{drop, get_or, length, length-set, set}
use lib.Seq.{drop-append-add, drop-drop}
use Rattle.packed.proofs.BitLaws.{length_with_bit}
use Rattle.packed.specs.Bits.{with_bit}
use Rattle.state.specs.Marks.{with_mark}
use Rattle.topk.proofs.HeadLaws.{heads_took, next_named}
use Rattle.topk.proofs.LayoutLaws.{entries_of_flat, length_flat}
use Rattle.topk.proofs.NextLaws.{best_looking}
use Rattle.topk.proofs.TakenLaws.{taken_put}
use Rattle.topk.proofs.TurnLaws.{grows, step_none, step_stop, step-take}
use Rattle.topk.specs.Entries.{entries_of, Entry, entry, flat, keep, over, stops}
use Rattle.topk.specs.Inside.Layout.{Kept}
use Rattle.topk.specs.Steps.{Progress, step, stored, took, worth}
use Rattle.topk.specs.Inside.Turns.{Done, Gone, Holds, progress_of, truth_of, TurnFits, worth_of}
use Rattle.topk.specs.Inside.Next.{best_head, Found, blocks_for, block_size, HeadsAre, HeadsBut, Lookable, looking, looking_in, next, node_of, stopped, taken_of}
use Rattle.topk.specs.declared.turns.Turn.{Turn}
use Rattle.topk.specs.declared.worth.Worth.{Worth}

-- what lies in the buffers is the list
pub progress_is : (s : Progress) (F M S E₀ E : List ℕ) (t : Turn) → Holds s F M S E₀ E t → progress_of F M S E t ≡ s
progress_is s F M S E₀ E t h =
    let k : entries_of t.kept E ≡ s.kept = rw (h.kept_is, h.entries_are) (entries_of_flat s.kept (drop (length (flat s.kept)) E₀)) in
    λ i. record { figures = h.figures_are i; marks = h.marks_are i; taken = h.taken_are i; kept = k i; recomputed = h.recomputed_is i }

drop_past : (xs : List Entry) (n : ℕ) (E : List ℕ) → length (flat xs) ≤ n → drop n (over xs E) ≡ drop n E
drop_past xs n E h =
    let a = length (flat xs) in
    let e : n ≡ a + (n - a) = omega arith in
    ap (λ (m : ℕ). drop m (over xs E)) e
    ∙ drop-append-add (flat xs) (drop a E) (n - a)
    ∙ drop-drop (n - a) a E
    ∙ ap (λ (m : ℕ). drop m E) (sym e)

-- one turn more
pub holds_next : (T : ℕ → ℕ) (k : ℕ) (s : Progress) (F M S E₀ E : List ℕ) (t : Turn) (F' M' S' E' : List ℕ) (t' : Turn) → length s.kept ≤ k
    → Holds s F M S E₀ E t → Holds (step T k (progress_of F M S E t)) F' M' S' E E' t' → Holds (step T k s) F' M' S' E₀ E' t'
holds_next T k s F M S E₀ E t F' M' S' E' t' l h h' =
    let q = subst (λ (z : Progress). Holds (step T k z) F' M' S' E E' t') (progress_is s F M S E₀ E t h) h' in
    let xs = (step T k s).kept in
    let n = length (flat xs) in
    let d : drop n E ≡ drop n E₀ =
    ap (drop n) h.entries_are ∙ drop_past s.kept n E₀ (omega (arith, length_flat s.kept, length_flat xs, (grows T k s l).more)) in
    record {
      figures_are = q.figures_are;
      marks_are = q.marks_are;
      taken_are = q.taken_are;
      entries_are = q.entries_are ∙ ap (λ (z : List ℕ). flat xs ++ z) d;
      heads_are = q.heads_are;
      kept_is = q.kept_is;
      recomputed_is = q.recomputed_is;
    }

-- ---- one turn, by what the code finds: what is next, and whether it stops the list
module _ {edges F M S E : List ℕ} {k : ℕ} {t : Turn} (fits : TurnFits F edges M S E k t) where
  abbrev T : ℕ → ℕ
  T = truth_of edges F

  abbrev s : Progress
  s = progress_of F M S E t

  -- what the code finds next
  abbrev IsFound : Option ℕ → Type 0
  IsFound = Found (length F) (best_head F t.heads (blocks_for (length F)))

  is_next : {p : Option ℕ} → IsFound p → next s ≡ node_of p
  unfolding next
  is_next found = sym (best_looking s (length F)) ∙ sym (next_named F (taken_of (length F) S) t.heads fits.heads_are found)

  -- it is done
  done : stopped k s ≡ true → Done k s F M S E E
  done q = record { stops = q; figures_are = refl; marks_are = refl; taken_are = refl; entries_are = refl }

  pub turn_none : IsFound None → Done k s F M S E E
  turn_none found = done (sym (step_none T k s (is_next found)).0)

  -- the node that is found, with its figure
  module _ {p : ℕ} (found : IsFound (Some p)) {x : Entry} (is : x ≡ entry p (get_or F p 0)) {stop : Bool} (u : stop ≡ stops k x (entries_of t.kept E)) where
    stops_is : stops k (stored s p) s.kept ≡ stop
    stops_is = sym (u ∙ ap (λ (e : Entry). stops k e (entries_of t.kept E)) is)

    pub turn_stop : stop ≡ true → Done k s F M S E E
    turn_stop e = done (sym (step_stop T k s p (is_next found) (stops_is ∙ e)).0)

    -- what is taken then, by the bits
    taken_now : (w : ℕ) {S' : List ℕ} → S' ≡ with_bit S p true → taken_of (length (set F p w)) S' ≡ set (taken_of (length F) S) p 1
    taken_now w bits = ap₂ taken_of (length-set F p w) bits ∙ taken_put (length F) S p found.within fits.lookable.bits

    -- the block's head can be renewed: the heads of the other blocks still stand
    pub renewable : (w : ℕ) {S' : List ℕ} → S' ≡ with_bit S p true
        → (p < length (set F p w)) × Lookable (set F p w) S' × HeadsBut (looking_in (set F p w) S') t.heads (p / block_size)
    renewable w {S'} bits =
        let n = length-set F p w in
        let long : length S' ≡ length S = ap length bits ∙ length_with_bit S p true in (
          omega (arith, n, found.within),
          record { few = omega (arith, n, fits.lookable.few); bits = omega (arith, n, fits.lookable.bits) },
          subst (λ (z : List ℕ). HeadsBut (looking (set F p w) z) t.heads (p / block_size)) (sym (taken_now w bits))
              (heads_took F (taken_of (length F) S) t.heads p w fits.heads_are),
        )

    -- a node is taken: its figure stored, its mark and its bit put, its entry kept, its block's head renewed
    pub turn-take : stop ≡ false → {w : Worth} → w ≡ worth_of edges F M p t.recomputed → {M' S' E' : List ℕ} {t' : Turn} → t'.recomputed ≡ w.recomputed
        → M' ≡ with_mark M p false → S' ≡ with_bit S p true → Kept (keep k (entry p w.figure) (entries_of t.kept E)) E E' t'.kept
        → HeadsAre (looking_in (set F p w.figure) S') t'.heads → Gone T k s t' (set F p w.figure) M' S' E E'
    unfolding took worth
    turn-take e {w} v {M'} {S'} {E'} {t'} more marks bits kept heads =
        let q = step-take T k s p (is_next found) (stops_is ∙ e) in
        let g = subst (λ (x : Worth). Kept (keep k (entry p x.figure) (entries_of t.kept E)) E E' t'.kept) v kept in
        record {
          goes = sym q.0;
          holds = rw q.1 (record {
            figures_are = ap (λ (x : Worth). set F p x.figure) v;
            marks_are = marks;
            taken_are = taken_now w.figure bits;
            entries_are = g.entries;
            heads_are = heads;
            kept_is = g.count;
            recomputed_is = more ∙ ap (λ (x : Worth). x.recomputed) v;
          });
        }
