-- DEMAND 3, proved: every history keeps what it promises. Assumes nothing.
use mathlib.Core.Bool.{true, true≢false}
use mathlib.Core.List.{[], List, ◌∷◌}
use mathlib.Core.Path.{subst, sym, ◌∙◌, ◌≡◌}
use Prim.Native.Nat.{ℕ}
use Rattle.ego.specs.Graph.{Graph}
use Rattle.history.proofs.ListStep.{list_first, list_others, list_settles, list_worked}
use Rattle.history.proofs.Steps.{add_answer, add_sound, add_untouched, clear_answer, clear_fits, clear_sound, list_answer, list_sound, load_answer, load_at_answer, load_at_fits, load_at_sound, load_fits, load_sound, pinned_answer, pinned_stays, reconcile_answer, reconcile_sound, remove_answer, remove_sound, remove_untouched}
use Rattle.history.specs.History.{state_after, answer, Demand3, edits, effect, first_k, links, nodes, others, Promise, Promises, refusal, Says, Sentence, settled, settles, stale, starts, worked}
use Rattle.history.specs.Model.{add, Call, clear, list, load, load_at, model, model_refusal, no_pairs, reconcile, reconcile_pinned, remove}
use Rattle.edits.proofs.Sound.{Sound, sound_above, sound_settled}
use Rattle.state.specs.State.{size, State}

-- a call keeps its promise, and the invariant with it
abbrev Stands : ℕ → State → Graph → Call → Type 0
Stands n s g call = Sound n (model n g call) (state_after s call) × Promise n s g call (effect s call)

module _ (s : State) (g : Graph) (call : Call) (h : Sound (size s) (model (size s) g call) (state_after s call))
    (r : answer s call ≡ model_refusal (size s) g call) where
  abbrev Said : Sentence → Type 0
  Said x = Says (size s) s g call (effect s call) x

  -- what is said of a list and of an edit is left to them
  promise : Said first_k → Said worked → Said settles → Said others → Said edits → (x : Sentence) → Said x
  promise f w t o e links = h.shows.links
  promise f w t o e settled = λ p l m. sound_settled h p l m
  promise f w t o e stale = λ p l m. sound_above h p l
  promise f w t o e refusal = r
  promise f w t o e first_k = f
  promise f w t o e worked = w
  promise f w t o e settles = t
  promise f w t o e others = o
  promise f w t o e edits = e
  promise f w t o e nodes = h.shows.nodes

-- a call on a sound state
step : (s : State) (g : Graph) (call : Call) → Sound (size s) g s → Stands (size s) s g call
step s g clear h = let i = clear_sound s g h.shows.fits in (i, promise s g clear i (clear_answer s g h.shows.fits) tt tt tt tt tt)
step s g (load snapshot) h =
    let i = load_sound s g h.shows.fits snapshot (λ d. h) in
    (i, promise s g (load snapshot) i (load_answer s g h.shows.fits snapshot) tt tt tt tt tt)
step s g (load_at schedule t) h =
    let i = load_at_sound s g h.shows.fits schedule t (λ d. h) in
    (i, promise s g (load_at schedule t) i (load_at_answer s g h.shows.fits schedule t) tt tt tt tt tt)
step s g (add a b) h = let i = add_sound s g h a b in (i, promise s g (add a b) i (add_answer s g h a b) tt tt tt tt (add_untouched s g h a b))
step s g (remove a b) h = let i = remove_sound s g h a b in (i, promise s g (remove a b) i (remove_answer s g h a b) tt tt tt tt (remove_untouched s g h a b))
step s g (reconcile theirs base) h =
    let i = reconcile_sound s g h theirs base in
    (i, promise s g (reconcile theirs base) i (reconcile_answer s g h theirs base) tt tt tt tt tt)
step s g (reconcile_pinned brought) h =
    let i = pinned_stays s g h brought in
    (i, promise s g (reconcile_pinned brought) i (pinned_answer s g h brought) tt tt tt tt tt)
step s g (list entries scratch) h =
    let i = list_sound s g h entries scratch in (
      i,
      promise s g (list entries scratch) i (list_answer s g h entries scratch)
          (list_first s g h entries scratch) (list_worked s g h entries scratch) (list_settles s g h entries scratch) (list_others s g h entries scratch) tt,
    )

-- the first call, which may find anything in the state
begin : (s : State) (first : Call) → starts first ≡ true → answer s first ≡ 0 → Stands (size s) s no_pairs first
begin s clear e z =
    let f = clear_fits s z in
    let i = clear_sound s no_pairs f in
    (i, promise s no_pairs clear i (clear_answer s no_pairs f) tt tt tt tt tt)
begin s (load snapshot) e z =
    let f = load_fits s snapshot z in
    let r = load_answer s no_pairs f snapshot in
    let i = load_sound s no_pairs f snapshot (λ d. absurd (d (sym r ∙ z))) in
    (i, promise s no_pairs (load snapshot) i r tt tt tt tt tt)
begin s (load_at schedule t) e z =
    let f = load_at_fits s schedule t z in
    let r = load_at_answer s no_pairs f schedule t in
    let i = load_at_sound s no_pairs f schedule t (λ d. absurd (d (sym r ∙ z))) in
    (i, promise s no_pairs (load_at schedule t) i r tt tt tt tt tt)
begin s (add a b) e z = absurd (true≢false (sym e))
begin s (remove a b) e z = absurd (true≢false (sym e))
begin s (reconcile theirs base) e z = absurd (true≢false (sym e))
begin s (reconcile_pinned brought) e z = absurd (true≢false (sym e))
begin s (list entries scratch) e z = absurd (true≢false (sym e))

-- every call after it; a sound state has n nodes
promises : (n : ℕ) (s : State) (g : Graph) (calls : List Call) → Sound n g s → Promises n s g calls
promises n s g [] h = tt
promises n s g (call ∷ calls) h =
    let r = subst (λ m. Sound m g s → Stands m s g call) h.shows.nodes (step s g call) h in
    (r.1, promises n (state_after s call) (model n g call) calls r.0)

-- DEMAND 3
pub demand3 : Demand3
demand3 s first calls e z =
    let r = begin s first e z in
    (r.1, promises (size s) (state_after s first) (model (size s) no_pairs first) calls r.0)
