-- A wrong outcome by one computed test, and each sentence excludes one of the table. Assumes nothing.
use mathlib.Core.Bool.{Bool, beq, not, true}
use mathlib.Core.List.{[], List, Memᴰ, ◌∷◌}
use mathlib.Core.Logic.{◌≢◌}
use mathlib.Core.Path.{ap, refl, subst, sym, ◌∙◌, ◌≡◌}
use Prim.Native.Nat.{◌<◌, ℕ}
use native.Mathlib.Omega.{arith}
use borrow.Author.Tests.{eq-eqb, eqb-true, ne_eqb}
use lib.Dec.{eqb}
use lib.ListN.{get_or}
use Rattle.arith.proofs.Tests.{each, each_at}
use Rattle.cases.proofs.Reflect.{any_at, any_of, bits}
use Rattle.cases.proofs.Sentences.{tested, tests}
use Rattle.cases.specs.Wrong.{Excluded, found, models, Wrong, wrongs}
use Rattle.history.specs.History.{edits, effect, first_k, links, nodes, others, refusal, Sentence, settled, settles, stale, worked}
use Rattle.history.specs.Model.{no_pairs}

-- ---- the sentences in a row

unfoldable pub sentences : List Sentence
sentences = links ∷ settled ∷ stale ∷ refusal ∷ first_k ∷ worked ∷ settles ∷ others ∷ edits ∷ nodes ∷ []

abbrev number : Sentence → ℕ
number links = 0
number settled = 1
number stale = 2
number refusal = 3
number first_k = 4
number worked = 5
number settles = 6
number others = 7
number edits = 8
number nodes = 9

abbrev sentence : ℕ → Sentence
sentence i = get_or sentences i links

numbered : (x : Sentence) → sentence (number x) ≡ x
unfolding sentences
numbered links = refl
numbered settled = refl
numbered stale = refl
numbered refusal = refl
numbered first_k = refl
numbered worked = refl
numbered settles = refl
numbered others = refl
numbered edits = refl
numbered nodes = refl

number_below : (x : Sentence) → number x < 10
number_below links = omega arith
number_below settled = omega arith
number_below stale = omega arith
number_below refusal = omega arith
number_below first_k = omega arith
number_below worked = omega arith
number_below settles = omega arith
number_below others = omega arith
number_below edits = omega arith
number_below nodes = omega arith

number_apart : (x y : Sentence) → x ≢ y → number x ≢ number y
number_apart x y d e = d (sym (numbered x) ∙ ap sentence e ∙ numbered y)

-- ---- a row

unfoldable pub verdict : Wrong → Sentence → Bool
verdict w x = tested w.posts (found w) (models w.posts no_pairs w.history) w.call (w.wrongly (effect (found w) w.call)) x

-- every sentence is kept but the one of that number
unfoldable pub one_fails : Wrong → Bool
one_fails w = each (λ i. beq (verdict w (sentence i)) (not (eqb i (number w.breaks)))) 10

pub excluded : (w : Wrong) → one_fails w ≡ true → Excluded w
unfolding one_fails verdict
excluded w t = record {
  keeps = λ x d. (tests _ (found w) _ _ (w.wrongly (effect (found w) w.call)) x).holds (judged x ∙ rw (ne_eqb (number x) (number w.breaks) (number_apart x w.breaks d)));
  fails = (tests _ (found w) _ _ (w.wrongly (effect (found w) w.call)) w.breaks).fails (judged w.breaks ∙ rw (eq-eqb (number w.breaks) (number w.breaks) refl));
}
  where
    judged : (x : Sentence) → verdict w x ≡ not (eqb (number x) (number w.breaks))
    judged x = subst (λ y. verdict w y ≡ not (eqb (number x) (number w.breaks))) (numbered x)
        ((bits _ _).holds (each_at (λ i. beq (verdict w (sentence i)) (not (eqb i (number w.breaks)))) 10 (number x) t (number_below x)))

-- ---- the sentences and the table

-- EACH SENTENCE of the demand excludes a wrong outcome of the table.
pub each_excludes : (x : Sentence) → (w : Wrong) × Memᴰ w wrongs × (w.breaks ≡ x)
each_excludes x =
    let broken = each_at (λ i. any_of (λ w. eqb (number w.breaks) i) wrongs) 10 (number x) refl (number_below x) in
    let (w, m, e) = any_at (λ w. eqb (number w.breaks) (number x)) wrongs broken in
    (w, m, sym (numbered w.breaks) ∙ ap sentence (eqb-true _ _ e) ∙ numbered x)
