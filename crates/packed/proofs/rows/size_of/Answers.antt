-- `packed::rows::size_of` meets its contract: the nodes of a set are those of its words. Assumes nothing.
use Rattle.std.proofs.Common.{◌≡◌, ◌*◌, ◌+◌, ◌≤◌, ◌∙◌, ap, arith, List, length, get_or, map, refl, rules, sum, suc, sym, take, tests, zero, ℕ}
use Rattle.std.proofs.lemmas.Iterator.{YieldsList-from_slice, YieldsList-from_map}
use Rattle.std.proofs.lemmas.Iterator.Consumers.{fits_from_yields_list, sum_from_yields_List}
use Rattle.std.proofs.lemmas.List.Sums.{sum-map, sum_by_more}
use native.Mathlib.Numerals.{add-one}
use Rattle.arith.proofs.Sums.{count_to_le, sum_to_none}
use Rattle.arith.specs.Sums.{count_to}
use Rattle.packed.proofs.SetLaws.{size_more}
use Rattle.packed.specs.Inside.Rows.{in_set, in_word}
use Rattle.packed.proofs.rows.size_of.Goals as goal

abbrev size : ℕ → ℕ
size word = count_to (in_word word 0) 32

size_words : (row : List ℕ) (words : ℕ) → words ≤ length row → sum (map size (take words row)) ≡ count_to (in_set row) (32 * words)
size_words row zero h = sym (sum_to_none _)
size_words row (suc k) h =
    ap (λ m. sum (map size (take m row))) (sym (add-one k)) ∙ sum-map size (take (k + 1) row) ∙ sum_by_more size row k 0 h
    ∙ ap (λ x. x + size (get_or row k 0)) (sym (sum-map size (take k row)) ∙ size_words row k (omega arith)) ∙ size_more row k refl refl
    ∙ ap (λ m. count_to (in_set row) (32 * m)) (add-one k)

pub sum-requires-clause-fits : goal.sum-requires-clause-fits
sum-requires-clause-fits c =
    let row = c.args.row in
    let words = c.args.words in
    fits_from_yields_list c.map.result _
    (YieldsList-from_map _ size (YieldsList-from_slice (take words row) cc) c.map.ensures.closure (λ x r q k. search (rules, tests)))
    (omega (arith, size_words row words (omega (arith, c.requires)), count_to_le (in_set row) (32 * words), c.requires))

pub returns : goal.returns
returns c =
    sum_from_yields_List c.map.result _ c.sum.ensures.ran
    (YieldsList-from_map _ size (YieldsList-from_slice (take c.args.words c.args.row) cc) c.map.ensures.closure (λ x r q k. search (rules, tests)))
    ∙ size_words c.args.row c.args.words (omega (arith, c.requires))
