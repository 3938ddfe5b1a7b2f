-- `replay::lines::put_number` meets its contract.
use Rattle.std.proofs.Common.{List, ap, append_assoc, arith, drop, length, rules, sym, ℕ, ◌%◌, ◌+◌, ◌++◌, ◌-◌, ◌/◌, ◌<◌, ◌∷◌, ◌∙◌, [], ◌≡◌, ◌≤◌}
use Rattle.std.proofs.Math.ListN.{set}
use Rattle.std.proofs.lemmas.Fmt.{decimal_digit, decimal_step}
use Rattle.std.proofs.lemmas.Grind.{drop-set_at}
use Rattle.std.specs.Fmt.{decimal}
use Rattle.replay.proofs.DigitLaws.{digits_left, digits_room, few_digits}
use Rattle.replay.proofs.lines.put_number.Goals as goal

pub overflow_sub-at-in-loop-rest : goal.overflow_sub-at-in-loop-rest
overflow_sub-at-in-loop-rest c =
    let i = c.loop-rest.invariant in
    digits_room c.args.x c.loop-rest.rest c.loop-rest.at c.args.end (omega arith) (omega arith) c.loop-rest-test.true c.requires.0
    (digits_left c.args.x c.loop-rest.rest c.loop-rest.at c.args.end c.args.line.now c.loop-rest.line i.0 i.1 i.2 c.requires.1 i.3)

-- the last digit that is left joins those that are written
next : (rest at : ℕ) (line all : List ℕ) → 10 ≤ rest → rest < 18446744073709551616 → 0 < at → at < length line → all ≡ decimal rest ++ drop (at + 1) line
    → all ≡ decimal (rest / 10) ++ drop (at - 1 + 1) (set line at (48 + rest % 10))
next rest at line all l h p s e =
    let here : at - 1 + 1 ≡ at = omega arith in
    let written = drop-set_at line at (at - 1 + 1) (48 + rest % 10) here s in
    e ∙ ap (λ front. front ++ drop (at + 1) line) (decimal_step rest l (omega arith)) ∙ append_assoc (decimal (rest / 10)) ((48 + rest % 10) ∷ []) (drop (at + 1) line)
    ∙ ap (λ back. decimal (rest / 10) ++ back) (sym written)

pub loop-rest-preserved : goal.loop-rest-preserved
loop-rest-preserved c =
    let i = c.loop-rest.invariant in
    let room =
    digits_room c.args.x c.loop-rest.rest c.loop-rest.at c.args.end (omega arith) (omega arith) c.loop-rest-test.true c.requires.0
    (digits_left c.args.x c.loop-rest.rest c.loop-rest.at c.args.end c.args.line.now c.loop-rest.line i.0 i.1 i.2 c.requires.1 i.3)
    in
    (i.0, search rules, omega (arith, i.2), next c.loop-rest.rest c.loop-rest.at c.loop-rest.line _ c.loop-rest-test.true (omega arith) room (omega (arith, i.1, i.2, c.requires.1)) i.3)

pub returns-clause-past : goal.returns-clause-past
returns-clause-past c =
    let i = c.loop-rest.invariant in
    omega (
      arith,
      digits_left c.args.x c.loop-rest.rest c.loop-rest.at c.args.end c.args.line.now c.loop-rest.line i.0 i.1 i.2 c.requires.1 i.3,
      few_digits c.args.x (omega arith),
      ap length (decimal_digit c.loop-rest.rest c.loop-rest-test.false),
    )

pub returns-clause-text : goal.returns-clause-text
returns-clause-text c =
    let i = c.loop-rest.invariant in
    let one = decimal_digit c.loop-rest.rest c.loop-rest-test.false in
    drop-set_at c.loop-rest.line c.loop-rest.at c.loop-rest.at _ (search rules) (omega (arith, i.1, i.2, c.requires.1))
    ∙ sym (i.3 ∙ ap (λ front. front ++ drop (c.loop-rest.at + 1) c.loop-rest.line) one)
