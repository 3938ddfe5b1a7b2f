-- `replay::lines::put_field` meets its contract: the space stands before the digits.
use Rattle.std.proofs.Common.{ap, arith, drop, refl, rules, ◌+◌, ◌-◌, ◌∷◌, ◌∙◌, ◌≡◌}
use Rattle.std.proofs.lemmas.Grind.{drop-set_at}
use Rattle.replay.proofs.lines.put_field.Goals as goal

pub returns-clause-text : goal.returns-clause-text
returns-clause-text c =
    let at = c.put_number-at.result in
    let line = c.put_number-at.new.line in
    let here : at - 1 + 1 ≡ at = omega (arith, c.put_number-at.ensures.past, c.requires.0) in
    drop-set_at line (at - 1) (at - 1) 32 refl (search rules) ∙ ap (λ k. 32 ∷ drop k line) here ∙ ap (λ l. 32 ∷ l) c.put_number-at.ensures.text
