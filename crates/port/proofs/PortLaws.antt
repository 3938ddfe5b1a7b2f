-- A refusal as one number. Assumes nothing.
use Rattle.std.proofs.Common.{◌≡◌, ◌∙◌, ℕ, sym}
use Rattle.state.proofs.AnswerLaws.{number_some}
use Rattle.state.proofs.RefusalLaws.{number_refused}
use Rattle.state.specs.Answers.{number}
use Rattle.state.specs.Refusal.{one_number}
use Rattle.state.specs.declared.refusal.Refusal.{Refusal}

-- beside it no other number is seen
pub refused_alone : (e : Refusal) (x y : ℕ) → one_number (number e) x ≡ one_number (number e) y
refused_alone e x y = sym (number_refused (number e) x (number_some e)) ∙ number_refused (number e) y (number_some e)
