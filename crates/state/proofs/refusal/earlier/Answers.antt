-- `state::refusal::earlier` meets its contract. Assumes nothing.
use Rattle.std.proofs.Common.{◌≡◌, ◌<◌, ℕ, min, Bool, List, [], ◌∷◌, get_or, eqb, ap, ap₂, refl, sym, ◌∙◌, arith}
use borrow.Author.Tests.{eqb-true}
use Rattle.arith.proofs.Tests.{each, each_at}
use Rattle.state.proofs.AnswerLaws.{number_some}
use Rattle.state.proofs.PairConditions.{earlier_first, earlier_second, earlier_some}
use Rattle.state.specs.Answers.{number}
use Rattle.state.specs.contracts.refusal.RefusalOrd.TheImpl.{cmp-value}
use Rattle.std.specs.Ordering.{ord_min}
use Rattle.state.specs.declared.refusal.Refusal.{Refusal}
use Rattle.state.specs.declared.refusal.Refusal.TheVariants.{NodeCount, Length, Scratch, Node, SameNode, EdgePresent, EdgeAbsent, EntryCount, Malformed, OtherCount, CrowdedBefore, CrowdedAfter, NoHours, PartRecord, Conflict}
use Rattle.state.proofs.refusal.earlier.Goals as goal

-- the refusals by their numbers
abbrev every : List Refusal
every = NodeCount ∷ Length ∷ Scratch ∷ Node ∷ SameNode ∷ EdgePresent ∷ EdgeAbsent ∷ EntryCount ∷ Malformed ∷ OtherCount ∷ CrowdedBefore ∷ CrowdedAfter ∷ NoHours ∷ PartRecord ∷ Conflict ∷ []

abbrev numbered : ℕ → Refusal
numbered i = get_or every i NodeCount

by_number : (r : Refusal) → (i : ℕ) × (i < 15) × (numbered i ≡ r)
by_number NodeCount = (0, omega arith, refl)
by_number Length = (1, omega arith, refl)
by_number Scratch = (2, omega arith, refl)
by_number Node = (3, omega arith, refl)
by_number SameNode = (4, omega arith, refl)
by_number EdgePresent = (5, omega arith, refl)
by_number EdgeAbsent = (6, omega arith, refl)
by_number EntryCount = (7, omega arith, refl)
by_number Malformed = (8, omega arith, refl)
by_number OtherCount = (9, omega arith, refl)
by_number CrowdedBefore = (10, omega arith, refl)
by_number CrowdedAfter = (11, omega arith, refl)
by_number NoHours = (12, omega arith, refl)
by_number PartRecord = (13, omega arith, refl)
by_number Conflict = (14, omega arith, refl)

-- the lesser refusal has the lesser number
abbrev lesser : Refusal → Refusal → Bool
lesser a b = eqb (number (ord_min cmp-value.it a b)) (min (number a) (number b))

number_min : (a b : Refusal) → number (ord_min cmp-value.it a b) ≡ min (number a) (number b)
number_min a b =
    let x = by_number a in
    let y = by_number b in
    let row = each_at (λ i. each (λ j. lesser (numbered i) (numbered j)) 15) 15 x.0 refl x.1 in
    eqb-true _ _ (sym (ap₂ lesser x.2 y.2) ∙ each_at (λ j. lesser (numbered x.0) (numbered j)) 15 y.0 row y.1)

pub returns-in-Err-Err : goal.returns-in-Err-Err
returns-in-Err-Err c = rw (c.in-Err-Err.is-0, c.in-Err-Err.is-1) (ap number c.min.ensures ∙ number_min _ _ ∙ sym (earlier_some _ _ (number_some _) (number_some _)))

pub returns-in_default-Ok : goal.returns-in_default-Ok
returns-in_default-Ok c = rw (c.in_default-Ok.is-0, c.in_default-Ok.is-1) (sym (earlier_first _ _ (number_some _) (λ d. absurd (d refl))))

pub returns-in-Ok-default : goal.returns-in-Ok-default
returns-in-Ok-default c = rw c.in-Ok-default.is-0 (sym (earlier_second 0 _ (λ d. absurd (d refl))))
