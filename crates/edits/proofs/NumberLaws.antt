-- A refusal is known by its number. Assumes nothing.
use Rattle.std.proofs.Common.{◌≡◌, ℕ, cond, eqb, refl, ap, sym, ◌∙◌}
use Rattle.state.specs.Answers.{number}
use Rattle.state.specs.declared.refusal.Refusal.{Refusal}
use Rattle.state.specs.declared.refusal.Refusal.TheVariants.{NodeCount, Length, Scratch, Node, SameNode, EdgePresent, EdgeAbsent, EntryCount, Malformed, OtherCount, CrowdedBefore, CrowdedAfter, NoHours, PartRecord, Conflict}

-- the refusal of a number
abbrev numbered : ℕ → Refusal
numbered n =
    cond (eqb n 1) NodeCount (cond (eqb n 2) Length (cond (eqb n 3) Scratch (cond (eqb n 4) Node (cond (eqb n 5) SameNode (cond (eqb n 6) EdgePresent
    (cond (eqb n 7) EdgeAbsent (cond (eqb n 8) EntryCount (cond (eqb n 9) Malformed (cond (eqb n 10) OtherCount (cond (eqb n 11) CrowdedBefore
    (cond (eqb n 12) CrowdedAfter (cond (eqb n 13) NoHours (cond (eqb n 14) PartRecord Conflict)))))))))))))

its_number : (r : Refusal) → numbered (number r) ≡ r
its_number NodeCount = refl
its_number Length = refl
its_number Scratch = refl
its_number Node = refl
its_number SameNode = refl
its_number EdgePresent = refl
its_number EdgeAbsent = refl
its_number EntryCount = refl
its_number Malformed = refl
its_number OtherCount = refl
its_number CrowdedBefore = refl
its_number CrowdedAfter = refl
its_number NoHours = refl
its_number PartRecord = refl
its_number Conflict = refl

pub number_one : (r s : Refusal) → number r ≡ number s → r ≡ s
number_one r s e = sym (its_number r) ∙ ap numbered e ∙ its_number s
