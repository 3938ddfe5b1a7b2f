-- What a call answers, in 01's numbers. Assumes nothing.
use Rattle.std.specs.Prelude.{ℕ, Result, Ok, Err, Option, Some, None}
use Rattle.state.specs.Refusal.{one_number}
use Rattle.state.specs.declared.refusal.Refusal.{Refusal}
use Rattle.state.specs.declared.refusal.Refusal.TheVariants.{NodeCount, Length, Scratch, Node, SameNode, EdgePresent, EdgeAbsent, EntryCount, Malformed, OtherCount, CrowdedBefore, CrowdedAfter, NoHours, PartRecord, Conflict}

-- the number of a refusal
abbrev pub number : Refusal → ℕ
number NodeCount = 1
number Length = 2
number Scratch = 3
number Node = 4
number SameNode = 5
number EdgePresent = 6
number EdgeAbsent = 7
number EntryCount = 8
number Malformed = 9
number OtherCount = 10
number CrowdedBefore = 11
number CrowdedAfter = 12
number NoHours = 13
number PartRecord = 14
number Conflict = 15

-- the refusal number of an answer, 0 where the call is accepted
abbrev pub refusal_of : {A : Type 0} → Result A Refusal → ℕ
refusal_of (Ok value) = 0
refusal_of (Err r) = number r

-- the number that it answers, 0 with a refusal
abbrev pub value_of : Result ℕ Refusal → ℕ
value_of (Ok value) = value
value_of (Err r) = 0

-- the two as one
abbrev pub one_number_of : Result ℕ Refusal → ℕ
one_number_of r = one_number (refusal_of r) (value_of r)

-- What a call finds: what it looks for, that there is none, or the number of its refusal.
pub data Found (A : Type 0) : Type 0 where
  At : A → Found A
  Nowhere : Found A
  Refused : ℕ → Found A

abbrev pub found : {A : Type 0} → Result (Option A) Refusal → Found A
found (Ok (Some value)) = At value
found (Ok None) = Nowhere
found (Err r) = Refused (number r)
