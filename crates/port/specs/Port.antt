-- What the port answers as one number: of a list, with everything lent, of the next change, of the record that counts, of the first conflict, and of the nearest
-- listed post. Assumes nothing.
use Rattle.std.specs.Prelude.{cond, true, List, ◌≡◌, ℕ, ◌+◌, ◌*◌, ◌^◌, ◌<◌}
use Rattle.merge.specs.Conflict.{Answer as Conflicting}
use Rattle.nearest.specs.Nearest.{Answer as Nearby}
use Rattle.packed.specs.Pairs.{max_nodes, pair_index}
use Rattle.state.specs.Refusal.{one_number}
use Rattle.state.specs.State.{State}
use Rattle.topk.specs.declared.entries.Entry.{Entry}
use Rattle.topk.specs.List.{Listed, list_call}
use Rattle.listing.specs.Records.{entries_call}
use Rattle.schedule.specs.Change.{minutes, Next}
use Rattle.survey.specs.Position.{Answer}

-- the answer, and everything lent as the call leaves it; the entries are numbers in a row, or records
pub record Ported (A : Type 0) : Type 0 where
  pub answer : ℕ
  pub after : State
  pub entries : List A
  pub scratch : List ℕ

abbrev pub ported : {A : Type 0} → ℕ → State → List A → List ℕ → Ported A
ported answer after entries scratch = record { answer = answer; after = after; entries = entries; scratch = scratch }

abbrev pub as_one : {A : Type 0} → Listed A → Ported A
as_one l = ported (one_number l.refusal l.recomputed) l.after l.entries l.scratch

-- the list over plain numbers, and over entries as records
abbrev pub port_list : State → List ℕ → List ℕ → Ported ℕ
port_list s entries scratch = as_one (list_call s entries scratch)

abbrev pub port_entries : State → List Entry → List ℕ → Ported Entry
port_entries s entries scratch = as_one (entries_call s entries scratch)

-- the next change: the minute, and the number past the last minute for none
abbrev pub as_one_change : Next → ℕ
as_one_change x = one_number x.refusal (cond x.some x.minute minutes)

-- the record that counts: its position, and 2 ^ 63 for none
abbrev pub as_one_record : Answer → ℕ
as_one_record x = one_number x.refusal (cond x.some x.position (2 ^ 63))

-- the first conflict: the bit of its pair, and 2 ^ 32 for none
abbrev pub as_one_conflict : Conflicting → ℕ
as_one_conflict x = one_number x.refusal (cond x.some (pair_index x.a x.b) (2 ^ 32))

-- its pair, where there is one, is of two nodes, a below b
abbrev pub NamesTwo : Conflicting → Type 0
NamesTwo x = x.some ≡ true → (x.a < x.b) × (x.b < max_nodes)

-- the nearest listed post: its hop count times 65,536 and the post, and 2 ^ 32 for none
abbrev pub as_one_nearest : Nearby → ℕ
as_one_nearest x = one_number x.refusal (cond x.some (x.hops * 65536 + x.node) (2 ^ 32))

-- its post, where there is one, is a node
abbrev pub NamesOne : Nearby → Type 0
NamesOne x = x.some ≡ true → x.node < max_nodes
