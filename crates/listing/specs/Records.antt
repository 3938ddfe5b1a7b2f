-- The list call over entries that are lent as records. Assumes nothing.
use Rattle.std.specs.Prelude.{List, ℕ, length}
use Rattle.state.specs.State.{State}
use Rattle.topk.specs.Entries.{flat, entries_of}
use Rattle.topk.specs.declared.entries.Entry.{Entry}
use Rattle.topk.specs.List.{list_call, Listed, listing}

-- The list over plain buffers with the lent entries in a row, which are then read back. k is the number of entries lent.
unfoldable pub entries_call : State → List Entry → List ℕ → Listed Entry
entries_call s entries scratch =
    let plain = list_call s (flat entries) scratch in
    listing plain.refusal plain.recomputed plain.after (entries_of (length entries) plain.entries) plain.scratch
