-- The list over records keeps the spare bits, and does not depend on them. Assumes nothing.
use mathlib.Core.List.{List}
use mathlib.Core.Path.{ap}
use Prim.Native.Nat.{ℕ}
use lib.ListN.{length}
use Rattle.state.specs.Spare.{Alike, SpareKept}
use Rattle.state.specs.State.{State}
use Rattle.topk.proofs.Spare.{AlikeListed, list_alike, list_spare}
use Rattle.topk.specs.Entries.{flat, entries_of}
use Rattle.topk.specs.declared.entries.Entry.{Entry}
use Rattle.listing.specs.Records.{entries_call}

pub entries_spare : (s : State) (entries : List Entry) (scratch : List ℕ) → SpareKept s (entries_call s entries scratch).after
unfolding entries_call
entries_spare s entries scratch = list_spare s (flat entries) scratch

pub entries_alike : {s t : State} → Alike s t → (entries : List Entry) (scratch : List ℕ)
    → AlikeListed Entry (entries_call s entries scratch) (entries_call t entries scratch)
unfolding entries_call
entries_alike h entries scratch =
    let plain = list_alike h (flat entries) scratch in
    record {
      refusal = plain.refusal;
      recomputed = plain.recomputed;
      after = plain.after;
      entries = ap (entries_of (length entries)) plain.entries;
      scratch = plain.scratch;
    }
