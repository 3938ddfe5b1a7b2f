-- How a contract reads what a reconcile with pins brings. Assumes nothing.
use Rattle.merge.specs.Pinned.{Brought, brought}
use Rattle.merge.specs.declared.brought.Brought.{Brought as Lent}

abbrev pub lent : Lent → Brought
lent k = brought k.pins.now k.theirs.now k.their_pins.now k.base.now
