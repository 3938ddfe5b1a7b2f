-- `survey::records::measurement_at` meets its contract. Assumes nothing.
use Rattle.std.proofs.Common.{arith, get_or, refl, ◌*◌, ◌+◌, ◌<◌, ◌≡◌, ℕ}
use Rattle.packed.proofs.FieldLaws.{field_of_byte, field_of_two}
use Rattle.packed.specs.Bits.{run_of}
use Rattle.survey.specs.Survey.{measurement_at, record_bytes}
use Rattle.survey.proofs.records.measurement_at.Goals as goal

pub returns : goal.returns
unfolding measurement_at
returns c =
    let bs = c.args.survey.now in
    let small : (k : ℕ) → get_or bs k 0 < 256 = λ k. omega (arith, c.type_inv.survey k) in
    let first : ℕ = record_bytes * c.args.i in
    let a = field_of_byte bs small first {from = 8 * first} (omega arith) c.from.ensures in
    let b = field_of_byte bs small (first + 1) {from = 8 * first + 8} (omega arith) c.from-2.ensures in
    let number : c.from_be_bytes.result ≡ run_of bs (8 * first + 16) 16 =
    field_of_two bs small (first + 2) (first + 3) (omega arith) (omega arith) (omega (arith, c.from_be_bytes.ensures)) in
    let strength = field_of_byte bs small (first + 4) {from = 8 * first + 32} {r = get_or bs (first + 4) 0} (omega arith) refl in
    λ j. record { a = a j; b = b j; number = number j; strength = strength j }
