-- `edits::examined::check_edge` meets its contract. Assumes nothing.
use mathlib.Core.Bool.{cond}
use mathlib.Core.List.{[]}
use mathlib.Core.Path.{ap, sym, ◌∙◌}
use Rattle.packed.proofs.PairLaws.{room_within}
use Rattle.packed.specs.Edges.{edge}
use Rattle.state.proofs.AnswerLaws.{passed_on}
use Rattle.state.proofs.RefusalLaws.{refusal_none}
use Rattle.edits.proofs.NamedLaws.{alike, asked_refused, named_by, named_refused, pair_passed, two_passed, unlike}
use Rattle.edits.proofs.examined.check_edge.Goals as goal

pub returns-in_err-check_pair : goal.returns-in_err-check_pair
returns-in_err-check_pair c =
    let s = c.args in
    let why = c.in_err-check_pair.field-0.0 in
    passed_on c.from_residual.result why c.from_residual.ensures.1
    ∙ named_refused s.n (edge s.edges.now) s.a s.b _ why c.in_err-check_pair.ensures

pub has-requires : goal.has-requires
has-requires c = let p = named_by c.args.n (edge c.args.edges.now) c.args.a c.args.b c.in_ok-check_pair.ensures in room_within _ _ _ _ p.first p.second c.requires

pub returns-then-has-on : goal.returns-then-has-on
returns-then-has-on c =
    let p = named_by c.args.n (edge c.args.edges.now) c.args.a c.args.b c.in_ok-check_pair.ensures in
    sym (pair_passed _ _ _ _ c.args.on [] (record {
      first = p.first;
      second = p.second;
      two = p.apart;
      was = sym c.has.ensures ∙ unlike _ c.args.on c.if-has-on.true;
    }) ∙ refusal_none)

-- the edge is as it is asked to be
pub returns-then-on : goal.returns-then-on
returns-then-on c =
    let p = named_by c.args.n (edge c.args.edges.now) c.args.a c.args.b c.in_ok-check_pair.ensures in
    ap (λ t. cond t 6 7) (sym c.if-on.true)
    ∙ sym (two_passed _ (edge c.args.edges.now) _ _ _ p.first p.second p.apart
    ∙ asked_refused c.args.n _ _ _ c.args.on [] (sym c.has.ensures ∙ alike _ c.args.on c.if-has-on.false))

pub returns-else-on : goal.returns-else-on
returns-else-on c =
    let p = named_by c.args.n (edge c.args.edges.now) c.args.a c.args.b c.in_ok-check_pair.ensures in
    ap (λ t. cond t 6 7) (sym c.if-on.false)
    ∙ sym (two_passed _ (edge c.args.edges.now) _ _ _ p.first p.second p.apart
    ∙ asked_refused c.args.n _ _ _ c.args.on [] (sym c.has.ensures ∙ alike _ c.args.on c.if-has-on.false))
