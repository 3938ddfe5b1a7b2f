-- `edits::examined::examine_degrees` meets its contract. Assumes nothing.
use mathlib.Core.Path.{ap, sym, ◌∙◌}
use native.Mathlib.Omega.{arith}
use Rattle.ego.proofs.FoundLaws.{found_degree, found_of}
use Rattle.ego.specs.Graph.{degree}
use Rattle.edits.proofs.ExamineLaws.{after_crowded, before_crowded, edit_accepted, first_crowded, shift_ready}
use Rattle.edits.proofs.ListedLaws.{count_two, each-length, first_is, lists_by, near_ready, node_below}
use Rattle.edits.proofs.examined.examine_degrees.Goals as goal

pub returns-then-near-gt-LIMIT : goal.returns-then-near-gt-LIMIT
returns-then-near-gt-LIMIT c = record {
  answer = first_crowded c.requires (omega (arith, c.if-near-gt-LIMIT.true, found_degree (found_of c.neighbours_of-near.ensures)));
  ready = tt;
}

pub touched_of-touching-requires : goal.touched_of-touching-requires
touched_of-touching-requires c =
    near_ready (found_of c.neighbours_of-near.ensures) c.if-near-gt-LIMIT.false c.requires.first_below c.requires.second_below c.requires.room

pub degrees_counted-degrees-requires : goal.degrees_counted-degrees-requires
degrees_counted-degrees-requires c =
    let found = found_of c.neighbours_of-near.ensures in
    let these = lists_by found c.if-near-gt-LIMIT.false _ c.touched_of-touching.ensures in
    record {
      room = c.requires.room;
      some = omega (arith, count_two these);
      few = these.few;
      known = found_degree found ∙ ap (degree _ _) (sym (first_is these));
      below = node_below these c.requires.first_below c.requires.second_below;
    }

pub any_among-requires : goal.any_among-requires
any_among-requires c =
    let these = lists_by (found_of c.neighbours_of-near.ensures) c.if-near-gt-LIMIT.false _ c.touched_of-touching.ensures in
    omega (arith, these.few, each-length _ _ _ c.degrees_counted-degrees.ensures)

pub returns-then-any_among : goal.returns-then-any_among
returns-then-any_among c =
    let these = lists_by (found_of c.neighbours_of-near.ensures) c.if-near-gt-LIMIT.false _ c.touched_of-touching.ensures in
    record { answer = before_crowded c.requires these c.degrees_counted-degrees.ensures c.any_among.ensures c.if-any_among.true; ready = tt }

pub shift-requires : goal.shift-requires
shift-requires c =
    let these = lists_by (found_of c.neighbours_of-near.ensures) c.if-near-gt-LIMIT.false _ c.touched_of-touching.ensures in
    shift_ready c.requires these c.degrees_counted-degrees.ensures

pub returns-then-any_among-2 : goal.returns-then-any_among-2
returns-then-any_among-2 c =
    let these = lists_by (found_of c.neighbours_of-near.ensures) c.if-near-gt-LIMIT.false _ c.touched_of-touching.ensures in
    record {
      answer = after_crowded c.requires these c.degrees_counted-degrees.ensures c.any_among.ensures c.if-any_among.false
          c.shift.ensures c.any_among-2.ensures c.if-any_among-2.true;
      ready = tt;
    }

pub returns : goal.returns
returns c =
    let these = lists_by (found_of c.neighbours_of-near.ensures) c.if-near-gt-LIMIT.false _ c.touched_of-touching.ensures in
    let ok = edit_accepted c.requires these c.degrees_counted-degrees.ensures c.any_among.ensures c.if-any_among.false
    c.shift.ensures c.any_among-2.ensures c.if-any_among-2.false in
    record { answer = sym ok.0; ready = ok.1 }
