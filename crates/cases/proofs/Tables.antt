-- The two tables hold, and the count of 01's listing: tests that the checker computes, and laws that turn them into the rule at each row. Assumes nothing.
use mathlib.Core.Bool.{true}
use mathlib.Core.List.{Memᴰ}
use mathlib.Core.Path.{refl, ◌≡◌}
use Rattle.arith.specs.Digits.{bit_of, digit, with_digit}
use Rattle.arith.specs.Rank.{before}
use Rattle.arith.specs.Sums.{any_to, sum_to, tabulate}
use Rattle.cases.proofs.Reflect.{all_at, all_of}
use Rattle.cases.specs.Cases.{Case, last_answer, listing_works, Meets, run_calls, table}
use Rattle.ego.specs.Bound.{bound, unlinked}
use Rattle.ego.specs.Graph.{degree, distance, ego, inner, neighbours, shortest, walks}
use Rattle.ego.specs.Score.{score, share}
use Rattle.history.specs.History.{effect}
use Rattle.merge.specs.Pinned.{conflict, pinned_call, reconciled_pinned, spoken, standing}
use Rattle.merge.specs.Reconcile.{merged, over_pairs, over_row, reconcile_call, reconciled, takes}
use Rattle.packed.specs.Bits.{bit_at, bytes_of, with_bit, word_of}
use Rattle.packed.specs.Edges.{edge, edges_of, with_edge}
use Rattle.packed.specs.Pairs.{any_pair, pair_count, pair_index, same_pair}
use Rattle.calls.specs.Clear.{clear_call, cleared}
use Rattle.edits.specs.Edit.{add_call, added, edited, new_figure, remove_call, removed, renewed}
use Rattle.state.specs.Marks.{all_exact, all_stale, stale, stale_to, with_mark}
use Rattle.state.specs.Outcome.{lengths, outcome}
use Rattle.state.specs.Refusal.{buffer_length, crowded_after, crowded_before, edge_absent, edge_present, ends, list_length, node_count, node_number, no_hours, pair_conditions, refusal, same_nodes, scratch_length, some_conflict, too_many, touched, bad_snapshot, other_count, spare_set}
use Rattle.topk.specs.Entries.{ranks_before, insert, keep, stops, entries_of}
use Rattle.topk.specs.List.{accepted_list, list_call}
use Rattle.topk.specs.Steps.{step, best_below, better, all_steps, step_at, steps, took, worth}
use Rattle.calls.specs.Snapshot.{load_call, loaded}
use Rattle.cases.specs.Wrong.{Excluded, Wrong, wrongs}
use Rattle.ego.specs.Change.{with_pair}
use Rattle.history.specs.Model.{below, conditions, model, model_refusal, own_conditions, would_hold}
use Rattle.listing.specs.Records.{entries_call}
use Rattle.schedule.specs.Schedule.{bad_schedule, conditions_to, linked_at, names, open_at, opening_at}
use Rattle.schedule.specs.Sheet.{load_at_call}
use Rattle.topk.specs.Ranking.{ranking, works_out}
use Rattle.cases.proofs.Table.{met, test_of}
use Rattle.cases.proofs.Wrong.{excluded, one_fails, sentences, verdict}

computed : (all_of test_of table ≡ true) × (all_of one_fails wrongs ≡ true) × (listing_works ≡ 2)
unfolding test_of one_fails verdict sentences run_calls last_answer effect model model_refusal conditions own_conditions would_hold below any_to tabulate sum_to digit bit_of
    with_digit before bit_at with_bit bytes_of pair_count pair_index edge with_edge with_pair degree neighbours unlinked bound ego walks distance shortest inner share
    score stale with_mark stale_to all_exact all_stale refusal node_count buffer_length scratch_length node_number same_nodes edge_present edge_absent list_length
    bad_snapshot other_count spare_set too_many ends touched crowded_before crowded_after outcome lengths cleared clear_call loaded load_call new_figure renewed edited
    added removed add_call remove_call ranks_before insert keep stops better best_below worth took step_at step steps all_steps accepted_list list_call entries_of
    entries_call ranking works_out takes over_row over_pairs reconciled reconcile_call merged spoken standing conflict some_conflict reconciled_pinned pinned_call word_of any_pair edges_of opening_at same_pair names open_at linked_at
    bad_schedule pair_conditions conditions_to no_hours load_at_call
computed = (refl, refl, refl)

-- EVERY CASE OF THE TABLE comes out as it must.
pub cases_met : (c : Case) → Memᴰ c table → Meets c
cases_met c m = met c (all_at test_of table computed.0 m)

-- 01'S LISTING works out two posts.
pub listing_works_two : listing_works ≡ 2
listing_works_two = computed.2

-- EVERY WRONG OUTCOME OF THE TABLE is excluded, by its sentence alone.
pub wrongs_excluded : {w : Wrong} → Memᴰ w wrongs → Excluded w
wrongs_excluded {w} m = excluded w (all_at one_fails wrongs computed.1 m)
