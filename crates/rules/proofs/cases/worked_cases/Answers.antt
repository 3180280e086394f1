use Rattle.std.proofs.Common.{refl}
use Rattle.rules.proofs.cases.worked_cases.Goals as goal

-- Each case is computed by the rules. The check finds them alone; they are named so that the log of a wrong rule says which case comes
-- out otherwise.
pub returns : goal.returns
returns c = record {
  total_turns_over = refl;
  additions_kept_in_order = refl;
  additions_kept_the_other_way = refl;
  unlawful_additions = refl;
  raise_below_the_mark = refl;
  sees_what_was_kept = refl;
  sees_what_elders_set = refl;
  sees_what_a_kept_child_set = refl;
  does_not_see_what_an_abandoned_child_set = refl;
  sees_each_cell_alone = refl;
  does_not_see_what_others_add = refl;
  keep_stores_every_line = refl;
  published_is_seen = refl;
  published_stays = refl;
  abandon_ends_all_inside = refl;
  ended_are_free = refl;
  siblings = refl;
  abandon_leaves_siblings = refl;
  passed_lines_keep_their_places = refl;
  passed_lines_come_after = refl;
  elder_has_a_passed_line = refl;
  publish_stores_every_line = refl;
  look_at_what_another_set = refl;
  set_of_what_another_looked_at = refl;
  raise_after_a_look = refl;
  addition_after_a_look = refl;
  elder_is_not_in_the_way = refl;
  first_posted_is_named = refl;
  crossed_is_not_named = refl;
  elder_has_looked = refl;
  first_elder_is_named = refl;
  crossed_elder_is_not_named = refl;
  other_cells_are_free = refl;
  child_stands = refl;
  not_standing = refl;
  no_such_cell = refl;
  one_row = refl;
  one_line = refl;
  last_number = refl;
  first_no_counts = refl;
  example_of_a_copy = (refl, refl);
  example_posted = (refl, (refl, (refl, tt)));
  example_ends = refl;
  kept_child_is_a_block = (refl, refl);
  published_child_is_apart = (refl, refl);
  abandoned_is_dropped = (refl, refl);
  no_cells = refl;
  too_many_cells = refl;
  no_rows = refl;
  too_many_rows = refl;
  no_lines = refl;
  too_many_lines = refl;
  unlawful_first_value = refl;
  largest_tables = refl;
  refusal_numbers = refl;
  refusal_holders = refl;
}
