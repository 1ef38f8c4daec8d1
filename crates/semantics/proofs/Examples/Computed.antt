-- The definitions, and the walk, computed on the bytes of the known sheets. Assumes nothing.
use Rattle.std.specs.Prelude.{refl}
use Rattle.std.proofs.Math.Decide.{ℕ_discrete}
use Rattle.std.specs.Int.Count.{ones, ones_in}
use Rattle.sets.specs.Lists.{every, some, keep, flat, up_to, down_from, same_list}
use Rattle.sets.specs.Sets.{set_of, members_of}
use Rattle.semantics.specs.Definitions.Reading.{times}
use Rattle.semantics.specs.Definitions.Sheet.{atoms_of, count_at, name_byte_at, name_at, mask_at, rule_at, pair_at, front, two_sections, pairs_at, sections}
use Rattle.semantics.specs.Definitions.Reduct.{reduct_rule, reduct}
use Rattle.semantics.specs.Definitions.Check.{opened, opened_two_sections, of_sheet, check}
use Rattle.semantics.specs.Definitions.Stable.{reduct_at, smaller_model, stable, stable_sets}
use Rattle.semantics.specs.Definitions.Verdict.{belief_sets, guess_found, verdict}
use Rattle.semantics.specs.Definitions.Calls.{for_guess, for_atom, verdict_call, belief_sets_call, query_call}
use Rattle.semantics.specs.Definitions.Propagation.{steps, contradicted}
use Rattle.semantics.specs.Definitions.Order.{order}
use Rattle.semantics.specs.Definitions.Listing.{is_world_view, covered, tally_of, views_along}
use Rattle.semantics.specs.Definitions.Query.{yes_no_open, answer_by}
use Rattle.semantics.specs.Definitions.Program.{digits, names_of, printed}
use Rattle.semantics.specs.Definitions.Calendar.{entry_at, calendar_of, in_force, of_minute}
use Rattle.semantics.specs.Definitions.Pass.{one_pass}
use Rattle.semantics.specs.Definitions.Day.{day_constraints, under_masks}
use Rattle.semantics.specs.Definitions.LeastModel.{grown, by_least_model}
use Rattle.semantics.specs.Definitions.Sharing.{tests_of, met_in, finished_in, in_all, turns, turns_at, shares_from, sheet_by_sheet, share_call, handed}
use Rattle.semantics.specs.Walk.{walk}
use Rattle.semantics.specs.Examples.Sheets.{zeros}
use Rattle.semantics.proofs.Examples.Changed.{changed, longest_changed}
use Rattle.semantics.specs.Examples.Computed.{Computed}

pub computed : Computed
unfolding ℕ_discrete ones ones_in every some keep flat up_to down_from same_list set_of zeros times atoms_of count_at name_byte_at name_at mask_at rule_at pair_at front two_sections pairs_at sections opened opened_two_sections of_sheet check reduct_rule reduct reduct_at smaller_model stable stable_sets belief_sets guess_found verdict for_guess verdict_call belief_sets_call steps contradicted order is_world_view covered tally_of views_along walk for_atom query_call yes_no_open answer_by digits names_of printed entry_at calendar_of in_force of_minute one_pass members_of day_constraints under_masks grown by_least_model tests_of met_in finished_in in_all turns turns_at shares_from sheet_by_sheet share_call handed
computed = record {
  checks = refl;
  lists = refl;
  walks = refl;
  two_views_lem = refl;
  reducts_are = refl;
  verdicts_returned = refl;
  sets_returned = refl;
  listings_returned = refl;
  desk_returned = refl;
  desk_written = refl;
  queries_answered = refl;
  texts-printed = refl;
  limits = refl;
  longest-bytes = refl;
  calendars-read = refl;
  longest-calendar = refl;
  open_or_not = refl;
  in_force_or_not = refl;
  minute_listings_returned = refl;
  changes_returned = changed;
  longest-changes = longest_changed;
  gathered_are = refl;
  passes_gather = refl;
  day_verdicts_returned = refl;
  day_sets_returned = refl;
  day_contradicted_or_not = refl;
  day_listings_returned = refl;
  day_desk_returned = refl;
  day_desk_written = refl;
  day_queries_answered = refl;
  chain_grows = refl;
  least_models_are = refl;
  sets_pass = refl;
  sets-stable = refl;
  single_or_not = refl;
  beliefs_pass = refl;
  beliefs_stable = refl;
  two_sections_refused = refl;
  two_sections_listed = refl;
  last_byte_refused = refl;
  pairs-checked = refl;
  pairs_are_no_rules = refl;
  pairs-listed = refl;
  pairs-walked = refl;
  pairs-turned = refl;
  pairs_as_rules = refl;
  without_pairs = refl;
  many_pairs_listed = refl;
  pair_programs_are = refl;
  minute_programs_are = refl;
  pair_verdicts_returned = refl;
  pair_sets_returned = refl;
  pair_contradicted_or_not = refl;
  pair_listings_returned = refl;
  pair_desk_returned = refl;
  pair_desk_written = refl;
  pair_queries_answered = refl;
  pair_minutes_returned = refl;
  pair_passes_gather = refl;
  pair_single_or_not = refl;
  pair_beliefs_pass = refl;
  pair_beliefs_stable = refl;
  turns_are = refl;
  shares_finished = refl;
  shares_fit = refl;
  shares_by_rounds = refl;
  shares_in_order = refl;
  shares_nine = refl;
  shares_denied = refl;
  buffers_lent = refl;
}
