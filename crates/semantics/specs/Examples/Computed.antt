-- The definitions, and the walk, computed on the bytes of the known sheets. Assumes nothing.
-- Here the definitions; the theorems are in proofs/Examples/Computed.antt.
use Rattle.std.specs.Prelude.{◌^◌, ◌≡◌, List, [], ◌∷◌, ◌++◌, map, length}
use Rattle.sets.specs.Lists.{keep, up_to}
use Rattle.semantics.specs.Definitions.Sheet.{longest_sheet}
use Rattle.semantics.specs.Definitions.Setting.{Setting, k}
use Rattle.semantics.specs.Definitions.Check.{setting, opened_two_sections, said, of_sheet, numbers, numbers_of, check}
use Rattle.semantics.specs.Definitions.Returned.{accepted, refusal, read, answer, afterwards}
use Rattle.semantics.specs.Definitions.Stable.{reduct_at, stable_sets}
use Rattle.semantics.specs.Definitions.Verdict.{belief_sets}
use Rattle.semantics.specs.Definitions.Calls.{verdict_call, belief_sets_call, result_of, list_call, query_call}
use Rattle.semantics.specs.Definitions.Propagation.{contradicted}
use Rattle.semantics.specs.Definitions.Order.{order}
use Rattle.semantics.specs.Definitions.Listing.{View, Tally, tally_of, listing}
use Rattle.semantics.specs.Definitions.Desk.{desk_call, desk_number, desk_bytes}
use Rattle.semantics.specs.Definitions.Program.{printed}
use Rattle.semantics.specs.Definitions.Calendar.{calendar_of, open_at, in_force, of_minute}
use Rattle.semantics.specs.Definitions.Pass.{gathered, one_pass}
use Rattle.semantics.specs.Definitions.Day.{of_day}
use Rattle.semantics.specs.Definitions.LeastModel.{single_heads, grown, least_model, by_least_model}
use Rattle.semantics.specs.Definitions.Sharing.{turns, share_call, lent_after}
use Rattle.semantics.specs.Walk.{walk}
use Rattle.semantics.specs.Theorems.CalendarPlaces.{longest_calendar}
use Rattle.semantics.specs.Examples.Sheets.{Listed, ten, kiln, sheet_6}
use Rattle.semantics.specs.Examples.Own.{own}
use Rattle.semantics.specs.Examples.Limits.{longest, answers}
use Rattle.semantics.specs.Examples.Reducts.{reducts}
use Rattle.semantics.specs.Examples.Guesses.{verdicts, sets}
use Rattle.semantics.specs.Examples.Listings.{listings, desk_calls}
use Rattle.semantics.specs.Examples.Queries.{queries}
use Rattle.semantics.specs.Examples.Texts.{texts}
use Rattle.semantics.specs.Examples.Calendars.{longest_hours, calendars, openings, forces}
use Rattle.semantics.specs.Examples.Minutes.{minute_listings}
use Rattle.semantics.specs.Examples.Changed.{Changed, LongestChanged}
use Rattle.semantics.specs.Examples.Passes.{passes}
use Rattle.semantics.specs.Examples.Days.{day_verdicts, day_sets, day_contradicted, day_listings, day_desk, day_queries}
use Rattle.semantics.specs.Examples.LeastModels.{chain, stages, least_models, singles, least_beliefs}
use Rattle.semantics.specs.Examples.Opposites.{known_sheets, old, old_lengths, pair_answers, with_pair, turned, as_rule, without_pair, pair_listings, many_pairs, pair_programs, minute_programs, pair_verdicts, pair_sets, pair_contradicted, pair_day_listings, pair_desk, pair_queries, pair_minutes, pair_passes, pair_singles, pair_beliefs}
use Rattle.semantics.specs.Examples.Sharing.{turn_lists, finished_calls, fit_calls, round_calls, order_calls, nine_calls, denied_calls, lent_buffers}

-- the list of a setting by the definitions, and by the walk along the order
abbrev listed : Setting → List View × Tally
listed s = (listing s, tally_of s)

abbrev walked : Setting → List View × Tally
walked s = let x = walk s (order (k s)) in (x.met, x.tally)

abbrev pub sheets : List Listed
sheets = ten ++ kiln ∷ own

-- "Sheets 1 to 10 are proved against the definitions, as one lemma over a list"; and what document 01 calls "Tempting to build"
pub record Computed : Type 0 where
  pub checks : map (λ e. check e.bytes) sheets ≡ map (λ e. accepted e.numbers) sheets
  pub lists : map (λ e. answer listed (of_sheet e.bytes)) sheets ≡ map (λ e. accepted (e.views, e.tally)) sheets
  pub walks : map (λ e. answer walked (of_sheet e.bytes)) sheets ≡ map (λ e. accepted (e.views, e.tally)) sheets
  -- "pruning equal sizes, which loses a view in 6"
  pub two_views_lem : answer (λ s. map (λ v. v.guess) (listing s)) (of_sheet sheet_6.bytes) ≡ accepted (1 ∷ 2 ∷ [])
  -- the table of the reduct, cell by cell
  pub reducts_are : map (λ p. answer (λ s. s.program p.1) (of_sheet p.0)) reducts ≡ map (λ p. accepted p.2) reducts
  -- what the calls that take a guess return; the other three errors are among these guesses
  pub verdicts_returned : map (λ p. verdict_call (of_sheet p.0) p.1) verdicts ≡ map (λ p. p.2) verdicts
  pub sets_returned : map (λ p. belief_sets_call (of_sheet p.0) p.1 p.2) sets ≡ map (λ p. p.3) sets
  -- what the listing returns
  pub listings_returned : map (λ p. list_call (of_sheet p.0) p.1) listings ≡ map (λ p. p.2) listings
  -- what the desk call returns, and the bytes then
  pub desk_returned : map (λ p. desk_number (desk_call (of_sheet p.0) (length p.1))) desk_calls ≡ map (λ p. p.2) desk_calls
  pub desk_written : map (λ p. afterwards desk_bytes (desk_call (of_sheet p.0) (length p.1)) p.1) desk_calls ≡ map (λ p. p.3) desk_calls
  -- what the query answers
  pub queries_answered : map (λ p. query_call (of_sheet p.0) p.1) queries ≡ map (λ p. p.2) queries
  -- what `views` prints
  pub texts-printed : map (λ p. printed p.0) texts ≡ map (λ p. p.1) texts
  -- limit cases of the sheet, and how long the longest is (that it is accepted: Longest.antt)
  pub limits : map (λ p. check p.0) answers ≡ map (λ p. p.1) answers
  pub longest-bytes : length longest ≡ longest_sheet
  -- document 02, K1: calendars as they are read, entries that hold, rules in force
  pub calendars-read : map (λ p. read (calendar_of p.0 p.1)) calendars ≡ map (λ p. p.2) calendars
  pub longest-calendar : length longest_hours ≡ longest_calendar
  pub open_or_not : map (λ p. open_at p.0 p.1 p.2) openings ≡ map (λ p. p.3) openings
  pub in_force_or_not : map (λ p. in_force p.0 p.1 p.2) forces ≡ map (λ p. p.3) forces
  -- what the listing at a minute returns, and what the minutes of change are
  pub minute_listings_returned : map (λ p. list_call (of_minute p.0 p.1 p.2) p.3) minute_listings ≡ map (λ p. p.4) minute_listings
  pub changes_returned : Changed
  pub longest-changes : LongestChanged
  -- document 02, K2: what is gathered, by the walks over W and by the one pass
  pub gathered_are : map (λ p. answer (λ s. gathered s.atoms (s.program p.1)) (of_sheet p.0)) passes ≡ map (λ p. accepted p.2) passes
  pub passes_gather : map (λ p. answer (λ s. one_pass s.atoms (s.program p.1)) (of_sheet p.0)) passes ≡ map (λ p. accepted p.2) passes
  -- document 02, K3: what the calls return under the day's masks, and which guesses are contradicted
  pub day_verdicts_returned : map (λ p. verdict_call (of_day p.0 p.1 p.2) p.3) day_verdicts ≡ map (λ p. p.4) day_verdicts
  pub day_sets_returned : map (λ p. belief_sets_call (of_day p.0 p.1 p.2) p.3 p.4) day_sets ≡ map (λ p. p.5) day_sets
  pub day_contradicted_or_not : map (λ p. answer (λ s. contradicted s p.3) (of_day p.0 p.1 p.2)) day_contradicted ≡ map (λ p. accepted p.4) day_contradicted
  pub day_listings_returned : map (λ p. list_call (of_day p.0 p.1 p.2) p.3) day_listings ≡ map (λ p. p.4) day_listings
  pub day_desk_returned : map (λ p. desk_number (desk_call (of_day p.0 p.1 p.2) (length p.3))) day_desk ≡ map (λ p. p.4) day_desk
  pub day_desk_written : map (λ p. afterwards desk_bytes (desk_call (of_day p.0 p.1 p.2) (length p.3)) p.3) day_desk ≡ map (λ p. p.5) day_desk
  pub day_queries_answered : map (λ p. query_call (of_day p.0 p.1 p.2) p.3) day_queries ≡ map (λ p. p.4) day_queries
  -- document 02, K6: what is grown, the sets that pass by it, and those that the search over subsets finds
  pub chain_grows : map (grown chain) (up_to (length stages)) ≡ stages
  pub least_models_are : map (λ p. map (λ i. least_model (reduct_at i p.1)) (up_to (2 ^ p.0))) least_models ≡ map (λ p. p.2) least_models
  pub sets_pass : map (λ p. keep (by_least_model p.1) (up_to (2 ^ p.0))) least_models ≡ map (λ p. p.3) least_models
  pub sets-stable : map (λ p. stable_sets p.0 p.1) least_models ≡ map (λ p. p.4) least_models
  pub single_or_not : map (λ p. said single_heads p.0) singles ≡ map (λ p. accepted p.1) singles
  pub beliefs_pass : map (λ p. answer (λ s. keep (by_least_model (s.program p.3)) (up_to (2 ^ s.atoms))) (of_day p.0 p.1 p.2)) least_beliefs ≡ map (λ p. accepted p.4) least_beliefs
  pub beliefs_stable : map (λ p. answer (λ s. belief_sets s p.3) (of_day p.0 p.1 p.2)) least_beliefs ≡ map (λ p. accepted p.4) least_beliefs
  -- document 02, K7: sheets without the third section, and what the check answers where there is one
  pub two_sections_refused : map (λ e. check (old e)) known_sheets ≡ map (refusal 1) old_lengths
  -- these by the two sections of document 01, and by those the sheets with their last byte
  pub two_sections_listed : map (λ e. answer (λ x. listed (setting x)) (read (opened_two_sections (old e)))) known_sheets ≡ map (λ e. accepted (e.views, e.tally)) known_sheets
  pub last_byte_refused : map (λ e. answer numbers_of (read (opened_two_sections e.bytes))) known_sheets ≡ map (refusal 6) old_lengths
  pub pairs-checked : map (λ p. check p.0) pair_answers ≡ map (λ p. p.1) pair_answers
  -- sheets with a pair: what the check answers, and the list by the definitions and by the walk; the list with the pair the other way round, with
  -- a rule in its place, and without it
  pub pairs_are_no_rules : map (λ p. check (with_pair p.0)) pair_listings ≡ map (λ p. accepted (numbers 2 (length p.0) p.1)) pair_listings
  pub pairs-listed : map (λ p. answer result_of (of_sheet (with_pair p.0))) pair_listings ≡ map (λ p. accepted p.2) pair_listings
  pub pairs-walked : map (λ p. answer walked (of_sheet (with_pair p.0))) pair_listings ≡ map (λ p. accepted (p.2.views, p.2.tally)) pair_listings
  pub pairs-turned : map (λ p. answer result_of (of_sheet (turned p.0))) pair_listings ≡ map (λ p. accepted p.2) pair_listings
  pub pairs_as_rules : map (λ p. answer result_of (of_sheet (as_rule p.0))) pair_listings ≡ map (λ p. accepted p.2) pair_listings
  pub without_pairs : map (λ p. answer result_of (of_sheet (without_pair p.0))) pair_listings ≡ map (λ p. accepted p.3) pair_listings
  pub many_pairs_listed : map (λ p. answer result_of (of_sheet p.0)) many_pairs ≡ map (λ p. accepted p.1) many_pairs
  -- the constraints themselves
  pub pair_programs_are : map (λ p. answer (λ s. s.program p.1) (of_sheet p.0)) pair_programs ≡ map (λ p. accepted p.2) pair_programs
  pub minute_programs_are : map (λ p. answer (λ s. s.program 0) (of_minute p.0 p.1 p.2)) minute_programs ≡ map (λ p. accepted p.3) minute_programs
  -- what the calls return, with and without masks, and which guesses are contradicted
  pub pair_verdicts_returned : map (λ p. verdict_call (of_day p.0 p.1 p.2) p.3) pair_verdicts ≡ map (λ p. p.4) pair_verdicts
  pub pair_sets_returned : map (λ p. belief_sets_call (of_day p.0 p.1 p.2) p.3 p.4) pair_sets ≡ map (λ p. p.5) pair_sets
  pub pair_contradicted_or_not : map (λ p. answer (λ s. contradicted s p.3) (of_day p.0 p.1 p.2)) pair_contradicted ≡ map (λ p. accepted p.4) pair_contradicted
  pub pair_listings_returned : map (λ p. list_call (of_day p.0 p.1 p.2) p.3) pair_day_listings ≡ map (λ p. p.4) pair_day_listings
  pub pair_desk_returned : map (λ p. desk_number (desk_call (of_day p.0 p.1 p.2) (length p.3))) pair_desk ≡ map (λ p. p.4) pair_desk
  pub pair_desk_written : map (λ p. afterwards desk_bytes (desk_call (of_day p.0 p.1 p.2) (length p.3)) p.3) pair_desk ≡ map (λ p. p.5) pair_desk
  pub pair_queries_answered : map (λ p. query_call (of_day p.0 p.1 p.2) p.3) pair_queries ≡ map (λ p. p.4) pair_queries
  pub pair_minutes_returned : map (λ p. list_call (of_minute p.0 p.1 p.2) p.3) pair_minutes ≡ map (λ p. p.4) pair_minutes
  -- what is gathered, and the sets that pass by the least model
  pub pair_passes_gather : map (λ p. answer (λ s. one_pass s.atoms (s.program p.1)) (of_sheet p.0)) pair_passes ≡ map (λ p. accepted p.2) pair_passes
  pub pair_single_or_not : map (λ p. said single_heads p.0) pair_singles ≡ map (λ p. accepted p.1) pair_singles
  pub pair_beliefs_pass : map (λ p. answer (λ s. keep (by_least_model (s.program p.3)) (up_to (2 ^ s.atoms))) (of_day p.0 p.1 p.2)) pair_beliefs ≡ map (λ p. accepted p.4) pair_beliefs
  pub pair_beliefs_stable : map (λ p. answer (λ s. belief_sets s p.3) (of_day p.0 p.1 p.2)) pair_beliefs ≡ map (λ p. accepted p.4) pair_beliefs
  -- document 02, K4: the turns, what each sheet has of one allowance, and what the lent buffers then hold
  pub turns_are : map (λ p. turns p.0) turn_lists ≡ map (λ p. p.1) turn_lists
  pub shares_finished : map (λ p. share_call p.0 p.1 p.2 p.3) finished_calls ≡ map (λ p. p.4) finished_calls
  pub shares_fit : map (λ p. share_call p.0 p.1 p.2 p.3) fit_calls ≡ map (λ p. p.4) fit_calls
  pub shares_by_rounds : map (λ p. share_call p.0 p.1 p.2 p.3) round_calls ≡ map (λ p. p.4) round_calls
  pub shares_in_order : map (λ p. share_call p.0 p.1 p.2 p.3) order_calls ≡ map (λ p. p.4) order_calls
  pub shares_nine : map (λ p. share_call p.0 p.1 p.2 p.3) nine_calls ≡ map (λ p. p.4) nine_calls
  pub shares_denied : map (λ p. share_call p.0 p.1 p.2 p.3) denied_calls ≡ map (λ p. p.4) denied_calls
  pub buffers_lent : map (λ p. lent_after (share_call p.0 p.1 p.2 (map length p.3)) p.3) lent_buffers ≡ map (λ p. p.4) lent_buffers
