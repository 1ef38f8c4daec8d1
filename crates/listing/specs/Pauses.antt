-- A paused listing as the code holds it. Assumes nothing.
use Rattle.std.specs.Prelude.{ℕ, ◌+◌, ◌^◌, ◌≤◌, ◌<◌, ◌≡◌, Bool, true, false, None, Some, is_some, List, length, get_or, take}
use Rattle.sets.specs.Lists.{some}
use Rattle.sets.specs.Sets.{◌⊂?◌}
use Rattle.semantics.specs.Definitions.Setting.{Setting, k}
use Rattle.semantics.specs.Definitions.Propagation.{contradicted}
use Rattle.semantics.specs.Definitions.Order.{members_below}
use Rattle.semantics.specs.Definitions.Listing.{View}
use Rattle.semantics.specs.Words.{program_room, program_in}
use Rattle.semantics.specs.Walk.{Ruled, counted_by, advance, walk}
use Rattle.semantics.specs.Theorems.Tests.{StandsAt}
use Rattle.guess.specs.declared.outline.Outline.{Outline}
use Rattle.guess.specs.Programs.{unmasked_in, setting_in}
use Rattle.listing.specs.declared.paused.Paused.{Paused}
use Rattle.records.specs.Records.{views_in}
use Rattle.records.specs.Outcomes.{tally_from}
use Rattle.listing.specs.Walks.{walked_in}

-- before the first guess
abbrev pub fresh : Paused
fresh = record { at = 0; tally = record { views = 0; covered = 0; ruled = 0; tested = 0; empty = 0; other = 0 }; waiting = None }

-- the next guess is known to be one that is tested
abbrev pub waits : Paused → Bool
waits p = is_some p.waiting

-- where it stands with n tests spent, along a list of guesses
abbrev pub Stands : Setting → (order : List ℕ) (n : ℕ) → Paused → (records : List ℕ) → Type 0
Stands s order n p records = StandsAt s (members_below (k s) order) n p.tally.tested (views_in records p.tally.views) (waits p)

-- of rules in words, with their outline
module _ (x : Outline) (words : List ℕ) where
  -- the guess would be tested: no view met covers it, it is not contradicted, and its reduct is the first rules of the program
  pub record Ready (guess : ℕ) (met : List View) (program : List ℕ) (rules : ℕ) : Type 0 where
    pub uncovered : some (λ v. guess ⊂? v.guess) met ≡ false
    pub free : contradicted (setting_in x words) guess ≡ false
    pub few : rules ≤ program_room
    pub reduct : program_in program rules ≡ (unmasked_in x words).program guess

  -- the guess is looked at, r once p: it waits, and nothing is counted; or it is contradicted, and counted
  pub record Looked (guess : ℕ) (p r : Paused) (program : List ℕ) : Type 0 where
    pub same_at : r.at ≡ p.at
    pub where_waits : (rules : ℕ) → r.waiting ≡ Some rules
        → (r.tally ≡ p.tally) × (contradicted (setting_in x words) guess ≡ false) × (rules ≤ program_room)
        × (program_in program rules ≡ (unmasked_in x words).program guess)
    pub where_ruled : waits r ≡ false
        → (contradicted (setting_in x words) guess ≡ true) × (tally_from r.tally ≡ counted_by (tally_from p.tally) Ruled)

  -- a guess further, r once p: it waits, for as many tests are made as may be; or it is counted and passed
  pub record Advanced (guess most : ℕ) (p : Paused) (records : List ℕ) (r : Paused) (program' records' : List ℕ) : Type 0 where
    pub where_waits : (rules : ℕ) → r.waiting ≡ Some rules
        → (r.at ≡ p.at) × (r.tally.tested ≡ most) × (walked_in r.tally records' ≡ walked_in p.tally records)
        × Ready guess (views_in records' r.tally.views) program' rules
    pub where_passed : waits r ≡ false
        → (r.at ≡ p.at + 1) × (r.tally.tested ≤ most)
        × (walked_in r.tally records' ≡ advance (setting_in x words) (walked_in p.tally records) guess)

  -- it is the walk along the entries that it has passed; and where its next guess waits, that would be tested
  pub record Along (order : List ℕ) (p : Paused) (program records : List ℕ) : Type 0 where
    pub within : p.at ≤ length order
    pub walked : walked_in p.tally records ≡ walk (setting_in x words) (members_below x.negations (take p.at order))
    pub waiting : (rules : ℕ) → p.waiting ≡ Some rules
        → (p.at < length order) × (get_or order p.at 0 < 2 ^ x.negations) × Ready (get_or order p.at 0) (views_in records p.tally.views) program rules
