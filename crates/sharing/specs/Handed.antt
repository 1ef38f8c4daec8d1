-- What the code hands out of the paused listings. Assumes nothing.
use Rattle.std.specs.Prelude.{ℕ, not, cond, List, [], ◌∷◌, ltb, get_or}
use Rattle.semantics.specs.Definitions.Returned.{written}
use Rattle.semantics.specs.Definitions.Listing.{words}
use Rattle.semantics.specs.Definitions.Sharing.{Numbers, Carried}
use Rattle.listing.specs.declared.paused.Paused.{Paused}
use Rattle.records.specs.Records.{views_in}
use Rattle.listing.specs.Pauses.{fresh, waits}
use Rattle.sharing.specs.Held.{spent_in}

-- one for each sheet
abbrev pub four : {A : Type 0} → A → A → A → A → List A
four a b c d = a ∷ b ∷ c ∷ d ∷ []

-- the numbers of one
abbrev pub numbers_at : Paused → Numbers
numbers_at p = record { finished = not (waits p); tests = p.tally.tested; views = p.tally.views }

-- of all
abbrev pub carried_in : List Paused → Carried
carried_in states = record {
  tests = spent_in states;
  each = numbers_at (get_or states 0 fresh) ∷ numbers_at (get_or states 1 fresh) ∷ numbers_at (get_or states 2 fresh) ∷ numbers_at (get_or states 3 fresh) ∷ [];
}

-- the buffer at a position, with the records of its sheet where it is one of the n
abbrev pub handed_at : (n : ℕ) → List Paused → (records : List (List ℕ)) (position : ℕ) (buffer : List ℕ) → List ℕ
handed_at n states records q buffer = cond (ltb q n) (written (words (views_in (get_or records q []) (get_or states q fresh).tally.views)) buffer) buffer
