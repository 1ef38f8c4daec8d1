-- The lines of `views` in a lent buffer. Assumes nothing.
use Rattle.std.specs.Prelude.{ℕ, ◌≡◌, List, [], ◌∷◌, ◌++◌, take, drop}
use Rattle.semantics.specs.Definitions.Check.{said}
use Rattle.semantics.specs.Definitions.Returned.{accepted}
use Rattle.semantics.specs.Definitions.Program.{bytes, decimal}
use Rattle.semantics.specs.Definitions.Listing.{Tally}
use Rattle.answers.specs.declared.tally.Tally.{Tally as Counts}
use Rattle.text.specs.Names.{atoms_in, member_fields}

-- the line stands in the first r bytes, and the rest of the buffer is as it was before
pub record Holds (line before after : List ℕ) (r : ℕ) : Type 0 where
  pub front : take r after ≡ line
  pub rest : drop r after ≡ drop r before

-- the line that the names of the sheet give, where the bytes are an accepted sheet
abbrev pub HoldsFor : List ℕ → (List (List ℕ) → List ℕ) → (before after : List ℕ) → ℕ → Type 0
HoldsFor s line before after r = (names : List (List ℕ)) → said (λ x. x.names) s ≡ accepted names → Holds (line names) before after r

-- ---- lines with names, read off any bytes
-- `view`, guess, number of sets, and the names of the known atoms
abbrev pub view_read : List ℕ → (guess sets known : ℕ) → List ℕ
view_read s guess sets known = bytes "view" ++ 32 ∷ decimal guess ++ 32 ∷ decimal sets ++ member_fields s known (atoms_in s) ++ 10 ∷ []

-- `set` and its names
abbrev pub set_read : List ℕ → (set : ℕ) → List ℕ
set_read s set = bytes "set" ++ member_fields s set (atoms_in s) ++ 10 ∷ []

-- ---- the six counts
-- the tally that the counts of the code stand for
abbrev pub tally_from : Counts → Tally
tally_from t = record { views = t.views; covered = t.covered; ruled = t.ruled; tested = t.tested; empty = t.empty; other = t.other }
