-- Where the sheets of a companion may stand, and how many cells may be lent. Assumes nothing.
use Rattle.std.specs.Prelude.{ℕ, ◌≤◌, ◌≡◌, List, length, get_or}
use Rattle.calls.specs.declared.companion.Part.{Part}

-- a sheet in so many bytes
abbrev pub Within : Part → (bytes : ℕ) → Type 0
Within p n = (p.from ≤ p.to) × (p.to ≤ n) × (p.cells ≤ 8000)

-- no sheet
abbrev pub none : Part
none = record { from = 0; to = 0; cells = 0 }

-- each of four
abbrev pub AllWithin : List Part → (bytes : ℕ) → Type 0
AllWithin each n = (length each ≡ 4) × ((q : ℕ) → Within (get_or each q none) n)
