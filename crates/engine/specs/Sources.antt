-- The listing of a source. Assumes nothing.
use Rattle.std.specs.Prelude.{ℕ, List}
use Rattle.semantics.specs.Definitions.Setting.{Setting}
use Rattle.semantics.specs.Definitions.Returned.{Returned}
use Rattle.source.specs.Sources.{Source, Reads}
use Rattle.answers.specs.declared.tally.Tally.{Tally as Counts}
use Rattle.engine.specs.Answers.{OrRefused}
use Rattle.engine.specs.Demand3.{AsListed}

-- r and what is left in the lent buffer are those of the listing, of whatever source was read so
abbrev pub Lists : Source → (words : List ℕ) → OrRefused Counts → (before after : List ℕ) → Type 0
Lists source words r before after = (from : Returned Setting) → Reads from source words
    → AsListed from r before after
