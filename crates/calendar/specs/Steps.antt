-- The reading that the answer of a step stands for. Assumes nothing.
use Rattle.std.specs.Prelude.{Result, Ok, Err}
use Rattle.answers.specs.Refusals.{number_of}
use Rattle.answers.specs.declared.refusal.Refusal.{Refusal}
use Rattle.semantics.specs.Definitions.Reading.{Reading, refused}

-- of what was read, the reading that is told; of a refusal, that with its number and place
abbrev pub reading_by : {A V : Type 0} → (V → Reading A) → Result V Refusal → Reading A
reading_by of (Ok v) = of v
reading_by of (Err q) = refused (number_of q.reason) q.place
