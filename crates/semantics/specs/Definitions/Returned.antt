-- Document 01, "Turned back at the door": what a call returns, and what it leaves in a lent buffer.
use Rattle.std.specs.Prelude.{ℕ, cond, List, ◌++◌, leb, length, drop}
use Rattle.semantics.specs.Definitions.Reading.{Reading, field, refused}

-- What a call returns: its values where it is accepted, or the refusal's number and place (a place in the sheet or the calendar, or the other
-- number that the table "Returned" gives).
pub data Returned (A : Type 0) : Type 0 where
  accepted : (values : A) → Returned A
  refusal : (number place : ℕ) → Returned A

-- what was read, or the refusal that ended the reading
abbrev pub read : {A : Type 0} → Reading A → Returned A
read (field value end) = accepted value
read (refused number place) = refusal number place

infixr 30 ◌and_then◌
-- a step of a call, and then the rest of it, which takes the values of the step; where the step is refused, so is the call
abbrev pub ◌and_then◌ : {A B : Type 0} → Returned A → (A → Returned B) → Returned B
(accepted values) and_then rest = rest values
(refusal number place) and_then rest = refusal number place

-- something of the values; a refusal stays as it is
abbrev pub answer : {A B : Type 0} → (A → B) → Returned A → Returned B
answer of r = r and_then λ values. accepted (of values)

-- values that need so many words, once all else is judged: "9, number of sets or views" (of minutes: Calendar.antt) where there are fewer
abbrev pub limited : {A : Type 0} → (needed words number : ℕ) → A → Returned A
limited needed words number values = cond (leb needed words) (accepted values) (refusal 9 number)

-- "When a call is accepted, whatever part of a lent buffer its answer doesn't fill keeps its contents.": a lent buffer after the words ws
-- are written to its front
abbrev pub written : List ℕ → List ℕ → List ℕ
written ws buffer = ws ++ drop (length ws) buffer

-- "Every lent buffer holds what it held" where the call is refused: a lent buffer after a call whose values are written to it as words
abbrev pub afterwards : {A : Type 0} → (A → List ℕ) → Returned A → List ℕ → List ℕ
afterwards words (accepted values) buffer = written (words values) buffer
afterwards words (refusal number place) buffer = buffer
