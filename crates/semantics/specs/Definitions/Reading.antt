-- Document 01, "The sheet": "A reading step that doesn't yield a field ends the reading with its refusal."
use Rattle.std.specs.Prelude.{ℕ, zero, suc, Bool, cond, List, [], ◌∷◌, ◌++◌}

-- What a step answers: a field and the next place, or a refusal by its number and place.
pub data Reading (A : Type 0) : Type 0 where
  field : (value : A) (next : ℕ) → Reading A
  refused : (number place : ℕ) → Reading A

infixr 30 ◌then◌
-- a step, and then the rest of the reading, which takes the field and the next place
abbrev pub ◌then◌ : {A B : Type 0} → Reading A → (A → ℕ → Reading B) → Reading B
(field value next) then rest = rest value next
(refused number place) then rest = refused number place

-- the rest of the reading where a check is passed; otherwise the refusal of that number and place
abbrev pub require : {A : Type 0} → Bool → (number place : ℕ) → Reading A → Reading A
require passed number place rest = cond passed rest (refused number place)

-- a step taken n more times; each is told the fields before its own
unfoldable pub times : {A : Type 0} → ℕ → (earlier : List A) → (List A → ℕ → Reading A) → ℕ → Reading (List A)
times zero earlier step at = field earlier at
times (suc n) earlier step at = step earlier at then λ value next. times n (earlier ++ value ∷ []) step next
