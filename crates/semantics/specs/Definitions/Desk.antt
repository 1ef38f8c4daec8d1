-- Document 01, "Order and listing": the listing "offered to the desk program, [..] on numbers and bytes".
use Rattle.std.specs.Prelude.{ℕ, ◌+◌, ◌*◌, ◌/◌, ◌%◌, List, [], ◌∷◌, ◌++◌}
use Rattle.sets.specs.Lists.{flat}
use Rattle.semantics.specs.Definitions.Setting.{Setting}
use Rattle.semantics.specs.Definitions.Returned.{Returned, accepted, refusal}
use Rattle.semantics.specs.Definitions.Listing.{six}
use Rattle.semantics.specs.Definitions.Calls.{Result, records_of, list_into}

-- "two bytes a word, low byte first"
abbrev pub bytes_of : List ℕ → List ℕ
bytes_of ws = flat (λ w. w % 256 ∷ w / 256 ∷ []) ws

-- the words of so many bytes: "an odd last byte adds no word"
unfoldable pub words_in : List ℕ → List ℕ
words_in [] = []
words_in (b ∷ []) = []
words_in (low ∷ high ∷ bytes) = (low + 256 * high) ∷ words_in bytes

-- "its words begin with the six of the result in the order above, and the records follow"
abbrev pub desk_bytes : Result → List ℕ
desk_bytes r = bytes_of (six r.tally ++ records_of r)

-- "at the desk call 6 + 4 times views"
abbrev pub desk_need : (views : ℕ) → ℕ
desk_need views = 6 + 4 * views

-- 9 where these are "over the words"; so many bytes have half as many words
abbrev pub desk_call : (from : Returned Setting) (bytes : ℕ) → Returned Result
desk_call from bytes = list_into desk_need from (bytes / 2)

-- "That call returns a 32-bit number, 0, or the refusal's number times 65,536 plus its place". The lent bytes then are `afterwards desk_bytes`
-- of it. ("an odd last byte [..] is kept")
abbrev pub desk_number : {A : Type 0} → Returned A → ℕ
desk_number (accepted values) = 0
desk_number (refusal number place) = number * 65536 + place
