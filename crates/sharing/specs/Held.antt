-- The sheets of a shared call as the code holds them, by their positions: sources with words, and paused listings with their programs and
-- records. Assumes nothing.
use Rattle.std.specs.Prelude.{ℕ, ◌+◌, ◌^◌, ◌≤◌, ◌<◌, ◌≡◌, not, List, [], map, ◌⊎◌, length, get_or, take, Ok, Err}
use Rattle.sets.specs.Lists.{up_to}
use Rattle.semantics.specs.Definitions.Setting.{Setting, setting_of}
use Rattle.semantics.specs.Definitions.Check.{most_negations, of_sheet}
use Rattle.semantics.specs.Definitions.Sharing.{tests_of, met_in, finished_in, in_all, turns_at, paid}
use Rattle.guess.specs.Programs.{setting_in, Outlines}
use Rattle.source.specs.Sources.{Source, Reads}
use Rattle.listing.specs.declared.paused.Paused.{Paused}
use Rattle.records.specs.Records.{views_in}
use Rattle.listing.specs.Pauses.{fresh, waits, Along}

-- ---- a sheet
-- what stands for no sheet
abbrev pub unread : Source
unread = Ok (record { atoms = 0; rules = 0; negations = 0; k_atoms = 0; m_atoms = 0; ins = 0; outs = 0 })

-- its setting; of a refused one that of no rules, which nobody asks for
abbrev pub setting_from : Source → (words : List ℕ) → Setting
setting_from (Ok x) words = setting_in x words
setting_from (Err q) words = setting_of 0 []

-- it is accepted, and the words have its outline
abbrev pub IsRead : Source → (words : List ℕ) → Type 0
IsRead (Ok x) words = Outlines x words
IsRead (Err q) words = ⊥

-- its listing, paused
abbrev pub Goes : Source → (words order : List ℕ) → Paused → (program records : List ℕ) → Type 0
Goes (Ok x) words order p program records = Along x words order p program records
Goes (Err q) words order p program records = ⊥

-- what it has with t tests spent
pub record Has (s : Setting) (t : ℕ) (p : Paused) (records : List ℕ) : Type 0 where
  pub tests_are : p.tally.tested ≡ length (take t (tests_of s))
  pub views_are : views_in records p.tally.views ≡ met_in s t
  pub waits_where : waits p ≡ not (finished_in s t)

-- ---- the sheets, by position
module _ (sources : List Source) (words : List (List ℕ)) where
  abbrev pub setting_at : ℕ → Setting
  setting_at q = setting_from (get_or sources q unread) (get_or words q [])

  -- the settings of the first n
  abbrev pub settings_in : ℕ → List Setting
  settings_in n = map setting_at (up_to n)

  -- so far as they are read
  abbrev pub ReadTo : (sheets : List (List ℕ)) (n : ℕ) → Type 0
  ReadTo sheets n = (q : ℕ) → q < n → Reads (of_sheet (get_or sheets q [])) (get_or sources q unread) (get_or words q [])

  abbrev pub AllRead : (n : ℕ) → Type 0
  AllRead n = (q : ℕ) → q < n → IsRead (get_or sources q unread) (get_or words q [])

  abbrev pub AllGo : (order : List ℕ) (n : ℕ) → List Paused → (programs records : List (List ℕ)) → Type 0
  AllGo order n states programs records =
      (q : ℕ) → q < n → Goes (get_or sources q unread) (get_or words q []) order (get_or states q fresh) (get_or programs q []) (get_or records q [])

  -- sheet q has had t tests, or all it has
  abbrev pub HasAt : (t : ℕ) → List Paused → (records : List (List ℕ)) → ℕ → Type 0
  HasAt t states records q = Has (setting_at q) t (get_or states q fresh) (get_or records q [])

  -- before a turn with t tests it had as many as then, or one fewer
  abbrev pub Near : (n t : ℕ) → List Paused → Type 0
  Near n t states = (q : ℕ) → q < n
      → ((get_or states q fresh).tally.tested ≤ length (take t (tests_of (setting_at q)))) × (length (take t (tests_of (setting_at q))) ≤ (get_or states q fresh).tally.tested + 1)

  -- what each of the first n has after the turns that the allowance pays for
  abbrev pub Served : (n allowance : ℕ) → List Paused → (records : List (List ℕ)) → Type 0
  Served n allowance states records = (q : ℕ) → q < n → HasAt (turns_at (paid allowance (settings_in n)) q) states records q

-- all tests
abbrev pub spent_in : List Paused → ℕ
spent_in states = in_all (map (λ p. p.tally.tested) states)

-- no listing has more views or tests than guesses
abbrev pub FewAll : List Paused → Type 0
FewAll states = (q : ℕ) → ((get_or states q fresh).tally.views ≤ 2 ^ most_negations) × ((get_or states q fresh).tally.tested ≤ 2 ^ most_negations)

-- no position from n on has had a turn
abbrev pub Idle : (n : ℕ) → List Paused → Type 0
Idle n states = (q : ℕ) → n ≤ q → get_or states q fresh ≡ fresh

-- the others are as they were
abbrev pub Kept : {A : Type 0} → (none : A) → (P : ℕ → Type 0) → List A → List A → Type 0
Kept none P before after = (q : ℕ) → P q → get_or after q none ≡ get_or before q none

-- ---- a turn of sheet p, with t tests
pub record Turned (sources : List Source) (words : List (List ℕ)) (order : List ℕ) (p t : ℕ) (states states' : List Paused) (programs programs' records records' : List (List ℕ)) : Type 0 where
  pub long : length states' ≡ length states
  pub goes : Goes (get_or sources p unread) (get_or words p []) order (get_or states' p fresh) (get_or programs' p []) (get_or records' p [])
  pub has : HasAt sources words t states' records' p
  pub other_states : Kept fresh (λ q. q ≡ p → ⊥) states states'
  pub other_programs : Kept [] (λ q. q ≡ p → ⊥) programs programs'
  pub other_records : Kept [] (λ q. q ≡ p → ⊥) records records'
  pub in_all : spent_in states' + (get_or states p fresh).tally.tested ≡ spent_in states + (get_or states' p fresh).tally.tested

-- ---- a round of the first n, with t tests each, as far as `left` tests more reach: the first `turned` have had their turn
pub record Rounded (sources : List Source) (words : List (List ℕ)) (order : List ℕ) (n t left : ℕ) (states states' : List Paused) (programs' records records' : List (List ℕ)) : Type 0 where
  pub long : length states' ≡ length states
  pub turned : ℕ
  pub within : turned ≤ n
  pub go : AllGo sources words order n states' programs' records'
  pub have : (q : ℕ) → q < turned → HasAt sources words t states' records' q
  pub others : Kept fresh (λ q. turned ≤ q) states states'
  pub other_records : Kept [] (λ q. turned ≤ q) records records'
  pub few : spent_in states' ≤ spent_in states + left
  pub ended : (turned ≡ n) ⊎ (spent_in states' ≡ spent_in states + left)
