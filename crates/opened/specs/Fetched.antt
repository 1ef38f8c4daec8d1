-- A rule fetched by number from an opened sheet: "a number not below the rule count yields "no rule"". Assumes nothing.
use Rattle.std.specs.Prelude.{ℕ, ◌+◌, ◌*◌, ◌≤◌, ◌<◌, cond, ◌≡◌, Option, Some, None, List, [], ltb, length, get_or}
use Rattle.std.proofs.Common.{sym, ap, ◌∙◌, ⊎_elim, arith, lt-ltb, le-ltb}
use Rattle.sets.specs.Decides.{unequal, decided, dec_le}
use Rattle.semantics.specs.Definitions.Reading.{field}
use Rattle.semantics.specs.Definitions.Sheet.{Sheet, longest_sheet, most_rules}
use Rattle.semantics.specs.Definitions.Check.{opened}
use Rattle.semantics.specs.Fields.{rule_from}
use Rattle.semantics.proofs.Theorems.Accepted.{accepted_read, accepted_lies, rule_lies}

-- "An opened sheet refers to the lent bytes and remembers where the rules begin", and how many there are: the bytes are an accepted sheet, its
-- rules begin at that place, and it has that many
abbrev pub RulesBegin : List ℕ → (at rules : ℕ) → Type 0
RulesBegin s at rules = (x : Sheet) × (end : ℕ) × (opened s ≡ field x end) × (at ≡ x.rules_at) × (rules ≡ length x.rules)

-- the rule of a number, by the place of its first byte: a rule exactly for the numbers below the rule count
abbrev pub fetched : (rules_at rules number : ℕ) → Option ℕ
fetched rules_at rules number = cond (ltb number rules) (Some (rules_at + 16 * number)) None

abbrev pub rule_of : Sheet → (number : ℕ) → Option ℕ
rule_of x number = fetched x.rules_at (length x.rules) number

-- what is fetched by a number, of the sheet that the bytes are
abbrev pub RuleByNumber : List ℕ → (number : ℕ) → Option ℕ → Type 0
RuleByNumber s number r = (x : Sheet) (end : ℕ) → opened s ≡ field x end → r ≡ rule_of x number

-- of an accepted sheet
module _ (s : List ℕ) (x : Sheet) (end : ℕ) (e : opened s ≡ field x end) (i : ℕ) where
  pub fetched-rule : i < length x.rules
      → (rule_of x i ≡ Some (x.rules_at + 16 * i)) × (get_or x.rules i [] ≡ rule_from s (x.rules_at + 16 * i)) × (x.rules_at + 16 * i + 16 ≤ length s)
  fetched-rule h = (rw (lt-ltb _ _ h), rule_lies s x end e i h, omega (arith, (accepted_lies s x end e).whole))

  pub fetched-none : length x.rules ≤ i → rule_of x i ≡ None
  fetched-none h = rw (le-ltb _ _ h)

module _ (s : List ℕ) (at rules : ℕ) (begin : RulesBegin s at rules) where
  -- of whatever sheet the bytes are: there is only one
  pub remembered : (y : Sheet) (last : ℕ) → opened s ≡ field y last → (at ≡ y.rules_at) × (rules ≡ length y.rules)
  remembered y last f =
      let (x, end, e, there, many) = begin in
      let z : field x end ≡ field y last = sym e ∙ f in
      let same : x ≡ y = cc in
      (there ∙ ap (λ w. w.rules_at) same, many ∙ ap (λ w. length w.rules) same)

  -- the last rule ends within the longest sheet
  pub few_bytes : at + 16 * rules ≤ longest_sheet
  few_bytes =
      let (x, end, e, there, many) = begin in
      let l = accepted_lies s x end e in
      omega (arith, l.whole, l.not_long)

  pub few_rules : rules ≤ most_rules
  few_rules =
      let (x, end, e, there, many) = begin in
      omega (arith, (accepted_read s x end e).0.front_read.few_rules)

  module _ (number : ℕ) {r : Option ℕ} where
    pub by_number : r ≡ fetched at rules number → RuleByNumber s number r
    by_number is y last f =
        let (there, many) = remembered y last f in
        is ∙ rw (there, many)

    -- what the answer says: a rule of a number below the rule count, all its bytes there; or none, of another number
    module _ (is : RuleByNumber s number r) where
      pub fetched_place : {place : ℕ} → r ≡ Some place → (number < rules) × (place ≡ at + 16 * number) × (place + 16 ≤ length s)
      fetched_place {place} told =
          let (x, end, e, there, many) = begin in
          let w = is x end e in
          ⊎_elim
          (λ h.
          let none = fetched-none s x end e number (omega arith) in
          unequal cc)
          (λ h.
          let (rule, _, l) = fetched-rule s x end e number (omega arith) in
          let p : place ≡ x.rules_at + 16 * number = cc in
          (omega arith, omega arith, omega arith))
          (decided (dec_le rules number))

      pub fetched_all : r ≡ None → rules ≤ number
      fetched_all told =
          let (x, end, e, there, many) = begin in
          let w = is x end e in
          ⊎_elim
          (λ h. h)
          (λ h.
          let (rule, _, _) = fetched-rule s x end e number (omega arith) in
          unequal cc)
          (decided (dec_le rules number))
