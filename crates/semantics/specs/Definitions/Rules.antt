-- Document 01, "The sheet": rules.
use Rattle.std.specs.Prelude.{ℕ}

-- A rule without K and M. Each field is a set of atoms: "head, plain, not, not not".
pub record Rule : Type 0 where
  pub head : ℕ
  pub plain : ℕ
  pub nots : ℕ
  pub not_nots : ℕ

-- The literals with K or M (000, Definitions 1 and 2: subjective literals): "K, not K, M, not M".
pub data Subjective : Type 0 where
  K not_k M not_m : Subjective

-- A rule of the sheet: masks 0 to 3 as a rule without K and M, and for each kind of subjective literal the set of its atoms.
pub record EpistemicRule : Type 0 where
  pub objective : Rule
  pub mask : Subjective → ℕ

-- masks 4 to 7
abbrev pub mask_number : Subjective → ℕ
mask_number K = 4
mask_number not_k = 5
mask_number M = 6
mask_number not_m = 7

-- "Masks 0 to 7 are: head, plain, not, not not, K, not K, M, not M."
abbrev pub rule_of : (ℕ → ℕ) → EpistemicRule
rule_of masks = record {
  objective = record { head = masks 0; plain = masks 1; nots = masks 2; not_nots = masks 3 };
  mask = λ m. masks (mask_number m);
}
