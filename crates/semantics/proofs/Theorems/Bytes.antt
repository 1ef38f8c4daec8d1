-- The bytes of an accepted sheet are those that its names, rules and pairs have by the layout. Assumes nothing.
use Rattle.std.specs.Prelude.{ℕ, ◌+◌, ◌/◌, ◌%◌, ◌≤◌, ◌<◌, ◌≡◌, length}
use Rattle.std.proofs.Math.Path.{sym, ap}
use Rattle.std.proofs.Common.{ap₂, ◌∙◌, add-one, take-suc, take-add}
use mathlib.Core.List.{List, [], ◌∷◌, ◌++◌, append-nil, append_assoc}
use native.Mathlib.Omega.{arith}
use Rattle.std.proofs.Math.ListN.{take}
use Rattle.std.proofs.Math.Seq.{take-length}
use Rattle.sets.specs.Lists.{all_get_d, flat, flat_snoc}
use Rattle.semantics.specs.Definitions.Reading.{Reading, field, times}
use Rattle.semantics.specs.Definitions.Sheet.{Opposites, Sheet, byte_at, name_byte_at, name_at, mask_at, rule_at, pair_at}
use Rattle.semantics.specs.Definitions.Check.{opened}
use Rattle.semantics.specs.Theorems.Reading.{times_field, times-length}
use Rattle.semantics.proofs.Theorems.Fields.{present_field, name_read, name_field_lem, mask_field, pair_field}
use Rattle.semantics.specs.Theorems.Accepted.{FrontRead}
use Rattle.semantics.proofs.Theorems.Accepted.{accepted_read}
use Rattle.semantics.specs.Theorems.Layout.{IsBytes, name_bytes, mask_bytes, rule_bytes, pair_bytes, front_bytes, sheet_bytes}

module _ (s : List ℕ) where
  -- from the place p to the place q the bytes bs stand
  abbrev Stand : (p q : ℕ) → List ℕ → Type 0
  Stand p q bs = (p ≤ q) × (q ≤ length s → take q s ≡ take p s ++ bs)

  times_stand : {A : Type 0} (step : List A → ℕ → Reading A) (bytes : A → List ℕ)
      → ((vs : List A) (p : ℕ) (v : A) (q : ℕ) → step vs p ≡ field v q → Stand p q (bytes v))
      → (n at : ℕ) {ws : List A} {end : ℕ} → times n [] step at ≡ field ws end → Stand at end (flat bytes ws)
  unfolding flat
  times_stand step bytes each n at e =
      times_field step (λ _ vs p. Stand at p (flat bytes vs)) (λ _ vs p v q h d.
      let (l, f) = each vs p v q d in (
        omega arith,
        λ m. f m ∙ ap (λ z. z ++ bytes v) (h.1 (omega arith)) ∙ append_assoc (take at s) (flat bytes vs) (bytes v)
            ∙ ap (λ z. take at s ++ z) (sym (flat_snoc bytes vs v)),
      )) n at (omega arith, λ _. sym (append-nil (take at s))) e

  byte_stands : (p : ℕ) → Stand p (p + 1) (byte_at s p ∷ [])
  byte_stands p = (omega arith, λ l. rw add-one (take-suc s p 0 (omega arith)))

  name_stands : (earlier : List (List ℕ)) (p : ℕ) (v : List ℕ) (q : ℕ) → name_at s earlier p ≡ field v q → Stand p q (name_bytes v)
  name_stands earlier p v q e =
      let (_, l, d, _) = name_read s earlier p q v e in
      let (ev, eq, _) = name_field_lem s earlier p q v e in
      let len = times-length (name_byte_at s) (byte_at s p) (p + 1) d in (
        omega arith,
        λ _. ap (λ z. take z s) eq ∙ take-add (p + 1) (byte_at s p) s ∙ ap₂ ◌++◌ ((byte_stands p).1 (omega arith)) (sym ev)
            ∙ append_assoc (take p s) (byte_at s p ∷ []) v ∙ ap (λ n. take p s ++ n ∷ v) (sym len),
      )

  module _ (small : (i : ℕ) → byte_at s i < 256) where
    mask_stands : (atoms p v q : ℕ) → mask_at s atoms p ≡ field v q → Stand p q (mask_bytes v)
    mask_stands atoms p v q e =
        let (ev, eq, _) = mask_field s atoms p v q e in
        let low : byte_at s p ≡ v % 256 = omega (arith, small p) in
        let high : byte_at s (p + 1) ≡ v / 256 = omega (arith, small p) in (
          omega arith,
          λ l.
              let after : q ≡ p + 1 + 1 = omega arith in
              ap (λ z. take z s) after ∙ (byte_stands (p + 1)).1 (omega arith) ∙ ap₂ (λ a b. a ++ b ∷ []) ((byte_stands p).1 (omega arith)) high
              ∙ append_assoc (take p s) (byte_at s p ∷ []) (v / 256 ∷ []) ∙ ap (λ b. take p s ++ b ∷ v / 256 ∷ []) low,
        )

    rule_stands : (atoms : ℕ) (earlier : List (List ℕ)) (p : ℕ) (v : List ℕ) (q : ℕ) → rule_at s atoms p ≡ field v q → Stand p q (rule_bytes v)
    unfolding rule_at
    rule_stands atoms earlier p v q e =
        times_stand (λ _. mask_at s atoms) mask_bytes (λ _. mask_stands atoms) 8 p (present_field s p 16 (times 8 [] (λ _. mask_at s atoms) p) e).1

    -- names and rules, up to the place after them
    front_stands : (names rules : List (List ℕ)) (rules_at end : ℕ) → FrontRead s names rules rules_at end → end ≤ length s → take end s ≡ front_bytes names rules
    front_stands names rules rules_at end r l =
        let n = length names in
        let m = length rules in
        let (_, named) = times_stand (name_at s) name_bytes name_stands n 1 r.names-read in
        let (_, ruled) = times_stand (λ _. rule_at s n) rule_bytes (rule_stands n) m rules_at r.rules-read in
        let names-counted : take 1 s ≡ n ∷ [] = (byte_stands 0).1 r.some_bytes ∙ ap (λ b. b ∷ []) r.atoms_byte in
        let rules-counted : take rules_at s ≡ take r.counted_at s ++ m ∷ [] =
        ap (λ p. take p s) r.after_count ∙ (byte_stands r.counted_at).1 r.more_bytes
        ∙ ap (λ b. take r.counted_at s ++ b ∷ []) r.rules_byte in
        let before-rules : take rules_at s ≡ (n ∷ flat name_bytes names) ++ m ∷ [] =
        rules-counted ∙ ap (λ z. z ++ m ∷ []) (named (omega (arith, r.more_bytes)) ∙ ap (λ z. z ++ flat name_bytes names) names-counted) in
        ruled l ∙ ap (λ z. z ++ flat rule_bytes rules) before-rules ∙ append_assoc (n ∷ flat name_bytes names) (m ∷ []) (flat rule_bytes rules)

    pair_stands : (atoms : ℕ) (earlier : List Opposites) (p : ℕ) (v : Opposites) (q : ℕ) → pair_at s atoms earlier p ≡ field v q → Stand p q (pair_bytes v)
    pair_stands atoms earlier p v q e =
        let (ev, eq, _, _) = pair_field s atoms earlier p q v e in (
          omega arith,
          λ l.
              let after : q ≡ p + 1 + 1 = omega arith in
              ap (λ z. take z s) after ∙ (byte_stands (p + 1)).1 (omega arith) ∙ ap (λ z. z ++ byte_at s (p + 1) ∷ []) ((byte_stands p).1 (omega arith))
              ∙ append_assoc (take p s) (byte_at s p ∷ []) (byte_at s (p + 1) ∷ []) ∙ ap (λ w. take p s ++ pair_bytes w) (sym ev),
        )

    sheet_stands : (x : Sheet) (end : ℕ) → opened s ≡ field x end → s ≡ sheet_bytes x.names x.rules x.pairs
    sheet_stands x end e =
        let r = (accepted_read s x end e).0 in
        let n = length x.pairs in
        let at = r.pairs_counted in
        let (_, paired) = times_stand (pair_at s (length x.names)) pair_bytes (pair_stands (length x.names)) n (at + 1) r.pairs-read in
        let F = front_bytes x.names x.rules in
        let counted : take (at + 1) s ≡ F ++ n ∷ [] =
        (byte_stands at).1 r.last_bytes
        ∙ ap₂ (λ z b. z ++ b ∷ []) (front_stands x.names x.rules x.rules_at at r.front_read (omega (arith, r.last_bytes))) r.pairs_byte in
        sym (ap (λ p. take p s) r.ends ∙ take-length s) ∙ paired (omega (arith, r.ends)) ∙ ap (λ z. z ++ flat pair_bytes x.pairs) counted
        ∙ append_assoc F (n ∷ []) (flat pair_bytes x.pairs)

pub accepted_bytes : (s : List ℕ) → IsBytes s → (x : Sheet) (end : ℕ) → opened s ≡ field x end → s ≡ sheet_bytes x.names x.rules x.pairs
accepted_bytes s h = sheet_stands s (all_get_d (λ b. b < 256) s 0 h (omega arith))
