-- What a step yields where it yields a field, read off the bytes: where names, masks, rules and pairs lie. Assumes nothing.
use Prim.Native.Nat.{ℕ, zero, suc, ◌+◌, ◌*◌, ◌^◌, ◌<◌, ◌≤◌}
use Rattle.std.specs.Prelude.{◌≡◌, true, leb, ltb, length, drop}
use Rattle.std.proofs.Math.Path.{refl, ap, subst}
use Rattle.std.proofs.Common.{sym, ◌∙◌, ⊎_elim, eq-or-lt_of_le, le_of_suc-le-suc, length-drop, take-suc, get_or-drop}
use Rattle.std.proofs.Math.Bool.{not}
use mathlib.Core.List.{List, [], ◌∷◌, ◌++◌, map-append}
use native.Mathlib.Omega.{arith}
use borrow.Author.Tests.{leb-true, ltb-true}
use Rattle.sets.specs.Lists.{nowhere, all_snoc, some, same_list, null, up_to}
use Rattle.sets.specs.Sets.{Below, AllBelow}
use Rattle.semantics.specs.Definitions.Reading.{Reading, field, times}
use Rattle.semantics.specs.Definitions.Sheet.{Opposites, good_pair, byte_at, word_at, between, longest_name, present, count_at, name_byte, name_byte_at, name_at, mask_at, rule_at, pair_from, pair_at}
use Rattle.semantics.specs.Fields.{bytes_from, name_from, after_name, names_from, after_names, masks_from, rule_from, rules_from, pairs_from}
use Rattle.semantics.specs.Theorems.Reading.{then_field, require_field, field_same, times_field}

module _ (s : List ℕ) where
  -- ---- one name more, one byte, mask, rule or pair more
  pub names_from-more : (n at : ℕ) → names_from s (suc n) at ≡ names_from s n at ++ name_from s (after_names s n at) ∷ []
  unfolding names_from after_names
  names_from-more zero at = refl
  names_from-more (suc n) at = ap (λ l. name_from s at ∷ l) (names_from-more n (after_name s at))

  pub after_names-more : (n at : ℕ) → after_names s (suc n) at ≡ after_name s (after_names s n at)
  unfolding after_names
  after_names-more zero at = refl
  after_names-more (suc n) at = after_names-more n (after_name s at)

  pub after_names_rises : (a n at : ℕ) → a ≤ n → after_names s a at ≤ after_names s n at
  after_names_rises a zero at h = let e : a ≡ 0 = omega arith in subst (λ m. after_names s a at ≤ after_names s m at) e (omega arith)
  after_names_rises a (suc n) at h =
      ⊎_elim
      (λ e. subst (λ m. after_names s a at ≤ after_names s m at) e (omega arith))
      (λ l. omega (arith, after_names_rises a n at (le_of_suc-le-suc l), after_names-more n at))
      (eq-or-lt_of_le h)

  pub bytes_from-more : (n at : ℕ) → at + n < length s → bytes_from s (suc n) at ≡ bytes_from s n at ++ byte_at s (at + n) ∷ []
  bytes_from-more n at h =
      let l : n < length (drop at s) = rw length-drop (omega arith) in
      take-suc (drop at s) n 0 l ∙ rw get_or-drop

  pub masks_from-more : (n at : ℕ) → masks_from s (suc n) at ≡ masks_from s n at ++ word_at s (at + 2 * n) ∷ []
  unfolding up_to
  masks_from-more n at = map-append (λ i. word_at s (at + 2 * i)) (up_to n) (n ∷ [])

  pub rules_from-more : (n at : ℕ) → rules_from s (suc n) at ≡ rules_from s n at ++ rule_from s (at + 16 * n) ∷ []
  unfolding up_to
  rules_from-more n at = map-append (λ i. rule_from s (at + 16 * i)) (up_to n) (n ∷ [])

  pub pairs_from-more : (n at : ℕ) → pairs_from s (suc n) at ≡ pairs_from s n at ++ pair_from s (at + 2 * n) ∷ []
  unfolding up_to
  pairs_from-more n at = map-append (λ i. pair_from s (at + 2 * i)) (up_to n) (n ∷ [])

  -- ---- one step
  pub present_field : {A : Type 0} (at n : ℕ) (rest : Reading A) {v : A} {next : ℕ} → present s at n rest ≡ field v next
      → (at + n ≤ length s) × (rest ≡ field v next)
  present_field at n rest e =
      let (t, r) = require_field (leb (at + n) (length s)) 1 (length s) rest e in
      (leb-true (at + n) (length s) t, r)

  pub count_field : (limit at v next : ℕ) → count_at s limit at ≡ field v next
      → (v ≡ byte_at s at) × (next ≡ at + 1) × (v ≤ limit) × (at + 1 ≤ length s)
  unfolding count_at
  count_field limit at v next e =
      let (l, r) = present_field at 1 _ e in
      let (t, d) = require_field (leb (byte_at s at) limit) 2 at (field (byte_at s at) (at + 1)) r in
      let (ev, en) = field_same d in
      (ev, en, omega (arith, leb-true (byte_at s at) limit t), l)

  name_byte_field : (earlier : List ℕ) (at v next : ℕ) → name_byte_at s earlier at ≡ field v next → (v ≡ byte_at s at) × (next ≡ at + 1)
  unfolding name_byte_at
  name_byte_field earlier at v next e =
      field_same (require_field (name_byte (null earlier) (byte_at s at)) 3 at (field (byte_at s at) (at + 1)) e).1

  pub mask_field : (atoms at v next : ℕ) → mask_at s atoms at ≡ field v next → (v ≡ word_at s at) × (next ≡ at + 2) × (v < 2 ^ atoms)
  unfolding mask_at
  mask_field atoms at v next e =
      let (t, d) = require_field (ltb (word_at s at) (2 ^ atoms)) 5 at (field (word_at s at) (at + 2)) e in
      let (ev, en) = field_same d in
      (ev, en, omega (arith, ltb-true (word_at s at) (2 ^ atoms) t))

  -- ---- the bytes of a name, a name, the names
  pub name_bytes_field : (n at next : ℕ) (v : List ℕ) → times n [] (name_byte_at s) at ≡ field v next → at + n ≤ length s
      → (v ≡ bytes_from s n at) × (next ≡ at + n)
  name_bytes_field n at next v e h =
      let (en, ev) = times_field (name_byte_at s) Read each n at (omega arith, λ _. refl) e in
      (ev h, en)
    where
      Read : ℕ → List ℕ → ℕ → Type 0
      Read i vs p = (p ≡ at + i) × (at + i ≤ length s → vs ≡ bytes_from s i at)

      each : (i : ℕ) (vs : List ℕ) (p v next : ℕ) → Read i vs p → name_byte_at s vs p ≡ field v next → Read (suc i) (vs ++ v ∷ []) next
      each i vs p v next (ep, f) d =
          let (ev, en) = name_byte_field vs p v next d in
          (omega arith, λ l. rw (ev, ep, f (omega arith)) (sym (bytes_from-more i at (omega arith))))

  -- what the reading of a name came through
  pub name_read : (earlier : List (List ℕ)) (at next : ℕ) (v : List ℕ) → name_at s earlier at ≡ field v next
      → (between 1 longest_name (byte_at s at) ≡ true) × (at + 1 + byte_at s at ≤ length s) × (times (byte_at s at) [] (name_byte_at s) (at + 1) ≡ field v next)
      × (not (some (same_list v) earlier) ≡ true)
  unfolding name_at
  name_read earlier at next v e =
      let (_, r₁) = present_field at 1 _ e in
      let (t, r₂) = require_field (between 1 longest_name (byte_at s at)) 3 at _ r₁ in
      let (l, r₃) = present_field (at + 1) (byte_at s at) _ r₂ in
      let (w, n, d, r₄) = then_field (times (byte_at s at) [] (name_byte_at s) (at + 1)) _ r₃ in
      let (t', r₅) = require_field (not (some (same_list w) earlier)) 4 at (field w n) r₄ in
      (t, l, d ∙ r₅, subst (λ x. not (some (same_list x) earlier) ≡ true) (sym (field_same r₅).0) t')

  pub name_field_lem : (earlier : List (List ℕ)) (at next : ℕ) (v : List ℕ) → name_at s earlier at ≡ field v next
      → (v ≡ name_from s at) × (next ≡ after_name s at) × (next ≤ length s)
  name_field_lem earlier at next v e =
      let (_, l, d, _) = name_read earlier at next v e in
      let (ev, en) = name_bytes_field (byte_at s at) (at + 1) next v d l in
      (ev, en, omega arith)

  pub names_field : (n at next : ℕ) (v : List (List ℕ)) → times n [] (name_at s) at ≡ field v next → (v ≡ names_from s n at) × (next ≡ after_names s n at)
  unfolding names_from after_names
  names_field n at next v e = times_field (name_at s) Read each n at (refl, refl) e
    where
      Read : ℕ → List (List ℕ) → ℕ → Type 0
      Read i vs p = (vs ≡ names_from s i at) × (p ≡ after_names s i at)

      each : (i : ℕ) (vs : List (List ℕ)) (p : ℕ) (v : List ℕ) (next : ℕ) → Read i vs p → name_at s vs p ≡ field v next → Read (suc i) (vs ++ v ∷ []) next
      each i vs p v next (evs, ep) d =
          let (ev, en, _) = name_field_lem vs p next v d in
          (rw (ev, evs, ep) (sym (names_from-more i at)), rw (en, ep) (sym (after_names-more i at)))

  -- ---- the masks of a rule, a rule, the rules
  masks_field : (atoms n at next : ℕ) (v : List ℕ) → times n [] (λ _. mask_at s atoms) at ≡ field v next
      → (v ≡ masks_from s n at) × (next ≡ at + 2 * n) × Below atoms v
  unfolding up_to
  masks_field atoms n at next v e = times_field (λ _. mask_at s atoms) Read each n at (refl, omega arith, λ m k. absurd (nowhere k)) e
    where
      Read : ℕ → List ℕ → ℕ → Type 0
      Read i vs p = (vs ≡ masks_from s i at) × (p ≡ at + 2 * i) × Below atoms vs

      each : (i : ℕ) (vs : List ℕ) (p v next : ℕ) → Read i vs p → mask_at s atoms p ≡ field v next → Read (suc i) (vs ++ v ∷ []) next
      each i vs p v next (evs, ep, f) d =
          let (ev, en, l) = mask_field atoms p v next d in
          (rw (ev, evs, ep) (sym (masks_from-more i at)), omega arith, all_snoc (λ m. m < 2 ^ atoms) vs v f l)

  pub rule_field : (atoms at next : ℕ) (v : List ℕ) → rule_at s atoms at ≡ field v next
      → (v ≡ rule_from s at) × (next ≡ at + 16) × Below atoms v
  unfolding rule_at
  rule_field atoms at next v e = masks_field atoms 8 at next v (present_field at 16 (times 8 [] (λ _. mask_at s atoms) at) e).1

  pub rules_field : (atoms n at next : ℕ) (v : List (List ℕ)) → times n [] (λ _. rule_at s atoms) at ≡ field v next
      → (v ≡ rules_from s n at) × (next ≡ at + 16 * n) × AllBelow atoms v
  unfolding up_to
  rules_field atoms n at next v e = times_field (λ _. rule_at s atoms) Read each n at (refl, omega arith, λ r k. absurd (nowhere k)) e
    where
      Read : ℕ → List (List ℕ) → ℕ → Type 0
      Read i vs p = (vs ≡ rules_from s i at) × (p ≡ at + 16 * i) × AllBelow atoms vs

      each : (i : ℕ) (vs : List (List ℕ)) (p : ℕ) (v : List ℕ) (next : ℕ) → Read i vs p → rule_at s atoms p ≡ field v next
          → Read (suc i) (vs ++ v ∷ []) next
      each i vs p v next (evs, ep, f) d =
          let (ev, en, l) = rule_field atoms p next v d in
          (rw (ev, evs, ep) (sym (rules_from-more i at)), omega arith, all_snoc (Below atoms) vs v f l)

  -- ---- a pair, the pairs
  pub pair_field : (atoms : ℕ) (earlier : List Opposites) (at next : ℕ) (v : Opposites) → pair_at s atoms earlier at ≡ field v next
      → (v ≡ pair_from s at) × (next ≡ at + 2) × (next ≤ length s) × (good_pair atoms earlier v ≡ true)
  unfolding pair_at
  pair_field atoms earlier at next v e =
      let (l, r) = present_field at 2 _ e in
      let (t, d) = require_field (good_pair atoms earlier (pair_from s at)) 15 at (field (pair_from s at) (at + 2)) r in
      let (ev, en) = field_same d in
      (ev, en, omega arith, subst (λ p. good_pair atoms earlier p ≡ true) (sym ev) t)

  pub pairs_field : (atoms n at next : ℕ) (v : List Opposites) → times n [] (pair_at s atoms) at ≡ field v next
      → (v ≡ pairs_from s n at) × (next ≡ at + 2 * n)
  unfolding up_to
  pairs_field atoms n at next v e = times_field (pair_at s atoms) Read each n at (refl, omega arith) e
    where
      Read : ℕ → List Opposites → ℕ → Type 0
      Read i vs p = (vs ≡ pairs_from s i at) × (p ≡ at + 2 * i)

      each : (i : ℕ) (vs : List Opposites) (p : ℕ) (v : Opposites) (next : ℕ) → Read i vs p → pair_at s atoms vs p ≡ field v next
          → Read (suc i) (vs ++ v ∷ []) next
      each i vs p v next (evs, ep) d =
          let (ev, en, _, _) = pair_field atoms vs p next v d in
          (rw (ev, evs, ep) (sym (pairs_from-more i at)), omega arith)
