-- "Checks go in reading order": what follows the bytes that are read changes nothing. A sheet that is refused stays so, whatever bytes follow,
-- unless it ended too soon; one that is read whole is refused with 6 where bytes follow, and with 1 where it is cut short. Assumes nothing.
use Prim.Native.Nat.{ℕ, zero, suc, ◌+◌, ◌*◌, ◌^◌, ◌≤◌, ◌<◌}
use Rattle.std.specs.Prelude.{◌≡◌, refl, Bool, true, false, not, ◌⊎◌, leb, ltb, eqb}
use Rattle.std.proofs.Common.{sym, ap, ◌∙◌, inl, inr, ⊎_elim, leb-true, le-leb, length-append}
use Rattle.std.proofs.Math.Path.{ap₂, subst}
use mathlib.Core.List.{List, [], ◌∷◌, ◌++◌}
use native.Mathlib.Omega.{arith}
use Rattle.std.proofs.Math.ListN.{length, get_or-append}
use Rattle.sets.specs.Decides.{unequal, is_false, dec_eq}
use Rattle.sets.specs.Lists.{null, some, same_list}
use Rattle.semantics.specs.Definitions.Reading.{Reading, field, refused, ◌then◌, require, times}
use Rattle.semantics.specs.Definitions.Sheet.{Opposites, Sheet, atoms, with_pairs, good_pair, byte_at, word_at, between, present, count_at, name_byte, name_byte_at, name_at, mask_at, rule_at, pair_from, pair_at, front, pairs_at, sections, most_atoms, most_rules, most_pairs, longest_name, longest_sheet}
use Rattle.semantics.specs.Theorems.Reading.{require_field, field_same}
use Rattle.semantics.specs.Theorems.Places.{SheetRefusal, Within}
use Rattle.semantics.proofs.Theorems.Places.{sections_within}
use Rattle.semantics.proofs.Theorems.Accepted.{sections-read}
use Rattle.semantics.specs.Theorems.Following as defined

-- The bytes s, and more that follow.
module _ (s more : List ℕ) where
  abbrev longer : List ℕ
  longer = defined.longer s more

  -- r, of s, and q, of the longer bytes: a field is the same, and ends within s; a refusal is the same, or s ended too soon
  abbrev Same : {A : Type 0} → Reading A → Reading A → Type 0
  Same = defined.Same s more

  module _ {A : Type 0} where
    same_from : {B : Type 0} (r q : Reading A) (f g : A → ℕ → Reading B) → Same r q → ((v : A) (next : ℕ) → r ≡ field v next → Same (f v next) (g v next))
        → Same (r then f) (q then g)
    same_from (field v next) q f g e h = subst (λ z. Same (f v next) (z then g)) (sym e.1) (h v next refl)
    same_from (refused n p) q f g e h = ⊎_elim inl (λ d. inr (ap (λ z. z then g) d)) e

    ends_within : (r q : Reading A) → Same r q → (v : A) (next : ℕ) → r ≡ field v next → next ≤ length s
    ends_within (field w m) q e v next d = subst (λ z. z ≤ length s) (sym (field_same d).1) e.0
    ends_within (refused n p) q e v next d = unequal cc

    same_then : {B : Type 0} (r q : Reading A) (f g : A → ℕ → Reading B) → Same r q → ((v : A) (next : ℕ) → next ≤ length s → Same (f v next) (g v next))
        → Same (r then f) (q then g)
    same_then r q f g e h = same_from r q f g e (λ v next d. h v next (ends_within r q e v next d))

    same-require : (b : Bool) (n p : ℕ) (r q : Reading A) → Same r q → Same (require b n p r) (require b n p q)
    same-require true n p r q e = e
    same-require false n p r q e = inr refl

    -- a check, and then a field that ends within s
    same_value : (b : Bool) (n p : ℕ) (v : A) (next : ℕ) → next ≤ length s → Same (require b n p (field v next)) (require b n p (field v next))
    same_value b n p v next l = same-require b n p (field v next) (field v next) (l, refl)

    same-present : (at n : ℕ) (r q : Reading A) → (at + n ≤ length s → Same r q) → Same (present s at n r) (present longer at n q)
    same-present at n r q h = go (leb (at + n) (length s)) refl
      where
        go : (b : Bool) → leb (at + n) (length s) ≡ b → Same (require b 1 (length s) r) (present longer at n q)
        go true e =
            let l = leb-true (at + n) (length s) e in
            subst (λ b. Same r (require b 1 (length longer) q)) (sym (le-leb (at + n) (length longer) (omega (arith, l, length-append s more)))) (h l)
        go false e = inl (refl, refl)

    -- n steps from a place: P is kept, which says that the place is within s
    same-times : (step step' : List A → ℕ → Reading A) (P : ℕ → ℕ → Type 0) → ((n at : ℕ) → P n at → at ≤ length s)
        → ((n : ℕ) (earlier : List A) (at : ℕ) → P (suc n) at → Same (step earlier at) (step' earlier at))
        → ((n : ℕ) (earlier : List A) (at : ℕ) (v : A) (next : ℕ) → P (suc n) at → step earlier at ≡ field v next → P n next)
        → (n : ℕ) (earlier : List A) (at : ℕ) → P n at → Same (times n earlier step at) (times n earlier step' at)
    unfolding times
    same-times step step' P within each keeps zero earlier at p = (within zero at p, refl)
    same-times step step' P within each keeps (suc n) earlier at p =
        same_from (step earlier at) (step' earlier at) (λ v next. times n (earlier ++ v ∷ []) step next) (λ v next. times n (earlier ++ v ∷ []) step' next)
        (each n earlier at p)
        (λ v next e. same-times step step' P within each keeps n (earlier ++ v ∷ []) next (keeps n earlier at v next p e))

  -- ---- the steps
  same_byte : (at : ℕ) → at < length s → byte_at longer at ≡ byte_at s at
  same_byte at l = get_or-append s more 0 at l

  same_count : (limit at : ℕ) → Same (count_at s limit at) (count_at longer limit at)
  unfolding count_at
  same_count limit at =
      let counted : ℕ → Reading ℕ = λ x. require (leb x limit) 2 at (field x (at + 1)) in
      same-present at 1 (counted (byte_at s at)) (counted (byte_at longer at)) (λ l.
      subst (λ x. Same (counted (byte_at s at)) (counted x)) (sym (same_byte at (omega arith))) (same_value (leb (byte_at s at) limit) 2 at (byte_at s at) (at + 1) l))

  same_name_byte : (earlier : List ℕ) (at : ℕ) → at < length s → Same (name_byte_at s earlier at) (name_byte_at longer earlier at)
  unfolding name_byte_at
  same_name_byte earlier at l =
      let judged : ℕ → Reading ℕ = λ x. require (name_byte (null earlier) x) 3 at (field x (at + 1)) in
      subst (λ x. Same (judged (byte_at s at)) (judged x)) (sym (same_byte at l)) (same_value (name_byte (null earlier) (byte_at s at)) 3 at (byte_at s at) (at + 1) (omega arith))

  byte_further : (n : ℕ) (earlier : List ℕ) (at v next : ℕ) → at + suc n ≤ length s → name_byte_at s earlier at ≡ field v next → next + n ≤ length s
  unfolding name_byte_at
  byte_further n earlier at v next p e =
      let z : next ≡ at + 1 = (field_same (require_field (name_byte (null earlier) (byte_at s at)) 3 at (field (byte_at s at) (at + 1)) e).1).1 in
      omega arith

  -- a name whose length is n, in the bytes b
  abbrev named : (b : List ℕ) (earlier : List (List ℕ)) (at n : ℕ) → Reading (List ℕ)
  named b earlier at n = times n [] (name_byte_at b) (at + 1) then λ name next. require (not (some (same_list name) earlier)) 4 at (field name next)

  same-named : (earlier : List (List ℕ)) (at n : ℕ) → at + 1 + n ≤ length s → Same (named s earlier at n) (named longer earlier at n)
  same-named earlier at n l =
      let distinct : List ℕ → ℕ → Reading (List ℕ) = λ name next. require (not (some (same_list name) earlier)) 4 at (field name next) in
      same_then (times n [] (name_byte_at s) (at + 1)) (times n [] (name_byte_at longer) (at + 1)) distinct distinct
      (same-times (name_byte_at s) (name_byte_at longer) (λ m at. at + m ≤ length s) (λ m at p. omega arith) (λ m earlier at p. same_name_byte earlier at (omega arith))
      byte_further n [] (at + 1) l)
      (λ name next m. same_value (not (some (same_list name) earlier)) 4 at name next m)

  same_name : (earlier : List (List ℕ)) (at : ℕ) → Same (name_at s earlier at) (name_at longer earlier at)
  unfolding name_at
  same_name earlier at =
      let measured : List ℕ → ℕ → Reading (List ℕ) = λ b n. require (between 1 longest_name n) 3 at (present b (at + 1) n (named b earlier at n)) in
      let n = byte_at s at in
      same-present at 1 (measured s n) (measured longer (byte_at longer at)) (λ l.
      subst (λ x. Same (measured s n) (measured longer x)) (sym (same_byte at (omega arith)))
      (same-require (between 1 longest_name n) 3 at (present s (at + 1) n (named s earlier at n)) (present longer (at + 1) n (named longer earlier at n))
      (same-present (at + 1) n (named s earlier at n) (named longer earlier at n) (same-named earlier at n))))

  same-mask : (atoms at : ℕ) → at + 2 ≤ length s → Same (mask_at s atoms at) (mask_at longer atoms at)
  unfolding mask_at
  same-mask atoms at l =
      let judged : ℕ → Reading ℕ = λ w. require (ltb w (2 ^ atoms)) 5 at (field w (at + 2)) in
      let word : word_at longer at ≡ word_at s at = ap₂ (λ x y. x + 256 * y) (same_byte at (omega arith)) (same_byte (at + 1) (omega arith)) in
      subst (λ w. Same (judged (word_at s at)) (judged w)) (sym word) (same_value (ltb (word_at s at) (2 ^ atoms)) 5 at (word_at s at) (at + 2) l)

  mask_further : (atoms n : ℕ) (earlier : List ℕ) (at v next : ℕ) → at + 2 * suc n ≤ length s → mask_at s atoms at ≡ field v next → next + 2 * n ≤ length s
  unfolding mask_at
  mask_further atoms n earlier at v next p e =
      let z : next ≡ at + 2 = (field_same (require_field (ltb (word_at s at) (2 ^ atoms)) 5 at (field (word_at s at) (at + 2)) e).1).1 in
      omega arith

  same-rule : (atoms at : ℕ) → Same (rule_at s atoms at) (rule_at longer atoms at)
  unfolding rule_at
  same-rule atoms at =
      same-present at 16 (times 8 [] (λ _. mask_at s atoms) at) (times 8 [] (λ _. mask_at longer atoms) at) (λ l.
      same-times (λ _. mask_at s atoms) (λ _. mask_at longer atoms) (λ n at. at + 2 * n ≤ length s) (λ n at p. omega arith) (λ n earlier at p. same-mask atoms at (omega arith))
      (mask_further atoms) 8 [] at (omega arith))

  same-pair : (atoms : ℕ) (earlier : List Opposites) (at : ℕ) → Same (pair_at s atoms earlier at) (pair_at longer atoms earlier at)
  unfolding pair_at
  same-pair atoms earlier at =
      let judged : Opposites → Reading Opposites = λ p. require (good_pair atoms earlier p) 15 at (field p (at + 2)) in
      same-present at 2 (judged (pair_from s at)) (judged (pair_from longer at)) (λ l.
      let pair : pair_from longer at ≡ pair_from s at = λ i. record { first = same_byte at (omega arith) i; second = same_byte (at + 1) (omega arith) i } in
      subst (λ p. Same (judged (pair_from s at)) (judged p)) (sym pair) (same_value (good_pair atoms earlier (pair_from s at)) 15 at (pair_from s at) (at + 2) l))

  -- ---- the sections
  within : {A : Type 0} (step step' : List A → ℕ → Reading A) → ((earlier : List A) (at : ℕ) → Same (step earlier at) (step' earlier at))
      → (n at : ℕ) → at ≤ length s → Same (times n [] step at) (times n [] step' at)
  within step step' each n at l =
      same-times step step' (λ _ at. at ≤ length s) (λ _ at p. p) (λ _ earlier at _. each earlier at)
      (λ _ earlier at v next _ e. ends_within (step earlier at) (step' earlier at) (each earlier at) v next e) n [] at l

  -- names and rules, which both layouts begin with
  pub same-front : Same (front s) (front longer)
  unfolding front
  same-front =
      same_then (count_at s most_atoms 0) (count_at longer most_atoms 0) _ _ (same_count most_atoms 0) (λ n at l.
      same_then (times n [] (name_at s) at) (times n [] (name_at longer) at) _ _ (within (name_at s) (name_at longer) same_name n at l) (λ names at l.
      same_then (count_at s most_rules at) (count_at longer most_rules at) _ _ (same_count most_rules at) (λ m rules_at l.
      same_then (times m [] (λ _. rule_at s n) rules_at) (times m [] (λ _. rule_at longer n) rules_at) _ _
      (within (λ _. rule_at s n) (λ _. rule_at longer n) (λ _. same-rule n) m rules_at l) (λ rules end l. (l, refl)))))

  same-pairs : (atoms at : ℕ) → Same (pairs_at s atoms at) (pairs_at longer atoms at)
  unfolding pairs_at
  same-pairs atoms at =
      same_then (count_at s most_pairs at) (count_at longer most_pairs at) _ _ (same_count most_pairs at) (λ n at l.
      within (pair_at s atoms) (pair_at longer atoms) (same-pair atoms) n at l)

  module _ (some_more : 0 < length more) where
    -- r, of s, and q, of the longer bytes, once all is read: what is read whole is followed by extra bytes
    abbrev Followed : Reading Sheet → Reading Sheet → Type 0
    Followed (field x end) q = q ≡ refused 6 (length s)
    Followed (refused n p) q = ((n ≡ 1) × (p ≡ length s)) ⊎ (q ≡ refused n p)

    followed_then : {A : Type 0} (r q : Reading A) (f g : A → ℕ → Reading Sheet) → Same r q
        → ((v : A) (next : ℕ) → next ≤ length s → Followed (f v next) (g v next)) → Followed (r then f) (q then g)
    followed_then (field v next) q f g e h = subst (λ z. Followed (f v next) (z then g)) (sym e.1) (h v next e.0)
    followed_then (refused n p) q f g e h = ⊎_elim inl (λ d. inr (ap (λ z. z then g) d)) e

    at_end : (x : Sheet) (end : ℕ) → end ≤ length s
        → Followed (require (eqb end (length s)) 6 end (field x end)) (require (eqb end (length longer)) 6 end (field x end))
    at_end x end l =
        let extra : eqb end (length longer) ≡ false = is_false (dec_eq end (length longer)) (λ e. omega (arith, l, e, length-append s more)) in
        subst (λ b. Followed (require (eqb end (length s)) 6 end (field x end)) (require b 6 end (field x end))) (sym extra)
        (go (eqb end (length s)) refl)
      where
        go : (b : Bool) → eqb end (length s) ≡ b → Followed (require b 6 end (field x end)) (refused 6 end)
        go true e = ap (refused 6) ((dec_eq end (length s)).yes e)
        go false e = inr refl

    followed : Followed (sections s) (sections longer)
    unfolding sections
    followed =
        followed_then (front s) (front longer) _ _ same-front (λ x at l.
        followed_then (pairs_at s (atoms x) at) (pairs_at longer (atoms x) at) _ _ (same-pairs (atoms x) at) (λ pairs end l.
        at_end (with_pairs x pairs) end l))

    -- a refusal other than 1 stays, whatever follows
    pub still_refused : (number place : ℕ) → sections s ≡ refused number place → (number ≡ 1 → ⊥) → sections longer ≡ refused number place
    still_refused number place e other =
        ⊎_elim (λ h. absurd (other h.0)) (λ q. q) (subst (λ r. Followed r (sections longer)) e followed)

    -- "6, first extra byte": what follows a sheet that is read whole
    pub extra_bytes : (x : Sheet) (end : ℕ) → sections s ≡ field x end → sections longer ≡ refused 6 (length s)
    extra_bytes x end e = subst (λ r. Followed r (sections longer)) e followed

    -- "1, sheet length": a sheet that is read whole, cut short
    pub cut_short : (x : Sheet) (end : ℕ) → sections longer ≡ field x end → sections s ≡ refused 1 (length s)
    cut_short x end e = go (sections s) followed
      where
        go : (r : Reading Sheet) → Followed r (sections longer) → r ≡ refused 1 (length s)
        go (field y m) q = let d = sym e ∙ q in unequal cc
        go (refused n p) q = ⊎_elim (λ h. ap₂ refused h.0 h.1) (λ q. let d = sym e ∙ q in unequal cc) q

    -- more bytes than the longest sheet has: what follows them changes nothing
    pub long_same : longest_sheet < length s → sections longer ≡ sections s
    long_same long = go (sections s) refl followed (sections_within s)
      where
        go : (r : Reading Sheet) → sections s ≡ r → Followed r (sections longer) → Within (SheetRefusal 6) longest_sheet r → sections longer ≡ r
        go (field x end) e q w = absurd (omega (arith, (sections-read s x end e).ends))
        go (refused n p) e q w = ⊎_elim (λ h. absurd (omega (arith, h.1, w.0))) (λ d. d) q
