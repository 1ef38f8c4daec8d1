-- The records of the views that a listing meets in so many tests, as they stand in a buffer. Assumes nothing.
use Rattle.std.specs.Prelude.{ℕ, ◌^◌, ◌≤◌, ◌<◌, ◌≡◌, refl, true, List, [], ◌∷◌, ◌++◌, ◌↔◌, length}
use Rattle.std.proofs.Common.{sym, ap, ◌∙◌, subst, append_assoc, arith, length-append}
use Rattle.std.proofs.Math.ListN.{take}
use Rattle.sets.specs.Decides.{is_true}
use Rattle.sets.specs.Lists.{◌among◌, keep, flat_append, get_or-among, among_place, among-keep, among-map}
use Rattle.semantics.specs.Definitions.Setting.{Setting, k}
use Rattle.semantics.specs.Definitions.Listing.{is_world_view, View, view_of, views_along, record_of, listing, words}
use Rattle.semantics.specs.Definitions.Sharing.{tests_of, met_in}
use Rattle.semantics.specs.Theorems.Verdict.{Verified}
use Rattle.semantics.specs.Theorems.WorldView.{WorldView}
use Rattle.semantics.proofs.Theorems.WorldView.{definition_6}
use Rattle.semantics.specs.Theorems.Order.{Before}
use Rattle.semantics.proofs.Theorems.Listing.{views_of}
use Rattle.semantics.specs.Theorems.Records.{record_at, guess_at, RecordsOf}
use Rattle.semantics.proofs.Theorems.Records.{none, record_at_lem, guess_at_lem, of_records}
use Rattle.allowance.specs.Shares.{met_begins}

-- the first n records of the buffer are those of the world views (000, Definition 6) that are met in t tests
pub record RecordsMet (s : Setting) (t n : ℕ) (buffer : List ℕ) : Type 0 where
  -- a guess gets one exactly when it is a world view and among the first t guesses that are tested
  pub one_exactly : (g : ℕ) → g < 2 ^ k s → ((i : ℕ) × (i < n) × (guess_at buffer i ≡ g)) ↔ (WorldView s g × (g among take t (tests_of s)))
  -- and never a second
  pub never_twice : (i j : ℕ) → i < n → j < n → guess_at buffer i ≡ guess_at buffer j → i ≡ j
  -- and no other is there; each has the four words of the verdict on its guess
  pub four-words : (i : ℕ) → i < n → (g : ℕ) × (known : ℕ) × (possible : ℕ) × (sets : ℕ)
      × (g < 2 ^ k s) × WorldView s g × Verified s g known possible sets × (record_at buffer i ≡ g ∷ known ∷ possible ∷ sets ∷ [])
  -- larger guesses first, equal sizes by rising number
  pub in_order : (i j : ℕ) → i < j → j < n → Before (guess_at buffer i) (guess_at buffer j)

module _ (s : Setting) (t : ℕ) where
  -- a view is met exactly when it is that of a world view among the tests
  pub among-met : {v : View} → v among met_in s t ↔ ((g : ℕ) × (g among take t (tests_of s)) × (is_world_view s g ≡ true) × (v ≡ view_of s g))
  unfolding met_in views_along
  among-met =
      let l = take t (tests_of s) in (
        λ m. let (g, n, e) = (among-map (view_of s) (keep (is_world_view s) l)).0 m in
            let (a, w) = (among-keep (is_world_view s) l).0 n in (g, a, w, e),
        λ (g, a, w, e). (among-map (view_of s) (keep (is_world_view s) l)).1 (g, (among-keep (is_world_view s) l).1 (a, w), e),
      )

  pub records_met : (rest : List ℕ) → RecordsMet s t (length (met_in s t)) (words (met_in s t) ++ rest)
  records_met rest =
      let (more, begins) = met_begins s t in
      let vs = met_in s t in
      let n = length (listing s) in
      let longer : length vs ≤ n = omega (arith, ap length begins, length-append vs more) in
      let all : words (listing s) ++ [] ≡ words vs ++ (words more ++ []) =
      ap (λ l. words l ++ []) begins ∙ ap (λ l. l ++ []) (flat_append record_of vs more) ∙ append_assoc (words vs) (words more) [] in
      let whole = subst (RecordsOf s n) all (of_records s (listing s) (views_of s) []) in
      let guesses : (i : ℕ) → i < length vs → guess_at (words vs ++ rest) i ≡ guess_at (words vs ++ (words more ++ [])) i =
      λ i h. guess_at_lem vs rest i h ∙ sym (guess_at_lem vs (words more ++ []) i h) in
      record {
        one_exactly = λ g l. (
          λ (i, h, e).
              let (g', a, _, same) = among-met.0 (get_or-among vs none i h) in (
                (whole.one_exactly g l).0 (i, omega arith, sym (guesses i h) ∙ e),
                subst (λ z. z among take t (tests_of s)) (sym (ap (λ (v : View). v.guess) same) ∙ sym (guess_at_lem vs rest i h) ∙ e) a,
              ),
          λ (w, a).
              let (i, h, e) = among_place vs none (among-met.1 (g, a, is_true (definition_6 s g l) w, refl)) in
              (i, h, guess_at_lem vs rest i h ∙ ap (λ (v : View). v.guess) e),
        );
        never_twice = λ i j h l e. whole.never_twice i j (omega arith) (omega arith) (sym (guesses i h) ∙ e ∙ guesses j l);
        four-words = λ i h.
            let (g, known, possible, sets, l, w, v, e) = whole.four-words i (omega arith) in
            (g, known, possible, sets, l, w, v, record_at_lem vs rest i h ∙ sym (record_at_lem vs (words more ++ []) i h) ∙ e);
        in_order = λ i j h l. rw (guesses i (omega arith), guesses j l) (whole.in_order i j h (omega arith));
      }
