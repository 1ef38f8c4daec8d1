-- The query, read over the guesses, the world views and their belief sets. Assumes nothing.
use Rattle.std.specs.Prelude.{ℕ, ◌^◌, ◌<◌, ◌≡◌, refl, Bool, true, false, not, cond, ◌↔◌}
use Rattle.std.proofs.Common.{sym, ap, ◌∙◌, subst}
use Rattle.sets.specs.Decides.{unequal, Decides, is_true, is_false, dec_iff, dec_not}
use Rattle.sets.specs.Lists.{◌among◌, null, every, no_members, dec_every, dec_member, dec_null}
use Rattle.sets.specs.Sets.{◌∈◌, ◌∈?◌}
use Rattle.sets.specs.Members.{dec_∈, ∈-⋃}
use Rattle.semantics.specs.Definitions.Setting.{Setting, k}
use Rattle.semantics.specs.Definitions.Verdict.{belief_sets, known_in, possible_in}
use Rattle.semantics.specs.Definitions.Listing.{View, view_of, listing}
use Rattle.semantics.specs.Definitions.Query.{Answer, Yes, No, Open, None, yes_no_open, answer_by, query}
use Rattle.semantics.proofs.Theorems.Verdict.{known_is, belief_below}
use Rattle.semantics.specs.Theorems.WorldView.{WorldView, SomeView, NoneVerifiable}
use Rattle.semantics.proofs.Theorems.WorldView.{no_view}
use Rattle.semantics.proofs.Theorems.Listing.{views_of}
use Rattle.semantics.specs.Theorems.Query.{InAll}
use Rattle.semantics.specs.Theorems.Query as defined

-- a test over the list of views decides that, if it does so for each world view
over_views : (s : Setting) (P : ℕ → Type 0) (f : View → Bool)
    → ((g : ℕ) → g < 2 ^ k s → WorldView s g → Decides ((i : ℕ) → i among belief_sets s g → P i) (f (view_of s g))) → Decides (InAll s P) (every f (listing s))
over_views s P f d =
    let Q : View → Type 0 = λ v. (i : ℕ) → i among belief_sets s v.guess → P i in
    dec_iff (
      λ h g l w. h (view_of s g) ((views_of s).exactly.1 (g, l, w, refl)),
      λ h v m. let (g, l, w, e) = (views_of s).exactly.0 m in subst Q (sym e) (h g l w),
    ) (dec_every f Q (listing s)
    (λ v m. let (g, l, w, e) = (views_of s).exactly.0 m in subst (λ x. Decides (Q x) (f x)) (sym e) (d g l w)))

-- "none", from the answer; and that every other one presupposes a view
views_first : (n b c : Bool) → cond n None (cond b Yes (cond c No Open)) ≡ None → n ≡ true
views_first true b c e = refl
views_first false true c e = unequal cc
views_first false false true e = unequal cc
views_first false false false e = unequal cc

presupposes : (n : Bool) (x : Answer) {v : Answer} → (None ≡ v → ⊥) → cond n None x ≡ v → (n ≡ false) × (x ≡ v)
presupposes true x d e = absurd (d e)
presupposes false x d e = (refl, e)

-- the two tests, from the answer
first : (b c : Bool) → cond b Yes (cond c No Open) ≡ Yes → b ≡ true
first true c e = refl
first false true e = unequal cc
first false false e = unequal cc

second : (b c : Bool) → cond b Yes (cond c No Open) ≡ No → (b ≡ false) × (c ≡ true)
second true c e = unequal cc
second false true e = (refl, refl)
second false false e = unequal cc

third : (b c : Bool) → cond b Yes (cond c No Open) ≡ Open → (b ≡ false) × (c ≡ false)
third true c e = unequal cc
third false true e = unequal cc
third false false e = (refl, refl)

-- ---- whether there is a world view
-- no record exactly when no guess is reduct-verifiable
pub dec_none : (s : Setting) → Decides (NoneVerifiable s) (null (listing s))
dec_none s =
    dec_iff (
      λ n. (views_of s).none_exactly.0 ((no_members (listing s)).1 (λ v m. n (v, m))),
      λ f p. (no_members (listing s)).0 ((views_of s).none_exactly.1 f) p.0 p.1,
    ) (dec_null (listing s))

-- a record, and so a world view
some-view : (s : Setting) → null (listing s) ≡ false → SomeView s
some-view s n =
    let (v, m) = (dec_member (listing s)).yes (ap not n) in
    let (g, l, w, _) = (views_of s).exactly.0 m in (g, l, w)

-- ---- the answers
module _ (s : Setting) (a : ℕ) where
  -- in every belief set of every world view; and in none
  abbrev KnownInAll : Type 0
  KnownInAll = defined.KnownInAll s a

  abbrev PossibleInNone : Type 0
  PossibleInNone = defined.PossibleInNone s a

  -- the two tests over the records
  abbrev everywhere : Bool
  everywhere = every (λ v. a ∈? v.known) (listing s)

  abbrev nowhere : Bool
  nowhere = every (λ v. not (a ∈? v.possible)) (listing s)

  -- known in every world view
  pub dec_known : Decides KnownInAll everywhere
  dec_known =
      over_views s (λ i. a ∈ i) (λ v. a ∈? v.known)
      (λ g l w. dec_iff (known_is s (belief_sets s g) (belief_below s g) w.verifiable.non_empty a) (dec_∈ a (known_in s (belief_sets s g))))

  -- possible in none
  pub dec_impossible : Decides PossibleInNone nowhere
  dec_impossible =
      over_views s (λ i. a ∈ i → ⊥) (λ v. not (a ∈? v.possible))
      (λ g l w. dec_iff (λ n i m h. n ((∈-⋃ a (belief_sets s g)).1 (i, m, h)), λ f h. let (i, m, q) = (∈-⋃ a (belief_sets s g)).0 h in f i m q)
      (dec_not (dec_∈ a (possible_in (belief_sets s g)))))

  -- what document 01 answers: "yes" exactly if it is known in every world view, so where there is none
  pub three_yes : yes_no_open (listing s) a ≡ Yes ↔ KnownInAll
  unfolding yes_no_open
  three_yes = (λ e. dec_known.yes (first everywhere nowhere e), λ h. rw (is_true dec_known h))

  -- otherwise "no" exactly if it is possible in none
  pub three_no : yes_no_open (listing s) a ≡ No ↔ ((KnownInAll → ⊥) × PossibleInNone)
  unfolding yes_no_open
  three_no = (
    λ e. let (m, n) = second everywhere nowhere e in (dec_known.no m, dec_impossible.yes n),
    λ h. rw (is_false dec_known h.0, is_true dec_impossible h.1),
  )

  -- otherwise "open"
  pub three_open : yes_no_open (listing s) a ≡ Open ↔ ((KnownInAll → ⊥) × (PossibleInNone → ⊥))
  unfolding yes_no_open
  three_open = (
    λ e. let (m, n) = third everywhere nowhere e in (dec_known.no m, dec_impossible.no n),
    λ h. rw (is_false dec_known h.0, is_false dec_impossible h.1),
  )

  -- "none" exactly when no guess is reduct-verifiable
  pub query-none : query s a ≡ None ↔ NoneVerifiable s
  unfolding answer_by yes_no_open
  query-none = (λ e. (dec_none s).yes (views_first (null (listing s)) everywhere nowhere e), λ f. rw (is_true (dec_none s) f))

  -- where there is a world view the answer is document 01's
  pub as_before : SomeView s → query s a ≡ yes_no_open (listing s) a
  unfolding answer_by
  as_before v = rw (is_false (dec_none s) (λ f. (no_view s).0 f v))

  -- where there is none, document 01's was "yes"
  pub said_yes : NoneVerifiable s → yes_no_open (listing s) a ≡ Yes
  said_yes f = three_yes.1 (λ g l w. absurd (f g l w.verifiable))

  -- so an answer other than "none" is given exactly where there is a world view and document 01 gives it
  with_view : {v : Answer} {P : Type 0} → (None ≡ v → ⊥) → yes_no_open (listing s) a ≡ v ↔ P → query s a ≡ v ↔ (SomeView s × P)
  unfolding answer_by
  with_view d means = (
    λ e. let (n, x) = presupposes (null (listing s)) (yes_no_open (listing s) a) d e in (some-view s n, means.0 x),
    λ p. as_before p.0 ∙ means.1 p.1,
  )

  -- "yes" exactly if there is a world view and the atom is known in every one
  pub query_yes : query s a ≡ Yes ↔ (SomeView s × KnownInAll)
  query_yes = with_view (λ e. unequal cc) three_yes

  -- otherwise "no" exactly if there is one and the atom is possible in none
  pub query_no : query s a ≡ No ↔ (SomeView s × ((KnownInAll → ⊥) × PossibleInNone))
  query_no = with_view (λ e. unequal cc) three_no

  -- otherwise, if there is one, "open"
  pub query_open : query s a ≡ Open ↔ (SomeView s × ((KnownInAll → ⊥) × (PossibleInNone → ⊥)))
  query_open = with_view (λ e. unequal cc) three_open

  -- where there is a world view no atom is both known in every one and possible in none
  pub known_not_impossible : SomeView s → KnownInAll → PossibleInNone → ⊥
  known_not_impossible v h n = let (g, l, w) = v in let (i, m) = w.verifiable.non_empty in n g l w i m (h g l w i m)
