-- "each of the six numbers says how many guesses bear its name"; "Each guess counts once": they add up. Assumes nothing.
use Rattle.std.specs.Prelude.{ℕ, ◌+◌, ◌^◌, ◌<◌, ◌≡◌, refl, Bool, true, false, not, ◌&&◌}
use Rattle.std.proofs.Math.Path.{sym, ap}
use Rattle.std.proofs.Common.{◌∙◌}
use Rattle.std.proofs.Math.ListN.{length}
use Rattle.sets.specs.Decides.{Decides, is_true, dec_not, dec_and}
use Rattle.sets.specs.Lists.{keep, among-keep, among-up_to, length-up_to}
use Rattle.sets.specs.Pairwise.{pairwise_keep, up_to_distinct}
use Rattle.sets.specs.Counting.{one, as_long, length-shared, keep_all}
use Rattle.semantics.specs.Definitions.Setting.{Setting, k, guesses}
use Rattle.semantics.specs.Definitions.Verdict.{Verdict, empty, other, verified, verdict, is_empty, is_other, is_verified}
use Rattle.semantics.specs.Definitions.Propagation.{contradicted}
use Rattle.semantics.specs.Definitions.Listing.{is_world_view, covered, ruled, tested, tested_empty, tested_other, Tally, tally_of}
use Rattle.semantics.proofs.Theorems.Verdict.{definition_5, dec_empty, dec_unverifiable}
use Rattle.semantics.proofs.Theorems.Contradicted.{dec_contradicted}
use Rattle.semantics.proofs.Theorems.WorldView.{definition_6, dec_covered, view-tested}
use Rattle.semantics.specs.Theorems.Tally.{Number}
use Rattle.semantics.specs.Theorems.Tally as defined

shared-out : (c r : Bool) → one true ≡ one c + one (not c && r) + one (not c && not (not c && r))
shared-out true r = refl
shared-out false true = refl
shared-out false false = refl

by_verdict : (t : Bool) (v : Verdict) → one t ≡ one (t && is_empty v) + one (t && is_other v) + one (t && is_verified v)
by_verdict false v = refl
by_verdict true empty = refl
by_verdict true (other found) = refl
by_verdict true (verified known possible sets) = refl

module _ (s : Setting) where
  pub all_counted : (tally_of s).covered + (tally_of s).ruled + (tally_of s).tested ≡ 2 ^ k s
  unfolding tally_of
  all_counted =
      sym (length-shared (λ _. true) (covered s) (ruled s) (tested s) (guesses s) (λ g _. shared-out (covered s g) (contradicted s g)))
      ∙ ap length (keep_all (guesses s)) ∙ length-up_to (2 ^ k s)

  pub tested-counted : (tally_of s).tested ≡ (tally_of s).empty + (tally_of s).other + (tally_of s).views
  unfolding tally_of
  tested-counted =
      length-shared (tested s) (tested_empty s) (tested_other s) (is_world_view s) (guesses s)
      (λ g m. rw (view-tested s g ((among-up_to (2 ^ k s)).0 m)) (by_verdict (tested s g) (verdict s g)))

-- ---- how many guesses bear a name
-- there is one such number
pub number_only : {s : Setting} {P : ℕ → Type 0} {n m : ℕ} → Number s P n → Number s P m → n ≡ m
number_only a b =
    sym a.many ∙ as_long a.those b.those a.once b.once (λ g. (
      λ h. (b.exactly g).1 ((a.exactly g).0 h),
      λ h. (a.exactly g).1 ((b.exactly g).0 h),
    )) ∙ b.many

number : (s : Setting) (P : ℕ → Type 0) (f : ℕ → Bool) → ((g : ℕ) → g < 2 ^ k s → Decides (P g) (f g)) → Number s P (length (keep f (guesses s)))
number s P f d = record {
  those = keep f (guesses s);
  once = pairwise_keep _ f (guesses s) (up_to_distinct (2 ^ k s));
  exactly = λ g. (
    λ m. let (n, e) = (among-keep f (guesses s)).0 m in let l = (among-up_to (2 ^ k s)).0 n in (l, (d g l).yes e),
    λ p. (among-keep f (guesses s)).1 ((among-up_to (2 ^ k s)).1 p.0, is_true (d g p.0) p.1),
  );
  many = refl;
}

module _ (s : Setting) where
  -- "ruled: not covered, and contradicted"; "tested: all others"
  abbrev Ruled : ℕ → Type 0
  Ruled = defined.Ruled s

  abbrev Tested : ℕ → Type 0
  Tested = defined.Tested s

  -- "empty [..] by their verdict": no set is stable
  abbrev TestedEmpty : ℕ → Type 0
  TestedEmpty = defined.TestedEmpty s

  -- "other": some set is stable, and the guess is not reduct-verifiable
  abbrev TestedOther : ℕ → Type 0
  TestedOther = defined.TestedOther s

  -- "views": it is
  abbrev TestedView : ℕ → Type 0
  TestedView = defined.TestedView s

  dec_ruled : (g : ℕ) → Decides (Ruled g) (ruled s g)
  dec_ruled g = dec_and (dec_not (dec_covered s g)) (dec_contradicted s g)

  pub dec_tested : (g : ℕ) → Decides (Tested g) (tested s g)
  dec_tested g = dec_and (dec_not (dec_covered s g)) (dec_not (dec_ruled g))

  -- the six numbers are those of the guesses that bear the names, and the two sums
  abbrev TallyOf : (t : Tally) → Type 0
  TallyOf = defined.TallyOf s

  pub is_tally : TallyOf (tally_of s)
  unfolding tally_of
  is_tally = record {
    views_are = number s _ _ (definition_6 s);
    covered_are = number s _ _ (λ g _. dec_covered s g);
    ruled_are = number s _ _ (λ g _. dec_ruled g);
    tested_are = number s _ _ (λ g _. dec_tested g);
    empty_are = number s _ _ (λ g _. dec_and (dec_tested g) (dec_empty s g));
    other_are = number s _ _ (λ g l. dec_and (dec_tested g) (dec_unverifiable s g l));
    tested_views = number s _ _ (λ g l. rw (view-tested s g l) (dec_and (dec_tested g) (definition_5 s g l)));
    all_are = all_counted s;
    tested_parts = tested-counted s;
  }
