-- What a guess counts as, by the planes and by its entry. Assumes nothing.
use Prim.Native.Nat.{ℕ, ◌*◌, ◌^◌, ◌<◌}
use mathlib.Core.Path.{◌≡◌, refl, sym, ap, ◌∙◌}
use mathlib.Core.Bool.{true, false, not}
use mathlib.Core.List.{List}
use mathlib.Core.Logic.{⊎_elim}
use native.Mathlib.Omega.{arith}
use lib.ListN.{length}
use Rattle.sets.specs.Decides.{is_true, is_false, decided, dec_eq, dec_not}
use Rattle.sets.specs.Lists.{dec_some}
use Rattle.sets.specs.Sets.{◌⊆◌, ◌⊆?◌, ⋂, ⋃}
use Rattle.sets.specs.Members.{dec_⊆}
use Rattle.semantics.specs.Definitions.Setting.{Setting}
use Rattle.semantics.specs.Definitions.Propagation.{contradicted}
use Rattle.semantics.specs.Definitions.Verdict.{belief_sets, verdict}
use Rattle.semantics.specs.Definitions.Pass.{having, verdict_from}
use Rattle.semantics.specs.Definitions.Day.{day_constraints}
use Rattle.semantics.specs.AtSet.{need}
use Rattle.semantics.specs.Walk.{Outcome, Ruled, Empty, Other, IsView, judged_as, outcome_by}
use Rattle.semantics.proofs.Theorems.Need.{lacks_other_added, judged_by_summary}
use Rattle.guess.specs.declared.outline.Outline.{Outline}
use Rattle.guess.specs.Programs.{unmasked_in, setting_in, Outlines}
use Rattle.guess.specs.Negations.{negations_by, found_by}
use Rattle.guess.specs.Numbered.{negations_by_lem}
use Rattle.lanes.specs.Planes.{◌in_plane◌}
use Rattle.lanes.specs.declared.noted.Entry.{Entry}
use Rattle.lanes.specs.Noted.{entry_at}
use Rattle.verdicts.specs.Tables.{Tabled}
use Rattle.records.specs.Outcomes.{ExaminedAs}

-- ---- by an entry
module _ (x : Outline) (g known possible sets : ℕ) where
  abbrev by_entry : Outcome
  by_entry = judged_as g (verdict_from (negations_by x) (having known possible sets 0) g)

  pub entry_empty : sets ≡ 0 → Empty ≡ by_entry
  entry_empty e = rw (is_true (dec_eq sets 0) e) refl

  pub entry-view : (sets ≡ 0 → ⊥) → found_by x known possible ≡ g → IsView (record { guess = g; known = known; possible = possible; sets = sets }) ≡ by_entry
  entry-view n e = rw (is_false (dec_eq sets 0) n, is_true (dec_eq (found_by x known possible) g) e) refl

  pub entry_other : (sets ≡ 0 → ⊥) → (found_by x known possible ≡ g → ⊥) → Other ≡ by_entry
  entry_other n d = rw (is_false (dec_eq sets 0) n, is_false (dec_eq (found_by x known possible) g) d) refl

-- ---- by the planes
module _ {x : Outline} {words free active : List ℕ} {table : List Entry} (o : Outlines x words) (t : Tabled x words free active table) {g : ℕ} (h : g < 2 ^ x.negations) where
  abbrev s : Setting
  s = setting_in x words

  within : g < 64 * length free
  within = omega (arith, t.wide)

  -- not among the free ones
  pub examined_ruled : (g in_plane free → ⊥) → ExaminedAs s g Ruled
  examined_ruled n = go (contradicted s g) refl
    where
      go : (b : _) → contradicted s g ≡ b → Ruled ≡ outcome_by g false b (verdict s g)
      go true e = refl
      go false e = absurd (n ((t.free_are.number within).1 (record { guess = h; holds = e })))

  module _ (f : g in_plane free) where
    free_is : contradicted s g ≡ false
    free_is = ((t.free_are.number within).0 f).holds

    examined : {a : Outcome} → a ≡ judged_as g (verdict s g) → ExaminedAs s g a
    examined e = e ∙ ap (λ b. outcome_by g false b (verdict s g)) (sym free_is)

    -- it lacks what one of its belief sets needs
    pub examined_other : (g in_plane active → ⊥) → ExaminedAs s g Other
    examined_other n =
        let w = belief_sets s g in
        let lacks = dec_some (λ i. not (need (unmasked_in x words) i ⊆? g)) (λ i. need (unmasked_in x words) i ⊆ g → ⊥) w (λ i _. dec_not (dec_⊆ (need (unmasked_in x words) i) g)) in
        examined (⊎_elim
        (λ p. sym (lacks_other_added (day_constraints x.ins x.outs) (unmasked_in x words) g p.0 p.1 p.2))
        (λ q. absurd (n ((t.filled.needs within f).1 (λ i m. ⊎_elim (λ y. y) (λ y. absurd (q (i, m, y))) (decided (dec_⊆ (need (unmasked_in x words) i) g))))))
        (decided lacks))

    -- by its entry
    pub examined_entry : g in_plane active → {a : Outcome} → (let y = entry_at table g in a ≡ by_entry x g y.known y.possible y.sets) → ExaminedAs s g a
    examined_entry m e =
        examined (e ∙ ap (λ (y : Entry). judged_as g (verdict_from (negations_by x) (having y.known y.possible y.sets 0) g)) (t.filled.entries within m)
        ∙ ap (λ ns. judged_as g (verdict_from ns (having (⋂ x.atoms w) (⋃ w) (length w) 0) g)) (negations_by_lem o) ∙ sym (judged_by_summary s g 0))
      where
        w : List ℕ
        w = belief_sets s g
