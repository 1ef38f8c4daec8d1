-- Document 02, K6, "We want that path used wherever it applies": what the growth says of stability, by itself where every rule that applies in
-- the set has one head atom there, and so for every sheet of single heads. Assumes nothing.
use Rattle.std.specs.Prelude.{ℕ, ◌≤◌, ◌≡◌, refl, Bool, true, false, not, ◌&&◌, List, ◌↔◌, eqb}
use Rattle.std.proofs.Common.{sym, ap, ◌∙◌, arith}
use Rattle.std.proofs.Math.Path.{subst}
use Rattle.std.proofs.Math.Bool.{and-true, and-false, not-not}
use Rattle.sets.specs.Decides.{is_true, is_false, dec_le}
use Rattle.sets.specs.Lists.{◌among◌, among-map, among-keep}
use Rattle.sets.specs.Sets.{◌∈◌, ◌⊆◌, ◌∩◌, size}
use Rattle.sets.specs.Members.{∈-∩, ∩_⊆_left, ⊆_trans}
use Rattle.sets.specs.One.{only_one}
use Rattle.sets.specs.Size.{size-⊆}
use Rattle.semantics.specs.Definitions.Rules.{Rule}
use Rattle.semantics.specs.Definitions.Sheet.{Sheet}
use Rattle.semantics.specs.Definitions.Check.{setting}
use Rattle.semantics.specs.Definitions.Stable.{is_model, positive, reduct_at, smaller_model, stable}
use Rattle.semantics.specs.Definitions.Day.{allowed, stable_under}
use Rattle.semantics.specs.Definitions.LeastModel.{single_heads, least_model}
use Rattle.semantics.specs.Theorems.Stable.{NegationsHold, Model}
use Rattle.semantics.proofs.Theorems.Stable.{dec_model, dec_smaller, among-positive}
use Rattle.semantics.specs.Theorems.LeastModel.{Closed}
use Rattle.semantics.proofs.Theorems.LeastModel.{least_is, least-only}
use Rattle.semantics.specs.Theorems.SingleHeads.{Positive, SingleHeads}
use Rattle.semantics.proofs.Theorems.SingleHeads.{reduced_closed, sheet-single}
use Rattle.stable.specs.Applied.{applies, applied}
use Rattle.stable.specs.Search.{Applies, dec_applies, applied_model, stable_by_search}
use Rattle.stable.specs.Growth.{OneIn, TwoHeads, ClosedIn, Grown, narrowed}
use Rattle.stable.specs.Smaller.{grown_within, grown-whole, growth_decides}

-- ---- what is grown, computed
module _ (p : List Rule) (i : ℕ) where
  narrowed_closed : {x : ℕ} → Closed (narrowed i p) x ↔ ClosedIn p i x
  unfolding narrowed
  narrowed_closed {x} = (
    λ c r m one b. c _ ((among-map _ _).1 (r, (among-keep _ p).1 (m, is_true (dec_le (size (r.head ∩ i)) 1) one), refl)) b,
    λ c q m.
        let (r, k, e) = (among-map _ _).0 m in
        let (l, t) = (among-keep _ p).0 k in
        subst (λ z. z.plain ⊆ x → z.head ⊆ x) (sym e) (c r l ((dec_le (size (r.head ∩ i)) 1).yes t)),
  )

  pub grown_exactly : {l : ℕ} → Grown p i l ↔ (l ≡ least_model (narrowed i p))
  grown_exactly {l} =
      let g = least_is (narrowed i p) in (
        λ h. least-only (record { closed = narrowed_closed.1 h.closed; least = λ c. h.least (narrowed_closed.0 c) }),
        λ e. subst (Grown p i) (sym e) (record { closed = narrowed_closed.0 g.closed; least = λ c. g.least (narrowed_closed.1 c) }),
      )

-- ---- the rules that apply in i
module _ (p : List Rule) (i : ℕ) where
  pub among-applied : {q : Rule} → q among applied i p ↔ ((r : Rule) × (r among p) × Applies i r × (q ≡ positive r))
  unfolding applied
  among-applied = among-positive (Applies i) (applies i) (dec_applies i) p

  applied-positive : Positive (applied i p)
  applied-positive q m = let (_, _, _, e) = among-applied.0 m in (ap (λ z. z.nots) e, ap (λ z. z.not_nots) e)

  model_applied : Model p i → Model (applied i p) i
  model_applied m = (applied_model p i i).1 (λ r k h b. m r k h)

  -- where every rule that applies in the set has one head atom there, the growth judges as the search over subsets does
  pub stable_by_growth : {l : ℕ} → Grown (applied i p) i l → (TwoHeads (applied i p) i → ⊥) → stable p i ≡ is_model p i && eqb l i
  stable_by_growth {l} g none = stable_by_search p i ∙ go (is_model p i) refl
    where
      go : (b : Bool) → is_model p i ≡ b → b && not (smaller_model (applied i p) i) ≡ b && eqb l i
      go true e = ap not (growth_decides applied-positive g (model_applied ((dec_model p i).yes e)) none) ∙ not-not (eqb l i)
      go false e = refl

  -- and whatever heads the rules have: a model that is grown whole is stable
  pub whole-stable : Grown (applied i p) i i → stable p i ≡ is_model p i
  whole-stable g =
      let none = is_false (dec_smaller (applied i p) i) (λ (j, s, m). grown-whole applied-positive g j s m) in
      stable_by_search p i ∙ ap (λ b. is_model p i && not b) none ∙ and-true (is_model p i)

  -- a set whose growth stops at a smaller model is not
  pub stops_smaller : {l : ℕ} → Grown (applied i p) i l → (l ≡ i → ⊥) → Model (applied i p) l → stable p i ≡ false
  stops_smaller {l} g n m =
      let some = is_true (dec_smaller (applied i p) i) (l, record { within = grown_within applied-positive g; differ = n }, m) in
      stable_by_search p i ∙ ap (λ b. is_model p i && not b) some ∙ and-false (is_model p i)

  module _ (single : SingleHeads p) where
    -- there the code does not search: `search` requires a rule with two among the rules written, and these are `applied i p` (`ReducedBy`)
    pub never_searched : TwoHeads (applied i p) i → ⊥
    never_searched (q, m, two) =
        let (r, k, _, e) = among-applied.0 m in
        let few = subst (λ z. size z.head ≤ 1) (sym e) (single r k) in
        omega (arith, two, few, size-⊆ (∩_⊆_left q.head i))

    -- and what is grown in a model is "the least model of the reduced rules"
    pub grown-least : {l : ℕ} → Model p i → Grown (applied i p) i l → l ≡ least_model (reduct_at i p)
    grown-least {l} m g = least-only (record { closed = (reduced_closed p i l).1 closed; least = λ {x} c. g.least (within x ((reduced_closed p i x).0 c)) })
      where
        inside : l ⊆ i
        inside = grown_within applied-positive g

        closed : (r : Rule) → r among p → NegationsHold i r → r.plain ⊆ l → r.head ⊆ l
        closed r k n b =
            let applying : Applies i r = (⊆_trans b inside, n) in
            let met = m r k applying in
            let one : OneIn i r = let few = single r k in omega (arith, few, size-⊆ (∩_⊆_left r.head i)) in
            let kept = g.closed (positive r) (among-applied.1 (r, k, applying, refl)) one b in
            record { into = λ {a} q. kept.into ((∈-∩ a r.head i).1 (q, subst (λ z. z ∈ i) (only_one (single r k) met.left q) met.right)) }

        within : (x : ℕ) → ((r : Rule) → r among p → NegationsHold i r → r.plain ⊆ x → r.head ⊆ x) → ClosedIn (applied i p) i x
        within x c q k one b =
            let (r, h, a, e) = among-applied.0 k in
            let s = subst (λ z. z.plain ⊆ x → z.head ⊆ x) (sym e) (c r h a.1) b in
            ⊆_trans (∩_⊆_left q.head i) s

-- ---- "for every such sheet, guess and set, with or without day masks"
module _ (x : Sheet) (single : single_heads x ≡ true) (ins outs g i : ℕ) where
  pub sheet_never_searched : TwoHeads (applied i ((setting x).program g)) i → ⊥
  sheet_never_searched = never_searched ((setting x).program g) i (sheet-single x single g)

  -- the masks beside the program, as the code tests them
  pub sheet_by_growth : {l : ℕ} → Grown (applied i ((setting x).program g)) i l
      → stable_under ins outs ((setting x).program g) i ≡ allowed ins outs i && (is_model ((setting x).program g) i && eqb l i)
  sheet_by_growth h = ap (λ b. allowed ins outs i && b) (stable_by_growth ((setting x).program g) i h sheet_never_searched)
