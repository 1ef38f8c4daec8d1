-- What is grown in a set i, rule by rule. Assumes nothing.
use Prim.Native.Nat.{ℕ}
use mathlib.Core.Path.{◌≡◌, refl, sym, subst}
use mathlib.Core.Bool.{Bool, true, false, ◌&&◌, cond}
use mathlib.Core.List.Memᴰ
use mathlib.Core.List.{List, [], ◌∷◌, ◌++◌}
use mathlib.Core.Logic.{◌↔◌, inl, inr, ⊎_elim}
use Rattle.std.specs.Prelude.{Some}
use lib.Dec.{leb}
use Rattle.sets.specs.Decides.{Decides, is_false, dec_and, dec_le}
use Rattle.sets.specs.Lists.{here, nowhere, among-append, all_snoc}
use Rattle.sets.specs.Sets.{◌∈◌, ◌⊆◌, ◌⊆?◌, ◌∩◌, ◌∪◌, ◌∖◌, ∅, single, size}
use Rattle.sets.specs.Members.{∈-∅, ∈-∪, ∈-∖, ∈-single, ∪-⊆, ⊆_refl, ⊆_trans, ⊆_antisym, dec_⊆}
use Rattle.semantics.specs.Definitions.Rules.{Rule}
use Rattle.semantics.specs.Definitions.Stable.{smaller_model}
use Rattle.sets.specs.One.{OneOf}
use Rattle.semantics.specs.Theorems.Stable.{Model}
use Rattle.semantics.proofs.Theorems.Stable.{dec_smaller}
use Rattle.semantics.specs.Theorems.SingleHeads.{Positive}
use Rattle.stable.specs.Growth.{OneIn, ClosedIn, Grown, Grows, Supported}
use Rattle.stable.specs.Smaller.{SmallerIfAny, whole_closed, unsupported, grown-whole}

-- what no closed set lacks and is all of i is what is grown
pub all_grown : (p : List Rule) {i l : ℕ} → ((x : ℕ) → ClosedIn p i x → l ⊆ x) → l ≡ i → Grown p i l
all_grown p {i} {l} least e = record { closed = subst (ClosedIn p i) (sym e) (whole_closed p i); least = λ {x} k. least x k }

-- one rule more: the atoms that are the only head atom in i of some rule
pub supported_none : (i a : ℕ) → a ∈ ∅ ↔ Supported [] i a
supported_none i a = ((λ m. absurd (∈-∅ m)), λ (_, m, _, _). absurd (nowhere m))

module _ {p : List Rule} {i set : ℕ} (r : Rule) (h : (a : ℕ) → a ∈ set ↔ Supported p i a) where
  earlier : {a : ℕ} → a ∈ set → Supported (p ++ r ∷ []) i a
  earlier {a} q = let (k, m, o, x) = (h a).0 q in (k, (among-append p).1 (inl m), o, x)

  pub supported_more : OneIn i r → (a : ℕ) → a ∈ set ∪ (r.head ∩ i) ↔ Supported (p ++ r ∷ []) i a
  supported_more one a = (
    λ q. ⊎_elim earlier (λ x. (r, (among-append p).1 (inr here), one, x)) ((∈-∪ a set (r.head ∩ i)).0 q),
    λ (k, m, o, x). (∈-∪ a set (r.head ∩ i)).1
        (⊎_elim (λ l. inl ((h a).1 (k, l, o, x))) (λ l. inr (subst (λ z. a ∈ z.head ∩ i) (Memᴰ.eq_of_singleton l) x)) ((among-append p).0 m)),
  )

  pub supported_same : (OneIn i r → ⊥) → (a : ℕ) → a ∈ set ↔ Supported (p ++ r ∷ []) i a
  supported_same several a = (
    earlier,
    λ (k, m, o, x). ⊎_elim (λ l. (h a).1 (k, l, o, x)) (λ l. absurd (several (subst (OneIn i) (Memᴰ.eq_of_singleton l) o))) ((among-append p).0 m),
  )

-- one rule more of a pass
pub grows_none : (i l : ℕ) → Grows [] i l l
grows_none i l = record { kept = ⊆_refl; within = λ c s. s; closed = λ e r m. absurd (nowhere m) }

pub grows_more : {p : List Rule} {i l m : ℕ} (r : Rule) → Grows p i l m
    → Grows (p ++ r ∷ []) i l (cond (r.plain ⊆? m && leb (size (r.head ∩ i)) 1) (m ∪ (r.head ∩ i)) m)
grows_more {p} {i} {l} {m} r g = go (r.plain ⊆? m && leb (size (r.head ∩ i)) 1) (dec_and (dec_⊆ r.plain m) (dec_le (size (r.head ∩ i)) 1))
  where
    earlier : {x : ℕ} → ClosedIn (p ++ r ∷ []) i x → ClosedIn p i x
    earlier c k q = c k ((among-append p).1 (inl q))

    go : (b : Bool) → Decides ((r.plain ⊆ m) × OneIn i r) b → Grows (p ++ r ∷ []) i l (cond b (m ∪ (r.head ∩ i)) m)
    go true d =
        let (s, one) = d.yes refl in
        let more = (∪-⊆ m (r.head ∩ i) (m ∪ (r.head ∩ i))).0 ⊆_refl in
        record {
          kept = ⊆_trans g.kept more.0;
          within = λ {x} c q.
              let w = g.within (earlier c) q in
              (∪-⊆ m (r.head ∩ i) x).1 (w, c r ((among-append p).1 (inr here)) one (⊆_trans s w));
          closed = λ e.
              let same : m ≡ l = ⊆_antisym (subst (λ z. m ⊆ z) e more.0) g.kept in
              all_snoc (λ k. OneIn i k → k.plain ⊆ l → k.head ∩ i ⊆ l) p r (g.closed same) (λ o b. subst (λ y. r.head ∩ i ⊆ y) e more.1);
        }
    go false d = record {
      kept = g.kept;
      within = λ c q. g.within (earlier c) q;
      closed = λ e.
          all_snoc (λ k. OneIn i k → k.plain ⊆ l → k.head ∩ i ⊆ l) p r (g.closed e) (λ o b. absurd (d.no refl (subst (λ y. r.plain ⊆ y) (sym e) b, o)));
    }

-- ---- what the growth says of smaller models
module _ {p : List Rule} {i : ℕ} (plain : Positive p) (m : Model p i) where
  -- without an atom that is the only head atom in i of no rule
  pub without_unsupported : {supported r : ℕ} → ((a : ℕ) → a ∈ supported ↔ Supported p i a) → OneOf (i ∖ supported) r → SmallerIfAny p i (Some (i ∖ r))
  without_unsupported {supported} {r} h (a, k, e) = subst (λ z. SmallerIfAny p i (Some (i ∖ z))) (sym e) (
    record {
      within = record { into = λ {a = b} q. ((∈-∖ b i (single a)).0 q).0 };
      differ = λ d. ((∈-∖ a i (single a)).0 (subst (λ z. a ∈ z) (sym d) ((∈-∖ a i supported).0 k).0)).1 ((∈-single a a).1 refl);
    },
    unsupported plain m (λ s. ((∈-∖ a i supported).0 k).1 ((h a).1 s)),
  )

-- grown whole
pub whole-grown : {p : List Rule} {i l : ℕ} → Positive p → Grown p i l → l ≡ i → smaller_model p i ≡ false
whole-grown {p} {i} plain g e = is_false (dec_smaller p i) (λ (j, s, k). grown-whole plain (subst (Grown p i) e g) j s k)
