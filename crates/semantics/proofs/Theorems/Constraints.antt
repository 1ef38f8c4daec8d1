-- Constraints added to any setting: its stable sets that are models of the constraints stay, T and F don't move, and a guess is contradicted
-- where it was or a constraint is sure. Assumes nothing.
use Rattle.std.specs.Prelude.{ℕ, ◌^◌, ◌≡◌, ◌&&◌, ◌||◌, List, [], ◌++◌, ◌↔◌, ◌⊎◌}
use Rattle.std.proofs.Math.Path.{sym}
use Rattle.std.proofs.Common.{subst, ◌∙◌, append-nil, append_assoc, inl, inr, ⊎_elim}
use Rattle.sets.specs.Decides.{Decides, dec_one, dec_iff, dec_and, dec_or}
use Rattle.sets.specs.Lists.{◌among◌, some, keep, up_to, among-append, keep-keep, dec_some}
use Rattle.sets.specs.Sets.{◌∈◌, ◌⊆◌}
use Rattle.sets.specs.Members.{∈-∅, ⊆_trans}
use Rattle.semantics.specs.Definitions.Rules.{Rule}
use Rattle.semantics.specs.Definitions.Setting.{Setting, add}
use Rattle.semantics.specs.Definitions.Stable.{is_model, stable, stable_sets}
use Rattle.semantics.specs.Definitions.Verdict.{belief_sets}
use Rattle.semantics.specs.Definitions.Propagation.{Pair, sure, propagated, contradicted}
use Rattle.semantics.specs.Theorems.Stable.{Satisfies, Model, ReducedModel, Stable}
use Rattle.semantics.proofs.Theorems.Stable.{dec_model, dec_stable, reduced_model}
use Rattle.semantics.specs.Theorems.Closure.{Closed, LeastClosed}
use Rattle.semantics.proofs.Theorems.Closure.{dec_sure, propagated_is, least-only}
use Rattle.semantics.specs.Theorems.Contradicted.{EmptyHead, pair_of, ContradictedBy}
use Rattle.semantics.proofs.Theorems.Contradicted.{dec_contradicted_by}
use Rattle.semantics.specs.Theorems.Constraints.{Constraints, SureConstraint}

-- without constraints nothing is added
pub add_none : (s : Setting) → add [] s ≡ s
add_none s i = record { atoms = s.atoms; negations = s.negations; program = λ g. append-nil (s.program g) i }

-- one list after the other
pub add-add : (cs ds : List Rule) (s : Setting) → add ds (add cs s) ≡ add (cs ++ ds) s
add-add cs ds s i = record { atoms = s.atoms; negations = s.negations; program = λ g. append_assoc (s.program g) cs ds i }

module _ (cs : List Rule) (empty : Constraints cs) where
  -- no head atom of a constraint
  no_head : {A : Type 0} {r : Rule} {a : ℕ} → r among cs → a ∈ r.head → A
  no_head {A} {r} {a} m h = absurd (∈-∅ (subst (λ z. a ∈ z) (empty r m) h))

  -- ---- stable sets
  module _ (p : List Rule) (i : ℕ) where
    -- a constraint that i satisfies asks nothing of a subset of i
    reduced_both : {j : ℕ} → j ⊆ i → ReducedModel (p ++ cs) i j ↔ (ReducedModel p i j × ((r : Rule) → r among cs → r.plain ⊆ j → Satisfies i r))
    reduced_both {j} w = (
      λ m. (λ r k. m r ((among-append p).1 (inl k)), λ r k b h. let x = m r ((among-append p).1 (inr k)) h.1 b in no_head k x.left),
      λ q r k n b. ⊎_elim (λ l. q.0 r l n b) (λ l. let x = q.1 r l b (⊆_trans b w, n) in no_head l x.left) ((among-append p).0 k),
    )

    pub stable-added : Stable (p ++ cs) i ↔ (Stable p i × Model cs i)
    stable-added =
        let whole : i ⊆ i = record { into = λ m. m } in (
          λ st.
              let (m, c) = (reduced_both whole).0 ((reduced_model (p ++ cs) i i).0 st.model) in (
                record {
                  model = (reduced_model p i i).1 m;
                  minimal = λ j s n. st.minimal j s ((reduced_model (p ++ cs) i j).1
                      ((reduced_both s.within).1 ((reduced_model p i j).0 n, λ r k b. c r k (⊆_trans b s.within))));
                },
                λ r k h. c r k h.0 h,
              ),
          λ q. record {
            model = (reduced_model (p ++ cs) i i).1 ((reduced_both whole).1 ((reduced_model p i i).0 q.0.model, λ r k _. q.1 r k));
            minimal = λ j s n. q.0.minimal j s ((reduced_model p i j).1 ((reduced_both s.within).0 ((reduced_model (p ++ cs) i j).0 n)).0);
          },
        )

    pub stable-add : stable (p ++ cs) i ≡ is_model cs i && stable p i
    stable-add = dec_one (dec_stable (p ++ cs) i) (dec_iff (λ q. stable-added.1 (q.1, q.0), λ st. let (s, m) = stable-added.0 st in (m, s))
        (dec_and (dec_model cs i) (dec_stable p i)))

  -- of the belief sets those that are models of the constraints
  pub belief_add : (s : Setting) (g : ℕ) → belief_sets (add cs s) g ≡ keep (is_model cs) (belief_sets s g)
  unfolding belief_sets stable_sets
  belief_add s g =
      (λ j. keep (λ i. stable-add (s.program g) i j) (up_to (2 ^ s.atoms))) ∙ sym (keep-keep (is_model cs) (stable (s.program g)) (up_to (2 ^ s.atoms)))

  -- ---- T and F
  module _ (n : ℕ) (p : List Rule) where
    -- an empty head enters nothing into T and keeps nothing out of F
    closed_added : {x : Pair} → Closed n (p ++ cs) x ↔ Closed n p x
    closed_added {x} = (
      λ c. record {
        has_t = λ l e. c.has_t l (e.0, (among-append p).1 (inl e.1), e.2, e.3, e.4);
        has_f = λ l f. c.has_f l (λ r m h. ⊎_elim (λ k. f r k h) (λ k. no_head k h) ((among-append p).0 m));
      },
      λ c. record {
        has_t = λ l e. ⊎_elim (λ k. c.has_t l (e.0, k, e.2, e.3, e.4)) (λ k. no_head k e.2) ((among-append p).0 e.1);
        has_f = λ l f. c.has_f l (λ r k h. f r ((among-append p).1 (inl k)) h);
      },
    )

    pub least-added : {x : Pair} → LeastClosed n p x → LeastClosed n (p ++ cs) x
    least-added l = record { closed = closed_added.1 l.closed; least = λ c. l.least (closed_added.0 c) }

    pub propagated-add : propagated n p ≡ propagated n (p ++ cs)
    propagated-add = least-only n (p ++ cs) (least-added (propagated_is n p))

  -- ---- contradicted guesses
  pub empty_head_added : (p : List Rule) (x : Pair) → EmptyHead (p ++ cs) x ↔ (EmptyHead p x ⊎ SureConstraint cs x)
  empty_head_added p x = (
    λ q. ⊎_elim (λ m. inl (q.0, m, q.2)) (λ m. inr (q.0, m, q.2.0)) ((among-append p).0 q.1),
    ⊎_elim (λ q. (q.0, (among-append p).1 (inl q.1), q.2)) (λ q. (q.0, (among-append p).1 (inr q.1), (q.2, empty q.0 q.1))),
  )

  module _ (s : Setting) (g : ℕ) where
    added : ContradictedBy (add cs s) g (pair_of s g) ↔ (ContradictedBy s g (pair_of s g) ⊎ SureConstraint cs (pair_of s g))
    added =
        let h = empty_head_added (s.program g) (pair_of s g) in (
          ⊎_elim (⊎_elim (λ m. inl (inl (inl m))) (λ q. ⊎_elim (λ e. inl (inl (inr e))) inr (h.0 q))) (λ q. inl (inr q)),
          ⊎_elim (⊎_elim (⊎_elim (λ m. inl (inl m)) (λ e. inl (inr (h.1 (inl e))))) (λ q. inr q)) (λ q. inl (inr (h.1 (inr q)))),
        )

    pub contradicted-add : contradicted (add cs s) g ≡ contradicted s g || some (sure (pair_of s g)) cs
    contradicted-add =
        dec_one
        (dec_iff added (subst (λ x. Decides (ContradictedBy (add cs s) g x) (contradicted (add cs s) g)) (sym (propagated-add s.atoms (s.program g))) (dec_contradicted_by (add cs s) g)))
        (dec_or (dec_contradicted_by s g) (dec_some _ _ cs (λ r _. dec_sure (pair_of s g) r)))
