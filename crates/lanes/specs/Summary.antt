-- What the table says of one number after the sets that are stable for it. Assumes nothing.
use Rattle.std.specs.Prelude.{ℕ, ◌≡◌, refl, true, false, Bool, List, [], ◌∷◌, ◌++◌, ◌↔◌, length}
use Rattle.std.proofs.Common.{sym, ap, ◌∙◌, append-nil, inl, inr, length-append}
use Rattle.sets.specs.Decides.{Decides}
use Rattle.sets.specs.Lists.{◌among◌, only, all_snoc, among-append, here, foldl_snoc}
use Rattle.sets.specs.Sets.{◌⊆◌, ◌∩◌, ◌∪◌, full, ⋂, ⋃}
use Rattle.lanes.specs.declared.noted.Entry.{Entry}
use Rattle.lanes.specs.Noted.{entry, with_set}

-- the entry after the sets vs
abbrev pub summary : ℕ → List ℕ → Entry
summary n vs = entry (⋂ n vs) (⋃ vs) (length vs)

summary-more : (n m : ℕ) (vs : List ℕ) → summary n (vs ++ m ∷ []) ≡ with_set m (summary n vs)
summary-more n m vs = rw (foldl_snoc ◌∩◌ (full n) vs m, foldl_snoc ◌∪◌ 0 vs m, length-append vs (m ∷ []))

-- after the sets vs that are stable for g, where `need` is what a set needs of it: g is active while it has what every one of them needs, and then its
-- entry is theirs
module _ (n : ℕ) (need : ℕ → ℕ) where
  pub record Stands (g : ℕ) (vs : List ℕ) (Active : Type 0) (e : Entry) : Type 0 where
    pub active : Active ↔ ((x : ℕ) → x among vs → need x ⊆ g)
    pub entry : Active → e ≡ summary n vs

  -- one set more, which is stable for g or not
  pub stands_more : {g m : ℕ} (vs : List ℕ) {A B S : Type 0} {d e : Entry} {b : Bool} → Stands g vs A d → Decides S b → B ↔ (A × (S → need m ⊆ g))
      → (A × S × (need m ⊆ g) → e ≡ with_set m d) → ((A × S × (need m ⊆ g) → ⊥) → e ≡ d) → Stands g (vs ++ only b m) B e
  stands_more {g} {m} vs {b = true} s y f t k = record {
    active = (
      λ q. let (u, v) = f.0 q in all_snoc (λ x. need x ⊆ g) vs m (s.active.0 u) (v (y.yes refl)),
      λ q. f.1 (s.active.1 (λ x z. q x ((among-append vs).1 (inl z))), λ _. q m ((among-append vs).1 (inr here))),
    );
    entry = λ q. let (u, v) = f.0 q in t (u, y.yes refl, v (y.yes refl)) ∙ ap (with_set m) (s.entry u) ∙ sym (summary-more n m vs);
  }
  stands_more {g} {m} vs {b = false} s y f t k = rw (append-nil vs) record {
    active = (λ q. s.active.0 (f.0 q).0, λ q. f.1 (s.active.1 q, λ z. absurd (y.no refl z)));
    entry = λ q. k (λ p. y.no refl p.1) ∙ s.entry (f.0 q).0;
  }
