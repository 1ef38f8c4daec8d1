-- The members of a set below k, and from k on. Assumes nothing.
use Rattle.std.specs.Prelude.{ℕ, ◌+◌, ◌-◌, ◌/◌, ◌%◌, ◌^◌, ◌<◌, ◌≡◌, ◌↔◌, ◌⊎◌}
use Rattle.std.proofs.Common.{sym, ap, ◌∙◌, inl, inr, ⊎_elim, arith, lt_of_not-le, shr-shr}
use Rattle.std.proofs.lemmas.Nat.{and_mask}
use Rattle.sets.specs.Decides.{decided, dec_le}
use Rattle.sets.specs.Sets.{◌∈◌, ◌⊆◌, Meets, full}
use Rattle.sets.specs.Members.{∈-∩, ∈-full}

module _ (k a x : ℕ) where
  -- from k on: the members of x / 2 ^ k
  pub ∈-from : k + a ∈ x ↔ a ∈ x / 2 ^ k
  ∈-from = let e = ap (λ z. z % 2) (shr-shr x k a) in (λ m. record { bit = e ∙ m.bit }, λ m. record { bit = sym e ∙ m.bit })

  -- below k: the members of x % 2 ^ k
  pub ∈_mod : a ∈ x % 2 ^ k ↔ ((a ∈ x) × (a < k))
  ∈_mod = rw (← and_mask x k) (
    λ m. let (p, q) = (∈-∩ a x (full k)).0 m in (p, (∈-full a k).0 q),
    λ p. (∈-∩ a x (full k)).1 (p.0, (∈-full a k).1 p.1),
  )

-- a member is below k or from k on
side : (k a : ℕ) → (a < k) ⊎ ((c : ℕ) × (a ≡ k + c))
side k a = ⊎_elim (λ l. inr (a - k, omega arith)) (λ n. inl (lt_of_not-le n)) (decided (dec_le k a))

module _ (k x y : ℕ) where
  pub ⊆_parts : x ⊆ y ↔ ((x / 2 ^ k ⊆ y / 2 ^ k) × (x % 2 ^ k ⊆ y % 2 ^ k))
  ⊆_parts = (
    λ s. (
      record { into = λ {a} m. (∈-from k a y).0 (s.into ((∈-from k a x).1 m)) },
      record { into = λ {a} m. let (p, l) = (∈_mod k a x).0 m in (∈_mod k a y).1 (s.into p, l) },
    ),
    λ p. record {
      into = λ {a} m. ⊎_elim (λ l. ((∈_mod k a y).0 (p.1.into ((∈_mod k a x).1 (m, l)))).0)
          (λ q. let (c, e) = q in rw e ((∈-from k c y).1 (p.0.into ((∈-from k c x).0 (rw e at m))))) (side k a);
    },
  )

  pub meets_parts : Meets x y ↔ (Meets (x / 2 ^ k) (y / 2 ^ k) ⊎ Meets (x % 2 ^ k) (y % 2 ^ k))
  meets_parts = (
    λ m. let a = m.common in
        ⊎_elim (λ l. inr (record { common = a; left = (∈_mod k a x).1 (m.left, l); right = (∈_mod k a y).1 (m.right, l) }))
        (λ q. let (c, e) = q in
        inl (record { common = c; left = (∈-from k c x).0 (rw e at m.left); right = (∈-from k c y).0 (rw e at m.right) })) (side k a),
    ⊎_elim (λ m. let c = m.common in record { common = k + c; left = (∈-from k c x).1 m.left; right = (∈-from k c y).1 m.right })
        (λ m. let a = m.common in record { common = a; left = ((∈_mod k a x).0 m.left).0; right = ((∈_mod k a y).0 m.right).0 }),
  )
