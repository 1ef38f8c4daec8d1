-- The numbers that have no member of one set and every member of another, 64 a word. Assumes nothing.
use Rattle.std.specs.Prelude.{ℕ, ◌+◌, ◌-◌, ◌*◌, ◌/◌, ◌%◌, ◌^◌, ◌<◌, ◌≡◌, not, cond, List, map, ◌↔◌, ltb, get_or}
use Rattle.std.proofs.Common.{ap, ◌∙◌, inl, inr, ⊎_elim, arith, lt-ltb, le-ltb}
use Rattle.sets.specs.Decides.{dec_not}
use Rattle.sets.specs.Lists.{up_to, get_or-up_to}
use Rattle.sets.specs.Sets.{◌⊆◌, Meets, ◌⊆?◌, ◌meets?◌, ◌∩◌, ∅, set_of}
use Rattle.sets.specs.Members.{∈-∅, dec_⊆, dec_meets}
use Rattle.sets.specs.Parts.{⊆_parts, meets_parts}
use Rattle.lanes.specs.Lanes.{Lanes, lanes_iff, lanes_and, lanes_none, lanes_of}

-- g has no member of z and every member of o
pub record InCube (z o g : ℕ) : Type 0 where
  pub apart : Meets z g → ⊥
  pub within : o ⊆ g

-- the same word by word: g is lane b of word w
module _ (z o w b : ℕ) (l : b < 64) where
  high : (64 * w + b) / 2 ^ 6 ≡ w
  high = omega arith

  low : (64 * w + b) % 2 ^ 6 ≡ b
  low = omega arith

  pub cube_parts : InCube z o (64 * w + b) ↔ (InCube (z / 64) (o / 64) w × InCube (z % 64) (o % 64) b)
  cube_parts =
      let meet = meets_parts 6 z (64 * w + b) in
      let sub = ⊆_parts 6 o (64 * w + b) in (
        λ c. let (s, t) = sub.0 c.within in (
          record { apart = λ m. c.apart (meet.1 (inl (rw high m))); within = rw high at s },
          record { apart = λ m. c.apart (meet.1 (inr (rw low m))); within = rw low at t },
        ),
        λ p. record {
          apart = λ m. ⊎_elim (λ u. p.0.apart (rw high at u)) (λ u. p.1.apart (rw low at u)) (meet.0 m);
          within = sub.1 (rw high p.0.within, rw low p.1.within);
        },
      )

-- at s the numbers below 64 with no member of s, at 64 + s those with every member of s
pub record Table (t : List ℕ) : Type 0 where
  pub none : {s : ℕ} → s < 64 → Lanes (λ b. Meets s b → ⊥) (get_or t s 0)
  pub every : {s : ℕ} → s < 64 → Lanes (λ b. s ⊆ b) (get_or t (64 + s) 0)

abbrev pub pattern : ℕ → ℕ
pattern i = cond (ltb i 64) (set_of (λ b. not (i meets? b)) 64) (set_of (λ b. (i - 64) ⊆? b) 64)

pattern-none : (i : ℕ) → i < 64 → pattern i ≡ set_of (λ b. not (i meets? b)) 64
pattern-none i l = rw (lt-ltb i 64 l)

pattern-every : (s : ℕ) → pattern (64 + s) ≡ set_of (λ b. s ⊆? b) 64
pattern-every s =
    let e : 64 + s - 64 ≡ s = omega arith in
    rw (le-ltb (64 + s) 64 (omega arith)) (ap (λ i. set_of (λ b. i ⊆? b) 64) e)

-- a list of those patterns is such a table
pub table_of : (t : List ℕ) → t ≡ map pattern (up_to 128) → Table t
table_of t e = let f : (i : ℕ) → i < 128 → get_or t i 0 ≡ pattern i = λ i l. ap (λ u. get_or u i 0) e ∙ get_or-up_to pattern 0 128 i l in record {
  none = λ {s} l. rw (f s (omega arith) ∙ pattern-none s l) (lanes_of (λ b. Meets s b → ⊥) _ (λ b. dec_not (dec_meets s b)));
  every = λ {s} l. rw (f (64 + s) (omega arith) ∙ pattern-every s) (lanes_of (λ b. s ⊆ b) _ (λ b. dec_⊆ s b));
}

-- ---- the lanes of one word that are in a cube
module _ (z o w : ℕ) where
  pub cube_some : (x y : ℕ) → (Meets (z / 64) w → ⊥) → o / 64 ⊆ w → Lanes (λ b. Meets (z % 64) b → ⊥) x → Lanes (λ b. o % 64 ⊆ b) y
      → Lanes (λ b. InCube z o (64 * w + b)) (x ∩ y)
  cube_some x y n s p q =
      lanes_iff (λ b l. (
        λ r. (cube_parts z o w b l).1 (record { apart = n; within = s }, record { apart = r.0; within = r.1 }),
        λ c. let d = ((cube_parts z o w b l).0 c).1 in (d.apart, d.within),
      )) (lanes_and p q)

  pub cube_meets : Meets (z / 64) w → Lanes (λ b. InCube z o (64 * w + b)) ∅
  cube_meets m = lanes_none (λ b l c. ((cube_parts z o w b l).0 c).0.apart m)

  pub cube_lacks : (o / 64 ⊆ w → ⊥) → Lanes (λ b. InCube z o (64 * w + b)) ∅
  cube_lacks n = lanes_none (λ b l c. n ((cube_parts z o w b l).0 c).0.within)

-- with nothing to be apart from
pub having : (o w : ℕ) {x : ℕ} → Lanes (λ b. InCube ∅ o (64 * w + b)) x → Lanes (λ b. o ⊆ 64 * w + b) x
having o w = lanes_iff (λ b l. (λ c. c.within, λ s. record { apart = λ m. ∈-∅ m.left; within = s }))
