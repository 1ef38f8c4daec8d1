-- What contradicts a guess, lane by lane. Assumes nothing.
use Rattle.std.specs.Prelude.{ℕ, ◌+◌, ◌^◌, ◌<◌, ◌≡◌, List, ◌⊎◌, get_or}
use Rattle.std.proofs.Common.{subst, inl, inr, ⊎_elim, arith, not-suc-le-zero}
use Rattle.sets.specs.Decides.{decided, dec_eq}
use Rattle.sets.specs.Sets.{◌∈◌, ◌∪◌, ∅}
use Rattle.lanes.specs.Lanes.{Lanes, lanes_iff, lanes_or, lanes_none}
use Rattle.guess.specs.declared.outline.Outline.{Outline}
use Rattle.ruling.specs.Literals.{Some, InSome, head_in, SureIn}
use Rattle.ruling.specs.declared.literals.Rows.{Rows}
use Rattle.ruling.specs.Laid.{Laid}
use Rattle.ruling.specs.Reached.{Settled}

-- of atom a: its negation is assumed and it is in `with`, or is not and it is in `without`
abbrev pub ClashAt : (assumed with without : List ℕ) (a b : ℕ) → Type 0
ClashAt assumed with without a b = ((b ∈ get_or assumed a 0) × (b ∈ get_or with a 0)) ⊎ ((b ∈ get_or without a 0) × (b ∈ get_or assumed a 0 → ⊥))

-- of some atom of the mask
abbrev pub ClashIn : (mask : ℕ) (assumed with without : List ℕ) (b : ℕ) → Type 0
ClashIn mask assumed with without = Some (ClashAt assumed with without) mask

-- one of so many rules has an empty head and is sure
module _ (words : List ℕ) where
  abbrev pub EmptyHeadIn : (rules : ℕ) (truths falsities : Rows) (b : ℕ) → Type 0
  EmptyHeadIn rules truths falsities b = (j : ℕ) × (j < rules) × (head_in words j ≡ 0) × SureIn words j truths falsities b

  module _ (truths falsities : Rows) where
    pub empty_none : Lanes (EmptyHeadIn 0 truths falsities) ∅
    empty_none = lanes_none (λ b l p. not-suc-le-zero p.1)

    module _ {j lanes : ℕ} (f : Lanes (EmptyHeadIn j truths falsities) lanes) where
      pub empty_more : {s : ℕ} → head_in words j ≡ 0 → Lanes (SureIn words j truths falsities) s → Lanes (EmptyHeadIn (j + 1) truths falsities) (lanes ∪ s)
      empty_more e s =
          lanes_iff (λ b l. (
            ⊎_elim (λ p. (p.0, omega (arith, p.1), p.2, p.3)) (λ p. (j, omega arith, e, p)),
            λ p. ⊎_elim (λ q. inr (subst (λ z. SureIn words z truths falsities b) q p.3)) (λ q. inl (p.0, omega (arith, p.1), p.2, p.3)) (decided (dec_eq p.0 j)),
          )) (lanes_or f s)

      pub empty_over : (head_in words j ≡ 0 → ⊥) → Lanes (EmptyHeadIn (j + 1) truths falsities) lanes
      empty_over n =
          lanes_iff (λ b l. (
            λ p. (p.0, omega (arith, p.1), p.2, p.3),
            λ p. (p.0, ⊎_elim (λ q. absurd (n (subst (λ z. head_in words z ≡ 0) q p.2))) (λ q. omega (arith, p.1)) (decided (dec_eq p.0 j)), p.2, p.3),
          )) f

-- ---- all tests, of T and F
module _ (x : Outline) (words u p : List ℕ) where
  -- a sure rule has an empty head, an in-atom is in F or an out-atom in T, or an atom under K or "not K", or under M or "not M", clashes
  abbrev pub OutIn : (truths falsities : Rows) (t f : List ℕ) (b : ℕ) → Type 0
  OutIn truths falsities t f b =
      EmptyHeadIn words x.rules truths falsities b
      ⊎ ((InSome x.ins f b ⊎ InSome x.outs t b) ⊎ (ClashIn x.k_atoms u t f b ⊎ ClashIn x.m_atoms p f t b))

  pub record Tested (t f : List ℕ) (lanes : ℕ) : Type 0 where
    pub truths : Rows
    pub falsities : Rows
    pub laid_t : Laid t u p 16 truths
    pub laid_f : Laid f p u 16 falsities
    pub ins_below : x.ins < 2 ^ 16
    pub outs_below : x.outs < 2 ^ 16
    pub out : Lanes (OutIn truths falsities t f) lanes

  pub tested : {truths falsities : Rows} {t f : List ℕ} {a b c d e : ℕ} → Laid t u p 16 truths → Laid f p u 16 falsities → Lanes (EmptyHeadIn words x.rules truths falsities) a
      → Lanes (InSome x.ins f) b × (x.ins < 2 ^ 16) → Lanes (InSome x.outs t) c × (x.outs < 2 ^ 16) → Lanes (ClashIn x.k_atoms u t f) d → Lanes (ClashIn x.m_atoms p f t) e
      → Tested t f (a ∪ ((b ∪ c) ∪ (d ∪ e)))
  tested {truths} {falsities} y z a b c d e = record {
    truths = truths;
    falsities = falsities;
    laid_t = y;
    laid_f = z;
    ins_below = b.1;
    outs_below = c.1;
    out = lanes_or a (lanes_or (lanes_or b.0 c.0) (lanes_or d e));
  }

  -- the lanes that the tests find, of T and F as they settle
  pub record RuledOutIn (lanes : ℕ) : Type 0 where
    pub t : List ℕ
    pub f : List ℕ
    pub settled : Settled words x.rules x.atoms u p t f
    pub tests : Tested t f lanes

  pub ruled_out : {t f : List ℕ} {lanes : ℕ} → Settled words x.rules x.atoms u p t f → Tested t f lanes → RuledOutIn lanes
  ruled_out {t} {f} s e = record { t = t; f = f; settled = s; tests = e }
