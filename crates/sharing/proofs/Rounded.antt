-- A round, turn by turn. Assumes nothing.
use Prim.Native.Nat.{ℕ, zero, suc, ◌+◌, ◌≤◌, ◌<◌}
use mathlib.Core.Path.{◌≡◌, refl, sym, ap, ◌∙◌, subst}
use mathlib.Core.List.{List, [], ◌∷◌}
use mathlib.Core.Logic.{◌⊎◌, inl, inr, ⊎_elim}
use native.Mathlib.Omega.{arith}
use lib.ListN.{length, get_or, take}
use Rattle.sets.specs.Decides.{decided, dec_eq}
use Rattle.semantics.specs.Definitions.Sharing.{tests_of, in_all}
use Rattle.source.specs.Sources.{Source}
use Rattle.listing.specs.declared.paused.Paused.{Paused}
use Rattle.listing.specs.Pauses.{fresh}
use Rattle.sharing.specs.Held.{unread, Goes, Has, setting_at, AllGo, HasAt, Near, spent_in, Kept, Turned, Rounded}

pub take_few : (t : ℕ) (l : List ℕ) → length (take t l) ≤ t
take_few zero l = omega arith
take_few (suc t) [] = omega arith
take_few (suc t) (x ∷ l) = omega (arith, take_few t l)

pub few_tests : {t tests : ℕ} (l : List ℕ) → (tests ≤ length (take t l)) × (length (take t l) ≤ tests + 1) → tests ≤ t
few_tests {t} l near = omega (arith, near.0, take_few t l)

-- the first p have had their turn
pub record RoundedTo (sources : List Source) (words : List (List ℕ)) (order : List ℕ) (n t p : ℕ) (states₀ states : List Paused) (programs records₀ records : List (List ℕ)) : Type 0 where
  pub go : AllGo sources words order n states programs records
  pub have : (q : ℕ) → q < p → HasAt sources words t states records q
  pub others : Kept fresh (λ q. p ≤ q) states₀ states
  pub other_records : Kept [] (λ q. p ≤ q) records₀ records

module _ (sources : List Source) (words : List (List ℕ)) (order : List ℕ) (n t : ℕ) (states₀ : List Paused) (records₀ : List (List ℕ)) where
  pub round-first : (programs : List (List ℕ)) → AllGo sources words order n states₀ programs records₀ → RoundedTo sources words order n t 0 states₀ states₀ programs records₀ records₀
  round-first programs go = record {
    go = go;
    have = λ q h. absurd (omega (arith, h));
    others = λ q h. refl;
    other_records = λ q h. refl;
  }

  module _ (p : ℕ) (states : List Paused) (programs records : List (List ℕ)) (h : RoundedTo sources words order n t p states₀ states programs records₀ records) where
    -- the sheet whose turn it is
    pub near_at : Near sources words n t states₀ → p < n
        → ((get_or states p fresh).tally.tested ≤ length (take t (tests_of (setting_at sources words p)))) × (length (take t (tests_of (setting_at sources words p))) ≤ (get_or states p fresh).tally.tested + 1)
    near_at near b =
        let same = ap (λ z. z.tally.tested) (h.others p (omega arith)) in
        (omega (arith, same, (near p b).0), omega (arith, same, (near p b).1))

    -- after its turn
    module _ (states' : List Paused) (programs' records' : List (List ℕ)) (d : Turned sources words order p t states states' programs programs' records records') where
      keeps : (q : ℕ) → (q ≡ p → ⊥) → (P : Paused → List ℕ → Type 0) → P (get_or states q fresh) (get_or records q []) → P (get_or states' q fresh) (get_or records' q [])
      keeps q e P x = subst (λ z. P z (get_or records' q [])) (sym (d.other_states q e)) (subst (λ z. P (get_or states q fresh) z) (sym (d.other_records q e)) x)

      pub round-more : RoundedTo sources words order n t (p + 1) states₀ states' programs' records₀ records'
      round-more = record {
        go = λ q b.
            ⊎_elim
            (λ e. subst (λ z. Goes (get_or sources z unread) (get_or words z []) order (get_or states' z fresh) (get_or programs' z []) (get_or records' z [])) (sym e) d.goes)
            (λ e.
            keeps q e (λ z r. Goes (get_or sources q unread) (get_or words q []) order z (get_or programs' q []) r)
            (subst (λ z. Goes (get_or sources q unread) (get_or words q []) order (get_or states q fresh) z (get_or records q [])) (sym (d.other_programs q e)) (h.go q b)))
            (decided (dec_eq q p));
        have = λ q b.
            ⊎_elim (λ e. subst (λ z. HasAt sources words t states' records' z) (sym e) d.has)
            (λ e. keeps q e (λ z r. Has (setting_at sources words q) t z r) (h.have q (omega (arith, b, e))))
            (decided (dec_eq q p));
        others = λ q b. d.other_states q (λ e. omega (arith, b, e)) ∙ h.others q (omega (arith, b));
        other_records = λ q b. d.other_records q (λ e. omega (arith, b, e)) ∙ h.other_records q (omega (arith, b));
      }

    -- the end of the round, with so many tests left
    pub rounded : (allowed left : ℕ) → length states ≡ length states₀ → p ≤ n → spent_in states + left ≡ spent_in states₀ + allowed → (p ≡ n) ⊎ (left ≡ 0)
        → Rounded sources words order n t allowed states₀ states programs records₀ records
    rounded allowed left long within all end = record {
      long = long;
      turned = p;
      within = within;
      go = h.go;
      have = h.have;
      others = h.others;
      other_records = h.other_records;
      few = omega (arith, all);
      ended = ⊎_elim inl (λ e. inr (omega (arith, all, e))) end;
    }

-- ---- four listings
pub four_are : (l : List Paused) → length l ≡ 4 → l ≡ get_or l 0 fresh ∷ get_or l 1 fresh ∷ get_or l 2 fresh ∷ get_or l 3 fresh ∷ []
four_are [] e = absurd (omega (arith, e))
four_are (a ∷ []) e = absurd (omega (arith, e))
four_are (a ∷ b ∷ []) e = absurd (omega (arith, e))
four_are (a ∷ b ∷ c ∷ []) e = absurd (omega (arith, e))
four_are (a ∷ b ∷ c ∷ d ∷ []) e = refl
four_are (a ∷ b ∷ c ∷ d ∷ x ∷ l) e = absurd (omega (arith, e))

pub four_spent : (l : List Paused) → length l ≡ 4
    → spent_in l ≡ (get_or l 0 fresh).tally.tested + (get_or l 1 fresh).tally.tested + (get_or l 2 fresh).tally.tested + (get_or l 3 fresh).tally.tested
unfolding in_all
four_spent l e = ap spent_in (four_are l e) ∙ omega arith
