-- One set more: what the planes and the table say of the numbers of the words before w, where S says for which numbers the set is stable. Assumes nothing.
use Rattle.std.specs.Prelude.{ℕ, ◌+◌, ◌*◌, ◌/◌, ◌%◌, ◌≤◌, ◌<◌, ◌≡◌, refl, List, ◌↔◌, length, get_or}
use Rattle.std.proofs.Common.{sym, ap, ◌∙◌, subst, inl, inr, ⊎_elim, arith, not-suc-le-zero}
use Rattle.sets.specs.Decides.{decided, dec_eq}
use Rattle.sets.specs.Sets.{◌∈◌, ◌⊆◌}
use Rattle.lanes.specs.Planes.{◌in_plane◌, Word}
use Rattle.lanes.specs.declared.noted.Entry.{Entry}
use Rattle.lanes.specs.Noted.{entry_at, Noted, noted_iff, noted-none, noted_join}
use Rattle.lanes.specs.Step.{WordNoted}
use Rattle.search.specs.Tried.{Tried}

-- for the words before w
module _ (S : ℕ → Type 0) (i needed : ℕ) where
  pub record NotedUntil (w : ℕ) (active : List ℕ) (table : List Entry) (active' : List ℕ) (table' : List Entry) : Type 0 where
    pub long : length active' ≡ length active
    pub others : {v : ℕ} → w ≤ v → get_or active' v 0 ≡ get_or active v 0
    pub left : {g : ℕ} → g / 64 < w → g in_plane active' ↔ ((g in_plane active) × (S g → needed ⊆ g))
    pub entries : Noted (λ g. (g / 64 < w) × (g in_plane active) × S g × (needed ⊆ g)) i table table'

-- what is in a plane depends on its word alone
same_word : (g : ℕ) {l m : List ℕ} → get_or l (g / 64) 0 ≡ get_or m (g / 64) 0 → g in_plane l → g in_plane m
same_word g e p = record { held = subst (λ z. g % 64 ∈ z) e p.held }

-- what a word says of one of its numbers
of_word : (P : ℕ → Type 0) {x : ℕ} (g w : ℕ) → g / 64 ≡ w → Word P w x → g % 64 ∈ x ↔ P g
of_word P {x} g w e q =
    let n : 64 * w + g % 64 ≡ g = omega arith in
    subst (λ z. g % 64 ∈ x ↔ P z) n (q.lane {b = g % 64} (omega arith))

module _ (S : ℕ → Type 0) (i needed : ℕ) (active : List ℕ) (table : List Entry) where
  pub until_first : NotedUntil S i needed 0 active table active table
  until_first = record {
    long = refl;
    others = λ k. refl;
    left = λ k. absurd (not-suc-le-zero k);
    entries = noted-none i (λ g p. not-suc-le-zero p.0);
  }

  pub until_last : {w : ℕ} {a : List ℕ} {t : List Entry} → w ≡ length active → NotedUntil S i needed w active table a t → Tried S i needed active table a t
  until_last e u = record {
    long = u.long;
    left = λ {g} k. u.left (omega arith);
    entries = noted_iff (λ g. (λ p. (omega (arith, p.0), p.1, p.2, p.3), λ p. (omega (arith, p.0), p.1, p.2, p.3))) u.entries;
  }

  pub until_next : {w stable : ℕ} {a b : List ℕ} {t s : List Entry} → Word S w stable → NotedUntil S i needed w active table a t → WordNoted w stable i needed a t b s
      → NotedUntil S i needed (w + 1) active table b s
  until_next {w} {stable} {a} {b} {t} {s} x u n = record {
    long = n.long ∙ u.long;
    others = λ {v} k. n.others (λ e. omega arith) ∙ u.others (omega arith);
    left = λ {g} k.
        ⊎_elim (λ e. here g e) (λ e. let f = u.left {g = g} (omega arith) in
        let same = n.others {v = g / 64} e in (λ p. f.0 (same_word g same p), λ p. same_word g (sym same) (f.1 p)))
        (decided (dec_eq (g / 64) w));
    entries = noted_iff (λ g. (
      ⊎_elim (λ p. (omega (arith, p.0), p.1, p.2, p.3))
          (λ p. let e = p.0 in (omega arith, same_word g (u.others (omega arith)) p.1, (of_word S g w e x).0 p.2, p.3)),
      λ p. ⊎_elim (λ e. inr (e, same_word g (sym (u.others (omega arith))) p.1, (of_word S g w e x).1 p.2, p.3))
          (λ e. inl (omega (arith, p.0), p.1, p.2, p.3)) (decided (dec_eq (g / 64) w)),
    )) (noted_join (λ g p q. absurd (omega (arith, p.0, q.0))) u.entries n.entries);
  }
    where
      -- a number of the word
      here : (g : ℕ) → g / 64 ≡ w → g in_plane b ↔ ((g in_plane active) × (S g → needed ⊆ g))
      here g e =
          let f = of_word (λ h. (h in_plane a) × (h % 64 ∈ stable → needed ⊆ h)) g w e n.left in
          let y = of_word S g w e x in
          let same = u.others {v = g / 64} (omega arith) in (
            λ p. let (q, h) = f.0 (subst (λ z. g % 64 ∈ get_or b z 0) e p.held) in (same_word g same q, λ k. h (y.1 k)),
            λ p. record { held = subst (λ z. g % 64 ∈ get_or b z 0) (sym e) (f.1 (same_word g (sym same) p.0, λ k. p.1 (y.0 k))) },
          )

  -- the counts of the words to come still have room
  pub until_room : {w : ℕ} {a : List ℕ} {t : List Entry} → NotedUntil S i needed w active table a t → ((g : ℕ) → g in_plane active → (entry_at table g).sets < 65535)
      → (b : ℕ) → b < 64 → b ∈ get_or a w 0 → (entry_at t (64 * w + b)).sets < 65535
  until_room {w} {a} {t} u f b l m =
      let q : (64 * w + b) / 64 ≡ w = omega arith in
      let r : (64 * w + b) % 64 ≡ b = omega arith in
      let e = ap (λ (x : Entry). x.sets) (u.entries.kept {g = 64 * w + b} (λ p. absurd (omega (arith, p.0)))) in
      omega (arith, e, f (64 * w + b) (record { held = rw (q, r) (subst (λ z. b ∈ z) (u.others (omega arith)) m) }))
