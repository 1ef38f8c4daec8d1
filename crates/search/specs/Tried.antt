-- A set that was tried for all numbers at once, where S says for which it is stable. Assumes nothing.
use Rattle.std.specs.Prelude.{ℕ, ◌*◌, ◌<◌, ◌≡◌, refl, List, ◌↔◌, length}
use Rattle.sets.specs.Sets.{◌⊆◌}
use Rattle.lanes.specs.Planes.{◌in_plane◌}
use Rattle.lanes.specs.declared.noted.Entry.{Entry}
use Rattle.lanes.specs.Noted.{Noted, noted_iff, noted-none}

-- of the active numbers for which the set i is stable, those that lack something it needs leave, and the others take it in
pub record Tried (S : ℕ → Type 0) (i needed : ℕ) (active : List ℕ) (table : List Entry) (active' : List ℕ) (table' : List Entry) : Type 0 where
  pub long : length active' ≡ length active
  pub left : {g : ℕ} → g < 64 * length active → g in_plane active' ↔ ((g in_plane active) × (S g → needed ⊆ g))
  pub entries : Noted (λ g. (g < 64 * length active) × (g in_plane active) × S g × (needed ⊆ g)) i table table'

-- by T, where it says the same as S of the active numbers
pub tried_iff : {S T : ℕ → Type 0} {i needed : ℕ} {active active' : List ℕ} {table table' : List Entry} → ((g : ℕ) → g < 64 * length active → g in_plane active → S g ↔ T g)
    → Tried S i needed active table active' table' → Tried T i needed active table active' table'
tried_iff f t = record {
  long = t.long;
  left = λ {g} h. (
    λ m. let (a, k) = (t.left h).0 m in (a, λ y. k ((f g h a).1 y)),
    λ p. (t.left h).1 (p.0, λ y. p.1 ((f g h p.0).0 y)),
  );
  entries = noted_iff (λ g. (λ p. (p.0, p.1, (f g p.0 p.1).0 p.2, p.3), λ p. (p.0, p.1, (f g p.0 p.1).1 p.2, p.3))) t.entries;
}

-- where it is stable for none, all stays
pub tried_none : {S : ℕ → Type 0} (i needed : ℕ) (active : List ℕ) (table : List Entry) → ((g : ℕ) → S g → ⊥) → Tried S i needed active table active table
tried_none i needed active table f = record {
  long = refl;
  left = λ {g} h. (λ a. (a, λ y. absurd (f g y)), λ p. p.0);
  entries = noted-none i (λ g p. f g p.2);
}
