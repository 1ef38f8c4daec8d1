-- What was read, from what a source is. Assumes nothing.
use Prim.Native.Nat.{ℕ}
use mathlib.Core.Path.{◌≡◌, subst}
use mathlib.Core.List.{List}
use Rattle.semantics.specs.Definitions.Setting.{Setting}
use Rattle.semantics.specs.Definitions.Returned.{Returned, accepted, refusal}
use Rattle.guess.specs.declared.outline.Outline.{Outline}
use Rattle.guess.specs.Programs.{setting_in, Outlines}
use Rattle.std.specs.Prelude.{Ok, Err}
use Rattle.answers.specs.Refusals.{number_of}
use Rattle.answers.specs.declared.refusal.Refusal.{Refusal}
use Rattle.source.specs.Sources.{Source, Reads, Within, Outlined}

module _ (from : Returned Setting) (words : List ℕ) where
  pub within : (r : Source) → Reads from r words → Within r
  within (Ok x) h = h.0.few_negations
  within (Err q) h = tt

  pub reads_accepted : (r : Source) {x : Outline} → Reads from r words → r ≡ Ok x → Outlines x words × (from ≡ accepted (setting_in x words))
  reads_accepted r h e = subst (λ z. Reads from z words) e h

  pub outlined : (r : Source) {x : Outline} → Reads from r words → r ≡ Ok x → Outlines x words
  outlined r h e = (reads_accepted r h e).0

  -- whatever was read
  pub outlined_so : (r : Source) → Reads from r words → Outlined r words
  outlined_so (Ok x) h = h.0
  outlined_so (Err q) h = tt

  pub reads_refused : (r : Source) {q : Refusal} → Reads from r words → r ≡ Err q → from ≡ refusal (number_of q.reason) q.place
  reads_refused r h e = subst (λ z. Reads from z words) e h
