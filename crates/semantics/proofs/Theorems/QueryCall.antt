-- What the query returns: refusal 10, exactly when; otherwise the answer for the setting. Assumes nothing.
use Rattle.std.specs.Prelude.{ℕ, ◌≡◌, ◌↔◌, ◌⊎◌}
use Rattle.std.proofs.Math.Path.{ap}
use Rattle.semantics.specs.Definitions.Setting.{Setting}
use Rattle.semantics.specs.Definitions.Returned.{Returned, accepted, refusal, answer}
use Rattle.semantics.specs.Definitions.Query.{Answer, query}
use Rattle.semantics.specs.Definitions.Calls.{for_atom, query_call}
use Rattle.semantics.specs.Theorems.Returned.{answer_accepted, answer_refused}
use Rattle.semantics.proofs.Theorems.Source.{below_accepted, below_refused}
use Rattle.semantics.specs.Theorems.QueryCall.{AtomOf, NoAtom}

module _ (from : Returned Setting) (a : ℕ) where
  pub for_atom_accepted : (s : Setting) → for_atom from a ≡ accepted s ↔ AtomOf from a s
  unfolding for_atom
  for_atom_accepted = below_accepted (λ s. s.atoms) 10 from a

  -- refused: the source is, or the atom is not below the atom count
  pub for_atom_refused : (number place : ℕ) → for_atom from a ≡ refusal number place ↔ ((from ≡ refusal number place) ⊎ NoAtom from a number place)
  unfolding for_atom
  for_atom_refused = below_refused (λ s. s.atoms) 10 from a

  pub query_refused : (number place : ℕ) → query_call from a ≡ refusal number place ↔ (for_atom from a ≡ refusal number place)
  unfolding query_call
  query_refused number place = (answer_refused (λ s. query s a) (for_atom from a), ap (answer (λ s. query s a)))

  pub query_is : {s : Setting} → AtomOf from a s → query_call from a ≡ accepted (query s a)
  unfolding query_call
  query_is {s} h = ap (answer (λ s. query s a)) ((for_atom_accepted s).1 h)

  pub is_query : {q : Answer} → query_call from a ≡ accepted q → (s : Setting) × AtomOf from a s × (query s a ≡ q)
  unfolding query_call
  is_query e =
      let (s, d, f) = answer_accepted (λ s. query s a) (for_atom from a) e in
      (s, (for_atom_accepted s).0 d, f)
