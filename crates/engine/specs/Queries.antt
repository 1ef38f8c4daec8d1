-- What the call `query` answers, read over the guesses and all world views. Assumes nothing.
use Rattle.std.specs.Prelude.{ℕ, ◌≤◌, ◌≡◌, refl, ◌↔◌}
use Rattle.std.proofs.Common.{sym, ap, ◌∙◌, inl, inr}
use Rattle.semantics.specs.Definitions.Setting.{Setting}
use Rattle.semantics.specs.Definitions.Returned.{Returned, accepted, refusal}
use Rattle.semantics.specs.Definitions.Query as asks
use Rattle.semantics.specs.Definitions.Calls.{for_atom, query_call}
use Rattle.semantics.specs.Theorems.WorldView.{SomeView, NoneVerifiable}
use Rattle.semantics.specs.Theorems.Query.{KnownInAll, PossibleInNone}
use Rattle.semantics.proofs.Theorems.Query.{query-none, query_yes, query_no, query_open}
use Rattle.semantics.specs.Theorems.QueryCall.{AtomOf}
use Rattle.semantics.proofs.Theorems.QueryCall.{for_atom_refused, query_refused, query_is, is_query}
use Rattle.engine.specs.declared.Queried.{Queried}
use Rattle.engine.specs.Answers.{OrRefused, queried}

-- of an atom: q is what `query` answers. The call's source is `from`: a setting, or the refusal that comes before.
pub record QueryDemand (from : Returned Setting) (a : ℕ) (q : OrRefused Queried) : Type 0 where
  -- "none" exactly when there is no world view, that is, when no guess is reduct-verifiable
  pub none_exactly : (queried q ≡ accepted asks.None) ↔ ((s : Setting) × AtomOf from a s × NoneVerifiable s)
  -- "yes" exactly if there is one and the atom is known in every one
  pub yes_exactly : (queried q ≡ accepted asks.Yes) ↔ ((s : Setting) × AtomOf from a s × (SomeView s × KnownInAll s a))
  -- otherwise "no" exactly if there is one and the atom is possible in none
  pub no_exactly : (queried q ≡ accepted asks.No) ↔ ((s : Setting) × AtomOf from a s × (SomeView s × ((KnownInAll s a → ⊥) × PossibleInNone s a)))
  -- otherwise, if there is one, "open"
  pub open_exactly : (queried q ≡ accepted asks.Open) ↔ ((s : Setting) × AtomOf from a s × (SomeView s × ((KnownInAll s a → ⊥) × (PossibleInNone s a → ⊥))))
  -- a refusal that comes before is the answer; then "10, 0" where "queried atom number not below the atom count"
  pub refused_before : (number place : ℕ) → from ≡ refusal number place → queried q ≡ refusal number place
  pub atom_refused : (s : Setting) → from ≡ accepted s → s.atoms ≤ a → queried q ≡ refusal 10 0

-- ---- proofs
-- by what the call ensures
module _ (from : Returned Setting) (a : ℕ) (q : OrRefused Queried) (answered : queried q ≡ query_call from a) where
  -- an answer exactly when what it means is so
  exactly : (v : asks.Answer) (P : Setting → Type 0) → ((s : Setting) → asks.query s a ≡ v ↔ P s)
      → (queried q ≡ accepted v) ↔ ((s : Setting) × AtomOf from a s × P s)
  exactly v P means = (
    λ e. let (s, h, d) = is_query from a (sym answered ∙ e) in (s, h, (means s).0 d),
    λ p. let (s, h, m) = p in answered ∙ query_is from a h ∙ ap accepted ((means s).1 m),
  )

  refuses : {number place : ℕ} → for_atom from a ≡ refusal number place → queried q ≡ refusal number place
  refuses e = answered ∙ (query_refused from a _ _).1 e

  pub query_demand : QueryDemand from a q
  query_demand = record {
    none_exactly = exactly asks.None NoneVerifiable (λ s. query-none s a);
    yes_exactly = exactly asks.Yes (λ s. SomeView s × KnownInAll s a) (λ s. query_yes s a);
    no_exactly = exactly asks.No (λ s. SomeView s × ((KnownInAll s a → ⊥) × PossibleInNone s a)) (λ s. query_no s a);
    open_exactly = exactly asks.Open (λ s. SomeView s × ((KnownInAll s a → ⊥) × (PossibleInNone s a → ⊥))) (λ s. query_open s a);
    refused_before = λ number place e. refuses ((for_atom_refused from a number place).1 (inl e));
    atom_refused = λ s e l. refuses ((for_atom_refused from a 10 0).1 (inr (s, e, l, refl, refl)));
  }
