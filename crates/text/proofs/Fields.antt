-- A line, field by field. Assumes nothing.
use Prim.Native.Nat.{ℕ}
use mathlib.Core.Path.{◌≡◌, refl, sym, ap, ◌∙◌}
use mathlib.Core.List.{List, [], ◌∷◌, ◌++◌, append-nil, append_assoc}
use native.Mathlib.Omega.{arith}
use Rattle.sets.specs.Lists.{flat}
use Rattle.semantics.specs.Definitions.Program.{line}
use Rattle.text.specs.Appended.{Appended, Counts}
use Rattle.text.specs.Lines.{Holds}
use Rattle.text.proofs.Append.{and_then, same_text, counts}

-- each field after a space
abbrev pub spaced : List (List ℕ) → List ℕ
spaced fs = flat (λ f. 32 ∷ f) fs

spaced-append : (fs gs : List (List ℕ)) → spaced (fs ++ gs) ≡ spaced fs ++ spaced gs
unfolding flat
spaced-append [] gs = refl
spaced-append (f ∷ fs) gs = ap (λ z. 32 ∷ f ++ z) (spaced-append fs gs) ∙ sym (append_assoc (32 ∷ f) (spaced fs) (spaced gs))

-- a whole line
module _ {text l m : List ℕ} {r : ℕ} where
  pub whole : Appended 0 text l m r → Counts r m × Holds text l m r
  whole p = (counts (omega arith) p, record { front = p.front; rest = p.rest })

  pub same_line : {text' : List ℕ} → text ≡ text' → Holds text l m r → Holds text' l m r
  same_line e h = record { front = h.front ∙ e; rest = h.rest }

-- the first field, and others after it
pub record Begun (first : List ℕ) (others : List (List ℕ)) (before after : List ℕ) (r : ℕ) : Type 0 where
  pub text : Appended 0 (first ++ spaced others) before after r

module _ {first l m : List ℕ} {r : ℕ} where
  pub begin : Appended 0 first l m r → Begun first [] l m r
  unfolding flat
  begin p = record { text = same_text (sym (append-nil first)) p }

module _ {first l m o : List ℕ} {others : List (List ℕ)} {r r' : ℕ} (b : Begun first others l m r) where
  more : (gs : List (List ℕ)) → Appended r (spaced gs) m o r' → Begun first (others ++ gs) l o r'
  more gs p =
      let e = append_assoc first (spaced others) (spaced gs) ∙ ap (λ z. first ++ z) (sym (spaced-append others gs)) in
      record { text = same_text e (and_then b.text p) }

  pub one_more : {f : List ℕ} → Appended r (32 ∷ f) m o r' → Begun first (others ++ f ∷ []) l o r'
  unfolding flat
  one_more {f} p = more (f ∷ []) (same_text (sym (append-nil (32 ∷ f))) p)

  pub finish : Appended r (10 ∷ []) m o r' → Counts r' o × Holds (line first others) l o r'
  finish p = whole (and_then b.text p)
