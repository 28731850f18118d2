-- Runs that are tried with fewer bits until one ends optimal, so far.
use Rattle.std.proofs.Common.{◌≡◌, ℕ, ◌++◌, List, [], ◌∷◌, refl, sym, subst, append_assoc, append-nil}
use Rattle.simplex.specs.declared.End.{End}
use Rattle.simplex.specs.declared.End.TheVariants.{Optimal, Spent, Unbounded, Wide}
use Rattle.backup.specs.Tries.{AfterEnd, AreTries, tried_bits}

after-optimal : (end : End) (last others : Type 0) → end ≡ Optimal → last → AfterEnd end last others
after-optimal end last others e h = subst (λ (e : End). AfterEnd e last others) (sym e) h

after-others : (end : End) (last others : Type 0) → (end ≡ Optimal → ⊥) → others → AfterEnd end last others
after-others Optimal last others ne h = absurd (ne refl)
after-others Spent last others ne h = h
after-others (Unbounded col) last others ne h = h
after-others (Wide row col) last others ne h = h

-- some bits were tried, and others are left: with the tries of these the tries are whole
pub record AreTried {Run : Type 0} (end : Run → End) (IsTry : ℕ → Run → Type 0) (left : List ℕ) (tries : List Run) : Type 0 where
  pub whole : (later : List Run) → AreTries end IsTry left later → AreTries end IsTry tried_bits (tries ++ later)

pub none-tried : {Run : Type 0} (end : Run → End) (IsTry : ℕ → Run → Type 0) → AreTried end IsTry tried_bits []
none-tried end IsTry = record { whole = λ later h. h }

pub tried-more : {Run : Type 0} (end : Run → End) (IsTry : ℕ → Run → Type 0) (bits : ℕ) (left : List ℕ) (tries : List Run) (run : Run) → AreTried end IsTry (bits ∷ left) tries → IsTry bits run →
    (end run ≡ Optimal → ⊥) → AreTried end IsTry left (tries ++ run ∷ [])
tried-more end IsTry bits left tries run tried is ne = record {
  whole = λ later h.
      subst (AreTries end IsTry tried_bits) (sym (append_assoc tries (run ∷ []) later))
      (tried.whole (run ∷ later) (is, after-others (end run) (later ≡ []) (AreTries end IsTry left later) ne h));
}

pub tried-last : {Run : Type 0} (end : Run → End) (IsTry : ℕ → Run → Type 0) (bits : ℕ) (left : List ℕ) (tries : List Run) (run : Run) → AreTried end IsTry (bits ∷ left) tries → IsTry bits run →
    end run ≡ Optimal → AreTries end IsTry tried_bits (tries ++ run ∷ [])
tried-last {Run} end IsTry bits left tries run tried is e =
    tried.whole (run ∷ []) (is, after-optimal (end run) (no_runs ≡ []) (AreTries end IsTry left []) e refl)
  where
    no_runs : List Run
    no_runs = []

pub tried-all : {Run : Type 0} (end : Run → End) (IsTry : ℕ → Run → Type 0) (tries : List Run) → AreTried end IsTry [] tries → AreTries end IsTry tried_bits tries
tried-all end IsTry tries tried = subst (AreTries end IsTry tried_bits) (append-nil tries) (tried.whole [] refl)
