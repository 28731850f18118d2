-- A solver that has a last dictionary has run, and its tableau stands.
use Rattle.std.proofs.Common.{◌≡◌, ◌+◌, ◌<◌, ◌*ℤ◌, ℕ, ℤ, Bool, true, false, cond, Option, Some, None, IsSome, IfSome, refl, sym, subst, ap, ◌∙◌, length, inl, inr, arith}
use Rattle.simplex.specs.Dictionary.{Dictionary}
use Rattle.simplex.specs.Program.{at, row_count, variable_count}
use Rattle.simplex.specs.Reading.{IsLowest, IsPrice, IsDual}
use Rattle.simplex.specs.Tableau.{IsStanding}
use Rattle.simplex.specs.CostForm.{CostForm}
use Rattle.simplex.specs.Forms.{with_goal}

pub has_run_of : (b : Bool) (d : Dictionary) (o : Option Dictionary) → cond b (Some d) None ≡ o → IsSome o → b ≡ true
has_run_of true d o e h = refl
has_run_of false d o e h = subst IsSome (sym e) h

-- what is said of the last dictionary, once the solver has run
pub said : (P : Dictionary → Type 0) (b : Bool) (d : Dictionary) (o : Option Dictionary) → cond b (Some d) None ≡ o → IsSome o → IfSome o P → P d
said P true d o e h p = subst (λ (x : Option Dictionary). IfSome x P) (sym e) p
said P false d o e h p = absurd (let bad : false ≡ true = subst IsSome (sym e) h in (cc))

pub say : (P : Dictionary → Type 0) (b : Bool) (d : Dictionary) (o : Option Dictionary) → cond b (Some d) None ≡ o → P d → IfSome o P
say P true d o e p = subst (λ (x : Option Dictionary). IfSome x P) e p
say P false d o e p = subst (λ (x : Option Dictionary). IfSome x P) e tt

-- the price of a row is one number
price_once : (d : CostForm) (row : ℕ) (a b : ℤ) → IsStanding d → row < length d.basic → IsPrice (with_goal d) row a → IsPrice (with_goal d) row b → a ≡ b
price_once d row a b s rl h k =
    let parted = s.dictionary.parted in
    let bl : length d.basic ≡ row_count s.p = parted.basic_long in
    let ol : length d.out ≡ variable_count s.p = parted.out_long in
    elim (parted.found (length d.out + row) (omega arith)) [
      | inl (t, tl, e) ↦ h.basic t (omega arith) e ∙ sym (k.basic t (omega arith) e)
      | inr (q, ql, e) ↦ h.out q (omega arith) e ∙ sym (k.out q (omega arith) e)
    ]

pub dual_of : (d : CostForm) (row : ℕ) (price lead num den : ℤ) → IsStanding d → row < length d.basic → IsPrice (with_goal d) row price → lead ≡ at (with_goal d).goal 0 → IsLowest num den → num *ℤ lead ≡ price *ℤ den
    → IsDual (with_goal d) row num den
dual_of d row price lead num den s rl h is low e = record {
  lowest = low;
  price = λ other k. ap (λ (y : ℤ). num *ℤ y) (sym is) ∙ e ∙ ap (λ (y : ℤ). y *ℤ den) (price_once d row price other s rl h k);
}
