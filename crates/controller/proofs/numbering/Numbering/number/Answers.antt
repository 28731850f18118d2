use Rattle.std.proofs.Common.{◌≡◌, ◌∙◌, ◌<◌, ap, arith, get_or, length, rules, sym, subst}
use Rattle.std.specs.Prelude.{ℕ, Bool, List}
use Rattle.std.proofs.lemmas.List.{get_or_default}
use Rattle.std.proofs.lemmas.List.FromFn.{get_or-map-range_with_len, length-map-range_with_len}
use Rattle.controller.specs.Export.{new_number}
use Rattle.controller.specs.Reached.{flag_at, new_numbers}
use Rattle.controller.proofs.numbering.Numbering.number.Goals as goal

same-number : (flags : List Bool) (numbers : List ℕ) (j x : ℕ) → numbers ≡ new_numbers flags → j < length flags → x ≡ get_or numbers j x → x ≡ new_number (flag_at flags) j
same-number flags numbers j x e l is =
    let inside : j < length numbers = subst (λ (n : ℕ). j < n) (sym (long flags numbers e)) l in
    is ∙ get_or_default numbers j x 0 inside ∙ ap (λ (xs : List ℕ). get_or xs j 0) e ∙ get_or-map-range_with_len (new_number (flag_at flags)) 0 (length flags) j j 0 l (omega arith)
  where
    long : (flags : List Bool) (numbers : List ℕ) → numbers ≡ new_numbers flags → length numbers ≡ length flags
    long flags numbers e = ap length e ∙ length-map-range_with_len (new_number (flag_at flags)) 0 (length flags)

inside : (c : goal.After-self) → c.args.j < length c.self.inside.numbers.items
inside c =
    let view : c.self.inside.kept.items ≡ c.args.self.now = c.self.view_is in
    let numbers : c.self.inside.numbers.items ≡ new_numbers c.self.inside.kept.items = c.self.invariant in
    let long : length c.self.inside.numbers.items ≡ length c.args.self.now = ap length numbers ∙ length-map-range_with_len (new_number (flag_at c.self.inside.kept.items)) 0 (length c.self.inside.kept.items) ∙ ap length view in
    subst (λ (n : ℕ). c.args.j < n) (sym long) c.requires

pub index-requires : goal.index-requires
index-requires c = let here = inside c in search (rules, here)

pub returns : goal.returns
returns c =
    let view : c.self.inside.kept.items ≡ c.args.self.now = c.self.view_is in
    subst (λ (flags : List Bool). c.index.result.now ≡ new_number (flag_at flags) c.args.j) view
    (same-number c.self.inside.kept.items c.self.inside.numbers.items c.args.j c.index.result.now c.self.invariant (subst (λ (flags : List Bool). c.args.j < length flags) (sym view) c.requires) c.index.ensures)
