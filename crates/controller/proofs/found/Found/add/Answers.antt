use Rattle.std.proofs.Common.{◌≡◌, ℕ, false, true, List, [], ◌∷◌, ◌++◌, set, sym, subst, ◌∙◌}
use Rattle.std.proofs.lemmas.List.{get_or_default}
use Rattle.controller.specs.Reached.{ListsAlso, flag_at}
use Rattle.controller.proofs.Reaching.{find, find-none}
use Rattle.controller.proofs.found.Found.add.Goals as goal

pub returns-then-index : goal.returns-then-index
returns-then-index c =
    let marked : flag_at c.args.self.now.flags.items c.args.j ≡ true = get_or_default c.args.self.now.flags.items c.args.j false c.index.result.now c.requires.inside ∙ sym c.index.ensures ∙ c.if-index.true in
    find-none c.args.self.now.flags.items c.args.self.now.numbers.items (λ (i : ℕ). i ≡ c.args.j) c.requires.found (λ i e. subst (λ (k : ℕ). flag_at c.args.self.now.flags.items k ≡ true) (sym e) marked)

pub returns : goal.returns
returns c =
    let before : List ℕ = c.args.self.now.numbers.items in
    let pushed : c.push.new.self.items ≡ before ++ c.args.j ∷ [] = cc (c.in_ok-push.ensures.items) in
    let free : flag_at c.args.self.now.flags.items c.args.j ≡ false = get_or_default c.args.self.now.flags.items c.args.j false c.index.result.now c.requires.inside ∙ sym c.index.ensures ∙ c.if-index.false in
    subst (λ (xs : List ℕ). ListsAlso c.args.self.now.flags.items before (set c.args.self.now.flags.items c.args.j true) xs (λ (i : ℕ). i ≡ c.args.j)) (sym pushed)
    (find c.args.self.now.flags.items before c.args.j c.requires.found c.requires.inside free)
