use Rattle.std.proofs.Common.{◌≡◌, ◌∙◌, ℕ, List, true, false, ◌==◌, ap, arith, length, rules, sym}
use Rattle.std.specs.List.{list_any}
use Rattle.stage_game.specs.Chosen.{is_among}
use Rattle.stage_game.proofs.Choosing.{among-any, chosen-full, chosen-new, chosen-there}
use Rattle.stage_game.proofs.choices.prefer.Goals as goal

pub returns-then-len-most : goal.returns-then-len-most
returns-then-len-most c =
    let count : c.args.kept.now.len ≡ length c.args.kept.now.items = search rules in
    chosen-full c.args.most c.args.kept.now.items c.args.k (omega (arith, c.if-len-most.true, c.len.ensures, count))

pub returns-then-contains : goal.returns-then-contains
returns-then-contains c =
    let count : c.args.kept.now.len ≡ length c.args.kept.now.items = search rules in
    let there : is_among c.args.k c.args.kept.now.items ≡ true = sym (among-any c.args.k c.args.kept.now.items) ∙ ap (λ (xs : List ℕ). list_any (λ y. y == c.args.k) xs) (sym c.deref.ensures.value) ∙ sym c.contains.ensures.value ∙ c.if-contains.true in
    chosen-there c.args.most c.args.kept.now.items c.args.k there (omega (arith, c.if-len-most.false, c.len.ensures, count))

pub returns : goal.returns
returns c =
    let count : c.args.kept.now.len ≡ length c.args.kept.now.items = search rules in
    let other : is_among c.args.k c.args.kept.now.items ≡ false = sym (among-any c.args.k c.args.kept.now.items) ∙ ap (λ (xs : List ℕ). list_any (λ y. y == c.args.k) xs) (sym c.deref.ensures.value) ∙ sym c.contains.ensures.value ∙ c.if-contains.false in
    λ seen e. c.in_ok-push.ensures.items ∙ chosen-new c.args.most c.args.kept.now.items c.args.k other (omega (arith, c.if-len-most.false, c.len.ensures, count)) seen e
