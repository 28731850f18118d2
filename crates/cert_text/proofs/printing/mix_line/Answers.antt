use Rattle.std.proofs.Common.{◌≡◌, ◌++◌, [], ◌∷◌, ◌∙◌, sym, ap, map, pos, codes, refl, append_assoc, List, ℕ, ℤ, flat_map}
use Rattle.std.specs.Fmt.{decimal, signed_decimal}
use Rattle.std.specs.String.{string_bytes}
use Rattle.std.proofs.lemmas.Result.{IfOk-weaker}
use Rattle.scaled_num.specs.Sums.{below}
use Rattle.belief.specs.Mixes.{mix_at}
use Rattle.text_words.proofs.Grown.{line-made, pieces-map, pushed}
use Rattle.cert_text.proofs.printing.mix_line.Goals as goal

pub returns : goal.returns
unfolding lib.Utf8.encode
returns c =
    let m = c.args.mixes.now in
    let s = c.args.s in
    let old = string_bytes c.args.text.now in
    let words = string_bytes c.weights.new.text in
    let spaced : ℤ → List ℕ = λ z. 32 ∷ signed_decimal z in
    let weights = flat_map (λ k. spaced (mix_at m s k)) (below m.actions) in
    let wrote : words ≡ (old ++ codes "mix") ++ flat_map spaced (pos s ∷ map (mix_at m s) (below m.actions)) =
    c.in_ok-weights.ensures
    ∙ ap (λ (l : List ℕ). l ++ weights) c.in_ok-write.ensures.bytes
    ∙ append_assoc old (codes "mix " ++ decimal s) weights
    ∙ ap (λ (l : List ℕ). old ++ (codes "mix" ++ (32 ∷ (decimal s ++ l)))) (sym (pieces-map spaced (mix_at m s) (below m.actions)))
    ∙ sym (append_assoc old (codes "mix") (flat_map spaced (pos s ∷ map (mix_at m s) (below m.actions)))) in
    let made = line-made signed_decimal (codes "mix") (pos s ∷ map (mix_at m s) (below m.actions)) old (old ++ codes "mix") words refl wrote in
    IfOk-weaker c.push.result _ _ (λ u h. h ∙ made) (pushed c.push.result (string_bytes c.push.new.self) (words ++ 10 ∷ []) words c.push.ensures.bytes)
