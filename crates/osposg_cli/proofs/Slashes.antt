-- A text without a slash is no gap.
use Rattle.std.proofs.Common.{◌≡◌, ℕ, ◌+◌, List, [], length, drop, Option, Some, None, refl, ap, ◌∙◌, arith}
use Rattle.std.proofs.lemmas.List.{drop_all}
use Rattle.std.specs.List.{after_first, before_first, position_or_len}
use Rattle.std.specs.Option.{option_and_then, option_map}
use Rattle.osposg_cli.specs.declared.words.Gap.{Gap}
use Rattle.controller.specs.Certificates.{most_gap, most_gap_under}
use Rattle.osposg_cli.specs.Words.{digits_of, gap_of, gap_over, is_slash, number_of}

no-digits : (low high : ℕ) → number_of low high [] ≡ None
unfolding number_of digits_of
no-digits low high = refl

without : (num : Option ℕ) → option_and_then (λ num. option_map (gap_over num) None) num ≡ None
without None = refl
without (Some num) = refl

pub gap_of-none : (text : List ℕ) → position_or_len is_slash text ≡ length text → gap_of text ≡ None
unfolding gap_of
gap_of-none text e =
    let behind : after_first is_slash text ≡ [] = drop_all (position_or_len is_slash text + 1) text (omega arith) in
    ap (λ rest. option_and_then (λ num. option_map (gap_over num) (number_of 1 most_gap_under rest)) (number_of 0 most_gap (before_first is_slash text))) behind
    ∙ rw (no-digits 1 most_gap_under) (without (number_of 0 most_gap (before_first is_slash text)))
